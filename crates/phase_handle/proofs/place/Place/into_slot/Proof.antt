-- `into_slot` moves the pointer and the handle, and what they own goes with them.
use Rattle.std.proofs.Common.{refl}
use base.Logic.{emp}
use contract.Monad.{fact_i}
use Rattle.heap_slot.proofs.Moving.{moved}
use Rattle.phase_handle.proofs.PlaceSteps.{E, slots, places}
use Rattle.phase_handle.specs.contracts.place.Place.into_slot as f
use Rattle.phase_handle.specs.contracts.place.Place.into_slot.Key.{name as #self}
use Rattle.phase_handle.proofs.place.Place.into_slot.Statement.{statement}
use Rattle.phase_handle.proofs.place.Place.into_slot.Code as code

pub into_slot_spec : {M : Type 1} → statement M
into_slot_spec 𝓤 𝓛 𝓜 𝓡 wired =
    moved E places slots 𝓛 𝓜 𝓡 (f.clauses 𝓛 𝓜.mem 𝓡.returns) (λ κs a g. fact_i 𝓤 _ (emp 𝓤) refl)
    #self (code.unfolded 𝓤 𝓛.H 𝓜 𝓡 wired)
