-- Signals with one value a phase.
use Rattle.std.proofs.Common.{◌≡◌, ℕ, ℤ, List, Option, sym, ap, subst}
use Rattle.std.specs.Prelude.{Result, Ok, Err}
use Rattle.phase_base.specs.Limits.{Limits}
use Rattle.phase_accum.specs.declared.single.Single.{Single}
use Rattle.phase_history.specs.declared.refusal.SignalRefusal.{SignalRefusal}
use Rattle.phase_shared.specs.declared.phaser.Phaser.{Phaser}
use Rattle.phase_shared.specs.declared.rule.NoRule.{NoRule}
use Rattle.phase_shared.specs.declared.tried.Tried.{Tried}
use Rattle.phase_shared.specs.declared.tried.Tried.TheVariants.{Busy, Refused}
use Rattle.phase_shared.specs.Blocks.{SignalsValues}
use Rattle.phase_shared.specs.Calls.{Tries}
use Rattle.phase_shared.specs.Regs.{RegState, phaser_lock, phaser_limits}
use Rattle.stream_members.specs.declared.refusal.PutRefusal.{PutRefusal}
use Rattle.stream_members.specs.Members.{limits_on, member_state, Puts, IsPutAnswer}

-- a signal by the limits of the phaser that the registration is on
on_its_limits : {A : Type 0} (phaser : Phaser A NoRule) (values : List ℤ) (single : Option Single)
    (old new : RegState A NoRule) (answer : Result ℕ SignalRefusal) → old.at ≡ phaser_lock phaser
    → SignalsValues (phaser_limits phaser) old.number values single old.seen new.seen answer
    → SignalsValues (limits_on old.at) old.number values single old.seen new.seen answer
on_its_limits phaser values single old new answer at =
    subst (λ (limits : Limits). SignalsValues limits old.number values single old.seen new.seen
    answer) (sym (ap limits_on at))

-- the same of a try, as it is told of values
pub puts_values : {A : Type 0} (phaser : Phaser A NoRule) (values : List ℤ)
    (single : Option Single) (old new : RegState A NoRule)
    (answer : Result ℕ (Tried SignalRefusal)) (told : Result ℕ PutRefusal)
    → old.at ≡ phaser_lock phaser
    → Tries (new ≡ old)
    (SignalsValues (phaser_limits phaser) old.number values single old.seen new.seen) answer
    → IsPutAnswer answer told → Puts values single (member_state old) (member_state new) told
puts_values phaser values single old new (Ok phase) told at call is =
    subst (Puts values single (member_state old) (member_state new)) (sym is)
    (on_its_limits phaser values single old new (Ok phase) at call)
puts_values phaser values single old new (Err Busy) told at call is =
    subst (Puts values single (member_state old) (member_state new)) (sym is)
    (ap member_state call)
puts_values phaser values single old new (Err (Refused r)) told at call is =
    subst (Puts values single (member_state old) (member_state new)) (sym is)
    (on_its_limits phaser values single old new (Err r) at call)
