-- The scripts that a session stands for.
use Rattle.std.specs.Prelude.{◌≡◌, ℕ, List, Option, Some, None}
use Rattle.std.specs.Global.{Global}
use Rattle.phase_base.specs.Limits.{Limits}
use Rattle.phase_accum.specs.Operations.{Operation}
use Rattle.phase_accum.specs.Parcels.{StandsForSends}
use Rattle.phase_accum.specs.Sums.{sum_operation}
use Rattle.phase_accum.specs.Products.{product_operation}
use Rattle.phase_accum.specs.Leasts.{least_operation}
use Rattle.phase_accum.specs.Greatests.{greatest_operation}
use Rattle.phase_accum.specs.Anys.{any_operation}
use Rattle.phase_history.specs.Histories.{History}
use Rattle.phase_core.specs.Cores.{StandsFor}
use Rattle.phase_base.specs.declared.operation.Op.{Op}
use Rattle.phase_base.specs.declared.operation.Op.TheVariants.{Sum, Product, Least, Greatest, Any}
use Rattle.phase_replay.specs.declared.script_phaser.ScriptPhaser.{ScriptPhaser}
use Rattle.phase_replay.specs.declared.any_phaser.AnyPhaser.{AnyPhaser}
use Rattle.phase_replay.specs.declared.any_phaser.AnyPhaser.TheVariants as phaser
use Rattle.phase_replay.specs.HeldSends.{held_at}
use Rattle.phase_replay.specs.Scripts.{ScriptState, NoPhaser, OnePhaser, Held, held_by, state_after}

-- the phaser has this history, and of each task's sends it keeps what they are
pub record ScriptPhaserStandsFor {A : Type 0} (op : Operation A) (phaser : ScriptPhaser A)
    (limits : Limits) (h : History) (held : Held) : Type 0 where
  pub limits_are : phaser.core.limits ≡ limits
  pub core : StandsFor op phaser.core h
  pub holds : (task : ℕ) → StandsForSends op (held_at op phaser.held task) (held_by held task)

-- the phaser is one under the operation, and has this history and these sends
unfoldable pub AnyStandsFor : AnyPhaser → Op → Limits → History → Held → Type 0
AnyStandsFor (phaser.Sum p) Sum limits h held = ScriptPhaserStandsFor sum_operation p limits h held
AnyStandsFor (phaser.Product p) Product limits h held =
    ScriptPhaserStandsFor product_operation p limits h held
AnyStandsFor (phaser.Least p) Least limits h held =
    ScriptPhaserStandsFor least_operation p limits h held
AnyStandsFor (phaser.Greatest p) Greatest limits h held =
    ScriptPhaserStandsFor greatest_operation p limits h held
AnyStandsFor (phaser.Any p) Any limits h held = ScriptPhaserStandsFor any_operation p limits h held
AnyStandsFor p operation limits h held = ⊥

-- both have no phaser, or the phaser has the state's operation, history and sends
unfoldable pub MaybeStandsFor : Option AnyPhaser → ScriptState → Type 0
MaybeStandsFor None NoPhaser = Unit {0}
MaybeStandsFor (Some p) (OnePhaser operation limits h held) = AnyStandsFor p operation limits h held
MaybeStandsFor p state = ⊥

-- a session: where its memory comes from, and the phaser that its lines have made, where they did
pub record SessionState : Type 0 where
  pub alloc : Global
  pub phaser : Option AnyPhaser

-- the session with these
abbrev pub session_of : Global → Option AnyPhaser → SessionState
session_of alloc phaser = record { alloc = alloc; phaser = phaser }

-- the session has come as far as the state
unfoldable pub SessionStands : SessionState → ScriptState → Type 0
SessionStands session state = MaybeStandsFor session.phaser state

-- for the code: a phaser or none that some state has
abbrev pub IsSession : Option AnyPhaser → Type 0
IsSession phaser = (state : ScriptState) × MaybeStandsFor phaser state

-- the session has answered these lines of a script
abbrev pub StandsForLines : SessionState → List (List ℕ) → Type 0
StandsForLines session lines = SessionStands session (state_after lines)
