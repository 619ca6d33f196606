-- What a registration is told of how its phaser stands.
use Rattle.std.specs.Prelude.{◌≡◌, ℕ, [], ◌∷◌, Result, Ok, Err}
use Rattle.phase_core.specs.Standings.{standing_after}
use Rattle.phase_core.specs.declared.standing.Standing.{Standing}
use Rattle.phase_history.specs.declared.refusal.NoTask.{NoTask}
use Rattle.phase_shared.specs.Phasers.{History, OthersCame}

-- events of others, and there how the phaser stands. It makes no event
pub record TellsStanding (me : ℕ) (old new : History) (standing : Standing) : Type 0 where
  pub others : OthersCame (me ∷ []) old new
  pub standing_is : standing ≡ standing_after new

-- the refusal that never comes
abbrev pub unregistered : NoTask
unregistered = record {}

-- so it is answered, and never refused
abbrev pub AnswersStanding : ℕ → History → History → Result Standing NoTask → Type 0
AnswersStanding me old new (Ok standing) = TellsStanding me old new standing
AnswersStanding me old new (Err refusal) = ⊥
