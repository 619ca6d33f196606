-- Waits for blocks, as C is told of them: the numbers of the values stand in the first places.
use Rattle.std.specs.Prelude.{◌≡◌, ℕ, ℤ, List, [], ◌∷◌, length, Result}
use Rattle.phase_base.specs.Limits.{Limits}
use Rattle.phase_accum.specs.declared.outcome.Outcome.{Outcome}
use Rattle.phase_history.specs.declared.got.GotBlock.{GotBlock}
use Rattle.phase_history.specs.declared.refusal.WaitRefusal.{WaitRefusal}
use Rattle.phase_history.specs.declared.refusal.WaitRefusal.TheVariants as wait
use Rattle.phase_history.specs.Histories.{History}
use Rattle.phase_history.specs.Phases.{stream_of}
use Rattle.phase_history.specs.Replies.{wait_block_reply, after_wait_block}
use Rattle.phase_history.specs.Others.{OthersCame}
use Rattle.phase_shared.specs.declared.tried.Tried.{Tried}
use Rattle.phase_shared.specs.Blocks.{entry_after_values}
use Rattle.handle_numbers.specs.Blocks.{numbers_after}
use Rattle.shared_handle.specs.Members.{Registration, limits_by}
use Rattle.shared_handle.specs.Calls.{IsMemberTry}

-- a wait for as many phases as there are places, at most: events of others, and there the
-- definition's answer; then the wait's event, where it got values. Their numbers stand in the first
-- places, and what lies behind them is as it was
pub record WaitsNumbers (value : List ℤ → Outcome) (limits : Limits) (me : ℕ) (old new : History)
    (old_values new_values : List ℤ) (answer : Result GotBlock WaitRefusal) : Type 0 where
  pub before : History
  pub others : OthersCame (me ∷ []) old before
  pub seen : new ≡ after_wait_block answer me before
  pub reply : wait_block_reply limits before me (length old_values) ≡ answer
  pub values_are : new_values ≡ numbers_after answer (stream_of value before) old_values

abbrev pub NumbersCall : (List ℤ → Outcome) → List ℤ → List ℤ → Registration → Registration
    → Result GotBlock (Tried WaitRefusal) → Type 0
NumbersCall value old_values new_values old new answer =
    IsMemberTry wait.NoTask entry_after_values ((new ≡ old) × (new_values ≡ old_values))
    (WaitsNumbers value (limits_by old.at) old.number old.seen new.seen old_values new_values) old
    new answer
