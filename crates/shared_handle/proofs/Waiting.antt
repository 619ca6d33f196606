-- What waits answer.
use Rattle.std.proofs.Common.{◌≡◌, ℕ, ◌≤◌, ℤ, List, Result, Ok, length, sym, subst}
use Rattle.std.proofs.Math.Nat.{min-le_left}
use Rattle.phase_base.specs.Limits.{Limits}
use Rattle.phase_accum.specs.declared.outcome.Outcome.{Outcome}
use Rattle.phase_history.specs.declared.got.GotBlock.{GotBlock}
use Rattle.phase_history.specs.declared.got.GotBlock.TheVariants as block
use Rattle.phase_history.specs.declared.refusal.WaitRefusal.{WaitRefusal}
use Rattle.phase_history.specs.Histories.{History}
use Rattle.phase_history.proofs.BlockAnswers.{block_answers_law}
use Rattle.phase_shared.specs.declared.tried.Tried.{Tried}
use Rattle.phase_shared.specs.Blocks.{WaitsBlock}
use Rattle.phase_shared.specs.Calls.{Tries}

-- a wait gets no more values than there are places
pub few_got : (same : Type 0) (value : List ℤ → Outcome) (limits : Limits) (me : ℕ)
    (old new : History) (old_out new_out : List Outcome)
    (answer : Result GotBlock (Tried WaitRefusal)) (first many : ℕ)
    → Tries same (WaitsBlock value limits me old new old_out new_out) answer
    → answer ≡ Ok (block.Values first many) → many ≤ length old_out
few_got same value limits me old new old_out new_out answer first many call is =
    let w : WaitsBlock value limits me old new old_out new_out (Ok (block.Values first many)) =
    subst (λ (r : Result GotBlock (Tried WaitRefusal)).
    Tries same (WaitsBlock value limits me old new old_out new_out) r) is call in
    let a = block_answers_law value limits w.before me (length old_out) first many w.reply in
    subst (λ n. n ≤ length old_out) (sym a.count_is) (min-le_left (length old_out) _)
