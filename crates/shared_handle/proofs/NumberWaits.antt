-- Waits for blocks, whose values are written as numbers.
use Rattle.std.proofs.Common.{◌≡◌, ℕ, ℤ, List, ◌++◌, length, map, take, drop, sym, ◌∙◌}
use Rattle.std.specs.Prelude.{Result, Ok, Err}
use Rattle.phase_base.specs.Limits.{Limits, AreLimits}
use Rattle.phase_accum.specs.declared.outcome.Outcome.{Outcome}
use Rattle.phase_history.specs.declared.got.GotBlock.{GotBlock}
use Rattle.phase_history.specs.declared.got.GotBlock.TheVariants as block
use Rattle.phase_history.specs.declared.refusal.WaitRefusal.{WaitRefusal}
use Rattle.phase_history.specs.Histories.{History}
use Rattle.phase_history.specs.Phases.{stream_of}
use Rattle.phase_history.specs.Replies.{wait_block_reply}
use Rattle.phase_shared.specs.declared.tried.Tried.{Tried}
use Rattle.phase_shared.specs.declared.tried.Tried.TheVariants.{Busy, Refused}
use Rattle.phase_shared.specs.Blocks.{WaitsBlock}
use Rattle.phase_shared.specs.Calls.{Tries}
use Rattle.phase_history.proofs.Standstill.{limits_of}
use Rattle.handle_numbers.specs.Blocks.{numbers_after}
use Rattle.handle_numbers.specs.Numbers.{value_number}
use Rattle.handle_numbers.proofs.BlockWaits.{got_of, numbers-got}
use Rattle.shared_handle.specs.Calls.{BlockWaitCall}
use Rattle.shared_handle.specs.Members.{Registration, limits_by}
use Rattle.shared_handle.specs.NumberBlocks.{WaitsNumbers, NumbersCall}

-- the numbers of what was got are written, and else nothing is
abbrev pub Writes : {R : Type 0} → Result GotBlock R → List Outcome → List ℤ → List ℤ → Type 0
Writes (Ok (block.Values first many)) out old new =
    new ≡ map value_number (take many out) ++ drop (length (take many out)) old
Writes (Ok block.Ended) out old new = new ≡ old
Writes (Err refusal) out old new = new ≡ old

-- a wait for as many phases as there are places, or as were asked for
abbrev pub AskedAs : ℕ → ℕ → Type 0
AskedAs places asked =
    (limits : Limits) (h : History) (task : ℕ) → AreLimits limits
    → wait_block_reply limits h task places ≡ wait_block_reply limits h task asked

module _ (value : List ℤ → Outcome) (limits : Limits) (me : ℕ) (old_out new_out : List Outcome)
    (old_values new_values : List ℤ) (asked : AskedAs (length old_out) (length old_values))
    (are : AreLimits limits) where
  -- what is written, by the answer
  written_after : (answer : Result GotBlock WaitRefusal) (old new : History)
      → (w : WaitsBlock value limits me old new old_out new_out answer)
      → Writes answer new_out old_values new_values
      → new_values ≡ numbers_after answer (stream_of value w.before) old_values
  written_after (Ok (block.Values first many)) old new w writes =
      numbers-got value w.before first many new_out old_values new_values
      (got_of value limits w.before me (length old_out) first many old_out new_out w.reply w.out)
      writes
  written_after (Ok block.Ended) old new w writes = writes
  written_after (Err refusal) old new w writes = writes

  waits_numbers : (old new : History) (answer : Result GotBlock WaitRefusal)
      → WaitsBlock value limits me old new old_out new_out answer
      → Writes answer new_out old_values new_values
      → WaitsNumbers value limits me old new old_values new_values answer
  waits_numbers old new answer w writes = record {
    before = w.before;
    others = w.others;
    seen = w.seen;
    reply = sym (asked limits w.before me are) ∙ w.reply;
    values_are = written_after answer old new w writes;
  }

  -- the same of a try
  tries_numbers : (same : Type 0) (old new : History) (answer : Result GotBlock (Tried WaitRefusal))
      → Tries (same × (new_out ≡ old_out))
      (WaitsBlock value limits me old new old_out new_out) answer
      → Writes answer new_out old_values new_values
      → Tries (same × (new_values ≡ old_values))
      (WaitsNumbers value limits me old new old_values new_values) answer
  tries_numbers same old new (Ok got) call writes = waits_numbers old new (Ok got) call writes
  tries_numbers same old new (Err Busy) call writes = (call.0, writes)
  tries_numbers same old new (Err (Refused refusal)) call writes =
      waits_numbers old new (Err refusal) call writes

-- a wait for a block is one for its numbers
pub numbers_call : (value : List ℤ → Outcome) (old_out new_out : List Outcome)
    (old_values new_values : List ℤ) (m n : Registration)
    (answer : Result GotBlock (Tried WaitRefusal)) → AskedAs (length old_out) (length old_values)
    → Writes answer new_out old_values new_values → BlockWaitCall value old_out new_out m n answer
    → NumbersCall value old_values new_values m n answer
numbers_call value old_out new_out old_values new_values m n answer asked writes call = record {
  call_is = tries_numbers value (limits_by m.at) m.number old_out new_out old_values new_values
      asked (limits_of (limits_by m.at) n.seen call.stays.legal) (n ≡ m) m.seen n.seen answer
      call.call_is writes;
  stays = call.stays;
  known = call.known;
  alone = call.alone;
}
