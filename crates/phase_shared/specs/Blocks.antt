-- Blocks of phases, which one call signals or waits for: what each step answers, and how the
-- history that its task has seen goes on.
use Rattle.std.specs.Prelude.{◌≡◌, ℕ, ◌+◌, ℤ, List, [], ◌∷◌, Option, Some, None, Result, length, Ok, Err}
use Rattle.phase_shared.specs.Phasers.{Limits, Entry, Operation, Parcel, Outcome, Single, GotBlock, SignalRefusal, WaitRefusal, History, stream_of, signal_reply, after_signal, wait_block_reply, after_wait_block, OthersCame, StandForLists, one_each}
use Rattle.phase_history.specs.declared.got.GotBlock.TheVariants.{Values, Ended}
use Rattle.phase_core.specs.Blocks.{written}
use Rattle.phase_shared.specs.declared.rule.Terms.{Terms}
use Rattle.phase_shared.specs.Rule.{Allows, IsGoodAt}
use Rattle.phase_shared.specs.Regs.{RegState}

-- a signal of as many phases as there are parcels: events of others, and there the definition's
-- answer, with lists of sends for which the parcels stand, one each; then the signal's event, where
-- it was accepted
pub record SignalsBlock {A : Type 0} (op : Operation A) (limits : Limits) (me : ℕ)
    (parcels : List (Parcel A)) (single : Option Single) (old new : History)
    (answer : Result ℕ SignalRefusal) : Type 0 where
  pub before : History
  pub sends : List (List ℤ)
  pub others : OthersCame (me ∷ []) old before
  pub stand : StandForLists op parcels sends
  pub seen : new ≡ after_signal answer me sends single before
  -- the same, whichever lists of sends those are
  pub reply : (lists : List (List ℤ)) → StandForLists op parcels lists
      → signal_reply limits before me lists single ≡ answer

-- a signal of these values, one a phase: events of others, and there the definition's answer; then
-- the signal's event, where it was accepted
pub record SignalsValues (limits : Limits) (me : ℕ) (values : List ℤ) (single : Option Single)
    (old new : History) (answer : Result ℕ SignalRefusal) : Type 0 where
  pub before : History
  pub others : OthersCame (me ∷ []) old before
  pub seen : new ≡ after_signal answer me (one_each values) single before
  pub reply : signal_reply limits before me (one_each values) single ≡ answer

-- a wait for as many phases as there are places, at most: events of others, and there the
-- definition's answer; then the wait's event, where it got values. They stand in the first places,
-- and what lies behind them is as it was
pub record WaitsBlock (value : List ℤ → Outcome) (limits : Limits) (me : ℕ) (old new : History)
    (old_out new_out : List Outcome) (answer : Result GotBlock WaitRefusal) : Type 0 where
  pub before : History
  pub others : OthersCame (me ∷ []) old before
  pub seen : new ≡ after_wait_block answer me before
  pub reply : wait_block_reply limits before me (length old_out) ≡ answer
  pub out : new_out ≡ written answer (stream_of value before) old_out

-- n phases further where n phases were signalled
abbrev pub phase_after_block : ℕ → Option ℕ → ℕ → ℕ
phase_after_block n (Some phase) s = s + n
phase_after_block n None s = s

-- as many phases further as values were got
abbrev pub phase_after_values : Option GotBlock → ℕ → ℕ
phase_after_values (Some (Values phase count)) w = w + count
phase_after_values (Some Ended) w = w
phase_after_values None w = w

-- where a task stands after a signal of n phases, where there was one
abbrev pub entry_after_block : ℕ → Option ℕ → Entry → Entry
entry_after_block n signalled entry =
    record entry { signal_phase = phase_after_block n signalled entry.signal_phase }

-- where a task stands after a wait for a block, where there was one
abbrev pub entry_after_values : Option GotBlock → Entry → Entry
entry_after_values got entry =
    record entry { wait_phase = phase_after_values got entry.wait_phase }

-- whatever the others do, the phaser's rule allows a signal of these parcels, a phase each
abbrev pub MaySignalBlock : {A K : Type 0} → Operation A → (K → Allows) → Terms K → RegState A K
    → List (Parcel A) → Option Single → Type 0
MaySignalBlock op allows terms reg parcels single =
    (h : History) (lists : List (List ℤ)) → IsGoodAt allows terms h
    → OthersCame (reg.number ∷ []) reg.seen h → StandForLists op parcels lists
    → allows terms.rule h reg.number lists single

-- and a signal of these values, one a phase
abbrev pub MaySignalValues : {A K : Type 0} → (K → Allows) → Terms K → RegState A K → List ℤ
    → Option Single → Type 0
MaySignalValues allows terms reg values single =
    (h : History) → IsGoodAt allows terms h → OthersCame (reg.number ∷ []) reg.seen h
    → allows terms.rule h reg.number (one_each values) single

-- an answer without what was handed back beside a refusal
abbrev pub without_lists : {X R L : Type 0} → Result X (R × L) → Result X R
without_lists (Ok answer) = Ok answer
without_lists (Err refused) = Err refused.0
