-- Blocks of phases under the turn.
use Rattle.std.proofs.Common.{◌≡◌, ℕ, ℤ, List, length, Option, Some, refl, ap, ◌∙◌}
use Rattle.std.specs.Prelude.{Ok, Err, Result}
use Rattle.std.specs.Result.{result_ok}
use Rattle.phase_shared.specs.Phasers.{entry_of, signalled, waited, Entry, Single, GotBlock, SignalRefusal, WaitRefusal, History, members_of, after_signal, after_wait_block}
use Rattle.phase_history.specs.declared.event.Event.TheVariants.{Signalled, Waited}
use Rattle.phase_history.specs.declared.got.GotBlock.TheVariants as block
use Rattle.phase_history.proofs.MemberLemmas.{entry_of-changed_same}
use Rattle.phase_shared.specs.Rule.{Allows, Keeps}
use Rattle.phase_shared.specs.Blocks.{entry_after_block, entry_after_values}
use Rattle.phase_shared.proofs.Giving.{OwnCame, own_event}

-- ---- a signal

-- what a signal adds is its task's own
pub own_signal : (me : ℕ) (old new : History) (answer : Result ℕ SignalRefusal) (sends : List (List ℤ)) (single : Option Single)
    → OwnCame me old new → OwnCame me old (after_signal answer me sends single new)
own_signal me old new (Ok phase) sends single came = own_event me old new (Signalled me sends single) (λ t. refl) came
own_signal me old new (Err refusal) sends single came = came

-- an accepted signal keeps the phaser's rule, which allowed it
pub keeps_signal : (allows : Allows) (me : ℕ) (h : History) (answer : Result ℕ SignalRefusal) (sends : List (List ℤ)) (single : Option Single)
    → allows h me sends single → Keeps allows h → Keeps allows (after_signal answer me sends single h)
keeps_signal allows me h (Ok phase) sends single may keeps = (may, keeps)
keeps_signal allows me h (Err refusal) sends single may keeps = keeps

-- where a task stands after a signal of a block
pub member_signals_block : (me n : ℕ) (h : History) (entry : Entry) (answer : Result ℕ SignalRefusal) (sends : List (List ℤ)) (single : Option Single)
    → length sends ≡ n → entry_of (members_of h) me ≡ Some entry
    → entry_of (members_of (after_signal answer me sends single h)) me ≡ Some (entry_after_block n (result_ok answer) entry)
member_signals_block me n h entry (Ok phase) sends single long there =
    entry_of-changed_same me (signalled (length sends)) entry (members_of h) there ∙ ap (λ (k : ℕ). Some (signalled k entry)) long
member_signals_block me n h entry (Err refusal) sends single long there = there

-- ---- a wait

-- what a wait adds is its task's own
pub own_values : (me : ℕ) (old new : History) (answer : Result GotBlock WaitRefusal) → OwnCame me old new → OwnCame me old (after_wait_block answer me new)
own_values me old new (Ok (block.Values phase count)) came = own_event me old new (Waited me count) (λ t. refl) came
own_values me old new (Ok block.Ended) came = came
own_values me old new (Err refusal) came = came

-- a wait owes the phaser's rule nothing
pub keeps_values : (allows : Allows) (me : ℕ) (h : History) (answer : Result GotBlock WaitRefusal) → Keeps allows h → Keeps allows (after_wait_block answer me h)
keeps_values allows me h (Ok (block.Values phase count)) keeps = keeps
keeps_values allows me h (Ok block.Ended) keeps = keeps
keeps_values allows me h (Err refusal) keeps = keeps

-- where a task stands after a wait for a block
pub member_waits_block : (me : ℕ) (h : History) (entry : Entry) (answer : Result GotBlock WaitRefusal) → entry_of (members_of h) me ≡ Some entry
    → entry_of (members_of (after_wait_block answer me h)) me ≡ Some (entry_after_values (result_ok answer) entry)
member_waits_block me h entry (Ok (block.Values phase count)) there = entry_of-changed_same me (waited count) entry (members_of h) there
member_waits_block me h entry (Ok block.Ended) there = there
member_waits_block me h entry (Err refusal) there = there
