-- The histories of one phaser at which each law of blocks is used.
use Rattle.std.specs.Prelude.{ℤ, List, [], ◌∷◌, None, pos}
use Rattle.phase_base.specs.Limits.{Limits, limits}
use Rattle.phase_base.specs.declared.entry.Entry.{Entry}
use Rattle.phase_base.specs.declared.mode.Mode.TheVariants.{Sig, Wait}
use Rattle.phase_accum.specs.declared.outcome.Outcome.{Outcome}
use Rattle.phase_accum.specs.declared.outcome.Outcome.TheVariants.{Value}
use Rattle.phase_history.specs.declared.event.Event.TheVariants.{Made, Registered, RegisteredNow, Signalled, Waited, Dropped}
use Rattle.phase_history.specs.Histories.{History, entry_at}

-- a bound of 3, and 100 phases
abbrev pub worked_limits : Limits
worked_limits = limits 3 100

-- a send of 7 in a phase, and one of 4 in the next
abbrev pub two_sends : List (List ℤ)
two_sends = (pos 7 ∷ []) ∷ (pos 4 ∷ []) ∷ []

-- task 0 makes the phaser, and registers task 1, which signals, and task 2, which waits
abbrev pub opened : History
opened = Registered 0 2 Wait ∷ Registered 0 1 Sig ∷ Made 0 ∷ []

-- it leaves
abbrev pub begun : History
begun = Dropped 0 ∷ opened

-- task 1 signals the first phase alone
abbrev pub one_signal : History
one_signal = Signalled 1 ((pos 7 ∷ []) ∷ []) None ∷ begun

-- or the first two phases at once
abbrev pub one_block : History
one_block = Signalled 1 two_sends None ∷ begun

-- task 2 gets both at once
abbrev pub both_got : History
both_got = Waited 2 2 ∷ one_block

-- task 1 leaves, and no signaller is left
abbrev pub all_left : History
all_left = Dropped 1 ∷ both_got

-- task 2, which has got nothing, registers task 3, which joins at the first phase that is not
-- complete
abbrev pub late_waiter : History
late_waiter = RegisteredNow 2 3 ∷ one_block

-- where task 2 stands then
abbrev pub waiter : Entry
waiter = entry_at Wait 0 0

-- where task 3 stands then
abbrev pub late : Entry
late = entry_at Wait 0 2

-- three places that nobody wrote
abbrev pub three_places : List Outcome
three_places = Value (pos 99) ∷ Value (pos 99) ∷ Value (pos 99) ∷ []

-- the same, once two values were written
abbrev pub two_written : List Outcome
two_written = Value (pos 7) ∷ Value (pos 4) ∷ Value (pos 99) ∷ []
