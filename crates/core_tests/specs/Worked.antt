-- The histories of one phaser at which each law of histories is used.
use Rattle.std.specs.Prelude.{ℤ, List, [], ◌∷◌, None, pos}
use Rattle.phase_base.specs.Limits.{Limits, limits}
use Rattle.phase_base.specs.declared.mode.Mode.TheVariants.{Sig, Wait}
use Rattle.phase_history.specs.declared.event.Event.TheVariants.{Made, Registered, Signalled, Waited, Dropped}
use Rattle.phase_history.specs.Histories.{History}

-- a bound of 2, and 100 phases
abbrev pub worked_limits : Limits
worked_limits = limits 2 100

-- task 0 makes the phaser
abbrev pub founded : History
founded = Made 0 ∷ []

-- it registers task 1, which signals
abbrev pub one_child : History
one_child = Registered 0 1 Sig ∷ founded

-- then task 2, which waits, and leaves; task 1 signals with a send of 7
abbrev pub one_signal : History
one_signal =
    Signalled 1 ((pos 7 ∷ []) ∷ []) None ∷ Dropped 0 ∷ Registered 0 2 Wait ∷ one_child

-- task 1 signals once more, with no send
abbrev pub two_signals : History
two_signals = Signalled 1 ([] ∷ []) None ∷ one_signal

-- task 2 gets the first phase
abbrev pub one_wait : History
one_wait = Waited 2 1 ∷ two_signals

-- task 1 leaves, and no signaller is left
abbrev pub all_left : History
all_left = Dropped 1 ∷ one_wait

-- task 2 gets the second phase, and has got all
abbrev pub all_got : History
all_got = Waited 2 1 ∷ all_left

-- and leaves too, the last of all
abbrev pub everyone_left : History
everyone_left = Dropped 2 ∷ all_got

-- a founder that has signalled, and has still to wait
abbrev pub half_turn : History
half_turn = Signalled 0 ([] ∷ []) None ∷ founded

-- task 1 registers task 3 behind its first signal
abbrev pub late_child : History
late_child = Registered 1 3 Sig ∷ one_signal

-- a list without sends
abbrev pub one_list : List (List ℤ)
one_list = [] ∷ []

-- two lists without sends
abbrev pub two_lists : List (List ℤ)
two_lists = [] ∷ [] ∷ []
