-- Who sent what, computed on a script whose members come and go, and compared with what was found
-- by hand.
use Rattle.std.proofs.Common.{◌≡◌, ◌||◌, pos, [], ◌∷◌, Bool, true, false, eqb, Some, None, refl, sym, ap, arith}
use Rattle.std.proofs.lemmas.Option.{same_Some}
use Rattle.phase_base.specs.declared.entry.Entry.{Entry}
use Rattle.phase_base.specs.declared.mode.Mode.TheVariants.{Sig, Wait}
use Rattle.phase_accum.specs.Exchanges.{Exchanges}
use Rattle.phase_accum.specs.declared.outcome.Outcome.TheVariants.{Value}
use Rattle.phase_accum.specs.declared.single.Single.TheVariants.{Neg, Halve}
use Rattle.phase_accum.specs.Values.{sum_value, any_value}
use Rattle.phase_history.specs.declared.event.Event.TheVariants.{Made, Registered, Signalled, Waited}
use Rattle.phase_history.specs.Histories.{History, entry_at, done_of, top_of, phases_signalled}
use Rattle.phase_history.specs.Phases.{sends_of_phase, stream_of, single_of_phase}
use Rattle.phase_history.specs.Sent.{sent_by, sent_in, gathered, OnlySignalled, NamesAll, IsSilent, ReachesTop}
use Rattle.phase_accum.proofs.Orders.{Exchanges-sum}
use Rattle.phase_history.proofs.Gathered.{sends_are_gathered}
use Rattle.phase_history.proofs.OthersExamples.{one, first_events, events}

-- a list a phase; the child's first list stands in phase 2, where it joined
sent_by_each : sent_by events 1 ∷ sent_by events 4 ∷ sent_by events 0 ∷ sent_by events 5 ∷ []
    ≡ ([] ∷ [] ∷ one 5 ∷ []) ∷ (one 6 ∷ []) ∷ [] ∷ [] ∷ []
sent_by_each = refl

sent_in_phases : sent_in events 1 1 ∷ sent_in events 1 2 ∷ sent_in events 4 0 ∷ sent_in events 4 2 ∷ sent_in events 4 3 ∷ []
    ≡ [] ∷ one 5 ∷ [] ∷ one 6 ∷ [] ∷ []
sent_in_phases = refl

-- the phase has the sends in the order of the history, the tasks in the order of the list
gathered_in_order : gathered events (4 ∷ 1 ∷ []) 2 ∷ gathered events (1 ∷ 4 ∷ []) 2 ∷ gathered events (4 ∷ []) 2 ∷ sends_of_phase events 2 ∷ []
    ≡ (pos 6 ∷ pos 5 ∷ []) ∷ (pos 5 ∷ pos 6 ∷ []) ∷ (pos 6 ∷ []) ∷ (pos 5 ∷ pos 6 ∷ []) ∷ []
gathered_in_order = refl

values : stream_of sum_value events ≡ Value (pos 0) ∷ Value (pos 0) ∷ Value (pos 11) ∷ []
values = refl

-- the blocks of two tasks, and a signal behind one of them
abbrev blocks : History
blocks =
    Signalled 1 (one 9 ∷ []) None ∷ Signalled 2 (one 3 ∷ (pos 4 ∷ pos 5 ∷ []) ∷ []) None
    ∷ Signalled 1 (one 1 ∷ one 2 ∷ []) None ∷ Registered 0 2 Sig ∷ Registered 0 1 Sig ∷ Made 0 ∷ []

sent_in_blocks : sent_by blocks 1 ∷ sent_by blocks 2 ∷ [] ≡ (one 1 ∷ one 2 ∷ one 9 ∷ []) ∷ (one 3 ∷ (pos 4 ∷ pos 5 ∷ []) ∷ []) ∷ []
sent_in_blocks = refl

gathered_in_blocks : gathered blocks (0 ∷ 2 ∷ 1 ∷ []) 0 ∷ gathered blocks (0 ∷ 2 ∷ 1 ∷ []) 1 ∷ gathered blocks (0 ∷ 2 ∷ 1 ∷ []) 2 ∷ []
    ≡ (pos 3 ∷ pos 1 ∷ []) ∷ (pos 4 ∷ pos 5 ∷ pos 2 ∷ []) ∷ (pos 9 ∷ []) ∷ []
gathered_in_blocks = refl

-- no task has signalled but the two, and it is not so that none has but the second
only_these : OnlySignalled (4 ∷ 1 ∷ []) events
only_these other none = apart (eqb 4 other) (eqb 1 other) refl refl none
  where
    apart : (b c : Bool) → eqb 4 other ≡ b → eqb 1 other ≡ c → (b || (c || false)) ≡ false → phases_signalled events other ≡ 0
    apart true c first second outside = absurd (cc)
    apart false true first second outside = absurd (cc)
    apart false false first second outside = rw (first, second) refl

not_only_one : OnlySignalled (4 ∷ []) events → ⊥
not_only_one only = absurd (let no : phases_signalled events 1 ≡ 0 = only 1 refl in omega arith)

-- no signal names a single; and two signals that name one
names_none : NamesAll None events
names_none = (refl, (refl, (refl, (refl, tt))))

abbrev halves : History
halves =
    Signalled 0 (one 8 ∷ []) (Some Halve) ∷ Waited 0 1 ∷ Signalled 0 (one 6 ∷ []) (Some Halve) ∷ Made 0 ∷ []

names_halve : NamesAll (Some Halve) halves
names_halve = (refl, (refl, tt))

names_not_one : NamesAll (Some Halve) (Signalled 0 (one 6 ∷ []) (Some Neg) ∷ Made 0 ∷ []) → ⊥
names_not_one names = (let e : Some Neg ≡ Some Halve = names.0 in cc)

singles_of_halves : single_of_phase halves 0 ∷ single_of_phase halves 1 ∷ single_of_phase halves 2 ∷ []
    ≡ Some Halve ∷ Some Halve ∷ None ∷ []
singles_of_halves = refl

-- a waiter from phase 0 is silent; a child that joined at phase 2 is not, though it has signalled
-- nothing
waiter_is_silent : IsSilent events 2
waiter_is_silent = record {
  nothing = refl;
  from_0 = λ start is. (let e : entry_at Wait 0 0 ≡ start = same_Some _ _ is in sym (ap (λ (x : Entry). x.signal_phase) e));
}

child_signalled_nothing : phases_signalled first_events 4 ≡ 0
child_signalled_nothing = refl

child_is_not_silent : IsSilent first_events 4 → ⊥
child_is_not_silent silent =
    absurd (let e : (entry_at Sig 2 0).signal_phase ≡ 0 = silent.from_0 (entry_at Sig 2 0) refl in omega arith)

signaller_is_not_silent : IsSilent events 1 → ⊥
signaller_is_not_silent silent = absurd (let no : phases_signalled events 1 ≡ 0 = silent.nothing in omega arith)

-- the first child has signalled up to the top; the second too, which began at phase 2
top_is_three : top_of events ∷ done_of events ∷ [] ≡ 3 ∷ 3 ∷ []
top_is_three = refl

reached_by_child : ReachesTop events
reached_by_child = record { task = 4; start = entry_at Sig 2 0; start_is = refl; reaches = refl }

reached_by_first : ReachesTop events
reached_by_first = record { task = 1; start = entry_at Sig 0 0; start_is = refl; reaches = refl }

-- the sum is the same in any order, so it is that of what the two have sent; the first send is not
sum_is_gathered : sum_value (sends_of_phase events 2) ≡ sum_value (gathered events (4 ∷ 1 ∷ []) 2)
sum_is_gathered = sends_are_gathered sum_value events (4 ∷ 1 ∷ []) 2 Exchanges-sum refl only_these

any_is_not_gathered : any_value (sends_of_phase events 2) ∷ any_value (gathered events (4 ∷ 1 ∷ []) 2) ∷ []
    ≡ Value (pos 5) ∷ Value (pos 6) ∷ []
any_is_not_gathered = refl

any_does_not_exchange : Exchanges any_value → ⊥
any_does_not_exchange swaps = (let e : Value (pos 1) ≡ Value (pos 2) = swaps [] (one 1) (one 2) [] in cc)
