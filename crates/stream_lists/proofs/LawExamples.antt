-- The laws at worked graphs, each beside what is near it and does not hold.
use Rattle.std.proofs.Common.{◌≡◌, ℕ, ℤ, List, [], ◌∷◌, pos, Some, None, Ok, true, length, map, get_or, refl, arith}
use Rattle.phase_accum.specs.declared.outcome.Outcome.TheVariants.{Value, TooBig}
use Rattle.phase_base.specs.declared.operation.Op.TheVariants.{Sum}
use Rattle.graph_base.specs.Graphs.{task_at}
use Rattle.graph_base.specs.declared.line.Kind.TheVariants.{Peer}
use Rattle.stream_lists.specs.Jobs.{Job, samples_at, index_in}
use Rattle.stream_lists.specs.Exact.{exact_lines, exact_lists}
use Rattle.stream_lists.specs.Ranges.{answer_of}
use Rattle.stream_lists.specs.Spans.{nowhere, signalled_by, LooksAt, puts_on, lengths_of, spans_of, span_at, span_in, span_of, schedule_of}
use Rattle.stream_lists.specs.Lists.{list_of_phaser, list_over, contributions_on, numbers_of, numbers_above, output_list, output_on, ends_on}
use Rattle.stream_lists.proofs.Examples.{minus, plain, source, fir, sink, added_by, stops_at, job_of, these, nothing, split_to_one_bus_7, one_of_three_6, one_of_three_7, any_hands_over_2, any_hands_over_3, any_hands_over_4, peers, peers_with_single, too_big_phase}

-- ---- places

-- of the first peer X is input 0 and E input 1; E is its output 0 and Y its output 1
peers-inputs : (task_at peers.graph 2).inputs ≡ 0 ∷ 2 ∷ []
peers-inputs = refl

peers-e : index_in (signalled_by (task_at peers.graph 2)) 2 ≡ Some 0
peers-e = refl

peers-y : index_in (signalled_by (task_at peers.graph 2)) 3 ≡ Some 1
peers-y = refl

-- X is none of its outputs
peers-x : index_in (signalled_by (task_at peers.graph 2)) 0 ≡ None
peers-x = refl

-- a phaser that stood twice on a line would have its first place
twice-place : index_in (4 ∷ 7 ∷ 4 ∷ []) 4 ≡ Some 0
twice-place = refl

-- E is looked at by Y and not by itself
peers-y_looks : LooksAt Peer 1 1
peers-y_looks = tt

peers-e_looks : LooksAt Peer 0 1 → ⊥
peers-e_looks looks = (let none : ◌≡◌ {A = ℕ} 1 0 = looks in omega arith)

-- ---- a task's span, over the spans of all tasks

-- B begins two steps after A, which its span over the spans of all tasks says
hands_over-span : span_in any_hands_over_2 1 ≡ record { live = true; offset = 2; steps = 2 }
hands_over-span = refl

hands_over-all : span_of any_hands_over_2 (lengths_of any_hands_over_2)
    (spans_of any_hands_over_2) 1 ≡ record { live = true; offset = 2; steps = 2 }
hands_over-all = refl

-- and not at phase 0, where a task without a parent begins
hands_over-from_0 : span_at (task_at any_hands_over_2.graph 1)
    (length (samples_at any_hands_over_2 1)) (lengths_of any_hands_over_2) (Some 0)
    ≡ record { live = true; offset = 0; steps = 2 }
hands_over-from_0 = refl

-- a child whose parent makes just as many steps is live
hands_over_3-span : span_in any_hands_over_3 1 ≡ record { live = true; offset = 3; steps = 2 }
hands_over_3-span = refl

-- and with one step less it is not
hands_over_4-span : span_in any_hands_over_4 1 ≡ nowhere
hands_over_4-span = refl

-- past the last task the law does not hold: what is not there is not live
no_task-span : span_in nothing 0 ≡ nowhere
no_task-span = refl

no_task-all : span_of nothing (lengths_of nothing) (spans_of nothing) 0
    ≡ record { live = true; offset = 0; steps = 0 }
no_task-all = refl

-- nor in a graph whose child stands above its parent, which is none that was read
-- phaser X sum / source B b.csv -> X by A at 1 / source A a.csv -> X
abbrev child_above : Job
child_above =
    job_of
    (plain Sum ∷ [])
    (added_by 1 1 (source 2 0)
    ∷ source 3 0
    ∷ [])
    (these (4 ∷ 5 ∷ []) ∷ these (1 ∷ 2 ∷ 3 ∷ []) ∷ [])

child_above-span : span_in child_above 0 ≡ nowhere
child_above-span = refl

child_above-all : span_of child_above (lengths_of child_above) (spans_of child_above) 0
    ≡ record { live = true; offset = 1; steps = 2 }
child_above-all = refl

-- ---- a phaser's list, over the lists of all phasers

-- of a peer's E the lists above it are those of X and Z alone, and E's own changes nothing in it
peers-above : numbers_above peers 2 ≡ these (1 ∷ 2 ∷ []) ∷ these (10 ∷ 20 ∷ 30 ∷ []) ∷ []
peers-above = refl

peers-list : list_of_phaser peers 2 ≡ map Value (these (11 ∷ 22 ∷ 30 ∷ []))
peers-list = refl

peers-all : list_over peers (schedule_of peers) (numbers_of peers) 2
    ≡ map Value (these (11 ∷ 22 ∷ 30 ∷ []))
peers-all = refl

-- the numbers are those of the list, and not the list: a value that is too big has 0
too_big-list : list_of_phaser too_big_phase 0 ≡ TooBig ∷ []
too_big-list = refl

too_big-numbers : get_or (numbers_of too_big_phase) 0 [] ≡ pos 0 ∷ []
too_big-numbers = refl

-- in a graph where a filter's output stands above its input, which is none that was read, the lists
-- of all phasers say more
-- phasers Y, X sum / source a a.csv -> X / source b b.csv -> Y / fir f X -> Y shift 0 taps 1
abbrev output_above : Job
output_above =
    job_of
    (plain Sum ∷ plain Sum ∷ [])
    (source 3 1
    ∷ source 4 0
    ∷ fir 5 1 0 0 (these (1 ∷ []))
    ∷ [])
    (these (1 ∷ 2 ∷ 3 ∷ []) ∷ these (10 ∷ []) ∷ [])

output_above-list : list_of_phaser output_above 0 ≡ Value (pos 10) ∷ []
output_above-list = refl

output_above-all : list_over output_above (schedule_of output_above)
    (numbers_of output_above) 0 ≡ Value (pos 11) ∷ []
output_above-all = refl

-- who puts what on a peer's E, over the lists above it and over all
peers-members : contributions_on peers (schedule_of peers) (numbers_above peers 2) 2
    ≡ (0, these (1 ∷ 2 ∷ [])) ∷ (0, these (10 ∷ 20 ∷ 30 ∷ [])) ∷ []
peers-members = refl

peers-all_members : contributions_on peers (schedule_of peers) (numbers_of peers) 2
    ≡ (0, these (1 ∷ 2 ∷ [])) ∷ (0, these (10 ∷ 20 ∷ 30 ∷ [])) ∷ []
peers-all_members = refl

-- where the filter's input stands below, over the lists above its output it puts nothing there
output_above-members : contributions_on output_above (schedule_of output_above)
    (numbers_above output_above 0) 0 ≡ (0, these (10 ∷ [])) ∷ (0, []) ∷ []
output_above-members = refl

output_above-all_members : contributions_on output_above (schedule_of output_above)
    (numbers_of output_above) 0 ≡ (0, these (10 ∷ [])) ∷ (0, these (1 ∷ 2 ∷ 3 ∷ [])) ∷ []
output_above-all_members = refl

-- ---- the length of a phaser's list

-- three steps of a splitter of two outputs put two values on the first and one on the second
abbrev split-three : ℕ → List ℤ
split-three j =
    output_list [] (these (1 ∷ 2 ∷ 3 ∷ []) ∷ []) (task_at split_to_one_bus_7.graph 1) 3 j

split-three_first : split-three 0 ≡ these (1 ∷ 3 ∷ [])
split-three_first = refl

split-three_second : split-three 1 ≡ these (2 ∷ [])
split-three_second = refl

split-puts : puts_on (task_at split_to_one_bus_7.graph 1) 3 1 ≡ 1
split-puts = refl

-- where less was taken than three steps take, they put less
split-less : output_list [] (these (1 ∷ 2 ∷ []) ∷ []) (task_at split_to_one_bus_7.graph 1) 3 0
    ≡ these (1 ∷ [])
split-less = refl

-- six steps of a decimator every 3 put two values, those of steps 0 and 3, and seven put three
decimate-six : output_list [] (these (3 ∷ 1 ∷ 4 ∷ 1 ∷ 5 ∷ 9 ∷ []) ∷ [])
    (task_at one_of_three_6.graph 1) 6 0 ≡ these (3 ∷ 1 ∷ [])
decimate-six = refl

decimate-puts_none : puts_on (task_at one_of_three_6.graph 1) 0 0 ≡ 0
decimate-puts_none = refl

decimate-puts_first : puts_on (task_at one_of_three_6.graph 1) 1 0 ≡ 1
decimate-puts_first = refl

decimate-puts_six : puts_on (task_at one_of_three_6.graph 1) 6 0 ≡ 2
decimate-puts_six = refl

decimate-puts_seven : puts_on (task_at one_of_three_6.graph 1) 7 0 ≡ 3
decimate-puts_seven = refl

-- the filter would end there at phase 3, and the list does so at phase 1
output_above-ends : ends_on output_above 0 ≡ 0 ∷ 1 ∷ 3 ∷ []
output_above-ends = refl

output_above-lengths : lengths_of output_above ≡ 1 ∷ 3 ∷ []
output_above-lengths = refl

-- a task ends as many phases after its offset as it has values: A with three at 3, B with two at 4
hands_over-ends : ends_on any_hands_over_2 0 ≡ 3 ∷ 4 ∷ 0 ∷ []
hands_over-ends = refl

-- the list ends where the last of them does; it has not as many phases as they have values
hands_over-lengths : lengths_of any_hands_over_2 ≡ 4 ∷ []
hands_over-lengths = refl

-- a child that is not live ends nowhere
hands_over_4-ends : ends_on any_hands_over_4 0 ≡ 3 ∷ 0 ∷ 0 ∷ []
hands_over_4-ends = refl

-- a splitter of seven steps puts four values on one output and three on the other
split-steps : (span_in split_to_one_bus_7 1).steps ≡ 7
split-steps = refl

split-first : output_on split_to_one_bus_7 (schedule_of split_to_one_bus_7)
    (numbers_of split_to_one_bus_7) 1 0 ≡ these (1 ∷ 3 ∷ 5 ∷ 7 ∷ [])
split-first = refl

split-second : output_on split_to_one_bus_7 (schedule_of split_to_one_bus_7)
    (numbers_of split_to_one_bus_7) 1 1 ≡ these (2 ∷ 4 ∷ 6 ∷ [])
split-second = refl

split-ends : ends_on split_to_one_bus_7 2 ≡ 0 ∷ 3 ∷ 0 ∷ 0 ∷ 0 ∷ []
split-ends = refl

-- a decimator takes a value in each step, and ends where its values do
decimate-steps : (span_in one_of_three_7 1).steps ≡ 7
decimate-steps = refl

decimate-ends : ends_on one_of_three_7 1 ≡ 0 ∷ 3 ∷ 0 ∷ []
decimate-ends = refl

-- a sink has no output: its steps say seven, and it puts nothing anywhere
sink-puts : puts_on (task_at split_to_one_bus_7.graph 4) (span_in split_to_one_bus_7 4).steps 0 ≡ 7
sink-puts = refl

sink-output : output_on split_to_one_bus_7 (schedule_of split_to_one_bus_7)
    (numbers_of split_to_one_bus_7) 4 0 ≡ []
sink-output = refl

-- on a peer's E both peers end where their own X does
peers-ends : ends_on peers 2 ≡ 0 ∷ 0 ∷ 2 ∷ 3 ∷ 0 ∷ 0 ∷ []
peers-ends = refl

-- ---- lists over whole numbers of any size

-- where a job does not fit, the exact lists have the number that is out of range
too_big-exact : exact_lists too_big_phase ≡ (pos 9223372036854775808 ∷ []) ∷ []
too_big-exact = refl

-- phaser X sum / source a a.csv -> X / source b b.csv -> X / sink out X until 1: phase 1 is too big
-- and nobody takes it, so the job fits, and its list alone shows the range
abbrev too_big_unseen : Job
too_big_unseen =
    job_of
    (plain Sum ∷ [])
    (source 2 0
    ∷ source 3 0
    ∷ stops_at 1 (sink 4 0)
    ∷ [])
    (these (1 ∷ 9223372036854775807 ∷ []) ∷ these (2 ∷ 1 ∷ []) ∷ [])

too_big_unseen-answer : answer_of too_big_unseen ≡ Ok ((2, these (3 ∷ [])) ∷ [])
too_big_unseen-answer = refl

too_big_unseen-list : list_of_phaser too_big_unseen 0 ≡ Value (pos 3) ∷ TooBig ∷ []
too_big_unseen-list = refl

too_big_unseen-exact : exact_lists too_big_unseen
    ≡ (pos 3 ∷ pos 9223372036854775808 ∷ []) ∷ []
too_big_unseen-exact = refl

too_big_unseen-lines : exact_lines too_big_unseen ≡ (2, these (3 ∷ [])) ∷ []
too_big_unseen-lines = refl

-- a peer, a single and an exchange, without a range
peers-exact : exact_lines peers ≡ (4, minus 9 ∷ minus 18 ∷ []) ∷ (5, these (9 ∷ 18 ∷ 30 ∷ [])) ∷ []
peers-exact = refl

peers_with_single-exact : exact_lines peers_with_single
    ≡ (4, these (13 ∷ 26 ∷ [])) ∷ (5, these (31 ∷ 62 ∷ 90 ∷ [])) ∷ []
peers_with_single-exact = refl
