-- Worked graphs, computed in the definitions. Lines of a graph are separated by a slash.
use Rattle.std.proofs.Common.{◌≡◌, [], ◌∷◌, List, ℕ, ℤ, pos, neg_ℤ, Some, None, Ok, Err, true, map, refl}
use Rattle.phase_accum.specs.declared.single.Single.{Single}
use Rattle.phase_accum.specs.declared.single.Single.TheVariants.{Neg}
use Rattle.phase_base.specs.declared.operation.Op.{Op}
use Rattle.phase_base.specs.declared.operation.Op.TheVariants.{Sum, Any}
use Rattle.graph_base.specs.declared.line.Kind.TheVariants.{Source, Fir, Split, Decimate, Join, Peer}
use Rattle.graph_base.specs.declared.place.Place.TheVariants as place
use Rattle.graph_base.specs.declared.line.PhaserLine.{PhaserLine}
use Rattle.graph_base.specs.Graphs.{Task, no_graph, no_task}
use Rattle.stream_filters.specs.Filter.{no_form}
use Rattle.stream_lists.specs.Jobs.{Job}
use Rattle.stream_lists.specs.Ranges.{answer_of}
use Rattle.stream_lists.specs.Meetings.{meeting_line}

-- ---- how the examples are written

-- a negative number
abbrev pub minus : ℕ → ℤ
minus n = neg_ℤ (pos n)

abbrev pub plain : Op → PhaserLine
plain op = record { op = op; bound = 2; single = None }

abbrev pub with_single : Op → Single → PhaserLine
with_single op single = record { op = op; bound = 2; single = Some single }

abbrev pub source : ℕ → ℕ → Task
source line y = record no_task { line = line; kind = Source; outputs = y ∷ [] }

abbrev pub fir : ℕ → ℕ → ℕ → ℕ → List ℤ → Task
fir line x y bits taps = record no_task {
  line = line;
  kind = Fir;
  inputs = x ∷ [];
  outputs = y ∷ [];
  taps = taps;
  form = record no_form { shift = bits };
}

abbrev pub splitter : ℕ → ℕ → List ℕ → Task
splitter line x ys = record no_task { line = line; kind = Split; inputs = x ∷ []; outputs = ys }

abbrev pub decimator : ℕ → ℕ → ℕ → ℕ → Task
decimator line x y every = record no_task {
  line = line;
  kind = Decimate;
  inputs = x ∷ [];
  outputs = y ∷ [];
  every = every;
}

abbrev pub joiner : ℕ → List ℕ → ℕ → Task
joiner line xs y = record no_task { line = line; kind = Join; inputs = xs; outputs = y ∷ [] }

abbrev pub peer : ℕ → ℕ → ℕ → ℕ → ℤ → Task
peer line x e y mul = record no_task {
  line = line;
  kind = Peer;
  inputs = x ∷ e ∷ [];
  outputs = y ∷ [];
  mul = mul;
}

abbrev pub sink : ℕ → ℕ → Task
sink line x = record no_task { line = line; inputs = x ∷ [] }

-- the task, by number p at n
abbrev pub added_by : ℕ → ℕ → Task → Task
added_by p n task = record task { parent = Some (record { task = p; at = n }) }

-- the task, where it joins now by number p at n
abbrev pub joins_by : ℕ → ℕ → Task → Task
joins_by p n task = record (added_by p n task) { joins_now = true }

abbrev pub stops_at : ℕ → Task → Task
stops_at n task = record task { until = Some n }

abbrev pub job_of : List PhaserLine → List Task → List (List ℤ) → Job
job_of phasers tasks samples = record {
  graph = record no_graph { phasers = phasers; tasks = tasks };
  samples = samples;
  starts = [];
}

-- whole numbers from 0 on as samples
abbrev pub these : List ℕ → List ℤ
these ns = map pos ns

-- 2^63 - 1
abbrev pub largest : ℤ
largest = pos 9223372036854775807

-- ---- the worked graphs

-- no line
abbrev pub nothing : Job
nothing =
    job_of
    []
    []
    []

nothing-line : meeting_line nothing ≡ None
nothing-line = refl

nothing-answer : answer_of nothing ≡ Ok []
nothing-answer = refl

-- phaser X sum / phaser Y sum / source s s.csv -> X / fir f X -> Y shift 2 taps 1 2 1
-- / sink out Y, on the samples -1, -1, 0
abbrev rounds_down : Job
rounds_down =
    job_of
    (plain Sum ∷ plain Sum ∷ [])
    (source 3 0
    ∷ fir 4 0 1 2 (these (1 ∷ 2 ∷ 1 ∷ []))
    ∷ sink 5 1
    ∷ [])
    ((minus 1 ∷ minus 1 ∷ pos 0 ∷ []) ∷ [])

rounds_down-line : meeting_line rounds_down ≡ None
rounds_down-line = refl

rounds_down-answer : answer_of rounds_down ≡ Ok ((2, minus 1 ∷ minus 1 ∷ minus 1 ∷ []) ∷ [])
rounds_down-answer = refl

-- the same on no sample
abbrev no_samples : Job
no_samples =
    job_of
    (plain Sum ∷ plain Sum ∷ [])
    (source 3 0
    ∷ fir 4 0 1 2 (these (1 ∷ 2 ∷ 1 ∷ []))
    ∷ sink 5 1
    ∷ [])
    ([] ∷ [])

no_samples-line : meeting_line no_samples ≡ None
no_samples-line = refl

no_samples-answer : answer_of no_samples ≡ Ok ((2, []) ∷ [])
no_samples-answer = refl

-- phaser X sum / phaser Y sum / source s s.csv -> X / fir f X -> Y shift 2 plus 2 taps 1
-- / sink out Y, on the samples 3, 1, 4, 1, 5, 9
abbrev rounds_to_nearest : Job
rounds_to_nearest =
    job_of
    (plain Sum ∷ plain Sum ∷ [])
    (source 3 0
    ∷ record (fir 4 0 1 2 (these (1 ∷ []))) { form = record no_form { shift = 2; plus = pos 2 } }
    ∷ sink 5 1
    ∷ [])
    ((these (3 ∷ 1 ∷ 4 ∷ 1 ∷ 5 ∷ 9 ∷ [])) ∷ [])

rounds_to_nearest-line : meeting_line rounds_to_nearest ≡ None
rounds_to_nearest-line = refl

rounds_to_nearest-answer : answer_of rounds_to_nearest
    ≡ Ok ((2, these (1 ∷ 0 ∷ 1 ∷ 0 ∷ 1 ∷ 2 ∷ [])) ∷ [])
rounds_to_nearest-answer = refl

-- phaser X sum / phaser Y sum / source s s.csv -> X / delay d X -> Y of 2 / sink out Y, on the
-- samples 3, 1, 4
abbrev comes_late : Job
comes_late =
    job_of
    (plain Sum ∷ plain Sum ∷ [])
    (source 3 0
    ∷ record (fir 4 0 1 0 (these (1 ∷ []))) { form = record no_form { delay = 2 } }
    ∷ sink 5 1
    ∷ [])
    ((these (3 ∷ 1 ∷ 4 ∷ [])) ∷ [])

comes_late-line : meeting_line comes_late ≡ None
comes_late-line = refl

comes_late-answer : answer_of comes_late ≡ Ok ((2, these (0 ∷ 0 ∷ 3 ∷ [])) ∷ [])
comes_late-answer = refl

-- phaser X sum / phaser Y sum / source s s.csv -> X / decimate d X -> Y every 3 / sink out Y, on
-- the samples 3, 1, 4, 1, 5, 9
abbrev pub one_of_three_6 : Job
one_of_three_6 =
    job_of
    (plain Sum ∷ plain Sum ∷ [])
    (source 3 0
    ∷ decimator 4 0 1 3
    ∷ sink 5 1
    ∷ [])
    ((these (3 ∷ 1 ∷ 4 ∷ 1 ∷ 5 ∷ 9 ∷ [])) ∷ [])

one_of_three_6-line : meeting_line one_of_three_6 ≡ None
one_of_three_6-line = refl

one_of_three_6-answer : answer_of one_of_three_6 ≡ Ok ((2, these (3 ∷ 1 ∷ [])) ∷ [])
one_of_three_6-answer = refl

-- the same on one sample more
abbrev pub one_of_three_7 : Job
one_of_three_7 =
    job_of
    (plain Sum ∷ plain Sum ∷ [])
    (source 3 0
    ∷ decimator 4 0 1 3
    ∷ sink 5 1
    ∷ [])
    ((these (3 ∷ 1 ∷ 4 ∷ 1 ∷ 5 ∷ 9 ∷ 2 ∷ [])) ∷ [])

one_of_three_7-line : meeting_line one_of_three_7 ≡ None
one_of_three_7-line = refl

one_of_three_7-answer : answer_of one_of_three_7 ≡ Ok ((2, these (3 ∷ 1 ∷ 2 ∷ [])) ∷ [])
one_of_three_7-answer = refl

-- phasers X, Y, Z sum / source s s.csv -> X / decimate d X -> Y every 1 until 4
-- / decimate e Y -> Z every 4 / sink outy Y / sink outz Z
abbrev one_of_one : Job
one_of_one =
    job_of
    (plain Sum ∷ plain Sum ∷ plain Sum ∷ [])
    (source 4 0
    ∷ stops_at 4 (decimator 5 0 1 1)
    ∷ decimator 6 1 2 4
    ∷ sink 7 1
    ∷ sink 8 2
    ∷ [])
    ((these (3 ∷ 1 ∷ 4 ∷ 1 ∷ 5 ∷ 9 ∷ [])) ∷ [])

one_of_one-line : meeting_line one_of_one ≡ None
one_of_one-line = refl

one_of_one-answer : answer_of one_of_one
    ≡ Ok ((3, these (3 ∷ 1 ∷ 4 ∷ 1 ∷ []))
    ∷ (4, these (3 ∷ []))
    ∷ [])
one_of_one-answer = refl

-- phasers X, A, B, S sum / source s s.csv -> X / split d X -> A B
-- / fir f A -> S shift 0 taps 1 / fir g X -> S shift 0 taps 1 / sink out S
abbrev split_to_one_bus_6 : Job
split_to_one_bus_6 =
    job_of
    (plain Sum ∷ plain Sum ∷ plain Sum ∷ plain Sum ∷ [])
    (source 5 0
    ∷ splitter 6 0 (1 ∷ 2 ∷ [])
    ∷ fir 7 1 3 0 (these (1 ∷ []))
    ∷ fir 8 0 3 0 (these (1 ∷ []))
    ∷ sink 9 3
    ∷ [])
    ((these (1 ∷ 2 ∷ 3 ∷ 4 ∷ 5 ∷ 6 ∷ [])) ∷ [])

split_to_one_bus_6-line : meeting_line split_to_one_bus_6 ≡ None
split_to_one_bus_6-line = refl

split_to_one_bus_6-answer : answer_of split_to_one_bus_6
    ≡ Ok ((4, these (2 ∷ 5 ∷ 8 ∷ 4 ∷ 5 ∷ 6 ∷ []))
    ∷ [])
split_to_one_bus_6-answer = refl

-- the same on one sample more
abbrev pub split_to_one_bus_7 : Job
split_to_one_bus_7 =
    job_of
    (plain Sum ∷ plain Sum ∷ plain Sum ∷ plain Sum ∷ [])
    (source 5 0
    ∷ splitter 6 0 (1 ∷ 2 ∷ [])
    ∷ fir 7 1 3 0 (these (1 ∷ []))
    ∷ fir 8 0 3 0 (these (1 ∷ []))
    ∷ sink 9 3
    ∷ [])
    ((these (1 ∷ 2 ∷ 3 ∷ 4 ∷ 5 ∷ 6 ∷ 7 ∷ [])) ∷ [])

split_to_one_bus_7-line : meeting_line split_to_one_bus_7 ≡ None
split_to_one_bus_7-line = refl

split_to_one_bus_7-answer : answer_of split_to_one_bus_7
    ≡ Ok ((4, these (2 ∷ 5 ∷ 8 ∷ 11 ∷ 5 ∷ 6 ∷ 7 ∷ []))
    ∷ [])
split_to_one_bus_7-answer = refl

-- phaser X any / source A a.csv -> X / source B b.csv -> X by A at 2 / sink out X
abbrev pub any_hands_over_2 : Job
any_hands_over_2 =
    job_of
    (plain Any ∷ [])
    (source 2 0
    ∷ added_by 0 2 (source 3 0)
    ∷ sink 4 0
    ∷ [])
    ((these (1 ∷ 2 ∷ 3 ∷ [])) ∷ (these (4 ∷ 5 ∷ [])) ∷ [])

any_hands_over_2-line : meeting_line any_hands_over_2 ≡ Some 3
any_hands_over_2-line = refl

-- the same at 3
abbrev pub any_hands_over_3 : Job
any_hands_over_3 =
    job_of
    (plain Any ∷ [])
    (source 2 0
    ∷ added_by 0 3 (source 3 0)
    ∷ sink 4 0
    ∷ [])
    ((these (1 ∷ 2 ∷ 3 ∷ [])) ∷ (these (4 ∷ 5 ∷ [])) ∷ [])

any_hands_over_3-line : meeting_line any_hands_over_3 ≡ None
any_hands_over_3-line = refl

any_hands_over_3-answer : answer_of any_hands_over_3
    ≡ Ok ((2, these (1 ∷ 2 ∷ 3 ∷ 4 ∷ 5 ∷ []))
    ∷ [])
any_hands_over_3-answer = refl

-- the same at 4
abbrev pub any_hands_over_4 : Job
any_hands_over_4 =
    job_of
    (plain Any ∷ [])
    (source 2 0
    ∷ added_by 0 4 (source 3 0)
    ∷ sink 4 0
    ∷ [])
    ((these (1 ∷ 2 ∷ 3 ∷ [])) ∷ (these (4 ∷ 5 ∷ [])) ∷ [])

any_hands_over_4-line : meeting_line any_hands_over_4 ≡ None
any_hands_over_4-line = refl

any_hands_over_4-answer : answer_of any_hands_over_4 ≡ Ok ((2, these (1 ∷ 2 ∷ 3 ∷ [])) ∷ [])
any_hands_over_4-answer = refl

-- phasers X, Z, E, P, Q sum / source a a.csv -> X / source b b.csv -> Z
-- / peer p X <-> E -> P mul 2 / peer q Z <-> E -> Q mul 2 / sink outp P / sink outq Q
abbrev pub peers : Job
peers =
    job_of
    (plain Sum ∷ plain Sum ∷ plain Sum ∷ plain Sum ∷ plain Sum ∷ [])
    (source 6 0
    ∷ source 7 1
    ∷ peer 8 0 2 3 (pos 2)
    ∷ peer 9 1 2 4 (pos 2)
    ∷ sink 10 3
    ∷ sink 11 4
    ∷ [])
    ((these (1 ∷ 2 ∷ [])) ∷ (these (10 ∷ 20 ∷ 30 ∷ [])) ∷ [])

peers-line : meeting_line peers ≡ None
peers-line = refl

peers-answer : answer_of peers
    ≡ Ok ((4, minus 9 ∷ minus 18 ∷ [])
    ∷ (5, these (9 ∷ 18 ∷ 30 ∷ []))
    ∷ [])
peers-answer = refl

-- the same with phaser E sum single neg
abbrev pub peers_with_single : Job
peers_with_single =
    job_of
    (plain Sum ∷ plain Sum ∷ with_single Sum Neg ∷ plain Sum ∷ plain Sum ∷ [])
    (source 6 0
    ∷ source 7 1
    ∷ peer 8 0 2 3 (pos 2)
    ∷ peer 9 1 2 4 (pos 2)
    ∷ sink 10 3
    ∷ sink 11 4
    ∷ [])
    ((these (1 ∷ 2 ∷ [])) ∷ (these (10 ∷ 20 ∷ 30 ∷ [])) ∷ [])

peers_with_single-line : meeting_line peers_with_single ≡ None
peers_with_single-line = refl

peers_with_single-answer : answer_of peers_with_single
    ≡ Ok ((4, these (13 ∷ 26 ∷ []))
    ∷ (5, these (31 ∷ 62 ∷ 90 ∷ []))
    ∷ [])
peers_with_single-answer = refl

-- phasers X, A, B, Y sum / source s s.csv -> X / split d X -> A B / join j A B -> Y / sink out Y
abbrev split_and_join : Job
split_and_join =
    job_of
    (plain Sum ∷ plain Sum ∷ plain Sum ∷ plain Sum ∷ [])
    (source 5 0
    ∷ splitter 6 0 (1 ∷ 2 ∷ [])
    ∷ joiner 7 (1 ∷ 2 ∷ []) 3
    ∷ sink 8 3
    ∷ [])
    ((these (1 ∷ 2 ∷ 3 ∷ 4 ∷ 5 ∷ [])) ∷ [])

split_and_join-line : meeting_line split_and_join ≡ None
split_and_join-line = refl

split_and_join-answer : answer_of split_and_join ≡ Ok ((3, these (1 ∷ 2 ∷ 3 ∷ 4 ∷ 5 ∷ [])) ∷ [])
split_and_join-answer = refl

-- phaser X sum / source a a.csv -> X / source b b.csv -> X / sink out X
abbrev gate : Job
gate =
    job_of
    (plain Sum ∷ [])
    (source 2 0
    ∷ source 3 0
    ∷ sink 4 0
    ∷ [])
    ((these (1 ∷ 2 ∷ [])) ∷ (these (10 ∷ 20 ∷ [])) ∷ [])

gate-line : meeting_line gate ≡ None
gate-line = refl

gate-answer : answer_of gate ≡ Ok ((2, these (11 ∷ 22 ∷ [])) ∷ [])
gate-answer = refl

-- a filter with taps 2 on the largest sample
abbrev too_big_filter : Job
too_big_filter =
    job_of
    (plain Sum ∷ plain Sum ∷ [])
    (source 3 0
    ∷ fir 4 0 1 0 (these (2 ∷ []))
    ∷ sink 5 1
    ∷ [])
    ((these (9223372036854775807 ∷ [])) ∷ [])

too_big_filter-line : meeting_line too_big_filter ≡ None
too_big_filter-line = refl

too_big_filter-answer : answer_of too_big_filter ≡ Err (place.Task 1, 0)
too_big_filter-answer = refl

-- the same with a shift of 1
abbrev shifted_back : Job
shifted_back =
    job_of
    (plain Sum ∷ plain Sum ∷ [])
    (source 3 0
    ∷ fir 4 0 1 1 (these (2 ∷ []))
    ∷ sink 5 1
    ∷ [])
    ((these (9223372036854775807 ∷ [])) ∷ [])

shifted_back-line : meeting_line shifted_back ≡ None
shifted_back-line = refl

shifted_back-answer : answer_of shifted_back ≡ Ok ((2, these (9223372036854775807 ∷ [])) ∷ [])
shifted_back-answer = refl

-- the two sources on the largest sample and 1
abbrev pub too_big_phase : Job
too_big_phase =
    job_of
    (plain Sum ∷ [])
    (source 2 0
    ∷ source 3 0
    ∷ sink 4 0
    ∷ [])
    ((these (9223372036854775807 ∷ [])) ∷ (these (1 ∷ [])) ∷ [])

too_big_phase-line : meeting_line too_big_phase ≡ None
too_big_phase-line = refl

too_big_phase-answer : answer_of too_big_phase ≡ Err (place.Phaser 0, 0)
too_big_phase-answer = refl

-- phaser X sum / source s s.csv -> X / sink out X / sink late X by out at 2
-- / sink early X until 2
abbrev late_and_early_sinks_2 : Job
late_and_early_sinks_2 =
    job_of
    (plain Sum ∷ [])
    (source 2 0
    ∷ sink 3 0
    ∷ added_by 1 2 (sink 4 0)
    ∷ stops_at 2 (sink 5 0)
    ∷ [])
    ((these (1 ∷ 2 ∷ 3 ∷ 4 ∷ [])) ∷ [])

late_and_early_sinks_2-line : meeting_line late_and_early_sinks_2 ≡ None
late_and_early_sinks_2-line = refl

late_and_early_sinks_2-answer : answer_of late_and_early_sinks_2
    ≡ Ok ((1, these (1 ∷ 2 ∷ 3 ∷ 4 ∷ []))
    ∷ (2, these (3 ∷ 4 ∷ []))
    ∷ (3, these (1 ∷ 2 ∷ []))
    ∷ [])
late_and_early_sinks_2-answer = refl

-- the same at 4: the late sink begins where the list ends
abbrev late_and_early_sinks_4 : Job
late_and_early_sinks_4 =
    job_of
    (plain Sum ∷ [])
    (source 2 0
    ∷ sink 3 0
    ∷ added_by 1 4 (sink 4 0)
    ∷ stops_at 2 (sink 5 0)
    ∷ [])
    ((these (1 ∷ 2 ∷ 3 ∷ 4 ∷ [])) ∷ [])

late_and_early_sinks_4-line : meeting_line late_and_early_sinks_4 ≡ None
late_and_early_sinks_4-line = refl

late_and_early_sinks_4-answer : answer_of late_and_early_sinks_4
    ≡ Ok ((1, these (1 ∷ 2 ∷ 3 ∷ 4 ∷ []))
    ∷ (2, [])
    ∷ (3, these (1 ∷ 2 ∷ []))
    ∷ [])
late_and_early_sinks_4-answer = refl

-- the same at 5: the late sink is not live
abbrev late_and_early_sinks_5 : Job
late_and_early_sinks_5 =
    job_of
    (plain Sum ∷ [])
    (source 2 0
    ∷ sink 3 0
    ∷ added_by 1 5 (sink 4 0)
    ∷ stops_at 2 (sink 5 0)
    ∷ [])
    ((these (1 ∷ 2 ∷ 3 ∷ 4 ∷ [])) ∷ [])

late_and_early_sinks_5-line : meeting_line late_and_early_sinks_5 ≡ None
late_and_early_sinks_5-line = refl

late_and_early_sinks_5-answer : answer_of late_and_early_sinks_5
    ≡ Ok ((1, these (1 ∷ 2 ∷ 3 ∷ 4 ∷ []))
    ∷ (2, [])
    ∷ (3, these (1 ∷ 2 ∷ []))
    ∷ [])
late_and_early_sinks_5-answer = refl

-- phasers X, Y sum / source s s.csv -> X / fir f X -> Y shift 0 taps 1 1
-- / fir g X -> Y shift 0 taps 1 1 by f at 2 until 1 / sink out Y
abbrev child_filter : Job
child_filter =
    job_of
    (plain Sum ∷ plain Sum ∷ [])
    (source 3 0
    ∷ fir 4 0 1 0 (these (1 ∷ 1 ∷ []))
    ∷ added_by 1 2 (stops_at 1 (fir 5 0 1 0 (these (1 ∷ 1 ∷ []))))
    ∷ sink 6 1
    ∷ [])
    ((these (1 ∷ 2 ∷ 3 ∷ 4 ∷ [])) ∷ [])

child_filter-line : meeting_line child_filter ≡ None
child_filter-line = refl

child_filter-answer : answer_of child_filter ≡ Ok ((3, these (1 ∷ 3 ∷ 8 ∷ 7 ∷ [])) ∷ [])
child_filter-answer = refl
