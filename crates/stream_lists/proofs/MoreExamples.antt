-- More worked graphs, computed in the definitions. Lines of a graph are separated by a slash.
use Rattle.std.proofs.Common.{◌≡◌, [], ◌∷◌, List, ℕ, ℤ, pos, Some, None, Ok, Err, true, false, refl}
use Rattle.phase_accum.specs.declared.single.Single.TheVariants.{Halve, Clamp}
use Rattle.phase_base.specs.declared.operation.Op.{Op}
use Rattle.phase_base.specs.declared.operation.Op.TheVariants.{Sum, Product, Least, Greatest, Any}
use Rattle.graph_base.specs.declared.place.Place.TheVariants as place
use Rattle.graph_base.specs.Graphs.{Graph}
use Rattle.stream_lists.specs.Jobs.{Job, counted, with_starts}
use Rattle.stream_lists.specs.Lists.{list_of_phaser}
use Rattle.stream_lists.specs.Ranges.{answer_of}
use Rattle.stream_lists.specs.Meetings.{meet_on, meeting_line, meeting_on, phases_on, first_both}
use Rattle.stream_lists.specs.Spans.{spans_of, span_in}
use Rattle.stream_lists.specs.declared.span.Span.{Span}
use Rattle.stream_lists.proofs.Examples.{minus, plain, with_single, source, fir, splitter, joiner, peer, sink, added_by, joins_by, stops_at, job_of, these, largest}

-- phasers X, A, B, C, Y sum / source s s.csv -> X / split d X -> A B C until 7
-- / join j C A -> Y / sink out Y: C has 3 and 6, A has 1, 4 and 7, and C runs out first
abbrev joiner_stops_at_the_first_end : Job
joiner_stops_at_the_first_end =
    job_of
    (plain Sum ∷ plain Sum ∷ plain Sum ∷ plain Sum ∷ plain Sum ∷ [])
    (source 6 0
    ∷ stops_at 7 (splitter 7 0 (1 ∷ 2 ∷ 3 ∷ []))
    ∷ joiner 8 (3 ∷ 1 ∷ []) 4
    ∷ sink 9 4
    ∷ [])
    ((these (1 ∷ 2 ∷ 3 ∷ 4 ∷ 5 ∷ 6 ∷ 7 ∷ 8 ∷ 9 ∷ [])) ∷ [])

joiner_stops_at_the_first_end-line : meeting_line joiner_stops_at_the_first_end ≡ None
joiner_stops_at_the_first_end-line = refl

joiner_stops_at_the_first_end-answer : answer_of joiner_stops_at_the_first_end
    ≡ Ok ((3, these (3 ∷ 1 ∷ 6 ∷ 4 ∷ []))
    ∷ [])
joiner_stops_at_the_first_end-answer = refl

-- phaser X product single clamp -10 10 / source a a.csv -> X / source b b.csv -> X by a at 1
-- / sink out X: 3, -4 * 2, 5 * 6 cut to 10, and 7 alone
abbrev clamped_products : Job
clamped_products =
    job_of
    (with_single Product (Clamp (minus 10, pos 10)) ∷ [])
    (source 2 0
    ∷ added_by 0 1 (source 3 0)
    ∷ sink 4 0
    ∷ [])
    ((pos 3 ∷ minus 4 ∷ pos 5 ∷ []) ∷ (these (2 ∷ 6 ∷ 7 ∷ [])) ∷ [])

clamped_products-line : meeting_line clamped_products ≡ None
clamped_products-line = refl

clamped_products-answer : answer_of clamped_products
    ≡ Ok ((2, pos 3 ∷ minus 8 ∷ pos 10 ∷ pos 7 ∷ [])
    ∷ [])
clamped_products-answer = refl

-- phaser X least / source a a.csv -> X until 2 / source b b.csv -> X by a at 2
-- / source c c.csv -> X by b at 1 / sink out X: b from phase 2 on, c from phase 3 on
abbrev children_of_children : Job
children_of_children =
    job_of
    (plain Least ∷ [])
    (stops_at 2 (source 2 0)
    ∷ added_by 0 2 (source 3 0)
    ∷ added_by 1 1 (source 4 0)
    ∷ sink 5 0
    ∷ [])
    ((pos 5 ∷ minus 3 ∷ pos 9 ∷ []) ∷ (these (1 ∷ 7 ∷ 4 ∷ [])) ∷ (these (0 ∷ 8 ∷ [])) ∷ [])

children_of_children-line : meeting_line children_of_children ≡ None
children_of_children-line = refl

children_of_children-answer : answer_of children_of_children
    ≡ Ok ((3, pos 5 ∷ minus 3 ∷ pos 1 ∷ pos 0 ∷ pos 4 ∷ [])
    ∷ [])
children_of_children-answer = refl

-- phasers X, Y sum / source a a.csv -> X / source b b.csv -> X
-- / fir f X -> Y shift 0 taps 2 until 1 / sink out X until 1: phase 1 of X is too big, and
-- nobody takes it, so the output of f is the first
abbrev too_big_and_not_taken : Job
too_big_and_not_taken =
    job_of
    (plain Sum ∷ plain Sum ∷ [])
    (source 3 0
    ∷ source 4 0
    ∷ stops_at 1 (fir 5 0 1 0 (these (2 ∷ [])))
    ∷ stops_at 1 (sink 6 0)
    ∷ [])
    ((these (9223372036854775807 ∷ 9223372036854775807 ∷ [])) ∷ (these (0 ∷ 1 ∷ [])) ∷ [])

too_big_and_not_taken-line : meeting_line too_big_and_not_taken ≡ None
too_big_and_not_taken-line = refl

too_big_and_not_taken-answer : answer_of too_big_and_not_taken ≡ Err (place.Task 2, 0)
too_big_and_not_taken-answer = refl

-- the same where the sink takes phase 1, which comes before the output on Y
abbrev too_big_and_taken : Job
too_big_and_taken =
    job_of
    (plain Sum ∷ plain Sum ∷ [])
    (source 3 0
    ∷ source 4 0
    ∷ stops_at 1 (fir 5 0 1 0 (these (2 ∷ [])))
    ∷ sink 6 0
    ∷ [])
    ((these (9223372036854775807 ∷ 9223372036854775807 ∷ [])) ∷ (these (0 ∷ 1 ∷ [])) ∷ [])

too_big_and_taken-line : meeting_line too_big_and_taken ≡ None
too_big_and_taken-line = refl

too_big_and_taken-answer : answer_of too_big_and_taken ≡ Err (place.Phaser 0, 1)
too_big_and_taken-answer = refl

-- phasers X, Y sum / phaser E sum single halve in between / source a a.csv -> X
-- / peer p X <-> E -> Y mul -3 until 2 / sink e E / sink out Y: E has 2 and 3, the halves of
-- 5 and 7, and Y has -15 - 2 and -21 - 3
abbrev peer_with_itself : Job
peer_with_itself =
    job_of
    (plain Sum ∷ with_single Sum Halve ∷ plain Sum ∷ [])
    (source 4 0
    ∷ stops_at 2 (peer 5 0 1 2 (minus 3))
    ∷ sink 6 1
    ∷ sink 7 2
    ∷ [])
    ((pos 5 ∷ pos 7 ∷ minus 3 ∷ []) ∷ [])

peer_with_itself-line : meeting_line peer_with_itself ≡ None
peer_with_itself-line = refl

peer_with_itself-answer : answer_of peer_with_itself
    ≡ Ok ((2, these (2 ∷ 3 ∷ []))
    ∷ (3, minus 17 ∷ minus 24 ∷ [])
    ∷ [])
peer_with_itself-answer = refl

-- phaser X greatest / phaser Y any / source s s.csv -> X until 5 / source t t.csv -> X by s at 3
-- / source u u.csv -> X by t at 2 / source v v.csv -> X by u at 9
-- / fir f X -> Y shift 1 taps 1 -1 1 until 3 / fir g X -> Y shift 1 taps 1 -1 1 by f at 3 until 4
-- / source w w.csv -> Y by g at 4 / sink o Y / sink p Y by o at 6 / sink q Y by p at 2
-- / sink r Y by q at 99
abbrev greatest_then_any : Job
greatest_then_any =
    job_of
    (plain Greatest ∷ plain Any ∷ [])
    (stops_at 5 (source 3 0)
    ∷ added_by 0 3 (source 4 0)
    ∷ added_by 1 2 (source 5 0)
    ∷ added_by 2 9 (source 6 0)
    ∷ stops_at 3 (fir 7 0 1 1 (pos 1 ∷ minus 1 ∷ pos 1 ∷ []))
    ∷ added_by 4 3 (stops_at 4 (fir 8 0 1 1 (pos 1 ∷ minus 1 ∷ pos 1 ∷ [])))
    ∷ added_by 5 4 (source 9 1)
    ∷ sink 10 1
    ∷ added_by 7 6 (sink 11 1)
    ∷ added_by 8 2 (sink 12 1)
    ∷ added_by 9 99 (sink 13 1)
    ∷ [])
    ((pos 1 ∷ minus 2 ∷ pos 3 ∷ pos 4 ∷ minus 5 ∷ pos 6 ∷ [])
    ∷ (minus 7 ∷ pos 8 ∷ pos 9 ∷ [])
    ∷ (pos 10 ∷ minus 11 ∷ [])
    ∷ (these (1 ∷ []))
    ∷ (these (77 ∷ 78 ∷ []))
    ∷ [])

greatest_then_any-line : meeting_line greatest_then_any ≡ None
greatest_then_any-line = refl

greatest_then_any-answer : answer_of greatest_then_any
    ≡ Ok ((7, pos 0 ∷ minus 2 ∷ pos 3 ∷ pos 2 ∷ pos 2 ∷ pos 3 ∷ minus 7 ∷ pos 77 ∷ pos 78 ∷ [])
    ∷ (8, minus 7 ∷ pos 77 ∷ pos 78 ∷ [])
    ∷ (9, these (78 ∷ []))
    ∷ (10, [])
    ∷ [])
greatest_then_any-answer = refl

-- ---- the first of several values out of range

-- phasers X, Z, Y sum / source a a.csv -> X / source b b.csv -> Z
-- / fir f X -> Y shift 0 taps 2 / fir g Z -> Y shift 0 taps 2 / sink out Y: f is too big at its
-- step 1 and g at its step 0, and the line of f is the first
abbrev pub two_filters_too_big : Job
two_filters_too_big =
    job_of
    (plain Sum ∷ plain Sum ∷ plain Sum ∷ [])
    (source 4 0
    ∷ source 5 1
    ∷ fir 6 0 2 0 (these (2 ∷ []))
    ∷ fir 7 1 2 0 (these (2 ∷ []))
    ∷ sink 8 2
    ∷ [])
    ((pos 1 ∷ largest ∷ []) ∷ (largest ∷ pos 1 ∷ []) ∷ [])

two_filters_too_big-line : meeting_line two_filters_too_big ≡ None
two_filters_too_big-line = refl

two_filters_too_big-answer : answer_of two_filters_too_big ≡ Err (place.Task 2, 1)
two_filters_too_big-answer = refl

-- phasers X, Y sum / source a a.csv -> X / source b b.csv -> Y / fir f X -> Y shift 0 taps 2
-- / sink out Y: phase 0 of Y is too big, and so is the output of f at its step 1, which is told
abbrev pub output_before_phases : Job
output_before_phases =
    job_of
    (plain Sum ∷ plain Sum ∷ [])
    (source 3 0
    ∷ source 4 1
    ∷ fir 5 0 1 0 (these (2 ∷ []))
    ∷ sink 6 1
    ∷ [])
    ((pos 1 ∷ largest ∷ []) ∷ (largest ∷ []) ∷ [])

output_before_phases-line : meeting_line output_before_phases ≡ None
output_before_phases-line = refl

output_before_phases-answer : answer_of output_before_phases ≡ Err (place.Task 2, 1)
output_before_phases-answer = refl

-- the same with 1 in place of the largest as the second sample of a: phase 0 alone is too big
abbrev pub phase_alone_too_big : Job
phase_alone_too_big = record output_before_phases {
  samples = these (1 ∷ 1 ∷ []) ∷ (largest ∷ []) ∷ [];
}

phase_alone_too_big-answer : answer_of phase_alone_too_big ≡ Err (place.Phaser 1, 0)
phase_alone_too_big-answer = refl

-- ---- a task that puts nothing

-- phaser X any / source A a.csv -> X / source B b.csv -> X by A at 1 / sink out X: B begins within
-- A's phases and has no value, so it meets nobody
abbrev pub empty_child : Job
empty_child =
    job_of
    (plain Any ∷ [])
    (source 2 0
    ∷ added_by 0 1 (source 3 0)
    ∷ sink 4 0
    ∷ [])
    (these (1 ∷ 2 ∷ 3 ∷ []) ∷ [] ∷ [])

empty_child-line : meeting_line empty_child ≡ None
empty_child-line = refl

empty_child-answer : answer_of empty_child ≡ Ok ((2, these (1 ∷ 2 ∷ 3 ∷ [])) ∷ [])
empty_child-answer = refl

-- neither with the child first nor with it second
empty_child-first : meet_on empty_child.graph (spans_of empty_child) 1 0 0 ≡ false
empty_child-first = refl

empty_child-second : meet_on empty_child.graph (spans_of empty_child) 0 0 1 ≡ false
empty_child-second = refl

-- with one value it meets A
abbrev pub child_within : Job
child_within = record empty_child { samples = these (1 ∷ 2 ∷ 3 ∷ []) ∷ these (4 ∷ []) ∷ [] }

child_within-line : meeting_line child_within ≡ Some 3
child_within-line = refl

-- ---- a sink that joins now

-- phaser X sum / source s s.csv -> X / sink out X / sink late X by out at 2 now, whose late joins
-- from this phase on
abbrev joins_from : ℕ → Job
joins_from n =
    with_starts (0 ∷ 0 ∷ n ∷ [])
    (job_of
    (plain Sum ∷ [])
    (source 2 0
    ∷ sink 3 0
    ∷ joins_by 1 2 (sink 4 0)
    ∷ [])
    ((these (1 ∷ 2 ∷ 3 ∷ 4 ∷ [])) ∷ []))

-- the least phase is its parent's boundary, 2
joins_from_0-answer : answer_of (joins_from 0)
    ≡ Ok ((1, these (1 ∷ 2 ∷ 3 ∷ 4 ∷ [])) ∷ (2, these (3 ∷ 4 ∷ [])) ∷ [])
joins_from_0-answer = refl

joins_from_1-answer : answer_of (joins_from 1) ≡ answer_of (joins_from 0)
joins_from_1-answer = refl

joins_from_2-answer : answer_of (joins_from 2) ≡ answer_of (joins_from 0)
joins_from_2-answer = refl

-- from 3 on it has one step, with the value of phase 3
joins_from_3-span : span_in (joins_from 3) 2 ≡ record { live = true; offset = 3; steps = 1 }
joins_from_3-span = refl

joins_from_3-answer : answer_of (joins_from 3)
    ≡ Ok ((1, these (1 ∷ 2 ∷ 3 ∷ 4 ∷ [])) ∷ (2, these (4 ∷ [])) ∷ [])
joins_from_3-answer = refl

-- and from 4 on none
joins_from_4-answer : answer_of (joins_from 4)
    ≡ Ok ((1, these (1 ∷ 2 ∷ 3 ∷ 4 ∷ [])) ∷ (2, []) ∷ [])
joins_from_4-answer = refl

-- the list of the phaser is the same
joins_from_4-list : list_of_phaser (joins_from 4) 0 ≡ list_of_phaser (joins_from 0) 0
joins_from_4-list = refl

-- the same without `now`: the starts make no difference
abbrev late_from : ℕ → Job
late_from n =
    with_starts (0 ∷ 0 ∷ n ∷ [])
    (job_of
    (plain Sum ∷ [])
    (source 2 0
    ∷ sink 3 0
    ∷ added_by 1 2 (sink 4 0)
    ∷ [])
    ((these (1 ∷ 2 ∷ 3 ∷ 4 ∷ [])) ∷ []))

late_from_3-answer : answer_of (late_from 3)
    ≡ Ok ((1, these (1 ∷ 2 ∷ 3 ∷ 4 ∷ [])) ∷ (2, these (3 ∷ 4 ∷ [])) ∷ [])
late_from_3-answer = refl

-- phaser X sum / source a a.csv -> X / source b b.csv -> X / sink out X until 0
-- / sink late X by out at 0 now until 1, whose late joins from this phase on: it takes one value,
-- and that of phase 3 is too big
abbrev too_big_from : ℕ → Job
too_big_from n =
    with_starts (0 ∷ 0 ∷ 0 ∷ n ∷ [])
    (job_of
    (plain Sum ∷ [])
    (source 2 0
    ∷ source 3 0
    ∷ stops_at 0 (sink 4 0)
    ∷ joins_by 2 0 (stops_at 1 (sink 5 0))
    ∷ [])
    ((these (1 ∷ 1 ∷ 1 ∷ 9223372036854775807 ∷ []))
    ∷ (these (1 ∷ 1 ∷ 1 ∷ 9223372036854775807 ∷ []))
    ∷ []))

too_big_from_0-answer : answer_of (too_big_from 0) ≡ Ok ((2, []) ∷ (3, these (2 ∷ [])) ∷ [])
too_big_from_0-answer = refl

too_big_from_3-answer : answer_of (too_big_from 3) ≡ Err (place.Phaser 0, 3)
too_big_from_3-answer = refl

-- phaser X any / source a a.csv -> X / source b b.csv -> X by a at 3 / sink out X, whose sources
-- have these numbers of samples: b begins where a has signalled three
abbrev hands_over : List (List ℤ) → Job
hands_over samples =
    job_of (plain Any ∷ []) (source 2 0 ∷ added_by 0 3 (source 3 0) ∷ sink 4 0 ∷ []) samples

-- with three samples of a nobody meets; only with the fourth does b meet a
hands_over_three-line : meeting_line (hands_over (these (0 ∷ 1 ∷ 2 ∷ []) ∷ these (9 ∷ []) ∷ []))
    ≡ None
hands_over_three-line = refl

hands_over_four-line :
    meeting_line (hands_over (these (0 ∷ 1 ∷ 2 ∷ 3 ∷ []) ∷ these (9 ∷ []) ∷ [])) ≡ Some 3
hands_over_four-line = refl

-- the same by the numbers of the samples alone; who signals in no phase meets nobody
hands_over_counted_three-line : meeting_line (counted (hands_over []).graph (3 ∷ 1 ∷ [])) ≡ None
hands_over_counted_three-line = refl

hands_over_counted_four-line : meeting_line (counted (hands_over []).graph (4 ∷ 1 ∷ [])) ≡ Some 3
hands_over_counted_four-line = refl

hands_over_counted_none-line : meeting_line (counted (hands_over []).graph (4 ∷ 0 ∷ [])) ≡ None
hands_over_counted_none-line = refl

-- ---- where a task meets one

-- b meets a where it begins, in phase 3, the last of a; with three samples of a it meets nobody
hands_over_four-meeting :
    let job = hands_over (these (0 ∷ 1 ∷ 2 ∷ 3 ∷ []) ∷ these (9 ∷ []) ∷ []) in
    meeting_on job.graph (spans_of job) 1 0 ≡ Some (record { task = 0; phase = 3 })
hands_over_four-meeting = refl

hands_over_three-meeting :
    let job = hands_over (these (0 ∷ 1 ∷ 2 ∷ []) ∷ these (9 ∷ []) ∷ []) in
    meeting_on job.graph (spans_of job) 1 0 ≡ None
hands_over_three-meeting = refl

-- the first task meets none above it
hands_over_four-first :
    let job = hands_over (these (0 ∷ 1 ∷ 2 ∷ 3 ∷ []) ∷ these (9 ∷ []) ∷ []) in
    meeting_on job.graph (spans_of job) 0 0 ≡ None
hands_over_four-first = refl

-- phaser X of this operation / sources a a.csv -> X / b b.csv -> X / c c.csv -> X
abbrev three_sources : Op → Graph
three_sources op =
    (job_of (plain op ∷ []) (source 2 0 ∷ source 3 0 ∷ source 4 0 ∷ []) []).graph

-- so many steps from this phase on
abbrev from_on : ℕ → ℕ → Span
from_on offset steps = record { live = true; offset = offset; steps = steps }

-- a signals in phases 0 and 1, b in 4 and 5, and c in 1 to 6: with a in 1, with b in 4
abbrev apart : List Span
apart = from_on 0 2 ∷ from_on 4 2 ∷ from_on 1 6 ∷ []

apart-phases : phases_on (three_sources Any) apart 0 1 ≡ 4 ∷ 5 ∷ []
apart-phases = refl

apart-first : first_both (three_sources Any) apart 2 0 0 ≡ Some 1
apart-first = refl

apart-second : first_both (three_sources Any) apart 2 0 1 ≡ Some 4
apart-second = refl

apart-none : first_both (three_sources Any) apart 1 0 0 ≡ None
apart-none = refl

-- the first of the two is told
apart-meeting : meeting_on (three_sources Any) apart 2 0 ≡ Some (record { task = 0; phase = 1 })
apart-meeting = refl

-- and b where a has ended before c begins
ended-meeting : meeting_on (three_sources Any) (from_on 0 1 ∷ from_on 4 2 ∷ from_on 1 6 ∷ []) 2 0
    ≡ Some (record { task = 1; phase = 4 })
ended-meeting = refl

-- with another operation nobody meets
summed-meeting : meeting_on (three_sources Sum) apart 2 0 ≡ None
summed-meeting = refl
