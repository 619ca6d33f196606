-- The lists of a graph, composed whole: what each task puts on each phaser, and the values of each
-- phaser's phases.
use Rattle.std.specs.Prelude.{ℕ, ◌+◌, ◌-◌, ◌*◌, ◌/◌, ◌%◌, ◌&&◌, Bool, List, [], ◌∷◌, ◌++◌, length, map, take, drop, Option, Some, None, ℤ, pos, ◌*ℤ◌, ◌-ℤ◌, get_or, nat_lt, if◌then◌else◌, slice_get}
use Rattle.std.specs.List.{range_with_len, filter_map, filter, fold}
use Rattle.phase_accum.specs.declared.outcome.Outcome.{Outcome}
use Rattle.phase_accum.specs.declared.outcome.Outcome.TheVariants.{Value, Empty, TooBig}
use Rattle.phase_accum.specs.Values.{applied}
pub use Rattle.phase_accum.specs.Values.{value_by}
use Rattle.stream_filters.specs.Filter.{outputs}
use Rattle.graph_base.specs.Graphs.{Task, task_at, phaser_at, is_sink}
use Rattle.stream_lists.specs.Jobs.{Job, samples_at, index_in}
use Rattle.stream_lists.specs.Spans.{nowhere, span_in, turns_below, signalled_by, takes_from, Schedule, schedule_of}
use Rattle.stream_lists.specs.declared.span.Span.{Span}
use Rattle.graph_base.specs.declared.line.Kind.{Kind}
use Rattle.graph_base.specs.declared.line.Kind.TheVariants.{Source, Fir, Split, Decimate, Join, Peer, Sink}

-- ---- what a task puts out

-- entry number n, 0 where there is none
abbrev pub entry : List ℤ → ℕ → ℤ
entry xs n = get_or xs n (pos 0)

-- the entries j, j + m, j + 2 * m, ..
abbrev pub every : ℕ → ℕ → List ℤ → List ℤ
every m j xs = map (λ k. entry xs (j + k * m)) (range_with_len 0 (turns_below m j (length xs)))

-- the entry that has its turn at step i: entry 0 of each list in turn, then entry 1, and so on
abbrev pub turn_at : List (List ℤ) → ℕ → ℤ
turn_at lists i = entry (get_or lists (i % length lists) []) (i / length lists)

-- so many entries of the lists in turn
abbrev pub in_turn : List (List ℤ) → ℕ → List ℤ
in_turn lists n = map (turn_at lists) (range_with_len 0 n)

-- mul * x - e, of the entries number i
abbrev pub mixed_at : ℤ → List ℤ → List ℤ → ℕ → ℤ
mixed_at mul xs es i = (mul *ℤ entry xs i) -ℤ entry es i

-- mul * x - e, entry by entry
abbrev pub mixed : ℤ → List ℤ → List ℤ → List ℤ
mixed mul xs es = map (mixed_at mul xs es) (range_with_len 0 (length xs))

-- what a task takes from its input number k, over the numbers of the phasers' lists
abbrev pub taken_from : List (List ℤ) → Task → Span → ℕ → List ℤ
taken_from lists task span k =
    take (takes_from task span.steps k)
    (drop span.offset (get_or lists (get_or task.inputs k 0) []))

-- what it takes from each input
abbrev pub taken_by : List (List ℤ) → Task → Span → List (List ℤ)
taken_by lists task span =
    map (taken_from lists task span) (range_with_len 0 (length task.inputs))

-- what a task with these samples, which took these values from each input in so many steps, puts
-- on its output number j
abbrev pub output_list : List ℤ → List (List ℤ) → Task → ℕ → ℕ → List ℤ
output_list samples taken task steps j = of task.kind
  where
    of : Kind → List ℤ
    of Source = take steps samples
    of Fir = outputs task.taps task.form (get_or taken 0 [])
    of Split = every (length task.outputs) j (get_or taken 0 [])
    of Decimate = every task.every 0 (get_or taken 0 [])
    of Join = in_turn taken steps
    of Peer =
        if nat_lt 0 j then mixed task.mul (get_or taken 0 []) (get_or taken 1 [])
        else get_or taken 0 []
    of Sink = []

-- ---- one phaser

-- what a task puts on a phaser: the phase of its first value, and its values
abbrev pub Contribution : Type 0
Contribution = ℕ × List ℤ

-- what task number t puts on its output number j
abbrev pub output_on : Job → Schedule → List (List ℤ) → ℕ → ℕ → List ℤ
output_on job schedule lists t j =
    let task = task_at job.graph t in
    let span = get_or schedule.spans t nowhere in
    output_list (samples_at job t) (taken_by lists task span) task span.steps j

-- a live task is a member of the phaser that is its output number j
abbrev pub contribution_by : Job → Schedule → List (List ℤ) → ℕ → Option ℕ → Option Contribution
contribution_by job schedule lists t None = None
contribution_by job schedule lists t (Some j) =
    let span = get_or schedule.spans t nowhere in
    if span.live then Some (span.offset, output_on job schedule lists t j) else None

-- task number t as a member of phaser p
abbrev pub contribution_at : Job → Schedule → List (List ℤ) → ℕ → ℕ → Option Contribution
contribution_at job schedule lists p t =
    contribution_by job schedule lists t (index_in (signalled_by (task_at job.graph t)) p)

-- the members of phaser p, in the order of the lines
abbrev pub contributions_on : Job → Schedule → List (List ℤ) → ℕ → List Contribution
contributions_on job schedule lists p =
    filter_map (contribution_at job schedule lists p) (range_with_len 0 (length job.graph.tasks))

-- what a member sends in phase n
abbrev pub send_in : ℕ → Contribution → Option ℤ
send_in n member = if nat_lt n member.0 then None else slice_get member.1 (n - member.0)

-- what the members send in phase n
abbrev pub sends_in : List Contribution → ℕ → List ℤ
sends_in members n = filter_map (send_in n) members

-- ---- all phasers

-- the number of a value. A value that is too big has none: a graph in which it is taken has no
-- other answer than the first of these, so what stands here is never seen
abbrev pub number : Outcome → ℤ
number (Value v) = v
number Empty = pos 0
number TooBig = pos 0

-- phase n of phaser p with these members, by this value of lists of sends, with the phaser's single
abbrev pub phase_in : (List ℤ → Outcome) → Job → ℕ → List Contribution → ℕ → Outcome
phase_in value job p members n =
    applied (phaser_at job.graph p).single (value (sends_in members n))

-- its number
abbrev pub number_in : (List ℤ → Outcome) → Job → ℕ → List Contribution → ℕ → ℤ
number_in value job p members n = number (phase_in value job p members n)

-- the phases of a phaser, over the numbers of the lists of the phasers above
abbrev pub list_over : Job → Schedule → List (List ℤ) → ℕ → List Outcome
list_over job schedule above p =
    map (phase_in (value_by (phaser_at job.graph p).op) job p
    (contributions_on job schedule above p))
    (range_with_len 0 (get_or schedule.lengths p 0))

-- the numbers of the lists of the first n phasers
abbrev pub numbers_up_to : Job → Schedule → ℕ → List (List ℤ)
numbers_up_to job schedule n =
    fold (λ above p. above ++ map number (list_over job schedule above p) ∷ [])
    [] (range_with_len 0 n)

-- the numbers of all phasers' lists
abbrev pub numbers_of : Job → List (List ℤ)
numbers_of job = numbers_up_to job (schedule_of job) (length job.graph.phasers)

-- the numbers of the lists of the phasers above phaser p
abbrev pub numbers_above : Job → ℕ → List (List ℤ)
numbers_above job p = numbers_up_to job (schedule_of job) p

-- the list of phaser p
abbrev pub list_of_phaser : Job → ℕ → List Outcome
list_of_phaser job p = list_over job (schedule_of job) (numbers_above job p) p

-- ---- the sinks

-- whether task t is a sink
abbrev pub is_sink_at : Job → ℕ → Bool
is_sink_at job t = is_sink (task_at job.graph t).kind

-- the numbers of the sinks
abbrev pub sinks_of : Job → List ℕ
sinks_of job = filter (is_sink_at job) (range_with_len 0 (length job.graph.tasks))

-- a sink with its values, over the numbers of the phasers' lists: none where it is not live
abbrev pub sink_over : Job → Schedule → List (List ℤ) → ℕ → ℕ × List ℤ
sink_over job schedule lists t =
    (t, taken_from lists (task_at job.graph t) (get_or schedule.spans t nowhere) 0)

-- each sink with its values, in the order of the lines
abbrev pub lines_of : Job → List (ℕ × List ℤ)
lines_of job = map (sink_over job (schedule_of job) (numbers_of job)) (sinks_of job)

-- the phase at which task t begins, of a sink that joins now and is live
abbrev pub start_in : Job → ℕ → Option ℕ
start_in job t =
    let span = span_in job t in
    if (task_at job.graph t).joins_now && span.live then Some span.offset else None

-- a sink with its start, where it has one, and its values
abbrev pub with_start : Job → ℕ × List ℤ → ℕ × Option ℕ × List ℤ
with_start job line = (line.0, start_in job line.0, line.1)

-- ---- where the lists end

-- where a member ends: one past the phase of its last value, or 0 where there is no member
abbrev pub end_of_contribution : Option Contribution → ℕ
end_of_contribution None = 0
end_of_contribution (Some member) = member.0 + length member.1

-- where each task ends on phaser p, by its values
abbrev pub ends_on : Job → ℕ → List ℕ
ends_on job p =
    map (λ t. end_of_contribution (contribution_at job (schedule_of job) (numbers_of job) p t))
    (range_with_len 0 (length job.graph.tasks))
