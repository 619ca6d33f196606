-- Which tasks signal in one phase of a phaser with `any`, and where they do first.
use Rattle.std.specs.Prelude.{ℕ, ◌-◌, ◌&&◌, Bool, true, false, List, length, map, Option, None, get_or, nat_le, nat_lt, if◌then◌else◌}
use Rattle.std.specs.Option.{option_map}
use Rattle.std.specs.List.{range_with_len, list_any, find}
use Rattle.graph_base.specs.Graphs.{Graph, task_at, phaser_at}
use Rattle.stream_lists.specs.Jobs.{Job}
use Rattle.stream_lists.specs.Ranges.{first_some}
use Rattle.stream_lists.specs.Spans.{nowhere, end_of, spans_of}
use Rattle.stream_lists.specs.declared.meeting.Meeting.{Meeting}
use Rattle.stream_lists.specs.declared.span.Span.{Span}
use Rattle.phase_base.specs.declared.operation.Op.{Op}
use Rattle.phase_base.specs.declared.operation.Op.TheVariants.{Sum, Product, Least, Greatest, Any}

-- whether the operation is `any`
abbrev pub is_any : Op → Bool
is_any Any = true
is_any Sum = false
is_any Product = false
is_any Least = false
is_any Greatest = false

-- whether two tasks signal in one phase, where each begins at its offset and ends there: each
-- signals, and begins before the other ends
abbrev pub overlap : ℕ → ℕ → ℕ → ℕ → Bool
overlap first first_end second second_end =
    nat_lt first first_end && nat_lt second second_end
    && nat_lt first second_end && nat_lt second first_end

-- whether tasks t and u, at these spans, signal in one phase of phaser p
abbrev pub meet_on : Graph → List Span → ℕ → ℕ → ℕ → Bool
meet_on graph spans t p u =
    overlap (get_or spans t nowhere).offset (end_of graph spans p t)
    (get_or spans u nowhere).offset (end_of graph spans p u)

-- whether task t meets a task above it on phaser p, which is one with `any`
abbrev pub meets_on : Graph → List Span → ℕ → ℕ → Bool
meets_on graph spans t p =
    is_any (phaser_at graph p).op && list_any (meet_on graph spans t p) (range_with_len 0 t)

-- whether task t meets a task above it
abbrev pub meets_above : Graph → List Span → ℕ → Bool
meets_above graph spans t =
    list_any (meets_on graph spans t) (range_with_len 0 (length graph.phasers))

-- the line of the first task that meets a task above it, at these spans
abbrev pub meeting_at : Graph → List Span → Option ℕ
meeting_at graph spans =
    option_map (λ t. (task_at graph t).line)
    (find (meets_above graph spans) (range_with_len 0 (length graph.tasks)))

-- the line of the first task that meets a task above it
abbrev pub meeting_line : Job → Option ℕ
meeting_line job = meeting_at job.graph (spans_of job)

-- ---- where a task meets one

-- whether task t, at these spans, signals phaser p in phase n
abbrev pub signals_in : Graph → List Span → ℕ → ℕ → ℕ → Bool
signals_in graph spans p t n =
    nat_le (get_or spans t nowhere).offset n && nat_lt n (end_of graph spans p t)

-- the phases of phaser p in which task t signals, in order
abbrev pub phases_on : Graph → List Span → ℕ → ℕ → List ℕ
phases_on graph spans p t =
    let first = (get_or spans t nowhere).offset in
    range_with_len first (end_of graph spans p t - first)

-- the first phase of phaser p in which tasks t and u both signal
abbrev pub first_both : Graph → List Span → ℕ → ℕ → ℕ → Option ℕ
first_both graph spans t p u = find (signals_in graph spans p u) (phases_on graph spans p t)

-- task u, and that phase
abbrev pub meeting_with : Graph → List Span → ℕ → ℕ → ℕ → Option Meeting
meeting_with graph spans t p u =
    option_map (λ n. record { task = u; phase = n }) (first_both graph spans t p u)

-- the first task above task t that it meets on phaser p, whatever its operation is
abbrev pub meeting_above : Graph → List Span → ℕ → ℕ → Option Meeting
meeting_above graph spans t p =
    first_some (map (meeting_with graph spans t p) (range_with_len 0 t))

-- the same on a phaser with `any`: on another, tasks do not meet
abbrev pub meeting_on : Graph → List Span → ℕ → ℕ → Option Meeting
meeting_on graph spans t p =
    if is_any (phaser_at graph p).op then meeting_above graph spans t p else None
