-- What a sink keeps of what its waits were answered, and where it begins.
use Rattle.std.specs.Prelude.{◌≡◌, ℕ, ◌<◌, ℤ, List, [], Option, Some, None, length, map, not, true, option_map, if◌then◌else◌}
use Rattle.std.specs.List.{take_while}
use mathlib.Core.List.{IsPrefix}
use Rattle.phase_accum.specs.declared.outcome.Outcome.{Outcome}
use Rattle.phase_history.specs.Phases.{received_by}
use Rattle.graph_base.specs.Graphs.{task_at}
use Rattle.stream_lists.specs.Jobs.{Job}
use Rattle.stream_lists.specs.Lists.{is_sink_at, number}
use Rattle.stream_lists.specs.Ranges.{is_too_big}
use Rattle.graph_runs.specs.Moments.{Moment, input_at, value_at}

-- the numbers of the outcomes before the first that is too big
abbrev pub kept_of : List Outcome → List ℤ
kept_of outcomes = map number (take_while (λ outcome. not (is_too_big outcome)) outcomes)

-- of what number n on phaser p has received, where there is a number
abbrev pub kept_on : Job → Moment → ℕ → Option ℕ → List ℤ
kept_on job m p None = []
kept_on job m p (Some n) = kept_of (received_by (value_at job p) (m.history p) n)

-- of what task t has received from its first input
abbrev pub kept_by : Job → Moment → ℕ → List ℤ
kept_by job m t =
    let p = input_at (task_at job.graph t) 0 in
    kept_on job m p (m.number p t)

-- each sink keeps a beginning of what it has taken
abbrev pub KeepsBeginnings : Job → Moment → Type 0
KeepsBeginnings job m = (t : ℕ) → t < length job.graph.tasks → is_sink_at job t ≡ true
    → IsPrefix (kept_by job m t) (m.taken t 0)

-- where a sink that joins now begins, once it is registered
abbrev pub sink_begins_at : Job → Moment → ℕ → Option ℕ
sink_begins_at job m t =
    let task = task_at job.graph t in
    if task.joins_now then option_map (λ n. m.offset t) (m.number (input_at task 0) t) else None
