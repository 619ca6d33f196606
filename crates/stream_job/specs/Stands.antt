-- Where the tasks of a run stand on their phasers, and what each of them does next.
use Rattle.std.specs.Prelude.{ℕ, List, Option, length, option_map}
use Rattle.std.specs.List.{filter_map, flat_map, range_with_len}
use Rattle.phase_base.specs.declared.entry.Entry.{Entry}
use Rattle.graph_runs.specs.Moments.{Moment}
use Rattle.graph_runs.specs.Nexts as nexts
use Rattle.graph_runs.specs.Nexts.{Next, next_of, registrations_at}
use Rattle.graph_runs.specs.TaskPlaces.{registration_at}
use Rattle.stream_lists.specs.Jobs.{Job}
use Rattle.stream_lists.specs.Stands.{call_on}
use Rattle.stream_lists.specs.declared.stand.End.{End}
use Rattle.stream_lists.specs.declared.stand.End.TheVariants as end
use Rattle.stream_lists.specs.declared.stand.Stand.{Stand}
use Rattle.stream_job.specs.Standing.{standing_on}
use Rattle.stream_job.specs.Streams.{all_tasks}

-- the end at which a task makes this call next
abbrev pub call_end : Next → End
call_end nexts.is_not_live = end.Nowhere
call_end (nexts.registers c) = end.Nowhere
call_end nexts.leaves = end.Nowhere
call_end nexts.samples = end.Output 0
call_end (nexts.signals j) = end.Output j
call_end (nexts.waits k) = end.Input k
call_end nexts.exchanges = end.Input 1

-- where task t, whose next call is at this end, stands by its registration k, while it is there
abbrev pub stand_by : Job → Moment → ℕ → End → ℕ → Option Stand
stand_by job m t next k = option_map with (standing_on job m t k)
  where
    with : Entry → Stand
    with entry =
        let at = registration_at job t k in
        record {
          task = t;
          phaser = at.phaser;
          entry = entry;
          next = call_on next at.input at.output;
        }

-- where task t stands on its phasers, in the order of its registrations
abbrev pub stands_of : Job → Moment → ℕ → List Stand
stands_of job m t =
    filter_map (stand_by job m t (call_end (next_of job m t)))
    (range_with_len 0 (length (registrations_at job t)))

-- where all tasks stand
abbrev pub stands_at : Job → Moment → List Stand
stands_at job m = flat_map (stands_of job m) (all_tasks job)
