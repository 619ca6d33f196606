use Rattle.std.proofs.Common.{◌≡◌, ◌<◌, ◌≤◌, ◌+◌, length}
use Rattle.phase_stream.specs.Columns.{least_start}
use Rattle.phase_stream.proofs.column.least_start.Given as goal

-- the task begins so many steps behind this one, which stands so many lines above it
abbrev pub invariant-loop : goal.invariant-loop
invariant-loop l = (l.at < length l.job.graph.tasks) × (l.at + l.counter ≤ l.task)
    × (l.start + least_start l.job l.at ≡ least_start l.job l.task)
