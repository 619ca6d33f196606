-- The definitions read the starts by the schedule alone, and each task's start is that of the
-- least.
use Rattle.std.proofs.Common.{◌+◌, Some, None, refl, ap}
use Rattle.std.specs.Prelude.{nat_le, ◌&&◌, if◌then◌else◌, get_or}
use native.Mathlib.Nat.{zero-max}
use Rattle.stream_lists.specs.declared.span.Span.{Span}
use Rattle.stream_lists.specs.Spans.{nowhere}
use Rattle.stream_lists.proofs.SameStarts.{same_schedule, same_answer}
use Rattle.stream_lists.proofs.Starts.{others_stay, lengths_stay, meetings_stay, fewer_steps}
use Rattle.stream_lists.proofs.list_laws.starts_move_sinks_alone.Goals as goal

pub returns-clause-child : goal.returns-clause-child
returns-clause-child c = λ above u.
    (let span : Span = get_or above u.task nowhere in
    ap (λ n. if span.live && nat_le u.at span.steps then Some n else None)
    (zero-max (span.offset + u.at)))

pub returns-clause-others : goal.returns-clause-others
returns-clause-others c = others_stay

pub returns-clause-lengths : goal.returns-clause-lengths
returns-clause-lengths c = lengths_stay

pub returns-clause-meetings : goal.returns-clause-meetings
returns-clause-meetings c = meetings_stay

pub returns-clause-steps : goal.returns-clause-steps
returns-clause-steps c = fewer_steps

pub returns-clause-answer : goal.returns-clause-answer
returns-clause-answer c = λ job starts same.
    same_answer job starts (same_schedule job starts same)

pub returns-clause-none_joins : goal.returns-clause-none_joins
returns-clause-none_joins c = λ job starts none.
    same_answer job starts (same_schedule job starts (λ t. rw (none t) refl))
