-- The values stand behind the others.
use Rattle.std.proofs.Common.{◌++◌, refl, sym, ap, ◌∙◌}
use Rattle.std.proofs.lemmas.List.{append_assoc}
use Rattle.stream_job.specs.SinkLines.{kept_of}
use Rattle.stream_job.proofs.Rooms.{line_kept}
use Rattle.stream_job.proofs.SinkLines.{kept_line, line_stays, line_there, room_for}
use Rattle.stream_job.proofs.machine.Machine.keep.Goals as goal

pub keep_values-requires : goal.keep_values-requires
keep_values-requires c =
    room_for c.args.self.now.lines.items c.in-Some.i _ c.index_mut.result.now c.args.sink c.in-Some.is
    c.requires.there c.requires.room c.index_mut.ensures.value

pub returns-in-Some-clause-lines : goal.returns-in-Some-clause-lines
returns-in-Some-clause-lines c = λ given.
    kept_line given c.args.self.now.lines.items c.in-Some.i c.index_mut.result.now
    (record c.index_mut.result.now { values = c.keep_values.new.values }) (kept_of c.args.outcomes.now)
    c.args.sink c.in-Some.is c.requires.there c.index_mut.ensures.value
    (ap (λ vs. (c.index_mut.result.now.task, given c.index_mut.result.now.task ++ vs))
    c.keep_values.ensures.values
    ∙ ap (λ vs. (c.index_mut.result.now.task, vs))
    (sym (append_assoc (given c.index_mut.result.now.task) c.index_mut.result.now.values.items
    (kept_of c.args.outcomes.now))))

pub returns-in-Some-clause-starts : goal.returns-in-Some-clause-starts
returns-in-Some-clause-starts c =
    line_stays (λ line. line.start) c.args.self.now.lines.items c.in-Some.i c.index_mut.result.now
    (record c.index_mut.result.now { values = c.keep_values.new.values })
    c.index_mut.ensures.value refl

-- Its line has the room that it had.
pub returns-in-Some-clause-own : goal.returns-in-Some-clause-own
returns-in-Some-clause-own c = λ room all.
    line_kept room c.args.self.now.lines.items c.in-Some.i c.index_mut.result.now
    (record c.index_mut.result.now { values = c.keep_values.new.values })
    (line_there c.args.self.now.lines.items c.in-Some.i c.args.sink c.in-Some.is c.requires.there)
    c.index_mut.ensures.value refl c.keep_values.ensures.room all
