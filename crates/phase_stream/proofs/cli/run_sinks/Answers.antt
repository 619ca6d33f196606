use Rattle.graph_commands.specs.Folders.{known_by}
use Rattle.phase_words.specs.StreamLine.{stream_asked}
use Rattle.phase_stream.proofs.Ending.{known_same, status_ends, stream_ends}
use Rattle.phase_stream.proofs.cli.run_sinks.Goals as goal

pub returns-clause-status : goal.returns-clause-status
returns-clause-status g c =
    status_ends _ c.stream-done.result c.end.result c.end.ensures.done c.end.ensures.status

-- the files are known beside the graph where that is asked for, and a failure is told
pub returns-clause-ends : goal.returns-clause-ends
returns-clause-ends g c =
    let what = stream_asked c.args.call.now in
    let known = known_by what.beside what.graph (g.F.Files.file c.args.streams.now.files) in
    let moved = known_same (g.F.Files.file c.look_by.new.files) known c.look_by.ensures in
    stream_ends _ known what g.F.Opens.knows g.W.Write.contents g.F.Writer.Write.contents _ _ _
    c.stream-done.result c.end.result _ _ (rw moved at c.stream-done.ensures.done)
    (rw moved at c.stream-done.ensures.failed) c.end.ensures.done c.end.ensures.status
    c.end.ensures.told
