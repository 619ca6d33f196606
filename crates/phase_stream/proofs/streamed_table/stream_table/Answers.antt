-- A stream that did not begin.
use Rattle.std.proofs.Common.{inl, refl}
use Rattle.phase_words.specs.StreamLine.{stream_asked}
use Rattle.phase_stream.proofs.FirstTables.{unread_table}
use Rattle.phase_stream.proofs.streamed_table.stream_table.Goals as goal

pub returns-in-Err-clause-failed : goal.returns-in-Err-clause-failed
returns-in-Err-clause-failed g c =
    inl (
      unread_table (g.F.Files.file c.args.files.now) (stream_asked c.args.call.now).graph
          c.in-Err.failure c.in-Err.ensures.failed,
      refl,
    )
