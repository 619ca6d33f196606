-- A stream that did not begin, or went on.
use Rattle.std.proofs.Common.{inl, refl}
use Rattle.phase_words.specs.StreamLine.{stream_asked}
use Rattle.phase_stream.proofs.Ending.{none_bare, unread_unbegun}
use Rattle.phase_stream.proofs.streamed.stream.Goals as goal

pub returns-in-Err-clause-failed : goal.returns-in-Err-clause-failed
returns-in-Err-clause-failed g c =
    inl (
      unread_unbegun (g.F.Files.file c.args.files.now) (stream_asked c.args.call.now) c.in-Err.failure
          c.in-Err.ensures.failed,
      refl,
      none_bare g.F.Opens.knows g.F.Writer.Write.contents c.args.made.now.items c.requires,
      inl c.requires,
    )
