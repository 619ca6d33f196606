use Rattle.phase_words.specs.StreamLine.{stream_asked}
use Rattle.phase_stream.proofs.Targeting.{AreFirst}
use Rattle.phase_stream.proofs.sink.targets.Given as goal

-- the sinks of the output and of the files before this one go where they are asked for
abbrev pub invariant-loop-file : goal.invariant-loop-file
invariant-loop-file l = AreFirst l.job (stream_asked l.call) l.file-index l.targets.items
