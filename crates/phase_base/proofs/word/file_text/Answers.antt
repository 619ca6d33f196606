use Rattle.phase_base.proofs.Ascii.{file_is_text}
use Rattle.phase_base.proofs.word.file_text.Goals as goal

-- the bytes of the word are ASCII
pub unreachable-requires : goal.unreachable-requires
unreachable-requires c = c.in-Err.ensures.cases.0 (file_is_text c.args.word.now c.requires)
