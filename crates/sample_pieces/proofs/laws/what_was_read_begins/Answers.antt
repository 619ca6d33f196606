use Rattle.sample_pieces.proofs.Begins.{values_begin}
use Rattle.sample_pieces.proofs.laws.what_was_read_begins.Goals as goal

pub returns : goal.returns
returns c = values_begin
