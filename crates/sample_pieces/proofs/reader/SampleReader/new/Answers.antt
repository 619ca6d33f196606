-- Nothing was read.
use Rattle.std.proofs.Common.{[], refl, true, false, ◌≡◌, sym, arith}
use Rattle.csv.specs.Reading.{strip_bom}
use Rattle.sample_pieces.proofs.reader.SampleReader.new.Goals as goal

nothing : strip_bom [] ≡ []
unfolding strip_bom
nothing = refl

pub returns : goal.returns
returns c = record {
  sends = tt;
  scan = rw (nothing, c.new.ensures) refl;
  first = λ e. (sym c.new.ensures, omega arith, refl);
  marked = λ e. let no : true ≡ false = e in absurd (cc);
}
