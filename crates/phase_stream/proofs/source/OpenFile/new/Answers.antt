-- Nothing was read of it.
use Rattle.std.proofs.Common.{false, refl, sym, subst}
use Rattle.std.specs.Io.KnownBytes.{Keeps}
use Rattle.phase_stream.proofs.Reading.{opened_file}
use Rattle.phase_stream.proofs.source.OpenFile.new.Goals as goal

pub returns : goal.returns
returns g c = λ known keeps.
    opened_file g.R.Read.remaining known
    (record { input = c.new.result; reader = c.new-2.result; is_bad = false; count = 0; text = c.first_text.result })
    (subst (λ r. Keeps known (g.R.Read.remaining r)) (sym c.new.ensures.inner) keeps)
    c.new-2.ensures refl refl c.first_text.ensures
