-- By the text that was kept of the file.
use Rattle.std.proofs.Common.{subst}
use Rattle.std.specs.Prelude.{IfSome}
use Rattle.graph_lang.proofs.Grown.{weaken_some}
use Rattle.phase_stream.specs.Sources.{IsTextOfFile}
use Rattle.phase_stream.proofs.source.OpenFile.told.Goals as goal

pub returns-in-Some : goal.returns-in-Some
returns-in-Some g c = λ known kept.
    (let of : IsTextOfFile known c.in-Some.text =
    subst (λ o. IfSome o (IsTextOfFile known)) c.in-Some.is kept in
    weaken_some c.told.result _ _
    (λ lines tells. record { read = of.read; front = of.front; tells = tells })
    (c.told.ensures of.read of.stands))
