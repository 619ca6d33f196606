use Rattle.std.proofs.Common.{◌≡◌, ◌∙◌, ◌<◌, ◌+◌, ◌-◌, inl, ap, subst, length, map, arith}
use Rattle.std.proofs.lemmas.Result.{IfOk-weaker}
use Rattle.phase_base.specs.Lists.{without_cr}
use Rattle.graph_text.specs.Plain.{plain}
use Rattle.graph_lang.specs.Reads.{version_of}
use Rattle.graph_show.specs.Explanations.{ExplainsKind}
use Rattle.graph_show.proofs.Lines.{explains-line}
use Rattle.graph_show.proofs.explained.explanation.Goals as goal

-- the text has a line of that number, and it is marked
pub returns : goal.returns
returns c =
    let lines = c.in_ok-lines.lines.items in
    let line = c.args.fault.line in
    let counted : line - 1 + 1 ≡ line = omega (arith, c.if-fault-eq0.false) in
    let same = c.in_ok-version_of.ensures
    ∙ ap (λ lines. version_of (map without_cr lines))
    (ap plain c.deref-3.ensures.value ∙ c.in_ok-lines.ensures) in
    let within : line - 1 < length lines =
    omega (arith, c.len.ensures, c.if-fault-eq0.false, c.if-fault-len.false) in
    IfOk-weaker c.line_explained.result _ _
    (λ more marks. inl (explains-line c.args.text.now c.args.fault lines c.index.result.now
    c.without_cr.result.now more.items c.in_ok-lines.ensures within counted c.index.ensures
    c.without_cr.ensures (subst (λ version. ExplainsKind version c.args.fault.kind
    c.without_cr.result.now more.items) same marks))) c.line_explained.ensures
