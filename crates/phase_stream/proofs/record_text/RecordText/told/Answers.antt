-- The line of the record at hand.
use Rattle.std.proofs.Common.{◌++◌, ap, subst, sym, ◌∙◌}
use Rattle.graph_commands.specs.Explained.{TellsFrom}
use Rattle.phase_stream.proofs.record_text.RecordText.told.Goals as goal

pub returns-in-Ok : goal.returns-in-Ok
returns-in-Ok c = λ text kept. record {
  before = kept.before;
  text = c.deref.result.now;
  is = kept.text_is ∙ ap (λ l. kept.before ++ l) (sym c.deref.ensures.value);
  tells = subst
      (λ n. TellsFrom c.deref.result.now c.args.file.now c.args.number n c.in-Ok.told.items)
      kept.line_is c.in-Ok.ensures;
}
