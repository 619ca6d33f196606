-- The first round has no samples before it.
use Rattle.std.proofs.Common.{◌≡◌, [], sym, subst, rules, arith}
use Rattle.graph_lang.specs.PlainLines.{ArePlainLines}
use Rattle.phase_eval.proofs.texts.ByThreads.read.Goals as goal

pub loop-from-init : goal.loop-from-init
loop-from-init g c =
    let none : c.in-Ok.values.items ≡ [] = search rules in
    record {
      within = omega arith;
      lines = subst (ArePlainLines c.args.text.now 0 0) (sym none)
          (c.parts_have_samples.ensures.none c.args.text.now 0);
    }
