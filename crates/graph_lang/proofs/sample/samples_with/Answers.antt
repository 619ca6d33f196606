-- What is read tells of the whole text.
use Rattle.std.proofs.Common.{arith}
use Rattle.std.proofs.lemmas.Result.{IfOk-weaker}
use Rattle.graph_lang.proofs.Commas.{bad-through, length-through, samples-through}
use Rattle.graph_lang.proofs.sample.samples_with.Goals as goal

pub returns-in-None-clause-ok : goal.returns-in-None-clause-ok
returns-in-None-clause-ok c =
    IfOk-weaker c.records_of.result _ _
    (λ values samples. samples-through c.args.text.now c.through_comma.result.now values.items c.through_comma.ensures.part samples)
    c.records_of.ensures.ok

pub returns-in-None-clause-values : goal.returns-in-None-clause-values
returns-in-None-clause-values c =
    let short = length-through c.args.text.now c.through_comma.result.now c.through_comma.ensures.part in
    IfOk-weaker c.records_of.result _ _ (λ values few. (few.0, omega (arith, few.1, short)))
    c.records_of.ensures.values

pub returns-in-None-clause-bad : goal.returns-in-None-clause-bad
returns-in-None-clause-bad c n is =
    bad-through c.args.text.now c.through_comma.result.now n c.through_comma.ensures.part (c.records_of.ensures.bad n is)
