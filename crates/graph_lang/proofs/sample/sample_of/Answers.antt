use Rattle.std.proofs.Common.{arith}
use Rattle.csv.specs.Records.{fields_of}
use Rattle.graph_lang.proofs.Fields.{only_field, some_field, some_sample, no_sample}
use Rattle.graph_lang.proofs.sample.sample_of.Goals as goal

pub returns-in-None-clause-none : goal.returns-in-None-clause-none
returns-in-None-clause-none c v within e = some_field (fields_of c.args.row.now) (omega (arith, c.if-fields-ne1.false, c.len-fields.ensures)) c.in-None.ensures.value

pub returns-in-Some-clause-some : goal.returns-in-Some-clause-some
returns-in-Some-clause-some c =
    let one = only_field (fields_of c.args.row.now) c.in-Some.field.now (omega (arith, c.if-fields-ne1.false, c.len-fields.ensures)) c.in-Some.ensures.value in
    some_sample c.value_of.result (fields_of c.args.row.now) c.in-Some.field.now one c.value_of.ensures.some

pub returns-in-Some-clause-none : goal.returns-in-Some-clause-none
returns-in-Some-clause-none c =
    let one = only_field (fields_of c.args.row.now) c.in-Some.field.now (omega (arith, c.if-fields-ne1.false, c.len-fields.ensures)) c.in-Some.ensures.value in
    no_sample c.value_of.result (fields_of c.args.row.now) c.in-Some.field.now one c.value_of.ensures.none
