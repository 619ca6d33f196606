-- The reader of all numbers reads just the texts of those within its limit.
use Rattle.graph_lang.proofs.Digits.{value_found, value_other}
use Rattle.sample_pieces.proofs.number.value_of.Goals as goal

pub returns-clause-some : goal.returns-clause-some
returns-clause-some c = value_found c.args.word.now c.int.result c.int.ensures.value

pub returns-clause-none : goal.returns-clause-none
returns-clause-none c = value_other c.args.word.now c.int.result c.int.ensures.value
