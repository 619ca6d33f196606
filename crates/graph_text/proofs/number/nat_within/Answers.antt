use Rattle.phase_base.proofs.Numbers.{nat_is, nat_past}
use Rattle.graph_text.proofs.number.nat_within.Goals as goal

-- a word that is a number is read as what its digits write, within the limit
pub returns-clause-some : goal.returns-clause-some
returns-clause-some c = nat_is c.args.limit c.args.word.now c.nat.result c.nat.ensures.value

-- and it is past the limit where it is not read
pub returns-clause-none : goal.returns-clause-none
returns-clause-none c =
    nat_past c.args.limit c.args.word.now c.nat.result c.requires.nat c.nat.ensures.value
