use Rattle.std.proofs.Common.{arith}
use Rattle.worker_pool.proofs.Sets.{one_has}
use Rattle.worker_pool.proofs.number_set.NumberSet.of.Goals as goal

-- the bit of the remainder alone is set
pub returns : goal.returns
returns c = λ n. one_has _ (omega arith) n
