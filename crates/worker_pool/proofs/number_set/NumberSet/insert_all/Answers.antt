use Rattle.worker_pool.proofs.Sets.{or_has}
use Rattle.worker_pool.proofs.number_set.NumberSet.insert_all.Goals as goal

-- a bit of either is set
pub returns : goal.returns
returns c = λ n. or_has _ _ n
