use Rattle.std.proofs.Common.{refl, arith, ◌%◌}
use Rattle.std.proofs.lemmas.List.{get_or-replicate}
use Rattle.worker_pool.proofs.event_counts.EventCounts.new.Goals as goal

-- each count is 0
pub returns : goal.returns
returns c = record { next = refl; none = λ p. get_or-replicate 64 (p % 64) 0 0 (omega arith) }
