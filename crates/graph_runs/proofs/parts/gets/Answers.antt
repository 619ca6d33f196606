-- With what it was answered behind the others that were taken.
use Rattle.std.proofs.Common.{[], ◌∷◌}
use Rattle.graph_runs.specs.Moves.{further}
use Rattle.graph_runs.specs.Turned.{after_waits}
use Rattle.graph_runs.proofs.PartsLemmas.{with_history, gets_first, gets_exchange}
use Rattle.graph_runs.proofs.parts.gets.Goals as goal

pub returns-clause-first : goal.returns-clause-first
returns-clause-first c = λ job m t k p n outcomes before is there part sees answered next. (
  after_waits t k p n outcomes (further (m.begun t) outcomes) (with_history p before m),
  gets_first job m t p n before is there part outcomes sees answered k next,
)

pub returns-clause-exchange : goal.returns-clause-exchange
returns-clause-exchange c = λ job m t p n outcome before is there part sees answered next. (
  after_waits t 1 p n (outcome ∷ []) (m.begun t) (with_history p before m),
  gets_exchange job m t p n before is there part outcome sees answered next,
)
