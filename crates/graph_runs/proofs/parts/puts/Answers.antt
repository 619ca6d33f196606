-- With the values behind the others that were put.
use Rattle.graph_runs.specs.Moves.{further}
use Rattle.graph_runs.specs.Turned.{after_signals}
use Rattle.graph_runs.proofs.PartsLemmas.{with_history, puts_values, puts_samples}
use Rattle.graph_runs.proofs.parts.puts.Goals as goal

pub returns-clause-values : goal.returns-clause-values
returns-clause-values c = λ job m t j p n vs before is there part sees next. (
  after_signals job t j p n vs (m.begun t) (with_history p before m),
  puts_values job m t p n before is there part j vs sees next,
)

pub returns-clause-samples : goal.returns-clause-samples
returns-clause-samples c = λ job m t j p n vs before is there part sees next. (
  after_signals job t j p n vs (further (m.begun t) vs) (with_history p before m),
  puts_samples job m t p n before is there part j vs sees next,
)
