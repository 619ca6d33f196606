-- With the drop on the phaser.
use Rattle.graph_runs.specs.Turned.{after_leave}
use Rattle.graph_runs.proofs.PartsLemmas.{with_history, left_phaser}
use Rattle.graph_runs.proofs.parts.leaves.Goals as goal

pub returns : goal.returns
returns c = λ job m t p n before is there part sees ended none. (
  after_leave p n (with_history p before m),
  left_phaser job m t p n before is there part sees ended none,
)
