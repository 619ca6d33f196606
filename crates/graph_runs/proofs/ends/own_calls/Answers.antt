-- Phaser by phaser.
use Rattle.graph_runs.proofs.CallsFollow.{calls_seen, calls_put, calls_got, calls_left}
use Rattle.graph_runs.proofs.ends.own_calls.Goals as goal

pub returns-clause-seen : goal.returns-clause-seen
returns-clause-seen c = λ job m after t p n now is there. calls_seen job m after t p is there n now

pub returns-clause-put : goal.returns-clause-put
returns-clause-put c = λ job m after t p j n begun vs before is there.
    calls_put job m after t p is there j n begun vs before

pub returns-clause-got : goal.returns-clause-got
returns-clause-got c = λ job m after t p k n begun outcomes before is there.
    calls_got job m after t p is there k n begun outcomes before

pub returns-clause-left : goal.returns-clause-left
returns-clause-left c = λ job m after t p n before is there.
    calls_left job m after t p is there n before
