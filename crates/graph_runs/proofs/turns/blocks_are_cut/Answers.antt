-- By what the task has begun.
use Rattle.graph_base.specs.Graphs.{task_at}
use Rattle.graph_runs.proofs.Blocks.{block_some, block_few, block_most, block_before, may_go_on}
use Rattle.graph_runs.proofs.turns.blocks_are_cut.Goals as goal

pub returns-clause-some : goal.returns-clause-some
returns-clause-some c = λ job m t is ran there uncut.
    block_some (task_at job.graph t).block job m t (ran.tasks t there) (is.tasks t there).block.some
    uncut

pub returns-clause-few : goal.returns-clause-few
returns-clause-few c = λ job m t. block_few (task_at job.graph t).block job m t

pub returns-clause-until : goal.returns-clause-until
returns-clause-until c = λ job m t. block_most (task_at job.graph t).block job m t

pub returns-clause-children : goal.returns-clause-children
returns-clause-children c = λ job m t d u there e by later.
    block_before (task_at job.graph t).block job m t d u there e by later

pub returns-clause-may_begin : goal.returns-clause-may_begin
returns-clause-may_begin c = λ job m t steps is ran there none due low most samples.
    may_go_on (task_at job.graph t).block job m t steps is (ran.tasks t there) there none due low most samples
