-- With the history in its place.
use Rattle.graph_runs.proofs.PartsLemmas.{with_history, seen}
use Rattle.graph_runs.proofs.parts.others_come.Goals as goal

pub returns : goal.returns
returns c = λ job m t p n now is there part sees.
    (with_history p now m, seen job m t p n now sees is there part)
