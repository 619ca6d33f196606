-- At the moment that knows these histories and numbers alone.
use Rattle.graph_runs.proofs.RootBegins.{first_moment, first_is}
use Rattle.graph_runs.proofs.beginnings.roots_begin.Goals as goal

pub returns : goal.returns
returns c = λ job t numbers seen is there root all roots.
    (first_moment job t numbers seen, first_is job t numbers seen is there root all roots)
