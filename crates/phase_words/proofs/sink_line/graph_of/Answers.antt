-- What was found for the word.
use Rattle.std.proofs.Common.{◌∙◌, [], codes, unwrap_or, ap}
use Rattle.clap.proofs.WalkLemmas.{first_value-rows}
use Rattle.clap.specs.Words.{found_of}
use Rattle.phase_words.proofs.Called.{now-unwrap_or}
use Rattle.phase_words.proofs.sink_line.graph_of.Goals as goal

pub returns : goal.returns
returns c =
    ap (λ s. s.now) c.unwrap_or.ensures ∙ (now-unwrap_or c.get_str.result _
    ∙ ap (λ o. unwrap_or o [])
    (c.get_str.ensures ∙ first_value-rows (found_of c.args.matches.now) (codes "graph")))
