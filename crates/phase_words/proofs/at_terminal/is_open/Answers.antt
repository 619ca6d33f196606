-- The words as texts.
use Rattle.std.proofs.Common.{◌∙◌, ◌&&◌, ap₂, sym}
use Rattle.std.specs.Prelude.{not, string_bytes}
use Rattle.clap.proofs.WalkLemmas.{list_any-map}
use Rattle.phase_words.specs.AtTerminal.{settles}
use Rattle.phase_words.proofs.at_terminal.is_open.Goals as goal

pub returns-then-is_on_graph : goal.returns-then-is_on_graph
returns-then-is_on_graph c =
    sym (ap₂ (λ a b. a && not b) (sym c.is_on_graph.ensures ∙ c.if-is_on_graph.true)
    (sym (c.settle.ensures ∙ list_any-map settles string_bytes c.args.behind.now)))
