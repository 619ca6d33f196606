-- The nodes of a drawing, by the parts that are put one behind another.
use Rattle.std.proofs.Common.{◌≡◌, ◌++◌, List, ℕ, ap, ◌∙◌, refl}
use Rattle.graph_show.specs.Drawings.{node, node_end, node_start}
use Rattle.graph_show.proofs.Growing.{behind}

-- a start, notes and an end are a node
pub whole-node : (before start notes name shape said name_is said_is : List ℕ)
    → start ≡ before ++ node_start name shape → notes ≡ start ++ said
    → name ≡ name_is → said ≡ said_is
    → notes ++ node_end ≡ before ++ node name_is shape said_is
whole-node before start notes name shape said name_is said_is first second n s =
    behind before start (notes ++ node_end) (node_start name shape) (said ++ node_end) first
    (behind start notes (notes ++ node_end) said node_end second refl)
    ∙ ap (λ x. before ++ (node_start x shape ++ (said ++ node_end))) n
    ∙ ap (λ x. before ++ (node_start name_is shape ++ (x ++ node_end))) s
