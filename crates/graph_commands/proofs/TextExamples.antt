-- The output text, worked out.
use Rattle.std.specs.Prelude.{ℕ, ℤ, pos, neg_ℤ, Some, None, ◌≡◌, refl, List, [], ◌∷◌, codes}
use Rattle.std.specs.Fmt.{digits}
use Rattle.graph_base.specs.Graphs.{Graph, no_graph}
use Rattle.graph_base.specs.declared.place.Place.TheVariants as place
use Rattle.graph_commands.specs.OutputTexts.{text_of}

-- a negative number
abbrev minus : ℕ → ℤ
minus n = neg_ℤ (pos n)

-- a graph whose task number 0 has this name
abbrev with_sink : List ℕ → Graph
with_sink name = record no_graph { names = (name, place.Task 0) ∷ [] }

text-rounds_down : text_of (with_sink (codes "out")) ((0, None, minus 1 ∷ minus 1 ∷ minus 1 ∷ []) ∷ [])
    ≡ codes "out 3\n-1\n-1\n-1\n"
unfolding digits
text-rounds_down = refl

text-no_samples : text_of (with_sink (codes "out")) ((0, None, []) ∷ []) ≡ codes "out 0\n"
unfolding digits
text-no_samples = refl

text-starts_late : text_of (with_sink (codes "late"))
    ((0, Some 2, pos 3 ∷ pos 4 ∷ []) ∷ []) ≡ codes "late from 2 2\n3\n4\n"
unfolding digits
text-starts_late = refl

text-starts_with_no_value : text_of (with_sink (codes "late")) ((0, Some 0, []) ∷ [])
    ≡ codes "late from 0 0\n"
unfolding digits
text-starts_with_no_value = refl

text-nothing : text_of no_graph [] ≡ []
text-nothing = refl
