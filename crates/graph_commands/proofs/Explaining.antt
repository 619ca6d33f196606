-- What is said further of a fault, and the graph of a file's text.
use Rattle.std.specs.Global.{Global}
use Rattle.std.specs.Prelude.{Vec}
use Rattle.std.proofs.Common.{◌≡◌, ℕ, List, [], ◌∷◌, ◌++◌, map, Ok, refl, ap, ◌∙◌}
use Rattle.std.specs.List.{flat_map}
use Rattle.graph_base.specs.Graphs.{Graph}
use Rattle.graph_commands.specs.Explained.{AreFurtherLines, IsTextOf, further_line}
use Rattle.graph_commands.specs.FileJobs.{IsGraphOf, Known}
use Rattle.graph_lang.specs.Reads.{ReadsText}
use Rattle.graph_text.specs.Texts.{lines_of}

-- the graph of a file's text is that of the file
pub graph-of-text : (known : Known) (name text : List ℕ) (graph : Graph) → IsTextOf known name text
    → ReadsText (lines_of text) (Ok graph) → IsGraphOf known name graph
graph-of-text known name text graph of reads =
    record { text = text; bytes = of.bytes; short = of.short; reads = reads }

-- ---- lines for a person

-- the lines of these are those of their texts
pub lines-of-texts : (texts : List (Vec ℕ Global))
    → flat_map (λ text. further_line text.items) texts ≡ flat_map further_line (map (λ text. text.items) texts)
lines-of-texts [] = refl
lines-of-texts (text ∷ texts) = ap (λ more. further_line text.items ++ more) (lines-of-texts texts)

-- so texts that are laid out are lines for a person
pub laid-out : (texts : List (Vec ℕ Global)) (more : List ℕ)
    → more ≡ flat_map (λ text. further_line text.items) texts → AreFurtherLines more
laid-out texts more is = record {
  texts = map (λ text. text.items) texts;
  are = is ∙ lines-of-texts texts;
}
