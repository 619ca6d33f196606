-- The lines of a text, as the reader cuts them.
use Rattle.std.proofs.Common.{◌≡◌, ◌<◌, ◌+◌, ◌-◌, ◌∙◌, ℕ, List, Bor, length, map, get_or, Some, ap, sym, refl}
use Rattle.std.specs.List.{slice_get, slice_split}
use Rattle.std.proofs.lemmas.Option.{slice_get-get_or, slice_get-map}
use Rattle.graph_lang.specs.Reads.{version_of}
use Rattle.graph_lang.specs.declared.fault.GraphFault.{GraphFault}
use Rattle.graph_text.specs.Texts.{is_line_feed, lines_of}
use Rattle.phase_base.specs.Lists.{without_cr}
use Rattle.graph_show.specs.Explanations.{ExplainsKind, ExplainsLine}

-- a line of the text is the piece of that number, without the carriage return at its end
slice_get-lines_of : (text : List ℕ) (pieces : List (Bor (List ℕ))) (i : ℕ) (d : Bor (List ℕ))
    → map (λ x. x.now) pieces ≡ slice_split is_line_feed text → i < length pieces
    → slice_get (lines_of text) i ≡ Some (without_cr (get_or pieces i d).now)
slice_get-lines_of text pieces i d cut within =
    rw (
      slice_get-map without_cr (slice_split is_line_feed text) i,
      ← cut,
      slice_get-map (λ x. x.now) pieces i,
      slice_get-get_or pieces i d within,
    )
    refl

-- what explains the line of a fault explains the fault
pub explains-line : (text : List ℕ) (found : GraphFault) (pieces : List (Bor (List ℕ)))
    (piece : Bor (List ℕ)) (line more : List ℕ)
    → map (λ x. x.now) pieces ≡ slice_split is_line_feed text
    → found.line - 1 < length pieces → found.line - 1 + 1 ≡ found.line
    → piece ≡ get_or pieces (found.line - 1) piece → line ≡ without_cr piece.now
    → ExplainsKind (version_of (lines_of text)) found.kind line more → ExplainsLine text found more
explains-line text found pieces piece line more cut within counted piece_is line_is told = record {
  index = found.line - 1;
  line = line;
  numbered = counted;
  line_is = slice_get-lines_of text pieces (found.line - 1) piece cut within
      ∙ (ap (λ (p : Bor (List ℕ)). Some (without_cr p.now)) (sym piece_is) ∙ ap Some (sym line_is));
  explains = told;
}
