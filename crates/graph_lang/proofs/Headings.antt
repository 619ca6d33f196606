-- The heading of a text.
use Rattle.std.proofs.Common.{◌≡◌, ℕ, List, [], ◌∷◌, Bool, true, false, if◌then◌else◌, Some, None, is_some, bytes_eq, codes, ◌&&◌, ap, refl}
use Rattle.phase_base.specs.Words.{Word}
use Rattle.graph_text.specs.Texts.{words_of_line, is_ignored}
use Rattle.graph_text.specs.Versions.{heading_of}
use Rattle.graph_text.specs.declared.version.Version.TheVariants.{One, Two, Three}
use Rattle.graph_lang.specs.Reads.{or_one, version_of, without_heading}

-- no heading tells the first version
later : (words : List Word) → or_one (heading_of words) ≡ One → is_some (heading_of words) ≡ false
later [] e = refl
later (first ∷ []) e = refl
later (first ∷ second ∷ []) e =
    at (bytes_eq first (codes "graph") && bytes_eq second (codes "2"))
    (bytes_eq first (codes "graph") && bytes_eq second (codes "3")) e
  where
    at : (two three : Bool) → or_one (if two then Some Two else if three then Some Three else None) ≡ One
        → is_some (if two then Some Two else if three then Some Three else None) ≡ false
    at true three e = let clash : Two ≡ One = e in absurd (cc)
    at false true e = let clash : Three ≡ One = e in absurd (cc)
    at false false e = refl
later (first ∷ second ∷ third ∷ words) e = refl

-- the lines of a text with no heading are read as they stand
pub no_heading : (lines : List (List ℕ)) → version_of lines ≡ One → without_heading lines ≡ lines
no_heading [] e = refl
no_heading (line ∷ lines) e = at (no_heading lines) (is_ignored line) e
  where
    at : (version_of lines ≡ One → without_heading lines ≡ lines) → (ignored : Bool)
        → (if ignored then version_of lines else or_one (heading_of (words_of_line line))) ≡ One
        → (if ignored then line ∷ without_heading lines
        else (if is_some (heading_of (words_of_line line)) then [] else line) ∷ lines) ≡ line ∷ lines
    at rest true e = ap (λ lines. line ∷ lines) (rest e)
    at rest false e = rw (later (words_of_line line) e) refl
