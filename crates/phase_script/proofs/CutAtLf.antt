-- A script is cut at its LFs.
use Rattle.std.proofs.Common.{◌≡◌, ◌≢◌, ℕ, List, [], ◌∷◌, ◌++◌, map, false, nat_eq, refl, sym, ◌∙◌, ap, append_assoc, append-nil, inl, inr}
use Rattle.std.proofs.lemmas.Bool.{ne_eqb, cases_eq}
use Rattle.std.proofs.lemmas.List.Elements.{All-nil, All-cons, All-head, All-tail}
use Rattle.std.specs.List.{All}
use Rattle.phase_script.specs.Lines.{last_line, lines_after, lines_of}
use Rattle.phase_base.specs.Lists.{without_cr}
use Rattle.phase_script.specs.Cuts.{HasNoLf, ended, IsCut, LinesAreCutAtLf, EveryScriptIsCut}

abbrev is_other : ℕ → Type 0
is_other b = b ≢ 10

-- a byte other than LF goes to the prefix
lines_after-other : (prefix : List ℕ) (b : ℕ) (bs : List ℕ) → b ≢ 10 → lines_after prefix (b ∷ bs) ≡ lines_after (prefix ++ b ∷ []) bs
lines_after-other prefix b bs other = let no : nat_eq b 10 ≡ false = ne_eqb b 10 other in rw no refl

-- bytes with no LF go to the prefix
pub lines_after-prefix : (prefix bs later : List ℕ) → HasNoLf bs → lines_after prefix (bs ++ later) ≡ lines_after (prefix ++ bs) later
lines_after-prefix prefix [] later none = ap (λ l. lines_after l later) (sym (append-nil prefix))
lines_after-prefix prefix (b ∷ bs) later none =
    lines_after-other prefix b (bs ++ later) (All-head is_other b bs none)
    ∙ lines_after-prefix (prefix ++ b ∷ []) bs later (All-tail is_other b bs none)
    ∙ ap (λ l. lines_after l later) (append_assoc prefix (b ∷ []) bs)

-- at the end they are a last line
lines_after-rest : (prefix rest : List ℕ) → HasNoLf rest → lines_after prefix rest ≡ last_line (prefix ++ rest)
lines_after-rest prefix rest none = ap (lines_after prefix) (sym (append-nil rest)) ∙ lines_after-prefix prefix rest [] none

lines_after-ended : (pieces : List (List ℕ)) (rest : List ℕ) → All HasNoLf pieces → HasNoLf rest
    → lines_after [] (ended pieces ++ rest) ≡ map without_cr pieces ++ last_line rest
lines_after-ended [] rest all none = lines_after-rest [] rest none
lines_after-ended (piece ∷ pieces) rest all none =
    ap (lines_after []) (append_assoc (piece ++ 10 ∷ []) (ended pieces) rest ∙ append_assoc piece (10 ∷ []) (ended pieces ++ rest))
    ∙ lines_after-prefix [] piece (10 ∷ (ended pieces ++ rest)) (All-head HasNoLf piece pieces all)
    ∙ ap (λ lines. without_cr piece ∷ lines) (lines_after-ended pieces rest (All-tail HasNoLf piece pieces all) none)

pub lines_cut : LinesAreCutAtLf
unfolding lines_of
lines_cut script pieces rest cut =
    ap (lines_after []) cut.whole ∙ lines_after-ended pieces rest cut.pieces_have_none cut.rest_has_none

-- a byte before a cut script
cut_before : (b : ℕ) (script : List ℕ) (pieces : List (List ℕ)) (rest : List ℕ) → b ≢ 10 → IsCut script pieces rest
    → (more : List (List ℕ)) × (left : List ℕ) × IsCut (b ∷ script) more left
cut_before b script [] rest other cut = (
  [],
  b ∷ rest,
  record {
    whole = ap (λ l. b ∷ l) cut.whole;
    pieces_have_none = All-nil HasNoLf;
    rest_has_none = All-cons is_other b rest other cut.rest_has_none;
  },
)
cut_before b script (piece ∷ pieces) rest other cut =
    let none = cut.pieces_have_none in (
      (b ∷ piece) ∷ pieces,
      rest,
      record {
        whole = ap (λ l. b ∷ l) cut.whole;
        pieces_have_none =
            All-cons HasNoLf (b ∷ piece) pieces
            (All-cons is_other b piece other (All-head HasNoLf piece pieces none))
            (All-tail HasNoLf piece pieces none);
        rest_has_none = cut.rest_has_none;
      },
    )

pub every_cut : EveryScriptIsCut
every_cut [] = ([], [], record { whole = refl; pieces_have_none = All-nil HasNoLf; rest_has_none = All-nil is_other })
every_cut (b ∷ bs) =
    let cut = every_cut bs in
    elim (cases_eq b 10) [
      | inl lf ↦ (
        [] ∷ cut.0,
        cut.1,
        record {
          whole = rw lf (ap (λ l. 10 ∷ l) cut.2.whole);
          pieces_have_none = All-cons HasNoLf [] cut.0 (All-nil is_other) cut.2.pieces_have_none;
          rest_has_none = cut.2.rest_has_none;
        },
      )
      | inr other ↦ cut_before b bs cut.0 cut.1 other cut.2
    ]
