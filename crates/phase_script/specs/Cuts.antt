-- The lines of a script by its LFs alone, beside the definition that reads it byte by byte.
use Rattle.std.specs.Prelude.{◌≡◌, ◌≢◌, ℕ, List, [], ◌∷◌, ◌++◌, map}
use Rattle.std.specs.List.{All, flat_map}
use Rattle.phase_script.specs.Lines.{last_line, lines_of}
use Rattle.phase_base.specs.Lists.{without_cr}

-- no byte is an LF
abbrev pub HasNoLf : List ℕ → Type 0
HasNoLf = All (λ b. b ≢ 10)

-- the pieces, an LF behind each
abbrev pub ended : List (List ℕ) → List ℕ
ended = flat_map (λ piece. piece ++ 10 ∷ [])

-- the script is pieces with an LF behind each, and a rest
pub record IsCut (script : List ℕ) (pieces : List (List ℕ)) (rest : List ℕ) : Type 0 where
  pub whole : script ≡ ended pieces ++ rest
  pub pieces_have_none : All HasNoLf pieces
  pub rest_has_none : HasNoLf rest

-- the lines of a script are its pieces and its rest
abbrev pub LinesAreCutAtLf : Type 0
LinesAreCutAtLf = (script : List ℕ) (pieces : List (List ℕ)) (rest : List ℕ)
    → IsCut script pieces rest → lines_of script ≡ map without_cr pieces ++ last_line rest

-- every script has its pieces and its rest
abbrev pub EveryScriptIsCut : Type 0
EveryScriptIsCut = (script : List ℕ)
    → (pieces : List (List ℕ)) × (rest : List ℕ) × IsCut script pieces rest
