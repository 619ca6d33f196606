-- What the code keeps while it reads samples: the part of a text that is read, and the lines that
-- it begins with.
use Rattle.std.specs.Prelude.{ℕ, ℤ, ◌≤◌, ◌≡◌, ◌<◌, List, length, drop, ◌⊎◌, [], ◌∷◌, ◌++◌}
use Rattle.std.specs.Fmt.{decimal, signed_decimal}
use Rattle.phase_accum.specs.Sends.{IsSend, value_max}

-- the part is up to a comma and with it
pub record EndsWithComma (text part : List ℕ) : Type 0 where
  pub front : List ℕ
  pub back : List ℕ
  pub part_is : part ≡ front ++ (44 ∷ [])
  pub text_is : text ≡ front ++ (44 ∷ back)

-- the part is the whole text, or up to a comma
abbrev pub IsThroughComma : List ℕ → List ℕ → Type 0
IsThroughComma text part = (part ≡ text) ⊎ EndsWithComma text part

-- these bytes end a line, before the rest: a line feed with a return before it or without, or
-- nothing at the end of the text
abbrev pub EndsLine : List ℕ → List ℕ → Type 0
EndsLine end rest = (end ≡ 10 ∷ []) ⊎ (end ≡ 13 ∷ 10 ∷ []) ⊎ ((end ≡ []) × (rest ≡ []))

-- the text begins with this word and the end of a line, together so many bytes
pub record BeginsWithWord (text word : List ℕ) (size : ℕ) : Type 0 where
  pub end : List ℕ
  pub ends : EndsLine end (drop size text)
  pub text_is : text ≡ word ++ (end ++ drop size text)
  pub within : size ≤ length text

-- the text begins with a line of this number, of so many bytes
pub record BeginsWithCount (text : List ℕ) (count size : ℕ) : Type 0 where
  pub few : count ≤ value_max
  pub some : 0 < size
  pub line : BeginsWithWord text (decimal count) size

-- the text begins with a line of this value, of so many bytes
pub record BeginsWithLine (text : List ℕ) (value : ℤ) (size : ℕ) : Type 0 where
  pub send : IsSend value
  pub some : 0 < size
  pub line : BeginsWithWord text (signed_decimal value) size
