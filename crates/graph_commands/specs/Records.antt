-- Where the records of a text of samples stand. A sample has no line end within, so up to the first
-- record that is none, line ends stand between records alone.
use Rattle.std.specs.Prelude.{◌≡◌, ◌<◌, ◌+◌, ◌-◌, ◌==◌, ◌&&◌, ◌||◌, not, ℕ, Bool, true, List, length, get_or, take, drop, unwrap_or}
use Rattle.std.specs.List.{count_by, filter, position_from, range_with_len}

-- the byte ends a record: it is an LF or a CR
abbrev pub is_end : ℕ → Bool
is_end b = b == 10 || b == 13

-- a record begins at this byte: it ends none, and is the first or stands behind one that does
abbrev pub begins_at : List ℕ → ℕ → Bool
begins_at text at =
    not (is_end (get_or text at 10)) && (at == 0 || is_end (get_or text (at - 1) 10))

-- record number n, counted from 1, begins at this byte
pub record IsStart (text : List ℕ) (number at : ℕ) : Type 0 where
  pub inside : at < length text
  pub begins : begins_at text at ≡ true
  pub number_is : number ≡ length (filter (begins_at text) (range_with_len 0 at)) + 1

-- the number of the line of a byte, counted from 1: one for each LF before it, and one
abbrev pub line_at : List ℕ → ℕ → ℕ
line_at text at = count_by (λ b. b == 10) (take at text) + 1

-- how many bytes a text has before the first that ends a record, or in all
abbrev pub up_to_end : List ℕ → ℕ
up_to_end text = unwrap_or (position_from is_end 0 text) (length text)

-- what is shown of the record that a text begins with: its first 60 bytes at most
abbrev pub shown_of : List ℕ → List ℕ
shown_of text = take 60 (take (up_to_end text) text)

-- and of the one that begins at this byte
abbrev pub shown_at : List ℕ → ℕ → List ℕ
shown_at text at = shown_of (drop at text)
