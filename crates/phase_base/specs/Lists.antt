-- Plain words on lists, of which several crates speak.
use Rattle.std.specs.Prelude.{ℕ, ◌-◌, List, [], ◌∷◌, Option, Some, None, Bool, true, not, ◌&&◌, ◌==◌, length, take, slice_index, if◌then◌else◌}
use Rattle.std.specs.List.{list_any}

-- the answer of a table: its first row that applies
abbrev pub first_row : {R : Type 0} → List (Bool × R) → Option R
first_row [] = None
first_row (row ∷ rows) = if row.0 then Some row.1 else first_row rows

-- whether the number stands in the list
abbrev pub is_in : ℕ → List ℕ → Bool
is_in number numbers = list_any (λ other. other == number) numbers

-- whether no number stands in the list twice
abbrev pub is_distinct : List ℕ → Bool
is_distinct [] = true
is_distinct (number ∷ numbers) = not (is_in number numbers) && is_distinct numbers

-- the bytes of a line, less one carriage return at their end
abbrev pub without_cr : List ℕ → List ℕ
without_cr line =
    if slice_index line (length line - 1) == 13 then take (length line - 1) line else line
