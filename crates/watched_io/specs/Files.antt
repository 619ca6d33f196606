-- What is known of a file beforehand: its bytes, or nothing.
use Rattle.std.specs.Prelude.{ℕ, ◌≡◌, ◌<◌, ◌≤◌, List, length, ⊤, None, Some}
use Rattle.std.specs.declared.option.Option.{Option}

-- the text is that of the file, where that is known
abbrev pub HasBytes : Option (List ℕ) → List ℕ → Type 0
HasBytes None text = ⊤
HasBytes (Some bytes) text = text ≡ bytes

-- the file may be refused: it is longer than the limit, or nothing is known of it
abbrev pub MayBeRefused : ℕ → Option (List ℕ) → Type 0
MayBeRefused limit None = ⊤
MayBeRefused limit (Some bytes) = limit < length bytes

-- memory may run out over the file: it is not longer than the limit, or nothing is known of it
abbrev pub MayNeedMemory : ℕ → Option (List ℕ) → Type 0
MayNeedMemory limit None = ⊤
MayNeedMemory limit (Some bytes) = length bytes ≤ limit
