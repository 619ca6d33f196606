-- What is put out, behind what waits to be written.
use Rattle.std.specs.Prelude.{◌≡◌, ℕ, List, ◌++◌}
use Rattle.std.specs.Io.KnownBytes.{Appends}
use Rattle.std.specs.Global.{Global}
use Rattle.std.specs.declared.option.Option.{Option}
use Rattle.std.specs.declared.vec.Vec.{Vec}

-- behind the bytes that waited these were put: the writer got the front of both, and the rest waits
pub record PutsBytes (old new : Option (List ℕ)) (before after bytes : List ℕ) : Type 0 where
  pub sent : List ℕ
  pub whole : before ++ bytes ≡ sent ++ after
  pub appends : Appends old new sent

-- the bytes of a part of a text
abbrev pub bytes_of : Vec ℕ Global → List ℕ
bytes_of part = part.items
