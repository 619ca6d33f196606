-- As far as the piece was read.
use Rattle.std.proofs.Common.{◌≡◌, ◌≤◌, ◌-◌, ◌++◌, ℕ, ℤ, List, length, take, drop}
use Rattle.sample_pieces.specs.Pieces.{HasRead}
use Rattle.sample_pieces.proofs.reader.SampleReader.read.Given as goal

abbrev pub invariant-loop-bytes : goal.invariant-loop-bytes
invariant-loop-bytes l =
    (l.values ≤ length l.out) × (length l.out ≡ length l.fn.out)
    × (drop l.values l.out ≡ drop l.values l.fn.out)
    × ((text : List ℕ) (values : List ℤ) → HasRead text values l.fn.self
    → HasRead (text ++ take l.bytes l.piece) (values ++ take l.values l.out) l.self)
    × (l.bytes ≤ length l.piece)

-- the bytes that are left
abbrev pub decreases-loop-bytes : goal.decreases-loop-bytes
decreases-loop-bytes l = length l.piece - l.bytes
