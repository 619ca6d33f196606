-- A reader that gives a text, chunk after chunk.
use Rattle.std.proofs.Common.{◌≡◌, ◌∙◌, ℕ, ◌-◌, ◌<◌, ◌≤◌, List, ◌++◌, length, ap, arith, length-append, take, drop, append-nil}
use Rattle.std.proofs.lemmas.List.{length-take-le, take_at}
use Rattle.std.specs.Io.KnownBytes.{Consumes, IsAtEnd}
use Rattle.watched_io.specs.Watched.{CountsUp}
use Rattle.watched_io.specs.States.{ReaderState, Gives, ReadsAll, ReadsTooMuch, ReadsWithin}
use Rattle.watched_io.specs.declared.text.TheConstants.{CHUNK_MAX}
use Rattle.watched_io.proofs.Giving.{gives_more, reads_too_much}

-- bytes, and then a chunk
pub gives_chunk : (old mid new : ReaderState) (n : ℕ) (bytes chunk : List ℕ) → Gives old mid bytes
    → Consumes mid.unread new.unread (take n chunk) → CountsUp mid.count new.count n → n ≤ length chunk → Gives old new (bytes ++ take n chunk)
gives_chunk old mid new n bytes chunk p read counted fits =
    gives_more old mid new bytes (take n chunk) p
    (record { read = read; counted = omega (arith, counted, length-take-le n chunk fits) })

-- a text, and then the end
pub reads_all : (limit : ℕ) (old mid new : ReaderState) (n : ℕ) (text chunk : List ℕ) → Gives old mid text
    → length text ≤ limit → n ≡ 0 → Consumes mid.unread new.unread (take n chunk) × (n ≡ 0 → 0 < length chunk → IsAtEnd new.unread)
    → CountsUp mid.count new.count n → 0 < length chunk → ReadsAll limit old new text
reads_all limit old mid new n text chunk p short none read counted some =
    let gives = gives_chunk old mid new n text chunk p read.0 counted (omega arith) in
    let same : text ++ take n chunk ≡ text = rw none (append-nil text) in
    record { gives = rw same at gives; ends = read.1 none some; short = short }

-- a text, and then more than may come
pub reads_past : (limit : ℕ) (old mid new : ReaderState) (n : ℕ) (text chunk : List ℕ) → Gives old mid text
    → length text ≤ limit → limit - length text < n → Consumes mid.unread new.unread (take n chunk) → CountsUp mid.count new.count n
    → n ≤ length chunk → length chunk ≡ CHUNK_MAX → ReadsTooMuch limit CHUNK_MAX old new
reads_past limit old mid new n text chunk p short much read counted fits room =
    let size = length-append text (take n chunk) in
    let taken = length-take-le n chunk fits in
    reads_too_much limit CHUNK_MAX old new (text ++ take n chunk)
    (gives_chunk old mid new n text chunk p read counted fits) (omega arith) (omega arith)

-- a text, and then a chunk that may come
pub reads_within : (limit : ℕ) (old mid new : ReaderState) (n : ℕ) (text chunk : List ℕ) → Gives old mid text
    → length text ≤ limit → n ≤ limit - length text → Consumes mid.unread new.unread (take n chunk) → CountsUp mid.count new.count n
    → n ≤ length chunk → ReadsWithin limit old new
reads_within limit old mid new n text chunk p short room read counted fits =
    let size = length-append text (take n chunk) in
    let taken = length-take-le n chunk fits in
    record {
      text = text ++ take n chunk;
      gives = gives_chunk old mid new n text chunk p read counted fits;
      short = omega arith;
    }

-- the bytes that a read put at a buffer's beginning stand there afterwards
pub take-written : (count len : ℕ) (written items now : List ℕ) → now ≡ take len (written ++ drop (length written) items) → length written ≡ len
    → take count now ≡ take count written
take-written count len written items now e long = ap (take count) (e ∙ take_at written (drop (length written) items) len long)
