-- What a reader gave, from one state to the next.
use Rattle.std.proofs.Common.{◌≡◌, ℕ, ◌+◌, ◌<◌, ◌≤◌, List, [], ◌++◌, None, Some, IfSome, length, ap, arith, length-append}
use Rattle.std.specs.Io.KnownBytes.{Consumes, Keeps}
use Rattle.std.proofs.KnownBytes.{Consumes-nil, Consumes-trans, Consumes-kept}
use Rattle.std.specs.declared.option.Option.{Option}
use Rattle.watched_io.specs.States.{ReaderState, Gives, ReadsTooMuch, ReadsWithin}

-- no bytes
pub gives_none : (state : ReaderState) → Gives state state []
gives_none state = record { read = Consumes-nil state.unread; counted = omega arith }

-- no bytes, by a read that failed
pub gives_kept : (old new : ReaderState) → Keeps old.unread new.unread → new.count ≡ old.count → Gives old new []
gives_kept old new keeps same = record {
  read = Consumes-kept old.unread old.unread new.unread [] (Consumes-nil old.unread) keeps;
  counted = omega (arith, same);
}

-- bytes, and then more
pub gives_more : (old mid new : ReaderState) (bytes more : List ℕ) → Gives old mid bytes → Gives mid new more → Gives old new (bytes ++ more)
gives_more old mid new bytes more p q = record {
  read = Consumes-trans old.unread mid.unread new.unread bytes more p.read q.read;
  counted = omega (arith, p.counted, q.counted, length-append bytes more);
}

-- a text of which too much was given is too long
known_long : (limit : ℕ) (unread rest : Option (List ℕ)) (text : List ℕ) → Consumes unread rest text → limit < length text
    → IfSome unread (λ all. limit < length all)
known_long limit None rest text read long = tt
known_long limit (Some xs) None text read long = absurd read
known_long limit (Some xs) (Some ys) text read long =
    let same : length xs ≡ length (text ++ ys) = ap length read in
    omega (arith, length-append text ys, long)

pub reads_too_much : (limit piece : ℕ) (old new : ReaderState) (text : List ℕ) → Gives old new text → limit < length text
    → length text ≤ limit + piece → ReadsTooMuch limit piece old new
reads_too_much limit piece old new text gives long short = record {
  text = text;
  gives = gives;
  long = long;
  short = short;
  known = known_long limit old.unread new.unread text gives.read long;
}

-- nothing was given
pub reads_nothing : (limit : ℕ) (state : ReaderState) → ReadsWithin limit state state
reads_nothing limit state = record { text = []; gives = gives_none state; short = omega arith }
