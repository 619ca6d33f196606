-- What a writer got on the way.
use Rattle.std.proofs.Common.{◌≡◌, ℕ, ◌+◌, ◌-◌, ◌≤◌, List, [], ◌++◌, length, take, drop, sym, ◌∙◌, ap, subst, arith, append_assoc, length-drop, take-append-drop}
use Rattle.std.proofs.lemmas.List.{take_rest, length-take}
use Rattle.std.specs.Io.KnownBytes.{Appends, Keeps}
use Rattle.std.proofs.KnownBytes.{Appends-trans, Appends-kept}
use Rattle.std.specs.declared.option.Option.{Option}
use Rattle.watched_io.specs.Prefix.{AppendsPrefix}
use Rattle.std.proofs.Math.Seq.{take-add}

-- the first n bytes are a prefix
pub prefix_of_taken : (old new : Option (List ℕ)) (n : ℕ) (bs : List ℕ) → Appends old new (take n bs) → AppendsPrefix old new bs
prefix_of_taken old new n bs p = (take n bs, drop n bs, sym (take-append-drop n bs), p)

-- so they are where the last call kept what the writer holds
pub prefix_of_kept : (old mid new : Option (List ℕ)) (n : ℕ) (bs : List ℕ) → Appends old mid (take n bs) → Keeps mid new → AppendsPrefix old new bs
prefix_of_kept old mid new n bs p q = prefix_of_taken old new n bs (Appends-kept old mid new (take n bs) p q)

-- one more write, of what was left
pub written_more : (old mid new : Option (List ℕ)) (i n : ℕ) (bs : List ℕ) → Appends old mid (take i bs)
    → Appends mid new (take n (take (length bs - i) (drop i bs))) → Appends old new (take (i + n) bs)
written_more old mid new i n bs p q =
    let more : Appends mid new (take n (drop i bs)) = subst (λ l. Appends mid new (take n l)) (take_rest bs i) q in
    subst (Appends old new) (sym (take-add i n bs)) (Appends-trans old mid new (take i bs) (take n (drop i bs)) p more)

-- one more write takes no more than there is
pub written_within : (i n : ℕ) (bs : List ℕ) → i ≤ length bs → n ≤ length (take (length bs - i) (drop i bs)) → i + n ≤ length bs
written_within i n bs h k = omega (arith, length-drop i bs, length-take (length bs - i) (drop i bs))

-- a prefix of a prefix is one
pub prefix_of_prefix : (old new : Option (List ℕ)) (bs rest owed : List ℕ) → owed ≡ bs ++ rest → AppendsPrefix old new bs → AppendsPrefix old new owed
prefix_of_prefix old new bs rest owed e p = (p.0, p.1 ++ rest, e ∙ ap (λ l. l ++ rest) p.2 ∙ append_assoc p.0 p.1 rest, p.3)

-- one text was written, and of the next a prefix
pub prefix_after : (old mid new : Option (List ℕ)) (before bytes : List ℕ) → Appends old mid before
    → AppendsPrefix mid new bytes → AppendsPrefix old new (before ++ bytes)
prefix_after old mid new before bytes p q = (
  before ++ q.0,
  q.1,
  ap (λ l. before ++ l) q.2 ∙ sym (append_assoc before q.0 q.1),
  Appends-trans old mid new before q.0 p q.3,
)
