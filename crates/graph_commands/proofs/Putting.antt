-- Texts that are put one behind the other.
use Rattle.std.proofs.Common.{◌≡◌, ◌+◌, ℕ, List, [], ◌++◌, drop, sym, take, ◌∙◌, ap, append_assoc, append-nil, arith, take-append-drop}
use Rattle.std.proofs.lemmas.List.{drop-take, take-take}
use Rattle.std.specs.Io.KnownBytes.{Appends}
use Rattle.std.proofs.KnownBytes.{Appends-trans}
use Rattle.std.specs.declared.option.Option.{Option}
use Rattle.watched_io.specs.Prefix.{AppendsPrefix}
use Rattle.watched_io.proofs.Writing.{prefix_of_prefix}
use Rattle.graph_commands.specs.Puts.{PutsBytes}

-- all was written
pub Puts-all : (old mid new : Option (List ℕ)) (before bytes : List ℕ) → Appends old mid before
    → Appends mid new bytes → PutsBytes old new before [] bytes
Puts-all old mid new before bytes p q = record {
  sent = before ++ bytes;
  whole = sym (append-nil (before ++ bytes));
  appends = Appends-trans old mid new before bytes p q;
}

-- two puts put both texts
pub Puts-append : (old mid new : Option (List ℕ)) (before between after xs ys : List ℕ)
    → PutsBytes old mid before between xs → PutsBytes mid new between after ys
    → PutsBytes old new before after (xs ++ ys)
Puts-append old mid new before between after xs ys p q = record {
  sent = p.sent ++ q.sent;
  whole = sym (append_assoc before xs ys)
      ∙ (ap (λ l. l ++ ys) p.whole ∙ (append_assoc p.sent between ys
      ∙ (ap (λ l. p.sent ++ l) q.whole ∙ sym (append_assoc p.sent q.sent after))));
  appends = Appends-trans old mid new p.sent q.sent p.appends q.appends;
}

-- the first text was put, and of the second a prefix was written
pub prefix_behind : (old mid new : Option (List ℕ)) (before between xs ys : List ℕ)
    → PutsBytes old mid before between xs → AppendsPrefix mid new (between ++ ys)
    → AppendsPrefix old new (before ++ (xs ++ ys))
prefix_behind old mid new before between xs ys p q = (
  p.sent ++ q.0,
  q.1,
  sym (append_assoc before xs ys) ∙ (ap (λ l. l ++ ys) p.whole
      ∙ (append_assoc p.sent between ys
      ∙ (ap (λ l. p.sent ++ l) q.2 ∙ sym (append_assoc p.sent q.0 q.1)))),
  Appends-trans old mid new p.sent q.0 p.appends q.3,
)

-- the text was put, and of what waited then a prefix was written
pub prefix_of_put : (old mid new : Option (List ℕ)) (before after bytes : List ℕ)
    → PutsBytes old mid before after bytes → AppendsPrefix mid new after
    → AppendsPrefix old new (before ++ bytes)
prefix_of_put old mid new before after bytes p q = (
  p.sent ++ q.0,
  q.1,
  p.whole ∙ (ap (λ l. p.sent ++ l) q.2 ∙ sym (append_assoc p.sent q.0 q.1)),
  Appends-trans old mid new p.sent q.0 p.appends q.3,
)

-- of the first text a prefix was written
pub prefix_before : (old new : Option (List ℕ)) (before xs ys : List ℕ)
    → AppendsPrefix old new (before ++ xs) → AppendsPrefix old new (before ++ (xs ++ ys))
prefix_before old new before xs ys p =
    prefix_of_prefix old new (before ++ xs) ys (before ++ (xs ++ ys))
    (sym (append_assoc before xs ys)) p

-- the same of a text that ends with them
pub prefix_within : (old new : Option (List ℕ)) (before xs ys whole : List ℕ) → whole ≡ xs ++ ys
    → AppendsPrefix old new (before ++ xs) → AppendsPrefix old new (before ++ whole)
prefix_within old new before xs ys whole e p = rw e (prefix_before old new before xs ys p)

-- so many more items
pub take_on : {X : Type 0} (n k : ℕ) (xs : List X)
    → take (n + k) xs ≡ take n xs ++ take k (drop n xs)
take_on n k xs =
    let whole : take n (take (n + k) xs) ++ drop n (take (n + k) xs) ≡ take (n + k) xs =
    take-append-drop n (take (n + k) xs) in
    sym (rw (take-take n (n + k) xs (omega arith), drop-take n k xs) at whole)

-- six texts, one behind the other
pub six_texts : (a b c d e f : List ℕ)
    → a ++ (b ++ (c ++ (d ++ (e ++ f)))) ≡ (((a ++ (b ++ c)) ++ d) ++ e) ++ f
six_texts a b c d e f =
    sym (append_assoc ((a ++ (b ++ c)) ++ d) e f ∙ (append_assoc (a ++ (b ++ c)) d (e ++ f)
    ∙ (append_assoc a (b ++ c) (d ++ (e ++ f))
    ∙ ap (λ l. a ++ l) (append_assoc b c (d ++ (e ++ f))))))
