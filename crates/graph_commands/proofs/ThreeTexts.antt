-- Three texts that were put one behind the other.
use Rattle.std.proofs.Common.{ℕ, List, [], ◌++◌, sym, subst, append_assoc}
use Rattle.std.specs.declared.option.Option.{Option}
use Rattle.std.specs.Io.KnownBytes.{Appends}
use Rattle.std.proofs.KnownBytes.{Appends-trans}
use Rattle.watched_io.specs.Prefix.{AppendsPrefix}
use Rattle.graph_commands.specs.Puts.{PutsBytes}
use Rattle.graph_commands.proofs.Putting.{Puts-append, prefix_behind, prefix_of_put, prefix_within}

-- of the second text a prefix was written
pub prefix-second : (old mid new : Option (List ℕ)) (between xs ys zs : List ℕ)
    → PutsBytes old mid [] between xs → AppendsPrefix mid new (between ++ ys)
    → AppendsPrefix old new (xs ++ (ys ++ zs))
prefix-second old mid new between xs ys zs p q =
    prefix_within old new [] (xs ++ ys) zs (xs ++ (ys ++ zs)) (sym (append_assoc xs ys zs))
    (prefix_behind old mid new [] between xs ys p q)

-- the first two were put
pub puts-two : (old mid new : Option (List ℕ)) (between after xs ys : List ℕ)
    → PutsBytes old mid [] between xs → PutsBytes mid new between after ys
    → PutsBytes old new [] after (xs ++ ys)
puts-two old mid new between after xs ys p q = Puts-append old mid new [] between after xs ys p q

-- and of the third a prefix was written
pub prefix-third : (old mid new : Option (List ℕ)) (between xs ys zs : List ℕ)
    → PutsBytes old mid [] between (xs ++ ys) → AppendsPrefix mid new (between ++ zs)
    → AppendsPrefix old new (xs ++ (ys ++ zs))
prefix-third old mid new between xs ys zs p q =
    subst (λ (text : List ℕ). AppendsPrefix old new text) (append_assoc xs ys zs)
    (prefix_behind old mid new [] between (xs ++ ys) zs p q)

-- all three were put
pub puts-three : (old mid new : Option (List ℕ)) (between after xs ys zs : List ℕ)
    → PutsBytes old mid [] between (xs ++ ys) → PutsBytes mid new between after zs
    → PutsBytes old new [] after (xs ++ (ys ++ zs))
puts-three old mid new between after xs ys zs p q =
    subst (λ (text : List ℕ). PutsBytes old new [] after text) (append_assoc xs ys zs)
    (Puts-append old mid new [] between after (xs ++ ys) zs p q)

-- and what waited was written, or a prefix of it
pub appends-put : (old mid new : Option (List ℕ)) (after bytes : List ℕ)
    → PutsBytes old mid [] after bytes → Appends mid new after → Appends old new bytes
appends-put old mid new after bytes p q =
    subst (λ (text : List ℕ). Appends old new text) (sym p.whole)
    (Appends-trans old mid new p.sent after p.appends q)

pub prefix-put : (old mid new : Option (List ℕ)) (after bytes : List ℕ)
    → PutsBytes old mid [] after bytes → AppendsPrefix mid new after → AppendsPrefix old new bytes
prefix-put old mid new after bytes p q = prefix_of_put old mid new [] after bytes p q
