-- Parts of lists of sends, and what a task holds, under the laws of an accumulator.
use Rattle.std.proofs.Common.{◌≡◌, ◌+◌, ◌≤◌, ℕ, zero, suc, ℤ, List, [], ◌∷◌, ◌++◌, length, take, drop, nat_abs, SFits, w64, to_z, of_z, refl, sym, ◌∙◌, ap, arith, length-append}
use Rattle.std.proofs.lemmas.Int.{ints}
use Rattle.phase_base.specs.declared.limits.TheConstants.{SENDS_MAX}
use Rattle.phase_accum.specs.Sends.{IsSend, AreSends, value_max}
use Rattle.phase_accum.specs.Operations.{Operation, part, IsPartOf, MayJoin, AccumulateLaws}
use Rattle.phase_accum.specs.Parcels.{Parcel, parcel, StandsForSends}

-- ---- values that can be sent

-- a number of 64 bits that is not the lowest can be sent
pub can_send : (v : ℤ) → SFits w64 v → (of_z w64 v ≡ 9223372036854775808 → ⊥) → IsSend v
can_send v fits other = record { small = omega (arith, ints) }

-- and what can be sent is one of 64 bits
pub send-same : (v : ℤ) → IsSend v → to_z w64 (of_z w64 v) ≡ v
send-same v is =
    let small : nat_abs v ≤ value_max = is.small in omega (arith, ints, small)

-- ---- lists of sends

pub AreSends-append : (xs ys : List ℤ) → AreSends xs → AreSends ys → AreSends (xs ++ ys)
AreSends-append [] ys s t = t
AreSends-append (x ∷ xs) ys s t = (s.0, AreSends-append xs ys s.1 t)

pub AreSends-append_left : (xs ys : List ℤ) → AreSends (xs ++ ys) → AreSends xs
AreSends-append_left [] ys s = tt
AreSends-append_left (x ∷ xs) ys s = (s.0, AreSends-append_left xs ys s.1)

pub AreSends-append_right : (xs ys : List ℤ) → AreSends (xs ++ ys) → AreSends ys
AreSends-append_right [] ys s = s
AreSends-append_right (x ∷ xs) ys s = AreSends-append_right xs ys s.1

pub AreSends-take : (n : ℕ) (xs : List ℤ) → AreSends xs → AreSends (take n xs)
AreSends-take zero xs are = tt
AreSends-take (suc n) [] are = tt
AreSends-take (suc n) (x ∷ xs) are = (are.0, AreSends-take n xs are.1)

pub AreSends-drop : (n : ℕ) (xs : List ℤ) → AreSends xs → AreSends (drop n xs)
AreSends-drop zero xs are = are
AreSends-drop (suc n) [] are = tt
AreSends-drop (suc n) (x ∷ xs) are = AreSends-drop n xs are.1

-- ---- parts

-- the unit is the part of no send
pub IsPartOf-nil : {A : Type 0} (op : Operation A) → IsPartOf op op.unit []
IsPartOf-nil op = record { is = refl; are_sends = tt; few = omega arith }

-- `of` gives the part of one send
pub IsPartOf-one : {A : Type 0} (op : Operation A) (v : ℤ) → AccumulateLaws op
    → IsSend v → IsPartOf op (op.of v) (v ∷ [])
IsPartOf-one op v laws s = record {
  is = sym (laws.of_is v (s, tt));
  are_sends = (s, tt);
  few = omega arith;
}

-- a list has the part that the definition gives it
pub IsPartOf-part : {A : Type 0} (op : Operation A) (xs : List ℤ)
    → AreSends xs → length xs ≤ SENDS_MAX → IsPartOf op (part op xs) xs
IsPartOf-part op xs s few = record { is = refl; are_sends = s; few = few }

-- the part of two lists put together is the join of their parts
pub part-append : {A : Type 0} (op : Operation A) (xs ys : List ℤ) → AccumulateLaws op
    → AreSends xs → AreSends ys → length xs + length ys ≤ SENDS_MAX
    → op.join (part op xs) (part op ys) ≡ part op (xs ++ ys)
part-append op [] ys laws s t few =
    laws.left_unit (part op ys) ys (IsPartOf-part op ys t (omega arith))
part-append op (x ∷ xs) ys laws s t few =
    laws.assoc (op.of x) (part op xs) (part op ys) (x ∷ []) xs ys
    (IsPartOf-one op x laws s.0)
    (IsPartOf-part op xs s.1 (omega arith))
    (IsPartOf-part op ys t (omega arith))
    (omega arith)
    ∙ ap (op.join (op.of x)) (part-append op xs ys laws s.1 t (omega arith))

-- the join of two parts is the part of their lists put together
pub IsPartOf-join : {A : Type 0} (op : Operation A) (x y : A) (xs ys : List ℤ)
    → AccumulateLaws op → IsPartOf op x xs → IsPartOf op y ys
    → length xs + length ys ≤ SENDS_MAX → IsPartOf op (op.join x y) (xs ++ ys)
IsPartOf-join op x y xs ys laws p q few = record {
  is = rw (p.is, q.is) (part-append op xs ys laws p.are_sends q.are_sends few);
  are_sends = AreSends-append xs ys p.are_sends q.are_sends;
  few = simp length-append few;
}

-- lists with one part have one value
pub value-same : {A : Type 0} (op : Operation A) (x : A) (xs ys : List ℤ)
    → AccumulateLaws op → IsPartOf op x xs → IsPartOf op x ys → op.value xs ≡ op.value ys
value-same op x xs ys laws p q = sym (laws.finishes x xs p) ∙ laws.finishes x ys q

-- single sends with one part are one
pub one_send-same : {A : Type 0} (op : Operation A) (x : A) (v w : ℤ) → AccumulateLaws op
    → IsPartOf op x (v ∷ []) → IsPartOf op x (w ∷ []) → v ≡ w
one_send-same op x v w laws p q =
    laws.of_tells v w p.are_sends.0 q.are_sends.0
    (sym (laws.of_is v p.are_sends) ∙ sym p.is ∙ q.is ∙ laws.of_is w q.are_sends)

-- ---- the sends that a task holds

-- a task that holds one send
pub StandsForSends-one : {A : Type 0} (op : Operation A) (v : ℤ) → AccumulateLaws op
    → IsSend v → StandsForSends op (parcel (op.of v) 1) (v ∷ [])
StandsForSends-one op v laws s =
    record { part_is = IsPartOf-one op v laws s; count_is = omega arith }

-- what two tasks hold, put together
pub StandsForSends-append : {A : Type 0} (op : Operation A) (held other : Parcel A)
    (xs ys : List ℤ) → AccumulateLaws op
    → StandsForSends op held xs → StandsForSends op other ys
    → held.count + other.count ≤ SENDS_MAX
    → StandsForSends op (parcel (op.join held.part other.part) (held.count + other.count))
    (xs ++ ys)
StandsForSends-append op held other xs ys laws p q few = record {
  part_is = IsPartOf-join op held.part other.part xs ys laws p.part_is q.part_is
      (rw (← p.count_is, ← q.count_is) few);
  count_is = rw (p.count_is, q.count_is) (sym (length-append xs ys));
}

-- what a task holds, and one more send
pub StandsForSends-push : {A : Type 0} (op : Operation A) (held : Parcel A) (xs : List ℤ)
    (v : ℤ) → AccumulateLaws op
    → StandsForSends op held xs → IsSend v → held.count + 1 ≤ SENDS_MAX
    → StandsForSends op (parcel (op.join held.part (op.of v)) (held.count + 1)) (xs ++ v ∷ [])
StandsForSends-push op held xs v laws p s few =
    let one = StandsForSends-one op v laws s in
    StandsForSends-append op held (parcel (op.of v) 1) xs (v ∷ []) laws p one few

-- what two tasks hold may be joined where it is together not too much
pub MayJoin-held : {A : Type 0} (op : Operation A) (held other : Parcel A) (xs ys : List ℤ)
    → StandsForSends op held xs → StandsForSends op other ys
    → held.count + other.count ≤ SENDS_MAX → MayJoin op held.part other.part
MayJoin-held op held other xs ys p q few = record {
  first = xs;
  second = ys;
  first_part = p.part_is;
  second_part = q.part_is;
  few = rw (← p.count_is, ← q.count_is) few;
}
