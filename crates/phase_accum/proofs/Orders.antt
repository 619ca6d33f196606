-- A value that is joined piece by piece is the same in any order of the pieces.
use Rattle.std.proofs.Common.{◌≡◌, List, [], ◌∷◌, ◌++◌, ℤ, Some, refl, sym, ap, ◌∙◌}
use Rattle.std.specs.Prelude.{◌+ℤ◌, ◌*ℤ◌}
use Rattle.std.specs.Int.{int_min, int_max}
use Rattle.std.proofs.Math.IntN.{+ℤ_comm, +ℤ_assoc, +ℤ_idl, *ℤ_comm}
use Rattle.phase_accum.specs.declared.outcome.Outcome.{Outcome}
use Rattle.phase_accum.specs.Values.{sum_of, product_of, ranged, sum_value, product_value, least_value, greatest_value}
use Rattle.phase_accum.specs.Operations.{part}
use Rattle.phase_accum.specs.Exchanges.{Exchanges}
use Rattle.phase_accum.specs.Factors.{*ℤ-assoc, *ℤ-one_left}
use Rattle.phase_accum.specs.Chosen.{chosen, choosing, value_of_send, chosen-assoc, chosen-swap}
use Rattle.phase_accum.specs.Leasts.{int_min-assoc, int_min-swap, least-value_of_send}
use Rattle.phase_accum.specs.Greatests.{int_max-assoc, int_max-swap, greatest-value_of_send}

-- ---- any join that is associative and commutes

-- what a list gives, where the pieces of a list are joined
Exchanges-join : {X : Type 0} (f : List ℤ → X) (join : X → X → X)
    → ((xs ys : List ℤ) → f (xs ++ ys) ≡ join (f xs) (f ys))
    → ((a b c : X) → join (join a b) c ≡ join a (join b c))
    → ((a b : X) → join a b ≡ join b a) → Exchanges f
Exchanges-join f join over assoc swap front xs ys back =
    over front (xs ++ (ys ++ back))
    ∙ ap (join (f front)) (pieces xs ys ∙ swapped ∙ sym (pieces ys xs))
    ∙ sym (over front (ys ++ (xs ++ back)))
  where
    pieces : (us vs : List ℤ) → f (us ++ (vs ++ back)) ≡ join (join (f us) (f vs)) (f back)
    pieces us vs =
        over us (vs ++ back) ∙ ap (join (f us)) (over vs back) ∙ sym (assoc (f us) (f vs) (f back))

    swapped : join (join (f xs) (f ys)) (f back) ≡ join (join (f ys) (f xs)) (f back)
    swapped = ap (λ n. join n (f back)) (swap (f xs) (f ys))

-- ---- sum and product

sum_of-append : (xs ys : List ℤ) → sum_of (xs ++ ys) ≡ sum_of xs +ℤ sum_of ys
sum_of-append [] ys = sym (+ℤ_idl (sum_of ys))
sum_of-append (x ∷ xs) ys =
    ap (λ n. x +ℤ n) (sum_of-append xs ys) ∙ sym (+ℤ_assoc x (sum_of xs) (sum_of ys))

pub Exchanges-sum : Exchanges sum_value
Exchanges-sum front xs ys back =
    ap ranged (Exchanges-join sum_of ◌+ℤ◌ sum_of-append +ℤ_assoc +ℤ_comm front xs ys back)

product_of-append : (xs ys : List ℤ) → product_of (xs ++ ys) ≡ product_of xs *ℤ product_of ys
product_of-append [] ys = sym (*ℤ-one_left (product_of ys))
product_of-append (x ∷ xs) ys =
    ap (λ n. x *ℤ n) (product_of-append xs ys) ∙ sym (*ℤ-assoc x (product_of xs) (product_of ys))

pub Exchanges-product : Exchanges product_value
Exchanges-product front xs ys back =
    ap ranged (Exchanges-join product_of ◌*ℤ◌ product_of-append *ℤ-assoc *ℤ_comm front xs ys back)

-- ---- least and greatest

-- the part of two lists put together under a choice
part-choosing : (choice : ℤ → ℤ → ℤ) (value : List ℤ → Outcome)
    → ((a b c : ℤ) → choice (choice a b) c ≡ choice a (choice b c)) → (xs ys : List ℤ)
    → part (choosing choice value) (xs ++ ys)
    ≡ chosen choice (part (choosing choice value) xs) (part (choosing choice value) ys)
part-choosing choice value assoc [] ys = refl
part-choosing choice value assoc (x ∷ xs) ys =
    ap (chosen choice (Some x)) (part-choosing choice value assoc xs ys)
    ∙ sym (chosen-assoc choice assoc (Some x) (part (choosing choice value) xs)
    (part (choosing choice value) ys))

-- the values of a choice that is associative and commutes, where its parts finish as them
Exchanges-choosing : (choice : ℤ → ℤ → ℤ) (value : List ℤ → Outcome)
    → ((a b c : ℤ) → choice (choice a b) c ≡ choice a (choice b c))
    → ((a b : ℤ) → choice a b ≡ choice b a)
    → ((xs : List ℤ) → value_of_send (part (choosing choice value) xs) ≡ value xs)
    → Exchanges value
Exchanges-choosing choice value assoc swap finishes front xs ys back =
    sym (finishes (front ++ (xs ++ (ys ++ back))))
    ∙ ap value_of_send (Exchanges-join (part (choosing choice value)) (chosen choice)
    (part-choosing choice value assoc) (chosen-assoc choice assoc) (chosen-swap choice swap)
    front xs ys back)
    ∙ finishes (front ++ (ys ++ (xs ++ back)))

pub Exchanges-least : Exchanges least_value
Exchanges-least =
    Exchanges-choosing int_min least_value int_min-assoc int_min-swap least-value_of_send

pub Exchanges-greatest : Exchanges greatest_value
Exchanges-greatest =
    Exchanges-choosing int_max greatest_value int_max-assoc int_max-swap greatest-value_of_send
