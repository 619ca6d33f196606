-- The parts of the sends of each phase, as members are added one after the other.
use Rattle.std.proofs.Common.{◌≡◌, ℕ, zero, suc, ◌+◌, ◌-◌, ◌<◌, ◌≤◌, List, [], ◌∷◌, ◌++◌, length, get_or, take, ℤ, Bool, true, false, Some, None, refl, sym, ap, subst, ◌∙◌, arith, slice_set as set, inl, inr}
use Rattle.std.specs.Prelude.{Option, nat_lt, if◌then◌else◌, slice_get, ◌⊎◌}
use Rattle.std.specs.List.{filter_map, cons_option}
use Rattle.std.proofs.lemmas.Bool.{cases_lt}
use Rattle.std.proofs.lemmas.Bool.Decides.{nat_tests}
use Rattle.std.proofs.lemmas.List.{get_or-set_same, get_or-set_other, length-set, append-nil, take_all, length-append, get_or_append_left}
use Rattle.std.proofs.Math.Seq.{get_or-append_seam}
use Rattle.std.proofs.lemmas.List.Elements.{filter_map-append}
use Rattle.phase_base.specs.declared.limits.TheConstants.{SENDS_MAX}
use Rattle.phase_accum.specs.Sends.{IsSend}
use Rattle.phase_accum.specs.Operations.{Operation, IsPartOf, MayJoin, AccumulateLaws}
use Rattle.phase_accum.proofs.Parts.{IsPartOf-nil, IsPartOf-one, IsPartOf-join}
use Rattle.stream_lists.specs.Lists.{Contribution, send_in, sends_in}
use Rattle.stream_eval.specs.Composing.{HasParts}
use Rattle.phase_accum.specs.declared.outcome.Outcome.{Outcome}

-- the first i values of a member
abbrev pub front : ℕ → List ℤ → ℕ → Contribution
front o vs i = (o, take i vs)

-- ---- one more value of a list

slice_get-take_other : (vs : List ℤ) (i k : ℕ) → (k ≡ i → ⊥) → slice_get (take (suc i) vs) k
    ≡ slice_get (take i vs) k
slice_get-take_other [] zero k ne = refl
slice_get-take_other [] (suc i) k ne = refl
slice_get-take_other (v ∷ vs) zero zero ne = absurd (ne refl)
slice_get-take_other (v ∷ vs) zero (suc k) ne = refl
slice_get-take_other (v ∷ vs) (suc i) zero ne = refl
slice_get-take_other (v ∷ vs) (suc i) (suc k) ne = slice_get-take_other vs i k (λ e. ne (ap suc e))

slice_get-take_here : (vs : List ℤ) (i : ℕ) (d : ℤ) → i < length vs → slice_get (take (suc i) vs) i
    ≡ Some (get_or vs i d)
slice_get-take_here [] i d lt = absurd (omega arith)
slice_get-take_here (v ∷ vs) zero d lt = refl
slice_get-take_here (v ∷ vs) (suc i) d lt = slice_get-take_here vs i d (omega arith)

slice_get-take_past : (vs : List ℤ) (i k : ℕ) → i ≤ k → slice_get (take i vs) k ≡ None
slice_get-take_past vs zero k le = refl
slice_get-take_past [] (suc i) k le = refl
slice_get-take_past (v ∷ vs) (suc i) zero le = absurd (omega arith)
slice_get-take_past (v ∷ vs) (suc i) (suc k) le = slice_get-take_past vs i k (omega arith)

slice_get-take_within : (vs : List ℤ) (i k : ℕ) → k < i → slice_get (take i vs) k ≡ slice_get vs k
slice_get-take_within vs zero k lt = absurd (omega arith)
slice_get-take_within [] (suc i) k lt = refl
slice_get-take_within (v ∷ vs) (suc i) zero lt = refl
slice_get-take_within (v ∷ vs) (suc i) (suc k) lt = slice_get-take_within vs i k (omega arith)

-- ---- what a member sends

-- where the phase is before the member's first, nothing is sent, whatever its values are
unless : (b : Bool) (x y : Option ℤ) → (b ≡ false → x ≡ y) → (if b then None else x)
    ≡ (if b then None else y)
unless true x y same = refl
unless false x y same = same refl

pub never : (b : Bool) (x : Option ℤ) → (b ≡ false → x ≡ None) → (if b then None else x) ≡ None
never true x none = refl
never false x none = none refl

pub beyond : (b : Bool) (x y : Option ℤ) → b ≡ false → x ≡ y → (if b then None else x) ≡ y
beyond true x y e same = grind (arith, e)
beyond false x y e same = same

not_below : (n o : ℕ) → nat_lt n o ≡ false → o ≤ n
not_below n o e = grind (arith, nat_tests, e)

send_in-nothing : (n o : ℕ) (vs : List ℤ) → send_in n (front o vs 0) ≡ None
send_in-nothing n o vs = never (nat_lt n o) _ (λ e. refl)

send_in-other : (n o i : ℕ) (vs : List ℤ) → (n ≡ o + i → ⊥) → send_in n (front o vs (suc i))
    ≡ send_in n (front o vs i)
send_in-other n o i vs ne =
    unless (nat_lt n o) _ _ (λ e. let le : o ≤ n = not_below n o e in slice_get-take_other vs i
    (n - o) (λ same. ne (omega arith)))

send_in-here : (o i : ℕ) (vs : List ℤ) (d : ℤ) → i < length vs
    → send_in (o + i) (front o vs (suc i)) ≡ Some (get_or vs i d)
send_in-here o i vs d lt =
    let place : o + i - o ≡ i = omega arith in
    beyond (nat_lt (o + i) o) _ _ (grind (arith, nat_tests))
    (ap (slice_get (take (suc i) vs)) place ∙ slice_get-take_here vs i d lt)

send_in-before : (o i : ℕ) (vs : List ℤ) → send_in (o + i) (front o vs i) ≡ None
send_in-before o i vs =
    let place : o + i - o ≡ i = omega arith in
    never (nat_lt (o + i) o) _
    (λ e. ap (slice_get (take i vs)) place ∙ slice_get-take_past vs i i (omega arith))

-- ---- what all send

abbrev pub one : Option ℤ → List ℤ
one None = []
one (Some v) = v ∷ []

pub send_one : (n : ℕ) (m : Contribution) → filter_map (send_in n) (m ∷ []) ≡ one (send_in n m)
send_one n m = by (send_in n m)
  where
    by : (o : Option ℤ) → filter_map (λ x. x) (o ∷ []) ≡ one o
    by None = refl
    by (Some v) = refl

sends_in-push : (members : List Contribution) (m : Contribution) (n : ℕ) → sends_in (members ++ m ∷ []) n
    ≡ sends_in members n ++ one (send_in n m)
sends_in-push members m n = filter_map-append (send_in n) members (m ∷ [])
    ∙ ap (λ xs. sends_in members n ++ xs) (send_one n m)

length-sends_in : (members : List Contribution) (n : ℕ) → length (sends_in members n) ≤ length members
length-sends_in [] n = omega arith
length-sends_in (m ∷ ms) n = by (send_in n m) (sends_in ms n) (length-sends_in ms n)
  where
    by : (o : Option ℤ) (xs : List ℤ) → length xs ≤ length ms
        → length (cons_option o xs) ≤ suc (length ms)
    by None xs le = omega arith
    by (Some v) xs le = omega arith

-- ---- the parts

-- a member with no value yet sends nothing
pub HasParts-start : {A : Type 0} (op : Operation A) (parts : List A) (members : List Contribution)
    (o : ℕ) (vs : List ℤ)
    → HasParts op parts members → HasParts op parts (members ++ front o vs 0 ∷ [])
HasParts-start op parts members o vs has = record {
  each = λ n d lt. subst (λ xs. IsPartOf op (get_or parts n d) xs)
      (sym (sends_in-push members (front o vs 0) n
      ∙ (ap (λ s. sends_in members n ++ one s) (send_in-nothing n o vs)
      ∙ append-nil (sends_in members n))))
      (has.each n d lt);
}

-- what the members sent before this value of the next one
before_value : (members : List Contribution) (o i : ℕ) (vs : List ℤ)
    → sends_in (members ++ front o vs i ∷ []) (o + i) ≡ sends_in members (o + i)
before_value members o i vs =
    sends_in-push members (front o vs i) (o + i)
    ∙ (ap (λ s. sends_in members (o + i) ++ one s) (send_in-before o i vs)
    ∙ append-nil (sends_in members (o + i)))

with_value : (members : List Contribution) (o i : ℕ) (vs : List ℤ) (d : ℤ) → i < length vs
    → sends_in (members ++ front o vs (suc i) ∷ []) (o + i)
    ≡ sends_in members (o + i) ++ get_or vs i d ∷ []
with_value members o i vs d lt =
    sends_in-push members (front o vs (suc i)) (o + i)
    ∙ ap (λ s. sends_in members (o + i) ++ one s) (send_in-here o i vs d lt)

other_phase : (members : List Contribution) (o i n : ℕ) (vs : List ℤ) → (n ≡ o + i → ⊥)
    → sends_in (members ++ front o vs (suc i) ∷ []) n ≡ sends_in (members ++ front o vs i ∷ []) n
other_phase members o i n vs ne =
    sends_in-push members (front o vs (suc i)) n
    ∙ (ap (λ s. sends_in members n ++ one s) (send_in-other n o i vs ne)
    ∙ sym (sends_in-push members (front o vs i) n))

-- the part of the phase of the next value
pub part_before : {A : Type 0} (op : Operation A) (parts : List A) (members : List Contribution)
    (o i : ℕ) (vs : List ℤ) (d : A)
    → HasParts op parts (members ++ front o vs i ∷ []) → o + i < length parts
    → IsPartOf op (get_or parts (o + i) d) (sends_in members (o + i))
part_before op parts members o i vs d has lt =
    subst (λ xs. IsPartOf op (get_or parts (o + i) d) xs) (before_value members o i vs)
    (has.each (o + i) d lt)

pub MayJoin-value : {A : Type 0} (op : Operation A) (parts : List A) (members : List Contribution)
    (o i : ℕ) (vs : List ℤ) (d : A) (v : ℤ)
    → AccumulateLaws op → HasParts op parts (members ++ front o vs i ∷ []) → o + i < length parts
    → length members < SENDS_MAX → IsSend v
    → MayJoin op (get_or parts (o + i) d) (op.of v)
MayJoin-value op parts members o i vs d v laws has lt few is = record {
  first = sends_in members (o + i);
  second = v ∷ [];
  first_part = part_before op parts members o i vs d has lt;
  second_part = IsPartOf-one op v laws is;
  few = let le : length (sends_in members (o + i)) ≤ length members = length-sends_in members
      (o + i) in omega arith;
}

-- one more value
pub HasParts-value : {A : Type 0} (op : Operation A) (parts : List A) (members : List Contribution)
    (o i : ℕ) (vs : List ℤ) (d : A) (e : ℤ)
    → AccumulateLaws op → HasParts op parts (members ++ front o vs i ∷ []) → o + i < length parts
    → i < length vs
    → length members < SENDS_MAX → IsSend (get_or vs i e)
    → HasParts op (set parts (o + i) (op.join (get_or parts (o + i) d) (op.of (get_or vs i e))))
    (members ++ front o vs (suc i) ∷ [])
HasParts-value {A} op parts members o i vs d e laws has lt within few is = record { each = each }
  where
    joined : A
    joined = op.join (get_or parts (o + i) d) (op.of (get_or vs i e))

    here : (f : A) → IsPartOf op (get_or (set parts (o + i) joined) (o + i) f)
        (sends_in (members ++ front o vs (suc i) ∷ []) (o + i))
    here f =
        rw (get_or-set_same parts (o + i) joined f lt, with_value members o i vs e within)
        (IsPartOf-join op (get_or parts (o + i) d) (op.of (get_or vs i e))
        (sends_in members (o + i)) (get_or vs i e ∷ []) laws
        (part_before op parts members o i vs d has lt) (IsPartOf-one op (get_or vs i e) laws is)
        (let le : length (sends_in members (o + i)) ≤ length members = length-sends_in members
        (o + i) in omega arith))

    each : (n : ℕ) (f : A) → n < length (set parts (o + i) joined)
        → IsPartOf op (get_or (set parts (o + i) joined) n f)
        (sends_in (members ++ front o vs (suc i) ∷ []) n)
    each n f le = split (cases_lt n (o + i)) (cases_lt (o + i) n)
      where
        within_parts : n < length parts
        within_parts = subst (λ l. n < l) (length-set parts (o + i) joined) le

        other : (n ≡ o + i → ⊥)
            → IsPartOf op (get_or (set parts (o + i) joined) n f)
            (sends_in (members ++ front o vs (suc i) ∷ []) n)
        other ne = rw (
          get_or-set_other parts (o + i) n joined f ne,
          other_phase members o i n vs
              ne,
        ) (has.each n f within_parts)

        split : (n < o + i) ⊎ (o + i ≤ n) → (o + i < n) ⊎ (n ≤ o + i)
            → IsPartOf op (get_or (set parts (o + i) joined) n f)
            (sends_in (members ++ front o vs (suc i) ∷ []) n)
        split (inl below) b = other (λ same. omega arith)
        split (inr ge) (inl above) = other (λ same. omega arith)
        split (inr ge) (inr le_too) =
            let same : o + i ≡ n = omega arith in
            subst (λ m. IsPartOf op (get_or (set parts (o + i) joined) m f)
            (sends_in (members ++ front o vs (suc i) ∷ []) m)) same (here f)

-- all values, as far as there are phases
pub HasParts-whole : {A : Type 0} (op : Operation A) (parts : List A) (members : List Contribution)
    (o count : ℕ) (vs : List ℤ)
    → HasParts op parts (members ++ front o vs count ∷ [])
    → ((n : ℕ) → n < length parts → o ≤ n → (n - o < count) ⊎ (length vs ≤ count))
    → HasParts op parts (members ++ (o, vs) ∷ [])
HasParts-whole op parts members o count vs has far = record {
  each = λ n d lt. subst (λ xs. IsPartOf op (get_or parts n d) xs)
      (sends_in-push members (front o vs count) n
      ∙ (ap (λ s. sends_in members n ++ one s) (whole n lt)
      ∙ sym (sends_in-push members (o, vs) n)))
      (has.each n d lt);
}
  where
    reaches : (n : ℕ) → (n - o < count) ⊎ (length vs ≤ count) → slice_get (take count vs) (n - o)
        ≡ slice_get vs (n - o)
    reaches n (inl lt) = slice_get-take_within vs count (n - o) lt
    reaches n (inr le) = ap (λ xs. slice_get xs (n - o)) (take_all count vs le)

    whole : (n : ℕ) → n < length parts → send_in n (front o vs count) ≡ send_in n (o, vs)
    whole n lt = unless (nat_lt n o) _ _ (λ e. reaches n (far n lt (not_below n o e)))

-- one more value, as the code writes it
pub HasParts-next : {A : Type 0} (op : Operation A) (parts : List A) (members : List Contribution)
    (o i : ℕ) (vs : List ℤ) (x r : A) (v : ℤ)
    → AccumulateLaws op → HasParts op parts (members ++ front o vs i ∷ []) → o + i < length parts
    → i < length vs
    → length members < SENDS_MAX → IsSend v → x ≡ get_or parts (o + i) x → v ≡ get_or vs i v → r
    ≡ op.join x (op.of v)
    → HasParts op (set parts (o + i) r) (members ++ front o vs (i + 1) ∷ [])
HasParts-next op parts members o i vs x r v laws has lt within few is x_is v_is r_is =
    let step : suc i ≡ i + 1 = omega arith in
    let written = HasParts-value op parts members o i vs x v laws has lt within few
    (subst (λ w. IsSend w) v_is is) in
    let same : op.join (get_or parts (o + i) x) (op.of (get_or vs i v))
    ≡ r = ap (λ y. op.join y (op.of (get_or vs i v))) (sym x_is)
    ∙ (ap (λ w. op.join x (op.of w)) (sym v_is) ∙ sym r_is) in
    subst (λ k. HasParts op (set parts (o + i) r) (members ++ front o vs k ∷ [])) step
    (subst (λ y. HasParts op (set parts (o + i) y) (members ++ front o vs (suc i) ∷ [])) same
    written)

-- ---- phases in which nothing was sent

pub HasParts-none : {A : Type 0} (op : Operation A) → HasParts op [] []
HasParts-none op = record { each = λ n d lt. absurd (omega arith) }

pub HasParts-unit : {A : Type 0} (op : Operation A) (parts : List A) → HasParts op parts []
    → HasParts op (parts ++ op.unit ∷ []) []
HasParts-unit {A} op parts has = record { each = each }
  where
    each : (n : ℕ) (d : A) → n < length (parts ++ op.unit ∷ [])
        → IsPartOf op (get_or (parts ++ op.unit ∷ []) n d) []
    each n d lt = split (cases_lt n (length parts))
      where
        split : (n < length parts) ⊎ (length parts ≤ n)
            → IsPartOf op (get_or (parts ++ op.unit ∷ []) n d) []
        split (inl below) = rw (get_or_append_left parts (op.unit ∷ []) d n below)
            (has.each n d below)
        split (inr ge) =
            let last : n ≡ length parts = omega (arith, length-append parts (op.unit ∷ [])) in
            subst (λ k. IsPartOf op (get_or (parts ++ op.unit ∷ []) k d) []) (sym last)
            (rw (get_or-append_seam parts op.unit [] d) (IsPartOf-nil op))

-- ---- the value of a phase

pub value_of_part : {A : Type 0} (op : Operation A) (parts : List A) (members : List Contribution)
    (n : ℕ) (x : A) (r : Outcome)
    → AccumulateLaws op → HasParts op parts members → n < length parts → x ≡ get_or parts n x → r
    ≡ op.finish x → r ≡ op.value (sends_in members n)
value_of_part op parts members n x r laws has lt x_is r_is =
    r_is ∙ (ap op.finish x_is ∙ laws.finishes (get_or parts n x) (sends_in members n)
    (has.each n x lt))
