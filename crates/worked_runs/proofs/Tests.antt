-- Tests of facts by computing: where a test holds, its fact is so. A test of a whole is put
-- together of tests of its parts, so that a worked run is checked by `refl`.
use Rattle.std.proofs.Common.{◌≡◌, ◌≢◌, ℕ, zero, suc, ◌<◌, ◌≤◌, Bool, true, false, not, ◌&&◌, ◌||◌, eqb, leb, eqb-true, eq-eqb, leb-true, List, [], ◌∷◌, Option, Some, None, ℤ, pos, negsuc, refl, ap, subst, ◌∙◌, arith, ◌⊎◌, inl, inr}
use Rattle.std.proofs.lemmas.Bool.{and_parts, cases_lt}
use Rattle.std.proofs.lemmas.Option.{same_Some}
use Rattle.phase_accum.specs.declared.outcome.Outcome.{Outcome}
use Rattle.phase_accum.specs.declared.outcome.Outcome.TheVariants.{Value, Empty, TooBig}

-- a test of a fact
pub record Test (P : Type 0) : Type 0 where
  pub holds : Bool
  pub sound : holds ≡ true → P

-- a test that does not hold shows nothing
pub untrue : {P : Type 0} → false ≡ true → P
untrue e = absurd (cc)

pub nothing_there : {X P : Type 0} (x : X) → None ≡ Some x → P
nothing_there x is = absurd (cc)

abbrev pub never : {P : Type 0} → Test P
never = record { holds = false; sound = untrue }

-- what is so anyway
abbrev pub always : {P : Type 0} → P → Test P
always fact = record { holds = true; sound = λ e. fact }

-- two facts
pub record Both (P Q : Type 0) : Type 0 where
  pub left : P
  pub right : Q

-- ---- tests put together

abbrev pub giving : {P Q : Type 0} → (P → Q) → Test P → Test Q
giving f a = record { holds = a.holds; sound = λ e. f (a.sound e) }

abbrev pub both : {P Q : Type 0} → Test P → Test Q → Test (Both P Q)
both a b = record {
  holds = a.holds && b.holds;
  sound = λ e. (let parts = and_parts a.holds b.holds e in
      record { left = a.sound parts.0; right = b.sound parts.1 });
}

abbrev pub either : (P : Type 0) → Test P → Test P → Test P
either P a b = record { holds = a.holds || b.holds; sound = λ e. by a.holds refl e }
  where
    by : (c : Bool) → a.holds ≡ c → (c || b.holds) ≡ true → P
    by true e f = a.sound e
    by false e f = b.sound f

-- a fact of each number below n
abbrev pub each : (n : ℕ) (P : ℕ → Type 0) → ((i : ℕ) → Test (P i)) → Test ((i : ℕ) → i < n → P i)
each zero P test = record { holds = true; sound = λ e i lt. absurd (omega arith) }
each (suc n) P test = record {
  holds = (test n).holds && (each n P test).holds;
  sound = λ e i lt. (let parts = and_parts (test n).holds (each n P test).holds e in
      by ((test n).sound parts.0) ((each n P test).sound parts.1) i lt (cases_lt i n));
}
  where
    by : P n → ((i : ℕ) → i < n → P i) → (i : ℕ) → i < suc n → (i < n) ⊎ (n ≤ i) → P i
    by here below i lt (inl less) = below i less
    by here below i lt (inr most) = let same : n ≡ i = omega arith in subst P same here

-- a fact of what is there
abbrev pub when_some : {X : Type 0} (o : Option X) (P : X → Type 0) → ((x : X) → Test (P x))
    → Test ((x : X) → o ≡ Some x → P x)
when_some None P test = always (λ x is. nothing_there x is)
when_some (Some y) P test = record {
  holds = (test y).holds;
  sound = λ e x is. subst P (same_Some y x is) ((test y).sound e);
}

-- a fact that is asked for where another is so, which a Boolean says
abbrev pub where_so : (A P : Type 0) (says : Bool) → (A → says ≡ true) → Test P → Test (A → P)
where_so A P says is test =
    record { holds = not says || test.holds; sound = λ e a. by says (is a) e }
  where
    by : (b : Bool) → b ≡ true → (not b || test.holds) ≡ true → P
    by true so e = test.sound e
    by false so e = untrue so

-- ---- tests of plain facts

abbrev pub is_true : (b : Bool) → Test (b ≡ true)
is_true b = record { holds = b; sound = λ e. e }

abbrev pub is_false : (b : Bool) → Test (b ≡ false)
is_false true = never
is_false false = always refl

abbrev pub is_equal : (a b : ℕ) → Test (a ≡ b)
is_equal a b = record { holds = eqb a b; sound = λ e. eqb-true a b e }

abbrev pub is_other : (a b : ℕ) → Test (a ≢ b)
is_other a b = record { holds = not (eqb a b); sound = λ e same. by (eqb a b) (eq-eqb a b same) e }
  where
    by : (c : Bool) → c ≡ true → not c ≡ true → ⊥
    by true so e = untrue e
    by false so e = untrue so

abbrev pub is_at_most : (a b : ℕ) → Test (a ≤ b)
is_at_most a b = record { holds = leb a b; sound = λ e. leb-true a b e }

abbrev pub is_below : (a b : ℕ) → Test (a < b)
is_below a b = record { holds = leb (suc a) b; sound = λ e. leb-true (suc a) b e }

abbrev pub is_none : {X : Type 0} (o : Option X) → Test (o ≡ None)
is_none None = always refl
is_none (Some x) = never

abbrev pub is_empty : {X : Type 0} (xs : List X) → Test (xs ≡ [])
is_empty [] = always refl
is_empty (x ∷ xs) = never

abbrev pub is_some_of : (o : Option ℕ) (n : ℕ) → Test (o ≡ Some n)
is_some_of None n = never
is_some_of (Some a) n = giving (λ same. ap (λ x. Some x) same) (is_equal a n)

abbrev pub is_value : (a b : ℤ) → Test (a ≡ b)
is_value (pos a) (pos b) = giving (λ same. ap (λ n. pos n) same) (is_equal a b)
is_value (negsuc a) (negsuc b) = giving (λ same. ap (λ n. negsuc n) same) (is_equal a b)
is_value (pos a) (negsuc b) = never
is_value (negsuc a) (pos b) = never

abbrev pub are_values : (xs ys : List ℤ) → Test (xs ≡ ys)
are_values [] [] = always refl
are_values [] (y ∷ ys) = never
are_values (x ∷ xs) [] = never
are_values (x ∷ xs) (y ∷ ys) =
    giving (λ b. ap (λ h. h ∷ xs) b.left ∙ ap (λ l. y ∷ l) b.right)
    (both (is_value x y) (are_values xs ys))

abbrev pub is_outcome : (a b : Outcome) → Test (a ≡ b)
is_outcome (Value a) (Value b) = giving (λ same. ap (λ v. Value v) same) (is_value a b)
is_outcome Empty Empty = always refl
is_outcome TooBig TooBig = always refl
is_outcome (Value a) Empty = never
is_outcome (Value a) TooBig = never
is_outcome Empty (Value b) = never
is_outcome Empty TooBig = never
is_outcome TooBig (Value b) = never
is_outcome TooBig Empty = never

abbrev pub are_outcomes : (xs ys : List Outcome) → Test (xs ≡ ys)
are_outcomes [] [] = always refl
are_outcomes [] (y ∷ ys) = never
are_outcomes (x ∷ xs) [] = never
are_outcomes (x ∷ xs) (y ∷ ys) =
    giving (λ b. ap (λ h. h ∷ xs) b.left ∙ ap (λ l. y ∷ l) b.right)
    (both (is_outcome x y) (are_outcomes xs ys))
