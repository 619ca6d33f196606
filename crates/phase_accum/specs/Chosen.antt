-- Operations whose part is one of the sends, where there is one: the part of two lists of sends
-- is what a choice between two numbers takes of their two parts.
use Rattle.std.specs.Prelude.{◌≡◌, ℤ, List, Option, Some, None, refl}
use Rattle.std.proofs.Common.{ap, ◌∙◌}
use Rattle.std.proofs.lemmas.Option.{same_Some}
use Rattle.phase_accum.specs.declared.outcome.Outcome.{Outcome}
use Rattle.phase_accum.specs.declared.outcome.Outcome.TheVariants.{Value, Empty}
use Rattle.phase_accum.specs.Sends.{AreSends}
use Rattle.phase_accum.specs.Values.{IsInRange}
use Rattle.phase_accum.specs.Operations.{Operation, AccumulateLaws, Commutes, part}

-- of two sends, each of which may be missing, the one that the choice takes
abbrev pub chosen : (ℤ → ℤ → ℤ) → Option ℤ → Option ℤ → Option ℤ
chosen choice None second = second
chosen choice (Some v) None = Some v
chosen choice (Some v) (Some w) = Some (choice v w)

-- a send as a value
abbrev pub value_of_send : Option ℤ → Outcome
value_of_send None = Empty
value_of_send (Some v) = Value v

-- the operation of a choice, with this definition of its values
abbrev pub choosing : (ℤ → ℤ → ℤ) → (List ℤ → Outcome) → Operation (Option ℤ)
choosing choice value = record {
  unit = None;
  of = λ v. Some v;
  join = chosen choice;
  finish = value_of_send;
  value = value;
}

-- ---- a choice between sends that may be missing

chosen-none_right : (choice : ℤ → ℤ → ℤ) (x : Option ℤ) → chosen choice x None ≡ x
chosen-none_right choice None = refl
chosen-none_right choice (Some v) = refl

-- a choice that may be grouped gives carriers that may
pub chosen-assoc : (choice : ℤ → ℤ → ℤ)
    → ((a b c : ℤ) → choice (choice a b) c ≡ choice a (choice b c))
    → (x y z : Option ℤ) → chosen choice (chosen choice x y) z ≡ chosen choice x (chosen choice y z)
chosen-assoc choice assoc None y z = refl
chosen-assoc choice assoc (Some a) None z = refl
chosen-assoc choice assoc (Some a) (Some b) None = refl
chosen-assoc choice assoc (Some a) (Some b) (Some c) = ap Some (assoc a b c)

-- a choice that may be swapped gives carriers that may
pub chosen-swap : (choice : ℤ → ℤ → ℤ) → ((a b : ℤ) → choice a b ≡ choice b a)
    → (x y : Option ℤ) → chosen choice x y ≡ chosen choice y x
chosen-swap choice swap None None = refl
chosen-swap choice swap None (Some b) = refl
chosen-swap choice swap (Some a) None = refl
chosen-swap choice swap (Some a) (Some b) = ap Some (swap a b)

-- ---- laws

-- a choice keeps the laws, where it is associative, and each part finishes as the definition says
pub choosing-laws : (choice : ℤ → ℤ → ℤ) (value : List ℤ → Outcome)
    → ((a b c : ℤ) → choice (choice a b) c ≡ choice a (choice b c))
    → ((xs : List ℤ) → value_of_send (part (choosing choice value) xs) ≡ value xs)
    → ((xs : List ℤ) → AreSends xs → IsInRange (value xs))
    → AccumulateLaws (choosing choice value)
choosing-laws choice value assoc finishes in_range = record {
  left_unit = λ x xs _. refl;
  right_unit = λ x xs _. chosen-none_right choice x;
  of_is = λ v _. refl;
  assoc = λ x y z xs ys zs _ _ _ _. chosen-assoc choice assoc x y z;
  finishes = λ x xs p. ap value_of_send p.is ∙ finishes xs;
  in_range = in_range;
  of_tells = λ v w _ _ e. same_Some v w e;
}

-- it commutes where the choice does
pub choosing-commutes : (choice : ℤ → ℤ → ℤ) (value : List ℤ → Outcome)
    → ((a b : ℤ) → choice a b ≡ choice b a) → Commutes (choosing choice value)
choosing-commutes choice value swap =
    record { swaps = λ x y xs ys _ _ _. chosen-swap choice swap x y }
