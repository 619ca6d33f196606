-- Whether the values that a turn signals are in range.
use Rattle.std.proofs.Common.{◌≡◌, ℕ, ℤ, List, suc, ◌+◌, ◌<◌, Bool, true, false, cond, not, [], ◌∷◌, Some, None, length, map, refl, sym, ap, ◌∙◌, arith}
use Rattle.std.specs.Prelude.{Result, Ok, Err, nat_le, unsigned_abs}
use Rattle.std.specs.List.{position_from}
use Rattle.std.proofs.lemmas.Option.{same_Some}
use Rattle.phase_accum.specs.Sends.{AreSends}
use Rattle.stream_filters.specs.Range.{ranged}
use Rattle.stream_filters.specs.declared.fault.TooBigValue.{TooBigValue}
use Rattle.stream_lists.specs.Ranges.{is_out_of_range}
use Rattle.graph_runs.proofs.Signalling.{sendable}
use Rattle.stream_job.specs.Stepping as stepping
use Rattle.stream_job.specs.Stepping.{IsNextIn, OwesMade, is_value_out}

-- ---- the values

-- a number in range
pub in_range : (z x : ℤ) → ranged z ≡ Ok x → (z ≡ x) × (is_out_of_range x ≡ false)
in_range z x e = by (nat_le (unsigned_abs z) 9223372036854775807) refl e
  where
    value_of : Result ℤ TooBigValue → ℤ
    value_of (Ok a) = a
    value_of (Err e) = z

    same : (a b : Result ℤ TooBigValue) → a ≡ b → value_of a ≡ value_of b
    same a b e = ap value_of e

    by : (b : Bool) → nat_le (unsigned_abs z) 9223372036854775807 ≡ b
        → cond {A = Result ℤ TooBigValue} b (Ok z) (Err (record {})) ≡ Ok x → (z ≡ x) × (is_out_of_range x ≡ false)
    by true le e =
        let it : z ≡ x = same (Ok z) (Ok x) e in
        (it, sym (ap is_out_of_range it) ∙ ap not le)
    by false le e = absurd (cc)

-- a number out of range
pub out_of_range : (z : ℤ) (e : TooBigValue) → ranged z ≡ Err e → is_out_of_range z ≡ true
out_of_range z e f = by (nat_le (unsigned_abs z) 9223372036854775807) refl f
  where
    by : (b : Bool) → nat_le (unsigned_abs z) 9223372036854775807 ≡ b
        → cond {A = Result ℤ TooBigValue} b (Ok z) (Err (record {})) ≡ Err e
        → is_out_of_range z ≡ true
    by true le f = absurd (cc)
    by false le f = ap not le

cons_parts : {X : Type 0} (a b : X) (xs ys : List X) → a ∷ xs ≡ b ∷ ys → (a ≡ b) × (xs ≡ ys)
cons_parts a b xs ys e = (cc, cc)

-- none of these values is out of range, and they are those that their ranges have
pub record InRange (zs xs : List ℤ) : Type 0 where
  pub same : zs ≡ xs
  pub none : (from : ℕ) → position_from is_out_of_range from xs ≡ None

pub all_in_range : (zs xs : List ℤ) → map ranged zs ≡ map (λ x. Ok x) xs → InRange zs xs
all_in_range [] [] e = record { same = refl; none = λ from. refl }
all_in_range [] (x ∷ xs) e = absurd (cc)
all_in_range (z ∷ zs) [] e = absurd (cc)
all_in_range (z ∷ zs) (x ∷ xs) e =
    let both = cons_parts (ranged z) (Ok x) (map ranged zs) (map (λ x. Ok x) xs) e in
    let first = in_range z x both.0 in
    let rest = all_in_range zs xs both.1 in
    record {
      same = ap (λ y. y ∷ zs) first.0 ∙ ap (λ l. x ∷ l) rest.same;
      none = λ from.
          ap (λ b. cond b (Some from) (position_from is_out_of_range (from + 1) xs)) first.1
          ∙ rest.none (from + 1);
    }

-- values of which none is out of range can be sent
pub sends_all : (from : ℕ) (vs : List ℤ) → position_from is_out_of_range from vs ≡ None
    → AreSends vs
sends_all from [] e = tt
sends_all from (v ∷ vs) e = by (is_out_of_range v) refl e (λ rest. sends_all (from + 1) vs rest)
  where
    by : (b : Bool) → is_out_of_range v ≡ b
        → cond b (Some from) (position_from is_out_of_range (from + 1) vs) ≡ None
        → (position_from is_out_of_range (from + 1) vs ≡ None → AreSends vs)
        → AreSends (v ∷ vs)
    by false out e rest = (sendable v out, rest e)
    by true out e rest = absurd (cc)

-- where it stands
pub record OverAt (zs : List ℤ) (a b k : ℕ) : Type 0 where
  pub at : ℕ
  pub is : k ≡ a + at
  pub few : at < length zs
  pub found : position_from is_out_of_range b zs ≡ Some (b + at)

-- the first value out of range stands where the first of the ranges that is over does
pub first_over : (zs : List ℤ) (rs : List (Result ℤ TooBigValue)) (a b k : ℕ)
    → map ranged zs ≡ rs → position_from is_value_out a rs ≡ Some k → OverAt zs a b k
first_over [] [] a b k e found = absurd (cc)
first_over [] (r ∷ rs) a b k e found = absurd (cc)
first_over (z ∷ zs) [] a b k e found = absurd (cc)
first_over (z ∷ zs) (r ∷ rs) a b k e found =
    let both = cons_parts (ranged z) r (map ranged zs) rs e in
    by r both.0 found (λ more. first_over zs rs (a + 1) (b + 1) k both.1 more)
  where
    by : (r : Result ℤ TooBigValue) → ranged z ≡ r → position_from is_value_out a (r ∷ rs) ≡ Some k
        → (position_from is_value_out (a + 1) rs ≡ Some k → OverAt zs (a + 1) (b + 1) k)
        → OverAt (z ∷ zs) a b k
    by (Err out) e found rest =
        let here : a ≡ k = same_Some a k found in
        let first : b ≡ b + 0 = omega arith in
        record {
          at = 0;
          is = omega arith;
          few = omega arith;
          found = ap (λ c. cond c (Some b) (position_from is_out_of_range (b + 1) zs))
              (out_of_range z out e) ∙ ap (λ n. Some n) first;
        }
    by (Ok x) e found rest =
        let r = rest found in
        let in_z : is_out_of_range z ≡ false =
        (let i = in_range z x e in ap is_out_of_range i.0 ∙ i.1) in
        let is : k ≡ a + 1 + r.at = r.is in
        let few : r.at < length zs = r.few in
        let next : b + 1 + r.at ≡ b + suc r.at = omega arith in
        record {
          at = suc r.at;
          is = omega arith;
          few = omega arith;
          found = ap (λ c. cond c (Some b) (position_from is_out_of_range (b + 1) zs)) in_z
              ∙ r.found ∙ ap (λ n. Some n) next;
        }

-- where none of the ranges is over, none is out of range
pub none_over : (zs : List ℤ) (rs : List (Result ℤ TooBigValue)) (a b : ℕ) → map ranged zs ≡ rs
    → position_from is_value_out a rs ≡ None → position_from is_out_of_range b zs ≡ None
none_over [] rs a b e none = refl
none_over (z ∷ zs) [] a b e none = absurd (cc)
none_over (z ∷ zs) (Err out ∷ rs) a b e none = absurd (cc)
none_over (z ∷ zs) (Ok x ∷ rs) a b e none =
    let both = cons_parts (ranged z) (Ok x) (map ranged zs) rs e in
    let i = in_range z x both.0 in
    ap (λ c. cond c (Some b) (position_from is_out_of_range (b + 1) zs))
    (ap is_out_of_range i.0 ∙ i.1) ∙ none_over zs rs (a + 1) (b + 1) both.1 none

-- ---- whether all are in range

-- where all ranges are good no value is out of range, and else one is
pub all_out : (zs : List ℤ) (rs : List (Result ℤ TooBigValue)) (from : ℕ) → map ranged zs ≡ rs
    → (stepping.in_range rs ≡ true → position_from is_out_of_range from zs ≡ None)
    × (stepping.in_range rs ≡ false
    → (step : ℕ) × (position_from is_out_of_range from zs ≡ Some step))
all_out [] [] from e = ((λ good. refl), (λ bad. absurd (cc)))
all_out [] (r ∷ rs) from e = absurd (cc)
all_out (z ∷ zs) [] from e = absurd (cc)
all_out (z ∷ zs) (r ∷ rs) from e =
    let both = cons_parts (ranged z) r (map ranged zs) rs e in
    by r both.0 (all_out zs rs (from + 1) both.1)
  where
    by : (r : Result ℤ TooBigValue) → ranged z ≡ r
        → ((stepping.in_range rs ≡ true → position_from is_out_of_range (from + 1) zs ≡ None)
        × (stepping.in_range rs ≡ false
        → (step : ℕ) × (position_from is_out_of_range (from + 1) zs ≡ Some step)))
        → (stepping.in_range (r ∷ rs) ≡ true → position_from is_out_of_range from (z ∷ zs) ≡ None)
        × (stepping.in_range (r ∷ rs) ≡ false
        → (step : ℕ) × (position_from is_out_of_range from (z ∷ zs) ≡ Some step))
    by (Ok x) e rest =
        let i = in_range z x e in
        let fits : is_out_of_range z ≡ false = ap is_out_of_range i.0 ∙ i.1 in
        let move : position_from is_out_of_range from (z ∷ zs)
        ≡ position_from is_out_of_range (from + 1) zs =
        ap (λ b. cond b (Some from) (position_from is_out_of_range (from + 1) zs)) fits in (
          (λ good. move ∙ rest.0 good),
          (λ bad. let r = rest.1 bad in (r.0, move ∙ r.1)),
        )
    by (Err out) e rest = (
      (λ good. absurd (cc)),
      (λ bad. (
        from,
        ap (λ b. cond b (Some from) (position_from is_out_of_range (from + 1) zs))
            (out_of_range z out e),
      )),
    )
