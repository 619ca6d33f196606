-- A phaser with one member that signals in each phase.
use Rattle.std.proofs.Common.{◌≡◌, ◌<◌, ◌≤◌, ◌+◌, ◌-◌, ℕ, zero, suc, ℤ, pos, ◌+ℤ◌, ◌*ℤ◌, Bool, true, false, List, [], ◌∷◌, length, map, get_or, None, refl, ap, sym, ◌∙◌, arith}
use Rattle.std.specs.Prelude.{nat_le, nat_lt, slice_get, unsigned_abs}
use Rattle.std.specs.List.{range_with_len, find}
use Rattle.std.proofs.lemmas.Bool.Decides.{nat_tests}
use Rattle.std.proofs.lemmas.Int.{ints}
use Rattle.std.proofs.lemmas.Option.{slice_get-get_or}
use Rattle.phase_accum.specs.Sends.{AreSends, IsSend, value_max}
use Rattle.phase_accum.specs.Values.{applied, ranged}
use Rattle.phase_accum.specs.declared.outcome.Outcome.{Outcome}
use Rattle.phase_accum.specs.declared.outcome.Outcome.TheVariants.{Value}
use Rattle.graph_base.specs.Graphs.{phaser_at}
use Rattle.phase_base.specs.declared.operation.Op.{Op}
use Rattle.phase_base.specs.declared.operation.Op.TheVariants.{Sum, Product, Least, Greatest, Any}
use Rattle.stream_lists.specs.Jobs.{Job}
use Rattle.stream_lists.specs.Lists.{Contribution, entry, number, number_in, sends_in, value_by}
use Rattle.stream_lists.specs.Ranges.{first_fault, is_fault}
use Rattle.stream_lists.specs.Spans.{lengths_of, schedule_of}
use Rattle.stream_eval.proofs.Made.{AreSends-at}
use Rattle.stream_eval.proofs.Sends.{beyond, one, send_one}

-- ---- the value of one send

ranged-send : (v : ℤ) → IsSend v → ranged v ≡ Value v
ranged-send v is =
    let small : unsigned_abs v ≤ value_max = is.small in
    let passes : nat_le (unsigned_abs v) value_max ≡ true = grind (arith, nat_tests, small) in
    rw passes refl

add-zero : (v : ℤ) → v +ℤ pos 0 ≡ v
add-zero v = omega (arith, ints)

mul-one : (v : ℤ) → v *ℤ pos 1 ≡ v
mul-one v = omega (arith, ints)

pub value_by-one : (op : Op) (v : ℤ) → IsSend v → value_by op (v ∷ []) ≡ Value v
value_by-one Sum v is = ap ranged (add-zero v) ∙ ranged-send v is
value_by-one Product v is = ap ranged (mul-one v) ∙ ranged-send v is
value_by-one Least v is = refl
value_by-one Greatest v is = refl
value_by-one Any v is = refl

-- ---- numbers from a place on

-- what stands at each place of a list is the list
map-entries : (f : ℕ → ℤ) (a : ℕ) (vs : List ℤ)
    → ((n : ℕ) → n < length vs → f (a + n) ≡ entry vs n) → map f (range_with_len a (length vs)) ≡ vs
map-entries f a [] each = refl
map-entries f a (v ∷ vs) each =
    let here : a ≡ a + 0 = omega arith in
    let first : f a ≡ v = ap f here ∙ each 0 (omega arith) in
    let rest = map-entries f (a + 1) vs
    (λ n lt. let next : a + 1 + n ≡ a + suc n = omega arith in ap f next
    ∙ each (suc n) (omega arith)) in
    ap (λ w. w ∷ map f (range_with_len (a + 1) (length vs))) first ∙ ap (λ ws. v ∷ ws) rest

-- no number passes
find-none : (t : ℕ → Bool) (a m : ℕ) → ((n : ℕ) → n < m → t (a + n) ≡ false)
    → find t (range_with_len a m) ≡ None
find-none t a zero each = refl
find-none t a (suc m) each =
    let here : a ≡ a + 0 = omega arith in
    let first : t a ≡ false = ap t here ∙ each 0 (omega arith) in
    let rest = find-none t (a + 1) m
    (λ n lt. let next : a + 1 + n ≡ a + suc n = omega arith in ap t next
    ∙ each (suc n) (omega arith)) in
    rw first rest

-- ---- the only member

-- what it sends in a phase
sends_in-alone : (vs : List ℤ) (n : ℕ) → n < length vs → sends_in ((0, vs) ∷ []) n ≡ entry vs n ∷ []
sends_in-alone vs n lt =
    let place : n - 0 ≡ n = omega arith in
    send_one n (0, vs)
    ∙ ap one (beyond (nat_lt n 0) _ _ (grind (arith, nat_tests))
    (ap (slice_get vs) place ∙ slice_get-get_or vs n (pos 0) lt))

value-alone : (op : Op) (vs : List ℤ) (n : ℕ) → AreSends vs → n < length vs
    → value_by op (sends_in ((0, vs) ∷ []) n) ≡ Value (entry vs n)
value-alone op vs n sends lt =
    ap (value_by op) (sends_in-alone vs n lt)
    ∙ value_by-one op (entry vs n) (AreSends-at vs n (pos 0) sends lt)

-- its values are the phaser's list
pub numbers-alone : (job : Job) (p : ℕ) (value : List ℤ → Outcome) (members : List Contribution)
    (vs : List ℤ)
    → value ≡ value_by (phaser_at job.graph p).op → (phaser_at job.graph p).single ≡ None
    → members ≡ (0, vs) ∷ [] → length vs ≡ get_or (lengths_of job) p 0 → AreSends vs
    → vs ≡ map (number_in value job p members) (range_with_len 0 (get_or (lengths_of job) p 0))
numbers-alone job p value members vs value_is plain alone long sends =
    sym (ap (λ v. map (number_in v job p members) (range_with_len 0 (get_or (lengths_of job) p 0)))
    value_is
    ∙ (ap (λ ms. map (number_in op job p ms) (range_with_len 0 (get_or (lengths_of job) p 0))) alone
    ∙ (ap (λ m. map (number_in op job p ((0, vs) ∷ [])) (range_with_len 0 m)) (sym long)
    ∙ map-entries (number_in op job p ((0, vs) ∷ [])) 0 vs each)))
  where
    op : List ℤ → Outcome
    op = value_by (phaser_at job.graph p).op

    each : (n : ℕ) → n < length vs → number_in op job p ((0, vs) ∷ []) (0 + n) ≡ entry vs n
    each n lt =
        let same : 0 + n ≡ n = omega arith in
        ap (number_in op job p ((0, vs) ∷ [])) same
        ∙ (ap (λ s. number (applied s (op (sends_in ((0, vs) ∷ []) n)))) plain
        ∙ ap number (value-alone (phaser_at job.graph p).op vs n sends lt))

-- and none of them is too big
pub fault-alone : (job : Job) (p : ℕ) (value : List ℤ → Outcome) (members : List Contribution)
    (vs : List ℤ)
    → value ≡ value_by (phaser_at job.graph p).op
    → members ≡ (0, vs) ∷ [] → length vs ≡ get_or (lengths_of job) p 0 → AreSends vs
    → first_fault value job (schedule_of job) members p (get_or (lengths_of job) p 0) ≡ None
fault-alone job p value members vs value_is alone long sends =
    ap (λ v. first_fault v job (schedule_of job) members p (get_or (lengths_of job) p 0)) value_is
    ∙ (ap (λ ms. first_fault op job (schedule_of job) ms p (get_or (lengths_of job) p 0)) alone
    ∙ (ap (λ m. first_fault op job (schedule_of job) ((0, vs) ∷ []) p m) (sym long)
    ∙ find-none (is_fault op job (schedule_of job) ((0, vs) ∷ []) p) 0 (length vs) each))
  where
    op : List ℤ → Outcome
    op = value_by (phaser_at job.graph p).op

    each : (n : ℕ) → n < length vs
        → is_fault op job (schedule_of job) ((0, vs) ∷ []) p (0 + n) ≡ false
    each n lt =
        let same : 0 + n ≡ n = omega arith in
        ap (is_fault op job (schedule_of job) ((0, vs) ∷ []) p) same
        ∙ rw (value-alone (phaser_at job.graph p).op vs n sends lt) refl
