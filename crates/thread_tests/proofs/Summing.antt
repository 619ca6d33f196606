-- Each step of a counter keeps its rule.
use Rattle.std.proofs.Common.{◌≡◌, ◌≢◌, ℕ, zero, suc, ◌+◌, ◌-◌, ◌*◌, ◌%◌, ◌^◌, ◌<◌, ◌≤◌, Option, Some, None, List, [], ◌∷◌, ◌++◌, ◌⊎◌, set, sym, refl, ap, ◌∙◌, subst, inl, inr, ⊎_elim, arith}
use Rattle.std.proofs.Math.Nat.{add-mul}
use Rattle.std.proofs.lemmas.Option.{same_Some}
use mathlib.Core.Logic.{dite}
use mathlib.Core.Option.{some, some-injective, some-ne-none}
use native.Mathlib.Decide.{ℕ_discrete}
use lib.ListN.{get_elem?}
use Rattle.atomic_table.proofs.Lists.{at_set, at_snoc, at_longer, set_here, set_else, set_again}
use Rattle.thread_tests.specs.declared.counting.Tally.{Tally}
use Rattle.turn_lock.specs.Steps.{Takes, GivesBack, Looks, Forks, Merges, Busy}
use Rattle.thread_tests.specs.Counting.{tally, total, counted, IsSumOf, IsCounted, Grabs, first_half, second_half, both}
use Rattle.turn_lock.proofs.Keeping.{within}

-- the total after a change of one view
total-set : (f : Tally → ℕ) (l : List Tally) (i : ℕ) (v w : Tally) → get_elem? l i ≡ some v → total f (set l i w) + f v ≡ total f l + f w
total-set f [] i v w e = absurd (some-ne-none v (sym e))
total-set f (x ∷ xs) zero v w e = let is : f x ≡ f v = ap f (some-injective x v e) in omega arith
total-set f (x ∷ xs) (suc i) v w e = let r = total-set f xs i v w e in omega arith

total-snoc : (f : Tally → ℕ) (l : List Tally) (w : Tally) → total f (l ++ w ∷ []) ≡ total f l + f w
total-snoc f [] w = omega arith
total-snoc f (x ∷ xs) w = let r = total-snoc f xs w in omega arith

total_has : (f : Tally → ℕ) (l : List Tally) (i : ℕ) (v : Tally) → get_elem? l i ≡ some v → f v ≤ total f l
total_has f [] i v e = absurd (some-ne-none v (sym e))
total_has f (x ∷ xs) zero v e = let is : f x ≡ f v = ap f (some-injective x v e) in omega arith
total_has f (x ∷ xs) (suc i) v e = let r = total_has f xs i v e in omega arith

abbrev parts_of : Tally → ℕ
parts_of v = v.parts

abbrev count_of : Tally → ℕ
count_of v = v.count

abbrev Idle : List Tally → Type 0
Idle l = (j : ℕ) (v : Tally) → get_elem? l j ≡ some v → v.parts ≡ 0 → v ≡ tally 0 0 None

none_left : (l : List Tally) → total parts_of l ≡ 0 → Idle l → total count_of l ≡ 0
none_left [] none idle = refl
none_left (x ∷ xs) none idle =
    let here : x.count ≡ 0 = ap count_of (idle 0 x refl (omega arith)) in
    let r = none_left xs (omega arith) (λ j v e. idle (suc j) v e) in omega arith

-- a seat with all parts counted all
counted_all : (l : List Tally) (i : ℕ) (v : Tally) → get_elem? l i ≡ some v → total parts_of l ≡ v.parts → Idle l → total count_of l ≡ v.count
counted_all [] i v e all idle = absurd (some-ne-none v (sym e))
counted_all (x ∷ xs) zero v e all idle =
    let is : x.parts ≡ v.parts = ap parts_of (some-injective x v e) in
    let same : x.count ≡ v.count = ap count_of (some-injective x v e) in
    let r = none_left xs (omega arith) (λ j u h. idle (suc j) u h) in omega arith
counted_all (x ∷ xs) (suc i) v e all idle =
    let has = total_has parts_of xs i v e in
    let here : x.count ≡ 0 = ap count_of (idle 0 x refl (omega arith)) in
    let r = counted_all xs i v e (omega arith) (λ j u h. idle (suc j) u h) in omega arith

idle_set : (l : List Tally) (i : ℕ) (w : Tally) → Idle l → 0 < w.parts → Idle (set l i w)
idle_set l i w idle more j v e none = ⊎_elim
    (λ (p : (j ≡ i) × (w ≡ v)). let is : w.parts ≡ v.parts = ap parts_of p.1 in absurd (omega arith))
    (λ (p : (j ≢ i) × (get_elem? l j ≡ some v)). idle j v p.1 none)
    (at_set l i j w v e)

idle_spent : (l : List Tally) (i : ℕ) → Idle l → Idle (set l i (tally 0 0 None))
idle_spent l i idle j v e none = ⊎_elim
    (λ (p : (j ≡ i) × (tally 0 0 None ≡ v)). sym p.1)
    (λ (p : (j ≢ i) × (get_elem? l j ≡ some v)). idle j v p.1 none)
    (at_set l i j (tally 0 0 None) v e)

idle_snoc : (l : List Tally) (w : Tally) → Idle l → 0 < w.parts → Idle (l ++ w ∷ [])
idle_snoc l w idle more j v e none = ⊎_elim
    (λ (p : get_elem? l j ≡ some v). idle j v p none)
    (λ (p : w ≡ v). let is : w.parts ≡ v.parts = ap parts_of p in absurd (omega arith))
    (at_snoc l w v j e)

none_some : {A : Type 0} (o : Option A) (x : A) → o ≡ None → o ≡ Some x → ⊥
none_some o x e f = cc

-- the same seats took the same sums
record SameTakes (xs ys : List Tally) : Type 0 where
  back : (j : ℕ) (d : Tally) → get_elem? ys j ≡ some d → (d.took ≡ None) ⊎ ((u : Tally) × (get_elem? xs j ≡ some u) × (d.took ≡ u.took))
  forth : (j : ℕ) (d : Tally) → get_elem? xs j ≡ some d → (d.took ≡ None) ⊎ ((u : Tally) × (get_elem? ys j ≡ some u) × (u.took ≡ d.took))

set_takes : (xs : List Tally) (i : ℕ) (v w : Tally) → get_elem? xs i ≡ some v → w.took ≡ v.took → SameTakes xs (set xs i w)
set_takes xs i v w at same = record {
  back = λ j d e. ⊎_elim
      (λ (p : (j ≡ i) × (w ≡ d)). inr (v, ap (get_elem? xs) p.0 ∙ at, ap (λ (z : Tally). z.took) (sym p.1) ∙ same))
      (λ (p : (j ≢ i) × (get_elem? xs j ≡ some d)). inr (d, p.1, refl))
      (at_set xs i j w d e);
  forth = λ j d e. dite (ℕ_discrete j i)
      (λ (p : j ≡ i). inr (
        w,
        ap (get_elem? (set xs i w)) p ∙ set_here xs i w (within xs i v at),
        same ∙ ap (λ (z : Tally). z.took) (some-injective v d (sym at ∙ ap (get_elem? xs) (sym p) ∙ e)),
      ))
      (λ (p : j ≢ i). inr (d, set_else xs i j w p ∙ e, refl));
}

snoc_takes : (xs : List Tally) (w : Tally) → w.took ≡ None → SameTakes xs (xs ++ w ∷ [])
snoc_takes xs w none = record {
  back = λ j d e. ⊎_elim
      (λ (p : get_elem? xs j ≡ some d). inr (d, p, refl))
      (λ (p : w ≡ d). inl (ap (λ (z : Tally). z.took) (sym p) ∙ none))
      (at_snoc xs w d j e);
  forth = λ j d e. inr (d, at_longer xs (w ∷ []) j d e, refl);
}

-- a step that leaves the sum and what was taken
still_sum : (home : Option ℕ) (xs ys : List Tally) → counted ys ≡ counted xs → SameTakes xs ys → IsSumOf home xs → IsSumOf home ys
still_sum (Some x) xs ys same takes s = (
  s.0 ∙ ap (λ (n : ℕ). n % 2 ^ 64) (sym same),
  (λ j d e. ⊎_elim
      (λ (p : d.took ≡ None). p)
      (λ (p : (u : Tally) × (get_elem? xs j ≡ some u) × (d.took ≡ u.took)). p.2 ∙ s.1 j p.0 p.1)
      (takes.back j d e)),
)
still_sum None xs ys same takes s = ⊎_elim
    (λ (p : s.1.took ≡ None). absurd (none_some s.1.took (counted xs % 2 ^ 64) p s.3))
    (λ (p : (u : Tally) × (get_elem? ys s.0 ≡ some u) × (u.took ≡ s.1.took)). (
      s.0,
      p.0,
      p.1,
      p.2 ∙ s.3 ∙ ap (λ (n : ℕ). Some (n % 2 ^ 64)) (sym same),
      (λ j d e ne. ⊎_elim
          (λ (q : d.took ≡ None). q)
          (λ (q : (u : Tally) × (get_elem? xs j ≡ some u) × (d.took ≡ u.took)). q.2 ∙ s.4 j q.0 q.1 ne)
          (takes.back j d e)),
    ))
    (takes.forth s.0 s.1 s.2)

then_takes : (xs ys zs : List Tally) → SameTakes xs ys → SameTakes ys zs → SameTakes xs zs
then_takes xs ys zs p q = record {
  back = λ j d e. ⊎_elim
      (λ (h : d.took ≡ None). inl h)
      (λ (h : (u : Tally) × (get_elem? ys j ≡ some u) × (d.took ≡ u.took)). ⊎_elim
      (λ (k : h.0.took ≡ None). inl (h.2 ∙ k))
      (λ (k : (u : Tally) × (get_elem? xs j ≡ some u) × (h.0.took ≡ u.took)). inr (k.0, k.1, h.2 ∙ k.2))
      (p.back j h.0 h.1))
      (q.back j d e);
  forth = λ j d e. ⊎_elim
      (λ (h : d.took ≡ None). inl h)
      (λ (h : (u : Tally) × (get_elem? ys j ≡ some u) × (u.took ≡ d.took)). ⊎_elim
      (λ (k : h.0.took ≡ None). inl (sym h.2 ∙ k))
      (λ (k : (u : Tally) × (get_elem? zs j ≡ some u) × (u.took ≡ h.0.took)). inr (k.0, k.1, k.2 ∙ h.2))
      (q.forth j h.0 h.1))
      (p.forth j d e);
}

pub takes_sum : (n number : ℕ) (v : Tally) → 0 < v.parts → Takes IsCounted n number v (Grabs n)
takes_sum n number v more x views k at =
    let w : Tally = tally v.parts v.count (Some x) in
    let parts = total-set parts_of views number v w at in
    let count = total-set count_of views number v w at in
    let all = k.all in
    let same : counted (set views number w) ≡ counted views = omega arith in (
      w,
      record {
        all = omega arith;
        idle = idle_set views number w k.idle more;
        sum = (
          number,
          w,
          set_here views number w (within views number v at),
          ap (λ (z : ℕ). Some z) (k.sum.0 ∙ ap (λ (z : ℕ). z % 2 ^ 64) (sym same)),
          (λ j d e ne. ⊎_elim
              (λ (p : (j ≡ number) × (w ≡ d)). absurd (ne p.0))
              (λ (p : (j ≢ number) × (get_elem? views j ≡ some d)). k.sum.1 j d p.1)
              (at_set views number j w d e)),
        );
      },
      (refl, λ whole. k.sum.0 ∙ ap (λ (z : ℕ). z % 2 ^ 64) (counted_all views number v at (k.all ∙ sym whole) k.idle)),
    )

-- the seat that took the sum is the holder
took_it : (views : List Tally) (number : ℕ) (v : Tally) (x : ℕ) (s : IsSumOf None views) → get_elem? views number ≡ some v → v.took ≡ Some x
    → (number ≡ s.0) × (x ≡ counted views % 2 ^ 64)
took_it views number v x s at took = dite (ℕ_discrete number s.0)
    (λ (p : number ≡ s.0).
    let is : v ≡ s.1 = some-injective v s.1 (sym at ∙ ap (get_elem? views) p ∙ s.2) in
    (p, same_Some x (counted views % 2 ^ 64) (sym took ∙ ap (λ (z : Tally). z.took) is ∙ s.3)))
    (λ (p : number ≢ s.0). absurd (none_some v.took x (s.4 number v at p) took))

pub gives_sum : (n number : ℕ) (v : Tally) (x y count : ℕ) → 0 < v.parts → v.took ≡ Some x → v.count ≤ count → y ≡ (x + (count - v.count)) % 2 ^ 64
    → GivesBack IsCounted n number v y (λ u z w. w ≡ tally v.parts count None)
gives_sum n number v x y count more took up is views k at =
    let w : Tally = tally v.parts count None in
    let mine = took_it views number v x k.sum at took in
    let parts = total-set parts_of views number v w at in
    let counts = total-set count_of views number v w at in
    let all = k.all in
    let taken : x ≡ counted views % 2 ^ 64 = mine.1 in (
      w,
      record {
        all = omega arith;
        idle = idle_set views number w k.idle more;
        sum = (
          omega arith,
          (λ j d e. ⊎_elim
              (λ (p : (j ≡ number) × (w ≡ d)). ap (λ (z : Tally). z.took) (sym p.1))
              (λ (p : (j ≢ number) × (get_elem? views j ≡ some d)). k.sum.4 j d p.1 (λ h. p.0 (h ∙ sym mine.0)))
              (at_set views number j w d e)),
        );
      },
      refl,
    )

pub forks_sum : (n number : ℕ) (v : Tally) → 1 < v.parts → Forks IsCounted n number v (first_half v) (second_half v)
forks_sum n number v more home views k at =
    let l : Tally = first_half v in
    let r : Tally = second_half v in
    let left : List Tally = set views number l in
    let parts = total-set parts_of views number v l at in
    let parts' = total-snoc parts_of left r in
    let counts = total-set count_of views number v l at in
    let counts' = total-snoc count_of left r in
    let all = k.all in
    let same : counted (left ++ r ∷ []) ≡ counted views = omega arith in
    record {
      all = omega arith;
      idle = idle_snoc left r (idle_set views number l k.idle (omega arith)) (omega arith);
      sum = still_sum home views (left ++ r ∷ []) same
          (then_takes views left (left ++ r ∷ []) (set_takes views number v l at refl) (snoc_takes left r refl)) k.sum;
    }

pub merges_sum : (n number other : ℕ) (v w : Tally) → 0 < v.parts → w.took ≡ None
    → Merges IsCounted n number v other w (both v w) (tally 0 0 None)
merges_sum n number other v w more none home views k apart at at' =
    let b : Tally = both v w in
    let spent : Tally = tally 0 0 None in
    let one : List Tally = set views number b in
    let two : List Tally = set one other spent in
    let there : get_elem? one other ≡ some w = set_else views number other b apart ∙ at' in
    let parts = total-set parts_of views number v b at in
    let parts' = total-set parts_of one other w spent there in
    let counts = total-set count_of views number v b at in
    let counts' = total-set count_of one other w spent there in
    let all = k.all in
    let same : counted two ≡ counted views = omega arith in
    record {
      all = omega arith;
      idle = idle_spent one other (idle_set views number b k.idle (omega arith));
      sum = still_sum home views two same
          (then_takes views one two (set_takes views number v b at refl) (set_takes one other w spent there (sym none))) k.sum;
    }

pub looks_sum : (n number : ℕ) (v : Tally) → Looks IsCounted n number v (λ u w. w ≡ u)
looks_sum n number v home views k at = (v, subst (IsCounted n home) (sym (set_again views number v at)) k, refl)

two_have : (f : Tally → ℕ) (l : List Tally) (i j : ℕ) (v w : Tally) → j ≢ i → get_elem? l i ≡ some v → get_elem? l j ≡ some w → f v + f w ≤ total f l
two_have f [] i j v w ne e h = absurd (some-ne-none v (sym e))
two_have f (x ∷ xs) zero zero v w ne e h = absurd (ne refl)
two_have f (x ∷ xs) zero (suc j) v w ne e h = let is : f x ≡ f v = ap f (some-injective x v e) in let r = total_has f xs j w h in omega arith
two_have f (x ∷ xs) (suc i) zero v w ne e h = let is : f x ≡ f w = ap f (some-injective x w h) in let r = total_has f xs i v e in omega arith
two_have f (x ∷ xs) (suc i) (suc j) v w ne e h = let r = two_have f xs i j v w (λ p. ne (ap suc p)) e h in omega arith

-- no other seat has the turn beside one with all parts
pub not_busy : (n : ℕ) (v : Tally) → Busy IsCounted n v → v.parts ≡ n → v.took ≡ None → ⊥
not_busy n v b whole none =
    let s = b.kept.sum in
    let w : Tally = s.1 in
    let sum : ℕ = counted b.views % 2 ^ 64 in
    dite (ℕ_discrete s.0 b.number)
    (λ (p : s.0 ≡ b.number).
    let is : v ≡ w = some-injective v w (sym b.here ∙ ap (get_elem? b.views) (sym p) ∙ s.2) in
    none_some v.took sum none (ap (λ (z : Tally). z.took) is ∙ s.3))
    (λ (p : s.0 ≢ b.number).
    let all = b.kept.all in
    let two : v.parts + w.parts ≤ total parts_of b.views = two_have parts_of b.views b.number s.0 v w p b.here s.2 in
    let idle : w ≡ tally 0 0 None = b.kept.idle s.0 w s.2 (omega arith) in
    none_some w.took sum (ap (λ (z : Tally). z.took) idle) s.3)

-- what two threads counted with the halves of a seat's parts, joined
pub halves_joined : (v l r a b w : Tally) (parts half times : ℕ) → half ≤ parts → l.count ≡ v.count → r.count ≡ 0
    → a ≡ tally (parts - half) (l.count + (parts - half) * times) None → b ≡ tally half (r.count + half * times) None → w ≡ both a b
    → w ≡ tally parts (v.count + parts * times) None
halves_joined v l r a b w parts half times fits e f p q is =
    let first : ℕ = parts - half in
    let whole : first + half ≡ parts = omega arith in
    let all : first * times + half * times ≡ parts * times = sym (add-mul first half times) ∙ ap (λ n. n * times) whole in
    let count : (l.count + first * times) + (r.count + half * times) ≡ v.count + parts * times = omega arith in
    is ∙ (λ i. both (p i) (q i)) ∙ (λ i. tally (whole i) (count i) None)
