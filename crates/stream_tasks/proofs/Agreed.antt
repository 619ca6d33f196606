-- When what two tasks know of one another agrees.
use Rattle.std.proofs.Common.{◌≡◌, ℕ, suc, ◌+◌, ◌<◌, ◌≤◌, Bool, true, false, eqb, ◌||◌, List, [], ◌∷◌, Option, Some, None, is_some, length, slice_get, refl, sym, ap, subst, ◌∙◌, arith, ◌⊎◌, inl, inr}
use lib.Pointwise.{pointwise}
use Rattle.std.specs.Prelude.{IfSome, nat_eq}
use Rattle.std.proofs.lemmas.Bool.{eqb-true, cases_lt, and_parts}
use Rattle.std.proofs.lemmas.Option.{same_Some}
use Rattle.phase_base.specs.Lists.{is_in}
use Rattle.graph_base.specs.declared.line.Parent.{Parent}
use Rattle.graph_base.specs.Graphs.{task_at}
use Rattle.stream_lists.specs.Jobs.{Job}
use Rattle.stream_tasks.specs.declared.ending.task_left.TaskKnowledge.{TaskKnowledge}
use Rattle.stream_tasks.specs.Joinings.{IsPlaced}
use Rattle.stream_tasks.specs.TaskLefts.{given_to}
use Rattle.stream_tasks.specs.Agreeing.{Agrees}
use Rattle.stream_tasks.proofs.TakingIn.{same_at}

-- a root that came
pub agreed_root : (job : Job) (parts : List (Option TaskKnowledge)) (c : ℕ) (part : TaskKnowledge)
    → (task_at job.graph c).parent ≡ None → IsPlaced parts c part → Agrees job parts c
agreed_root job parts c part root is = record {
  root = λ e. (part, is);
  parent = λ u own has e. absurd (let no : None ≡ Some u = sym root ∙ e in cc);
  given = λ u own e has. absurd (let no : None ≡ Some u = sym root ∙ e in cc);
}

-- a child that came with the numbers that it was given
pub agreed_child : (job : Job) (parts : List (Option TaskKnowledge)) (c : ℕ) (u : Parent) (own above : TaskKnowledge)
    → (task_at job.graph c).parent ≡ Some u → IsPlaced parts c own → IsPlaced parts u.task above
    → u.at ≤ above.begun → given_to above.given.items c ≡ own.numbers.items → Agrees job parts c
agreed_child job parts c u own above has is_own is_above enough same = record {
  root = λ e. absurd (let no : None ≡ Some u = sym e ∙ has in cc);
  parent = λ v part at e.
      (let one : u ≡ v = same_Some u v (sym has ∙ e) in
      let P : Parent → Type 0 = λ x.
      (other : TaskKnowledge) × IsPlaced parts x.task other × (x.at ≤ other.begun) in
      subst P one (above, is_above, enough));
  given = λ v part e at.
      (let one : u ≡ v = same_Some u v (sym has ∙ e) in
      let at_u : IsPlaced parts u.task part = rw one at in
      let it : above ≡ part = same_at parts u.task above part is_above at_u in
      inr (own, is_own, sym same ∙ ap (λ (x : TaskKnowledge). given_to x.given.items c) it));
}

-- whom a test found
pub found_part : {X : Type 0} (o : Option X) (P : X → Type 0) → is_some o ≡ true → IfSome o P
    → (x : X) × P x
found_part None P e has = absurd (cc)
found_part (Some x) P e has = (x, has)

-- a number that stands in a list stands at some place of it
pub place_of_number : (xs : List ℕ) (a : ℕ) → is_in a xs ≡ true
    → (k : ℕ) × (k < length xs) × (slice_get xs k ≡ Some a)
place_of_number [] a e = absurd (cc)
place_of_number (x ∷ xs) a e = by (eqb x a) refl e (λ f. place_of_number xs a f)
  where
    by : (b : Bool) → eqb x a ≡ b → (b || is_in a xs) ≡ true
        → (is_in a xs ≡ true → (k : ℕ) × (k < length xs) × (slice_get xs k ≡ Some a))
        → (k : ℕ) × (k < suc (length xs)) × (slice_get (x ∷ xs) k ≡ Some a)
    by true same e more = (0, omega arith, ap (λ y. Some y) (eqb-true x a same))
    by false same e more =
        let r = more e in
        let low : r.0 < length xs = r.1 in
        (suc r.0, omega arith, r.2)

-- what holds of all below, and of the next one
pub below_next : (P : ℕ → Type 0) (n : ℕ) → ((u : ℕ) → u < n → P u) → P n → (u : ℕ) → u < n + 1
    → P u
below_next P n before here u lt = by (cases_lt u n)
  where
    by : (u < n) ⊎ (n ≤ u) → P u
    by (inl less) = before u less
    by (inr more) = let same : n ≡ u = omega arith in subst P same here

-- lists that a test finds to be the same are
pub same_lists : (xs ys : List ℕ) → pointwise nat_eq xs ys ≡ true → xs ≡ ys
same_lists [] [] e = refl
same_lists [] (y ∷ ys) e = absurd (cc)
same_lists (x ∷ xs) [] e = absurd (cc)
same_lists (x ∷ xs) (y ∷ ys) e =
    let both = and_parts (nat_eq x y) (pointwise nat_eq xs ys) e in
    ap (λ z. z ∷ xs) (eqb-true x y both.0) ∙ ap (λ zs. y ∷ zs) (same_lists xs ys both.1)
