-- Lists of tasks in memory.
use Rattle.std.proofs.Common.{◌≡◌, ℕ, zero, suc, ◌+◌, ◌<◌, ◌≤◌, Bool, true, false, ◌||◌, eqb, List, [], ◌∷◌, ◌++◌, length, get_or, set, replicate, refl, sym, ap, subst, ◌∙◌, arith}
use Rattle.std.specs.List.{All, Any, list_any, IsDistinct}
use Rattle.std.specs.Cmp.{nat_eq_equiv}
use Rattle.std.proofs.lemmas.Bool.{eqb-true, eq-eqb}
use Rattle.std.proofs.lemmas.List.{get_or-set_same, get_or-set_other, length-append, length-set}
use Rattle.std.proofs.lemmas.List.Elements.{All-push}
use Rattle.std.proofs.lemmas.List.Folds.{Any-from_list_any, list_any-append}
use Rattle.std.proofs.lemmas.Map.Keys.{IsDistinct-push}
use Rattle.std.proofs.lemmas.Map.Steps.{length-le_from_distinct_below}
use Rattle.std.proofs.Math.Bool.{or-false, or-true}
use Rattle.smallvec.specs.SmallVec.{SmallVec}
use Rattle.stream_job.specs.TaskLists.{IsTaskList}

-- a test that asks the other way round
any_flip : (t : ℕ) (list : List ℕ) → list_any (λ u. eqb u t) list ≡ list_any (eqb t) list
any_flip t [] = refl
any_flip t (u ∷ list) =
    ap (λ b. b || list_any (λ x. eqb x t) list) (nat_eq_equiv.symm u t)
    ∙ ap (λ b. eqb t u || b) (any_flip t list)

-- a list below 64 with no two equal is not longer
few : (list : List ℕ) → IsDistinct eqb list → All (λ t. t < 64) list → length list ≤ 64
few list distinct below =
    length-le_from_distinct_below list 64 distinct
    (λ q e. at q (Any-from_list_any (eqb q) list e))
  where
    at : (q : ℕ) → Any (λ x. eqb q x ≡ true) list → q < 64
    at q found =
        let here = below found.0 found.1 found.2 in
        let same : found.1 ≡ q = sym (eqb-true q found.1 found.4) in
        subst (λ x. x < 64) same (subst (λ x. x < 64) found.3 here)

no_two : (eq : ℕ → ℕ → Bool) → IsDistinct eq []
unfolding IsDistinct
no_two eq = tt

-- one more task
one_more_task : (list : List ℕ) (t : ℕ) → IsDistinct eqb list → All (λ u. u < 64) list → t < 64
    → list_any (λ u. eqb u t) list ≡ false
    → IsDistinct eqb (list ++ t ∷ []) × All (λ u. u < 64) (list ++ t ∷ [])
one_more_task list t distinct below lt none = (
  IsDistinct-push nat_eq_equiv list t distinct (sym (any_flip t list) ∙ none),
  All-push (λ u. u < 64) list t below lt,
)

-- a list of tasks in which one of them does not stand has room for it
pub room_for_one : (list : SmallVec ℕ) (stands : List Bool) (t : ℕ) → IsTaskList list stands
    → t < 64 → list_any (λ u. eqb u t) list.items ≡ false → length list.items + 1 ≤ list.capacity
room_for_one list stands t is lt none =
    let both = one_more_task list.items t is.distinct is.below lt none in
    let many = few (list.items ++ t ∷ []) both.0 both.1 in
    omega (arith, length-append list.items (t ∷ []), is.room)

-- an empty list
pub empty_list : (list : SmallVec ℕ) (stands : List Bool) → list.items ≡ [] → 64 ≤ list.capacity
    → ((t : ℕ) → get_or stands t false ≡ false) → length stands ≡ 64 → IsTaskList list stands
empty_list list stands items room none many = record {
  room = room;
  distinct = subst (IsDistinct eqb) (sym items) (no_two eqb);
  below = subst (All (λ t. t < 64)) (sym items) (λ k d lt. absurd (omega arith));
  many = many;
  marked = λ t. none t ∙ sym (ap (list_any (λ u. eqb u t)) items);
}

-- who stands in a list with one more task
stands_with : (t u : ℕ) (list : List ℕ)
    → list_any (λ x. eqb x u) (list ++ t ∷ []) ≡ (list_any (λ x. eqb x u) list || eqb t u)
stands_with t u list =
    list_any-append (λ x. eqb x u) list (t ∷ [])
    ∙ ap (λ b. list_any (λ x. eqb x u) list || b) (or-false (eqb t u))

-- a list that took one more task, which is marked
pub longer_list : (old new : SmallVec ℕ) (stands : List Bool) (t : ℕ) → IsTaskList old stands
    → t < 64 → list_any (λ u. eqb u t) old.items ≡ false
    → new.items ≡ old.items ++ t ∷ [] → new.capacity ≡ old.capacity
    → IsTaskList new (set stands t true)
longer_list old new stands t is lt none items capacity =
    let both = one_more_task old.items t is.distinct is.below lt none in
    let room = is.room in
    record {
      room = omega arith;
      distinct = subst (IsDistinct eqb) (sym items) both.0;
      below = subst (All (λ u. u < 64)) (sym items) both.1;
      many = length-set stands t true ∙ is.many;
      marked = λ u. by u (eqb u t) refl
          ∙ sym (ap (list_any (λ x. eqb x u)) items ∙ stands_with t u old.items);
    }
  where
    by : (u : ℕ) (b : Bool) → eqb u t ≡ b
        → get_or (set stands t true) u false ≡ (list_any (λ x. eqb x u) old.items || eqb t u)
    by u true e =
        let same : u ≡ t = eqb-true u t e in
        ap (λ x. get_or (set stands t true) x false) same
        ∙ get_or-set_same stands t true false (let many = is.many in omega arith)
        ∙ sym (ap (λ b. list_any (λ x. eqb x u) old.items || b)
        (eq-eqb t u (sym same)) ∙ or-true (list_any (λ x. eqb x u) old.items))
    by u false e =
        get_or-set_other stands t u true false (λ same. (let no = sym (eq-eqb u t same) ∙ e in cc))
        ∙ is.marked u
        ∙ sym (ap (λ b. list_any (λ x. eqb x u) old.items || b) (nat_eq_equiv.symm t u ∙ e)
        ∙ or-false (list_any (λ x. eqb x u) old.items))

-- an empty list more: each is empty still
pub one_more_empty : (lists : List (List ℕ)) → ((p : ℕ) → get_or lists p [] ≡ [])
    → (p : ℕ) → get_or (lists ++ [] ∷ []) p [] ≡ []
one_more_empty [] each zero = refl
one_more_empty [] each (suc p) = refl
one_more_empty (x ∷ lists) each zero = each zero
one_more_empty (x ∷ lists) each (suc p) = one_more_empty lists (λ q. each (suc q)) p

-- of so many marks none is made at first
pub none_marked : (n t : ℕ) → get_or (replicate n false) t false ≡ false
none_marked zero zero = refl
none_marked zero (suc t) = refl
none_marked (suc n) zero = refl
none_marked (suc n) (suc t) = none_marked n t
