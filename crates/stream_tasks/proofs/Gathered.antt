-- One task more stands with those before it.
use Rattle.std.proofs.Common.{◌≡◌, ℕ, zero, suc, ◌<◌, ◌≤◌, Bool, true, false, ◌||◌, eqb, List, [], ◌∷◌, ◌++◌, Option, Some, None, length, slice_get, refl, sym, ap, subst, ◌∙◌, ◌⊎◌, inl, inr}
use Rattle.std.proofs.lemmas.Bool.{cases_lt, eqb-true}
use Rattle.std.proofs.lemmas.Option.{same_Some, slice_get_past}
use Rattle.phase_history.specs.Histories.{History}
use Rattle.phase_history.specs.Others.{OthersCame}
use Rattle.phase_base.specs.Lists.{is_in}
use Rattle.phase_history.proofs.OthersEvents.{OthersCame-trans, OthersCame-fewer}
use Rattle.stream_lists.specs.Jobs.{Job}
use Rattle.graph_runs.proofs.Founding.{in_one}
use Rattle.stream_members.specs.AnyMembers.{left_in}
use Rattle.stream_members.specs.declared.any_left.AnyLeft.{AnyLeft}
use Rattle.graph_runs.specs.Nexts.{registrations_at}
use Rattle.graph_runs.specs.TaskPlaces.{registration_at}
use Rattle.graph_runs.specs.TaskEnds.{TaskEnd}
use Rattle.graph_runs.specs.RunEnds.{Ends, IsRegisteredOn}
use Rattle.stream_tasks.specs.Joinings.{IsPlaced, HasGrownTo, IsTakenIn}
use Rattle.stream_tasks.specs.Gatherings.{HasGathered}
use Rattle.stream_tasks.proofs.TakingIn.{same_at, grown_to_trans}

-- ---- lists with one more at the end

-- what stands at a place of the longer list
pub in_longer : {X : Type 0} (xs : List X) (x y : X) (i : ℕ) → slice_get (xs ++ x ∷ []) i ≡ Some y
    → (slice_get xs i ≡ Some y) ⊎ ((i ≡ length xs) × (x ≡ y))
in_longer [] x y zero e = inr (refl, same_Some x y e)
in_longer [] x y (suc i) e = absurd (cc)
in_longer (z ∷ xs) x y zero e = inl e
in_longer (z ∷ xs) x y (suc i) e = by (in_longer xs x y i e)
  where
    by : (slice_get xs i ≡ Some y) ⊎ ((i ≡ length xs) × (x ≡ y))
        → (slice_get (z ∷ xs) (suc i) ≡ Some y) ⊎ ((suc i ≡ suc (length xs)) × (x ≡ y))
    by (inl f) = inl f
    by (inr f) = inr (ap (λ n. suc n) f.0, f.1)

pub below_length : {X : Type 0} (xs : List X) (i : ℕ) (x : X) → slice_get xs i ≡ Some x
    → i < length xs
below_length xs i x e = by (cases_lt i (length xs))
  where
    by : (i < length xs) ⊎ (length xs ≤ i) → i < length xs
    by (inl less) = less
    by (inr past) =
        absurd (let none : slice_get xs i ≡ None = slice_get_past xs i past in
        let no : None ≡ Some x = sym none ∙ e in cc)

-- ---- a task that never came

-- its registrations are none
pub absent_registered : (job : Job) (ends : Ends) (t i p n : ℕ) (seen : History)
    → IsRegisteredOn job (ends ++ None ∷ []) t i p n seen → IsRegisteredOn job ends t i p n seen
absent_registered job ends t i p n seen on = by (in_longer ends None (Some on.end) t on.came)
  where
    by : (slice_get ends t ≡ Some (Some on.end)) ⊎ ((t ≡ length ends) × (None ≡ Some on.end))
        → IsRegisteredOn job ends t i p n seen
    by (inl come) = record {
      end = on.end;
      came = come;
      few = on.few;
      phaser = on.phaser;
      number = on.number;
      saw = on.saw;
    }
    by (inr never) = absurd (let no : None ≡ Some on.end = never.1 in cc)

pub gathered_absent : (job : Job) (ends : Ends) (p : ℕ) (founder all : AnyLeft)
    → HasGathered job ends p founder all → HasGathered job (ends ++ None ∷ []) p founder all
gathered_absent job ends p founder all g = record {
  grown = g.grown;
  tasks_came = λ t i n seen on.
      g.tasks_came t i n seen (absent_registered job ends t i p n seen on);
  not_founder = λ t i n seen on.
      g.not_founder t i n seen (absent_registered job ends t i p n seen on);
  distinct = λ t u i j n seen other one two.
      g.distinct t u i j n seen other (absent_registered job ends t i p n seen one)
      (absent_registered job ends u j p n other two);
}

-- ---- a task that came

-- what it has seen is taken in, registration by registration
pub record IsAllTaken (job : Job) (end : TaskEnd) (t : ℕ) (old new : List (Option AnyLeft)) : Type
    0 where
  pub taken : (i n : ℕ) (seen : History) → i < length (registrations_at job t)
      → slice_get end.numbers i ≡ Some n → slice_get end.seen i ≡ Some seen
      → (left : AnyLeft) × ((left_in left).numbers ≡ n ∷ []) × ((left_in left).seen ≡ seen)
      × IsTakenIn old new (registration_at job t i).phaser left

-- the number of a registration, whose part is taken in where others stood
record IsNewAt (n : ℕ) (seen : History) (all now : AnyLeft) : Type 0 where
  came : OthersCame (n ∷ []) seen (left_in now).seen
  inside : is_in n (left_in now).numbers ≡ true
  apart : is_in n (left_in all).numbers ≡ false

module _ (job : Job) (ends : Ends) (end : TaskEnd) (p : ℕ) (old new : List (Option AnyLeft))
    (founder all now : AnyLeft) (is_old : IsPlaced old p all) (is_new : IsPlaced new p now)
    (g : HasGathered job ends p founder all) (grown : HasGrownTo all now)
    (taken : IsAllTaken job end (length ends) old new) where
  -- a registration is one of before, or of this task
  cases_of : (t i n : ℕ) (seen : History)
      → IsRegisteredOn job (ends ++ Some end ∷ []) t i p n seen
      → IsRegisteredOn job ends t i p n seen ⊎ ((t ≡ length ends) × IsNewAt n seen all now)
  cases_of t i n seen on = by (in_longer ends (Some end) (Some on.end) t on.came)
    where
      new_at : t ≡ length ends → end ≡ on.end → IsNewAt n seen all now
      new_at here same =
          let few : i < length (registrations_at job (length ends)) =
          subst (λ x. i < length (registrations_at job x)) here on.few in
          let f = taken.taken i n seen few
          (ap (λ (e : TaskEnd). slice_get e.numbers i) same ∙ on.number)
          (ap (λ (e : TaskEnd). slice_get e.seen i) same ∙ on.saw) in
          let left = f.0 in
          let at : (registration_at job (length ends) i).phaser ≡ p =
          ap (λ x. (registration_at job x i).phaser) (sym here) ∙ on.phaser in
          let T : ℕ → Type 0 = λ q. IsTakenIn old new q left in
          let in_p : IsTakenIn old new p left = subst T at f.3 in
          let was : in_p.one ≡ all = same_at old p in_p.one all in_p.was is_old in
          let is : in_p.all ≡ now = same_at new p in_p.all now in_p.is is_new in
          let inside : is_in n (left_in left).numbers ≡ true = ap (is_in n) f.1 ∙ in_one n in
          record {
            came = rw f.2 at (rw f.1 at (rw is at in_p.came));
            inside = ap (λ x. is_in n (left_in x).numbers) (sym is) ∙ in_p.numbers n inside;
            apart = ap (λ x. is_in n (left_in x).numbers) (sym was) ∙ in_p.apart n inside;
          }

      by : (slice_get ends t ≡ Some (Some on.end))
          ⊎ ((t ≡ length ends) × (Some end ≡ Some on.end))
          → IsRegisteredOn job ends t i p n seen ⊎ ((t ≡ length ends) × IsNewAt n seen all now)
      by (inl come) = inl (record {
        end = on.end;
        came = come;
        few = on.few;
        phaser = on.phaser;
        number = on.number;
        saw = on.saw;
      })
      by (inr here) = inr (here.0, new_at here.0 (same_Some end on.end here.1))

  pub gathered_more : HasGathered job (ends ++ Some end ∷ []) p founder now
  gathered_more = record {
    grown = grown_to_trans founder all now g.grown grown;
    tasks_came = λ t i n seen on. came t i n seen (cases_of t i n seen on);
    not_founder = λ t i n seen on. not_founder t i n seen (cases_of t i n seen on);
    distinct = λ t u i j n seen other one two.
        distinct t u i j n seen other (cases_of t i n seen one) (cases_of u j n other two);
  }
    where
      came : (t i n : ℕ) (seen : History)
          → IsRegisteredOn job ends t i p n seen ⊎ ((t ≡ length ends) × IsNewAt n seen all now)
          → OthersCame (n ∷ []) seen (left_in now).seen × (is_in n (left_in now).numbers ≡ true)
      came t i n seen (inr one) = (one.1.came, one.1.inside)
      came t i n seen (inl on) =
          let was = g.tasks_came t i n seen on in (
            OthersCame-trans (n ∷ []) seen (left_in all).seen (left_in now).seen was.0
                (OthersCame-fewer (left_in all).numbers (n ∷ []) (left_in all).seen
                (left_in now).seen (λ k e. one_of k e was.1) grown.came),
            grown.numbers n was.1,
          )
        where
          one_of : (k : ℕ) → is_in k (n ∷ []) ≡ true → is_in n (left_in all).numbers ≡ true
              → is_in k (left_in all).numbers ≡ true
          one_of k e inside = by (eqb n k) refl e
            where
              by : (b : Bool) → eqb n k ≡ b → (b || false) ≡ true
                  → is_in k (left_in all).numbers ≡ true
              by true same f =
                  ap (λ x. is_in x (left_in all).numbers) (sym (eqb-true n k same)) ∙ inside
              by false same f = absurd (cc)

      not_founder : (t i n : ℕ) (seen : History)
          → IsRegisteredOn job ends t i p n seen ⊎ ((t ≡ length ends) × IsNewAt n seen all now)
          → is_in n (left_in founder).numbers ≡ false
      not_founder t i n seen (inl on) = g.not_founder t i n seen on
      not_founder t i n seen (inr one) =
          by (is_in n (left_in founder).numbers) refl
        where
          by : (b : Bool) → is_in n (left_in founder).numbers ≡ b
              → is_in n (left_in founder).numbers ≡ false
          by false e = e
          by true e =
              absurd (let inside : is_in n (left_in all).numbers ≡ true = g.grown.numbers n e in
              let wrong : true ≡ false = sym inside ∙ one.1.apart in cc)

      distinct : (t u i j n : ℕ) (seen other : History)
          → IsRegisteredOn job ends t i p n seen ⊎ ((t ≡ length ends) × IsNewAt n seen all now)
          → IsRegisteredOn job ends u j p n other ⊎ ((u ≡ length ends) × IsNewAt n other all now)
          → t ≡ u
      distinct t u i j n seen other (inl a) (inl b) = g.distinct t u i j n seen other a b
      distinct t u i j n seen other (inr a) (inr b) = a.0 ∙ sym b.0
      distinct t u i j n seen other (inl a) (inr b) =
          absurd (let inside : is_in n (left_in all).numbers ≡ true =
          (g.tasks_came t i n seen a).1 in
          let wrong : true ≡ false = sym inside ∙ b.1.apart in cc)
      distinct t u i j n seen other (inr a) (inl b) =
          absurd (let inside : is_in n (left_in all).numbers ≡ true =
          (g.tasks_came u j n other b).1 in
          let wrong : true ≡ false = sym inside ∙ a.1.apart in cc)
