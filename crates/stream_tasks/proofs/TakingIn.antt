-- What is put together grows: each that was taken in stays so.
use Rattle.std.proofs.Common.{◌≡◌, ◌≢◌, ℕ, zero, suc, ◌+◌, ◌<◌, ◌≤◌, Bool, true, false, not, ◌||◌, eqb, List, [], ◌∷◌, ◌++◌, Option, Some, None, length, slice_get, refl, sym, ap, subst, ◌∙◌, arith, ◌⊎◌, inl, inr}
use Rattle.std.proofs.lemmas.Bool.{eqb-true, and_parts, cases_lt}
use Rattle.std.proofs.lemmas.Option.{same_Some, slice_get_past}
use Rattle.std.proofs.lemmas.List.{length-append}
use Rattle.phase_base.specs.Lists.{is_distinct, is_in}
use Rattle.phase_history.proofs.OthersEvents.{OthersCame-refl, OthersCame-trans, OthersCame-fewer}
use Rattle.graph_runs.proofs.OwnEvents.{eq_case}
use Rattle.stream_lists.specs.Jobs.{Job}
use Rattle.graph_runs.specs.TaskPlaces.{registration_at}
use Rattle.stream_members.specs.AnyMembers.{left_in}
use Rattle.stream_members.specs.declared.any_left.AnyLeft.{AnyLeft}
use Rattle.stream_tasks.specs.Joinings.{IsPlaced, HasPlaceFor, HasGrownTo, HaveGrown, IsTakenIn}
use Rattle.stream_tasks.specs.EndsInside.{HasTakenIn}

-- ---- lists of numbers

pub in_left : (xs ys : List ℕ) (n : ℕ) → is_in n xs ≡ true → is_in n (xs ++ ys) ≡ true
in_left [] ys n e = absurd (cc)
in_left (x ∷ xs) ys n e = by (eqb x n) e (λ f. in_left xs ys n f)
  where
    by : (b : Bool) → (b || is_in n xs) ≡ true
        → (is_in n xs ≡ true → is_in n (xs ++ ys) ≡ true) → (b || is_in n (xs ++ ys)) ≡ true
    by true e more = refl
    by false e more = more e

pub in_right : (xs ys : List ℕ) (n : ℕ) → is_in n ys ≡ true → is_in n (xs ++ ys) ≡ true
in_right [] ys n e = e
in_right (x ∷ xs) ys n e = by (eqb x n) (in_right xs ys n e)
  where
    by : (b : Bool) → is_in n (xs ++ ys) ≡ true → (b || is_in n (xs ++ ys)) ≡ true
    by true f = refl
    by false f = f

-- of lists that have no number in common
pub apart_in : (xs ys : List ℕ) (n : ℕ) → is_distinct (xs ++ ys) ≡ true → is_in n ys ≡ true
    → is_in n xs ≡ false
apart_in [] ys n d e = refl
apart_in (x ∷ xs) ys n d e =
    let parts = and_parts (not (is_in x (xs ++ ys))) (is_distinct (xs ++ ys)) d in
    by (eqb x n) refl parts.0 (apart_in xs ys n parts.1 e)
  where
    by : (b : Bool) → eqb x n ≡ b → not (is_in x (xs ++ ys)) ≡ true → is_in n xs ≡ false
        → (b || is_in n xs) ≡ false
    by false f none rest = rest
    by true f none rest =
        let inside : is_in x (xs ++ ys) ≡ true =
        ap (λ y. is_in y (xs ++ ys)) (eqb-true x n f) ∙ in_right xs ys n e in
        absurd (let wrong : false ≡ true = sym (ap not inside) ∙ none in cc)

-- ---- one place

pub same_at : {X : Type 0} (xs : List (Option X)) (p : ℕ) (a b : X) → IsPlaced xs p a → IsPlaced xs p b
    → a ≡ b
same_at xs p a b x y = same_Some a b (same_Some (Some a) (Some b) (sym x ∙ y))

pub grown_to_refl : (one : AnyLeft) → HasGrownTo one one
grown_to_refl one = record {
  at = refl;
  op = refl;
  legal = λ l. l;
  came = OthersCame-refl (left_in one).numbers (left_in one).seen;
  numbers = λ n e. e;
}

pub grown_to_trans : (a b c : AnyLeft) → HasGrownTo a b → HasGrownTo b c → HasGrownTo a c
grown_to_trans a b c first second = record {
  at = second.at ∙ first.at;
  op = second.op ∙ first.op;
  legal = λ l.
      (rw first.at at (second.legal (rw first.at (first.legal l))));
  came = OthersCame-trans (left_in a).numbers (left_in a).seen (left_in b).seen (left_in c).seen
      first.came
      (OthersCame-fewer (left_in b).numbers (left_in a).numbers (left_in b).seen (left_in c).seen
      first.numbers second.came);
  numbers = λ n e. second.numbers n (first.numbers n e);
}

-- ---- all places

pub grown_refl : (xs : List (Option AnyLeft)) → HaveGrown xs xs
grown_refl xs p one is = (one, is, grown_to_refl one)

pub grown_trans : (xs ys zs : List (Option AnyLeft)) → HaveGrown xs ys → HaveGrown ys zs
    → HaveGrown xs zs
grown_trans xs ys zs first second p one is =
    let a = first p one is in
    let b = second p a.0 a.1 in
    (b.0, b.1, grown_to_trans one a.0 b.0 a.2 b.2)

pub grown_by : (old new : List (Option AnyLeft)) (p : ℕ) (left : AnyLeft)
    → HasTakenIn old new p left → HaveGrown old new
grown_by old new p left s q one is = by (eq_case q p)
  where
    by : (q ≡ p) ⊎ (q ≢ p) → (all : AnyLeft) × IsPlaced new q all × HasGrownTo one all
    by (inr other) = (one, s.elsewhere q other ∙ is, grown_to_refl one)
    by (inl e) =
        let was : IsPlaced old p one = subst (λ x. IsPlaced old x one) e is in
        let same : s.one ≡ one = same_at old p s.one one s.was was in (
          s.all,
          subst (λ x. IsPlaced new x s.all) (sym e) s.is,
          rw (← same) (record {
            at = s.join.at;
            op = s.op;
            legal = λ l. s.join.legal;
            came = s.join.first_came;
            numbers = λ n f. ap (is_in n) s.join.numbers
                ∙ in_left (left_in s.one).numbers (left_in left).numbers n f;
          }),
        )

pub taken_by : (old new : List (Option AnyLeft)) (p : ℕ) (left : AnyLeft)
    → HasTakenIn old new p left → IsTakenIn old new p left
taken_by old new p left s = record {
  one = s.one;
  was = s.was;
  all = s.all;
  is = s.is;
  came = s.join.second_came;
  numbers = λ n e. ap (is_in n) s.join.numbers
      ∙ in_right (left_in s.one).numbers (left_in left).numbers n e;
  apart = λ n e.
      apart_in (left_in s.one).numbers (left_in left).numbers n
      (sym (ap is_distinct s.join.numbers) ∙ s.join.distinct) e;
}

pub taken_later : (old now new : List (Option AnyLeft)) (p : ℕ) (left : AnyLeft)
    → HaveGrown now new → IsTakenIn old now p left → IsTakenIn old new p left
taken_later old now new p left grown s =
    let g = grown p s.all s.is in
    record {
      one = s.one;
      was = s.was;
      all = g.0;
      is = g.1;
      came = OthersCame-trans (left_in left).numbers (left_in left).seen (left_in s.all).seen
          (left_in g.0).seen s.came
          (OthersCame-fewer (left_in s.all).numbers (left_in left).numbers (left_in s.all).seen
          (left_in g.0).seen s.numbers g.2.came);
      numbers = λ n e. g.2.numbers n (s.numbers n e);
      apart = s.apart;
    }

-- what was taken in later was not there at first
pub taken_earlier : (old now new : List (Option AnyLeft)) (p : ℕ) (left : AnyLeft)
    → HasPlaceFor old p left → HaveGrown old now → IsTakenIn now new p left
    → IsTakenIn old new p left
taken_earlier old now new p left place grown s =
    let g = grown p place.one place.is_at in
    let same : g.0 ≡ s.one = same_at now p g.0 s.one g.1 s.was in
    record {
      one = place.one;
      was = place.is_at;
      all = s.all;
      is = s.is;
      came = s.came;
      numbers = s.numbers;
      apart = λ n e.
          not_in (λ f. (let inside : is_in n (left_in s.one).numbers ≡ true =
          ap (λ x. is_in n (left_in x).numbers) (sym same) ∙ g.2.numbers n f in
          let wrong : true ≡ false = sym inside ∙ s.apart n e in cc));
    }
  where
    not_in : {b : Bool} → (b ≡ true → ⊥) → b ≡ false
    not_in {b = true} f = absurd (f refl)
    not_in {b = false} f = refl

pub place_later : (old now : List (Option AnyLeft)) (p : ℕ) (left : AnyLeft)
    → HaveGrown old now → HasPlaceFor old p left → HasPlaceFor now p left
place_later old now p left grown place =
    let g = grown p place.one place.is_at in
    record {
      one = g.0;
      is_at = g.1;
      at = place.at ∙ sym g.2.at;
      op = place.op ∙ sym g.2.op;
    }

pub place_within : (old : List (Option AnyLeft)) (p : ℕ) (left : AnyLeft) → HasPlaceFor old p left
    → p < length old
place_within old p left place = by (cases_lt p (length old))
  where
    by : (p < length old) ⊎ (length old ≤ p) → p < length old
    by (inl less) = less
    by (inr past) =
        absurd (let none : slice_get old p ≡ None = slice_get_past old p past in
        let no : None ≡ Some (Some place.one) = sym none ∙ place.is_at in cc)

-- ---- all that a task has seen

-- the last of what a task has seen is taken in, and those behind it are
pub record AreTakenIn (job : Job) (t : ℕ) (old now : List (Option AnyLeft))
    (lefts rest : List AnyLeft) : Type 0 where
  pub long : length now ≡ length old
  pub grown : HaveGrown old now
  pub first : (i : ℕ) → i < length rest → slice_get rest i ≡ slice_get lefts i
  pub taken : (i : ℕ) (left : AnyLeft) → slice_get lefts i ≡ Some left → length rest ≤ i
      → IsTakenIn old now (registration_at job t i).phaser left

-- there was a place for each of them
abbrev pub HavePlaces : Job → ℕ → List (Option AnyLeft) → List AnyLeft → Type 0
HavePlaces job t old lefts = (i : ℕ) (left : AnyLeft) → slice_get lefts i ≡ Some left
    → HasPlaceFor old (registration_at job t i).phaser left

pub none_taken : (job : Job) (t : ℕ) (old : List (Option AnyLeft)) (lefts : List AnyLeft)
    → AreTakenIn job t old old lefts lefts
none_taken job t old lefts = record {
  long = refl;
  grown = grown_refl old;
  first = λ i lt. refl;
  taken = λ i left e le. absurd (past lefts i left e le);
}
  where
    past : (xs : List AnyLeft) (i : ℕ) (x : AnyLeft) → slice_get xs i ≡ Some x → length xs ≤ i → ⊥
    past xs i x e le =
        (let none : slice_get xs i ≡ None = slice_get_past xs i le in
        let no : None ≡ Some x = sym none ∙ e in cc)

-- the last one
last_of : (xs : List AnyLeft) (x : AnyLeft) → slice_get (xs ++ x ∷ []) (length xs) ≡ Some x
last_of [] x = refl
last_of (y ∷ xs) x = last_of xs x

front_of : (xs : List AnyLeft) (x : AnyLeft) (i : ℕ) → i < length xs
    → slice_get (xs ++ x ∷ []) i ≡ slice_get xs i
front_of [] x i lt = absurd (omega arith)
front_of (y ∷ xs) x zero lt = refl
front_of (y ∷ xs) x (suc i) lt = front_of xs x i (omega arith)

module _ (job : Job) (t : ℕ) (old now : List (Option AnyLeft)) (lefts rest more : List AnyLeft)
    (left : AnyLeft) (so : AreTakenIn job t old now lefts rest) (popped : rest ≡ more ++ left ∷ []) where
  long_rest : length rest ≡ length more + 1
  long_rest = ap length popped ∙ length-append more (left ∷ [])

  pub popped_is : slice_get lefts (length more) ≡ Some left
  popped_is =
      let long : length rest ≡ length more + 1 = long_rest in
      sym (so.first (length more) (omega arith)) ∙ ap (λ l. slice_get l (length more)) popped
      ∙ last_of more left

  pub popped_place : HavePlaces job t old lefts
      → HasPlaceFor now (registration_at job t (length more)).phaser left
  popped_place places =
      place_later old now (registration_at job t (length more)).phaser left so.grown
      (places (length more) left popped_is)

  pub popped_taken : (new : List (Option AnyLeft)) → HavePlaces job t old lefts
      → HasTakenIn now new (registration_at job t (length more)).phaser left
      → AreTakenIn job t old new lefts more
  popped_taken new places s = record {
    long = s.long ∙ so.long;
    grown = grown_trans old now new so.grown (grown_by now new (registration_at job t (length more)).phaser left s);
    first = λ i lt.
        (let long : length rest ≡ length more + 1 = long_rest in
        sym (front_of more left i lt) ∙ ap (λ l. slice_get l i) (sym popped)
        ∙ so.first i (omega arith));
    taken = λ i one e le. taken i one e le (eq_case i (length more));
  }
    where
      taken : (i : ℕ) (one : AnyLeft) → slice_get lefts i ≡ Some one → length more ≤ i
          → (i ≡ length more) ⊎ (i ≢ length more)
          → IsTakenIn old new (registration_at job t i).phaser one
      taken i one e le (inl here) =
          let same : left ≡ one =
          same_Some left one (sym popped_is ∙ ap (slice_get lefts) (sym here) ∙ e) in
          let T : ℕ → AnyLeft → Type 0 =
          λ k x. IsTakenIn old new (registration_at job t k).phaser x in
          subst (λ k. T k one) (sym here)
          (subst (λ x. T (length more) x) same
          (taken_earlier old now new (registration_at job t (length more)).phaser left (places (length more) left popped_is) so.grown
          (taken_by now new (registration_at job t (length more)).phaser left s)))
      taken i one e le (inr other) =
          let long : length rest ≡ length more + 1 = long_rest in
          taken_later old now new (registration_at job t i).phaser one
          (grown_by now new (registration_at job t (length more)).phaser left s)
          (so.taken i one e (above i le other))
        where
          above : (i : ℕ) → length more ≤ i → i ≢ length more → length rest ≤ i
          above i le other = by (cases_lt (length more) i)
            where
              by : (length more < i) ⊎ (i ≤ length more) → length rest ≤ i
              by (inl less) = (let long : length rest ≡ length more + 1 = long_rest in omega arith)
              by (inr ge) = (let same : i ≡ length more = omega arith in absurd (other same))
