-- Lists that are gone through, and dropped where they are no more read.
use Rattle.std.proofs.Common.{◌≡◌, ◌⊎◌, inl, inr, ℕ, zero, suc, ◌+◌, ◌<◌, ◌≤◌, List, [], ◌∷◌, ℤ, length, get_or, true, false, ◌++◌, take, drop, refl, sym, ap, subst, ◌∙◌, arith, drop_of_length-le}
use Rattle.std.specs.Prelude.{Vec, set, if◌then◌else◌}
use Rattle.std.specs.Global.{Global}
use Rattle.std.specs.List.{All}
use Rattle.std.proofs.lemmas.Bool.{cases_lt}
use Rattle.std.proofs.lemmas.List.{map-set, get_or-set_same, get_or-set_other, length-map, length-set, append-nil, take_all}
use Rattle.std.proofs.lemmas.List.Elements.{All-set}
use Rattle.phase_accum.specs.Sends.{AreSends}
use Rattle.stream_lists.specs.JobFields.{items_of}
use Rattle.stream_lists.specs.Jobs.{Job}
use Rattle.stream_eval.specs.Composing.{is_read_from, list_kept}

-- the lists before number q are gone through, and the others are as they were
pub record GoneThrough (job : Job) (p : ℕ) (old lists : List (Vec ℤ Global)) (q : ℕ) : Type 0 where
  pub done : (k : ℕ) → k < q → get_or (items_of lists) k [] ≡ list_kept job p (items_of old) k
  pub rest : (k : ℕ) → q ≤ k → get_or (items_of lists) k [] ≡ get_or (items_of old) k []
  pub sends : All (λ list. AreSends list.items) lists
  pub long : length lists ≡ length old

-- ---- one more

-- list number q is read, and stays
pub gone-keep : (job : Job) (p : ℕ) (old lists : List (Vec ℤ Global)) (q : ℕ)
    → GoneThrough job p old lists q → is_read_from job p q ≡ true
    → GoneThrough job p old lists (q + 1)
gone-keep job p old lists q gone read = record {
  done = λ k lt. by k lt (cases_lt k q);
  rest = λ k le. gone.rest k (omega (arith, le));
  sends = gone.sends;
  long = gone.long;
}
  where
    kept : list_kept job p (items_of old) q ≡ get_or (items_of old) q []
    kept = ap (λ b. if b then get_or (items_of old) q [] else []) read

    by : (k : ℕ) → k < q + 1 → (k < q) ⊎ (q ≤ k)
        → get_or (items_of lists) k [] ≡ list_kept job p (items_of old) k
    by k lt (inl below) = gone.done k below
    by k lt (inr above) =
        let here : k ≡ q = omega (arith, lt, above) in
        subst (λ j. get_or (items_of lists) j [] ≡ list_kept job p (items_of old) j) (sym here)
        (gone.rest q (omega arith) ∙ sym kept)

-- it is not, and its values are dropped
pub gone-drop : (job : Job) (p : ℕ) (old lists : List (Vec ℤ Global)) (q : ℕ) (none : Vec ℤ Global)
    → GoneThrough job p old lists q → q < length old → is_read_from job p q ≡ false
    → none.items ≡ [] → GoneThrough job p old (set lists q none) (q + 1)
gone-drop job p old lists q none gone within unread empty = record {
  done = λ k lt. by k lt (cases_lt k q);
  rest = λ k le. other k (λ e. omega (arith, le, e)) ∙ gone.rest k (omega (arith, le));
  sends = All-set (λ list. AreSends list.items) lists q none (subst (λ xs. AreSends xs) (sym empty) tt)
      gone.sends;
  long = length-set lists q none ∙ gone.long;
}
  where
    other : (k : ℕ) → (k ≡ q → ⊥)
        → get_or (items_of (set lists q none)) k [] ≡ get_or (items_of lists) k []
    other k apart =
        ap (λ xs. get_or xs k []) (map-set (λ list. list.items) lists q none)
        ∙ get_or-set_other (items_of lists) q k none.items [] apart

    here : get_or (items_of (set lists q none)) q [] ≡ list_kept job p (items_of old) q
    here =
        let count = length-map lists (λ list. list.items) in
        ap (λ xs. get_or xs q []) (map-set (λ list. list.items) lists q none)
        ∙ (get_or-set_same (items_of lists) q none.items []
        (omega (arith, within, gone.long, count))
        ∙ (empty ∙ sym (ap (λ b. if b then get_or (items_of old) q [] else []) unread)))

    by : (k : ℕ) → k < q + 1 → (k < q) ⊎ (q ≤ k)
        → get_or (items_of (set lists q none)) k [] ≡ list_kept job p (items_of old) k
    by k lt (inl below) = other k (λ e. omega (arith, below, e)) ∙ gone.done k below
    by k lt (inr above) =
        let same : k ≡ q = omega (arith, lt, above) in
        subst (λ j. get_or (items_of (set lists q none)) j [] ≡ list_kept job p (items_of old) j)
        (sym same) here

-- ---- all

past : (xs : List (List ℤ)) (k : ℕ) → length xs ≤ k → get_or xs k [] ≡ []
past [] k le = refl
past (x ∷ xs) zero le = absurd (omega (arith, le))
past (x ∷ xs) (suc k) le = past xs k (omega (arith, le))

-- ---- a list that was lent whole is written back whole

pub written-back : {X : Type 0} (news olds : List X) (n : ℕ) → length news ≡ length olds
    → n ≡ length olds → take n (news ++ drop (length news) olds) ≡ news
written-back news olds n same count =
    let le : length olds ≤ length news = omega (arith, same) in
    let few : length news ≤ n = omega (arith, same, count) in
    ap (λ xs. take n (news ++ xs)) (drop_of_length-le olds le)
    ∙ (ap (take n) (append-nil news) ∙ take_all n news few)
