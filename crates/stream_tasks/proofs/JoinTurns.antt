-- Shares of what a joiner got, one behind the other, and their values in turn.
use Rattle.std.proofs.Common.{◌≡◌, ℕ, ◌+◌, ◌*◌, ◌/◌, ◌%◌, ◌<◌, ◌≤◌, ◌⊎◌, inl, inr, pos, suc, List, [], ◌∷◌, length, refl, map, get_or, drop, sym, ap, subst, ◌∙◌, arith, All}
use Rattle.std.specs.Prelude.{take}
use Rattle.std.proofs.lemmas.Bool.{cases_lt}
use Rattle.std.proofs.lemmas.List.{drop-take, drop_at, get_or-drop, get_or-map, get_or-take, length-drop, length-take-le}
use Rattle.std.proofs.lemmas.List.FromFn.{get_or-map-range_with_len, length-map-range_with_len}
use Rattle.std.proofs.lemmas.Nat.{div-mul-add, mod-mul-add, mul-le}
use Rattle.std.proofs.lemmas.Slice.{take-put_mid}
use borrow.Rule.Slice.PartMut.{put_mid}
use Rattle.phase_accum.specs.declared.outcome.Outcome.{Outcome}
use Rattle.phase_accum.specs.declared.outcome.Outcome.TheVariants.{Empty}
use Rattle.stream_lists.specs.Lists.{entry, number, turn_at}
use Rattle.stream_tasks.specs.Joiners.{share_at, shares_in}

-- ---- places

-- a share lies within all of them
pub share_within : (n k each : ℕ) → k < n → k * each + each ≤ n * each
share_within n k each lt =
    let most : (k + 1) * each ≤ n * each = mul-le (k + 1) each n each (omega arith) (omega arith) in
    grind (arith, most)

-- and has so many outcomes
pub share_long : (n k each : ℕ) (outcomes : List Outcome) → k < n
    → n * each ≤ length outcomes → length (share_at each k outcomes) ≡ each
share_long n k each outcomes lt room =
    let rest = length-drop (k * each) outcomes in
    length-take-le each (drop (k * each) outcomes)
    (omega (arith, rest, share_within n k each lt, room))

-- what holds of all holds of those of a share
pub share_all : (P : Outcome → Type 0) (n k each : ℕ) (outcomes : List Outcome) → k < n
    → n * each ≤ length outcomes → All P (take (n * each) outcomes)
    → All P (share_at each k outcomes)
share_all P n k each outcomes lt room all = λ i d less.
    (let few : i < each = omega (arith, less, share_long n k each outcomes lt room) in
    let within : k * each + i < n * each = omega (arith, share_within n k each lt, few) in
    let long : length (take (n * each) outcomes) ≡ n * each =
    length-take-le (n * each) outcomes room in
    subst P
    (get_or-take (n * each) outcomes (k * each + i) d within
    ∙ sym (get_or-take each (drop (k * each) outcomes) i d few
    ∙ get_or-drop (k * each) outcomes i d))
    (all (k * each + i) d (omega (arith, within, long))))

-- lists with the same entries are the same
pub same_entries : {X : Type 0} (d : X) (xs ys : List X) → length xs ≡ length ys
    → ((i : ℕ) → i < length xs → get_or xs i d ≡ get_or ys i d) → xs ≡ ys
same_entries d [] [] long same = refl
same_entries d [] (y ∷ ys) long same = absurd (omega arith)
same_entries d (x ∷ xs) [] long same = absurd (omega arith)
same_entries d (x ∷ xs) (y ∷ ys) long same =
    ap (λ z. z ∷ xs) (same 0 (omega arith))
    ∙ ap (λ l. y ∷ l)
    (same_entries d xs ys (omega (arith, long)) (λ i lt. same (suc i) (omega (arith, lt))))

-- an entry of a share
share_entry : (n k each i : ℕ) (outcomes : List Outcome) → k < n → n * each ≤ length outcomes
    → i < each
    → get_or (share_at each k outcomes) i Empty
    ≡ get_or (take (n * each) outcomes) (k * each + i) Empty
share_entry n k each i outcomes lt room few =
    let within : k * each + i < n * each = omega (arith, share_within n k each lt, few) in
    get_or-take each (drop (k * each) outcomes) i Empty few
    ∙ get_or-drop (k * each) outcomes i Empty
    ∙ sym (get_or-take (n * each) outcomes (k * each + i) Empty within)

-- the shares before this one stay where the outcomes before it do
pub share_stays : (n k each : ℕ) (old new : List Outcome) → k < n → n * each ≤ length old
    → n * each ≤ length new → take (n * each) new ≡ take (n * each) old
    → share_at each k new ≡ share_at each k old
share_stays n k each old new lt room fits same =
    let long = share_long n k each new lt fits in
    same_entries Empty (share_at each k new) (share_at each k old)
    (long ∙ sym (share_long n k each old lt room))
    (λ i less.
    (let few : i < each = omega (arith, less, long) in
    share_entry n k each i new lt fits few
    ∙ ap (λ l. get_or l (k * each + i) Empty) same
    ∙ sym (share_entry n k each i old lt room few)))

-- and this one is what was written in its place
pub share_put : (k each part : ℕ) (old share : List Outcome) → length share ≡ each
    → k * each ≤ length old → share_at each k (put_mid (k * each) part old share) ≡ share
share_put k each part old share long room =
    sym (drop-take (k * each) each (put_mid (k * each) part old share))
    ∙ ap (λ l. drop (k * each) l)
    (take-put_mid (k * each) part old share (k * each + each) (omega (arith, long)) room)
    ∙ drop_at (take (k * each) old) share (k * each) (length-take-le (k * each) old room)

-- the next share begins where this one ends
pub next_share : (k each : ℕ) → (k + 1) * each ≡ k * each + each
next_share k each = grind (arith)

-- ---- values in turn

-- a place that is before the end of all shares is one in its share
pub place_few : (n each i k : ℕ) → i * n + k < n * each → i < each
place_few n each i k less = by (cases_lt i each)
  where
    by : (i < each) ⊎ (each ≤ i) → i < each
    by (inl few) = few
    by (inr past) =
        let most : each * n ≤ i * n = mul-le each n i n past (omega arith) in
        let same : each * n ≡ n * each = grind (arith) in
        absurd (omega (arith, most, same, less))

-- what has its turn stands in share k at place i
pub turn_entry : (n each i k : ℕ) (outcomes : List Outcome) (d : Outcome) → k < n → i < each
    → n * each ≤ length outcomes
    → turn_at (shares_in n each outcomes) (i * n + k) ≡ number (get_or outcomes (k * each + i) d)
turn_entry n each i k outcomes d lt few room =
    let shares = shares_in n each outcomes in
    let share = share_at each k outcomes in
    let long : length shares ≡ n =
    length-map-range_with_len (λ k. map number (share_at each k outcomes)) 0 n in
    let from : 0 + k ≡ k = omega arith in
    let list : get_or shares k [] ≡ map number share =
    get_or-map-range_with_len (λ k. map number (share_at each k outcomes)) 0 n k k [] lt from in
    let within : i < length share = omega (arith, share_long n k each outcomes lt room, few) in
    ap (λ x. entry (get_or shares ((i * n + k) % x) []) ((i * n + k) / x)) long
    ∙ ap (λ x. entry (get_or shares x []) ((i * n + k) / n)) (mod-mul-add i n k lt)
    ∙ ap (λ x. entry (get_or shares k []) x) (div-mul-add i n k lt)
    ∙ ap (λ l. entry l i) list
    ∙ get_or-map number share i d (pos 0) within
    ∙ ap number
    (get_or-take each (drop (k * each) outcomes) i d few ∙ get_or-drop (k * each) outcomes i d)

-- behind the last list it is the turn of the first again
pub next_round : (n i k j round first : ℕ) → j ≡ i * n + k → k + 1 ≡ n → round ≡ i + 1
    → first ≡ 0 → j + 1 ≡ round * n + first
next_round n i k j round first at full more zero_is =
    let step : (i + 1) * n ≡ i * n + n = grind (arith) in
    let rounds : round * n ≡ (i + 1) * n = ap (λ x. x * n) more in
    omega (arith, step, rounds, at, full, zero_is)
