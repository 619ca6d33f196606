-- One more step: what it takes, by kind.
use Rattle.std.proofs.Common.{◌≡◌, ℕ, zero, suc, ◌+◌, ◌-◌, ◌*◌, ◌/◌, ◌%◌, ◌<◌, ◌≤◌, List, [], ◌∷◌, length, refl, sym, ap, subst, ◌∙◌, arith, ◌⊎◌, inl, inr}
use Rattle.std.proofs.lemmas.Bool.{cases_lt}
use Rattle.std.proofs.lemmas.Nat.{mod_below, div-add-mod', div-mul-add}
use Rattle.graph_base.specs.declared.line.Kind.{Kind}
use Rattle.graph_base.specs.declared.line.Kind.TheVariants.{Source, Fir, Split, Decimate, Join, Peer, Sink}
use Rattle.graph_base.specs.Graphs.{Task}
use Rattle.graph_base.specs.TaskLines.{HasEnds}
use Rattle.stream_lists.specs.Spans.{turns_below, takes_from}
use Rattle.graph_runs.specs.Moments.{first_input, HasTaken}
use Rattle.graph_runs.proofs.TurnsLemmas.{row}
use Rattle.graph_runs.specs.Moves.{IsBlock, further}

-- a quotient, by its remainder
div_is : (n q r m : ℕ) → n ≡ q * m + r → r < m → n / m ≡ q
div_is n q r m is lt = ap (λ x. x / m) is ∙ div-mul-add q m r lt

-- step b is a turn of input b % m, and of no other
pub turns-next : (m b k : ℕ) → k < m → (k ≡ b % m)
    → turns_below m k (suc b) ≡ suc (turns_below m k b)
turns-next m b k lt is =
    let some : 0 < m = omega arith in
    let q = b / m in
    let split : q * m + b % m ≡ b = div-add-mod' b m in
    let next : (q + 1) * m ≡ q * m + m = row q m in
    let one : (suc b + (m - 1 - k)) / m ≡ q + 1 =
    div_is (suc b + (m - 1 - k)) (q + 1) 0 m (omega arith) some in
    let two : (b + (m - 1 - k)) / m ≡ q =
    div_is (b + (m - 1 - k)) q (m - 1) m (omega arith) (omega arith) in
    let more : q + 1 ≡ suc q = omega arith in
    one ∙ more ∙ ap suc (sym two)

pub turns-stay : (m b k : ℕ) → k < m → (k ≡ b % m → ⊥) → turns_below m k (suc b) ≡ turns_below m k b
turns-stay m b k lt not = by (cases_lt k (b % m)) (cases_lt (b % m) k)
  where
    some : 0 < m
    some = omega arith

    split : b / m * m + b % m ≡ b
    split = div-add-mod' b m

    rest : b % m < m
    rest = mod_below b m some

    next : (b / m + 1) * m ≡ b / m * m + m
    next = row (b / m) m

    by : (k < b % m) ⊎ (b % m ≤ k) → (b % m < k) ⊎ (k ≤ b % m)
        → turns_below m k (suc b) ≡ turns_below m k b
    by (inl low) c =
        let s : b / m * m + b % m ≡ b = split in let r : b % m < m = rest in
        let n : (b / m + 1) * m ≡ b / m * m + m = next in
        div_is (suc b + (m - 1 - k)) (b / m + 1) (b % m - k) m (omega arith) (omega arith)
        ∙ sym (div_is (b + (m - 1 - k)) (b / m + 1) (b % m - k - 1) m (omega arith) (omega arith))
    by (inr most) (inl high) =
        let s : b / m * m + b % m ≡ b = split in let r : b % m < m = rest in
        div_is (suc b + (m - 1 - k)) (b / m) (b % m + (m - k)) m (omega arith) (omega arith)
        ∙ sym (div_is (b + (m - 1 - k)) (b / m) (b % m + (m - 1 - k)) m (omega arith) (omega arith))
    by (inr most) (inr least) = absurd (not (let same : k ≡ b % m = omega arith in same))

-- ---- a task that begins a step by a wait

has_taken_source : (task : Task) (b k n : ℕ) → task.kind ≡ Source → HasTaken task b k n
has_taken_source task b k n e = rw e tt

-- the input that it waits for has given one value more
pub has_taken-next : (task : Task) (b k n : ℕ)
    → HasEnds task.kind (length task.inputs) (length task.outputs) → k < length task.inputs
    → k ≡ first_input task b → n ≡ takes_from task b k → HasTaken task (suc b) k (suc n)
has_taken-next task b k n ends lt first count = by task.kind refl
  where
    by : (kind : Kind) → task.kind ≡ kind → HasTaken task (suc b) k (suc n)
    by Source e = has_taken_source task (suc b) k (suc n) e
    by Fir e =
        let c : takes_from task b k ≡ b = rw e refl in let r : suc n ≡ suc b = omega arith in rw e r
    by Split e =
        let c : takes_from task b k ≡ b = rw e refl in let r : suc n ≡ suc b = omega arith in rw e r
    by Decimate e =
        let c : takes_from task b k ≡ b = rw e refl in let r : suc n ≡ suc b = omega arith in rw e r
    by Sink e =
        let c : takes_from task b k ≡ b = rw e refl in let r : suc n ≡ suc b = omega arith in rw e r
    by Join e =
        let at : first_input task b ≡ b % length task.inputs = rw e refl in
        let c : takes_from task b k ≡ turns_below (length task.inputs) k b = rw e refl in
        let t : turns_below (length task.inputs) k (suc b)
        ≡ suc (turns_below (length task.inputs) k b) =
        turns-next (length task.inputs) b k lt (first ∙ at) in
        let r : suc n ≡ turns_below (length task.inputs) k (suc b) = omega arith in rw e r
    by Peer e =
        let at : first_input task b ≡ 0 = rw e refl in
        let c : takes_from task b k ≡ b = rw e refl in
        let r : suc n ≡ suc b = omega arith in
        rw (first ∙ at) (rw e r)

-- and every other as many as before
pub has_taken-stay : (task : Task) (b k n : ℕ)
    → HasEnds task.kind (length task.inputs) (length task.outputs) → k < length task.inputs
    → (k ≡ first_input task b → ⊥) → n ≡ takes_from task b k → HasTaken task (suc b) k n
has_taken-stay task b k n ends lt not count = by task.kind k refl refl
  where
    one_input : length task.inputs ≡ 1 → first_input task b ≡ 0 → ⊥
    one_input one first = not (let same : k ≡ first_input task b = omega arith in same)

    by : (kind : Kind) (i : ℕ) → task.kind ≡ kind → k ≡ i → HasTaken task (suc b) k n
    by Source i e at = has_taken_source task (suc b) k n e
    by Fir i e at =
        (let both : (length task.inputs ≡ 1) × (length task.outputs ≡ 1) = rw e at ends in
        absurd (one_input both.0 (rw e refl)))
    by Split i e at =
        (let both = rw e at ends in absurd (one_input both.0 (rw e refl)))
    by Decimate i e at =
        (let both = rw e at ends in absurd (one_input both.0 (rw e refl)))
    by Sink i e at =
        (let both : (length task.inputs ≡ 1) × (length task.outputs ≡ 0) = rw e at ends in
        absurd (one_input both.0 (rw e refl)))
    by Join i e at =
        let first : first_input task b ≡ b % length task.inputs = rw e refl in
        let c : takes_from task b k ≡ turns_below (length task.inputs) k b = rw e refl in
        let t : turns_below (length task.inputs) k (suc b) ≡ turns_below (length task.inputs) k b =
        turns-stay (length task.inputs) b k lt (λ same. not (same ∙ sym first)) in
        let r : n ≡ turns_below (length task.inputs) k (suc b) = omega arith in rw e r
    by Peer zero e at =
        absurd (not (at ∙ sym (let first : first_input task b ≡ 0 = rw e refl in first)))
    by Peer (suc i) e at =
        let c : takes_from task b k ≡ b = rw e refl in
        let low : n ≤ suc b = omega arith in
        let high : suc b ≤ n + 1 = omega arith in
        rw at (rw e (low, high))

-- a peer's second wait
pub has_taken-peer : (task : Task) (b n : ℕ) → task.kind ≡ Peer → HasTaken task b 1 n → n < b
    → HasTaken task b 1 (suc n)
has_taken-peer task b n e has less =
    let r : (n ≤ b) × (b ≤ n + 1) = rw e at has in
    let low : suc n ≤ b = omega arith in
    let most : b ≤ n + 1 = r.1 in
    let high : b ≤ suc n + 1 = omega arith in
    rw e (low, high)

-- ---- steps in a block

pub further-length : {X : Type 0} (n : ℕ) (xs : List X) → further n xs ≡ n + length xs
further-length n [] = omega arith
further-length n (x ∷ xs) =
    let rest : further n xs ≡ n + length xs = further-length n xs in omega arith

-- a block takes as many from the input that its steps wait for first
pub has_taken-block : (task : Task) (b c k n : ℕ)
    → HasEnds task.kind (length task.inputs) (length task.outputs) → k < length task.inputs
    → k ≡ first_input task b → IsBlock task.kind c → n ≡ takes_from task b k
    → HasTaken task (b + c) k (n + c)
has_taken-block task b c k n ends lt first block count = by task.kind refl
  where
    one_step : c ≡ 1 → HasTaken task (b + c) k (n + c)
    one_step one =
        let steps : suc b ≡ b + c = omega arith in
        let more : suc n ≡ n + c = omega arith in
        rw steps at (rw more at (has_taken-next task b k n ends lt first count))

    by : (kind : Kind) → task.kind ≡ kind → HasTaken task (b + c) k (n + c)
    by Source e = has_taken_source task (b + c) k (n + c) e
    by Fir e = (let t : takes_from task b k ≡ b = rw e refl in
        let r : n + c ≡ b + c = omega arith in rw e r)
    by Sink e = (let t : takes_from task b k ≡ b = rw e refl in
        let r : n + c ≡ b + c = omega arith in rw e r)
    by Split e = one_step (subst (λ kind. IsBlock kind c) e block)
    by Decimate e = one_step (subst (λ kind. IsBlock kind c) e block)
    by Join e = one_step (subst (λ kind. IsBlock kind c) e block)
    by Peer e = one_step (subst (λ kind. IsBlock kind c) e block)

-- and every other as many as before
pub has_taken-else : (task : Task) (b c k n : ℕ)
    → HasEnds task.kind (length task.inputs) (length task.outputs) → k < length task.inputs
    → (k ≡ first_input task b → ⊥) → IsBlock task.kind c → n ≡ takes_from task b k
    → HasTaken task (b + c) k n
has_taken-else task b c k n ends lt not block count = by task.kind refl
  where
    one_step : c ≡ 1 → HasTaken task (b + c) k n
    one_step one =
        let steps : suc b ≡ b + c = omega arith in
        rw steps at (has_taken-stay task b k n ends lt not count)

    one_input : length task.inputs ≡ 1 → first_input task b ≡ 0 → ⊥
    one_input one first = not (let same : k ≡ first_input task b = omega arith in same)

    by : (kind : Kind) → task.kind ≡ kind → HasTaken task (b + c) k n
    by Source e = has_taken_source task (b + c) k n e
    by Fir e =
        (let both : (length task.inputs ≡ 1) × (length task.outputs ≡ 1) = rw e at ends in
        absurd (one_input both.0 (rw e refl)))
    by Sink e =
        (let both : (length task.inputs ≡ 1) × (length task.outputs ≡ 0) = rw e at ends in
        absurd (one_input both.0 (rw e refl)))
    by Split e = one_step (subst (λ kind. IsBlock kind c) e block)
    by Decimate e = one_step (subst (λ kind. IsBlock kind c) e block)
    by Join e = one_step (subst (λ kind. IsBlock kind c) e block)
    by Peer e = one_step (subst (λ kind. IsBlock kind c) e block)
