-- The least of a list of numbers, by how often each number stands in it.
use Rattle.std.proofs.Common.{◌≡◌, ℕ, ◌+◌, ◌<◌, ◌≤◌, ◌⊎◌, Bool, true, false, cond, eqb, List, [], ◌∷◌, Some, None, map, min, length, unwrap_or, refl, sym, ap, subst, ◌∙◌, ⊎_elim, arith, inl, inr}
use Rattle.std.specs.List.{filter}
use Rattle.std.proofs.lemmas.Option.{same_Some}
use Rattle.std.proofs.lemmas.Bool.{cases_eq, cases_lt, eq-eqb, ne_eqb}
use Rattle.phase_base.specs.Modes.{mode_signals, mode_waits}
use Rattle.phase_base.specs.declared.entry.Entry.{Entry}
use Rattle.phase_base.specs.declared.member.Member.{Member}
use Rattle.phase_base.specs.Members.{Members, member, entry_of, changed_at, signal_phases, wait_phases, least, lesser, signalled, waited}
use Rattle.phase_ring.specs.Standings.{one_if_same, count_of}
use Rattle.phase_history.proofs.Each.{Each}

pub one-same : (n : ℕ) → one_if_same n n ≡ 1
one-same n = ap (λ b. cond b 1 0) (eq-eqb n n refl)

pub one-other : (m n : ℕ) → (m ≡ n → ⊥) → one_if_same m n ≡ 0
one-other m n apart = ap (λ b. cond b 1 0) (ne_eqb m n apart)

-- ---- the least number, by how often each stands in the list

-- where no number below b stands in the list, each is at least b
pub low_by_counts : (xs : List ℕ) (b : ℕ) → ((p : ℕ) → p < b → count_of p xs ≡ 0) → Each (λ x. b ≤ x) xs
low_by_counts [] b none = tt
low_by_counts (x ∷ xs) b none = (
  ⊎_elim (λ below. absurd (let n : one_if_same x x + count_of x xs ≡ 0 = none x below in let one = one-same x in omega arith)) (λ h. h) (cases_lt x b),
  low_by_counts xs b (λ p h. let n : one_if_same x p + count_of p xs ≡ 0 = none p h in omega arith),
)

lesser_low : (xs : List ℕ) (b : ℕ) → Each (λ x. b ≤ x) xs → lesser b (least xs) ≡ b
lesser_low [] b each = refl
lesser_low (x ∷ xs) b each =
    let rest : lesser b (least xs) ≡ b = lesser_low xs b each.1 in
    let first : b ≤ x = each.0 in
    elim (least xs) as (λ o. lesser b o ≡ b → min b (lesser x o) ≡ b) [
      | None ↦ λ r. omega arith
      | Some m ↦ λ r. omega arith
    ] rest

pub least_by_counts : (xs : List ℕ) (b : ℕ) → ((p : ℕ) → p < b → count_of p xs ≡ 0) → 0 < count_of b xs → least xs ≡ Some b
least_by_counts [] b none some = absurd (omega arith)
least_by_counts (x ∷ xs) b none some =
    let each = low_by_counts (x ∷ xs) b none in
    let first : b ≤ x = each.0 in
    ⊎_elim
    (λ (same : x ≡ b). ap (λ n. Some (lesser n (least xs))) same ∙ ap Some (lesser_low xs b each.1))
    (λ (apart : x ≡ b → ⊥).
    let away : one_if_same x b ≡ 0 = one-other x b apart in
    let rest : least xs ≡ Some b = least_by_counts xs b
    (λ p h. let n : one_if_same x p + count_of p xs ≡ 0 = none p h in omega arith)
    (let s : 0 < one_if_same x b + count_of b xs = some in omega arith) in
    ap (λ o. Some (lesser x o)) rest ∙ ap Some (let m : min x b ≡ b = omega arith in m))
    (cases_eq x b)

-- done by the numbers of signallers: the first phase at which one stands, or the top
pub done_by_counts : (xs : List ℕ) (d top : ℕ) → ((p : ℕ) → p < d → count_of p xs ≡ 0) → ((p : ℕ) → top < p → count_of p xs ≡ 0)
    → (d ≡ top) ⊎ (0 < count_of d xs) → unwrap_or (least xs) top ≡ d
done_by_counts [] d top low high (inl at) = sym at
done_by_counts [] d top low high (inr some) = absurd (omega arith)
done_by_counts (x ∷ xs) d top low high (inr some) = ap (λ o. unwrap_or o top) (least_by_counts (x ∷ xs) d low some)
done_by_counts (x ∷ xs) d top low high (inl at) =
    let each = low_by_counts (x ∷ xs) d low in
    let first : d ≤ x = each.0 in
    let last : x ≤ top = ⊎_elim (λ above. absurd (let n : one_if_same x x + count_of x xs ≡ 0 = high x above in let one = one-same x in omega arith)) (λ h. h) (cases_lt top x) in
    let here : x ≡ d = omega arith in
    let one : one_if_same x d ≡ 1 = ap (λ n. one_if_same n d) here ∙ one-same d in
    let some : 0 < one_if_same x d + count_of d xs = omega arith in
    ap (λ o. unwrap_or o top) (least_by_counts (x ∷ xs) d low some)

-- ---- the members that stand at a phase

-- one signaller moves on
pub signallers-signalled : (ms : Members) (task p by : ℕ) (e : Entry) → entry_of ms task ≡ Some e → mode_signals e.mode ≡ true
    → count_of p (signal_phases (changed_at task (signalled by) ms)) + one_if_same e.signal_phase p
    ≡ count_of p (signal_phases ms) + one_if_same (e.signal_phase + by) p
signallers-signalled [] task p by e found signals = absurd (cc)
signallers-signalled (m ∷ ms) task p by e found signals =
    elim (eqb m.task task) as (λ b. (cond b (Some m.entry) (entry_of ms task) ≡ Some e)
    → count_of p (signal_phases (cond b (member m.task (signalled by m.entry) ∷ ms) (m ∷ changed_at task (signalled by) ms))) + one_if_same e.signal_phase p
    ≡ count_of p (signal_phases (m ∷ ms)) + one_if_same (e.signal_phase + by) p) [
      | true ↦ λ f.
          let same : m.entry ≡ e = same_Some _ _ f in
          let mode : mode_signals m.entry.mode ≡ true = ap (λ (x : Entry). mode_signals x.mode) same ∙ signals in
          let s : m.entry.signal_phase ≡ e.signal_phase = ap (λ (x : Entry). x.signal_phase) same in
          let B : Bool → Type 0 = λ b.
          count_of p (map (λ (x : Member). x.entry.signal_phase) (cond b (member m.task (signalled by m.entry) ∷ filter (λ (x : Member). mode_signals x.entry.mode) ms) (filter (λ (x : Member). mode_signals x.entry.mode) ms))) + one_if_same e.signal_phase p
          ≡ count_of p (map (λ (x : Member). x.entry.signal_phase) (cond b (m ∷ filter (λ (x : Member). mode_signals x.entry.mode) ms) (filter (λ (x : Member). mode_signals x.entry.mode) ms))) + one_if_same (e.signal_phase + by) p in
          subst B (sym mode) (rw s (omega arith))
      | false ↦ λ f.
          let rest = signallers-signalled ms task p by e f signals in
          elim (mode_signals m.entry.mode) as (λ b.
          count_of p (map (λ (x : Member). x.entry.signal_phase) (cond b (m ∷ filter (λ (x : Member). mode_signals x.entry.mode) (changed_at task (signalled by) ms)) (filter (λ (x : Member). mode_signals x.entry.mode) (changed_at task (signalled by) ms)))) + one_if_same e.signal_phase p
          ≡ count_of p (map (λ (x : Member). x.entry.signal_phase) (cond b (m ∷ filter (λ (x : Member). mode_signals x.entry.mode) ms) (filter (λ (x : Member). mode_signals x.entry.mode) ms))) + one_if_same (e.signal_phase + by) p) [
            | true ↦ omega arith
            | false ↦ rest
          ]
    ] found

-- one waiter moves on
pub waiters-waited : (ms : Members) (task p by : ℕ) (e : Entry) → entry_of ms task ≡ Some e → mode_waits e.mode ≡ true
    → count_of p (wait_phases (changed_at task (waited by) ms)) + one_if_same e.wait_phase p
    ≡ count_of p (wait_phases ms) + one_if_same (e.wait_phase + by) p
waiters-waited [] task p by e found waits = absurd (cc)
waiters-waited (m ∷ ms) task p by e found waits =
    elim (eqb m.task task) as (λ b. (cond b (Some m.entry) (entry_of ms task) ≡ Some e)
    → count_of p (wait_phases (cond b (member m.task (waited by m.entry) ∷ ms) (m ∷ changed_at task (waited by) ms))) + one_if_same e.wait_phase p
    ≡ count_of p (wait_phases (m ∷ ms)) + one_if_same (e.wait_phase + by) p) [
      | true ↦ λ f.
          let same : m.entry ≡ e = same_Some _ _ f in
          let mode : mode_waits m.entry.mode ≡ true = ap (λ (x : Entry). mode_waits x.mode) same ∙ waits in
          let s : m.entry.wait_phase ≡ e.wait_phase = ap (λ (x : Entry). x.wait_phase) same in
          let B : Bool → Type 0 = λ b.
          count_of p (map (λ (x : Member). x.entry.wait_phase) (cond b (member m.task (waited by m.entry) ∷ filter (λ (x : Member). mode_waits x.entry.mode) ms) (filter (λ (x : Member). mode_waits x.entry.mode) ms))) + one_if_same e.wait_phase p
          ≡ count_of p (map (λ (x : Member). x.entry.wait_phase) (cond b (m ∷ filter (λ (x : Member). mode_waits x.entry.mode) ms) (filter (λ (x : Member). mode_waits x.entry.mode) ms))) + one_if_same (e.wait_phase + by) p in
          subst B (sym mode) (rw s (omega arith))
      | false ↦ λ f.
          let rest = waiters-waited ms task p by e f waits in
          elim (mode_waits m.entry.mode) as (λ b.
          count_of p (map (λ (x : Member). x.entry.wait_phase) (cond b (m ∷ filter (λ (x : Member). mode_waits x.entry.mode) (changed_at task (waited by) ms)) (filter (λ (x : Member). mode_waits x.entry.mode) (changed_at task (waited by) ms)))) + one_if_same e.wait_phase p
          ≡ count_of p (map (λ (x : Member). x.entry.wait_phase) (cond b (m ∷ filter (λ (x : Member). mode_waits x.entry.mode) ms) (filter (λ (x : Member). mode_waits x.entry.mode) ms))) + one_if_same (e.wait_phase + by) p) [
            | true ↦ omega arith
            | false ↦ rest
          ]
    ] found

-- ---- few members at a phase

-- who stands at one of two phases is a member
pub two_counts : (xs : List ℕ) (p q : ℕ) → (p ≡ q → ⊥) → count_of p xs + count_of q xs ≤ length xs
two_counts [] p q apart = omega arith
two_counts (x ∷ xs) p q apart =
    let rest = two_counts xs p q apart in
    let one : one_if_same x p + one_if_same x q ≤ 1 = ⊎_elim
    (λ here. let b : one_if_same x q ≡ 0 = ap (λ b. cond b 1 0) (ne_eqb x q (λ e. apart (sym here ∙ e))) in let a = at_most x p in omega arith)
    (λ away. let b : one_if_same x p ≡ 0 = ap (λ b. cond b 1 0) (ne_eqb x p away) in let a = at_most x q in omega arith)
    (cases_eq x p) in
    omega arith
  where
    at_most : (x p : ℕ) → cond (eqb x p) 1 0 ≤ 1
    at_most x p = elim (eqb x p) as (λ b. cond b 1 0 ≤ 1) [ true ↦ omega arith | false ↦ omega arith ]

pub signal_phases-few : (ms : Members) → length (signal_phases ms) ≤ length ms
signal_phases-few [] = omega arith
signal_phases-few (m ∷ ms) =
    let rest = signal_phases-few ms in
    elim (mode_signals m.entry.mode) as (λ b. length (map (λ (x : Member). x.entry.signal_phase) (cond b (m ∷ filter (λ (x : Member). mode_signals x.entry.mode) ms) (filter (λ (x : Member). mode_signals x.entry.mode) ms))) ≤ length (m ∷ ms)) [
      | true ↦ omega arith
      | false ↦ omega arith
    ]

pub wait_phases-few : (ms : Members) → length (wait_phases ms) ≤ length ms
wait_phases-few [] = omega arith
wait_phases-few (m ∷ ms) =
    let rest = wait_phases-few ms in
    elim (mode_waits m.entry.mode) as (λ b. length (map (λ (x : Member). x.entry.wait_phase) (cond b (m ∷ filter (λ (x : Member). mode_waits x.entry.mode) ms) (filter (λ (x : Member). mode_waits x.entry.mode) ms))) ≤ length (m ∷ ms)) [
      | true ↦ omega arith
      | false ↦ omega arith
    ]

-- a signaller stands at its phase, and a waiter at its own
pub signaller-counted : (ms : Members) (task : ℕ) (e : Entry) → entry_of ms task ≡ Some e → mode_signals e.mode ≡ true
    → 0 < count_of e.signal_phase (signal_phases ms)
signaller-counted ms task e found signals =
    let moved = signallers-signalled ms task e.signal_phase 1 e found signals in
    let one = one-same e.signal_phase in
    let none = one-other (e.signal_phase + 1) e.signal_phase (λ x. omega arith) in
    omega arith

pub waiter-counted : (ms : Members) (task : ℕ) (e : Entry) → entry_of ms task ≡ Some e → mode_waits e.mode ≡ true
    → 0 < count_of e.wait_phase (wait_phases ms)
waiter-counted ms task e found waits =
    let moved = waiters-waited ms task e.wait_phase 1 e found waits in
    let one = one-same e.wait_phase in
    let none = one-other (e.wait_phase + 1) e.wait_phase (λ x. omega arith) in
    omega arith
