-- How many members stand at a phase in a role, after one joins and after one leaves.
use Rattle.std.proofs.Common.{◌≡◌, ℕ, ◌+◌, ◌<◌, ◌≤◌, Bool, true, false, cond, eqb, List, [], ◌∷◌, ◌++◌, Some, length, map, refl, sym, ap, ◌∙◌, arith}
use Rattle.std.specs.List.{filter}
use Rattle.phase_base.specs.Modes.{mode_signals, mode_waits}
use Rattle.phase_base.specs.declared.entry.Entry.{Entry}
use Rattle.phase_base.specs.declared.member.Member.{Member}
use Rattle.phase_base.specs.Members.{Members, member, entry_of, without, signal_phases, wait_phases}
use Rattle.phase_registry.specs.Rosters.{AreRising}
use Rattle.phase_registry.proofs.Weights.{weigh, weigh-push, weigh-without, AreApart-from_rising, length-picked}
use Rattle.phase_ring.specs.declared.role.Role.{Role}
use Rattle.phase_ring.specs.declared.role.Role.TheVariants.{Signaller, Waiter}
use Rattle.phase_ring.specs.Standings.{one_if_same, count_of, counted}
use Rattle.phase_core.proofs.LeastCounts.{one-same}

-- the phases at which the members stand in a role
abbrev pub phases_of : Role → Members → List ℕ
phases_of Signaller ms = signal_phases ms
phases_of Waiter ms = wait_phases ms

-- how often a phase stands among those of the members that pass a test, as a sum
count_of-picked : (test : Entry → Bool) (value : Entry → ℕ) (p : ℕ) (ms : Members)
    → count_of p (map (λ (m : Member). value m.entry) (filter (λ (m : Member). test m.entry) ms))
    ≡ weigh (λ e. cond (test e) (one_if_same (value e) p) 0) ms
count_of-picked test value p [] = refl
count_of-picked test value p (m ∷ ms) =
    let rest = count_of-picked test value p ms in
    elim (test m.entry) as (λ b. count_of p (map (λ (x : Member). value x.entry)
    (cond b (m ∷ filter (λ (x : Member). test x.entry) ms)
    (filter (λ (x : Member). test x.entry) ms)))
    ≡ cond b (one_if_same (value m.entry) p) 0 + weigh (λ e. cond (test e) (one_if_same (value e) p) 0) ms) [
      | true ↦ omega arith
      | false ↦ omega arith
    ]

-- how many members stand at a phase in a role, as a sum
counts-weigh : (role : Role) (p : ℕ) (ms : Members)
    → count_of p (phases_of role ms) ≡ weigh (λ e. counted role e p) ms
counts-weigh Signaller p ms = count_of-picked (λ e. mode_signals e.mode) (λ e. e.signal_phase) p ms
counts-weigh Waiter p ms = count_of-picked (λ e. mode_waits e.mode) (λ e. e.wait_phase) p ms

-- one more member
pub counts-push : (role : Role) (p : ℕ) (ms : Members) (child : ℕ) (e : Entry)
    → count_of p (phases_of role (ms ++ member child e ∷ []))
    ≡ count_of p (phases_of role ms) + counted role e p
counts-push role p ms child e =
    counts-weigh role p (ms ++ member child e ∷ []) ∙ weigh-push (λ x. counted role x p) ms child e
    ∙ ap (λ n. n + counted role e p) (sym (counts-weigh role p ms))

-- one member less
pub counts-without : (role : Role) (p : ℕ) (ms : Members) (task : ℕ) (e : Entry) → AreRising ms
    → entry_of ms task ≡ Some e
    → count_of p (phases_of role (without task ms)) + counted role e p
    ≡ count_of p (phases_of role ms)
counts-without role p ms task e rising found =
    let less = weigh-without (λ x. counted role x p) ms task e (AreApart-from_rising ms rising) found in
    omega (arith, counts-weigh role p ms, counts-weigh role p (without task ms))

-- the number of waiters, after one member leaves
pub waiters-without : (ms : Members) (task : ℕ) (e : Entry) → AreRising ms
    → entry_of ms task ≡ Some e
    → length (wait_phases (without task ms)) + cond (mode_waits e.mode) 1 0
    ≡ length (wait_phases ms)
waiters-without ms task e rising found =
    let less = weigh-without (λ x. cond (mode_waits x.mode) 1 0) ms task e
    (AreApart-from_rising ms rising) found in
    let before = length-picked (λ x. mode_waits x.mode) (λ x. x.wait_phase) ms in
    let after = length-picked (λ x. mode_waits x.mode) (λ x. x.wait_phase) (without task ms) in
    omega arith

-- no more stand at a phase than there are numbers
pub count_of-few : (p : ℕ) (xs : List ℕ) → count_of p xs ≤ length xs
count_of-few p [] = omega arith
count_of-few p (x ∷ xs) =
    omega (arith, count_of-few p xs, at_most x p)
  where
    at_most : (m n : ℕ) → one_if_same m n ≤ 1
    at_most m n = elim (eqb m n) as (λ b. cond b 1 0 ≤ 1) [ true ↦ omega arith | false ↦ omega arith ]

-- where a list has a number, some number stands in it
pub some_counted : (xs : List ℕ) → (length xs ≡ 0 → ⊥) → (p : ℕ) × (0 < count_of p xs)
some_counted [] some = absurd (some refl)
some_counted (x ∷ xs) some = (x, let one = one-same x in omega arith)
