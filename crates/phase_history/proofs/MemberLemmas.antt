-- Facts of members: looked up, changed, added and dropped.
use Rattle.std.proofs.Common.{◌≡◌, ℕ, ◌<◌, true, false, not, cond, eqb, [], ◌∷◌, ◌++◌, Some, None, map, refl, sym, ap, subst, arith}
use Rattle.std.specs.Prelude.{is_some}
use Rattle.std.specs.List.{filter}
use Rattle.std.proofs.lemmas.Option.{same_Some}
use Rattle.std.proofs.lemmas.Bool.{eqb-true, eq-eqb, ne_eqb}
use Rattle.phase_base.specs.Modes.{mode_signals, mode_waits, holds}
use Rattle.phase_base.specs.declared.mode.Mode.{Mode}
use Rattle.phase_base.specs.declared.mode.Mode.TheVariants.{Sig, Wait, SigWait, Single}
use Rattle.phase_base.specs.declared.entry.Entry.{Entry}
use Rattle.phase_base.specs.declared.member.Member.{Member}
use Rattle.phase_base.specs.Members.{Members, member, entry_of, changed_at, without, signal_phases, wait_phases, signalled, waited}
use Rattle.phase_history.proofs.Each.{Each}

-- what holds of each member holds of the one that is looked up
pub Each-entry : (P : Member → Type 0) (ms : Members) (task : ℕ) (e : Entry)
    → entry_of ms task ≡ Some e → Each P ms → P (member task e)
Each-entry P [] task e found each = absurd (cc)
Each-entry P (m ∷ ms) task e found each =
    elim (eqb m.task task) as (λ b. (eqb m.task task ≡ b) → (cond b (Some m.entry) (entry_of ms task) ≡ Some e) → P (member task e)) [
      | true ↦ λ t f.
          let number : m.task ≡ task = eqb-true _ _ t in
          let entry : m.entry ≡ e = same_Some _ _ f in
          rw number at (rw entry at each.0)
      | false ↦ λ t f. Each-entry P ms task e f each.1
    ]
    refl found

-- each member of the changed ones: the others as before, and the changed one
pub Each-changed : (P Q : Member → Type 0) (task : ℕ) (f : Entry → Entry) (e : Entry) (ms : Members)
    → entry_of ms task ≡ Some e → ((m : Member) → P m → Q m) → (P (member task e) → Q (member task (f e)))
    → Each P ms → Each Q (changed_at task f ms)
Each-changed P Q task f e [] found others one each = tt
Each-changed P Q task f e (m ∷ ms) found others one each =
    elim (eqb m.task task) as (λ b. (eqb m.task task ≡ b) → (cond b (Some m.entry) (entry_of ms task) ≡ Some e)
    → Each Q (cond b (member m.task (f m.entry) ∷ ms) (m ∷ changed_at task f ms))) [
      | true ↦ λ t g.
          let number : m.task ≡ task = eqb-true _ _ t in
          let entry : m.entry ≡ e = same_Some _ _ g in
          let R : ℕ → Entry → Type 0 = λ n x. P (member n x) → Q (member n (f x)) in
          let here : R m.task m.entry =
          (rw number (rw entry one)) in
          (here each.0, each_others P Q others ms each.1)
      | false ↦ λ t g. (others m each.0, Each-changed P Q task f e ms g others one each.1)
    ]
    refl found
  where
    each_others : (P Q : Member → Type 0) → ((m : Member) → P m → Q m) → (ms : Members) → Each P ms → Each Q ms
    each_others P Q others [] each = tt
    each_others P Q others (m ∷ ms) each = (others m each.0, each_others P Q others ms each.1)

-- ---- looking up

pub entry_of-changed_same : (task : ℕ) (f : Entry → Entry) (e : Entry) (ms : Members)
    → entry_of ms task ≡ Some e → entry_of (changed_at task f ms) task ≡ Some (f e)
entry_of-changed_same task f e [] found = absurd (cc)
entry_of-changed_same task f e (m ∷ ms) found =
    elim (eqb m.task task) as (λ b. (eqb m.task task ≡ b) → (cond b (Some m.entry) (entry_of ms task) ≡ Some e)
    → entry_of (cond b (member m.task (f m.entry) ∷ ms) (m ∷ changed_at task f ms)) task ≡ Some (f e)) [
      | true ↦ λ t g. rw t (ap (λ x. Some (f x)) (same_Some _ _ g))
      | false ↦ λ t g. rw t (entry_of-changed_same task f e ms g)
    ]
    refl found

pub entry_of-changed_other : (task other : ℕ) (f : Entry → Entry) (ms : Members)
    → eqb task other ≡ false → entry_of (changed_at task f ms) other ≡ entry_of ms other
entry_of-changed_other task other f [] ne = refl
entry_of-changed_other task other f (m ∷ ms) ne =
    elim (eqb m.task task) as (λ b. (eqb m.task task ≡ b)
    → entry_of (cond b (member m.task (f m.entry) ∷ ms) (m ∷ changed_at task f ms)) other ≡ cond (eqb m.task other) (Some m.entry) (entry_of ms other)) [
      | true ↦ λ t.
          let number : m.task ≡ task = eqb-true _ _ t in
          let apart : eqb m.task other ≡ false = (rw number ne) in
          rw apart refl
      | false ↦ λ t. ap (λ o. cond (eqb m.task other) (Some m.entry) o) (entry_of-changed_other task other f ms ne)
    ]
    refl

-- a change makes no task a member, and none no member
pub is_some-entry_of-changed : (task other : ℕ) (f : Entry → Entry) (ms : Members)
    → is_some (entry_of (changed_at task f ms) other) ≡ is_some (entry_of ms other)
is_some-entry_of-changed task other f [] = refl
is_some-entry_of-changed task other f (m ∷ ms) =
    elim (eqb m.task task) as (λ b.
    is_some (entry_of (cond b (member m.task (f m.entry) ∷ ms) (m ∷ changed_at task f ms)) other)
    ≡ is_some (cond (eqb m.task other) (Some m.entry) (entry_of ms other))) [
      | true ↦ elim (eqb m.task other) as (λ b.
          is_some (cond b (Some (f m.entry)) (entry_of ms other)) ≡ is_some (cond b (Some m.entry) (entry_of ms other))) [
            | true ↦ refl
            | false ↦ refl
          ]
      | false ↦ elim (eqb m.task other) as (λ b.
          is_some (cond b (Some m.entry) (entry_of (changed_at task f ms) other)) ≡ is_some (cond b (Some m.entry) (entry_of ms other))) [
            | true ↦ refl
            | false ↦ is_some-entry_of-changed task other f ms
          ]
    ]

pub entry_of-push_old : (ms : Members) (n task : ℕ) (x e : Entry)
    → entry_of ms task ≡ Some e → entry_of (ms ++ member n x ∷ []) task ≡ Some e
entry_of-push_old [] n task x e found = absurd (cc)
entry_of-push_old (m ∷ ms) n task x e found =
    elim (eqb m.task task) as (λ b. (cond b (Some m.entry) (entry_of ms task) ≡ Some e)
    → cond b (Some m.entry) (entry_of (ms ++ member n x ∷ []) task) ≡ Some e) [
      | true ↦ λ g. g
      | false ↦ λ g. entry_of-push_old ms n task x e g
    ]
    found

-- a task that is none of the members, and not the one that is added, is none afterwards
pub entry_of-push_other : (ms : Members) (n task : ℕ) (x : Entry)
    → eqb n task ≡ false → entry_of (ms ++ member n x ∷ []) task ≡ entry_of ms task
entry_of-push_other [] n task x ne = rw ne refl
entry_of-push_other (m ∷ ms) n task x ne =
    ap (λ o. cond (eqb m.task task) (Some m.entry) o) (entry_of-push_other ms n task x ne)

-- a task above each number of the members is no member
pub entry_of_above : (ms : Members) (task : ℕ) → Each (λ m. m.task < task) ms → entry_of ms task ≡ None
entry_of_above [] task each = refl
entry_of_above (m ∷ ms) task each =
    let low : m.task < task = each.0 in
    let apart : eqb m.task task ≡ false = ne_eqb m.task task (λ e. omega arith) in
    rw apart (entry_of_above ms task each.1)

pub entry_of-push_new : (ms : Members) (task : ℕ) (x : Entry)
    → entry_of ms task ≡ None → entry_of (ms ++ member task x ∷ []) task ≡ Some x
entry_of-push_new [] task x none = rw (eq-eqb task task refl) refl
entry_of-push_new (m ∷ ms) task x none =
    elim (eqb m.task task) as (λ b. (cond b (Some m.entry) (entry_of ms task) ≡ None)
    → cond b (Some m.entry) (entry_of (ms ++ member task x ∷ []) task) ≡ Some x) [
      | true ↦ λ g. absurd (cc)
      | false ↦ λ g. entry_of-push_new ms task x g
    ]
    none

pub entry_of-without_other : (ms : Members) (gone task : ℕ)
    → eqb gone task ≡ false → entry_of (without gone ms) task ≡ entry_of ms task
entry_of-without_other [] gone task ne = refl
entry_of-without_other (m ∷ ms) gone task ne =
    elim (eqb m.task gone) as (λ b. (eqb m.task gone ≡ b)
    → entry_of (cond (not b) (m ∷ without gone ms) (without gone ms)) task ≡ cond (eqb m.task task) (Some m.entry) (entry_of ms task)) [
      | true ↦ λ t.
          let number : m.task ≡ gone = eqb-true _ _ t in
          let apart : eqb m.task task ≡ false = (rw number ne) in
          rw apart (entry_of-without_other ms gone task ne)
      | false ↦ λ t. ap (λ o. cond (eqb m.task task) (Some m.entry) o) (entry_of-without_other ms gone task ne)
    ]
    refl

pub entry_of-without_same : (ms : Members) (gone : ℕ) → entry_of (without gone ms) gone ≡ None
entry_of-without_same [] gone = refl
entry_of-without_same (m ∷ ms) gone =
    elim (eqb m.task gone) as (λ b. (eqb m.task gone ≡ b)
    → entry_of (cond (not b) (m ∷ without gone ms) (without gone ms)) gone ≡ None) [
      | true ↦ λ t. entry_of-without_same ms gone
      | false ↦ λ t. rw t (entry_of-without_same ms gone)
    ]
    refl

-- ---- modes

-- what a mode holds signals only where the mode does
pub holds_signals : (m n : Mode) → holds m n ≡ true → mode_signals n ≡ true → mode_signals m ≡ true
holds_signals Single n h s = refl
holds_signals SigWait n h s = refl
holds_signals Sig n h s = refl
holds_signals Wait Wait h s = s
holds_signals Wait Sig h s = h
holds_signals Wait SigWait h s = h
holds_signals Wait Single h s = h

pub holds_waits : (m n : Mode) → holds m n ≡ true → mode_waits n ≡ true → mode_waits m ≡ true
holds_waits Single n h s = refl
holds_waits SigWait n h s = refl
holds_waits Wait n h s = refl
holds_waits Sig Sig h s = s
holds_waits Sig Wait h s = h
holds_waits Sig SigWait h s = h
holds_waits Sig Single h s = h

-- ---- phases of the members

-- a wait leaves the signal phases
pub signal_phases-waited : (ms : Members) (task n : ℕ) → signal_phases (changed_at task (waited n) ms) ≡ signal_phases ms
signal_phases-waited [] task n = refl
signal_phases-waited (m ∷ ms) task n =
    elim (eqb m.task task) as (λ b. signal_phases (cond b (member m.task (waited n m.entry) ∷ ms) (m ∷ changed_at task (waited n) ms)) ≡ signal_phases (m ∷ ms)) [
      | true ↦ elim (mode_signals m.entry.mode) as (λ b.
          map (λ m. m.entry.signal_phase) (cond b
          (member m.task (waited n m.entry) ∷ filter (λ m. mode_signals m.entry.mode) ms) (filter (λ m. mode_signals m.entry.mode) ms))
          ≡ map (λ m. m.entry.signal_phase) (cond b (m ∷ filter (λ m. mode_signals m.entry.mode) ms) (filter (λ m. mode_signals m.entry.mode) ms))) [
            | true ↦ refl
            | false ↦ refl
          ]
      | false ↦ elim (mode_signals m.entry.mode) as (λ b.
          map (λ m. m.entry.signal_phase) (cond b
          (m ∷ filter (λ m. mode_signals m.entry.mode) (changed_at task (waited n) ms))
          (filter (λ m. mode_signals m.entry.mode) (changed_at task (waited n) ms)))
          ≡ map (λ m. m.entry.signal_phase) (cond b (m ∷ filter (λ m. mode_signals m.entry.mode) ms) (filter (λ m. mode_signals m.entry.mode) ms))) [
            | true ↦ ap (λ xs. m.entry.signal_phase ∷ xs) (signal_phases-waited ms task n)
            | false ↦ signal_phases-waited ms task n
          ]
    ]

-- a signal leaves the wait phases
pub wait_phases-signalled : (ms : Members) (task n : ℕ) → wait_phases (changed_at task (signalled n) ms) ≡ wait_phases ms
wait_phases-signalled [] task n = refl
wait_phases-signalled (m ∷ ms) task n =
    elim (eqb m.task task) as (λ b. wait_phases (cond b (member m.task (signalled n m.entry) ∷ ms) (m ∷ changed_at task (signalled n) ms)) ≡ wait_phases (m ∷ ms)) [
      | true ↦ elim (mode_waits m.entry.mode) as (λ b.
          map (λ m. m.entry.wait_phase) (cond b (member m.task (signalled n m.entry) ∷ filter (λ m. mode_waits m.entry.mode) ms)
          (filter (λ m. mode_waits m.entry.mode) ms))
          ≡ map (λ m. m.entry.wait_phase) (cond b (m ∷ filter (λ m. mode_waits m.entry.mode) ms) (filter (λ m. mode_waits m.entry.mode) ms))) [
            | true ↦ refl
            | false ↦ refl
          ]
      | false ↦ elim (mode_waits m.entry.mode) as (λ b.
          map (λ m. m.entry.wait_phase) (cond b
          (m ∷ filter (λ m. mode_waits m.entry.mode) (changed_at task (signalled n) ms))
          (filter (λ m. mode_waits m.entry.mode) (changed_at task (signalled n) ms)))
          ≡ map (λ m. m.entry.wait_phase) (cond b (m ∷ filter (λ m. mode_waits m.entry.mode) ms) (filter (λ m. mode_waits m.entry.mode) ms))) [
            | true ↦ ap (λ xs. m.entry.wait_phase ∷ xs) (wait_phases-signalled ms task n)
            | false ↦ wait_phases-signalled ms task n
          ]
    ]
