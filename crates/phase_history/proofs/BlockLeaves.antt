-- A block leaves what its signals one by one leave.
use Rattle.std.proofs.Common.{◌≡◌, ℕ, suc, ◌+◌, ◌<◌, ◌≤◌, Bool, true, false, ◌&&◌, cond, eqb, leb, ltb, max, List, [], ◌∷◌, ◌++◌, Option, Some, None, ℤ, length, refl, sym, ap, ◌∙◌, arith, ⊎_elim}
use Rattle.std.specs.Prelude.{◌||◌, is_some}
use Rattle.std.proofs.lemmas.List.{append-nil, append_assoc}
use Rattle.std.proofs.lemmas.Bool.{eqb-true, lt-leb, le-leb, lt-ltb, le-ltb, cases_lt}
use Rattle.phase_base.specs.declared.entry.Entry.{Entry}
use Rattle.phase_base.specs.Members.{Members, member, entry_of, changed_at, signalled}
use Rattle.phase_accum.specs.declared.single.Single.{Single}
use Rattle.phase_history.specs.declared.event.Event.TheVariants.{Signalled}
use Rattle.phase_history.specs.Histories.{History, IsAlive, members_of, top_of, signal_phase}
use Rattle.phase_history.specs.Phases.{sends_of_phase, named_in_phase, list_in_phase, first_named, is_among}
use Rattle.phase_history.specs.Blocks.{one_by_one, LeavesSame}
use Rattle.phase_history.proofs.MemberLemmas.{entry_of-changed_same}
use Rattle.phase_history.proofs.Steps.{member_entry_is, list_in_phase-below}

-- ---- one phase more, then n more

abbrev at_phase : Entry → ℕ → Entry
at_phase entry s = record entry { signal_phase = s }

changed_at-twice : (task n : ℕ) (ms : Members)
    → changed_at task (signalled (suc n)) ms ≡ changed_at task (signalled n) (changed_at task (signalled 1) ms)
changed_at-twice task n [] = refl
changed_at-twice task n (m ∷ ms) =
    elim (eqb m.task task) as (λ b. (eqb m.task task ≡ b)
    → cond b (member m.task (signalled (suc n) m.entry) ∷ ms) (m ∷ changed_at task (signalled (suc n)) ms)
    ≡ changed_at task (signalled n) (cond b (member m.task (signalled 1 m.entry) ∷ ms) (m ∷ changed_at task (signalled 1) ms))) [
      | true ↦ λ t.
          ap (λ s. member m.task (at_phase m.entry s) ∷ ms) (let e : m.entry.signal_phase + suc n ≡ m.entry.signal_phase + 1 + n = omega arith in e)
          ∙ sym (ap (λ b. cond b (member m.task (signalled n (signalled 1 m.entry)) ∷ ms) (member m.task (signalled 1 m.entry) ∷ changed_at task (signalled n) ms)) t)
      | false ↦ λ t.
          ap (λ xs. m ∷ xs) (changed_at-twice task n ms)
          ∙ sym (ap (λ b. cond b (member m.task (signalled n m.entry) ∷ changed_at task (signalled 1) ms) (m ∷ changed_at task (signalled n) (changed_at task (signalled 1) ms))) t)
    ] refl

-- ---- the lists of a phase

pub list_in_phase-first : (sends : List ℤ) (lists : List (List ℤ)) (s p : ℕ)
    → list_in_phase (sends ∷ lists) s p ≡ list_in_phase (sends ∷ []) s p ++ list_in_phase lists (s + 1) p
list_in_phase-first sends lists s p =
    elim (eqb s p) as (λ b. (eqb s p ≡ b)
    → cond b sends (list_in_phase lists (s + 1) p) ≡ cond b sends [] ++ list_in_phase lists (s + 1) p) [
      | true ↦ λ t.
          let same : s ≡ p = eqb-true _ _ t in
          sym (ap (λ l. sends ++ l) (list_in_phase-below lists (s + 1) p (omega arith)) ∙ append-nil sends)
      | false ↦ λ t. refl
    ] refl

-- ---- the name of a phase's first signal

pub first_named-twice : (named : Option (Option Single)) (a b : Bool) (single : Option Single)
    → first_named named (a || b) single ≡ first_named (first_named named a single) b single
first_named-twice (Some named) a b single = refl
first_named-twice None true b single = refl
first_named-twice None false b single = refl

pub is_among-below : (s k n p : ℕ) → p < s → s ≤ k → is_among k n p ≡ false
is_among-below s k n p below up = ap (λ b. b && ltb p (k + n)) (lt-leb k p (omega arith))

is_among-past : (s n p : ℕ) → s < p → is_among s (suc n) p ≡ (is_among s 1 p || is_among (s + 1) n p)
is_among-past s n p past =
    let from : leb s p ≡ true = le-leb s p (omega arith) in
    let first_out : is_among s 1 p ≡ false = ap (λ b. b && ltb p (s + 1)) from ∙ le-ltb p (s + 1) (omega arith) in
    ap (λ b. b && ltb p (s + suc n)) from
    ∙ ap (λ k. ltb p k) (let e : s + suc n ≡ s + 1 + n = omega arith in e)
    ∙ sym (ap (λ b. b || is_among (s + 1) n p) first_out ∙ ap (λ b. b && ltb p (s + 1 + n)) (le-leb (s + 1) p (omega arith)))

is_among-at : (s n p : ℕ) → s ≤ p → p ≤ s → is_among s (suc n) p ≡ (is_among s 1 p || is_among (s + 1) n p)
is_among-at s n p from here =
    let from_is : leb s p ≡ true = le-leb s p from in
    let first_in : is_among s 1 p ≡ true = ap (λ b. b && ltb p (s + 1)) from_is ∙ lt-ltb p (s + 1) (omega arith) in
    ap (λ b. b && ltb p (s + suc n)) from_is ∙ lt-ltb p (s + suc n) (omega arith)
    ∙ sym (ap (λ b. b || is_among (s + 1) n p) first_in)

pub is_among-first : (s n p : ℕ) → is_among s (suc n) p ≡ (is_among s 1 p || is_among (s + 1) n p)
is_among-first s n p =
    ⊎_elim (λ below.
    is_among-below s s (suc n) p below (omega arith)
    ∙ sym (ap (λ b. b || is_among (s + 1) n p) (is_among-below s s 1 p below (omega arith))
    ∙ is_among-below s (s + 1) n p below (omega arith)))
    (λ from.
    ⊎_elim (λ past. is_among-past s n p past) (λ here. is_among-at s n p from here) (cases_lt s p))
    (cases_lt p s)

-- ---- a block is its first signal and the block of the others

first_then_others : (h : History) (task : ℕ) (sends : List ℤ) (lists : List (List ℤ)) (single : Option Single) (e : Entry)
    → entry_of (members_of h) task ≡ Some e
    → LeavesSame (Signalled task (sends ∷ lists) single ∷ h) (Signalled task lists single ∷ Signalled task (sends ∷ []) single ∷ h)
first_then_others h task sends lists single e found =
    let n = length lists in
    let first = Signalled task (sends ∷ []) single ∷ h in
    let s = signal_phase h task in
    let s_is : s ≡ e.signal_phase = ap (λ (x : Entry). x.signal_phase) (member_entry_is (members_of h) task e found) in
    let later : entry_of (members_of first) task ≡ Some (signalled 1 e) =
    entry_of-changed_same task (signalled 1) e (members_of h) found in
    let next : signal_phase first task ≡ s + 1 =
    ap (λ (x : Entry). x.signal_phase) (member_entry_is (members_of first) task (signalled 1 e) later) ∙ ap (λ k. k + 1) (sym s_is) in
    let tops : max (top_of h) (s + suc n) ≡ max (max (top_of h) (s + 1)) (s + 1 + n) = omega arith in
    record {
      members = changed_at-twice task n (members_of h);
      top = tops ∙ ap (λ k. max (max (top_of h) (s + 1)) (k + n)) (sym next);
      sends = λ p.
          ap (λ l. sends_of_phase h p ++ l) (list_in_phase-first sends lists s p)
          ∙ sym (append_assoc (sends_of_phase h p) (list_in_phase (sends ∷ []) s p) (list_in_phase lists (s + 1) p))
          ∙ ap (λ k. (sends_of_phase h p ++ list_in_phase (sends ∷ []) s p) ++ list_in_phase lists k p) (sym next);
      named = λ p.
          ap (λ b. first_named (named_in_phase h p) b single) (is_among-first s n p)
          ∙ first_named-twice (named_in_phase h p) (is_among s 1 p) (is_among (s + 1) n p) single
          ∙ ap (λ k. first_named (first_named (named_in_phase h p) (is_among s 1 p) single) (is_among k n p) single) (sym next);
    }

LeavesSame-trans : (one other third : History) → LeavesSame one other → LeavesSame other third → LeavesSame one third
LeavesSame-trans one other third a b = record {
  members = a.members ∙ b.members;
  top = a.top ∙ b.top;
  sends = λ p. a.sends p ∙ b.sends p;
  named = λ p. a.named p ∙ b.named p;
}

one_by_one-leaves : (h : History) (task : ℕ) (sends : List ℤ) (lists : List (List ℤ)) (single : Option Single) (e : Entry)
    → entry_of (members_of h) task ≡ Some e
    → LeavesSame (Signalled task (sends ∷ lists) single ∷ h) (one_by_one h task (sends ∷ lists) single)
one_by_one-leaves h task sends [] single e found = record { members = refl; top = refl; sends = λ p. refl; named = λ p. refl }
one_by_one-leaves h task sends (next ∷ lists) single e found =
    let first = Signalled task (sends ∷ []) single ∷ h in
    LeavesSame-trans _ (Signalled task (next ∷ lists) single ∷ first) _
    (first_then_others h task sends (next ∷ lists) single e found)
    (one_by_one-leaves first task next lists single (signalled 1 e) (entry_of-changed_same task (signalled 1) e (members_of h) found))

pub block_leaves_law : (h : History) (task : ℕ) (sends : List ℤ) (lists : List (List ℤ)) (single : Option Single) → IsAlive h task
    → LeavesSame (Signalled task (sends ∷ lists) single ∷ h) (one_by_one h task (sends ∷ lists) single)
block_leaves_law h task sends lists single alive =
    elim (entry_of (members_of h) task) as (λ o. (entry_of (members_of h) task ≡ o) → (is_some o ≡ true)
    → LeavesSame (Signalled task (sends ∷ lists) single ∷ h) (one_by_one h task (sends ∷ lists) single)) [
      | None ↦ λ none some. absurd (cc)
      | Some e ↦ λ found some. one_by_one-leaves h task sends lists single e found
    ] refl alive
