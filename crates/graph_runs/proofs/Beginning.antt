-- The opening of a run: what its founders have done on one phaser.
use Rattle.std.proofs.Common.{◌≡◌, ℕ, zero, suc, ◌+◌, ◌<◌, ◌≤◌, Bool, true, false, not, cond, eqb, [], ◌∷◌, ◌++◌, Option, Some, None, length, refl, sym, ap, subst, ◌∙◌, arith, ◌⊎◌, inl, inr}
use Rattle.std.specs.Prelude.{nat_le, unwrap_or}
use Rattle.std.specs.List.{filter_map, range_with_len}
use Rattle.std.proofs.lemmas.Bool.{cases_lt, lt-leb, eq-eqb}
use Rattle.std.proofs.lemmas.List.{length-append}
use Rattle.phase_base.specs.Limits.{AreLimits}
use Rattle.phase_base.specs.declared.limits.TheConstants.{MEMBERS_MAX}
use Rattle.phase_base.specs.declared.entry.Entry.{Entry}
use Rattle.phase_base.specs.declared.mode.Mode.{Mode}
use Rattle.phase_base.specs.declared.mode.Mode.TheVariants as mode
use Rattle.phase_base.specs.Members.{Members, member, entry_of, without}
use Rattle.phase_base.specs.Modes.{holds}
use Rattle.phase_history.specs.declared.event.Event.TheVariants.{Registered}
use Rattle.phase_history.specs.Histories.{History, IsBeginning, entry_at, founder, members_of, greatest_used, signal_phase, wait_phase, start_of}
use Rattle.phase_history.specs.Refusals.{register_refusal, refusal_at, drop_refusal}
use Rattle.phase_history.specs.Legal.{IsLegal}
use Rattle.phase_history.proofs.Beginnings.{IsBeginning-refl, IsBeginning-trans}
use Rattle.phase_history.proofs.MemberLemmas.{entry_of-push_old}
use Rattle.stream_lists.specs.Jobs.{Job}
use Rattle.stream_lists.proofs.Firsts.{filter_map-skip, filter_map-take}
use Rattle.graph_runs.specs.Moments.{limits_at, numbers_on}
use Rattle.graph_runs.specs.Openings.{IsOpening}
use Rattle.graph_runs.specs.Beginnings.{root_mode, root_number, number_after_founder, with_root, roots_joined, opening}

-- ---- what the founder's registrations leave

-- the founder's mode holds each
holds_each : (child : Mode) → holds mode.Single child ≡ true
holds_each mode.Sig = refl
holds_each mode.Wait = refl
holds_each mode.SigWait = refl
holds_each mode.Single = refl

-- a founder with room registers a child as the next number
pub takes_root : (h : History) (child : Mode) → entry_of (members_of h) 0 ≡ Some founder
    → length (members_of h) < MEMBERS_MAX
    → register_refusal h 0 (greatest_used h + 1) child ≡ None
takes_root h child founds room =
    let holds_it : holds mode.Single child ≡ true = holds_each child in
    let new : nat_le (greatest_used h + 1) (greatest_used h) ≡ false =
    lt-leb (greatest_used h + 1) (greatest_used h) (omega arith) in
    let few : nat_le MEMBERS_MAX (length (members_of h)) ≡ false =
    lt-leb MEMBERS_MAX (length (members_of h)) room in
    rw (founds, holds_it, new, few) refl

-- phaser p with those of the first n tasks that its founder registers
pub record Rooted (job : Job) (p n : ℕ) : Type 0 where
  pub legal : IsLegal (limits_at job p) (roots_joined job p n)
  pub opens : IsOpening 0 (roots_joined job p n)
  pub founds : entry_of (members_of (roots_joined job p n)) 0 ≡ Some founder
  pub members : length (members_of (roots_joined job p n))
      ≡ suc (length (filter_map (root_number job p) (range_with_len 0 n)))
  pub few : length (members_of (roots_joined job p n)) ≤ n + 1

rooted-suc : (job : Job) (p n : ℕ) → n + 1 < MEMBERS_MAX → Rooted job p n → Rooted job p (suc n)
rooted-suc job p n room is = by (root_mode job n p) refl
  where
    h : History
    h = roots_joined job p n

    next : suc n ≡ n + 1
    next = omega arith

    by : (o : Option Mode) → root_mode job n p ≡ o → Rooted job p (suc n)
    by None e =
        let same : roots_joined job p (suc n) ≡ h = ap (with_root h) e in
        let none : root_number job p n ≡ None = ap (number_after_founder h) e in
        let kept : filter_map (root_number job p) (range_with_len 0 (suc n))
        ≡ filter_map (root_number job p) (range_with_len 0 n) =
        ap (λ k. filter_map (root_number job p) (range_with_len 0 k)) next
        ∙ filter_map-skip (root_number job p) n none in
        let was : length (members_of h) ≤ n + 1 = is.few in
        let now : length (members_of (roots_joined job p (suc n))) ≡ length (members_of h) =
        ap (λ x. length (members_of x)) same in
        record {
          legal = subst (IsLegal (limits_at job p)) (sym same) is.legal;
          opens = subst (IsOpening 0) (sym same) is.opens;
          founds = ap (λ x. entry_of (members_of x) 0) same ∙ is.founds;
          members = now ∙ is.members ∙ ap (λ l. suc (length l)) (sym kept);
          few = omega arith;
        }
    by (Some child) e =
        let a : ℕ = greatest_used h + 1 in
        let same : roots_joined job p (suc n) ≡ Registered 0 a child ∷ h = ap (with_root h) e in
        let some : root_number job p n ≡ Some a = ap (number_after_founder h) e in
        let entry : Entry = entry_at child (signal_phase h 0) (wait_phase h 0) in
        let more : filter_map (root_number job p) (range_with_len 0 (suc n))
        ≡ filter_map (root_number job p) (range_with_len 0 n) ++ a ∷ [] =
        ap (λ k. filter_map (root_number job p) (range_with_len 0 k)) next
        ∙ filter_map-take (root_number job p) n a some in
        let was : length (members_of h) ≤ n + 1 = is.few in
        let now : length (members_of (roots_joined job p (suc n)))
        ≡ length (members_of h ++ member a entry ∷ []) = ap (λ x. length (members_of x)) same in
        let longer = length-append (members_of h) (member a entry ∷ []) in
        let long = length-append (filter_map (root_number job p) (range_with_len 0 n)) (a ∷ []) in
        let counted : length (members_of h)
        ≡ suc (length (filter_map (root_number job p) (range_with_len 0 n))) = is.members in
        let many : length (filter_map (root_number job p) (range_with_len 0 (suc n)))
        ≡ length (filter_map (root_number job p) (range_with_len 0 n) ++ a ∷ []) =
        ap length more in
        record {
          legal = subst (IsLegal (limits_at job p)) (sym same)
              (is.legal, takes_root h child is.founds (omega arith));
          opens = subst (IsOpening 0) (sym same) (refl, is.opens);
          founds = ap (λ x. entry_of (members_of x) 0) same
              ∙ entry_of-push_old (members_of h) a 0 entry founder is.founds;
          members = omega arith;
          few = omega arith;
        }

pub rooted : (job : Job) (p n : ℕ) → AreLimits (limits_at job p) → n < MEMBERS_MAX
    → Rooted job p n
rooted job p zero are room = record {
  legal = (are, refl);
  opens = (refl, refl);
  founds = refl;
  members = refl;
  few = omega arith;
}
rooted job p (suc n) are room =
    rooted-suc job p n (omega arith) (rooted job p n are (omega arith))

-- ---- its longer histories

with_root-later : (h : History) (o : Option Mode) → IsBeginning h (with_root h o)
with_root-later h None = IsBeginning-refl h
with_root-later h (Some child) =
    record { later = Registered 0 (greatest_used h + 1) child ∷ []; is = refl }

pub roots-later : (job : Job) (p m n : ℕ) → m ≤ n
    → IsBeginning (roots_joined job p m) (roots_joined job p n)
roots-later job p m zero le =
    let same : m ≡ 0 = omega arith in
    subst (λ k. IsBeginning (roots_joined job p k) (roots_joined job p zero)) (sym same)
    (IsBeginning-refl (roots_joined job p zero))
roots-later job p m (suc n) le = by (cases_lt m (suc n)) (λ less. roots-later job p m n less)
  where
    by : (m < suc n) ⊎ (suc n ≤ m)
        → (m ≤ n → IsBeginning (roots_joined job p m) (roots_joined job p n))
        → IsBeginning (roots_joined job p m) (roots_joined job p (suc n))
    by (inl less) before =
        IsBeginning-trans (roots_joined job p m) (roots_joined job p n)
        (roots_joined job p (suc n)) (before (omega arith))
        (with_root-later (roots_joined job p n) (root_mode job n p))
    by (inr most) before =
        let same : m ≡ suc n = omega arith in
        subst (λ k. IsBeginning (roots_joined job p k) (roots_joined job p (suc n))) (sym same)
        (IsBeginning-refl (roots_joined job p (suc n)))

-- ---- the opening of one phaser

-- the founder leaves
pub founder_leaves : (job : Job) (p n : ℕ) → Rooted job p n
    → drop_refusal (roots_joined job p n) 0 ≡ None
founder_leaves job p n is =
    ap (λ (o : Option Entry). refusal_at o (record {}) (λ entry. [])) is.founds

pub opening_legal : (job : Job) (p : ℕ) → Rooted job p (length job.graph.tasks)
    → IsLegal (limits_at job p) ((opening job).history p)
opening_legal job p is = (is.legal, founder_leaves job p (length job.graph.tasks) is)

-- who leaves was one of the members
without-fewer : (ms : Members) (gone : ℕ) (entry : Entry) → entry_of ms gone ≡ Some entry
    → suc (length (without gone ms)) ≤ length ms
without-fewer [] gone entry e = absurd (cc)
without-fewer (m ∷ ms) gone entry e =
    by (eqb m.task gone) refl e (λ f. without-fewer ms gone entry f)
  where
    at_most : (xs : Members) → length (without gone xs) ≤ length xs
    at_most [] = omega arith
    at_most (x ∷ xs) = one (eqb x.task gone) (at_most xs)
      where
        one : (b : Bool) → length (without gone xs) ≤ length xs
            → length (cond (not b) (x ∷ without gone xs) (without gone xs)) ≤ suc (length xs)
        one true le = omega arith
        one false le = omega arith

    by : (b : Bool) → eqb m.task gone ≡ b → cond b (Some m.entry) (entry_of ms gone) ≡ Some entry
        → (entry_of ms gone ≡ Some entry → suc (length (without gone ms)) ≤ length ms)
        → suc (length (cond (not (eqb m.task gone)) (m ∷ without gone ms) (without gone ms)))
        ≤ suc (length ms)
    by true here f later =
        let it : cond (not (eqb m.task gone)) (m ∷ without gone ms) (without gone ms)
        ≡ without gone ms = rw here refl in
        omega (arith, at_most ms, ap length it)
    by false here f later =
        let it : cond (not (eqb m.task gone)) (m ∷ without gone ms) (without gone ms)
        ≡ m ∷ without gone ms = rw here refl in
        omega (arith, later f, ap length it)

pub only_roots : (job : Job) (p : ℕ) → Rooted job p (length job.graph.tasks)
    → length (members_of ((opening job).history p)) ≤ length (numbers_on job (opening job) p)
only_roots job p is =
    let few = without-fewer (members_of (roots_joined job p (length job.graph.tasks))) 0 founder
    is.founds in
    omega (arith, is.members)

-- ---- the numbers there

-- the number of a root, and how it begins
pub record IsRoot (job : Job) (p t n : ℕ) : Type 0 where
  pub mode : Mode
  pub has_mode : root_mode job t p ≡ Some mode
  pub is : n ≡ greatest_used (roots_joined job p t) + 1
  pub begins : start_of (roots_joined job p (suc t)) n ≡ Some (entry_at mode 0 0)

pub is_root : (job : Job) (p t n : ℕ) → Rooted job p t → root_number job p t ≡ Some n
    → IsRoot job p t n
is_root job p t n was e = by (root_mode job t p) refl e
  where
    h : History
    h = roots_joined job p t

    by : (o : Option Mode) → root_mode job t p ≡ o → number_after_founder h o ≡ Some n
        → IsRoot job p t n
    by None f g = absurd (cc)
    by (Some child) f g =
        let a : ℕ = greatest_used h + 1 in
        let same : a ≡ n = same_number a n g in
        let here : eqb a n ≡ true = eq-eqb a n same in
        let signals : signal_phase h 0 ≡ 0 =
        ap (λ (o : Option Entry). (unwrap_or o founder).signal_phase) was.founds in
        let waits : wait_phase h 0 ≡ 0 =
        ap (λ (o : Option Entry). (unwrap_or o founder).wait_phase) was.founds in
        record {
          mode = child;
          has_mode = f;
          is = sym same;
          begins = ap (λ x. start_of (with_root h x) n) f
              ∙ (rw (here, signals, waits) refl);
        }
      where
        same_number : (a n : ℕ) → Some a ≡ Some n → a ≡ n
        same_number a n e = cc
