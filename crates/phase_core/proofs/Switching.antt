-- Slots that stand aside, and slots that are set anew for values that were kept alone.
use Rattle.std.proofs.Common.{◌≡◌, ℕ, zero, suc, ◌+◌, ◌-◌, ◌<◌, ◌≤◌, true, ℤ, List, [], ◌∷◌, Option, Some, None, min, map, length, replicate, unwrap_or, refl, sym, ap, subst, ◌∙◌, arith, inl, inr, ⊎_elim}
use Rattle.std.specs.List.{All}
use Rattle.std.specs.Prelude.{slice_get}
use Rattle.std.proofs.lemmas.Bool.{cases_eq, cases_lt}
use Rattle.std.proofs.lemmas.Option.{same_Some}
use Rattle.std.proofs.lemmas.Simd.{map-map}
use Rattle.phase_history.proofs.Each.{Each, Each-of_picked, least_low}
use Rattle.phase_accum.specs.Operations.{Operation}
use Rattle.phase_accum.specs.declared.single.Single.{Single}
use Rattle.phase_base.specs.Limits.{Limits}
use Rattle.phase_base.specs.Modes.{mode_signals, mode_waits}
use Rattle.phase_base.specs.declared.entry.Entry.{Entry}
use Rattle.phase_base.specs.declared.member.Member.{Member}
use Rattle.phase_base.specs.Members.{Members, entry_of, least, lesser, signal_phases, wait_phases}
use Rattle.phase_registry.specs.Rosters.{Roster}
use Rattle.phase_ring.specs.declared.board.Board.{Board}
use Rattle.phase_ring.specs.declared.role.Role.{Role}
use Rattle.phase_ring.specs.declared.role.Role.TheVariants.{Signaller, Waiter}
use Rattle.phase_ring.specs.Boards.{IsRingAt}
use Rattle.phase_ring.specs.Restarts.{MayBePlaced, ring_of_ones}
use Rattle.phase_ring.specs.Rings.{Ring, sents, standing}
use Rattle.phase_ring.specs.Slots.{Slot, IsUnused, sent}
use Rattle.phase_ring.specs.Standings.{count_of, one_if_same, phase_for, takes_part}
use Rattle.phase_core.specs.Slots.{KeptSlot}
use Rattle.phase_core.specs.Cores.{CoreState, StandsFor, IsBoarded, IsCore, core_of, sent_of}
use Rattle.phase_core.specs.Plain.{IsPlain, plain_core, unused_slot}
use Rattle.phase_core.proofs.Boarded.{slowest_is}
use Rattle.phase_core.proofs.Phasers.{kept_of_ones}
use Rattle.phase_core.proofs.LeastCounts.{one-same, one-other, signaller-counted}

-- ---- slots of values

kept_of_sents : {A : Type 0} (r : Ring A) → map sent_of (sents r).slots ≡ map sent_of r.slots
kept_of_sents r = map-map sent_of sent r.slots

-- ---- who stands where

pub least_counted : (xs : List ℕ) (b : ℕ) → least xs ≡ Some b → 0 < count_of b xs
least_counted [] b e = absurd (cc)
least_counted (x ∷ xs) b e =
    let first : lesser x (least xs) ≡ b = same_Some _ _ e in
    ⊎_elim
    (λ (same : x ≡ b). let one = one-same b in
    let here : one_if_same x b ≡ 1 = ap (λ n. one_if_same n b) same ∙ one in omega arith)
    (λ (apart : x ≡ b → ⊥).
    let rest : 0 < count_of b xs = least_counted xs b (by (least xs) refl first apart) in
    omega arith)
    (cases_eq x b)
  where
    by : (o : Option ℕ) → least xs ≡ o → lesser x (least xs) ≡ b → (x ≡ b → ⊥) → least xs ≡ Some b
    by None o_is first apart = absurd (apart (ap (lesser x) (sym o_is) ∙ first))
    by (Some m) o_is first apart =
        let least_is : min x m ≡ b = ap (lesser x) (sym o_is) ∙ first in
        o_is ∙ ap Some (let e : m ≡ b = omega (arith, apart) in e)

pub All-of_each : {X : Type 0} (P : X → Type 0) (xs : List X) → Each P xs → All P xs
All-of_each P [] each k d below = absurd (omega arith)
All-of_each P (x ∷ xs) each zero d below = each.0
All-of_each P (x ∷ xs) each (suc k) d below = All-of_each P xs each.1 k d (omega arith)

pub Each-of_all : {X : Type 0} (P : X → Type 0) (xs : List X) → All P xs → Each P xs
Each-of_all P [] all = tt
Each-of_all P (x ∷ xs) all =
    (all 0 x (omega arith), Each-of_all P xs (λ k d below. all (suc k) d (omega arith)))

-- each member may stand where it stands
pub members_stand : {A : Type 0} (op : Operation A) (r : Roster) (b : Board A) (base : ℕ)
    (values : List ℤ) → IsPlain op r b.limits base values → b.ring.base ≡ base
    → b.top ≡ base + length values → b.done ≡ b.top
    → All (λ (m : Member). (role : Role) → takes_part role m.entry ≡ true
    → MayBePlaced role (phase_for role m.entry) b) r.members
members_stand op r b base values plain base_is top_is done_is = All-of_each _ r.members (each r.members
    (Each-of_picked (λ p. p ≡ base + length values) (λ (m : Member). m.entry.signal_phase) (λ (m : Member). mode_signals m.entry.mode) r.members
    (subst (Each (λ p. p ≡ base + length values)) (sym plain.alone) (refl, tt)))
    (Each-of_picked (λ p. base ≤ p) (λ (m : Member). m.entry.wait_phase) (λ (m : Member). mode_waits m.entry.mode) r.members
    (least_low (wait_phases r.members) base plain.slowest))
    (Each-of_picked (λ p. p ≤ base + length values) (λ (m : Member). m.entry.wait_phase) (λ (m : Member). mode_waits m.entry.mode) r.members
    (Each-of_all (λ p. p ≤ base + length values) (wait_phases r.members) plain.low)))
  where
    each : (ms : Members)
        → Each (λ (m : Member). mode_signals m.entry.mode ≡ true → m.entry.signal_phase ≡ base + length values) ms
        → Each (λ (m : Member). mode_waits m.entry.mode ≡ true → base ≤ m.entry.wait_phase) ms
        → Each (λ (m : Member). mode_waits m.entry.mode ≡ true → m.entry.wait_phase ≤ base + length values) ms
        → Each (λ (m : Member). (role : Role) → takes_part role m.entry ≡ true
        → MayBePlaced role (phase_for role m.entry) b) ms
    each [] at low high = tt
    each (m ∷ ms) at low high = (by, each ms at.1 low.1 high.1)
      where
        by : (role : Role) → takes_part role m.entry ≡ true → MayBePlaced role (phase_for role m.entry) b
        by Signaller takes = let e = at.0 takes in (omega arith, omega arith)
        by Waiter takes = let a = low.0 takes in let z = high.0 takes in (omega arith, omega arith)

-- ---- slots again

-- what the slots of the values have, and where the members stand
pub record HasResumed {A : Type 0} (op : Operation A) (r : Roster) (limits : Limits) (base : ℕ)
    (values : List ℤ) (b : Board A) : Type 0 where
  pub kept : IsRingAt op b.ring b.limits.bound b.done b.top
  pub limits_are : b.limits ≡ limits
  pub top_is : b.top ≡ base + length values
  pub done_is : b.done ≡ b.top
  pub slots_are : sents b.ring ≡ sents (ring_of_ones op (limits.bound + 1) base values)
  pub stand : (p : ℕ) → (standing b.ring Signaller p ≡ count_of p (signal_phases r.members))
      × (standing b.ring Waiter p ≡ count_of p (wait_phases r.members))

pub resumed_view : {A : Type 0} (op : Operation A) (r : Roster) (limits : Limits) (base : ℕ)
    (values : List ℤ) (b : Board A) → HasResumed op r limits base values b
    → core_of r b ≡ plain_core op r limits base values
resumed_view {A} op r limits base values b has =
    let make : Limits → ℕ → ℕ → List (KeptSlot A) → CoreState A = λ l top at slots. record {
      limits = l;
      members = r.members;
      greatest = unwrap_or r.greatest 0;
      top = top;
      base = at;
      slots = slots;
    } in
    let slots : map sent_of b.ring.slots ≡ (plain_core op r limits base values).slots =
    sym (kept_of_sents b.ring) ∙ (ap (λ (x : Ring A). map sent_of x.slots) has.slots_are
    ∙ (kept_of_sents (ring_of_ones op (limits.bound + 1) base values)
    ∙ kept_of_ones op (limits.bound + 1) base values)) in
    ap (λ l. make l b.top b.ring.base (map sent_of b.ring.slots)) has.limits_are
    ∙ (ap (λ top. make limits top b.ring.base (map sent_of b.ring.slots)) has.top_is
    ∙ (ap (λ at. make limits (base + length values) at (map sent_of b.ring.slots))
    (ap (λ (x : Ring A). x.base) has.slots_are)
    ∙ ap (make limits (base + length values) base) slots))

pub resumed_core : {A : Type 0} (op : Operation A) (r : Roster) (limits : Limits) (base : ℕ)
    (values : List ℤ) (b : Board A) → HasResumed op r limits base values b
    → IsPlain op r limits base values → IsCore op r b
resumed_core op r limits base values b has plain = record {
  history = plain.history;
  stands = subst (λ core. StandsFor op core plain.history)
      (sym (resumed_view op r limits base values b has)) plain.stands;
  boarded = inr boarded;
  used = plain.used;
}
  where
    base_is : b.ring.base ≡ base
    base_is = ap (λ x. x.base) has.slots_are

    boarded : IsBoarded op r.members b.ring b.limits.bound b.done b.top
    boarded = record {
      kept = has.kept;
      done_at = inl has.done_is;
      base_at =
          let some = least_counted (wait_phases r.members) base plain.slowest in
          let here = (has.stand b.ring.base).1 in
          let same = ap (λ p. count_of p (wait_phases r.members)) base_is in omega arith;
      signallers_are = λ p. (has.stand p).0;
      waiters_are = λ p. (has.stand p).1;
    }

-- ---- slots that keep nothing

unused_kept : {A : Type 0} (op : Operation A) (slot : Slot A) → IsUnused op slot
    → sent_of slot ≡ unused_slot op
unused_kept {A} op slot unused =
    let make : A → ℕ → Option (Option Single) → KeptSlot A =
    λ part count named. record { part = part; count = count; named = named } in
    ap (λ x. make x slot.count slot.named) unused.part_is
    ∙ (ap (λ x. make op.unit x slot.named) unused.count_is
    ∙ ap (λ x. make op.unit 0 x) unused.named_is)

all_unused : {A : Type 0} (op : Operation A) (xs : List (Slot A))
    → ((i : ℕ) (slot : Slot A) → slice_get xs i ≡ Some slot → IsUnused op slot)
    → map sent_of xs ≡ replicate (length xs) (unused_slot op)
all_unused op [] unused = refl
all_unused op (x ∷ xs) unused =
    ap (λ y. y ∷ map sent_of xs) (unused_kept op x (unused 0 x refl))
    ∙ ap (λ l. unused_slot op ∷ l) (all_unused op xs (λ i slot found. unused (suc i) slot found))

alone_of : (xs : List ℕ) (p : ℕ) → length xs ≡ 1 → 0 < count_of p xs → xs ≡ p ∷ []
alone_of [] p one some = absurd (omega arith)
alone_of (x ∷ []) p one some =
    ⊎_elim (λ (same : x ≡ p). ap (λ n. n ∷ []) same)
    (λ (apart : x ≡ p → ⊥). absurd (let none = one-other x p apart in omega arith)) (cases_eq x p)
alone_of (x ∷ y ∷ xs) p one some = absurd (omega arith)

pub high_by_counts : (xs : List ℕ) (t : ℕ) → ((p : ℕ) → t < p → count_of p xs ≡ 0)
    → Each (λ x. x ≤ t) xs
high_by_counts [] t none = tt
high_by_counts (x ∷ xs) t none = (
  ⊎_elim (λ above. absurd (let n : one_if_same x x + count_of x xs ≡ 0 = none x above in
      let one = one-same x in omega arith)) (λ h. h) (cases_lt t x),
  high_by_counts xs t (λ p h. let n : one_if_same x p + count_of p xs ≡ 0 = none p h in
      omega arith),
)

-- what it keeps is no value, and nothing else
pub record IsBare {A : Type 0} (op : Operation A) (r : Roster) (b : Board A) (phase : ℕ)
    : Type 0 where
  pub plain : IsPlain op r b.limits phase []
  pub is : core_of r b ≡ plain_core op r b.limits phase []

pub bare_of : {A : Type 0} (op : Operation A) (r : Roster) (b : Board A) (task : ℕ) (e : Entry)
    → IsCore op r b → entry_of r.members task ≡ Some e → mode_signals e.mode ≡ true
    → length (signal_phases r.members) ≡ 1
    → IsBoarded op r.members b.ring b.limits.bound b.done b.top
    → b.top ≡ e.signal_phase → b.ring.base ≡ e.signal_phase
    → IsBare op r b e.signal_phase
bare_of {A} op r b task e core found signals one boarded top base = record {
  plain = plain;
  is = is;
}
  where
    phase : ℕ
    phase = e.signal_phase

    slots_are : map sent_of b.ring.slots
        ≡ (plain_core op r b.limits phase []).slots
    slots_are =
        all_unused op b.ring.slots (λ i slot found.
        let place : b.ring.base + i - b.ring.base ≡ i = omega arith in
        boarded.kept.unused (b.ring.base + i) slot (omega arith)
        (ap (slice_get b.ring.slots) place ∙ found) (omega arith))
        ∙ ap (λ n. replicate n (unused_slot op))
        (let n : length b.ring.slots ≡ b.limits.bound + 1 - 0 = omega (arith, boarded.kept.long) in n)

    is : core_of r b ≡ plain_core op r b.limits phase []
    is =
        let make : ℕ → ℕ → List (KeptSlot A) → CoreState A = λ t at slots. record {
          limits = b.limits;
          members = r.members;
          greatest = unwrap_or r.greatest 0;
          top = t;
          base = at;
          slots = slots;
        } in
        ap (λ t. make t b.ring.base (map sent_of b.ring.slots))
        (let t : b.top ≡ phase + 0 = omega (arith, top) in t)
        ∙ (ap (λ at. make (phase + 0) at (map sent_of b.ring.slots)) base
        ∙ ap (make (phase + 0) phase) slots_are)

    plain : IsPlain op r b.limits phase []
    plain = record {
      history = core.history;
      stands = subst (λ c. StandsFor op c core.history) is core.stands;
      alone = alone_of (signal_phases r.members) phase one
          (signaller-counted r.members task e found signals)
          ∙ ap (λ n. n ∷ []) (let n : phase ≡ phase + 0 = omega arith in n);
      slowest = slowest_is op r.members b.ring b.limits.bound b.done b.top boarded ∙ ap Some base;
      low = All-of_each _ (wait_phases r.members) (high_by_counts (wait_phases r.members) (phase + 0)
          (λ p above. sym (boarded.waiters_are p)
          ∙ boarded.kept.waits_high p (omega (arith, boarded.kept.done_top, top))));
      near = omega arith;
      far = omega (arith, boarded.kept.top_far, top);
      sends = tt;
      used = core.used;
    }
