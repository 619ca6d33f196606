-- What is kept of a ring, but for who stands there and which slots are sealed; and who comes and
-- goes with an entry.
use Rattle.std.proofs.Common.{◌≡◌, ℕ, ◌+◌, ◌-◌, ◌<◌, true, cond, Option, Some, None, length, refl, sym, ◌∙◌, ap, arith, ⊎_elim}
use Rattle.std.specs.Option.{option_map}
use Rattle.std.proofs.lemmas.Option.{same_Some, slice_get-map}
use Rattle.std.proofs.lemmas.Bool.{cases_eq, cases_lt}
use Rattle.phase_base.specs.declared.entry.Entry.{Entry}
use Rattle.phase_accum.specs.Operations.{Operation}
use Rattle.phase_ring.specs.declared.role.Role.{Role}
use Rattle.phase_ring.specs.declared.role.Role.TheVariants.{Signaller, Waiter}
use Rattle.phase_ring.specs.Slots.{Slot, standing_of, with_standing, sent}
use Rattle.phase_ring.specs.Rings.{Ring, IsWithin, slot_at, with_slot, standing, standing_in, sents, KeepsSlots}
use Rattle.phase_ring.specs.Standings.{one_if_same, other, takes_part, phase_for, counted}
use Rattle.phase_ring.specs.Boards.{IsRingAt}
use Rattle.phase_ring.proofs.Slots.{IsPlace, standing-out, standing-in, slot_at-past}
use Rattle.phase_ring.proofs.Moves.{one-same, one-other, enters, leaves}

-- ---- slots

-- an item of a mapped list is one of the list
pub option_map-some : {X Y : Type 0} (f : X → Y) (found : Option X) (y : Y) → option_map f found ≡ Some y
    → (x : X) × (found ≡ Some x) × (f x ≡ y)
option_map-some f None y e = absurd (cc)
option_map-some f (Some x) y e = (x, refl, same_Some _ _ e)

-- what the slots have of their sends is kept where the slots are
pub KeepsSlots-sents : {A : Type 0} (old mid new : Ring A) → sents mid ≡ sents old → KeepsSlots mid new → KeepsSlots (sents old) (sents new)
KeepsSlots-sents {A} old mid new same keeps p slot low found =
    let there : slot_at (sents mid) p ≡ Some slot = ap (λ (r : Ring A). slot_at r p) same ∙ found in
    let at = option_map-some sent (slot_at mid p) slot (sym (slice_get-map sent mid.slots (p - mid.base)) ∙ there) in
    slice_get-map sent new.slots (p - new.base) ∙ ap (option_map sent) (keeps p at.0 low at.1) ∙ ap Some at.2

-- ---- who comes and goes

-- where somebody stands, there is a slot
pub standing-within : {A : Type 0} (r : Ring A) (role : Role) (p : ℕ) → 0 < standing r role p → IsWithin r p
standing-within r role p some = record {
  low = ⊎_elim (λ out. absurd (let z = standing-out r role p out in omega arith)) (λ x. x) (cases_lt p r.base);
  high = ⊎_elim (λ x. x)
      (λ past. ⊎_elim
      (λ out. absurd (let z = standing-out r role p out in omega arith))
      (λ inside. absurd (let z : standing r role p ≡ 0 = standing-in r role p inside ∙ ap (standing_in role) (slot_at-past r p past) in omega arith))
      (cases_lt p r.base))
      (cases_lt p (r.base + length r.slots));
}

-- and more may come there
pub standing-place : {A : Type 0} (op : Operation A) (r : Ring A) (bound done top p : ℕ) (role : Role) → IsRingAt op r bound done top
    → 0 < standing r role p → IsPlace role p done top
standing-place op r bound done top p Signaller k some = (
  ⊎_elim (λ under. absurd (let z = k.signals_low p under in omega arith)) (λ x. x) (cases_lt p done),
  ⊎_elim (λ above. absurd (let z = k.signals_high p above in omega arith)) (λ x. x) (cases_lt top p),
)
standing-place op r bound done top p Waiter k some =
    ⊎_elim (λ above. absurd (let z = k.waits_high p above in omega arith)) (λ x. x) (cases_lt done p)

-- a task with the entry stands at its phase of the role, or stands there no more
pub record Counts {A : Type 0} (op : Operation A) (r new : Ring A) (bound done top : ℕ) (role : Role) : Type 0 where
  pub kept : IsRingAt op new bound done top
  pub same : sents new ≡ sents r
  pub others : (p : ℕ) → standing new (other role) p ≡ standing r (other role) p

counted-of : (role : Role) (entry : Entry) (q p : ℕ) → q ≡ phase_for role entry → takes_part role entry ≡ true → counted role entry p ≡ one_if_same q p
counted-of role entry q p at takes = ap (λ b. cond b (one_if_same (phase_for role entry) p) 0) takes ∙ ap (λ n. one_if_same n p) (sym at)

-- where somebody may stand, one more does
pub placed : {A : Type 0} (op : Operation A) (r new : Ring A) (bound done top q : ℕ) (role : Role) (entry : Entry) → q ≡ phase_for role entry
    → takes_part role entry ≡ true → IsRingAt op r bound done top → IsWithin r q → IsPlace role q done top
    → ((slot : Slot A) → slot_at r q ≡ Some slot → new ≡ with_slot q (with_standing role (standing_of role slot + 1) slot) r)
    → Counts op r new bound done top role × ((p : ℕ) → standing new role p ≡ standing r role p + counted role entry p)
placed op r new bound done top q role entry at takes k within place goes =
    let m = enters op r new bound done top q role k within place goes in (
      record { kept = m.kept; same = m.sents_same; others = m.others },
      λ p. (let c = counted-of role entry q p at takes in
          ⊎_elim
          (λ here. let one = one-same q p here in let a = ap (standing new role) here ∙ m.at in let b = ap (standing r role) here in omega arith)
          (λ apart. let none = one-other q p apart in let a = m.apart p apart in omega arith)
          (cases_eq p q)),
    )

pub entered : {A : Type 0} (op : Operation A) (r new : Ring A) (bound done top q : ℕ) (role : Role) (entry : Entry) → q ≡ phase_for role entry
    → takes_part role entry ≡ true → IsRingAt op r bound done top → (takes_part role entry ≡ true → 0 < standing r role (phase_for role entry))
    → ((slot : Slot A) → slot_at r q ≡ Some slot → new ≡ with_slot q (with_standing role (standing_of role slot + 1) slot) r)
    → Counts op r new bound done top role × ((p : ℕ) → standing new role p ≡ standing r role p + counted role entry p)
entered op r new bound done top q role entry at takes k stands goes =
    let some : 0 < standing r role q = (let s = stands takes in let e = ap (standing r role) at in omega arith) in
    placed op r new bound done top q role entry at takes k (standing-within r role q some) (standing-place op r bound done top q role k some) goes

pub left : {A : Type 0} (op : Operation A) (r new : Ring A) (bound done top q : ℕ) (role : Role) (entry : Entry) → q ≡ phase_for role entry
    → takes_part role entry ≡ true → IsRingAt op r bound done top → (takes_part role entry ≡ true → 0 < standing r role (phase_for role entry))
    → ((slot : Slot A) → slot_at r q ≡ Some slot → new ≡ with_slot q (with_standing role (standing_of role slot - 1) slot) r)
    → Counts op r new bound done top role × ((p : ℕ) → standing new role p + counted role entry p ≡ standing r role p)
left op r new bound done top q role entry at takes k stands goes =
    let some : 0 < standing r role q = (let s = stands takes in let e = ap (standing r role) at in omega arith) in
    let m = leaves op r new bound done top q role k (standing-within r role q some) (standing-place op r bound done top q role k some) goes in (
      record { kept = m.kept; same = m.sents_same; others = m.others },
      λ p. (let c = counted-of role entry q p at takes in
          ⊎_elim
          (λ here. let one = one-same q p here in let a = ap (standing new role) here ∙ m.at in let b = ap (standing r role) here in omega arith)
          (λ apart. let none = one-other q p apart in let a = m.apart p apart in omega arith)
          (cases_eq p q)),
    )
