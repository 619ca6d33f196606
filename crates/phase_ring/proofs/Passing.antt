-- A ring whose slots go on to the next phase, where one task alone stands at the base and nothing
-- was signalled.
use Rattle.std.proofs.Common.{◌≡◌, ℕ, ◌+◌, ◌-◌, ◌<◌, ◌≤◌, sym, ◌∙◌, ap, arith, ⊎_elim}
use Rattle.std.specs.Prelude.{slice_get}
use Rattle.std.proofs.lemmas.Bool.{le-ltb, cases_eq, cases_lt}
use Rattle.phase_accum.specs.Operations.{Operation}
use Rattle.phase_base.specs.declared.limits.TheConstants.{PHASES_MAX}
use Rattle.phase_ring.specs.declared.role.Role.{Role}
use Rattle.phase_ring.specs.declared.role.Role.TheVariants.{Signaller, Waiter}
use Rattle.phase_ring.specs.Rings.{Ring, ring, slot_at, standing, standing_in}
use Rattle.phase_ring.specs.Standings.{one_if_same}
use Rattle.phase_ring.specs.Boards.{IsRingAt}
use Rattle.phase_ring.proofs.Slots.{standing-out, standing-in}
use Rattle.phase_ring.proofs.Moves.{one-same, one-other}

-- the slots, each for the phase behind its own
abbrev pub shifted : {A : Type 0} → Ring A → Ring A
shifted r = ring (r.base + 1) r.slots

slot_at-shifted : {A : Type 0} (r : Ring A) (p : ℕ) → r.base + 1 ≤ p → slot_at (shifted r) p ≡ slot_at r (p - 1)
slot_at-shifted r p low = ap (slice_get r.slots) (let s : p - (r.base + 1) ≡ p - 1 - r.base = omega arith in s)

standing-shifted : {A : Type 0} (r : Ring A) (role : Role) (p : ℕ) → r.base + 1 ≤ p → standing (shifted r) role p ≡ standing r role (p - 1)
standing-shifted r role p low =
    standing-in (shifted r) role p low ∙ ap (standing_in role) (slot_at-shifted r p low) ∙ sym (standing-in r role (p - 1) (omega arith))

pub shifted_alone : {A : Type 0} (r : Ring A) → ((role : Role) (p : ℕ) → standing r role p ≡ one_if_same r.base p)
    → (role : Role) (p : ℕ) → standing (shifted r) role p ≡ one_if_same (r.base + 1) p
shifted_alone r alone role p =
    ⊎_elim
    (λ out. standing-out (shifted r) role p out ∙ sym (one-other (r.base + 1) p (λ e. omega arith)))
    (λ low. standing-shifted r role p low ∙ alone role (p - 1)
    ∙ ⊎_elim
    (λ here. one-same r.base (p - 1) (omega arith) ∙ sym (one-same (r.base + 1) p here))
    (λ apart. one-other r.base (p - 1) (λ e. apart (omega arith)) ∙ sym (one-other (r.base + 1) p apart))
    (cases_eq p (r.base + 1)))
    (cases_lt p (r.base + 1))

pub shifted_kept : {A : Type 0} (op : Operation A) (r : Ring A) (bound done top : ℕ) → IsRingAt op r bound done top
    → ((role : Role) (p : ℕ) → standing r role p ≡ one_if_same r.base p) → top ≡ r.base → top < PHASES_MAX
    → IsRingAt op (shifted r) bound (done + 1) (top + 1)
shifted_kept {A} op r bound done top k alone fresh far =
    let low = k.base_done in
    let high = k.done_top in
    let up = k.top_bound in
    let none : (role : Role) (p : ℕ) → (p ≡ r.base + 1 → ⊥) → standing (shifted r) role p ≡ 0 =
    λ role p apart. shifted_alone r alone role p ∙ one-other (r.base + 1) p apart in
    record {
      long = k.long;
      base_done = omega arith;
      done_top = omega arith;
      top_bound = omega arith;
      top_far = omega arith;
      signals_low = λ p under. none Signaller p (λ e. omega arith);
      signals_high = λ p above. none Signaller p (λ e. omega arith);
      waits_high = λ p above. none Waiter p (λ e. omega arith);
      sealed_below = λ p slot from found.
          k.sealed_below (p - 1) slot (omega arith) (sym (slot_at-shifted r p from) ∙ found)
          ∙ le-ltb (p - 1) done (omega arith) ∙ sym (le-ltb p (done + 1) (omega arith));
      unused = λ p slot from found above. k.unused (p - 1) slot (omega arith) (sym (slot_at-shifted r p from) ∙ found) (omega arith);
    }
