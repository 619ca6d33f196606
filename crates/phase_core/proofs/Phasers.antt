-- What a phaser shows, on slots or of values alone.
use Rattle.std.proofs.Common.{◌≡◌, ℕ, zero, suc, ◌+◌, ◌-◌, ◌<◌, ◌≤◌, true, false, Bool, ℤ, List, [], ◌∷◌, ◌++◌, Some, map, length, replicate, unwrap_or, refl, sym, ap, subst, ◌∙◌, arith, ⊎_elim}
use Rattle.std.specs.Prelude.{IsSome, if◌then◌else◌}
use Rattle.std.proofs.lemmas.Bool.{cases_eq, true≢false}
use Rattle.std.proofs.lemmas.List.{map-append}
use Rattle.std.proofs.lemmas.Simd.{map-map}
use Rattle.phase_history.proofs.Each.{Each, least_low}
use Rattle.phase_accum.specs.Operations.{Operation}
use Rattle.phase_history.specs.Histories.{History}
use Rattle.phase_base.specs.Modes.{mode_waits}
use Rattle.phase_base.specs.declared.entry.Entry.{Entry}
use Rattle.phase_base.specs.Members.{Members, entry_of, least, wait_phases}
use Rattle.phase_registry.specs.Rosters.{Roster}
use Rattle.phase_ring.specs.declared.store.Store.{Store}
use Rattle.phase_ring.specs.Restarts.{one_slot, ring_of_ones}
use Rattle.phase_ring.specs.Rings.{Ring}
use Rattle.phase_ring.specs.Slots.{empty_slot}
use Rattle.phase_ring.specs.Standings.{count_of, one_if_same}
use Rattle.phase_ring.specs.Stores.{KeepsValues, ring_of}
use Rattle.phase_ring.proofs.Restarted.{ones_kept}
use Rattle.phase_core.specs.Slots.{KeptSlot}
use Rattle.phase_core.specs.Cores.{CoreState, IsCore, StandsFor, core_of, core_with, sent_of}
use Rattle.phase_core.specs.Plain.{plain_core, plain_slot, unused_slot}
use Rattle.phase_core.specs.PlainCores.{IsPlainStore, IsPhaser, core_shown}
use Rattle.phase_core.proofs.Boarded.{IsKept, boarded_of, kept_boarded}
use Rattle.phase_core.proofs.LeastCounts.{one-other, waiter-counted}

-- ---- values as slots

map-replicate : {X Y : Type 0} (f : X → Y) (n : ℕ) (x : X)
    → map f (replicate n x) ≡ replicate n (f x)
map-replicate f zero x = refl
map-replicate f (suc n) x = ap (λ l. f x ∷ l) (map-replicate f n x)

-- what they have of their phases
pub kept_of_ones : {A : Type 0} (op : Operation A) (n base : ℕ) (values : List ℤ)
    → map sent_of (ring_of_ones op n base values).slots
    ≡ map (plain_slot op) values ++ replicate (n - length values) (unused_slot op)
kept_of_ones op n base values =
    map-append sent_of (map (one_slot op) values) (replicate (n - length values) (empty_slot op))
    ∙ (ap (λ l. l ++ map sent_of (replicate (n - length values) (empty_slot op)))
    (map-map sent_of (one_slot op) values)
    ∙ ap (λ l. map (plain_slot op) values ++ l)
    (map-replicate sent_of (n - length values) (empty_slot op)))

-- ---- what it shows

module _ {A : Type 0} (op : Operation A) (store : Store A)
  where
    abbrev ring_by : Bool → Ring A
    ring_by is_plain =
        if is_plain
        then ring_of_ones op (store.board.limits.bound + 1) store.values.base store.values.queue.items
        else store.board.ring

    pub ring_on : store.is_plain ≡ true → ring_of op store
        ≡ ring_of_ones op (store.board.limits.bound + 1) store.values.base store.values.queue.items
    ring_on on = ap ring_by on

    pub ring_off : store.is_plain ≡ false → ring_of op store ≡ store.board.ring
    ring_off off = ap ring_by off

    pub shown_off : (r : Roster) → store.is_plain ≡ false
        → core_shown op r store ≡ core_of r store.board
    shown_off r off =
        ap (λ ring. core_with r store.board.limits ring store.board.top) (ring_off off)

    pub shown_plain : (r : Roster) → store.is_plain ≡ true → KeepsValues store
        → core_shown op r store
        ≡ plain_core op r store.board.limits store.values.base store.values.queue.items
    shown_plain r on keeps =
        let limits = store.board.limits in
        let base = store.values.base in
        let xs = store.values.queue.items in
        let make : ℕ → List (KeptSlot A) → CoreState A = λ top slots. record {
          limits = limits;
          members = r.members;
          greatest = unwrap_or r.greatest 0;
          top = top;
          base = base;
          slots = slots;
        } in
        ap (λ ring. core_with r limits ring store.board.top) (ring_on on)
        ∙ (ap (λ t. make t (map sent_of (ring_of_ones op (limits.bound + 1) base xs).slots)) keeps.top_is
        ∙ ap (make (base + length xs)) (kept_of_ones op (limits.bound + 1) base xs))

-- ---- what holds of it

pub slots_phaser : {A : Type 0} {op : Operation A} {r : Roster} {store : Store A}
    → store.is_plain ≡ false → IsCore op r store.board → IsPhaser op r store
slots_phaser off core = record {
  slots = λ is. core;
  values = λ on. absurd (true≢false (sym on ∙ off));
}

pub values_phaser : {A : Type 0} {op : Operation A} {r : Roster} {store : Store A}
    → store.is_plain ≡ true → IsPlainStore op r store → IsPhaser op r store
values_phaser on alone = record {
  slots = λ off. absurd (true≢false (sym on ∙ off));
  values = λ is. alone;
}

-- a history that it stands for
pub record Shows {A : Type 0} (op : Operation A) (r : Roster) (store : Store A) : Type 0 where
  pub history : History
  pub stands : StandsFor op (core_shown op r store) history
  pub used : IsSome r.greatest

pub phaser_shows : {A : Type 0} (op : Operation A) (r : Roster) (store : Store A)
    → IsPhaser op r store → Shows op r store
phaser_shows {A} op r store phaser = by store.is_plain refl
  where
    by : (is : Bool) → store.is_plain ≡ is → Shows op r store
    by true on =
        let a = phaser.values on in
        record {
          history = a.plain.history;
          stands = subst (λ (k : CoreState A). StandsFor op k a.plain.history)
              (sym (shown_plain op store r on a.keeps)) a.plain.stands;
          used = a.plain.used;
        }
    by false off =
        let core = phaser.slots off in
        record {
          history = core.history;
          stands = subst (λ (k : CoreState A). StandsFor op k core.history)
              (sym (shown_off op store r off)) core.stands;
          used = core.used;
        }

-- what is kept while a waiter is registered
pub kept_of : {A : Type 0} (op : Operation A) (r : Roster) (store : Store A) → IsPhaser op r store
    → (length (wait_phases r.members) ≡ 0 → ⊥)
    → IsKept op r.members (ring_of op store) store.board.limits.bound store.board.done store.board.top
kept_of {A} op r store phaser some = by store.is_plain refl
  where
    bound : ℕ
    bound = store.board.limits.bound

    Kept : Ring A → Type 0
    Kept ring = IsKept op r.members ring store.board.limits.bound store.board.done store.board.top

    by : (is : Bool) → store.is_plain ≡ is → Kept (ring_of op store)
    by true on =
        let a = phaser.values on in
        let base = store.values.base in
        let xs = store.values.queue.items in
        let ones = ring_of_ones op (store.board.limits.bound + 1) base xs in
        let there : Kept ones = record {
          kept = ones_kept op store.board.limits.bound base xs ones refl a.keeps.near store.board.done store.board.top
              a.keeps.top_is a.keeps.done_is a.keeps.far;
          slowest = a.plain.slowest;
          done_at = ap (λ l. unwrap_or (least l) store.board.top) a.plain.alone
              ∙ sym (a.keeps.done_is ∙ a.keeps.top_is);
        } in
        subst Kept (sym (ring_on op store on)) there
    by false off =
        subst Kept (sym (ring_off op store off)) (kept_boarded op r.members store.board.ring
        store.board.limits.bound store.board.done store.board.top
        (boarded_of (wait_phases r.members) (phaser.slots off).boarded some))

-- ---- numbers that stand in a list

pub each_counted : (P : ℕ → Type 0) (xs : List ℕ) (p : ℕ) → Each P xs → 0 < count_of p xs → P p
each_counted P [] p each some = absurd (omega arith)
each_counted P (x ∷ xs) p each some =
    ⊎_elim (λ (same : x ≡ p). subst P same each.0)
    (λ (apart : x ≡ p → ⊥).
    let none = one-other x p apart in
    let here : 0 < one_if_same x p + count_of p xs = some in
    each_counted P xs p each.1 (omega arith)) (cases_eq x p)

-- no waiter stands below the slowest
pub not_below : (ms : Members) (base task : ℕ) (e : Entry) → entry_of ms task ≡ Some e
    → mode_waits e.mode ≡ true → least (wait_phases ms) ≡ Some base → base ≤ e.wait_phase
not_below ms base task e found waits slowest =
    each_counted (λ x. base ≤ x) (wait_phases ms) e.wait_phase
    (least_low (wait_phases ms) base slowest) (waiter-counted ms task e found waits)
