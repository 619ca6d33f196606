-- What a board says of the members, while a waiter is registered.
use Rattle.std.proofs.Common.{◌≡◌, ℕ, ◌+◌, ◌<◌, ◌≤◌, ◌⊎◌, true, false, ltb, List, [], ◌∷◌, Option, Some, length, unwrap_or, refl, sym, ◌∙◌, ap, arith, ⊎_elim, inl, inr}
use Rattle.std.specs.Prelude.{is_some}
use Rattle.std.proofs.lemmas.Bool.{cases_lt, leb-false, lt-ltb}
use Rattle.phase_base.specs.Modes.{mode_signals, mode_waits}
use Rattle.phase_base.specs.declared.entry.Entry.{Entry}
use Rattle.phase_base.specs.declared.limits.TheConstants.{MEMBERS_MAX}
use Rattle.phase_base.specs.Members.{Members, entry_of, signal_phases, wait_phases, least}
use Rattle.phase_accum.specs.Operations.{Operation}
use Rattle.phase_history.specs.Refusals.{is_ahead}
use Rattle.phase_registry.specs.Rosters.{Roster}
use Rattle.phase_ring.specs.declared.board.Board.{Board}
use Rattle.phase_ring.specs.Rings.{Ring, standing}
use Rattle.phase_ring.specs.declared.role.Role.TheVariants.{Signaller, Waiter}
use Rattle.phase_ring.proofs.Slots.{standing-out}
use Rattle.phase_ring.specs.Standings.{count_of}
use Rattle.phase_ring.specs.Boards.{IsRingAt}
use Rattle.phase_core.specs.Cores.{IsBoarded, IsCore}
use Rattle.phase_core.proofs.LeastCounts.{least_by_counts, done_by_counts, two_counts, signal_phases-few, wait_phases-few, signaller-counted, waiter-counted}

-- ---- whether a waiter is registered

pub length-none : (xs : List ℕ) → length xs ≡ 0 → xs ≡ []
length-none [] e = refl
length-none (x ∷ xs) e = absurd (omega arith)

-- where the list has a number, the second holds
pub boarded_of : {B : Type 0} (xs : List ℕ) → (xs ≡ []) ⊎ B → (length xs ≡ 0 → ⊥) → B
boarded_of xs (inl none) some = absurd (some (ap length none))
boarded_of xs (inr b) some = b

pub is_some-least : (xs : List ℕ) → is_some (least xs) ≡ ltb 0 (length xs)
is_some-least [] = refl
is_some-least (x ∷ xs) = sym (lt-ltb 0 (length (x ∷ xs)) (omega arith))

-- where a waiter is a member, the list of wait phases has a number
pub waits-some : (ms : Members) (task : ℕ) (e : Entry) → entry_of ms task ≡ Some e → mode_waits e.mode ≡ true
    → length (wait_phases ms) ≡ 0 → ⊥
waits-some ms task e found waits none =
    let some = waiter-counted ms task e found waits in
    nobody (wait_phases ms) e.wait_phase none some
  where
    nobody : (xs : List ℕ) (p : ℕ) → length xs ≡ 0 → 0 < count_of p xs → ⊥
    nobody [] p none some = omega arith
    nobody (x ∷ xs) p none some = omega arith

-- the board of a core agrees with the members while the number of those that wait is not 0
pub boarded_while : {A : Type 0} {op : Operation A} {reg : Roster} {b : Board A} {n : ℕ}
    → IsCore op reg b → n ≡ length (wait_phases reg.members) → (n ≡ 0 → ⊥)
    → IsBoarded op reg.members b.ring b.limits.bound b.done b.top
boarded_while {reg = reg} core count some =
    boarded_of (wait_phases reg.members) core.boarded (λ none. some (count ∙ none))

-- and where a member waits
pub boarded_beside : {A : Type 0} {op : Operation A} {reg : Roster} {b : Board A} (task : ℕ)
    {e : Entry} → IsCore op reg b → entry_of reg.members task ≡ Some e → mode_waits e.mode ≡ true
    → IsBoarded op reg.members b.ring b.limits.bound b.done b.top
boarded_beside {reg = reg} task {e = e} core found waits =
    boarded_of (wait_phases reg.members) core.boarded (waits-some reg.members task e found waits)

-- ---- the slowest waiter, and done

pub slowest_is : {A : Type 0} (op : Operation A) (ms : Members) (r : Ring A) (bound done top : ℕ) → IsBoarded op ms r bound done top
    → least (wait_phases ms) ≡ Some r.base
slowest_is op ms r bound done top b =
    least_by_counts (wait_phases ms) r.base
    (λ q low. sym (b.waiters_are q) ∙ standing-out r Waiter q low)
    (let a = b.base_at in let c = b.waiters_are r.base in omega arith)

pub done_is : {A : Type 0} (op : Operation A) (ms : Members) (r : Ring A) (bound done top : ℕ) → IsBoarded op ms r bound done top
    → unwrap_or (least (signal_phases ms)) top ≡ done
done_is op ms r bound done top b =
    done_by_counts (signal_phases ms) done top
    (λ p low. sym (b.signallers_are p) ∙ b.kept.signals_low p low)
    (λ p high. sym (b.signallers_are p) ∙ b.kept.signals_high p high)
    (⊎_elim (λ at. inl at) (λ some. inr (let c = b.signallers_are done in omega arith)) b.done_at)

-- ---- what is kept, as slots or not

-- what the phases that are kept say of the members, whoever stands at the slots
pub record IsKept {A : Type 0} (op : Operation A) (ms : Members) (r : Ring A) (bound done top : ℕ)
    : Type 0 where
  pub kept : IsRingAt op r bound done top
  pub slowest : least (wait_phases ms) ≡ Some r.base
  pub done_at : unwrap_or (least (signal_phases ms)) top ≡ done

pub kept_boarded : {A : Type 0} (op : Operation A) (ms : Members) (r : Ring A) (bound done top : ℕ)
    → IsBoarded op ms r bound done top → IsKept op ms r bound done top
kept_boarded op ms r bound done top b = record {
  kept = b.kept;
  slowest = slowest_is op ms r bound done top b;
  done_at = done_is op ms r bound done top b;
}

-- ---- what the board asks of a signal and of a wait

-- what the first rows of a signal say where none applies
pub record Early (bound phases_max : ℕ) (slowest : Option ℕ) (e : Entry) : Type 0 where
  pub signals : mode_signals e.mode ≡ true
  pub below : e.signal_phase < phases_max
  pub behind : is_ahead slowest bound e.signal_phase ≡ false

pub record Ready {A : Type 0} (r : Ring A) (bound done : ℕ) (e : Entry) : Type 0 where
  pub low : done ≤ e.signal_phase
  pub ahead : e.signal_phase < r.base + bound
  pub stands : 0 < standing r Signaller e.signal_phase
  pub few : standing r Signaller (e.signal_phase + 1) < MEMBERS_MAX

pub ready : {A : Type 0} (op : Operation A) (ms : Members) (r : Ring A) (bound done top phases_max : ℕ) (task : ℕ) (e : Entry)
    → IsBoarded op ms r bound done top → entry_of ms task ≡ Some e → length ms ≤ MEMBERS_MAX
    → Early bound phases_max (least (wait_phases ms)) e → Ready r bound done e
ready op ms r bound done top phases_max task e b found few early =
    let row : is_ahead (Some r.base) bound e.signal_phase ≡ false =
    sym (ap (λ o. is_ahead o bound e.signal_phase) (slowest_is op ms r bound done top b)) ∙ early.behind in
    let below : e.signal_phase < r.base + bound = leb-false _ _ row in
    let some = signaller-counted ms task e found early.signals in
    let here = b.signallers_are e.signal_phase in
    let next = b.signallers_are (e.signal_phase + 1) in
    let two = two_counts (signal_phases ms) e.signal_phase (e.signal_phase + 1) (λ q. omega arith) in
    let most = signal_phases-few ms in
    record {
      low = ⊎_elim (λ under. absurd (let z = b.kept.signals_low e.signal_phase under in omega arith)) (λ x. x) (cases_lt e.signal_phase done);
      ahead = below;
      stands = omega arith;
      few = omega arith;
    }

pub record ReadyToWait {A : Type 0} (r : Ring A) (e : Entry) : Type 0 where
  pub stands : 0 < standing r Waiter e.wait_phase
  pub few : standing r Waiter (e.wait_phase + 1) < MEMBERS_MAX

pub ready_to_wait : {A : Type 0} (op : Operation A) (ms : Members) (r : Ring A) (bound done top : ℕ) (task : ℕ) (e : Entry)
    → IsBoarded op ms r bound done top → entry_of ms task ≡ Some e → length ms ≤ MEMBERS_MAX → mode_waits e.mode ≡ true
    → ReadyToWait r e
ready_to_wait op ms r bound done top task e b found few waits =
    let some = waiter-counted ms task e found waits in
    let here = b.waiters_are e.wait_phase in
    let next = b.waiters_are (e.wait_phase + 1) in
    let two = two_counts (wait_phases ms) e.wait_phase (e.wait_phase + 1) (λ q. omega arith) in
    let most = wait_phases-few ms in
    record { stands = omega arith; few = omega arith }
