-- Refusals and replies of a core, by its members.
use Rattle.std.proofs.Common.{◌≡◌, ℕ, ◌<◌, ◌≤◌, cond, List, Option, Some, ℤ, sym, ap, ◌∙◌}
use Rattle.std.specs.Prelude.{is_some}
use Rattle.std.proofs.lemmas.Bool.{lt-ltb, le-ltb}
use Rattle.phase_base.specs.declared.limits.TheConstants.{PHASES_MAX}
use Rattle.phase_base.specs.declared.entry.Entry.{Entry}
use Rattle.phase_accum.specs.declared.outcome.Outcome.{Outcome}
use Rattle.phase_accum.specs.Operations.{Operation}
use Rattle.phase_history.specs.declared.got.Got.TheVariants as got
use Rattle.phase_history.specs.declared.refusal.WaitRefusal.{WaitRefusal}
use Rattle.phase_history.specs.declared.refusal.WaitRefusal.TheVariants as wait
use Rattle.phase_base.specs.Members.{entry_of, signal_phases, least}
use Rattle.phase_history.specs.Histories.{History, members_of, done_of, wait_phase, signal_phase}
use Rattle.phase_history.specs.Phases.{value_of_phase}
use Rattle.phase_history.specs.Refusals.{refusal_at, wait_refusal, plain_wait_rows, wait_rows_at}
use Rattle.phase_base.specs.Lists.{first_row}
use Rattle.phase_history.specs.Replies.{wait_reply, refused_or, got_at}
use Rattle.phase_history.proofs.Steps.{member_entry_is}
use Rattle.phase_history.proofs.Standstill.{limits_of}
use Rattle.phase_core.specs.Cores.{CoreState, StandsFor}

-- ---- waits

-- the refusal of a plain wait, by the members of the core
pub wait_refusal_is : {A : Type 0} (op : Operation A) (core : CoreState A) (h : History) (task : ℕ) → StandsFor op core h
    → wait_refusal core.limits h task 1
    ≡ refusal_at (entry_of core.members task) wait.NoTask
    (wait_rows_at core.limits (done_of h) (is_some (least (signal_phases core.members))) 1)
wait_refusal_is op core h task stands =
    ap (λ ms. refusal_at (entry_of ms task) wait.NoTask
    (wait_rows_at core.limits (done_of h) (is_some (least (signal_phases ms))) 1)) (sym stands.members_are)

-- the reply to a plain wait of a member, by its refusal
pub wait_reply_is : {A : Type 0} (op : Operation A) (value : List ℤ → Outcome) (core : CoreState A)
    (h : History) (task : ℕ) (e : Entry)
    (r : Option WaitRefusal) → StandsFor op core h → entry_of core.members task ≡ Some e
    → r ≡ first_row (plain_wait_rows core.limits (done_of h) (is_some (least (signal_phases core.members))) e)
    → (wait_refusal core.limits h task 1 ≡ r) × (wait_reply value core.limits h task ≡ refused_or r (got_at value h e.wait_phase))
wait_reply_is op value core h task e r stands found row =
    let is : wait_refusal core.limits h task 1 ≡ r =
    wait_refusal_is op core h task stands ∙ ap (λ o. refusal_at o wait.NoTask
    (wait_rows_at core.limits (done_of h) (is_some (least (signal_phases core.members))) 1)) found ∙ sym row in
    let found_h : entry_of (members_of h) task ≡ Some e = (rw (← stands.members_are) found) in
    let phase : wait_phase h task ≡ e.wait_phase =
    ap (λ (x : Entry). x.wait_phase) (member_entry_is (members_of h) task e found_h) in
    (is, ap (λ o. refused_or o (got_at value h (wait_phase h task))) is ∙ ap (λ w. refused_or r (got_at value h w)) phase)

pub got_value : (value : List ℤ → Outcome) (h : History) (w : ℕ) → w < done_of h
    → got_at value h w ≡ got.Value w (value_of_phase value h w)
got_value value h w complete =
    ap (λ b. cond b (got.Value w (value_of_phase value h w)) got.Ended) (lt-ltb w (done_of h) complete)

pub got_ended : (value : List ℤ → Outcome) (h : History) (w : ℕ) → done_of h ≤ w → got_at value h w ≡ got.Ended
got_ended value h w past =
    ap (λ b. cond b (got.Value w (value_of_phase value h w)) got.Ended) (le-ltb w (done_of h) past)

-- ---- signals

pub signal_phase_is : {A : Type 0} (op : Operation A) (core : CoreState A) (h : History) (task : ℕ) (e : Entry)
    → StandsFor op core h → entry_of core.members task ≡ Some e → signal_phase h task ≡ e.signal_phase
signal_phase_is op core h task e stands found =
    let found_h : entry_of (members_of h) task ≡ Some e = (rw (← stands.members_are) found) in
    ap (λ (x : Entry). x.signal_phase) (member_entry_is (members_of h) task e found_h)

-- ---- limits

-- the phases of a core that stands for some history are at most so many
pub phases_most : {A : Type 0} {op : Operation A} {core : CoreState A} {h : History} → StandsFor op core h → core.limits.phases_max ≤ PHASES_MAX
phases_most {core = core} {h = h} stands = (limits_of core.limits h stands.legal).phases_most
