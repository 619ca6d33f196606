-- No turn is refused: each call of a live task is accepted, or comes too early.
use Rattle.std.proofs.Common.{◌≡◌, ◌≢◌, ℕ, ◌+◌, ◌-◌, ◌<◌, ◌≤◌, Bool, true, false, not, ◌&&◌, ◌||◌, eqb, List, [], ◌∷◌, Option, Some, None, is_some, length, map, get_or, ℤ, refl, sym, ap, subst, ◌∙◌, arith, ◌⊎◌, inl, inr}
use Rattle.std.specs.Prelude.{unwrap_or, nat_lt}
use Rattle.std.specs.List.{position_from}
use Rattle.std.proofs.lemmas.Bool.{and_left, and_right, ne_eqb, false_from_ne_true, cases_lt, not-true, le-ltb, lt-ltb}
use Rattle.phase_base.specs.Members.{entry_of}
use Rattle.phase_base.specs.Modes.{holds, mode_signals, mode_waits}
use Rattle.phase_base.specs.declared.mode.Mode.{Mode}
use Rattle.phase_base.specs.declared.mode.Mode.TheVariants.{Wait}
use Rattle.phase_base.specs.Limits.{Limits}
use Rattle.phase_accum.specs.declared.outcome.Outcome.{Outcome}
use Rattle.phase_history.specs.declared.refusal.SignalRefusal.{SignalRefusal}
use Rattle.phase_history.specs.declared.refusal.SignalRefusal.TheVariants as signal_refusals
use Rattle.phase_base.specs.declared.entry.Entry.{Entry}
use Rattle.phase_history.specs.Histories.{History, members_of, done_of, wait_phase, has_dropped, greatest_used, IsAlive}
use Rattle.phase_history.specs.Refusals.{signal_refusal, wait_refusal, drop_refusal, register_refusal, register_now_refusal, refusal_at, is_bad_block}
use Rattle.phase_history.specs.Replies.{wait_reply, wait_block_reply}
use Rattle.phase_history.proofs.Alive.{alive_law}
use Rattle.graph_base.specs.declared.line.Kind.{Kind}
use Rattle.graph_base.specs.declared.line.Kind.TheVariants.{Source, Fir, Split, Decimate, Join, Peer, Sink}
use Rattle.graph_base.specs.declared.registration.Registration.{Registration}
use Rattle.graph_base.specs.Graphs.{task_at, phaser_at}
use Rattle.graph_base.specs.Registrations.{ends_of, as_input, as_output, no_registration}
use Rattle.graph_base.specs.TaskLines.{IsGraph, HasBlock, has_blocks}
use Rattle.graph_base.proofs.Registered.{registrations-plain, length-registrations, end-input, end-output}
use Rattle.stream_lists.specs.Jobs.{Job, index_in}
use Rattle.stream_lists.specs.Spans.{signalled_by}
use Rattle.stream_lists.specs.Ranges.{are_made, is_out_of_range}
use Rattle.stream_lists.proofs.Ordered.{place-at, parent_signals, parent_waits}
use Rattle.graph_runs.specs.Moments.{one, Moment, HasEnded, OnLine, limits_at, input_at, numbers_on}
use Rattle.graph_runs.proofs.OnLines.{on_phaser}
use Rattle.graph_runs.specs.TaskEvents.{TaskEvent, leave, child, child_now}
use Rattle.graph_runs.specs.Nexts.{first_due, first_kept, first_missing, has_registered, has_left, has_signaller, number_on, registrations_at}
use Rattle.graph_runs.specs.NextBlocks.{with_block}
use Rattle.graph_runs.specs.Answers.{Answer, makes, is_blocked, is_gone, has_made, is_refused, signal_answer, wait_answer, block_answer, accepted_answer, register_answer, signal_turn, call_leave, call_register, output_at}
use Rattle.graph_runs.specs.Reached.{IsReachable}
use Rattle.graph_runs.proofs.PlacesLemmas.{find-some, find-none, place_of_output}
use Rattle.graph_runs.proofs.Signalling.{Live, number_there, stays}
use Rattle.graph_runs.proofs.Boundaries.{peer_ends}
use Rattle.graph_runs.proofs.TurnRegistering.{IsDueChild, due_child, plain_outputs, no_peer, IsFor, is_for, on_parents_line, sink_mode}
use Rattle.graph_runs.proofs.TurnEntries.{IsMember, member, on_output, on_input, signal_phase_is, wait_phase_is, numbers_few}
use Rattle.graph_runs.proofs.EndModes.{HasRegistration, SignalMode, signal_mode, WaitMode, wait_mode}
use Rattle.graph_runs.proofs.Refusing.{MaySignal, may_signal, WaitMay, may_wait, may_register}
use Rattle.graph_runs.proofs.Blocks.{may_signal_block}

-- the answer is one of the table's
abbrev pub IsTold : Answer → Type 0
IsTold (makes event) = Unit {0}
IsTold is_blocked = Unit {0}
IsTold is_gone = Unit {0}
IsTold (has_made at) = Unit {0}
IsTold is_refused = ⊥

signal_told : (event : TaskEvent) (o : Option SignalRefusal) → MaySignal o
    → IsTold (signal_answer event o)
signal_told event None may = tt
signal_told event (Some signal_refusals.NoTask) may = absurd may
signal_told event (Some signal_refusals.NoSignal) may = absurd may
signal_told event (Some signal_refusals.NotSingle) may = absurd may
signal_told event (Some signal_refusals.BadBlock) may = absurd may
signal_told event (Some signal_refusals.SignalTwice) may = absurd may
signal_told event (Some signal_refusals.Spent) may = tt
signal_told event (Some signal_refusals.Ahead) may = tt
signal_told event (Some signal_refusals.SingleDiffers) may = absurd may
signal_told event (Some signal_refusals.PhaseFull) may = absurd may

pub wait_told : (event : Outcome → TaskEvent) (value : List ℤ → Outcome) (limits : Limits)
    (h : History) (n : ℕ) → WaitMay limits h n 1
    → IsTold (wait_answer event (wait_reply value limits h n))
wait_told event value limits h n (inl yet) = rw yet tt
wait_told event value limits h n (inr ready) =
    let none : wait_refusal limits h n 1 ≡ None = ready.0 in
    let complete : nat_lt (wait_phase h n) (done_of h) ≡ true =
    lt-ltb (wait_phase h n) (done_of h) ready.1 in
    rw none (rw complete tt)

pub block_told : (event : ℕ → ℕ → TaskEvent) (limits : Limits) (h : History) (n steps : ℕ)
    → WaitMay limits h n steps → IsTold (block_answer event (wait_block_reply limits h n steps))
block_told event limits h n steps (inl yet) = rw yet tt
block_told event limits h n steps (inr ready) =
    let none : wait_refusal limits h n steps ≡ None = ready.0 in
    let complete : nat_lt (wait_phase h n) (done_of h) ≡ true =
    lt-ltb (wait_phase h n) (done_of h) ready.1 in
    rw none (rw complete tt)

accepted_told : {R : Type 0} (event : TaskEvent) (o : Option R) → o ≡ None
    → IsTold (accepted_answer event o)
accepted_told event None e = tt
accepted_told event (Some r) e = absurd (cc)

-- ---- members

-- a task that is registered on a phaser and has not left it is a member there
pub member_on : (job : Job) (m : Moment) (t p n : ℕ) (mode : Mode) → IsReachable job m
    → t < length job.graph.tasks → HasRegistration job t p mode → p < length job.graph.phasers
    → m.number p t ≡ Some n → has_dropped (m.history p) n ≡ false → IsMember m p n mode
member_on job m t p n mode reached there r pp at stays =
    let reg = get_or (registrations_at job t) r.at no_registration in
    let here : p < length job.graph.phasers → m.number p t ≡ Some n
    → has_dropped (m.history p) n ≡ false → IsMember m p n reg.mode =
    rw (← r.phaser) (λ pp at stays. member job m t r.at n reached there r.few pp at stays) in
    rw (← r.mode_is) (here pp at stays)

-- ---- signals

-- so many phases are a block of a phaser with this bound
good_block : (limits : Limits) (n : ℕ) → 1 ≤ n → n ≤ limits.bound
    → is_bad_block limits n ≡ false
good_block limits n some few =
    ap (λ b. b || nat_lt limits.bound n) (ne_eqb n 0 (λ e. omega arith)) ∙ le-ltb limits.bound n few

-- so many values are at most the bound of each phaser that the task signals
block_fits : {most : ℕ} (job : Job) (t j : ℕ)
    → HasBlock job.graph (with_block most (task_at job.graph t))
    → IsGraph job.graph → t < length job.graph.tasks
    → j < length (signalled_by (task_at job.graph t)) → output_at job t j < length job.graph.phasers
    → most ≤ (phaser_at job.graph (output_at job t j)).bound
block_fits {most} job t j block is there lt pp = by (task_at job.graph t).kind refl
  where
    other : (task_at job.graph t).kind ≢ Peer
        → most ≤ (phaser_at job.graph (output_at job t j)).bound
    other plain =
        let outs = plain_outputs job t plain in
        rw outs (block.outputs j 0 (omega (arith, ap length outs)))

    by : (kind : Kind) → (task_at job.graph t).kind ≡ kind
        → most ≤ (phaser_at job.graph (output_at job t j)).bound
    by Source e = other (λ peer. (let wrong = sym e ∙ peer in cc))
    by Fir e = other (λ peer. (let wrong = sym e ∙ peer in cc))
    by Split e = other (λ peer. (let wrong = sym e ∙ peer in cc))
    by Decimate e = other (λ peer. (let wrong = sym e ∙ peer in cc))
    by Join e = other (λ peer. (let wrong = sym e ∙ peer in cc))
    by Sink e = other (λ peer. (let wrong = sym e ∙ peer in cc))
    by Peer e =
        let one : most ≡ 1 =
        block.kind (ap has_blocks e) in
        omega (arith, (is.phasers (output_at job t j) pp).bound.0)

-- a list of one
one_of : (vs : List ℤ) → 1 ≤ length vs → length vs ≤ 1 → (v : ℤ) × (vs ≡ v ∷ [])
one_of [] some few = absurd (omega arith)
one_of (v ∷ []) some few = (v, refl)
one_of (v ∷ w ∷ vs) some few = absurd (omega arith)

-- a live task that has not come to its end signals a block on output j. A peer that waits on E, its
-- output 0, has not yet put there one value more than it has taken
pub signal_passes : {most : ℕ} (job : Job) (m : Moment) (t j : ℕ) (vs : List ℤ)
    → HasBlock job.graph (with_block most (task_at job.graph t)) → IsGraph job.graph
    → IsReachable job m → Live job m t → j < length (signalled_by (task_at job.graph t))
    → (HasEnded job m t → ⊥)
    → ((task_at job.graph t).kind ≡ Peer → j ≡ 0
    → length (m.put t 0) < length (m.taken t 1) + 1)
    → 1 ≤ length vs → length vs ≤ most
    → MaySignal (signal_refusal (limits_at job (output_at job t j))
    (m.history (output_at job t j)) (number_on m t (output_at job t j)) (map one vs)
    (phaser_at job.graph (output_at job t j)).single)
signal_passes {most} job m t j vs block is reached live lt more turn some few =
    let p = output_at job t j in
    let n = number_on m t p in
    let place = place_of_output job.graph t (task_at job.graph t) j (is.tasks t live.there) lt in
    let line : OnLine (task_at job.graph t) p = inl (j, place) in
    let pp = on_phaser job t p is live.there line in
    let at = number_there job m t p is live line in
    let here = stays job m t is (reached.ran.tasks t live.there) live.there more p n at in
    let mode = signal_mode job t j is live.there lt in
    let e = member_on job m t p n mode.mode reached live.there mode.on pp at here in
    let on = on_output job m t j p n (reached.ran.tasks t live.there) live.there pp place at in
    by mode e (signal_phase_is job m t j p n mode.mode on e) pp at mode.in_turn
  where
    by : (mode : SignalMode job t j (output_at job t j))
        (e : IsMember m (output_at job t j) (number_on m t (output_at job t j)) mode.mode)
        → e.entry.signal_phase ≡ m.offset t + length (m.put t j)
        → output_at job t j < length job.graph.phasers
        → m.number (output_at job t j) t ≡ Some (number_on m t (output_at job t j))
        → (mode_waits mode.mode ≡ false) ⊎ ((task_at job.graph t).kind ≡ Peer) × (j ≡ 0)
        × (input_at (task_at job.graph t) 1 ≡ output_at job t j)
        → MaySignal (signal_refusal (limits_at job (output_at job t j))
        (m.history (output_at job t j)) (number_on m t (output_at job t j)) (map one vs)
        (phaser_at job.graph (output_at job t j)).single)
    by mode e s pp at (inl none) =
        let fits = block_fits job t j block is live.there lt pp in
        may_signal_block job m (output_at job t j) (number_on m t (output_at job t j)) vs mode.mode
        is reached.ran pp e mode.signals none mode.named
        (good_block (limits_at job (output_at job t j)) (length vs) some (omega arith))
    by mode e s pp at (inr peer) =
        let p = output_at job t j in
        let n = number_on m t p in
        let two : length (task_at job.graph t).inputs ≡ 2 =
        (peer_ends job t is live.there peer.0).0 in
        let into = on_input job m t 1 p n (reached.ran.tasks t live.there) live.there (omega arith) peer.2 at in
        let w : e.entry.wait_phase ≡ m.offset t + length (m.taken t 1) =
        wait_phase_is job m t 1 p n mode.mode (reached.ran.phasers p pp).legal into e in
        let s_is : e.entry.signal_phase ≡ m.offset t + length (m.put t j) = s in
        let same : length (m.put t j) ≡ length (m.put t 0) =
        ap (λ i. length (m.put t i)) peer.1 in
        let low : length (m.put t 0) < length (m.taken t 1) + 1 = turn peer.0 peer.1 in
        let one : most ≡ 1 = block.kind (ap has_blocks peer.0) in
        let v = one_of vs some (omega arith) in
        rw v.1 (may_signal job m p n v.0 mode.mode is reached.ran pp e mode.signals
        mode.named
        (and_right (mode_waits mode.mode) (eqb e.entry.signal_phase (e.entry.wait_phase + 1))
        (ne_eqb e.entry.signal_phase (e.entry.wait_phase + 1) (λ clash. omega arith))))

-- values that are in range, or that a filter or a peer made, are signalled or told as out of range
pub signal_turn_told : (job : Job) (m : Moment) (t j : ℕ) (vs : List ℤ) (event : TaskEvent)
    → (are_made (task_at job.graph t).kind j ≡ false
    → position_from is_out_of_range (length (m.put t j)) vs ≡ None)
    → MaySignal (signal_refusal (limits_at job (output_at job t j))
    (m.history (output_at job t j)) (number_on m t (output_at job t j)) (map one vs)
    (phaser_at job.graph (output_at job t j)).single)
    → IsTold (signal_turn job m t j vs event)
signal_turn_told job m t j vs event ranged may =
    by (position_from is_out_of_range (length (m.put t j)) vs) refl
    (are_made (task_at job.graph t).kind j) refl
  where
    by : (o : Option ℕ) → position_from is_out_of_range (length (m.put t j)) vs ≡ o
        → (made : Bool) → are_made (task_at job.graph t).kind j ≡ made
        → IsTold (signal_turn job m t j vs event)
    by None found made is =
        rw found (signal_told event
        (signal_refusal (limits_at job (output_at job t j)) (m.history (output_at job t j))
        (number_on m t (output_at job t j)) (map one vs)
        (phaser_at job.graph (output_at job t j)).single) may)
    by (Some step) found true is = rw found (rw is tt)
    by (Some step) found false is =
        absurd (let no : Some step ≡ None = sym found ∙ ranged is in cc)

-- ---- waits

-- a live task that has not come to its end waits on input k. A peer that signals E, its input 1, too
-- has put there more values than it has taken, and where nobody signals there are more to take
pub wait_passes : {most : ℕ} (job : Job) (m : Moment) (t k steps : ℕ)
    → HasBlock job.graph (with_block most (task_at job.graph t)) → IsGraph job.graph
    → IsReachable job m → Live job m t → k < length (task_at job.graph t).inputs
    → (HasEnded job m t → ⊥) → 1 ≤ steps → steps ≤ most
    → ((task_at job.graph t).kind ≡ Peer → k ≡ 1 → length (m.taken t 1) < length (m.put t 0))
    → (has_signaller (m.history (input_at (task_at job.graph t) k)) ≡ false
    → m.offset t + length (m.taken t k)
    < done_of (m.history (input_at (task_at job.graph t) k)))
    → WaitMay (limits_at job (input_at (task_at job.graph t) k))
    (m.history (input_at (task_at job.graph t) k))
    (number_on m t (input_at (task_at job.graph t) k)) steps
wait_passes {most} job m t k steps block is reached live lt more some few turn later =
    let p = input_at (task_at job.graph t) k in
    let n = number_on m t p in
    let line : OnLine (task_at job.graph t) p = inr (k, lt, refl) in
    let pp = on_phaser job t p is live.there line in
    let at = number_there job m t p is live line in
    let here = stays job m t is (reached.ran.tasks t live.there) live.there more p n at in
    let mode = wait_mode job t k is live.there lt in
    let e = member_on job m t p n mode.mode reached live.there mode.on pp at here in
    let into = on_input job m t k p n (reached.ran.tasks t live.there) live.there lt refl at in
    let w = wait_phase_is job m t k p n mode.mode (reached.ran.phasers p pp).legal into e in
    let fits : most ≤ (phaser_at job.graph p).bound = block.inputs k 0 lt in
    may_wait job m p n steps mode.mode e mode.waits
    (good_block (limits_at job p) steps some (omega arith)) (by mode e w pp at mode.first)
    (λ quiet. (omega (arith, w, later quiet)))
  where
    by : (mode : WaitMode job t k (input_at (task_at job.graph t) k))
        (e : IsMember m (input_at (task_at job.graph t) k)
        (number_on m t (input_at (task_at job.graph t) k)) mode.mode)
        → e.entry.wait_phase ≡ m.offset t + length (m.taken t k)
        → input_at (task_at job.graph t) k < length job.graph.phasers
        → m.number (input_at (task_at job.graph t) k) t
        ≡ Some (number_on m t (input_at (task_at job.graph t) k))
        → (mode_signals mode.mode ≡ false) ⊎ ((task_at job.graph t).kind ≡ Peer) × (k ≡ 1)
        → (mode_signals mode.mode && eqb e.entry.signal_phase e.entry.wait_phase) ≡ false
    by mode e w pp at (inl none) =
        and_left (mode_signals mode.mode) (eqb e.entry.signal_phase e.entry.wait_phase) none
    by mode e w pp at (inr peer) =
        let p = input_at (task_at job.graph t) k in
        let n = number_on m t p in
        let two : length (signalled_by (task_at job.graph t)) ≡ 2 =
        (peer_ends job t is live.there peer.0).1 in
        let first : get_or (signalled_by (task_at job.graph t)) 0 0
        ≡ get_or (task_at job.graph t).inputs 1 0 = (let kind = peer.0 in rw kind refl) in
        let same : get_or (signalled_by (task_at job.graph t)) 0 0 ≡ p =
        first ∙ ap (λ i. input_at (task_at job.graph t) i) (sym peer.1) in
        let place : index_in (signalled_by (task_at job.graph t)) p ≡ Some 0 =
        ap (λ q. index_in (signalled_by (task_at job.graph t)) q) (sym same)
        ∙ place_of_output job.graph t (task_at job.graph t) 0 (is.tasks t live.there)
        (omega arith) in
        let on = on_output job m t 0 p n (reached.ran.tasks t live.there) live.there pp place at in
        let s : e.entry.signal_phase ≡ m.offset t + length (m.put t 0) =
        signal_phase_is job m t 0 p n mode.mode on e in
        let w_is : e.entry.wait_phase ≡ m.offset t + length (m.taken t k) = w in
        let one : length (m.taken t k) ≡ length (m.taken t 1) =
        ap (λ i. length (m.taken t i)) peer.1 in
        let few : length (m.taken t 1) < length (m.put t 0) = turn peer.0 peer.1 in
        and_right (mode_signals mode.mode) (eqb e.entry.signal_phase e.entry.wait_phase)
        (ne_eqb e.entry.signal_phase e.entry.wait_phase (λ clash. omega arith))

-- ---- a drop

known : {R : Type 0} (o : Option Entry) (no_task : R) → is_some o ≡ true
    → refusal_at o no_task (λ entry. []) ≡ None
known (Some entry) no_task e = refl
known None no_task e = absurd (cc)

pub leave_told : (job : Job) (m : Moment) (t : ℕ) → IsGraph job.graph → IsReachable job m
    → Live job m t → is_some (first_kept job m t) ≡ true
    → IsTold (call_leave m t (first_kept job m t))
leave_told job m t is reached live some = by (first_kept job m t) refl some
  where
    number_is : (o : Option ℕ) → not (is_some o) ≡ false → o ≡ Some (unwrap_or o 0)
    number_is (Some n) e = refl
    number_is None e = absurd (cc)

    by : (o : Option Registration) → first_kept job m t ≡ o → is_some o ≡ true
        → IsTold (call_leave m t o)
    by None found some = absurd (cc)
    by (Some r) found some =
        let f = find-some (λ x. not (has_left m t x)) (registrations_at job t) r no_registration
        found in
        let p = r.phaser in
        let n = number_on m t p in
        let there : not (has_registered m t (get_or (registrations_at job t) f.1.0 no_registration))
        ≡ false =
        find-none (λ x. not (has_registered m t x)) (registrations_at job t) f.1.0 no_registration
        live.all f.1.1 in
        let at : m.number p t ≡ Some n = number_is (m.number p t) (rw f.1.2 at there) in
        let line = (reached.ran.tasks t live.there).lines p n at in
        let pp = on_phaser job t p is live.there line in
        let ran = reached.ran.phasers p pp in
        let here : has_dropped (m.history p) n ≡ false = not-true (has_dropped (m.history p) n) f.0 in
        let alive : IsAlive (m.history p) n =
        (alive_law (limits_at job p) (m.history p) n ran.legal).1 (ran.used t n at, here) in
        accepted_told (leave t p n) (drop_refusal (m.history p) n)
        (known (entry_of (members_of (m.history p)) n) (record {}) alive)

-- ---- a child's registration

-- a task's mode on a phaser holds that of its child's registration there
pub record ParentHolds (job : Job) (t : ℕ) (r : Registration) : Type 0 where
  pub mode : Mode
  pub on : HasRegistration job t r.phaser mode
  pub holding : holds mode r.mode ≡ true

parent_holds : (job : Job) (m : Moment) (t c i : ℕ) → IsGraph job.graph
    → t < length job.graph.tasks → IsDueChild job m t c → i < length (registrations_at job c)
    → ParentHolds job t (get_or (registrations_at job c) i no_registration)
parent_holds job m t c i is there d lt = by (cases_lt i (length (task_at job.graph c).inputs))
  where
    same : registrations_at job c ≡ ends_of (task_at job.graph c)
    same =
        registrations-plain job.graph (task_at job.graph c)
        (no_peer (task_at job.graph c).kind d.parent.child_kind)

    long : length (registrations_at job c)
        ≡ length (task_at job.graph c).inputs + length (task_at job.graph c).outputs
    long = length-registrations job.graph (task_at job.graph c) (is.tasks c d.there).ends

    Holds : Registration → Type 0
    Holds r = ParentHolds job t r

    input : (k : ℕ) → k < length (task_at job.graph c).inputs
        → ParentHolds job t (as_input (k, get_or (task_at job.graph c).inputs k 0))
    input k few =
        let x = get_or (task_at job.graph c).inputs k 0 in
        let above = parent_waits job.graph c (task_at job.graph c) d.comes.by k d.parent few in
        let into : (above.0 < length (task_at job.graph t).inputs)
        × (get_or (task_at job.graph t).inputs above.0 0 ≡ x) =
        subst (λ (u : ℕ). (above.0 < length (task_at job.graph u).inputs) × (get_or (task_at
        job.graph u).inputs above.0 0 ≡ x)) d.comes.task (above.1, above.2) in
        let mode = wait_mode job t above.0 is there into.0 in
        let R : ℕ → Type 0 = λ p. HasRegistration job t p mode.mode in
        record { mode = mode.mode; on = subst R into.1 mode.on; holding = mode.waits }

    output : (j : ℕ) → j < length (task_at job.graph c).outputs
        → ParentHolds job t (as_output (j, get_or (task_at job.graph c).outputs j 0))
    output j few =
        let y = get_or (task_at job.graph c).outputs j 0 in
        let plain = plain_outputs job c (no_peer (task_at job.graph c).kind d.parent.child_kind) in
        let many : length (signalled_by (task_at job.graph c))
        ≡ length (task_at job.graph c).outputs = ap length plain in
        let place : index_in (signalled_by (task_at job.graph c)) y ≡ Some j =
        ap (λ p. index_in (signalled_by (task_at job.graph c)) p)
        (sym (ap (λ qs. get_or qs j 0) plain))
        ∙ place_of_output job.graph c (task_at job.graph c) j (is.tasks c d.there)
        (omega arith) in
        let above = parent_signals job.graph c (task_at job.graph c) d.comes.by y j d.parent
        place in
        let O : ℕ → Type 0 = λ u. index_in (signalled_by (task_at job.graph u)) y ≡ Some above.0 in
        let out : index_in (signalled_by (task_at job.graph t)) y ≡ Some above.0 =
        subst O d.comes.task above.1 in
        let at = place-at (signalled_by (task_at job.graph t)) y above.0 out in
        let mode = signal_mode job t above.0 is there at.0 in
        let R : ℕ → Type 0 = λ p. HasRegistration job t p mode.mode in
        record { mode = mode.mode; on = subst R at.1 mode.on; holding = mode.signals }

    by : (i < length (task_at job.graph c).inputs) ⊎ (length (task_at job.graph c).inputs ≤ i)
        → ParentHolds job t (get_or (registrations_at job c) i no_registration)
    by (inl few) =
        subst Holds (sym (ap (λ rs. get_or rs i no_registration) same
        ∙ end-input (task_at job.graph c) i few)) (input i few)
    by (inr from) =
        let all : length (registrations_at job c)
        ≡ length (task_at job.graph c).inputs + length (task_at job.graph c).outputs = long in
        let less : i - length (task_at job.graph c).inputs
        < length (task_at job.graph c).outputs = omega arith in
        subst Holds (sym (ap (λ rs. get_or rs i no_registration) same
        ∙ end-output (task_at job.graph c) i from less))
        (output (i - length (task_at job.graph c).inputs) less)

pub register_told : (job : Job) (m : Moment) (t c : ℕ) → IsGraph job.graph → IsReachable job m
    → Live job m t → first_due job m t ≡ Some c
    → IsTold (call_register job m t c (first_missing job m c))
register_told job m t c is reached live due =
    let d = due_child job m t c is due in by (first_missing job m c) refl d d.missing
  where
    absent : (o : Option ℕ) → not (is_some o) ≡ true → o ≡ None
    absent None e = refl
    absent (Some n) e = absurd (cc)

    -- a sink that joins now is registered as a waiter
    told : (r : Registration) (b : Bool)
        → register_refusal (m.history r.phaser) (number_on m t r.phaser)
        (greatest_used (m.history r.phaser) + 1) r.mode ≡ None → (b ≡ true → Wait ≡ r.mode)
        → IsTold (register_answer m t c r b)
    told r false accepted mode =
        let n = number_on m t r.phaser in
        let a = greatest_used (m.history r.phaser) + 1 in
        accepted_told (child t r.phaser n c a r.mode)
        (register_refusal (m.history r.phaser) n a r.mode) accepted
    told r true accepted mode =
        let n = number_on m t r.phaser in
        let a = greatest_used (m.history r.phaser) + 1 in
        accepted_told (child_now t r.phaser n c a) (register_now_refusal (m.history r.phaser) n a)
        (ap (λ x. register_refusal (m.history r.phaser) n a x) (mode refl) ∙ accepted)

    joins : (r : Registration) (i : ℕ) → i < length (registrations_at job c)
        → get_or (registrations_at job c) i no_registration ≡ r → IsDueChild job m t c
        → (task_at job.graph c).joins_now ≡ true → Wait ≡ r.mode
    joins r i lt same d now =
        sym (sink_mode job c i is d.there ((is.tasks c d.there).now now).0 lt)
        ∙ ap (λ x. x.mode) same

    by : (o : Option Registration) → first_missing job m c ≡ o → IsDueChild job m t c
        → is_some o ≡ true → IsTold (call_register job m t c o)
    by None missing d some = absurd (cc)
    by (Some r) missing d some =
        let f = find-some (λ x. not (has_registered m c x)) (registrations_at job c) r
        no_registration missing in
        let held : ParentHolds job t r =
        rw f.1.2 at (parent_holds job m t c f.1.0 is live.there d f.1.1) in
        let p = r.phaser in
        let n = number_on m t p in
        let use_of : IsFor job c r =
        rw f.1.2 at (is_for job c f.1.0 is d.there f.1.1) in
        let line = on_parents_line job m t c p is d use_of.on_line in
        let pp = on_phaser job t p is live.there line in
        let at = number_there job m t p is live line in
        let early = (reached.ran.tasks t live.there).children c p n d.comes.by d.there d.comes.is
        d.comes.task at (absent (m.number p c) f.0) use_of.on_line in
        let boundary : d.comes.by.at ≡ m.begun t = d.comes.at in
        let steps : m.begun d.comes.by.task ≡ m.begun t = ap (λ u. m.begun u) d.comes.task in
        let here : has_dropped (m.history p) n ≡ false =
        false_from_ne_true (has_dropped (m.history p) n)
        (λ gone. (let before : m.begun d.comes.by.task < d.comes.by.at = early.ended gone in
        omega arith)) in
        let e = member_on job m t p n held.mode reached live.there held.on pp at here in
        let members : length (members_of (m.history p)) ≤ length (numbers_on job m p) =
        reached.only_tasks p pp in
        let numbers : length (numbers_on job m p) ≤ length job.graph.tasks =
        numbers_few job m p in
        told r (task_at job.graph c).joins_now
        (may_register m p n held.mode r.mode e held.holding (omega (arith, is.few_tasks)))
        (joins r f.1.0 f.1.1 f.1.2 d)
