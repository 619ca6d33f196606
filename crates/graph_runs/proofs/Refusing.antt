-- What a live task's calls cannot be refused for.
use Rattle.std.proofs.Common.{◌≡◌, ℕ, ◌+◌, ◌<◌, ◌≤◌, Bool, true, false, not, ◌&&◌, cond, eqb, [], ◌∷◌, Option, Some, None, is_some, length, ℤ, refl, sym, ap, subst, ◌∙◌, arith, ◌⊎◌, inl, inr}
use Rattle.std.specs.Prelude.{nat_le, nat_lt}
use Rattle.std.proofs.lemmas.Bool.{and_right, and_cases, le-ltb, lt-leb, leb-false, not_from_true}
use Rattle.std.proofs.lemmas.Bool.Decides.{Decides-int_eq}
use Rattle.phase_base.specs.Members.{least, wait_phases}
use Rattle.phase_base.specs.Modes.{holds, mode_signals, mode_waits, is_single}
use Rattle.phase_base.specs.declared.entry.Entry.{Entry}
use Rattle.phase_base.specs.declared.limits.TheConstants.{MEMBERS_MAX, SENDS_MAX}
use Rattle.phase_base.specs.declared.mode.Mode.{Mode}
use Rattle.phase_accum.specs.declared.single.Single.{Single}
use Rattle.phase_accum.specs.declared.single.Single.TheVariants.{Neg, Abs, Halve, Clamp}
use Rattle.phase_accum.specs.Singles.{differs, is_same}
use Rattle.phase_history.specs.declared.event.Event.TheVariants.{Made, Registered, RegisteredNow, Signalled, Waited, Dropped}
use Rattle.phase_history.specs.declared.refusal.SignalRefusal.{SignalRefusal}
use Rattle.phase_history.specs.declared.refusal.SignalRefusal.TheVariants as signal
use Rattle.phase_history.specs.declared.refusal.WaitRefusal.TheVariants as wait
use Rattle.phase_history.specs.declared.refusal.RegisterRefusal.TheVariants as register
use Rattle.phase_history.specs.Histories.{History, positions_of, members_of, done_of, signal_phase, wait_phase, greatest_used}
use Rattle.phase_history.specs.Phases.{sends_of_phase, named_in_phase, first_named, is_among}
use Rattle.phase_history.specs.Refusals.{signal_refusal, register_refusal, wait_refusal, wait_rows, refusal_at, is_ahead, is_bad_block}
use Rattle.phase_base.specs.Lists.{first_row}
use Rattle.phase_base.specs.Limits.{Limits}
use Rattle.phase_history.specs.Sent.{NamesAll}
use Rattle.phase_history.proofs.Steps.{member_entry_is}
use Rattle.graph_base.specs.Graphs.{phaser_at}
use Rattle.graph_base.specs.TaskLines.{IsGraph}
use Rattle.stream_lists.specs.Jobs.{Job}
use Rattle.graph_runs.specs.Moments.{Moment, HasRun, limits_at}
use Rattle.graph_runs.specs.Nexts.{has_signaller}
use Rattle.graph_runs.proofs.TurnEntries.{IsMember, sends_few}

-- ---- singles

same-self : (single : Single) → is_same single single ≡ true
same-self Neg = refl
same-self Abs = refl
same-self Halve = refl
same-self (Clamp range) =
    let low = (Decides-int_eq range.0 range.0).1 refl in
    let high = (Decides-int_eq range.1 range.1).1 refl in
    rw low high

differs-self : (single : Option Single) → differs (Some single) single ≡ false
differs-self None = refl
differs-self (Some single) = ap not (same-self single)

-- where all signals name the same, one more that does so joins them
pub differs-none : (single : Option Single) (h : History) (s : ℕ) → NamesAll single h
    → differs (named_in_phase h s) single ≡ false
differs-none single [] s all = refl
differs-none single (Made task ∷ before) s all = differs-none single before s all
differs-none single (Registered parent child mode ∷ before) s all =
    differs-none single before s all
differs-none single (RegisteredNow parent child ∷ before) s all = differs-none single before s all
differs-none single (Waited task n ∷ before) s all = differs-none single before s all
differs-none single (Dropped task ∷ before) s all = differs-none single before s all
differs-none single (Signalled task lists named ∷ before) s all =
    first (named_in_phase before s) (is_among (signal_phase before task) (length lists) s)
    (differs-none single before s all.1)
  where
    first : (o : Option (Option Single)) (joins : Bool) → differs o single ≡ false
        → differs (first_named o joins named) single ≡ false
    first (Some x) joins e = e
    first None true e = ap (λ x. differs (Some x) single) all.0 ∙ differs-self single
    first None false e = refl

-- ---- a signal

-- it is accepted, or refused as Ahead, or as the phaser has no phase left
abbrev pub MaySignal : Option SignalRefusal → Type 0
MaySignal None = Unit {0}
MaySignal (Some signal.Ahead) = Unit {0}
MaySignal (Some signal.Spent) = Unit {0}
MaySignal (Some refusal) = ⊥

last_rows : (spent ahead : Bool)
    → MaySignal (cond spent (Some signal.Spent) (cond ahead (Some signal.Ahead) None))
last_rows true ahead = tt
last_rows false true = tt
last_rows false false = tt

signal_rows_pass : (no_signal not_single bad twice spent ahead differs full : Bool)
    → no_signal ≡ false → not_single ≡ false → bad ≡ false → twice ≡ false → differs ≡ false
    → full ≡ false
    → MaySignal (first_row ((no_signal, signal.NoSignal) ∷ (not_single, signal.NotSingle)
    ∷ (bad, signal.BadBlock) ∷ (twice, signal.SignalTwice) ∷ (spent, signal.Spent)
    ∷ (ahead, signal.Ahead) ∷ (differs, signal.SingleDiffers) ∷ (full, signal.PhaseFull) ∷ []))
signal_rows_pass no_signal not_single bad twice spent ahead differs full a b c d e f =
    rw a (rw b (rw c (rw d (rw e (rw f (last_rows spent ahead))))))

pub may_signal : (job : Job) (m : Moment) (p n : ℕ) (v : ℤ) (mode : Mode) → IsGraph job.graph
    → HasRun job m → p < length job.graph.phasers → (e : IsMember m p n mode)
    → mode_signals mode ≡ true
    → (is_some (phaser_at job.graph p).single && not (is_single mode)) ≡ false
    → (mode_waits mode && eqb e.entry.signal_phase (e.entry.wait_phase + 1)) ≡ false
    → MaySignal (signal_refusal (limits_at job p) (m.history p) n ((v ∷ []) ∷ [])
    (phaser_at job.graph p).single)
may_signal job m p n v mode is ran pp e signals named twice =
    let h = m.history p in
    let s = e.entry.signal_phase in
    let single = (phaser_at job.graph p).single in
    let slowest = is_some (least (wait_phases (members_of h))) in
    let bound : 1 ≤ (phaser_at job.graph p).bound = (is.phasers p pp).bound.0 in
    let sent : length (sends_of_phase h s) ≤ length job.graph.tasks = sends_few job m p s ran pp in
    rw (e.is) (rw e.mode_is (signal_rows_pass (not (mode_signals mode))
    (is_some single && not (is_single mode)) (is_bad_block (limits_at job p) 1)
    (mode_waits mode && eqb s (e.entry.wait_phase + 1)) (nat_le (limits_at job p).phases_max s)
    (is_ahead (least (wait_phases (members_of h))) (limits_at job p).bound s)
    (slowest && differs (named_in_phase h s) single)
    (slowest && nat_lt SENDS_MAX (length (sends_of_phase h s) + 1))
    (not_from_true (mode_signals mode) signals) named
    (le-ltb (phaser_at job.graph p).bound 1 bound) twice
    (and_right slowest (differs (named_in_phase h s) single)
    (differs-none single h s (ran.phasers p pp).names))
    (and_right slowest (nat_lt SENDS_MAX (length (sends_of_phase h s) + 1))
    (le-ltb SENDS_MAX (length (sends_of_phase h s) + 1) (omega (arith, is.few_tasks))))))

-- ---- a wait

-- it is refused as NotYet, or accepted where a phase is complete
abbrev pub WaitMay : Limits → History → ℕ → ℕ → Type 0
WaitMay limits h n steps =
    (wait_refusal limits h n steps ≡ Some wait.NotYet)
    ⊎ (wait_refusal limits h n steps ≡ None) × (wait_phase h n < done_of h)

wait_rows_pass : (no_wait bad first yet : Bool) → no_wait ≡ false → bad ≡ false → first ≡ false
    → first_row ((no_wait, wait.NoWait) ∷ (bad, wait.BadBlock) ∷ (first, wait.SignalFirst)
    ∷ (yet, wait.NotYet) ∷ []) ≡ cond yet (Some wait.NotYet) None
wait_rows_pass no_wait bad first true a b c = rw a (rw b (rw c refl))
wait_rows_pass no_wait bad first false a b c = rw a (rw b (rw c refl))

pub may_wait : (job : Job) (m : Moment) (p n steps : ℕ) (mode : Mode)
    → (e : IsMember m p n mode) → mode_waits mode ≡ true
    → is_bad_block (limits_at job p) steps ≡ false
    → (mode_signals mode && eqb e.entry.signal_phase e.entry.wait_phase) ≡ false
    → (has_signaller (m.history p) ≡ false → e.entry.wait_phase < done_of (m.history p))
    → WaitMay (limits_at job p) (m.history p) n steps
may_wait job m p n steps mode e waits good first later =
    by (nat_le (done_of h) w && has_signaller h) refl
  where
    h : History
    h = m.history p

    w : ℕ
    w = e.entry.wait_phase

    at : wait_phase h n ≡ w
    at = ap (λ (x : Entry). x.wait_phase) (member_entry_is (members_of h) n e.entry e.is)

    W : Mode → Type 0
    W x = not (mode_waits x) ≡ false

    F : Mode → Type 0
    F x = (mode_signals x && eqb e.entry.signal_phase e.entry.wait_phase) ≡ false

    rows : wait_refusal (limits_at job p) h n steps
        ≡ cond (nat_le (done_of h) w && has_signaller h) (Some wait.NotYet) None
    rows =
        ap (λ o. refusal_at o wait.NoTask (wait_rows (limits_at job p) (positions_of h) steps)) e.is
        ∙ wait_rows_pass (not (mode_waits e.entry.mode)) (is_bad_block (limits_at job p) steps)
        (mode_signals e.entry.mode && eqb e.entry.signal_phase w)
        (nat_le (done_of h) w && has_signaller h)
        (subst W (sym e.mode_is) (not_from_true (mode_waits mode) waits)) good
        (subst F (sym e.mode_is) first)

    below : (nat_le (done_of h) w ≡ false) ⊎ (has_signaller h ≡ false) → wait_phase h n < done_of h
    below (inl early) =
        omega (arith, leb-false (done_of h) w early, at)
    below (inr quiet) =
        omega (arith, later quiet, at)

    by : (b : Bool) → (nat_le (done_of h) w && has_signaller h) ≡ b
        → WaitMay (limits_at job p) h n steps
    by true yet = inl (rows ∙ ap (λ b. cond b (Some wait.NotYet) None) yet)
    by false yet =
        inr (
          rows ∙ ap (λ b. cond b (Some wait.NotYet) None) yet,
          below (and_cases (nat_le (done_of h) w) (has_signaller h) yet),
        )

-- ---- a registration

register_rows_pass : (holding old many : Bool) → holding ≡ false → old ≡ false → many ≡ false
    → first_row ((holding, register.NotAllowed) ∷ (old, register.NotNew)
    ∷ (many, register.TooManyTasks) ∷ []) ≡ None
register_rows_pass holding old many a b c = rw a (rw b (rw c refl))

-- of a new number, where there is room
pub may_register : (m : Moment) (p n : ℕ) (mode child : Mode) → (e : IsMember m p n mode)
    → holds mode child ≡ true → length (members_of (m.history p)) < MEMBERS_MAX
    → register_refusal (m.history p) n (greatest_used (m.history p) + 1) child ≡ None
may_register m p n mode child e holding room =
    let h = m.history p in
    let a = greatest_used h + 1 in
    rw (e.is) (rw e.mode_is (register_rows_pass (not (holds mode child))
    (nat_le a (greatest_used h)) (nat_le MEMBERS_MAX (length (members_of h)))
    (not_from_true (holds mode child) holding) (lt-leb a (greatest_used h) (omega arith))
    (lt-leb MEMBERS_MAX (length (members_of h)) room)))
