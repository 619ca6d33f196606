-- The turn of a task that takes no value out of range, by what a turn of these sizes did.
use Rattle.std.proofs.Common.{◌≡◌, ◌≢◌, ℕ, ℤ, List, ◌+◌, ◌≤◌, ◌||◌, Bool, true, false, cond, Option, Some, None, length, map, refl, sym, ap, subst, ◌∙◌, arith, ⊎_elim}
use Rattle.std.specs.List.{position_from}
use Rattle.std.proofs.lemmas.Bool.{cases_eq}
use Rattle.phase_history.specs.declared.refusal.SignalRefusal.{SignalRefusal}
use Rattle.phase_history.specs.declared.refusal.SignalRefusal.TheVariants as refusals
use Rattle.phase_history.specs.Histories.{greatest_used}
use Rattle.phase_history.specs.Refusals.{register_refusal, register_now_refusal, drop_refusal, signal_refusal}
use Rattle.graph_base.specs.declared.line.Kind.{Kind}
use Rattle.graph_base.specs.declared.line.Kind.TheVariants.{Source, Fir, Split, Decimate, Join, Peer, Sink}
use Rattle.graph_base.specs.declared.registration.Registration.{Registration}
use Rattle.graph_base.specs.Graphs.{task_at, phaser_at}
use Rattle.stream_lists.specs.Jobs.{Job}
use Rattle.stream_lists.specs.Ranges.{are_made, is_out_of_range}
use Rattle.graph_runs.specs.Answers.{Answer, Moved, Ended, accepted_answer, after_answer, answer_up_to, call_leave, call_register, has_made, is_blocked, is_gone, is_refused, makes, output_at, register_answer, samples_up_to, signal_answer, signal_turn, turn_up_to, was_blocked}
use Rattle.graph_runs.specs.Moments.{one, Moment, limits_at}
use Rattle.graph_runs.specs.NextBlocks.{MaySize}
use Rattle.graph_runs.specs.Nexts as nexts
use Rattle.graph_runs.specs.Nexts.{Next, at_boundary, first_due, first_kept, first_missing, first_owed, has_input_ended, is_cut, is_live, next_of, next_step, number_on, of_live, waits_first}
use Rattle.graph_runs.specs.TaskEvents as events
use Rattle.graph_runs.specs.TaskEvents.{TaskEvent, after_turn}
use Rattle.stream_job.specs.InRange.{HasGone, HasMoved, HasStayed, IsGoodSize, TellsNoFault, is_blocked_before, is_no_fault, went_by}
use Rattle.stream_job.specs.Machines.{IsMachine, IsMachineAt, KeepsLines, most_in}
use Rattle.stream_job.specs.Places.{place_in_state}
use Rattle.stream_job.specs.Stepping.{IsNextIn, is_at_rest, would_block}
use Rattle.stream_job.specs.Turning.{HadTurn, HadTurnBy, MadeShows, turn_in}
use Rattle.stream_job.specs.declared.machine.Machine.{Machine}
use Rattle.stream_job.specs.declared.made.Made.{Made}
use Rattle.stream_job.specs.declared.made.Made.TheVariants as made
use Rattle.stream_job.specs.declared.turned.Turned.{Turned}
use Rattle.stream_job.proofs.Lively.{live_next}
use Rattle.stream_job.proofs.Mosts.{element, stands_in}
use Rattle.stream_job.proofs.Stalling.{all_blocks}
use Rattle.graph_runs.proofs.Signalling.{live-is}

-- ---- who tells no value out of range

signals_none : (job : Job) (m : Moment) (event : TaskEvent) (o : Option SignalRefusal)
    → TellsNoFault job m (makes event) → TellsNoFault job m (signal_answer event o)
signals_none job m event None quiet = quiet
signals_none job m event (Some refusals.NoTask) quiet = refl
signals_none job m event (Some refusals.NoSignal) quiet = refl
signals_none job m event (Some refusals.NotSingle) quiet = refl
signals_none job m event (Some refusals.SignalTwice) quiet = refl
signals_none job m event (Some refusals.Spent) quiet = refl
signals_none job m event (Some refusals.Ahead) quiet = refl
signals_none job m event (Some refusals.SingleDiffers) quiet = refl
signals_none job m event (Some refusals.PhaseFull) quiet = refl
signals_none job m event (Some refusals.BadBlock) quiet = refl

-- values that are none that a task has made, or are in range
pub turn_none : (job : Job) (m : Moment) (t j : ℕ) (vs : List ℤ) (event : TaskEvent)
    → (are_made (task_at job.graph t).kind j ≡ true
    → position_from is_out_of_range (length (m.put t j)) vs ≡ None)
    → TellsNoFault job m (makes event) → TellsNoFault job m (signal_turn job m t j vs event)
turn_none job m t j vs event good quiet =
    by (position_from is_out_of_range (length (m.put t j)) vs) refl
    (are_made (task_at job.graph t).kind j) refl
  where
    by : (o : Option ℕ) → position_from is_out_of_range (length (m.put t j)) vs ≡ o → (b : Bool)
        → are_made (task_at job.graph t).kind j ≡ b
        → TellsNoFault job m (signal_turn job m t j vs event)
    by None e b made =
        rw e (signals_none job m event (signal_refusal (limits_at job (output_at job t j))
        (m.history (output_at job t j)) (number_on m t (output_at job t j)) (map one vs)
        (phaser_at job.graph (output_at job t j)).single) quiet)
    by (Some step) e true made =
        absurd (let wrong : None ≡ Some step = sym (good made) ∙ e in cc)
    by (Some step) e false made = rw e (rw made refl)

accepted_none : {R : Type 0} (job : Job) (m : Moment) (event : TaskEvent) (o : Option R)
    → TellsNoFault job m (makes event) → TellsNoFault job m (accepted_answer event o)
accepted_none job m event None quiet = quiet
accepted_none job m event (Some refusal) quiet = refl

-- a registration
register_none : (job : Job) (m : Moment) (t c : ℕ) (o : Option Registration)
    → TellsNoFault job m (call_register job m t c o)
register_none job m t c None = refl
register_none job m t c (Some r) = of (task_at job.graph c).joins_now
  where
    of : (b : Bool) → TellsNoFault job m (register_answer m t c r b)
    of true =
        let n = number_on m t r.phaser in
        let a = greatest_used (m.history r.phaser) + 1 in
        accepted_none job m (events.child_now t r.phaser n c a)
        (register_now_refusal (m.history r.phaser) n a) refl
    of false =
        let n = number_on m t r.phaser in
        let a = greatest_used (m.history r.phaser) + 1 in
        accepted_none job m (events.child t r.phaser n c a r.mode)
        (register_refusal (m.history r.phaser) n a r.mode) refl

-- a drop
leave_none : (job : Job) (m : Moment) (t : ℕ) (o : Option Registration)
    → TellsNoFault job m (call_leave m t o)
leave_none job m t None = refl
leave_none job m t (Some r) =
    accepted_none job m (events.leave t r.phaser (number_on m t r.phaser))
    (drop_refusal (m.history r.phaser) (number_on m t r.phaser))
    (by (is_live job (after_turn job (events.leave t r.phaser (number_on m t r.phaser)) m) t))
  where
    by : (b : Bool) → is_no_fault (Some (cond b Moved Ended)) ≡ true
    by true = refl
    by false = refl

-- a call that is no wait, and no signal of what the task has made
abbrev pub IsQuiet : Job → ℕ → Next → Type 0
IsQuiet job t (nexts.registers c) = Unit {0}
IsQuiet job t nexts.leaves = Unit {0}
IsQuiet job t nexts.samples = (task_at job.graph t).kind ≡ Source
IsQuiet job t next = ⊥

pub quiet_none : (steps most : ℕ) (job : Job) (m : Moment) (t : ℕ) (next : Next)
    → IsQuiet job t next → TellsNoFault job m (answer_up_to steps most job m t next)
quiet_none steps most job m t (nexts.registers c) quiet =
    register_none job m t c (first_missing job m c)
quiet_none steps most job m t nexts.leaves quiet = leave_none job m t (first_kept job m t)
quiet_none steps most job m t nexts.samples source =
    let p = output_at job t 0 in
    let vs = samples_up_to steps job m t in
    turn_none job m t 0 vs (events.sample t 0 p (number_on m t p) vs)
    (λ made. absurd (let wrong : false ≡ true =
    sym (ap (λ kind. are_made kind 0) source) ∙ made in cc)) refl
quiet_none steps most job m t nexts.is_not_live quiet = absurd quiet
quiet_none steps most job m t (nexts.signals j) quiet = absurd quiet
quiet_none steps most job m t (nexts.waits k) quiet = absurd quiet
quiet_none steps most job m t nexts.exchanges quiet = absurd quiet

-- ---- what the machine did

-- a turn that made an event, and told no value out of range
pub had_moved : {steps most : ℕ} (job : Job) (old new : Machine) (t p : ℕ) (told : Turned)
    → MaySize job.graph t steps most
    → HadTurnBy steps most job old new t (made.Event p told)
    → ((m : Moment) → IsMachineAt job m old → TellsNoFault job m (turn_up_to steps most job m t))
    → HasMoved job old new t
had_moved {steps} {most} job old new t p told sized had none = record {
  steps = steps;
  most = most;
  sized = sized;
  moves = λ m at. event_of m (turn_up_to steps most job m t) (had.shows m at);
  good = λ m there at told.
      (let wrong : false ≡ true = sym (ap is_no_fault told) ∙ none m at in cc);
  after = had.after;
  lines = had.lines;
  own = had.own;
}
  where
    event_of : (m : Moment) (answer : Answer) → MadeShows job m t answer (made.Event p told)
        → (event : TaskEvent) × (answer ≡ makes event)
    event_of m (makes event) shows = (event, refl)
    event_of m is_blocked shows = absurd shows
    event_of m is_gone shows = absurd shows
    event_of m (has_made at) shows = absurd shows
    event_of m is_refused shows = absurd shows

-- what the answer of a blocked turn is
pub blocked_is : (job : Job) (m : Moment) (t p : ℕ) (answer : Answer)
    → MadeShows job m t answer (made.Blocked p) → answer ≡ is_blocked
blocked_is job m t p (makes event) shows = absurd shows
blocked_is job m t p is_blocked shows = refl
blocked_is job m t p is_gone shows = absurd shows
blocked_is job m t p (has_made at) shows = absurd shows
blocked_is job m t p is_refused shows = absurd shows

or_left : (a b : Bool) → a ≡ true → (a || b) ≡ true
or_left true b e = refl
or_left false b e = absurd (let wrong : false ≡ true = e in cc)

-- a task whose turn of a block of its line would be blocked is at rest
pub at_rest_by : (job : Job) (old : Machine) (m : Moment) (t : ℕ) → IsMachineAt job m old
    → turn_in (task_at job.graph t).block job old m t ≡ is_blocked → is_at_rest job m t ≡ true
at_rest_by job old m t at blocked = by (next_of job m t) refl
  where
    live : (next : Next) → next_of job m t ≡ next → next ≢ nexts.is_not_live
        → is_live job m t ≡ true
    live next is not = live_next job m t next is not

    rest : (next : Next) → next_of job m t ≡ next → next ≢ nexts.is_not_live
        → would_block job m t next ≡ true → is_at_rest job m t ≡ true
    rest next is not blocks =
        ap (λ b. cond b (would_block job m t (next_of job m t)) true) (live next is not)
        ∙ ap (would_block job m t) is ∙ blocks

    answer : (next : Next) → next_of job m t ≡ next
        → answer_up_to (task_at job.graph t).block (most_in old t) job m t next ≡ is_blocked
    answer next is =
        sym (ap (answer_up_to (task_at job.graph t).block (most_in old t) job m t) is) ∙ blocked

    by : (next : Next) → next_of job m t ≡ next → is_at_rest job m t ≡ true
    by nexts.is_not_live is =
        absurd (let wrong : is_gone ≡ is_blocked = answer nexts.is_not_live is in cc)
    by (nexts.registers c) is =
        rest (nexts.registers c) is (λ e. (cc)) (ap was_blocked (answer (nexts.registers c) is))
    by nexts.leaves is = rest nexts.leaves is (λ e. (cc)) (ap was_blocked (answer nexts.leaves is))
    by nexts.samples is =
        rest nexts.samples is (λ e. (cc)) (ap was_blocked (answer nexts.samples is))
    by (nexts.signals j) is =
        let there = (live-is job m t (live (nexts.signals j) is (λ e. (cc)))).there in
        let many = at.tasks_many in
        let some = element old.tasks.items t (omega arith) in
        rest (nexts.signals j) is (λ e. (cc))
        (all_blocks (most_in old t) job m t j (place_in_state some.0)
        (stands_in job old m t some.0 at some.1) is ∙ ap was_blocked (answer (nexts.signals j) is))
    by (nexts.waits k) is =
        rest (nexts.waits k) is (λ e. (cc)) (ap was_blocked (answer (nexts.waits k) is))
    by nexts.exchanges is =
        rest nexts.exchanges is (λ e. (cc)) (ap was_blocked (answer nexts.exchanges is))

-- a turn that was blocked
pub had_stayed : {steps : ℕ} (job : Job) (old new : Machine) (t p : ℕ)
    → HadTurn steps job old new t (made.Blocked p) → HasStayed steps job old new t
had_stayed {steps} job old new t p had = record {
  held = λ line m at. or_left (is_at_rest job m t) (is_blocked_before job m t)
      (at_rest_by job old m t at (subst (λ n. turn_in n job old m t ≡ is_blocked) line
      (blocked m at)));
  stands = λ m at none. subst (λ a. IsMachineAt job (after_answer job a m) new) (blocked m at)
      (had.after m at none);
  lines = λ given m at none kept.
      subst (λ a. KeepsLines job given (after_answer job a m) new.lines.items) (blocked m at)
      (had.lines given m at none kept);
  own = had.own;
}
  where
    blocked : (m : Moment) → IsMachineAt job m old → turn_in steps job old m t ≡ is_blocked
    blocked m at = blocked_is job m t p (turn_in steps job old m t) (had.shows m at)

-- ---- a task that is not live

not_live : (job : Job) (m : Moment) (t : ℕ) → next_of job m t ≡ nexts.is_not_live
    → is_live job m t ≡ false
not_live job m t is = by (is_live job m t) refl
  where
    step : (kind : Kind) → next_step (task_at job.graph t) (m.begun t) kind ≢ nexts.is_not_live
    step Source = λ e. (cc)
    step Fir = λ e. (cc)
    step Split = λ e. (cc)
    step Decimate = λ e. (cc)
    step Join = λ e. (cc)
    step Peer = λ e. (cc)
    step Sink = λ e. (cc)

    rest : (b : Bool) → cond b nexts.leaves (next_step (task_at job.graph t) (m.begun t)
        (task_at job.graph t).kind) ≢ nexts.is_not_live
    rest true = λ e. (cc)
    rest false = step (task_at job.graph t).kind

    put : (j : ℕ) (b : Bool) → cond b nexts.exchanges (nexts.signals j) ≢ nexts.is_not_live
    put j true = λ e. (cc)
    put j false = λ e. (cc)

    boundary : (due : Option ℕ) → at_boundary job m t due ≢ nexts.is_not_live
    boundary (Some c) = λ e. (cc)
    boundary None =
        rest (is_cut (task_at job.graph t).until (m.begun t)
        || has_input_ended job m t (task_at job.graph t).kind)

    live : (owed : Option ℕ) → of_live job m t owed ≢ nexts.is_not_live
    live (Some j) =
        put j (waits_first (task_at job.graph t).kind j (length (m.put t j)) (length (m.taken t 1)))
    live None = boundary (first_due job m t)

    by : (b : Bool) → is_live job m t ≡ b → is_live job m t ≡ false
    by false e = e
    by true e =
        absurd (live (first_owed job m t)
        (sym (ap (λ b. cond b (of_live job m t (first_owed job m t)) nexts.is_not_live) e) ∙ is))

pub gone_stays : {steps : ℕ} (job : Job) (old : Machine) (t : ℕ)
    → ((m : Moment) → IsMachineAt job m old → next_of job m t ≡ nexts.is_not_live)
    → HasStayed steps job old old t
gone_stays job old t gone = record {
  held = λ line m at. or_left (is_at_rest job m t) (is_blocked_before job m t)
      (ap (λ b. cond b (would_block job m t (next_of job m t)) true)
      (not_live job m t (gone m at)));
  stands = λ m at none. at;
  lines = λ given m at none kept. kept;
  own = λ room all. all;
}

-- a turn that tells no value out of range met none, and its task was live
pub never_out : {steps most : ℕ} (job : Job) (old new : Machine) (t step : ℕ) → IsMachine job old
    → HadTurnBy steps most job old new t (made.OutOfRange step)
    → ((m : Moment) → IsMachineAt job m old → TellsNoFault job m (turn_up_to steps most job m t)) → ⊥
never_out {steps} {most} job old new t step some had none =
    by (turn_up_to steps most job some.0 t) (had.shows some.0 some.1) (none some.0 some.1)
  where
    by : (answer : Answer) → MadeShows job some.0 t answer (made.OutOfRange step)
        → TellsNoFault job some.0 answer → ⊥
    by (makes event) shows quiet = shows
    by is_blocked shows quiet = shows
    by is_gone shows quiet = shows
    by (has_made at) shows quiet = (let wrong : false ≡ true = quiet in cc)
    by is_refused shows quiet = shows

pub never_gone : {steps most : ℕ} (job : Job) (old new : Machine) (t : ℕ) → IsMachine job old
    → HadTurnBy steps most job old new t made.Nothing
    → ((m : Moment) → IsMachineAt job m old → TellsNoFault job m (turn_up_to steps most job m t)) → ⊥
never_gone {steps} {most} job old new t some had none =
    by (turn_up_to steps most job some.0 t) (had.shows some.0 some.1) (none some.0 some.1)
  where
    by : (answer : Answer) → MadeShows job some.0 t answer made.Nothing
        → TellsNoFault job some.0 answer → ⊥
    by (makes event) shows quiet = shows
    by is_blocked shows quiet = shows
    by is_gone shows quiet = (let wrong : false ≡ true = quiet in cc)
    by (has_made at) shows quiet = shows
    by is_refused shows quiet = shows

-- a turn of a size that tells no value out of range
pub had_sized : {steps n : ℕ} (job : Job) (old new : Machine) (t : ℕ) (it : Made)
    → IsGoodSize steps n job old t → MaySize job.graph t n (most_in old t) → IsMachine job old
    → HadTurn n job old new t it → HasGone steps job old new t (went_by it)
had_sized job old new t (made.Event p told) size sized some had =
    had_moved job old new t p told sized had size.good
had_sized {steps} {n} job old new t (made.Blocked p) size sized some had =
    ⊎_elim
    (λ (same : n ≡ steps). subst (λ k. HasStayed k job old new t) same
    (had_stayed job old new t p had))
    (λ (apart : n ≢ steps).
    let makes_it = size.makes apart some.0 some.1 in
    absurd (subst (λ a. MadeShows job some.0 t a (made.Blocked p)) makes_it.1
    (had.shows some.0 some.1))) (cases_eq n steps)
had_sized job old new t (made.OutOfRange step) size sized some had =
    absurd (never_out job old new t step some had size.good)
had_sized job old new t made.Nothing size sized some had =
    absurd (never_gone job old new t some had size.good)

-- all steps that a task may make are a size, where they tell no value out of range
pub all_steps : {steps : ℕ} (job : Job) (old : Machine) (t : ℕ) → 1 ≤ steps
    → ((m : Moment) → IsMachineAt job m old → TellsNoFault job m (turn_in steps job old m t))
    → IsGoodSize steps steps job old t
all_steps job old t some good = record {
  some = some;
  few = omega arith;
  good = good;
  makes = λ apart. absurd (apart refl);
  room = λ m at room. room;
}

-- they are where the call is quiet
pub quiet_steps : {steps : ℕ} (job : Job) (old : Machine) (t : ℕ) (next : Next)
    → IsNextIn steps job old t next → IsQuiet job t next → 1 ≤ steps
    → IsGoodSize steps steps job old t
quiet_steps {steps} job old t next is quiet some =
    all_steps job old t some
    (λ m at. subst (λ n. TellsNoFault job m (answer_up_to steps (most_in old t) job m t n))
    (sym (is.is m at)) (quiet_none steps (most_in old t) job m t next quiet))
