-- The turns of a run that is fed: what a stream stands for after one.
use Rattle.std.proofs.Common.{◌≡◌, ℕ, ℤ, List, ◌+◌, ◌≤◌, ◌&&◌, ◌++◌, ◌∷◌, [], Bool, true, false, cond, eqb, not, Option, Some, None, length, slice_get, refl, sym, ap, subst, ◌∙◌, arith}
use Rattle.std.specs.Prelude.{slice_range, vec_capacity, vec_len}
use Rattle.std.proofs.Math.Bool.{and-true}
use Rattle.std.specs.List.{All}
use Rattle.std.proofs.lemmas.Bool.{eqb-true}
use Rattle.std.proofs.lemmas.List.Elements.{All-append, All-nil}
use Rattle.std.proofs.lemmas.Option.{same_Some}
use Rattle.phase_history.specs.Histories.{greatest_used}
use Rattle.phase_history.specs.Phases.{stream_of}
use Rattle.phase_history.specs.Refusals.{register_refusal, register_now_refusal, drop_refusal}
use Rattle.graph_base.specs.declared.line.Kind.{Kind}
use Rattle.graph_base.specs.declared.registration.Registration.{Registration}
use Rattle.graph_base.specs.Graphs.{task_at}
use Rattle.stream_lists.specs.Jobs.{Job, samples_in, with_samples}
use Rattle.stream_eval.specs.declared.whole.Lines.{Lines}
use Rattle.graph_runs.specs.Answers.{Answer, makes, is_blocked, is_gone, has_made, is_refused, after_answer, call_leave, call_register, output_at, register_answer, answer_up_to, samples_up_to, turn_up_to, values_up_to}
use Rattle.graph_runs.specs.Feeds.{IsOpenAt, NotStarved, is_starved}
use Rattle.graph_runs.specs.Moments.{Moment, HasRun, HasSamples, input_at, value_at}
use Rattle.graph_runs.specs.Moves.{further}
use Rattle.graph_runs.specs.NextBlocks.{MaySize, block_up_to}
use Rattle.graph_runs.specs.Nexts as nexts
use Rattle.graph_runs.specs.Nexts.{Next, first_kept, first_missing, is_live, next_of, number_on}
use Rattle.graph_runs.specs.TaskEvents as events
use Rattle.graph_runs.specs.TaskEvents.{TaskEvent, IsNext, after_turn}
use Rattle.graph_runs.proofs.AnsweredInTurn.{turn_answers_none}
use Rattle.graph_runs.proofs.Calling.{accepted, answered, answered_all}
use Rattle.graph_runs.proofs.Nexts.{further-length}
use Rattle.graph_runs.proofs.Signalling.{signalled}
use Rattle.graph_runs.proofs.Turning.{turn_makes_next}
use Rattle.stream_job.specs.Stepping.{HasRoomNext, MayStep}
use Rattle.stream_job.specs.Machines.{IsMachineAt}
use Rattle.stream_job.specs.InRange.{HasMoved, HasStayed}
use Rattle.stream_job.specs.Streams.{AreKept, StreamGoesOn, IsStreamAt, InputKeeps, MayTurn, SizedTurn, StreamMoves, StreamState, after_sized, ended_at, is_hungry, moves_in}
use Rattle.stream_job.specs.declared.input.Input.{Input}
use Rattle.stream_job.specs.declared.machine.Machine.{Machine}
use Rattle.stream_job.specs.declared.task_state.TaskState.{TaskState}
use Rattle.stream_job.proofs.Makes.{makes_event}
use Rattle.stream_job.proofs.Stopping.{with_samples_lines, without_samples_lines}

-- ---- room

-- where the line has room for a block there is room for what the turn gets
pub has_room_by : (steps : ℕ) (job : Job) (machine : Machine) (m : Moment) (t block : ℕ)
    (state : TaskState) (line : Lines) → MayStep job machine t steps → IsMachineAt job m machine → slice_get machine.tasks.items t ≡ Some state
    → slice_get machine.lines.items state.sink ≡ Some line
    → (m.begun t ≡ state.begun → block_up_to steps job m t ≡ block)
    → vec_len line.values + block ≤ vec_capacity line.values → HasRoomNext steps job machine t
has_room_by steps job machine m t block state line sized at found read blocks room = (
  m,
  at,
  λ k p n outcomes state' next answer found' sink line' read'.
      (let same : state ≡ state' = same_Some state state' (sym found ∙ found') in
      let there : slice_get machine.lines.items state.sink ≡ Some line' =
      ap (λ x. slice_get machine.lines.items x.sink) same ∙ read' in
      let one : line ≡ line' = same_Some line line' (sym read ∙ there) in
      let few : length outcomes ≤ block_up_to steps job m t =
      (makes_event job m t (events.first_wait t k p n outcomes) sized at.graph at.reached answer).owes.1 in
      let most : block_up_to steps job m t ≡ block = blocks (at.tasks t state found).stands.begun in
      let P : Lines → Type 0 = λ l. vec_len l.values + length outcomes ≤ vec_capacity l.values in
      subst P one (omega arith)),
)

-- ---- open sources

-- an event that no leave is lets no source leave
none_starves : (job : Job) (ended : ℕ → Bool) (m : Moment) (made event : TaskEvent)
    → made ≡ event → NotStarved job ended m made → NotStarved job ended m event
none_starves job ended m made event same none = subst (NotStarved job ended m) same none

registering : (steps most : ℕ) (job : Job) (ended : ℕ → Bool) (m : Moment) (t c : ℕ) (event : TaskEvent)
    → answer_up_to steps most job m t (nexts.registers c) ≡ makes event → NotStarved job ended m event
registering steps most job ended m t c event e = by (first_missing job m c) e
  where
    by : (o : Option Registration) → call_register job m t c o ≡ makes event
        → NotStarved job ended m event
    by None e = absurd (cc)
    by (Some r) e = of (task_at job.graph c).joins_now e
      where
        of : (b : Bool) → register_answer m t c r b ≡ makes event → NotStarved job ended m event
        of true e =
            let n = number_on m t r.phaser in
            let a = greatest_used (m.history r.phaser) + 1 in
            none_starves job ended m (events.child_now t r.phaser n c a) event
            (accepted (events.child_now t r.phaser n c a) event
            (register_now_refusal (m.history r.phaser) n a) e).1 tt
        of false e =
            let n = number_on m t r.phaser in
            let a = greatest_used (m.history r.phaser) + 1 in
            none_starves job ended m (events.child t r.phaser n c a r.mode) event
            (accepted (events.child t r.phaser n c a r.mode) event
            (register_refusal (m.history r.phaser) n a r.mode) e).1 tt

leaving : (steps most : ℕ) (job : Job) (ended : ℕ → Bool) (m : Moment) (t : ℕ) (event : TaskEvent)
    → (is_starved job m t && not (ended t)) ≡ false
    → answer_up_to steps most job m t nexts.leaves ≡ makes event → NotStarved job ended m event
leaving steps most job ended m t event fed e = by (first_kept job m t) e
  where
    by : (o : Option Registration) → call_leave m t o ≡ makes event → NotStarved job ended m event
    by None e = absurd (cc)
    by (Some r) e =
        let made = events.leave t r.phaser (number_on m t r.phaser) in
        none_starves job ended m made event
        (accepted made event (drop_refusal (m.history r.phaser) (number_on m t r.phaser)) e).1
        (λ still. sym (and-true (is_starved job m t))
        ∙ ap (λ b. is_starved job m t && not b) (sym still) ∙ fed)

-- nor does a turn, where no starved source that has not ended leaves next
not_starved : (steps most : ℕ) (job : Job) (ended : ℕ → Bool) (m : Moment) (t : ℕ) (next : Next) (event : TaskEvent)
    → (next ≡ nexts.leaves → (is_starved job m t && not (ended t)) ≡ false)
    → answer_up_to steps most job m t next ≡ makes event → NotStarved job ended m event
not_starved steps most job ended m t nexts.is_not_live event fed e = absurd (cc)
not_starved steps most job ended m t (nexts.registers c) event fed e = registering steps most job ended m t c event e
not_starved steps most job ended m t nexts.leaves event fed e = leaving steps most job ended m t event (fed refl) e
not_starved steps most job ended m t nexts.samples event fed e =
    let p = output_at job t 0 in
    let vs = samples_up_to steps job m t in
    let made = events.sample t 0 p (number_on m t p) vs in
    none_starves job ended m made event (signalled job m t 0 vs made event e).2 tt
not_starved steps most job ended m t (nexts.signals j) event fed e =
    let p = output_at job t j in
    let vs = values_up_to most job m t j in
    let made = events.signal t j p (number_on m t p) vs in
    none_starves job ended m made event (signalled job m t j vs made event e).2 tt
not_starved steps most job ended m t (nexts.waits k) event fed e =
    let p = input_at (task_at job.graph t) k in
    let made = events.first_wait t k p (number_on m t p) in
    let a = answered_all job m t p (block_up_to steps job m t) made event e in
    none_starves job ended m
    (made (slice_range (stream_of (value_at job p) (m.history p)) a.phase (a.phase + a.count)))
    event a.is tt
not_starved steps most job ended m t nexts.exchanges event fed e =
    let p = input_at (task_at job.graph t) 1 in
    let a = answered job m t p (events.exchange_wait t p (number_on m t p)) event e in
    none_starves job ended m (events.exchange_wait t p (number_on m t p) a.outcome) event a.is tt

-- a task that is not hungry is none
fed_by : (job : Job) (ended : ℕ → Bool) (m : Moment) (t : ℕ) → is_hungry job ended m t ≡ false
    → next_of job m t ≡ nexts.leaves → (is_starved job m t && not (ended t)) ≡ false
fed_by job ended m t none next = by (is_starved job m t && not (ended t)) refl
  where
    by : (b : Bool) → (is_starved job m t && not (ended t)) ≡ b
        → (is_starved job m t && not (ended t)) ≡ false
    by false e = e
    by true e =
        absurd (let hungry : is_hungry job ended m t ≡ true = rw next (rw e refl) in
        let wrong : true ≡ false = sym hungry ∙ none in cc)

-- no source but one that has ended has left after a turn of a task that is not hungry
pub turn_opens : {steps most : ℕ} (job : Job) (ended : ℕ → Bool) (m : Moment) (machine : Machine)
    (t : ℕ) → MaySize job.graph t steps most → ((event : TaskEvent) → IsNext job m event → NotStarved job ended m event
    → IsOpenAt job ended (after_turn job event m))
    → IsMachineAt job m machine → is_hungry job ended m t ≡ false → IsOpenAt job ended m
    → IsOpenAt job ended (after_answer job (turn_up_to steps most job m t) m)
turn_opens {steps} {most} job ended m machine t sized law at none opens = by (turn_up_to steps most job m t) refl
  where
    by : (answer : Answer) → turn_up_to steps most job m t ≡ answer
        → IsOpenAt job ended (after_answer job answer m)
    by (makes event) e =
        law event
        (turn_makes_next steps most job m t event sized at.graph at.reached.ran (λ c due. at.reached.to_come) e)
        (not_starved steps most job ended m t (next_of job m t) event (fed_by job ended m t none) e)
    by is_blocked e = opens
    by is_gone e = opens
    by (has_made where_is) e = opens
    by is_refused e = opens

-- ---- samples

grows : {X : Type 0} (n : ℕ) (xs : List X) → n ≤ further n xs
grows n xs = let long = further-length n xs in omega arith

-- no event takes back a step
set_further : (t u n : ℕ) (f : ℕ → ℕ) → f t ≤ n → f u ≤ cond (eqb u t) n (f u)
set_further t u n f le = by (eqb u t) refl
  where
    by : (b : Bool) → eqb u t ≡ b → f u ≤ cond b n (f u)
    by true e =
        let same : f u ≡ f t = ap f (eqb-true u t e) in omega arith
    by false e = omega arith

begun_further : (job : Job) (m : Moment) (event : TaskEvent) (u : ℕ)
    → m.begun u ≤ (after_turn job event m).begun u
begun_further job m (events.sample t j p n vs) u =
    set_further t u (further (m.begun t) vs) m.begun (grows (m.begun t) vs)
begun_further job m (events.signal t j p n vs) u =
    set_further t u (m.begun t) m.begun (omega arith)
begun_further job m (events.first_wait t k p n outcomes) u =
    set_further t u (further (m.begun t) outcomes) m.begun (grows (m.begun t) outcomes)
begun_further job m (events.exchange_wait t p n outcome) u =
    set_further t u (m.begun t) m.begun (omega arith)
begun_further job m (events.leave t p n) u = omega arith
begun_further job m (events.child t p n c a mode) u = omega arith
begun_further job m (events.child_now t p n c a) u = omega arith

answer_further : (job : Job) (m : Moment) (answer : Answer) (u : ℕ)
    → m.begun u ≤ (after_answer job answer m).begun u
answer_further job m (makes event) u = begun_further job m event u
answer_further job m is_blocked u = omega arith
answer_further job m is_gone u = omega arith
answer_further job m (has_made there) u = omega arith
answer_further job m is_refused u = omega arith

-- an input keeps as much after a turn
pub kept_after : (job : Job) (s : List (List ℤ)) (m : Moment) (answer : Answer)
    (inputs : List Input)
    → HasRun (with_samples s job) (after_answer (with_samples s job) answer m)
    → AreKept job s m inputs → AreKept job s (after_answer (with_samples s job) answer m) inputs
kept_after job s m answer inputs ran kept = λ t input there kind found.
    (let was : InputKeeps input (m.begun t) (samples_in job s t) = kept t input there kind found in
    let after = after_answer (with_samples s job) answer m in
    let grown : m.begun t ≤ after.begun t = answer_further (with_samples s job) m answer t in
    let early : input.from ≤ m.begun t = was.early in
    let P : Kind → Type 0 = λ k. HasSamples k (after.begun t) (length (samples_in job s t)) in
    record {
      early = omega arith;
      kept = was.kept;
      sends = was.sends;
      few = was.few;
      begun_few = subst P kind (ran.tasks t there).samples;
    })

-- ---- the stream

-- what a stream stands for after a turn of a task that is not hungry, which made an event and took no
-- value out of range
pub moved_stands : (old : StreamState) (new : Machine) (s : List (List ℤ)) (m : Moment)
    (given : ℕ → List ℤ) (t : ℕ)
    → ((event : TaskEvent) → IsNext (with_samples s old.job) m event
    → NotStarved (with_samples s old.job) (ended_at old) m event
    → IsOpenAt (with_samples s old.job) (ended_at old)
    (after_turn (with_samples s old.job) event m))
    → old.met ≡ None → is_hungry (with_samples s old.job) (ended_at old) m t ≡ false
    → (moved : HasMoved (with_samples s old.job) old.machine new t) → IsStreamAt old s m given
    → IsStreamAt record { job = old.job; machine = new; inputs = old.inputs; met = old.met } s
    (after_answer (with_samples s old.job)
    (turn_up_to moved.steps moved.most (with_samples s old.job) m t) m) given
moved_stands old new s m given t law none fed moved at =
    let job = with_samples s old.job in
    let answer = turn_up_to moved.steps moved.most job m t in
    let now = after_answer job answer m in
    let after : IsMachineAt job now new = moved.after m at.machine at.none in
    record {
      each = at.each;
      machine = after;
      lines = without_samples_lines s old.job given now new.lines.items
          (moved.lines given m at.machine at.none
          (with_samples_lines s old.job given m old.machine.lines.items at.lines));
      kept = kept_after old.job s m answer old.inputs after.reached.ran at.kept;
      stays_open = turn_opens job (ended_at old) m old.machine t moved.sized law at.machine fed
          at.stays_open;
      none = turn_answers_none moved.steps moved.most job m t moved.sized at.machine.graph
          at.machine.reached at.none (λ there told. moved.good m there at.machine told);
      faults = λ there more is goes ready.
          absurd (let wrong : None ≡ Some there = sym none ∙ is in cc);
    }

-- and after one that made none
pub stayed_stands : {steps : ℕ} (old : StreamState) (new : Machine) (s : List (List ℤ)) (m : Moment)
    (given : ℕ → List ℤ) (t : ℕ)
    → (stayed : HasStayed steps (with_samples s old.job) old.machine new t)
    → IsStreamAt old s m given
    → IsStreamAt record { job = old.job; machine = new; inputs = old.inputs; met = old.met } s m
    given
stayed_stands old new s m given t stayed at = record {
  each = at.each;
  machine = stayed.stands m at.machine at.none;
  lines = without_samples_lines s old.job given m new.lines.items
      (stayed.lines given m at.machine at.none
      (with_samples_lines s old.job given m old.machine.lines.items at.lines));
  kept = at.kept;
  stays_open = at.stays_open;
  none = at.none;
  faults = at.faults;
}

-- ---- turns one after the other

pub turns_twice : (job : Job) (m : Moment) (ts us : List SizedTurn)
    → after_sized job m (ts ++ us) ≡ after_sized job (after_sized job m ts) us
turns_twice job m [] us = refl
turns_twice job m (t ∷ ts) us =
    turns_twice job (after_answer job (turn_up_to t.steps t.most job m t.task) m) ts us

moves_twice : (job : Job) (m : Moment) (ts us : List SizedTurn)
    → moves_in job m (ts ++ us) ≡ moves_in job m ts + moves_in job (after_sized job m ts) us
moves_twice job m [] us = omega arith
moves_twice job m (t ∷ ts) us =
    let answer = turn_up_to t.steps t.most job m t.task in
    let rest = moves_twice job (after_answer job answer m) ts us in
    omega arith

pub moves_none : (stream : StreamState) → StreamMoves 0 stream stream
moves_none stream = record {
  later = λ s m given at. ([], All-nil (MayTurn stream.job), omega arith, at);
  job = refl;
  inputs = refl;
}

pub moves_on : (n k : ℕ) (a b c : StreamState) → StreamMoves n a b → StreamMoves k b c
    → StreamMoves (n + k) a c
moves_on n k a b c first then = record {
  later = λ s m given at.
      (let one = first.later s m given at in
      let job = with_samples s a.job in
      let middle = after_sized job m one.0 in
      let two = then.later s middle given one.3 in
      let same : b.job ≡ a.job = first.job in
      let P : Job → Type 0 = λ j.
      IsStreamAt c s (after_sized (with_samples s j) middle two.0) given in
      let more : k ≤ moves_in job middle two.0 =
      subst (λ j. k ≤ moves_in (with_samples s j) middle two.0) same two.2 in
      let some : n ≤ moves_in job m one.0 = one.2 in
      let all = moves_twice job m one.0 two.0 in (
        one.0 ++ two.0,
        All-append (MayTurn a.job) one.0 two.0 one.1
            (subst (λ j. All (MayTurn j) two.0) same two.1),
        omega arith,
        subst (λ now. IsStreamAt c s now given) (sym (turns_twice job m one.0 two.0))
            (subst P same two.3),
      ));
  job = then.job ∙ first.job;
  inputs = then.inputs ∙ first.inputs;
}

pub moves_less : (n k : ℕ) (a b : StreamState) → k ≤ n → StreamMoves n a b → StreamMoves k a b
moves_less n k a b le moves = record {
  later = λ s m given at.
      (let one = moves.later s m given at in
      let some : n ≤ moves_in (with_samples s a.job) m one.0 = one.2 in
      (one.0, one.1, omega arith, one.3));
  job = moves.job;
  inputs = moves.inputs;
}

-- a stream that moves goes on
pub goes_on_moves : (n : ℕ) (old new : StreamState) → StreamMoves n old new → StreamGoesOn old new
goes_on_moves n old new moves = record {
  later = λ s m given at.
      (let one = moves.later s m given at in (one.0, one.1, one.3));
  job = moves.job;
  inputs = moves.inputs;
}

-- from a stream that stands for what this one does
pub moves_from : (n : ℕ) (a b c : StreamState)
    → ((s : List (List ℤ)) (m : Moment) (given : ℕ → List ℤ) → IsStreamAt a s m given
    → IsStreamAt b s m given) → b.job ≡ a.job → b.inputs ≡ a.inputs → StreamMoves n b c
    → StreamMoves n a c
moves_from n a b c stands job inputs moves = record {
  later = λ s m given at.
      (let one = moves.later s m given (stands s m given at) in
      let P : Job → Type 0 = λ j. All (MayTurn j) one.0
      × (n ≤ moves_in (with_samples s j) m one.0)
      × IsStreamAt c s (after_sized (with_samples s j) m one.0) given in
      let all = subst P job (one.1, one.2, one.3) in
      (one.0, all.0, all.1, all.2));
  job = moves.job ∙ job;
  inputs = moves.inputs ∙ inputs;
}

-- and to one that stands for what that one does
pub moves_to : (n : ℕ) (a b c : StreamState) → StreamMoves n a b
    → ((s : List (List ℤ)) (m : Moment) (given : ℕ → List ℤ) → IsStreamAt b s m given
    → IsStreamAt c s m given) → c.job ≡ b.job → c.inputs ≡ b.inputs → StreamMoves n a c
moves_to n a b c moves stands job inputs = record {
  later = λ s m given at.
      (let one = moves.later s m given at in
      let now = after_sized (with_samples s a.job) m one.0 in
      (one.0, one.1, one.2, stands s now given one.3));
  job = job ∙ moves.job;
  inputs = inputs ∙ moves.inputs;
}
