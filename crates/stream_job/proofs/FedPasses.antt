-- What a stream stands for after steps of a splitter, a decimator or a joiner.
use Rattle.std.proofs.Common.{◌≡◌, ℕ, ℤ, List, ◌≤◌, [], ◌∷◌, ◌++◌, Bool, true, false, None, Some, length, refl, sym, ap, subst, ◌∙◌, ◌⊎◌, inl, inr, arith}
use Rattle.std.specs.List.{All}
use Rattle.std.proofs.lemmas.List.{length-append}
use Rattle.std.proofs.lemmas.List.Elements.{All-cons, All-nil}
use Rattle.graph_base.specs.TaskLines.{IsGraph}
use Rattle.stream_lists.specs.Jobs.{Job, with_samples}
use Rattle.stream_lists.specs.Lists.{is_sink_at}
use Rattle.graph_runs.specs.Answers.{after_answer, makes, turn_up_to}
use Rattle.graph_runs.specs.Feeds.{IsOpenAt, NotStarved}
use Rattle.graph_runs.specs.Moments.{Moment, HasAnsweredNone}
use Rattle.graph_runs.specs.Reached.{IsReachable}
use Rattle.graph_runs.specs.TaskEvents as events
use Rattle.graph_runs.specs.TaskEvents.{IsNext, TaskEvent, after_turn}
use Rattle.graph_runs.specs.TaskPlaces.{child_of}
use Rattle.graph_runs.proofs.AnsweredInTurn.{turn_answers_none}
use Rattle.graph_runs.proofs.SizedTurns.{turn_reached}
use Rattle.graph_runs.proofs.Whose.{task_of}
use Rattle.stream_job.specs.Machines.{IsSome, KeepsLines}
use Rattle.stream_job.specs.Passing.{HasMadeSteps, IsPartOfStep, LeadTo, MakesSteps, is_of_step}
use Rattle.stream_job.specs.Rounds.{of_moved}
use Rattle.stream_job.specs.Streams.{AreKept, IsStreamAt, MayTurn, SizedTurn, StreamState, after_sized, ended_at, is_event, moves_in}
use Rattle.stream_job.specs.declared.machine.Machine.{Machine}
use Rattle.stream_job.proofs.FedTurns.{kept_after}
use Rattle.stream_job.proofs.FedWent.{GoesTo, with_machine}
use Rattle.stream_job.proofs.LinesAfter.{starts_stay}
use Rattle.stream_job.proofs.Makes.{makes_event}
use Rattle.stream_job.proofs.SinksKeep.{NoSinkWaits, lines_stay}
use Rattle.stream_job.proofs.Stopping.{with_samples_lines, without_samples_lines}

-- ---- events one after the other

-- those of two lists
pub lead_on : (job : Job) (t : ℕ) (m between after : Moment) (first then : List TaskEvent)
    → LeadTo job t m first between → LeadTo job t between then after
    → LeadTo job t m (first ++ then) after
lead_on job t m between after [] then same lead =
    subst (λ now. LeadTo job t now then after) (sym same) lead
lead_on job t m between after (event ∷ first) then lead rest =
    (lead.0, lead_on job t (after_turn job event m) between after first then lead.1 rest)

-- ---- an event of a step

no_child : (event : TaskEvent) → is_of_step event ≡ true → child_of event ≡ None
no_child (events.sample t j p n vs) is = absurd (let wrong : false ≡ true = is in cc)
no_child (events.signal t j p n vs) is = refl
no_child (events.first_wait t k p n outcomes) is = refl
no_child (events.exchange_wait t p n outcome) is = absurd (let wrong : false ≡ true = is in cc)
no_child (events.leave t p n) is = absurd (let wrong : false ≡ true = is in cc)
no_child (events.child t p n c a mode) is = absurd (let wrong : false ≡ true = is in cc)
no_child (events.child_now t p n c a) is = absurd (let wrong : false ≡ true = is in cc)

no_leave : (job : Job) (ended : ℕ → Bool) (m : Moment) (event : TaskEvent)
    → is_of_step event ≡ true → NotStarved job ended m event
no_leave job ended m (events.sample t j p n vs) is = absurd (let wrong : false ≡ true = is in cc)
no_leave job ended m (events.signal t j p n vs) is = tt
no_leave job ended m (events.first_wait t k p n outcomes) is = tt
no_leave job ended m (events.exchange_wait t p n outcome) is =
    absurd (let wrong : false ≡ true = is in cc)
no_leave job ended m (events.leave t p n) is = absurd (let wrong : false ≡ true = is in cc)
no_leave job ended m (events.child t p n c a mode) is =
    absurd (let wrong : false ≡ true = is in cc)
no_leave job ended m (events.child_now t p n c a) is =
    absurd (let wrong : false ≡ true = is in cc)

no_wait : (job : Job) (m : Moment) (t : ℕ) (event : TaskEvent)
    → IsPartOfStep job m t event → IsGraph job.graph → IsReachable job m → NoSinkWaits job event
no_wait job m t event part is reached =
    by event (makes_event job m t event part.sized is reached part.answer).own part.of_step
  where
    by : (event : TaskEvent) → task_of event ≡ t → is_of_step event ≡ true
        → NoSinkWaits job event
    by (events.sample u j p n vs) own it = absurd (let wrong : false ≡ true = it in cc)
    by (events.signal u j p n vs) own it = tt
    by (events.first_wait u k p n outcomes) own it =
        ap (is_sink_at job) own ∙ part.no_sink
    by (events.exchange_wait u p n outcome) own it =
        absurd (let wrong : false ≡ true = it in cc)
    by (events.leave u p n) own it = absurd (let wrong : false ≡ true = it in cc)
    by (events.child u p n c a mode) own it = absurd (let wrong : false ≡ true = it in cc)
    by (events.child_now u p n c a) own it = absurd (let wrong : false ≡ true = it in cc)

-- ---- the stream meanwhile

-- what a stream keeps at a moment, but for its machine
pub record KeepsMeanwhile (old : StreamState) (s : List (List ℤ)) (given : ℕ → List ℤ) (m : Moment)
    : Type 0 where
  pub reached : IsReachable (with_samples s old.job) m
  pub lines : KeepsLines (with_samples s old.job) given m old.machine.lines.items
  pub kept : AreKept old.job s m old.inputs
  pub opens : IsOpenAt (with_samples s old.job) (ended_at old) m
  pub none : HasAnsweredNone (with_samples s old.job) m

-- a source that has not ended is left by no event but as the law says
abbrev pub OpensAlways : StreamState → List (List ℤ) → Type 0
OpensAlways old s = (m : Moment) (event : TaskEvent) → IsReachable (with_samples s old.job) m
    → IsNext (with_samples s old.job) m event
    → NotStarved (with_samples s old.job) (ended_at old) m event
    → IsOpenAt (with_samples s old.job) (ended_at old) m
    → IsOpenAt (with_samples s old.job) (ended_at old)
    (after_turn (with_samples s old.job) event m)

keeps_after : (old : StreamState) (s : List (List ℤ)) (given : ℕ → List ℤ) (m : Moment) (t : ℕ)
    (event : TaskEvent) → IsGraph old.job.graph → OpensAlways old s
    → IsPartOfStep (with_samples s old.job) m t event → KeepsMeanwhile old s given m
    → KeepsMeanwhile old s given (after_turn (with_samples s old.job) event m)
keeps_after old s given m t event is law part keeps =
    let job = with_samples s old.job in
    let now = after_turn job event m in
    let answer = part.answer in
    let reached : IsReachable job now =
    subst (λ a. IsReachable job (after_answer job a m)) answer
    (turn_reached part.steps part.most job m t part.sized is keeps.reached) in
    let made = makes_event job m t event part.sized is keeps.reached answer in
    record {
      reached = reached;
      lines = record {
        values = keeps.lines.values
            ∙ lines_stay job m t event part.sized is keeps.reached answer
            (no_wait job m t event part is keeps.reached);
        starts = keeps.lines.starts
            ∙ starts_stay job m event (no_child event part.of_step);
      };
      kept = kept_after old.job s m (makes event) old.inputs reached.ran keeps.kept;
      opens = law m event keeps.reached made.next
          (no_leave job (ended_at old) m event part.of_step) keeps.opens;
      none = subst (λ a. HasAnsweredNone job (after_answer job a m)) answer
          (turn_answers_none part.steps part.most job m t part.sized is keeps.reached keeps.none
          part.good);
    }

-- the turns that made such events
pub record HasTurned (old : StreamState) (s : List (List ℤ)) (given : ℕ → List ℤ) (m after : Moment)
    (least : ℕ) : Type 0 where
  pub turns : List SizedTurn
  pub may : All (MayTurn old.job) turns
  pub moves : least ≤ moves_in (with_samples s old.job) m turns
  pub is : after_sized (with_samples s old.job) m turns ≡ after
  pub keeps : KeepsMeanwhile old s given after

turned : (old : StreamState) (s : List (List ℤ)) (given : ℕ → List ℤ) (m after : Moment) (t : ℕ)
    (them : List TaskEvent) → IsGraph old.job.graph → OpensAlways old s
    → LeadTo (with_samples s old.job) t m them after → KeepsMeanwhile old s given m
    → HasTurned old s given m after (length them)
turned old s given m after t [] is law same keeps = record {
  turns = [];
  may = All-nil (MayTurn old.job);
  moves = omega arith;
  is = same;
  keeps = subst (KeepsMeanwhile old s given) same keeps;
}
turned old s given m after t (event ∷ them) is law lead keeps =
    let job = with_samples s old.job in
    let part = lead.0 in
    let turn : SizedTurn = record { task = t; steps = part.steps; most = part.most } in
    let rest = turned old s given (after_turn job event m) after t them is law lead.1
    (keeps_after old s given m t event is law part keeps) in
    let more : length them ≤ moves_in job (after_turn job event m) rest.turns = rest.moves in
    let one : is_event (turn_up_to part.steps part.most job m t) ≡ true = ap is_event part.answer in
    record {
      turns = turn ∷ rest.turns;
      may = All-cons (MayTurn old.job) turn rest.turns part.sized rest.may;
      moves = rw part.answer (omega arith);
      is = ap (λ a. after_sized job (after_answer job a m) rest.turns) part.answer ∙ rest.is;
      keeps = rest.keeps;
    }

-- ---- the stream behind them

pub stepped_to : (old : StreamState) (new : Machine) (s : List (List ℤ)) (m : Moment)
    (given : ℕ → List ℤ) (t : ℕ) (moved : Bool) → OpensAlways old s → old.met ≡ None
    → HasMadeSteps (with_samples s old.job) t m new moved → new.lines ≡ old.machine.lines
    → IsStreamAt old s m given → GoesTo (of_moved moved) old (with_machine old new) s m given
stepped_to old new s m given t moved law met steps lines at =
    let job = with_samples s old.job in
    let turns = turned old s given m steps.after t steps.events at.machine.graph law steps.lead
    record {
      reached = at.machine.reached;
      lines = with_samples_lines s old.job given m old.machine.lines.items at.lines;
      kept = at.kept;
      opens = at.stays_open;
      none = at.none;
    } in
    let keeps = turns.keeps in
    record {
      turns = turns.turns;
      may = turns.may;
      moves = least moved turns.turns steps.some turns.moves;
      stands = subst (λ now. IsStreamAt (with_machine old new) s now given) (sym turns.is) record {
        each = at.each;
        machine = steps.stands;
        lines = without_samples_lines s old.job given steps.after new.lines.items
            (subst (λ l. KeepsLines job given steps.after l.items) (sym lines) keeps.lines);
        kept = keeps.kept;
        stays_open = keeps.opens;
        none = keeps.none;
        faults = λ there more is goes ready.
            absurd (let wrong : None ≡ Some there = sym met ∙ is in cc);
      };
    }
  where
    least : (moved : Bool) (turns : List SizedTurn) → (moved ≡ true → 1 ≤ length steps.events)
        → length steps.events ≤ moves_in (with_samples s old.job) m turns
        → of_moved moved ≤ moves_in (with_samples s old.job) m turns
    least true turns some all = (let one = some refl in omega arith)
    least false turns some all = omega arith

-- ---- steps one after the other

-- a machine that some stood at stands at some moment after them
pub some_after : (job : Job) (old new : Machine) (t : ℕ) (moved : Bool)
    → MakesSteps job old new t moved → IsSome job old → IsSome job new
some_after job old new t moved steps some =
    let it = steps some.0 some.1.0 some.1.1 in (some.0, (it.after, it.stands))

-- and those of the next
pub steps_on : (job : Job) (old between new : Machine) (t : ℕ) (a b moved : Bool)
    → MakesSteps job old between t a → MakesSteps job between new t b
    → (moved ≡ true → (a ≡ true) ⊎ (b ≡ true)) → MakesSteps job old new t moved
steps_on job old between new t a b moved first then either = λ s m at.
    let one = first s m at in
    let two = then s one.after one.stands in
    record {
      events = one.events ++ two.events;
      after = two.after;
      lead = lead_on (with_samples s job) t m one.after two.after one.events two.events one.lead
          two.lead;
      some = λ e. by one.events two.events (either e) one.some two.some;
      stands = two.stands;
    }
  where
    by : (xs ys : List TaskEvent) → (a ≡ true) ⊎ (b ≡ true) → (a ≡ true → 1 ≤ length xs)
        → (b ≡ true → 1 ≤ length ys) → 1 ≤ length (xs ++ ys)
    by xs ys (inl e) x y =
        let some = x e in let long = length-append xs ys in omega arith
    by xs ys (inr e) x y =
        let some = y e in let long = length-append xs ys in omega arith
