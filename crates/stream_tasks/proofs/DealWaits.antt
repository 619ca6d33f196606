-- A wait for several steps, of a task whose steps take a value each from its one input, leaves the
-- task's part as the wait for one does.
use Rattle.std.proofs.Common.{◌≡◌, ◌≢◌, ℕ, ◌+◌, ◌<◌, ◌≤◌, ◌⊎◌, inl, inr, true, false, List, ◌∷◌, ◌++◌, Some, None, length, map, refl, sym, ap, subst, ◌∙◌, arith}
use mathlib.Core.List.{IsPrefix}
use Rattle.std.proofs.lemmas.List.{length-append, length-map, map-append}
use Rattle.std.proofs.lemmas.Option.{same_Some}
use Rattle.phase_accum.specs.declared.outcome.Outcome.{Outcome}
use Rattle.phase_history.specs.declared.event.Event.{Event}
use Rattle.phase_history.specs.declared.event.Event.TheVariants.{Waited}
use Rattle.phase_history.specs.Histories.{History, has_dropped}
use Rattle.phase_history.specs.Legal.{IsAccepted, IsLegal}
use Rattle.phase_history.specs.Phases.{received_by}
use Rattle.phase_history.specs.Sent.{sent_by, IsSilent}
use Rattle.graph_base.specs.TaskLines.{IsGraph, IsTaskLine}
use Rattle.graph_base.specs.Graphs.{task_at}
use Rattle.graph_base.specs.declared.line.Parent.{Parent}
use Rattle.stream_lists.specs.Jobs.{Job, samples_at}
use Rattle.stream_lists.specs.Lists.{number}
use Rattle.stream_lists.specs.Spans.{takes_from}
use Rattle.graph_runs.specs.Moments.{AtMost, HasEnded, HasNotPassed, HasTaken, Moment, OnLine, TaskRan, input_at, limits_at, one, value_at}
use Rattle.graph_runs.specs.Moves.{HasMoved, IsStaying, MayBeginTo}
use Rattle.graph_runs.specs.Turned.{after_waits, with_at}
use Rattle.graph_runs.specs.Parts.{HasGot, HasPart, HasSeen, IsAnsweredBy, SeesOthers, SeesOwn}
use Rattle.graph_runs.proofs.Entries.{IsPrefix-refl}
use Rattle.graph_runs.proofs.Following.{GetsAll}
use Rattle.graph_runs.proofs.OwnEvents.{eq_case, history_by, inputs_later, joined_later, outputs_later, made_more}
use Rattle.graph_runs.proofs.PartsLemmas.{later_staying, other_at, same_at, seen, with_history}
use Rattle.graph_runs.proofs.Turned.{at_other, at_same}
use Rattle.stream_tasks.proofs.OneInputs.{TakesOne}

-- task t, number n on phaser p, its input, has waited and was answered these outcomes, by which as
-- many steps have begun
pub record BlockWaits (job : Job) (before after : Moment) (t p n : ℕ) (outcomes : List Outcome)
    : Type 0 where
  pub takes : TakesOne job t
  pub moved : HasMoved job before after t p (Waited n (length outcomes))
  pub numbered : before.number p t ≡ Some n
  pub place : input_at (task_at job.graph t) 0 ≡ p
  pub staying : IsStaying before t
  pub answered : received_by (value_at job p) (Waited n (length outcomes) ∷ before.history p) n
      ≡ received_by (value_at job p) (before.history p) n ++ outcomes
  pub gets : GetsAll before after t 0 (map number outcomes)
  pub begun : after.begun t ≡ before.begun t + length outcomes
  pub may : MayBeginTo job before t (before.begun t + length outcomes)

pub block_ran : (job : Job) (before after : Moment) (t p n : ℕ) (outcomes : List Outcome)
    → IsGraph job.graph → t < length job.graph.tasks
    → BlockWaits job before after t p n outcomes → TaskRan job before t → TaskRan job after t
block_ran job before after t p n outcomes is there s ran = record {
  puts = λ j lt.
      (rw (s.gets.put j)
      (made_more job before after t j (before.put t j) line ran lt grows
      (λ i below. takes_grow i (eq_case i 0)) (ran.exchanged j) (ran.puts j lt)));
  exchanged = λ j. s.takes.exchanged j (length (after.put t j)) (length (after.taken t 1));
  takes = λ i lt. takes i lt;
  samples = s.takes.samples (after.begun t) (length (samples_at job t));
  cut = subst (λ b. AtMost b (task_at job.graph t).until) (sym s.begun) s.may.cut;
  outputs = outputs_later s.moved (λ h a. refl) ran left
      (λ q a e silent. history_by job before after t p event (λ h. IsSilent h a) q s.moved
      (λ same. record { nothing = silent.nothing; from_0 = silent.from_0 }) (λ apart. silent))
      (λ q i a e num was. history_by job before after t p event (λ h. sent_by h a ≡ map one (after.put t i)) q s.moved
      (λ same. was ∙ ap (λ l. map one l) (sym (s.gets.put i)))
      (λ apart. was ∙ ap (λ l. map one l) (sym (s.gets.put i))));
  inputs = inputs_later s.moved (λ h a. refl) ran left (λ i none. absent i none (eq_case i 0))
      (λ i a lt num was. taken i a lt num was);
  lines = λ q a at. ran.lines q a (sym (s.moved.numbers q t) ∙ at);
  joined = λ q a at.
      joined_later job before after t p event is there s.moved
      (ran.joined q a (sym (s.moved.numbers q t) ∙ at));
  children =
      λ c q a u there_c e same at none on.
      children c q a u there_c e same (sym (s.moved.numbers q t) ∙ at)
      (sym (s.moved.numbers q c) ∙ none) on;
}
  where
    line : IsTaskLine job.graph t (task_at job.graph t)
    line = is.tasks t there

    event : Event
    event = Waited n (length outcomes)

    input : length (task_at job.graph t).inputs ≡ 1
    input = s.takes.input

    grows : before.begun t ≤ after.begun t
    grows = omega (arith, s.begun)

    takes_grow : (i : ℕ) → (i ≡ 0) ⊎ (i ≢ 0) → IsPrefix (before.taken t i) (after.taken t i)
    takes_grow i (inl same) = rw same (map number outcomes, sym s.gets.taken)
    takes_grow i (inr apart) = rw (s.gets.other_takes i apart) (IsPrefix-refl (before.taken t i))

    more : length (after.taken t 0) ≡ length (before.taken t 0) + length outcomes
    more =
        ap length s.gets.taken ∙ length-append (before.taken t 0) (map number outcomes)
        ∙ ap (λ x. length (before.taken t 0) + x) (length-map outcomes number)

    takes : (i : ℕ) → i < length (task_at job.graph t).inputs
        → HasTaken (task_at job.graph t) (after.begun t) i (length (after.taken t i))
    takes i lt =
        let task = task_at job.graph t in
        let first : i ≡ 0 = omega (arith, input) in
        let was : length (before.taken t 0) ≡ takes_from task (before.begun t) 0 =
        s.may.taken 0 (omega (arith, input)) in
        let plain = s.takes.takes (before.begun t) in
        let all = s.takes.takes (after.begun t) in
        let now : length (after.taken t 0) ≡ takes_from task (after.begun t) 0 =
        omega (arith, more, s.begun) in
        rw first (s.takes.taken_is (after.begun t) (length (after.taken t 0)) now)

    stays_dropped : (q a : ℕ) → before.number q t ≡ Some a
        → has_dropped (after.history q) a ≡ false
    stays_dropped q a at =
        history_by job before after t p event (λ h. has_dropped h a ≡ false) q s.moved
        (λ same. s.staying q a at) (λ apart. s.staying q a at)

    left : (q a : ℕ) → before.number q t ≡ Some a → has_dropped (after.history q) a ≡ true
        → HasEnded job after t
    left q a at gone = absurd (let f : true ≡ false = sym gone ∙ stays_dropped q a at in cc)

    absent : (i : ℕ) → before.number (input_at (task_at job.graph t) i) t ≡ None
        → (i ≡ 0) ⊎ (i ≢ 0) → after.taken t i ≡ before.taken t i
    absent i none (inl same) =
        let not_there : Some n ≡ None =
        sym s.numbered
        ∙ ap (λ x. before.number x t)
        (sym s.place ∙ ap (λ x. input_at (task_at job.graph t) x) (sym same))
        ∙ none in
        absurd (cc)
    absent i none (inr apart) = s.gets.other_takes i apart

    taken : (i a : ℕ) → i < length (task_at job.graph t).inputs
        → before.number (input_at (task_at job.graph t) i) t ≡ Some a
        → let q = input_at (task_at job.graph t) i in
        before.taken t i ≡ map number (received_by (value_at job q) (before.history q) a)
        → after.taken t i ≡ map number (received_by (value_at job q) (after.history q) a)
    taken i a lt at was =
        let q = input_at (task_at job.graph t) i in
        let same : i ≡ 0 = omega (arith, input) in
        let here : q ≡ p = ap (λ x. input_at (task_at job.graph t) x) same ∙ s.place in
        let me : a ≡ n =
        same_Some a n (sym at ∙ ap (λ x. before.number x t) here ∙ s.numbered) in
        let now : after.history q ≡ event ∷ before.history q =
        ap (λ x. after.history x) here ∙ s.moved.here
        ∙ ap (λ x. event ∷ before.history x) (sym here) in
        let V : ℕ → ℕ → Type 0 =
        λ x y. received_by (value_at job x) (Waited n (length outcomes) ∷ before.history x) y
        ≡ received_by (value_at job x) (before.history x) y ++ outcomes in
        let answer : V q a = subst (λ x. V x a) (sym here) (subst (V p) (sym me) s.answered) in
        let more_taken : after.taken t i ≡ before.taken t i ++ map number outcomes =
        ap (λ x. after.taken t x) same ∙ s.gets.taken
        ∙ ap (λ x. before.taken t x ++ map number outcomes) (sym same) in
        more_taken ∙ ap (λ l. l ++ map number outcomes) was
        ∙ sym (ap (λ h. map number (received_by (value_at job q) h a)) now
        ∙ ap (λ l. map number l) answer
        ∙ map-append number (received_by (value_at job q) (before.history q) a) outcomes)

    children : (c q a : ℕ) (u : Parent) → c < length job.graph.tasks
        → (task_at job.graph c).parent ≡ Some u → u.task ≡ t
        → before.number q t ≡ Some a → before.number q c ≡ None → OnLine (task_at job.graph c) q
        → HasNotPassed after q a u
    children c q a u there_c e same at none on =
        let less : before.begun t + length outcomes ≤ u.at =
        s.may.children q c a u there_c e same at none on in
        let begun : after.begun u.task ≡ before.begun t + length outcomes =
        ap (λ x. after.begun x) same ∙ s.begun in
        record {
          early = omega arith;
          ended =
              λ gone. absurd (let f : true ≡ false = sym gone ∙ stays_dropped q a at in cc);
        }

-- ---- the part

-- a wait for several steps, which it may begin, leaves its part with what it was answered taken
pub gets_block : (job : Job) (m : Moment) (t p n : ℕ) (outcomes : List Outcome) (before : History)
    → IsGraph job.graph → t < length job.graph.tasks → HasPart job m t
    → TakesOne job t → input_at (task_at job.graph t) 0 ≡ p → IsStaying m t
    → MayBeginTo job m t (m.begun t + length outcomes)
    → SeesOwn job m t p n (Waited n (length outcomes)) before
    → IsAnsweredBy job p n outcomes before
    → HasGot job m
    (after_waits t 0 p n outcomes (m.begun t + length outcomes) (with_history p before m)) t 0 p
    outcomes (m.begun t + length outcomes) (Waited n (length outcomes) ∷ before)
gets_block job m t p n outcomes before is there part takes place staying may sees answered = record {
  moved = record {
    part = record {
      ran = block_ran job now after t p n outcomes is there waits came.moved.part.ran;
      legal = λ q on.
          by_case q (λ h. IsLegal (limits_at job q) h)
          (λ e. (let L : ℕ → Type 0 = λ x. IsLegal (limits_at job x) (wait ∷ before) in
          subst L (sym e) sees.legal)) (part.legal q on);
    };
    here = here;
    elsewhere = λ q apart. waits.moved.elsewhere q apart ∙ other_at p before m q apart;
    numbers = λ q u. refl;
    offset = λ u. refl;
    others_begun = λ u apart. at_other t steps m.begun u apart;
  };
  begun_is = waits.begun;
  taken = waits.gets.taken;
  other_takes = waits.gets.other_takes;
  put = λ j. refl;
  staying = λ q u at.
      by_case q (λ h. has_dropped h u ≡ false)
      (λ e. (let N : ℕ → Type 0 = λ x. m.number x t ≡ Some u in
      ap (λ h. has_dropped h u) (sym (same_at p before m))
      ∙ later_staying job m t p n before others staying p u (subst N e at)))
      (staying q u at);
}
  where
    wait : Event
    wait = Waited n (length outcomes)

    steps : ℕ
    steps = m.begun t + length outcomes

    now : Moment
    now = with_history p before m

    after : Moment
    after = after_waits t 0 p n outcomes steps now

    others : SeesOthers job m t p n before
    others = record { numbered = sees.numbered; others = sees.others; legal = sees.legal.0 }

    came : HasSeen job m now t p before
    came = seen job m t p n before others is there part

    waits : BlockWaits job now after t p n outcomes
    waits = record {
      takes = takes;
      moved = record {
        accepted =
            (let A : History → Type 0 = λ h. IsAccepted (limits_at job p) h wait in
            subst A (sym (same_at p before m)) sees.legal.1);
        here = at_same p (wait ∷ now.history p) now.history;
        elsewhere = λ q apart. at_other p (wait ∷ now.history p) now.history q apart;
        offset = refl;
        onward =
            (let b : with_at t steps m.begun t ≡ steps = at_same t steps m.begun in omega arith);
        others = λ u apart. record {
          offset = refl;
          begun = at_other t steps m.begun u apart;
          taken = λ i.
              ap (λ f. f i)
              (at_other t (with_at 0 (m.taken t 0 ++ map number outcomes) (m.taken t)) m.taken u
              apart);
          put = λ j. refl;
        };
        numbers = λ q u. refl;
      };
      numbered = sees.numbered;
      place = place;
      staying = later_staying job m t p n before others staying;
      answered =
          (let A : History → Type 0 =
          λ h. received_by (value_at job p) (wait ∷ h) n
          ≡ received_by (value_at job p) h n ++ outcomes in
          subst A (sym (same_at p before m)) answered);
      gets = record {
        taken =
            ap (λ f. f 0)
            (at_same t (with_at 0 (m.taken t 0 ++ map number outcomes) (m.taken t)) m.taken)
            ∙ at_same 0 (m.taken t 0 ++ map number outcomes) (m.taken t);
        other_takes = λ i apart.
            ap (λ f. f i)
            (at_same t (with_at 0 (m.taken t 0 ++ map number outcomes) (m.taken t)) m.taken)
            ∙ at_other 0 (m.taken t 0 ++ map number outcomes) (m.taken t) i apart;
        put = λ j. refl;
      };
      begun = at_same t steps m.begun;
      may = record {
        taken = may.taken;
        cut = may.cut;
        samples = may.samples;
        children = may.children;
      };
    }

    here : after.history p ≡ wait ∷ before
    here = waits.moved.here ∙ ap (λ h. wait ∷ h) (same_at p before m)

    by_case : (q : ℕ) (P : History → Type 0) → (q ≡ p → P (wait ∷ before)) → P (m.history q)
        → P (after.history q)
    by_case q P there else = by (eq_case q p)
      where
        by : (q ≡ p) ⊎ (q ≢ p) → P (after.history q)
        by (inl e) = subst P (sym (ap (λ x. after.history x) e ∙ here)) (there e)
        by (inr apart) =
            subst P (sym (waits.moved.elsewhere q apart ∙ other_at p before m q apart)) else
