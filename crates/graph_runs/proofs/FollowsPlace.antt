-- The place of a task after each of its calls, by what the call leaves of its part.
use Rattle.std.proofs.Common.{◌≡◌, ℕ, ◌+◌, ◌<◌, ◌≤◌, true, eqb, List, [], ◌∷◌, Option, Some, None, length, map, ℤ, refl, sym, ap, subst, ◌∙◌, arith, inl, inr}
use Rattle.std.specs.Prelude.{Ok, ◌*ℤ◌, ◌-ℤ◌}
use Rattle.std.proofs.lemmas.Bool.{eq-eqb}
use Rattle.std.proofs.lemmas.List.{length-map}
use Rattle.stream_filters.specs.Range.{ranged}
use Rattle.phase_accum.specs.declared.outcome.Outcome.{Outcome}
use Rattle.phase_history.specs.declared.event.Event.TheVariants.{Dropped}
use Rattle.phase_history.specs.Histories.{History, has_dropped}
use Rattle.graph_base.specs.declared.line.Kind.TheVariants.{Source, Peer}
use Rattle.graph_base.specs.Graphs.{task_at}
use Rattle.graph_base.specs.TaskLines.{IsGraph}
use Rattle.stream_lists.specs.Jobs.{Job}
use Rattle.stream_lists.specs.Lists.{number}
use Rattle.graph_runs.specs.Moments.{Moment, TakenOn, OnLine, input_at}
use Rattle.graph_runs.specs.Moves.{IsStaying}
use Rattle.graph_runs.specs.Answers.{output_at, values_up_to}
use Rattle.graph_runs.specs.Nexts.{waits_first}
use Rattle.graph_runs.specs.TaskPlaces.{Owed, nothing, values, exchange, TaskPlace, StandsUpTo, registration_at, owed_after_wait, owed_after_signal, owed_after_exchange}
use Rattle.graph_runs.proofs.Boundaries.{peer_ends}
use Rattle.graph_runs.proofs.Calling.{waits_as_peer}
use Rattle.graph_runs.proofs.Exchanging.{exchange_lacks, exchange_owes}
use Rattle.graph_runs.proofs.FirstWaits.{FirstWait, wait_leaves}
use Rattle.graph_runs.proofs.Following.{Lacks, KeepsPlaces, PutsAll, GetsAll, stays_at, stays_same}
use Rattle.graph_runs.proofs.Lacking.{first_none}
use Rattle.graph_runs.proofs.PlacesLemmas.{place_of_output}
use Rattle.graph_runs.proofs.PlacesFollow.{LeavesOne, leave_stands}
use Rattle.graph_runs.proofs.Signalling.{owed}
use Rattle.graph_runs.proofs.Stepping.{puts_stand, peer_in_turn, sample_lacks}
use Rattle.graph_runs.specs.Parts.{HasPart, HasSeen, HasPut, HasGot, LeavesPart, BeginsSteps}
use Rattle.graph_runs.specs.Places.{owing, after_steps, after_leaving, IsMost}
use Rattle.graph_runs.proofs.TellsNext.{staying_at, owes_as, ranged_values, is_first}

-- a task that stays on all its phasers before and after keeps its registrations
pub keeps_staying : (m after : Moment) (t : ℕ)
    → ((q u : ℕ) → after.number q u ≡ m.number q u) → IsStaying m t → IsStaying after t
    → KeepsPlaces m after t
keeps_staying m after t numbers before now = record {
  number = λ q. numbers q t;
  left = λ q n at. now q n (numbers q t ∙ at) ∙ sym (before q n at);
}

-- what the outputs lack at a place that owes this
pub lacks_as : {most : ℕ} (job : Job) (m : Moment) (t : ℕ) (at : TaskPlace) (o : Owed)
    → StandsUpTo most job m t at → at.owed ≡ o → Lacks job m t o
lacks_as job m t at o stands is =
    rw is at stands.lacks

pub seen_follows : {most : ℕ} (job : Job) (m after : Moment) (t p : ℕ) (at : TaskPlace)
    (now : History) → StandsUpTo most job m t at → HasSeen job m after t p now
    → StandsUpTo most job after t at
seen_follows job m after t p at now stands seen =
    stays_same job m after t at stands
    (record { number = λ q. seen.moved.numbers q t; left = seen.left }) seen.same

-- ---- signals

-- a peer has taken no more from E than it has put there
in_turn : (job : Job) (m : Moment) (t : ℕ) → IsGraph job.graph → t < length job.graph.tasks
    → HasPart job m t → IsStaying m t → (task_at job.graph t).kind ≡ Peer
    → length (m.taken t 1) ≤ length (m.put t 0)
in_turn job m t is there part staying e = by (m.number (output_at job t 0) t) refl
  where
    two : length (task_at job.graph t).inputs ≡ 2
    two = (peer_ends job t is there e).0

    line : OnLine (task_at job.graph t) (output_at job t 0)
    line =
        inl (
          0,
          place_of_output job.graph t (task_at job.graph t) 0 (is.tasks t there)
              (omega (arith, (peer_ends job t is there e).1)),
        )

    same : output_at job t 0 ≡ input_at (task_at job.graph t) 1
    same = rw e refl

    by : (o : Option ℕ) → m.number (output_at job t 0) t ≡ o
        → length (m.taken t 1) ≤ length (m.put t 0)
    by (Some n) at =
        peer_in_turn job m t n is part.ran there staying (part.legal (output_at job t 0) line) at e
    by None at =
        let few : length (task_at job.graph t).inputs ≡ 2 = two in
        let N : Option ℕ → Type 0 = λ o. TakenOn job m t 1 (output_at job t 0) o in
        let on = subst N at (rw same (part.ran.inputs 1 (omega arith))) in
        omega (arith, ap length on.0)

pub put_follows : (job : Job) (m after : Moment) (t j p most : ℕ) (vs : List ℤ) (at : TaskPlace)
    (now : History) → IsGraph job.graph → t < length job.graph.tasks → HasPart job m t
    → IsMost job t most → StandsUpTo most job m t at → at.left ≡ 0
    → at.owed ≡ values j (map (λ v. Ok v) vs) → HasPut job m after t j p vs (m.begun t) now
    → StandsUpTo most job after t (owing (owed_after_signal (task_at job.graph t) j vs) at)
put_follows job m after t j p most vs at now is there part allowed stands none owed_is s =
    let staying = staying_at job m t at is there part.ran stands none in
    let owes = owes_as job m t at (values j (map (λ v. Ok v) vs)) stands owed_is in
    let next : values_up_to most job m t j ≡ vs =
    ranged_values (values_up_to most job m t j) vs owes.2 in
    let puts : PutsAll m after t j vs =
    record { taken = s.taken; put = s.put; other_puts = s.other_puts } in
    puts_stand job m after t j vs at is there allowed part.ran
    (λ e. in_turn job m t is there part staying e) puts
    (keeps_staying m after t s.moved.numbers staying s.staying) s.begun_is
    (owed job m t j owes.0).1 next
    (owed_is ∙ ap (λ l. values j l) (sym owes.2) ∙ ap (λ l. values j (map ranged l)) next) stands

pub sampled_follows : {most : ℕ} (job : Job) (m after : Moment) (t p : ℕ) (vs : List ℤ)
    (at : TaskPlace) (now : History) → IsGraph job.graph → t < length job.graph.tasks
    → HasPart job m t → StandsUpTo most job m t at → at.left ≡ 0 → at.owed ≡ nothing
    → (task_at job.graph t).kind ≡ Source
    → HasPut job m after t 0 p vs (m.begun t + length vs) now
    → StandsUpTo most job after t (after_steps (length vs) nothing at)
sampled_follows job m after t p vs at now is there part stands none owed_is source s =
    let staying = staying_at job m t at is there part.ran stands none in
    let puts : PutsAll m after t 0 vs =
    record { taken = s.taken; put = s.put; other_puts = s.other_puts } in
    let lacks : Lacks job after t nothing =
    sample_lacks job m after t 0 vs is part.ran s.moved.part.ran there source puts refl s.begun_is
    (lacks_as job m t at nothing stands owed_is) in
    stays_at job m after t (at.begun + length vs) nothing at stands
    (keeps_staying m after t s.moved.numbers staying s.staying)
    (s.begun_is ∙ ap (λ b. b + length vs) stands.begun) (first_none job after t lacks) lacks

-- ---- waits

pub first_wait_follows : (job : Job) (m after : Moment) (t k p most : ℕ)
    (outcomes : List Outcome) (at : TaskPlace) (now : History) → IsGraph job.graph
    → t < length job.graph.tasks → HasPart job m t → StandsUpTo most job m t at → at.left ≡ 0
    → at.owed ≡ nothing → BeginsSteps job m t k p (length outcomes) → 1 ≤ length outcomes
    → length outcomes ≤ most
    → HasGot job m after t k p outcomes (m.begun t + length outcomes) now
    → StandsUpTo most job after t (after_steps (length outcomes)
    (owed_after_wait (task_at job.graph t) at.begun (m.taken t 0) (map number outcomes)) at)
first_wait_follows job m after t k p most outcomes at now is there part stands none owed_is next
    some room s =
    let xs = map number outcomes in
    let many : length xs ≡ length outcomes = length-map outcomes number in
    let begun : after.begun t ≡ m.begun t + length outcomes = s.begun_is in
    let staying = staying_at job m t at is there part.ran stands none in
    let w : FirstWait most job m after t k xs = record {
      is = is;
      ran = part.ran;
      now = s.moved.part.ran;
      legal = s.moved.part.legal (input_at (task_at job.graph t) k) (inr (k, next.few, refl));
      there = there;
      few = next.few;
      waits = record { taken = s.taken; other_takes = s.other_takes; put = s.put };
      first = next.first;
      steps = omega arith;
      some = omega arith;
      block = rw many next.block;
      room = λ out. omega arith;
      all_taken = next.may_begin.taken k next.few;
      lacks = lacks_as job m t at nothing stands owed_is;
    } in
    let left = rw stands.begun at (wait_leaves job m after t k xs w) in
    stays_at job m after t (at.begun + length outcomes)
    (owed_after_wait (task_at job.graph t) at.begun (m.taken t 0) xs) at stands
    (keeps_staying m after t s.moved.numbers staying s.staying)
    (s.begun_is ∙ ap (λ b. b + length outcomes) stands.begun) left.0 left.1

pub exchanged_follows : (job : Job) (m after : Moment) (t p most : ℕ) (x : ℤ)
    (outcome : Outcome) (at : TaskPlace) (now : History) → IsGraph job.graph
    → t < length job.graph.tasks → HasPart job m t → IsMost job t most
    → StandsUpTo most job m t at → at.left ≡ 0 → at.owed ≡ exchange x
    → HasGot job m after t 1 p (outcome ∷ []) (m.begun t) now
    → StandsUpTo most job after t
    (owing (owed_after_exchange (task_at job.graph t) at.owed (number outcome)) at)
exchanged_follows job m after t p most x outcome at now is there part allowed stands none owed_is
    s =
    let staying = staying_at job m t at is there part.ran stands none in
    let owes = owes_as job m t at (exchange x) stands owed_is in
    let before = lacks_as job m t at (exchange x) stands owed_is in
    let first = is_first (waits_first (task_at job.graph t).kind 1 (length (m.put t 1))
    (length (m.taken t 1))) 1 owes.1 in
    let peer = (waits_as_peer (task_at job.graph t).kind 1 (length (m.put t 1))
    (length (m.taken t 1)) first).0 in
    let gets : GetsAll m after t 1 (number outcome ∷ []) =
    record { taken = s.taken; other_takes = s.other_takes; put = s.put } in
    let w = ranged (((task_at job.graph t).mul *ℤ x) -ℤ number outcome) in
    let ran_now = s.moved.part.ran in
    let lacks : Lacks job after t (values 1 (w ∷ [])) =
    exchange_lacks job m after t outcome x w is part.ran ran_now there peer gets s.begun_is
    before in
    rw owed_is
    (stays_at job m after t at.begun (values 1 (w ∷ [])) at stands
    (keeps_staying m after t s.moved.numbers staying s.staying) (s.begun_is ∙ stands.begun)
    (exchange_owes most job m after t outcome x allowed.some is part.ran ran_now there peer gets
    owes before first lacks) lacks)

-- ---- leaving

pub left_follows : {most : ℕ} (job : Job) (m after : Moment) (t p n : ℕ) (at : TaskPlace)
    (before : History) → IsGraph job.graph → t < length job.graph.tasks
    → StandsUpTo most job m t at → at.left < length at.numbers
    → (registration_at job t at.left).phaser ≡ p → m.number p t ≡ Some n
    → LeavesPart job m after t p (Dropped n ∷ before)
    → StandsUpTo most job after t (after_leaving at)
left_follows job m after t p n at before is there stands room here numbered s =
    let first : eqb n n ≡ true = eq-eqb n n refl in
    let dropped : has_dropped (Dropped n ∷ before) n ≡ true = rw first refl in
    let one : LeavesOne m after t p n = record {
      numbered = numbered;
      numbers = λ q. s.moved.numbers q t;
      gone = ap (λ h. has_dropped h n) s.moved.here ∙ dropped;
      elsewhere = s.moved.elsewhere;
      same = s.same;
    } in
    leave_stands job m after t p n at is there one stands room here
