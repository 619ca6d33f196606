-- The turn of a source.
use Rattle.std.proofs.Common.{◌≡◌, ℕ, ℤ, List, ◌+◌, ◌-◌, ◌<◌, ◌≤◌, false, cond, Option, Some, None, length, get_or, slice_get, set, take, drop, refl, sym, ap, subst, ◌∙◌, arith, min}
use Rattle.std.specs.Prelude.{Ok, nat_le}
use Rattle.std.specs.List.{position_from}
use Rattle.std.proofs.lemmas.Bool.{leb-false}
use Rattle.std.proofs.lemmas.List.{length-drop, length-take-le}
use Rattle.phase_accum.specs.Sends.{AreSends}
use Rattle.graph_base.specs.declared.line.Kind.TheVariants.{Source}
use Rattle.graph_base.specs.declared.place.Place.TheVariants as place
use Rattle.graph_base.specs.Graphs.{task_at}
use Rattle.graph_base.specs.Registrations.{signalled_by}
use Rattle.stream_lists.specs.Jobs.{Job, samples_at}
use Rattle.stream_lists.specs.Ranges.{is_out_of_range, are_made}
use Rattle.graph_runs.specs.Moments.{Moment}
use Rattle.graph_runs.specs.Moves.{further}
use Rattle.graph_runs.specs.NextBlocks.{block_up_to, sample_block_up_to}
use Rattle.graph_runs.specs.Nexts as turns
use Rattle.graph_runs.specs.Nexts.{Next, is_live, next_of, number_on}
use Rattle.graph_runs.specs.TaskEvents.{sample, after_turn}
use Rattle.graph_runs.specs.Answers as answers
use Rattle.graph_runs.specs.Answers.{Answer, makes, is_blocked, is_refused, after_answer, signal_answer, signal_turn, call_signal, output_at, told_event, answer_up_to, values_up_to, samples_up_to}
use Rattle.graph_runs.specs.Reached.{IsReachable}
use Rattle.graph_runs.specs.TaskPlaces.{StandsUpTo, registration_of_output}
use Rattle.graph_runs.proofs.Blocks.{block_few, block_some}
use Rattle.graph_runs.proofs.Calling.{source_ends}
use Rattle.graph_runs.proofs.Nexts.{further-length}
use Rattle.graph_runs.proofs.Signalling.{live-is}
use Rattle.graph_runs.proofs.Stepping.{sample_follows}
use Rattle.stream_job.specs.Stepping.{IsNextIn}
use Rattle.stream_job.specs.Machines.{IsMachineAt, most_in}
use Rattle.stream_job.specs.Places.{IsTaskAt, place_in_state}
use Rattle.stream_job.specs.Turning.{HadTurn, turn_in}
use Rattle.stream_job.specs.declared.machine.Machine.{Machine}
use Rattle.stream_job.specs.declared.made.Made.TheVariants.{Event}
use Rattle.stream_job.specs.declared.task_state.TaskState.{TaskState}
use Rattle.stream_job.specs.declared.turned.Turned.TheVariants.{Moved}
use Rattle.stream_job.proofs.Ending.{number_of_output}
use Rattle.stream_job.proofs.Lively.{live_next}
use Rattle.stream_job.proofs.Makes.{makes_event}
use Rattle.stream_job.proofs.WhatNext.{samples_begins}
use Rattle.stream_job.proofs.SentValues.{sends_all}
use Rattle.stream_job.proofs.SignalCalls.{SignalledCores, accepted, blocks, goes_on, moved_turn, refusal_of, renumbered, reply_of, stops}

-- ---- samples

-- what is asked of the phaser, and what it answers
pub record SamplesAt (steps : ℕ) (job : Job) (m : Moment) (t : ℕ) (state : TaskState) : Type 0 where
  pub there : t < length job.graph.tasks
  pub source : (task_at job.graph t).kind ≡ Source
  pub few : 0 < length (signalled_by (task_at job.graph t))
  pub more : state.begun < length (samples_at job t)
  pub block : 1 ≤ block_up_to steps job m t
  pub place : registration_of_output (task_at job.graph t) 0 < length state.numbers.items
  pub number : number_on m t (output_at job t 0)
      ≡ get_or state.numbers.items (registration_of_output (task_at job.graph t) 0) 0

pub samples_at_place : {steps : ℕ} (job : Job) (machine : Machine) (m : Moment) (t : ℕ) (state : TaskState)
    → IsNextIn steps job machine t turns.samples → IsMachineAt job m machine
    → slice_get machine.tasks.items t ≡ Some state → SamplesAt steps job m t state
samples_at_place {steps} job machine m t state next at found =
    let is = next.is m at in
    let it = (at.tasks t state found).stands in
    let live = live_next job m t turns.samples is (λ e. absurd (cc)) in
    let there = (live-is job m t live).there in
    let s = samples_begins job m t is in
    let one = source_ends job t at.graph there s.kind in
    let few : 0 < length (signalled_by (task_at job.graph t)) = omega arith in
    let out = number_of_output job m t 0 (place_in_state state) at.graph it live few in
    let more : nat_le (length (samples_at job t)) (m.begun t) ≡ false =
    ap (turns.has_input_ended job m t) (sym s.kind) ∙ s.step.more in
    let less = leb-false (length (samples_at job t)) (m.begun t) more in
    let begun = it.begun in
    record {
      there = there;
      source = s.kind;
      few = few;
      more = omega arith;
      block = block_some steps job m t (at.reached.ran.tasks t there) (next.sized there).block.some
          s.step.uncut;
      place = out.0;
      number = out.1;
    }

-- the samples from these steps on are those that are next
abbrev pub NextSamplesAre : ℕ → Job → Machine → ℕ → List ℤ → Type 0
NextSamplesAre steps job machine t vs = (m : Moment) → IsMachineAt job m machine
    → samples_up_to steps job m t ≡ vs

pub record SamplesSo (steps : ℕ) (job : Job) (machine : Machine) (m : Moment) (t number p : ℕ) (vs : List ℤ) : Type 0 where
  pub answer : turn_in steps job machine m t
      ≡ signal_answer (sample t 0 p number vs) (refusal_of job m p number vs)
  pub sends : AreSends vs

-- what the turn answers
pub samples_so : {steps : ℕ} (job : Job) (machine : Machine) (t number p : ℕ) (vs : List ℤ)
    (state : TaskState) → IsNextIn steps job machine t turns.samples
    → slice_get machine.tasks.items t ≡ Some state → p ≡ output_at job t 0
    → number ≡ get_or state.numbers.items (registration_of_output (task_at job.graph t) 0) 0
    → NextSamplesAre steps job machine t vs → (m : Moment) → IsMachineAt job m machine
    → SamplesSo steps job machine m t number p vs
samples_so {steps} job machine t number p vs state next found phaser numbered value m at =
    by (position_from is_out_of_range (length (m.put t 0)) vs) refl
  where
    s : SamplesAt steps job m t state
    s = samples_at_place job machine m t state next at found

    q : ℕ
    q = output_at job t 0

    out : turn_in steps job machine m t
        ≡ signal_turn job m t 0 vs
        (sample t 0 (output_at job t 0) (number_on m t (output_at job t 0)) vs)
    out =
        ap (answer_up_to steps (most_in machine t) job m t) (next.is m at)
        ∙ ap (λ l. signal_turn job m t 0 l (sample t 0 q (number_on m t q) l)) (value m at)

    by : (o : Option ℕ) → position_from is_out_of_range (length (m.put t 0)) vs ≡ o
        → SamplesSo steps job machine m t number p vs
    by (Some step) over =
        absurd (next.answered m at (out
        ∙ stops job m t 0 step vs (sample t 0 q (number_on m t q) vs) over
        ∙ ap (λ k. cond (are_made k 0) (answers.has_made (place.Task t, step)) is_refused) s.source))
    by None none = record {
      answer = out ∙ goes_on job m t 0 vs (sample t 0 q (number_on m t q) vs) none
          ∙ renumbered job m t 0 number p vs (λ r n. sample t 0 r n vs) phaser
          (s.number ∙ sym numbered);
      sends = sends_all (length (m.put t 0)) vs none;
    }

abbrev pub with_begun : TaskState → ℕ → TaskState
with_begun state begun = record state { begun = begun }

pub sampled_turn : {steps : ℕ} (job : Job) (old new : Machine) (t number p phase many : ℕ) (vs : List ℤ)
    (state : TaskState) → IsNextIn steps job old t turns.samples
    → slice_get old.tasks.items t ≡ Some state → p ≡ output_at job t 0
    → number ≡ get_or state.numbers.items (registration_of_output (task_at job.graph t) 0) 0
    → NextSamplesAre steps job old t vs → length vs ≡ many
    → ((m : Moment) → IsMachineAt job m old → reply_of job m p number vs ≡ Ok phase)
    → SignalledCores job old new number p vs
    → new.tasks.items ≡ set old.tasks.items t (with_begun state (state.begun + many))
    → new.lines ≡ old.lines → HadTurn steps job old new t (Event p Moved)
sampled_turn {steps} job old new t number p phase many vs state next found phaser numbered value long reply cores tasks lines =
    moved_turn job old new t p turns.samples (sample t 0 p number vs) state
    (with_begun state (state.begun + many)) next found refl
    (samples_at_place job old next.some.0 t state next next.some.1 found).there refl tt refl
    (λ m. refl) answer stands cores tasks lines
  where
    answer : (m : Moment) → IsMachineAt job m old
        → turn_in steps job old m t ≡ makes (sample t 0 p number vs)
    answer =
        accepted steps job old t number p phase vs (sample t 0 p number vs)
        (λ m at. (samples_so job old t number p vs state next found phaser numbered value m at).answer)
        reply

    stands : (m : Moment) → IsMachineAt job m old
        → IsTaskAt job (after_turn job (sample t 0 p number vs) m) t
        (with_begun state (state.begun + many))
    stands m at =
        let event = sample t 0 p number vs in
        let it = at.tasks t state found in
        let made = makes_event job m t event next.sized at.graph at.reached (answer m at) in
        let ran = (subst (λ a. IsReachable job (after_answer job a m)) (answer m at)
        (next.stays m at)).ran in
        let begun : further state.begun vs ≡ state.begun + many =
        further-length state.begun vs ∙ ap (λ n. state.begun + n) long in
        record {
          stands =
              subst (λ n. StandsUpTo state.most job (after_turn job event m) t
              (record (place_in_state state) { begun = n })) begun
              (sample_follows job m t 0 p number vs (place_in_state state) at.graph at.reached.ran
              made.next ran made.owes it.stands);
          room = it.room;
          filter = it.filter;
          most = it.most;
          made_room = it.made_room;
          made_by = it.made_by;
          made_none = it.made_none;
          sink = it.sink;
        }

pub sample_few : {steps : ℕ} (job : Job) (machine : Machine) (m : Moment) (t : ℕ)
    → IsNextIn steps job machine t turns.samples → IsMachineAt job m machine
    → 0 < length (signalled_by (task_at job.graph t))
sample_few job machine m t next at =
    let is = next.is m at in
    let there = (live-is job m t (live_next job m t turns.samples is (λ e. absurd (cc)))).there in
    omega (arith, source_ends job t at.graph there (samples_begins job m t is).kind)

-- so many samples of a task that has begun so many steps: the block that is next
pub record BlockOfSamples (job : Job) (t begun many : ℕ) (vs : List ℤ) : Type 0 where
  pub some : 1 ≤ many
  pub few : begun + many ≤ length (samples_at job t)
  pub long : length vs ≡ many
  pub here : vs ≡ take many (drop begun (samples_at job t))

pub block_of_samples : {steps : ℕ} (job : Job) (machine : Machine) (m : Moment) (t many : ℕ)
    (state : TaskState) → IsNextIn steps job machine t turns.samples → IsMachineAt job m machine
    → slice_get machine.tasks.items t ≡ Some state → sample_block_up_to steps job m t ≡ many
    → BlockOfSamples job t state.begun many (take many (drop state.begun (samples_at job t)))
block_of_samples {steps} job machine m t many state next at found block =
    let s = samples_at_place job machine m t state next at found in
    let begun : m.begun t ≡ state.begun = (at.tasks t state found).stands.begun in
    let more = s.more in
    let one_step : 1 ≤ block_up_to steps job m t = s.block in
    let rest : length (drop state.begun (samples_at job t))
    ≡ length (samples_at job t) - state.begun = length-drop state.begun (samples_at job t) in
    let few : state.begun + many ≤ length (samples_at job t) = omega arith in
    record {
      some = omega arith;
      few = few;
      long = length-take-le many (drop state.begun (samples_at job t)) (omega arith);
      here = refl;
    }

-- they are the next ones at each moment
pub next_samples_are : (steps : ℕ) (job : Job) (machine : Machine) (t many : ℕ) (state : TaskState)
    → slice_get machine.tasks.items t ≡ Some state
    → ((m : Moment) → m.begun t ≡ state.begun → sample_block_up_to steps job m t ≡ many)
    → NextSamplesAre steps job machine t (take many (drop state.begun (samples_at job t)))
next_samples_are steps job machine t many state found block m at =
    let begun : m.begun t ≡ state.begun = (at.tasks t state found).stands.begun in
    ap (λ n. take n (drop (m.begun t) (samples_at job t))) (block m begun)
    ∙ ap (λ b. take many (drop b (samples_at job t))) begun

-- ---- as the code has them

-- the samples that the code has read
pub record ReadSamples (steps : ℕ) (job : Job) (machine : Machine) (t begun many : ℕ) (vs : List ℤ) : Type 0 where
  pub there : t < length job.graph.tasks
  pub some : 1 ≤ many
  pub few : begun + many ≤ length (samples_at job t)
  pub block : many ≤ steps
  pub long : length vs ≡ many
  pub are : NextSamplesAre steps job machine t vs

pub read_samples : {steps : ℕ} (job : Job) (machine : Machine) (t block many : ℕ) (rest : List ℤ)
    (state : TaskState) → IsNextIn steps job machine t turns.samples
    → slice_get machine.tasks.items t ≡ Some state → drop state.begun (samples_at job t) ≡ rest
    → ((m : Moment) → m.begun t ≡ state.begun → block_up_to steps job m t ≡ block)
    → many ≡ min block (length rest)
    → ReadSamples steps job machine t state.begun many (take many rest)
read_samples {steps} job machine t block many rest state next found same blocks is_many =
    let m = next.some.0 in
    let at = next.some.1 in
    let xs = samples_at job t in
    let s = samples_at_place job machine m t state next at found in
    let begun : m.begun t ≡ state.begun = (at.tasks t state found).stands.begun in
    let least : (n : Moment) → n.begun t ≡ state.begun → sample_block_up_to steps job n t ≡ many =
    λ n e. ap (λ b. min b (length xs - n.begun t)) (blocks n e)
    ∙ ap (λ b. min block (length xs - b)) e
    ∙ ap (min block) (sym (length-drop state.begun xs) ∙ ap length same) ∙ sym is_many in
    let of = block_of_samples job machine m t many state next at found (least m begun) in
    let one = least m begun in
    let most = block_few steps job m t in
    let is : take many rest ≡ take many (drop state.begun xs) = ap (take many) (sym same) in
    record {
      there = s.there;
      some = of.some;
      few = of.few;
      block = omega arith;
      long = ap length is ∙ of.long;
      are = λ n stands. next_samples_are steps job machine t many state found least n stands ∙ sym is;
    }
