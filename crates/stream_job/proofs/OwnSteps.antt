-- How many steps a source or a sink may make of its own accord: no more than the bound of its phaser.
use Rattle.std.proofs.Common.{◌≡◌, ℕ, zero, suc, ◌<◌, ◌≤◌, List, [], ◌∷◌, All, length, get_or, refl, sym, ap, subst, ◌∙◌, arith}
use Rattle.std.specs.Prelude.{Option, Some, ◌+◌, ◌-◌, ◌||◌, false, nat_lt, unwrap_or}
use Rattle.phase_base.specs.Members.{entry_of, least, wait_phases}
use Rattle.phase_base.specs.declared.entry.Entry.{Entry}
use Rattle.phase_base.specs.declared.limits.TheConstants.{PHASES_MAX}
use Rattle.phase_history.specs.Histories.{members_of}
use Rattle.phase_history.specs.Refusals.{is_ahead}
use Rattle.graph_base.specs.declared.line.Kind.TheVariants.{Source, Fir, Sink}
use Rattle.graph_base.specs.Graphs.{task_at, phaser_at}
use Rattle.graph_base.specs.Registrations.{signalled_by}
use Rattle.graph_base.specs.TaskLines.{HasBlock, IsGraph, has_blocks}
use Rattle.stream_lists.specs.Jobs.{Job}
use Rattle.graph_runs.specs.Answers.{output_at}
use Rattle.graph_runs.specs.Moments.{Moment, input_at, limits_at}
use Rattle.graph_runs.specs.NextBlocks.{with_block}
use Rattle.graph_runs.specs.Nexts.{number_on}
use Rattle.graph_runs.specs.TaskPlaces.{StandsUpTo, TaskPlace, registration_at, registration_of_output}
use Rattle.graph_runs.proofs.Standing.{of_output}
use Rattle.stream_job.specs.Machines.{IsMachineAt, most_in}
use Rattle.stream_job.specs.Places.{MaySignal}
use Rattle.stream_job.specs.Stepping.{MayStep, blocks_signal, blocks_signal_at}
use Rattle.stream_job.specs.declared.machine.Machine.{Machine}
use Rattle.stream_job.proofs.Ending.{number-at}
use Rattle.stream_job.proofs.Mosts.{may_signal_in}

-- what is so of the only one of a list
one_all : (P : ℕ → Type 0) (xs : List ℕ) → length xs ≡ 1 → P (get_or xs 0 0) → All P xs
one_all P [] one is = absurd (omega arith)
one_all P (x ∷ []) one is = λ i d lt. by i d lt
  where
    by : (i d : ℕ) → i < 1 → P (get_or (x ∷ []) i d)
    by zero d lt = is
    by (suc i) d lt = absurd (omega arith)
one_all P (x ∷ (y ∷ ys)) one is = absurd (omega arith)

none_all : (P : ℕ → Type 0) (xs : List ℕ) → length xs ≡ 0 → All P xs
none_all P [] none = λ i d lt. absurd (omega arith)
none_all P (x ∷ xs) none = absurd (omega arith)

pub source_may : (job : Job) (machine : Machine) (t steps : ℕ)
    → (t < length job.graph.tasks → MaySignal job t (most_in machine t)) → IsGraph job.graph
    → (task_at job.graph t).kind ≡ Source → 1 ≤ steps
    → steps ≤ (phaser_at job.graph (output_at job t 0)).bound → MayStep job machine t steps
source_may job machine t steps owed is source some few there =
    let task = task_at job.graph t in
    let ends : (length task.inputs ≡ 0) × (length task.outputs ≡ 1) =
    rw source at (is.tasks t there).ends in
    let outs : signalled_by task ≡ task.outputs = rw source refl in
    let fits : steps ≤ (phaser_at job.graph (get_or task.outputs 0 0)).bound =
    rw (ap (λ ps. get_or ps 0 0) outs) at few in
    record {
      block = record {
        some = some;
        kind = λ none. absurd (let wrong = sym (ap has_blocks source) ∙ none in cc);
        inputs = none_all (λ p. steps ≤ (phaser_at job.graph p).bound) task.inputs ends.0;
        outputs = one_all (λ p. steps ≤ (phaser_at job.graph p).bound) task.outputs ends.1 fits;
      };
      owed = (owed there).block;
      few = λ fir. absurd (let wrong : Source ≡ Fir = sym source ∙ fir in cc);
    }

pub sink_may : (job : Job) (machine : Machine) (t steps : ℕ)
    → (t < length job.graph.tasks → MaySignal job t (most_in machine t)) → IsGraph job.graph
    → (task_at job.graph t).kind ≡ Sink → 1 ≤ steps
    → steps ≤ (phaser_at job.graph (input_at (task_at job.graph t) 0)).bound
    → MayStep job machine t steps
sink_may job machine t steps owed is sink some few there =
    let task = task_at job.graph t in
    let ends : (length task.inputs ≡ 1) × (length task.outputs ≡ 0) =
    rw sink at (is.tasks t there).ends in
    record {
      block = record {
        some = some;
        kind = λ none. absurd (let wrong = sym (ap has_blocks sink) ∙ none in cc);
        inputs = one_all (λ p. steps ≤ (phaser_at job.graph p).bound) task.inputs ends.0 few;
        outputs = none_all (λ p. steps ≤ (phaser_at job.graph p).bound) task.outputs ends.1;
      };
      owed = (owed there).block;
      few = λ fir. absurd (let wrong : Sink ≡ Fir = sym sink ∙ fir in cc);
    }

-- so many steps are a block that the line of a filter may name
pub filter_names : (job : Job) (t steps : ℕ) → IsGraph job.graph → t < length job.graph.tasks
    → (task_at job.graph t).kind ≡ Fir → 1 ≤ steps
    → steps ≤ (phaser_at job.graph (input_at (task_at job.graph t) 0)).bound
    → steps ≤ (phaser_at job.graph (output_at job t 0)).bound
    → HasBlock job.graph (with_block steps (task_at job.graph t))
filter_names job t steps is there fir some few_in few_out =
    let task = task_at job.graph t in
    let ends : (length task.inputs ≡ 1) × (length task.outputs ≡ 1) =
    rw fir at (is.tasks t there).ends in
    let outs : signalled_by task ≡ task.outputs = rw fir refl in
    let fits : steps ≤ (phaser_at job.graph (get_or task.outputs 0 0)).bound =
    rw (ap (λ ps. get_or ps 0 0) outs) at few_out in
    record {
      some = some;
      kind = λ none. absurd (let wrong = sym (ap has_blocks fir) ∙ none in cc);
      inputs = one_all (λ p. steps ≤ (phaser_at job.graph p).bound) task.inputs ends.0 few_in;
      outputs = one_all (λ p. steps ≤ (phaser_at job.graph p).bound) task.outputs ends.1 fits;
    }

-- a filter has one output
pub filter_output : (job : Job) (t : ℕ) → IsGraph job.graph → t < length job.graph.tasks
    → (task_at job.graph t).kind ≡ Fir → 0 < length (signalled_by (task_at job.graph t))
filter_output job t is there fir =
    let task = task_at job.graph t in
    let ends : (length task.inputs ≡ 1) × (length task.outputs ≡ 1) =
    rw fir at (is.tasks t there).ends in
    let outs : signalled_by task ≡ task.outputs = rw fir refl in
    omega (arith, ap length outs)

-- and one input
pub filter_input : (job : Job) (t : ℕ) → IsGraph job.graph → t < length job.graph.tasks
    → (task_at job.graph t).kind ≡ Fir → 0 < length (task_at job.graph t).inputs
filter_input job t is there fir =
    let task = task_at job.graph t in
    let ends : (length task.inputs ≡ 1) × (length task.outputs ≡ 1) =
    rw fir at (is.tasks t there).ends in
    omega arith

-- a filter may make fewer steps than one event of it signals
pub fewer_may : (job : Job) (machine : Machine) (m : Moment) (t steps : ℕ)
    → IsMachineAt job m machine → (task_at job.graph t).kind ≡ Fir → 1 ≤ steps
    → steps ≤ most_in machine t → MayStep job machine t steps
fewer_may job machine m t steps at fir some few there =
    let may = may_signal_in job machine m t at there in
    record {
      block = record {
        some = some;
        kind = λ none. absurd (let wrong = sym (ap has_blocks fir) ∙ none in cc);
        inputs = λ i d lt. (let fits = may.block.inputs i d lt in omega arith);
        outputs = λ i d lt. (let fits = may.block.outputs i d lt in omega arith);
      };
      owed = may.block;
      few = λ is. few;
    }

-- one event of it signals no more than the bound of its output
pub most_within : (job : Job) (machine : Machine) (m : Moment) (t : ℕ) → IsMachineAt job m machine
    → (task_at job.graph t).kind ≡ Fir → t < length job.graph.tasks
    → most_in machine t ≤ (phaser_at job.graph (output_at job t 0)).bound
most_within job machine m t at fir there =
    let task = task_at job.graph t in
    let ends : (length task.inputs ≡ 1) × (length task.outputs ≡ 1) =
    rw fir at (at.graph.tasks t there).ends in
    let outs : signalled_by task ≡ task.outputs = rw fir refl in
    let fits : most_in machine t ≤ (phaser_at job.graph (get_or task.outputs 0 0)).bound =
    (may_signal_in job machine m t at there).block.outputs 0 0 (omega arith) in
    subst (λ q. most_in machine t ≤ (phaser_at job.graph q).bound)
    (sym (ap (λ ps. get_or ps 0 0) outs)) fits

-- ---- the room of an output

-- so many phases are not past the last, and not too far ahead of the slowest waiter
pub phases_free : {most : ℕ} (job : Job) (m : Moment) (t p k many : ℕ) (at : TaskPlace)
    (entry : Entry) (slowest : Option ℕ) → StandsUpTo most job m t at → IsGraph job.graph
    → t < length job.graph.tasks → 0 < length (signalled_by (task_at job.graph t))
    → k ≡ registration_of_output (task_at job.graph t) 0 → p ≡ output_at job t 0
    → k < length at.numbers
    → entry_of (members_of (m.history p)) (get_or at.numbers k 0) ≡ Some entry
    → least (wait_phases (members_of (m.history p))) ≡ slowest
    → (nat_lt PHASES_MAX (entry.signal_phase + many)
    || is_ahead slowest (phaser_at job.graph p).bound (entry.signal_phase + many - 1)) ≡ false
    → blocks_signal (limits_at job (output_at job t 0)) (m.history (output_at job t 0))
    (number_on m t (output_at job t 0)) many ≡ false
phases_free job m t p k many at entry slowest stands is there some place phaser within found slow free =
    let h = m.history p in
    let limits = limits_at job p in
    let out = of_output job t 0 is there some in
    let on : (registration_at job t k).phaser ≡ p =
    ap (λ i. (registration_at job t i).phaser) place ∙ out.1 ∙ sym phaser in
    let number : number_on m t p ≡ get_or at.numbers k 0 =
    ap (λ q. number_on m t q) (sym on)
    ∙ ap (λ o. unwrap_or o 0) (number-at job m t k at stands within) in
    ap (λ q. blocks_signal (limits_at job q) (m.history q) (number_on m t q) many) (sym phaser)
    ∙ ap (λ n. blocks_signal limits h n many) number
    ∙ ap (blocks_signal_at limits h many) found
    ∙ ap (λ w. nat_lt limits.phases_max (entry.signal_phase + many)
    || is_ahead w limits.bound (entry.signal_phase + many - 1)) slow
    ∙ free
