-- The lines of the sinks begin what these take, also where the last block had a value too big.
use Rattle.std.proofs.Common.{◌≡◌, ◌≢◌, ℕ, ℤ, Bool, true, false, eqb, List, [], ◌++◌, Option, Some, None, map, refl, sym, ap, subst, ◌∙◌}
use mathlib.Core.List.{IsPrefix}
use Rattle.std.proofs.lemmas.Bool.{eqb-true, eq-eqb}
use Rattle.std.proofs.lemmas.List.{append-nil, append_assoc}
use Rattle.phase_accum.specs.declared.outcome.Outcome.{Outcome}
use Rattle.graph_base.specs.declared.line.Kind.TheVariants.{Sink}
use Rattle.graph_base.specs.Graphs.{is_sink, task_at}
use Rattle.stream_lists.specs.Jobs.{Job}
use Rattle.stream_lists.specs.Lists.{is_sink_at, number}
use Rattle.stream_lists.specs.Ranges.{Where}
use Rattle.stream_lists.proofs.Basics.{sink_kind}
use Rattle.graph_runs.specs.Moments.{Moment, HasAnsweredNone}
use Rattle.graph_runs.specs.TaskEvents.{TaskEvent, IsNext, sample, signal, first_wait, exchange_wait, leave, child, child_now, after_turn}
use Rattle.graph_runs.specs.Answers.{Answer, makes, is_blocked, is_gone, has_made, is_refused, after_answer, turn_up_to}
use Rattle.graph_runs.proofs.Turning.{turn_makes_next}
use Rattle.stream_job.specs.Machines.{IsMachineAt}
use Rattle.stream_job.specs.SinkLines.{kept_by, kept_of, KeepsBeginnings}
use Rattle.stream_job.specs.Worlds.{HasMet}
use Rattle.stream_job.specs.declared.machine.Machine.{Machine}
use Rattle.stream_job.proofs.Events.{taken_other}
use Rattle.stream_job.proofs.SinksKeep.{all_kept, kept_begins, kept_other, kept_wait, sink_reads}
use Rattle.stream_job.proofs.FirstTurns.{first_is, zero_first}
use Rattle.graph_runs.specs.NextBlocks.{MaySize}

-- a list begins an equal one
same_begins : (xs ys : List ℤ) → xs ≡ ys → IsPrefix xs ys
same_begins xs ys same = ([], append-nil xs ∙ same)

-- what is kept begins what was got, behind the same
more_begins : (xs : List ℤ) (outcomes : List Outcome)
    → IsPrefix (xs ++ kept_of outcomes) (xs ++ map number outcomes)
more_begins xs outcomes =
    let begins = kept_begins outcomes in (
      begins.0,
      append_assoc xs (kept_of outcomes) begins.0 ∙ ap (λ l. xs ++ l) begins.1,
    )

-- where no wait was answered a value that is too big
pub none_begins : (job : Job) (m : Moment) (machine : Machine) → IsMachineAt job m machine
    → HasAnsweredNone job m → KeepsBeginnings job m
none_begins job m machine at none u there sink =
    same_begins (kept_by job m u) (m.taken u 0)
    (all_kept job m u at.graph at.reached.ran none there (sink_reads job u at.graph there sink))

-- after one event more
event_begins : (job : Job) (m : Moment) (machine : Machine) (event : TaskEvent)
    → IsMachineAt job m machine → HasAnsweredNone job m → IsNext job m event
    → KeepsBeginnings job (after_turn job event m)
event_begins job m machine event at none next u there sink = by event next
  where
    kept : kept_by job m u ≡ m.taken u 0
    kept = all_kept job m u at.graph at.reached.ran none there (sink_reads job u at.graph there sink)

    other : (event : TaskEvent) → kept_by job m u ≡ kept_by job (after_turn job event m) u
        → (after_turn job event m).taken u 0 ≡ m.taken u 0
        → IsPrefix (kept_by job (after_turn job event m) u) ((after_turn job event m).taken u 0)
    other event same taken =
        same_begins (kept_by job (after_turn job event m) u) ((after_turn job event m).taken u 0)
        (sym same ∙ kept ∙ sym taken)

    waits : (t k p n : ℕ) (outcomes : List Outcome) → IsNext job m (first_wait t k p n outcomes)
        → (b : Bool) → eqb u t ≡ b
        → IsPrefix (kept_by job (after_turn job (first_wait t k p n outcomes) m) u)
        ((after_turn job (first_wait t k p n outcomes) m).taken u 0)
    waits t k p n outcomes next false e =
        let apart : u ≢ t = λ same. (let no = sym (eq-eqb u t same) ∙ e in cc) in
        other (first_wait t k p n outcomes)
        (kept_other job m (first_wait t k p n outcomes) u at.reached.ran next there apart)
        (taken_other job m (first_wait t k p n outcomes) u 0 apart)
    waits t k p n outcomes next true e =
        let same : t ≡ u = sym (eqb-true u t e) in
        let after = after_turn job (first_wait t k p n outcomes) m in
        let kind : (task_at job.graph t).kind ≡ Sink =
        sink_kind (task_at job.graph t).kind (ap (is_sink_at job) same ∙ sink) in
        let zero_is : k ≡ 0 =
        zero_first (task_at job.graph t) (m.begun t) k Sink kind (λ j. absurd (cc)) next.1.first in
        let its : kept_by job m t ≡ m.taken t 0 =
        ap (kept_by job m) same ∙ kept ∙ ap (λ x. m.taken x 0) (sym same) in
        let Begins : ℕ → Type 0 = λ x. IsPrefix (kept_by job after x) (after.taken x 0) in
        let More : List ℤ → Type 0 = λ l. IsPrefix l (after.taken t 0) in
        let Less : List ℤ → Type 0 = λ l. IsPrefix (m.taken t 0 ++ kept_of outcomes) l in
        subst Begins same
        (subst More (sym (kept_wait job m t k p n outcomes none next zero_is
        ∙ ap (λ l. l ++ kept_of outcomes) its))
        (subst Less (sym (first_is job m t k p n outcomes zero_is))
        (more_begins (m.taken t 0) outcomes)))

    by : (event : TaskEvent) → IsNext job m event
        → IsPrefix (kept_by job (after_turn job event m) u) ((after_turn job event m).taken u 0)
    by (sample t j p n vs) next =
        other (sample t j p n vs)
        (kept_other job m (sample t j p n vs) u at.reached.ran next there tt) refl
    by (signal t j p n vs) next =
        other (signal t j p n vs)
        (kept_other job m (signal t j p n vs) u at.reached.ran next there tt) refl
    by (first_wait t k p n outcomes) next = waits t k p n outcomes next (eqb u t) refl
    by (exchange_wait t p n outcome) next =
        let apart : u ≢ t = λ same. (let peer : is_sink_at job t ≡ false = ap is_sink next.1.peer in
        let wrong : true ≡ false = sym sink ∙ ap (is_sink_at job) same ∙ peer in cc) in
        other (exchange_wait t p n outcome)
        (kept_other job m (exchange_wait t p n outcome) u at.reached.ran next there apart)
        (taken_other job m (exchange_wait t p n outcome) u 0 apart)
    by (leave t p n) next =
        other (leave t p n) (kept_other job m (leave t p n) u at.reached.ran next there tt) refl
    by (child t p n c a mode) next =
        other (child t p n c a mode)
        (kept_other job m (child t p n c a mode) u at.reached.ran next there tt) refl
    by (child_now t p n c a) next =
        other (child_now t p n c a)
        (kept_other job m (child_now t p n c a) u at.reached.ran next there tt) refl

-- after one turn more
pub turn_begins : {steps most : ℕ} (job : Job) (m : Moment) (machine : Machine) (t : ℕ)
    → MaySize job.graph t steps most → IsMachineAt job m machine → HasAnsweredNone job m
    → KeepsBeginnings job (after_answer job (turn_up_to steps most job m t) m)
turn_begins {steps} {most} job m machine t sized at none = by (turn_up_to steps most job m t) refl
  where
    by : (answer : Answer) → turn_up_to steps most job m t ≡ answer
        → KeepsBeginnings job (after_answer job answer m)
    by (makes event) e =
        event_begins job m machine event at none
        (turn_makes_next steps most job m t event sized at.graph at.reached.ran (λ c due. at.reached.to_come) e)
    by is_blocked e = none_begins job m machine at none
    by is_gone e = none_begins job m machine at none
    by (has_made there) e = none_begins job m machine at none
    by is_refused e = none_begins job m machine at none

-- at any moment of a world
pub met_begins : (job : Job) (m : Moment) (machine : Machine) (met : Option Where)
    → IsMachineAt job m machine → HasMet job m met → KeepsBeginnings job m
met_begins job m machine None at met = none_begins job m machine at met
met_begins job m machine (Some there) at met = met.lines
