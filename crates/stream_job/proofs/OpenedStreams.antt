-- A stream stands at the opening, where no samples came.
use Rattle.std.proofs.Common.{◌≡◌, ℕ, zero, suc, ◌<◌, true, false, List, [], ◌∷◌, None, length, map, sym, ap, subst, ◌∙◌, arith}
use Rattle.std.specs.List.{All, range_with_len}
use Rattle.std.proofs.lemmas.Option.{get_or_from_slice_get, slice_get_within}
use Rattle.graph_base.specs.Graphs.{source_number, sources_of}
use Rattle.stream_eval.specs.Results.{sink_values}
use Rattle.stream_eval.specs.declared.whole.Lines.{Lines}
use Rattle.stream_lists.specs.Jobs.{Job, with_samples}
use Rattle.stream_lists.specs.Lists.{sinks_of}
use Rattle.graph_runs.specs.Beginnings.{opening}
use Rattle.graph_runs.proofs.AnsweredInTurn.{opening_answers_none}
use Rattle.graph_runs.proofs.AtOpening.{opening_has_begun}
use Rattle.graph_runs.proofs.Opened.{none_dropped}
use Rattle.stream_job.specs.Machines.{IsMachineAt, none_given}
use Rattle.stream_job.specs.SinkLines.{sink_begins_at, kept_by}
use Rattle.stream_job.specs.Streams.{IsStreamAt, InputKeeps, has_ended, none_came}
use Rattle.stream_job.specs.declared.input.Input.{Input}
use Rattle.stream_job.specs.declared.machine.Machine.{Machine}
use Rattle.stream_job.proofs.BareLists.{all_bare, bare-length}
use Rattle.stream_job.proofs.Begins.{opened_begins}
use Rattle.stream_job.proofs.SinkLines.{map_same}
use Rattle.stream_job.proofs.SinksKeep.{opened_kept}

-- no source has ended, where no input has
pub none_ended : (inputs : List Input) (k : ℕ) → All (λ input. input.ended ≡ false) inputs
    → k < length inputs → has_ended inputs k ≡ false
none_ended [] k opens lt = absurd (omega arith)
none_ended (x ∷ xs) zero opens lt = opens zero x lt
none_ended (x ∷ xs) (suc k) opens lt =
    none_ended xs k (λ j d less. opens (suc j) d (omega arith)) (omega arith)

pub stream_opens : (job : Job) (machine : Machine) (inputs : List Input)
    → job.samples ≡ none_came job → IsMachineAt job (opening job) machine
    → map sink_values machine.lines.items ≡ map (λ t. (t, [])) (sinks_of job)
    → map (λ (line : Lines). line.start) machine.lines.items ≡ map (λ t. None) (sinks_of job)
    → All (λ input. InputKeeps input 0 []) inputs
    → IsStreamAt record { job = job; machine = machine; inputs = inputs; met = None }
    (none_came job) (opening job) none_given
stream_opens job machine inputs none at values starts empty =
    let as_bare : job ≡ with_samples (none_came job) job = ap (λ s. with_samples s job) none in
    record {
      each = bare-length (sources_of job.graph);
      machine = subst (λ j. IsMachineAt j (opening job) machine) as_bare at;
      lines = record {
        values = values
            ∙ map_same (λ t. (t, [])) (λ t. (t, kept_by job (opening job) t)) (sinks_of job)
            (λ t. ap (λ l. (t, l)) (sym (opened_kept job t)));
        starts = starts
            ∙ map_same (λ t. None) (sink_begins_at job (opening job)) (sinks_of job)
            (λ t. sym (opened_begins job t at.graph));
      };
      kept = λ t input there kind found.
          (let k = source_number job.graph.tasks t in
          let lt = slice_get_within inputs k input found in
          subst (InputKeeps input 0) (sym (all_bare (range_with_len 0 (sources_of job.graph)) k))
          (subst (λ one. InputKeeps one 0 []) (get_or_from_slice_get inputs k input input found)
          (empty k input lt)));
      stays_open = λ t p n there pp kind over number gone. absurd
          (let q = (opening_has_begun job at.graph).opened.phasers p pp in
          let wrong : true ≡ false = sym gone
          ∙ none_dropped q.founder ((opening job).history p) n q.opening (q.apart t n number) in
          cc);
      none = opening_answers_none job;
      faults = λ there more is. absurd (cc);
    }
