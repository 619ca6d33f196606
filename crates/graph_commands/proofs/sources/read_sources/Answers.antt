use Rattle.std.proofs.Common.{◌≡◌, ◌<◌, ◌+◌, ◌∙◌, ◌≤◌, length, ℕ, List, true, false, Bool, sym, ap, subst, arith, rules}
use Rattle.std.specs.declared.option.Option.{Option}
use Rattle.std.proofs.lemmas.List.{length_push}
use Rattle.std.proofs.lemmas.List.Elements.{All-push}
use Rattle.std.proofs.lemmas.List.Sums.{count_by_more_yes, count_by_more_no}
use Rattle.phase_accum.specs.Sends.{AreSends}
use Rattle.graph_base.specs.Graphs.{Task, no_task, is_source, source_number, task_at}
use Rattle.graph_lang.specs.Samples.{AreSamplesOf}
use Rattle.graph_lang.specs.declared.sample.TheConstants.{TEXT_MAX}
use Rattle.stream_lists.specs.JobFields.{items_of}
use Rattle.stream_lists.proofs.Basics.{source_within}
use Rattle.graph_commands.specs.FileJobs.{AreFirstSamples, Explains, IsReached, Known, file_of}
use Rattle.graph_commands.proofs.Counted.{items_of-push, known-same, length-items_of, samples-push}
use Rattle.graph_commands.proofs.sources.read_sources.Goals as goal
use Rattle.graph_commands.proofs.sources.read_sources.Goals.{then-is_source+in-Ok+in-Ok-push, else-is_source}

pub read_source-requires-clause-source : goal.read_source-requires-clause-source
read_source-requires-clause-source g c =
    let within : c.loop-t.t < length c.args.graph.now.tasks = search rules in
    let is : is_source (task_at c.args.graph.now c.loop-t.t).kind ≡ true = search rules in
    let number : c.len.result ≡ length c.loop-t.lists.items = search rules in
    omega (arith, number, c.loop-t.invariant.0, source_within c.args.graph.now c.loop-t.t within is)

-- the source was reached
pub returns-in-Err-clause-fault : goal.returns-in-Err-clause-fault
returns-in-Err-clause-fault g c = λ name graph_of.
    let same = known-same (g.F.Files.file c.loop-t.files) (g.F.Files.file c.args.files.now)
    c.loop-t.invariant.5 in
    let within : c.loop-t.t < length c.args.graph.now.tasks = search rules in
    let is : is_source (task_at c.args.graph.now c.loop-t.t).kind ≡ true = search rules in
    let reached : IsReached (g.F.Files.file c.args.files.now) name c.args.graph.now c.loop-t.t =
    record {
      graph_of = graph_of;
      task = within;
      source = is;
      samples = items_of c.loop-t.lists.items;
      above = length-items_of c.loop-t.lists.items ∙ c.loop-t.invariant.0;
      samples_of = c.loop-t.invariant.2;
    } in
    subst (λ (known : Known). Explains known name c.in-Err.fault) same
    (c.in-Err.ensures.fault name
    (subst (λ (known : Known). IsReached known name c.args.graph.now c.loop-t.t) (sym same) reached))

-- one more task, and its samples where it is a source
pub loop-t-preserved : goal.loop-t-preserved
loop-t-preserved g c =
    let graph = c.args.graph.now in
    let within : c.loop-t.t < length graph.tasks = search rules in
    let is_source_task : Task → Bool = λ task. is_source task.kind in
    let before = c.loop-t.invariant in
    elim c.if-is_source.branch [
      | then-is_source+in-Ok+in-Ok-push w ↦
          (let is : is_source (task_at graph c.loop-t.t).kind ≡ true = search rules in
          let more = count_by_more_yes is_source_task graph.tasks c.loop-t.t no_task within is in
          let lists = c.loop-t.lists.items in
          let list = w.in-Ok.list in
          let At : Option (List ℕ) → Type 0 = λ known. AreSamplesOf known list.items in
          let here = subst At (before.5 (file_of graph c.loop-t.t)) w.in-Ok.ensures.ok in
          let first = samples-push (g.F.Files.file c.args.files.now) graph (items_of lists)
          list.items (source_number graph.tasks c.loop-t.t) (length-items_of lists ∙ before.0)
          before.2 here in
          rw (w.files-is, w.lists-is, w.in-Ok-push.ensures.items) (
            length_push lists list ∙ (ap (λ n. n + 1) before.0 ∙ sym more),
            omega (arith, within),
            subst (AreFirstSamples (g.F.Files.file c.args.files.now) graph)
                (sym (items_of-push lists list)) first,
            All-push (λ list. AreSends list.items) lists list before.3 w.in-Ok.ensures.values.0,
            All-push (λ list. length list.items ≤ TEXT_MAX) lists list before.4
                w.in-Ok.ensures.values.1,
            λ other. w.in-Ok.ensures.same other ∙ before.5 other,
          ))
      | else-is_source w ↦
          (let is : is_source (task_at graph c.loop-t.t).kind ≡ false = search rules in
          let none = count_by_more_no is_source_task graph.tasks c.loop-t.t no_task within is in
          rw (w.lists-is, w.files-is) (
            before.0 ∙ sym none,
            omega (arith, within),
            before.2,
            before.3,
            before.4,
            before.5,
          ))
    ]
