-- By what the task is: a filter, a source or a sink, or another.
use Rattle.std.proofs.Common.{rules, SFits, w64, to_z, of_z, pos, ◌≡◌, ◌⊎◌, ◌+◌, ◌∷◌, [], length, map, get_or, refl, sym, ap, subst, ◌∙◌, arith, to_z-of_z}
use Rattle.std.proofs.lemmas.List.{length-map}
use Rattle.phase_accum.specs.declared.outcome.Outcome.TheVariants.{Value}
use Rattle.graph_base.specs.declared.line.Kind.TheVariants.{Source, Fir, Sink}
use Rattle.graph_base.specs.Graphs.{task_at}
use Rattle.stream_lists.specs.Lists.{number}
use Rattle.graph_runs.specs.TaskPlaces.{owed_after_wait}
use Rattle.stream_job.specs.Places.{StateHasTaken}
use Rattle.stream_job.specs.declared.task_state.TaskState.{TaskState}
use Rattle.stream_job.proofs.Taking.{IsSingle, took_values, took_freely, took_one}
use Rattle.stream_job.proofs.task_state.TaskState.take.Goals.{in-Fir, in-Source, in-Split}
use Rattle.stream_job.proofs.task_state.TaskState.take.Goals as goal

pub returns-clause-taken : goal.returns-clause-taken
returns-clause-taken c =
    let task = task_at c.args.job.now.graph c.args.t in
    let old = c.args.self.now in
    let os = c.args.outcomes.now in
    let xs = map number os in
    let long : length xs ≡ length os = length-map os number in
    let begun : old.begun + length os ≡ old.begun + length xs = ap (λ n. old.begun + n) (sym long) in
    let some = c.requires.block.0 in
    let S : TaskState → Type 0 =
    λ s. StateHasTaken task xs old (record s { begun = s.begun + length os }) in
    elim c.match-kind_of.branch as (λ w. S c.match-kind_of.self) [
      | in-Fir w ↦
          let fir : task.kind ≡ Fir = sym c.kind_of.ensures ∙ w.in-Fir.is in
          subst S (sym w.self-is)
          (took_values task xs old _ fir (omega arith) c.requires.nothing.0 c.requires.nothing.1
          w.filter_all.ensures.filtered (record {
            numbers = refl;
            left = refl;
            sink = refl;
            begun = begun;
            most = refl;
            room = w.filter_all.ensures.room;
          }))
      | in-Source w ↦
          subst S (sym w.self-is)
          (took_freely task xs old _
          (subst (λ k. (k ≡ Source) ⊎ (k ≡ Sink)) c.kind_of.ensures w.in-Source.is)
          c.requires.nothing.0 c.requires.nothing.1 (record {
            numbers = refl;
            left = refl;
            sink = refl;
            begun = begun;
            most = refl;
            room = refl;
          }))
      | in-Split w ↦
          let x = number (get_or os 0 (Value (pos 0))) in
          let fits : SFits w64 w.number_taken-x.result = search rules in
          let got : to_z w64 (of_z w64 w.number_taken-x.result) ≡ x =
          to_z-of_z fits ∙ w.number_taken-x.ensures in
          subst S (sym w.self-is)
          (took_one task os (Value (pos 0)) old _
          (subst IsSingle c.kind_of.ensures w.in-Split.is)
          c.requires.block.1 c.requires.nothing.1
          (λ taken has. w.owed_after_wait-self.ensures.owed taken has
          ∙ ap (λ y. owed_after_wait task old.begun taken (y ∷ [])) got) (record {
            numbers = refl;
            left = refl;
            sink = refl;
            begun = begun;
            most = refl;
            room = refl;
          }))
    ]
