-- A filter owes what it has made, and another task what follows its first wait.
use Rattle.std.proofs.Common.{Bool, Option, true, false, ◌≡◌, ◌∷◌, [], pos, get_or, refl, sym, ap, subst, ◌∙◌, rules, SFits, w64, to_z, of_z, to_z-of_z}
use Rattle.std.specs.Prelude.{IfSome}
use Rattle.std.specs.Bool.{then_some}
use Rattle.phase_accum.specs.declared.outcome.Outcome.TheVariants.{Value}
use Rattle.graph_base.specs.Graphs.{task_at}
use Rattle.graph_base.specs.declared.line.Kind.TheVariants.{Fir}
use Rattle.graph_runs.specs.TaskPlaces.{owed_after_wait}
use Rattle.graph_runs.specs.declared.owed.Owed.{Owed}
use Rattle.graph_runs.specs.declared.owed.Owed.TheVariants.{Nothing}
use Rattle.stream_lists.specs.Lists.{number}
use Rattle.stream_tasks.specs.Children.{HasTakenFirst}
use Rattle.stream_tasks.specs.Tasks.{owed_by}
use Rattle.stream_tasks.proofs.Taking.{filter_owes, others_owe}
use Rattle.stream_tasks.proofs.turn.owed_after.Goals as goal

pub returns-in-Fir-clause-taken : goal.returns-in-Fir-clause-taken
returns-in-Fir-clause-taken c =
    subst H (sym c.then_some.ensures) (by c.filter_all.result refl)
  where
    H : Option Owed → Type 0
    H answer = IfSome answer (λ owed. HasTakenFirst c.args.job.now c.args.t c.args.begun c.args.got.now
        c.args.filter.now c.filter_all.new.filter owed c.filter_all.new.made.items)

    by : (made : Bool) → c.filter_all.result ≡ made → H (then_some made Nothing)
    by false e = tt
    by true e =
        let task = task_at c.args.job.now.graph c.args.t in
        let fir = sym c.kind_of.ensures ∙ c.in-Fir.is in
        record {
          fit = c.all_fit.ensures c.if-not-all_fit.false;
          owes = λ taken has. filter_owes task c.args.begun taken c.args.got.now
              c.filter_all.new.made.items fir c.requires.block.0 (c.filter_all.ensures.made e taken has);
          filter = c.filter_all.ensures.filter e;
          filters = λ is. refl;
          others = λ no. absurd (no fir);
        }

pub returns-in_default-clause-taken : goal.returns-in_default-clause-taken
returns-in_default-clause-taken c =
    let task = task_at c.args.job.now.graph c.args.t in
    let os = c.args.got.now in
    let none = Value (pos 0) in
    let no_filter : task.kind ≡ Fir → ⊥ = λ fir. c.in_default.not-Fir (c.kind_of.ensures ∙ fir) in
    let fits : SFits w64 c.number_taken-x.result = search rules in
    let got : to_z w64 (of_z w64 c.number_taken-x.result) ≡ number (get_or os 0 none) =
    to_z-of_z fits ∙ c.number_taken-x.ensures in
    record {
      fit = c.all_fit.ensures c.if-not-all_fit.false;
      owes = λ taken has.
          ap (λ made. owed_by c.owed_after_wait.result made) c.requires.made.0
          ∙ c.owed_after_wait.ensures.owed taken has
          ∙ ap (λ x. owed_after_wait task c.args.begun taken (x ∷ [])) got
          ∙ others_owe task c.args.begun taken os none c.requires.source no_filter c.requires.block.1;
      filter = λ taken has fir. absurd (no_filter fir);
      filters = λ fir. absurd (no_filter fir);
      others = λ no. c.requires.made.0;
    }

pub returns-in_default-clause-others : goal.returns-in_default-clause-others
returns-in_default-clause-others c = λ no. c.requires.made.0
