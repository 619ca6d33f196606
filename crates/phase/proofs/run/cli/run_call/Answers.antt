use Rattle.std.proofs.Common.{◌∙◌, refl, sym, subst}
use Rattle.graph_commands.proofs.Counted.{known-same}
use Rattle.graph_commands.proofs.Ends.{failure-not-done, fails-place, unanswered-place}
use Rattle.phase_words.specs.RunLine.{run_of}
use Rattle.graph_commands.specs.Folders.{known_by}
use Rattle.phase.specs.Ends.{MayEndAsRun}
use Rattle.phase.specs.Runs.{Stalls}
use Rattle.phase.proofs.Asking.{failure-ends}
use Rattle.phase.proofs.run.cli.run_call.Goals as goal

-- its failure has the place that it tells of
pub report-requires : goal.report-requires
report-requires g c =
    let known = g.F.Files.file c.look_by.new.files in
    let what = run_of c.args.call in
    fails-place _ _ g.W.Write.contents _ _ c.in-Err.failure
    (unanswered-place (Stalls known what.graph) known what.graph what.sink) c.in-Err.ensures.failed

pub returns-in-Err-clause-status : goal.returns-in-Err-clause-status
returns-in-Err-clause-status g c =
    subst MayEndAsRun (sym c.report.ensures.status) (failure-ends c.in-Err.failure)

-- the files are known beside the graph where that is asked for
pub returns-in-Ok-clause-ends : goal.returns-in-Ok-clause-ends
returns-in-Ok-clause-ends g c =
    let known = known_by c.args.call.beside c.args.call.graph.now (g.F.Files.file c.args.streams.now.files) in
    let moved = known-same (g.F.Files.file c.look_by.new.files) known c.look_by.ensures in
    record {
      ends = record {
        done = λ done. rw moved at c.in-Ok.ensures.done;
        stops = λ other. absurd (other refl);
      };
      counts = λ done. c.tell_counts.ensures.told;
    }

pub returns-in-Err-clause-ends : goal.returns-in-Err-clause-ends
returns-in-Err-clause-ends g c =
    let known = known_by c.args.call.beside c.args.call.graph.now (g.F.Files.file c.args.streams.now.files) in
    let moved = known-same (g.F.Files.file c.look_by.new.files) known c.look_by.ensures in
    record {
      ends = record {
        done = λ done. absurd (failure-not-done c.in-Err.failure (sym c.report.ensures.status ∙ done));
        stops = λ other. record {
          found = c.in-Err.failure;
          fails = rw moved at c.in-Err.ensures.failed;
          status_is = c.report.ensures.status;
          told = c.report.ensures.told;
        };
      };
      counts = λ done. absurd (failure-not-done c.in-Err.failure (sym c.report.ensures.status ∙ done));
    }

pub returns-in-Err-clause-quiet : goal.returns-in-Err-clause-quiet
returns-in-Err-clause-quiet g c =
    λ done. absurd (failure-not-done c.in-Err.failure (sym c.report.ensures.status ∙ done))
