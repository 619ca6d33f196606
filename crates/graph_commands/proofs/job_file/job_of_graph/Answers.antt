use Rattle.std.proofs.Common.{inr, refl, rules}
use Rattle.stream_lists.specs.JobFields.{given}
use Rattle.graph_commands.proofs.job_file.job_of_graph.Goals as goal

-- the files tell a job of which two tasks meet
pub returns-in-Err-AnyMeets-clause-fault : goal.returns-in-Err-AnyMeets-clause-fault
returns-in-Err-AnyMeets-clause-fault g c =
    λ name of. inr (
      refl,
      record {
        job = given c.args.graph c.in_ok-samples.samples.items;
        graph_of = of;
        samples_of = c.in_ok-samples.ensures.ok;
        meets = c.in-Err-AnyMeets.ensures.any_meets c.in-Err-AnyMeets.line (search rules);
      },
    )
