use Rattle.std.proofs.Common.{inr, refl, rules}
use Rattle.stream_lists.specs.JobFields.{given}
use Rattle.phase_c.proofs.evaluate.job_lent.Goals as goal

-- the text and the samples tell a job of which two tasks meet
pub returns-in-Err-AnyMeets-clause-refused : goal.returns-in-Err-AnyMeets-clause-refused
returns-in-Err-AnyMeets-clause-refused c =
    inr (
      refl,
      record {
        job = given c.in-Ok.graph c.in-Ok-lists_of.lists.items;
        lent = record {
          graph_lent = c.in-Ok.ensures.lent;
          samples_are = c.in-Ok-lists_of.ensures.lists;
        };
        least = refl;
        meets = c.in-Err-AnyMeets.ensures.any_meets c.in-Err-AnyMeets.line (search rules);
      },
    )
