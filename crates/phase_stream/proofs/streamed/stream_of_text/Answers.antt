-- Were there samples enough, two tasks would meet.
use Rattle.std.proofs.Common.{inr, refl, rules, []}
use Rattle.phase_stream.proofs.streamed.stream_of_text.Goals as goal

pub returns-in-Err-AnyMeets-clause-fault : goal.returns-in-Err-AnyMeets-clause-fault
returns-in-Err-AnyMeets-clause-fault c =
    λ known name is. inr (
      refl,
      record {
        job = record { graph = c.in_ok-graph.graph; samples = []; starts = [] };
        graph_of = record {
          text = c.args.text.now;
          bytes = is.bytes;
          short = is.short;
          reads = search rules;
        };
        meets = c.in-Err-AnyMeets.ensures.any_meets c.in-Err-AnyMeets.line (search rules);
      },
    )
