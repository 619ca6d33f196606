-- Where all rest, none stands before a value out of range.
use Rattle.std.proofs.Common.{◌∙◌}
use Rattle.stream_job.proofs.FedStops.{looks_rest}
use Rattle.stream_job.proofs.stream.Stream.settle.Goals as goal

pub returns-then-all_rest-clause-tells : goal.returns-then-all_rest-clause-tells
returns-then-all_rest-clause-tells c =
    looks_rest c.rounds.new.self
    (λ s m given at. c.all_rest.ensures s m given at ∙ c.if-all_rest.true)
