-- Small numbers are those that can be sent.
use Rattle.phase_core.proofs.OneSends.{small-sends, sends-small}
use Rattle.phase_core.proofs.one_sends.are_sends.Goals as goal

pub returns : goal.returns
returns c =
    let values = c.args.values.now in let small = c.are_small.ensures in
    (λ yes. small-sends values (small.0 yes), λ are. small.1 (sends-small values are))
