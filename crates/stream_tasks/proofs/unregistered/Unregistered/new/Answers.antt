-- A seed is registered nowhere.
use Rattle.std.proofs.Common.{subst}
use Rattle.stream_tasks.specs.Seeds.{IsSeed}
use Rattle.stream_tasks.proofs.unregistered.Unregistered.new.Goals as goal

pub invariant_of-result : goal.invariant_of-result
invariant_of-result g c =
    let made = c.in_ok-seed.ensures in record {
      seed = subst (λ job. IsSeed job c.in_ok-seed.seed.state) c.requires.job made.seed;
      room = made.room;
      received = made.received g.J.Run.job g.J.Run.spots;
      many = made.many;
    }
