use Rattle.std.proofs.Common.{◌≡◌}
use Rattle.worker_pool.proofs.Telling.{HasNoted}
use Rattle.worker_pool.proofs.event_counts.EventCounts.tell.Given as goal

-- those that are left have their old counts, and of the others those that have events the next
abbrev pub invariant-loop-phaser : goal.invariant-loop-phaser
invariant-loop-phaser l =
    (l.self.next ≡ l.fn.self.next)
    × HasNoted l.fn.events l.rest l.fn.self.next l.fn.self.last l.self.last

abbrev pub decreases-loop-phaser : goal.decreases-loop-phaser
decreases-loop-phaser l = l.rest.bits
