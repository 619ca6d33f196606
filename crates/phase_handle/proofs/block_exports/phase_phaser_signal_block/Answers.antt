-- A number that names no single is refused, and no other is for that.
use Rattle.std.proofs.lemmas.Int.{to_z-of_z}
use Rattle.phase_handle.proofs.block_exports.phase_phaser_signal_block.Goals as goal

pub returns-in_default-clause-call : goal.returns-in_default-clause-call
returns-in_default-clause-call c =
    λ op limits h named holds names. absurd ((simp (to_z-of_z, c.ranges.low, c.ranges.high) at
    (c.single_of.ensures.none c.in_default.is named)) names)

pub returns-in_default-clause-after : goal.returns-in_default-clause-after
returns-in_default-clause-after c =
    λ op limits h named holds names. absurd ((simp (to_z-of_z, c.ranges.low, c.ranges.high) at
    (c.single_of.ensures.none c.in_default.is named)) names)

pub returns-in_default-clause-bad_value : goal.returns-in_default-clause-bad_value
returns-in_default-clause-bad_value c =
    λ named there names. absurd ((simp (to_z-of_z, c.ranges.low, c.ranges.high) at
    (c.single_of.ensures.none c.in_default.is named)) names)

pub returns-then-not-are_sends-clause-bad_single :
    goal.returns-then-not-are_sends-clause-bad_single
returns-then-not-are_sends-clause-bad_single c =
    λ there none. absurd (none c.in-Some.named
    (simp (to_z-of_z, c.ranges.low, c.ranges.high) at c.in-Some.ensures.names))

pub returns-in-Ok-Ok-clause-bad_single : goal.returns-in-Ok-Ok-clause-bad_single
returns-in-Ok-Ok-clause-bad_single c =
    λ there none. absurd (none c.in-Some.named
    (simp (to_z-of_z, c.ranges.low, c.ranges.high) at c.in-Some.ensures.names))

pub returns-in-Ok-Err-clause-bad_single : goal.returns-in-Ok-Err-clause-bad_single
returns-in-Ok-Err-clause-bad_single c =
    λ there none. absurd (none c.in-Some.named
    (simp (to_z-of_z, c.ranges.low, c.ranges.high) at c.in-Some.ensures.names))

pub returns-in-Err-clause-bad_single : goal.returns-in-Err-clause-bad_single
returns-in-Err-clause-bad_single c =
    λ there none. absurd (none c.in-Some.named
    (simp (to_z-of_z, c.ranges.low, c.ranges.high) at c.in-Some.ensures.names))
