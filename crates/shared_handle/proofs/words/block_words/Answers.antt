-- The first refusal is told, and a single that is named is found.
use Rattle.std.proofs.Common.{◌≡◌, Err, true, ap}
use Rattle.std.proofs.lemmas.Int.{to_z-of_z}
use Rattle.shared_handle.proofs.FirstRefusals.{no_single_in_block, no_sends_in_block, all_good_in_block}
use Rattle.shared_handle.proofs.words.block_words.Goals as goal

pub returns-in_default-clause-good : goal.returns-in_default-clause-good
returns-in_default-clause-good c = λ named names are.
    absurd ((simp (to_z-of_z, c.ranges.low, c.ranges.high) at
    (c.single_of.ensures.none c.in_default.is named)) names)

pub returns-in_default-clause-bad : goal.returns-in_default-clause-bad
returns-in_default-clause-bad c = λ status bad.
    ap Err (no_single_in_block c.args.values.now c.args.single c.args.low c.args.high status
    (λ named names. (simp (to_z-of_z, c.ranges.low, c.ranges.high) at
    (c.single_of.ensures.none c.in_default.is named)) names)
    bad)

pub returns-then-not-are_sends-clause-bad : goal.returns-then-not-are_sends-clause-bad
returns-then-not-are_sends-clause-bad c = λ status bad.
    let own = simp (to_z-of_z, c.ranges.low, c.ranges.high) at c.in-Some.ensures.names in
    let none = c.if-not-are_sends.true in
    ap Err (no_sends_in_block c.args.values.now c.args.single c.args.low c.args.high status
    (c.in-Some.named, own) (λ are. let all = c.are_sends.ensures.1 are in cc) bad)

pub returns-clause-bad : goal.returns-clause-bad
returns-clause-bad c = λ status bad.
    let own = simp (to_z-of_z, c.ranges.low, c.ranges.high) at c.in-Some.ensures.names in
    let all : c.are_sends.result ≡ true = let some = c.if-not-are_sends.false in cc in
    absurd (all_good_in_block c.args.values.now c.args.single c.args.low c.args.high status
    (c.in-Some.named, own) (c.are_sends.ensures.0 all) bad)
