use Rattle.std.proofs.Common.{◌≡◌, ◌++◌, ◌+◌, ◌-◌, ◌≤◌, length, map, take, drop, ap, subst, ◌∙◌, arith}
use Rattle.std.specs.Prelude.{unsigned_abs}
use Rattle.std.specs.List.{All, range_with_len}
use Rattle.stream_filters.specs.Lanes.{output_shown}
use Rattle.std.proofs.lemmas.List.{length-append}
use Rattle.stream_filters.specs.Weighing.{span}
use Rattle.stream_filters.specs.WeigherFields.{AreSmallAt, window_of}
use Rattle.stream_filters.proofs.Lines.{AreRecent, AreRecent-same, AreRecent-behind}
use Rattle.stream_filters.proofs.AtOnce.{AreSmallAt-behind, HasWeighed-block, shown_is}
use Rattle.stream_filters.proofs.WholeLists.{IsNarrow-shown, shown}
use Rattle.stream_filters.proofs.weigher.Weigher.makes_at_once.Goals as goal
use Rattle.stream_filters.proofs.weigher.Weigher.makes_at_once.Goals.{After-deref-2}

-- the window stays while room is made
kept : (c : After-deref-2) → window_of (span c.self.inside.taps.items c.self.inside.form) c.make_room.new.line.items
    ≡ window_of (span c.self.inside.taps.items c.self.inside.form) c.self.inside.line.items
kept c =
    let count : c.self.inside.form.delay + c.len.result
    ≡ span c.self.inside.taps.items c.self.inside.form = omega (arith, c.len.ensures) in
    subst (λ n. window_of n c.make_room.new.line.items ≡ window_of n c.self.inside.line.items)
    count c.make_room.ensures.last

held : (c : After-deref-2)
    → span c.self.inside.taps.items c.self.inside.form ≤ length c.make_room.new.line.items
held c = omega (arith, c.len.ensures, c.make_room.ensures.held)

-- the samples are within the limit
within : (c : After-deref-2)
    → All (λ x. unsigned_abs x ≤ c.self.inside.limit) c.args.samples.now
within c = c.are_within.ensures.0 c.if-not-are_within.false

-- and so are the last ones of the line
recent : (c : After-deref-2) → AreRecent c.self.inside.limit
    (span c.self.inside.taps.items c.self.inside.form) 0
    c.make_room.new.line.items
recent c =
    AreRecent-same _ (span c.self.inside.taps.items c.self.inside.form) 0 c.make_room.new.line.items
    c.self.inside.line.items (kept c)
    (λ j lt. c.self.invariant.recent j (omega (arith, c.if-self-gt0.false)))

small : (c : After-deref-2) → AreSmallAt c.self.inside.taps.items
    c.self.inside.form.plus (c.make_room.new.line.items ++ c.args.samples.now)
    (length c.make_room.new.line.items - c.self.inside.form.delay)
small c =
    AreSmallAt-behind c.self.inside.taps.items c.make_room.new.line.items c.args.samples.now
    c.self.inside.form c.self.inside.limit c.self.invariant.short c.self.invariant.light
    c.requires.many (held c) (recent c) (within c)

-- the part of the line that is read
read : (c : After-deref-2) → let end = c.len-2.result - c.self.inside.form.delay in
    take (end - (end + 1 - 16 - c.len-3.result)) (drop (end + 1 - 16 - c.len-3.result) c.deref.result.now)
    ≡ shown c.self.inside.taps.items (c.make_room.new.line.items ++ c.args.samples.now)
    (length c.make_room.new.line.items - c.self.inside.form.delay)
read c =
    shown_is c.self.inside.taps.items c.make_room.new.line.items c.args.samples.now
    c.deref.result.now c.self.inside.form (c.len-2.result - c.self.inside.form.delay) c.len-3.result
    (c.deref.ensures.value ∙ c.put_all.ensures.items) c.requires.many
    (omega (arith, c.len-2.ensures, c.deref.ensures.len)) (omega (arith, c.len-3.ensures)) (held c)

pub block_outputs-outputs-requires-clause-narrow :
    goal.block_outputs-outputs-requires-clause-narrow
block_outputs-outputs-requires-clause-narrow c =
    let here = (goal.at.block_outputs-outputs-requires-clause-narrow c).After-deref-2 in
    let line = c.make_room.new.line.items in
    let some = c.self.invariant.are_ahead.some in
    rw (c.deref-2.ensures.value, read here) (IsNarrow-shown c.self.inside.taps.items
    (line ++ c.args.samples.now) c.self.inside.form (length line - c.self.inside.form.delay)
    c.self.invariant.are_ahead (small here) (omega (arith, held here, some))
    (omega (arith, length-append line c.args.samples.now, c.requires.many, held here)))

pub invariant_of-self : goal.invariant_of-self
invariant_of-self c =
    let here = (goal.at.invariant_of-self c).After-deref-2 in
    let n = span c.self.inside.taps.items c.self.inside.form in
    let line = c.make_room.new.line.items in
    let all = line ++ c.args.samples.now in
    let long : length all ≡ length line + 16 =
    length-append line c.args.samples.now ∙ ap (λ m. length line + m) c.requires.many in
    record {
      are_ahead = c.self.invariant.are_ahead;
      held = omega (arith, held here, long, ap length c.put_all.ensures.items);
      room = omega (
        arith,
        c.put_all.ensures.capacity,
        c.make_room.ensures.capacity,
        c.self.invariant.room,
      );
      short = c.self.invariant.short;
      light = c.self.invariant.light;
      recent = λ j lt.
          rw c.put_all.ensures.items
          (AreRecent-behind c.self.inside.limit n line c.args.samples.now (recent here) (within here)
          (held here) j (omega arith));
    }

pub returns-clause-all : goal.returns-clause-all
returns-clause-all c =
    let here = (goal.at.returns-clause-all c).After-deref-2 in
    let taps = c.self.inside.taps.items in
    let line = c.make_room.new.line.items in
    let form = c.self.inside.form in
    let end = c.len-2.result - form.delay in
    let outputs_are : c.block_outputs-outputs.result
    ≡ map (output_shown taps form (shown taps (line ++ c.args.samples.now)
    (length line - form.delay))) (range_with_len 0 16) =
    c.block_outputs-outputs.ensures
    ∙ (ap (λ t. map (output_shown t form (take (end - (end + 1 - 16 - c.len-3.result))
    (drop (end + 1 - 16 - c.len-3.result) c.deref.result.now))) (range_with_len 0 16))
    c.deref-2.ensures.value
    ∙ ap (λ l. map (output_shown taps form l) (range_with_len 0 16)) (read here)) in
    λ yes. rw (← c.self.view_is, c.put_all.ensures.items, c.put_all-2.ensures.items)
    (HasWeighed-block taps line c.self.inside.line.items c.args.samples.now
    c.block_outputs-outputs.result c.args.made.now.items form c.self.invariant.are_ahead
    (small here) (held here) c.requires.many (kept here) outputs_are)
