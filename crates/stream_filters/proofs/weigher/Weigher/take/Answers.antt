use Rattle.std.proofs.Common.{◌≡◌, ◌≤◌, ◌+◌, ◌-◌, ◌++◌, ◌∷◌, [], ◌⊎◌, inl, inr, length, ap, subst, sym, ◌∙◌, arith, w64}
use Rattle.std.specs.Prelude.{unsigned_abs}
use Rattle.std.proofs.lemmas.Int.{to_z-of_z}
use Rattle.std.proofs.lemmas.List.{length_push}
use Rattle.stream_filters.specs.Weighing.{span}
use Rattle.stream_filters.specs.WeigherFields.{window_of}
use Rattle.stream_filters.proofs.Lines.{AreRecent, AreRecent-next, AreRecent-same, fir_of-push}
use Rattle.stream_filters.proofs.weigher.Weigher.take.Goals as goal
use Rattle.stream_filters.proofs.weigher.Weigher.take.Goals.{then-unsigned_abs-self, else-unsigned_abs-self}

-- the window stays while room is made
kept : (c : goal.After-self-1)
    → window_of (span c.self.inside.taps.items c.self.inside.form) c.make_room.new.line.items
    ≡ window_of (span c.self.inside.taps.items c.self.inside.form) c.self.inside.line.items
kept c =
    let n : c.self.inside.form.delay + c.len.result
    ≡ span c.self.inside.taps.items c.self.inside.form = omega (arith, c.len.ensures) in
    subst (λ n. window_of n c.make_room.new.line.items ≡ window_of n c.self.inside.line.items)
    n c.make_room.ensures.last

-- and the sample comes behind it
pushed : (c : goal.After-self-1)
    → c.push_reserved.new.self.items ≡ c.make_room.new.line.items ++ c.args.x ∷ []
pushed c =
    c.push_reserved.ensures.items
    ∙ ap (λ x. c.make_room.new.line.items ++ x ∷ []) (to_z-of_z w64 c.args.x c.ranges.x)

-- how many more samples it takes until the window holds none past the limit
next : (c : goal.After-self-1)
    → ((unsigned_abs c.args.x ≤ c.self.inside.limit)
    × (c.if-unsigned_abs-self.self ≡ c.self.inside.wide_steps_left - 1))
    ⊎ (c.if-unsigned_abs-self.self ≡ span c.self.inside.taps.items c.self.inside.form)
next c =
    let size : c.unsigned_abs.result ≡ unsigned_abs c.args.x =
    c.unsigned_abs.ensures.value ∙ ap unsigned_abs (to_z-of_z w64 c.args.x c.ranges.x) in
    elim c.if-unsigned_abs-self.branch [
      | then-unsigned_abs-self w ↦ inr (omega (arith, w.self-is, c.len.ensures))
      | else-unsigned_abs-self w ↦ inl (
        omega (arith, w.if-unsigned_abs-self.false, size),
        omega (
          arith,
          w.self-is,
          w.saturating_sub-self-inside.ensures,
        ),
      )
    ]

pub invariant_of-self : goal.invariant_of-self
invariant_of-self c =
    let n = span c.self.inside.taps.items c.self.inside.form in
    let line = c.make_room.new.line.items in
    let recent : AreRecent c.self.inside.limit n c.self.inside.wide_steps_left line =
    AreRecent-same _ n _ line c.self.inside.line.items (kept c) c.self.invariant.recent in
    record {
      are_ahead = c.self.invariant.are_ahead;
      held = omega (arith, c.make_room.ensures.held, c.len.ensures, length_push line c.args.x, ap length (pushed c));
      room = omega (arith, c.push_reserved.ensures.capacity, c.make_room.ensures.capacity, c.self.invariant.room);
      short = c.self.invariant.short;
      light = c.self.invariant.light;
      recent = subst (AreRecent c.self.inside.limit n c.if-unsigned_abs-self.self) (sym (pushed c))
          (AreRecent-next _ n _ _ line c.args.x recent (next c));
    }

pub returns-clause-window : goal.returns-clause-window
returns-clause-window c =
    rw (← c.self.view_is) (fir_of-push c.self.inside.taps.items c.self.inside.form
    c.self.inside.line.items c.make_room.new.line.items c.push_reserved.new.self.items c.args.x
    (kept c) (pushed c))
