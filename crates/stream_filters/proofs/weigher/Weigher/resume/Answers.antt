use Rattle.std.proofs.Common.{◌≡◌, ◌++◌, length, ap, subst, sym, ◌∙◌, arith}
use Rattle.stream_filters.specs.Weighing.{span}
use Rattle.stream_filters.proofs.Lines.{AreRecent, AreRecent-all}
use Rattle.stream_filters.proofs.weigher.Weigher.resume.Goals as goal
use Rattle.stream_filters.proofs.weigher.Weigher.resume.Goals.{After-self-1, then-are_within, else-are_within}

-- the line has the samples alone
held : (c : After-self-1) → c.put_all.new.list.items ≡ c.args.samples.now
held c = c.put_all.ensures.items ∙ ap (λ l. l ++ c.args.samples.now) c.truncate.ensures.items

-- as many as the window holds
many_samples : (c : After-self-1)
    → length c.args.samples.now ≡ span c.self.inside.taps.items c.self.inside.form
many_samples c =
    subst (λ w. length c.args.samples.now ≡ span w.taps w.form) (sym c.self.view_is) c.requires.many

-- all of them are within the limit, or as many are still to come
recent : (c : After-self-1) → AreRecent c.self.inside.limit
    (span c.self.inside.taps.items c.self.inside.form) c.if-are_within.self c.args.samples.now
recent c =
    let n = span c.self.inside.taps.items c.self.inside.form in
    let many : length c.args.samples.now ≡ n = many_samples c in
    elim c.if-are_within.branch [
      | then-are_within w ↦ subst (λ left. AreRecent c.self.inside.limit n left c.args.samples.now)
          (sym w.self-is) (AreRecent-all c.self.inside.limit n c.args.samples.now
          (c.are_within.ensures.0 w.if-are_within.true) (sym many))
      | else-are_within w ↦ λ j lt. absurd (omega (arith, many, w.self-is))
    ]

pub invariant_of-self : goal.invariant_of-self
invariant_of-self c =
    let n = span c.self.inside.taps.items c.self.inside.form in
    let many : length c.args.samples.now ≡ n = many_samples c in
    record {
      are_ahead = c.self.invariant.are_ahead;
      held = omega (arith, many, ap length (held c));
      room = omega (
        arith,
        c.put_all.ensures.capacity,
        c.truncate.ensures.capacity,
        c.self.invariant.room,
      );
      short = c.self.invariant.short;
      light = c.self.invariant.light;
      recent = subst (AreRecent c.self.inside.limit n c.if-are_within.self) (sym (held c)) (recent c);
    }
