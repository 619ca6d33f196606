-- One hold more has given its share.
use Rattle.std.proofs.Common.{◌≡◌, ℕ, ◌+◌, ◌-◌, ◌*◌, ◌<◌, ◌≤◌, ◌⊎◌, inl, inr, List, ◌++◌, length, get_or, drop, sym, ap, subst, ◌∙◌, arith}
use Rattle.std.specs.Prelude.{slice_set, take}
use Rattle.std.proofs.lemmas.Bool.{cases_lt}
use Rattle.std.proofs.lemmas.List.{get_or-set_other, get_or-set_same, length-drop, length-set, length-take-le, take_at}
use Rattle.std.proofs.lemmas.Slice.{take-put_mid_below}
use borrow.Rule.Slice.PartMut.{mid_of, put_mid, same_len_mid}
use Rattle.phase_accum.specs.declared.outcome.Outcome.{Outcome}
use Rattle.stream_tasks.specs.Holds.{HoldGoesOn, MemberHasWaited}
use Rattle.stream_tasks.specs.Joiners.{HaveGiven, share_at}
use Rattle.stream_tasks.specs.declared.hold.Hold.{Hold}
use Rattle.stream_tasks.specs.declared.hold.Hold.TheVariants.{Gone}
use Rattle.stream_tasks.proofs.JoinTurns.{next_share, share_put, share_stays, share_within}
use Rattle.stream_tasks.proofs.Turning.{looked_up}
use Rattle.stream_tasks.proofs.join_block.take_each.Goals as goal

-- the shares so far, and this one
given_more : (k each part : ℕ) (first holds : List Hold) (old share : List Outcome)
    (was hold : Hold) → k < length holds → (k + 1) * each ≤ length old → length share ≡ each
    → length (put_mid (k * each) part old share) ≡ length old
    → get_or holds k Gone ≡ was → HoldGoesOn (MemberHasWaited share) was hold
    → HaveGiven k each first holds old
    → HaveGiven (k + 1) each first (slice_set holds k hold) (put_mid (k * each) part old share)
given_more k each part first holds old share was hold there room long same_long found goes given =
    record {
      given = λ i lt. by i lt (cases_lt i k);
      others = λ i le.
          get_or-set_other holds k i hold Gone (λ e. omega (arith, e, le))
          ∙ given.others i (omega (arith, le));
    }
  where
    by : (i : ℕ) → i < k + 1 → (i < k) ⊎ (k ≤ i)
        → HoldGoesOn (MemberHasWaited (share_at each i (put_mid (k * each) part old share)))
        (get_or first i Gone) (get_or (slice_set holds k hold) i Gone)
    by i lt (inl low) =
        let fits : k * each ≤ length old = omega (arith, next_share k each, room) in
        let stays : share_at each i (put_mid (k * each) part old share) ≡ share_at each i old =
        share_stays k i each old (put_mid (k * each) part old share) low fits
        (omega (arith, fits, same_long))
        (take-put_mid_below (k * each) part old share (k * each) (omega arith) fits) in
        subst (λ os. HoldGoesOn (MemberHasWaited os) (get_or first i Gone) (get_or (slice_set holds k hold) i Gone))
        (sym stays)
        (subst (λ h. HoldGoesOn (MemberHasWaited (share_at each i old)) (get_or first i Gone) h)
        (sym (get_or-set_other holds k i hold Gone (λ e. omega (arith, e, low)))) (given.given i low))
    by i lt (inr high) =
        let fits : k * each ≤ length old = omega (arith, next_share k each, room) in
        let here : i ≡ k = omega (arith, lt, high) in
        let At : ℕ → Type 0 =
        λ x. HoldGoesOn (MemberHasWaited (share_at each x (put_mid (k * each) part old share)))
        (get_or first x Gone) (get_or (slice_set holds k hold) x Gone) in
        subst At (sym here)
        (subst (λ os. HoldGoesOn (MemberHasWaited os) (get_or first k Gone) (get_or (slice_set holds k hold) k Gone))
        (sym (share_put k each part old share long fits))
        (subst (λ h. HoldGoesOn (MemberHasWaited share) (get_or first k Gone) h)
        (sym (get_or-set_same holds k hold Gone there))
        (subst (λ h. HoldGoesOn (MemberHasWaited share) h hold)
        (sym (sym (given.others k (omega arith)) ∙ found)) goes)))

pub loop-k-preserved : goal.loop-k-preserved
loop-k-preserved c =
    let k = c.loop-k.k in
    let each = c.args.each in
    let part = (k + 1) * each - k * each in
    let items = c.loop-k.outcomes.items in
    let lent = c.deref_mut.result.now in
    let share = c.take_all.new.places in
    let new = put_mid (k * each) part lent share in
    let whole : lent ≡ items = c.deref_mut.ensures.value in
    let next = next_share k each in
    let all : (k + 1) * each ≤ length lent =
    omega (arith, share_within c.args.inputs k each c.loop-k-test.true, next, c.requires.places, ap length whole, c.loop-k.invariant.2) in
    let middle : length (mid_of (k * each) part lent) ≡ part =
    length-take-le part (drop (k * each) lent) (omega (arith, length-drop (k * each) lent, all)) in
    let long : length share ≡ each = omega (arith, c.take_all.ensures.places, middle, next) in
    let same_long : length new ≡ length lent =
    same_len_mid (k * each) part lent share c.take_all.ensures.places in
    let now : take c.loop-k.outcomes.len (new ++ drop (length new) items) ≡ new =
    take_at new (drop (length new) items) c.loop-k.outcomes.len
    (omega (arith, same_long, ap length whole, c.loop-k.outcomes.ok.0)) in
    let there : k < length c.loop-k.holds.items =
    omega (arith, c.loop-k-test.true, c.requires.holds, c.loop-k.invariant.1) in (
      subst (λ l. HaveGiven (k + 1) each c.args.holds.now.items (slice_set c.loop-k.holds.items k c.take_all.new.hold) l)
          (sym now)
          (given_more k each part c.args.holds.now.items c.loop-k.holds.items lent share
          c.index_mut.result.now c.take_all.new.hold there all long same_long
          (looked_up c.loop-k.holds.items k c.index_mut.result.now there c.index_mut.ensures.value)
          (c.take_all.ensures.given c.if-not-take_all.false)
          (subst (λ l. HaveGiven k each c.args.holds.now.items c.loop-k.holds.items l) (sym whole) c.loop-k.invariant.0)),
      length-set c.loop-k.holds.items k c.take_all.new.hold ∙ c.loop-k.invariant.1,
      ap length now ∙ same_long ∙ ap length whole ∙ c.loop-k.invariant.2,
    )
