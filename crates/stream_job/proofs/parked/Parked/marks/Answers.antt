-- A mark is of a task in the list that was looked at, or was there.
use Rattle.std.proofs.Common.{◌≡◌, ℕ, ◌<◌, true, false, eqb, [], get_or, length, sym, ap, ◌∙◌, ◌⊎◌, inl, inr, arith}
use Rattle.std.specs.List.{list_any}
use Rattle.std.proofs.lemmas.List.{get_or_default}
use Rattle.stream_job.specs.Parking.{StandsIn}
use Rattle.stream_job.proofs.parked.Parked.marks.Goals as goal

pub loop-list-init : goal.loop-list-init
loop-list-init c = λ t e. absurd (let wrong : false ≡ true = sym (c.no_marks-marks.ensures.none t) ∙ e in cc)

pub loop-list-preserved : goal.loop-list-preserved
loop-list-preserved c = λ t e. by t (c.mark.ensures t e)
  where
    there : c.loop-list.list-index < length c.args.self.now
    there =
        let lent = ap length c.deref-list-items.ensures.value in
        omega (arith, ap length c.self.view_is, c.loop-list-test.true)

    items : c.list-item.result ≡ get_or c.args.self.now c.loop-list.list-index []
    items =
        c.list-item.is
        ∙ ap (λ ls. get_or ls c.loop-list.list-index c.list-item.result)
        (c.deref-list-items.ensures.value ∙ c.self.view_is)
        ∙ get_or_default c.args.self.now c.loop-list.list-index c.list-item.result [] there

    by : (t : ℕ) → (get_or c.loop-list.marks t false ≡ true)
        ⊎ (list_any (λ u. eqb u t) c.as_slice.result.now ≡ true)
        → StandsIn c.args.self.now t
    by t (inl old) = c.loop-list.invariant t old
    by t (inr new) = (
      c.loop-list.list-index,
      ap (list_any (λ u. eqb u t)) (sym (c.as_slice.ensures.tasks ∙ items)) ∙ new,
    )
