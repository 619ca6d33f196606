use Rattle.graph_show.proofs.explained.marked.Goals as goal

-- the parts are the line as it is shown, what stands under it, the marks, and what was expected
pub returns : goal.returns
returns c =
    rw (
      c.as_slice.ensures,
      c.deref.ensures.value,
      c.in_ok-shown.ensures,
      c.deref-2.ensures.value,
      c.in_ok-blanks.ensures,
      c.deref-3.ensures.value,
      c.in_ok-marks.ensures.items_if_clones_equal (λ y same. same),
    )
    at c.joined.ensures
