-- The text from the record at hand on.
use Rattle.std.proofs.Common.{ap, drop, ◌∙◌}
use Rattle.std.proofs.lemmas.List.{take_rest}
use Rattle.phase_stream.proofs.Telling.{passed}
use Rattle.phase_stream.proofs.record_text.RecordText.pass.Goals as goal

pub returns : goal.returns
returns c =
    let at = c.place_behind-at.result in
    λ text kept.
    passed text c.args.piece.now c.extend_from_slice.new.self.items at c.args.self.now
    (record { line = c.in-Some.line; text = c.in_ok-self.field-0 })
    c.in_ok-extend_from_slice.ensures.items
    (c.in_ok-self.ensures.items ∙ take_rest c.deref-2.result.now at
    ∙ ap (λ l. drop at l) c.deref-2.ensures.value)
    (rw (c.line_at.ensures, c.deref.ensures.value) at c.in-Some.ensures.1) kept
