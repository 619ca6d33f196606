use Rattle.std.proofs.Common.{◌≡◌, ◌++◌, ◌-◌, [], take, pos, ap, ◌∙◌, arith}
use Rattle.std.specs.Prelude.{replicate}
use Rattle.std.specs.Vec.{vec_len}
use Rattle.std.proofs.lemmas.List.{take_all}
use Rattle.stream_filters.proofs.Lines.{window_of-zeros}
use Rattle.stream_filters.proofs.weigher.zeros.Goals as goal

-- the line has zeros, and no other
pub returns-clause-zeros : goal.returns-clause-zeros
returns-clause-zeros c =
    let count = c.args.count in
    let none : count - vec_len c.in_ok-line.line ≡ count = omega (arith, c.in_ok-line.ensures.len) in
    window_of-zeros count c.resize.new.self.items
    (c.in_ok-resize.ensures.items
    ∙ (ap (λ l. take count l ++ replicate (count - vec_len c.in_ok-line.line) (pos 0))
    c.in_ok-line.ensures.items
    ∙ (ap (λ l. l ++ replicate (count - vec_len c.in_ok-line.line) (pos 0))
    (take_all count [] (omega arith))
    ∙ ap (λ n. replicate n (pos 0)) none)))
