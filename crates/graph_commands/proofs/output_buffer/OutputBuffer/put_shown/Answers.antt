use Rattle.std.proofs.Common.{◌≡◌, ◌+◌, ◌++◌, ◌∷◌, ◌∙◌, [], map, take, drop, get_or, ap, sym, take-append-drop}
use Rattle.std.proofs.lemmas.List.{map-append, map_push, take_more}
use Rattle.std.proofs.lemmas.Result.{err_from_is_err_and}
use Rattle.graph_show.specs.Explanations.{shown}
use Rattle.graph_commands.proofs.Putting.{Puts-append, prefix_behind, prefix_within}
use Rattle.graph_commands.proofs.output_buffer.OutputBuffer.put_shown.Goals as goal

-- of a byte a prefix was put
pub returns-in_err-put-clause-err : goal.returns-in_err-put-clause-err
returns-in_err-put-clause-err g c =
    let p = err_from_is_err_and c.from_residual.result c.from_residual.ensures.1 in
    let text = c.args.text.now in
    let i = c.loop-b.b-index in
    let b = get_or text i 0 in
    let before = c.args.self.now in
    let put = map shown (take i text) in
    let more = ap (map shown) (take_more text i 0 c.loop-b-test.true) ∙ map_push shown (take i text) b in
    let whole : map shown text ≡ (put ++ shown b ∷ []) ++ map shown (drop (i + 1) text) =
    ap (map shown) (sym (take-append-drop (i + 1) text))
    ∙ (map-append shown (take (i + 1) text) (drop (i + 1) text)
    ∙ ap (λ l. l ++ map shown (drop (i + 1) text)) more) in
    rw p.1 (prefix_within _ _ before (put ++ shown b ∷ []) (map shown (drop (i + 1) text)) _ whole
    (prefix_behind _ _ _ before c.loop-b.self put (shown b ∷ []) c.loop-b.invariant
    (rw c.shown.ensures at c.in_err-put.ensures.err)))

-- one more byte was put
pub loop-b-preserved : goal.loop-b-preserved
loop-b-preserved g c =
    let text = c.args.text.now in
    let i = c.loop-b.b-index in
    let b = get_or text i 0 in
    let more = ap (map shown) (take_more text i 0 c.loop-b-test.true) ∙ map_push shown (take i text) b in
    rw more (Puts-append _ _ _ c.args.self.now c.loop-b.self c.put.new.self (map shown (take i text))
    (shown b ∷ []) c.loop-b.invariant (rw c.shown.ensures at c.in_ok-put.ensures.ok))
