use Rattle.std.proofs.Common.{◌≡◌, ◌+◌, ◌++◌, ◌∙◌, [], ℕ, List, Bor, take, drop, get_or, ap, rules}
use Rattle.std.specs.List.{flat_map}
use Rattle.std.proofs.lemmas.List.{take_more}
use Rattle.std.proofs.lemmas.Result.{err_from_is_err_and}
use Rattle.watched_io.proofs.Items.{flat_map-push, flat_map-rest}
use Rattle.graph_commands.proofs.Putting.{Puts-append, prefix_behind, prefix_within}
use Rattle.graph_commands.proofs.output_buffer.OutputBuffer.put_texts.Goals as goal

abbrev nowhere : Bor (List ℕ)
nowhere = record { ref_ptr = (0, 0); now = [] }

abbrev now_of : Bor (List ℕ) → List ℕ
now_of text = text.now

-- of a text a prefix was put
pub returns-in_err-put-clause-err : goal.returns-in_err-put-clause-err
returns-in_err-put-clause-err g c =
    let p = err_from_is_err_and c.from_residual.result c.from_residual.ensures.1 in
    let texts = c.args.texts.now in
    let i = c.loop-text.text-index in
    let text = get_or texts i nowhere in
    let is : c.as_bytes.result.now ≡ text.now = search rules in
    let done = flat_map now_of (take i texts) in
    let rest = flat_map now_of (drop (i + 1) texts) in
    let more = ap (flat_map now_of) (take_more texts i nowhere c.loop-text-test.true)
    ∙ flat_map-push now_of [] (take i texts) text in
    let whole = flat_map-rest now_of [] texts (i + 1) ∙ ap (λ l. l ++ rest) more in
    rw p.1 (prefix_within _ _ c.args.self.now (done ++ text.now) rest (flat_map now_of texts) whole
    (prefix_behind _ _ _ c.args.self.now c.loop-text.self done text.now c.loop-text.invariant.0
    (rw is at c.in_err-put.ensures.err)))

-- one more text was put
pub loop-text-preserved : goal.loop-text-preserved
loop-text-preserved g c =
    let texts = c.args.texts.now in
    let i = c.loop-text.text-index in
    let text = get_or texts i nowhere in
    let is : c.as_bytes.result.now ≡ text.now = search rules in
    let done = flat_map now_of (take i texts) in
    let more = ap (flat_map now_of) (take_more texts i nowhere c.loop-text-test.true)
    ∙ flat_map-push now_of [] (take i texts) text in (
      rw more (Puts-append _ _ _ c.args.self.now c.loop-text.self c.put.new.self done text.now
          c.loop-text.invariant.0 (rw is at c.in_ok-put.ensures.ok)),
      c.in_ok-put.ensures.same ∙ c.loop-text.invariant.1,
    )
