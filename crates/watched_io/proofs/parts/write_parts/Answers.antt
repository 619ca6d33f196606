use Rattle.std.proofs.Common.{◌≡◌, ◌+◌, ◌++◌, ◌∙◌, [], ℕ, List, Bor, take, drop, get_or, ap, rules}
use Rattle.std.specs.List.{flat_map}
use Rattle.std.proofs.KnownBytes.{Appends-trans}
use Rattle.std.proofs.lemmas.List.{take_more}
use Rattle.std.proofs.lemmas.Result.{err_from_is_err_and}
use Rattle.watched_io.proofs.Writing.{prefix_after, prefix_of_prefix}
use Rattle.watched_io.proofs.Items.{flat_map-push, flat_map-rest}
use Rattle.watched_io.proofs.parts.write_parts.Goals as goal

abbrev nowhere : Bor (List ℕ)
nowhere = record { ref_ptr = (0, 0); now = [] }

abbrev text_of_part : Bor (List ℕ) → List ℕ
text_of_part part = part.now

-- of a part a prefix was written
pub returns-in_err-send-clause-err : goal.returns-in_err-send-clause-err
returns-in_err-send-clause-err g c =
    let p = err_from_is_err_and c.from_residual.result c.from_residual.ensures.1 in
    let parts = c.args.parts.now in
    let i = c.loop-part.part-index in
    let part = get_or parts i nowhere in
    let is : c.as_bytes.result.now ≡ part.now = search rules in
    let done = flat_map text_of_part (take i parts) in
    let rest = flat_map text_of_part (drop (i + 1) parts) in
    let more = ap (flat_map text_of_part) (take_more parts i nowhere c.loop-part-test.true)
    ∙ flat_map-push text_of_part [] (take i parts) part in
    let whole = flat_map-rest text_of_part [] parts (i + 1) ∙ ap (λ l. l ++ rest) more in
    rw p.1 (prefix_of_prefix _ _ (done ++ part.now) rest (flat_map text_of_part parts) whole
    (prefix_after _ _ _ done part.now c.loop-part.invariant.0 (rw is at c.in_err-send.ensures.err)))

-- one more part was written
pub loop-part-preserved : goal.loop-part-preserved
loop-part-preserved g c =
    let parts = c.args.parts.now in
    let i = c.loop-part.part-index in
    let part = get_or parts i nowhere in
    let is : c.as_bytes.result.now ≡ part.now = search rules in
    let done = flat_map text_of_part (take i parts) in
    let more = ap (flat_map text_of_part) (take_more parts i nowhere c.loop-part-test.true)
    ∙ flat_map-push text_of_part [] (take i parts) part in (
      rw more (Appends-trans _ _ _ done part.now c.loop-part.invariant.0
          (rw is at c.in_ok-send.ensures.ok)),
      c.in_ok-send.ensures.same ∙ c.loop-part.invariant.1,
    )
