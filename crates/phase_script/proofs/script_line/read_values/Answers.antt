-- A word more is read, or it is no number, or one too many.
use Rattle.std.proofs.Common.{◌≡◌, ◌≤◌, nat_abs, option_map, List, ℤ, length, [], ◌∷◌, ◌++◌, Some, None, w64, to_z, of_z, sym, ◌∙◌, ap, arith, length-append}
use Rattle.std.proofs.lemmas.Int.{ints}
use Rattle.phase_script.specs.Numbers.{most, int_of}
use Rattle.phase_script.specs.Words.{word}
use Rattle.phase_script.proofs.BlockValues.{put_before, left_of, texts_of, rest_is, left_step, left_bad, left_full, left_none, none_left}
use Rattle.phase_script.proofs.script_line.read_values.Goals as goal

pub returns-then-as_slice-eq-VALUES_MAX : goal.returns-then-as_slice-eq-VALUES_MAX
returns-then-as_slice-eq-VALUES_MAX c =
    let inv = c.loop-more.invariant.left ∙ ap (λ m. put_before c.loop-more.values (left_of (texts_of m))) c.in-Some.is in
    let full : length c.loop-more.values ≡ 16 = sym (ap length c.as_slice.ensures.values) ∙ c.if-as_slice-eq-VALUES_MAX.true in
    sym (left_full c.args.text.now c.loop-more.values c.in-Some.words.now inv full)

pub returns-in_err-int : goal.returns-in_err-int
returns-in_err-int c =
    let inv = c.loop-more.invariant.left ∙ ap (λ m. put_before c.loop-more.values (left_of (texts_of m))) c.in-Some.is in
    let bad : int_of (word c.in-Some.words.now) ≡ None =
    ap int_of (sym c.cut.ensures.word) ∙ sym c.int.ensures.value ∙ c.in_err-int.was in
    ap (option_map (λ u. c.loop-more.values)) c.from_residual.ensures ∙ sym (left_bad c.args.text.now c.loop-more.values c.in-Some.words.now inv bad)

pub loop-more-preserved : goal.loop-more-preserved
loop-more-preserved c =
    let v = c.in_ok-int.field-0 in
    let small : nat_abs v ≤ most = c.in_ok-int.ensures.small in
    let same : to_z w64 (of_z w64 v) ≡ v = omega (arith, ints, small) in
    let inv = c.loop-more.invariant.left ∙ ap (λ m. put_before c.loop-more.values (left_of (texts_of m))) c.in-Some.is in
    let is : int_of (word c.in-Some.words.now) ≡ Some v =
    ap int_of (sym c.cut.ensures.word) ∙ sym c.int.ensures.value ∙ c.in_ok-int.was in
    let put : c.push.new.self ≡ c.loop-more.values ++ v ∷ [] = c.push.ensures ∙ ap (λ x. c.loop-more.values ++ x ∷ []) same in
    let behind = rest_is c.cut.result.1 c.in-Some.words.now c.cut.ensures.rest in
    record {
      few = omega (arith, ap length put, length-append c.loop-more.values (v ∷ []), ap length c.as_slice.ensures.values, c.if-as_slice-eq-VALUES_MAX.false, c.loop-more.invariant.few);
      left = inv ∙ left_step c.loop-more.values c.in-Some.words.now v (texts_of c.cut.result.1) is behind
          ∙ ap (λ (l : List ℤ). put_before l (left_of (texts_of c.cut.result.1))) (sym put);
    }

pub returns : goal.returns
returns c =
    let none = none_left c.loop-more.more c.in_default.not-Some in
    let inv = c.loop-more.invariant.left ∙ ap (λ m. put_before c.loop-more.values (left_of m)) none in
    sym (left_none c.args.text.now c.loop-more.values inv c.loop-more.invariant.few)
