use Rattle.std.proofs.Common.{◌≡◌, ◌<◌, ◌++◌, ℕ, length, take, drop, refl, sym, ap, ◌∙◌, arith}
use Rattle.std.proofs.lemmas.List.{length-drop, take_all, take-append-le}
use Rattle.phase_c.proofs.Forms.{formed_all, formed_to, kept_long}
use Rattle.phase_c.proofs.formed.formed_in_place.Goals as goal

-- nothing was written
pub returns-in-Err-clause-refused : goal.returns-in-Err-clause-refused
returns-in-Err-clause-refused c =
    c.in-Err.ensures.refused c.args.block.now c.args.block.now refl refl

-- the filter met a value out of range
pub returns-then-done-block-clause-refused : goal.returns-then-done-block-clause-refused
returns-then-done-block-clause-refused c =
    let block = c.args.block.now in
    let n : ℕ = c.steps_in_place.result in
    let made = c.in-Ok.ensures in
    let went = c.steps_in_place.ensures in
    let less : n < length block = omega (arith, c.if-done-block.true) in
    record {
      form = c.in-Ok.fir.form;
      names = made.form;
      fact = formed_to c.args.taps.now c.args.state.now c.args.puts.now block block
          c.steps_in_place.new.block n c.in-Ok.fir made.of_form made.taps made.stands made.room
          went.written went.fits went.behind less went.too_big;
    }

-- it went through the whole block, and the last samples and puts are kept
pub returns-clause-done : goal.returns-clause-done
returns-clause-done c =
    let block = c.args.block.now in
    let state = c.args.state.now in
    let puts = c.args.puts.now in
    let new = c.steps_in_place.new.block in
    let n : ℕ = c.steps_in_place.result in
    let made = c.in-Ok.ensures in
    let went = c.steps_in_place.ensures in
    let all : n ≡ length block = omega (arith, went.few, c.if-done-block.false) in
    let whole : take n new ≡ new = take_all n new
    (omega (arith, all, ap length went.behind, length-drop n new, length-drop n block)) in
    let last = c.keep.new.state in
    let long = kept_long c.deref_mut.result.now block last c.keep.ensures in
    let many : c.in-Ok-from_slice.last.len ≡ length last = omega (arith, long, c.deref_mut.ensures.len) in
    let kept = c.copy_from_slice.ensures.after
    ∙ (c.deref.ensures.value ∙ (take-append-le _ last _ (omega (arith, many))
    ∙ (take_all _ last (omega (arith, many)) ∙ (c.keep.ensures
    ∙ ap (λ xs. drop (length block) (xs ++ block))
    (c.deref_mut.ensures.value ∙ c.in-Ok-from_slice.ensures.items))))) in
    record {
      form = c.in-Ok.fir.form;
      names = made.form;
      fact = formed_all c.args.taps.now state puts block block new n c.in-Ok.fir made.of_form
          made.taps made.stands made.room went.written went.fits went.behind
          c.copy_from_slice.new.self c.keep-2.new.state all kept
          (c.keep-2.ensures ∙ ap (λ l. drop (length l) (puts ++ l)) (sym whole));
    }
