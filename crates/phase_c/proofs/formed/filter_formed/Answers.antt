use Rattle.std.proofs.Common.{◌≡◌, ◌<◌, ◌++◌, ℕ, length, take, drop, refl, sym, ap, ◌∙◌, arith}
use Rattle.phase_c.proofs.Forms.{formed_all, formed_to}
use Rattle.phase_c.proofs.formed.filter_formed.Goals as goal

-- nothing was written
pub returns-in-Err-clause-refused : goal.returns-in-Err-clause-refused
returns-in-Err-clause-refused c =
    c.in-Err.ensures.refused c.args.block.now c.args.out.now refl refl

-- the filter met a value out of range
pub returns-then-done-block-clause-refused : goal.returns-then-done-block-clause-refused
returns-then-done-block-clause-refused c =
    let block = c.args.block.now in
    let n : ℕ = c.steps-done.result in
    let made = c.in-Ok.ensures in
    let went = c.steps-done.ensures in
    let less : n < length block = omega (arith, c.if-done-block.true) in
    record {
      form = c.in-Ok.fir.form;
      names = made.form;
      fact = formed_to c.args.taps.now c.args.state.now c.args.puts.now block c.args.out.now
          c.steps-done.new.out n c.in-Ok.fir made.of_form made.taps made.stands made.room went.written
          went.fits went.behind less went.too_big;
    }

-- it went through the whole block, and the last samples and puts are kept
pub returns-clause-done : goal.returns-clause-done
returns-clause-done c =
    let block = c.args.block.now in
    let out = c.steps-done.new.out in
    let n : ℕ = c.steps-done.result in
    let made = c.in-Ok.ensures in
    let went = c.steps-done.ensures in
    let all : n ≡ length block = omega (arith, went.few, c.if-done-block.false) in
    record {
      form = c.in-Ok.fir.form;
      names = made.form;
      fact = formed_all c.args.taps.now c.args.state.now c.args.puts.now block c.args.out.now
          c.steps-done.new.out n c.in-Ok.fir made.of_form made.taps made.stands made.room went.written
          went.fits went.behind c.keep.new.state c.keep-2.new.state all c.keep.ensures
          (c.keep-2.ensures ∙ ap (λ k. drop (length (take k out)) (c.args.puts.now ++ take k out)) (sym all));
    }
