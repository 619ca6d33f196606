use Rattle.std.proofs.Common.{rules, ◌≡◌, ◌<◌, ℕ, ℤ, List, pos, length, get_or, w64, to_z, of_z, FitsSigned, ◌∙◌, arith}
use Rattle.std.proofs.lemmas.Int.{to_z-of_z}
use Rattle.std.proofs.lemmas.List.{length-set}
use Rattle.phase_accum.specs.Sends.{IsSend}
use Rattle.stream_filters.specs.Filter.{StandsFor}
use Rattle.phase_c.specs.Filtered.{output_in_block}
use Rattle.phase_c.proofs.Streams.{behind_more, fits_more, step_fails, step_gives, step_stands, written_more}
use Rattle.phase_c.proofs.filter.steps.Goals as goal

-- the output at this sample is out of range
pub returns-in-Err-clause-too_big : goal.returns-in-Err-clause-too_big
returns-in-Err-clause-too_big c before s less is =
    let block = c.args.block.now in
    let n : ℕ = c.loop-n.n in
    let l = c.loop-n.invariant in
    let x : ℤ = get_or block n (pos 0) in
    let fits : FitsSigned w64 x = search rules in
    step_fails c.args.fir.now c.loop-n.fir before block n less (to_z w64 (of_z w64 x))
    (to_z-of_z w64 x fits) c.step.result l.taps l.form
    (c.step.ensures.answer _ (l.stands before s)) c.in-Err.field-0 c.in-Err.is is

-- one more output was written
pub loop-n-preserved : goal.loop-n-preserved
loop-n-preserved c =
    let block = c.args.block.now in
    let n : ℕ = c.loop-n.n in
    let l = c.loop-n.invariant in
    let old = c.args.fir.now in
    let now = c.loop-n.fir in
    let out = c.loop-n.out in
    let x : ℤ = get_or block n (pos 0) in
    let v : ℤ = c.in-Ok.value in
    let fits : FitsSigned w64 x = search rules in
    let fitting : FitsSigned w64 v = search rules in
    let next = to_z-of_z w64 x fits in
    let less = c.loop-n-test.true in
    let room : n < length out = omega (arith, less, c.requires.room, l.long) in
    let gives : (before : List ℤ) → StandsFor old before
    → (v ≡ output_in_block old.taps old.form before block n) × IsSend v =
    λ before s. step_gives old now before block n less _ next c.step.result l.taps l.form
    (c.step.ensures.answer _ (l.stands before s)) v c.in-Ok.is in
    rw (to_z-of_z w64 v fitting) record {
      stands = λ before s. step_stands c.step.new.self before block n less _ next
          (c.step.ensures.stands _ (l.stands before s));
      taps = c.step.ensures.taps ∙ l.taps;
      form = c.step.ensures.form ∙ l.form;
      written = λ before s. written_more old.taps old.form before block out n v room
          (l.written before s) (gives before s).0;
      fits = λ before s. fits_more out n v room (l.fits before s) (gives before s).1;
      behind = behind_more out c.args.out.now n v l.behind;
      long = length-set out n v ∙ l.long;
    }
