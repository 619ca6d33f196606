use Rattle.std.proofs.Common.{◌+◌, ◌++◌, length, take, drop, ap, sym, ◌∙◌, arith}
use Rattle.std.specs.List.{flat_map}
use Rattle.std.proofs.lemmas.List.{length-append}
use Rattle.phase_c.specs.SinkValues.{count_in, items_in}
use Rattle.phase_c.proofs.Writing.{room-more, values-more, written-more}
use Rattle.phase_c.proofs.written.write_values.Goals as goal

pub put-requires : goal.put-requires
put-requires c =
    let lines = c.args.lines.now in
    let line = c.line-item.result in
    let here = ap count_in c.line-item.is in
    omega (
      arith,
      room-more lines c.loop-line.line-index line (length c.args.out.now) c.loop-line-test.true
          c.requires,
      c.loop-line.invariant.place,
      c.loop-line.auto.out,
      ap length c.deref.ensures.value,
      here,
    )

pub loop-line-preserved : goal.loop-line-preserved
loop-line-preserved c =
    let lines = c.args.lines.now in
    let i = c.loop-line.line-index in
    let line = c.line-item.result in
    let front = flat_map items_in (take i lines) in
    let more = values-more lines i line c.loop-line-test.true
    ∙ ap (λ l. front ++ items_in l) (sym c.line-item.is) in
    let put = c.put.ensures
    ∙ written-more front c.deref.result.now c.args.out.now c.loop-line.out c.loop-line.at
    (length c.deref.result.now) c.loop-line.invariant.place c.loop-line.invariant.written in
    let same = c.deref.ensures.value in
    record {
      place = omega (
        arith,
        ap length more,
        length-append front (items_in line),
        c.loop-line.invariant.place,
        c.len-at.ensures,
        c.deref.ensures.len,
        ap length same,
      );
      written = put
          ∙ (ap (λ n. front ++ c.deref.result.now ++ drop (c.loop-line.at + n) c.args.out.now)
          (c.deref.ensures.len ∙ sym c.len-at.ensures)
          ∙ ap (λ xs. xs ++ drop (c.loop-line.at + c.len-at.result) c.args.out.now)
          (ap (λ d. front ++ d) same ∙ sym more));
    }
