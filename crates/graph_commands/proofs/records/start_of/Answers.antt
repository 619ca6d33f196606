use Rattle.std.proofs.Common.{rules, ◌≡◌, ◌<◌, ◌∙◌, length, true, false, sym, ap, arith}
use Rattle.std.proofs.lemmas.Bool.{true≢false}
use Rattle.std.specs.List.{range_with_len}
use Rattle.std.proofs.lemmas.List.Sums.{count_by-le-length, length-filter}
use Rattle.std.proofs.lemmas.List.FromFn.{length-range_with_len}
use Rattle.stream_lists.proofs.Firsts.{filter-skip}
use Rattle.stream_lists.proofs.Basics.{one_more}
use Rattle.graph_commands.specs.Records.{begins_at, IsStart}
use Rattle.graph_commands.proofs.Finding.{count-take}
use Rattle.graph_commands.proofs.records.start_of.Goals as goal
use Rattle.graph_commands.proofs.records.start_of.Goals.{then-begins_at+else-records-number, else-begins_at}

-- no more records begin than there are bytes
pub overflow_add-records : goal.overflow_add-records
overflow_add-records c =
    let before = range_with_len 0 c.loop-at.at in
    let count = length-filter (begins_at c.args.text.now) before in
    let few = count_by-le-length (begins_at c.args.text.now) before in
    let all = length-range_with_len 0 c.loop-at.at in
    let within : c.loop-at.at < length c.args.text.now = search rules in
    omega (arith, count, few, all, within, c.loop-at.invariant.0)

-- the record that begins here is another, or none begins here
pub loop-at-preserved : goal.loop-at-preserved
loop-at-preserved c =
    let text = c.args.text.now in
    let at = c.loop-at.at in
    let before = c.loop-at.invariant in
    elim c.if-begins_at.branch [
      | then-begins_at+else-records-number w ↦
          (let begins : begins_at text at ≡ true = sym c.begins_at.ensures ∙ w.if-begins_at.true in
          let more = count-take (begins_at text) at begins in
          rw w.records-is (
            omega (arith, more, before.0),
            one_more (λ d. IsStart text c.args.number d → ⊥) at before.1
                (λ start. omega (arith, start.number_is, before.0, w.if-records-number.false)),
          ))
      | else-begins_at w ↦
          (let begins : begins_at text at ≡ false = sym c.begins_at.ensures ∙ w.if-begins_at.false in
          let same = ap length (filter-skip (begins_at text) at begins) in
          rw w.records-is (
            before.0 ∙ sym same,
            one_more (λ d. IsStart text c.args.number d → ⊥) at before.1
                (λ start. true≢false (sym start.begins ∙ begins)),
          ))
    ]
