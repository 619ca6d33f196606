-- One value more is kept.
use Rattle.std.proofs.Common.{rules, ◌≡◌, ◌<◌, ◌∷◌, ◌++◌, [], length, ap, sym, ◌∙◌, zero-add, w64, FitsSigned, arith}
use Rattle.std.proofs.lemmas.Int.{to_z-of_z}
use Rattle.std.proofs.lemmas.List.FromFn.{length-map-range_with_len, map-range_with_len_more}
use Rattle.stream_lists.specs.Lists.{turn_at}
use Rattle.stream_tasks.specs.Joiners.{shares_in}
use Rattle.stream_tasks.proofs.JoinTurns.{next_round, place_few, turn_entry}
use Rattle.stream_tasks.proofs.join_block.keep_in_turn.Goals.{then-k-inputs, else-k-inputs}
use Rattle.stream_tasks.proofs.join_block.keep_in_turn.Goals as goal

pub push_reserved-requires : goal.push_reserved-requires
push_reserved-requires c =
    let shares = shares_in c.args.inputs c.args.each c.args.outcomes.now in
    omega (
      arith,
      ap length c.loop.invariant.0,
      length-map-range_with_len (turn_at shares) 0 c.loop.counter,
      c.loop.invariant.1,
      c.loop-test.true,
      c.requires.room,
      c.loop.made.ok.0,
    )

pub loop-preserved : goal.loop-preserved
loop-preserved c =
    let n = c.args.inputs in
    let each = c.args.each in
    let shares = shares_in n each c.args.outcomes.now in
    let k = c.loop.k in
    let i = c.loop.i in
    let few : i < each = place_few n each i k (omega (arith, c.loop.invariant.2, c.loop-test.true)) in
    let value : c.number_taken.result ≡ turn_at shares c.loop.counter =
    c.number_taken.ensures
    ∙ sym (ap (turn_at shares) c.loop.invariant.2
    ∙ turn_entry n each i k c.args.outcomes.now _ c.loop.invariant.3 few c.requires.shares) in
    let fits : FitsSigned w64 c.number_taken.result = search rules in (
      c.push_reserved.ensures.items
          ∙ (ap (λ v. c.loop.made.items ++ v ∷ []) (to_z-of_z w64 c.number_taken.result fits ∙ value)
          ∙ (ap (λ xs. xs ++ turn_at shares c.loop.counter ∷ []) c.loop.invariant.0
          ∙ sym (map-range_with_len_more (turn_at shares) 0 c.loop.counter c.loop.counter
          (zero-add c.loop.counter)))),
      c.push_reserved.ensures.capacity ∙ c.loop.invariant.1,
      elim c.if-k-inputs.branch [
        | then-k-inputs w ↦ next_round n i k c.loop.counter c.if-k-inputs.i c.if-k-inputs.k c.loop.invariant.2 w.if-k-inputs.true w.i-is w.k-is
        | else-k-inputs w ↦ let at = w.k-is in let place = w.i-is in let was = c.loop.invariant.2 in grind (arith, at, place, was)
      ],
      elim c.if-k-inputs.branch [
        | then-k-inputs w ↦ let at = w.k-is in let some = c.requires.inputs in omega (arith, at, some)
        | else-k-inputs w ↦ let at = w.k-is in let less = c.loop.invariant.3 in let apart = w.if-k-inputs.false in omega (arith, at, less, apart)
      ],
    )
