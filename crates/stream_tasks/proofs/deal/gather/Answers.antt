-- One value more is gathered.
use Rattle.std.proofs.Common.{rules, ◌≡◌, ◌<◌, ◌+◌, ◌*◌, ◌++◌, ◌∷◌, [], length, get_or, pos, ap, sym, ◌∙◌, zero-add, w64, FitsSigned, arith}
use Rattle.std.proofs.lemmas.Int.{to_z-of_z}
use Rattle.std.proofs.lemmas.List.FromFn.{length-map-range_with_len, map-range_with_len_more}
use Rattle.stream_lists.specs.Lists.{entry}
use Rattle.stream_lists.specs.Spans.{turns_below}
use Rattle.stream_tasks.proofs.Shares.{turns_few}
use Rattle.stream_tasks.proofs.deal.gather.Goals as goal

pub push_reserved-requires : goal.push_reserved-requires
push_reserved-requires c =
    let values = c.args.values.now in
    let within : c.loop-k.k < turns_below c.args.step c.args.first (length values) = search rules in
    let few = turns_few c.args.step (length values) c.args.first c.requires.turn in
    let long = length-map-range_with_len
    (λ k. entry values (c.args.first + k * c.args.step)) 0 c.loop-k.k in
    omega (
      arith,
      within,
      few,
      long,
      ap length c.loop-k.invariant.0,
      c.loop-k.invariant.1,
      c.requires.room,
      c.loop-k.share.ok.0,
    )

pub loop-k-preserved : goal.loop-k-preserved
loop-k-preserved c =
    let values = c.args.values.now in
    let value : c.unwrap_or.result
    ≡ get_or values (c.args.first + c.loop-k.k * c.args.step) (pos 0) = search rules in
    let fits : FitsSigned w64 c.unwrap_or.result = search rules in (
      c.push_reserved.ensures.items
          ∙ (ap (λ v. c.loop-k.share.items ++ v ∷ []) (to_z-of_z w64 c.unwrap_or.result fits ∙ value)
          ∙ (ap (λ xs. xs ++ get_or values (c.args.first + c.loop-k.k * c.args.step) (pos 0) ∷ [])
          c.loop-k.invariant.0
          ∙ sym (map-range_with_len_more
          (λ k. get_or values (c.args.first + k * c.args.step) (pos 0)) 0 c.loop-k.k c.loop-k.k
          (zero-add c.loop-k.k)))),
      c.push_reserved.ensures.capacity ∙ c.loop-k.invariant.1,
    )
