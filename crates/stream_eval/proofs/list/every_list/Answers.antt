use Rattle.std.proofs.Common.{rules, ◌≡◌, ◌+◌, ◌*◌, ◌++◌, ◌∷◌, [], get_or, pos, ap, sym, ◌∙◌, zero-add, w64, FitsSigned}
use Rattle.std.proofs.lemmas.Int.{to_z-of_z}
use Rattle.std.proofs.lemmas.List.FromFn.{map-range_with_len_more}
use Rattle.stream_lists.specs.Lists.{entry}
use Rattle.stream_eval.proofs.Sendable.{AreSends-range, IsSend-entry}
use Rattle.stream_eval.proofs.list.every_list.Goals as goal

-- one more entry
pub loop-k-preserved : goal.loop-k-preserved
loop-k-preserved c =
    let value : c.unwrap_or.result
    ≡ get_or c.args.values.now (c.args.j + c.loop-k.k * c.args.m) (pos 0) = search rules in
    let fits : FitsSigned w64 c.unwrap_or.result = search rules in
    c.in_ok-push.ensures.items
    ∙ (ap (λ v. c.loop-k.list.items ++ v ∷ []) (to_z-of_z w64 c.unwrap_or.result fits ∙ value)
    ∙ (ap (λ xs. xs ++ get_or c.args.values.now (c.args.j + c.loop-k.k * c.args.m) (pos 0) ∷ [])
    c.loop-k.invariant
    ∙ sym (map-range_with_len_more
    (λ k. get_or c.args.values.now (c.args.j + k * c.args.m) (pos 0)) 0 c.loop-k.k c.loop-k.k
    (zero-add c.loop-k.k))))

pub returns-clause-sends : goal.returns-clause-sends
returns-clause-sends c =
    rw c.loop-k.invariant
    (AreSends-range (λ k. entry c.args.values.now (c.args.j + k * c.args.m)) 0 c.loop-k.k
    (λ k. IsSend-entry c.args.values.now (c.args.j + k * c.args.m) c.requires.sends))
