use Rattle.std.proofs.Common.{rules, ◌≡◌, ◌%◌, ◌/◌, ◌++◌, ◌∷◌, [], length, map, get_or, pos, ap, sym, ◌∙◌, zero-add, w64, FitsSigned}
use Rattle.std.proofs.lemmas.Int.{to_z-of_z}
use Rattle.std.proofs.lemmas.List.{length-map}
use Rattle.std.proofs.lemmas.List.FromFn.{map-range_with_len_more}
use Rattle.stream_lists.specs.Lists.{turn_at}
use Rattle.stream_eval.proofs.Sendable.{AreSends-one, AreSends-range, IsSend-entry}
use Rattle.stream_eval.proofs.list.in_turn_list.Goals as goal

-- one more entry
pub loop-i-preserved : goal.loop-i-preserved
loop-i-preserved c =
    let lists = map (λ x. x.now) c.args.lists.now in
    let many = length-map c.args.lists.now (λ x. x.now) in
    let value : c.entry_at.result
    ≡ get_or (get_or lists (c.loop-i.i % length lists) []) (c.loop-i.i / length lists) (pos 0) =
    c.entry_at.ensures ∙ ap (λ m. get_or
    (get_or (map (λ x. x.now) c.args.lists.now) (c.loop-i.i % m) []) (c.loop-i.i / m) (pos 0))
    (sym many) in
    let fits : FitsSigned w64 c.entry_at.result = search rules in
    c.in_ok-push.ensures.items
    ∙ (ap (λ v. c.loop-i.list.items ++ v ∷ []) (to_z-of_z w64 c.entry_at.result fits ∙ value)
    ∙ (ap (λ xs. xs ++ get_or (get_or lists (c.loop-i.i % length lists) [])
    (c.loop-i.i / length lists) (pos 0) ∷ []) c.loop-i.invariant
    ∙ sym (map-range_with_len_more
    (λ i. get_or (get_or lists (i % length lists) []) (i / length lists) (pos 0)) 0 c.loop-i.i
    c.loop-i.i (zero-add c.loop-i.i))))

pub returns-clause-sends : goal.returns-clause-sends
returns-clause-sends c =
    let lists = map (λ x. x.now) c.args.lists.now in
    rw c.loop-i.invariant
    (AreSends-range (turn_at lists) 0 c.loop-i.i
    (λ i. IsSend-entry (get_or lists (i % length lists) []) (i / length lists)
    (AreSends-one (λ x. x.now) c.args.lists.now (i % length lists) c.requires.sends)))
