-- A list of one value is that value.
use Rattle.std.proofs.Common.{rules, ◌≡◌, ◌∷◌, [], ℤ, List, length, pos, subst, ap, refl, ◌∙◌, arith, to_z-of_z, w64, SFits}
use Rattle.std.specs.Prelude.{OnOk, slice_index_or}
use Rattle.stream_tasks.specs.Holds.{HoldGoesOn, MemberHasSignalled}
use Rattle.stream_tasks.proofs.deal.put_list.Goals as goal

one_value : (values : List ℤ) → length values ≡ 1 → slice_index_or values 0 (pos 0) ∷ [] ≡ values
one_value [] one = absurd (omega arith)
one_value (v ∷ []) one = refl
one_value (v ∷ (w ∷ more)) one = absurd (omega arith)

pub returns-then-values-eq1-clause-ok : goal.returns-then-values-eq1-clause-ok
returns-then-values-eq1-clause-ok c =
    let values = c.args.values.now in
    let fits : SFits w64 (slice_index_or values 0 (pos 0)) = search rules in
    subst (λ l. OnOk c.put.result (HoldGoesOn (MemberHasSignalled l c.args.single) c.args.hold.now c.put.new.self))
    (ap (λ x. x ∷ []) (to_z-of_z fits) ∙ one_value values c.if-values-eq1.true) c.put.ensures.ok
