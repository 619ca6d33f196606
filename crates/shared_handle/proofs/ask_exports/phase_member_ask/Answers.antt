-- It asks with the value that it was given, or with none.
use Rattle.std.proofs.Common.{rules, arith, ◌≡◌, ◌<◌, ◌≤◌, ℤ, pos, List, [], ◌∷◌, Some, length, get_or, FitsSigned, w64, refl, ap, subst, ◌∙◌, to_z-of_z}
use Rattle.shared_handle.specs.AnyMembers.{held_in, asker_in, HasAsked}
use Rattle.shared_handle.specs.Told.{AsksFrom}
use Rattle.shared_handle.specs.Members.{sent_value}
use Rattle.shared_handle.proofs.ask_exports.phase_member_ask.Goals as goal
use Rattle.shared_handle.proofs.ask_exports.phase_member_ask.Goals.{in-empty, in-len1}

none_of : (values : List ℤ) → length values < 1 → [] ≡ values
none_of [] few = refl
none_of (v ∷ rest) few = absurd (omega (arith, few))

one_of : (values : List ℤ) → 1 ≤ length values → length values < 2
    → get_or values 0 (pos 0) ∷ [] ≡ values
one_of [] some few = absurd (omega (arith, some))
one_of (v ∷ []) some few = refl
one_of (v ∷ next ∷ rest) some few = absurd (omega (arith, few))

pub returns-then-ask-clause-asked : goal.returns-then-ask-clause-asked
returns-then-ask-clause-asked c m held asked =
    let asks = c.ask.ensures.asks m (ap held_in c.asks.ensures.same ∙ held) c.if-ask.true in
    let same = subst (λ values. HasAsked (asker_in c.ask.new.self.place.kept)
    (λ a. AsksFrom values m a)) in
    elim c.if-values-lt1.branch [
      | in-empty w ↦
          same (ap sent_value w.value-is ∙ none_of c.args.values.now w.in-empty.len_below) asks
      | in-len1 w ↦
          let first = get_or c.args.values.now 0 (pos 0) in
          let fits : FitsSigned w64 first = search rules in
          let is : c.if-values-lt1.value ≡ Some first = w.value-is ∙ ap Some (to_z-of_z fits) in
          same (ap sent_value is ∙ one_of c.args.values.now w.in-len1.len_at_least w.in-len1.len_below)
          asks
    ]
