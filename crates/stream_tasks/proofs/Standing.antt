-- Where a task stands is told registration by registration.
use Rattle.std.proofs.Common.{◌≡◌, ◌++◌, ℕ, List, [], ◌∷◌, ap, ◌∙◌}
use Rattle.std.proofs.lemmas.List.{append_assoc}
use Rattle.std.proofs.lemmas.List.Elements.{All-append, All-cons, All-nil}
use Rattle.stream_lists.specs.Jobs.{Job}
use Rattle.stream_lists.specs.declared.stand.Stand.{Stand}
use Rattle.stream_tasks.specs.Standings.{IsStandOf, PutsStands}

-- one more stands behind them
pub puts_one : (job : Job) (t : ℕ) (old mid new : List Stand) (s : Stand)
    → PutsStands job t old mid → IsStandOf job t s → new ≡ mid ++ (s ∷ []) → PutsStands job t old new
puts_one job t old mid new s before is e =
    let P = IsStandOf job t in record {
      more = before.more ++ (s ∷ []);
      is = e ∙ ap (λ xs. xs ++ (s ∷ [])) before.is ∙ append_assoc old before.more (s ∷ []);
      each = All-append P before.more (s ∷ []) before.each (All-cons P s [] is (All-nil P));
    }
