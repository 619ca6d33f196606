-- A number of the first list is one of both.
use Rattle.std.proofs.Common.{◌≡◌, ℕ, true, false, eqb, List, [], ◌∷◌, ◌++◌, refl}
use Rattle.std.specs.Prelude.{◌||◌}
use Rattle.phase_base.specs.Lists.{is_in}

pub is_in-append : (task : ℕ) (xs ys : List ℕ) → is_in task xs ≡ true → is_in task (xs ++ ys) ≡ true
is_in-append task [] ys has = absurd (cc)
is_in-append task (x ∷ xs) ys has =
    elim (eqb x task) as (λ b. (b || is_in task xs) ≡ true → (b || is_in task (xs ++ ys)) ≡ true) [
      | true ↦ λ here. refl
      | false ↦ λ there. is_in-append task xs ys there
    ] has
