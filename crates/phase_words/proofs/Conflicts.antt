-- Words in conflict: where clap has no fault, those of the conflict are the answer's.
use Rattle.std.proofs.Common.{◌≡◌, inl, inr, ℕ, List, [], ◌∷◌, Bor, Option, Some, None, option_map, refl}
use Rattle.std.specs.Prelude.{is_some}
use Rattle.clap.specs.Kinds.{or_else}
use Rattle.clap.specs.Words.{HasKind, Kinds}
use Rattle.clap.specs.declared.error.Error.{Error}

-- the first kinds go before
pub has-first : (first next : Kinds) (e : Error) → HasKind first e → HasKind (or_else first next) e
has-first [] next e (inl memory) = inl memory
has-first [] next e (inr among) = absurd among
has-first (k ∷ ks) next e has = has

-- there is a text where there is one that is lent
pub some-now : (given : Option (Bor (List ℕ))) → is_some (option_map (λ s. s.now) given) ≡ is_some given
some-now None = refl
some-now (Some text) = refl
