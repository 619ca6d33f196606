-- Why words are refused by which sinks go where.
use Rattle.std.proofs.Common.{◌≡◌, ◌∷◌, [], Option, Some, None, Bor, List, ℕ, subst, sym, ap, ◌∙◌}
use Rattle.std.specs.Option.{option_map_or}
use Rattle.clap.specs.Kinds.{or_else}
use Rattle.clap.specs.Words.{HasKind, Kinds}
use Rattle.clap.specs.declared.error.Error.{Error}
use Rattle.clap.specs.declared.error.kind.ErrorKind.{ErrorKind}

-- they have the kind of the refusal, where clap has none
pub kinds-one : (faults kinds : Kinds) (kind : ErrorKind) (text : Bor (List ℕ))
    (found : Option (ErrorKind × Bor (List ℕ))) (error : Error) → faults ≡ []
    → kinds ≡ option_map_or (λ r. r.0 ∷ []) found [] → found ≡ Some (kind, text)
    → HasKind (kind ∷ []) error → HasKind (or_else faults kinds) error
kinds-one faults kinds kind text found error clean is some has =
    let one : kinds ≡ kind ∷ [] = is ∙ ap (λ o. option_map_or (λ r. r.0 ∷ []) o []) some in
    subst (λ (ks : Kinds). HasKind ks error) (sym (ap (λ ks. or_else ks kinds) clean ∙ one)) has

-- and none where there is no refusal
pub kinds-none : (faults kinds : Kinds) (found : Option (ErrorKind × Bor (List ℕ)))
    → faults ≡ [] → kinds ≡ option_map_or (λ r. r.0 ∷ []) found [] → found ≡ None
    → or_else faults kinds ≡ []
kinds-none faults kinds found clean is none =
    ap (λ ks. or_else ks kinds) clean ∙ (is ∙ ap (λ o. option_map_or (λ r. r.0 ∷ []) o []) none)
