-- A record of one field.
use Rattle.std.proofs.Common.{ℕ, ◌≡◌, List, [], ◌∷◌, length, sym, ◌∙◌, arith, ap, Option, Some, None, IfSome, IfNone, ℤ}
use Rattle.std.specs.Fmt.{signed_decimal}
use Rattle.csv.specs.Records.{field_at}
use Rattle.phase_accum.specs.Sends.{IsSend}

pub only_field : (fs : List (List ℕ)) (f : List ℕ) → length fs ≡ 1 → Some f ≡ field_at fs 0 → fs ≡ f ∷ []
unfolding field_at
only_field [] f one e = absurd (omega arith)
only_field (g ∷ []) f one e = let same : f ≡ g = cc in cc
only_field (g ∷ h ∷ fs) f one e = absurd (omega arith)

pub some_field : (fs : List (List ℕ)) → length fs ≡ 1 → None ≡ field_at fs 0 → ⊥
unfolding field_at
some_field [] one e = absurd (omega arith)
some_field (g ∷ fs) one e = cc

-- what the field says is what the record says
pub some_sample : (o : Option ℤ) (fs : List (List ℕ)) (f : List ℕ) → fs ≡ f ∷ [] → IfSome o (λ v. (f ≡ signed_decimal v) × IsSend v) → IfSome o (λ v. (fs ≡ signed_decimal v ∷ []) × IsSend v)
some_sample None fs f e h = tt
some_sample (Some v) fs f e h = (e ∙ ap (λ w. w ∷ []) h.0, h.1)

pub no_sample : (o : Option ℤ) (fs : List (List ℕ)) (f : List ℕ) → fs ≡ f ∷ [] → IfNone o ((v : ℤ) → IsSend v → f ≡ signed_decimal v → ⊥) → IfNone o ((v : ℤ) → IsSend v → fs ≡ signed_decimal v ∷ [] → ⊥)
no_sample None fs f e h = λ v within same. h v within (let both : f ∷ [] ≡ signed_decimal v ∷ [] = sym e ∙ same in cc)
no_sample (Some v) fs f e h = tt
