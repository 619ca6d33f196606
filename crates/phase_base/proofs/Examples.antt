-- Worked words of operations, computed in the definitions.
use Rattle.std.proofs.Common.{◌≡◌, [], ◌∷◌, refl, codes, map, Some, None}
use Rattle.phase_base.specs.OperationWords.{operation_of}
use Rattle.phase_base.specs.declared.operation.Op.TheVariants.{Sum, Product, Least, Greatest, Any}

-- the five operations, and words that stand for none
operations : map operation_of
    (codes "sum" ∷ codes "product" ∷ codes "least" ∷ codes "greatest" ∷ codes "any" ∷ [])
    ≡ Some Sum ∷ Some Product ∷ Some Least ∷ Some Greatest ∷ Some Any ∷ []
operations = refl

no_operations : map operation_of (codes "mean" ∷ codes "Sum" ∷ codes "sums" ∷ codes "neg" ∷ [] ∷ [])
    ≡ None ∷ None ∷ None ∷ None ∷ None ∷ []
no_operations = refl
