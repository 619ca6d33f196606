-- The words of the operations on the sends of a phase.
use Rattle.std.specs.Prelude.{ℕ, List, Option, Some, None, if◌then◌else◌, codes}
use Rattle.std.specs.Str.{bytes_eq}
use Rattle.phase_base.specs.declared.operation.Op.{Op}
use Rattle.phase_base.specs.declared.operation.Op.TheVariants.{Sum, Product, Least, Greatest, Any}

-- the word of an operation
abbrev pub operation_word : Op → List ℕ
operation_word Sum = codes "sum"
operation_word Product = codes "product"
operation_word Least = codes "least"
operation_word Greatest = codes "greatest"
operation_word Any = codes "any"

-- the operation that a word stands for
abbrev pub operation_of : List ℕ → Option Op
operation_of word =
    if bytes_eq word (codes "sum") then Some Sum
    else if bytes_eq word (codes "product") then Some Product
    else if bytes_eq word (codes "least") then Some Least
    else if bytes_eq word (codes "greatest") then Some Greatest
    else if bytes_eq word (codes "any") then Some Any
    else None
