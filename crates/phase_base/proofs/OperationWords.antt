-- A word stands for an operation exactly where it is the word of that operation.
use Rattle.std.proofs.Common.{◌≡◌, ℕ, List, Bool, true, false, Option, Some, refl, ap, ◌∙◌, rules, if◌then◌else◌, bytes_eq}
use Rattle.std.proofs.lemmas.Slice.Eq.{bytes_eq-Decides}
use Rattle.std.proofs.lemmas.Option.{same_Some}
use Rattle.phase_base.specs.OperationWords.{operation_of, operation_word}
use Rattle.phase_base.specs.declared.operation.Op.{Op}
use Rattle.phase_base.specs.declared.operation.Op.TheVariants.{Sum, Product, Least, Greatest, Any}

-- a choice by one word
by_word : (word : List ℕ) (one op : Op) (others : Option Op) → (others ≡ Some op → word ≡ operation_word op)
    → (if bytes_eq word (operation_word one) then Some one else others) ≡ Some op
    → word ≡ operation_word op
by_word word one op others rest e = at (bytes_eq word (operation_word one)) refl e
  where
    at : (is : Bool) → bytes_eq word (operation_word one) ≡ is
        → (if is then Some one else others) ≡ Some op → word ≡ operation_word op
    at true is found =
        let same : word ≡ operation_word one =
        search (rules, bytes_eq-Decides word (operation_word one)) in
        same ∙ ap operation_word (same_Some one op found)
    at false is found = rest found

-- what is read is the word
pub operation-read : (word : List ℕ) (op : Op) → operation_of word ≡ Some op → word ≡ operation_word op
operation-read word op e =
    by_word word Sum op _ (by_word word Product op _ (by_word word Least op _
    (by_word word Greatest op _ (by_word word Any op _ (λ none. absurd (cc)))))) e

-- the word is read
pub operation-again : (op : Op) → operation_of (operation_word op) ≡ Some op
operation-again Sum = refl
operation-again Product = refl
operation-again Least = refl
operation-again Greatest = refl
operation-again Any = refl

-- each way
pub operation-words : (word : List ℕ) (op : Op)
    → (operation_of word ≡ Some op → word ≡ operation_word op)
    × (word ≡ operation_word op → operation_of word ≡ Some op)
operation-words word op =
    (operation-read word op, λ e. ap operation_of e ∙ operation-again op)
