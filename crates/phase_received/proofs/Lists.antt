-- The lists of two pasts, one behind the other.
use Rattle.std.proofs.Common.{◌≡◌, List, [], ◌∷◌, ◌++◌, map, sym, ap, ap₂, ◌∙◌}
use Rattle.std.proofs.lemmas.List.{map-append, append_assoc}
use Rattle.phase_accum.specs.Operations.{Operation}
use Rattle.phase_accum.specs.declared.outcome.Outcome.{Outcome}
use Rattle.phase_history.specs.Phases.{received_by}
use Rattle.phase_shared.specs.Regs.{PastState}
use Rattle.phase_received.specs.Received.{all_received}

pub joined_lists : {A K X : Type 0} (op : Operation A) (items : X → List Outcome) (one other both : PastState K)
    (first : List Outcome) (then : X) (others rest all : List X)
    → first ∷ map items others ≡ all_received op one → items then ∷ map items rest ≡ all_received op other
    → all ≡ (others ++ then ∷ []) ++ rest
    → map (received_by op.value both.seen) one.numbers ≡ map (received_by op.value one.seen) one.numbers
    → map (received_by op.value both.seen) other.numbers ≡ map (received_by op.value other.seen) other.numbers
    → both.numbers ≡ one.numbers ++ other.numbers → first ∷ map items all ≡ all_received op both
joined_lists op items one other both first then others rest all got got_then is stay stay_then numbers =
    ap (λ list. first ∷ map items list) is
    ∙ ap (λ lists. first ∷ lists) (map-append items (others ++ then ∷ []) rest
    ∙ ap (λ lists. lists ++ map items rest) (map-append items others (then ∷ []))
    ∙ append_assoc (map items others) (items then ∷ []) (map items rest))
    ∙ ap₂ (λ xs ys. xs ++ ys) (got ∙ sym stay) (got_then ∙ sym stay_then)
    ∙ sym (map-append (received_by op.value both.seen) one.numbers other.numbers)
    ∙ ap (λ ns. map (received_by op.value both.seen) ns) (sym numbers)
