use Rattle.std.proofs.Common.{rules, ℕ, List, Bor, ◌≡◌, ◌++◌, ◌∷◌, [], sym, ◌∙◌, ap, true, get_or}
use Rattle.std.proofs.lemmas.List.{map-append}
use Rattle.std.specs.Result.{is_ok}
use Rattle.graph_text.proofs.Kept.{kept-word, kept-none}
use Rattle.graph_text.proofs.text.words_of.Goals as goal
use Rattle.graph_text.proofs.text.words_of.Goals.{then-not-is_empty+in_ok-push, else-not-is_empty}

abbrev nowhere : Bor (List ℕ)
nowhere = record { ref_ptr = (0, 0); now = [] }

-- a piece that is a word goes last, and any other is passed over
pub loop-piece-preserved : goal.loop-piece-preserved
loop-piece-preserved c =
    let pieces = c.deref-piece-items.result.now in
    let i = c.loop-piece.piece-index in
    let below = c.loop-piece-test.true in
    elim c.if-not-is_empty.branch [
      | then-not-is_empty+in_ok-push w ↦
          let good : is_ok w.push.result ≡ true = search rules in
          let items = rw good at w.push.ensures.items in
          let word = sym c.is_empty.ensures ∙ w.if-not-is_empty.true in
          rw (
            w.words-is,
            items,
            kept-word pieces i nowhere below word,
            map-append (λ x. x.now) c.loop-piece.words.items _,
          )
          (ap (λ ws. ws ++ (get_or pieces i nowhere).now ∷ []) c.loop-piece.invariant)
      | else-not-is_empty w ↦
          let none = sym c.is_empty.ensures ∙ w.if-not-is_empty.false in
          rw (w.words-is, kept-none pieces i nowhere below none) c.loop-piece.invariant
    ]
