-- What a record is told by, from piece to piece.
use Rattle.std.proofs.Common.{◌≡◌, ◌+◌, ◌-◌, ◌++◌, ◌==◌, ℕ, cond, List, drop, take, sym, ap, ◌∙◌, arith, take-append-drop}
use Rattle.std.proofs.lemmas.List.Sums.{sum_by-append}
use Rattle.std.proofs.lemmas.List.{append_assoc}
use Rattle.graph_commands.specs.Records.{line_at}
use Rattle.phase_stream.specs.Sources.{IsKeptOf, line_feeds}
use Rattle.phase_stream.specs.declared.record_text.RecordText.{RecordText}

-- the line feeds of two texts
feeds_append : (xs ys : List ℕ) → line_feeds (xs ++ ys) ≡ line_feeds xs + line_feeds ys
feeds_append xs ys = sum_by-append (λ x. cond (x == 10) 1 0) xs ys

-- all is kept from a later byte on
pub passed : (text piece all : List ℕ) (at : ℕ) (old new : RecordText)
    → all ≡ old.text.items ++ piece → new.text.items ≡ drop at all
    → new.line ≡ old.line + (line_at all at - 1)
    → IsKeptOf text old → IsKeptOf (text ++ piece) new
passed text piece all at old new all_is kept line is =
    let feeds = feeds_append is.before (take at all) in
    let was = is.line_is in
    record {
      before = is.before ++ take at all;
      text_is = ap (λ t. t ++ piece) is.text_is
          ∙ append_assoc is.before old.text.items piece
          ∙ ap (λ l. is.before ++ l) (sym all_is ∙ sym (take-append-drop at all))
          ∙ sym (append_assoc is.before (take at all) (drop at all))
          ∙ ap (λ l. (is.before ++ take at all) ++ l) (sym kept);
      line_is = omega (arith, feeds, was, line);
    }
