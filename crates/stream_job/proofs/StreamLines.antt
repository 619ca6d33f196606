-- The lines of the sinks at the opening, with whatever room each needs.
use Rattle.std.proofs.Common.{◌≡◌, ℕ, ℤ, ◌+◌, true, false, List, [], ◌∷◌, ◌++◌, Option, None, map, sym, ap, ◌∙◌}
use Rattle.std.specs.List.{All, filter, range_with_len}
use Rattle.std.proofs.lemmas.List.{map_push}
use Rattle.std.proofs.lemmas.List.Elements.{All-push}
use Rattle.stream_eval.specs.Results.{sink_values}
use Rattle.stream_eval.specs.declared.whole.Lines.{Lines}
use Rattle.stream_lists.specs.Jobs.{Job}
use Rattle.stream_lists.specs.Lists.{is_sink_at}
use Rattle.stream_lists.proofs.Firsts.{filter-skip, filter-take}
use Rattle.stream_job.specs.Machines.{HasRoom}

-- a sink that has taken nothing
abbrev empty : ℕ → ℕ × List ℤ
empty t = (t, [])

-- and has not begun
abbrev none : ℕ → Option ℕ
none t = None

-- these are the lines of the sinks among the first n tasks
pub record AreLinesBefore (job : Job) (needs : ℕ → ℕ) (n : ℕ) (lines : List Lines) : Type 0 where
  pub values : map sink_values lines
      ≡ map (λ t. (t, [])) (filter (is_sink_at job) (range_with_len 0 n))
  pub starts : map (λ line. line.start) lines
      ≡ map (λ t. None) (filter (is_sink_at job) (range_with_len 0 n))
  pub own : All (HasRoom needs) lines

pub line_more : (job : Job) (needs : ℕ → ℕ) (n : ℕ) (lines : List Lines) (line : Lines)
    → AreLinesBefore job needs n lines → is_sink_at job n ≡ true
    → sink_values line ≡ (n, []) → line.start ≡ None → HasRoom needs line
    → AreLinesBefore job needs (n + 1) (lines ++ line ∷ [])
line_more job needs n lines line before is values start own =
    let sinks = filter (is_sink_at job) (range_with_len 0 n) in
    record {
      values = map_push sink_values lines line
          ∙ ap (λ xs. xs ++ sink_values line ∷ []) before.values
          ∙ ap (λ v. map empty sinks ++ v ∷ []) values ∙ sym (map_push empty sinks n)
          ∙ ap (map empty) (sym (filter-take (is_sink_at job) n is));
      starts = map_push (λ line. line.start) lines line
          ∙ ap (λ xs. xs ++ line.start ∷ []) before.starts
          ∙ ap (λ o. map none sinks ++ o ∷ []) start ∙ sym (map_push none sinks n)
          ∙ ap (map none) (sym (filter-take (is_sink_at job) n is));
      own = All-push (HasRoom needs) lines line before.own own;
    }

pub line_not : (job : Job) (needs : ℕ → ℕ) (n : ℕ) (lines : List Lines)
    → AreLinesBefore job needs n lines → is_sink_at job n ≡ false
    → AreLinesBefore job needs (n + 1) lines
line_not job needs n lines before not = record {
  values = before.values ∙ ap (map empty) (sym (filter-skip (is_sink_at job) n not));
  starts = before.starts ∙ ap (map none) (sym (filter-skip (is_sink_at job) n not));
  own = before.own;
}
