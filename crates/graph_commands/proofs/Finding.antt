-- The first number that passes a test, and the values of a sink among those of all.
use Rattle.std.proofs.Common.{◌≡◌, ℕ, zero, suc, ◌+◌, ◌<◌, ◌≤◌, ◌==◌, List, [], ◌∷◌, map, length, drop, get_or, Bool, true, false, refl, ap, ◌∙◌, arith, length-append}
use Rattle.std.specs.List.{filter, range_with_len}
use Rattle.std.proofs.lemmas.List.{drop_more}
use Rattle.stream_lists.proofs.Firsts.{filter-take}
use Rattle.stream_eval.specs.Results.{sink_output}
use Rattle.stream_eval.specs.declared.whole.Lines.{Lines}
use Rattle.graph_commands.specs.OutputTexts.{values_of_sink}

-- one more number that passes
pub count-take : (test : ℕ → Bool) (n : ℕ) → test n ≡ true
    → length (filter test (range_with_len 0 (n + 1)))
    ≡ length (filter test (range_with_len 0 n)) + 1
count-take test n e =
    ap length (filter-take test n e) ∙ length-append (filter test (range_with_len 0 n)) (n ∷ [])

-- ---- the values of a sink

-- those behind the first lines are the sink's, where the next line is, and where it is another's
pub values_here : (sink i : ℕ) (lines : List Lines) (line : Lines) → i < length lines
    → get_or lines i line ≡ line → (line.task == sink) ≡ true
    → values_of_sink sink (map sink_output (drop i lines)) ≡ line.values.items
values_here sink i lines line lt is hit =
    ap (λ xs. values_of_sink sink (map sink_output xs)) (drop_more lines i line lt)
    ∙ ap (λ l. values_of_sink sink (map sink_output (l ∷ drop (i + 1) lines))) is ∙ rw hit refl

pub values_behind : (sink i : ℕ) (lines : List Lines) (line : Lines) → i < length lines
    → get_or lines i line ≡ line → (line.task == sink) ≡ false
    → values_of_sink sink (map sink_output (drop i lines))
    ≡ values_of_sink sink (map sink_output (drop (i + 1) lines))
values_behind sink i lines line lt is other =
    ap (λ xs. values_of_sink sink (map sink_output xs)) (drop_more lines i line lt)
    ∙ ap (λ l. values_of_sink sink (map sink_output (l ∷ drop (i + 1) lines))) is ∙ rw other refl

pub no_values : (sink : ℕ) (lines : List Lines) (i : ℕ) → length lines ≤ i
    → values_of_sink sink (map sink_output (drop i lines)) ≡ []
no_values sink [] zero le = refl
no_values sink [] (suc i) le = refl
no_values sink (line ∷ lines) zero le = absurd (omega arith)
no_values sink (line ∷ lines) (suc i) le = no_values sink lines i (omega arith)
