-- What a job keeps of the graph and samples that it is given.
use Rattle.std.proofs.Common.{◌≡◌, ℕ, ℤ, List, length, map, sym, ap, ◌∙◌}
use Rattle.std.specs.Prelude.{Vec, Option}
use Rattle.std.specs.Global.{Global}
use Rattle.graph_base.specs.Graphs.{Graph}
use Rattle.stream_lists.specs.JobFields.{given}
use Rattle.stream_lists.specs.Jobs.{counted}
use Rattle.stream_lists.specs.Meetings.{meeting_at, meeting_line}
use Rattle.stream_lists.specs.Spans.{lengths_of, spans_of, spans_over}
use Rattle.stream_lists.specs.declared.span.Span.{Span}
use Rattle.stream_lists.proofs.AsMany.{lengths-counted, spans-counted}

-- what is made with the numbers of the samples is what the samples give
pub record IsGivenBy (graph : Graph) (samples : List (Vec ℤ Global)) (lengths : List ℕ)
    (spans : List Span) : Type 0 where
  pub lengths_are : lengths ≡ lengths_of (given graph samples)
  pub spans_are : spans ≡ spans_of (given graph samples)

pub given-counts : (graph : Graph) (samples lent : List (Vec ℤ Global))
    (counts first second lengths lengths_lent : List ℕ) (spans : List Span)
    → lent ≡ samples → counts ≡ map (λ list. length list.items) lent
    → first ≡ counts → lengths ≡ lengths_of (counted graph first)
    → second ≡ counts → lengths_lent ≡ lengths
    → spans ≡ spans_over (counted graph second) lengths_lent
    → IsGivenBy graph samples lengths spans
given-counts graph samples lent counts first second lengths lengths_lent spans same are first_same
    lengths_are second_same lengths_same spans_are =
    let numbers : counts ≡ map (λ list. length list.items) samples =
    are ∙ ap (map (λ list. length list.items)) same in
    let all : lengths ≡ lengths_of (counted graph counts) =
    lengths_are ∙ ap (λ ns. lengths_of (counted graph ns)) first_same in
    record {
      lengths_are = all ∙ lengths-counted graph samples counts numbers;
      spans_are = spans_are
          ∙ (ap (λ ns. spans_over (counted graph ns) lengths_lent) second_same
          ∙ (ap (spans_over (counted graph counts)) (lengths_same ∙ all)
          ∙ spans-counted graph samples counts numbers));
    }

pub meeting-given : (graph : Graph) (samples : List (Vec ℤ Global)) (spans lent : List Span)
    (found : Option ℕ)
    → spans ≡ spans_of (given graph samples) → lent ≡ spans → found ≡ meeting_at graph lent
    → meeting_line (given graph samples) ≡ found
meeting-given graph samples spans lent found spans_are same is =
    ap (meeting_at graph) (sym (same ∙ spans_are)) ∙ sym is
