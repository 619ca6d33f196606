use Rattle.std.proofs.lemmas.Result.{IfOk-weaker}
use Rattle.graph_show.proofs.explained.line_marked.Goals as goal

-- the first byte that no line may have is marked, with what was expected there
pub returns-then-not-are_printable : goal.returns-then-not-are_printable
returns-then-not-are_printable c =
    IfOk-weaker c.marked.result _ _
    (λ text is. record {
      start = c.bad_byte_of-at.result;
      count = 1;
      wanted = c.bytes_wanted.result.now;
      inside = c.bad_byte_of-at.ensures;
      is = is;
    }) c.marked.ensures

-- a word of the line is marked, or its end
pub returns : goal.returns
returns c =
    IfOk-weaker c.marked-2.result _ _
    (λ text is. record {
      start = c.start_of.result;
      count = c.match-get.count;
      wanted = c.deref-3.result.now;
      inside = c.start_of.ensures;
      is = is;
    }) c.marked-2.ensures
