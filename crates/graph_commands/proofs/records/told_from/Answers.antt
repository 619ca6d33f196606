use Rattle.std.proofs.Common.{◌++◌, ◌∙◌, ◌∷◌, [], ap, sym, append-nil}
use Rattle.graph_commands.specs.Explained.{further_line}
use Rattle.graph_commands.proofs.records.told_from.Goals as goal

-- the record's line is told, and why it is no sample
pub returns : goal.returns
returns c =
    let why = further_line c.as_bytes.result.now in
    record {
      more = why;
      more_are = record { texts = c.as_bytes.result.now ∷ []; are = sym (append-nil why) };
      is = c.in_ok-put_line.ensures.ok
          ∙ ap (λ front. front ++ why)
          (rw (c.new-front.ensures.items, c.deref.ensures.value, c.in_ok-place.ensures, c.front_of.ensures, c.up_to_end-end.ensures.end) at c.in_ok-put_place.ensures);
    }
