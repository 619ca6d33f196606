-- A line more is put, or written.
use Rattle.std.proofs.Common.{◌++◌, ◌∙◌, sym, subst}
use Rattle.std.proofs.KnownBytes.{Appends-trans}
use Rattle.std.specs.Io.KnownBytes.{Appends}
use Rattle.std.specs.List.{list_all, list_any}
use Rattle.std.proofs.lemmas.Bool.{and_parts}
use Rattle.watched_io.specs.Prefix.{AppendsPrefix}
use Rattle.watched_io.specs.Watched.{inner_of}
use Rattle.phase_stream.specs.Columns.{has_value, is_known}
use Rattle.phase_stream.specs.TableLines.{ShowsMore}
use Rattle.phase_stream.proofs.EachColumn.{fewer_lines, left_passed}
use Rattle.phase_stream.proofs.NextLines.{line_on, none_behind, part_behind, sent_on}
use Rattle.phase_stream.proofs.table.Table.write.Goals as goal

pub returns-in_default-clause-err : goal.returns-in_default-clause-err
returns-in_default-clause-err g c = λ job ended going s m given view shows.
    record {
      columns = c.loop-self.self.columns.items;
      bytes = c.loop-self.invariant.0 ++ c.loop-self.text.items;
      more = c.loop-self.invariant.2 job ended going s m given view shows;
      written = none_behind (g.W.Write.contents (inner_of c.args.output.now))
          (g.W.Write.contents (inner_of c.loop-self.output)) c.loop-self.invariant.0
          c.loop-self.text.items c.loop-self.invariant.1;
    }

pub returns-in_default-send-clause-err : goal.returns-in_default-send-clause-err
returns-in_default-send-clause-err g c = λ job ended going s m given view shows.
    (let sent = c.loop-self.invariant.0 in
    let text = c.put_line.new.text.items in
    let has = sym c.has_line.ensures ∙ c.loop-self-test.true in
    record {
      columns = c.pass.new.self.columns.items;
      bytes = sent ++ text;
      more = line_on job ended going s m given view c.loop-self.self.columns.items
          c.pass.new.self.columns.items sent c.loop-self.text.items text
          (c.loop-self.invariant.2 job ended going s m given view shows) has c.pass.ensures
          c.in-Ok.ensures;
      written = part_behind (g.W.Write.contents (inner_of c.args.output.now))
          (g.W.Write.contents (inner_of c.loop-self.output))
          (g.W.Write.contents (inner_of c.send.new.self)) sent text c.loop-self.invariant.1
          (subst (AppendsPrefix (g.W.Write.contents (inner_of c.loop-self.output))
          (g.W.Write.contents (inner_of c.send.new.self))) c.deref.ensures.value
          c.in_default-send.ensures.err);
    })

pub loop-self-smaller-then-len-ge-CHUNK_MAX : goal.loop-self-smaller-then-len-ge-CHUNK_MAX
loop-self-smaller-then-len-ge-CHUNK_MAX g c =
    let columns = c.loop-self.self.columns.items in
    fewer_lines columns c.pass.new.self.columns.items c.pass.ensures
    (and_parts (list_any has_value columns) (list_all is_known columns)
    (sym c.has_line.ensures ∙ c.loop-self-test.true)).0

pub loop-self-preserved-then-len-ge-CHUNK_MAX : goal.loop-self-preserved-then-len-ge-CHUNK_MAX
loop-self-preserved-then-len-ge-CHUNK_MAX g c =
    let sent = c.loop-self.invariant.0 in
    let text = c.put_line.new.text.items in
    let has = sym c.has_line.ensures ∙ c.loop-self-test.true in (
      sent ++ text,
      Appends-trans (g.W.Write.contents (inner_of c.args.output.now))
          (g.W.Write.contents (inner_of c.loop-self.output))
          (g.W.Write.contents (inner_of c.send.new.self)) sent text c.loop-self.invariant.1
          (subst (Appends (g.W.Write.contents (inner_of c.loop-self.output))
          (g.W.Write.contents (inner_of c.send.new.self))) c.deref.ensures.value
          c.in-Ok-send.ensures.ok),
      λ job ended going s m given view shows.
          subst (λ l. ShowsMore job ended going s m given view c.pass.new.self.columns.items
          ((sent ++ text) ++ l)) (sym c.clear.ensures.items)
          (sent_on job ended going s m given view c.pass.new.self.columns.items (sent ++ text)
          (line_on job ended going s m given view c.loop-self.self.columns.items
          c.pass.new.self.columns.items sent c.loop-self.text.items text
          (c.loop-self.invariant.2 job ended going s m given view shows) has c.pass.ensures
          c.in-Ok.ensures)),
      λ left. left_passed c.loop-self.self.columns.items c.pass.new.self.columns.items c.pass.ensures
          (c.loop-self.invariant.3 left),
    )

pub loop-self-smaller : goal.loop-self-smaller
loop-self-smaller g c =
    let columns = c.loop-self.self.columns.items in
    fewer_lines columns c.pass.new.self.columns.items c.pass.ensures
    (and_parts (list_any has_value columns) (list_all is_known columns)
    (sym c.has_line.ensures ∙ c.loop-self-test.true)).0

pub loop-self-preserved : goal.loop-self-preserved
loop-self-preserved g c =
    let has = sym c.has_line.ensures ∙ c.loop-self-test.true in (
      c.loop-self.invariant.0,
      c.loop-self.invariant.1,
      λ job ended going s m given view shows.
          line_on job ended going s m given view c.loop-self.self.columns.items
          c.pass.new.self.columns.items c.loop-self.invariant.0 c.loop-self.text.items
          c.put_line.new.text.items (c.loop-self.invariant.2 job ended going s m given view shows) has
          c.pass.ensures c.in-Ok.ensures,
      λ left. left_passed c.loop-self.self.columns.items c.pass.new.self.columns.items c.pass.ensures
          (c.loop-self.invariant.3 left),
    )

pub returns-in-Ok-send-2-clause-ok : goal.returns-in-Ok-send-2-clause-ok
returns-in-Ok-send-2-clause-ok g c = λ job ended going s m given view shows.
    record {
      bytes = c.loop-self.invariant.0 ++ c.loop-self.text.items;
      more = c.loop-self.invariant.2 job ended going s m given view shows;
      written = Appends-trans (g.W.Write.contents (inner_of c.args.output.now))
          (g.W.Write.contents (inner_of c.loop-self.output))
          (g.W.Write.contents (inner_of c.send-2.new.self)) c.loop-self.invariant.0
          c.loop-self.text.items c.loop-self.invariant.1
          (subst (Appends (g.W.Write.contents (inner_of c.loop-self.output))
          (g.W.Write.contents (inner_of c.send-2.new.self))) c.deref-2.ensures.value
          c.in-Ok-send-2.ensures.ok);
    }

pub returns-clause-err : goal.returns-clause-err
returns-clause-err g c = λ job ended going s m given view shows.
    record {
      columns = c.loop-self.self.columns.items;
      bytes = c.loop-self.invariant.0 ++ c.loop-self.text.items;
      more = c.loop-self.invariant.2 job ended going s m given view shows;
      written = part_behind (g.W.Write.contents (inner_of c.args.output.now))
          (g.W.Write.contents (inner_of c.loop-self.output))
          (g.W.Write.contents (inner_of c.send-2.new.self)) c.loop-self.invariant.0
          c.loop-self.text.items c.loop-self.invariant.1
          (subst (AppendsPrefix (g.W.Write.contents (inner_of c.loop-self.output))
          (g.W.Write.contents (inner_of c.send-2.new.self))) c.deref-2.ensures.value
          c.in-Err.ensures.err);
    }

pub returns-in-Ok-send-2-clause-left : goal.returns-in-Ok-send-2-clause-left
returns-in-Ok-send-2-clause-left g c = c.loop-self.invariant.3
