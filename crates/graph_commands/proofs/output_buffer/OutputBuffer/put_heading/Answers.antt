use Rattle.std.proofs.Common.{◌≡◌, ◌++◌, [], codes, decimal, rules, subst}
use Rattle.std.specs.Prelude.{OnErr}
use Rattle.watched_io.specs.Prefix.{AppendsPrefix}
use Rattle.watched_io.specs.Watched.{inner_of}
use Rattle.graph_commands.proofs.Putting.{six_texts}
use Rattle.graph_commands.proofs.output_buffer.OutputBuffer.put_heading.Goals as goal

-- of the texts a prefix was put
pub returns-in-Some-clause-err : goal.returns-in-Some-clause-err
returns-in-Some-clause-err g c =
    let count : c.format-count.result.now ≡ decimal c.args.count = search rules in
    let start : c.format-start.result.now ≡ decimal c.in-Some.start = search rules in
    rw c.in-Some.is (subst (λ text. OnErr c.put_texts.result
    (AppendsPrefix (g.W.Write.contents (inner_of c.args.writer.now))
    (g.W.Write.contents (inner_of c.put_texts.new.writer)) (c.args.self.now ++ text)))
    (six_texts c.args.name.now (codes " from ") (decimal c.in-Some.start) (codes " ")
    (decimal c.args.count) (codes "\n"))
    (rw (c.as_slice.ensures, start, count) at c.put_texts.ensures.err))

-- of those without a start
pub returns-in-None-clause-err : goal.returns-in-None-clause-err
returns-in-None-clause-err g c =
    let count : c.format-count.result.now ≡ decimal c.args.count = search rules in
    rw c.in-None.is (subst (λ text. OnErr c.put_texts-in-None.result
    (AppendsPrefix (g.W.Write.contents (inner_of c.args.writer.now))
    (g.W.Write.contents (inner_of c.put_texts-in-None.new.writer)) (c.args.self.now ++ text)))
    (six_texts c.args.name.now [] [] (codes " ") (decimal c.args.count) (codes "\n"))
    (rw (c.as_slice-in-None.ensures, count) at c.put_texts-in-None.ensures.err))
