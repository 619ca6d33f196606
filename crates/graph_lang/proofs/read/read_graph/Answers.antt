use Rattle.std.proofs.Common.{◌∙◌, ap, arith, Err, [], List, ℕ, map, Bor, subst}
use Rattle.std.proofs.lemmas.Result.{err_from_is_err_and}
use Rattle.phase_base.specs.Lists.{without_cr}
use Rattle.graph_text.specs.Plain.{plain}
use Rattle.graph_lang.specs.Reads.{Tells, version_of, without_heading}
use Rattle.graph_lang.proofs.ReadLines.{lines_in, continues-more, continues-fault, continues-all}
use Rattle.graph_lang.proofs.Wellformed.{reads_give_graph}
use Rattle.graph_lang.proofs.read.read_graph.Goals as goal

abbrev nowhere : Bor (List ℕ)
nowhere = record { ref_ptr = (0, 0); now = [] }

-- the line that stopped the reading is the first with a fault
pub returns-in_err-version : goal.returns-in_err-version
returns-in_err-version c =
    let read = c.loop-line in
    let text = ap (map without_cr)
    (ap plain c.deref-line-items.ensures.value ∙ c.in_ok-lines.ensures) in
    let e = c.in_err-version.field-0.0 in
    let passed_on = c.from_residual-in_err-version in
    let error = err_from_is_err_and passed_on.result passed_on.ensures.1 in
    let P : List (List ℕ) → Type 0 = λ lines. Tells lines (Err e) in
    rw (error.1, error.2) (subst P text (continues-fault c.deref-line-items.result.now
    read.line-index read.number read.version read.draft nowhere e c.loop-line-test.true
    read.invariant.so_far
    (rw c.without_cr.ensures at c.in_err-version.ensures.fault)))

-- the line was read
pub loop-line-preserved : goal.loop-line-preserved
loop-line-preserved c =
    let read = c.loop-line in
    record {
      number = omega (arith, read.invariant.number);
      so_far = continues-more c.deref-line-items.result.now read.line-index read.number read.version
          _ read.draft c.read_line.new.self nowhere c.loop-line-test.true read.invariant.so_far
          (rw c.without_cr.ensures at c.in_ok-version.ensures.version)
          (rw c.without_cr.ensures at c.in_ok-version.ensures.ok);
    }

-- all lines were read
pub into_graph-requires : goal.into_graph-requires
into_graph-requires c =
    let read = c.loop-line in
    let lines = lines_in c.deref-line-items.result.now in
    reads_give_graph (version_of lines) (without_heading lines) read.draft
    (continues-all c.deref-line-items.result.now read.line-index read.number read.version read.draft
    (omega (arith, c.loop-line-test.false)) read.invariant.so_far)
