use Rattle.std.proofs.Common.{Bor, List, ℕ, ◌≡◌, ◌∙◌, sym, refl, rules, arith, inl, inr, true, map, Some, ◌∷◌, [], ◌++◌, length-append, ◌+◌}
use Rattle.std.proofs.lemmas.Int.{to_z-of_z}
use mir.Syntax.{w64}
use mir.Val.{SFits}
use Rattle.std.specs.Result.{is_ok}
use Rattle.std.proofs.lemmas.List.{map-append}
use Rattle.csv.specs.Records.{fields_of}
use Rattle.csv.specs.Reading.{Reached, default_config, strip_bom}
use Rattle.csv.specs.declared.parser.State.TheVariants as st
use Rattle.csv.proofs.ReadFacts.{rows-more}
use Rattle.phase_accum.proofs.Parts.{AreSends-append}
use Rattle.graph_lang.specs.Samples.{row_of}
use Rattle.graph_lang.proofs.Shrinks.{read_leaves, length-strip_bom-le}
use Rattle.graph_lang.proofs.sample.records_of.Goals as goal

-- No record is read.
pub loop-values-init : goal.loop-values-init
unfolding Reached
loop-values-init c =
    let fr = c.from_reader-records.ensures in
    let named = c.has_headers.ensures in
    let flexible = c.flexible.ensures in
    record {
      trim = rw (flexible, named) at fr.trim ∙ c.new.ensures.trim;
      ready = inr (inr (rw (flexible, named) at fr.has_headers, fr.headers));
      config = rw (flexible, named) at fr.config ∙ c.new.ensures.config;
      fresh = rw fr.state refl;
      sends = rw c.new-values.ensures.items tt;
      reached = rw c.new-values.ensures.items (strip_bom c.args.text.now, fr.source, (sym fr.state, refl), omega (arith, length-strip_bom-le c.args.text.now));
    }

-- All records are read.
pub returns-in-Ok-false-clause-values : goal.returns-in-Ok-false-clause-values
returns-in-Ok-false-clause-values c =
    let (y, source, reached, few) = c.loop-values.invariant.reached in
    (c.loop-values.invariant.sends, omega arith)

-- The record that was read is of no value.
pub returns-in-None-clause-bad : goal.returns-in-None-clause-bad
returns-in-None-clause-bad c n e =
    let inv = c.loop-values.invariant in
    let (y, source, reached, few) = inv.reached in
    let read = rw c.in-Ok-true.field-0-test at (c.in-Ok-true.ensures.reads inv.trim inv.ready) in
    let f = fields_of c.read_byte_record.new.row in
    let (z, at_z, next) = rows-more (λ (s : Bor (List ℕ)). Some s.now) c.loop-values.records c.read_byte_record.new.self f default_config st.StartRecord (strip_bom c.args.text.now) y (map row_of c.loop-values.values.items) inv.config source reached read in
    let same : c.len-number.result + 1 ≡ n = cc in
    record {
      good = c.loop-values.values.items;
      row = f;
      number = omega (arith, same, c.len-number.ensures, c.loop-values.values.ok.0);
      sends = inv.sends;
      begins = (c.read_byte_record.new.self.state, z, next);
      other = c.in-None.ensures.none;
    }

-- A record takes a byte.
pub loop-values-smaller : goal.loop-values-smaller
loop-values-smaller c =
    let inv = c.loop-values.invariant in
    let (y, source, reached, few) = inv.reached in
    let read = rw c.in-Ok-true.field-0-test at (c.in-Ok-true.ensures.reads inv.trim inv.ready) in
    let f = fields_of c.read_byte_record.new.row in
    let (z, at_z, next) = rows-more (λ (s : Bor (List ℕ)). Some s.now) c.loop-values.records c.read_byte_record.new.self f default_config st.StartRecord (strip_bom c.args.text.now) y (map row_of c.loop-values.values.items) inv.config source reached read in
    rw (source, at_z) (read_leaves (λ (s : Bor (List ℕ)). Some s.now) c.loop-values.records c.read_byte_record.new.self f y z inv.config inv.fresh source read at_z).less

-- The record that was read is of a value.
pub loop-values-preserved : goal.loop-values-preserved
loop-values-preserved c =
    let inv = c.loop-values.invariant in
    let (y, source, reached, few) = inv.reached in
    let read = rw c.in-Ok-true.field-0-test at (c.in-Ok-true.ensures.reads inv.trim inv.ready) in
    let f = fields_of c.read_byte_record.new.row in
    let (z, at_z, next) = rows-more (λ (s : Bor (List ℕ)). Some s.now) c.loop-values.records c.read_byte_record.new.self f default_config st.StartRecord (strip_bom c.args.text.now) y (map row_of c.loop-values.values.items) inv.config source reached read in
    let good : is_ok c.push.result ≡ true = search rules in
    let fits : SFits w64 c.in-Some.value = search rules in
    let pushed = rw good at c.push.ensures.items in
    let items : c.push.new.self.items ≡ c.loop-values.values.items ++ c.in-Some.value ∷ [] = simp to_z-of_z at pushed in
    let sample = c.in-Some.ensures.some in
    let left = read_leaves (λ (s : Bor (List ℕ)). Some s.now) c.loop-values.records c.read_byte_record.new.self f y z inv.config inv.fresh source read at_z in
    let less = left.less in
    record {
      trim = read.3 ∙ inv.trim;
      ready = inl (c.in-Ok-true.ensures.ready inv.trim);
      config = read.2 ∙ inv.config;
      fresh = left.fresh;
      sends = rw items (AreSends-append c.loop-values.values.items (c.in-Some.value ∷ []) inv.sends (sample.1, tt));
      reached = (z, at_z, rw (items, map-append row_of c.loop-values.values.items (c.in-Some.value ∷ []), ← sample.0) next, rw items omega (arith, length-append c.loop-values.values.items (c.in-Some.value ∷ []), few, less));
    }
