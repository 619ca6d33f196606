use Rattle.std.proofs.Common.{arith}
use Rattle.csv.specs.Reading.{default_config, strip_bom}
use Rattle.csv.specs.declared.parser.State.TheVariants as st
use Rattle.graph_lang.proofs.Unique.{values_same, next_of_value, good_same}
use Rattle.graph_lang.proofs.text_laws.one_reading.Goals as goal

-- One text has one list of records.
pub returns-clause-values : goal.returns-clause-values
returns-clause-values c text values others a b = values_same default_config values others st.StartRecord (strip_bom text) a.sends b.sends a.records b.records

-- One text has one first record that is of no value.
pub returns-clause-bad : goal.returns-clause-bad
returns-clause-bad c text m n a b =
    let same = good_same default_config a.good b.good a.row b.row st.StartRecord a.begins.0 b.begins.0 (strip_bom text) a.begins.1 b.begins.1 a.sends b.sends a.other b.other a.begins.2 b.begins.2 in
    omega (arith, same, a.number, b.number)

-- A record that is of no value is none of a text of values.
pub returns-clause-apart : goal.returns-clause-apart
returns-clause-apart c text values n a b =
    let (v, is, row) = next_of_value default_config values b.good b.row st.StartRecord b.begins.0 (strip_bom text) b.begins.1 a.sends a.records b.begins.2 in
    b.other v is row
