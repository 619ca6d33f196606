-- A text of records that comes in pieces, cut anywhere: the records that are complete, and where
-- its reader stands in the next one.
use Rattle.std.specs.Prelude.{ℕ, List, [], ◌∷◌, ◌++◌, if◌then◌else◌}
use Rattle.std.specs.List.{fold}
use Rattle.csv.specs.Machine.{step, is_end, fields_after, field_after, ends_at_end}
use Rattle.csv.specs.Reading.{default_config}
use Rattle.csv.specs.declared.parser.State.{State}
use Rattle.csv.specs.declared.parser.State.TheVariants as st

-- the complete records so far; the state of csv; of the record at hand its complete fields, and the
-- bytes of the field at hand
pub record Scan : Type 0 where
  pub rows : List (List (List ℕ))
  pub state : State
  pub fields : List (List ℕ)
  pub field : List ℕ

-- before the first byte
abbrev pub nothing_read : Scan
nothing_read = record { rows = []; state = st.StartRecord; fields = []; field = [] }

-- after one byte more
abbrev pub scanned : Scan → ℕ → Scan
scanned scan c =
    let it = step default_config scan.state c in
    if is_end it.1
    then record {
      rows = scan.rows ++ fields_after it.1 scan.fields scan.field ∷ [];
      state = it.0;
      fields = [];
      field = [];
    }
    else record {
      rows = scan.rows;
      state = it.0;
      fields = fields_after it.1 scan.fields scan.field;
      field = field_after it.1 c scan.field;
    }

-- after a piece more
abbrev pub scan_on : Scan → List ℕ → Scan
scan_on scan bytes = fold scanned scan bytes

-- the record at hand, where the end of the text ends one
abbrev pub last_rows : Scan → List (List (List ℕ))
last_rows scan = if ends_at_end scan.state then (scan.fields ++ scan.field ∷ []) ∷ [] else []

-- all records, where the text ends here
abbrev pub rows_at_end : Scan → List (List (List ℕ))
rows_at_end scan = scan.rows ++ last_rows scan
