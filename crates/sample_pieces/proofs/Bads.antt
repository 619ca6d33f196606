-- A record that is none of a value, whatever comes behind it.
use Rattle.std.proofs.Common.{◌≡◌, ◌+◌, ℕ, ℤ, List, [], ◌∷◌, ◌++◌, length, map, refl, sym, ap, subst, ◌∙◌, append_assoc}
use Rattle.csv.specs.Reading.{strip_bom, default_config, Reached}
use Rattle.csv.specs.declared.parser.State.TheVariants as st
use Rattle.phase_accum.specs.Sends.{IsSend, AreSends}
use Rattle.graph_lang.specs.Samples.{row_of, IsBadSample}
use Rattle.sample_pieces.specs.Pieces.{IsMarked, IsBadFrom}
use Rattle.sample_pieces.specs.Scans.{Scan, nothing_read, scan_on, rows_at_end}
use Rattle.sample_pieces.proofs.Scanned.{Rows, pieces, records}
use Rattle.sample_pieces.proofs.Rows.{rows_stay, long_other, IsWithin, GetsLong, long_stays, reached_front}

-- a record of no value stands behind those of these
abbrev pub HasOther : List ℤ → Rows → Type 0
HasOther values rows = (row : List (List ℕ)) × (rest : Rows)
    × ((v : ℤ) → IsSend v → row ≡ row_of v → ⊥) × (rows ≡ map row_of values ++ row ∷ rest)

-- where a text has such a record it is bad
pub bad_sample : (text : List ℕ) (values : List ℤ) → AreSends values
    → HasOther values (rows_at_end (scan_on nothing_read (strip_bom text)))
    → IsBadSample text (length values + 1)
bad_sample text values sends (row, rest, other, is) =
    let (s, ys, reached, last) = records (strip_bom text) in
    let rows : rows_at_end (scan_on nothing_read (strip_bom text))
    ≡ (map row_of values ++ row ∷ []) ++ rest =
    is ∙ sym (append_assoc (map row_of values) (row ∷ []) rest) in
    record {
      good = values;
      row = row;
      number = refl;
      sends = sends;
      begins = reached_front default_config st.StartRecord (strip_bom text)
          (map row_of values ++ row ∷ []) rest s ys
          (subst (λ rs. Reached default_config st.StartRecord (strip_bom text) rs s ys) rows reached);
      other = other;
    }

-- where each text that goes on so has one, it is bad in each
pub bad_from : (text : List ℕ) (values : List ℤ) → AreSends values → IsMarked text
    → ((more : List ℕ)
    → HasOther values (rows_at_end (scan_on (scan_on nothing_read (strip_bom text)) more)))
    → IsBadFrom text (length values + 1)
bad_from text values sends marked all = λ more.
    let scans : scan_on nothing_read (strip_bom (text ++ more))
    ≡ scan_on (scan_on nothing_read (strip_bom text)) more =
    ap (λ bytes. scan_on nothing_read bytes) (marked more)
    ∙ pieces nothing_read (strip_bom text) more in
    bad_sample (text ++ more) values sends
    (subst (λ (s : Scan). HasOther values (rows_at_end s)) (sym scans) (all more))

-- a record that has ended
pub ended_other : (values : List ℤ) (row : List (List ℕ)) (scan : Scan)
    → scan.rows ≡ map row_of values ++ row ∷ []
    → ((v : ℤ) → IsSend v → row ≡ row_of v → ⊥)
    → (more : List ℕ) → HasOther values (rows_at_end (scan_on scan more))
ended_other values row scan rows other more =
    let (rest, is) = rows_stay scan more in (
      row,
      rest,
      other,
      is ∙ ap (λ rs. rs ++ rest) rows
          ∙ append_assoc (map row_of values) (row ∷ []) rest,
    )

-- a record at hand that is too long
pub long_at_hand : (values : List ℤ) (scan : Scan) → scan.rows ≡ map row_of values
    → IsWithin scan.state → GetsLong scan.fields scan.field
    → (more : List ℕ) → HasOther values (rows_at_end (scan_on scan more))
long_at_hand values scan rows in_it long more =
    let (row, rest, is_long, is) = long_stays scan more in_it long in
    (row, rest, long_other row is_long, is ∙ ap (λ rs. rs ++ row ∷ rest) rows)
