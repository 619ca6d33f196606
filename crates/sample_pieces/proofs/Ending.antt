-- What a reader has read at the end of its text, and behind a byte order mark.
use Rattle.std.proofs.Common.{◌≡◌, ◌⊎◌, inl, inr, ℕ, ℤ, true, false, List, [], ◌∷◌, ◌++◌, map, refl, sym, ap, subst, ◌∙◌, append-nil}
use Rattle.std.proofs.lemmas.List.{map-append}
use Rattle.csv.specs.Reading.{strip_bom, default_config, AreRecords}
use Rattle.csv.specs.declared.parser.State.TheVariants as st
use Rattle.std.specs.Fmt.{signed_decimal}
use Rattle.graph_lang.specs.Samples.{row_of, AreRecordsOfValues}
use Rattle.sample_pieces.specs.Pieces.{HasRead, FindsField, FindsLast, IsField, csv_state}
use Rattle.sample_pieces.specs.Scans.{Scan, nothing_read, scan_on, rows_at_end, last_rows}
use Rattle.sample_pieces.specs.declared.step.Where.{Where}
use Rattle.sample_pieces.specs.declared.step.Where.TheVariants as place
use Rattle.sample_pieces.specs.declared.reader.SampleReader.{SampleReader}
use Rattle.sample_pieces.specs.declared.reader.Found.{Found}
use Rattle.sample_pieces.specs.declared.reader.Found.TheVariants as found
use Rattle.sample_pieces.proofs.Scanned.{Rows, records}
use Rattle.sample_pieces.proofs.Bads.{bad_sample}
use Rattle.sample_pieces.proofs.Marks.{mark_alone, mark_marked}
use Rattle.sample_pieces.proofs.Reading.{known, sends_behind, row_same}

-- the records of the text, where it ends here
rows_of : (text : List ℕ) (values : List ℤ) (r : SampleReader) (last : Rows)
    → HasRead text values r
    → last_rows (record {
      rows = map row_of values;
      state = csv_state r.at;
      fields = [];
      field = r.field.items;
    }) ≡ last
    → rows_at_end (scan_on nothing_read (strip_bom text)) ≡ map row_of values ++ last
rows_of text values r last has is =
    ap rows_at_end has.scan ∙ ap (λ rs. map row_of values ++ rs) is

all_of : (text : List ℕ) (rows : Rows)
    → rows_at_end (scan_on nothing_read (strip_bom text)) ≡ rows
    → AreRecords default_config st.StartRecord (strip_bom text) rows
all_of text rows is =
    subst (λ rs. AreRecords default_config st.StartRecord (strip_bom text) rs) is
    (records (strip_bom text))

none_at : (at : Where) (field : List ℕ) (rows : Rows)
    → (at ≡ place.Between) ⊎ (at ≡ place.AfterReturn)
    → last_rows (record { rows = rows; state = csv_state at; fields = []; field = field }) ≡ []
none_at at field rows (inl is) = rw is refl
none_at at field rows (inr is) = rw is refl

one_at : (at : Where) (field : List ℕ) (rows : Rows) → IsField at
    → last_rows (record { rows = rows; state = csv_state at; fields = []; field = field })
    ≡ (field ∷ []) ∷ []
one_at place.Field field rows is = refl
one_at place.Quotes field rows is = refl
one_at place.AfterQuote field rows is = refl
one_at place.Between field rows is = absurd is
one_at place.AfterReturn field rows is = absurd is

pub ends_between : (text : List ℕ) (values : List ℤ) (r : SampleReader) → HasRead text values r
    → (r.at ≡ place.Between) ⊎ (r.at ≡ place.AfterReturn) → AreRecordsOfValues text values
ends_between text values r has at = record {
  sends = has.sends;
  records = all_of text (map row_of values)
      (rows_of text values r [] has (none_at r.at r.field.items (map row_of values) at)
      ∙ append-nil (map row_of values));
}

pub ends_within : (text : List ℕ) (values : List ℤ) (r : SampleReader) (found : Found)
    → HasRead text values r → IsField r.at → FindsField r.field.items found
    → FindsLast text values found
ends_within text values r found.Nothing has at finds = absurd finds
ends_within text values r (found.Value v) has at finds =
    let rows : map row_of values ++ (r.field.items ∷ []) ∷ [] ≡ map row_of (values ++ v ∷ []) =
    ap (λ f. map row_of values ++ (f ∷ []) ∷ []) finds.0
    ∙ sym (map-append row_of values (v ∷ [])) in
    record {
      sends = sends_behind values v has.sends finds.1;
      records = all_of text (map row_of (values ++ v ∷ []))
          (rows_of text values r ((r.field.items ∷ []) ∷ []) has
          (one_at r.at r.field.items (map row_of values) at) ∙ rows);
    }
ends_within text values r found.Bad has at finds =
    bad_sample text values has.sends (
      r.field.items ∷ [],
      [],
      (λ v send is. finds v send (row_same r.field.items (signed_decimal v) is)),
      rows_of text values r ((r.field.items ∷ []) ∷ []) has
          (one_at r.at r.field.items (map row_of values) at),
    )

no_rows : (values : List ℤ) → map row_of values ≡ [] → values ≡ []
no_rows [] e = refl
no_rows (v ∷ values) e = absurd (cc)

mark_rows : (scan_on nothing_read (strip_bom (239 ∷ 187 ∷ []))).rows ≡ []
unfolding strip_bom
mark_rows = refl

-- the mark is no part of the first record
pub mark_ended : (text : List ℕ) (values : List ℤ) (r new : SampleReader) (c : ℕ)
    → HasRead text values r → r.is_first ≡ true → r.field.items ≡ 239 ∷ 187 ∷ [] → c ≡ 191
    → new.at ≡ place.Between → new.field.items ≡ [] → new.is_first ≡ false
    → HasRead (text ++ c ∷ []) values new
mark_ended text values r new c has first field mark at empty past =
    let text_is : text ≡ 239 ∷ 187 ∷ [] = (has.first first).0 ∙ field in
    let rows : map row_of values ≡ [] =
    sym (ap (λ (s : Scan). s.rows) has.scan)
    ∙ ap (λ front. (scan_on nothing_read (strip_bom front)).rows) text_is ∙ mark_rows in
    rw (text_is, no_rows values rows, mark) (record {
      sends = tt;
      scan = rw (mark_alone [], at, empty) refl;
      first = known new _ past;
      marked = λ e. mark_marked;
    })

pub within_at : (at : Where)
    → (at ≡ place.Field) ⊎ ((at ≡ place.Quotes) ⊎ (at ≡ place.AfterQuote)) → IsField at
within_at at (inl is) = rw is tt
within_at at (inr (inl is)) = rw is tt
within_at at (inr (inr is)) = rw is tt
