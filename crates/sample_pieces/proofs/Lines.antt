-- What a reader has read behind a line that is a number alone.
use Rattle.std.proofs.Common.{◌≡◌, ◌==◌, if◌then◌else◌, ℕ, ℤ, ◌<◌, Bool, true, false, List, [], ◌∷◌, ◌++◌, length, map, refl, sym, ap, subst, ◌∙◌, append_assoc, append-nil, arith, eqb-true}
use Rattle.std.proofs.lemmas.List.{map-append}
use Rattle.std.specs.Fmt.{signed_decimal}
use Rattle.csv.specs.Machine.{is_end, fields_after, field_after}
use Rattle.csv.specs.Reading.{strip_bom}
use Rattle.csv.specs.declared.parser.Action.{Action}
use Rattle.csv.specs.declared.parser.Action.TheVariants as act
use Rattle.csv.specs.declared.parser.State.{State}
use Rattle.csv.specs.declared.parser.State.TheVariants as st
use Rattle.phase_accum.specs.Sends.{IsSend}
use Rattle.graph_lang.specs.Samples.{row_of}
use Rattle.graph_lang.proofs.PlainLines.{IsWord, joins, starts, value-word}
use Rattle.sample_pieces.specs.Pieces.{HasRead, IsMarked}
use Rattle.sample_pieces.specs.Scans.{Scan, nothing_read, scan_on}
use Rattle.sample_pieces.specs.declared.step.Where.TheVariants as place
use Rattle.sample_pieces.specs.declared.reader.SampleReader.{SampleReader}
use Rattle.sample_pieces.proofs.Marks.{short_text, sign_marked}
use Rattle.sample_pieces.proofs.Reading.{known, sends_behind}
use Rattle.sample_pieces.proofs.Scanned.{Rows, pieces}

-- ---- a word and its line feed, as csv scans them

-- a scan behind a byte that does this
abbrev after : State × Action → Scan → ℕ → Scan
after it scan c =
    if is_end it.1
    then record {
      rows = scan.rows ++ fields_after it.1 scan.fields scan.field ∷ [];
      state = it.0;
      fields = [];
      field = [];
    }
    else record {
      rows = scan.rows;
      state = it.0;
      fields = fields_after it.1 scan.fields scan.field;
      field = field_after it.1 c scan.field;
    }

-- behind a record's end, and within a record
abbrev ended : Rows → Scan
ended rows = record { rows = rows; state = st.StartRecord; fields = []; field = [] }

abbrev within : Rows → List ℕ → Scan
within rows field = record { rows = rows; state = st.InField; fields = []; field = field }

-- the rest of a word joins its field, and the line feed ends the record
rest_scanned : (rows : Rows) (field cs : List ℕ) → IsWord cs
    → scan_on (within rows field) (cs ++ 10 ∷ []) ≡ ended (rows ++ ((field ++ cs) ∷ []) ∷ [])
rest_scanned rows field [] bytes = ap (λ f. ended (rows ++ (f ∷ []) ∷ [])) (sym (append-nil field))
rest_scanned rows field (c ∷ cs) bytes =
    ap (λ it. scan_on (after it (within rows field) c) (cs ++ 10 ∷ [])) (joins c bytes.0)
    ∙ (rest_scanned rows (field ++ c ∷ []) cs bytes.2
    ∙ ap (λ f. ended (rows ++ (f ∷ []) ∷ [])) (append_assoc field (c ∷ []) cs))

line_scanned : (rows : Rows) (c : ℕ) (cs : List ℕ) → IsWord (c ∷ cs)
    → scan_on (ended rows) (c ∷ (cs ++ 10 ∷ [])) ≡ ended (rows ++ ((c ∷ cs) ∷ []) ∷ [])
line_scanned rows c cs bytes =
    ap (λ it. scan_on (after it (ended rows) c) (cs ++ 10 ∷ [])) (starts c bytes.0)
    ∙ rest_scanned rows (c ∷ []) cs bytes.2

-- ---- no byte order mark

marked_on : (text more : List ℕ) → IsMarked text → IsMarked (text ++ more)
marked_on text more marked = λ later.
    ap strip_bom (append_assoc text more later)
    ∙ (marked (more ++ later)
    ∙ (sym (append_assoc (strip_bom text) more later)
    ∙ ap (λ front. front ++ later) (sym (marked more))))

-- the line is behind what was read, and so is what follows
pub record Behind (text line : List ℕ) : Type 0 where
  pub strips : strip_bom (text ++ line) ≡ strip_bom text ++ line
  pub marked : IsMarked (text ++ line)

first_behind : (c : ℕ) (cs : List ℕ) → c < 58 → Behind [] (c ∷ cs)
first_behind c cs low =
    let one : IsMarked (c ∷ []) = sign_marked [] c (omega arith) (omega arith) in record {
      strips = one cs ∙ ap (λ front. front ++ cs) (short_text (c ∷ []) (omega arith))
          ∙ ap (λ front. front ++ c ∷ cs) (sym (short_text [] (omega arith)));
      marked = marked_on (c ∷ []) cs one;
    }

behind : (text : List ℕ) (values : List ℤ) (r : SampleReader) (c : ℕ) (cs : List ℕ)
    → HasRead text values r → r.field.items ≡ [] → c < 58 → Behind text (c ∷ cs)
behind text values r c cs has empty low = by r.is_first refl
  where
    by : (t : Bool) → r.is_first ≡ t → Behind text (c ∷ cs)
    by true e =
        subst (λ front. Behind front (c ∷ cs)) (sym ((has.first e).0 ∙ empty)) (first_behind c cs low)
    by false e = record {
      strips = has.marked e (c ∷ cs);
      marked = marked_on text (c ∷ cs) (has.marked e);
    }

-- ---- a line of a value

line_read_so : (text : List ℕ) (values : List ℤ) (r new : SampleReader) (v : ℤ) (c : ℕ) (cs : List ℕ)
    → HasRead text values r → IsSend v → signed_decimal v ≡ c ∷ cs → IsWord (c ∷ cs)
    → r.at ≡ place.Between → r.field.items ≡ []
    → new.at ≡ place.Between → new.field.items ≡ [] → new.is_first ≡ false
    → HasRead (text ++ (c ∷ (cs ++ 10 ∷ []))) (values ++ v ∷ []) new
line_read_so text values r new v c cs has send word bytes at empty new_at new_empty past =
    let after = behind text values r c (cs ++ 10 ∷ []) has empty bytes.1 in
    let was : scan_on nothing_read (strip_bom text) ≡ ended (map row_of values) =
    has.scan ∙ rw (at, empty) refl in
    let rows : map row_of values ++ ((c ∷ cs) ∷ []) ∷ [] ≡ map row_of (values ++ v ∷ []) =
    ap (λ f. map row_of values ++ (f ∷ []) ∷ []) (sym word)
    ∙ sym (map-append row_of values (v ∷ [])) in
    record {
      sends = sends_behind values v has.sends send;
      scan = ap (λ bytes. scan_on nothing_read bytes) after.strips
          ∙ (pieces nothing_read (strip_bom text) (c ∷ (cs ++ 10 ∷ []))
          ∙ (ap (λ s. scan_on s (c ∷ (cs ++ 10 ∷ []))) was
          ∙ (line_scanned (map row_of values) c cs bytes
          ∙ (ap ended rows ∙ rw (new_at, new_empty) refl))));
      first = known new _ past;
      marked = λ e. after.marked;
    }

pub line_read : (text : List ℕ) (values : List ℤ) (r new : SampleReader) (v : ℤ)
    → HasRead text values r → IsSend v → r.at ≡ place.Between → r.field.items ≡ []
    → new.at ≡ place.Between → new.field.items ≡ [] → new.is_first ≡ false
    → HasRead (text ++ (signed_decimal v ++ 10 ∷ [])) (values ++ v ∷ []) new
line_read text values r new v has send at empty new_at new_empty past =
    let word = value-word v send in
    subst (λ w. HasRead (text ++ (w ++ 10 ∷ [])) (values ++ v ∷ []) new) (sym word.word_is)
    (line_read_so text values r new v word.first word.others has send word.word_is word.bytes at
    empty new_at new_empty past)

-- ---- a field of no bytes

pub none_in : (field : List ℕ) → true ≡ (length field == 0) → field ≡ []
none_in [] e = refl
none_in (c ∷ field) e =
    let none : length (c ∷ field) ≡ 0 = eqb-true (length (c ∷ field)) 0 (sym e) in
    absurd (omega arith)
