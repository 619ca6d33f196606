-- What a reader has read behind one byte more.
use Rattle.std.proofs.Common.{◌≡◌, ◌+◌, ◌≤◌, ◌<◌, ◌&&◌, inl, inr, ℕ, ℤ, Bool, true, false, if◌then◌else◌, nat_lt, List, [], ◌∷◌, ◌++◌, length, map, refl, sym, ap, ◌∙◌, arith, length-append, ltb-false, ltb-true}
use Rattle.std.proofs.lemmas.List.{map-append}
use Rattle.csv.specs.Machine.{step, is_end, fields_after, field_after}
use Rattle.csv.specs.Reading.{strip_bom, default_config}
use Rattle.csv.specs.declared.parser.Action.{Action}
use Rattle.csv.specs.declared.parser.State.{State}
use Rattle.std.specs.Fmt.{signed_decimal}
use Rattle.phase_accum.specs.Sends.{IsSend, AreSends}
use Rattle.graph_lang.specs.Samples.{row_of}
use Rattle.sample_pieces.specs.Pieces.{HasRead, IsMarked, IsBadFrom, EndsMark, FindsField, IsField, Copies, csv_state, done_by, Finds}
use Rattle.sample_pieces.specs.Scans.{Scan, nothing_read, scanned, scan_on}
use Rattle.sample_pieces.specs.declared.step.Where.{Where}
use Rattle.sample_pieces.specs.declared.step.Where.TheVariants as place
use Rattle.sample_pieces.specs.declared.step.Move.{Move}
use Rattle.sample_pieces.specs.declared.step.Move.TheVariants as byte
use Rattle.sample_pieces.specs.declared.reader.SampleReader.{SampleReader}
use Rattle.sample_pieces.specs.declared.reader.Found.{Found}
use Rattle.sample_pieces.specs.declared.reader.Found.TheVariants as found
use Rattle.sample_pieces.proofs.Scanned.{pieces}
use Rattle.sample_pieces.proofs.Marks.{first_plain, sign_marked, stays_marked, third_marked}
use Rattle.sample_pieces.proofs.Rows.{IsWithin}
use Rattle.sample_pieces.proofs.Bads.{bad_from, ended_other, long_at_hand}

-- a scan behind a byte that does this
abbrev after : State × Action → Scan → ℕ → Scan
after it scan c =
    if is_end it.1
    then record {
      rows = scan.rows ++ fields_after it.1 scan.fields scan.field ∷ [];
      state = it.0;
      fields = [];
      field = [];
    }
    else record {
      rows = scan.rows;
      state = it.0;
      fields = fields_after it.1 scan.fields scan.field;
      field = field_after it.1 c scan.field;
    }

-- where a reader stands
abbrev standing : List ℤ → Where → List ℕ → Scan
standing values at field = record {
  rows = map row_of values;
  state = csv_state at;
  fields = [];
  field = field;
}

-- a byte behind a text that is read, and what it does
pub record Byte (text : List ℕ) (values : List ℤ) (r : SampleReader) (c : ℕ) (move : Move)
    : Type 0 where
  pub has : HasRead text values r
  pub other : EndsMark r.is_first r.field.items c false
  pub done : done_by move ≡ step default_config (csv_state r.at) c

-- the byte is behind what was read
plain_on : (text : List ℕ) (values : List ℤ) (r : SampleReader) (c : ℕ) (move : Move)
    → Byte text values r c move → strip_bom (text ++ c ∷ []) ≡ strip_bom text ++ c ∷ []
plain_on text values r c move b = by r.is_first refl
  where
    by : (t : Bool) → r.is_first ≡ t
        → strip_bom (text ++ c ∷ []) ≡ strip_bom text ++ c ∷ []
    by true e =
        let first = b.has.first e in
        first_plain text c first.1 (λ is. b.other e (sym first.0 ∙ is))
    by false e = b.has.marked e (c ∷ [])

scan_by : (text : List ℕ) (values : List ℤ) (r : SampleReader) (c : ℕ) (move : Move)
    → Byte text values r c move
    → scan_on nothing_read (strip_bom (text ++ c ∷ []))
    ≡ after (done_by move) (standing values r.at r.field.items) c
scan_by text values r c move b =
    ap (λ bytes. scan_on nothing_read bytes) (plain_on text values r c move b)
    ∙ pieces nothing_read (strip_bom text) (c ∷ [])
    ∙ ap (λ s. scanned s c) b.has.scan
    ∙ ap (λ it. after it (standing values r.at r.field.items) c) (sym b.done)

marked_by : (text : List ℕ) (values : List ℤ) (r : SampleReader) (c : ℕ) (move : Move)
    → Byte text values r c move → c < 128 → IsMarked (text ++ c ∷ [])
marked_by text values r c move b sign = by r.is_first refl
  where
    by : (t : Bool) → r.is_first ≡ t → IsMarked (text ++ c ∷ [])
    by true e = sign_marked text c (b.has.first e).1 sign
    by false e = stays_marked text c (b.has.marked e)

pub known : (new : SampleReader) (P : Type 0) → new.is_first ≡ false → new.is_first ≡ true → P
known new P e f = let no : true ≡ false = sym f ∙ e in absurd (cc)

pub skipped : (text : List ℕ) (values : List ℤ) (r new : SampleReader) (c : ℕ) (to : Where)
    → Byte text values r c (byte.Skips to) → c < 128
    → new.at ≡ to → new.field ≡ r.field → new.is_first ≡ false
    → HasRead (text ++ c ∷ []) values new
skipped text values r new c to b sign at field first = record {
  sends = b.has.sends;
  scan = scan_by text values r c (byte.Skips to) b
      ∙ rw (at, field) refl;
  first = known new _ first;
  marked = λ e. marked_by text values r c (byte.Skips to) b sign;
}

-- a byte of the field
pub copied : (text : List ℕ) (values : List ℤ) (r new : SampleReader) (c : ℕ) (to : Where)
    → Byte text values r c (byte.Copies to) → new.at ≡ to
    → new.field.items ≡ r.field.items ++ c ∷ []
    → new.is_first ≡ r.is_first && nat_lt (length new.field.items) 3
    → HasRead (text ++ c ∷ []) values new
copied text values r new c to b at field first = by r.is_first refl
  where
    scan : scan_on nothing_read (strip_bom (text ++ c ∷ []))
        ≡ standing values new.at new.field.items
    scan = scan_by text values r c (byte.Copies to) b ∙ rw (at, field) refl

    size : length new.field.items ≡ length r.field.items + 1
    size = ap length field ∙ length-append r.field.items (c ∷ [])

    by : (t : Bool) → r.is_first ≡ t → HasRead (text ++ c ∷ []) values new
    by false e = record {
      sends = b.has.sends;
      scan = scan;
      first = known new _ (first ∙ ap (λ t. t && nat_lt (length new.field.items) 3) e);
      marked = λ f. stays_marked text c (b.has.marked e);
    }
    by true e =
        let was = b.has.first e in
        let now : new.is_first ≡ nat_lt (length new.field.items) 3 =
        first ∙ ap (λ t. t && nat_lt (length new.field.items) 3) e in
        let same : length text ≡ length r.field.items = ap length was.0 in
        let more : length (text ++ c ∷ []) ≡ length text + 1 = length-append text (c ∷ []) in
        record {
          sends = b.has.sends;
          scan = scan;
          first = λ f.
              let less : length new.field.items < 3 =
              ltb-true (length new.field.items) 3 (sym now ∙ f) in (
                ap (λ front. front ++ c ∷ []) was.0 ∙ sym field,
                omega (arith, less, size, same, more),
                was.2,
              );
          marked = λ f.
              let most : 3 ≤ length new.field.items =
              ltb-false (length new.field.items) 3 (sym now ∙ f) in
              third_marked text c (omega (arith, most, size, same, was.1))
              (λ is. b.other e (sym was.0 ∙ is));
        }

-- values with one behind them
pub sends_behind : (values : List ℤ) (v : ℤ) → AreSends values → IsSend v
    → AreSends (values ++ v ∷ [])
sends_behind [] v sends send = (send, tt)
sends_behind (x ∷ values) v sends send = (sends.0, sends_behind values v sends.1 send)

pub row_same : (field other : List ℕ) → field ∷ [] ≡ other ∷ [] → field ≡ other
row_same field other e = cc

-- a byte that ends the record
pub ended : (text : List ℕ) (values : List ℤ) (r new : SampleReader) (c : ℕ) (to : Where)
    (found : Found) → Byte text values r c (byte.Ends to) → c < 128
    → new.at ≡ to → new.field.items ≡ [] → new.is_first ≡ false
    → FindsField r.field.items found → Finds (text ++ c ∷ []) values new found
ended text values r new c to found.Nothing b sign at field first finds = absurd finds
ended text values r new c to (found.Value v) b sign at field first finds =
    let rows : map row_of (values ++ v ∷ []) ≡ map row_of values ++ (r.field.items ∷ []) ∷ [] =
    map-append row_of values (v ∷ [])
    ∙ ap (λ f. map row_of values ++ (f ∷ []) ∷ []) (sym finds.0) in
    record {
      sends = sends_behind values v b.has.sends finds.1;
      scan = scan_by text values r c (byte.Ends to) b ∙ rw (at, field, rows) refl;
      first = known new _ first;
      marked = λ e. marked_by text values r c (byte.Ends to) b sign;
    }
ended text values r new c to found.Bad b sign at field first finds =
    bad_from (text ++ c ∷ []) values b.has.sends (marked_by text values r c (byte.Ends to) b sign)
    (λ more. ended_other values (r.field.items ∷ [])
    (scan_on nothing_read (strip_bom (text ++ c ∷ [])))
    (ap (λ (s : Scan). s.rows) (scan_by text values r c (byte.Ends to) b))
    (λ v send is. finds v send (row_same r.field.items (signed_decimal v) is)) more)

-- a byte that ends the field alone
pub separated : (text : List ℕ) (values : List ℤ) (r : SampleReader) (c : ℕ)
    → Byte text values r c byte.Separates → c < 128
    → IsBadFrom (text ++ c ∷ []) (length values + 1)
separated text values r c b sign =
    let scan = scan_by text values r c byte.Separates b in
    bad_from (text ++ c ∷ []) values b.has.sends (marked_by text values r c byte.Separates b sign)
    (λ more. long_at_hand values (scan_on nothing_read (strip_bom (text ++ c ∷ [])))
    (ap (λ (s : Scan). s.rows) scan) (rw scan tt) (rw scan (inl (omega arith))) more)

field_within : (to : Where) → IsField to → IsWithin (csv_state to)
field_within place.Field is = tt
field_within place.Quotes is = tt
field_within place.AfterQuote is = tt
field_within place.Between is = absurd is
field_within place.AfterReturn is = absurd is

-- a byte too many
pub overflowed : (text : List ℕ) (values : List ℤ) (r : SampleReader) (c : ℕ) (to : Where)
    → Byte text values r c (byte.Copies to) → IsField to → length r.field.items ≡ 20
    → IsBadFrom (text ++ c ∷ []) (length values + 1)
overflowed text values r c to b field full =
    let scan = scan_by text values r c (byte.Copies to) b in
    let size : length (r.field.items ++ c ∷ []) ≡ length r.field.items + 1 =
    length-append r.field.items (c ∷ []) in
    bad_from (text ++ c ∷ []) values b.has.sends (by r.is_first refl)
    (λ more. long_at_hand values (scan_on nothing_read (strip_bom (text ++ c ∷ [])))
    (ap (λ (s : Scan). s.rows) scan) (rw scan (field_within to field))
    (rw scan (inr (refl, omega (arith, size, full)))) more)
  where
    by : (t : Bool) → r.is_first ≡ t → IsMarked (text ++ c ∷ [])
    by true e =
        let was = b.has.first e in
        let same : length text ≡ length r.field.items = ap length was.0 in
        absurd (omega (arith, same, full, was.1))
    by false e = stays_marked text c (b.has.marked e)

-- a byte of the field, whether there is room for it or not
pub copied_finds : (text : List ℕ) (values : List ℤ) (r new : SampleReader) (c : ℕ) (to : Where)
    (found : Found) → Byte text values r c (byte.Copies to) → IsField to
    → Copies to c r new found → Finds (text ++ c ∷ []) values new found
copied_finds text values r new c to found.Nothing b field copies =
    copied text values r new c to b copies.0 copies.1 copies.2
copied_finds text values r new c to (found.Value v) b field copies = absurd copies
copied_finds text values r new c to found.Bad b field copies =
    overflowed text values r c to b field copies
