-- What a reader has read begins the values of each text that goes on so.
use Rattle.std.proofs.Common.{◌≡◌, ℕ, ℤ, Bool, true, false, List, [], ◌∷◌, ◌++◌, map, None, Some, refl, sym, ap, subst, ◌∙◌}
use mathlib.Core.List.{IsPrefix}
use Rattle.std.specs.Fmt.{signed_decimal}
use Rattle.std.proofs.lemmas.Fmt.{signed_decimal_injective}
use Rattle.std.proofs.lemmas.Option.{same_Some}
use Rattle.csv.specs.Machine.{Read, next_record}
use Rattle.csv.specs.Reading.{strip_bom, default_config, Reached, AreRecords}
use Rattle.csv.specs.declared.parser.State.{State}
use Rattle.csv.specs.declared.parser.State.TheVariants as st
use Rattle.phase_accum.specs.Sends.{AreSends}
use Rattle.graph_lang.specs.Samples.{row_of, AreRecordsOfValues}
use Rattle.graph_lang.proofs.Unique.{small_mag}
use Rattle.sample_pieces.specs.Pieces.{HasRead}
use Rattle.sample_pieces.specs.Scans.{Scan, nothing_read, scan_on, rows_at_end}
use Rattle.sample_pieces.specs.declared.reader.SampleReader.{SampleReader}
use Rattle.sample_pieces.proofs.Scanned.{Rows, pieces, records}
use Rattle.sample_pieces.proofs.Rows.{rows_stay}

not_both : (s t : State) (xs ys : List ℕ) (p : Read) → s ≡ t → xs ≡ ys
    → next_record default_config t [] [] ys ≡ None
    → next_record default_config s [] [] xs ≡ Some p → ⊥
not_both s t xs ys p same equal none some = absurd (cc)

-- a text has one list of records
rows_same : (rs qs : Rows) (s : State) (xs : List ℕ) → AreRecords default_config s xs rs
    → AreRecords default_config s xs qs → rs ≡ qs
unfolding Reached
rows_same [] [] s xs p q = refl
rows_same [] (w ∷ qs) s xs p q = absurd (not_both s p.0 xs p.1 q.2.0 p.2.0 p.2.1 p.3 q.2.1)
rows_same (r ∷ rs) [] s xs p q = absurd (not_both s q.0 xs q.1 p.2.0 q.2.0 q.2.1 q.3 p.2.1)
rows_same (r ∷ rs) (w ∷ qs) s xs p q =
    let (s1, y1, (r1, next1, is1, more1), end1) = p in
    let (s2, y2, (r2, next2, is2, more2), end2) = q in
    let same : r1 ≡ r2 = same_Some r1 r2 (sym next1 ∙ next2) in
    let head : r ≡ w = is1 ∙ ap (λ (x : Read). x.0) same ∙ sym is2 in
    let later : AreRecords default_config r1.1 r1.2 qs = rw same (s2, y2, more2, end2) in
    rw (head, rows_same rs qs r1.1 r1.2 (s1, y1, more1, end1) later) refl

same_head : (v w : ℤ) (vs rest : Rows) → row_of v ∷ vs ≡ row_of w ∷ rest
    → signed_decimal v ≡ signed_decimal w
same_head v w vs rest e = cc

same_tail : (v w : ℤ) (vs rest : Rows) → row_of v ∷ vs ≡ row_of w ∷ rest → vs ≡ rest
same_tail v w vs rest e = cc

prefix : (values all : List ℤ) (rest : Rows) → AreSends values → AreSends all
    → map row_of all ≡ map row_of values ++ rest → IsPrefix values all
prefix [] all rest a b e = (all, refl)
prefix (v ∷ values) [] rest a b e = absurd (cc)
prefix (v ∷ values) (w ∷ all) rest a b e =
    let same : w ≡ v = signed_decimal_injective w v (small_mag w b.0) (small_mag v a.0)
    (same_head w v (map row_of all) (map row_of values ++ rest) e) in
    let more = prefix values all rest a.1 b.1
    (same_tail w v (map row_of all) (map row_of values ++ rest) e) in
    let tail = more.1 in (more.0, cc)

pub values_begin : (text more : List ℕ) (values all : List ℤ) (r : SampleReader)
    → HasRead text values r → AreRecordsOfValues (text ++ more) all → IsPrefix values all
values_begin text more values all r has are = by r.is_first refl
  where
    by : (t : Bool) → r.is_first ≡ t → IsPrefix values all
    by true e = subst (λ vs. IsPrefix vs all) (sym (has.first e).2) (all, refl)
    by false e =
        let scan = scan_on nothing_read (strip_bom text) in
        let (rest, is) = rows_stay scan more in
        let whole : rows_at_end (scan_on nothing_read (strip_bom (text ++ more)))
        ≡ map row_of values ++ rest =
        ap (λ bytes. rows_at_end (scan_on nothing_read bytes)) (has.marked e more)
        ∙ ap rows_at_end (pieces nothing_read (strip_bom text) more) ∙ is
        ∙ ap (λ (s : Scan). s.rows ++ rest) has.scan in
        prefix values all rest has.sends are.sends
        (rows_same (map row_of all) (rows_at_end (scan_on nothing_read (strip_bom (text ++ more))))
        st.StartRecord (strip_bom (text ++ more)) are.records (records (strip_bom (text ++ more)))
        ∙ whole)
