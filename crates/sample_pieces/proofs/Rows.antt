-- What stays of the records of a text, whatever comes behind it.
use Rattle.std.proofs.Common.{◌≡◌, ◌≤◌, ◌<◌, ◌⊎◌, ◌==◌, ◌||◌, inl, inr, ℕ, ℤ, Bool, true, false, List, [], ◌∷◌, ◌++◌, length, refl, sym, ap, subst, ◌∙◌, append_assoc, length-append, arith}
use Rattle.csv.specs.Machine.{step, in_field, start_field, is_end, fields_after, field_after, ends_at_end}
use Rattle.csv.specs.Reading.{default_config, Reached}
use Rattle.csv.specs.declared.parser.Config.{Config}
use Rattle.csv.specs.declared.parser.Action.{Action}
use Rattle.csv.specs.declared.parser.Action.TheVariants as act
use Rattle.csv.specs.declared.parser.State.{State}
use Rattle.csv.specs.declared.parser.State.TheVariants as st
use Rattle.std.specs.Fmt.{signed_decimal}
use Rattle.phase_accum.specs.Sends.{IsSend}
use Rattle.graph_lang.specs.Samples.{row_of}
use Rattle.sample_pieces.specs.Scans.{Scan, scanned, scan_on, rows_at_end, last_rows}
use Rattle.sample_pieces.proofs.Scanned.{Rows}
use Rattle.sample_pieces.proofs.Widths.{value_short}

-- records that were read are all there in the end
abbrev pub Keeps : Rows → Scan → List ℕ → Type 0
Keeps rows scan more = (rest : Rows) × (rows_at_end (scan_on scan more) ≡ rows ++ rest)

pub rows_stay : (scan : Scan) (more : List ℕ) → Keeps scan.rows scan more
rows_stay scan [] = (last_rows scan, refl)
rows_stay scan (c ∷ more) = by (is_end (step default_config scan.state c).1) refl
    (rows_stay (scanned scan c) more)
  where
    by : (b : Bool) → is_end (step default_config scan.state c).1 ≡ b
        → Keeps (scanned scan c).rows (scanned scan c) more → Keeps scan.rows scan (c ∷ more)
    by true e (rest, is) =
        let row = fields_after (step default_config scan.state c).1 scan.fields scan.field in
        let rows : (scanned scan c).rows ≡ scan.rows ++ row ∷ [] = rw e refl in
        (row ∷ rest, is ∙ ap (λ rs. rs ++ rest) rows ∙ append_assoc scan.rows (row ∷ []) rest)
    by false e (rest, is) =
        let rows : (scanned scan c).rows ≡ scan.rows = rw e refl in
        (rest, is ∙ ap (λ rs. rs ++ rest) rows)

-- a record of more than one field, or of a field that is longer than any value's
abbrev pub IsLong : List (List ℕ) → Type 0
IsLong row = (2 ≤ length row) ⊎ ((f : List ℕ) × (row ≡ f ∷ []) × (20 < length f))

pub long_other : (row : List (List ℕ)) → IsLong row → (v : ℤ) → IsSend v → row ≡ row_of v → ⊥
long_other row (inl many) v send e =
    let one : length row ≡ 1 = ap length e in omega (arith, many, one)
long_other row (inr (f, is, long)) v send e =
    let short = value_short v send in
    let both : f ∷ [] ≡ signed_decimal v ∷ [] = sym is ∙ e in
    let same : f ≡ signed_decimal v = cc in
    let size : length f ≡ length (signed_decimal v) = ap length same in
    omega (arith, long, short, size)

-- a record is at hand
abbrev pub IsWithin : State → Type 0
IsWithin st.StartRecord = ⊥
IsWithin st.AfterCr = ⊥
IsWithin st.StartField = Unit {0}
IsWithin st.InField = Unit {0}
IsWithin st.InQuoted = Unit {0}
IsWithin st.AfterQuote = Unit {0}
IsWithin st.InEscape = Unit {0}
IsWithin st.InComment = ⊥

-- the record at hand is long already
abbrev pub GetsLong : List (List ℕ) → List ℕ → Type 0
GetsLong fields field = (1 ≤ length fields) ⊎ ((fields ≡ []) × (20 < length field))

ends_long : (fields : List (List ℕ)) (field : List ℕ) → GetsLong fields field
    → IsLong (fields ++ field ∷ [])
ends_long fields field (inl some) =
    let size = length-append fields (field ∷ []) in inl (omega (arith, size, some))
ends_long fields field (inr (none, long)) = inr (field, ap (λ fs. fs ++ field ∷ []) none, long)

-- what a byte of a field does
field_within : (c : ℕ) → is_end (in_field default_config c).1 ≡ false
    → IsWithin (in_field default_config c).0
field_within c = by (c == 44) ((c == 13) || (c == 10)) refl refl
  where
    by : (t u : Bool) → (c == 44) ≡ t → ((c == 13) || (c == 10)) ≡ u
        → is_end (in_field default_config c).1 ≡ false → IsWithin (in_field default_config c).0
    by true u e f = λ h. rw e tt
    by false true e f = λ h. let no : true ≡ false = rw (e, f) at h in absurd (cc)
    by false false e f = λ h. rw (e, f) tt

start_within : (c : ℕ) → is_end (start_field default_config c).1 ≡ false
    → IsWithin (start_field default_config c).0
start_within c = by (c == 34) refl (field_within c)
  where
    by : (t : Bool) → (c == 34) ≡ t
        → (is_end (in_field default_config c).1 ≡ false → IsWithin (in_field default_config c).0)
        → is_end (start_field default_config c).1 ≡ false
        → IsWithin (start_field default_config c).0
    by true e in_it = λ h. rw e tt
    by false e in_it = λ h. rw e (in_it (rw e at h))

quoted_within : (c : ℕ) → IsWithin (step default_config st.InQuoted c).0
quoted_within c = by (c == 34) refl
  where
    by : (t : Bool) → (c == 34) ≡ t → IsWithin (step default_config st.InQuoted c).0
    by true e = rw e tt
    by false e = rw e tt

after_within : (c : ℕ) → is_end (step default_config st.AfterQuote c).1 ≡ false
    → IsWithin (step default_config st.AfterQuote c).0
after_within c = by (c == 34) refl (field_within c)
  where
    by : (t : Bool) → (c == 34) ≡ t
        → (is_end (in_field default_config c).1 ≡ false → IsWithin (in_field default_config c).0)
        → is_end (step default_config st.AfterQuote c).1 ≡ false
        → IsWithin (step default_config st.AfterQuote c).0
    by true e in_it = λ h. rw e tt
    by false e in_it = λ h. rw e (in_it (rw e at h))

-- a byte that ends no record leaves it at hand
stays_within : (s : State) (c : ℕ) → IsWithin s → is_end (step default_config s c).1 ≡ false
    → IsWithin (step default_config s c).0
stays_within st.StartField c in_it h = start_within c h
stays_within st.InField c in_it h = field_within c h
stays_within st.InQuoted c in_it h = quoted_within c
stays_within st.AfterQuote c in_it h = after_within c h
stays_within st.InEscape c in_it h = tt
stays_within st.StartRecord c in_it h = absurd in_it
stays_within st.AfterCr c in_it h = absurd in_it
stays_within st.InComment c in_it h = absurd in_it

within_ends : (s : State) → IsWithin s → ends_at_end s ≡ true
within_ends st.StartField in_it = refl
within_ends st.InField in_it = refl
within_ends st.InQuoted in_it = refl
within_ends st.AfterQuote in_it = refl
within_ends st.InEscape in_it = refl
within_ends st.StartRecord in_it = absurd in_it
within_ends st.AfterCr in_it = absurd in_it
within_ends st.InComment in_it = absurd in_it

-- and as long as it was
stays_long : (a : Action) (c : ℕ) (fields : List (List ℕ)) (field : List ℕ) → is_end a ≡ false
    → GetsLong fields field → GetsLong (fields_after a fields field) (field_after a c field)
stays_long act.Skip c fields field e long = long
stays_long act.Copy c fields field e (inl some) = inl some
stays_long act.Copy c fields field e (inr (none, long)) =
    let size = length-append field (c ∷ []) in inr (none, omega (arith, size, long))
stays_long act.EndField c fields field e long =
    let size = length-append fields (field ∷ []) in inl (omega (arith, size))
stays_long act.EndRecord c fields field e long = let no : true ≡ false = e in absurd (cc)

-- a long record stands behind those that were read, in the end
abbrev pub HasLong : Rows → Scan → List ℕ → Type 0
HasLong rows scan more = (row : List (List ℕ)) × (rest : Rows) × IsLong row
    × (rows_at_end (scan_on scan more) ≡ rows ++ row ∷ rest)

row_ends : (a : Action) (fields : List (List ℕ)) (field : List ℕ) → is_end a ≡ true
    → fields_after a fields field ≡ fields ++ field ∷ []
row_ends act.EndRecord fields field e = refl
row_ends act.Skip fields field e = let no : false ≡ true = e in absurd (cc)
row_ends act.Copy fields field e = let no : false ≡ true = e in absurd (cc)
row_ends act.EndField fields field e = refl

pub long_stays : (scan : Scan) (more : List ℕ) → IsWithin scan.state
    → GetsLong scan.fields scan.field → HasLong scan.rows scan more
long_stays scan [] in_it long =
    let there : last_rows scan ≡ (scan.fields ++ scan.field ∷ []) ∷ [] =
    rw (within_ends scan.state in_it) refl in (
      scan.fields ++ scan.field ∷ [],
      [],
      ends_long scan.fields scan.field long,
      ap (λ rs. scan.rows ++ rs) there,
    )
long_stays scan (c ∷ more) in_it long =
    by (is_end (step default_config scan.state c).1) refl
    (λ e. long_stays (scanned scan c) more (stays e) (gets e)) (rows_stay (scanned scan c) more)
  where
    it : State × Action
    it = step default_config scan.state c

    after : is_end it.1 ≡ false → scanned scan c ≡ record {
      rows = scan.rows;
      state = it.0;
      fields = fields_after it.1 scan.fields scan.field;
      field = field_after it.1 c scan.field;
    }
    after e = rw e refl

    stays : is_end it.1 ≡ false → IsWithin (scanned scan c).state
    stays e = subst (λ (s : Scan). IsWithin s.state) (sym (after e))
        (stays_within scan.state c in_it e)

    gets : is_end it.1 ≡ false → GetsLong (scanned scan c).fields (scanned scan c).field
    gets e = subst (λ (s : Scan). GetsLong s.fields s.field) (sym (after e))
        (stays_long it.1 c scan.fields scan.field e long)

    by : (b : Bool) → is_end it.1 ≡ b
        → (is_end it.1 ≡ false → HasLong (scanned scan c).rows (scanned scan c) more)
        → Keeps (scanned scan c).rows (scanned scan c) more → HasLong scan.rows scan (c ∷ more)
    by true e go (rest, is) =
        let row = scan.fields ++ scan.field ∷ [] in
        let rows : (scanned scan c).rows ≡ scan.rows ++ row ∷ [] =
        rw (e, row_ends it.1 scan.fields scan.field e) refl in (
          row,
          rest,
          ends_long scan.fields scan.field long,
          is ∙ ap (λ rs. rs ++ rest) rows ∙ append_assoc scan.rows (row ∷ []) rest,
        )
    by false e go keeps =
        let (row, rest, is_long, is) = go e in
        let rows : (scanned scan c).rows ≡ scan.rows = rw e refl in
        (row, rest, is_long, is ∙ ap (λ rs. rs ++ row ∷ rest) rows)

-- a reader of all these records reads the first of them
pub reached_front : (cfg : Config) (s : State) (xs : List ℕ) (front rest : Rows) (s2 : State)
    (ys : List ℕ) → Reached cfg s xs (front ++ rest) s2 ys
    → (s1 : State) × (zs : List ℕ) × Reached cfg s xs front s1 zs
unfolding Reached
reached_front cfg s xs [] rest s2 ys reached = (s, xs, (refl, refl))
reached_front cfg s xs (r ∷ front) rest s2 ys (p, next, is, more) =
    let (s1, zs, those) = reached_front cfg p.1 p.2 front rest s2 ys more in
    (s1, zs, (p, next, is, those))
