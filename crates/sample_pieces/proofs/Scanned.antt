-- The records of a text, byte by byte.
use Rattle.std.proofs.Common.{◌≡◌, ℕ, Bool, true, false, cond, List, [], ◌∷◌, ◌++◌, Option, Some, None, refl, sym, ap, subst, ◌∙◌, append_assoc}
use Rattle.csv.specs.Machine.{step, is_end, fields_after, field_after, ends_at_end, next_record, Read}
use Rattle.csv.specs.Reading.{default_config, Reached, AreRecords}
use Rattle.csv.specs.declared.parser.State.{State}
use Rattle.csv.specs.declared.parser.State.TheVariants as st
use Rattle.sample_pieces.specs.Scans.{Scan, nothing_read, scanned, scan_on, rows_at_end}

abbrev pub Rows : Type 0
Rows = List (List (List ℕ))

pub pieces : (scan : Scan) (piece more : List ℕ)
    → scan_on scan (piece ++ more) ≡ scan_on (scan_on scan piece) more
pieces scan [] more = refl
pieces scan (c ∷ piece) more = pieces (scanned scan c) piece more

-- a scan with other records before
abbrev behind : Rows → Scan → Scan
behind rows scan = record scan { rows = rows ++ scan.rows }

behind_one : (rows : Rows) (scan : Scan) (c : ℕ)
    → scanned (behind rows scan) c ≡ behind rows (scanned scan c)
behind_one rows scan c = by (is_end (step default_config scan.state c).1) refl
  where
    by : (b : Bool) → is_end (step default_config scan.state c).1 ≡ b
        → scanned (behind rows scan) c ≡ behind rows (scanned scan c)
    by true e =
        let row = fields_after (step default_config scan.state c).1 scan.fields scan.field in
        rw e (ap (λ (l : Rows). record {
          rows = l;
          state = (step default_config scan.state c).0;
          fields = [];
          field = [];
        }) (append_assoc rows scan.rows (row ∷ [])))
    by false e = rw e refl

behind_all : (rows : Rows) (scan : Scan) (bytes : List ℕ)
    → scan_on (behind rows scan) bytes ≡ behind rows (scan_on scan bytes)
behind_all rows scan [] = refl
behind_all rows scan (c ∷ bytes) =
    ap (λ s. scan_on s bytes) (behind_one rows scan c) ∙ behind_all rows (scanned scan c) bytes

-- what a read gives, and the records after it
abbrev Follow : Option Read → Rows → Type 0
Follow None rows = rows ≡ []
Follow (Some p) rows = (rest : Rows) × (rows ≡ p.0 ∷ rest) × AreRecords default_config p.1 p.2 rest

-- the records of a text from its middle on
abbrev at_hand : State → List (List ℕ) → List ℕ → Scan
at_hand s fields field = record { rows = []; state = s; fields = fields; field = field }

-- where nothing is at hand they are all records
all_of : (s : State) (text : List ℕ) (rows : Rows)
    → Follow (next_record default_config s [] [] text) rows → AreRecords default_config s text rows
unfolding Reached
all_of s text rows follow = by (next_record default_config s [] [] text) refl follow
  where
    by : (o : Option Read) → next_record default_config s [] [] text ≡ o → Follow o rows
        → AreRecords default_config s text rows
    by None e none =
        let A : Rows → Type 0 = λ rs. AreRecords default_config s text rs in
        subst A (sym none) (s, text, (refl, refl), e)
    by (Some p) e (rest, is, (s2, ys, reached, last)) =
        let A : Rows → Type 0 = λ rs. AreRecords default_config s text rs in
        subst A (sym is) (s2, ys, (p, e, refl, reached), last)

empty_end : AreRecords default_config st.StartRecord [] []
unfolding Reached next_record
empty_end = (st.StartRecord, [], (refl, refl), refl)

-- a byte that ends no record, and one that does
scan_within : (s : State) (fields : List (List ℕ)) (field : List ℕ) (c : ℕ)
    → is_end (step default_config s c).1 ≡ false
    → scanned (at_hand s fields field) c
    ≡ at_hand (step default_config s c).0 (fields_after (step default_config s c).1 fields field)
    (field_after (step default_config s c).1 c field)
scan_within s fields field c e = rw e refl

scan_ends : (s : State) (fields : List (List ℕ)) (field : List ℕ) (c : ℕ)
    → is_end (step default_config s c).1 ≡ true
    → scanned (at_hand s fields field) c
    ≡ behind (fields_after (step default_config s c).1 fields field ∷ [])
    (at_hand (step default_config s c).0 [] [])
scan_ends s fields field c e = rw e refl

next_within : (s : State) (fields : List (List ℕ)) (field : List ℕ) (c : ℕ) (rest : List ℕ)
    → is_end (step default_config s c).1 ≡ false
    → next_record default_config s fields field (c ∷ rest)
    ≡ next_record default_config (step default_config s c).0
    (fields_after (step default_config s c).1 fields field)
    (field_after (step default_config s c).1 c field) rest
unfolding next_record
next_within s fields field c rest e = rw e refl

next_ends : (s : State) (fields : List (List ℕ)) (field : List ℕ) (c : ℕ) (rest : List ℕ)
    → is_end (step default_config s c).1 ≡ true
    → next_record default_config s fields field (c ∷ rest)
    ≡ Some (fields_after (step default_config s c).1 fields field, (step default_config s c).0, rest)
unfolding next_record
next_ends s fields field c rest e = rw e refl

-- what is read next, and what a scan comes to
abbrev Agrees : Option Read → Scan → List ℕ → Type 0
Agrees read scan rest = Follow read (rows_at_end (scan_on scan rest))

at_the_end : (s : State) (fields : List (List ℕ)) (field : List ℕ)
    → Agrees (next_record default_config s fields field []) (at_hand s fields field) []
unfolding next_record
at_the_end s fields field = by (ends_at_end s) refl
  where
    by : (b : Bool) → ends_at_end s ≡ b
        → Follow (cond b (Some (fields ++ (field ∷ []), st.StartRecord, [])) None)
        (cond b ((fields ++ field ∷ []) ∷ []) [])
    by true e = ([], refl, empty_end)
    by false e = refl

follows : (text : List ℕ) (s : State) (fields : List (List ℕ)) (field : List ℕ)
    → Agrees (next_record default_config s fields field text) (at_hand s fields field) text
follows [] s fields field = at_the_end s fields field
follows (c ∷ rest) s fields field =
    by (is_end (step default_config s c).1) refl
    (follows rest (step default_config s c).0
    (fields_after (step default_config s c).1 fields field)
    (field_after (step default_config s c).1 c field))
    (all_of (step default_config s c).0 rest
    (rows_at_end (scan_on (at_hand (step default_config s c).0 [] []) rest))
    (follows rest (step default_config s c).0 [] []))
  where
    by : (b : Bool) → is_end (step default_config s c).1 ≡ b
        → Agrees (next_record default_config (step default_config s c).0
        (fields_after (step default_config s c).1 fields field)
        (field_after (step default_config s c).1 c field) rest)
        (at_hand (step default_config s c).0
        (fields_after (step default_config s c).1 fields field)
        (field_after (step default_config s c).1 c field)) rest
        → AreRecords default_config (step default_config s c).0 rest
        (rows_at_end (scan_on (at_hand (step default_config s c).0 [] []) rest))
        → Agrees (next_record default_config s fields field (c ∷ rest))
        (scanned (at_hand s fields field) c) rest
    by false e go all =
        subst (λ read. Agrees read (scanned (at_hand s fields field) c) rest)
        (sym (next_within s fields field c rest e))
        (subst (λ scan. Agrees (next_record default_config (step default_config s c).0
        (fields_after (step default_config s c).1 fields field)
        (field_after (step default_config s c).1 c field) rest) scan rest)
        (sym (scan_within s fields field c e)) go)
    by true e go all =
        let row = fields_after (step default_config s c).1 fields field in
        let after = at_hand (step default_config s c).0 [] [] in
        let more : scan_on (scanned (at_hand s fields field) c) rest
        ≡ behind (row ∷ []) (scan_on after rest) =
        ap (λ scan. scan_on scan rest) (scan_ends s fields field c e)
        ∙ behind_all (row ∷ []) after rest in
        subst (λ read. Agrees read (scanned (at_hand s fields field) c) rest)
        (sym (next_ends s fields field c rest e))
        (rows_at_end (scan_on after rest), ap rows_at_end more, all)

pub records : (text : List ℕ) → AreRecords default_config st.StartRecord text
    (rows_at_end (scan_on nothing_read text))
records text =
    all_of st.StartRecord text (rows_at_end (scan_on nothing_read text))
    (follows text st.StartRecord [] [])
