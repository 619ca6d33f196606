-- A text and its part up to a comma. The record with the comma has a second field, or a comma in its
-- one field, so it is of no value in the text, and in the part.
use Rattle.std.proofs.Common.{ℕ, suc, ◌≡◌, ◌<◌, ◌≤◌, ◌+◌, ◌⊎◌, ◌==◌, ◌||◌, ◌&&◌, inl, inr, ℤ, List, [], ◌∷◌, ◌++◌, length, length-append, map, take, drop, get_or, append_assoc, refl, sym, subst, ap, ◌∙◌, arith, rules, eqb-true, Option, Some, None, Bool, true, false, cond}
use Rattle.std.specs.Str.Parse.{AllDigits}
use Rattle.std.specs.Fmt.{decimal, signed_decimal}
use Rattle.std.proofs.lemmas.Str.Parse.{digit_from_value}
use Rattle.std.proofs.lemmas.List.{take_more, take-append-drop}
use Rattle.std.proofs.lemmas.Option.{same_Some}
use Rattle.csv.specs.Machine.{Read, next_record, step, is_end, ends_at_end, fields_after, field_after, in_field, start_field, start_record}
use Rattle.csv.specs.Reading.{Reached, default_config, is_bom, strip_bom}
use Rattle.csv.specs.declared.parser.State.{State}
use Rattle.csv.specs.declared.parser.State.TheVariants as st
use Rattle.csv.specs.declared.parser.Action.{Action}
use Rattle.csv.specs.declared.parser.Action.TheVariants as act
use Rattle.csv.proofs.ReadFacts.{reached-more}
use Rattle.phase_accum.specs.Sends.{AreSends, IsSend}
use Rattle.graph_lang.specs.TextInside.{EndsWithComma, IsThroughComma}
use Rattle.graph_lang.specs.Samples.{AreRecordsOfValues, IsBadSample, row_of}
use Rattle.graph_lang.proofs.Digits.{looks_decimal}
use lib.IntN.{pos, negsuc}

-- ---- no value has a comma

abbrev pub HasComma : List ℕ → Type 0
HasComma [] = ⊥
HasComma (c ∷ cs) = (c ≡ 44) ⊎ HasComma cs

comma-last : (xs : List ℕ) → HasComma (xs ++ 44 ∷ [])
comma-last [] = inl refl
comma-last (x ∷ xs) = inr (comma-last xs)

comma-stays : (xs ys : List ℕ) → HasComma xs → HasComma (xs ++ ys)
comma-stays [] ys none = absurd none
comma-stays (x ∷ xs) ys (inl is) = inl is
comma-stays (x ∷ xs) ys (inr has) = inr (comma-stays xs ys has)

digits-none : (ds : List ℕ) → AllDigits 10 ds → HasComma ds → ⊥
digits-none [] digits none = none
digits-none (c ∷ cs) digits (inl is) = omega (arith, digit_from_value c digits.0, is)
digits-none (c ∷ cs) digits (inr has) = digits-none cs digits.1 has

value-none : (v : ℤ) → IsSend v → HasComma (signed_decimal v) → ⊥
value-none (pos n) send has = digits-none (decimal n) (looks_decimal n send.small).digits has
value-none (negsuc n) send (inl is) = omega (arith, is)
value-none (negsuc n) send (inr has) = digits-none (decimal (suc n)) (looks_decimal (suc n) send.small).digits has

-- ---- a record that is of no value

abbrev pub IsOther : List (List ℕ) → Type 0
IsOther row = (v : ℤ) → IsSend v → row ≡ row_of v → ⊥

-- a field is behind, or the one at hand has a comma
abbrev pub Marks : List (List ℕ) → List ℕ → Type 0
Marks fields field = (0 < length fields) ⊎ HasComma field

two-other : (fields : List (List ℕ)) (field : List ℕ) → 0 < length fields → IsOther (fields ++ (field ∷ []))
two-other fields field some v send is =
    let one : length (fields ++ (field ∷ [])) ≡ 1 = ap length is in
    omega (arith, some, one, length-append fields (field ∷ []))

abbrev first-of : List (List ℕ) → List ℕ
first-of [] = []
first-of (field ∷ fields) = field

marks-other : (fields : List (List ℕ)) (field : List ℕ) → Marks fields field → IsOther (fields ++ (field ∷ []))
marks-other fields field (inl some) = two-other fields field some
marks-other [] field (inr has) = λ v send is.
    let same : field ≡ signed_decimal v = ap first-of is in
    value-none v send (subst (λ (f : List ℕ). HasComma f) same has)
marks-other (g ∷ fields) field (inr has) = two-other (g ∷ fields) field (omega arith)

-- ---- what a byte does to the marks

some-more : (fields : List (List ℕ)) (field : List ℕ) → 0 < length (fields ++ (field ∷ []))
some-more fields field = omega (arith, length-append fields (field ∷ []))

marks-stay : (a : Action) (c : ℕ) (fields : List (List ℕ)) (field : List ℕ) → Marks fields field
    → Marks (fields_after a fields field) (field_after a c field)
marks-stay act.Copy c fields field (inl some) = inl some
marks-stay act.Copy c fields field (inr has) = inr (comma-stays field (c ∷ []) has)
marks-stay act.Skip c fields field marks = marks
marks-stay act.EndField c fields field marks = inl (some-more fields field)
marks-stay act.EndRecord c fields field marks = inl (some-more fields field)

ended-other : (a : Action) (fields : List (List ℕ)) (field : List ℕ) → is_end a ≡ true → Marks fields field
    → IsOther (fields_after a fields field)
ended-other act.EndRecord fields field ends marks = marks-other fields field marks
ended-other act.Copy fields field ends marks = absurd (cc)
ended-other act.Skip fields field ends marks = absurd (cc)
ended-other act.EndField fields field ends marks = absurd (cc)

-- ---- states

-- in no comment
abbrev pub is_plain : State → Bool
is_plain st.StartRecord = true
is_plain st.StartField = true
is_plain st.InField = true
is_plain st.InQuoted = true
is_plain st.InEscape = true
is_plain st.AfterQuote = true
is_plain st.InComment = false
is_plain st.AfterCr = true

-- in a record that has begun
abbrev pub is_within : State → Bool
is_within st.StartRecord = false
is_within st.StartField = true
is_within st.InField = true
is_within st.InQuoted = true
is_within st.InEscape = true
is_within st.AfterQuote = true
is_within st.InComment = false
is_within st.AfterCr = false

plain-choice : (q : Bool) (s : State) (a : Action) (r : State × Action) → is_plain s ≡ true → is_plain r.0 ≡ true
    → is_plain (cond q (s, a) r).0 ≡ true
plain-choice true s a r one other = one
plain-choice false s a r one other = other

-- the step of a byte that is in a field
abbrev field_step : Bool → Bool → State × Action
field_step b d = cond b (cond d st.AfterCr st.StartRecord, act.EndRecord) (st.InField, act.Copy)

plain-end : (b d : Bool) → is_plain (field_step b d).0 ≡ true
plain-end true true = refl
plain-end true false = refl
plain-end false d = refl

plain-in_field : (c : ℕ) → is_plain (in_field default_config c).0 ≡ true
plain-in_field c =
    plain-choice (c == 44) st.StartField act.EndField _ refl (plain-end ((c == 13) || (c == 10)) (c == 13))

plain-start_field : (c : ℕ) → is_plain (start_field default_config c).0 ≡ true
plain-start_field c = plain-choice (c == 34) st.InQuoted act.Skip _ refl (plain-in_field c)

plain-start_record : (c : ℕ) → is_plain (start_record default_config c).0 ≡ true
plain-start_record c = plain-choice ((c == 13) || (c == 10)) st.StartRecord act.Skip _ refl (plain-start_field c)

plain-step : (s : State) (c : ℕ) → is_plain s ≡ true → is_plain (step default_config s c).0 ≡ true
plain-step st.StartRecord c plain = plain-start_record c
plain-step st.StartField c plain = plain-start_field c
plain-step st.InField c plain = plain-in_field c
plain-step st.InQuoted c plain = plain-choice (c == 34) st.AfterQuote act.Skip (st.InQuoted, act.Copy) refl refl
plain-step st.InEscape c plain = refl
plain-step st.AfterQuote c plain = plain-choice (c == 34) st.InQuoted act.Copy _ refl (plain-in_field c)
plain-step st.InComment c plain = absurd (cc)
plain-step st.AfterCr c plain = plain-choice (c == 10) st.StartRecord act.Skip _ refl (plain-start_record c)

within-choice : (q : Bool) (s : State) (a : Action) (r : State × Action) → is_within s ≡ true
    → (is_end r.1 ≡ false → is_within r.0 ≡ true) → is_end (cond q (s, a) r).1 ≡ false
    → is_within (cond q (s, a) r).0 ≡ true
within-choice true s a r one other unended = one
within-choice false s a r one other unended = other unended

within-end : (b d : Bool) → is_end (field_step b d).1 ≡ false → is_within (field_step b d).0 ≡ true
within-end true d unended = absurd (cc)
within-end false d unended = refl

within-in_field : (c : ℕ) → is_end (in_field default_config c).1 ≡ false
    → is_within (in_field default_config c).0 ≡ true
within-in_field c =
    within-choice (c == 44) st.StartField act.EndField _ refl (within-end ((c == 13) || (c == 10)) (c == 13))

within-step : (s : State) (c : ℕ) → is_within s ≡ true → is_end (step default_config s c).1 ≡ false
    → is_within (step default_config s c).0 ≡ true
within-step st.StartField c within = within-choice (c == 34) st.InQuoted act.Skip _ refl (within-in_field c)
within-step st.InField c within = within-in_field c
within-step st.InQuoted c within =
    within-choice (c == 34) st.AfterQuote act.Skip (st.InQuoted, act.Copy) refl (λ _. refl)
within-step st.InEscape c within = λ _. refl
within-step st.AfterQuote c within = within-choice (c == 34) st.InQuoted act.Copy _ refl (within-in_field c)
within-step st.StartRecord c within = absurd (cc)
within-step st.InComment c within = absurd (cc)
within-step st.AfterCr c within = absurd (cc)

within-ends : (s : State) → is_within s ≡ true → ends_at_end s ≡ true
within-ends st.StartField within = refl
within-ends st.InField within = refl
within-ends st.InQuoted within = refl
within-ends st.InEscape within = refl
within-ends st.AfterQuote within = refl
within-ends st.StartRecord within = absurd (cc)
within-ends st.InComment within = absurd (cc)
within-ends st.AfterCr within = absurd (cc)

-- a comma ends no record, leaves a state within one, and marks it
pub record CommaDoes (s : State) (fields : List (List ℕ)) (field : List ℕ) : Type 0 where
  pub unended : is_end (step default_config s 44).1 ≡ false
  pub within : is_within (step default_config s 44).0 ≡ true
  pub marks : Marks (fields_after (step default_config s 44).1 fields field)
      (field_after (step default_config s 44).1 44 field)

comma : (s : State) (fields : List (List ℕ)) (field : List ℕ) → is_plain s ≡ true → CommaDoes s fields field
comma st.StartRecord fields field plain = record { unended = refl; within = refl; marks = inl (some-more fields field) }
comma st.StartField fields field plain = record { unended = refl; within = refl; marks = inl (some-more fields field) }
comma st.InField fields field plain = record { unended = refl; within = refl; marks = inl (some-more fields field) }
comma st.InQuoted fields field plain = record { unended = refl; within = refl; marks = inr (comma-last field) }
comma st.InEscape fields field plain = record { unended = refl; within = refl; marks = inr (comma-last field) }
comma st.AfterQuote fields field plain = record { unended = refl; within = refl; marks = inl (some-more fields field) }
comma st.InComment fields field plain = absurd (cc)
comma st.AfterCr fields field plain = record { unended = refl; within = refl; marks = inl (some-more fields field) }

-- ---- the record of a comma

-- the state, the fields and the field at hand after a byte, and whether it ends the record
abbrev after : State → ℕ → State
after s c = (step default_config s c).0

abbrev fields_by : State → ℕ → List (List ℕ) → List ℕ → List (List ℕ)
fields_by s c fields field = fields_after (step default_config s c).1 fields field

abbrev field_by : State → ℕ → List ℕ → List ℕ
field_by s c field = field_after (step default_config s c).1 c field

abbrev ends_by : State → ℕ → Bool
ends_by s c = is_end (step default_config s c).1

-- the record that this byte ends, and the one that goes on behind it
abbrev ended : State → List (List ℕ) → List ℕ → ℕ → List ℕ → Read
ended s fields field c xs = (fields_by s c fields field, after s c, xs)

abbrev going_on : State → List (List ℕ) → List ℕ → ℕ → List ℕ → Option Read
going_on s fields field c xs =
    next_record default_config (after s c) (fields_by s c fields field) (field_by s c field) xs

abbrev by_byte : State → List (List ℕ) → List ℕ → ℕ → List ℕ → Bool → Option Read
by_byte s fields field c xs b = cond b (Some (ended s fields field c xs)) (going_on s fields field c xs)

-- there is a record, and it is of no value
pub record IsOfNone (o : Option Read) : Type 0 where
  pub read : Read
  pub is : o ≡ Some read
  pub other : IsOther read.0

none-at_end : (b : Bool) (p : Read) → b ≡ true → IsOther p.0 → IsOfNone (cond b (Some p) None)
none-at_end true p ends other = record { read = p; is = refl; other = other }
none-at_end false p ends other = absurd (cc)

marked-none : (s : State) (fields : List (List ℕ)) (field xs : List ℕ) → is_within s ≡ true → Marks fields field
    → IsOfNone (next_record default_config s fields field xs)
unfolding next_record
marked-none s fields field [] within marks =
    none-at_end (ends_at_end s) (fields ++ (field ∷ []), st.StartRecord, []) (within-ends s within)
    (marks-other fields field marks)
marked-none s fields field (c ∷ xs) within marks =
    at (λ unended. marked-none (after s c) (fields_by s c fields field) (field_by s c field) xs
    (within-step s c within unended) (marks-stay (step default_config s c).1 c fields field marks))
    (ends_by s c) refl
  where
    at : (ends_by s c ≡ false → IsOfNone (going_on s fields field c xs))
        → (b : Bool) → ends_by s c ≡ b
        → IsOfNone (by_byte s fields field c xs b)
    at more true ends = record {
      read = ended s fields field c xs;
      is = refl;
      other = ended-other (step default_config s c).1 fields field ends marks;
    }
    at more false unended = more unended

none-unended : (b : Bool) (one other : Option Read) → b ≡ false → IsOfNone other → IsOfNone (cond b one other)
none-unended true one other unended none = absurd (cc)
none-unended false one other unended none = none

comma-none : (s : State) (fields : List (List ℕ)) (field xs : List ℕ) → is_plain s ≡ true
    → IsOfNone (next_record default_config s fields field (44 ∷ xs))
unfolding next_record
comma-none s fields field xs plain =
    let does = comma s fields field plain in
    none-unended (is_end (step default_config s 44).1) _ _ does.unended
    (marked-none (step default_config s 44).0 _ _ xs does.within does.marks)

-- ---- the first record of the part up to the comma, and of the text

-- the part's record is the text's, and the comma is still to come
pub record IsSame (p : Read) (whole : Option Read) (back : List ℕ) : Type 0 where
  pub front : List ℕ
  pub left : p.2 ≡ front ++ (44 ∷ [])
  pub plain : is_plain p.1 ≡ true
  pub whole_is : whole ≡ Some (p.0, p.1, front ++ (44 ∷ back))

-- the part has a record, which is the text's or of no value, and then the text's is so too
pub record Goes (part whole : Option Read) (back : List ℕ) : Type 0 where
  pub read : Read
  pub is : part ≡ Some read
  pub which : IsSame read whole back ⊎ (IsOther read.0 × IsOfNone whole)

goes : (s : State) (fields : List (List ℕ)) (field front back : List ℕ) → is_plain s ≡ true
    → Goes (next_record default_config s fields field (front ++ (44 ∷ [])))
    (next_record default_config s fields field (front ++ (44 ∷ back))) back
unfolding next_record
goes s fields field [] back plain =
    let part = comma-none s fields field [] plain in
    let whole = comma-none s fields field back plain in
    record { read = part.read; is = part.is; which = inr (part.other, whole) }
goes s fields field (c ∷ front) back plain =
    at (goes (after s c) (fields_by s c fields field) (field_by s c field) front back (plain-step s c plain))
    (ends_by s c)
  where
    at : Goes (going_on s fields field c (front ++ (44 ∷ [])))
        (going_on s fields field c (front ++ (44 ∷ back))) back
        → (b : Bool) → Goes (by_byte s fields field c (front ++ (44 ∷ [])) b)
        (by_byte s fields field c (front ++ (44 ∷ back)) b) back
    at more true = record {
      read = ended s fields field c (front ++ (44 ∷ []));
      is = refl;
      which = inl (record { front = front; left = refl; plain = plain-step s c plain; whole_is = refl });
    }
    at more false = more

-- a record of the part that is of a value is the text's
same-record : (part whole : Option Read) (back : List ℕ) (p : Read) → Goes part whole back → part ≡ Some p
    → (IsOther p.0 → ⊥) → IsSame p whole back
same-record part whole back p g is value = at g.read g.which (same_Some g.read p (sym g.is ∙ is))
  where
    at : (q : Read) → IsSame q whole back ⊎ (IsOther q.0 × IsOfNone whole) → q ≡ p → IsSame p whole back
    at q (inl same) e = subst (λ (r : Read). IsSame r whole back) e same
    at q (inr none) e = absurd (value (subst (λ (r : Read). IsOther r.0) e none.0))

-- ---- records of values, and one that is of none

-- after these records the comma is still to come, in the part and in the text
pub record ComesTo (s : State) (front back : List ℕ) (good : List ℤ) (s2 : State) (ys : List ℕ) : Type 0 where
  pub rest : List ℕ
  pub left : ys ≡ rest ++ (44 ∷ [])
  pub plain : is_plain s2 ≡ true
  pub whole : Reached default_config s (front ++ (44 ∷ back)) (map row_of good) s2 (rest ++ (44 ∷ back))

comes : (good : List ℤ) (s : State) (front back : List ℕ) (s2 : State) (ys : List ℕ) → AreSends good → is_plain s ≡ true
    → Reached default_config s (front ++ (44 ∷ [])) (map row_of good) s2 ys → ComesTo s front back good s2 ys
unfolding Reached
comes [] s front back s2 ys sends plain reached = record {
  rest = front;
  left = sym reached.1;
  plain = subst (λ (t : State). is_plain t ≡ true) reached.0 plain;
  whole = (reached.0, refl);
}
comes (v ∷ good) s front back s2 ys sends plain (p, next, row, more) =
    let same = same-record _ _ back p (goes s [] [] front back plain) next (λ other. other v sends.0 (sym row)) in
    let later = subst (λ (xs : List ℕ). Reached default_config p.1 xs (map row_of good) s2 ys) same.left more in
    let on = comes good p.1 same.front back s2 ys sends.1 same.plain later in
    record {
      rest = on.rest;
      left = on.left;
      plain = on.plain;
      whole = ((p.0, p.1, same.front ++ (44 ∷ back)), same.whole_is, row, on.whole);
    }

-- the part has more than records of values
part-unread : (s : State) (front back : List ℕ) (good : List ℤ) (s2 : State) (ys : List ℕ)
    → ComesTo s front back good s2 ys → next_record default_config s2 [] [] ys ≡ None → ⊥
part-unread s front back good s2 ys on none =
    let there = goes s2 [] [] on.rest back on.plain in
    let last = subst (λ (xs : List ℕ). next_record default_config s2 [] [] xs ≡ None) on.left none in
    none-some there.read (sym last ∙ there.is)
  where
    none-some : (p : Read) → None ≡ Some p → ⊥
    none-some p = λ e. search rules

-- the row behind records of values is of no value, in the part and in the text
pub record HasOther (s : State) (xs : List ℕ) (good : List ℤ) : Type 0 where
  pub row : List (List ℕ)
  pub other : IsOther row
  pub begins : (s2 : State) × (ys : List ℕ)
      × Reached default_config s xs (map row_of good ++ row ∷ []) s2 ys

other-next : (s s1 : State) (xs zs : List ℕ) (good : List ℤ) (q : Read) → IsOther q.0
    → Reached default_config s xs (map row_of good) s1 zs → next_record default_config s1 [] [] zs ≡ Some q
    → HasOther s xs good
other-next s s1 xs zs good q other reached next = record {
  row = q.0;
  other = other;
  begins = (q.1, q.2, reached-more default_config s s1 xs zs (map row_of good) q reached next);
}

-- the last of these records, and those before it
pub record Splits (s : State) (xs : List ℕ) (rows : List (List (List ℕ))) (row : List (List ℕ)) : Type 0 where
  pub at : State
  pub left : List ℕ
  pub reached : Reached default_config s xs rows at left
  pub read : Read
  pub next : next_record default_config at [] [] left ≡ Some read
  pub row_is : row ≡ read.0

splits : (rows : List (List (List ℕ))) (row : List (List ℕ)) (s : State) (xs : List ℕ) (s2 : State) (ys : List ℕ)
    → Reached default_config s xs (rows ++ row ∷ []) s2 ys → Splits s xs rows row
unfolding Reached
splits [] row s xs s2 ys (p, next, is, more) = record {
  at = s;
  left = xs;
  reached = (refl, refl);
  read = p;
  next = next;
  row_is = is;
}
splits (r ∷ rows) row s xs s2 ys (p, next, is, more) =
    let rest = splits rows row p.1 p.2 s2 ys more in
    record {
      at = rest.at;
      left = rest.left;
      reached = (p, next, is, rest.reached);
      read = rest.read;
      next = rest.next;
      row_is = rest.row_is;
    }

-- where a row of no value is behind those of values in the part, there is one in the text
other-whole : (s : State) (front back : List ℕ) (good : List ℤ) (row : List (List ℕ)) → AreSends good
    → is_plain s ≡ true → IsOther row → Splits s (front ++ (44 ∷ [])) (map row_of good) row
    → HasOther s (front ++ (44 ∷ back)) good
other-whole s front back good row sends plain other parts =
    let on = comes good s front back parts.at parts.left sends plain parts.reached in
    let there = goes parts.at [] [] on.rest back on.plain in
    let next =
    subst (λ (xs : List ℕ). next_record default_config parts.at [] [] xs ≡ Some parts.read) on.left parts.next in
    which on there.which (same_Some there.read parts.read (sym there.is ∙ next))
  where
    which : (on : ComesTo s front back good parts.at parts.left) {q : Read}
        → IsSame q (next_record default_config parts.at [] [] (on.rest ++ (44 ∷ back))) back
        ⊎ (IsOther q.0 × IsOfNone (next_record default_config parts.at [] [] (on.rest ++ (44 ∷ back))))
        → q ≡ parts.read → HasOther s (front ++ (44 ∷ back)) good
    which on {q} (inl same) e =
        let row_is : row ≡ q.0 = parts.row_is ∙ ap (λ (r : Read). r.0) (sym e) in
        other-next s parts.at (front ++ (44 ∷ back)) (on.rest ++ (44 ∷ back)) good (q.0, q.1, same.front ++ (44 ∷ back))
        (subst (λ (r : List (List ℕ)). IsOther r) row_is other) on.whole same.whole_is
    which on {q} (inr none) e =
        other-next s parts.at (front ++ (44 ∷ back)) (on.rest ++ (44 ∷ back)) good
        none.1.read none.1.other on.whole none.1.is

-- ---- a byte order mark

-- the part and the text, each without its byte order mark
pub record Strips (front back : List ℕ) : Type 0 where
  pub rest : List ℕ
  pub part : strip_bom (front ++ (44 ∷ [])) ≡ rest ++ (44 ∷ [])
  pub whole : strip_bom (front ++ (44 ∷ back)) ≡ rest ++ (44 ∷ back)

none-second : (p q r : Bool) → q ≡ false → (p && q && r) ≡ false
none-second true true r is = absurd (cc)
none-second false true r is = absurd (cc)
none-second true false true is = refl
none-second true false false is = refl
none-second false false true is = refl
none-second false false false is = refl

none-third : (p q r : Bool) → r ≡ false → (p && q && r) ≡ false
none-third p q true is = absurd (cc)
none-third true true false is = refl
none-third true false false is = refl
none-third false true false is = refl
none-third false false false is = refl

not-stripped : (q : Bool) (xs ys : List ℕ) → q ≡ false → cond q xs ys ≡ ys
not-stripped true xs ys is = absurd (cc)
not-stripped false xs ys is = refl

strips-second : (a : ℕ) (back : List ℕ) → strip_bom (a ∷ 44 ∷ back) ≡ a ∷ 44 ∷ back
unfolding strip_bom
strips-second a [] = refl
strips-second a (b ∷ back) =
    not-stripped (is_bom a 44 b) back (a ∷ 44 ∷ b ∷ back) (none-second (a == 0xEF) (44 == 0xBB) (b == 0xBF) refl)

strips-first : (back : List ℕ) → strip_bom (44 ∷ back) ≡ 44 ∷ back
unfolding strip_bom
strips-first [] = refl
strips-first (a ∷ []) = refl
strips-first (a ∷ b ∷ back) = refl

strips : (front back : List ℕ) → Strips front back
unfolding strip_bom
strips [] back = record { rest = []; part = refl; whole = strips-first back }
strips (a ∷ []) back = record { rest = a ∷ []; part = refl; whole = strips-second a back }
strips (a ∷ b ∷ []) back = record {
  rest = a ∷ b ∷ [];
  part = not-stripped (is_bom a b 44) [] (a ∷ b ∷ 44 ∷ []) (none-third (a == 0xEF) (b == 0xBB) (44 == 0xBF) refl);
  whole = not-stripped (is_bom a b 44) back (a ∷ b ∷ 44 ∷ back) (none-third (a == 0xEF) (b == 0xBB) (44 == 0xBF) refl);
}
strips (a ∷ b ∷ c ∷ front) back =
    let (rest, part, whole) = at (is_bom a b c) in
    record { rest = rest; part = part; whole = whole }
  where
    at : (q : Bool) → (rest : List ℕ)
        × (cond q (front ++ (44 ∷ [])) (a ∷ b ∷ c ∷ (front ++ (44 ∷ []))) ≡ rest ++ (44 ∷ []))
        × (cond q (front ++ (44 ∷ back)) (a ∷ b ∷ c ∷ (front ++ (44 ∷ back))) ≡ rest ++ (44 ∷ back))
    at true = (front, refl, refl)
    at false = (a ∷ b ∷ c ∷ front, refl, refl)

-- ---- the samples of the part

-- the part up to a comma has no samples
pub part-no_samples : (front : List ℕ) (values : List ℤ) → AreRecordsOfValues (front ++ (44 ∷ [])) values → ⊥
part-no_samples front values samples =
    let (s2, ys, reached, none) = samples.records in
    let bare = strips front [] in
    let reads =
    subst (λ (xs : List ℕ). Reached default_config st.StartRecord xs (map row_of values) s2 ys) bare.part reached in
    let on = comes values st.StartRecord bare.rest [] s2 ys samples.sends refl reads in
    part-unread st.StartRecord bare.rest [] values s2 ys on none

-- a text without its byte order mark begins with these records
abbrev BeginsBare : List ℕ → List (List (List ℕ)) → Type 0
BeginsBare xs rows = (s : State) × (ys : List ℕ) × Reached default_config st.StartRecord xs rows s ys

-- its first bad record has the number of the text's
pub part-bad : (front back : List ℕ) (n : ℕ) → IsBadSample (front ++ (44 ∷ [])) n → IsBadSample (front ++ (44 ∷ back)) n
part-bad front back n bad =
    let (s2, ys, reached) = bad.begins in
    let bare = strips front back in
    let rows = map row_of bad.good ++ bad.row ∷ [] in
    let reads =
    subst (λ (xs : List ℕ). Reached default_config st.StartRecord xs rows s2 ys) bare.part reached in
    let parts = splits (map row_of bad.good) bad.row st.StartRecord (bare.rest ++ (44 ∷ [])) s2 ys reads in
    let has = other-whole st.StartRecord bare.rest back bad.good bad.row bad.sends refl bad.other parts in
    record {
      good = bad.good;
      row = has.row;
      number = bad.number;
      sends = bad.sends;
      begins = subst (λ (xs : List ℕ). BeginsBare xs (map row_of bad.good ++ has.row ∷ [])) (sym bare.whole) has.begins;
      other = has.other;
    }

-- ---- what the part tells of the text

pub through-comma : (text : List ℕ) (i : ℕ) → i < length text → (get_or text i 0 == 44) ≡ true
    → EndsWithComma text (take (i + 1) text)
through-comma text i within is =
    let byte : get_or text i 0 ≡ 44 = eqb-true (get_or text i 0) 44 is in
    let part = take_more text i 0 within ∙ ap (λ (b : ℕ). take i text ++ (b ∷ [])) byte in
    record {
      front = take i text;
      back = drop (i + 1) text;
      part_is = part;
      text_is = sym (take-append-drop (i + 1) text) ∙ (ap (λ (xs : List ℕ). xs ++ drop (i + 1) text) part
          ∙ append_assoc (take i text) (44 ∷ []) (drop (i + 1) text));
    }

-- samples of the part are the text's
pub samples-through : (text part : List ℕ) (values : List ℤ) → IsThroughComma text part → AreRecordsOfValues part values
    → AreRecordsOfValues text values
samples-through text part values (inl same) samples = subst (λ (xs : List ℕ). AreRecordsOfValues xs values) same samples
samples-through text part values (inr ends) samples =
    absurd (part-no_samples ends.front values (subst (λ (xs : List ℕ). AreRecordsOfValues xs values) ends.part_is samples))

-- and so is its first bad record
pub bad-through : (text part : List ℕ) (n : ℕ) → IsThroughComma text part → IsBadSample part n → IsBadSample text n
bad-through text part n (inl same) bad = subst (λ (xs : List ℕ). IsBadSample xs n) same bad
bad-through text part n (inr ends) bad =
    subst (λ (xs : List ℕ). IsBadSample xs n) (sym ends.text_is)
    (part-bad ends.front ends.back n (subst (λ (xs : List ℕ). IsBadSample xs n) ends.part_is bad))

-- the part is no longer than the text
pub length-through : (text part : List ℕ) → IsThroughComma text part → length part ≤ length text
length-through text part (inl same) = let long = ap length same in omega (arith, long)
length-through text part (inr ends) =
    let short : length part ≡ length ends.front + 1 = ap length ends.part_is ∙ length-append ends.front (44 ∷ []) in
    let long : length text ≡ length ends.front + length (44 ∷ ends.back) =
    ap length ends.text_is ∙ length-append ends.front (44 ∷ ends.back) in
    omega (arith, short, long)
