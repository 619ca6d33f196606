-- A record that was read took at least a byte, and the next one begins afresh.
use Rattle.std.proofs.Common.{ℕ, ◌≡◌, ◌<◌, ◌≤◌, ◌==◌, ◌||◌, List, [], ◌∷◌, ◌++◌, length, refl, arith, Option, Some, None, Bool, true, false, cond, subst}
use Rattle.std.proofs.lemmas.Option.{cond_some}
use Rattle.csv.specs.Machine.{Read, next_record, step, is_end, ends_at_end, fields_after, field_after, in_field, start_field, start_record}
use Rattle.csv.specs.Reading.{default_config, is_bom, NextIs, ReadRecord, source_of, strip_bom}
use Rattle.csv.specs.declared.reader.Reader.{Reader}
use Rattle.csv.specs.declared.parser.State.{State}
use Rattle.csv.specs.declared.parser.State.TheVariants as st
use Rattle.csv.specs.declared.parser.Action.{Action}
use Rattle.csv.specs.declared.parser.Action.TheVariants as act

-- a choice of a step that ends no record, or another
choice : (q : Bool) (s : State) (a : Action) (r : State × Action) → is_end a ≡ false → (is_end r.1 ≡ true → ends_at_end r.0 ≡ false) → is_end (cond q (s, a) r).1 ≡ true → ends_at_end (cond q (s, a) r).0 ≡ false
choice true s a r open_end h e = absurd (cc)
choice false s a r open_end h e = h e

never : (s : State) (a : Action) → is_end a ≡ false → is_end a ≡ true → ends_at_end s ≡ false
never s a open_end e = absurd (cc)

-- the step of a byte that is in a field
abbrev in_field_step : Bool → Bool → State × Action
in_field_step b d = cond b (cond d st.AfterCr st.StartRecord, act.EndRecord) (st.InField, act.Copy)

ending : (b d : Bool) → is_end (in_field_step b d).1 ≡ true → ends_at_end (in_field_step b d).0 ≡ false
ending true true e = refl
ending true false e = refl
ending false d e = absurd (cc)

field_end : (c : ℕ) → is_end (in_field default_config c).1 ≡ true → ends_at_end (in_field default_config c).0 ≡ false
field_end c = choice (c == 44) st.StartField act.EndField _ refl (ending ((c == 13) || (c == 10)) (c == 13))

start_end : (c : ℕ) → is_end (start_field default_config c).1 ≡ true → ends_at_end (start_field default_config c).0 ≡ false
start_end c = choice (c == 34) st.InQuoted act.Skip _ refl (field_end c)

record_end : (c : ℕ) → is_end (start_record default_config c).1 ≡ true → ends_at_end (start_record default_config c).0 ≡ false
record_end c = choice ((c == 13) || (c == 10)) st.StartRecord act.Skip _ refl (start_end c)

-- a byte that ends a record leaves a state in which the text may end
pub end_state : (s : State) (c : ℕ) → is_end (step default_config s c).1 ≡ true → ends_at_end (step default_config s c).0 ≡ false
end_state st.StartRecord c = record_end c
end_state st.StartField c = start_end c
end_state st.InField c = field_end c
end_state st.InQuoted c = choice (c == 34) st.AfterQuote act.Skip (st.InQuoted, act.Copy) refl (never st.InQuoted act.Copy refl)
end_state st.InEscape c = never st.InQuoted act.Copy refl
end_state st.AfterQuote c = choice (c == 34) st.InQuoted act.Copy _ refl (field_end c)
end_state st.InComment c = choice (c == 10) st.StartRecord act.Skip (st.InComment, act.Skip) refl (never st.InComment act.Skip refl)
end_state st.AfterCr c = choice (c == 10) st.StartRecord act.Skip _ refl (record_end c)

-- p is what is left of a text of so many bytes after a record
pub record Shrinks (p : Read) (n : ℕ) : Type 0 where
  pub fresh : ends_at_end p.1 ≡ false
  pub within : length p.2 ≤ n
  pub less : 0 < n → length p.2 < n

pub shrinks : (s : State) (fields : List (List ℕ)) (field xs : List ℕ) (p : Read) → next_record default_config s fields field xs ≡ Some p → Shrinks p (length xs)
unfolding next_record
shrinks s fields field [] p e =
    let c = cond_some (ends_at_end s) (fields ++ (field ∷ []), st.StartRecord, []) p e in
    let P : Read → Type 0 = λ p. Shrinks p 0 in
    subst P c.1 (record { fresh = refl; within = omega arith; less = λ h. h })
shrinks s fields field (c ∷ rest) p e =
    at (shrinks (step default_config s c).0 (fields_after (step default_config s c).1 fields field) (field_after (step default_config s c).1 c field) rest p) (is_end (step default_config s c).1) refl e
  where
    at : (next_record default_config (step default_config s c).0 (fields_after (step default_config s c).1 fields field) (field_after (step default_config s c).1 c field) rest ≡ Some p → Shrinks p (length rest))
        → (b : Bool) → is_end (step default_config s c).1 ≡ b → cond b (Some (fields_after (step default_config s c).1 fields field, (step default_config s c).0, rest)) (next_record default_config (step default_config s c).0 (fields_after (step default_config s c).1 fields field) (field_after (step default_config s c).1 c field) rest) ≡ Some p → Shrinks p (length (c ∷ rest))
    at others true z found =
        let same : (fields_after (step default_config s c).1 fields field, (step default_config s c).0, rest) ≡ p = cc in
        let P : Read → Type 0 = λ p. Shrinks p (length (c ∷ rest)) in
        subst P same (record { fresh = end_state s c z; within = omega arith; less = λ h. omega arith })
    at others false z found =
        let h = others found in
        let w = h.within in
        record { fresh = h.fresh; within = omega arith; less = λ k. omega arith }

-- a text in such a state that has a record has a byte
pub has_byte : (s : State) (xs : List ℕ) (p : Read) → ends_at_end s ≡ false → next_record default_config s [] [] xs ≡ Some p → 0 < length xs
unfolding next_record
has_byte s [] p fresh e =
    let c = cond_some (ends_at_end s) ([] ∷ [], st.StartRecord, []) p e in
    absurd (cc (c.0, fresh))
has_byte s (x ∷ xs) p fresh e = omega arith

-- what a read of a record leaves: a state in which the text may end, and fewer bytes
pub record LeavesLess (s : State) (z y : List ℕ) : Type 0 where
  pub fresh : ends_at_end s ≡ false
  pub less : length z < length y

leaves : (o : Option Read) (s t : State) (f : List (List ℕ)) (y z : List ℕ) → ends_at_end s ≡ false → next_record default_config s [] [] y ≡ o → NextIs o true f t z → LeavesLess t z y
leaves None s t f y z fresh e h = absurd (cc)
leaves (Some p) s t f y z fresh e h =
    let l = shrinks s [] [] y p e in
    let some = has_byte s y p fresh e in
    let fewer = l.less some in
    record { fresh = rw h.2 l.fresh; less = rw h.3 fewer }

pub read_leaves : {R : Type 0} (rem : R → Option (List ℕ)) (a b : Reader R) (f : List (List ℕ)) (y z : List ℕ) → a.config ≡ default_config → ends_at_end a.state ≡ false
    → source_of rem a ≡ Some y → ReadRecord rem a b true f → source_of rem b ≡ Some z → LeavesLess b.state z y
read_leaves rem a b f y z config fresh source r at_z =
    let left = rw r.1 at at_z in
    leaves (next_record default_config a.state [] [] y) a.state b.state f y z fresh refl (rw (config, source, left) at r.0)

-- a text with no byte order mark is no longer than it was
pub length-strip_bom-le : (xs : List ℕ) → length (strip_bom xs) ≤ length xs
unfolding strip_bom
length-strip_bom-le [] = omega arith
length-strip_bom-le (a ∷ []) = omega arith
length-strip_bom-le (a ∷ b ∷ []) = omega arith
length-strip_bom-le (a ∷ b ∷ c ∷ rest) = at (is_bom a b c)
  where
    at : (q : Bool) → length (cond q rest (a ∷ b ∷ c ∷ rest)) ≤ length (a ∷ b ∷ c ∷ rest)
    at true = omega arith
    at false = omega arith
