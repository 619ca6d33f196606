-- One column after another goes on.
use Rattle.std.proofs.Common.{◌≡◌, ◌≢◌, ◌⊎◌, inl, inr, ◌<◌, ◌≤◌, ◌+◌, ◌-◌, cond, ℕ, ℤ, suc, Bool, true, false, List, [], ◌∷◌, Some, length, get_or, set, slice_get, refl, sym, ap, subst, ◌∙◌, arith}
use Rattle.std.proofs.lemmas.Bool.{ltb-false, ltb-true}
use Rattle.std.proofs.lemmas.List.{length-set}
use Rattle.std.proofs.lemmas.Option.{slice_get-get_or, slice_get_within}
use Rattle.std.specs.Prelude.{drop, nat_lt}
use Rattle.std.specs.List.{list_any}
use Rattle.phase_stream.specs.Columns.{HasNoMore, HasPassedLine, has_value}
use Rattle.phase_stream.specs.TableLines.{EachGoes, have_left}
use Rattle.phase_stream.specs.declared.column.Column.{Column}
use Rattle.phase_stream.proofs.RightTables.{all_left}
use Rattle.phase_stream.proofs.Standing.{set_get}

-- the first n columns went on so
pub record GoesBelow (Goes : Column → Column → Type 0) (n : ℕ) (old new : List Column) : Type 0
  where
    pub many : length new ≡ length old
    pub below : (k : ℕ) (before after : Column) → k < n → slice_get old k ≡ Some before
        → slice_get new k ≡ Some after → Goes before after
    pub above : (k : ℕ) (before after : Column) → n ≤ k → slice_get old k ≡ Some before
        → slice_get new k ≡ Some after → after ≡ before

pub goes_more : (Goes : Column → Column → Type 0) (n : ℕ) (old mid : List Column) (now new : Column)
    → GoesBelow Goes n old mid → slice_get mid n ≡ Some now → Goes now new
    → GoesBelow Goes (n + 1) old (set mid n new)
goes_more Goes n old mid now new goes there one = record {
  many = length-set mid n new ∙ goes.many;
  below = λ k before after lt was is. below k before after lt was (set_get mid n k new after is);
  above = λ k before after le was is. above k before after le was (set_get mid n k new after is);
}
  where
    below : (k : ℕ) (before after : Column) → k < n + 1 → slice_get old k ≡ Some before
        → ((k ≡ n) × (after ≡ new)) ⊎ ((k ≢ n) × (slice_get mid k ≡ Some after))
        → Goes before after
    below k before after lt was (inl here) =
        let same : now ≡ before = goes.above n before now (omega arith)
        (subst (λ j. slice_get old j ≡ Some before) here.0 was) there in
        subst (λ b. Goes b after) same (subst (Goes now) (sym here.1) one)
    below k before after lt was (inr apart) =
        goes.below k before after (omega (arith, lt, apart.0)) was apart.1

    above : (k : ℕ) (before after : Column) → n + 1 ≤ k → slice_get old k ≡ Some before
        → ((k ≡ n) × (after ≡ new)) ⊎ ((k ≢ n) × (slice_get mid k ≡ Some after))
        → after ≡ before
    above k before after le was (inl here) = let same = here.0 in absurd (omega (arith, le, same))
    above k before after le was (inr apart) =
        goes.above k before after (omega (arith, le)) was apart.1

pub goes_all : (Goes : Column → Column → Type 0) (n : ℕ) (old new : List Column)
    → GoesBelow Goes n old new → length old ≤ n → EachGoes Goes old new
goes_all Goes n old new goes le = record {
  many = goes.many;
  each = λ k before after was is.
      (let lt = slice_get_within old k before was in
      goes.below k before after (omega (arith, lt, le)) was is);
}

-- ---- what it leads to

all_have_left : (columns : List Column)
    → ((k : ℕ) (column : Column) → slice_get columns k ≡ Some column → column.has_left ≡ true)
    → have_left columns ≡ true
all_have_left [] each = refl
all_have_left (c ∷ columns) each =
    rw (each 0 c refl) (all_have_left columns (λ k column got. each (suc k) column got))

pub left_all : (old new : List Column) → EachGoes HasNoMore old new → have_left new ≡ true
left_all old new goes = all_have_left new (λ k column got. at old k column got goes.many (goes.each k))
  where
    at : (old : List Column) (k : ℕ) (column : Column) → slice_get new k ≡ Some column
        → length new ≡ length old
        → ((before after : Column) → slice_get old k ≡ Some before → slice_get new k ≡ Some after
        → HasNoMore before after)
        → column.has_left ≡ true
    at old k column got many goes =
        let lt = slice_get_within new k column got in
        let there = slice_get-get_or old k column (omega (arith, lt, many)) in
        ap (λ (c : Column). c.has_left) (goes (get_or old k column) column there got)

-- a line more lets no sink come back
pub left_passed : (old new : List Column) → EachGoes HasPassedLine old new → have_left old ≡ true
    → have_left new ≡ true
left_passed old new goes left = all_have_left new (λ k column got. at k column got)
  where
    at : (k : ℕ) (column : Column) → slice_get new k ≡ Some column → column.has_left ≡ true
    at k column got =
        let lt = slice_get_within new k column got in
        let there = slice_get-get_or old k column (omega (arith, lt, goes.many)) in
        (goes.each k (get_or old k column) column there got).same.has_left
        ∙ all_left old k (get_or old k column) left there

-- how many lines it is at most until all its values stand in lines
abbrev pub weight : Column → ℕ
weight column = column.late + length column.values.items

abbrev pub weights : List Column → ℕ
weights [] = 0
weights (column ∷ columns) = weight column + weights columns

dropped : (values : List ℤ) → length (drop 1 values) ≡ length values - 1
dropped [] = refl
dropped (v ∷ values) = omega arith

less : (old new : Column) → HasPassedLine old new
    → (weight new ≤ weight old) × (has_value old ≡ true → weight new < weight old)
less old new passed = by (nat_lt 0 old.late) refl
  where
    by : (b : Bool) → nat_lt 0 old.late ≡ b
        → (weight new ≤ weight old) × (has_value old ≡ true → weight new < weight old)
    by true e =
        let lt = ltb-true 0 old.late e in
        let late = passed.late in
        let values : length new.values.items ≡ length old.values.items =
        ap length (passed.values ∙ ap (λ b. cond b old.values.items (drop 1 old.values.items)) e) in
        (omega (arith, lt, late, values), λ has. omega (arith, lt, late, values))
    by false e =
        let le = ltb-false 0 old.late e in
        let late = passed.late in
        let values : length new.values.items ≡ length old.values.items - 1 =
        ap length (passed.values ∙ ap (λ b. cond b old.values.items (drop 1 old.values.items)) e)
        ∙ dropped old.values.items in (
          omega (arith, le, late, values),
          λ has. (let some = ltb-true 0 (length old.values.items) has in
              omega (arith, le, late, values, some)),
        )

at_most : (old new : List Column) → length new ≡ length old
    → ((k : ℕ) (before after : Column) → slice_get old k ≡ Some before
    → slice_get new k ≡ Some after → HasPassedLine before after)
    → weights new ≤ weights old
at_most [] [] many each = omega arith
at_most [] (d ∷ new) many each = absurd (omega (arith, many))
at_most (c ∷ old) [] many each = absurd (omega (arith, many))
at_most (c ∷ old) (d ∷ new) many each =
    let first = (less c d (each 0 c d refl refl)).0 in
    let rest = at_most old new (omega (arith, many)) (λ k. each (suc k)) in
    omega (arith, first, rest)

-- where a value of one waited, it is fewer lines
fewer_at : (old new : List Column) → length new ≡ length old
    → ((k : ℕ) (before after : Column) → slice_get old k ≡ Some before
    → slice_get new k ≡ Some after → HasPassedLine before after)
    → list_any has_value old ≡ true → weights new < weights old
fewer_at [] new many each some = absurd (cc)
fewer_at (c ∷ old) [] many each some = absurd (omega (arith, many))
fewer_at (c ∷ old) (d ∷ new) many each some =
    by (has_value c) refl (fewer_at old new (omega (arith, many)) (λ k. each (suc k)))
  where
    by : (b : Bool) → has_value c ≡ b
        → (list_any has_value old ≡ true → weights new < weights old)
        → weights (d ∷ new) < weights (c ∷ old)
    by true e rec =
        let first = (less c d (each 0 c d refl refl)).1 e in
        let rest = at_most old new (omega (arith, many)) (λ k. each (suc k)) in
        omega (arith, first, rest)
    by false e rec =
        let first = (less c d (each 0 c d refl refl)).0 in
        let rest = rec (rw e at some) in
        omega (arith, first, rest)

pub fewer_lines : (old new : List Column) → EachGoes HasPassedLine old new
    → list_any has_value old ≡ true → weights new < weights old
fewer_lines old new goes some = fewer_at old new goes.many goes.each some
