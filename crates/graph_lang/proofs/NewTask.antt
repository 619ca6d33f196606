-- The line of a task that has no fault is a line of the graph.
use Rattle.std.proofs.Common.{ℕ, pos, suc, ◌≡◌, ◌<◌, ◌≤◌, ◌==◌, ◌&&◌, ◌||◌, not, List, [], ◌∷◌, ◌++◌, length, map, get_or, ◌+◌, Bool, true, false, Option, Some, None, is_some, option_map, IfSome, IsSome, IsTrue, nat_lt, nat_le, unsigned_abs, refl, sym, ap, ◌∙◌, arith, bytes_eq, ne_eqb, eqb-true, ltb-true, leb-true, All, Contains, inl, inr, ◌⊎◌}
use Rattle.std.specs.List.{list_all, list_any}
use Rattle.std.specs.Option.{option_map_or}
use Rattle.std.proofs.lemmas.Bool.{or_parts, or_from, or_cases, not-true, not-false, and_parts}
use Rattle.std.proofs.lemmas.List.{length-map, length-append, map-append}
use Rattle.std.proofs.lemmas.List.Elements.{All-append, All-cons, All-nil, All-weaker, All-map}
use Rattle.std.proofs.lemmas.List.Sums.{AllPass-from_list_all}
use Rattle.std.proofs.lemmas.List.Folds.{list_all-append}
use Rattle.std.proofs.lemmas.Slice.Eq.{bytes_eq-Decides}
use Rattle.phase_base.specs.Words.{Word}
use Rattle.phase_base.specs.declared.limits.TheConstants.{BOUND_MAX}
use Rattle.phase_base.specs.Numbers.{is_nat, nat_value, int_value}
use Rattle.graph_text.specs.Decls.{task, BodyWords, FilterWords, source, fir, delay, decimate, split, join, peer, sink, ByWords, EndWords, IsFilter, IsBody, IsBy, AreEnds, MayHaveBy, may_have_parent, may_join_now, may_have_blocks}
use Rattle.graph_text.specs.declared.version.Version.{Version}
use Rattle.graph_text.specs.declared.version.Version.TheVariants.{One, Two, Three}
use Rattle.stream_filters.specs.declared.fir.TheConstants.{AGAIN_MAX, DELAY_MAX, FEW_TAPS_MAX, PLUS_MAX, SHIFT_MAX, TAP_MAX, TAPS_MAX}
use Rattle.stream_filters.specs.Filter.{AreTaps}
use Rattle.graph_base.specs.Graphs.{Graph, Task, Named, IsPlace, task_at, phaser_at}
use Rattle.graph_base.specs.Names.{place_of, phaser_number, task_number, phaser_named, task_named}
use Rattle.graph_lang.specs.WordValues.{or_zero, phaser_numbers, parent_of, task_line, kind_of_body, inputs_of, outputs_of, taps_of, plus_of, age_of, form_in, filter_form, factor_of, every_of, block_of, joins_now}
use Rattle.graph_lang.specs.Faults.{kind_of, is_body_within, are_ends_within, is_count_within, is_tap_within, is_plus_within, is_function_within, most_taps, is_form_within, is_filter_within, phasers_of, are_distinct, is_phaser, is_parent_known, is_in_order, is_exchange_below, may_be_parent, is_number_in, holds_for, is_plain, is_held, is_bound_within, is_within_bound, is_block_within}
use Rattle.graph_base.specs.TaskLines.{IsGraph, IsTaskLine, IsParent, AreNames, HasEnds, HasTaps, HasFactor, HasEvery, IsExchangeBelow, has_children, has_blocks, AreAmong}
use Rattle.phase_base.specs.Lists.{is_distinct}
use Rattle.graph_base.specs.declared.limits.TheConstants.{TASKS_MAX, ENDS_MAX, STEPS_MAX, FACTOR_MAX, EVERY_MAX}
use Rattle.graph_base.specs.declared.line.Kind.{Kind}
use Rattle.graph_base.specs.declared.line.Kind.TheVariants as kind
use Rattle.graph_lang.specs.declared.fault.FaultKind.TheVariants.{Limit, Twice, Unknown, OutBeforeIn, BadParent, NotHeld, OverBound}
use Rattle.graph_base.specs.declared.place.Place.{Place}
use Rattle.graph_base.specs.declared.place.Place.TheVariants as place
use Rattle.graph_lang.proofs.Sound.{row-passed, nothing-there}
use Rattle.graph_lang.proofs.NamesKept.{place_of-All}
use Rattle.graph_lang.proofs.Grown.{weaken_some}

-- ---- a line without fault

-- what each row of the table says where none of them applies
pub record IsSound (version : Version) (before : Graph) (name : Word) (body : BodyWords) (ends : EndWords)
    : Type 0 where
  pub within : is_body_within version body ≡ true
  pub at : option_map_or (λ by. is_count_within by.at) ends.by true ≡ true
  pub until : option_map_or is_count_within ends.until true ≡ true
  pub block : option_map_or is_bound_within ends.block true ≡ true
  pub few : length before.tasks < TASKS_MAX
  pub absent : place_of before.names name ≡ None
  pub distinct : are_distinct (phasers_of body) ≡ true
  pub phasers : list_all (is_phaser before.names) (phasers_of body) ≡ true
  pub known : is_parent_known before.names ends.by ≡ true
  pub order : list_all (λ x. list_all (nat_lt x) (phaser_numbers before.names (outputs_of body)))
      (phaser_numbers before.names (inputs_of body)) ≡ true
  pub exchange : is_exchange_below (kind_of_body body) (phaser_numbers before.names (inputs_of body))
      ≡ true
  pub may : may_be_parent before (option_map (parent_of before.names) ends.by) ≡ true
  pub plain : list_all (is_plain before) (phaser_numbers before.names (outputs_of body)) ≡ true
  pub holds : holds_for before (task_line before.names 0 body ends)
      (option_map (parent_of before.names) ends.by) ≡ true
  pub waits : list_all (is_within_bound before (block_of ends.block))
      (phaser_numbers before.names (inputs_of body)) ≡ true
  pub signals : list_all (is_within_bound before (block_of ends.block))
      (phaser_numbers before.names (outputs_of body)) ≡ true

pub task-sound : (version : Version) (before : Graph) (name : Word) (body : BodyWords) (ends : EndWords)
    → kind_of version before (task name body ends) ≡ None → IsSound version before name body ends
task-sound version before name body ends e =
    let names = before.names in
    let line = task_line names 0 body ends in
    let limit = row-passed
    (not (is_body_within version body && are_ends_within ends && nat_lt (length before.tasks) TASKS_MAX))
    Limit _ e in
    let twice = row-passed (is_some (place_of names name) || not (are_distinct (phasers_of body)))
    Twice _ limit.1 in
    let unknown = row-passed
    (not (list_all (is_phaser names) (phasers_of body) && is_parent_known names ends.by))
    Unknown _ twice.1 in
    let order = row-passed (not (is_in_order line)) OutBeforeIn _ unknown.1 in
    let bad = row-passed (not (may_be_parent before line.parent)) BadParent _ order.1 in
    let held = row-passed (not (is_held before line)) NotHeld _ bad.1 in
    let over = row-passed (not (is_block_within before line)) OverBound _ held.1 in
    let room = and_parts (is_body_within version body && are_ends_within ends)
    (nat_lt (length before.tasks) TASKS_MAX) (not-false _ limit.0) in
    let numbers = and_parts (is_body_within version body) (are_ends_within ends) room.0 in
    let counted = and_parts (option_map_or (λ by. is_count_within by.at) ends.by true
    && option_map_or is_count_within ends.until true)
    (option_map_or is_bound_within ends.block true) numbers.1 in
    let steps = and_parts (option_map_or (λ by. is_count_within by.at) ends.by true)
    (option_map_or is_count_within ends.until true) counted.0 in
    let new = or_parts (is_some (place_of names name)) (not (are_distinct (phasers_of body)))
    twice.0 in
    let known = and_parts (list_all (is_phaser names) (phasers_of body)) (is_parent_known names ends.by)
    (not-false _ unknown.0) in
    let ordered = and_parts (list_all (λ x. list_all (nat_lt x) line.outputs) line.inputs)
    (is_exchange_below line.kind line.inputs) (not-false _ order.0) in
    let holds = and_parts (list_all (is_plain before) line.outputs) (holds_for before line line.parent)
    (not-false _ held.0) in
    let wide = and_parts (list_all (is_within_bound before line.block) line.inputs)
    (list_all (is_within_bound before line.block) line.outputs) (not-false _ over.0) in
    record {
      within = numbers.0;
      at = steps.0;
      until = steps.1;
      block = counted.1;
      few = ltb-true (length before.tasks) TASKS_MAX room.1;
      absent = nothing-there (place_of names name) new.0;
      distinct = not-false _ new.1;
      phasers = known.0;
      known = known.1;
      order = ordered.0;
      exchange = ordered.1;
      may = not-false _ bad.0;
      plain = holds.0;
      holds = holds.1;
      waits = wide.0;
      signals = wide.1;
    }

-- ---- tests of each item

pub each-passed : {A : Type 0} (test : A → Bool) (Q : A → Type 0) → ((x : A) → test x ≡ true → Q x)
    → (xs : List A) → list_all test xs ≡ true → All Q xs
each-passed test Q f xs e =
    All-weaker (λ x. test x ≡ true) Q f xs (AllPass-from_list_all test xs e)

contains-found : (qs : List ℕ) (p : ℕ) → list_any (λ q. q == p) qs ≡ true → Contains qs p
contains-found [] p e = let clash : false ≡ true = e in absurd (cc)
contains-found (q ∷ qs) p e =
    by (contains-found qs p) (or_cases (q == p) (list_any (λ q. q == p) qs) e)
  where
    by : (list_any (λ q. q == p) qs ≡ true → Contains qs p)
        → ((q == p) ≡ true) ⊎ (list_any (λ q. q == p) qs ≡ true) → Contains (q ∷ qs) p
    by rest (inl here) = (0, omega arith, eqb-true q p here)
    by rest (inr later) =
        let found = rest later in
        let below = found.1 in
        (suc found.0, omega (arith, below), found.2)

all-among : (ps qs : List ℕ) → list_all (is_number_in qs) ps ≡ true → AreAmong ps qs
all-among ps qs e = each-passed (is_number_in qs) (Contains qs) (contains-found qs) ps e

-- ---- phasers

-- the number of a phaser's name
abbrev number_in : List Named → Word → ℕ
number_in names word = or_zero (phaser_named names word)

phaser-found : (o : Option Place) → is_some (phaser_number o) ≡ true
    → o ≡ Some (place.Phaser (or_zero (phaser_number o)))
phaser-found None e = let clash : false ≡ true = e in absurd (cc)
phaser-found (Some (place.Phaser p)) e = refl
phaser-found (Some (place.Task t)) e = let clash : false ≡ true = e in absurd (cc)

task-found : (o : Option Place) → is_some (task_number o) ≡ true
    → o ≡ Some (place.Task (or_zero (task_number o)))
task-found None e = let clash : false ≡ true = e in absurd (cc)
task-found (Some (place.Phaser p)) e = let clash : false ≡ true = e in absurd (cc)
task-found (Some (place.Task t)) e = refl

phaser-below : (before : Graph) → AreNames before → (word : Word)
    → is_phaser before.names word ≡ true → number_in before.names word < length before.phasers
phaser-below before are word is =
    place_of-All (IsPlace before) before.names word (place.Phaser (number_in before.names word))
    are.places (phaser-found (place_of before.names word) is)

task-below : (before : Graph) → AreNames before → (word : Word)
    → is_some (task_named before.names word) ≡ true
    → or_zero (task_named before.names word) < length before.tasks
task-below before are word is =
    place_of-All (IsPlace before) before.names word
    (place.Task (or_zero (task_named before.names word)))
    are.places (task-found (place_of before.names word) is)

-- two names of one phaser are one name
same-phaser : (before : Graph) → AreNames before → (word other : Word)
    → is_phaser before.names word ≡ true → is_phaser before.names other ≡ true
    → number_in before.names other ≡ number_in before.names word → word ≡ other
same-phaser before are word other is also same =
    let there = rw same at (phaser-found (place_of before.names other) also) in
    sym (are.found word (place.Phaser (number_in before.names word))
    (phaser-found (place_of before.names word) is))
    ∙ are.found other (place.Phaser (number_in before.names word)) there

number-new : (before : Graph) → AreNames before → (word : Word) (words : List Word)
    → is_phaser before.names word ≡ true → list_all (is_phaser before.names) words ≡ true
    → list_any (bytes_eq word) words ≡ false
    → list_any (λ q. q == number_in before.names word) (phaser_numbers before.names words) ≡ false
number-new before are word [] is all none = refl
number-new before are word (other ∷ words) is all none =
    let first = and_parts (is_phaser before.names other) (list_all (is_phaser before.names) words) all in
    let apart = or_parts (bytes_eq word other) (list_any (bytes_eq word) words) none in
    let differ : number_in before.names other ≡ number_in before.names word → ⊥ = λ same.
    let one : bytes_eq word other ≡ true =
    (bytes_eq-Decides word other).1 (same-phaser before are word other is first.0 same) in
    let clash : false ≡ true = sym apart.0 ∙ one in absurd (cc) in
    or_from (number_in before.names other == number_in before.names word)
    (list_any (λ q. q == number_in before.names word) (phaser_numbers before.names words))
    (ne_eqb (number_in before.names other) (number_in before.names word) differ)
    (number-new before are word words is first.1 apart.1)

numbers-distinct : (before : Graph) → AreNames before → (words : List Word)
    → list_all (is_phaser before.names) words ≡ true → are_distinct words ≡ true
    → is_distinct (phaser_numbers before.names words) ≡ true
numbers-distinct before are [] all distinct = refl
numbers-distinct before are (word ∷ words) all distinct =
    let first = and_parts (is_phaser before.names word) (list_all (is_phaser before.names) words) all in
    let apart = and_parts (not (list_any (bytes_eq word) words)) (are_distinct words) distinct in
    let new = number-new before are word words first.0 first.1 (not-true _ apart.0) in
    rw new (numbers-distinct before are words first.1 apart.1)

numbers-below : (before : Graph) → AreNames before → (words : List Word)
    → list_all (is_phaser before.names) words ≡ true
    → All (λ p. p < length before.phasers) (phaser_numbers before.names words)
numbers-below before are words all =
    All-map (λ p. p < length before.phasers) (number_in before.names) words
    (each-passed (is_phaser before.names)
    (λ word. number_in before.names word < length before.phasers) (phaser-below before are) words all)

-- ---- what a kind has

count-ends : (version : Version) (names : List Named) (body : BodyWords)
    → is_body_within version body ≡ true
    → HasEnds (kind_of_body body) (length (phaser_numbers names (inputs_of body)))
    (length (phaser_numbers names (outputs_of body)))
count-ends version names (source file output) e = (refl, refl)
count-ends version names (fir input output filter) e = (refl, refl)
count-ends version names (delay input output steps) e = (refl, refl)
count-ends version names (decimate input output every) e = (refl, refl)
count-ends version names (split input outputs) e =
    let within = and_parts (nat_le 2 (length outputs)) (nat_le (length outputs) ENDS_MAX) e in
    let same = length-map outputs (number_in names) in (
      refl,
      rw same (leb-true 2 (length outputs) within.0),
      rw same (leb-true (length outputs) ENDS_MAX within.1),
    )
count-ends version names (join inputs output) e =
    let within = and_parts (nat_le 2 (length inputs)) (nat_le (length inputs) ENDS_MAX) e in
    let same = length-map inputs (number_in names) in (
      rw same (leb-true 2 (length inputs) within.0),
      rw same (leb-true (length inputs) ENDS_MAX within.1),
      refl,
    )
count-ends version names (peer input exchange output factor) e = (refl, refl)
count-ends version names (sink input) e = (refl, refl)

exchange-below : (k : Kind) (inputs : List ℕ) → is_exchange_below k inputs ≡ true
    → IsExchangeBelow k inputs
exchange-below kind.Source inputs e = tt
exchange-below kind.Fir inputs e = tt
exchange-below kind.Split inputs e = tt
exchange-below kind.Decimate inputs e = tt
exchange-below kind.Join inputs e = tt
exchange-below kind.Peer inputs e = ltb-true (get_or inputs 0 0) (get_or inputs 1 0) e
exchange-below kind.Sink inputs e = tt

-- no version has more taps than the third
few-taps : (version : Version) (n : ℕ) → nat_le n (most_taps version) ≡ true → n ≤ TAPS_MAX
few-taps One n e = let few = leb-true n FEW_TAPS_MAX e in omega (arith, few)
few-taps Two n e = let few = leb-true n FEW_TAPS_MAX e in omega (arith, few)
few-taps Three n e = leb-true n TAPS_MAX e

-- taps that are within their limit
small-taps : (words : List Word) → list_all is_tap_within words ≡ true
    → All (λ tap. unsigned_abs tap ≤ TAP_MAX) (map int_value words)
small-taps words e =
    All-map (λ tap. unsigned_abs tap ≤ TAP_MAX) int_value words
    (each-passed is_tap_within (λ tap. unsigned_abs (int_value tap) ≤ TAP_MAX)
    (λ tap. leb-true (unsigned_abs (int_value tap)) TAP_MAX) words e)

filter-taps : (version : Version) (filter : FilterWords) → IsFilter Three filter
    → is_filter_within version filter ≡ true
    → AreTaps (map int_value (filter.taps ++ filter.again)) (form_in filter)
filter-taps version filter is e =
    let few = nat_le (length filter.taps) (most_taps version) in
    let small = list_all is_tap_within filter.taps in
    let each = and_parts (is_form_within filter && few && small) (list_all is_tap_within filter.again)
    e in
    let ahead = and_parts (is_form_within filter && few) small each.0 in
    let count = and_parts (is_form_within filter) few ahead.0 in
    let single = option_map_or is_function_within filter.single true in
    let shift = nat_le (nat_value filter.shift) SHIFT_MAX in
    let plus = is_plus_within filter.plus in
    let age = nat_le (age_of filter.delay) DELAY_MAX in
    let puts = nat_le (length filter.again) AGAIN_MAX in
    let named = and_parts (shift && plus && age && puts) single count.0 in
    let again = and_parts (shift && plus && age) puts named.0 in
    let old = and_parts (shift && plus) age again.0 in
    let sums = and_parts shift plus old.0 in
    let long : length (map int_value (filter.taps ++ filter.again))
    ≡ length filter.taps + length filter.again =
    length-map (filter.taps ++ filter.again) int_value ∙ length-append filter.taps filter.again in
    let some = is.taps.0 in
    let below = few-taps version (length filter.taps) count.1 in
    record {
      some = omega (arith, long, some);
      few = omega (arith, long, below);
      again_few = leb-true (length filter.again) AGAIN_MAX again.1;
      small = rw (map-append int_value filter.taps filter.again)
          (All-append (λ tap. unsigned_abs tap ≤ TAP_MAX) (map int_value filter.taps)
          (map int_value filter.again) (small-taps filter.taps ahead.1) (small-taps filter.again each.1));
      shift_small = leb-true (nat_value filter.shift) SHIFT_MAX sums.0;
      plus_small = leb-true (unsigned_abs (plus_of filter.plus)) PLUS_MAX sums.1;
      delay_small = leb-true (age_of filter.delay) DELAY_MAX old.1;
    }

has-taps : (version : Version) (body : BodyWords) → IsBody Three body
    → is_body_within version body ≡ true
    → HasTaps (kind_of_body body) (taps_of body) (filter_form body)
has-taps version (source file output) is e = (refl, refl)
has-taps version (fir input output filter) is e = filter-taps version filter is.2 e
has-taps version (delay input output steps) is e = record {
  some = omega arith;
  few = omega arith;
  again_few = omega arith;
  small = one-small;
  shift_small = omega arith;
  plus_small = omega arith;
  delay_small = leb-true (nat_value steps) DELAY_MAX e;
}
  where
    one-small : All (λ tap. unsigned_abs tap ≤ 2147483647) (pos 1 ∷ [])
    one-small = All-cons (λ tap. unsigned_abs tap ≤ 2147483647) (pos 1) [] (omega arith)
        (All-nil (λ tap. unsigned_abs tap ≤ 2147483647))
has-taps version (decimate input output every) is e = (refl, refl)
has-taps version (split input outputs) is e = (refl, refl)
has-taps version (join inputs output) is e = (refl, refl)
has-taps version (peer input exchange output factor) is e = (refl, refl)
has-taps version (sink input) is e = (refl, refl)

has-factor : (version : Version) (body : BodyWords) → is_body_within version body ≡ true
    → HasFactor (kind_of_body body) (factor_of body)
has-factor version (source file output) e = refl
has-factor version (fir input output filter) e = refl
has-factor version (delay input output steps) e = refl
has-factor version (decimate input output every) e = refl
has-factor version (split input outputs) e = refl
has-factor version (join inputs output) e = refl
has-factor version (peer input exchange output factor) e =
    leb-true (unsigned_abs (int_value factor)) FACTOR_MAX e
has-factor version (sink input) e = refl

has-every : (version : Version) (body : BodyWords) → is_body_within version body ≡ true
    → HasEvery (kind_of_body body) (every_of body)
has-every version (source file output) e = refl
has-every version (fir input output filter) e = refl
has-every version (delay input output steps) e = refl
has-every version (decimate input output every) e =
    let within = and_parts (nat_le 1 (nat_value every)) (nat_le (nat_value every) EVERY_MAX) e in
    (leb-true 1 (nat_value every) within.0, leb-true (nat_value every) EVERY_MAX within.1)
has-every version (split input outputs) e = refl
has-every version (join inputs output) e = refl
has-every version (peer input exchange output factor) e = refl
has-every version (sink input) e = refl

has-until : (until : Option Word) → option_map_or is_count_within until true ≡ true
    → IfSome (option_map nat_value until) (λ steps. steps ≤ STEPS_MAX)
has-until None e = tt
has-until (Some steps) e = leb-true (nat_value steps) STEPS_MAX e

-- ---- the parent

parents-are : (body : BodyWords) → may_have_parent body ≡ has_children (kind_of_body body)
parents-are (source file output) = refl
parents-are (fir input output filter) = refl
parents-are (delay input output steps) = refl
parents-are (decimate input output every) = refl
parents-are (split input outputs) = refl
parents-are (join inputs output) = refl
parents-are (peer input exchange output factor) = refl
parents-are (sink input) = refl

-- a line that names a parent may
child-allowed : (version : Version) (body : BodyWords) (ends : EndWords) → AreEnds version body ends
    → IfSome ends.by (λ _. has_children (kind_of_body body) ≡ true)
child-allowed version body ends are =
    weaken_some ends.by (λ by. IsBy by × MayHaveBy version body by)
    (λ _. has_children (kind_of_body body) ≡ true) (λ by is. sym (parents-are body) ∙ is.1.0) are.by

new-parent : (before : Graph) → AreNames before → (child : Task) (by : Option ByWords)
    → is_parent_known before.names by ≡ true
    → option_map_or (λ by. is_count_within by.at) by true ≡ true
    → may_be_parent before (option_map (parent_of before.names) by) ≡ true
    → holds_for before child (option_map (parent_of before.names) by) ≡ true
    → IfSome by (λ _. has_children child.kind ≡ true)
    → IfSome (option_map (parent_of before.names) by) (IsParent before (length before.tasks) child)
new-parent before are child None known at may holds allowed = tt
new-parent before are child (Some by) known at may holds allowed =
    let above = task_at before (or_zero (task_named before.names by.parent)) in
    let held = and_parts (list_all (is_number_in above.inputs) child.inputs)
    (list_all (is_number_in above.outputs) child.outputs) holds in
    let may_be = and_parts (has_children above.kind) (not above.joins_now) may in
    record {
      above = task-below before are by.parent known;
      steps = leb-true (nat_value by.at) STEPS_MAX at;
      kind = may_be.0;
      child_kind = allowed;
      stays = not-true above.joins_now may_be.1;
      waits = all-among child.inputs above.inputs held.0;
      signals = all-among child.outputs above.outputs held.1;
    }

-- ---- the block

blocks-are : (version : Version) (body : BodyWords) → may_have_blocks version body ≡ true
    → has_blocks (kind_of_body body) ≡ true
blocks-are version (source file output) may = refl
blocks-are version (fir input output filter) may = refl
blocks-are version (delay input output steps) may = refl
blocks-are version (decimate input output every) may = let clash : false ≡ true = may in absurd (cc)
blocks-are version (split input outputs) may = let clash : false ≡ true = may in absurd (cc)
blocks-are version (join inputs output) may = let clash : false ≡ true = may in absurd (cc)
blocks-are version (peer input exchange output factor) may =
    let clash : false ≡ true = may in absurd (cc)
blocks-are version (sink input) may = refl

-- a block has a step
block-some : (block : Option Word) → option_map_or is_bound_within block true ≡ true
    → 1 ≤ block_of block
block-some None e = omega arith
block-some (Some steps) e =
    leb-true 1 (nat_value steps)
    (and_parts (nat_le 1 (nat_value steps)) (nat_le (nat_value steps) BOUND_MAX) e).0

-- a task of another kind has none of several steps
block-kind : (version : Version) (body : BodyWords) (block : Option Word)
    → IfSome block (λ steps. IsTrue (is_nat steps) × IsTrue (may_have_blocks version body))
    → has_blocks (kind_of_body body) ≡ false → block_of block ≡ 1
block-kind version body None is none = refl
block-kind version body (Some steps) is none =
    let clash : false ≡ true = sym none ∙ blocks-are version body is.1 in absurd (cc)

-- ---- now

joins-are : (version : Version) (body : BodyWords) → may_join_now version body ≡ true
    → kind_of_body body ≡ kind.Sink
joins-are version (source file output) may = let clash : false ≡ true = may in absurd (cc)
joins-are version (fir input output filter) may =
    let clash : false ≡ true = may in absurd (cc)
joins-are version (delay input output steps) may = let clash : false ≡ true = may in absurd (cc)
joins-are version (decimate input output every) may = let clash : false ≡ true = may in absurd (cc)
joins-are version (split input outputs) may = let clash : false ≡ true = may in absurd (cc)
joins-are version (join inputs output) may = let clash : false ≡ true = may in absurd (cc)
joins-are version (peer input exchange output factor) may =
    let clash : false ≡ true = may in absurd (cc)
joins-are version (sink input) may = refl

-- a task that joins now is a sink, and has a parent
may-join : (names : List Named) (version : Version) (body : BodyWords) (by : Option ByWords)
    → IfSome by (λ by. IsBy by × MayHaveBy version body by) → joins_now by ≡ true
    → (kind_of_body body ≡ kind.Sink) × IsSome (option_map (parent_of names) by)
may-join names version body None is now = let clash : false ≡ true = now in absurd (cc)
may-join names version body (Some by) is now = (joins-are version body (is.1.1 now), refl)

-- ---- the line

-- the number of the line is in no test
numbered : (before : Graph) (n : ℕ) (body : BodyWords) (ends : EndWords)
    → IfSome (option_map (parent_of before.names) ends.by)
    (IsParent before (length before.tasks) (task_line before.names 0 body ends))
    → IfSome (option_map (parent_of before.names) ends.by)
    (IsParent before (length before.tasks) (task_line before.names n body ends))
numbered before n body ends =
    weaken_some (option_map (parent_of before.names) ends.by)
    (IsParent before (length before.tasks) (task_line before.names 0 body ends))
    (IsParent before (length before.tasks) (task_line before.names n body ends))
    (λ parent is. record {
      above = is.above;
      steps = is.steps;
      kind = is.kind;
      child_kind = is.child_kind;
      stays = is.stays;
      waits = is.waits;
      signals = is.signals;
    })

pub IsTaskLine-new : (version read : Version) (before : Graph) (n : ℕ) (name : Word)
    (body : BodyWords) (ends : EndWords) → IsGraph before → IsBody Three body → AreEnds version body ends
    → IsSound read before name body ends
    → IsTaskLine before (length before.tasks) (task_line before.names n body ends)
IsTaskLine-new version read before n name body ends is is_body are_ends sound =
    let names = before.names in
    let are : AreNames before = is.names in
    let steps = block_of ends.block in
    let Wide : ℕ → Type 0 = λ p. steps ≤ (phaser_at before p).bound in
    let wide : (p : ℕ) → is_within_bound before steps p ≡ true → Wide p =
    λ p. leb-true steps (phaser_at before p).bound in
    let known = and_parts (list_all (is_phaser names) (inputs_of body))
    (list_all (is_phaser names) (outputs_of body))
    (sym (list_all-append (is_phaser names) (inputs_of body) (outputs_of body)) ∙ sound.phasers) in
    let together : phaser_numbers names (phasers_of body)
    ≡ phaser_numbers names (inputs_of body) ++ phaser_numbers names (outputs_of body) =
    map-append (number_in names) (inputs_of body) (outputs_of body) in
    record {
      ends = count-ends read names body sound.within;
      inputs = numbers-below before are (inputs_of body) known.0;
      outputs = numbers-below before are (outputs_of body) known.1;
      distinct = ap is_distinct (sym together)
          ∙ numbers-distinct before are (phasers_of body) sound.phasers sound.distinct;
      in_order = each-passed (λ x. list_all (nat_lt x) (phaser_numbers names (outputs_of body)))
          (λ x. All (λ y. x < y) (phaser_numbers names (outputs_of body)))
          (λ x. each-passed (nat_lt x) (λ y. x < y) (ltb-true x) (phaser_numbers names (outputs_of body)))
          (phaser_numbers names (inputs_of body)) sound.order;
      exchange = exchange-below (kind_of_body body) (phaser_numbers names (inputs_of body)) sound.exchange;
      plain = each-passed (is_plain before) (λ y. (phaser_at before y).single ≡ None)
          (λ y e. nothing-there (phaser_at before y).single (not-true _ e))
          (phaser_numbers names (outputs_of body)) sound.plain;
      taps = has-taps read body is_body sound.within;
      factor = has-factor read body sound.within;
      every = has-every read body sound.within;
      until = has-until ends.until sound.until;
      parent = numbered before n body ends
          (new-parent before are (task_line names 0 body ends) ends.by sound.known sound.at sound.may
          sound.holds (child-allowed version body ends are_ends));
      block = record {
        some = block-some ends.block sound.block;
        kind = block-kind version body ends.block are_ends.block;
        inputs = each-passed (is_within_bound before steps) Wide wide
            (phaser_numbers names (inputs_of body)) sound.waits;
        outputs = each-passed (is_within_bound before steps) Wide wide
            (phaser_numbers names (outputs_of body)) sound.signals;
      };
      now = may-join names version body ends.by are_ends.by;
    }
