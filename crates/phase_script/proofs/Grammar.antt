-- The lines and their commands: what is read is a spelling, and each spelling is read.
use Rattle.std.proofs.Common.{◌≡◌, ◌≢◌, ℕ, suc, ◌<◌, ◌≤◌, Bool, true, false, T, ◌==◌, if◌then◌else◌, List, [], ◌∷◌, ◌++◌, length, get_or, codes, decimal, bytes_eq, ◌*◌, nat_abs, ℤ, IfSome, map, Option, Some, None, option_and_then, refl, sym, ◌∙◌, ap, subst, arith}
use Rattle.std.specs.Prelude.{int_le}
use Rattle.std.specs.List.{All}
use Rattle.std.proofs.lemmas.List.Elements.{All-nil, All-cons, All-head, All-tail}
use Rattle.std.proofs.lemmas.Bool.{eqb-true, ne_eqb, and_parts, leb-true, le-leb}
use Rattle.std.proofs.lemmas.Option.{cond_some, option_and_then_some, same_Some}
use Rattle.std.proofs.lemmas.Slice.Eq.{bytes_eq-Decides}
use Rattle.std.proofs.lemmas.List.{length-append, append-nil}
use Rattle.std.specs.Fmt.{signed_decimal}
use Rattle.phase_script.proofs.Digits.{nat_found, nat_only, int_found, int_only, decimal_has_no_space, signed_has_no_space, decimal_short, signed_short}
use Rattle.phase_base.specs.OperationWords.{operation_word, operation_of}
use Rattle.phase_base.proofs.OperationWords.{operation-read}
use Rattle.phase_script.specs.Numbers.{most, nat_of, int_of}
use Rattle.phase_script.specs.Words.{word, rest, words_of, longer_by}
use Rattle.phase_base.specs.declared.mode.Mode.{Mode}
use Rattle.phase_base.specs.declared.mode.Mode.TheVariants as mode
use Rattle.phase_accum.specs.Ranges.{IsRange}
use Rattle.phase_accum.specs.Singles.{CanBeNamed}
use Rattle.phase_accum.specs.declared.single.Single.{Single}
use Rattle.phase_accum.specs.declared.single.Single.TheVariants.{Neg, Abs, Halve, Clamp}
use Rattle.phase_script.specs.Commands.{IsCommand, IsBlock, spelling, values_text, mode_text, single_text, maybe_single_text, mode_of, clamp_of, ends_of, clamp_after, single_of, make_of, add_of, now_of, send_of, signal_of, signal_with, ints_of, few_values, values_of, block_of, take_with, take_of, wait_of, drop_of, command_after, command_of, WholeCommand, whole_command, maybe_whole, Make, Add, Now, Send, Signal, Block, Wait, Take, Drop}
use Rattle.phase_base.specs.declared.operation.Op.{Op}
use Rattle.phase_base.specs.declared.operation.Op.TheVariants.{Sum, Product, Least, Greatest, Any}
use Rattle.phase_script.specs.declared.command.Command.{Command}

-- words

rest_step : (t : Bool) (b : ℕ) (bs more : List ℕ) → (b == 32) ≡ t
    → (rest bs ≡ Some more → bs ≡ word bs ++ 32 ∷ more)
    → (if t then Some bs else rest bs) ≡ Some more
    → b ∷ bs ≡ (if t then [] else b ∷ word bs) ++ 32 ∷ more
rest_step true b bs more test ih e =
    let first : b ≡ 32 = eqb-true b 32 test in
    let is : bs ≡ more = same_Some bs more e in
    rw (first, is) refl
rest_step false b bs more test ih e = ap (λ w. b ∷ w) (ih e)

rest_found : (text more : List ℕ) → rest text ≡ Some more → text ≡ word text ++ 32 ∷ more
rest_found [] more e = cc
rest_found (b ∷ bs) more e = rest_step (b == 32) b bs more refl (rest_found bs more) e

-- a text without a space is one word
word_alone : (text : List ℕ) → rest text ≡ None → word text ≡ text
word_alone [] e = refl
word_alone (b ∷ bs) e = elim (b == 32) as (λ t. ((b == 32) ≡ t) → (if t then Some bs else rest bs) ≡ None → (if t then [] else b ∷ word bs) ≡ b ∷ bs) [
  | true ↦ λ t f. absurd (cc)
  | false ↦ λ t f. ap (λ w. b ∷ w) (word_alone bs f)
] refl e

module _ (more : List ℕ) where
  word_prefix : (w : List ℕ) → ((i : ℕ) → i < length w → get_or w i 0 ≢ 32)
      → word (w ++ 32 ∷ more) ≡ w
  word_prefix [] free = refl
  word_prefix (b ∷ bs) free =
      rw (
        ne_eqb b 32 (free 0 (omega arith)),
        word_prefix bs (λ i l. free (suc i) (omega arith)),
      ) refl

  rest_prefix : (w : List ℕ) → ((i : ℕ) → i < length w → get_or w i 0 ≢ 32)
      → rest (w ++ 32 ∷ more) ≡ Some more
  rest_prefix [] free = refl
  rest_prefix (b ∷ bs) free =
      rw (
        ne_eqb b 32 (free 0 (omega arith)),
        rest_prefix bs (λ i l. free (suc i) (omega arith)),
      ) refl

-- a word with no space stands alone
word_free : (w : List ℕ) → ((i : ℕ) → i < length w → get_or w i 0 ≢ 32) → word w ≡ w
word_free [] free = refl
word_free (b ∷ bs) free =
    rw (ne_eqb b 32 (free 0 (omega arith)), word_free bs (λ i l. free (suc i) (omega arith))) refl

rest_free : (w : List ℕ) → ((i : ℕ) → i < length w → get_or w i 0 ≢ 32) → rest w ≡ None
rest_free [] free = refl
rest_free (b ∷ bs) free =
    rw (ne_eqb b 32 (free 0 (omega arith)), rest_free bs (λ i l. free (suc i) (omega arith))) refl

-- the words of a text: its first, and those of the text behind the space

abbrev pub words_behind : Option (List ℕ) → List (List ℕ)
words_behind None = []
words_behind (Some text) = words_of text

pub words_at : (text : List ℕ) → words_of text ≡ word text ∷ words_behind (rest text)
words_at [] = refl
words_at (b ∷ bs) = elim (b == 32) as (λ t.
    (if t then [] ∷ words_of bs else longer_by b (words_of bs))
    ≡ (if t then [] else b ∷ word bs) ∷ words_behind (if t then Some bs else rest bs)) [
      | true ↦ refl
      | false ↦ ap (longer_by b) (words_at bs)
    ]

-- a line that is read is the spelling of a command

abbrev Spells : List ℕ → WholeCommand → Type 0
Spells line c = IsCommand c × (line ≡ spelling c)

chosen : {A P : Type 0} (verb name : List ℕ) (o p : Option A) (x : A)
    → (if bytes_eq verb name then o else p) ≡ Some x → (verb ≡ name → o ≡ Some x → P)
    → (p ≡ Some x → P) → P
chosen {A} {P} verb name o p x = at (bytes_eq verb name) (bytes_eq-Decides verb name).0
  where
    at : (t : Bool) → (t ≡ true → verb ≡ name) → (if t then o else p) ≡ Some x
        → (verb ≡ name → o ≡ Some x → P) → (p ≡ Some x → P) → P
    at true same e here there = here (same refl) e
    at false same e here there = there e

mode_found : (name : List ℕ) (m : Mode) → mode_of name ≡ Some m → name ≡ mode_text m
unfolding mode_of
mode_found name m e =
    let P : Mode → Type 0 = λ o. name ≡ mode_text o in
    chosen name (codes "sig") _ _ m e (λ same is. subst P (same_Some mode.Sig m is) same) (λ e1.
    chosen name (codes "wait") _ _ m e1 (λ same is. subst P (same_Some mode.Wait m is) same) (λ e2.
    chosen name (codes "sigwait") _ _ m e2 (λ same is. subst P (same_Some mode.SigWait m is) same) (λ e3.
    chosen name (codes "single") (Some mode.Single) None m e3 (λ same is. subst P (same_Some mode.Single m is) same)
    (λ other. absurd (cc)))))

-- a text that is read as a single is its words, and the single can be named

abbrev SpellsSingle : List ℕ → Single → Type 0
SpellsSingle text single = CanBeNamed (Some single) × (text ≡ single_text single)

t_true : (b : Bool) → T b → b ≡ true
t_true true t = refl
t_true false t = absurd t

clamp_is : (low high : ℤ) (single : Single) → nat_abs low ≤ most → nat_abs high ≤ most
    → clamp_of low high ≡ Some single
    → IsRange (low, high) × (Clamp (low, high) ≡ single)
clamp_is low high single small few e = elim (int_le low high) as (λ t. (int_le low high ≡ t)
    → (if t then Some (Clamp (low, high)) else None) ≡ Some single
    → IsRange (low, high) × (Clamp (low, high) ≡ single)) [
      | true ↦ λ t f. (record { ordered = record { le = subst T (sym t) tt }; low_small = small; high_small = few }, same_Some _ single f)
      | false ↦ λ t f. absurd (cc)
    ] refl e

ends_found : (text : List ℕ) (single : Single) → ends_of text ≡ Some single
    → SpellsSingle (codes "clamp" ++ 32 ∷ text) single
unfolding ends_of
ends_found text single e =
    option_and_then_some _ (int_of (word text)) single e (λ low is_low e1.
    option_and_then_some _ (rest text) single e1 (λ last is_last e2.
    option_and_then_some _ (int_of last) single e2 (λ high is_high e3.
    let first = int_found (word text) low is_low in
    let second = int_found last high is_high in
    let text_is = rest_found text last is_last in
    let made = clamp_is low high single first.1 second.1 e3 in
    let P : Single → Type 0 = SpellsSingle (codes "clamp" ++ 32 ∷ text) in
    subst P made.1 (
      made.0,
      ap (λ t. codes "clamp" ++ 32 ∷ t)
          (text_is ∙ ap (λ w. w ++ 32 ∷ last) first.0
          ∙ ap (λ t. signed_decimal low ++ 32 ∷ t) second.0),
    ))))

clamp_found : (name text : List ℕ) (single : Single) → clamp_after name text ≡ Some single
    → SpellsSingle (name ++ 32 ∷ text) single
unfolding clamp_after
clamp_found name text single e =
    chosen name (codes "clamp") (ends_of text) None single e (λ same is.
    let found = ends_found text single is in
    (found.0, ap (λ v. v ++ 32 ∷ text) same ∙ found.1))
    (λ other. absurd (cc))

single_found : (text : List ℕ) (single : Single) → single_of text ≡ Some single
    → SpellsSingle text single
unfolding single_of
single_found text single e =
    let P : Single → Type 0 = SpellsSingle text in
    chosen text (codes "neg") _ _ single e (λ same is. subst P (same_Some Neg single is) (tt, same)) (λ e1.
    chosen text (codes "abs") _ _ single e1 (λ same is. subst P (same_Some Abs single is) (tt, same)) (λ e2.
    chosen text (codes "halve") _ _ single e2 (λ same is. subst P (same_Some Halve single is) (tt, same)) (λ e3.
    option_and_then_some _ (rest text) single e3 (λ more is_more e4.
    let found = clamp_found (word text) more single e4 in
    (found.0, rest_found text more is_more ∙ found.1)))))

make_found : (text : List ℕ) (c : WholeCommand) → make_of text ≡ Some c
    → Spells (codes "make" ++ 32 ∷ text) c
unfolding make_of spelling
make_found text c e =
    option_and_then_some _ (operation_of (word text)) c e (λ operation is_operation e1.
    option_and_then_some _ (rest text) c e1 (λ numbers is_numbers e2.
    option_and_then_some _ (nat_of (word numbers)) c e2 (λ bound is_bound e3.
    option_and_then_some _ (rest numbers) c e3 (λ last is_last e4.
    option_and_then_some _ (nat_of last) c e4 (λ phases is_phases e5.
    let first = operation-read (word text) operation is_operation in
    let second = nat_found (word numbers) bound is_bound in
    let third = nat_found last phases is_phases in
    let text_is = rest_found text numbers is_numbers in
    let numbers_is = rest_found numbers last is_last in
    let P : WholeCommand → Type 0 = Spells (codes "make" ++ 32 ∷ text) in
    subst P (same_Some _ c e5) (
      (second.1, third.1),
      ap (λ t. codes "make" ++ 32 ∷ t)
          (text_is ∙ ap (λ w. w ++ 32 ∷ numbers) first
          ∙ ap (λ t. operation_word operation ++ 32 ∷ t)
          (numbers_is ∙ ap (λ w. w ++ 32 ∷ last) second.0
          ∙ ap (λ t. decimal bound ++ 32 ∷ t) third.0)),
    ))))))

add_found : (text : List ℕ) (c : WholeCommand) → add_of text ≡ Some c
    → Spells (codes "add" ++ 32 ∷ text) c
unfolding add_of spelling
add_found text c e =
    option_and_then_some _ (nat_of (word text)) c e (λ parent is_parent e1.
    option_and_then_some _ (rest text) c e1 (λ words is_words e2.
    option_and_then_some _ (nat_of (word words)) c e2 (λ child is_child e3.
    option_and_then_some _ (rest words) c e3 (λ last is_last e4.
    option_and_then_some _ (mode_of last) c e4 (λ m is_mode e5.
    let first = nat_found (word text) parent is_parent in
    let second = nat_found (word words) child is_child in
    let third = mode_found last m is_mode in
    let text_is = rest_found text words is_words in
    let words_are = rest_found words last is_last in
    let P : WholeCommand → Type 0 = Spells (codes "add" ++ 32 ∷ text) in
    subst P (same_Some _ c e5) (
      (first.1, second.1),
      ap (λ t. codes "add" ++ 32 ∷ t)
          (text_is ∙ ap (λ w. w ++ 32 ∷ words) first.0
          ∙ ap (λ t. decimal parent ++ 32 ∷ t)
          (words_are ∙ ap (λ w. w ++ 32 ∷ last) second.0
          ∙ ap (λ t. decimal child ++ 32 ∷ t) third)),
    ))))))

now_found : (text : List ℕ) (c : WholeCommand) → now_of text ≡ Some c
    → Spells (codes "now" ++ 32 ∷ text) c
unfolding now_of spelling
now_found text c e =
    option_and_then_some _ (nat_of (word text)) c e (λ parent is_parent e1.
    option_and_then_some _ (rest text) c e1 (λ last is_last e2.
    option_and_then_some _ (nat_of last) c e2 (λ child is_child e3.
    let first = nat_found (word text) parent is_parent in
    let second = nat_found last child is_child in
    let text_is = rest_found text last is_last in
    let P : WholeCommand → Type 0 = Spells (codes "now" ++ 32 ∷ text) in
    subst P (same_Some _ c e3) (
      (first.1, second.1),
      ap (λ t. codes "now" ++ 32 ∷ t)
          (text_is ∙ ap (λ w. w ++ 32 ∷ last) first.0
          ∙ ap (λ t. decimal parent ++ 32 ∷ t) second.0),
    ))))

send_found : (text : List ℕ) (c : WholeCommand) → send_of text ≡ Some c
    → Spells (codes "send" ++ 32 ∷ text) c
unfolding send_of spelling
send_found text c e =
    option_and_then_some _ (nat_of (word text)) c e (λ task is_task e1.
    option_and_then_some _ (rest text) c e1 (λ last is_last e2.
    option_and_then_some _ (int_of last) c e2 (λ value is_value e3.
    let first = nat_found (word text) task is_task in
    let second = int_found last value is_value in
    let text_is = rest_found text last is_last in
    let P : WholeCommand → Type 0 = Spells (codes "send" ++ 32 ∷ text) in
    subst P (same_Some _ c e3) (
      (first.1, second.1),
      ap (λ t. codes "send" ++ 32 ∷ t)
          (text_is ∙ ap (λ w. w ++ 32 ∷ last) first.0
          ∙ ap (λ t. decimal task ++ 32 ∷ t) second.0),
    ))))

signal_with_found : (text : List ℕ) (task : ℕ) (o : Option (List ℕ)) (c : WholeCommand)
    → rest text ≡ o → signal_with task o ≡ Some c → word text ≡ decimal task → task ≤ most
    → Spells (codes "signal" ++ 32 ∷ text) c
unfolding signal_with spelling
signal_with_found text task None c alone e first small =
    let P : WholeCommand → Type 0 = Spells (codes "signal" ++ 32 ∷ text) in
    let text_is : text ≡ decimal task ++ [] = sym (word_alone text alone) ∙ first ∙ sym (append-nil (decimal task)) in
    subst P (same_Some _ c e) ((small, tt), ap (λ t. codes "signal" ++ 32 ∷ t) text_is)
signal_with_found text task (Some more) c is_more e first small =
    option_and_then_some _ (single_of more) c e (λ single is_single e1.
    let found = single_found more single is_single in
    let text_is : text ≡ decimal task ++ 32 ∷ single_text single =
    rest_found text more is_more ∙ ap (λ w. w ++ 32 ∷ more) first
    ∙ ap (λ t. decimal task ++ 32 ∷ t) found.1 in
    let P : WholeCommand → Type 0 = Spells (codes "signal" ++ 32 ∷ text) in
    subst P (same_Some _ c e1) ((small, found.0), ap (λ t. codes "signal" ++ 32 ∷ t) text_is))

signal_found : (text : List ℕ) (c : WholeCommand) → signal_of text ≡ Some c
    → Spells (codes "signal" ++ 32 ∷ text) c
unfolding signal_of
signal_found text c e =
    option_and_then_some _ (nat_of (word text)) c e (λ task is_task e1.
    let first = nat_found (word text) task is_task in
    signal_with_found text task (rest text) c refl e1 first.0 first.1)

-- a text of words that are read is the values behind a space, less that space
abbrev IsSmall : ℤ → Type 0
IsSmall value = nat_abs value ≤ most

abbrev AreSmall : List ℤ → Type 0
AreSmall = All IsSmall

-- what is left of values of which the first is read
record Begun (first : List ℕ) (more : List (List ℕ)) (values : List ℤ) : Type 0 where
  value : ℤ
  others : List ℤ
  is_value : int_of first ≡ Some value
  are_others : ints_of more ≡ Some others
  values_are : value ∷ others ≡ values

begun : (first : List ℕ) (more : List (List ℕ)) (values : List ℤ) → ints_of (first ∷ more) ≡ Some values → Begun first more values
unfolding ints_of
begun first more values e =
    option_and_then_some _ (int_of first) values e (λ value is_value e1.
    option_and_then_some _ (ints_of more) values e1 (λ others are_others e2.
    record { value = value; others = others; is_value = is_value; are_others = are_others; values_are = same_Some _ values e2 }))

-- the values behind a first one, which are none or begin behind a space
values_behind : (v : ℤ) (vs : List ℤ) (text : List ℕ) (r : Option (List ℕ)) → nat_abs v ≤ most → word text ≡ signed_decimal v
    → rest text ≡ r → ints_of (words_behind r) ≡ Some vs
    → ((more : List ℕ) → ints_of (words_of more) ≡ Some vs → AreSmall vs × (32 ∷ more ≡ values_text vs) × (1 ≤ length vs))
    → AreSmall (v ∷ vs) × (32 ∷ text ≡ values_text (v ∷ vs)) × (1 ≤ length (v ∷ vs))
unfolding ints_of
values_behind v vs text None small first alone e found =
    let none : [] ≡ vs = same_Some [] vs e in
    let P : List ℤ → Type 0 = λ l. AreSmall (v ∷ l) × (32 ∷ text ≡ values_text (v ∷ l)) × (1 ≤ length (v ∷ l)) in
    subst P none (
      All-cons IsSmall v [] small (All-nil IsSmall),
      ap (λ t. 32 ∷ t) (sym (word_alone text alone) ∙ first ∙ sym (append-nil (signed_decimal v))),
      omega arith,
    )
values_behind v vs text (Some more) small first more_is e found =
    let f = found more e in (
      All-cons IsSmall v vs small f.0,
      ap (λ t. 32 ∷ t) (rest_found text more more_is ∙ ap (λ w. w ++ 32 ∷ more) first ∙ ap (λ t. signed_decimal v ++ t) f.1),
      omega arith,
    )

ints_found : (values : List ℤ) (text : List ℕ) → ints_of (words_of text) ≡ Some values
    → AreSmall values × (32 ∷ text ≡ values_text values) × (1 ≤ length values)
ints_found [] text e =
    let b = begun (word text) (words_behind (rest text)) [] (ap ints_of (sym (words_at text)) ∙ e) in
    absurd (let two : b.value ∷ b.others ≡ [] = b.values_are in cc)
ints_found (v ∷ vs) text e =
    let b = begun (word text) (words_behind (rest text)) (v ∷ vs) (ap ints_of (sym (words_at text)) ∙ e) in
    let two : b.value ∷ b.others ≡ v ∷ vs = b.values_are in
    let first : b.value ≡ v = cc in
    let others : b.others ≡ vs = cc in
    let is = int_found (word text) v (b.is_value ∙ ap Some first) in
    values_behind v vs text (rest text) is.1 is.0 refl (b.are_others ∙ ap Some others) (λ more e. ints_found vs more e)

values_found : (values : List ℤ) (text : List ℕ) → values_of text ≡ Some values
    → IsBlock values × (32 ∷ text ≡ values_text values)
unfolding values_of few_values
values_found values text e =
    option_and_then_some few_values (ints_of (words_of text)) values e (λ all are_all e1.
    let tests = cond_some _ _ _ e1 in
    let f = ints_found all text are_all in
    let P : List ℤ → Type 0 = λ vs. IsBlock vs × (32 ∷ text ≡ values_text vs) in
    subst P tests.1 (record { some = f.2; few = leb-true _ _ tests.0; small = f.0 }, f.1))

block_found : (text : List ℕ) (c : WholeCommand) → block_of text ≡ Some c
    → Spells (codes "block" ++ 32 ∷ text) c
unfolding block_of spelling
block_found text c e =
    option_and_then_some _ (nat_of (word text)) c e (λ task is_task e1.
    option_and_then_some _ (rest text) c e1 (λ words is_words e2.
    option_and_then_some _ (values_of words) c e2 (λ values are_values e3.
    let first = nat_found (word text) task is_task in
    let second = values_found values words are_values in
    let text_is = rest_found text words is_words in
    let P : WholeCommand → Type 0 = Spells (codes "block" ++ 32 ∷ text) in
    subst P (same_Some _ c e3) (
      (first.1, second.0),
      ap (λ t. codes "block" ++ 32 ∷ t)
          (text_is ∙ ap (λ w. w ++ 32 ∷ words) first.0
          ∙ ap (λ t. decimal task ++ t) second.1),
    ))))

take_with_found : (task phases : ℕ) (c : WholeCommand) → take_with task phases ≡ Some c
    → (1 ≤ phases) × (phases ≤ 16) × (Take task phases ≡ c)
unfolding take_with
take_with_found task phases c e =
    let tests = cond_some _ _ _ e in
    let within = and_parts _ _ tests.0 in
    (leb-true _ _ within.0, leb-true _ _ within.1, tests.1)

take_found : (text : List ℕ) (c : WholeCommand) → take_of text ≡ Some c
    → Spells (codes "take" ++ 32 ∷ text) c
unfolding take_of spelling
take_found text c e =
    option_and_then_some _ (nat_of (word text)) c e (λ task is_task e1.
    option_and_then_some _ (rest text) c e1 (λ last is_last e2.
    option_and_then_some _ (nat_of last) c e2 (λ phases is_phases e3.
    let first = nat_found (word text) task is_task in
    let second = nat_found last phases is_phases in
    let text_is = rest_found text last is_last in
    let made = take_with_found task phases c e3 in
    let P : WholeCommand → Type 0 = Spells (codes "take" ++ 32 ∷ text) in
    subst P made.2 (
      (first.1, made.0, made.1),
      ap (λ t. codes "take" ++ 32 ∷ t)
          (text_is ∙ ap (λ w. w ++ 32 ∷ last) first.0
          ∙ ap (λ t. decimal task ++ 32 ∷ t) second.0),
    ))))

wait_found : (text : List ℕ) (c : WholeCommand) → wait_of text ≡ Some c
    → Spells (codes "wait" ++ 32 ∷ text) c
unfolding wait_of spelling
wait_found text c e =
    option_and_then_some _ (nat_of text) c e (λ task is_task e1.
    let first = nat_found text task is_task in
    let P : WholeCommand → Type 0 = Spells (codes "wait" ++ 32 ∷ text) in
    subst P (same_Some _ c e1) (first.1, ap (λ t. codes "wait" ++ 32 ∷ t) first.0))

drop_found : (text : List ℕ) (c : WholeCommand) → drop_of text ≡ Some c
    → Spells (codes "drop" ++ 32 ∷ text) c
unfolding drop_of spelling
drop_found text c e =
    option_and_then_some _ (nat_of text) c e (λ task is_task e1.
    let first = nat_found text task is_task in
    let P : WholeCommand → Type 0 = Spells (codes "drop" ++ 32 ∷ text) in
    subst P (same_Some _ c e1) (first.1, ap (λ t. codes "drop" ++ 32 ∷ t) first.0))

after_found : (verb text : List ℕ) (c : WholeCommand) → command_after verb text ≡ Some c
    → Spells (verb ++ 32 ∷ text) c
unfolding command_after
after_found verb text c e =
    let named : (name : List ℕ) → verb ≡ name → Spells (name ++ 32 ∷ text) c
    → Spells (verb ++ 32 ∷ text) c =
    λ name same spells. (spells.0, ap (λ v. v ++ 32 ∷ text) same ∙ spells.1) in
    chosen verb (codes "make") _ _ c e (λ same is. named _ same (make_found text c is)) (λ e1.
    chosen verb (codes "add") _ _ c e1 (λ same is. named _ same (add_found text c is)) (λ e2.
    chosen verb (codes "now") _ _ c e2 (λ same is. named _ same (now_found text c is)) (λ e3.
    chosen verb (codes "send") _ _ c e3 (λ same is. named _ same (send_found text c is)) (λ e4.
    chosen verb (codes "signal") _ _ c e4 (λ same is. named _ same (signal_found text c is)) (λ e5.
    chosen verb (codes "block") _ _ c e5 (λ same is. named _ same (block_found text c is)) (λ e6.
    chosen verb (codes "wait") _ _ c e6 (λ same is. named _ same (wait_found text c is)) (λ e7.
    chosen verb (codes "take") _ _ c e7 (λ same is. named _ same (take_found text c is)) (λ e8.
    chosen verb (codes "drop") _ _ c e8 (λ same is. named _ same (drop_found text c is))
    (λ other. absurd (cc))))))))))

-- a line that is read is the spelling of its command, whose numbers are within their limits
pub command_found : (line : List ℕ) (c : WholeCommand) → command_of line ≡ Some c
    → IsCommand c × (line ≡ spelling c)
unfolding command_of
command_found line c e =
    option_and_then_some _ (rest line) c e (λ text is_text after.
    let found = after_found (word line) text c after in
    (found.0, rest_found line text is_text ∙ found.1))

-- each spelling is read as its command

then_some : {A B : Type 0} (f : A → Option B) (o : Option A) (x : A) (r : Option B)
    → o ≡ Some x → f x ≡ r → option_and_then f o ≡ r
then_some f o x r is e = rw is e

operation_only : (operation : Op) (more : List ℕ)
    → (word (operation_word operation ++ 32 ∷ more) ≡ operation_word operation)
    × (rest (operation_word operation ++ 32 ∷ more) ≡ Some more)
    × (operation_of (operation_word operation) ≡ Some operation)
operation_only Sum more = (refl, refl, refl)
operation_only Product more = (refl, refl, refl)
operation_only Least more = (refl, refl, refl)
operation_only Greatest more = (refl, refl, refl)
operation_only Any more = (refl, refl, refl)

mode_only : (m : Mode) → mode_of (mode_text m) ≡ Some m
unfolding mode_of
mode_only mode.Sig = refl
mode_only mode.Wait = refl
mode_only mode.SigWait = refl
mode_only mode.Single = refl

make_only : (operation : Op) (bound phases : ℕ) → bound ≤ most → phases ≤ most
    → make_of (operation_word operation ++ 32 ∷ (decimal bound ++ 32 ∷ decimal phases))
    ≡ Some (Make operation bound phases)
unfolding make_of
make_only operation bound phases small few =
    let named = operation_only operation (decimal bound ++ 32 ∷ decimal phases) in
    let free = decimal_has_no_space bound small in
    rw (
      named.0,
      named.2,
      named.1,
      word_prefix (decimal phases) (decimal bound) free,
      nat_only bound small,
      rest_prefix (decimal phases) (decimal bound) free,
      nat_only phases few,
    ) refl

add_only : (parent child : ℕ) (m : Mode) → parent ≤ most → child ≤ most
    → add_of (decimal parent ++ 32 ∷ (decimal child ++ 32 ∷ mode_text m)) ≡ Some (Add parent child m)
unfolding add_of
add_only parent child m small few =
    let free = decimal_has_no_space parent small in
    let free_child = decimal_has_no_space child few in
    rw (
      word_prefix (decimal child ++ 32 ∷ mode_text m) (decimal parent) free,
      nat_only parent small,
      rest_prefix (decimal child ++ 32 ∷ mode_text m) (decimal parent) free,
      word_prefix (mode_text m) (decimal child) free_child,
      nat_only child few,
      rest_prefix (mode_text m) (decimal child) free_child,
      mode_only m,
    ) refl

-- the words of a single that can be named are read as it
single_only : (single : Single) → CanBeNamed (Some single)
    → single_of (single_text single) ≡ Some single
unfolding single_of clamp_after ends_of
single_only Neg can = refl
single_only Abs can = refl
single_only Halve can = refl
single_only (Clamp range) can =
    let free = signed_has_no_space range.0 can.low_small in
    let ordered : int_le range.0 range.1 ≡ true = t_true (int_le range.0 range.1) can.ordered.le in
    rw (
      word_prefix (signed_decimal range.1) (signed_decimal range.0) free,
      int_only range.0 can.low_small,
      rest_prefix (signed_decimal range.1) (signed_decimal range.0) free,
      int_only range.1 can.high_small,
      ordered,
    ) refl

signal_only : (task : ℕ) (single : Option Single) → task ≤ most → CanBeNamed single
    → signal_of (decimal task ++ maybe_single_text single) ≡ Some (Signal task single)
unfolding signal_of signal_with
signal_only task None small can =
    let free = decimal_has_no_space task small in
    rw (append-nil (decimal task), word_free (decimal task) free, nat_only task small, rest_free (decimal task) free) refl
signal_only task (Some single) small can =
    let free = decimal_has_no_space task small in
    rw (
      word_prefix (single_text single) (decimal task) free,
      nat_only task small,
      rest_prefix (single_text single) (decimal task) free,
      single_only single can,
    ) refl

now_only : (parent child : ℕ) → parent ≤ most → child ≤ most
    → now_of (decimal parent ++ 32 ∷ decimal child) ≡ Some (Now parent child)
unfolding now_of
now_only parent child small few =
    let free = decimal_has_no_space parent small in
    rw (
      word_prefix (decimal child) (decimal parent) free,
      nat_only parent small,
      rest_prefix (decimal child) (decimal parent) free,
      nat_only child few,
    ) refl

send_only : (task : ℕ) (value : ℤ) → task ≤ most → nat_abs value ≤ most
    → send_of (decimal task ++ 32 ∷ signed_decimal value) ≡ Some (Send task value)
unfolding send_of
send_only task value small few =
    let free = decimal_has_no_space task small in
    rw (
      word_prefix (signed_decimal value) (decimal task) free,
      nat_only task small,
      rest_prefix (signed_decimal value) (decimal task) free,
      int_only value few,
    ) refl

-- the words of values, of which the first stands in front
pub words_of-values : (v : ℤ) (vs : List ℤ) → AreSmall (v ∷ vs)
    → words_of (signed_decimal v ++ values_text vs) ≡ signed_decimal v ∷ map signed_decimal vs
words_of-values v [] small =
    let free = signed_has_no_space v (All-head IsSmall v [] small) in
    ap words_of (append-nil (signed_decimal v)) ∙ words_at (signed_decimal v)
    ∙ rw (word_free (signed_decimal v) free, rest_free (signed_decimal v) free) refl
words_of-values v (u ∷ us) small =
    let free = signed_has_no_space v (All-head IsSmall v (u ∷ us) small) in
    let more = signed_decimal u ++ values_text us in
    words_at (signed_decimal v ++ 32 ∷ more)
    ∙ rw (word_prefix more (signed_decimal v) free, rest_prefix more (signed_decimal v) free)
    (ap (λ words. signed_decimal v ∷ words) (words_of-values u us (All-tail IsSmall v (u ∷ us) small)))

ints_only : (vs : List ℤ) → AreSmall vs → ints_of (map signed_decimal vs) ≡ Some vs
unfolding ints_of
ints_only [] small = refl
ints_only (v ∷ vs) small = rw (int_only v (All-head IsSmall v vs small), ints_only vs (All-tail IsSmall v vs small)) refl

values_only : (v : ℤ) (vs : List ℤ) → IsBlock (v ∷ vs) → values_of (signed_decimal v ++ values_text vs) ≡ Some (v ∷ vs)
unfolding values_of few_values
values_only v vs is = rw (words_of-values v vs is.small, ints_only (v ∷ vs) is.small, le-leb (length (v ∷ vs)) 16 is.few) refl

block_only : (task : ℕ) (values : List ℤ) → task ≤ most → IsBlock values
    → block_of (decimal task ++ values_text values) ≡ Some (Block task values)
unfolding block_of
block_only task [] small is = absurd (let some : 1 ≤ length {A = ℤ} [] = is.some in omega arith)
block_only task (v ∷ vs) small is =
    let free = decimal_has_no_space task small in
    rw (
      word_prefix (signed_decimal v ++ values_text vs) (decimal task) free,
      nat_only task small,
      rest_prefix (signed_decimal v ++ values_text vs) (decimal task) free,
      values_only v vs is,
    ) refl

take_only : (task phases : ℕ) → task ≤ most → 1 ≤ phases → phases ≤ 16
    → take_of (decimal task ++ 32 ∷ decimal phases) ≡ Some (Take task phases)
unfolding take_of take_with
take_only task phases small some few =
    let free = decimal_has_no_space task small in
    rw (
      word_prefix (decimal phases) (decimal task) free,
      nat_only task small,
      rest_prefix (decimal phases) (decimal task) free,
      nat_only phases (omega arith),
      le-leb 1 phases some,
      le-leb phases 16 few,
    ) refl

-- the spelling of a command within its limits is read as the command
pub command_only : (c : WholeCommand) → IsCommand c → command_of (spelling c) ≡ Some c
unfolding command_of command_after wait_of drop_of spelling
command_only (Make operation bound phases) is = make_only operation bound phases is.0 is.1
command_only (Add parent child m) is = add_only parent child m is.0 is.1
command_only (Now parent child) is = now_only parent child is.0 is.1
command_only (Send task value) is = send_only task value is.0 is.1
command_only (Signal task single) is = signal_only task single is.0 is.1
command_only (Block task values) is = block_only task values is.0 is.1
command_only (Take task phases) is = take_only task phases is.0 is.1 is.2
command_only (Wait task) is = rw (nat_only task is) refl
command_only (Drop task) is = rw (nat_only task is) refl

-- the two laws at what a reader answers

pub found_at : (line : List ℕ) (o : Option WholeCommand) → o ≡ command_of line
    → IfSome o (λ c. IsCommand c × (line ≡ spelling c))
found_at line None e = tt
found_at line (Some c) e = command_found line c (sym e)

pub found_whole : (values : List ℤ) (line : List ℕ) (o : Option Command) → maybe_whole values o ≡ command_of line
    → IfSome o (λ c. IsCommand (whole_command values c) × (line ≡ spelling (whole_command values c)))
found_whole values line None e = tt
found_whole values line (Some c) e = found_at line (Some (whole_command values c)) e

pub only_at : (line : List ℕ) (o : Option WholeCommand) → o ≡ command_of line
    → (c : WholeCommand) → IsCommand c → line ≡ spelling c → o ≡ Some c
only_at line o e c is same = e ∙ ap command_of same ∙ command_only c is

-- how long a line can be

operation_short : (operation : Op) → length (operation_word operation) ≤ 8
operation_short Sum = omega arith
operation_short Product = omega arith
operation_short Least = omega arith
operation_short Greatest = omega arith
operation_short Any = omega arith

mode_short : (m : Mode) → length (mode_text m) ≤ 7
mode_short mode.Sig = omega arith
mode_short mode.Wait = omega arith
mode_short mode.SigWait = omega arith
mode_short mode.Single = omega arith

single_short : (single : Option Single) → CanBeNamed single
    → length (maybe_single_text single) ≤ 48
single_short None can = omega arith
single_short (Some Neg) can = omega arith
single_short (Some Abs) can = omega arith
single_short (Some Halve) can = omega arith
single_short (Some (Clamp range)) can =
    simp length-append (omega (
      arith,
      signed_short range.0 can.low_small,
      signed_short range.1 can.high_small,
    ))

values_short : (values : List ℤ) → AreSmall values → length (values_text values) ≤ 21 * length values
values_short [] small = omega arith
values_short (v ∷ vs) small =
    omega (arith, length-append (signed_decimal v) (values_text vs), signed_short v (All-head IsSmall v vs small), values_short vs (All-tail IsSmall v vs small))

pub short_line : (c : WholeCommand) → IsCommand c → length (spelling c) ≤ 361
unfolding spelling
short_line (Make operation bound phases) is =
    simp length-append (omega (
      arith,
      operation_short operation,
      decimal_short bound is.0,
      decimal_short phases is.1,
    ))
short_line (Send task value) is =
    simp length-append (omega (arith, decimal_short task is.0, signed_short value is.1))
short_line (Add parent child m) is =
    simp length-append (omega (
      arith,
      decimal_short parent is.0,
      decimal_short child is.1,
      mode_short m,
    ))
short_line (Now parent child) is =
    simp length-append (omega (arith, decimal_short parent is.0, decimal_short child is.1))
short_line (Signal task single) is =
    simp length-append (omega (arith, decimal_short task is.0, single_short single is.1))
short_line (Block task values) is =
    simp length-append (omega (arith, decimal_short task is.0, values_short values is.1.small, is.1.few))
short_line (Take task phases) is =
    simp length-append (omega (arith, decimal_short task is.0, decimal_short phases (let p : phases ≤ 16 = is.2 in omega arith)))
short_line (Wait task) is = omega (arith, decimal_short task is)
short_line (Drop task) is = omega (arith, decimal_short task is)

long_at : (line : List ℕ) (o : Option WholeCommand) → command_of line ≡ o → 361 < length line → o ≡ None
long_at line None e long = refl
long_at line (Some c) e long =
    let found = command_found line c e in
    absurd (omega (arith, ap (λ l. length l) found.1, short_line c found.0))

-- no line of the grammar has more than 361 bytes
pub long_none : (line : List ℕ) → 361 < length line → command_of line ≡ None
long_none line long = long_at line (command_of line) refl long
