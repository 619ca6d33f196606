-- How many workers a word names, by the number that `parse` reads from it.
use Rattle.std.proofs.Common.{◌≡◌, ◌≤◌, ◌<◌, ◌^◌, ℕ, Bool, true, false, List, Bor, Option, Some, None, option_map, codes, refl, sym, subst, ap, ◌∙◌, arith}
use Rattle.std.specs.Str.Parse.{IsNumeral, digits_value, without_leading_plus}
use Rattle.clap.specs.ValueTests.{is_unsigned_in}
use Rattle.clap.specs.Words.{Text, first_of, matches_of}
use Rattle.clap.specs.declared.builder.value_parser.ValueParser.TheVariants as vp
use Rattle.clap.proofs.ValueTestLemmas.{Accepts-accepts, accepts-Accepts}
use Rattle.phase_words.specs.RunLine.{AsksRun, Run, run_app, run_in, workers_named, workers_of}

-- `parse` reads the word as a number
abbrev pub Reads : Text → Type 0
Reads word = IsNumeral 10 (without_leading_plus word)
    × (digits_value 10 (without_leading_plus word) < 2 ^ 64)

-- a word that reads as a number from 1 to 16 names that
named-read : (word : Text) (n : ℕ) → Reads word → n ≡ digits_value 10 (without_leading_plus word)
    → 1 ≤ n → n ≤ 16 → workers_named word ≡ n
named-read word n reads value least most =
    let is : is_unsigned_in 1 16 word ≡ true =
    Accepts-accepts false (vp.Unsigned 1 16) word
    (reads.0, reads.1, omega (arith, value, least), omega (arith, value, most)) in
    rw is (sym value)

-- a word that reads as no number names 4
named-unread : (word : Text) → (Reads word → ⊥) → workers_named word ≡ 4
named-unread word unread = by (is_unsigned_in 1 16 word) refl
  where
    by : (b : Bool) → is_unsigned_in 1 16 word ≡ b → workers_named word ≡ 4
    by true is =
        let taken = accepts-Accepts false (vp.Unsigned 1 16) word is in
        absurd (unread (taken.0, taken.1))
    by false is = rw is refl

pub workers-read : (given : Option (Bor Text)) (word : Bor Text) (n : ℕ) → given ≡ Some word → Reads word.now
    → n ≡ digits_value 10 (without_leading_plus word.now) → 1 ≤ n → n ≤ 16
    → n ≡ workers_of (option_map (λ s. s.now) given)
workers-read given word n is reads value least most =
    sym (ap (λ (o : Option (Bor Text)). workers_of (option_map (λ s. s.now) o)) is
    ∙ named-read word.now n reads value least most)

pub workers-unread : (given : Option (Bor Text)) (word : Bor Text) → given ≡ Some word
    → (Reads word.now → ⊥) → 4 ≡ workers_of (option_map (λ s. s.now) given)
workers-unread given word is unread =
    sym (ap (λ (o : Option (Bor Text)). workers_of (option_map (λ s. s.now) o)) is
    ∙ named-unread word.now unread)

-- from 1 to 16 workers
abbrev pub IsWithin : ℕ → Type 0
IsWithin workers = (1 ≤ workers) × (workers ≤ 16)

named-within : (word : Text) → IsWithin (workers_named word)
named-within word = by (is_unsigned_in 1 16 word) refl
  where
    by : (b : Bool) → is_unsigned_in 1 16 word ≡ b → IsWithin (workers_named word)
    by true is =
        let taken = accepts-Accepts false (vp.Unsigned 1 16) word is in
        rw is (taken.2, taken.3)
    by false is = rw is (omega arith, omega arith)

of-within : (given : Option Text) → IsWithin (workers_of given)
of-within None = (omega arith, omega arith)
of-within (Some word) = named-within word

-- what words ask for is a run by so many
pub run-within : (words : List Text) (what : Run) → AsksRun words what → IsWithin what.workers
unfolding run_in
run-within words what asks =
    subst (λ (what : Run). IsWithin what.workers) asks.run
    (of-within (first_of (codes "workers") (matches_of run_app words)))
