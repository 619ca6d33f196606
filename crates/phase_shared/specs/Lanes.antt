-- The words beside a phaser's lock: a board for the value of the last phase that was told; lanes of
-- two words, in each of which one task posts what it asks for; and whose each lane is.
use Rattle.std.specs.Prelude.{◌≡◌, ◌≢◌, ℕ, ℤ, pos, negsuc, ◌+◌, ◌*◌, ◌/◌, ◌%◌, ◌==◌, List, [], ◌∷◌, slice_index, if◌then◌else◌}
use Rattle.phase_accum.specs.declared.outcome.Outcome.{Outcome}
use Rattle.phase_accum.specs.declared.outcome.Outcome.TheVariants.{Value, Empty, TooBig}

-- how many words there are, and how many lanes
abbrev pub words_most : ℕ
words_most = 287

abbrev pub lanes_most : ℕ
lanes_most = 16

-- a number as a word: those that are not negative are the even words
abbrev pub word_for : ℤ → ℕ
word_for (pos n) = n * 2
word_for (negsuc n) = n * 2 + 1

-- the number of a word
abbrev pub number_of : ℕ → ℤ
number_of n = if n % 2 == 0 then pos (n / 2) else negsuc (n / 2)

-- the word that says that nothing is sent. It is that of the one number which cannot be sent
abbrev pub no_send : ℕ
no_send = 18446744073709551615

-- the sends that a word says
abbrev pub sends_of : ℕ → List ℤ
sends_of n = if n == no_send then [] else number_of n ∷ []

-- the outcome that two words say: a number, and what kind of outcome it is
abbrev pub outcome_of : ℕ → ℕ → Outcome
outcome_of number kind =
    if kind == 0 then Value (number_of number) else if kind == 1 then Empty else TooBig

-- the board: the first two words
abbrev pub board : List ℕ → Outcome
board words = outcome_of (slice_index words 0) (slice_index words 1)

-- where a lane is: the phase that is asked for, and one more; and what is sent in it
abbrev pub phase_place : ℕ → ℕ
phase_place lane = lane * 16 + 15

abbrev pub send_place : ℕ → ℕ
send_place lane = lane * 16 + 16

abbrev pub posted : List ℕ → ℕ → ℕ
posted words lane = slice_index words (phase_place lane)

abbrev pub send_word : List ℕ → ℕ → ℕ
send_word words lane = slice_index words (send_place lane)

-- where it is said whose a lane is: its task's number and one more, and 0 where it is nobody's
abbrev pub owner_place : ℕ → ℕ
owner_place lane = lane + 271

abbrev pub owner_word : List ℕ → ℕ → ℕ
owner_word words lane = slice_index words (owner_place lane)

-- what a word says of an outcome: its kind, and its number where it has one
pub record KindIs (kind : ℕ) (outcome : Outcome) : Type 0 where
  pub value : kind ≡ 0 → (v : ℤ) × (outcome ≡ Value v)
  pub empty : kind ≡ 1 → outcome ≡ Empty
  pub big : kind ≢ 0 → kind ≢ 1 → outcome ≡ TooBig

abbrev pub NumberIs : ℕ → Outcome → Type 0
NumberIs number outcome = (v : ℤ) → outcome ≡ Value v → v ≡ number_of number

-- the outcome with another number, where it has one
abbrev pub with_number : ℕ → Outcome → Outcome
with_number number (Value v) = Value (number_of number)
with_number number Empty = Empty
with_number number TooBig = TooBig
