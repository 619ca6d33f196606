-- What is said of the words beside a phaser's lock: the board, and the lanes of other tasks while one is written.
use Rattle.std.proofs.Common.{◌≡◌, ◌≢◌, ℕ, ℤ, ◌+◌, ◌*◌, ◌%◌, ◌<◌, Bool, true, false, cond, eqb, List, length, set, slice_index, refl, sym, ap, subst, ◌∙◌, arith}
use Rattle.std.proofs.lemmas.Bool.{eq-eqb, ne_eqb}
use Rattle.std.proofs.lemmas.List.{get_or-set_same, get_or-set_other}
use Rattle.phase_accum.specs.declared.outcome.Outcome.{Outcome}
use Rattle.phase_accum.specs.declared.outcome.Outcome.TheVariants.{Value, Empty, TooBig}
use Rattle.phase_shared.specs.Lanes.{lanes_most, number_of, outcome_of, board, phase_place, send_place, owner_place, posted, send_word, owner_word, KindIs, NumberIs, with_number}

-- ---- what two words say

pub kind_is : (number kind : ℕ) → KindIs kind (outcome_of number kind)
kind_is number kind = record {
  value = λ z. (number_of number, ap (λ b. cond b (Value (number_of number)) (cond (eqb kind 1) Empty TooBig)) (eq-eqb kind 0 z));
  empty = λ o. ap (λ b. cond b (Value (number_of number)) (cond (eqb kind 1) Empty TooBig)) (ne_eqb kind 0 (λ z. let one = o in omega arith))
      ∙ ap (λ b. cond b Empty TooBig) (eq-eqb kind 1 o);
  big = λ z o. ap (λ b. cond b (Value (number_of number)) (cond (eqb kind 1) Empty TooBig)) (ne_eqb kind 0 z)
      ∙ ap (λ b. cond b Empty TooBig) (ne_eqb kind 1 o);
}

abbrev value_in : ℤ → Outcome → ℤ
value_in d (Value v) = v
value_in d Empty = d
value_in d TooBig = d

abbrev has_value : Outcome → Bool
has_value (Value v) = true
has_value Empty = false
has_value TooBig = false

same_value_in : (v w : ℤ) → Value v ≡ Value w → w ≡ v
same_value_in v w e = sym (ap (λ (o : Outcome). value_in v o) e)

no_value : (o : Outcome) (w : ℤ) → has_value o ≡ false → o ≡ Value w → ⊥
no_value o w none e = let yes' : has_value o ≡ true = ap (λ (x : Outcome). has_value x) e in cc

pub number_is : (number kind : ℕ) → NumberIs number (outcome_of number kind)
number_is number kind v = elim (eqb kind 0) as (λ b. cond b (Value (number_of number)) (cond (eqb kind 1) Empty TooBig) ≡ Value v → v ≡ number_of number) [
  | true ↦ λ e. same_value_in (number_of number) v e
  | false ↦ λ e. absurd (no_value (cond (eqb kind 1) Empty TooBig) v (neither (eqb kind 1)) e)
]
  where
    neither : (b : Bool) → has_value (cond b Empty TooBig) ≡ false
    neither true = refl
    neither false = refl

pub other_number : (number other kind : ℕ) → outcome_of other kind ≡ with_number other (outcome_of number kind)
other_number number other kind = elim (eqb kind 0) as (λ b. cond b (Value (number_of other)) (cond (eqb kind 1) Empty TooBig)
    ≡ with_number other (cond b (Value (number_of number)) (cond (eqb kind 1) Empty TooBig))) [
      | true ↦ refl
      | false ↦ empty_or_big (eqb kind 1)
    ]
  where
    empty_or_big : (b : Bool) → cond b Empty TooBig ≡ with_number other (cond b Empty TooBig)
    empty_or_big true = refl
    empty_or_big false = refl

-- ---- one word is written

-- the words of a lane are the same
pub record SameLane (words after : List ℕ) (i : ℕ) : Type 0 where
  pub same_posted : posted after i ≡ posted words i
  pub same_sent : send_word after i ≡ send_word words i
  pub same_owner : owner_word after i ≡ owner_word words i

-- the board and all other lanes are, and whose this one is
pub record SameElse (t : ℕ) (words after : List ℕ) : Type 0 where
  pub same_board : board after ≡ board words
  pub same_posted : (i : ℕ) → i ≢ t → posted after i ≡ posted words i
  pub same_sent : (i : ℕ) → i ≢ t → send_word after i ≡ send_word words i
  pub same_owner : (i : ℕ) → owner_word after i ≡ owner_word words i

-- all is the same but whose a lane is
pub record SameBut (t : ℕ) (words after : List ℕ) : Type 0 where
  pub same_board : board after ≡ board words
  pub same_posted : (i : ℕ) → i < lanes_most → posted after i ≡ posted words i
  pub same_sent : (i : ℕ) → i < lanes_most → send_word after i ≡ send_word words i
  pub same_owner : (i : ℕ) → i ≢ t → owner_word after i ≡ owner_word words i

pub else : (words : List ℕ) (place n i : ℕ) → i ≢ place → slice_index (set words place n) i ≡ slice_index words i
else words place n i ne = get_or-set_other words place i n 0 ne

same_board_of : (words after : List ℕ) → slice_index after 0 ≡ slice_index words 0 → slice_index after 1 ≡ slice_index words 1 → board after ≡ board words
same_board_of words after e e' = ap (λ (n : ℕ). outcome_of n (slice_index after 1)) e ∙ ap (λ (n : ℕ). outcome_of (slice_index words 0) n) e'

pub send_else : (words : List ℕ) (t n : ℕ) → t < lanes_most → SameElse t words (set words (send_place t) n)
send_else words t n low = record {
  same_board = same_board_of words (set words (send_place t) n) (else words (send_place t) n 0 (λ e. omega arith)) (else words (send_place t) n 1 (λ e. omega arith));
  same_posted = λ i ne. else words (send_place t) n (phase_place i) (λ e. omega arith);
  same_sent = λ i ne. else words (send_place t) n (send_place i) (λ e. ne (omega arith));
  same_owner = λ i. else words (send_place t) n (owner_place i) (λ e. let few : t < 16 = low in omega arith);
}

pub send_posted : (words : List ℕ) (t n i : ℕ) → posted (set words (send_place t) n) i ≡ posted words i
send_posted words t n i = else words (send_place t) n (phase_place i) (λ e. omega arith)

pub phase_else : (words : List ℕ) (t n : ℕ) → t < lanes_most → SameElse t words (set words (phase_place t) n)
phase_else words t n low = record {
  same_board = same_board_of words (set words (phase_place t) n) (else words (phase_place t) n 0 (λ e. omega arith)) (else words (phase_place t) n 1 (λ e. omega arith));
  same_posted = λ i ne. else words (phase_place t) n (phase_place i) (λ e. ne (omega arith));
  same_sent = λ i ne. else words (phase_place t) n (send_place i) (λ e. omega arith);
  same_owner = λ i. else words (phase_place t) n (owner_place i) (λ e. let few : t < 16 = low in omega arith);
}

pub phase_sent : (words : List ℕ) (t n i : ℕ) → send_word (set words (phase_place t) n) i ≡ send_word words i
phase_sent words t n i = else words (phase_place t) n (send_place i) (λ e. omega arith)

pub owner_else : (words : List ℕ) (t n : ℕ) → SameBut t words (set words (owner_place t) n)
owner_else words t n = record {
  same_board = same_board_of words (set words (owner_place t) n) (else words (owner_place t) n 0 (λ e. omega arith)) (else words (owner_place t) n 1 (λ e. omega arith));
  same_posted = λ i low. else words (owner_place t) n (phase_place i) (λ e. let few : i < 16 = low in omega arith);
  same_sent = λ i low. else words (owner_place t) n (send_place i) (λ e. let few : i < 16 = low in omega arith);
  same_owner = λ i ne. else words (owner_place t) n (owner_place i) (λ e. ne (omega arith));
}

-- another lane than the one that was written
pub lane_else : (words after : List ℕ) (t i : ℕ) → SameElse t words after → i ≢ t → SameLane words after i
lane_else words after t i same ne = record { same_posted = same.same_posted i ne; same_sent = same.same_sent i ne; same_owner = same.same_owner i }

pub lane_but : (words after : List ℕ) (t i : ℕ) → SameBut t words after → i < lanes_most → i ≢ t → SameLane words after i
lane_but words after t i same low ne = record { same_posted = same.same_posted i low; same_sent = same.same_sent i low; same_owner = same.same_owner i ne }

-- lanes of two tasks are two, and a free one is nobody's
pub lanes_apart : (words : List ℕ) (i j t task : ℕ) → owner_word words i ≡ t + 1 → owner_word words j ≡ task + 1 → task ≢ t → j ≢ i
lanes_apart words i j t task mine theirs ne same = ne (let is : owner_word words j ≡ owner_word words i = ap (λ (l : ℕ). owner_word words l) same in omega arith)

pub free_apart : (words : List ℕ) (i j task : ℕ) → owner_word words i ≡ 0 → owner_word words j ≡ task + 1 → j ≢ i
free_apart words i j task none theirs same = absurd (let is : owner_word words j ≡ owner_word words i = ap (λ (l : ℕ). owner_word words l) same in omega arith)

-- the word that was written says what was written
pub here : (words : List ℕ) (place n : ℕ) → length words ≡ 287 → place < 287 → slice_index (set words place n) place ≡ n
here words place n long low = get_or-set_same words place n 0 (omega arith)

pub send_here : (words : List ℕ) (t n : ℕ) → length words ≡ 287 → t < lanes_most → send_word (set words (send_place t) n) t ≡ n
send_here words t n long low = here words (send_place t) n long (let few : t < 16 = low in omega arith)

pub phase_here : (words : List ℕ) (t n : ℕ) → length words ≡ 287 → t < lanes_most → posted (set words (phase_place t) n) t ≡ n
phase_here words t n long low = here words (phase_place t) n long (let few : t < 16 = low in omega arith)

pub owner_here : (words : List ℕ) (t n : ℕ) → length words ≡ 287 → t < lanes_most → owner_word (set words (owner_place t) n) t ≡ n
owner_here words t n long low = here words (owner_place t) n long (let few : t < 16 = low in omega arith)

-- ---- the board is written

pub board_number : (words : List ℕ) (n : ℕ) → length words ≡ 287 → board (set words 0 n) ≡ with_number n (board words)
board_number words n long =
    ap (λ (m : ℕ). outcome_of m (slice_index (set words 0 n) 1)) (here words 0 n long (omega arith))
    ∙ ap (λ (m : ℕ). outcome_of n m) (else words 0 n 1 (λ e. omega arith))
    ∙ other_number (slice_index words 0) n (slice_index words 1)

pub board_kind : (words : List ℕ) (n : ℕ) → length words ≡ 287 → KindIs n (board (set words 1 n))
board_kind words n long =
    subst (λ (m : ℕ). KindIs n (outcome_of (slice_index (set words 1 n) 0) m)) (sym (here words 1 n long (omega arith)))
    (kind_is (slice_index (set words 1 n) 0) n)

-- a word of the board is in no lane
pub board_posted : (words : List ℕ) (place n i : ℕ) → place < 2 → posted (set words place n) i ≡ posted words i
board_posted words place n i low = else words place n (phase_place i) (λ e. omega arith)

pub board_sent : (words : List ℕ) (place n i : ℕ) → place < 2 → send_word (set words place n) i ≡ send_word words i
board_sent words place n i low = else words place n (send_place i) (λ e. omega arith)

pub board_owner : (words : List ℕ) (place n i : ℕ) → place < 2 → owner_word (set words place n) i ≡ owner_word words i
board_owner words place n i low = else words place n (owner_place i) (λ e. omega arith)

pub board_lane : (words : List ℕ) (place n i : ℕ) → place < 2 → SameLane words (set words place n) i
board_lane words place n i low =
    record { same_posted = board_posted words place n i low; same_sent = board_sent words place n i low; same_owner = board_owner words place n i low }

-- ---- numbers as words

even_is : (n : ℕ) → eqb ((n * 2) % 2) 0 ≡ true
even_is n = eq-eqb ((n * 2) % 2) 0 (omega arith)

odd_is : (n : ℕ) → eqb ((n * 2 + 1) % 2) 0 ≡ false
odd_is n = ne_eqb ((n * 2 + 1) % 2) 0 (λ e. let o : (n * 2 + 1) % 2 ≡ 1 = omega arith in omega arith)
