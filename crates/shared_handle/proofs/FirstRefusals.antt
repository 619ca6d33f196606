-- Which refusal of what a signal names comes first.
use Rattle.std.proofs.Common.{◌≡◌, ◌<◌, ◌≤◌, ℕ, ℤ, List, inl, inr, length, refl, sym, subst, w32, to_z, of_z, arith}
use Rattle.phase_base.specs.declared.limits.TheConstants.{SENDS_MAX}
use Rattle.phase_accum.specs.Sends.{AreSends}
use Rattle.handle_numbers.specs.declared.numbers.TheConstants.{BAD_SINGLE, BAD_VALUE, TOO_MANY_SENDS}
use Rattle.shared_handle.specs.Told.{NamesNone, NamesOne, IsBadBlock, IsBadSignal}

module _ (values : List ℤ) (kind : ℕ) (low high status : ℤ) where
  pub no_single : NamesNone kind low high → IsBadSignal values kind low high status
      → BAD_SINGLE ≡ status
  no_single none (inl bad) = sym bad.0
  no_single none (inr (inl bad)) = absurd (none bad.1.0 bad.1.1)
  no_single none (inr (inr bad)) = absurd (none bad.1.0 bad.1.1)

  pub too_many : NamesOne kind low high → SENDS_MAX < length values
      → IsBadSignal values kind low high status → TOO_MANY_SENDS ≡ status
  too_many one many (inl bad) = absurd (bad.1 one.0 one.1)
  too_many one many (inr (inl bad)) = sym bad.0
  too_many one many (inr (inr bad)) =
      let few : length values ≤ SENDS_MAX = bad.2 in absurd (omega (arith, many, few))

  pub no_sends : NamesOne kind low high → length values ≤ SENDS_MAX → (AreSends values → ⊥)
      → IsBadSignal values kind low high status → BAD_VALUE ≡ status
  no_sends one few none (inl bad) = absurd (bad.1 one.0 one.1)
  no_sends one few none (inr (inl bad)) =
      let many : SENDS_MAX < length values = bad.2 in absurd (omega (arith, many, few))
  no_sends one few none (inr (inr bad)) = sym bad.0

  pub all_good : NamesOne kind low high → length values ≤ SENDS_MAX → AreSends values
      → IsBadSignal values kind low high status → ⊥
  all_good one few are (inl bad) = bad.1 one.0 one.1
  all_good one few are (inr (inl bad)) =
      let many : SENDS_MAX < length values = bad.2 in omega (arith, many, few)
  all_good one few are (inr (inr bad)) = bad.3 are

  pub no_single_in_block : NamesNone kind low high → IsBadBlock values kind low high status
      → BAD_SINGLE ≡ status
  no_single_in_block none (inl bad) = sym bad.0
  no_single_in_block none (inr bad) = absurd (none bad.1.0 bad.1.1)

  pub no_sends_in_block : NamesOne kind low high → (AreSends values → ⊥)
      → IsBadBlock values kind low high status → BAD_VALUE ≡ status
  no_sends_in_block one none (inl bad) = absurd (bad.1 one.0 one.1)
  no_sends_in_block one none (inr bad) = sym bad.0

  pub all_good_in_block : NamesOne kind low high → AreSends values
      → IsBadBlock values kind low high status → ⊥
  all_good_in_block one are (inl bad) = bad.1 one.0 one.1
  all_good_in_block one are (inr bad) = bad.2 are

  -- the status is a number of 32 bits
  pub signal_word_fits : IsBadSignal values kind low high status
      → to_z w32 (of_z w32 status) ≡ status
  signal_word_fits (inl bad) = subst (λ s. to_z w32 (of_z w32 s) ≡ s) (sym bad.0) refl
  signal_word_fits (inr (inl bad)) = subst (λ s. to_z w32 (of_z w32 s) ≡ s) (sym bad.0) refl
  signal_word_fits (inr (inr bad)) = subst (λ s. to_z w32 (of_z w32 s) ≡ s) (sym bad.0) refl

  pub block_word_fits : IsBadBlock values kind low high status
      → to_z w32 (of_z w32 status) ≡ status
  block_word_fits (inl bad) = subst (λ s. to_z w32 (of_z w32 s) ≡ s) (sym bad.0) refl
  block_word_fits (inr bad) = subst (λ s. to_z w32 (of_z w32 s) ≡ s) (sym bad.0) refl
