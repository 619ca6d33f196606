-- Worked filters, computed in the definitions.
use Rattle.std.proofs.Common.{◌≡◌, [], ◌∷◌, pos, negsuc, Some, refl}
use Rattle.phase_accum.specs.declared.single.Single.TheVariants.{Abs, Clamp, Halve, Neg}
use Rattle.stream_filters.specs.Filter.{no_form, outputs}

-- taps 1 and 10 with a delay of 1, over the samples 1, 2, 3: the last value is 2 + 10 * 1
several_delayed_taps : outputs (pos 1 ∷ pos 10 ∷ []) (record no_form { delay = 1 }) (pos 1 ∷ pos 2 ∷ pos 3 ∷ [])
    ≡ pos 0 ∷ pos 1 ∷ pos 12 ∷ []
several_delayed_taps = refl

-- a running sum: the last of two taps weighs what was put
running_sum : outputs (pos 1 ∷ pos 1 ∷ []) (record no_form { again = 1 })
    (pos 1 ∷ pos 2 ∷ pos 3 ∷ pos 4 ∷ []) ≡ pos 1 ∷ pos 3 ∷ pos 6 ∷ pos 10 ∷ []
running_sum = refl

-- a mean that forgets half of what was, rounded down, comes to rest at -1 from below
rests : outputs (pos 1 ∷ pos 1 ∷ []) (record no_form { shift = 1; again = 1 })
    (negsuc 7 ∷ pos 0 ∷ pos 0 ∷ pos 0 ∷ []) ≡ negsuc 3 ∷ negsuc 1 ∷ negsuc 0 ∷ negsuc 0 ∷ []
rests = refl

-- two taps for what was put, 1 for the newest and 2 for the one before: 1, 1 + 1, 2 + 2 * 1, 4 + 2 * 2
second_again : outputs (pos 1 ∷ pos 1 ∷ pos 2 ∷ []) (record no_form { again = 2 })
    (pos 1 ∷ pos 1 ∷ pos 0 ∷ pos 0 ∷ []) ≡ pos 1 ∷ pos 2 ∷ pos 4 ∷ pos 8 ∷ []
second_again = refl

-- what is fed back is what was put: behind the shift and the single. A sum that stays within -5 to 5
saturating_sum : outputs (pos 1 ∷ pos 1 ∷ []) (record no_form { again = 1; single = Some (Clamp (negsuc 4, pos 5)) })
    (pos 4 ∷ pos 4 ∷ negsuc 1 ∷ negsuc 9 ∷ pos 1 ∷ []) ≡ pos 4 ∷ pos 5 ∷ pos 3 ∷ negsuc 4 ∷ negsuc 3 ∷ []
saturating_sum = refl

-- the single comes before the range is looked at: 3 times the greatest value is 32767
clamped_first : outputs (pos 3 ∷ []) (record no_form { single = Some (Clamp (negsuc 32767, pos 32767)) })
    (pos 9223372036854775807 ∷ negsuc 9223372036854775806 ∷ []) ≡ pos 32767 ∷ negsuc 32767 ∷ []
clamped_first = refl

rectified : outputs (pos 1 ∷ []) (record no_form { single = Some Abs }) (pos 3 ∷ negsuc 2 ∷ [])
    ≡ pos 3 ∷ pos 3 ∷ []
rectified = refl

negated : outputs (pos 1 ∷ []) (record no_form { single = Some Neg }) (pos 3 ∷ negsuc 2 ∷ [])
    ≡ negsuc 2 ∷ pos 3 ∷ []
negated = refl

halved : outputs (pos 1 ∷ []) (record no_form { single = Some Halve }) (pos 5 ∷ negsuc 4 ∷ [])
    ≡ pos 2 ∷ negsuc 2 ∷ []
halved = refl

-- what is added is added before the shift: (5 + 2) / 4, (4 + 1 + 2) / 4, (0 + 1 + 2) / 4
adds_before : outputs (pos 1 ∷ pos 1 ∷ []) (record no_form { shift = 2; plus = pos 2; again = 1 })
    (pos 5 ∷ pos 4 ∷ pos 0 ∷ []) ≡ pos 1 ∷ pos 1 ∷ pos 0 ∷ []
adds_before = refl

-- where an output is out of range nothing is put, and 0 is weighed for it
nothing_put : outputs (pos 2 ∷ pos 1 ∷ []) (record no_form { again = 1 })
    (pos 9223372036854775807 ∷ pos 1 ∷ []) ≡ pos 18446744073709551614 ∷ pos 2 ∷ []
nothing_put = refl
