-- What the fields of a weigher stand for, and which samples are small enough for 64 bits.
use Rattle.std.specs.Prelude.{◌≡◌, ◌+◌, ◌-◌, ◌*◌, ◌^◌, ◌<◌, ◌≤◌, ◌++◌, unsigned_abs, ℕ, ℤ, pos, List, length, take, reverse, get_or, vec_capacity, Result}
use Rattle.std.specs.List.{All}
use Rattle.stream_filters.specs.Sums.{at_place, back, shifted_down, summed, weight}
use Rattle.stream_filters.specs.Weighing.{AreAhead, ShowsSamples, WeigherState, span, weighed_behind}
use Rattle.stream_filters.specs.Range.{ranged, before_out_of_range}
use Rattle.stream_filters.specs.declared.fault.TooBigValue.{TooBigValue}
use Rattle.stream_filters.specs.declared.form.Form.{Form}
use Rattle.stream_filters.specs.declared.weigher.Weigher.TheInside.{Inside}

-- the last n samples of a line, the newest in front
abbrev pub window_of : ℕ → List ℤ → List ℤ
window_of n line = take n (reverse line)

-- the weigher that the fields of the code hold
abbrev pub weigher_view : Inside → WeigherState
weigher_view f = record {
  taps = f.taps.items;
  form = f.form;
  window = window_of (span f.taps.items f.form) f.line.items;
}

-- the answer that a window gives
abbrev pub answer_at : List ℤ → Form → List ℤ → Result ℤ TooBigValue
answer_at taps form window = ranged (shifted_down (summed (at_place window) taps form) form.shift)

-- taps and samples have 32 bits, and no sum over samples of at most this limit, to which so much is
-- added, leaves 64 bits
pub record IsNarrow (taps : List ℤ) (plus : ℤ) (samples : List ℤ) : Type 0 where
  pub limit : ℕ
  pub short : limit < 2 ^ 31
  pub short_taps : All (λ tap. unsigned_abs tap < 2 ^ 31) taps
  pub small : All (λ x. unsigned_abs x ≤ limit) samples
  pub fits : weight taps * limit + unsigned_abs plus < 2 ^ 63

-- the same of the last of these samples, as many as there are taps
pub record IsNarrowBack (taps : List ℤ) (plus : ℤ) (samples : List ℤ) : Type 0 where
  pub limit : ℕ
  pub short : limit < 2 ^ 31
  pub short_taps : All (λ tap. unsigned_abs tap < 2 ^ 31) taps
  pub small : (j : ℕ) → j < length taps → unsigned_abs (back samples j) ≤ limit
  pub fits : weight taps * limit + unsigned_abs plus < 2 ^ 63

-- what holds of the fields of every weigher
pub record IsWeigher (f : Inside) : Type 0 where
  pub are_ahead : AreAhead f.taps.items f.form
  pub held : span f.taps.items f.form ≤ length f.line.items
  pub room : span f.taps.items f.form + 1024 ≤ vec_capacity f.line
  pub short : f.limit < 2 ^ 31
  pub light : weight f.taps.items * f.limit + unsigned_abs f.form.plus < 2 ^ 63
  pub recent : (j : ℕ) → j + f.wide_steps_left < span f.taps.items f.form
      → unsigned_abs (back f.line.items j) ≤ f.limit

-- the weigher has taken all of these samples, and their numbers, which are in range, were put
-- behind the others
pub record HasWeighed (old new : WeigherState) (samples before after : List ℤ) : Type 0 where
  pub made : (taken : List ℤ) → ShowsSamples old taken
      → after ≡ before ++ before_out_of_range (weighed_behind old.taps old.form taken samples)
  pub all : length after ≡ length before + length samples
  pub shows : (taken : List ℤ) → ShowsSamples old taken → ShowsSamples new (taken ++ samples)
  pub taps : new.taps ≡ old.taps
  pub form : new.form ≡ old.form

-- the samples from number `from` to the one before number `to` are within the limit
abbrev pub AreSmall : ℕ → List ℤ → ℕ → ℕ → Type 0
AreSmall limit samples from to =
    (m : ℕ) → from ≤ m → m < to → unsigned_abs (get_or samples m (pos 0)) ≤ limit

-- the samples in the windows of 16 outputs from number `at` on are small enough for these taps
pub record AreSmallAt (taps : List ℤ) (plus : ℤ) (samples : List ℤ) (at : ℕ) : Type 0 where
  pub limit : ℕ
  pub short : limit < 2 ^ 31
  pub fits : weight taps * limit + unsigned_abs plus < 2 ^ 63
  pub small : AreSmall limit samples (at + 1 - length taps) (at + 16)
