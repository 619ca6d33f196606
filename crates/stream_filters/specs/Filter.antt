-- What a filter answers, as a function of the whole list of its samples.
use Rattle.std.specs.Prelude.{◌≡◌, ℕ, ◌<◌, ◌≤◌, ◌+◌, ◌-◌, List, [], ◌∷◌, ◌++◌, length, map, take, drop, reverse, ℤ, pos, ◌+ℤ◌, unsigned_abs, Option, None, Some, if◌then◌else◌}
use Rattle.std.specs.List.{All}
use Rattle.phase_accum.specs.Values.{single_of}
use Rattle.phase_accum.specs.declared.single.Single.{Single}
pub use Rattle.stream_filters.specs.Sums.{at_place, back, shifted_down, summed, weight, weighted}
use Rattle.stream_filters.specs.Range.{is_out_of_range}
use Rattle.stream_filters.specs.declared.fir.TheConstants.{AGAIN_MAX, DELAY_MAX, FEW_TAPS_MAX, PLUS_MAX, SHIFT_MAX, TAP_MAX, TAPS_MAX}
use Rattle.stream_filters.specs.declared.form.Form.{Form}

-- the form of what only weighs its newest samples
abbrev pub no_form : Form
no_form = record { shift = 0; plus = pos 0; delay = 0; again = 0; single = None }

-- the form of what shifts by so many bits, and does no more
abbrev pub by_shift : ℕ → Form
by_shift shift = record no_form { shift = shift }

-- a filter that looks at samples alone, and applies no single
pub record IsPlainForm (form : Form) : Type 0 where
  pub again_none : form.again ≡ 0
  pub single_none : form.single ≡ None

-- the taps that weigh samples: all but the last ones, as many as the form says
abbrev pub taps_ahead : List ℤ → Form → List ℤ
taps_ahead taps form = take (length taps - form.again) taps

-- those that weigh what the filter put
abbrev pub taps_again : List ℤ → Form → List ℤ
taps_again taps form = drop (length taps - form.again) taps

-- a number with a single applied, where there is one
abbrev pub with_single : Option Single → ℤ → ℤ
with_single None z = z
with_single (Some single) z = single_of single z

-- what a filter puts for an output: the output, and 0 where it is out of range, which none puts
abbrev pub put_of : ℤ → ℤ
put_of z = if is_out_of_range z then pos 0 else z

-- the output of a filter whose samples and whose puts show this, before its range is checked
abbrev pub output_seen : List ℤ → Form → (ℕ → ℤ) → (ℕ → ℤ) → ℤ
output_seen taps form samples puts = with_single form.single (shifted_down
    (summed samples (taps_ahead taps form) form +ℤ weighted puts (taps_again taps form)) form.shift)

-- the output of a filter at the last of these samples, where it has put these values before
abbrev pub output_behind : List ℤ → Form → List ℤ → List ℤ → ℤ
output_behind taps form samples puts = output_seen taps form (back samples) (back puts)

-- the outputs of a filter at each of these samples, behind those that it has taken and the values
-- that it has put
abbrev pub outputs_behind : List ℤ → Form → List ℤ → List ℤ → List ℤ → List ℤ
outputs_behind taps form taken puts [] = []
outputs_behind taps form taken puts (x ∷ xs) =
    output_behind taps form (taken ++ x ∷ []) puts
    ∷ outputs_behind taps form (taken ++ x ∷ [])
    (puts ++ put_of (output_behind taps form (taken ++ x ∷ []) puts) ∷ []) xs

-- the outputs of a filter at each of these samples in turn, before their range is checked
abbrev pub outputs : List ℤ → Form → List ℤ → List ℤ
outputs taps form samples = outputs_behind taps form [] [] samples

-- what a filter puts at each of these samples
abbrev pub puts_of : List ℤ → Form → List ℤ → List ℤ
puts_of taps form samples = map put_of (outputs taps form samples)

-- the output of a filter at the last of these samples, before its range is checked
abbrev pub output_after : List ℤ → Form → List ℤ → ℤ
output_after taps form samples = back (outputs taps form samples) 0

-- the outputs of a filter at each of these samples, behind those that it has taken
abbrev pub outputs_of_block : List ℤ → Form → List ℤ → List ℤ → List ℤ
outputs_of_block taps form taken xs =
    outputs_behind taps form taken (puts_of taps form taken) xs

-- how many of the last samples a filter looks back to
abbrev pub reach : List ℤ → Form → ℕ
reach taps form = form.delay + (length taps - form.again)

-- a filter's taps and form, the samples that its window holds, and the values that it put last, the
-- newest first
pub record FirState : Type 0 where
  pub taps : List ℤ
  pub form : Form
  pub window : List ℤ
  pub puts : List ℤ

-- the output that a filter comes to behind its windows
abbrev pub output_of : FirState → ℤ
output_of fir = output_seen fir.taps fir.form (at_place fir.window) (at_place fir.puts)

-- with the sample x in front of the window, which holds as many samples as the filter looks back to
abbrev pub with_sample : FirState → ℤ → FirState
with_sample fir x = record fir { window = take (reach fir.taps fir.form) (x ∷ fir.window) }

-- with this value in front of what it put, of which it keeps as many as it weighs
abbrev pub with_put : FirState → ℤ → FirState
with_put fir y = record fir { puts = take fir.form.again (y ∷ fir.puts) }

-- a filter that has taken the sample x, and put what it comes to
abbrev pub after_sample : FirState → ℤ → FirState
after_sample fir x = with_put (with_sample fir x) (put_of (output_of (with_sample fir x)))

-- one that stands where another stood whose last samples and last puts these are, the oldest first
abbrev pub resumed : FirState → List ℤ → List ℤ → FirState
resumed fir samples puts = record fir { window = reverse samples; puts = reverse puts }

-- the windows stand for these samples: they show the last ones and what was put at them, and 0
-- before the first
pub record StandsFor (fir : FirState) (samples : List ℤ) : Type 0 where
  pub shows : (j : ℕ) → j < reach fir.taps fir.form → at_place fir.window j ≡ back samples j
  pub puts : (j : ℕ) → j < fir.form.again
      → at_place fir.puts j ≡ back (puts_of fir.taps fir.form samples) j

-- taps and a form that a filter may have
pub record AreTaps (taps : List ℤ) (form : Form) : Type 0 where
  pub some : 1 ≤ length taps - form.again
  pub few : length taps - form.again ≤ TAPS_MAX
  pub again_few : form.again ≤ AGAIN_MAX
  pub small : All (λ tap. unsigned_abs tap ≤ TAP_MAX) taps
  pub shift_small : form.shift ≤ SHIFT_MAX
  pub plus_small : unsigned_abs form.plus ≤ PLUS_MAX
  pub delay_small : form.delay ≤ DELAY_MAX

-- and no more taps than one that is made by its shift alone
abbrev pub AreFewTaps : List ℤ → Form → Type 0
AreFewTaps taps form = AreTaps taps form × (length taps ≤ FEW_TAPS_MAX)
