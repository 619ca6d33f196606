-- A block of a stream of samples through a filter of any form, and what it looks back to: the
-- samples before the block and what it put at them.
use Rattle.std.specs.Prelude.{◌≡◌, ◌<◌, ◌≤◌, ℕ, ℤ, List, ◌++◌, length, take, drop}
use Rattle.phase_accum.specs.Sends.{AreSends, IsSend}
use Rattle.handle_numbers.specs.Numbers.{Names}
use Rattle.stream_filters.specs.Filter.{AreTaps, puts_of, reach}
use Rattle.stream_filters.specs.declared.form.Form.{Form}
use Rattle.phase_c.specs.Filtered.{FiltersNone, ShowsLast, filter_status_of, first_outputs, output_in_block}
use Rattle.phase_c.specs.declared.filter.FilterRefusal.{FilterRefusal}
use Rattle.phase_c.specs.declared.filter.FilterRefusal.TheVariants as refusal
use Rattle.phase_c.specs.declared.formed.PhaseFirForm.{PhaseFirForm}

-- ---- forms

-- the form has these numbers, and the single that they name
pub record NamesForm (lent : PhaseFirForm) (form : Form) : Type 0 where
  pub shift_is : form.shift ≡ lent.shift
  pub plus_is : form.plus ≡ lent.plus
  pub delay_is : form.delay ≡ lent.delay
  pub again_is : form.again ≡ lent.again
  pub names : Names lent.single lent.low lent.high form.single

-- these numbers name a form of which this holds
pub record NamesSome (lent : PhaseFirForm) (Fact : Form → Type 0) : Type 0 where
  pub form : Form
  pub names : NamesForm lent form
  pub fact : Fact form

-- ---- states

-- as many samples, and as many values that were put, as a filter looks back to
pub record AreReached (taps : List ℤ) (form : Form) (state puts : List ℤ) : Type 0 where
  pub long : length state ≡ reach taps form
  pub puts_long : length puts ≡ form.again

-- a filter may have these taps and this form, and it looks back to so many
pub record AreOfForm (taps : List ℤ) (form : Form) (state puts : List ℤ) : Type 0 where
  pub are_taps : AreTaps taps form
  pub reached : AreReached taps form state puts

-- the state shows the samples so far, and the puts what the filter put at them
pub record ShowsStream (taps : List ℤ) (form : Form) (state puts before : List ℤ) : Type 0 where
  pub samples : ShowsLast state before
  pub puts_last : ShowsLast puts (puts_of taps form before)

-- ---- a block

-- of a block behind any samples that state and puts show the first outputs were written, so many,
-- where there is room for as many as the block has. Each is in range, and what stands behind them
-- stays
pub record FiltersFormed (taps : List ℤ) (form : Form) (state puts block old new : List ℤ)
    (count : ℕ) : Type 0 where
  pub of_form : AreOfForm taps form state puts
  pub room : length block ≤ length old
  pub written : (before : List ℤ) → ShowsStream taps form state puts before
      → take count new ≡ first_outputs taps form before block count
  pub fits : (before : List ℤ) → ShowsStream taps form state puts before
      → AreSends (take count new)
  pub behind : drop count new ≡ drop count old

-- state and puts show the block too
pub record ShowsBlock (taps : List ℤ) (form : Form) (state new_state puts new_puts block : List ℤ)
    : Type 0 where
  pub shows : (before : List ℤ) → ShowsStream taps form state puts before
      → ShowsStream taps form new_state new_puts (before ++ block)
  pub long : length new_state ≡ length state
  pub puts_long : length new_puts ≡ length puts

-- the whole block went through, and state and puts show it too
pub record FiltersAllFormed (taps : List ℤ) (form : Form)
    (state new_state puts new_puts block old new : List ℤ) (done : ℕ) : Type 0 where
  pub filters : FiltersFormed taps form state puts block old new (length block)
  pub more : ShowsBlock taps form state new_state puts new_puts block
  pub done_is : done ≡ length block

-- the block went through up to the first output that is out of range
pub record FiltersToFormed (taps : List ℤ) (form : Form) (state puts block old new : List ℤ)
    (done : ℕ) : Type 0 where
  pub filters : FiltersFormed taps form state puts block old new done
  pub less : done < length block
  pub too_big : (before : List ℤ) → ShowsStream taps form state puts before
      → ¬ (IsSend (output_in_block taps form before block done))

-- ---- refusals

-- why a block was not filtered, or not to its end. Of each reason those above it do not hold
abbrev pub RefusesFormed : List ℤ → PhaseFirForm → List ℤ → List ℤ → List ℤ → List ℤ → List ℤ → ℕ
    → FilterRefusal → Type 0
RefusesFormed taps lent state puts block old new done refusal.Taps =
    FiltersNone (¬ (NamesSome lent (AreTaps taps))) old new done
RefusesFormed taps lent state puts block old new done refusal.Counts =
    FiltersNone (NamesSome lent
    (λ form. AreTaps taps form × ¬ (AreReached taps form state puts))) old new done
RefusesFormed taps lent state puts block old new done refusal.Room =
    FiltersNone (NamesSome lent (λ form. AreOfForm taps form state puts)
    × (length old < length block)) old new done
RefusesFormed taps lent state puts block old new done refusal.OutOfMemory =
    FiltersNone (NamesSome lent (λ form. AreOfForm taps form state puts)
    × (length block ≤ length old)) old new done
RefusesFormed taps lent state puts block old new done refusal.TooBig =
    NamesSome lent (λ form. FiltersToFormed taps form state puts block old new done)

-- a block was refused: it is told why
pub record FormedStops (taps : List ℤ) (lent : PhaseFirForm) (state puts block old new : List ℤ)
    (done : ℕ) (status : ℤ) : Type 0 where
  pub why : FilterRefusal
  pub refuses : RefusesFormed taps lent state puts block old new done why
  pub status_is : status ≡ filter_status_of why

-- state and puts stay
pub record StateStays (state new_state puts new_puts : List ℤ) : Type 0 where
  pub same : new_state ≡ state
  pub puts_same : new_puts ≡ puts
