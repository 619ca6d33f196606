-- A block of a stream of samples through a filter, and the samples before it that it weighs too.
use Rattle.std.specs.Prelude.{◌≡◌, ◌<◌, ◌≤◌, ◌+◌, ℕ, ℤ, negsuc, List, ◌++◌, length, map, take, drop}
use Rattle.std.specs.List.{range_with_len}
use Rattle.phase_accum.specs.Sends.{AreSends, IsSend}
use Rattle.stream_filters.specs.Filter.{AreFewTaps, back, output_after, reach}
use Rattle.stream_filters.specs.declared.form.Form.{Form}
use Rattle.phase_c.specs.declared.filter.FilterRefusal.{FilterRefusal}
use Rattle.phase_c.specs.declared.filter.FilterRefusal.TheVariants as refusal

-- ---- outputs

-- the output at sample number n of a block, behind the samples before it; its range is not checked
abbrev pub output_in_block : List ℤ → Form → List ℤ → List ℤ → ℕ → ℤ
output_in_block taps form before block n = output_after taps form (before ++ take (n + 1) block)

-- the outputs at the first samples of a block
abbrev pub first_outputs : List ℤ → Form → List ℤ → List ℤ → ℕ → List ℤ
first_outputs taps form before block n =
    map (output_in_block taps form before block) (range_with_len 0 n)

-- a state shows the samples so far: it has the last ones, as many as it is long, and 0 before the
-- first
abbrev pub ShowsLast : List ℤ → List ℤ → Type 0
ShowsLast state samples = (j : ℕ) → j < length state → back state j ≡ back samples j

-- ---- a block

-- a filter that weighs samples alone may have these taps and this form, and the state is as long as
-- one of its is
pub record AreOfFilter (taps : List ℤ) (form : Form) (state : List ℤ) : Type 0 where
  pub are_taps : AreFewTaps taps form
  pub alone : form.again ≡ 0
  pub long : length state + 1 ≡ reach taps form

-- of a block behind any samples that the state shows the first outputs were written, so many, where
-- there is room for as many as the block has. Each is in range, and what stands behind them stays
pub record Filters (taps : List ℤ) (form : Form) (state block old new : List ℤ) (count : ℕ)
    : Type 0 where
  pub of_filter : AreOfFilter taps form state
  pub room : length block ≤ length old
  pub written : (before : List ℤ) → ShowsLast state before
      → take count new ≡ first_outputs taps form before block count
  pub fits : AreSends (take count new)
  pub behind : drop count new ≡ drop count old

-- the whole block went through, and the state shows its samples too
pub record FiltersAll (taps : List ℤ) (form : Form) (old_state new_state block old new : List ℤ)
    (done : ℕ) : Type 0 where
  pub filters : Filters taps form old_state block old new (length block)
  pub shows : (before : List ℤ) → ShowsLast old_state before → ShowsLast new_state (before ++ block)
  pub long : length new_state ≡ length old_state
  pub done_is : done ≡ length block

-- the block went through up to the first output that is out of range
pub record FiltersTo (taps : List ℤ) (form : Form) (state block old new : List ℤ) (done : ℕ)
    : Type 0 where
  pub filters : Filters taps form state block old new done
  pub less : done < length block
  pub too_big : (before : List ℤ) → ShowsLast state before
      → ¬ (IsSend (output_in_block taps form before block done))

-- ---- refusals

-- nothing was filtered, for this reason
pub record FiltersNone (Why : Type 0) (old new : List ℤ) (done : ℕ) : Type 0 where
  pub because : Why
  pub same : new ≡ old
  pub none : done ≡ 0

-- why a block was not filtered, or not to its end. Of each reason those above it do not hold
abbrev pub RefusesBlock : List ℤ → Form → List ℤ → List ℤ → List ℤ → List ℤ → ℕ → FilterRefusal
    → Type 0
RefusesBlock taps form state block old new done refusal.Taps =
    FiltersNone (¬ (AreFewTaps taps form)) old new done
RefusesBlock taps form state block old new done refusal.Counts =
    FiltersNone (AreFewTaps taps form × ¬ (length state + 1 ≡ reach taps form)) old new done
RefusesBlock taps form state block old new done refusal.Room =
    FiltersNone (AreOfFilter taps form state × (length old < length block)) old new done
RefusesBlock taps form state block old new done refusal.OutOfMemory =
    FiltersNone (AreOfFilter taps form state × (length block ≤ length old)) old new done
RefusesBlock taps form state block old new done refusal.TooBig =
    FiltersTo taps form state block old new done

-- the status of a refusal
abbrev pub filter_status_of : FilterRefusal → ℤ
filter_status_of refusal.Counts = negsuc 1
filter_status_of refusal.TooBig = negsuc 3
filter_status_of refusal.Room = negsuc 4
filter_status_of refusal.OutOfMemory = negsuc 5
filter_status_of refusal.Taps = negsuc 6

-- a block was refused: it is told why
pub record FilterStops (taps : List ℤ) (form : Form) (state block old new : List ℤ) (done : ℕ)
    (status : ℤ) : Type 0 where
  pub why : FilterRefusal
  pub refuses : RefusesBlock taps form state block old new done why
  pub status_is : status ≡ filter_status_of why
