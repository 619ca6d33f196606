-- What the fields of a filter stand for, and what its steps leave.
use Rattle.std.specs.Prelude.{◌≡◌, ◌+◌, ◌-◌, ◌≤◌, ◌++◌, ℕ, ℤ, List, length, map, take, drop, vec_capacity}
use Rattle.std.specs.List.{position_from}
use Rattle.stream_filters.specs.Filter.{FirState, AreTaps, StandsFor, outputs_of_block, put_of}
use Rattle.stream_filters.specs.Range.{is_out_of_range, before_out_of_range}
use Rattle.stream_filters.specs.WeigherFields.{window_of}
use Rattle.stream_filters.specs.declared.fir.Fir.TheInside.{Inside}

-- the filter that the fields of the code hold
abbrev pub fir_view : Inside → FirState
fir_view f = record {
  taps = f.weigher.taps ++ f.again.items;
  form = f.weigher.form;
  window = f.weigher.window;
  puts = window_of f.weigher.form.again f.puts.items;
}

-- what holds of the fields of every filter
pub record IsFir (f : Inside) : Type 0 where
  pub are_taps : AreTaps (f.weigher.taps ++ f.again.items) f.weigher.form
  pub again : length f.again.items ≡ f.weigher.form.again
  pub held : f.weigher.form.again ≤ length f.puts.items
  pub room : f.weigher.form.again + 1024 ≤ vec_capacity f.puts

-- the filter has taken these samples up to the first whose output is out of range, and put the
-- outputs before that one behind the others
pub record HasStepped (old new : FirState) (samples before after : List ℤ) : Type 0 where
  pub made : (taken : List ℤ) → StandsFor old taken
      → after ≡ before ++ before_out_of_range (outputs_of_block old.taps old.form taken samples)
  pub stands : (taken : List ℤ) → StandsFor old taken
      → StandsFor new (taken ++ take (length after - length before + 1) samples)
  pub few : length after ≤ length before + length samples
  pub taps : new.taps ≡ old.taps
  pub form : new.form ≡ old.form

-- the list has the first n values of the whole, and they are in range
pub record MadeSoFar (whole list : List ℤ) (n : ℕ) : Type 0 where
  pub list_is : list ≡ take n whole
  pub none_yet : position_from is_out_of_range 0 whole
      ≡ position_from is_out_of_range n (drop n whole)

-- and it is what a filter put
pub record PutSoFar (whole list : List ℤ) (n : ℕ) : Type 0 where
  pub made : MadeSoFar whole list n
  pub put : map put_of list ≡ list
