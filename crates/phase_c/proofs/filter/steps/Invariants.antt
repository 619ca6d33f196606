use Rattle.std.proofs.Common.{◌≡◌, ◌++◌, ℤ, List, length, take, drop}
use Rattle.phase_accum.specs.Sends.{AreSends}
use Rattle.stream_filters.specs.Filter.{StandsFor}
use Rattle.phase_c.specs.Filtered.{first_outputs}
use Rattle.phase_c.proofs.filter.steps.Given as goal

-- the filter has taken the samples before this one, and its outputs there were written
abbrev pub invariant-loop-n : goal.invariant-loop-n
invariant-loop-n l = record {
  stands : (before : List ℤ) → StandsFor l.fn.fir before
      → StandsFor l.fir (before ++ take l.n l.block);
  taps : l.fir.taps ≡ l.fn.fir.taps;
  form : l.fir.form ≡ l.fn.fir.form;
  written : (before : List ℤ) → StandsFor l.fn.fir before
      → take l.n l.out ≡ first_outputs l.fn.fir.taps l.fn.fir.form before l.block l.n;
  fits : (before : List ℤ) → StandsFor l.fn.fir before → AreSends (take l.n l.out);
  behind : drop l.n l.out ≡ drop l.n l.fn.out;
  long : length l.out ≡ length l.fn.out;
}
