use Rattle.std.proofs.Common.{◌≡◌, ◌++◌, ℤ, List, take}
use Rattle.stream_filters.specs.Filter.{StandsFor}
use Rattle.phase_c.proofs.filter.take_in.Given as goal

-- the filter has taken the samples before this one
abbrev pub invariant-loop-x : goal.invariant-loop-x
invariant-loop-x l = record {
  stands : (before : List ℤ) → StandsFor l.fn.fir before
      → StandsFor l.fir (before ++ take l.x-index l.samples);
  taps : l.fir.taps ≡ l.fn.fir.taps;
  form : l.fir.form ≡ l.fn.fir.form;
}
