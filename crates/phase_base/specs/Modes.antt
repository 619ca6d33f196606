-- The mode rule: which modes a mode holds, and what a task in it may do.
use Rattle.std.specs.Prelude.{Bool, true, false}
use Rattle.phase_base.specs.declared.mode.Mode.{Mode}
use Rattle.phase_base.specs.declared.mode.Mode.TheVariants.{Sig, Wait, SigWait, Single}

-- whether the first mode holds the second: a task in the first may register a child in the second
abbrev pub holds : Mode → Mode → Bool
holds Single Single = true
holds Single SigWait = true
holds Single Sig = true
holds Single Wait = true
holds SigWait SigWait = true
holds SigWait Sig = true
holds SigWait Wait = true
holds Sig Sig = true
holds Wait Wait = true
holds _ _ = false

-- whether a task in the mode signals
abbrev pub mode_signals : Mode → Bool
mode_signals m = holds m Sig

-- whether a task in the mode waits
abbrev pub mode_waits : Mode → Bool
mode_waits m = holds m Wait

-- whether a task in the mode may name a single
abbrev pub is_single : Mode → Bool
is_single m = holds m Single
