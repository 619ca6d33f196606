-- What a value of the code says of the words.
use Rattle.std.specs.Prelude.{List, [], ◌∷◌, codes}
use Rattle.clap.specs.Words.{Text}
use Rattle.phase.specs.Ways.{Way, by_workers, others, run, stream}
use Rattle.phase.specs.declared.way.Own.{Own}
use Rattle.phase.specs.declared.way.Own.TheVariants as own
use Rattle.phase.specs.declared.way.Way.{Way as WayOfWords}
use Rattle.phase.specs.declared.way.Way.TheVariants as way
use Rattle.phase_words.specs.CommandLine.{texts}

-- the words of a command
abbrev pub own_texts : Own → List Text
own_texts (own.Behind words) = texts words.now
own_texts own.Help = codes "--help" ∷ []

-- the command that words are for
abbrev pub way_by : WayOfWords → Way
way_by (way.Run own) = run (own_texts own)
way_by (way.Stream own) = stream (own_texts own)
way_by (way.Eval words) = by_workers (texts words.now)
way_by way.Others = others
