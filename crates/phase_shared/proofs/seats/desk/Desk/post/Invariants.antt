use Rattle.std.specs.Prelude.{◌≡◌, Some}
use Rattle.phase_shared.specs.Views.{known_of}
use Rattle.phase_shared.specs.WordTells.{lane_in, asking_of}
use Rattle.phase_shared.specs.declared.seats.view.View.TheVariants.{Posting}
use Rattle.phase_shared.proofs.seats.desk.Desk.post.Given as goal

-- the word is in its lane, and then its phase
abbrev pub ghosts-post_as : goal.ghosts-post_as
ghosts-post_as g a = record { goes = λ v w. w ≡ Posting (known_of v) (lane_in 0 v) (Some a.told) }

abbrev pub ghosts-post_as-2 : goal.ghosts-post_as-2
ghosts-post_as-2 g a = record { goes = λ v w. w ≡ asking_of v }
