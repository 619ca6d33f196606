use Rattle.turn_lock.specs.Seats.{seat_view}
use Rattle.phase_shared.specs.LockedPhasers.{locked_place, locked_terms, some_terms}
use Rattle.phase_shared.specs.Servings.{ask_of}
use Rattle.phase_shared.specs.Views.{known_of}
use Rattle.phase_shared.proofs.reg.Reg.post.Given as goal

-- its phaser, what it asked for, and what it had seen then
abbrev pub ghosts-post : goal.ghosts-post
ghosts-post g a = record {
  place = locked_place a.phaser.now;
  terms = some_terms (locked_terms a.phaser.now);
  ask = ask_of a.request;
  seen = (known_of (seat_view a.seat)).seen;
}
