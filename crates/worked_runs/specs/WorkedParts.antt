-- The worked run as its peer alone sees it, up to where the peer owes its value on Y.
use Rattle.std.specs.Prelude.{◌≡◌, ℕ, zero, suc, pos, [], ◌∷◌, Some, None, Ok}
use Rattle.phase_base.specs.declared.mode.Mode.TheVariants.{Sig, Wait, SigWait}
use Rattle.phase_history.specs.declared.event.Event.TheVariants.{Made, Registered, Signalled, Dropped}
use Rattle.phase_history.specs.Histories.{History}
use Rattle.graph_runs.specs.Moments.{Moment}
use Rattle.graph_runs.specs.TaskPlaces.{TaskPlace, StandsAt, at_start, values, exchange}
use Rattle.graph_runs.specs.Parts.{HasPart}
use Rattle.graph_runs.specs.Places.{owing, after_steps}
use Rattle.worked_runs.specs.Worked.{worked}

-- what the peer has seen of X, E and Y where it begins: it is registered last
abbrev pub peer_seen : ℕ → History
peer_seen zero = Registered 0 2 Wait ∷ Registered 0 1 Sig ∷ Made 0 ∷ []
peer_seen (suc zero) = Registered 0 1 SigWait ∷ Made 0 ∷ []
peer_seen (suc (suc i)) = Registered 0 1 Sig ∷ Made 0 ∷ []

-- X before its wait: the founder has left, and the source has signalled 5
abbrev pub x_before : History
x_before = Signalled 1 ((pos 5 ∷ []) ∷ []) None ∷ Dropped 0 ∷ peer_seen 0

-- E before its signal: the founder has left
abbrev pub e_before : History
e_before = Dropped 0 ∷ peer_seen 1

-- E after its signal
abbrev pub e_signalled : History
e_signalled = Signalled 1 ((pos 5 ∷ []) ∷ []) None ∷ e_before

-- its place where it begins
abbrev pub peer_begins : TaskPlace
peer_begins = at_start (2 ∷ 1 ∷ 1 ∷ [])

-- where it owes 5 on E
abbrev pub peer_owes_e : TaskPlace
peer_owes_e = after_steps 1 (values 0 (Ok (pos 5) ∷ [])) peer_begins

-- where it waits on E
abbrev pub peer_exchanges : TaskPlace
peer_exchanges = owing (exchange (pos 5)) peer_owes_e

-- where it owes 3 * 5 - 5 on Y
abbrev pub peer_owes_y : TaskPlace
peer_owes_y = owing (values 1 (Ok (pos 10) ∷ [])) peer_exchanges

-- the peer is number 2 on X and number 1 on E, stands here, and has seen this of X and of E
pub record PeerKnows (m : Moment) (at : TaskPlace) (on_x on_e : History) : Type 0 where
  pub part : HasPart worked m 1
  pub place : StandsAt worked m 1 at
  pub x : m.history 0 ≡ on_x
  pub e : m.history 1 ≡ on_e
  pub number_x : m.number 0 1 ≡ Some 2
  pub number_e : m.number 1 1 ≡ Some 1
