-- The steps lead to a moment that the stream then stands for, of the same samples.
use Rattle.std.proofs.Common.{◌≡◌, ℕ, ℤ, List, None, refl, sym, subst}
use Rattle.std.specs.List.{All}
use Rattle.stream_lists.specs.Jobs.{with_samples}
use Rattle.graph_runs.specs.Moments.{Moment}
use Rattle.stream_job.specs.Buffers.{HasPlaces}
use Rattle.stream_job.specs.Machines.{HasRoom}
use Rattle.stream_job.specs.Rounds.{of_moved}
use Rattle.stream_job.specs.Streams.{IsStreamAt, StreamMoves, StreamState, after_sized, ended_at, line_room}
use Rattle.stream_job.specs.contracts.stream.Stream.{the_view}
use Rattle.stream_job.proofs.FedPasses.{stepped_to}
use Rattle.stream_job.proofs.FedWent.{GoesTo, with_machine}
use Rattle.stream_job.proofs.stream.Stream.pass_on.Goals.{After-pass_on-moved}
use Rattle.stream_job.proofs.stream.Stream.pass_on.Goals as goal

-- the moment that the stream stands at then
goes : (c : After-pass_on-moved) (s : List (List ℤ)) (m : Moment) (given : ℕ → List ℤ)
    → IsStreamAt (the_view c.self.inside) s m given
    → GoesTo (of_moved c.pass_on-moved.result) (the_view c.self.inside)
    (with_machine (the_view c.self.inside) c.pass_on-moved.new.self) s m given
goes c s m given at =
    let job = with_samples s c.self.inside.job in
    let old = the_view c.self.inside in
    let N : StreamState → Type 0 = λ w. w.met ≡ None in
    stepped_to old c.pass_on-moved.new.self s m given c.args.t c.pass_on-moved.result
    (λ now event reached next ok opens. c.feeds_go_on.ensures.turn job (ended_at old) now event
    at.machine.graph reached.ran next ok opens)
    (subst N (sym c.self.view_is) c.requires.met)
    (c.pass_on-moved.ensures.steps s m at.machine) c.pass_on-moved.ensures.lines at

pub invariant_of-self : goal.invariant_of-self
invariant_of-self c =
    let s = c.self.invariant.0.0 in
    let m = c.self.invariant.0.1 in
    let given = c.self.invariant.0.2 in
    let at = c.self.invariant.0.3 in
    let job = with_samples s c.self.inside.job in
    let here = (goal.at.invariant_of-self c).After-pass_on-moved in
    let to = goes here s m given at in (
      (s, after_sized job m to.turns, given, to.stands),
      c.pass.ensures,
      subst (HasPlaces c.self.inside.job) (sym c.pass_on-moved.ensures.places) c.self.invariant.2,
      c.self.invariant.3,
      c.self.invariant.4,
      subst (λ l. All (HasRoom (line_room c.self.inside.job)) l.items)
          (sym c.pass_on-moved.ensures.lines) c.self.invariant.5,
    )

pub returns-clause-moves : goal.returns-clause-moves
returns-clause-moves c =
    let here = (goal.at.returns-clause-moves c).After-pass_on-moved in
    let old = the_view c.self.inside in
    let P : StreamState → Type 0 = λ w. StreamMoves (of_moved c.pass_on-moved.result) w
    (with_machine old c.pass_on-moved.new.self) in
    subst P c.self.view_is record {
      later = λ s m given at.
          (let to = goes here s m given at in (to.turns, to.may, to.moves, to.stands));
      job = refl;
      inputs = refl;
    }
