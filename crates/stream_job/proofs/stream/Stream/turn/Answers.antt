-- A turn leads to a moment that the stream then stands for, of the same samples.
use Rattle.std.proofs.Common.{◌≡◌, ℕ, ℤ, List, None, Some, false, true, refl, sym, ap, subst, ◌∙◌}
use Rattle.graph_base.specs.Graphs.{task_at}
use Rattle.stream_lists.specs.Jobs.{with_samples}
use Rattle.graph_runs.specs.Moments.{Moment}
use Rattle.stream_job.specs.Buffers.{HasPlaces}
use Rattle.stream_job.specs.InRange.{HasGone, is_held_up, stands_before}
use Rattle.stream_job.specs.Machines.{MayHaveCome}
use Rattle.stream_job.specs.Rounds.{of_went}
use Rattle.stream_job.specs.Stepping.{HasRoomNext}
use Rattle.stream_job.specs.Streams.{AreKept, IsStreamAt, StreamMoves, StreamState, after_sized, ended_at, is_full, is_full_by, is_hungry, line_room, rests}
use Rattle.stream_job.specs.contracts.stream.Stream.{the_view}
use Rattle.stream_job.specs.declared.went.Went.TheVariants as went
use Rattle.stream_job.proofs.FedTurns.{moves_none}
use Rattle.stream_job.proofs.Setting.{err_of}
use Rattle.stream_job.proofs.FedWent.{GoesTo, rests_full, rests_held, rests_hungry, went_own, went_to, with_machine, word_in}
use Rattle.stream_job.proofs.stream.Stream.turn.Goals as goal
use Rattle.stream_job.proofs.stream.Stream.turn.Goals.{After-awaited-awaits, In_ok-went}

pub returns-then-is_hungry-clause-stays : goal.returns-then-is_hungry-clause-stays
returns-then-is_hungry-clause-stays c = λ is line s m given at.
    let job = with_samples s c.args.self.now.job in
    let ended = ended_at c.args.self.now in
    rests_hungry (is_held_up job m c.args.t) (is_hungry job ended m c.args.t)
    (is_full job m given c.args.t) (c.is_hungry.ensures s m given at ∙ c.if-is_hungry.true)

pub returns-then-is_full_by-clause-stays : goal.returns-then-is_full_by-clause-stays
returns-then-is_full_by-clause-stays c = λ is line s m given at.
    let job = with_samples s c.args.self.now.job in
    let ended = ended_at c.args.self.now in
    rests_full (is_held_up job m c.args.t) (is_hungry job ended m c.args.t)
    (is_full job m given c.args.t)
    (ap (λ n. is_full_by n job m given c.args.t) (sym line)
    ∙ c.is_full_by.ensures.full s m given at ∙ c.if-is_full_by.true)

-- the samples that may have come
came : (c : After-awaited-awaits) (s : List (List ℤ)) (m : Moment) (given : ℕ → List ℤ)
    → IsStreamAt (the_view c.self.inside) s m given
    → MayHaveCome c.self.inside.job c.self.inside.machine c.args.t c.awaited-awaits.result.now s
came c s m given at =
    c.awaited-awaits.ensures s m at.each at.machine
    (subst (AreKept c.self.inside.job s m) (sym c.deref.ensures.value) at.kept)

pub go-requires-clause-came : goal.go-requires-clause-came
go-requires-clause-came c =
    let s = c.self.invariant.0.0 in
    let m = c.self.invariant.0.1 in
    let given = c.self.invariant.0.2 in
    let at = c.self.invariant.0.3 in
    let P : StreamState → Type 0 = λ w. (s : List (List ℤ)) (m : Moment) (given : ℕ → List ℤ)
    → IsStreamAt w s m given
    → HasRoomNext c.args.most (with_samples s w.job) w.machine c.args.t in
    let room = subst P (sym c.self.view_is) (λ s m given at.
    c.is_full_by.ensures.room c.if-is_full_by.false s m given at) in (
      s,
      came (goal.at.go-requires-clause-came c).After-awaited-awaits s m given at,
      room s m given at,
    )

pub returns-in_err-went-clause-err : goal.returns-in_err-went-clause-err
returns-in_err-went-clause-err c =
    let old = the_view c.self.inside in
    let P : StreamState → Type 0 = λ w. StreamMoves 0 w (with_machine old c.go.new.self) in
    err_of c.from_residual.result (subst P c.self.view_is
    (subst (λ machine. StreamMoves 0 old (with_machine old machine)) (sym c.in_err-went.ensures.err)
    (moves_none old)))

-- what the turn did
gone : (c : In_ok-went) (s : List (List ℤ)) (m : Moment) (given : ℕ → List ℤ)
    → IsStreamAt (the_view c.self.inside) s m given
    → HasGone c.args.most (with_samples s c.self.inside.job) c.self.inside.machine
    c.go.new.self c.args.t c.in_ok-went.went
gone c s m given at =
    c.in_ok-went.ensures.went s
    (c.awaited-awaits.ensures s m at.each at.machine
    (subst (AreKept c.self.inside.job s m) (sym c.deref.ensures.value) at.kept))

-- the moment that the stream stands at then
goes : (c : In_ok-went) (s : List (List ℤ)) (m : Moment) (given : ℕ → List ℤ)
    → IsStreamAt (the_view c.self.inside) s m given
    → GoesTo (of_went c.in_ok-went.went) (the_view c.self.inside)
    (with_machine (the_view c.self.inside) c.go.new.self) s m given
goes c s m given at =
    let job = with_samples s c.self.inside.job in
    let old = the_view c.self.inside in
    let P : StreamState → Type 0 = λ w. (s : List (List ℤ)) (m : Moment) (given : ℕ → List ℤ)
    → IsStreamAt w s m given
    → is_hungry (with_samples s w.job) (ended_at w) m c.args.t ≡ false in
    let N : StreamState → Type 0 = λ w. w.met ≡ None in
    let fed = subst P (sym c.self.view_is) (λ s m given at.
    c.is_hungry.ensures s m given at ∙ c.if-is_hungry.false) in
    went_to c.args.most old c.go.new.self s m given c.args.t c.in_ok-went.went
    (λ event next ok. c.feeds_go_on.ensures.turn job (ended_at old) m event at.machine.graph
    at.machine.reached.ran next ok at.stays_open)
    (subst N (sym c.self.view_is) c.requires.met) (fed s m given at) (gone c s m given at) at

pub invariant_of-self-2 : goal.invariant_of-self-2
invariant_of-self-2 c =
    let s = c.self.invariant.0.0 in
    let m = c.self.invariant.0.1 in
    let given = c.self.invariant.0.2 in
    let at = c.self.invariant.0.3 in
    let job = with_samples s c.self.inside.job in
    let here = (goal.at.invariant_of-self-2 c).In_ok-went in
    let to = goes here s m given at in (
      (s, after_sized job m to.turns, given, to.stands),
      c.pass.ensures,
      subst (HasPlaces c.self.inside.job) (sym c.go.ensures.places) c.self.invariant.2,
      c.self.invariant.3,
      c.self.invariant.4,
      went_own c.args.most job c.self.inside.machine c.go.new.self c.args.t c.in_ok-went.went
          (line_room c.self.inside.job) (gone here s m given at) c.self.invariant.5,
    )

pub returns-clause-moves : goal.returns-clause-moves
returns-clause-moves c =
    let here = (goal.at.returns-clause-moves c).In_ok-went in
    let old = the_view c.self.inside in
    let P : StreamState → Type 0 = λ w. StreamMoves (of_went c.in_ok-went.went) w
    (with_machine old c.go.new.self) in
    subst P c.self.view_is record {
      later = λ s m given at.
          (let to = goes here s m given at in (to.turns, to.may, to.moves, to.stands));
      job = refl;
      inputs = refl;
    }

pub returns-clause-stays : goal.returns-clause-stays
returns-clause-stays c = λ is line.
    let here = (goal.at.returns-clause-stays c).In_ok-went in
    let P : StreamState → Type 0 = λ w. (s : List (List ℤ)) (m : Moment) (given : ℕ → List ℤ)
    → c.args.most ≡ (task_at w.job.graph c.args.t).block
    → IsStreamAt w s m given
    → rests (with_samples s w.job) (ended_at w) m given c.args.t ≡ true in
    λ s m given at.
    subst P c.self.view_is (λ s m given line at.
    (let job = with_samples s c.self.inside.job in
    let stayed = subst (HasGone c.args.most job c.self.inside.machine c.go.new.self
    c.args.t) (ap (word_in went.On) is) (gone here s m given at) in
    rests_held (is_held_up job m c.args.t)
    (is_hungry job (ended_at (the_view c.self.inside)) m c.args.t)
    (is_full job m given c.args.t) (stayed.held line m at.machine))) s m given line at

pub returns-clause-before : goal.returns-clause-before
returns-clause-before c = λ place phase is.
    let here = (goal.at.returns-clause-before c).In_ok-went in
    let word = ap (word_in went.On) is in
    let old = the_view c.self.inside in
    let i = c.self.invariant.0 in
    let stopped = λ (s : List (List ℤ)) (m : Moment) (given : ℕ → List ℤ)
    (at : IsStreamAt (the_view c.self.inside) s m given).
    subst (HasGone c.args.most (with_samples s c.self.inside.job) c.self.inside.machine
    c.go.new.self c.args.t) word (gone here s m given at) in
    let P : StreamState → Type 0 = λ w. (with_machine old c.go.new.self ≡ w)
    × ((s : List (List ℤ)) (m : Moment) (given : ℕ → List ℤ) → IsStreamAt w s m given
    → stands_before (with_samples s w.job) m c.args.t ≡ Some (place, phase)) in
    subst P c.self.view_is (
      ap (with_machine old) (stopped i.0 i.1 i.2 i.3).same,
      λ s m given at. (stopped s m given at).before m at.machine,
    )
