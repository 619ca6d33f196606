-- A turn of the size that was found ahead is one that takes no value out of range.
use Rattle.std.proofs.Common.{◌≡◌, ◌≢◌, ℕ, ℤ, List, refl, sym, subst, arith}
use Rattle.stream_lists.specs.Jobs.{Job, with_samples}
use Rattle.graph_runs.specs.Moments.{Moment}
use Rattle.graph_runs.specs.Nexts.{Next, next_of, signals}
use Rattle.stream_job.specs.InRange.{HasGone, IsAhead}
use Rattle.stream_job.specs.Machines.{IsMachineAt, MayHaveCome, next_by}
use Rattle.stream_job.specs.Stepping.{IsNextIn}
use Rattle.stream_job.specs.declared.ahead.Ahead.{Ahead}
use Rattle.stream_job.specs.declared.ahead.Ahead.TheVariants as ahead
use Rattle.stream_job.specs.declared.machine.Machine.{Machine}
use Rattle.stream_job.specs.declared.step.Step.TheVariants as step
use Rattle.stream_job.proofs.GoodSignals.{had_part}
use Rattle.stream_job.proofs.GoodSizes.{fewer_steps}
use Rattle.stream_job.proofs.SizedNexts.{came_next}
use Rattle.stream_job.proofs.WentTurns.{had_sized}
use Rattle.stream_job.proofs.machine.Machine.go.Goals.{After-ahead, After-next-step}
use Rattle.stream_job.proofs.machine.Machine.go.Goals as goal

-- with whatever samples may have come this is what a live task does next
next_in : (c : After-next-step) → c.next-step.result ≢ step.NotLive → (s : List (List ℤ))
    → MayHaveCome c.args.job.now c.args.self.now c.args.t c.args.awaits.now s
    → IsNextIn c.args.most (with_samples s c.args.job.now) c.args.self.now c.args.t
    (next_by c.next-step.result)
next_in c lives s may =
    came_next c.args.job.now c.args.self.now c.args.t c.next-step.result c.args.awaits.now s lives may
    c.requires.most.0 c.requires.most.1 (λ m at. c.next-step.ensures s m at (may.awaits m at))

-- where it signals on its first output
next_signals : {steps : ℕ} {job : Job} {machine : Machine} {t : ℕ} {next : Next}
    → IsNextIn steps job machine t next
    → ((m : Moment) → IsMachineAt job m machine → next_of job m t ≡ signals 0)
    → IsNextIn steps job machine t (signals 0)
next_signals next is = record {
  some = next.some;
  sized = next.sized;
  small = next.small;
  sends = next.sends;
  is = is;
  stays = next.stays;
  few = next.few;
  answered = next.answered;
}

-- what was found ahead
found : (c : After-ahead) (a : After-next-step) → c.next-step.result ≢ step.NotLive
    → (s : List (List ℤ)) → MayHaveCome c.args.job.now c.args.self.now c.args.t c.args.awaits.now s
    → IsNextIn c.args.most (with_samples s c.args.job.now) c.args.self.now c.args.t
    (next_by c.next-step.result) → (it : Ahead) → c.ahead.result ≡ it
    → IsAhead c.args.most (with_samples s c.args.job.now) c.args.self.now c.args.t it
found c a lives s may next it is =
    subst (IsAhead c.args.most (with_samples s c.args.job.now) c.args.self.now c.args.t) is
    (c.ahead.ensures s next)

pub ahead-requires : goal.ahead-requires
ahead-requires c =
    let came = c.requires.came in
    let a = (goal.at.ahead-requires c).After-next-step in
    record {
      next = (came.0, next_in a c.in_default.not-NotLive came.0 came.1);
      lives = c.in_default.not-NotLive;
      plan = c.requires.plan;
    }

pub signal_made-requires : goal.signal_made-requires
signal_made-requires c =
    let came = c.requires.came in
    let at = goal.at.signal_made-requires c in
    let next = next_in at.After-next-step c.in_default.not-NotLive came.0 came.1 in
    let part = found at.After-ahead at.After-next-step c.in_default.not-NotLive came.0 came.1 next
    (ahead.Values c.in-Values.many) c.in-Values.is in
    record {
      next = (came.0, c.args.most, next_signals next part.next);
      made = part.owes;
      most = (part.some, part.few);
      places = c.requires.places;
    }

pub make-requires : goal.make-requires
make-requires c =
    let came = c.requires.came in
    let at = goal.at.make-requires c in
    let job = with_samples came.0 c.args.job.now in
    let n = c.in-Steps.most in
    let next = next_in at.After-next-step c.in_default.not-NotLive came.0 came.1 in
    let size = found at.After-ahead at.After-next-step c.in_default.not-NotLive came.0 came.1 next
    (ahead.Steps n) c.in-Steps.is in
    let few = size.few in
    let small = c.requires.most.1 in
    record {
      came = (came.0, came.1, (came.2.0, came.2.1, size.room came.2.0 came.2.1 came.2.2));
      step = λ s m may at. c.next-step.ensures s m at (may.awaits m at);
      most = (
        fewer_steps job c.args.self.now c.args.t n size.some size.few c.requires.most.0,
        omega arith,
      );
      plan = c.requires.plan;
      places = c.requires.places;
    }

pub returns-in-Before : goal.returns-in-Before
returns-in-Before c =
    let at = goal.at.returns-in-Before c in
    record {
      went = λ s may.
          (let next = next_in at.After-next-step c.in_default.not-NotLive s may in
          record {
            same = refl;
            before = found at.After-ahead at.After-next-step c.in_default.not-NotLive s may next
                (ahead.Before c.in-Before.place c.in-Before.phase) c.in-Before.is;
          });
      err = tt;
      places = refl;
    }

pub returns-in-Values : goal.returns-in-Values
returns-in-Values c =
    let at = goal.at.returns-in-Values c in
    record {
      went = λ s may.
          (let job = with_samples s c.args.job.now in
          let next = next_in at.After-next-step c.in_default.not-NotLive s may in
          let part = found at.After-ahead at.After-next-step c.in_default.not-NotLive s may next
          (ahead.Values c.in-Values.many) c.in-Values.is in
          subst (HasGone c.args.most job c.args.self.now c.signal_made.new.self c.args.t)
          (sym c.went.ensures)
          (had_part job c.args.self.now c.signal_made.new.self c.args.t c.in-Values.many
          c.signal_made.result part next.some next.sized
          (c.signal_made.ensures.made s c.args.most (next_signals next part.next))));
      err = tt;
      places = c.signal_made.ensures.places;
    }

pub returns-in_ok-make-in-Steps : goal.returns-in_ok-make-in-Steps
returns-in_ok-make-in-Steps c =
    let at = goal.at.returns-in_ok-make-in-Steps c in
    let it = c.in_ok-make-in-Steps in
    record {
      went = λ s may.
          (let job = with_samples s c.args.job.now in
          let n = c.in-Steps.most in
          let next = next_in at.After-next-step c.in_default.not-NotLive s may in
          let size = found at.After-ahead at.After-next-step c.in_default.not-NotLive s may next
          (ahead.Steps n) c.in-Steps.is in
          subst (HasGone c.args.most job c.args.self.now c.make.new.self c.args.t)
          (sym c.went-in-Steps.ensures)
          (had_sized job c.args.self.now c.make.new.self c.args.t it.field-0 size
          (fewer_steps job c.args.self.now c.args.t n size.some size.few next.sized) next.some
          (it.ensures.made s may)));
      err = tt;
      places = it.ensures.places;
    }
