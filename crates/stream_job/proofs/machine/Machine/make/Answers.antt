-- No turn is refused, and turns lead to moments that are reached.
use Rattle.std.proofs.Common.{◌≡◌, ◌≢◌, ℤ, List, ap, ◌∙◌, sym, subst}
use Rattle.stream_lists.specs.Jobs.{with_samples}
use Rattle.stream_job.specs.Stepping.{IsNextIn, MayDo}
use Rattle.stream_job.specs.Machines.{MayHaveCome, next_by}
use Rattle.stream_job.specs.Turning.{IsRegistration}
use Rattle.stream_job.specs.declared.step.Step.{Step}
use Rattle.stream_job.specs.declared.step.Step.TheVariants as step
use Rattle.stream_job.proofs.Setting.{if_ok, on_err}
use Rattle.stream_job.proofs.SizedNexts.{came_next}
use Rattle.stream_job.proofs.Tellings.{gone_turn}
use Rattle.stream_job.proofs.machine.Machine.make.Goals.{After-turns_up_to}
use Rattle.stream_job.proofs.machine.Machine.make.Goals as goal

-- with whatever samples may have come this is what a live task does next
next_in : (c : After-turns_up_to) → c.args.sized.step ≢ step.NotLive → (s : List (List ℤ))
    → MayHaveCome c.args.job.now c.args.self.now c.args.t c.args.awaits.now s
    → IsNextIn c.args.sized.most (with_samples s c.args.job.now) c.args.self.now c.args.t
    (next_by c.args.sized.step)
next_in c lives s may =
    came_next c.args.job.now c.args.self.now c.args.t c.args.sized.step c.args.awaits.now s lives may
    c.requires.most.0 c.requires.most.1 (λ m at. c.requires.step s m may at)

-- what a live task does next, where the step is this one
next_is : (c : After-turns_up_to) (it : Step) → c.args.sized.step ≡ it → it ≢ step.NotLive
    → (s : List (List ℤ)) → MayHaveCome c.args.job.now c.args.self.now c.args.t c.args.awaits.now s
    → IsNextIn c.args.sized.most (with_samples s c.args.job.now) c.args.self.now c.args.t (next_by it)
next_is c it is lives s may =
    subst (IsNextIn c.args.sized.most (with_samples s c.args.job.now) c.args.self.now c.args.t)
    (ap next_by is) (next_in c (λ e. lives (sym is ∙ e)) s may)

-- and it may do so
may_do : (c : After-turns_up_to) (it : Step) → c.args.sized.step ≡ it → it ≢ step.NotLive
    → MayDo c.args.job.now c.args.self.now c.args.t (next_by it)
may_do c it is lives =
    let came = c.requires.came in
    (came.0, c.args.sized.most, next_is c it is lives came.0 came.1)

pub returns-in-NotLive-clause-made : goal.returns-in-NotLive-clause-made
returns-in-NotLive-clause-made c = λ s may.
    gone_turn (with_samples s c.args.job.now) c.args.self.now c.args.t
    (λ m at. c.requires.step s m may at ∙ ap next_by c.in-NotLive.is)

pub register_child-requires : goal.register_child-requires
register_child-requires c =
    may_do (goal.at.register_child-requires c).After-turns_up_to (step.Register c.in-Register.child)
    c.in-Register.is (λ e. (cc e))

pub leave-requires : goal.leave-requires
leave-requires c =
    may_do (goal.at.leave-requires c).After-turns_up_to step.Leave c.in-Leave.is (λ e. (cc e))

pub signal_samples-requires-clause-next : goal.signal_samples-requires-clause-next
signal_samples-requires-clause-next c =
    let came = c.requires.came in (
      came.0,
      came.1,
      next_is (goal.at.signal_samples-requires-clause-next c).After-turns_up_to step.Sample c.in-Sample.is
          (λ e. (cc e)) came.0 came.1,
    )

pub signal_owed-requires-clause-next : goal.signal_owed-requires-clause-next
signal_owed-requires-clause-next c =
    may_do (goal.at.signal_owed-requires-clause-next c).After-turns_up_to
    (step.Signal c.in-Signal.output) c.in-Signal.is (λ e. (cc e))

pub wait_first-requires-clause-next : goal.wait_first-requires-clause-next
wait_first-requires-clause-next c =
    let came = c.requires.came in (
      came.0,
      next_is (goal.at.wait_first-requires-clause-next c).After-turns_up_to (step.Wait c.in-Wait.input)
          c.in-Wait.is (λ e. (cc e)) came.0 came.1,
      came.2,
    )

pub wait_exchange-requires : goal.wait_exchange-requires
wait_exchange-requires c =
    may_do (goal.at.wait_exchange-requires c).After-turns_up_to step.Exchange c.in-Exchange.is
    (λ e. (cc e))

pub returns-in-Register-clause-made : goal.returns-in-Register-clause-made
returns-in-Register-clause-made c =
    let here = (goal.at.returns-in-Register-clause-made c).After-turns_up_to in
    if_ok c.register_child.result
    (λ made had s may. had s c.args.sized.most
    (next_is here (step.Register c.in-Register.child) c.in-Register.is (λ e. (cc e)) s may))
    c.register_child.ensures.made

-- What is next at one moment is next at each, and a registration alone asks for memory.
pub returns-in-Register-clause-memory : goal.returns-in-Register-clause-memory
returns-in-Register-clause-memory c =
    on_err c.register_child.result
    (λ same s m may at. subst IsRegistration
    (sym (c.requires.step s m may at))
    (c.in-Register.child, ap next_by c.in-Register.is))
    c.register_child.ensures.err

pub returns-in-Leave-clause-made : goal.returns-in-Leave-clause-made
returns-in-Leave-clause-made c = λ s may.
    c.leave.ensures s c.args.sized.most
    (next_is (goal.at.returns-in-Leave-clause-made c).After-turns_up_to step.Leave c.in-Leave.is
    (λ e. (cc e)) s may)

pub returns-in-Sample-clause-made : goal.returns-in-Sample-clause-made
returns-in-Sample-clause-made c = λ s may.
    c.signal_samples.ensures.made s may
    (next_is (goal.at.returns-in-Sample-clause-made c).After-turns_up_to step.Sample c.in-Sample.is
    (λ e. (cc e)) s may)

pub returns-in-Signal-clause-made : goal.returns-in-Signal-clause-made
returns-in-Signal-clause-made c = λ s may.
    c.signal_owed.ensures.made s c.args.sized.most
    (next_is (goal.at.returns-in-Signal-clause-made c).After-turns_up_to
    (step.Signal c.in-Signal.output) c.in-Signal.is (λ e. (cc e)) s may)

pub returns-in-Wait-clause-made : goal.returns-in-Wait-clause-made
returns-in-Wait-clause-made c = λ s may.
    c.wait_first.ensures.made s
    (next_is (goal.at.returns-in-Wait-clause-made c).After-turns_up_to (step.Wait c.in-Wait.input)
    c.in-Wait.is (λ e. (cc e)) s may)

pub returns-in-Exchange-clause-made : goal.returns-in-Exchange-clause-made
returns-in-Exchange-clause-made c = λ s may.
    c.wait_exchange.ensures s c.args.sized.most
    (next_is (goal.at.returns-in-Exchange-clause-made c).After-turns_up_to step.Exchange c.in-Exchange.is
    (λ e. (cc e)) s may)
