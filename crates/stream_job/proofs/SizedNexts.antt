-- What a task does next by a turn of so many steps.
use Rattle.std.proofs.Common.{◌≡◌, ◌≢◌, ◌≤◌, ℕ, ℤ, List, refl}
use Rattle.phase_accum.specs.Sends.{AreSends}
use Rattle.stream_lists.specs.Jobs.{Job, samples_at, with_samples}
use Rattle.graph_runs.specs.Moments.{Moment}
use Rattle.graph_runs.specs.Nexts.{Next, next_of}
use Rattle.graph_runs.proofs.Signalling.{live-is}
use Rattle.graph_runs.proofs.SizedTurns.{turn_reached}
use Rattle.stream_job.specs.Buffers.{most_steps}
use Rattle.stream_job.specs.Machines.{IsMachine, IsMachineAt, MayHaveCome, most_in, next_by}
use Rattle.stream_job.specs.Stepping.{IsNextIn, MayStep}
use Rattle.stream_job.specs.declared.machine.Machine.{Machine}
use Rattle.stream_job.specs.declared.step.Step.{Step}
use Rattle.stream_job.specs.declared.step.Step.TheVariants as step
use Rattle.stream_job.proofs.Lively.{live_next, makes_one}
use Rattle.stream_job.proofs.Numbering.{few_after}
use Rattle.stream_job.proofs.Stalling.{never_refused}

-- no such turn is refused, and it leads to a moment that is reached
pub sized_next : {steps : ℕ} (job : Job) (old : Machine) (t : ℕ) (next : Next) → IsMachine job old
    → MayStep job old t steps → steps ≤ most_steps job t → AreSends (samples_at job t)
    → ((m : Moment) → IsMachineAt job m old → next_of job m t ≡ next)
    → IsNextIn steps job old t next
sized_next {steps} job old t next some sized small sends is = record {
  some = some;
  sized = sized;
  small = small;
  sends = sends;
  is = is;
  stays = λ m at. turn_reached steps (most_in old t) job m t sized at.graph at.reached;
  few = λ m at. few_after job m t sized at.graph at.reached at.few;
  answered = λ m at. never_refused job m t (next_of job m t) sized at.graph sends at.reached refl;
}

-- with whatever samples may have come
pub came_next : {steps : ℕ} (job : Job) (old : Machine) (t : ℕ) (it : Step) (rest : List ℤ)
    (s : List (List ℤ)) → it ≢ step.NotLive → MayHaveCome job old t rest s
    → MayStep job old t steps → steps ≤ most_steps job t
    → ((m : Moment) → IsMachineAt (with_samples s job) m old
    → next_of (with_samples s job) m t ≡ next_by it)
    → IsNextIn steps (with_samples s job) old t (next_by it)
came_next job old t it rest s lives may sized small is =
    let all = with_samples s job in
    let m = may.stands.0 in
    sized_next all old t (next_by it) may.stands sized small
    (may.sends (live-is all m t (live_next all m t (next_by it) (is m may.stands.1)
    (makes_one it lives))).there) is
