-- By the number of the task's registration.
use Rattle.std.proofs.Common.{◌≡◌, ◌<◌, length, get_or, ap, sym, subst, ◌∙◌, arith}
use Rattle.graph_base.specs.Graphs.{task_at, phaser_at}
use Rattle.graph_base.specs.Registrations.{registrations_of, no_registration}
use Rattle.graph_base.specs.declared.registration.Registration.{Registration}
use Rattle.phase_base.specs.Members.{entry_of}
use Rattle.phase_history.specs.Histories.{members_of}
use Rattle.stream_lists.specs.Jobs.{with_samples}
use Rattle.graph_runs.specs.Moments.{limits_at}
use Rattle.graph_runs.specs.TaskPlaces.{registration_at}
use Rattle.stream_job.specs.Places.{place_in_state}
use Rattle.stream_job.specs.Standing.{entry_in}
use Rattle.stream_job.proofs.Ending.{number-at}
use Rattle.stream_job.proofs.Lively.{phaser_there}
use Rattle.stream_job.proofs.machine.Machine.standing.Goals as goal

pub core-requires-clause-phaser : goal.core-requires-clause-phaser
core-requires-clause-phaser c =
    let job = c.args.job.now in
    let is : c.registration-p.result ≡ registration_at job c.args.t c.args.k =
    c.registration-p.ensures
    ∙ ap (λ g. get_or (registrations_of g (task_at g c.args.t)) c.args.k no_registration)
    c.graph.ensures.graph in
    subst (λ p. p < length job.graph.phasers) (sym (ap (λ (r : Registration). r.phaser) is))
    (phaser_there job c.args.t c.args.k c.requires.machine.1.1.graph c.requires.task
    c.requires.registration)

pub returns : goal.returns
returns c = λ s m at.
    let job = c.args.job.now in
    let p = c.registration-p.result.phaser in
    let is : c.registration-p.result ≡ registration_at job c.args.t c.args.k =
    c.registration-p.ensures
    ∙ ap (λ g. get_or (registrations_of g (task_at g c.args.t)) c.args.k no_registration)
    c.graph.ensures.graph in
    let same : p ≡ (registration_at job c.args.t c.args.k).phaser =
    ap (λ (r : Registration). r.phaser) is in
    let long = c.len.ensures.value in
    let within = c.if-k-len.false in
    let lt : c.args.k < length c.state.result.now.numbers.items = omega arith in
    let number = number-at (with_samples s job) m c.args.t c.args.k (place_in_state c.state.result.now)
    (c.state.ensures s m at).stands lt in
    let q = (registration_at job c.args.t c.args.k).phaser in
    let n = get_or c.state.result.now.numbers.items c.args.k 0 in
    ap (entry_in (m.history q)) number
    ∙ ap (λ r. entry_of (members_of (m.history r)) n) (sym same)
    ∙ ap (λ ns. entry_of (members_of (m.history p)) (get_or ns c.args.k 0)) (sym c.deref.ensures)
    ∙ sym (c.view.ensures (phaser_at job.graph p).op (limits_at job p) (m.history p)
    (c.core.ensures s m at))
