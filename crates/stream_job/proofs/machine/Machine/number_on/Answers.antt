-- The loop goes through the registrations, and stops at the one on the phaser.
use Rattle.std.proofs.Common.{◌≡◌, ◌<◌, length, get_or, refl, sym, ap, ◌∙◌, arith}
use Rattle.std.proofs.lemmas.Option.{slice_get_read}
use Rattle.graph_base.specs.Graphs.{task_at}
use Rattle.graph_base.specs.Registrations.{registrations_of, no_registration}
use Rattle.graph_runs.specs.Nexts.{registrations_at}
use Rattle.graph_runs.specs.TaskPlaces.{registration_at}
use Rattle.graph_runs.proofs.Signalling.{live-is}
use Rattle.stream_lists.specs.Jobs.{with_samples}
use Rattle.stream_job.proofs.Children.{number_is, no_number}
use Rattle.stream_job.proofs.machine.Machine.number_on.Goals as goal

pub bounds-deref-k : goal.bounds-deref-k
bounds-deref-k c =
    let job = with_samples c.requires.0 c.args.job.now in
    let m = c.requires.1.0 in
    let at = c.requires.1.1 in
    let there = (live-is job m c.args.t c.requires.1.2).there in
    let many = at.tasks_many in
    let lt : c.args.t < length c.args.self.now.tasks.items = omega arith in
    let found = slice_get_read c.args.self.now.tasks.items (length c.args.self.now.tasks.items)
    c.args.t c.index.result.now refl lt c.index.ensures in
    let count : c.registrations-k-end.result ≡ length (registrations_at job c.args.t) =
    c.registrations-k-end.ensures.count
    ∙ ap (λ g. length (registrations_of g (task_at g c.args.t))) c.graph.ensures.graph in
    let below = c.loop-k-test.true in
    let few : c.loop-k.k < length (registrations_at job c.args.t) = omega arith in
    (number_is job c.args.self.now m c.args.t
    (registration_at job c.args.t c.loop-k.k).phaser c.loop-k.k c.index.result.now
    c.deref.result.now at c.requires.1.2 found c.deref.ensures few refl).0

pub returns-then-registration-p : goal.returns-then-registration-p
returns-then-registration-p c = λ s m at live.
    let job = with_samples s c.args.job.now in
    let there = (live-is job m c.args.t live).there in
    let many = at.tasks_many in
    let lt : c.args.t < length c.args.self.now.tasks.items = omega arith in
    let found = slice_get_read c.args.self.now.tasks.items (length c.args.self.now.tasks.items)
    c.args.t c.index.result.now refl lt c.index.ensures in
    let count : c.registrations-k-end.result ≡ length (registrations_at job c.args.t) =
    c.registrations-k-end.ensures.count
    ∙ ap (λ g. length (registrations_of g (task_at g c.args.t))) c.graph.ensures.graph in
    let below = c.loop-k-test.true in
    let few : c.loop-k.k < length (registrations_at job c.args.t) = omega arith in
    let here : (registration_at job c.args.t c.loop-k.k).phaser ≡ c.args.p =
    sym (ap (λ r. r.phaser) (c.registration.ensures
    ∙ ap (λ g. get_or (registrations_of g (task_at g c.args.t)) c.loop-k.k no_registration)
    c.graph-in-loop-k.ensures.graph)) ∙ c.if-registration-p.true in
    (number_is job c.args.self.now m c.args.t c.args.p c.loop-k.k c.index.result.now
    c.deref.result.now at live found c.deref.ensures few here).1

pub returns : goal.returns
returns c = λ s m at live.
    let job = with_samples s c.args.job.now in
    let there = (live-is job m c.args.t live).there in
    let count : c.registrations-k-end.result ≡ length (registrations_at job c.args.t) =
    c.registrations-k-end.ensures.count
    ∙ ap (λ g. length (registrations_of g (task_at g c.args.t))) c.graph.ensures.graph in
    no_number job m c.args.t c.args.p at.graph at.reached.ran there
    (λ k few. c.loop-k.invariant k (let past = c.loop-k-test.false in omega arith))
