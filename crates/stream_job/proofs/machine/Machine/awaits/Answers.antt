-- The task's state says how many samples it has signalled.
use Rattle.std.proofs.Common.{◌≡◌, ◌<◌, length, drop, refl, ap, sym, ◌∙◌, arith}
use Rattle.std.proofs.lemmas.Option.{slice_get_read}
use Rattle.stream_lists.specs.Jobs.{samples_at}
use Rattle.stream_job.proofs.machine.Machine.awaits.Goals as goal

pub returns : goal.returns
returns c =
    let job = c.args.job.now in
    let t = c.args.t in
    let tasks = c.args.self.now.tasks.items in
    let state = c.index.result.now in
    record {
      stands = c.requires.machine;
      awaits = λ m at there source.
          let many : length tasks ≡ length job.graph.tasks = at.tasks_many in
          let lt : t < length job.graph.tasks = there in
          let stands = (at.tasks t state
          (slice_get_read tasks (length tasks) t state refl (omega arith)
          c.index.ensures)).stands in
          ap (λ n. drop n (samples_at job t)) stands.begun
          ∙ sym c.samples_from.ensures.value;
      sends = λ there. c.samples_from.ensures.sends;
    }
