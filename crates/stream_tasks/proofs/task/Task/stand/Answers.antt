-- A stand is of the registration whose number the loop has come to.
use Rattle.std.proofs.Common.{rules, ◌≡◌, ◌<◌, refl, length, ◌∙◌, ap}
use Rattle.graph_runs.specs.Nexts.{registrations_at}
use Rattle.graph_runs.specs.TaskPlaces.{registration_at}
use Rattle.stream_lists.specs.Stands.{call_on}
use Rattle.stream_lists.specs.declared.stand.Stand.{Stand}
use Rattle.stream_tasks.specs.Standings.{IsStandOf}
use Rattle.stream_tasks.proofs.Standing.{puts_one}
use Rattle.stream_tasks.proofs.task.Task.stand.Goals as goal

-- src/task.rt:151:9
pub loop-k-init : goal.loop-k-init
loop-k-init g c = search rules

-- src/task.rt:151:9
pub loop-k-preserved-in_default : goal.loop-k-preserved-in_default
loop-k-preserved-in_default g c = search rules

-- src/task.rt:151:9
pub loop-k-preserved : goal.loop-k-preserved
loop-k-preserved g c =
    let job = g.J.Run.job in
    let t = c.self.inside.state.number in
    let k = c.loop-k.k in
    let within : k < length (registrations_at job t) = search rules in
    let at : c.registration-at.result ≡ registration_at job t k = search rules in
    let stand : Stand = record {
      task = t;
      phaser = c.registration-at.result.phaser;
      entry = c.in-Some-Some.entry;
      next = c.call_on.result;
    } in
    let stands : IsStandOf job t stand = record {
      task = refl;
      k = k;
      registered = within;
      phaser = ap (λ r. r.phaser) at;
      at = c.next_end-end.result;
      next = c.call_on.ensures
          ∙ ap (λ r. call_on c.next_end-end.result r.input r.output) at;
    } in
    puts_one job t c.args.stands.now.items c.loop-k.stands.items c.push.new.self.items stand
    c.loop-k.invariant stands (c.in_ok-push.ensures.items)

-- src/task.rt:145:5
pub returns : goal.returns
returns g c = search rules
