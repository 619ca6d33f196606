-- The values are the share of the output whose turn it is.
use Rattle.std.proofs.Common.{◌≡◌, ◌<◌, ◌≤◌, length, refl, sym, subst, ap, ◌∙◌, arith}
use Rattle.std.specs.Vec.{with_item}
use Rattle.graph_base.specs.Graphs.{phaser_at, task_at}
use Rattle.graph_base.specs.Registrations.{signalled_by}
use Rattle.stream_lists.specs.Lists.{every}
use Rattle.stream_tasks.specs.Deals.{DealtThen, HasDealRoom}
use Rattle.stream_tasks.specs.Holds.{HoldGoesOn, MemberHasSignalled}
use Rattle.stream_tasks.proofs.Dealing.{split_ends}
use Rattle.stream_tasks.proofs.DealStates.{deal_left, has_list_places, share_few, share_of, task_gathers, task_shares, then_few}
use Rattle.stream_tasks.proofs.Turning.{held, output_on, task_sees}
use Rattle.stream_tasks.proofs.task_state.TaskState.put_share.Goals as goal

pub index_mut-requires : goal.index_mut-requires
index_mut-requires c =
    let job = c.args.job.now in
    let s = c.args.self.now in
    let task = c.requires.task.1 in
    let j = c.next_output.result in
    let left = deal_left job c.requires.task.0 s c.requires.met c.requires.dealing task in
    let ends = split_ends job s.number task.whole.graph task.whole.there left.2 in
    let less : j < length (signalled_by (task_at job.graph s.number)) =
    omega (arith, c.next_output.ensures.within, ap length ends.0) in
    let on = output_on job s j c.output_of-k.result.0 c.output_of-k.result.1 task.whole less
    c.output_of-k.ensures.registration c.output_of-k.ensures.phaser in
    omega (arith, on.0, task.whole.holds, s.holds.ok.0)

-- there are places for the share
pub put_list-requires : goal.put_list-requires
put_list-requires c =
    let job = c.args.job.now in
    let spots = c.requires.task.0 in
    let s = c.args.self.now in
    let task = c.requires.task.1 in
    let j = c.next_output.result in
    let k = c.output_of-k.result.0 in
    let p = c.output_of-k.result.1 in
    let hold = c.index_mut.result.now in
    let share = c.deref-2.result.now in
    let m = (task.stands c.requires.met).0 in
    let at = (task.stands c.requires.met).1 in
    let left = deal_left job spots s c.requires.met c.requires.dealing task in
    let ends = split_ends job s.number task.whole.graph task.whole.there left.2 in
    let less : j < length (signalled_by (task_at job.graph s.number)) =
    omega (arith, c.next_output.ensures.within, ap length ends.0) in
    let on = output_on job s j k p task.whole less c.output_of-k.ensures.registration c.output_of-k.ensures.phaser in
    let none : length s.lefts.items ≡ 0 = task.whole.staying c.requires.over in
    let is : share ≡ share_of job s =
    c.deref-2.ensures.value ∙ c.gather.ensures.share
    ∙ ap (λ n. every n s.deal.turn c.deref.result.now) c.outputs_of-outputs.ensures.count
    ∙ ap (λ l. every (length (task_at job.graph s.number).outputs) s.deal.turn l) c.deref.ensures.value in
    let few : length share ≤ length s.deal.values.items =
    subst (λ l. length l ≤ length s.deal.values.items) (sym is) (share_few job s left.0) in
    let room = task.whole.places.few_dealt in
    has_list_places job spots m s j p (length share) hold
    (held job spots m s k p hold task.whole at on.0 on.1 (omega arith) c.index_mut.ensures.value)
    c.output_of-k.ensures.phaser c.next_output.ensures.within left.2 task.whole.places (omega arith)

pub go_on-requires : goal.go_on-requires
go_on-requires c =
    (deal_left c.args.job.now c.requires.task.0 c.args.self.now c.requires.met c.requires.dealing c.requires.task.1).1

pub returns-in-Ok : goal.returns-in-Ok
returns-in-Ok c = λ spots task.
    let job = c.args.job.now in
    let s = c.args.self.now in
    let j = c.next_output.result in
    let k = c.output_of-k.result.0 in
    let p = c.output_of-k.result.1 in
    let deal = c.go_on.new.self in
    let outputs = length (task_at job.graph s.number).outputs in
    let left = deal_left job spots s c.requires.met c.requires.dealing task in
    let ends = split_ends job s.number task.whole.graph task.whole.there left.2 in
    let less : j < length (signalled_by (task_at job.graph s.number)) =
    omega (arith, c.next_output.ensures.within, ap length ends.0) in
    let on = output_on job s j k p task.whole less c.output_of-k.ensures.registration c.output_of-k.ensures.phaser in
    let is : c.deref-2.result.now ≡ share_of job s =
    c.deref-2.ensures.value ∙ c.gather.ensures.share
    ∙ ap (λ n. every n s.deal.turn c.deref.result.now) c.outputs_of-outputs.ensures.count
    ∙ ap (λ l. every outputs s.deal.turn l) c.deref.ensures.value in
    let then : DealtThen outputs s.deal.turn s.deal.values.items deal =
    subst (λ n. DealtThen n s.deal.turn s.deal.values.items deal) c.outputs_of-outputs.ensures.count
    c.go_on.ensures.then in
    let had : HasDealRoom s.most s.deal = task.whole.places.deal left.2 in
    let room : HasDealRoom s.most deal = record {
      values = subst (λ n. s.most ≤ n) (sym c.go_on.ensures.room) had.values;
      share = subst (λ v. s.most ≤ v.cap) (sym c.go_on.ensures.share)
          (subst (λ n. s.most ≤ n) (sym c.gather.ensures.room) had.share);
    } in
    let few = then_few outputs s.deal.turn s.deal.values.items deal then in
    let most = task.whole.places.few_dealt in
    task_shares job spots s j k p c.index_mut.result.now c.put_list.new.hold c.put_list.new.places deal on.0 on.1
    (sym c.output_of-k.ensures.phaser) c.requires.over c.requires.met c.requires.dealing
    c.next_output.ensures.output then (omega (arith, few, most)) room c.put_list.ensures.places
    c.index_mut.ensures.value
    (subst (λ l. HoldGoesOn (MemberHasSignalled l (phaser_at job.graph p).single) c.index_mut.result.now c.put_list.new.hold)
    is
    (subst (λ o. HoldGoesOn (MemberHasSignalled c.deref-2.result.now o) c.index_mut.result.now c.put_list.new.hold)
    (ap (λ l. l.single) (c.phaser.ensures.phaser ∙ ap (λ g. phaser_at g p) c.graph.ensures.graph)) c.in-Ok.ensures.ok))
    task

pub returns-in-Err : goal.returns-in-Err
returns-in-Err c = λ spots task.
    let job = c.args.job.now in
    let s = c.args.self.now in
    let j = c.next_output.result in
    let k = c.output_of-k.result.0 in
    let p = c.output_of-k.result.1 in
    let left = deal_left job spots s c.requires.met c.requires.dealing task in
    let ends = split_ends job s.number task.whole.graph task.whole.there left.2 in
    let less : j < length (signalled_by (task_at job.graph s.number)) =
    omega (arith, c.next_output.ensures.within, ap length ends.0) in
    let on = output_on job s j k p task.whole less c.output_of-k.ensures.registration c.output_of-k.ensures.phaser in
    let none : length s.lefts.items ≡ 0 = task.whole.staying c.requires.over in
    let had : HasDealRoom s.most s.deal = task.whole.places.deal left.2 in
    task_gathers job spots
    (record s { places = c.put_list.new.places; holds = with_item s.holds k c.put_list.new.hold })
    (record s.deal { share = c.gather.new.share }) refl refl
    (record {
      values = had.values;
      share = subst (λ n. s.most ≤ n) (sym c.gather.ensures.room) had.share;
    })
    (task_sees job spots s k p c.index_mut.result.now c.put_list.new.hold s.lines s.entered s.outcomes c.put_list.new.places
    refl c.put_list.ensures.places on.0 on.1 (omega arith) c.index_mut.ensures.value refl c.in-Err.ensures.err task)
