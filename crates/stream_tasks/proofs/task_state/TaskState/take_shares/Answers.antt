-- The waits are one for each input. What they get is owed in turn.
use Rattle.std.proofs.Common.{rules, ◌≡◌, ◌+◌, ◌*◌, ◌≤◌, false, length, refl, ap, subst, ◌∙◌, arith, All}
use Rattle.std.specs.Prelude.{take}
use Rattle.std.proofs.lemmas.List.FromFn.{length-map-range_with_len}
use Rattle.graph_base.specs.Graphs.{task_at}
use Rattle.stream_lists.specs.Lists.{in_turn, turn_at}
use Rattle.stream_lists.specs.Ranges.{is_too_big}
use Rattle.graph_runs.proofs.Standing.{many}
use Rattle.stream_tasks.specs.Joiners.{HaveGiven, shares_in}
use Rattle.stream_tasks.proofs.JoinShares.{task_shares, whole_shares}
use Rattle.stream_tasks.proofs.task_state.TaskState.take_shares.Goals as goal

pub returns-in_default : goal.returns-in_default
returns-in_default c = λ spots task.
    c.meet.ensures.keeps c.args.job.now spots task.whole

pub take_each-requires-clause-holds : goal.take_each-requires-clause-holds
take_each-requires-clause-holds c =
    let s = c.args.self.now in
    let job = c.args.job.now in
    let whole = c.requires.next.task.whole in
    omega (
      arith,
      whole.holds,
      many job s.number whole.graph whole.there,
      c.inputs_of-inputs.ensures.count,
    )

pub returns-then-not-take_each : goal.returns-then-not-take_each
returns-then-not-take_each c = λ spots task.
    let s = c.args.self.now in
    c.meet-then-not-take_each.ensures.keeps c.args.job.now spots
    (whole_shares c.args.job.now s s.begun s.telling s.entered s.made c.take_each.new.outcomes
    c.take_each.new.holds c.requires.next.kind task.whole.places.few_made refl
    c.take_each.ensures.places c.take_each.ensures.holds task.whole)

pub returns-then-not-all_fit : goal.returns-then-not-all_fit
returns-then-not-all_fit c = λ spots task.
    let s = c.args.self.now in
    c.meet-then-not-all_fit.ensures.keeps c.args.job.now spots
    (whole_shares c.args.job.now s s.begun s.telling s.entered s.made c.take_each.new.outcomes
    c.take_each.new.holds c.requires.next.kind task.whole.places.few_made refl
    c.take_each.ensures.places c.take_each.ensures.holds task.whole)

pub returns : goal.returns
returns c = λ spots task.
    let s = c.args.self.now in
    let job = c.args.job.now in
    let each = c.args.each in
    let inputs = length (task_at job.graph s.number).inputs in
    let items = c.take_each.new.outcomes.items in
    let same : c.inputs_of-inputs.result ≡ inputs = c.inputs_of-inputs.ensures.count in
    let sum : c.in-Some.begun ≡ s.begun + c.inputs_of-inputs.result * each = search rules in
    let given : HaveGiven inputs each s.holds.items c.take_each.new.holds.items items =
    subst (λ n. HaveGiven n each s.holds.items c.take_each.new.holds.items items) same
    (c.take_each.ensures.given c.if-not-take_each.false) in
    let fit : All (λ outcome. is_too_big outcome ≡ false) (take (inputs * each) items) =
    subst (λ n. All (λ outcome. is_too_big outcome ≡ false) (take (n * each) items)) same
    (subst (λ l. All (λ outcome. is_too_big outcome ≡ false) (take (c.inputs_of-inputs.result * each) l))
    c.deref.ensures.value (c.all_fit.ensures c.if-not-all_fit.false)) in
    let kept : c.keep_in_turn.new.made.items ≡ in_turn (shares_in inputs each items) (inputs * each) =
    c.keep_in_turn.ensures.kept
    ∙ ap (λ l. in_turn (shares_in c.inputs_of-inputs.result each l) (c.inputs_of-inputs.result * each))
    c.deref-2.ensures.value
    ∙ ap (λ n. in_turn (shares_in n each items) (n * each)) same in
    let few : length c.keep_in_turn.new.made.items ≤ s.most =
    omega (
      arith,
      ap length kept,
      length-map-range_with_len (turn_at (shares_in inputs each items)) 0 (inputs * each),
      c.requires.shares.room,
    ) in
    task_shares job spots s each c.in-Some.begun 1 false c.keep_in_turn.new.made c.take_each.new.outcomes
    c.take_each.new.holds c.requires.next.kind c.requires.next.met c.requires.next.over c.requires.none
    c.requires.shares (sum ∙ ap (λ n. s.begun + n * each) same) kept few c.keep_in_turn.ensures.room
    c.take_each.ensures.places c.take_each.ensures.holds given fit task
