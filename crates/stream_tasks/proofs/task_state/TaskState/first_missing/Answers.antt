-- One child after the other.
use Rattle.std.proofs.Common.{◌≡◌, ◌<◌, ◌≤◌, ◌+◌, ℕ, length, Some, sym, subst, ap, ◌∙◌, arith, ◌⊎◌, inl, inr}
use Rattle.std.specs.Prelude.{slice_get}
use Rattle.std.proofs.lemmas.Bool.{cases_lt}
use Rattle.std.proofs.lemmas.Option.{slice_get_within, slice_get-get_or, same_Some}
use Rattle.graph_runs.specs.Nexts.{registrations_at}
use Rattle.stream_tasks.specs.declared.child.Child.{Child}
use Rattle.stream_tasks.specs.Tasks.{IsMissing}
use Rattle.stream_tasks.proofs.task_state.TaskState.first_missing.Goals as goal

pub is_missing-requires : goal.is_missing-requires
is_missing-requires c =
    let items = c.args.self.now.children.items in
    let count : c.len-i-end.result ≡ c.args.self.now.children.len = c.len-i-end.ensures in
    let long : c.args.self.now.children.len ≡ length items = c.args.self.now.children.ok.0 in
    let test = c.loop-i-test.true in
    let found : slice_get items c.loop-i.i ≡ Some c.index.result.now =
    slice_get-get_or items c.loop-i.i c.index.result.now (omega arith) ∙ sym (ap Some c.index.ensures) in
    (c.requires.children.each c.loop-i.i c.index.result.now found).of_task.there

pub returns-then-is_missing-clause-some : goal.returns-then-is_missing-clause-some
returns-then-is_missing-clause-some c =
    let items = c.args.self.now.children.items in
    let count : c.len-i-end.result ≡ c.args.self.now.children.len = c.len-i-end.ensures in
    let long : c.args.self.now.children.len ≡ length items = c.args.self.now.children.ok.0 in
    let test = c.loop-i-test.true in
    let missing : IsMissing c.args.job.now c.args.self.now c.loop-i.i = record {
      kid = c.index.result.now;
      found = slice_get-get_or items c.loop-i.i c.index.result.now (omega arith) ∙ sym (ap Some c.index.ensures);
      now = c.is_missing.ensures.at c.if-is_missing.true;
      few = c.is_missing.ensures.few c.if-is_missing.true;
    } in
    missing

pub loop-i-preserved : goal.loop-i-preserved
loop-i-preserved c = λ i child less at now. by i child less at now (cases_lt i c.loop-i.i)
  where
    by : (i : ℕ) (child : Child) → i < c.loop-i.i + 1
        → slice_get c.args.self.now.children.items i ≡ Some child → child.at ≡ c.args.self.now.begun
        → (i < c.loop-i.i) ⊎ (c.loop-i.i ≤ i)
        → length (registrations_at c.args.job.now child.task) ≤ length child.numbers.items
    by i child less at now (inl low) = c.loop-i.invariant i child low at now
    by i child less at now (inr high) =
        let same : i ≡ c.loop-i.i = omega arith in
        let items = c.args.self.now.children.items in
        let here : slice_get items c.loop-i.i ≡ Some child = subst (λ x. slice_get items x ≡ Some child) same at in
        let is : c.index.result.now ≡ child =
        same_Some c.index.result.now child
        (ap Some c.index.ensures
        ∙ sym (slice_get-get_or items c.loop-i.i c.index.result.now (slice_get_within items c.loop-i.i child here)) ∙ here) in
        subst (λ x. length (registrations_at c.args.job.now x.task) ≤ length x.numbers.items) is
        (c.is_missing.ensures.no c.if-is_missing.false (ap (λ x. x.at) is ∙ now))

pub returns-clause-none : goal.returns-clause-none
returns-clause-none c = λ no i child at now.
    let within : i < length c.args.self.now.children.items = slice_get_within c.args.self.now.children.items i child at in
    let count : c.len-i-end.result ≡ c.args.self.now.children.len = c.len-i-end.ensures in
    let long : c.args.self.now.children.len ≡ length c.args.self.now.children.items = c.args.self.now.children.ok.0 in
    let past = c.loop-i-test.false in
    c.loop-i.invariant i child (omega arith) at now
