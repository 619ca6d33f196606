-- C is told what the member answered.
use Rattle.std.proofs.Common.{◌≡◌, ap, ◌∙◌, w32, to_z, of_z}
use Rattle.phase_accum.specs.Values.{value_by}
use Rattle.shared_handle.specs.AnyMembers.{op_in, state_in, held_in}
use Rattle.shared_handle.specs.Calls.{WaitCall}
use Rattle.shared_handle.specs.Told.{TellsWait, tried_status}
use Rattle.handle_numbers.specs.Numbers.{wait_status}
use Rattle.shared_handle.proofs.Keeping.{StillHas-map}
use Rattle.shared_handle.proofs.Statuses.{wait_told, wait_unwritten}
use Rattle.shared_handle.proofs.exports.phase_member_wait.Goals as goal

pub returns-clause-call : goal.returns-clause-call
returns-clause-call c = λ m is.
    let answer = c.wait-answer.result in
    StillHas-map (held_in c.wait-answer.new.self.place.kept)
    (λ n. (op_in n ≡ op_in m)
    × WaitCall (value_by (op_in m)) (state_in m) (state_in n) answer)
    (λ n. TellsWait m n (to_z w32 (of_z w32 c.told_wait.result)) c.args.phase.now
    c.write_got.new.phase c.args.value.now c.write_got.new.value)
    (λ n told. record {
      answer = answer;
      call = told.1;
      op = told.0;
      status_is = wait_told answer c.told_wait.result c.told_wait.ensures;
      phase_is = c.write_got.ensures.phase;
      value_is = c.write_got.ensures.value;
    })
    (c.wait-answer.ensures.call m is)

pub returns-clause-unwritten : goal.returns-clause-unwritten
returns-clause-unwritten c = λ none.
    let answer = c.wait-answer.result in
    let told = wait_told answer c.told_wait.result c.told_wait.ensures in
    let same =
    wait_unwritten answer c.args.phase.now c.args.value.now (λ good. none (told ∙ good)) in
    (c.write_got.ensures.phase ∙ same.0, c.write_got.ensures.value ∙ same.1)

-- it asks
pub returns-clause-asks : goal.returns-clause-asks
returns-clause-asks c = λ a is.
    let busy = c.wait-answer.ensures.asks a is in (
      wait_told c.wait-answer.result c.told_wait.result c.told_wait.ensures
          ∙ ap (tried_status wait_status) busy.0,
      busy.1,
    )
