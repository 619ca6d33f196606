-- C is told what the member answered.
use Rattle.std.proofs.Common.{◌≡◌, ap, inr, ◌∙◌, w32, to_z, of_z}
use Rattle.phase_accum.specs.Values.{value_by}
use Rattle.shared_handle.specs.AnyMembers.{op_in, state_in, held_in}
use Rattle.shared_handle.specs.NumberBlocks.{NumbersCall}
use Rattle.handle_numbers.specs.Numbers.{wait_block_status}
use Rattle.shared_handle.specs.Told.{TellsBlockWait, tried_status}
use Rattle.shared_handle.proofs.Keeping.{StillHas-map}
use Rattle.shared_handle.proofs.Statuses.{wait_block_told, wait_block_unwritten, numbers_unwritten}
use Rattle.shared_handle.proofs.block_exports.phase_member_wait_block.Goals as goal

pub returns-clause-call : goal.returns-clause-call
returns-clause-call c = λ m is.
    let answer = c.in-Ok.answer in
    let before = c.args.values.now in
    let after = c.wait_numbers.new.values in
    inr (StillHas-map (held_in c.wait_numbers.new.self.place.kept)
    (λ n. (op_in n ≡ op_in m)
    × NumbersCall (value_by (op_in m)) before after (state_in m) (state_in n) answer)
    (λ n. TellsBlockWait before after m n (to_z w32 (of_z w32 c.told_wait_block.result))
    c.args.phase.now c.write_block.new.phase c.args.count.now c.write_block.new.count)
    (λ n told. record {
      answer = answer;
      call = told.1;
      op = told.0;
      status_is = wait_block_told answer c.told_wait_block.result c.told_wait_block.ensures;
      phase_is = c.write_block.ensures.phase;
      count_is = c.write_block.ensures.count;
    })
    (c.in-Ok.ensures.call m is))

pub returns-clause-unwritten : goal.returns-clause-unwritten
returns-clause-unwritten c = λ none.
    let answer = c.in-Ok.answer in
    let told = wait_block_told answer c.told_wait_block.result c.told_wait_block.ensures in
    let same = wait_block_unwritten answer c.args.phase.now c.args.count.now
    (λ good. none (told ∙ good)) in (
      numbers_unwritten answer c.args.values.now c.wait_numbers.new.values
          (λ good. none (told ∙ good)) c.in-Ok.ensures.ended c.in-Ok.ensures.refused,
      c.write_block.ensures.phase ∙ same.0,
      c.write_block.ensures.count ∙ same.1,
    )

-- it asks
pub returns-clause-asks : goal.returns-clause-asks
returns-clause-asks c = λ a is.
    let busy = c.in-Ok.ensures.asks a is in
    inr (
      wait_block_told c.in-Ok.answer c.told_wait_block.result c.told_wait_block.ensures
          ∙ ap (tried_status wait_block_status) busy.0,
      busy.1,
    )
