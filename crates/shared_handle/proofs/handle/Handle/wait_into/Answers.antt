-- What was got is written as numbers.
use Rattle.std.proofs.Common.{◌≡◌, Ok, Err, refl, subst}
use Rattle.phase_accum.specs.Values.{value_by}
use Rattle.phase_history.specs.declared.got.GotBlock.{GotBlock}
use Rattle.phase_history.specs.declared.got.GotBlock.TheVariants as block
use Rattle.shared_handle.specs.AnyMembers.{op_in, state_in, held_in}
use Rattle.shared_handle.specs.Calls.{BlockWaitCall}
use Rattle.shared_handle.specs.NumberBlocks.{NumbersCall}
use Rattle.shared_handle.proofs.Keeping.{StillHas-map}
use Rattle.shared_handle.proofs.NumberWaits.{numbers_call}
use Rattle.shared_handle.proofs.handle.Handle.wait_into.Goals as goal

pub returns-in-Ok-Values-clause-call : goal.returns-in-Ok-Values-clause-call
returns-in-Ok-Values-clause-call c = λ m is.
    let there = c.in-Ok-Values in
    let before = c.args.values.now in
    let after = c.write_numbers.new.values in
    let out = c.wait_block.new.out in
    StillHas-map (held_in c.wait_block.new.self.place.kept)
    (λ n. (op_in n ≡ op_in m)
    × BlockWaitCall (value_by (op_in m)) c.args.out.now out (state_in m) (state_in n)
    (Ok there.field-0))
    (λ n. (op_in n ≡ op_in m)
    × NumbersCall (value_by (op_in m)) before after (state_in m) (state_in n)
    (Ok (block.Values there.phase there.count)))
    (λ n told. (
      told.0,
      numbers_call (value_by (op_in m)) c.args.out.now out before after
          (state_in m) (state_in n) (Ok (block.Values there.phase there.count)) c.requires.asked
          c.write_numbers.ensures
          (subst (λ (got : GotBlock).
          BlockWaitCall (value_by (op_in m)) c.args.out.now out (state_in m) (state_in n) (Ok got))
          there.field-0-is told.1),
    ))
    (there.ensures.call m is)

pub returns-in-Ok-Ended-clause-call : goal.returns-in-Ok-Ended-clause-call
returns-in-Ok-Ended-clause-call c = λ m is.
    let there = c.in-Ok-Ended in
    let before = c.args.values.now in
    let out = c.wait_block.new.out in
    StillHas-map (held_in c.wait_block.new.self.place.kept)
    (λ n. (op_in n ≡ op_in m)
    × BlockWaitCall (value_by (op_in m)) c.args.out.now out (state_in m) (state_in n)
    (Ok there.field-0))
    (λ n. (op_in n ≡ op_in m)
    × NumbersCall (value_by (op_in m)) before before (state_in m) (state_in n) (Ok block.Ended))
    (λ n told. (
      told.0,
      numbers_call (value_by (op_in m)) c.args.out.now out before before
          (state_in m) (state_in n) (Ok block.Ended) c.requires.asked refl
          (subst (λ (got : GotBlock).
          BlockWaitCall (value_by (op_in m)) c.args.out.now out (state_in m) (state_in n) (Ok got))
          there.field-0-is told.1),
    ))
    (there.ensures.call m is)

pub returns-in-Err-clause-call : goal.returns-in-Err-clause-call
returns-in-Err-clause-call c = λ m is.
    let there = c.in-Err in
    let before = c.args.values.now in
    let out = c.wait_block.new.out in
    StillHas-map (held_in c.wait_block.new.self.place.kept)
    (λ n. (op_in n ≡ op_in m)
    × BlockWaitCall (value_by (op_in m)) c.args.out.now out (state_in m) (state_in n)
    (Err there.tried))
    (λ n. (op_in n ≡ op_in m)
    × NumbersCall (value_by (op_in m)) before before (state_in m) (state_in n)
    (Err there.tried))
    (λ n told. (
      told.0,
      numbers_call (value_by (op_in m)) c.args.out.now out before before
          (state_in m) (state_in n) (Err there.tried) c.requires.asked refl told.1,
    ))
    (there.ensures.call m is)
