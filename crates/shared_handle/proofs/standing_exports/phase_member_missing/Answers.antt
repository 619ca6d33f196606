-- C is told what the member answered.
use Rattle.std.proofs.Common.{◌≡◌, ap, ◌∙◌, w32, to_z, of_z}
use Rattle.shared_handle.specs.AnyMembers.{op_in, state_in, held_in}
use Rattle.shared_handle.specs.Calls.{MissingCall}
use Rattle.shared_handle.specs.Told.{TellsMissing, tried_status, missing_status}
use Rattle.shared_handle.proofs.Keeping.{StillHas-map}
use Rattle.shared_handle.proofs.Statuses.{missing_told, missing_unwritten}
use Rattle.shared_handle.proofs.standing_exports.phase_member_missing.Goals as goal

pub returns-clause-call : goal.returns-clause-call
returns-clause-call c = λ m is.
    let answer = c.missing-answer.result in
    let before = c.args.places.now in
    let after = c.missing-answer.new.places in
    StillHas-map (held_in c.missing-answer.new.self.place.kept)
    (λ n. (op_in n ≡ op_in m)
    × MissingCall before after (state_in m) (state_in n) answer)
    (λ n. TellsMissing before after m n (to_z w32 (of_z w32 c.told_missing.result))
    c.args.counts.now c.write_counts.new.counts)
    (λ n told. record {
      answer = answer;
      call = told.1;
      op = told.0;
      status_is = missing_told answer c.told_missing.result c.told_missing.ensures;
      counts_are = c.write_counts.ensures;
    })
    (c.missing-answer.ensures.call m is)

pub returns-clause-unwritten : goal.returns-clause-unwritten
returns-clause-unwritten c = λ none.
    let answer = c.missing-answer.result in
    let told = missing_told answer c.told_missing.result c.told_missing.ensures in
    missing_unwritten answer c.args.counts.now c.write_counts.new.counts c.args.places.now
    c.missing-answer.new.places (λ good. none (told ∙ good)) c.write_counts.ensures
    c.missing-answer.ensures.err

-- it asks
pub returns-clause-asks : goal.returns-clause-asks
returns-clause-asks c = λ a is.
    let busy = c.missing-answer.ensures.asks a is in (
      missing_told c.missing-answer.result c.told_missing.result c.told_missing.ensures
          ∙ ap (tried_status missing_status) busy.0,
      busy.1,
    )
