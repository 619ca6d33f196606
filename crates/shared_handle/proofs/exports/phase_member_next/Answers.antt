-- C is told what the member answered.
use Rattle.std.proofs.Common.{◌≡◌, Option, refl, sym, ap, subst, ◌∙◌, w32, to_z, of_z}
use Rattle.std.proofs.lemmas.Int.{to_z-of_z}
use Rattle.phase_accum.specs.Values.{value_by}
use Rattle.phase_accum.specs.declared.single.Single.{Single}
use Rattle.shared_handle.specs.AnyMembers.{op_in, state_in, held_in}
use Rattle.shared_handle.specs.Calls.{NextCall}
use Rattle.shared_handle.specs.Told.{TellsNext, tried_status, next_status}
use Rattle.shared_handle.proofs.FirstRefusals.{signal_word_fits}
use Rattle.shared_handle.proofs.Keeping.{StillHas-map}
use Rattle.shared_handle.proofs.Statuses.{next_told, next_unwritten, next_no_phase}
use Rattle.shared_handle.proofs.exports.phase_member_next.Goals as goal

pub returns-clause-call : goal.returns-clause-call
returns-clause-call c = λ m named is names sends few.
    let values = c.args.values.now in
    let answer = c.next-answer.result in
    let found = (simp (to_z-of_z, c.ranges.low, c.ranges.high) at
    (c.signal_words.ensures.good named)) names sends few in
    let same : c.in-Ok.named ≡ named = let z = sym c.in-Ok.is ∙ found in cc in
    StillHas-map (held_in c.next-answer.new.self.place.kept)
    (λ n. (op_in n ≡ op_in m) × NextCall (value_by (op_in m)) values c.in-Ok.named
    (state_in m) (state_in n) answer)
    (λ n. TellsNext values named m n (to_z w32 (of_z w32 c.told_next.result))
    c.args.phase.now c.write_next.new.phase c.args.value.now c.write_next.new.value)
    (λ n told. record {
      answer = answer;
      call = subst (λ (s : Option Single). NextCall (value_by (op_in m)) values s
          (state_in m) (state_in n) answer) same told.1;
      op = told.0;
      status_is = next_told answer c.told_next.result c.told_next.ensures;
      phase_is = c.write_next.ensures.phase;
      value_is = c.write_next.ensures.value;
    })
    (c.next-answer.ensures.call m is)

pub returns-clause-unwritten : goal.returns-clause-unwritten
returns-clause-unwritten c = λ none.
    let answer = c.next-answer.result in
    let told = next_told answer c.told_next.result c.told_next.ensures in
    c.write_next.ensures.value
    ∙ next_unwritten answer c.args.value.now (λ good. none (told ∙ good))

pub returns-clause-no_phase : goal.returns-clause-no_phase
returns-clause-no_phase c = λ none wait ended.
    let answer = c.next-answer.result in
    let told = next_told answer c.told_next.result c.told_next.ensures in
    c.write_next.ensures.phase
    ∙ next_no_phase answer c.args.phase.now (λ good. none (told ∙ good))
    (λ signalled. wait (told ∙ signalled)) (λ over. ended (told ∙ over))

pub returns-in-Err-clause-refused : goal.returns-in-Err-clause-refused
returns-in-Err-clause-refused c = λ status there bad.
    let found = (simp (to_z-of_z, c.ranges.low, c.ranges.high) at
    (c.signal_words.ensures.bad status)) bad in
    let same : c.in-Err.status ≡ status = let z = sym c.in-Err.is ∙ found in cc in (
      ap (λ s. to_z w32 (of_z w32 s)) same
          ∙ signal_word_fits c.args.values.now c.args.single c.args.low c.args.high status bad,
      refl,
    )

pub returns-clause-refused : goal.returns-clause-refused
returns-clause-refused c = λ status there bad.
    let found = (simp (to_z-of_z, c.ranges.low, c.ranges.high) at
    (c.signal_words.ensures.bad status)) bad in
    absurd (let z = sym c.in-Ok.is ∙ found in cc)

-- it asks
pub returns-clause-asks : goal.returns-clause-asks
returns-clause-asks c = λ a named is names sends few.
    let busy = c.next-answer.ensures.asks a is in (
      next_told c.next-answer.result c.told_next.result c.told_next.ensures
          ∙ ap (tried_status next_status) busy.0,
      busy.1,
    )
