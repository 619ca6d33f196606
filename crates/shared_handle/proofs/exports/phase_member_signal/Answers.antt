-- C is told what the member answered.
use Rattle.std.proofs.Common.{◌≡◌, Option, refl, sym, ap, subst, ◌∙◌, w32, to_z, of_z}
use Rattle.std.proofs.lemmas.Int.{to_z-of_z}
use Rattle.phase_accum.specs.Values.{value_by}
use Rattle.phase_accum.specs.declared.single.Single.{Single}
use Rattle.shared_handle.specs.AnyMembers.{op_in, state_in, held_in}
use Rattle.shared_handle.specs.Calls.{SignalCall}
use Rattle.shared_handle.specs.Told.{TellsSignal, tried_status}
use Rattle.handle_numbers.specs.Numbers.{signal_status}
use Rattle.shared_handle.proofs.FirstRefusals.{signal_word_fits}
use Rattle.shared_handle.proofs.Keeping.{StillHas-map}
use Rattle.shared_handle.proofs.Statuses.{signal_told, signal_unwritten}
use Rattle.shared_handle.proofs.exports.phase_member_signal.Goals as goal

pub returns-clause-call : goal.returns-clause-call
returns-clause-call c = λ m named is names sends few.
    let values = c.args.values.now in
    let answer = c.signal-answer.result in
    let found = (simp (to_z-of_z, c.ranges.low, c.ranges.high) at
    (c.signal_words.ensures.good named)) names sends few in
    let same : c.in-Ok.named ≡ named = let z = sym c.in-Ok.is ∙ found in cc in
    StillHas-map (held_in c.signal-answer.new.self.place.kept)
    (λ n. (op_in n ≡ op_in m) × SignalCall (value_by (op_in m)) values c.in-Ok.named
    (state_in m) (state_in n) answer)
    (λ n. TellsSignal values named m n (to_z w32 (of_z w32 c.told_signal.result))
    c.args.phase.now c.write_signalled.new.phase)
    (λ n told. record {
      answer = answer;
      call = subst (λ (s : Option Single). SignalCall (value_by (op_in m)) values s
          (state_in m) (state_in n) answer) same told.1;
      op = told.0;
      status_is = signal_told answer c.told_signal.result c.told_signal.ensures;
      phase_is = c.write_signalled.ensures;
    })
    (c.signal-answer.ensures.call m is)

pub returns-clause-unwritten : goal.returns-clause-unwritten
returns-clause-unwritten c = λ none.
    let answer = c.signal-answer.result in
    let told = signal_told answer c.told_signal.result c.told_signal.ensures in
    c.write_signalled.ensures
    ∙ signal_unwritten answer c.args.phase.now (λ good. none (told ∙ good))

pub returns-in-Err-clause-refused : goal.returns-in-Err-clause-refused
returns-in-Err-clause-refused c = λ status there bad.
    let found = (simp (to_z-of_z, c.ranges.low, c.ranges.high) at
    (c.signal_words.ensures.bad status)) bad in
    let same : c.in-Err.status ≡ status = let z = sym c.in-Err.is ∙ found in cc in (
      ap (λ s. to_z w32 (of_z w32 s)) same
          ∙ signal_word_fits c.args.values.now c.args.single c.args.low c.args.high status bad,
      refl,
    )

pub returns-clause-refused : goal.returns-clause-refused
returns-clause-refused c = λ status there bad.
    let found = (simp (to_z-of_z, c.ranges.low, c.ranges.high) at
    (c.signal_words.ensures.bad status)) bad in
    absurd (let z = sym c.in-Ok.is ∙ found in cc)

-- it asks
pub returns-clause-asks : goal.returns-clause-asks
returns-clause-asks c = λ a named is names sends few.
    let busy = c.signal-answer.ensures.asks a is in (
      signal_told c.signal-answer.result c.told_signal.result c.told_signal.ensures
          ∙ ap (tried_status signal_status) busy.0,
      busy.1,
    )
