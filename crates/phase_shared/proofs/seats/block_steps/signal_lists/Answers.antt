use Rattle.std.proofs.Common.{◌≡◌, ℕ, ℤ, List, [], ◌∷◌, length, true, false, refl, sym, ap, ◌∙◌}
use Rattle.std.specs.Prelude.{is_some, Result}
use Rattle.std.specs.Result.{result_ok}
use Rattle.turn_lock.specs.Seats.{seat_view, turn_view, turn_value, turn_number, turn_told, IsSameSeat}
use Rattle.phase_shared.specs.Phasers.{SignalRefusal, History, signal_phase, signal_refusal, signal_reply, after_signal, StandForLists, StandsFor}
use Rattle.phase_history.specs.declared.refusal.SignalRefusal.TheVariants as signal
use Rattle.phase_history.proofs.Answered.{signal_refusal-never}
use Rattle.phase_core.proofs.SignalSlots.{lists-length}
use Rattle.phase_shared.specs.LockedPhasers.{locked_terms}
use Rattle.phase_shared.specs.Views.{Unknown, resting, turning, known_of, speaks_of}
use Rattle.phase_shared.specs.Rule.{StandsWithin}
use Rattle.phase_shared.specs.Blocks.{SignalsBlock, entry_after_block}
use Rattle.phase_shared.specs.declared.seats.view.View.{View}
use Rattle.phase_shared.proofs.Answering.{refused_is, either}
use Rattle.phase_shared.proofs.Giving.{own_none, lent}
use Rattle.phase_shared.proofs.Stepping.{told_at, Called, called, is_found, gives_called, stepped, kept_out}
use Rattle.phase_shared.proofs.BlockSteps.{own_signal, keeps_signal, member_signals_block}
use Rattle.phase_shared.proofs.seats.block_steps.signal_lists.Given.{Over}
use Rattle.phase_shared.proofs.seats.block_steps.signal_lists.Goals.{After-signal_lists-answer}
use Rattle.phase_shared.proofs.seats.block_steps.signal_lists.Goals as goal

-- the phaser under the turn stood for what was seen
stood : (g : Over) (c : After-signal_lists-answer g)
    → StandsWithin g.A.Accumulate.operation (locked_terms c.args.phaser.now).limits c.value_in-core.result.now c.in-Ok.ensures.turn.knows.now
stood g c =
    lent g.A.Accumulate.operation g.K.SignalRule.allows (locked_terms c.args.phaser.now) c.args.me (turn_value c.in-Ok.turn) c.value_in-core.result.now
    c.in-Ok.ensures.turn.knows.now c.value_in-core.ensures.value c.in-Ok.ensures.turn.knows.stands

-- what the signal of these sends leaves there
left : (g : Over) (c : After-signal_lists-answer g) (sends : List (List ℤ)) → StandForLists g.A.Accumulate.operation c.args.lists.now sends
    → Called g.A.Accumulate.operation g.K.SignalRule.allows (locked_terms c.args.phaser.now) c.args.me c.in-Ok.ensures.turn.knows.now
    (after_signal c.signal_lists-answer.result c.args.me sends c.args.single c.in-Ok.ensures.turn.knows.now) c.signal_lists-answer.new.self
    (entry_after_block (length c.args.lists.now) (result_ok c.signal_lists-answer.result) c.args.entry)
left g c sends stand =
    let op = g.A.Accumulate.operation in
    let terms = locked_terms c.args.phaser.now in
    let e = c.in-Ok.ensures.turn.knows in
    let me = c.args.me in
    let n = length c.args.lists.now in
    let answer = c.signal_lists-answer.result in
    called op g.K.SignalRule.allows terms me e.now (after_signal answer me sends c.args.single e.now) c.value_in-core.result.now c.signal_lists-answer.new.self
    (entry_after_block n (result_ok answer) c.args.entry) (stood g c) c.signal_lists-answer.ensures.limits
    (c.signal_lists-answer.ensures.after e.now sends (stood g c).stands stand)
    (keeps_signal (g.K.SignalRule.allows terms.rule) me e.now answer sends c.args.single (c.requires.rule e.now sends e.good e.others stand) e.good.keeps)
    (own_signal me e.now e.now answer sends c.args.single (own_none me e.now))
    (member_signals_block me n e.now c.args.entry answer sends c.args.single (lists-length op c.args.lists.now sends stand) e.member)

-- the definition's answer, whichever lists of sends the parcels stand for
replies : (g : Over) (c : After-signal_lists-answer g) (sends : List (List ℤ)) → StandForLists g.A.Accumulate.operation c.args.lists.now sends
    → signal_reply c.value_in-core.result.now.limits c.in-Ok.ensures.turn.knows.now c.args.me sends c.args.single ≡ c.signal_lists-answer.result
replies g c sends stand =
    let P : Result ℕ SignalRefusal → Type 0 = λ r. (h : History) (lists : List (List ℤ)) → StandsFor g.A.Accumulate.operation c.value_in-core.result.now h
    → StandForLists g.A.Accumulate.operation c.args.lists.now lists → signal_reply c.value_in-core.result.now.limits h c.args.me lists c.args.single ≡ r in
    either P c.signal_lists-answer.result c.signal_lists-answer.ensures.ok c.signal_lists-answer.ensures.refused c.in-Ok.ensures.turn.knows.now sends
    (stood g c).stands stand

pub unreachable-requires : goal.unreachable-requires
unreachable-requires g c =
    let e = c.in-Ok.ensures.turn.knows in
    let held = c.are_held.ensures.held in
    let answer = c.signal_lists-answer.result in
    is_found g.A.Accumulate.operation g.K.SignalRule.allows (locked_terms c.args.phaser.now) c.args.me e.now
    (after_signal answer c.args.me held.0 c.args.single e.now) c.signal_lists-answer.new.self
    (entry_after_block (length c.args.lists.now) (result_ok answer) c.args.entry) c.view.result
    (left g (goal.at.unreachable-requires g c).After-signal_lists-answer held.0 held.1) c.view.ensures c.in_default.is

pub put_back-seat-requires-clause-rule : goal.put_back-seat-requires-clause-rule
put_back-seat-requires-clause-rule g c =
    let op = g.A.Accumulate.operation in
    let e = c.in-Ok.ensures.turn.knows in
    let held = c.are_held.ensures.held in
    let answer = c.signal_lists-answer.result in
    gives_called op g.K.SignalRule.allows (locked_terms c.args.phaser.now) c.args.me
    (λ v w. (sends : List (List ℤ)) × StandForLists op c.args.lists.now sends
    × (w ≡ resting (after_signal answer c.args.me sends c.args.single (known_of v).seen) (speaks_of v)))
    (turn_number c.in-Ok.turn) (turn_told c.in-Ok.turn) c.args.entry (seat_view c.args.seat) (turn_view c.in-Ok.turn) (turn_value c.in-Ok.turn) c.signal_lists-answer.new.self
    (after_signal answer c.args.me held.0 c.args.single e.now) (entry_after_block (length c.args.lists.now) (result_ok answer) c.args.entry) e
    (left g (goal.at.put_back-seat-requires-clause-rule g c).After-signal_lists-answer held.0 held.1) (held.0, held.1, refl)

pub returns : goal.returns
returns g c =
    let op = g.A.Accumulate.operation in
    let terms = locked_terms c.args.phaser.now in
    let me = c.args.me in
    let single = c.args.single in
    let e = c.in-Ok.ensures.turn.knows in
    let after = (goal.at.returns g c).After-signal_lists-answer in
    let before = stood g after in
    let told = c.put_back-seat.ensures.knows in
    let answer = c.signal_lists-answer.result in
    let seat = c.put_back-seat.result in
    let limits = c.value_in-core.result.now.limits in
    let new = after_signal answer me told.0 single e.now in
    let rests : seat_view seat ≡ resting new (me ∷ []) =
    told_at (λ v. resting (after_signal answer me told.0 single (known_of v).seen) (speaks_of v)) (seat_view seat) (turn_view c.in-Ok.turn)
    (turning e.now (me ∷ []) e.claims e.said Unknown) told.2 e.is in
    let call : Result ℕ SignalRefusal → Type 0 =
    SignalsBlock op terms.limits me c.args.lists.now single (known_of (seat_view c.args.seat)).seen (known_of (seat_view seat)).seen in
    stepped op g.K.SignalRule.allows c.args.phaser.now me signal.NoTask (entry_after_block (length c.args.lists.now))
    (IsSameSeat c.args.seat seat × (c.in-Some.entry ≡ c.args.entry)) call c.args.entry c.in-Some.entry c.args.seat seat e.now new
    c.signal_lists-answer.new.self c.view.result answer c.tried_of.result c.tried_of.ensures (left g after told.0 told.1) c.put_back-seat.ensures.here rests c.view.ensures c.in-Some.is
    (record {
      before = e.now;
      sends = told.0;
      others = e.others;
      stand = told.1;
      seen = ap (λ (v : View). (known_of v).seen) rests;
      reply = λ lists stand. ap (λ l. signal_reply l e.now me lists single) (sym before.limits_are) ∙ replies g after lists stand;
    })
    -- the task is registered
    (λ none. signal_refusal-never limits e.now me told.0 single (ap is_some e.member)
    (refused_is (signal_refusal limits e.now me told.0 single) (signal_phase e.now me) signal.NoTask (replies g after told.0 told.1 ∙ none)))

-- the turn was another's
pub returns-in-Err : goal.returns-in-Err
returns-in-Err g c =
    kept_out g.A.Accumulate.operation g.K.SignalRule.allows c.args.phaser.now c.args.me signal.NoTask
    (entry_after_block (length c.args.lists.now)) _ c.args.entry c.args.seat c.in-Err.seat refl (c.in-Err.ensures.err, refl)
    c.in-Err.ensures.still (λ only. let z : false ≡ true = c.in-Err.ensures.alone only in cc)
