use Rattle.std.proofs.Common.{◌≡◌, [], ◌∷◌, length, false, true, refl, sym, ap, ◌∙◌}
use Rattle.std.specs.Prelude.{Result, is_some}
use Rattle.std.specs.Result.{result_ok}
use Rattle.turn_lock.specs.Seats.{seat_view, turn_view, turn_value, turn_number, turn_told, IsSameSeat}
use Rattle.phase_shared.specs.Phasers.{GotBlock, WaitRefusal, wait_phase, wait_refusal, wait_block_reply, after_wait_block}
use Rattle.phase_history.specs.declared.refusal.WaitRefusal.TheVariants as wait
use Rattle.phase_history.specs.Replies.{got_block_at}
use Rattle.phase_history.proofs.Answered.{wait_refusal-never}
use Rattle.phase_shared.specs.LockedPhasers.{locked_terms}
use Rattle.phase_shared.specs.Views.{Unknown, resting, turning, known_of, speaks_of}
use Rattle.phase_shared.specs.Rule.{StandsWithin}
use Rattle.phase_shared.specs.Blocks.{WaitsBlock, entry_after_values}
use Rattle.phase_shared.specs.declared.seats.view.View.{View}
use Rattle.phase_shared.proofs.Answering.{refused_is}
use Rattle.phase_shared.proofs.Giving.{own_none, lent}
use Rattle.phase_shared.proofs.Stepping.{told_at, Called, called, is_found, gives_called, stepped, kept_out}
use Rattle.phase_shared.proofs.BlockSteps.{own_values, keeps_values, member_waits_block}
use Rattle.phase_shared.proofs.seats.block_steps.wait_block.Given.{Over}
use Rattle.phase_shared.proofs.seats.block_steps.wait_block.Goals.{After-wait_block-answer}
use Rattle.phase_shared.proofs.seats.block_steps.wait_block.Goals as goal

-- the phaser under the turn stood for what was seen
stood : (g : Over) (c : After-wait_block-answer g)
    → StandsWithin g.A.Accumulate.operation (locked_terms c.args.phaser.now).limits c.value_in-core.result.now c.in-Ok.ensures.turn.knows.now
stood g c =
    lent g.A.Accumulate.operation g.K.SignalRule.allows (locked_terms c.args.phaser.now) c.args.me (turn_value c.in-Ok.turn) c.value_in-core.result.now
    c.in-Ok.ensures.turn.knows.now c.value_in-core.ensures.value c.in-Ok.ensures.turn.knows.stands

-- what the wait leaves there
left : (g : Over) (c : After-wait_block-answer g) → Called g.A.Accumulate.operation g.K.SignalRule.allows (locked_terms c.args.phaser.now) c.args.me
    c.in-Ok.ensures.turn.knows.now (after_wait_block c.wait_block-answer.result c.args.me c.in-Ok.ensures.turn.knows.now) c.wait_block-answer.new.self
    (entry_after_values (result_ok c.wait_block-answer.result) c.args.entry)
left g c =
    let terms = locked_terms c.args.phaser.now in
    let e = c.in-Ok.ensures.turn.knows in
    let me = c.args.me in
    let answer = c.wait_block-answer.result in
    called g.A.Accumulate.operation g.K.SignalRule.allows terms me e.now (after_wait_block answer me e.now) c.value_in-core.result.now c.wait_block-answer.new.self
    (entry_after_values (result_ok answer) c.args.entry) (stood g c) c.wait_block-answer.ensures.limits (c.wait_block-answer.ensures.after e.now (stood g c).stands)
    (keeps_values (g.K.SignalRule.allows terms.rule) me e.now answer e.good.keeps) (own_values me e.now e.now answer (own_none me e.now))
    (member_waits_block me e.now c.args.entry answer e.member)

pub unreachable-requires : goal.unreachable-requires
unreachable-requires g c =
    let e = c.in-Ok.ensures.turn.knows in
    let answer = c.wait_block-answer.result in
    is_found g.A.Accumulate.operation g.K.SignalRule.allows (locked_terms c.args.phaser.now) c.args.me e.now (after_wait_block answer c.args.me e.now)
    c.wait_block-answer.new.self (entry_after_values (result_ok answer) c.args.entry) c.view.result
    (left g (goal.at.unreachable-requires g c).After-wait_block-answer) c.view.ensures c.in_default.is

pub put_back-seat-requires-clause-rule : goal.put_back-seat-requires-clause-rule
put_back-seat-requires-clause-rule g c =
    let e = c.in-Ok.ensures.turn.knows in
    let answer = c.wait_block-answer.result in
    gives_called g.A.Accumulate.operation g.K.SignalRule.allows (locked_terms c.args.phaser.now) c.args.me
    (λ v w. w ≡ resting (after_wait_block answer c.args.me (known_of v).seen) (speaks_of v)) (turn_number c.in-Ok.turn) (turn_told c.in-Ok.turn) c.args.entry (seat_view c.args.seat)
    (turn_view c.in-Ok.turn) (turn_value c.in-Ok.turn) c.wait_block-answer.new.self (after_wait_block answer c.args.me e.now)
    (entry_after_values (result_ok answer) c.args.entry) e (left g (goal.at.put_back-seat-requires-clause-rule g c).After-wait_block-answer) refl

pub returns : goal.returns
returns g c =
    let op = g.A.Accumulate.operation in
    let terms = locked_terms c.args.phaser.now in
    let me = c.args.me in
    let e = c.in-Ok.ensures.turn.knows in
    let after = (goal.at.returns g c).After-wait_block-answer in
    let before = stood g after in
    let answer = c.wait_block-answer.result in
    let seat = c.put_back-seat.result in
    let out = c.wait_block-answer.new.out in
    let n = length c.args.out.now in
    let new = after_wait_block answer me e.now in
    let rests : seat_view seat ≡ resting new (me ∷ []) =
    told_at (λ v. resting (after_wait_block answer me (known_of v).seen) (speaks_of v)) (seat_view seat) (turn_view c.in-Ok.turn) (turning e.now (me ∷ []) e.claims e.said Unknown)
    c.put_back-seat.ensures.knows e.is in
    let reply = c.wait_block-answer.ensures.reply e.now before.stands in
    let call : Result GotBlock WaitRefusal → Type 0 =
    WaitsBlock op.value terms.limits me (known_of (seat_view c.args.seat)).seen (known_of (seat_view seat)).seen c.args.out.now out in
    stepped op g.K.SignalRule.allows c.args.phaser.now me wait.NoTask entry_after_values
    (IsSameSeat c.args.seat seat × (c.in-Some.entry ≡ c.args.entry) × (out ≡ c.args.out.now)) call c.args.entry c.in-Some.entry c.args.seat seat e.now new c.wait_block-answer.new.self c.view.result answer c.tried_of.result c.tried_of.ensures (left g after) c.put_back-seat.ensures.here rests c.view.ensures
    c.in-Some.is
    (record {
      before = e.now;
      others = e.others;
      seen = ap (λ (v : View). (known_of v).seen) rests;
      reply = ap (λ l. wait_block_reply l e.now me n) (sym before.limits_are) ∙ reply;
      out = c.wait_block-answer.ensures.out e.now before.stands;
    })
    -- the task is registered
    (λ none. wait_refusal-never c.value_in-core.result.now.limits e.now me n (ap is_some e.member)
    (refused_is (wait_refusal c.value_in-core.result.now.limits e.now me n) (got_block_at e.now (wait_phase e.now me) n) wait.NoTask (reply ∙ none)))

-- the turn was another's
pub returns-in-Err : goal.returns-in-Err
returns-in-Err g c =
    kept_out g.A.Accumulate.operation g.K.SignalRule.allows c.args.phaser.now c.args.me wait.NoTask entry_after_values _ c.args.entry
    c.args.seat c.in-Err.seat refl (c.in-Err.ensures.err, refl, refl) c.in-Err.ensures.still
    (λ only. let z : false ≡ true = c.in-Err.ensures.alone only in cc)
