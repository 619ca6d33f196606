use Rattle.std.proofs.Common.{◌≡◌, [], ◌∷◌, Ok, Err, List, refl, sym, subst, ap, ◌∙◌}
use Rattle.phase_shared.specs.Phasers.{Outcome, History, OthersCame}
use Rattle.phase_history.specs.declared.refusal.WaitRefusal.TheVariants.{NotYet, NoTask}
use Rattle.phase_shared.specs.Regs.{phaser_terms}
use Rattle.phase_shared.specs.Calls.{Tries}
use Rattle.phase_shared.specs.Closings.{refusal_of_stop}
use Rattle.phase_shared.specs.Blocks.{WaitsBlock, entry_after_values}
use Rattle.phase_shared.proofs.Answering.{again}
use Rattle.phase_shared.proofs.Later.{waits_on_as, accepted, refused}
use Rattle.phase_shared.proofs.LaterBlocks.{waits_block_later}
use Rattle.phase_shared.proofs.reg.Reg.wait_block_until.Goals as goal

pub returns-in-Ok-clause-call : goal.returns-in-Ok-clause-call
returns-in-Ok-clause-call g c =
    let start = c.args.self.now in
    let i = c.loop.invariant in
    let w = i.waited in
    let value = g.A.Accumulate.operation.value in
    let terms = phaser_terms c.args.phaser.now in
    let now = c.loop.self in
    let new = c.try_wait_block.new.self in
    let out = c.try_wait_block.new.out in
    let answer = Ok c.in-Ok.got in
    let same = (new ≡ now) × (out ≡ c.loop.out) in
    let call = WaitsBlock value terms.limits now.number now.seen new.seen c.loop.out out in
    let t = c.try_wait_block.ensures.call in
    let P : List Outcome → Type 0 = λ o. WaitsBlock value terms.limits start.number start.seen new.seen o out answer in
    accepted g.K.SignalRule.allows terms NoTask entry_after_values start now new w (Tries same call c.try_wait_block.result)
    (P c.args.out.now) c.try_wait_block.result c.in-Ok.got c.in-Ok.is t
    (subst P i.out (waits_block_later value terms.limits start.number now.number start.seen now.seen new.seen c.loop.out out answer w.number w.others
    (subst (λ r. Tries same call r) c.in-Ok.is t.call)))

pub returns-in-Some-ends_wait-clause-call : goal.returns-in-Some-ends_wait-clause-call
returns-in-Some-ends_wait-clause-call g c =
    let start = c.args.self.now in
    let i = c.loop.invariant in
    let w = i.waited in
    let value = g.A.Accumulate.operation.value in
    let terms = phaser_terms c.args.phaser.now in
    let now = c.loop.self in
    let new = c.try_wait_block.new.self in
    let out = c.try_wait_block.new.out in
    let refusal = (refusal_of_stop NotYet c.in-Some-ends_wait.stopped) in
    let same = (new ≡ now) × (out ≡ c.loop.out) in
    let call = WaitsBlock value terms.limits now.number now.seen new.seen c.loop.out out in
    let t = c.try_wait_block.ensures.call in
    let is = c.in-Err.is ∙ ap Err c.in-Some-ends_wait.ensures.some in
    let P : List Outcome → Type 0 = λ o. WaitsBlock value terms.limits start.number start.seen new.seen o out (Err refusal) in
    refused g.K.SignalRule.allows terms NoTask entry_after_values start now new w (Tries same call c.try_wait_block.result)
    (P c.args.out.now) c.try_wait_block.result refusal is t
    (subst P i.out (waits_block_later value terms.limits start.number now.number start.seen now.seen new.seen c.loop.out out (Err refusal) w.number w.others
    (subst (λ r. Tries same call r) is t.call)))

pub loop-preserved : goal.loop-preserved
loop-preserved g c =
    let i = c.loop.invariant in
    let value = g.A.Accumulate.operation.value in
    let terms = phaser_terms c.args.phaser.now in
    let now = c.loop.self in
    let new = c.try_wait_block.new.self in
    let out = c.try_wait_block.new.out in
    let same = (new ≡ now) × (out ≡ c.loop.out) in
    let call = WaitsBlock value terms.limits now.number now.seen new.seen c.loop.out out in
    let t = c.try_wait_block.ensures.call in
    let written : out ≡ c.loop.out =
    again same call NotYet (out ≡ c.loop.out) c.in-Err.tried c.in_default.ensures.none (subst (λ r. Tries same call r) c.in-Err.is t.call)
    (λ still. still.1) (λ w. w.out) in
    record {
      waited = waits_on_as g.K.SignalRule.allows terms NoTask entry_after_values c.args.self.now now new i.waited same call NotYet c.in-Err.tried
          c.try_wait_block.result c.in-Err.is c.in_default.ensures.none t (λ still. still.0)
          (λ w. subst (λ (h : History). OthersCame (now.number ∷ []) now.seen h) (sym w.seen) w.others) (λ e. refl) c.try_wait_block.ensures.held;
      out = written ∙ i.out;
    }
