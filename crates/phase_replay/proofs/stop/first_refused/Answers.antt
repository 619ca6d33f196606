use Rattle.std.proofs.Common.{ℕ, List, ◌-◌, ◌∙◌, drop, take, length, ap, sym, subst, arith}
use Rattle.std.proofs.Common.{length-drop}
use Rattle.std.proofs.lemmas.List.{take_rest}
use Rattle.phase_replay.specs.ScriptReading.{IsFirstLine, begins_as_refusal}
use Rattle.phase_replay.proofs.Stopping.{begins-refused, searches-next, searches-start}
use Rattle.phase_replay.proofs.Stopping.{searches-stop}
use Rattle.phase_replay.proofs.stop.first_refused.Goals as goal

-- No line is answered.
pub loop-end-init : goal.loop-end-init
loop-end-init c = searches-start c.args.script.now c.new-session.result c.new-session.ensures

-- the first line of what is left
next-first : (script line : List ℕ) (end used : ℕ)
    → IsFirstLine (take (length script - end) (drop end script)) line used
    → IsFirstLine (drop end script) line used
next-first script line end used first =
    subst (λ (rest : List ℕ). IsFirstLine rest line used) (take_rest script end) first

-- The line is refused.
pub returns-then-is_refusal-clause-some : goal.returns-then-is_refusal-clause-some
returns-then-is_refusal-clause-some c =
    let searches = c.loop-end.invariant in
    let first = next-first c.args.script.now _ c.loop-end.end _ c.first_line-next.ensures in
    let told = begins-refused _ _ _ c.is_refusal.result
    (c.in_ok-answer.ensures.reply _ searches.stands)
    (c.is_refusal.ensures ∙ ap begins_as_refusal c.bytes.ensures) in (
      omega (arith, first.within, length-drop c.loop-end.end c.args.script.now, searches.within),
      searches-stop c.args.script.now _ c.loop-end.end c.loop-end.number _ _ searches
          c.loop-end-test.true first (sym told ∙ c.if-is_refusal.true),
    )

-- It is taken.
pub loop-end-preserved : goal.loop-end-preserved
loop-end-preserved c =
    let searches = c.loop-end.invariant in
    let told = begins-refused _ _ _ c.is_refusal.result
    (c.in_ok-answer.ensures.reply _ searches.stands)
    (c.is_refusal.ensures ∙ ap begins_as_refusal c.bytes.ensures) in
    searches-next c.args.script.now _ c.loop-end.end c.loop-end.number _ _ _ searches
    c.loop-end-test.true (next-first c.args.script.now _ c.loop-end.end _ c.first_line-next.ensures)
    (sym told ∙ c.if-is_refusal.false)
    (c.in_ok-answer.ensures.after _ searches.stands)
