-- One number more is kept.
use Rattle.std.proofs.Common.{rules, SFits, w64, to_z, of_z, pos, ◌≡◌, ◌<◌, ◌≤◌, ◌+◌, ◌++◌, ◌∷◌, [], length, map, get_or, refl, sym, ap, ◌∙◌, arith, to_z-of_z}
use Rattle.std.specs.Prelude.{take}
use Rattle.std.proofs.lemmas.List.{append_assoc, append-nil, take_more, take_all, length-append, length-map, length-take-le, map-append}
use Rattle.phase_accum.specs.declared.outcome.Outcome.TheVariants.{Value}
use Rattle.stream_lists.specs.Lists.{number}
use Rattle.stream_tasks.proofs.turn.keep_all.Goals as goal

pub loop-outcome-init : goal.loop-outcome-init
loop-outcome-init c = (sym (append-nil c.args.lines.now.items), refl)

pub push_reserved-requires : goal.push_reserved-requires
push_reserved-requires c =
    let i = c.loop-outcome.outcome-index in
    let first = take i c.args.outcomes.now in
    let within : i < length c.args.outcomes.now = c.loop-outcome-test.true in
    let long : length (map number first) ≡ i =
    length-map first number ∙ length-take-le i c.args.outcomes.now (omega arith) in
    let sum = length-append c.args.lines.now.items (map number first) in
    let many = ap length c.loop-outcome.invariant.0 in
    let same = c.loop-outcome.invariant.1 in
    omega (arith, c.requires, c.loop-outcome.lines.ok.0, c.args.lines.now.ok.0)

pub loop-outcome-preserved : goal.loop-outcome-preserved
loop-outcome-preserved c =
    let i = c.loop-outcome.outcome-index in
    let outcomes = c.args.outcomes.now in
    let lines = c.args.lines.now.items in
    let xs = map number (take i outcomes) in
    let x = number (get_or outcomes i (Value (pos 0))) in
    let within : i < length outcomes = c.loop-outcome-test.true in
    let more : map number (take (i + 1) outcomes) ≡ xs ++ x ∷ [] =
    ap (map number) (take_more outcomes i (Value (pos 0)) within)
    ∙ map-append number (take i outcomes) (get_or outcomes i (Value (pos 0)) ∷ []) in
    let fits : SFits w64 c.number_taken.result = search rules in
    let got : to_z w64 (of_z w64 c.number_taken.result) ≡ x =
    to_z-of_z fits ∙ c.number_taken.ensures in (
      c.push_reserved.ensures.items ∙ ap (λ y. c.loop-outcome.lines.items ++ y ∷ []) got
          ∙ ap (λ l. l ++ x ∷ []) c.loop-outcome.invariant.0 ∙ append_assoc lines xs (x ∷ [])
          ∙ ap (λ l. lines ++ l) (sym more),
      c.push_reserved.ensures.capacity ∙ c.loop-outcome.invariant.1,
    )

pub returns-clause-kept : goal.returns-clause-kept
returns-clause-kept c =
    let outcomes = c.args.outcomes.now in
    let over : length outcomes ≤ c.loop-outcome.outcome-index = c.loop-outcome-test.false in
    c.loop-outcome.invariant.0
    ∙ ap (λ l. c.args.lines.now.items ++ map number l) (take_all c.loop-outcome.outcome-index outcomes over)

pub returns-clause-room : goal.returns-clause-room
returns-clause-room c = c.loop-outcome.invariant.1
