-- The values lie in two slices: it stops in the first, or goes on through the second.
use Rattle.std.proofs.Common.{◌≡◌, ℤ, ◌+◌, ◌-◌, ◌<◌, ◌≤◌, List, ◌++◌, drop, length, map, take, sym, ap, subst, ◌∙◌, arith}
use Rattle.std.specs.List.{take_while}
use Rattle.std.proofs.lemmas.List.{length-map, map-append}
use Rattle.phase_accum.proofs.Parts.{AreSends-append_left, AreSends-append_right, AreSends-take, AreSends-drop}
use Rattle.phase_accum.specs.Sends.{AreSends}
use Rattle.phase_ring.specs.Blocks.{is_not_too_big}
use Rattle.phase_ring.specs.Restarts.{plain_value}
use Rattle.phase_ring.proofs.GoodParts.{good-few, good_in_first, good_in_second}
use Rattle.phase_ring.proofs.TwoSlices.{many_first, taken_in_two}
use Rattle.phase_ring.proofs.values.Values.good_from.Given.{Over}
use Rattle.phase_ring.proofs.values.Values.good_from.Goals.{After-count_good-good}
use Rattle.phase_ring.proofs.values.Values.good_from.Goals as goal

pub count_good-good-requires : goal.count_good-good-requires
count_good-good-requires g c =
    let front = c.as_slices.result.0.now in
    AreSends-take _ _ (AreSends-take _ _ (AreSends-drop _ front (AreSends-append_left front
    c.as_slices.result.1.now (subst AreSends (sym c.as_slices.ensures) c.requires.sends))))

pub count_good-requires : goal.count_good-requires
count_good-requires g c =
    let back = c.as_slices.result.1.now in
    AreSends-take _ _ (AreSends-take _ _ (AreSends-drop _ back (AreSends-append_right
    c.as_slices.result.0.now back (subst AreSends (sym c.as_slices.ensures) c.requires.sends))))

-- the part of each slice
abbrev first : (g : Over) (c : After-count_good-good g) → List ℤ
first g c =
    let front = c.as_slices.result.0.now in
    take c.min-many.result (take (length front - c.min-in_front.result)
    (drop c.min-in_front.result front))

abbrev second : (g : Over) (c : After-count_good-good g) → List ℤ
second g c =
    let back = c.as_slices.result.1.now in
    let skipped = c.args.phase - c.args.self.now.base - c.min-in_front.result in
    take (c.args.count - c.min-many.result) (take (length back - skipped) (drop skipped back))

in_two : (g : Over) (c : After-count_good-good g) → let f = plain_value g.A.Accumulate.operation in
    map f (take c.args.count (drop (c.args.phase - c.args.self.now.base)
    c.args.self.now.queue.items)) ≡ map f (first g c) ++ map f (second g c)
in_two g c =
    let f = plain_value g.A.Accumulate.operation in
    let low = c.requires.low in
    ap (map f) (taken_in_two c.as_slices.result.0.now c.as_slices.result.1.now
    c.args.self.now.queue.items (c.args.phase - c.args.self.now.base) c.args.count
    c.min-in_front.result c.min-many.result c.as_slices.ensures c.min-in_front.ensures
    (omega (arith, c.requires.complete)) c.min-many.ensures)
    ∙ map-append f (first g c) (second g c)

long : (g : Over) (c : After-count_good-good g)
    → length (map (plain_value g.A.Accumulate.operation) (first g c)) ≡ c.min-many.result
long g c =
    let low = c.requires.low in
    length-map (first g c) (plain_value g.A.Accumulate.operation)
    ∙ many_first c.as_slices.result.0.now c.as_slices.result.1.now c.args.self.now.queue.items
    (c.args.phase - c.args.self.now.base) c.args.count c.min-in_front.result c.min-many.result
    c.as_slices.ensures c.min-in_front.ensures (omega (arith, c.requires.complete))
    c.min-many.ensures

pub returns-then-good-many : goal.returns-then-good-many
returns-then-good-many g c =
    let a = (goal.at.returns-then-good-many g c).After-count_good-good in
    let f = plain_value g.A.Accumulate.operation in
    let less : c.count_good-good.result < c.min-many.result = c.if-good-many.true in
    let is = c.count_good-good.ensures in
    let many = long g a in
    is ∙ sym (good_in_first (map f (first g a)) (map f (second g a)) (omega arith))
    ∙ ap (λ xs. length (take_while is_not_too_big xs)) (sym (in_two g a))

pub returns : goal.returns
returns g c =
    let a = (goal.at.returns g c).After-count_good-good in
    let f = plain_value g.A.Accumulate.operation in
    let all : c.min-many.result ≤ c.count_good-good.result = c.if-good-many.false in
    let is = c.count_good-good.ensures in
    let many = long g a in
    let few = good-few (map f (first g a)) in
    let behind = c.count_good.ensures in
    let sum : c.min-many.result + c.count_good.result
    ≡ length (map f (first g a)) + length (take_while is_not_too_big (map f (second g a))) =
    omega arith in
    sum ∙ sym (good_in_second (map f (first g a)) (map f (second g a)) (omega arith))
    ∙ ap (λ xs. length (take_while is_not_too_big xs)) (sym (in_two g a))
