-- Each send stands behind the first.
use Rattle.std.proofs.Common.{◌≡◌, ◌-◌, pos, get_or, sym, ap, subst, ◌∙◌, arith}
use Rattle.std.proofs.lemmas.Option.{get_or_from_slice_get, slice_get-get_or}
use Rattle.phase_accum.specs.Sends.{IsSend}
use Rattle.phase_accum.proofs.Parts.{send-same}
use Rattle.phase_ring.proofs.Held.{AreSends-at}
use Rattle.phase_ring.proofs.values.Values.value.Given.{Over}
use Rattle.phase_ring.proofs.values.Values.value.Goals.{In-Some}
use Rattle.phase_ring.proofs.values.Values.value.Goals as goal

-- what was found
found : (g : Over) (c : In-Some g)
    → get_or c.args.self.now.queue.items (c.args.phase - c.args.self.now.base) (pos 0) ≡ c.in-Some.value.now
found g c =
    get_or_from_slice_get c.args.self.now.queue.items (c.args.phase - c.args.self.now.base)
    c.in-Some.value.now (pos 0) (sym c.in-Some.ensures)

-- is a send
sent : (g : Over) (c : In-Some g) → IsSend c.in-Some.value.now
sent g c =
    let complete = c.requires.complete in
    let low = c.requires.low in
    subst IsSend (found g c) (AreSends-at c.args.self.now.queue.items (c.args.phase - c.args.self.now.base)
    (pos 0) c.requires.sends (omega arith))

pub of-requires : goal.of-requires
of-requires g c =
    let s = sent g (goal.at.of-requires g c).In-Some in
    rw (send-same c.in-Some.value.now s) s

pub unreachable-requires : goal.unreachable-requires
unreachable-requires g c =
    let complete = c.requires.complete in
    let low = c.requires.low in
    absurd (let none = sym (slice_get-get_or c.args.self.now.queue.items
    (c.args.phase - c.args.self.now.base) (pos 0) (omega arith)) ∙ sym c.in-None.ensures in cc)

pub returns : goal.returns
returns g c =
    let a = (goal.at.returns g c).In-Some in
    let op = g.A.Accumulate.operation in
    c.finish.ensures ∙ ap op.finish (c.of.ensures ∙ ap op.of (send-same c.in-Some.value.now (sent g a)
    ∙ sym (found g a)))
