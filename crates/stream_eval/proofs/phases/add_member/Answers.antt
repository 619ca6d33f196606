use Rattle.std.proofs.Common.{rules, arith, refl, ◌≡◌, ◌<◌, ◌+◌, length, w64, FitsSigned, subst, ap, sym, ◌∙◌}
use Rattle.std.proofs.lemmas.List.{length-set}
use Rattle.std.proofs.lemmas.Int.{to_z-of_z}
use Rattle.phase_accum.specs.Sends.{IsSend}
use Rattle.phase_accum.specs.Operations.{MayJoin}
use Rattle.stream_eval.proofs.Made.{AreSends-at}
use Rattle.stream_eval.proofs.Sends.{HasParts-start, MayJoin-value, HasParts-next, HasParts-whole}
use Rattle.stream_eval.proofs.phases.add_member.Goals as goal

-- no value is sent yet
pub loop-i-init : goal.loop-i-init
loop-i-init g c = (
  refl,
  λ members has few. HasParts-start _ _ members c.args.member.now.offset
      c.args.member.now.values.items has,
)

pub of-requires : goal.of-requires
of-requires g c =
    let fits : FitsSigned w64 c.index.result.now = search rules in
    let lt : c.loop-i.i < length c.args.member.now.values.items = search rules in
    rw (to_z-of_z w64 c.index.result.now fits)
    (subst (λ v. IsSend v) (sym c.index.ensures)
    (AreSends-at c.args.member.now.values.items c.loop-i.i c.index.result.now c.requires.sends
    lt))

pub join-requires : goal.join-requires
join-requires g c =
    let fits : FitsSigned w64 c.index.result.now = search rules in
    let within : c.loop-i.i < length c.args.member.now.values.items = search rules in
    let lt : (c.args.member.now.offset + c.loop-i.i) < length c.loop-i.parts = search rules in
    let send : IsSend c.index.result.now = subst (λ v. IsSend v) (sym c.index.ensures)
    (AreSends-at c.args.member.now.values.items c.loop-i.i c.index.result.now c.requires.sends
    within) in
    rw (c.of.ensures, to_z-of_z w64 c.index.result.now fits)
    (subst (λ x. MayJoin g.A.Accumulate.operation x
    (g.A.Accumulate.operation.of c.index.result.now)) (sym c.index-parts-phase.is)
    (MayJoin-value g.A.Accumulate.operation c.loop-i.parts c.requires.stands.0
    c.args.member.now.offset c.loop-i.i c.args.member.now.values.items c.index-parts-phase.result
    c.index.result.now g.met.A.Accumulate.laws
    (c.loop-i.invariant.1 c.requires.stands.0 c.requires.stands.1 c.requires.stands.2) lt
    c.requires.stands.2 send))

pub offset_bounds-parts-phase-in-loop-i : goal.offset_bounds-parts-phase-in-loop-i
offset_bounds-parts-phase-in-loop-i g c =
    let lt : (c.args.member.now.offset + c.loop-i.i) < length c.loop-i.parts = search rules in
    search rules

pub loop-i-preserved : goal.loop-i-preserved
loop-i-preserved g c =
    let fits : FitsSigned w64 c.index.result.now = search rules in
    let within : c.loop-i.i < length c.args.member.now.values.items = search rules in
    let lt : (c.args.member.now.offset + c.loop-i.i) < length c.loop-i.parts = search rules in
    let send : IsSend c.index.result.now = subst (λ v. IsSend v) (sym c.index.ensures)
    (AreSends-at c.args.member.now.values.items c.loop-i.i c.index.result.now c.requires.sends
    within) in
    let joined : c.join.result
    ≡ g.A.Accumulate.operation.join c.index-parts-phase.result
    (g.A.Accumulate.operation.of c.index.result.now) =
    c.join.ensures ∙ ap (λ y. g.A.Accumulate.operation.join c.index-parts-phase.result y)
    (c.of.ensures ∙ ap (λ v. g.A.Accumulate.operation.of v)
    (to_z-of_z w64 c.index.result.now fits)) in (
      length-set c.loop-i.parts _ _ ∙ c.loop-i.invariant.0,
      λ members has few. HasParts-next g.A.Accumulate.operation c.loop-i.parts members
          c.args.member.now.offset c.loop-i.i c.args.member.now.values.items
          c.index-parts-phase.result c.join.result c.index.result.now
          g.met.A.Accumulate.laws (c.loop-i.invariant.1 members has few) lt within few send
          c.index-parts-phase.is c.index.ensures joined,
    )

pub returns-clause-stands : goal.returns-clause-stands
returns-clause-stands g c members has few = HasParts-whole _ _ members _ _ _
    (c.loop-i.invariant.1 members has few) (λ n lt le. grind arith)
