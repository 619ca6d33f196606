-- A file more, or none.
use Rattle.std.proofs.Common.{◌∙◌, refl}
use Rattle.phase_stream.proofs.Standing.{same_session}
use Rattle.phase_stream.proofs.session.Session.close_left.Goals as goal
use Rattle.phase_stream.proofs.session.Session.close_left.Goals.{then-k-sources+then-not-has_live, else-k-sources}

pub loop-k-init : goal.loop-k-init
loop-k-init g c = (
  λ held old now stop st. st,
  record { job = refl; targets = refl },
  λ held s are. are,
  refl,
)

pub returns-clause-stands : goal.returns-clause-stands
returns-clause-stands g c = c.loop-k.invariant.0

pub returns-clause-same : goal.returns-clause-same
returns-clause-same g c = c.loop-k.invariant.1

pub loop-k-preserved : goal.loop-k-preserved
loop-k-preserved g c = elim c.if-k-sources.branch [
  | then-k-sources+then-not-has_live w ↦
      rw w.self-is (
        (λ held old now stop st. w.close.ensures.stands held old now stop
            (c.loop-k.invariant.0 held old now stop st)),
        same_session c.args.self.now c.loop-k.self w.close.new.self c.loop-k.invariant.1
            w.close.ensures.same,
        (λ held s are. w.close.ensures.sources held s (c.loop-k.invariant.2 held s are)),
        w.close.ensures.stream ∙ c.loop-k.invariant.3,
      )
  | else-k-sources w ↦ rw w.self-is c.loop-k.invariant
]

pub returns-clause-sources : goal.returns-clause-sources
returns-clause-sources g c = c.loop-k.invariant.2

pub returns-clause-stream : goal.returns-clause-stream
returns-clause-stream g c = c.loop-k.invariant.3
