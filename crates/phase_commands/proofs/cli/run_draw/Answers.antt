use Rattle.std.proofs.Common.{inl, inr, refl}
use Rattle.std.proofs.lemmas.Result.{IfErr-weaker}
use Rattle.graph_commands.proofs.Ends.{ends-by, ends-status, fails-place, fails-status, undrawn-place, undrawn-status}
use Rattle.phase_commands.specs.Ends.{MayEndAs}
use Rattle.phase_words.specs.CommandLine.{draw}
use Rattle.phase_commands.proofs.cli.run_draw.Goals as goal

-- its failure has the place that it tells of
pub end-requires : goal.end-requires
end-requires g c =
    IfErr-weaker c.draw-done.result _ _
    (λ found fails. fails-place _ _ g.W.Write.contents _ _ found (undrawn-place (g.F.Files.file c.args.streams.now.files) c.args.graph.now) fails)
    c.draw-done.ensures.failed

pub returns-clause-status : goal.returns-clause-status
returns-clause-status g c =
    ends-status _ _ (MayEndAs (draw c.args.explain c.args.graph.now)) c.draw-done.result c.end.result c.draw-done.ensures.failed
    c.end.ensures.done c.end.ensures.status (inl refl)
    (λ found fails. fails-status _ _ g.W.Write.contents _ _ found (MayEndAs (draw c.args.explain c.args.graph.now))
    (λ found cause. inr (undrawn-status (g.F.Files.file c.args.streams.now.files) c.args.graph.now found cause)) (inr (inr refl)) fails)

-- a failure is told
pub returns-clause-ends : goal.returns-clause-ends
returns-clause-ends g c =
    ends-by _ c.args.explain _ _ c.draw-done.result c.end.result _ _ c.draw-done.ensures.done
    c.draw-done.ensures.failed c.end.ensures.done c.end.ensures.status c.end.ensures.told
