use Rattle.std.proofs.Common.{inl, inr, refl}
use Rattle.std.proofs.lemmas.Result.{IfErr-weaker}
use Rattle.graph_commands.proofs.Counted.{known-same}
use Rattle.graph_commands.proofs.Ends.{ends-by, ends-status, fails-place, fails-status, unread-place, unread-status}
use Rattle.graph_commands.specs.Folders.{known_by}
use Rattle.phase_commands.specs.Ends.{MayEndAs}
use Rattle.phase_words.specs.CommandLine.{check}
use Rattle.phase_commands.proofs.cli.run_check.Goals as goal

-- its failure has the place that it tells of
pub end-requires : goal.end-requires
end-requires g c =
    IfErr-weaker c.check-done.result _ _
    (λ found fails. fails-place _ _ g.W.Write.contents _ _ found (unread-place (g.F.Files.file c.look_by.new.files) c.args.graph.now) fails)
    c.check-done.ensures.failed

pub returns-clause-status : goal.returns-clause-status
returns-clause-status g c =
    ends-status _ _ (MayEndAs (check c.args.beside c.args.explain c.args.graph.now)) c.check-done.result c.end.result c.check-done.ensures.failed
    c.end.ensures.done c.end.ensures.status (inl refl)
    (λ found fails. fails-status _ _ g.W.Write.contents _ _ found (MayEndAs (check c.args.beside c.args.explain c.args.graph.now))
    (λ found cause. inr (unread-status (g.F.Files.file c.look_by.new.files) c.args.graph.now found cause)) (inr (inr refl)) fails)

-- the files are known beside the graph where that is asked for, and a failure is told
pub returns-clause-ends : goal.returns-clause-ends
returns-clause-ends g c =
    let known = known_by c.args.beside c.args.graph.now (g.F.Files.file c.args.streams.now.files) in
    let moved = known-same (g.F.Files.file c.look_by.new.files) known c.look_by.ensures in
    ends-by _ c.args.explain _ _ c.check-done.result c.end.result _ _ (rw moved at c.check-done.ensures.done)
    (rw moved at c.check-done.ensures.failed) c.end.ensures.done c.end.ensures.status c.end.ensures.told
