use Rattle.std.proofs.Common.{inl, inr, refl, None}
use Rattle.std.proofs.lemmas.Result.{IfErr-weaker}
use Rattle.graph_commands.proofs.Counted.{known-same}
use Rattle.graph_commands.proofs.Ends.{ends-by, ends-status, fails-place, fails-status, unanswered-place, unanswered-status}
use Rattle.graph_commands.specs.Folders.{known_by}
use Rattle.phase_commands.specs.Ends.{MayEndAs}
use Rattle.phase_words.specs.CommandLine.{columns}
use Rattle.phase_commands.proofs.cli.run_columns.Goals as goal

-- its failure has the place that it tells of
pub end-requires : goal.end-requires
end-requires g c =
    IfErr-weaker c.eval_columns-done.result _ _
    (λ found fails. fails-place _ _ g.W.Write.contents _ _ found (unanswered-place ⊥ (g.F.Files.file c.look_by.new.files) c.args.graph.now None) fails)
    c.eval_columns-done.ensures.failed

pub returns-clause-status : goal.returns-clause-status
returns-clause-status g c =
    ends-status _ _ (MayEndAs (columns c.args.beside c.args.explain c.args.graph.now)) c.eval_columns-done.result c.end.result c.eval_columns-done.ensures.failed
    c.end.ensures.done c.end.ensures.status (inl refl)
    (λ found fails. fails-status _ _ g.W.Write.contents _ _ found (MayEndAs (columns c.args.beside c.args.explain c.args.graph.now))
    (λ found cause. inr (unanswered-status (g.F.Files.file c.look_by.new.files) c.args.graph.now None found cause)) (inr (inr (inr refl))) fails)

-- the files are known beside the graph where that is asked for, and a failure is told
pub returns-clause-ends : goal.returns-clause-ends
returns-clause-ends g c =
    let known = known_by c.args.beside c.args.graph.now (g.F.Files.file c.args.streams.now.files) in
    let moved = known-same (g.F.Files.file c.look_by.new.files) known c.look_by.ensures in
    ends-by _ c.args.explain _ _ c.eval_columns-done.result c.end.result _ _ (rw moved at c.eval_columns-done.ensures.done)
    (rw moved at c.eval_columns-done.ensures.failed) c.end.ensures.done c.end.ensures.status c.end.ensures.told
