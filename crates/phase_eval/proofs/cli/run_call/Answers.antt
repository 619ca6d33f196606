use Rattle.std.proofs.Common.{inl, inr, refl}
use Rattle.std.proofs.lemmas.Result.{IfErr-weaker}
use Rattle.graph_commands.proofs.Counted.{known-same}
use Rattle.graph_commands.proofs.Ends.{ends-by, ends-status, fails-place, fails-status, unanswered-place, unanswered-status}
use Rattle.graph_commands.specs.Folders.{known_by}
use Rattle.phase_words.specs.RunLine.{run_of}
use Rattle.phase_eval.specs.Ends.{MayEndAsEval}
use Rattle.phase_eval.proofs.cli.run_call.Goals as goal

-- its failure has the place that it tells of
pub end-requires : goal.end-requires
end-requires g c =
    let what = run_of c.args.call in
    IfErr-weaker c.eval_by-done.result _ _
    (λ found fails. fails-place _ _ g.W.Write.contents _ _ found (unanswered-place ⊥ (g.F.Files.file c.look_by.new.files) what.graph what.sink) fails)
    c.eval_by-done.ensures.failed

pub returns-clause-status : goal.returns-clause-status
returns-clause-status g c =
    let what = run_of c.args.call in
    ends-status _ _ MayEndAsEval c.eval_by-done.result c.end.result c.eval_by-done.ensures.failed
    c.end.ensures.done c.end.ensures.status (inl refl)
    (λ found fails. fails-status _ _ g.W.Write.contents _ _ found MayEndAsEval
    (λ found cause. inr (unanswered-status (g.F.Files.file c.look_by.new.files) what.graph what.sink found cause)) (inr (inr (inr refl))) fails)

-- the files are known beside the graph where that is asked for, and a failure is told
pub returns-clause-ends : goal.returns-clause-ends
returns-clause-ends g c =
    let what = run_of c.args.call in
    let known = known_by what.beside what.graph (g.F.Files.file c.args.streams.now.files) in
    let moved = known-same (g.F.Files.file c.look_by.new.files) known c.look_by.ensures in
    ends-by _ what.explain _ _ c.eval_by-done.result c.end.result _ _ (rw moved at c.eval_by-done.ensures.done)
    (rw moved at c.eval_by-done.ensures.failed) c.end.ensures.done c.end.ensures.status c.end.ensures.told
