-- The samples that are taken stand behind those that wait.
use Rattle.std.proofs.Common.{◌≡◌, ◌+◌, ◌++◌, ◌∷◌, [], ℤ, List, length, take, get_or, pos, FitsSigned, w64, rules, arith, sym, ap, ◌∙◌}
use Rattle.std.proofs.lemmas.Int.{to_z-of_z}
use Rattle.std.proofs.lemmas.List.{append_assoc, length-drop, length-take, take_more, take_all}
use Rattle.phase_accum.proofs.Parts.{AreSends-take}
use Rattle.stream_job.specs.Streams.{InputKeeps}
use Rattle.stream_job.proofs.Feeding.{keeps_more}
use Rattle.stream_job.proofs.input.Input.take.Goals as goal

pub loop-sample-preserved : goal.loop-sample-preserved
loop-sample-preserved c =
    let many = take c.min-many.result c.args.samples.now in
    let i = c.loop-sample.sample-index in
    let old = c.forget.new.self.values.items in
    let fits : FitsSigned w64 (get_or many i (pos 0)) = search rules in
    let same = to_z-of_z w64 (get_or many i (pos 0)) fits in
    let was = c.loop-sample.invariant in
    record {
      pushed = c.push_reserved.ensures.items
          ∙ ap (λ v. c.loop-sample.self.values.items ++ v ∷ []) same
          ∙ ap (λ l. l ++ get_or many i (pos 0) ∷ []) was.pushed
          ∙ append_assoc old (take i many) (get_or many i (pos 0) ∷ [])
          ∙ ap (λ l. old ++ l) (sym (take_more many i (pos 0) c.loop-sample-test.true));
      room = c.push_reserved.ensures.capacity ∙ was.room;
      from = was.from;
      ended = was.ended;
      task = was.task;
    }

-- so many had come
came : (c : goal.After-loop-sample) → (xs : List ℤ) → InputKeeps c.forget.new.self c.args.begun xs
    → c.forget.new.self.from + c.len.result ≡ length xs
came c xs keeps =
    let early = keeps.early in
    let begun = keeps.begun_few in
    let kept = ap length keeps.kept ∙ length-drop c.forget.new.self.from xs in
    let len = c.len.ensures in
    omega arith

pub returns-clause-took : goal.returns-clause-took
returns-clause-took c xs keeps =
    let k = c.forget.ensures.kept xs keeps in
    let all = came c xs k in
    let few = k.few in
    let least = c.min-many.ensures in
    let room = c.min.ensures in
    let sub = c.saturating_sub.ensures in
    grind arith

pub returns-clause-kept : goal.returns-clause-kept
returns-clause-kept c xs keeps =
    let k = c.forget.ensures.kept xs keeps in
    let all = came c xs k in
    let few = k.few in
    let many = c.min-many.result in
    let samples = c.args.samples.now in
    let was = c.loop-sample.invariant in
    let it : c.loop-sample.self.values.items ≡ c.forget.new.self.values.items ++ take many samples =
    was.pushed ∙ ap (λ l. c.forget.new.self.values.items ++ l)
    (take_all c.loop-sample.sample-index (take many samples) c.loop-sample-test.false) in
    let long = length-take many samples in
    keeps_more c.forget.new.self c.loop-sample.self c.args.begun xs (take many samples) k
    (AreSends-take many samples c.requires.sends) (grind arith) was.from it
