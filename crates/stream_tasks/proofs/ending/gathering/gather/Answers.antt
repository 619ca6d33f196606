-- What a task left behind is gathered with what those before it did.
use Rattle.std.proofs.Common.{rules, ℕ, List, [], ◌∷◌, ◌++◌, None, Some, refl, sym, subst, ◌∙◌, arith}
use Rattle.std.proofs.lemmas.List.{length-append}
use Rattle.stream_tasks.specs.Joinings.{IsPlaced}
use Rattle.stream_tasks.specs.Gatherings.{AreGathered}
use Rattle.stream_tasks.specs.TaskLefts.{task_end_of}
use Rattle.stream_tasks.proofs.Added.{none_gathered, add_absent, lefts_long, have_places, add_came, IsLeftAs, left_as, taken_out, behind_set}
use Rattle.stream_tasks.proofs.ending.gathering.gather.Goals as goal

pub loop-t-init : goal.loop-t-init
loop-t-init c =
    let P : List _ → Type 0 = λ parts.
    AreGathered c.args.job.now c.args.joined.now.items c.args.joined.now.items parts [] in (
      [],
      subst P (sym c.in_ok-parts.ensures.items) (none_gathered c.args.job.now c.args.joined.now.items),
      refl,
      λ u le. refl,
      refl,
    )

pub loop-t-preserved-in_default : goal.loop-t-preserved-in_default
loop-t-preserved-in_default c =
    let i = c.loop-t.invariant in
    let P : List _ → Type 0 = λ parts.
    AreGathered c.args.job.now c.args.joined.now.items c.loop-t.joined.items parts (i.0 ++ None ∷ []) in
    let longer = length-append i.0 (None ∷ []) in
    let many = i.2 in (
      i.0 ++ None ∷ [],
      subst P (sym c.in_ok-push.ensures.items)
          (add_absent c.args.job.now c.args.joined.now.items c.loop-t.joined.items
          c.loop-t.parts.items i.0 i.1),
      omega arith,
      behind_set c.loop-t.tasks.items c.args.tasks.items c.loop-t.t c.take.new.self i.3,
      search rules,
    )

pub take_all_in-requires-clause-graph : goal.take_all_in-requires-clause-graph
take_all_in-requires-clause-graph c = c.requires.graph

-- what stood at its place
left_of : (c : goal.After-take_all_in-arg-1)
    → IsLeftAs c.args.job.now c.requires.left.0 c.loop-t.t c.in-Some.left.part c.in-Some.left.lefts.items
left_of c =
    let i = c.loop-t.invariant in
    let at : IsPlaced c.loop-t.tasks.items c.loop-t.t c.in-Some.left =
    taken_out c.loop-t.tasks.items c.loop-t.t c.index_mut.result.now c.take.result c.in-Some.left
    c.index_mut.ensures.value c.take.ensures.value c.in-Some.is
    (let lt = c.loop-t-test.true in let all = c.len-t-end.ensures in let same = i.4 in omega arith) in
    left_as c.args.job.now c.requires.left.0 c.loop-t.t c.in-Some.left
    (c.requires.left.2 c.loop-t.t c.in-Some.left (sym (i.3 c.loop-t.t (omega arith)) ∙ at))
    c.if-task-t.false

pub take_all_in-requires-clause-long : goal.take_all_in-requires-clause-long
take_all_in-requires-clause-long c =
    let l = left_of c in
    lefts_long c.args.job.now c.requires.left.0 c.loop-t.t c.in-Some.left.part
    c.in-Some.left.lefts.items l.there l.moment l.has_left l.members

pub take_all_in-requires-clause-there : goal.take_all_in-requires-clause-there
take_all_in-requires-clause-there c =
    let l = left_of c in
    have_places c.args.job.now c.requires.left.0 c.loop-t.t c.in-Some.left.part
    c.in-Some.left.lefts.items l.there l.moment l.has_left l.members c.args.joined.now.items
    c.loop-t.joined.items c.requires.graph c.requires.left.1
    (λ p founder at. (let g = c.loop-t.invariant.1.phasers p founder at in (g.0, g.1, g.2.grown)))

pub take_all_in-requires-clause-phasers : goal.take_all_in-requires-clause-phasers
take_all_in-requires-clause-phasers c = c.loop-t.invariant.1.joined_long ∙ c.requires.phasers

pub take_all_in-requires-clause-task : goal.take_all_in-requires-clause-task
take_all_in-requires-clause-task c = (left_of c).there

pub loop-t-preserved : goal.loop-t-preserved
loop-t-preserved c =
    let i = c.loop-t.invariant in
    let t : ℕ = c.loop-t.t in
    let left = c.in-Some.left in
    let at : IsPlaced c.loop-t.tasks.items t left =
    taken_out c.loop-t.tasks.items t c.index_mut.result.now c.take.result left
    c.index_mut.ensures.value c.take.ensures.value c.in-Some.is
    (let lt = c.loop-t-test.true in let all = c.len-t-end.ensures in let same = i.4 in omega arith) in
    let l = left_as c.args.job.now c.requires.left.0 t left
    (c.requires.left.2 t left (sym (i.3 t (omega arith)) ∙ at)) c.if-task-t.false in
    let end = task_end_of t left.part left.lefts.items in
    let P : List _ → Type 0 = λ parts.
    AreGathered c.args.job.now c.args.joined.now.items c.take_all_in.new.joined.items parts
    (i.0 ++ Some end ∷ []) in
    let longer = length-append i.0 (Some end ∷ []) in
    let many = i.2 in (
      i.0 ++ Some end ∷ [],
      subst P (sym c.in_ok-push-2.ensures.items)
          (add_came c.args.job.now c.requires.left.0 t left.part left.lefts.items l.there l.moment
          l.has_left l.members c.args.joined.now.items c.loop-t.joined.items
          c.take_all_in.new.joined.items c.loop-t.parts.items i.0 i.2 i.1 c.take_all_in.ensures.long
          c.take_all_in.ensures.grown c.take_all_in.ensures.taken),
      omega arith,
      behind_set c.loop-t.tasks.items c.args.tasks.items t c.take.new.self i.3,
      search rules,
    )
