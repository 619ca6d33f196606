use Rattle.std.proofs.Common.{◌≡◌, ◌≤◌, ◌<◌, ◌∙◌, sym, ap, arith, not, length, true, is_some, nat_lt, ◌&&◌}
use Rattle.std.proofs.lemmas.List.{length-map}
use Rattle.std.proofs.lemmas.Option.{cond_some}
use Rattle.graph_text.specs.declared.version.Version.TheVariants.{Three}
use Rattle.graph_text.specs.Lines.{body_of, ends_of}
use Rattle.graph_base.specs.Graphs.{Graph}
use Rattle.graph_base.specs.GraphFields.{task_of}
use Rattle.graph_base.specs.declared.limits.TheConstants.{TASKS_MAX}
use Rattle.graph_lang.specs.Faults.{is_body_within, are_ends_within}
use Rattle.graph_lang.specs.Reading.{steps_in}
use Rattle.graph_lang.proofs.Ends.{ends-by, ends-block}
use Rattle.graph_lang.proofs.Sound.{none-if, no-ends, room-none, room-some}
use Rattle.graph_lang.proofs.draft.Draft.numbers.Goals as goal

-- the ends are those of a line of some version
pub steps_of-requires-clause-by : goal.steps_of-requires-clause-by
steps_of-requires-clause-by c =
    ends-by Three (body_of c.args.words.body) (ends_of c.args.words.ends) c.requires.2

pub steps_of-requires-clause-until : goal.steps_of-requires-clause-until
steps_of-requires-clause-until c = c.requires.2.until

pub steps_of-requires-clause-block : goal.steps_of-requires-clause-block
steps_of-requires-clause-block c =
    ends-block Three (body_of c.args.words.body) (ends_of c.args.words.ends) c.requires.2

-- there is no room
pub returns-then-len-ge-TASKS_MAX-clause-within : goal.returns-then-len-ge-TASKS_MAX-clause-within
returns-then-len-ge-TASKS_MAX-clause-within c =
    let lines = c.self.inside.tasks.items in
    let same = ap (λ (graph : Graph). length graph.tasks) c.self.view_is in
    let full : TASKS_MAX ≤ length c.args.self.now.tasks =
    omega (arith, c.if-len-ge-TASKS_MAX.true, c.len.ensures, same, length-map lines task_of) in
    let rest = is_body_within c.args.version (body_of c.args.words.body) && are_ends_within (ends_of c.args.words.ends) in
    ap (λ b. not (not b)) (sym (room-none rest (length c.args.self.now.tasks) TASKS_MAX full))

-- a number of the ends is past its limit
pub returns-in_default-clause-within : goal.returns-in_default-clause-within
returns-in_default-clause-within c =
    let body = is_body_within c.args.version (body_of c.args.words.body) in
    let ends = ends_of c.args.words.ends in
    let none = none-if (are_ends_within ends) (steps_in ends) (sym c.steps_of.ensures ∙ c.in_default.is) in
    ap (λ b. not (not b)) (sym (no-ends body (are_ends_within ends)
    (nat_lt (length c.args.self.now.tasks) TASKS_MAX) none))

-- all are within their limits
pub returns-in-Some-2-clause-within : goal.returns-in-Some-2-clause-within
returns-in-Some-2-clause-within c =
    let lines = c.self.inside.tasks.items in
    let same = ap (λ (graph : Graph). length graph.tasks) c.self.view_is in
    let free : length c.args.self.now.tasks < TASKS_MAX =
    omega (arith, c.if-len-ge-TASKS_MAX.false, c.len.ensures, same, length-map lines task_of) in
    let body = is_body_within c.args.version (body_of c.args.words.body) in
    let ends = ends_of c.args.words.ends in
    let steps = cond_some (are_ends_within ends) (steps_in ends) c.in-Some.steps
    (sym c.steps_of.ensures ∙ c.in-Some.is) in
    let numbers : body ≡ true = sym c.in_ok-numbers_of.ensures.within ∙ ap is_some c.in-Some-2.is in
    ap (λ b. not (not b)) (sym (room-some body (are_ends_within ends)
    (length c.args.self.now.tasks) TASKS_MAX numbers steps.0 free))

pub returns-in-Some-2-clause-steps : goal.returns-in-Some-2-clause-steps
returns-in-Some-2-clause-steps c =
    let ends = ends_of c.args.words.ends in
    sym (cond_some (are_ends_within ends) (steps_in ends) c.in-Some.steps
    (sym c.steps_of.ensures ∙ c.in-Some.is)).1
