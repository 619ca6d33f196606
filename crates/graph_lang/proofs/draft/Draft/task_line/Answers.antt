use Rattle.std.proofs.Common.{rules, ◌≡◌, ◌∙◌, sym, ap, subst, ◌&&◌, List, true, is_some, option_map, IfSome, FitsSigned, w64, to_z-of_z}
use Rattle.std.specs.List.{list_all}
use Rattle.std.proofs.lemmas.Option.{cond_some}
use Rattle.std.proofs.lemmas.List.Folds.{list_all-append}
use Rattle.graph_text.specs.Lines.{body_of, ends_of, by_of}
use Rattle.graph_base.specs.Graphs.{Graph, Named}
use Rattle.graph_base.specs.Names.{names_of}
use Rattle.graph_lang.specs.WordValues.{inputs_of, outputs_of, phaser_numbers, parent_of}
use Rattle.graph_lang.specs.Faults.{is_phaser, is_parent_known, phasers_of}
use Rattle.graph_lang.proofs.Ends.{task-built}
use Rattle.graph_lang.proofs.Sound.{none-if, no-room}
use Rattle.graph_lang.proofs.draft.Draft.task_line.Goals as goal

-- the parent is none
pub returns-in_default-clause-known : goal.returns-in_default-clause-known
returns-in_default-clause-known c =
    let names = names_of c.self.inside.names.entries in
    let by = by_of c.args.words.ends.by in
    let same = ap (λ (graph : Graph). graph.names) c.self.view_is in
    let none = none-if (is_parent_known names by) (option_map (parent_of names) by)
    (sym c.parent_of.ensures ∙ c.in_default.is) in
    sym (no-room (list_all (is_phaser c.args.self.now.names) (phasers_of (body_of c.args.words.body)))
    (is_parent_known c.args.self.now.names by)
    (ap (λ ns. is_parent_known ns by) (sym same) ∙ none))

-- each name is known
pub returns-clause-known : goal.returns-clause-known
returns-clause-known c =
    let names = names_of c.self.inside.names.entries in
    let body = body_of c.args.words.body in
    let by = by_of c.args.words.ends.by in
    let same = ap (λ (graph : Graph). graph.names) c.self.view_is in
    let parent = cond_some (is_parent_known names by) (option_map (parent_of names) by)
    c.in-Some.parent (sym c.parent_of.ensures ∙ c.in-Some.is) in
    let ins : list_all (is_phaser names) (inputs_of body) ≡ true =
    sym c.in_ok-inputs.ensures.known ∙ ap is_some c.in-Some-2.is in
    let outs : list_all (is_phaser names) (outputs_of body) ≡ true =
    sym c.in_ok-outputs.ensures.known ∙ ap is_some c.in-Some-3.is in
    let all : list_all (is_phaser names) (phasers_of body) ≡ true =
    list_all-append (is_phaser names) (inputs_of body) (outputs_of body)
    ∙ ap (λ b. b && list_all (is_phaser names) (outputs_of body)) ins ∙ outs in
    let Known : List Named → Type 0 = λ ns.
    true ≡ (list_all (is_phaser ns) (phasers_of body) && is_parent_known ns by) in
    subst Known same (sym (ap (λ b. b && is_parent_known names by) all ∙ parent.0))

-- each field is the line's
pub returns-clause-line : goal.returns-clause-line
returns-clause-line c =
    let names = names_of c.self.inside.names.entries in
    let body = body_of c.args.words.body in
    let ends = ends_of c.args.words.ends in
    let same = ap (λ (graph : Graph). graph.names) c.self.view_is in
    let parent = cond_some (is_parent_known names ends.by) (option_map (parent_of names) ends.by)
    c.in-Some.parent (sym c.parent_of.ensures ∙ c.in-Some.is) in
    let ins = subst (λ o. IfSome o (λ found. found.items ≡ phaser_numbers names (inputs_of body)))
    c.in-Some-2.is c.in_ok-inputs.ensures.numbers in
    let outs = subst (λ o. IfSome o (λ found. found.items ≡ phaser_numbers names (outputs_of body)))
    c.in-Some-3.is c.in_ok-outputs.ensures.numbers in
    let fits : FitsSigned w64 c.args.numbers.factor = search rules in
    task-built c.args.self.now.names c.args.number body ends c.kind_of.result _ _ c.in-Some.parent
    c.args.steps.until _ _ _ c.args.numbers.every c.args.steps.block c.joins_now.result
    c.kind_of.ensures
    (ins ∙ ap (λ ns. phaser_numbers ns (inputs_of body)) same)
    (outs ∙ ap (λ ns. phaser_numbers ns (outputs_of body)) same)
    (sym parent.1 ∙ ap (λ ns. option_map (parent_of ns) ends.by) same)
    (ap (λ steps. steps.until) c.requires.steps) c.requires.numbers.taps c.requires.numbers.form
    (to_z-of_z fits ∙ c.requires.numbers.factor) c.requires.numbers.every
    (ap (λ steps. steps.block) c.requires.steps) c.joins_now.ensures
