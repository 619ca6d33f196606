use Rattle.std.proofs.Common.{rules, ◌≡◌, ◌≤◌, ◌<◌, ◌&&◌, Some, None, true, false, nat_lt, length, subst, sym, ap, ◌∙◌, is_some, if◌then◌else◌}
use Rattle.std.proofs.lemmas.Bool.{and_from, and_right, lt-ltb, le-ltb}
use Rattle.std.proofs.lemmas.Option.{cond_some}
use Rattle.graph_text.specs.Lines.{single_of}
use Rattle.graph_base.specs.Graphs.{Graph}
use Rattle.graph_base.specs.Names.{place_of}
use Rattle.graph_base.specs.declared.limits.TheConstants.{PHASERS_MAX}
use Rattle.graph_lang.specs.WordValues.{phaser_line}
use Rattle.graph_lang.specs.Faults.{is_phaser_within}
use Rattle.graph_lang.specs.declared.fault.FaultKind.TheVariants.{Twice}
use Rattle.graph_lang.proofs.Sound.{none-if, phaser-limit, phaser-named}
use Rattle.graph_lang.proofs.draft.Draft.phaser_line.Goals as goal

-- a number is outside its limit
pub returns-in_default-clause-err : goal.returns-in_default-clause-err
returns-in_default-clause-err c =
    let words = c.args.words in
    let single = single_of words.single in
    let out = none-if (is_phaser_within words.bound.now single)
    (phaser_line words.operation words.bound.now single)
    (sym c.phaser_line.ensures ∙ c.in_default.is) in
    phaser-limit c.args.version c.args.self.now words.name.now words.operation words.bound.now single
    (ap (λ b. b && nat_lt (length c.args.self.now.phasers) PHASERS_MAX) out)

-- there are as many phasers as may be
pub returns-then-len-ge-PHASERS_MAX-clause-err : goal.returns-then-len-ge-PHASERS_MAX-clause-err
returns-then-len-ge-PHASERS_MAX-clause-err c =
    let words = c.args.words in
    let single = single_of words.single in
    let count = length c.args.self.now.phasers in
    let Many : Graph → Type 0 = λ graph. PHASERS_MAX ≤ length graph.phasers in
    let many = subst Many c.self.view_is (search rules) in
    phaser-limit c.args.version c.args.self.now words.name.now words.operation words.bound.now single
    (and_right (is_phaser_within words.bound.now single) (nat_lt count PHASERS_MAX)
    (le-ltb count PHASERS_MAX many))

-- the name was declared
pub returns-then-is_some-clause-err : goal.returns-then-is_some-clause-err
returns-then-is_some-clause-err c =
    let words = c.args.words in
    let single = single_of words.single in
    let count = length c.args.self.now.phasers in
    let Few : Graph → Type 0 = λ graph. length graph.phasers < PHASERS_MAX in
    let few = subst Few c.self.view_is (search rules) in
    let Named : Graph → Type 0 = λ graph. is_some (place_of graph.names words.name.now) ≡ true in
    let named = subst Named c.self.view_is (search rules) in
    let within = cond_some (is_phaser_within words.bound.now single)
    (phaser_line words.operation words.bound.now single) c.in-Some.line
    (sym c.phaser_line.ensures ∙ c.in-Some.is) in
    sym (phaser-named c.args.version c.args.self.now words.name.now words.operation words.bound.now single
    (and_from (is_phaser_within words.bound.now single) (nat_lt count PHASERS_MAX) within.0
    (lt-ltb count PHASERS_MAX few)) ∙ ap (λ b. if b then Some Twice else None) named)

-- the line is that of its words
pub returns-clause-ok : goal.returns-clause-ok
returns-clause-ok c =
    let words = c.args.words in
    let single = single_of words.single in
    sym (cond_some (is_phaser_within words.bound.now single)
    (phaser_line words.operation words.bound.now single) c.in-Some.line
    (sym c.phaser_line.ensures ∙ c.in-Some.is)).1

-- and has no fault
pub returns-clause-none : goal.returns-clause-none
returns-clause-none c =
    let words = c.args.words in
    let single = single_of words.single in
    let count = length c.args.self.now.phasers in
    let Few : Graph → Type 0 = λ graph. length graph.phasers < PHASERS_MAX in
    let few = subst Few c.self.view_is (search rules) in
    let New : Graph → Type 0 = λ graph. is_some (place_of graph.names words.name.now) ≡ false in
    let new = subst New c.self.view_is (search rules) in
    let within = cond_some (is_phaser_within words.bound.now single)
    (phaser_line words.operation words.bound.now single) c.in-Some.line
    (sym c.phaser_line.ensures ∙ c.in-Some.is) in
    phaser-named c.args.version c.args.self.now words.name.now words.operation words.bound.now single
    (and_from (is_phaser_within words.bound.now single) (nat_lt count PHASERS_MAX) within.0
    (lt-ltb count PHASERS_MAX few)) ∙ ap (λ b. if b then Some Twice else None) new
