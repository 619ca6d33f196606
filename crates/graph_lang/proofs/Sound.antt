-- What holds of a line that has no fault.
use Rattle.std.proofs.Common.{ℕ, List, ◌<◌, ◌≤◌, arith, [], ◌∷◌, ◌++◌, ap, sym, ◌∙◌, ◌≡◌, ◌&&◌, ◌||◌, Bool, true, false, not, Option, Some, None, is_some, if◌then◌else◌, refl, nat_lt, length}
use Rattle.std.specs.List.{list_all}
use Rattle.phase_base.specs.Lists.{first_row}
use Rattle.std.proofs.lemmas.Bool.Decides.{nat_tests}
use Rattle.phase_base.specs.Words.{Word}
use Rattle.phase_base.specs.declared.operation.Op.{Op}
use Rattle.graph_text.specs.Decls.{phaser, task, FunctionWords, BodyWords, ByWords, EndWords}
use Rattle.graph_text.specs.declared.version.Version.{Version}
use Rattle.graph_base.specs.Graphs.{Graph, Task}
use Rattle.graph_base.specs.Names.{place_of}
use Rattle.graph_lang.specs.WordValues.{task_line, files_in}
use Rattle.graph_lang.specs.Faults.{kind_of, phasers_of, is_past_limit, are_distinct, is_phaser, is_parent_known, is_in_order, may_be_parent, is_held, is_block_within, is_phaser_within}
use Rattle.graph_lang.specs.Reading.{last_kind}
use Rattle.graph_lang.specs.Reads.{with_declared}
use Rattle.graph_base.specs.declared.limits.TheConstants.{PHASERS_MAX}
use Rattle.graph_lang.specs.declared.fault.FaultKind.TheVariants.{Limit, Twice, Unknown, OutBeforeIn, BadParent, NotHeld, OverBound}
use Rattle.graph_lang.specs.declared.fault.FaultKind.{FaultKind}
use Rattle.graph_base.specs.declared.place.Place.TheVariants as place

-- the first row does not apply, and neither does any after it
pub row-passed : {R : Type 0} (b : Bool) (r : R) (rest : Option R)
    → (if b then Some r else rest) ≡ None → (b ≡ false) × (rest ≡ None)
row-passed true r rest e = absurd (cc)
row-passed false r rest e = (refl, e)

pub nothing-there : {A : Type 0} (o : Option A) → is_some o ≡ false → o ≡ None
nothing-there None e = refl
nothing-there (Some x) e = absurd (cc)

pub none-if : {A : Type 0} (b : Bool) (x : A) → (if b then Some x else None) ≡ None → b ≡ false
none-if true x e = absurd (cc)
none-if false x e = refl

-- a phaser's line with a number outside its limit, or after too many
pub phaser-limit : (version : Version) (before : Graph) (name : Word) (operation : Op) (bound : Word)
    (single : Option FunctionWords)
    → (is_phaser_within bound single && nat_lt (length before.phasers) PHASERS_MAX) ≡ false
    → Some Limit ≡ kind_of version before (phaser name operation bound single)
phaser-limit version before name operation bound single e = rw e refl

-- a phaser's line that passes no limit, by whether its name is there
pub phaser-named : (version : Version) (before : Graph) (name : Word) (operation : Op) (bound : Word)
    (single : Option FunctionWords)
    → (is_phaser_within bound single && nat_lt (length before.phasers) PHASERS_MAX) ≡ true
    → kind_of version before (phaser name operation bound single)
    ≡ (if is_some (place_of before.names name) then Some Twice else None)
phaser-named version before name operation bound single e = rw e refl

-- the name of a phaser without fault is new
pub phaser-new : (version : Version) (before : Graph) (name : Word) (operation : Op) (bound : Word)
    (single : Option FunctionWords)
    → kind_of version before (phaser name operation bound single) ≡ None
    → place_of before.names name ≡ None
phaser-new version before name operation bound single e =
    let fits = is_phaser_within bound single in
    let limit = row-passed (not (fits && nat_lt (length before.phasers) PHASERS_MAX)) Limit _ e in
    let twice = row-passed (is_some (place_of before.names name)) Twice _ limit.1 in
    nothing-there (place_of before.names name) twice.0

-- a line whose numbers are there passes no limit
pub not-past : (past : Bool) → not past ≡ true → past ≡ false
not-past true e = absurd (cc)
not-past false e = refl

pub past : (past : Bool) → not past ≡ false → past ≡ true
past true e = refl
past false e = absurd (cc)

-- the first kind after Limit of a task's line, of its name, its phasers, its parent and the task
abbrev later_kind : Graph → Word → List Word → Option ByWords → Task → Option FaultKind
later_kind before name phasers by t = first_row (
    (is_some (place_of before.names name) || not (are_distinct phasers), Twice)
    ∷ (not (list_all (is_phaser before.names) phasers && is_parent_known before.names by), Unknown)
    ∷ (not (is_in_order t), OutBeforeIn)
    ∷ (not (may_be_parent before t.parent), BadParent)
    ∷ (not (is_held before t), NotHeld)
    ∷ (not (is_block_within before t), OverBound)
    ∷ [])

-- a task's line that passes a limit has that fault first
pub task-limit : (version : Version) (before : Graph) (name : Word) (body : BodyWords) (ends : EndWords)
    → is_past_limit version before (task name body ends) ≡ true
    → kind_of version before (task name body ends) ≡ Some Limit
task-limit version before name body ends e =
    ap (λ past. if past then Some Limit
    else later_kind before name (phasers_of body) ends.by (task_line before.names 0 body ends)) e

-- the numbers of a task, those of its ends, and room for it
pub no-ends : (body ends room : Bool) → ends ≡ false → (body && ends && room) ≡ false
no-ends true ends room e = rw e refl
no-ends false ends room e = refl

pub no-room : (rest room : Bool) → room ≡ false → (rest && room) ≡ false
no-room true room e = e
no-room false room e = refl

pub room-none : (rest : Bool) (n m : ℕ) → m ≤ n → (rest && nat_lt n m) ≡ false
room-none rest n m full = no-room rest (nat_lt n m) (grind (arith, nat_tests))

pub room-some : (body ends : Bool) (n m : ℕ) → body ≡ true → ends ≡ true → n < m
    → (body && ends && nat_lt n m) ≡ true
room-some body ends n m b e free =
    let room : nat_lt n m ≡ true = grind (arith, nat_tests) in
    rw (b, e) room

-- the kind of fault of a task's line that passes no limit is a later one; the number of the line
-- decides nothing
kind-later : (version : Version) (before : Graph) (name : Word) (body : BodyWords) (ends : EndWords) (n : ℕ)
    → is_past_limit version before (task name body ends) ≡ false
    → kind_of version before (task name body ends)
    ≡ later_kind before name (phasers_of body) ends.by (task_line before.names n body ends)
kind-later version before name body ends n e =
    ap (λ past. if past then Some Limit
    else later_kind before name (phasers_of body) ends.by (task_line before.names n body ends)) e

-- its first kind of fault, row by row
module _ (version : Version) (before : Graph) (name : Word) (body : BodyWords) (ends : EndWords) (n : ℕ)
    (past : is_past_limit version before (task name body ends) ≡ false) where
  abbrev line : Task
  line = task_line before.names n body ends

  abbrev again : Bool
  again = is_some (place_of before.names name) || not (are_distinct (phasers_of body))

  abbrev known : Bool
  known = list_all (is_phaser before.names) (phasers_of body) && is_parent_known before.names ends.by

  abbrev after-limit : Bool → Option FaultKind
  after-limit b = if b then Some Twice else (if not known then Some Unknown else last_kind before line)

  pub task-twice : again ≡ true → kind_of version before (task name body ends) ≡ Some Twice
  task-twice twice = kind-later version before name body ends n past ∙ ap after-limit twice

  abbrev after-twice : Bool → Option FaultKind
  after-twice b = if not b then Some Unknown else last_kind before line

  pub task-unknown : again ≡ false → known ≡ false → kind_of version before (task name body ends) ≡ Some Unknown
  task-unknown new none =
      kind-later version before name body ends n past ∙ ap after-limit new ∙ ap after-twice none

  pub task-last : again ≡ false → known ≡ true → (t : Task) → t ≡ line
      → kind_of version before (task name body ends) ≡ last_kind before t
  task-last new all t is =
      kind-later version before name body ends n past ∙ ap after-limit new ∙ ap after-twice all
      ∙ ap (last_kind before) (sym is)

-- the graph with the task of a line
pub with-task : (before : Graph) (name : Word) (body : BodyWords) (ends : EndWords) (n : ℕ)
    (t : Task) → t ≡ task_line before.names n body ends
    → record before {
      names = before.names ++ (name, place.Task (length before.tasks)) ∷ [];
      tasks = before.tasks ++ t ∷ [];
      files = before.files ++ files_in body;
    } ≡ with_declared before n (task name body ends)
with-task before name body ends n t line = ap (λ t. record before {
  names = before.names ++ (name, place.Task (length before.tasks)) ∷ [];
  tasks = before.tasks ++ t ∷ [];
  files = before.files ++ files_in body;
}) line
