-- A graph that lines declare is well formed: each line without fault keeps it so.
use Rattle.std.proofs.Common.{ℕ, ◌≡◌, All, get_or, lt_trans, ◌<◌, ◌≤◌, ◌+◌, ◌&&◌, ◌⊎◌, inl, inr, List, [], ◌∷◌, ◌++◌, length, true, false, not, cond, Option, Some, None, Ok, Err, is_some, option_map, nat_lt, nat_le, unsigned_abs, refl, sym, ap, ◌∙◌, subst, arith, ne_eqb, ltb-true, leb-true}
use Rattle.std.specs.Option.{option_map_or}
use Rattle.std.specs.Int.Signed.{le_z, le_z_yes}
use Rattle.std.proofs.lemmas.Bool.{cases_lt, not-false, and_parts}
use Rattle.std.proofs.lemmas.List.{get_or_append_left, length_push, length-append}
use Rattle.std.proofs.lemmas.List.Elements.{All-nil, All-cons, All-append}
use Rattle.std.proofs.lemmas.List.Sums.{sum_by_push}
use Rattle.phase_base.specs.declared.limits.TheConstants.{BOUND_MAX}
use Rattle.phase_accum.specs.Sends.{value_max}
use Rattle.phase_accum.specs.Singles.{CanBeNamed}
use Rattle.phase_base.specs.Words.{Word, is_name, is_file}
use Rattle.phase_base.specs.Numbers.{nat_value, int_value}
use Rattle.phase_base.specs.declared.operation.Op.{Op}
use Rattle.graph_text.specs.Decls.{Decl, phaser, task, FunctionWords, neg, abs, halve, clamp, BodyWords, source, fir, delay, decimate, split, join, peer, sink, EndWords, IsBody, IsWellFormed, IsWellFormedBy}
use Rattle.graph_text.specs.declared.version.Version.{Version}
use Rattle.graph_text.specs.declared.version.Version.TheVariants.{Three}
use Rattle.graph_text.proofs.Spelled.{well_formed_later}
use Rattle.graph_base.specs.Graphs.{Graph, no_graph, no_task, no_phaser, Task, IsPlace, is_same_place, task_at, sources_among, is_source}
use Rattle.graph_base.specs.Names.{place_of}
use Rattle.graph_lang.specs.WordValues.{phaser_line, single_of, task_line, kind_of_body, files_in}
use Rattle.graph_lang.specs.Faults.{kind_of, is_bound_within, is_function_within}
use Rattle.graph_base.specs.TaskLines.{IsGraph, IsPhaserLine, IsTaskLine, AreRising}
use Rattle.graph_lang.specs.Reads.{Reads, Steps, with_declared, line_outcome, fault_at}
use Rattle.graph_base.specs.declared.limits.TheConstants.{PHASERS_MAX}
use Rattle.graph_lang.specs.declared.fault.FaultKind.{FaultKind}
use Rattle.graph_lang.specs.declared.fault.FaultKind.TheVariants.{Limit, Twice, Syntax}
use Rattle.graph_base.specs.declared.place.Place.{Place}
use Rattle.graph_base.specs.declared.place.Place.TheVariants as place
use Rattle.graph_lang.proofs.Sound.{row-passed, nothing-there}
use Rattle.graph_lang.proofs.NamesKept.{AreNames-more, AddsName}
use Rattle.graph_lang.proofs.Grown.{Grows, IsTaskLine-stays, each-push}
use Rattle.graph_lang.proofs.NewTask.{IsSound, task-sound, IsTaskLine-new}

-- ---- no line

pub no_graph-is : IsGraph no_graph
no_graph-is = record {
  few_phasers = omega arith;
  few_tasks = omega arith;
  phasers = λ p below. absurd (omega (arith, below));
  tasks = λ t below. absurd (omega (arith, below));
  lines = record {
    counted = λ t below. absurd (omega (arith, below));
    rising = λ t u less below. absurd (omega (arith, below));
  };
  files = refl;
  are_files = All-nil (λ file. is_file file ≡ true);
  names = record {
    places = All-nil (λ named. IsPlace no_graph named.1);
    found = λ name at e. (let clash : None ≡ Some at = e in absurd (cc));
    known = λ at is. absurd (no_place at is);
    names = λ at is. absurd (no_place at is);
  };
}
  where
    no_place : (at : Place) → IsPlace no_graph at → ⊥
    no_place (place.Phaser p) is = omega (arith, is)
    no_place (place.Task t) is = omega (arith, is)

-- ---- a phaser

-- what the rows of the table say of a phaser where none of them applies
record IsSoundPhaser (before : Graph) (name bound : Word) (function : Option FunctionWords)
    : Type 0 where
  within : is_bound_within bound ≡ true
  fits : option_map_or is_function_within function true ≡ true
  few : length before.phasers < PHASERS_MAX
  absent : place_of before.names name ≡ None

phaser-sound : (version : Version) (before : Graph) (name : Word) (operation : Op) (bound : Word)
    (function : Option FunctionWords)
    → kind_of version before (phaser name operation bound function) ≡ None
    → IsSoundPhaser before name bound function
phaser-sound version before name operation bound function e =
    let fits = is_bound_within bound && option_map_or is_function_within function true in
    let limit = row-passed (not (fits && nat_lt (length before.phasers) PHASERS_MAX)) Limit _ e in
    let twice = row-passed (is_some (place_of before.names name)) Twice _ limit.1 in
    let room = and_parts fits (nat_lt (length before.phasers) PHASERS_MAX) (not-false _ limit.0) in
    let numbers = and_parts (is_bound_within bound) (option_map_or is_function_within function true)
    room.0 in
    record {
      within = numbers.0;
      fits = numbers.1;
      few = ltb-true (length before.phasers) PHASERS_MAX room.1;
      absent = nothing-there (place_of before.names name) twice.0;
    }

can-name : (function : Option FunctionWords)
    → option_map_or is_function_within function true ≡ true
    → CanBeNamed (option_map single_of function)
can-name None e = tt
can-name (Some neg) e = tt
can-name (Some abs) e = tt
can-name (Some halve) e = tt
can-name (Some (clamp low high)) e =
    let small = nat_le (unsigned_abs (int_value low)) value_max
    && nat_le (unsigned_abs (int_value high)) value_max in
    let ordered = and_parts small (le_z (int_value low) (int_value high)) e in
    let ends = and_parts (nat_le (unsigned_abs (int_value low)) value_max)
    (nat_le (unsigned_abs (int_value high)) value_max) ordered.0 in
    record {
      ordered = le_z_yes (rw ordered.1 tt);
      low_small = leb-true (unsigned_abs (int_value low)) value_max ends.0;
      high_small = leb-true (unsigned_abs (int_value high)) value_max ends.1;
    }

IsPhaserLine-new : (operation : Op) (bound : Word) (function : Option FunctionWords)
    → is_bound_within bound ≡ true → option_map_or is_function_within function true ≡ true
    → IsPhaserLine (phaser_line operation bound function)
IsPhaserLine-new operation bound function within fits =
    let limits = and_parts (nat_le 1 (nat_value bound)) (nat_le (nat_value bound) BOUND_MAX) within in
    record {
      bound = (leb-true 1 (nat_value bound) limits.0, leb-true (nat_value bound) BOUND_MAX limits.1);
      single = can-name function fits;
    }

-- ---- the place of a new phaser or task

-- a number below one more is below, or is the last
below-or-last : (n m p : ℕ) → m ≡ n + 1 → p < m → (p < n) ⊎ (n ≡ p)
below-or-last n m p more below = by (cases_lt p n)
  where
    by : (p < n) ⊎ (n ≤ p) → (p < n) ⊎ (n ≡ p)
    by (inl lt) = inl lt
    by (inr above) = inr (omega (arith, above, below, more))

same_count : (before after : Graph) (at : Place) → length before.phasers ≤ length after.phasers
    → length before.tasks ≤ length after.tasks → IsPlace before at → IsPlace after at
same_count before after (place.Phaser p) phasers tasks is = omega (arith, is, phasers)
same_count before after (place.Task t) phasers tasks is = omega (arith, is, tasks)

among-phasers : (before after : Graph) (at : Place)
    → length after.phasers ≡ length before.phasers + 1 → length after.tasks ≡ length before.tasks
    → IsPlace after at → IsPlace before at ⊎ (place.Phaser (length before.phasers) ≡ at)
among-phasers before after (place.Phaser p) more same is =
    by (below-or-last (length before.phasers) (length after.phasers) p more is)
  where
    by : (p < length before.phasers) ⊎ (length before.phasers ≡ p)
        → (p < length before.phasers) ⊎ (place.Phaser (length before.phasers) ≡ place.Phaser p)
    by (inl lt) = inl lt
    by (inr e) = inr (ap place.Phaser e)
among-phasers before after (place.Task t) more same is = inl (omega (arith, is, same))

among-tasks : (before after : Graph) (at : Place)
    → length after.phasers ≡ length before.phasers → length after.tasks ≡ length before.tasks + 1
    → IsPlace after at → IsPlace before at ⊎ (place.Task (length before.tasks) ≡ at)
among-tasks before after (place.Phaser p) same more is = inl (omega (arith, is, same))
among-tasks before after (place.Task t) same more is =
    by (below-or-last (length before.tasks) (length after.tasks) t more is)
  where
    by : (t < length before.tasks) ⊎ (length before.tasks ≡ t)
        → (t < length before.tasks) ⊎ (place.Task (length before.tasks) ≡ place.Task t)
    by (inl lt) = inl lt
    by (inr e) = inr (ap place.Task e)

new-phaser : (before : Graph) (at : Place) → IsPlace before at
    → is_same_place at (place.Phaser (length before.phasers)) ≡ false
new-phaser before (place.Phaser p) is =
    ne_eqb p (length before.phasers) (λ e. omega (arith, is, e))
new-phaser before (place.Task t) is = refl

new-task : (before : Graph) (at : Place) → IsPlace before at
    → is_same_place at (place.Task (length before.tasks)) ≡ false
new-task before (place.Phaser p) is = refl
new-task before (place.Task t) is = ne_eqb t (length before.tasks) (λ e. omega (arith, is, e))

adds-phaser : (before after : Graph) (name : Word)
    → after.names ≡ before.names ++ (name, place.Phaser (length before.phasers)) ∷ []
    → length after.phasers ≡ length before.phasers + 1 → length after.tasks ≡ length before.tasks
    → AddsName before after name (place.Phaser (length before.phasers))
adds-phaser before after name names more same = record {
  names = names;
  here = omega (arith, more);
  stays = λ at. same_count before after at (omega (arith, more)) (omega (arith, same));
  among = λ at. among-phasers before after at more same;
}

adds-task : (before after : Graph) (name : Word)
    → after.names ≡ before.names ++ (name, place.Task (length before.tasks)) ∷ []
    → length after.phasers ≡ length before.phasers → length after.tasks ≡ length before.tasks + 1
    → AddsName before after name (place.Task (length before.tasks))
adds-task before after name names same more = record {
  names = names;
  here = omega (arith, more);
  stays = λ at. same_count before after at (omega (arith, same)) (omega (arith, more));
  among = λ at. among-tasks before after at same more;
}

-- ---- a line

phaser-keeps : (before : Graph) (n : ℕ) (name : Word) (operation : Op) (bound : Word)
    (function : Option FunctionWords) → is_name name ≡ true
    → IsSoundPhaser before name bound function → IsGraph before
    → IsGraph (with_declared before n (phaser name operation bound function))
phaser-keeps before n name operation bound function named sound is =
    let line = phaser_line operation bound function in
    let after = with_declared before n (phaser name operation bound function) in
    let long = length_push before.phasers line in
    let few = sound.few in
    let grows : Grows before after = record {
      phasers = omega (arith, long);
      phaser = λ p below. get_or_append_left before.phasers (line ∷ []) no_phaser p below;
      task = λ t below. refl;
    } in
    record {
      few_phasers = omega (arith, long, few);
      few_tasks = is.few_tasks;
      phasers = each-push before.phasers line no_phaser (λ p line. IsPhaserLine line) is.phasers
          (IsPhaserLine-new operation bound function sound.within sound.fits);
      tasks = λ t below. IsTaskLine-stays before after t (task_at before t) grows
          (omega (arith, below)) (is.tasks t below);
      lines = record { counted = is.lines.counted; rising = is.lines.rising };
      files = is.files;
      are_files = is.are_files;
      names = AreNames-more before after name (place.Phaser (length before.phasers)) is.names
          (record { is = named; absent = sound.absent; new = new-phaser before })
          (adds-phaser before after name refl long refl);
    }

sources-more : (lines : List Task) (line : Task)
    → sources_among (lines ++ line ∷ []) ≡ sources_among lines + cond (is_source line.kind) 1 0
sources-more lines line = sum_by_push (λ line. cond (is_source line.kind) 1 0) lines line

files-more : (body : BodyWords)
    → length (files_in body) ≡ cond (is_source (kind_of_body body)) 1 0
files-more (source file output) = refl
files-more (fir input output filter) = refl
files-more (delay input output steps) = refl
files-more (decimate input output every) = refl
files-more (split input outputs) = refl
files-more (join inputs output) = refl
files-more (peer input exchange output factor) = refl
files-more (sink input) = refl

-- the file of a source is one of the grammar
files-are : (body : BodyWords) → IsBody Three body → All (λ file. is_file file ≡ true) (files_in body)
files-are (source file output) is =
    All-cons (λ file. is_file file ≡ true) file [] is.0 (All-nil (λ file. is_file file ≡ true))
files-are (fir input output filter) is = All-nil (λ file. is_file file ≡ true)
files-are (delay input output steps) is = All-nil (λ file. is_file file ≡ true)
files-are (decimate input output every) is = All-nil (λ file. is_file file ≡ true)
files-are (split input outputs) is = All-nil (λ file. is_file file ≡ true)
files-are (join inputs output) is = All-nil (λ file. is_file file ≡ true)
files-are (peer input exchange output factor) is = All-nil (λ file. is_file file ≡ true)
files-are (sink input) is = All-nil (λ file. is_file file ≡ true)

-- the lines of tasks are all above line n, which comes next
abbrev pub AreAbove : ℕ → Graph → Type 0
AreAbove n graph = (t : ℕ) → t < length graph.tasks → (task_at graph t).line < n

above-next : (n : ℕ) (graph : Graph) → AreAbove n graph → AreAbove (n + 1) graph
above-next n graph above t below = let old = above t below in omega (arith, old)

lines-more : (before after : Graph) (line : Task) → after.tasks ≡ before.tasks ++ line ∷ []
    → 1 ≤ line.line → AreAbove line.line before → AreRising before → AreRising after
lines-more before after line more counted above lines =
    let Counted : List Task → Type 0 = λ lines.
    (t : ℕ) → t < length lines → 1 ≤ (get_or lines t no_task).line in
    let Rising : List Task → Type 0 = λ lines.
    (t u : ℕ) → t < u → u < length lines
    → (get_or lines t no_task).line < (get_or lines u no_task).line in
    let Below : ℕ → Task → Type 0 = λ u other.
    (t : ℕ) → t < u → (get_or (before.tasks ++ line ∷ []) t no_task).line < other.line in
    let old : (t : ℕ) → t < length before.tasks
    → get_or (before.tasks ++ line ∷ []) t no_task ≡ get_or before.tasks t no_task =
    λ t below. get_or_append_left before.tasks (line ∷ []) no_task t below in
    record {
      counted = subst Counted (sym more)
          (each-push before.tasks line no_task (λ t other. 1 ≤ other.line) lines.counted counted);
      rising = subst Rising (sym more) (λ t u less below.
          each-push before.tasks line no_task Below
          (λ u below t less. rw (old t (lt_trans less below)) (lines.rising t u less below))
          (λ t less. rw (old t less) (above t less)) u below t less);
    }

task-keeps : (version : Version) (before : Graph) (n : ℕ) (name : Word) (body : BodyWords) (ends : EndWords)
    → IsWellFormedBy is_name Three (task name body ends) → IsSound version before name body ends → 1 ≤ n → AreAbove n before
    → IsGraph before → IsGraph (with_declared before n (task name body ends))
task-keeps version before n name body ends formed sound counted above is =
    let line = task_line before.names n body ends in
    let after = with_declared before n (task name body ends) in
    let long = length_push before.tasks line in
    let few = sound.few in
    let grows : Grows before after = record {
      phasers = omega arith;
      phaser = λ p below. refl;
      task = λ t below. get_or_append_left before.tasks (line ∷ []) no_task t below;
    } in
    let new = IsTaskLine-new Three version before n name body ends is formed.1 formed.2 sound in
    record {
      few_phasers = is.few_phasers;
      few_tasks = omega (arith, long, few);
      phasers = is.phasers;
      tasks = each-push before.tasks line no_task (IsTaskLine after)
          (λ t below. IsTaskLine-stays before after t (task_at before t) grows (omega (arith, below))
          (is.tasks t below))
          (IsTaskLine-stays before after (length before.tasks) line grows (omega arith) new);
      lines = lines-more before after line refl counted above is.lines;
      files = length-append before.files (files_in body)
          ∙ ap (λ n. n + length (files_in body)) is.files
          ∙ ap (λ n. sources_among before.tasks + n) (files-more body)
          ∙ sym (sources-more before.tasks line);
      are_files = All-append (λ file. is_file file ≡ true) before.files (files_in body)
          is.are_files (files-are body formed.1);
      names = AreNames-more before after name (place.Task (length before.tasks)) is.names
          (record { is = formed.0; absent = sound.absent; new = new-task before })
          (adds-task before after name refl refl long);
    }

-- a line without fault keeps it
pub line-keeps : (version : Version) (before : Graph) (n : ℕ) (d : Decl) → IsWellFormedBy is_name Three d
    → kind_of version before d ≡ None → 1 ≤ n → AreAbove n before → IsGraph before
    → IsGraph (with_declared before n d)
line-keeps version before n (phaser name operation bound function) formed e counted above is =
    phaser-keeps before n name operation bound function formed.0
    (phaser-sound version before name operation bound function e) is
line-keeps version before n (task name body ends) formed e counted above is =
    task-keeps version before n name body ends formed (task-sound version before name body ends e) counted
    above is

line-above : (before : Graph) (n : ℕ) (d : Decl) → AreAbove n before
    → AreAbove (n + 1) (with_declared before n d)
line-above before n (phaser name operation bound function) above = above-next n before above
line-above before n (task name body ends) above =
    each-push before.tasks (task_line before.names n body ends) no_task (λ t line. line.line < n + 1)
    (above-next n before above) (omega arith)

-- ---- lines

-- what holds before line n
pub record IsBefore (n : ℕ) (graph : Graph) : Type 0 where
  pub counted : 1 ≤ n
  pub above : AreAbove n graph
  pub is : IsGraph graph

told-keeps : (version : Version) (before after : Graph) (n : ℕ) (d : Decl)
    (fault : Option FaultKind) → kind_of version before d ≡ fault → IsWellFormed version d
    → IsBefore n before
    → Ok after ≡ line_outcome n before d fault → IsBefore (n + 1) after
told-keeps version before after n d (Some kind) e formed is line_outcome =
    let clash : Ok after ≡ fault_at n kind = line_outcome in absurd (cc)
told-keeps version before after n d None e formed is line_outcome =
    let same : Ok after ≡ Ok (with_declared before n d) = line_outcome in
    let one : after ≡ with_declared before n d = cc in
    subst (IsBefore (n + 1)) (sym one) (record {
      counted = omega arith;
      above = line-above before n d is.above;
      is = line-keeps version before n d (well_formed_later version d formed) e is.counted is.above is.is;
    })

step-keeps : (version : Version) (n : ℕ) (before : Graph) (line : List ℕ) (after : Graph)
    → Steps version n before line (Ok after) → IsBefore n before → IsBefore (n + 1) after
step-keeps version n before line after (inl (ignored, e)) is =
    let same : Ok after ≡ Ok before = e in
    let one : after ≡ before = cc in
    subst (IsBefore (n + 1)) (sym one) (record {
      counted = omega arith;
      above = above-next n before is.above;
      is = is.is;
    })
step-keeps version n before line after (inr (inl (words, none, e))) is =
    let clash : Ok after ≡ fault_at n Syntax = e in absurd (cc)
step-keeps version n before line after (inr (inr (words, d, declares, e))) is =
    told-keeps version before after n d (kind_of version before d) refl declares.spells.well_formed is e

pub reads-keep : (version : Version) (n : ℕ) (before : Graph) (lines : List (List ℕ))
    (graph : Graph) → Reads version n before lines (Ok graph) → IsBefore n before → IsGraph graph
reads-keep version n before [] graph reads is =
    let same : Ok graph ≡ Ok before = reads in
    let one : graph ≡ before = cc in
    subst IsGraph (sym one) is.is
reads-keep version n before (line ∷ lines) graph (inl (f, stops, e)) is =
    let clash : Ok graph ≡ Err f = e in absurd (cc)
reads-keep version n before (line ∷ lines) graph (inr (after, steps, reads)) is =
    reads-keep version (n + 1) after lines graph reads
    (step-keeps version n before line after steps is)

-- the graph that lines declare
pub reads_give_graph : (version : Version) (lines : List (List ℕ)) (graph : Graph)
    → Reads version 1 no_graph lines (Ok graph) → IsGraph graph
reads_give_graph version lines graph reads =
    reads-keep version 1 no_graph lines graph reads (record {
      counted = omega arith;
      above = λ t below. absurd (omega (arith, below));
      is = no_graph-is;
    })
