-- The least start of a sink that joins now is a phase of its phaser's list, or the one behind it.
use Rattle.std.proofs.Common.{◌≡◌, ℕ, zero, suc, ◌+◌, ◌-◌, ◌<◌, ◌≤◌, Bool, true, false, ◌&&◌, ltb, List, [], length, get_or, Some, None, refl, sym, ap, subst, ◌∙◌, arith}
use Rattle.std.specs.Prelude.{Option, max, nat_le, if◌then◌else◌}
use native.Mathlib.Nat.{zero-max}
use Rattle.std.proofs.lemmas.Bool.{ltb-true, ltb-false, and_parts}
use Rattle.std.proofs.lemmas.Bool.Decides.{nat_tests}
use Rattle.graph_base.specs.Graphs.{Task, task_at}
use Rattle.graph_base.specs.TaskLines.{HasEnds, IsGraph, IsTaskLine, IsParent, has_children}
use Rattle.graph_base.specs.declared.line.Kind.{Kind}
use Rattle.graph_base.specs.declared.line.Kind.TheVariants.{Source, Fir, Split, Decimate, Join, Peer, Sink}
use Rattle.graph_base.specs.declared.line.Parent.{Parent}
use Rattle.stream_lists.specs.Jobs.{Job, samples_at, start_at}
use Rattle.stream_lists.specs.Lists.{start_in}
use Rattle.stream_lists.specs.Spans.{offset_of, span_at, span_in, spans_of, lengths_of, enough_for, values_from}
use Rattle.stream_lists.specs.declared.span.Span.{Span}
use Rattle.stream_lists.proofs.LengthsAbove.{first_value}
use Rattle.stream_lists.proofs.Ordered.{parents_wait}
use Rattle.stream_lists.proofs.ListLengths.{steps_within}
use Rattle.stream_lists.proofs.SpansAbove.{parent-is, spans_all}

-- the kinds that wait for one phaser and may have children
abbrev has_one : Kind → Bool
has_one Fir = true
has_one Sink = true
has_one kind = false

-- how long the list of a task's first input is
abbrev pub first_length : Job → ℕ → ℕ
first_length job t = get_or (lengths_of job) (get_or (task_at job.graph t).inputs 0 0) 0

one_input : (kind : Kind) (inputs outputs : ℕ) → has_one kind ≡ true → HasEnds kind inputs outputs → inputs ≡ 1
one_input Fir inputs outputs one ends = ends.0
one_input Sink inputs outputs one ends = ends.0
one_input Source inputs outputs one ends = absurd (let b : false ≡ true = one in cc)
one_input Split inputs outputs one ends = absurd (let b : false ≡ true = one in cc)
one_input Decimate inputs outputs one ends = absurd (let b : false ≡ true = one in cc)
one_input Join inputs outputs one ends = absurd (let b : false ≡ true = one in cc)
one_input Peer inputs outputs one ends = absurd (let b : false ≡ true = one in cc)

enough : (task : Task) (samples : ℕ) (values : List ℕ) → has_one task.kind ≡ true
    → enough_for task samples values ≡ get_or values 0 0
enough task samples values one = by task.kind refl
  where
    by : (kind : Kind) → task.kind ≡ kind → enough_for task samples values ≡ get_or values 0 0
    by Fir e = rw e refl
    by Sink e = rw e refl
    by Source e = absurd (let b : false ≡ true = sym (ap has_one e) ∙ one in cc)
    by Split e = absurd (let b : false ≡ true = sym (ap has_one e) ∙ one in cc)
    by Decimate e = absurd (let b : false ≡ true = sym (ap has_one e) ∙ one in cc)
    by Join e = absurd (let b : false ≡ true = sym (ap has_one e) ∙ one in cc)
    by Peer e = absurd (let b : false ≡ true = sym (ap has_one e) ∙ one in cc)

no_start : (b : Bool) (t : ℕ) (starts : List ℕ) → starts ≡ [] → (if b then get_or starts t 0 else 0) ≡ 0
no_start true t starts none = ap (λ xs. get_or xs t 0) none
no_start false t starts none = refl

-- a parent waits for what its child waits for
waits_too : (job : Job) → IsGraph job.graph → (t : ℕ) (u : Parent) → t < length job.graph.tasks
    → (task_at job.graph t).parent ≡ Some u → 0 < length (task_at job.graph t).inputs
    → (i : ℕ) × (i < length (task_at job.graph u.task).inputs)
    × (get_or (task_at job.graph u.task).inputs i 0 ≡ get_or (task_at job.graph t).inputs 0 0)
waits_too job is t u there e some = parents_wait job.graph t 0 u is there e some

-- ---- where a task begins that is no root

-- it begins so many steps after its parent, which makes as many
record Begins (job : Job) (t : ℕ) (u : Parent) : Type 0 where
  pub offset : (span_in job t).offset ≡ (span_in job u.task).offset + u.at
  pub within : u.at ≤ (span_in job u.task).steps

begins : (job : Job) (t : ℕ) → IsGraph job.graph → t < length job.graph.tasks → start_at job t ≡ 0
    → 0 < (span_in job t).offset → (u : Parent) × ((task_at job.graph t).parent ≡ Some u) × Begins job t u
begins job t is there first late =
    by (task_at job.graph t).parent refl (spans_all job t is there)
  where
    at : Option ℕ → Span
    at o = span_at (task_at job.graph t) (length (samples_at job t)) (lengths_of job) o

    by : (parent : Option Parent) → (task_at job.graph t).parent ≡ parent
        → span_in job t ≡ at (offset_of (spans_of job) (start_at job t) parent)
        → (u : Parent) × ((task_at job.graph t).parent ≡ Some u) × Begins job t u
    by None e is_at =
        let none : (span_in job t).offset ≡ 0 = ap (λ (s : Span). s.offset) is_at in
        absurd (omega arith)
    by (Some u) e is_at =
        live_case ((span_in job u.task).live && nat_le u.at (span_in job u.task).steps) refl is_at
      where
        live_case : (b : Bool)
            → ((span_in job u.task).live && nat_le u.at (span_in job u.task).steps) ≡ b
            → span_in job t ≡ at (if b then Some (max (start_at job t) ((span_in job u.task).offset + u.at)) else None)
            → (v : Parent) × ((task_at job.graph t).parent ≡ Some v) × Begins job t v
        live_case false dead is =
            let none : (span_in job t).offset ≡ 0 = ap (λ (s : Span). s.offset) is in
            absurd (omega arith)
        live_case true is_live is =
            let parts = and_parts (span_in job u.task).live (nat_le u.at (span_in job u.task).steps) is_live in
            let within : u.at ≤ (span_in job u.task).steps = grind (arith, nat_tests, parts.1) in (
              u,
              e,
              record {
                offset = ap (λ (s : Span). s.offset) is
                    ∙ ap (λ n. max n ((span_in job u.task).offset + u.at)) first
                    ∙ zero-max ((span_in job u.task).offset + u.at);
                within = within;
              },
            )

-- ---- by the parents, from the roots on

-- the kind of a parent that waits for what a task of one input waits for
parent_one : (kind child : Kind) (inputs outputs : ℕ) → has_children kind ≡ true → HasEnds kind inputs outputs
    → 0 < inputs → has_one kind ≡ true
parent_one Source child inputs outputs may ends some = let none : inputs ≡ 0 = ends.0 in absurd (omega arith)
parent_one Fir child inputs outputs may ends some = refl
parent_one Sink child inputs outputs may ends some = refl
parent_one Split child inputs outputs may ends some = absurd (let b : false ≡ true = may in cc)
parent_one Decimate child inputs outputs may ends some = absurd (let b : false ≡ true = may in cc)
parent_one Join child inputs outputs may ends some = absurd (let b : false ≡ true = may in cc)
parent_one Peer child inputs outputs may ends some = absurd (let b : false ≡ true = may in cc)

-- where that holds of the parent, it holds of the child
by_parent : (job : Job) → IsGraph job.graph → (t : ℕ) → t < length job.graph.tasks
    → has_one (task_at job.graph t).kind ≡ true
    → ((u : ℕ) → u < t → has_one (task_at job.graph u).kind ≡ true → (span_in job u).offset ≤ first_length job u)
    → (u : Parent) → (task_at job.graph t).parent ≡ Some u → Begins job t u
    → (span_in job t).offset ≤ first_length job t
by_parent job is t there one each u e begun =
    let task = task_at job.graph t in
    let above = task_at job.graph u.task in
    let line : IsTaskLine job.graph t task = is.tasks t there in
    let parent : IsParent job.graph t task u = parent-is job.graph t task u line e in
    let less : u.task < t = parent.above in
    let there' : u.task < length job.graph.tasks = omega arith in
    let inputs : length task.inputs ≡ 1 = one_input task.kind (length task.inputs) (length task.outputs) one line.ends in
    let waits = waits_too job is t u there e (omega arith) in
    let within : waits.0 < length above.inputs = waits.1 in
    let ends = (is.tasks u.task there').ends in
    let kind : has_one above.kind ≡ true = parent_one above.kind task.kind (length above.inputs) (length above.outputs) parent.kind ends (omega arith) in
    let inputs' : length above.inputs ≡ 1 = one_input above.kind (length above.inputs) (length above.outputs) kind ends in
    let first : waits.0 ≡ 0 = omega arith in
    let same : first_length job u.task ≡ first_length job t =
    ap (λ p. get_or (lengths_of job) p 0) (ap (λ k. get_or above.inputs k 0) (sym first) ∙ waits.2) in
    let before : (span_in job u.task).offset ≤ first_length job u.task = each u.task less kind in
    let steps : (span_in job u.task).steps ≤ first_length job u.task - (span_in job u.task).offset =
    subst (λ m. (span_in job u.task).steps ≤ m)
    (enough above (length (samples_at job u.task)) (values_from above (lengths_of job) (span_in job u.task).offset) kind
    ∙ first_value above (lengths_of job) (span_in job u.task).offset (omega arith))
    (steps_within job u.task is there') in
    let offset = begun.offset in
    let made = begun.within in
    omega arith

-- a task of one input begins where its list has a phase, or just behind the last one
reach : (job : Job) → IsGraph job.graph → job.starts ≡ [] → (n t : ℕ) → t < n → t < length job.graph.tasks
    → has_one (task_at job.graph t).kind ≡ true → (span_in job t).offset ≤ first_length job t
reach job is least zero t low there one = absurd (omega arith)
reach job is least (suc n) t low there one =
    elim (ltb 0 (span_in job t).offset) as (λ b. (ltb 0 (span_in job t).offset ≡ b) → (span_in job t).offset ≤ first_length job t) [
      | false ↦ λ e. let none : (span_in job t).offset ≤ 0 = ltb-false 0 (span_in job t).offset e in omega arith
      | true ↦ λ e.
          let begun = begins job t is there (no_start (task_at job.graph t).joins_now t job.starts least) (ltb-true 0 (span_in job t).offset e) in
          by_parent job is t there one
          (λ u less kind. reach job is least n u (omega arith) (omega arith) kind) begun.0 begun.1 begun.2
    ] refl

pub starts_in_time : (job : Job) (t n : ℕ) → IsGraph job.graph → job.starts ≡ [] → t < length job.graph.tasks
    → start_in job t ≡ Some n → n ≤ first_length job t
starts_in_time job t n is least there start =
    elim (task_at job.graph t).joins_now as (λ b. ((task_at job.graph t).joins_now ≡ b)
    → (if b && (span_in job t).live then Some (span_in job t).offset else None) ≡ Some n → n ≤ first_length job t) [
      | true ↦ λ now s.
          let kind : (task_at job.graph t).kind ≡ Sink = ((is.tasks t there).now now).0 in
          let same : (span_in job t).offset ≡ n = of_some (span_in job t).live (span_in job t).offset n s in
          let low : (span_in job t).offset ≤ first_length job t = reach job is least (suc t) t (omega arith) there (ap has_one kind) in
          omega arith
      | false ↦ λ now s. absurd (cc)
    ] refl start
  where
    of_some : (b : Bool) (a c : ℕ) → (if b then Some a else None) ≡ Some c → a ≡ c
    of_some true a c e = cc
    of_some false a c e = absurd (cc)
