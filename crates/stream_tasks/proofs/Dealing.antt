-- What a splitter has dealt, from the wait for the values on to the last share of them.
use Rattle.std.proofs.Common.{◌≡◌, ◌≢◌, ℕ, ◌+◌, ◌/◌, ◌%◌, ◌<◌, ◌≤◌, ◌⊎◌, inl, inr, ℤ, true, false, List, [], ◌++◌, Some, length, get_or, drop, map, refl, sym, ap, subst, ◌∙◌, arith}
use Rattle.std.specs.Prelude.{nat_lt, unwrap_or}
use mathlib.Core.List.{IsPrefix}
use Rattle.std.proofs.Math.Seq.{drop-append_seam}
use Rattle.std.proofs.lemmas.Bool.{cases_lt, le-ltb, lt-ltb}
use Rattle.std.proofs.lemmas.List.{length-append, length-map}
use Rattle.std.proofs.lemmas.Nat.{mod_below}
use Rattle.std.proofs.lemmas.Option.{slice_get-get_or}
use Rattle.phase_accum.specs.declared.outcome.Outcome.{Outcome}
use Rattle.phase_history.specs.Histories.{History, has_dropped}
use Rattle.graph_base.specs.TaskLines.{IsGraph}
use Rattle.graph_base.specs.Graphs.{Task, task_at}
use Rattle.graph_base.specs.declared.line.Kind.TheVariants.{Source, Split}
use Rattle.stream_lists.specs.Jobs.{Job}
use Rattle.stream_lists.specs.Lists.{every, number}
use Rattle.stream_lists.specs.Spans.{puts_on, signalled_by, turns_below}
use Rattle.graph_runs.specs.Answers.{output_at}
use Rattle.graph_runs.specs.Moments.{Moment, made_now, taken_now}
use Rattle.graph_runs.specs.Nexts.{has_left, number_on, registrations_at}
use Rattle.graph_runs.specs.Parts.{AreNextValues, HasGot, HasPart, HasPut, HasSeen}
use Rattle.graph_runs.specs.TaskPlaces.{StandsUpTo, TaskPlace, nothing, registration_at}
use Rattle.graph_runs.proofs.Boundaries.{made_many}
use Rattle.graph_runs.proofs.Following.{Lacks}
use Rattle.graph_runs.proofs.Lacking.{first_none}
use Rattle.graph_runs.proofs.OwnEvents.{eq_case}
use Rattle.graph_runs.proofs.PlacesLemmas.{place_of_output}
use Rattle.graph_runs.proofs.Tasks.{now_at}
use Rattle.stream_tasks.specs.Deals.{IsDealing, dealt}
use Rattle.stream_tasks.proofs.OneInputs.{TakesOne, taken_by}
use Rattle.stream_tasks.proofs.Shares.{length-every, share_next, turn_of, turn_once, turns_first, turns_none, turns_then}

-- ---- a splitter

-- a splitter signals its outputs, two at least and eight at most, and has one input
pub split_ends : (job : Job) (t : ℕ) → IsGraph job.graph → t < length job.graph.tasks
    → (task_at job.graph t).kind ≡ Split
    → (signalled_by (task_at job.graph t) ≡ (task_at job.graph t).outputs)
    × (length (task_at job.graph t).inputs ≡ 1) × (2 ≤ length (task_at job.graph t).outputs)
    × (length (task_at job.graph t).outputs ≤ 8)
split_ends job t is there kind =
    let ends = rw kind at (is.tasks t there).ends in
    (rw kind refl, ends.0, ends.1, ends.2)

-- it has one input, of which a step takes a value
pub split_takes : (job : Job) (t : ℕ) → IsGraph job.graph → t < length job.graph.tasks
    → (task_at job.graph t).kind ≡ Split → TakesOne job t
split_takes job t is there kind = record {
  input = (split_ends job t is there kind).1;
  first = λ begun. rw kind refl;
  block = rw kind refl;
  source = λ source. (let no : Split ≡ Source = sym kind ∙ source in cc);
  exchanged = λ j put taken. rw kind tt;
  samples = λ begun samples. rw kind tt;
  takes = λ begun. rw kind refl;
  has_taken = λ begun taken has. rw kind at has;
  taken_is = λ begun taken is. rw kind is;
}

-- what it makes on an output, over what it has taken
split_made : (job : Job) (m : Moment) (t j : ℕ) → IsGraph job.graph → t < length job.graph.tasks
    → (task_at job.graph t).kind ≡ Split
    → made_now job m t j ≡ every (length (task_at job.graph t).outputs) j (m.taken t 0)
split_made job m t j is there kind =
    let task = task_at job.graph t in
    let few : 0 < length task.inputs = omega (arith, (split_ends job t is there kind).1) in
    let made : made_now job m t j
    ≡ every (length task.outputs) j (get_or (taken_now m task t) 0 []) = rw kind refl in
    made ∙ ap (λ l. every (length task.outputs) j l) (now_at m task t 0 few)

-- ---- before and behind a turn

dealt_before : (outputs values turn i : ℕ) → turn ≤ i → dealt outputs values turn i ≡ 0
dealt_before outputs values turn i le =
    let no : nat_lt i turn ≡ false = le-ltb i turn le in rw no refl

dealt_behind : (outputs values turn i : ℕ) → i < turn
    → dealt outputs values turn i ≡ turns_below outputs i values
dealt_behind outputs values turn i less =
    let yes : nat_lt i turn ≡ true = lt-ltb i turn less in rw yes refl

-- ---- the wait

-- with the values that it has taken then it has all to deal
pub deal_begins : (job : Job) (m after : Moment) (t p most : ℕ) (outcomes : List Outcome)
    (at : TaskPlace) (now : History) → IsGraph job.graph → t < length job.graph.tasks
    → HasPart job m t → (task_at job.graph t).kind ≡ Split → StandsUpTo most job m t at
    → at.owed ≡ nothing → 1 ≤ length outcomes
    → HasGot job m after t 0 p outcomes (m.begun t + length outcomes) now
    → IsDealing job after t at.numbers (at.begun + length outcomes) 0 (map number outcomes)
deal_begins job m after t p most outcomes at now is there part kind stands owed_is some got = record {
  kind = kind;
  numbered = λ i lt.
      got.moved.numbers (registration_at job t i).phaser t ∙ stands.numbered i lt;
  staying = got.staying;
  begun_is = got.begun_is ∙ ap (λ b. b + length outcomes) stands.begun;
  first = at.begun;
  steps = ap (λ n. at.begun + n) (sym many);
  taken =
      ap (λ l. drop at.begun l) got.taken
      ∙ ap (λ n. drop n (m.taken t 0 ++ map number outcomes)) (sym before)
      ∙ drop-append_seam (m.taken t 0) (map number outcomes);
  outputs_left = omega (arith, ends.2);
  values_left = omega (arith, many);
  puts = λ i lt.
      (let j = (at.begun + i) % outputs in
      let below : j < outputs = mod_below (at.begun + i) outputs (omega arith) in
      let there_j : j < length (signalled_by task) =
      omega (arith, below, ap length ends.0) in
      let all : length (made_now job m t j) ≡ length (m.put t j) + 0 =
      subst (λ o. Lacks job m t o) owed_is stands.lacks j there_j in
      let made : length (made_now job m t j) ≡ puts_on task (m.begun t) j =
      made_many job m t j is part.ran there there_j in
      let plain : puts_on task (m.begun t) j ≡ turns_below outputs j (m.begun t) =
      rw kind refl in
      let begun : turns_below outputs j (m.begun t) ≡ turns_below outputs j at.begun =
      ap (λ b. turns_below outputs j b) stands.begun in
      let turns = turns_first outputs at.begun i lt in
      let none = dealt_before outputs (length (map number outcomes)) 0 i (omega arith) in
      omega (arith, ap length (got.put j), all, made, plain, begun, turns, none));
}
  where
    task : Task
    task = task_at job.graph t

    outputs : ℕ
    outputs = length (task_at job.graph t).outputs

    ends : (signalled_by (task_at job.graph t) ≡ (task_at job.graph t).outputs)
        × (length (task_at job.graph t).inputs ≡ 1)
        × (2 ≤ length (task_at job.graph t).outputs)
        × (length (task_at job.graph t).outputs ≤ 8)
    ends = split_ends job t is there kind

    many : length (map number outcomes) ≡ length outcomes
    many = length-map outcomes number

    before : length (m.taken t 0) ≡ at.begun
    before = taken_by job m t (split_takes job t is there kind) part ∙ stands.begun

-- ---- others' events

pub deal_stays : (job : Job) (m after : Moment) (t p begun turn : ℕ) (numbers : List ℕ)
    (values : List ℤ) (now : History) → IsDealing job m t numbers begun turn values
    → HasSeen job m after t p now → IsDealing job after t numbers begun turn values
deal_stays job m after t p begun turn numbers values now deal seen = record {
  kind = deal.kind;
  numbered = λ i lt.
      seen.moved.numbers (registration_at job t i).phaser t ∙ deal.numbered i lt;
  staying = seen.staying deal.staying;
  begun_is = seen.same.begun ∙ deal.begun_is;
  first = deal.first;
  steps = deal.steps;
  taken = ap (λ l. drop deal.first l) (seen.same.taken 0) ∙ deal.taken;
  outputs_left = deal.outputs_left;
  values_left = deal.values_left;
  puts = λ i lt.
      ap length (seen.same.put ((deal.first + i) % length (task_at job.graph t).outputs))
      ∙ deal.puts i lt;
}

-- ---- a share

module _ (job : Job) (m : Moment) (t begun turn : ℕ) (numbers : List ℕ) (values : List ℤ)
    (is : IsGraph job.graph) (there : t < length job.graph.tasks) (part : HasPart job m t)
    (deal : IsDealing job m t numbers begun turn values) where
  abbrev outputs : ℕ
  outputs = length (task_at job.graph t).outputs

  -- the output whose turn it is, and its share
  abbrev pub output : ℕ
  output = (deal.first + turn) % outputs

  abbrev pub share : List ℤ
  share = every outputs turn values

  ends : (signalled_by (task_at job.graph t) ≡ (task_at job.graph t).outputs)
      × (length (task_at job.graph t).inputs ≡ 1) × (2 ≤ length (task_at job.graph t).outputs)
      × (length (task_at job.graph t).outputs ≤ 8)
  ends = split_ends job t is there deal.kind

  within : (i : ℕ) → (deal.first + i) % outputs < length (signalled_by (task_at job.graph t))
  within i =
      let below = mod_below (deal.first + i) outputs (omega (arith, ends.2)) in
      omega (arith, below, ap length ends.0)

  -- it is next
  pub share_is_next : AreNextValues job m t output (output_at job t output) share
  share_is_next = record {
    place = place_of_output job.graph t (task_at job.graph t) output (is.tasks t there)
        (within turn);
    staying = deal.staying;
    entries =
        subst (λ l. IsPrefix (m.put t output ++ share) l)
        (sym (split_made job m t output is there deal.kind))
        (share_next outputs deal.first turn (m.taken t 0) values (m.put t output)
        deal.outputs_left deal.taken
        (taken_by job m t (split_takes job t is there deal.kind) part ∙ deal.begun_is ∙ deal.steps)
        (subst (λ l. IsPrefix (m.put t output) l) (split_made job m t output is there deal.kind)
        (part.ran.puts output (within turn)))
        (let none = dealt_before outputs (length values) turn turn (omega arith) in
        omega (arith, deal.puts turn deal.outputs_left, none)));
    exchanged = rw deal.kind tt;
  }

  module _ (after : Moment) (p : ℕ) (now : History)
      (put : HasPut job m after t output p share (m.begun t) now) where
    -- once it is put, each output has got its own
    puts_then : (i : ℕ) → i < outputs
        → length (after.put t ((deal.first + i) % outputs))
        ≡ (deal.first + i) / outputs + dealt outputs (length values) (turn + 1) i
    puts_then i lt = by (eq_case i turn)
      where
        by : (i ≡ turn) ⊎ (i ≢ turn)
            → length (after.put t ((deal.first + i) % outputs))
            ≡ (deal.first + i) / outputs + dealt outputs (length values) (turn + 1) i
        by (inl same) =
            let none = dealt_before outputs (length values) turn turn (omega arith) in
            let now_dealt =
            dealt_behind outputs (length values) (turn + 1) turn (omega arith) in
            let more : length (after.put t output) ≡ length (m.put t output) + length share =
            ap length put.put ∙ length-append (m.put t output) share in
            let here : length (after.put t output)
            ≡ (deal.first + turn) / outputs + dealt outputs (length values) (turn + 1) turn =
            omega (
              arith,
              more,
              none,
              now_dealt,
              deal.puts turn deal.outputs_left,
              length-every outputs turn values,
            ) in
            subst (λ k. length (after.put t ((deal.first + k) % outputs))
            ≡ (deal.first + k) / outputs + dealt outputs (length values) (turn + 1) k)
            (sym same) here
        by (inr apart) =
            let other : (deal.first + i) % outputs ≢ output =
            λ e. apart (turn_once outputs deal.first i turn lt deal.outputs_left e) in
            let still : dealt outputs (length values) (turn + 1) i
            ≡ dealt outputs (length values) turn i = stays (cases_lt i turn) in
            ap length (put.other_puts ((deal.first + i) % outputs) other) ∙ deal.puts i lt
            ∙ ap (λ n. (deal.first + i) / outputs + n) (sym still)
          where
            stays : (i < turn) ⊎ (turn ≤ i)
                → dealt outputs (length values) (turn + 1) i
                ≡ dealt outputs (length values) turn i
            stays (inl less) =
                dealt_behind outputs (length values) (turn + 1) i (omega arith)
                ∙ sym (dealt_behind outputs (length values) turn i less)
            stays (inr le) =
                dealt_before outputs (length values) (turn + 1) i
                (let no : i ≢ turn = apart in grind (arith))
                ∙ sym (dealt_before outputs (length values) turn i le)

    -- another output has its turn
    pub share_goes_on : turn + 1 < outputs → turn + 1 < length values
        → IsDealing job after t numbers begun (turn + 1) values
    share_goes_on more_outputs more_values = record {
      kind = deal.kind;
      numbered = λ i lt.
          put.moved.numbers (registration_at job t i).phaser t ∙ deal.numbered i lt;
      staying = put.staying;
      begun_is = put.begun_is ∙ deal.begun_is;
      first = deal.first;
      steps = deal.steps;
      taken = ap (λ l. drop deal.first l) (put.taken 0) ∙ deal.taken;
      outputs_left = more_outputs;
      values_left = more_values;
      puts = puts_then;
    }

    lacks_nothing : (outputs ≤ turn + 1) ⊎ (length values ≤ turn + 1) → Lacks job after t nothing
    lacks_nothing over j lt =
        let below : j < outputs = omega (arith, lt, ap length ends.0) in
        let i = turn_of outputs deal.first j below in
        let made : length (made_now job after t j) ≡ puts_on (task_at job.graph t) (after.begun t) j =
        made_many job after t j is put.moved.part.ran there lt in
        let plain : puts_on (task_at job.graph t) (after.begun t) j
        ≡ turns_below outputs j (after.begun t) = rw deal.kind refl in
        let steps : after.begun t ≡ deal.first + length values =
        put.begun_is ∙ deal.begun_is ∙ deal.steps in
        let there_j : (deal.first + i.0) % outputs ≡ j = i.2 in
        let turns : turns_below outputs j (deal.first + length values)
        ≡ (deal.first + i.0) / outputs + turns_below outputs i.0 (length values) =
        ap (λ k. turns_below outputs k (deal.first + length values)) (sym there_j)
        ∙ turns_then outputs deal.first (length values) i.0 i.1 in
        let has : length (after.put t j)
        ≡ (deal.first + i.0) / outputs + dealt outputs (length values) (turn + 1) i.0 =
        ap (λ k. length (after.put t k)) (sym there_j) ∙ puts_then i.0 i.1 in
        let all : dealt outputs (length values) (turn + 1) i.0
        ≡ turns_below outputs i.0 (length values) = each i.0 i.1 over (cases_lt i.0 (turn + 1)) in
        omega (arith, made, plain, ap (λ b. turns_below outputs j b) steps, turns, has, all)
      where
        each : (i : ℕ) → i < outputs → (outputs ≤ turn + 1) ⊎ (length values ≤ turn + 1)
            → (i < turn + 1) ⊎ (turn + 1 ≤ i)
            → dealt outputs (length values) (turn + 1) i ≡ turns_below outputs i (length values)
        each i lt over (inl less) = dealt_behind outputs (length values) (turn + 1) i less
        each i lt (inl no_output) (inr le) = absurd (omega arith)
        each i lt (inr no_value) (inr le) =
            dealt_before outputs (length values) (turn + 1) i le
            ∙ sym (turns_none outputs (length values) i lt (omega arith))

    left_none : (i : ℕ) → i < length numbers
        → i < length (registrations_at job t)
        → has_left after t (registration_at job t i) ≡ nat_lt i 0
    left_none i lt less =
        let p_i = (registration_at job t i).phaser in
        let n = get_or numbers i 0 in
        let here : after.number p_i t ≡ Some n =
        put.moved.numbers p_i t ∙ deal.numbered i less ∙ slice_get-get_or numbers i 0 lt in
        let is_n : number_on after t p_i ≡ n = ap (λ o. unwrap_or o 0) here in
        let no : nat_lt i 0 ≡ false = le-ltb i 0 (omega arith) in
        ap (λ u. has_dropped (after.history p_i) u) is_n ∙ put.staying p_i n here ∙ sym no

    -- each output has its share: nothing is owed
    pub share_was_last : (most : ℕ) → length numbers ≡ length (registrations_at job t)
        → (outputs ≤ turn + 1) ⊎ (length values ≤ turn + 1)
        → StandsUpTo most job after t
        (record { numbers = numbers; left = 0; begun = begun; owed = nothing })
    share_was_last most long over = record {
      few = omega (arith, long);
      few_left = omega arith;
      numbered = λ i lt.
          put.moved.numbers (registration_at job t i).phaser t ∙ deal.numbered i lt;
      leaves = λ i lt. left_none i lt (omega (arith, long));
      begun = put.begun_is ∙ deal.begun_is;
      owes = first_none job after t (lacks_nothing over);
      lacks = lacks_nothing over;
    }
