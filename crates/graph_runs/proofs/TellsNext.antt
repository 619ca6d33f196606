-- What the place of a task tells of its next event and of its end, by what the task alone has seen.
use Rattle.std.proofs.Common.{◌≡◌, ℕ, ◌+◌, ◌<◌, ◌≤◌, Bool, true, false, ◌&&◌, cond, eqb, List, [], ◌∷◌, ◌++◌, Option, Some, None, is_some, length, map, get_or, take, drop, ℤ, refl, sym, ap, ◌∙◌, arith, ◌⊎◌, inl, inr}
use Rattle.std.specs.Prelude.{Result, Ok, Err, nat_le, unwrap_or, unsigned_abs}
use Rattle.std.proofs.lemmas.Bool.{cases_lt, eq-eqb, le-ltb}
use Rattle.std.proofs.lemmas.List.{length-map, length-take, length-drop, get_or-map}
use Rattle.std.proofs.lemmas.Option.{slice_get_past}
use Rattle.stream_filters.specs.Range.{ranged}
use Rattle.stream_filters.specs.declared.fault.TooBigValue.{TooBigValue}
use Rattle.phase_history.specs.Histories.{has_dropped}
use Rattle.graph_base.specs.declared.line.Kind.{Kind}
use Rattle.graph_base.specs.declared.line.Kind.TheVariants.{Source, Fir, Split, Decimate, Join, Peer, Sink}
use Rattle.graph_base.specs.Graphs.{task_at}
use Rattle.graph_base.specs.Registrations.{no_registration}
use Rattle.graph_base.specs.TaskLines.{IsGraph}
use Rattle.graph_base.proofs.Registered.{registrations-phasers}
use Rattle.stream_lists.specs.Jobs.{Job, samples_at}
use Rattle.stream_lists.specs.Spans.{signalled_by, puts_on}
use Rattle.graph_runs.specs.Moments.{Moment, AtMost, TaskRan, HasEnded, MayStop, at_until, no_sample, no_input, RanOut, HasSamples, OnLine, made_now, input_at, first_input}
use Rattle.graph_runs.proofs.Tasks.{first_looks}
use Rattle.graph_runs.specs.Moves.{IsStaying, IsBlock, NoneDue, MayBeginTo}
use Rattle.graph_runs.specs.Answers.{output_at, values_up_to}
use Rattle.graph_runs.specs.Nexts.{signals, exchanges, waits_first, first_owed, has_left, registrations_at, comes_by, is_cut}
use Rattle.graph_runs.specs.TaskPlaces.{Owed, nothing, values, exchange, OwesUpTo, TaskPlace, StandsUpTo, registration_at}
use Rattle.graph_runs.proofs.PlacesLemmas.{on_ends, place_of_output}
use Rattle.graph_runs.proofs.Signalling.{owed, may_put, begins_some}
use Rattle.graph_runs.proofs.Boundaries.{all_put, made_many, all_taken, peer_ends}
use Rattle.graph_runs.proofs.Stepping.{peer_most}
use Rattle.graph_runs.proofs.Calling.{source_ends, until_is, waits_as_peer}
use Rattle.graph_runs.specs.Parts.{HasPart, AreNextValues, AreNextSamples, BeginsSteps, IsExchange}
use Rattle.graph_runs.specs.Places.{HasChildrenBy, MayMake, IsMost}

-- ---- registrations

-- a phaser on a task's line has a registration of the task
pub registration_on : (job : Job) (t p : ℕ) → IsGraph job.graph → t < length job.graph.tasks
    → OnLine (task_at job.graph t) p
    → (i : ℕ) × (i < length (registrations_at job t)) × ((registration_at job t i).phaser ≡ p)
registration_on job t p is there on =
    let line = is.tasks t there in
    let rs = registrations_at job t in
    let at = on_ends job.graph t (task_at job.graph t) p line on in
    let phasers = registrations-phasers job.graph t (task_at job.graph t) line in
    let long : length rs ≡ length ((task_at job.graph t).inputs ++ (task_at job.graph t).outputs) =
    sym (length-map rs (λ r. r.phaser)) ∙ ap length phasers in
    let lt : at.0 < length rs = omega arith in (
      at.0,
      lt,
      sym (get_or-map (λ r. r.phaser) rs at.0 no_registration 0 lt)
          ∙ ap (λ ps. get_or ps at.0 0) phasers ∙ at.2,
    )

-- a number stands among those of the place
pub numbered_within : {most : ℕ} (job : Job) (m : Moment) (t i n : ℕ) (at : TaskPlace)
    → StandsUpTo most job m t at → i < length (registrations_at job t)
    → m.number (registration_at job t i).phaser t ≡ Some n → i < length at.numbers
numbered_within job m t i n at stands lt number = by (cases_lt i (length at.numbers))
  where
    by : (i < length at.numbers) ⊎ (length at.numbers ≤ i) → i < length at.numbers
    by (inl room) = room
    by (inr past) =
        absurd (let no : None ≡ Some n =
        sym (slice_get_past at.numbers i past) ∙ sym (stands.numbered i lt) ∙ number in cc)

-- a task whose place has left none stays on all
pub staying_at : {most : ℕ} (job : Job) (m : Moment) (t : ℕ) (at : TaskPlace)
    → IsGraph job.graph → t < length job.graph.tasks → TaskRan job m t
    → StandsUpTo most job m t at → at.left ≡ 0 → IsStaying m t
staying_at job m t at is there ran stands none p n number =
    let r = registration_on job t p is there (ran.lines p n number) in
    let found : m.number (registration_at job t r.0).phaser t ≡ Some n =
    ap (λ q. m.number q t) r.2 ∙ number in
    let room = numbered_within job m t r.0 n at stands r.1 found in
    let left : has_left m t (registration_at job t r.0) ≡ false =
    stands.leaves r.0 room ∙ le-ltb r.0 at.left (omega arith) in
    sym (ap (λ o. has_dropped (m.history p) (unwrap_or o 0)) number)
    ∙ sym (ap (λ q. has_dropped (m.history q) (unwrap_or (m.number q t) 0)) r.2) ∙ left

-- ---- what is owed

not_first : (b : Bool) (j : ℕ) → cond b exchanges (signals j) ≡ signals j → b ≡ false
not_first false j e = refl
not_first true j e = absurd (cc)

pub is_first : (b : Bool) (j : ℕ) → cond b exchanges (signals j) ≡ exchanges → b ≡ true
is_first true j e = refl
is_first false j e = absurd (cc)

-- a value in range is the number itself
ranged_value : (x v : ℤ) → ranged x ≡ Ok v → x ≡ v
ranged_value x v e = by (nat_le (unsigned_abs x) 9223372036854775807) e
  where
    by : (b : Bool) → cond {A = Result ℤ TooBigValue} b (Ok x) (Err (record {})) ≡ Ok v → x ≡ v
    by true e = cc
    by false e = absurd (cc)

-- two lists with the same head and the same rest
same_parts : {X : Type 0} (x y : X) (xs ys : List X) → x ∷ xs ≡ y ∷ ys → (x ≡ y) × (xs ≡ ys)
same_parts x y xs ys e = (cc, cc)

-- and so of a list
pub ranged_values : (xs vs : List ℤ) → map ranged xs ≡ map (λ v. Ok v) vs → xs ≡ vs
ranged_values [] [] e = refl
ranged_values [] (v ∷ vs) e = absurd (cc)
ranged_values (x ∷ xs) [] e = absurd (cc)
ranged_values (x ∷ xs) (v ∷ vs) e =
    let both = same_parts (ranged x) (Ok v) (map ranged xs) (map (λ w. Ok w) vs) e in
    ap (λ y. y ∷ xs) (ranged_value x v both.0) ∙ ap (λ l. v ∷ l) (ranged_values xs vs both.1)

-- what a place that owes something says of the moment
pub owes_as : {most : ℕ} (job : Job) (m : Moment) (t : ℕ) (at : TaskPlace) (o : Owed)
    → StandsUpTo most job m t at → at.owed ≡ o → OwesUpTo most job m t o
owes_as {most} job m t at o stands is =
    rw is at stands.owes

pub next_values_are : (job : Job) (m : Moment) (t j most : ℕ) (vs : List ℤ) (at : TaskPlace)
    → IsGraph job.graph → t < length job.graph.tasks → HasPart job m t → IsMost job t most
    → StandsUpTo most job m t at → at.left ≡ 0 → at.owed ≡ values j (map (λ v. Ok v) vs)
    → AreNextValues job m t j (output_at job t j) vs
next_values_are job m t j most vs at is there part allowed stands none owed_is =
    let owes = owes_as job m t at (values j (map (λ v. Ok v) vs)) stands owed_is in
    let o = owed job m t j owes.0 in
    let rest = drop (length (m.put t j)) (made_now job m t j) in
    let next : values_up_to most job m t j ≡ vs =
    ranged_values (values_up_to most job m t j) vs owes.2 in
    let many : length (values_up_to most job m t j) ≡ length vs = ap length next in
    let cut = length-take most rest in
    record {
      place = place_of_output job.graph t (task_at job.graph t) j (is.tasks t there) o.0;
      staying = staying_at job m t at is there part.ran stands none;
      entries = rw next at (begins_some most (m.put t j) (made_now job m t j) (part.ran.puts j o.0));
      exchanged = may_put (task_at job.graph t).kind j (length (m.put t j))
          (length (m.taken t 1)) (length vs)
          (λ peer. (let one : most ≡ 1 = peer_most job t most allowed peer in omega arith))
          (not_first (waits_first (task_at job.graph t).kind j (length (m.put t j))
          (length (m.taken t 1))) j owes.1);
    }

pub next_exchange_is : {most : ℕ} (job : Job) (m : Moment) (t : ℕ) (x : ℤ) (at : TaskPlace)
    → IsGraph job.graph → t < length job.graph.tasks → HasPart job m t
    → StandsUpTo most job m t at → at.left ≡ 0 → at.owed ≡ exchange x
    → IsExchange job m t (input_at (task_at job.graph t) 1)
next_exchange_is job m t x at is there part stands none owed_is =
    let owes = owes_as job m t at (exchange x) stands owed_is in
    let o = owed job m t 1 owes.0 in
    let w = waits_as_peer (task_at job.graph t).kind 1 (length (m.put t 1)) (length (m.taken t 1))
    (is_first (waits_first (task_at job.graph t).kind 1 (length (m.put t 1))
    (length (m.taken t 1))) 1 owes.1) in
    let ends = peer_ends job t is there w.0 in
    let two : length (task_at job.graph t).inputs ≡ 2 = ends.0 in
    let few : length (m.put t 1) < length (made_now job m t 1) = o.1 in
    let low : length (m.taken t 1) ≤ length (m.put t 1) = w.1 in
    let peer = w.0 in
    let plain : puts_on (task_at job.graph t) (m.begun t) 1 ≡ m.begun t = rw peer refl in
    let many : length (made_now job m t 1) ≡ puts_on (task_at job.graph t) (m.begun t) 1 =
    made_many job m t 1 is part.ran there o.0 in
    record {
      few = omega arith;
      place = refl;
      staying = staying_at job m t at is there part.ran stands none;
      peer = peer;
      behind = omega arith;
    }

-- ---- a boundary

-- where the children that come here have their numbers, none is due
pub none_due_at : {most : ℕ} (job : Job) (m : Moment) (t p : ℕ) (at : TaskPlace)
    → IsGraph job.graph → HasPart job m t → StandsUpTo most job m t at
    → HasChildrenBy job m t at.begun → NoneDue job m t p
none_due_at job m t p at is part stands children c n u below parent of_t number absent on =
    by (cases_lt (m.begun t) u.at)
  where
    early : m.begun t ≤ u.at
    early =
        rw of_t at (part.ran.children c p n u below parent of_t number absent on).early

    clash : u.at ≡ m.begun t → ⊥
    clash same =
        let comes : comes_by t at.begun (task_at job.graph c).parent ≡ true =
        ap (λ o. comes_by t at.begun o) parent
        ∙ ap (λ b. b && eqb u.at at.begun) (eq-eqb u.task t of_t)
        ∙ eq-eqb u.at at.begun (same ∙ stands.begun) in
        let r = registration_on job c p is below on in
        let some : is_some (m.number (registration_at job c r.0).phaser c) ≡ true =
        children c below comes r.0 r.1 in
        (let wrong : true ≡ false =
        sym some ∙ ap (λ q. is_some (m.number q c)) r.2 ∙ ap is_some absent in cc)

    by : (m.begun t < u.at) ⊎ (u.at ≤ m.begun t) → m.begun t < u.at
    by (inl lt) = lt
    by (inr ge) = let le : m.begun t ≤ u.at = early in absurd (clash (omega arith))

-- the next steps may begin
begins_at : {most : ℕ} (job : Job) (m : Moment) (t steps : ℕ) (at : TaskPlace)
    → IsGraph job.graph → t < length job.graph.tasks → HasPart job m t
    → StandsUpTo most job m t at → at.owed ≡ nothing → MayMake job t at.begun steps
    → HasChildrenBy job m t at.begun
    → HasSamples (task_at job.graph t).kind (m.begun t + steps) (length (samples_at job t))
    → MayBeginTo job m t (m.begun t + steps)
begins_at job m t steps at is there part stands owed_is may children samples =
    let now : MayMake job t (m.begun t) steps = rw stands.begun may in
    record {
      taken = λ k lt.
          all_taken job m t is part.ran there (owes_as job m t at nothing stands owed_is) k lt;
      cut = now.cut;
      samples = samples;
      children = λ p c n u below parent of_t number absent on.
          now.children c u below parent of_t
          (none_due_at job m t p at is part stands children c n u below parent of_t number absent
          on);
    }

pub next_samples_at : {most : ℕ} (job : Job) (m : Moment) (t : ℕ) (vs : List ℤ)
    (at : TaskPlace) → IsGraph job.graph → t < length job.graph.tasks → HasPart job m t
    → StandsUpTo most job m t at → at.left ≡ 0 → at.owed ≡ nothing
    → (task_at job.graph t).kind ≡ Source
    → vs ≡ take (length vs) (drop at.begun (samples_at job t))
    → MayMake job t at.begun (length vs) → HasChildrenBy job m t at.begun
    → AreNextSamples job m t 0 (output_at job t 0) vs
next_samples_at job m t vs at is there part stands none owed_is source samples may children =
    let idle : first_owed job m t ≡ None = owes_as job m t at nothing stands owed_is in
    let one : length (signalled_by (task_at job.graph t)) ≡ 1 = source_ends job t is there source in
    let lt : 0 < length (signalled_by (task_at job.graph t)) = omega arith in
    let plain : puts_on (task_at job.graph t) (m.begun t) 0 ≡ m.begun t = rw source refl in
    let here : m.begun t ≡ at.begun = stands.begun in
    let begun : m.begun t ≤ length (samples_at job t) = rw source at part.ran.samples in
    let rest = drop at.begun (samples_at job t) in
    let many : length vs ≡ length (take (length vs) rest) = ap length samples in
    let cut = length-take (length vs) rest in
    let left = length-drop at.begun (samples_at job t) in
    let more : m.begun t + length vs ≤ length (samples_at job t) = omega arith in
    record {
      place = place_of_output job.graph t (task_at job.graph t) 0 (is.tasks t there) lt;
      staying = staying_at job m t at is there part.ran stands none;
      source = source;
      may_begin = begins_at job m t (length vs) at is there part stands owed_is may children
          (rw source more);
      all_put = ap length (all_put job m t part.ran there idle 0 lt)
          ∙ made_many job m t 0 is part.ran there lt ∙ plain;
      samples = samples
          ∙ ap (λ b. take (length vs) (drop b (samples_at job t))) (sym here);
    }

no_samples : (kind : Kind) (b n : ℕ) → (kind ≡ Source → ⊥) → HasSamples kind b n
no_samples Source b n never = absurd (never refl)
no_samples Fir b n never = tt
no_samples Split b n never = tt
no_samples Decimate b n never = tt
no_samples Join b n never = tt
no_samples Peer b n never = tt
no_samples Sink b n never = tt

-- a part of what may be made may be made
at_most_fewer : (limit : Option ℕ) (few many : ℕ) → few ≤ many → AtMost many limit
    → AtMost few limit
at_most_fewer None few many le most = tt
at_most_fewer (Some limit) few many le most =
    let high : many ≤ limit = most in omega arith

makes_fewer : (job : Job) (t begun few many : ℕ) → few ≤ many → MayMake job t begun many
    → MayMake job t begun few
makes_fewer job t begun few many le may = record {
  cut = at_most_fewer (task_at job.graph t).until (begun + few) (begun + many) (omega arith)
      may.cut;
  children = λ c u below parent of_t later.
      (let high : begun + many ≤ u.at = may.children c u below parent of_t later in omega arith);
}

-- some steps, no more than a block has, are a block
block_within : (kind : Kind) (steps most : ℕ) → 1 ≤ steps → steps ≤ most → IsBlock kind most
    → IsBlock kind steps
block_within Source steps most some few is = tt
block_within Fir steps most some few is = tt
block_within Sink steps most some few is = tt
block_within Split steps most some few is = let one : most ≡ 1 = is in omega arith
block_within Decimate steps most some few is = let one : most ≡ 1 = is in omega arith
block_within Join steps most some few is = let one : most ≡ 1 = is in omega arith
block_within Peer steps most some few is = let one : most ≡ 1 = is in omega arith

pub next_waits_at : (job : Job) (m : Moment) (t most allowed steps : ℕ) (at : TaskPlace)
    → IsGraph job.graph → t < length job.graph.tasks → HasPart job m t → IsMost job t most
    → StandsUpTo most job m t at → at.left ≡ 0 → at.owed ≡ nothing
    → ((task_at job.graph t).kind ≡ Source → ⊥) → MayMake job t at.begun allowed
    → HasChildrenBy job m t at.begun → 1 ≤ steps → steps ≤ allowed → steps ≤ most
    → BeginsSteps job m t (first_input (task_at job.graph t) at.begun)
    (input_at (task_at job.graph t) (first_input (task_at job.graph t) at.begun)) steps
next_waits_at job m t most allowed steps at is there part able stands none owed_is never may
    children some few room = record {
      few = (first_looks (task_at job.graph t) at.begun (is.tasks t there).ends never).0;
      place = refl;
      staying = staying_at job m t at is there part.ran stands none;
      first = ap (λ b. first_input (task_at job.graph t) b) (sym stands.begun);
      block = block_within (task_at job.graph t).kind steps most some room able.block;
      may_begin = begins_at job m t steps at is there part stands owed_is
          (makes_fewer job t at.begun steps allowed few may) children
          (no_samples (task_at job.graph t).kind (m.begun t + steps) (length (samples_at job t))
          never);
    }

-- ---- the end

ended_by : {most : ℕ} (job : Job) (m : Moment) (t : ℕ) (at : TaskPlace)
    → t < length job.graph.tasks → HasPart job m t → StandsUpTo most job m t at
    → at.owed ≡ nothing → MayStop m (task_at job.graph t) t (length (samples_at job t))
    → HasEnded job m t
ended_by job m t at there part stands owed_is may_end = record {
  all_put = λ j lt.
      all_put job m t part.ran there (owes_as job m t at nothing stands owed_is) j lt;
  may_end = may_end;
}

pub ended_cut : {most : ℕ} (job : Job) (m : Moment) (t : ℕ) (at : TaskPlace)
    → t < length job.graph.tasks → HasPart job m t → StandsUpTo most job m t at
    → at.owed ≡ nothing → is_cut (task_at job.graph t).until at.begun ≡ true → HasEnded job m t
ended_cut job m t at there part stands owed_is cut =
    ended_by job m t at there part stands owed_is
    (at_until (until_is (task_at job.graph t).until (m.begun t)
    (ap (λ b. is_cut (task_at job.graph t).until b) stands.begun ∙ cut)))

pub ended_no_sample : {most : ℕ} (job : Job) (m : Moment) (t : ℕ) (at : TaskPlace)
    → t < length job.graph.tasks → HasPart job m t → StandsUpTo most job m t at
    → at.owed ≡ nothing → (task_at job.graph t).kind ≡ Source → length (samples_at job t) ≤ at.begun
    → HasEnded job m t
ended_no_sample job m t at there part stands owed_is source used =
    ended_by job m t at there part stands owed_is
    (no_sample source (let steps : m.begun t ≡ at.begun = stands.begun in omega arith))

pub ended_no_input : {most : ℕ} (job : Job) (m : Moment) (t : ℕ) (at : TaskPlace)
    → t < length job.graph.tasks → HasPart job m t → StandsUpTo most job m t at
    → at.owed ≡ nothing → ((task_at job.graph t).kind ≡ Source → ⊥)
    → RanOut m (task_at job.graph t) t (first_input (task_at job.graph t) at.begun)
    → HasEnded job m t
ended_no_input job m t at there part stands owed_is never out =
    ended_by job m t at there part stands owed_is
    (no_input never (rw stands.begun out))
