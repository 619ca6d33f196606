-- A stream whose source is fed stands at its moment, and so does one whose source ends.
use Rattle.std.proofs.Common.{◌≡◌, ◌≢◌, ℕ, ℤ, ◌<◌, ◌≤◌, Bool, true, false, eqb, List, [], ◌++◌, Some, None, length, get_or, slice_get, set, refl, sym, ap, subst, ◌∙◌, arith}
use Rattle.std.specs.Prelude.{◌||◌, ◌==◌, Option, is_some, if◌then◌else◌}
use Rattle.std.proofs.lemmas.Bool.{eqb-true, eq-eqb, or_parts}
use Rattle.std.proofs.lemmas.List.{length-set}
use Rattle.std.proofs.lemmas.Option.{slice_get_within, slice_get_read, slice_get-get_or}
use Rattle.graph_base.specs.Graphs.{task_at, source_number, sources_of}
use Rattle.graph_base.specs.declared.line.Kind.TheVariants.{Source}
use Rattle.stream_lists.specs.Jobs.{Job, samples_in, with_samples}
use Rattle.stream_lists.specs.Ranges.{Where}
use Rattle.graph_runs.specs.Moments.{Moment}
use Rattle.graph_runs.proofs.FedFeeds.{feed_continues}
use Rattle.stream_job.specs.Streams.{StreamState, AreInputs, AreKept, IsApart, IsInputOf, IsStreamAt, HasInputRoom, FeedTakes, InputKeeps, feed_takes, ended_at, fed, has_ended}
use Rattle.stream_job.specs.declared.input.Input.{Input}
use Rattle.stream_job.specs.declared.task_state.TaskState.{TaskState}
use Rattle.stream_lists.specs.declared.sample_counts.TheConstants.{COUNT_MAX}
use Rattle.stream_job.proofs.Feeding.{ended_found, ended_stays, ended_then, is_fed, one_source, samples_fed, samples_others, source-within}
use Rattle.stream_job.proofs.FedMachines.{machine_fed}
use Rattle.stream_job.proofs.Setting.{slice_get-set_same, slice_get-set_other}

-- the stream with another input for this source
abbrev pub with_input : StreamState → ℕ → Input → StreamState
with_input stream source new = record {
  job = stream.job;
  machine = stream.machine;
  inputs = set stream.inputs source new;
  met = stream.met;
}

-- what is kept of the samples, where the input of one source keeps those of its task
kept_set : (stream : StreamState) (s more : List (List ℤ)) (m : Moment) (source : ℕ) (new : Input)
    → AreKept stream.job s m stream.inputs → source < length stream.inputs
    → ((t : ℕ) → t < length stream.job.graph.tasks → (task_at stream.job.graph t).kind ≡ Source
    → source_number stream.job.graph.tasks t ≡ source
    → InputKeeps new (m.begun t) (samples_in stream.job more t))
    → ((t : ℕ) → source_number stream.job.graph.tasks t ≢ source
    → samples_in stream.job more t ≡ samples_in stream.job s t)
    → AreKept stream.job more m (set stream.inputs source new)
kept_set stream s more m source new kept lt its others t input there is found =
    by (eqb (source_number stream.job.graph.tasks t) source) refl
  where
    k : ℕ
    k = source_number stream.job.graph.tasks t

    by : (b : Bool) → eqb k source ≡ b → InputKeeps input (m.begun t) (samples_in stream.job more t)
    by true e =
        let same : k ≡ source = eqb-true k source e in
        let G : ℕ → Type 0 = λ n. slice_get (set stream.inputs source new) n ≡ Some input in
        subst (λ one. InputKeeps one (m.begun t) (samples_in stream.job more t))
        (slice_get-set_same stream.inputs source new input lt (subst G same found))
        (its t there is same)
    by false e =
        let not : k ≢ source = λ same. (let no = sym (eq-eqb k source same) ∙ e in cc) in
        subst (InputKeeps input (m.begun t)) (sym (others t not))
        (kept t input there is (slice_get-set_other stream.inputs source k new input not found))

-- all samples are few, where the inputs keep them
few_kept : (stream : StreamState) (s : List (List ℤ)) (m : Moment) (inputs : List Input)
    → length inputs ≡ sources_of stream.job.graph → AreKept stream.job s m inputs
    → (t : ℕ) → t < length stream.job.graph.tasks → (task_at stream.job.graph t).kind ≡ Source
    → (d : Input) → length (samples_in stream.job s t) ≤ COUNT_MAX
few_kept stream s m inputs many kept t there is d =
    let k = source_number stream.job.graph.tasks t in
    let within = source-within stream.job.graph t there is in
    (kept t (get_or inputs k d) there is (slice_get-get_or inputs k d (omega arith))).few

pub stream_fed : (stream : StreamState) (s : List (List ℤ)) (m : Moment) (given : ℕ → List ℤ)
    (source : ℕ) (xs : List ℤ) (input new : Input)
    → IsStreamAt stream s m given → IsApart stream.job
    → length stream.inputs ≡ sources_of stream.job.graph → stream.met ≡ None
    → slice_get stream.inputs source ≡ Some input → input.ended ≡ false → new.ended ≡ input.ended
    → ((t : ℕ) → t < length stream.job.graph.tasks → (task_at stream.job.graph t).kind ≡ Source
    → source_number stream.job.graph.tasks t ≡ source
    → InputKeeps new (m.begun t) (samples_in stream.job s t ++ xs))
    → IsStreamAt (with_input stream source new) (fed s source xs) m given
stream_fed stream s m given source xs input new at apart many none found opens same its =
    let job = with_samples s stream.job in
    let lt = slice_get_within stream.inputs source input found in
    let each = at.each in
    let long : source < length s = omega arith in
    let ended = ended_at stream in
    let is = is_fed stream.job s ended source xs long (λ t number. still t number) in
    let goes = feed_continues job ended m more at.machine.reached.ran at.stays_open is in
    record {
      each = length-set s source (get_or s source [] ++ xs) ∙ at.each;
      machine = machine_fed job m more stream.machine goes (apart more (λ t there kind.
          few_kept stream more m (set stream.inputs source new)
          (length-set stream.inputs source new ∙ many) kept t there kind input)) at.machine;
      lines = at.lines;
      kept = kept;
      stays_open = λ t p n there pp kind over. at.stays_open t p n there pp kind
          (sym (ended_stays stream.inputs source (source_number stream.job.graph.tasks t) input new
          found same) ∙ over);
      none = at.none;
      faults = λ there others is. absurd (let wrong : None ≡ Some there = sym none ∙ is in cc);
    }
  where
    more : List (List ℤ)
    more = fed s source xs

    still : (t : ℕ) → source_number stream.job.graph.tasks t ≡ source → ended_at stream t ≡ false
    still t number =
        ap (has_ended stream.inputs) number ∙ ended_found stream.inputs source input found ∙ opens

    kept : AreKept stream.job (fed s source xs) m (set stream.inputs source new)
    kept =
        let lt = slice_get_within stream.inputs source input found in
        let each = at.each in
        let long : source < length s = omega arith in
        kept_set stream s (fed s source xs) m source new at.kept lt
        (λ t there is number. subst (InputKeeps new (m.begun t))
        (sym (samples_fed stream.job s source t xs long number)) (its t there is number))
        (λ t not. samples_others stream.job s source t xs not)

-- ---- the input of a source

pub input_there : (job : Job) (inputs : List Input) (source : ℕ) (input : Input)
    → AreInputs job inputs → source < sources_of job.graph → input ≡ get_or inputs source input
    → slice_get inputs source ≡ Some input
input_there job inputs source input are lt value =
    slice_get_read inputs (sources_of job.graph) source input (sym are.many) lt value

-- it keeps what its source has still to signal
pub kept_input : (stream : StreamState) (s : List (List ℤ)) (m : Moment) (given : ℕ → List ℤ)
    (source : ℕ) (input : Input) (state : TaskState)
    → IsStreamAt stream s m given → IsInputOf stream.job source input
    → slice_get stream.inputs source ≡ Some input
    → slice_get stream.machine.tasks.items input.task ≡ Some state
    → InputKeeps input state.begun (samples_in stream.job s input.task)
kept_input stream s m given source input state at is found read =
    let begun : m.begun input.task ≡ state.begun =
    (at.machine.tasks input.task state read).stands.begun in
    subst (λ n. InputKeeps input n (samples_in stream.job s input.task)) begun
    (at.kept input.task input is.there is.kind
    (subst (λ k. slice_get stream.inputs k ≡ Some input) (sym is.number) found))

-- another input for the same source
pub inputs_set : (job : Job) (inputs : List Input) (source : ℕ) (input new : Input)
    → AreInputs job inputs → slice_get inputs source ≡ Some input → new.task ≡ input.task
    → HasInputRoom new → AreInputs job (set inputs source new)
inputs_set job inputs source input new are found task room = record {
  many = length-set inputs source new ∙ are.many;
  each = λ k one got. by k one got (eqb k source) refl;
}
  where
    again : IsInputOf job source new
    again =
        let is = are.each source input found in
        record {
          there = subst (λ t. t < length job.graph.tasks) (sym task) is.there;
          kind = ap (λ t. (task_at job.graph t).kind) task ∙ is.kind;
          number = ap (source_number job.graph.tasks) task ∙ is.number;
          room = room;
        }

    by : (k : ℕ) (one : Input) → slice_get (set inputs source new) k ≡ Some one
        → (b : Bool) → eqb k source ≡ b → IsInputOf job k one
    by k one got true e =
        let same : k ≡ source = eqb-true k source e in
        let G : ℕ → Type 0 = λ n. slice_get (set inputs source new) n ≡ Some one in
        let it : new ≡ one = slice_get-set_same inputs source new one
        (slice_get_within inputs source input found) (subst G same got) in
        subst (λ n. IsInputOf job n one) (sym same) (subst (IsInputOf job source) it again)
    by k one got false e =
        are.each k one (slice_get-set_other inputs source k new one
        (λ same. (let no = sym (eq-eqb k source same) ∙ e in cc)) got)

-- ---- a feed

none_is : (met : Option Where) → is_some met ≡ false → met ≡ None
none_is None e = refl
none_is (Some at) e = absurd (cc)

pub feed_took : (stream : StreamState) (s : List (List ℤ)) (m : Moment) (given : ℕ → List ℤ)
    (source many took : ℕ) (input : Input) (state : TaskState)
    → IsStreamAt stream s m given → IsInputOf stream.job source input
    → slice_get stream.inputs source ≡ Some input
    → slice_get stream.machine.tasks.items input.task ≡ Some state
    → is_some stream.met ≡ false → input.ended ≡ false
    → ((xs : List ℤ) → InputKeeps input state.begun xs
    → took ≡ feed_takes (length xs) state.begun many)
    → FeedTakes stream s m source many took
feed_took stream s m given source many took input state at is found read none opens told t there
    kind number =
    let job = stream.job in
    let same : input.task ≡ t = one_source job.graph input.task t is.there there is.kind kind
    (is.number ∙ sym number) in
    let begun : m.begun input.task ≡ state.begun =
    (at.machine.tasks input.task state read).stands.begun in
    let over : (is_some stream.met || has_ended stream.inputs source) ≡ false =
    ap (λ b. b || has_ended stream.inputs source) none
    ∙ (ended_found stream.inputs source input found ∙ opens) in
    told (samples_in job s input.task)
    (kept_input stream s m given source input state at is found read)
    ∙ ap (λ n. feed_takes (length (samples_in job s input.task)) n many) (sym begun)
    ∙ ap (λ u. feed_takes (length (samples_in job s u)) (m.begun u) many) same
    ∙ sym (ap (λ b. if b then 0
    else feed_takes (length (samples_in job s t)) (m.begun t) many) over)

-- a feed takes nothing, where the source has ended or a value was out of range
pub none_took : (stream : StreamState) (s : List (List ℤ)) (m : Moment) (source many : ℕ)
    → (is_some stream.met || has_ended stream.inputs source) ≡ true
    → FeedTakes stream s m source many 0
none_took stream s m source many over t there kind number =
    sym (ap (λ b. if b then 0
    else feed_takes (length (samples_in stream.job s t)) (m.begun t) many) over)

pub stream_takes : (stream : StreamState) (s : List (List ℤ)) (m : Moment) (given : ℕ → List ℤ)
    (source : ℕ) (vs : List ℤ) (input new : Input) (state : TaskState)
    → IsStreamAt stream s m given → IsApart stream.job
    → length stream.inputs ≡ sources_of stream.job.graph
    → IsInputOf stream.job source input → slice_get stream.inputs source ≡ Some input
    → slice_get stream.machine.tasks.items input.task ≡ Some state
    → is_some stream.met ≡ false → input.ended ≡ false → new.ended ≡ input.ended
    → ((xs : List ℤ) → InputKeeps input state.begun xs → InputKeeps new state.begun (xs ++ vs))
    → IsStreamAt (with_input stream source new) (fed s source vs) m given
stream_takes stream s m given source vs input new state at apart many is found read none opens same
    takes =
    stream_fed stream s m given source vs input new at apart many (none_is stream.met none) found
    opens same (λ t there kind number.
    (let one : input.task ≡ t = one_source stream.job.graph input.task t is.there there is.kind kind
    (is.number ∙ sym number) in
    let begun : m.begun input.task ≡ state.begun =
    (at.machine.tasks input.task state read).stands.begun in
    subst (λ u. InputKeeps new (m.begun u) (samples_in stream.job s u ++ vs)) one
    (subst (λ n. InputKeeps new n (samples_in stream.job s input.task ++ vs)) (sym begun)
    (takes (samples_in stream.job s input.task)
    (kept_input stream s m given source input state at is found read)))))

-- ---- an end

-- the same input, which has ended
abbrev pub that_ended : Input → Input
that_ended input = record {
  task = input.task;
  from = input.from;
  values = input.values;
  ended = true;
}

pub stream_ends : (stream : StreamState) (s : List (List ℤ)) (m : Moment) (given : ℕ → List ℤ)
    (source : ℕ) (input : Input) → IsStreamAt stream s m given
    → slice_get stream.inputs source ≡ Some input
    → IsStreamAt (with_input stream source (that_ended input)) s m given
stream_ends stream s m given source input at found = record {
  each = at.each;
  machine = at.machine;
  lines = at.lines;
  kept = kept_set stream s s m source (that_ended input) at.kept
      (slice_get_within stream.inputs source input found)
      (λ t there kind number.
      (let keeps = at.kept t input there kind
      (subst (λ k. slice_get stream.inputs k ≡ Some input) (sym number) found) in
      record {
        early = keeps.early;
        kept = keeps.kept;
        sends = keeps.sends;
        few = keeps.few;
        begun_few = keeps.begun_few;
      }))
      (λ t not. refl);
  stays_open = λ t p n there pp kind over. at.stays_open t p n there pp kind
      (let k = source_number stream.job.graph.tasks t in
      (or_parts (k == source) (has_ended stream.inputs k)
      (sym (ended_then stream.inputs source k input (that_ended input) found refl) ∙ over)).1);
  none = at.none;
  faults = at.faults;
}
