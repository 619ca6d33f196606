-- Whether a live task makes no further step.
use Rattle.std.proofs.Common.{◌≡◌, ◌≢◌, ℕ, ℤ, ◌-◌, ◌<◌, ◌≤◌, ◌⊎◌, inl, inr, List, Bool, true, false, not, ◌&&◌, ◌||◌, eqb, Option, Some, is_some, length, drop, get_or, nat_le, refl, sym, ap, subst, ◌∙◌, arith}
use Rattle.std.specs.Prelude.{unwrap_or}
use Rattle.std.proofs.lemmas.Bool.{lt-ltb, le-ltb, lt-leb, le-leb, eq-eqb, ne_eqb, cases_lt, or_parts}
use Rattle.std.proofs.lemmas.List.{length-drop}
use Rattle.std.proofs.lemmas.Option.{slice_get-get_or}
use Rattle.phase_base.specs.declared.entry.Entry.{Entry}
use Rattle.phase_base.specs.Members.{entry_of}
use Rattle.phase_history.specs.Histories.{members_of, has_dropped, done_of}
use Rattle.graph_base.specs.Graphs.{task_at, is_source}
use Rattle.graph_base.specs.TaskLines.{IsGraph}
use Rattle.graph_base.specs.declared.line.Kind.{Kind}
use Rattle.graph_base.specs.declared.line.Kind.TheVariants.{Source, Fir, Split, Decimate, Join, Peer, Sink}
use Rattle.stream_lists.specs.Jobs.{Job, samples_at}
use Rattle.graph_runs.specs.Moments.{Moment, HasRun, input_at, first_input}
use Rattle.graph_runs.specs.Nexts.{is_live, is_cut, has_input_ended, has_run_out, has_signaller, number_on, has_left, registrations_at}
use Rattle.graph_runs.specs.TaskPlaces.{TaskPlace, StandsUpTo, registration_at, registration_of_output}
use Rattle.graph_runs.proofs.Signalling.{live-is, stays}
use Rattle.graph_runs.proofs.Boundaries.{goes_on}
use Rattle.graph_runs.proofs.Standing.{of_input, of_output, many}
use Rattle.graph_base.specs.Registrations.{signalled_by}
use Rattle.graph_runs.specs.Answers.{output_at}
use Rattle.graph_runs.proofs.Waiting.{Waiter, waiter}
use Rattle.stream_job.specs.Machines.{is_over}
use Rattle.stream_job.proofs.Reading.{complete}

-- a live task has a number for each registration
pub all_numbered : {most : ℕ} (job : Job) (m : Moment) (t : ℕ) (at : TaskPlace) → StandsUpTo most job m t at
    → is_live job m t ≡ true → length at.numbers ≡ length (registrations_at job t)
all_numbered job m t at stands live =
    omega (arith, stands.few, complete job m t at stands (ap is_some (live-is job m t live).all))

-- the number that stands at place i is the task's there
pub number-at : {most : ℕ} (job : Job) (m : Moment) (t i : ℕ) (at : TaskPlace) → StandsUpTo most job m t at
    → i < length at.numbers
    → m.number (registration_at job t i).phaser t ≡ Some (get_or at.numbers i 0)
number-at job m t i at stands lt =
    let few = stands.few in
    stands.numbered i (omega arith) ∙ slice_get-get_or at.numbers i 0 lt

-- a live task that has left a phaser has ended
pub over_left : {most : ℕ} (job : Job) (m : Moment) (t : ℕ) (at : TaskPlace) → IsGraph job.graph
    → HasRun job m → StandsUpTo most job m t at → is_live job m t ≡ true → 0 < at.left
    → is_over job m t ≡ true
over_left job m t at is ran stands live left = by (is_over job m t) refl
  where
    by : (b : Bool) → is_over job m t ≡ b → is_over job m t ≡ true
    by true e = e
    by false e =
        let parts = or_parts (is_cut (task_at job.graph t).until (m.begun t))
        (has_input_ended job m t (task_at job.graph t).kind) e in
        let few = stands.few_left in
        let n = get_or at.numbers 0 0 in
        let p = (registration_at job t 0).phaser in
        let number : m.number p t ≡ Some n = number-at job m t 0 at stands (omega arith) in
        let kept : has_dropped (m.history p) n ≡ false =
        stays job m t is (ran.tasks t (live-is job m t live).there)
        (live-is job m t live).there
        (goes_on job m t parts.0 parts.1) p n number in
        let gone : has_left m t (registration_at job t 0) ≡ true =
        stands.leaves 0 (omega arith) ∙ lt-ltb 0 at.left left in
        let same : number_on m t p ≡ n = ap (λ o. unwrap_or o 0) number in
        let here : has_dropped (m.history p) n ≡ true =
        sym (ap (λ x. has_dropped (m.history p) x) same) ∙ gone in
        absurd (let wrong : true ≡ false = sym here ∙ kept in cc)

-- of a task with inputs, by its first input
pub ended_by_input : (job : Job) (m : Moment) (t : ℕ) (kind : Kind) → kind ≢ Source
    → has_input_ended job m t kind
    ≡ has_run_out m (task_at job.graph t) t (first_input (task_at job.graph t) (m.begun t))
ended_by_input job m t Source never = absurd (never refl)
ended_by_input job m t Fir never = refl
ended_by_input job m t Split never = refl
ended_by_input job m t Decimate never = refl
ended_by_input job m t Join never = refl
ended_by_input job m t Peer never = refl
ended_by_input job m t Sink never = refl

-- a live task that has left no phaser is a waiter on each input
pub waits_on : {most : ℕ} (job : Job) (m : Moment) (t k : ℕ) (at : TaskPlace) → IsGraph job.graph
    → HasRun job m → StandsUpTo most job m t at → is_live job m t ≡ true → at.left ≡ 0
    → k < length (task_at job.graph t).inputs
    → input_at (task_at job.graph t) k < length job.graph.phasers
    → Waiter job m t k
waits_on job m t k at is ran stands live none few there =
    let living = live-is job m t live in
    let all = all_numbered job m t at stands live in
    let long = many job t is living.there in
    let here : (registration_at job t k).phaser ≡ input_at (task_at job.graph t) k =
    of_input job t k is living.there few in
    let staying : has_left m t (registration_at job t k) ≡ false =
    stands.leaves k (omega arith) ∙ le-ltb k at.left (omega arith) in
    waiter job m t k is ran living few there (rw here at staying)

-- the number of a live task on its input k
pub number_of_input : {most : ℕ} (job : Job) (m : Moment) (t k : ℕ) (at : TaskPlace) → IsGraph job.graph
    → StandsUpTo most job m t at → is_live job m t ≡ true
    → k < length (task_at job.graph t).inputs
    → (k < length at.numbers)
    × (number_on m t (input_at (task_at job.graph t) k) ≡ get_or at.numbers k 0)
number_of_input job m t k at is stands live few =
    let living = live-is job m t live in
    let all = all_numbered job m t at stands live in
    let long = many job t is living.there in
    let here : (registration_at job t k).phaser ≡ input_at (task_at job.graph t) k =
    of_input job t k is living.there few in (
      omega arith,
      sym (ap (λ q. number_on m t q) here)
          ∙ ap (λ o. unwrap_or o 0) (number-at job m t k at stands (omega arith)),
    )

-- whether a live task that has left no phaser makes no further step, by its entry on the input that
-- its next step would wait for first
pub over_by_input : {most : ℕ} (job : Job) (m : Moment) (t k q : ℕ) (at : TaskPlace) (result : Bool)
    → IsGraph job.graph → HasRun job m → StandsUpTo most job m t at → is_live job m t ≡ true
    → at.left ≡ 0 → is_cut (task_at job.graph t).until (m.begun t) ≡ false
    → (task_at job.graph t).kind ≢ Source
    → k ≡ first_input (task_at job.graph t) (m.begun t)
    → k < length (task_at job.graph t).inputs → q < length job.graph.phasers
    → q ≡ input_at (task_at job.graph t) k
    → ((entry : Entry) → entry_of (members_of (m.history q)) (get_or at.numbers k 0) ≡ Some entry
    → (not (has_signaller (m.history q)) && nat_le (done_of (m.history q)) entry.wait_phase)
    ≡ result)
    → is_over job m t ≡ result
over_by_input job m t k q at result is ran stands live none uncut never first few there same answered =
    let p = input_at (task_at job.graph t) k in
    let w = waits_on job m t k at is ran stands live none few
    (subst (λ x. x < length job.graph.phasers) same there) in
    let h = m.history in
    let number = (number_of_input job m t k at is stands live few).1 in
    let found : entry_of (members_of (h q)) (get_or at.numbers k 0) ≡ Some w.entry =
    ap (λ x. entry_of (members_of (h x)) (get_or at.numbers k 0)) same
    ∙ sym (ap (λ n. entry_of (members_of (h p)) n) number) ∙ w.is_member in
    ap (λ b. b || has_input_ended job m t (task_at job.graph t).kind) uncut
    ∙ ended_by_input job m t (task_at job.graph t).kind never
    ∙ ap (has_run_out m (task_at job.graph t) t) (sym first)
    ∙ sym (ap (λ n. not (has_signaller (h p)) && nat_le (done_of (h p)) n) w.phase)
    ∙ sym (ap (λ x. not (has_signaller (h x)) && nat_le (done_of (h x)) w.entry.wait_phase) same)
    ∙ answered w.entry found

-- of a list nothing is left where as many as it has are taken from it
none_left : (samples rest : List ℤ) (begun : ℕ) → drop begun samples ≡ rest
    → nat_le (length samples) begun ≡ eqb (length rest) 0
none_left samples rest begun is = by (cases_lt begun (length samples))
  where
    many : length rest ≡ length samples - begun
    many = sym (ap length is) ∙ length-drop begun samples

    by : (begun < length samples) ⊎ (length samples ≤ begun)
        → nat_le (length samples) begun ≡ eqb (length rest) 0
    by (inl lt) =
        lt-leb (length samples) begun lt
        ∙ sym (ne_eqb (length rest) 0 (λ none. absurd (omega (arith, many, none, lt))))
    by (inr le) =
        le-leb (length samples) begun le
        ∙ sym (eq-eqb (length rest) 0 (omega (arith, many, le)))

-- whether a source that `until` does not cut makes no further step, by the samples that are left
pub over_by_samples : (job : Job) (m : Moment) (t : ℕ) (rest : List ℤ)
    → is_cut (task_at job.graph t).until (m.begun t) ≡ false → (task_at job.graph t).kind ≡ Source
    → drop (m.begun t) (samples_at job t) ≡ rest → is_over job m t ≡ eqb (length rest) 0
over_by_samples job m t rest uncut source is =
    ap (λ b. b || has_input_ended job m t (task_at job.graph t).kind) uncut
    ∙ ap (has_input_ended job m t) source ∙ none_left (samples_at job t) rest (m.begun t) is

-- whether `until` cuts a task, by its state
pub cut_is : {most : ℕ} (job : Job) (m : Moment) (t : ℕ) (at : TaskPlace) → StandsUpTo most job m t at
    → (until : Option ℕ) → until ≡ (task_at job.graph t).until
    → is_cut (task_at job.graph t).until (m.begun t) ≡ is_cut until at.begun
cut_is job m t at stands until same =
    ap (is_cut (task_at job.graph t).until) stands.begun
    ∙ ap (λ o. is_cut o at.begun) (sym same)

pub no_source : (kind : Kind) → is_source kind ≡ false → kind ≢ Source
no_source Source e = absurd (cc)
no_source Fir e = λ f. absurd (cc)
no_source Split e = λ f. absurd (cc)
no_source Decimate e = λ f. absurd (cc)
no_source Join e = λ f. absurd (cc)
no_source Peer e = λ f. absurd (cc)
no_source Sink e = λ f. absurd (cc)

-- the number of a live task on its output j
pub number_of_output : {most : ℕ} (job : Job) (m : Moment) (t j : ℕ) (at : TaskPlace) → IsGraph job.graph
    → StandsUpTo most job m t at → is_live job m t ≡ true
    → j < length (signalled_by (task_at job.graph t))
    → (registration_of_output (task_at job.graph t) j < length at.numbers)
    × (number_on m t (output_at job t j)
    ≡ get_or at.numbers (registration_of_output (task_at job.graph t) j) 0)
number_of_output job m t j at is stands live few =
    let living = live-is job m t live in
    let all = all_numbered job m t at stands live in
    let k = registration_of_output (task_at job.graph t) j in
    let out = of_output job t j is living.there few in
    let less : k < length at.numbers = subst (λ n. k < n) (sym all) out.0 in (
      less,
      sym (ap (λ q. number_on m t q) out.1)
          ∙ ap (λ o. unwrap_or o 0) (number-at job m t k at stands less),
    )
