-- What a task does next tells how it stands.
use Rattle.std.proofs.Common.{◌≡◌, ◌≢◌, ℕ, Bool, true, false, cond, ◌||◌, Option, Some, None, length, refl, sym, ap, ◌∙◌, ◌⊎◌, inl, inr}
use Rattle.std.proofs.lemmas.Bool.{or_parts}
use Rattle.graph_base.specs.declared.line.Kind.{Kind}
use Rattle.graph_base.specs.declared.line.Kind.TheVariants.{Source, Fir, Split, Decimate, Join, Peer, Sink}
use Rattle.graph_base.specs.Graphs.{task_at}
use Rattle.stream_lists.specs.Jobs.{Job}
use Rattle.graph_runs.specs.Moments.{Moment, first_input}
use Rattle.graph_runs.specs.Nexts.{Next, is_not_live, registers, leaves, samples, signals, waits, exchanges, next_of, of_live, in_step, at_boundary, next_step, first_owed, first_due, is_cut, has_input_ended, waits_first}
use Rattle.stream_job.proofs.Lively.{live_next}

-- a task in a step
pub record InStep (job : Job) (m : Moment) (t : ℕ) (next : Next) : Type 0 where
  pub output : ℕ
  pub owes : first_owed job m t ≡ Some output
  pub is : in_step job m t output ≡ next

-- a task that begins its next step
pub record AtStep (job : Job) (m : Moment) (t : ℕ) (next : Next) : Type 0 where
  pub none : first_owed job m t ≡ None
  pub due : first_due job m t ≡ None
  pub uncut : is_cut (task_at job.graph t).until (m.begun t) ≡ false
  pub more : has_input_ended job m t (task_at job.graph t).kind ≡ false
  pub is : next_step (task_at job.graph t) (m.begun t) (task_at job.graph t).kind ≡ next

-- what a live task does next
pub data Doing (job : Job) (m : Moment) (t : ℕ) (next : Next) : Type 0 where
  owing : InStep job m t next → Doing job m t next
  parent : (c : ℕ) → first_owed job m t ≡ None → first_due job m t ≡ Some c → registers c ≡ next
      → Doing job m t next
  leaving : leaves ≡ next → Doing job m t next
  stepping : AtStep job m t next → Doing job m t next

pub doing : (job : Job) (m : Moment) (t : ℕ) (next : Next) → next_of job m t ≡ next
    → next ≢ is_not_live → Doing job m t next
doing job m t next is never =
    of_owed (first_owed job m t) refl
    (sym (ap (λ b. cond b (of_live job m t (first_owed job m t)) is_not_live)
    (live_next job m t next is never)) ∙ is)
  where
    last : (b : Bool) → (is_cut (task_at job.graph t).until (m.begun t)
        || has_input_ended job m t (task_at job.graph t).kind) ≡ b
        → first_owed job m t ≡ None → first_due job m t ≡ None
        → cond b leaves (next_step (task_at job.graph t) (m.begun t) (task_at job.graph t).kind)
        ≡ next → Doing job m t next
    last true e none due is = leaving is
    last false e none due is =
        let both = or_parts (is_cut (task_at job.graph t).until (m.begun t))
        (has_input_ended job m t (task_at job.graph t).kind) e in
        stepping record { none = none; due = due; uncut = both.0; more = both.1; is = is }

    of_due : (o : Option ℕ) → first_due job m t ≡ o → first_owed job m t ≡ None
        → at_boundary job m t o ≡ next → Doing job m t next
    of_due (Some c) due none is = parent c none due is
    of_due None due none is =
        last (is_cut (task_at job.graph t).until (m.begun t)
        || has_input_ended job m t (task_at job.graph t).kind) refl none due is

    of_owed : (o : Option ℕ) → first_owed job m t ≡ o → of_live job m t o ≡ next
        → Doing job m t next
    of_owed (Some j) owes is = owing record { output = j; owes = owes; is = is }
    of_owed None none is = of_due (first_due job m t) refl none is

-- a step is a signal or an exchange
pub step_is : (job : Job) (m : Moment) (t j : ℕ) (next : Next) → in_step job m t j ≡ next
    → (exchanges ≡ next) ⊎ (signals j ≡ next)
step_is job m t j next is =
    by (waits_first (task_at job.graph t).kind j (length (m.put t j)) (length (m.taken t 1))) is
  where
    by : (b : Bool) → cond b exchanges (signals j) ≡ next → (exchanges ≡ next) ⊎ (signals j ≡ next)
    by true e = inl e
    by false e = inr e

-- a step begins with a sample or with a wait for the first input
pub begins_is : (job : Job) (m : Moment) (t : ℕ) (next : Next)
    → next_step (task_at job.graph t) (m.begun t) (task_at job.graph t).kind ≡ next
    → ((task_at job.graph t).kind ≡ Source × (samples ≡ next))
    ⊎ ((task_at job.graph t).kind ≢ Source
    × (waits (first_input (task_at job.graph t) (m.begun t)) ≡ next))
begins_is job m t next is = by (task_at job.graph t).kind refl is
  where
    other : (kind : Kind) → (task_at job.graph t).kind ≡ kind → kind ≢ Source
        → (task_at job.graph t).kind ≢ Source
    other kind e never source = never (sym e ∙ source)

    by : (kind : Kind) → (task_at job.graph t).kind ≡ kind
        → next_step (task_at job.graph t) (m.begun t) kind ≡ next
        → ((task_at job.graph t).kind ≡ Source × (samples ≡ next))
        ⊎ ((task_at job.graph t).kind ≢ Source
        × (waits (first_input (task_at job.graph t) (m.begun t)) ≡ next))
    by Source e is = inl (e, is)
    by Fir e is = inr (other Fir e (λ s. absurd (cc)), is)
    by Split e is = inr (other Split e (λ s. absurd (cc)), is)
    by Decimate e is = inr (other Decimate e (λ s. absurd (cc)), is)
    by Join e is = inr (other Join e (λ s. absurd (cc)), is)
    by Peer e is = inr (other Peer e (λ s. absurd (cc)), is)
    by Sink e is = inr (other Sink e (λ s. absurd (cc)), is)

-- a task that signals owes it
pub signals_owes : (job : Job) (m : Moment) (t j : ℕ) → next_of job m t ≡ signals j
    → first_owed job m t ≡ Some j
signals_owes job m t j is = by (doing job m t (signals j) is (λ e. absurd (cc)))
  where
    step : (i : ℕ) → first_owed job m t ≡ Some i → (exchanges ≡ signals j) ⊎ (signals i ≡ signals j)
        → first_owed job m t ≡ Some j
    step i owes (inl e) = absurd (cc)
    step i owes (inr e) = owes ∙ ap (λ x. Some x) (same i e)
      where
        same : (i : ℕ) → signals i ≡ signals j → i ≡ j
        same i e = cc

    start : ((task_at job.graph t).kind ≡ Source × (samples ≡ signals j))
        ⊎ ((task_at job.graph t).kind ≢ Source
        × (waits (first_input (task_at job.graph t) (m.begun t)) ≡ signals j))
        → first_owed job m t ≡ Some j
    start (inl e) = absurd (let wrong = e.1 in cc)
    start (inr e) = absurd (let wrong = e.1 in cc)

    by : Doing job m t (signals j) → first_owed job m t ≡ Some j
    by (owing s) = step s.output s.owes (step_is job m t s.output (signals j) s.is)
    by (parent c none due e) = absurd (cc)
    by (leaving e) = absurd (cc)
    by (stepping s) = start (begins_is job m t (signals j) s.is)

-- a task that signals is in a step
pub signals_step : (job : Job) (m : Moment) (t j : ℕ) → next_of job m t ≡ signals j
    → InStep job m t (signals j)
signals_step job m t j is = by (doing job m t (signals j) is (λ e. absurd (cc)))
  where
    start : ((task_at job.graph t).kind ≡ Source × (samples ≡ signals j))
        ⊎ ((task_at job.graph t).kind ≢ Source
        × (waits (first_input (task_at job.graph t) (m.begun t)) ≡ signals j))
        → InStep job m t (signals j)
    start (inl e) = absurd (let wrong = e.1 in cc)
    start (inr e) = absurd (let wrong = e.1 in cc)

    by : Doing job m t (signals j) → InStep job m t (signals j)
    by (owing s) = s
    by (parent c none due e) = absurd (cc)
    by (leaving e) = absurd (cc)
    by (stepping s) = start (begins_is job m t (signals j) s.is)

-- a peer that exchanges owes its output
pub exchanges_owes : (job : Job) (m : Moment) (t : ℕ) → next_of job m t ≡ exchanges
    → InStep job m t exchanges
exchanges_owes job m t is = by (doing job m t exchanges is (λ e. absurd (cc)))
  where
    start : ((task_at job.graph t).kind ≡ Source × (samples ≡ exchanges))
        ⊎ ((task_at job.graph t).kind ≢ Source
        × (waits (first_input (task_at job.graph t) (m.begun t)) ≡ exchanges))
        → InStep job m t exchanges
    start (inl e) = absurd (let wrong = e.1 in cc)
    start (inr e) = absurd (let wrong = e.1 in cc)

    by : Doing job m t exchanges → InStep job m t exchanges
    by (owing s) = s
    by (parent c none due e) = absurd (cc)
    by (leaving e) = absurd (cc)
    by (stepping s) = start (begins_is job m t exchanges s.is)

-- a task that waits begins a step with its first input
pub record Begins (job : Job) (m : Moment) (t k : ℕ) : Type 0 where
  pub step : AtStep job m t (waits k)
  pub kind : (task_at job.graph t).kind ≢ Source
  pub first : k ≡ first_input (task_at job.graph t) (m.begun t)

pub waits_begins : (job : Job) (m : Moment) (t k : ℕ) → next_of job m t ≡ waits k
    → Begins job m t k
waits_begins job m t k is = by (doing job m t (waits k) is (λ e. absurd (cc)))
  where
    step : (i : ℕ) → (exchanges ≡ waits k) ⊎ (signals i ≡ waits k) → Begins job m t k
    step i (inl e) = absurd (cc)
    step i (inr e) = absurd (cc)

    same : (i : ℕ) → waits i ≡ waits k → k ≡ i
    same i e = cc

    start : AtStep job m t (waits k)
        → ((task_at job.graph t).kind ≡ Source × (samples ≡ waits k))
        ⊎ ((task_at job.graph t).kind ≢ Source
        × (waits (first_input (task_at job.graph t) (m.begun t)) ≡ waits k))
        → Begins job m t k
    start s (inl e) = absurd (let wrong = e.1 in cc)
    start s (inr e) = record {
      step = s;
      kind = e.0;
      first = same (first_input (task_at job.graph t) (m.begun t)) e.1;
    }

    by : Doing job m t (waits k) → Begins job m t k
    by (owing s) = step s.output (step_is job m t s.output (waits k) s.is)
    by (parent c none due e) = absurd (cc)
    by (leaving e) = absurd (cc)
    by (stepping s) = start s (begins_is job m t (waits k) s.is)

-- a task that samples is a source
pub record Samples (job : Job) (m : Moment) (t : ℕ) : Type 0 where
  pub step : AtStep job m t samples
  pub kind : (task_at job.graph t).kind ≡ Source

pub samples_begins : (job : Job) (m : Moment) (t : ℕ) → next_of job m t ≡ samples
    → Samples job m t
samples_begins job m t is = by (doing job m t samples is (λ e. absurd (cc)))
  where
    step : (i : ℕ) → (exchanges ≡ samples) ⊎ (signals i ≡ samples) → Samples job m t
    step i (inl e) = absurd (cc)
    step i (inr e) = absurd (cc)

    start : AtStep job m t samples
        → ((task_at job.graph t).kind ≡ Source × (samples ≡ samples))
        ⊎ ((task_at job.graph t).kind ≢ Source
        × (waits (first_input (task_at job.graph t) (m.begun t)) ≡ samples))
        → Samples job m t
    start s (inl e) = record { step = s; kind = e.0 }
    start s (inr e) = absurd (let wrong = e.1 in cc)

    by : Doing job m t samples → Samples job m t
    by (owing s) = step s.output (step_is job m t s.output samples s.is)
    by (parent c none due e) = absurd (cc)
    by (leaving e) = absurd (cc)
    by (stepping s) = start s (begins_is job m t samples s.is)
