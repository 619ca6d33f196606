-- In which mode a task is on the phasers of its outputs and of its inputs.
use Rattle.std.proofs.Common.{◌≡◌, ◌≢◌, ℕ, zero, suc, ◌+◌, ◌-◌, ◌<◌, Bool, true, false, not, ◌&&◌, cond, [], ◌∷◌, None, is_some, length, get_or, refl, sym, ap, subst, ◌∙◌, arith, ◌⊎◌, inl, inr}
use Rattle.phase_base.specs.Modes.{mode_signals, mode_waits, is_single}
use Rattle.phase_base.specs.declared.mode.Mode.{Mode}
use Rattle.phase_base.specs.declared.mode.Mode.TheVariants as mode
use Rattle.graph_base.specs.declared.line.Kind.{Kind}
use Rattle.graph_base.specs.declared.line.Kind.TheVariants.{Source, Fir, Split, Decimate, Join, Peer, Sink}
use Rattle.graph_base.specs.declared.registration.Registration.{Registration}
use Rattle.graph_base.specs.Graphs.{task_at, phaser_at}
use Rattle.graph_base.specs.Registrations.{as_input, as_output, as_exchange, exchange_mode, no_registration}
use Rattle.graph_base.specs.TaskLines.{IsGraph}
use Rattle.graph_base.proofs.Registered.{registrations-plain, length-registrations, end-input, end-output}
use Rattle.stream_lists.specs.Jobs.{Job}
use Rattle.stream_lists.specs.Spans.{signalled_by}
use Rattle.graph_runs.specs.Moments.{input_at}
use Rattle.graph_runs.specs.Nexts.{registrations_at}
use Rattle.graph_runs.specs.Answers.{output_at}
use Rattle.graph_runs.proofs.Boundaries.{peer_ends}

-- a registration of task t on phaser p, in this mode
pub record HasRegistration (job : Job) (t p : ℕ) (mode : Mode) : Type 0 where
  pub at : ℕ
  pub few : at < length (registrations_at job t)
  pub phaser : (get_or (registrations_at job t) at no_registration).phaser ≡ p
  pub mode_is : (get_or (registrations_at job t) at no_registration).mode ≡ mode

-- where registration `at` is this one
registered_as : (job : Job) (t at : ℕ) (r : Registration) → at < length (registrations_at job t)
    → get_or (registrations_at job t) at no_registration ≡ r
    → HasRegistration job t r.phaser r.mode
registered_as job t at r few is = record {
  at = at;
  few = few;
  phaser = ap (λ x. x.phaser) is;
  mode_is = ap (λ x. x.mode) is;
}

-- ---- of a task that is no peer

plain_input : (job : Job) (t k : ℕ) → IsGraph job.graph → t < length job.graph.tasks
    → (task_at job.graph t).kind ≢ Peer → k < length (task_at job.graph t).inputs
    → HasRegistration job t (input_at (task_at job.graph t) k) mode.Wait
plain_input job t k is there other lt =
    let task = task_at job.graph t in
    let same = registrations-plain job.graph task other in
    let long = length-registrations job.graph task (is.tasks t there).ends in
    registered_as job t k (as_input (k, get_or task.inputs k 0)) (omega arith)
    (ap (λ rs. get_or rs k no_registration) same ∙ end-input task k lt)

plain_output : (job : Job) (t j : ℕ) → IsGraph job.graph → t < length job.graph.tasks
    → (task_at job.graph t).kind ≢ Peer → j < length (task_at job.graph t).outputs
    → HasRegistration job t (get_or (task_at job.graph t).outputs j 0) mode.Sig
plain_output job t j is there other lt =
    let task = task_at job.graph t in
    let same = registrations-plain job.graph task other in
    let long = length-registrations job.graph task (is.tasks t there).ends in
    let at = length task.inputs + j in
    let off : at - length task.inputs ≡ j = omega arith in
    registered_as job t at (as_output (j, get_or task.outputs j 0)) (omega arith)
    (ap (λ rs. get_or rs at no_registration) same
    ∙ end-output task at (omega arith) (omega arith)
    ∙ ap (λ i. as_output (i, get_or task.outputs i 0)) off)

-- ---- of a peer

peer_registrations : (job : Job) (t : ℕ) → (task_at job.graph t).kind ≡ Peer
    → registrations_at job t
    ≡ as_input (0, get_or (task_at job.graph t).inputs 0 0)
    ∷ as_exchange job.graph (get_or (task_at job.graph t).inputs 1 0)
    ∷ as_output (1, get_or (task_at job.graph t).outputs 0 0) ∷ []
peer_registrations job t peer = rw peer refl

peer_registration : (job : Job) (t i : ℕ) (r : Registration) → (task_at job.graph t).kind ≡ Peer
    → i < 3
    → get_or (as_input (0, get_or (task_at job.graph t).inputs 0 0)
    ∷ as_exchange job.graph (get_or (task_at job.graph t).inputs 1 0)
    ∷ as_output (1, get_or (task_at job.graph t).outputs 0 0) ∷ []) i no_registration ≡ r
    → HasRegistration job t r.phaser r.mode
peer_registration job t i r peer lt is =
    let same = peer_registrations job t peer in
    registered_as job t i r (omega (arith, ap length same))
    (ap (λ rs. get_or rs i no_registration) same ∙ is)

-- ---- an output

-- the task is on the phaser of its output j in a mode that signals and may name its single. Only a
-- peer waits there too, on E, its output 0
pub record SignalMode (job : Job) (t j p : ℕ) : Type 0 where
  pub mode : Mode
  pub on : HasRegistration job t p mode
  pub signals : mode_signals mode ≡ true
  pub named : (is_some (phaser_at job.graph p).single && not (is_single mode)) ≡ false
  pub in_turn : (mode_waits mode ≡ false) ⊎ ((task_at job.graph t).kind ≡ Peer) × (j ≡ 0)
      × (input_at (task_at job.graph t) 1 ≡ p)

exchange_signals : (b : Bool) → mode_signals (cond b mode.Single mode.SigWait) ≡ true
exchange_signals true = refl
exchange_signals false = refl

exchange_waits : (b : Bool) → mode_waits (cond b mode.Single mode.SigWait) ≡ true
exchange_waits true = refl
exchange_waits false = refl

exchange_names : (b : Bool) → (b && not (is_single (cond b mode.Single mode.SigWait))) ≡ false
exchange_names true = refl
exchange_names false = refl

pub signal_mode : (job : Job) (t j : ℕ) → IsGraph job.graph → t < length job.graph.tasks
    → j < length (signalled_by (task_at job.graph t)) → SignalMode job t j (output_at job t j)
signal_mode job t j is there lt = by (task_at job.graph t).kind refl
  where
    On : ℕ → Type 0
    On p = SignalMode job t j p

    plain : (task_at job.graph t).kind ≢ Peer
        → signalled_by (task_at job.graph t) ≡ (task_at job.graph t).outputs
        → SignalMode job t j (output_at job t j)
    plain other same =
        let long : length (signalled_by (task_at job.graph t))
        ≡ length (task_at job.graph t).outputs = ap length same in
        let no_single : (phaser_at job.graph (get_or (task_at job.graph t).outputs j 0)).single
        ≡ None = (is.tasks t there).plain j 0 (omega arith) in
        subst On (sym (ap (λ qs. get_or qs j 0) same)) (record {
          mode = mode.Sig;
          on = plain_output job t j is there other (omega arith);
          signals = refl;
          named = ap (λ o. is_some o && true) no_single;
          in_turn = inl refl;
        })

    apart : (kind : Kind) → (task_at job.graph t).kind ≡ kind → (kind ≡ Peer → ⊥)
        → (task_at job.graph t).kind ≢ Peer
    apart kind e other peer = other (sym e ∙ peer)

    peer : (task_at job.graph t).kind ≡ Peer → (i : ℕ) → j ≡ i
        → SignalMode job t j (output_at job t j)
    peer e zero at =
        let x = get_or (task_at job.graph t).inputs 1 0 in
        let same : signalled_by (task_at job.graph t)
        ≡ x ∷ get_or (task_at job.graph t).outputs 0 0 ∷ [] = rw e refl in
        let named = is_some (phaser_at job.graph x).single in
        subst On (sym (ap (λ qs. get_or qs j 0) same
        ∙ ap (λ i. get_or (x ∷ get_or (task_at job.graph t).outputs 0 0 ∷ []) i 0) at)) (record {
          mode = exchange_mode (phaser_at job.graph x);
          on = peer_registration job t 1 (as_exchange job.graph x) e (omega arith) refl;
          signals = exchange_signals named;
          named = exchange_names named;
          in_turn = inr (e, at, refl);
        })
    peer e (suc zero) at =
        let y = get_or (task_at job.graph t).outputs 0 0 in
        let same : signalled_by (task_at job.graph t)
        ≡ get_or (task_at job.graph t).inputs 1 0 ∷ y ∷ [] = rw e refl in
        let ends = peer_ends job t is there e in
        let long : length (signalled_by (task_at job.graph t)) ≡ 2 = ends.1 in
        let both : (length (task_at job.graph t).inputs ≡ 2)
        × (length (task_at job.graph t).outputs ≡ 1) = rw e at (is.tasks t there).ends in
        let few : length (task_at job.graph t).outputs ≡ 1 = both.1 in
        let no_single : (phaser_at job.graph y).single ≡ None =
        (is.tasks t there).plain 0 0 (omega arith) in
        subst On (sym (ap (λ qs. get_or qs j 0) same
        ∙ ap (λ i. get_or (get_or (task_at job.graph t).inputs 1 0 ∷ y ∷ []) i 0) at)) (record {
          mode = mode.Sig;
          on = peer_registration job t 2 (as_output (1, y)) e (omega arith) refl;
          signals = refl;
          named = ap (λ o. is_some o && true) no_single;
          in_turn = inl refl;
        })
    peer e (suc (suc i)) at =
        absurd (omega (arith, (peer_ends job t is there e).1))

    by : (kind : Kind) → (task_at job.graph t).kind ≡ kind
        → SignalMode job t j (output_at job t j)
    by Source e = plain (apart Source e (λ s. (cc))) (rw e refl)
    by Fir e = plain (apart Fir e (λ s. (cc))) (rw e refl)
    by Split e = plain (apart Split e (λ s. (cc))) (rw e refl)
    by Decimate e = plain (apart Decimate e (λ s. (cc))) (rw e refl)
    by Join e = plain (apart Join e (λ s. (cc))) (rw e refl)
    by Sink e = plain (apart Sink e (λ s. (cc))) (rw e refl)
    by Peer e = peer e j refl

-- ---- an input

-- the task is on the phaser of its input k in a mode that waits. Only a peer signals there too, on
-- E, its input 1
pub record WaitMode (job : Job) (t k p : ℕ) : Type 0 where
  pub mode : Mode
  pub on : HasRegistration job t p mode
  pub waits : mode_waits mode ≡ true
  pub first : (mode_signals mode ≡ false) ⊎ ((task_at job.graph t).kind ≡ Peer) × (k ≡ 1)

pub wait_mode : (job : Job) (t k : ℕ) → IsGraph job.graph → t < length job.graph.tasks
    → k < length (task_at job.graph t).inputs
    → WaitMode job t k (input_at (task_at job.graph t) k)
wait_mode job t k is there lt = by (task_at job.graph t).kind refl
  where
    On : ℕ → Type 0
    On i = WaitMode job t k (input_at (task_at job.graph t) i)

    plain : (kind : Kind) → (task_at job.graph t).kind ≡ kind → (kind ≡ Peer → ⊥)
        → WaitMode job t k (input_at (task_at job.graph t) k)
    plain kind e other = record {
      mode = mode.Wait;
      on = plain_input job t k is there (λ peer. other (sym e ∙ peer)) lt;
      waits = refl;
      first = inl refl;
    }

    peer : (task_at job.graph t).kind ≡ Peer → (i : ℕ) → k ≡ i
        → WaitMode job t k (input_at (task_at job.graph t) k)
    peer e zero at =
        let x = get_or (task_at job.graph t).inputs 0 0 in
        subst On (sym at) (record {
          mode = mode.Wait;
          on = peer_registration job t 0 (as_input (0, x)) e (omega arith) refl;
          waits = refl;
          first = inl refl;
        })
    peer e (suc zero) at =
        let x = get_or (task_at job.graph t).inputs 1 0 in
        let named = is_some (phaser_at job.graph x).single in
        subst On (sym at) (record {
          mode = exchange_mode (phaser_at job.graph x);
          on = peer_registration job t 1 (as_exchange job.graph x) e (omega arith) refl;
          waits = exchange_waits named;
          first = inr (e, at);
        })
    peer e (suc (suc i)) at =
        absurd (omega (arith, (peer_ends job t is there e).0))

    by : (kind : Kind) → (task_at job.graph t).kind ≡ kind
        → WaitMode job t k (input_at (task_at job.graph t) k)
    by Source e = plain Source e (λ s. (cc))
    by Fir e = plain Fir e (λ s. (cc))
    by Split e = plain Split e (λ s. (cc))
    by Decimate e = plain Decimate e (λ s. (cc))
    by Join e = plain Join e (λ s. (cc))
    by Sink e = plain Sink e (λ s. (cc))
    by Peer e = peer e k refl
