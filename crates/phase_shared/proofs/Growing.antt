-- What a longer history leaves: a task's phases only grow.
use Rattle.std.proofs.Common.{◌≡◌, ℕ, ◌+◌, ◌≤◌, true, false, cond, eqb, List, [], ◌∷◌, ◌++◌, length, Some, refl, sym, ap, ◌∙◌, inl, arith, inr}
use Rattle.std.proofs.lemmas.Option.{same_Some}
use Rattle.phase_shared.proofs.Small.{longer_some}
use Rattle.phase_shared.specs.Phasers.{Limits, is_in, Entry, History, start_of, done_of, IsLegal, HasCounted, events_of}
use Rattle.phase_history.specs.declared.event.Event.TheVariants.{Made, Registered, RegisteredNow, Signalled, Waited, Dropped}
use Rattle.phase_history.specs.Histories.{phases_signalled}
use Rattle.phase_history.proofs.LawProofs.{counted_of}
use Rattle.phase_history.proofs.Steps.{steps, sound_of}
use Rattle.phase_history.proofs.Streams.{legal_rest}
use Rattle.phase_history.proofs.Used.{start_of-longer}
use Rattle.phase_history.proofs.OthersEvents.{skips}
use Rattle.phase_shared.specs.Asks.{Ask, IsAtPhases, Stage, Batch}

more_signals : (task : ℕ) (later h : History) → phases_signalled h task ≤ phases_signalled (later ++ h) task
more_signals task [] h = omega arith
more_signals task (Made founding ∷ later) h = more_signals task later h
more_signals task (Registered parent child mode ∷ later) h = more_signals task later h
more_signals task (RegisteredNow parent child ∷ later) h = more_signals task later h
more_signals task (Signalled signaller lists single ∷ later) h =
    let r = more_signals task later h in
    elim (eqb signaller task) as (λ b. phases_signalled h task
    ≤ cond b (phases_signalled (later ++ h) task + length lists) (phases_signalled (later ++ h) task)) [
      | true ↦ omega arith
      | false ↦ r
    ]
more_signals task (Waited waiter phases ∷ later) h = more_signals task later h
more_signals task (Dropped gone ∷ later) h = more_signals task later h

-- a task's next signal is not for a lower phase later
pub signals_grow : (limits : Limits) (later h : History) (task s w s' w' : ℕ) → IsLegal limits h → IsLegal limits (later ++ h)
    → IsAtPhases h task s w → IsAtPhases (later ++ h) task s' w' → s ≤ s'
signals_grow limits later h task s w s' w' legal legal' st st' =
    let c : HasCounted h task st.entry = counted_of limits h task st.entry legal st.member in
    let d : HasCounted (later ++ h) task st'.entry = counted_of limits (later ++ h) task st'.entry legal' st'.member in
    let same : start_of (later ++ h) task ≡ Some c.start = start_of-longer limits h (later ++ h) task c.start legal' (record { later = later; is = refl }) c.start_is in
    let start_is : d.start ≡ c.start = same_Some d.start c.start (sym d.start_is ∙ same) in
    let counts : d.start.signal_phase + phases_signalled (later ++ h) task ≡ st'.entry.signal_phase = d.signals in
    let there : c.start.signal_phase + phases_signalled (later ++ h) task ≡ st'.entry.signal_phase =
    ap (λ (e : Entry). e.signal_phase + phases_signalled (later ++ h) task) (sym start_is) ∙ counts in
    let here : c.start.signal_phase + phases_signalled h task ≡ st.entry.signal_phase = c.signals in
    let more = more_signals task later h in
    let at : st.entry.signal_phase ≡ s = st.signal_at in
    let at' : st'.entry.signal_phase ≡ s' = st'.signal_at in
    omega arith

-- an ask that is unmade later was unmade
pub unmade_before : (limits : Limits) (a : Ask) (seen later h : History) → IsLegal limits h → IsLegal limits (later ++ h)
    → Stage limits a seen h → IsAtPhases (later ++ h) a.task a.phase a.phase → IsAtPhases h a.task a.phase a.phase
unmade_before limits a seen later h legal legal' (inl u) st = u.stands
unmade_before limits a seen later h legal legal' (inr (inl m)) st =
    absurd (let low = signals_grow limits later h a.task (a.phase + 1) a.phase a.phase a.phase legal legal' m.stands st in omega arith)
unmade_before limits a seen later h legal legal' (inr (inr n)) st =
    absurd (let low = signals_grow limits later h a.task (a.phase + 1) (a.phase + 1) a.phase a.phase legal legal' n.stands st in omega arith)

-- no complete phase is undone
pub done_grows : (limits : Limits) (later h : History) → (h ≡ [] → ⊥) → IsLegal limits (later ++ h) → done_of h ≤ done_of (later ++ h)
done_grows limits [] h some legal = omega arith
done_grows limits (e ∷ later) h some legal =
    let longer : later ++ h ≡ [] → ⊥ = λ none. longer_some later h some none in
    let r = legal_rest limits e (later ++ h) longer legal in
    let first = done_grows limits later h some r.0 in
    let then = (steps limits (later ++ h) e r.0 (sound_of limits (later ++ h) r.0) r.1).grows in
    omega arith

-- events of the holder's own are a turn in which nothing was read
pub own_batch : (Claimed : Ask → Type 0) (speaks : List ℕ) (own log : History)
    → ((task : ℕ) → is_in task speaks ≡ false → events_of task own ≡ []) → Batch Claimed speaks own log
own_batch Claimed speaks [] log mine = tt
own_batch Claimed speaks (e ∷ own) log mine =
    (own_batch Claimed speaks own log (λ task out. (skips task e own (mine task out)).rest), inl (λ task out. (skips task e own (mine task out)).not_by))
