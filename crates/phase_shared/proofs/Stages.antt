-- An ask goes on by the events of a turn: unmade, made, answered, and no further.
use Rattle.std.proofs.Common.{◌≡◌, ℕ, ℤ, ◌+◌, ◌<◌, ◌≤◌, true, false, cond, eqb, List, [], ◌∷◌, ◌++◌, None, Some, refl, sym, ap, subst, ◌∙◌, inl, inr, arith}
use Rattle.std.proofs.lemmas.Bool.{eqb-true}
use Rattle.phase_shared.specs.Phasers.{Limits, is_in, mode_signals, Entry, entry_of, signalled, waited, Event, History, positions_of, members_of, signal_phase, wait_phase, done_of, IsLegal, IsAccepted, is_by, OthersCame}
use Rattle.phase_history.specs.declared.event.Event.TheVariants.{Signalled, Waited}
use Rattle.phase_history.proofs.MemberLemmas.{Each-entry, entry_of-changed_same}
use Rattle.phase_history.proofs.Steps.{done_low, member_entry_is, steps, sound_of}
use Rattle.phase_history.proofs.Streams.{legal_rest}
use Rattle.phase_history.proofs.Used.{entry_of-others}
use Rattle.phase_history.proofs.OthersEvents.{OthersCame-refl, OthersCame-event, OthersCame-trans}
use Rattle.phase_shared.proofs.Small.{one_of, longer_some, apart_phases}
use Rattle.phase_shared.specs.Asks.{Ask, IsAtPhases, IsMade, IsAnsweredAsk, Stage, SignalsFor, WaitsFor, Batch}

-- ---- where a task stands

-- where its entry is the same
pub at_entry : (h now : History) (task s w : ℕ) (st : IsAtPhases h task s w) → entry_of (members_of now) task ≡ Some st.entry → IsAtPhases now task s w
at_entry h now task s w st member = record { entry = st.entry; member = member; signals = st.signals; signal_at = st.signal_at; wait_at = st.wait_at }

pub stands_other : (limits : Limits) (h : History) (e : Event) (task s w : ℕ) → IsLegal limits (e ∷ h) → is_by task e ≡ false
    → IsAtPhases h task s w → IsAtPhases (e ∷ h) task s w
stands_other limits h e task s w legal other st =
    at_entry h (e ∷ h) task s w st (entry_of-others limits (e ∷ []) h task st.entry legal (ap (λ b. cond b (e ∷ []) []) other) st.member)

pub stands_signalled : (h : History) (task s w : ℕ) (sends : List ℤ) → IsAtPhases h task s w → IsAtPhases (Signalled task (sends ∷ []) None ∷ h) task (s + 1) w
stands_signalled h task s w sends st = record {
  entry = signalled 1 st.entry;
  member = entry_of-changed_same task (signalled 1) st.entry (members_of h) st.member;
  signals = st.signals;
  signal_at = ap (λ n. n + 1) st.signal_at;
  wait_at = st.wait_at;
}

pub stands_waited : (h : History) (task s w : ℕ) → IsAtPhases h task s w → IsAtPhases (Waited task 1 ∷ h) task s (w + 1)
stands_waited h task s w st = record {
  entry = waited 1 st.entry;
  member = entry_of-changed_same task (waited 1) st.entry (members_of h) st.member;
  signals = st.signals;
  signal_at = st.signal_at;
  wait_at = ap (λ n. n + 1) st.wait_at;
}

pub signal_is : (h : History) (task s w : ℕ) → IsAtPhases h task s w → signal_phase h task ≡ s
signal_is h task s w st = ap (λ (e : Entry). e.signal_phase) (member_entry_is (members_of h) task st.entry st.member) ∙ st.signal_at

pub wait_is : (h : History) (task s w : ℕ) → IsAtPhases h task s w → wait_phase h task ≡ w
wait_is h task s w st = ap (λ (e : Entry). e.wait_phase) (member_entry_is (members_of h) task st.entry st.member) ∙ st.wait_at

-- no phase is complete that it has yet to signal
pub done_within : (h : History) (task s w : ℕ) → IsAtPhases h task s w → done_of h ≤ s
done_within h task s w st =
    let low : mode_signals st.entry.mode ≡ true → done_of h ≤ st.entry.signal_phase = Each-entry _ (members_of h) task st.entry st.member (done_low (positions_of h)) in
    let here : done_of h ≤ st.entry.signal_phase = low st.signals in
    let at = st.signal_at in omega arith

some_of : (h : History) (task s w : ℕ) → IsAtPhases h task s w → h ≡ [] → ⊥
some_of [] task s w st none = let m = st.member in cc
some_of (e ∷ h) task s w st none = cc

-- ---- an event more

grows : (limits : Limits) (h : History) (e : Event) → (h ≡ [] → ⊥) → IsLegal limits (e ∷ h) → done_of h ≤ done_of (e ∷ h)
grows limits h e some legal =
    let r = legal_rest limits e h some legal in (steps limits h e r.0 (sound_of limits h r.0) r.1).grows

alone : (task : ℕ) (e : Event) → is_by task e ≡ false → (t : ℕ) → is_in t (task ∷ []) ≡ true → is_by t e ≡ false
alone task e other t has = subst (λ (n : ℕ). is_by n e ≡ false) (one_of task t has) other

pub further : (task : ℕ) (old h : History) (e : Event) → is_by task e ≡ false → OthersCame (task ∷ []) old h → OthersCame (task ∷ []) old (e ∷ h)
further task old h e other came = OthersCame-trans (task ∷ []) old h (e ∷ h) came (OthersCame-event (task ∷ []) h e (alone task e other))

pub stage_other : (limits : Limits) (ask : Ask) (seen h : History) (e : Event) → IsLegal limits (e ∷ h) → is_by ask.task e ≡ false
    → Stage limits ask seen h → Stage limits ask seen (e ∷ h)
stage_other limits ask seen h e legal other (inl u) = inl record {
  others = further ask.task seen h e other u.others;
  stands = stands_other limits h e ask.task ask.phase ask.phase legal other u.stands;
}
stage_other limits ask seen h e legal other (inr (inl m)) = inr (inl record {
  before = m.before;
  others = m.others;
  accepted = m.accepted;
  signalled_in = m.signalled_in;
  since = further ask.task (Signalled ask.task (ask.sends ∷ []) None ∷ m.before) h e other m.since;
  stands = stands_other limits h e ask.task (ask.phase + 1) ask.phase legal other m.stands;
})
stage_other limits ask seen h e legal other (inr (inr a)) = inr (inr record {
  middle = a.middle;
  made = a.made;
  accepted = a.accepted;
  complete = a.complete;
  below = (let more = grows limits h e (some_of h ask.task (ask.phase + 1) (ask.phase + 1) a.stands) legal in let low = a.below in omega arith);
  since = further ask.task (Waited ask.task 1 ∷ a.middle) h e other a.since;
  stands = stands_other limits h e ask.task (ask.phase + 1) (ask.phase + 1) legal other a.stands;
})

-- its own signal: only where it was not made yet
pub stage_signalled : (limits : Limits) (ask : Ask) (seen h : History) → IsLegal limits h
    → IsAccepted limits h (Signalled ask.task (ask.sends ∷ []) None) → signal_phase h ask.task ≡ ask.phase
    → Stage limits ask seen h → IsMade limits ask seen (Signalled ask.task (ask.sends ∷ []) None ∷ h)
stage_signalled limits ask seen h legal accepted at (inl u) = record {
  before = h;
  others = u.others;
  accepted = accepted.0;
  signalled_in = at;
  since = OthersCame-refl (ask.task ∷ []) (Signalled ask.task (ask.sends ∷ []) None ∷ h);
  stands = stands_signalled h ask.task ask.phase ask.phase ask.sends u.stands;
}
stage_signalled limits ask seen h legal accepted at (inr (inl m)) =
    absurd (apart_phases ask.phase (sym (signal_is h ask.task (ask.phase + 1) ask.phase m.stands) ∙ at))
stage_signalled limits ask seen h legal accepted at (inr (inr a)) =
    absurd (apart_phases ask.phase (sym (signal_is h ask.task (ask.phase + 1) (ask.phase + 1) a.stands) ∙ at))

-- its own wait: only where its signal was made, and the phase is complete
pub stage_waited : (limits : Limits) (ask : Ask) (seen h : History) → IsLegal limits h → IsAccepted limits h (Waited ask.task 1)
    → signal_phase h ask.task ≡ ask.phase + 1 → wait_phase h ask.task ≡ ask.phase
    → Stage limits ask seen h → IsAnsweredAsk limits ask seen (Waited ask.task 1 ∷ h)
stage_waited limits ask seen h legal accepted signalled at (inl u) =
    absurd (apart_phases ask.phase (sym signalled ∙ signal_is h ask.task ask.phase ask.phase u.stands))
stage_waited limits ask seen h legal accepted signalled at (inr (inl m)) = record {
  middle = h;
  made = m;
  accepted = accepted.0;
  complete = (let fits : wait_phase h ask.task + 1 ≤ done_of h = accepted.1 in omega arith);
  below = (let fits : wait_phase h ask.task + 1 ≤ done_of h = accepted.1 in let more = (steps limits h (Waited ask.task 1) legal (sound_of limits h legal) accepted).grows in omega arith);
  since = OthersCame-refl (ask.task ∷ []) (Waited ask.task 1 ∷ h);
  stands = stands_waited h ask.task (ask.phase + 1) ask.phase m.stands;
}
stage_waited limits ask seen h legal accepted signalled at (inr (inr a)) =
    absurd (apart_phases ask.phase (sym (wait_is h ask.task (ask.phase + 1) (ask.phase + 1) a.stands) ∙ at))

-- ---- the events of a turn

module _ (limits : Limits) (Claimed : Ask → Type 0) (speaks : List ℕ) (log : History) (some : log ≡ [] → ⊥) where
  pub stage_goes : (ask : Ask) (seen : History) → is_in ask.task speaks ≡ false → ((a : Ask) → Claimed a → a.task ≡ ask.task → a ≡ ask)
      → (later : History) → Batch Claimed speaks later log → IsLegal limits (later ++ log) → Stage limits ask seen log → Stage limits ask seen (later ++ log)
  stage_goes ask seen apart_from one [] batch legal stage = stage
  stage_goes ask seen apart_from one (e ∷ later) batch legal stage =
      let h : History = later ++ log in
      let r = legal_rest limits e h (longer_some later log some) legal in
      let here : Stage limits ask seen h = stage_goes ask seen apart_from one later batch.0 r.0 stage in
      elim batch.1 [
        | inl own ↦ stage_other limits ask seen h e legal (own ask.task apart_from) here
        | inr (inl s) ↦ by_signal e h s legal r.1 here
        | inr (inr w) ↦ by_wait e h w legal r.1 here
      ]
    where
      by_signal : (e : Event) (h : History) (s : SignalsFor Claimed h e) → IsLegal limits (e ∷ h) → IsAccepted limits h e → Stage limits ask seen h → Stage limits ask seen (e ∷ h)
      by_signal e h s legal accepted here = elim (eqb s.ask.task ask.task) as (λ b. (eqb s.ask.task ask.task ≡ b) → Stage limits ask seen (e ∷ h)) [
        | true ↦ λ t.
            let same : s.ask ≡ ask = one s.ask s.claimed (eqb-true s.ask.task ask.task t) in
            let is : e ≡ Signalled ask.task (ask.sends ∷ []) None = s.is ∙ ap (λ (a : Ask). Signalled a.task (a.sends ∷ []) None) same in
            let at : signal_phase h ask.task ≡ ask.phase = subst (λ (a : Ask). signal_phase h a.task ≡ a.phase) same s.at in
            let ok : IsAccepted limits h (Signalled ask.task (ask.sends ∷ []) None) = subst (λ (x : Event). IsAccepted limits h x) is accepted in
            let legal' : IsLegal limits (Signalled ask.task (ask.sends ∷ []) None ∷ h) = subst (λ (x : Event). IsLegal limits (x ∷ h)) is legal in
            subst (λ (x : Event). Stage limits ask seen (x ∷ h)) (sym is) (inr (inl (stage_signalled limits ask seen h legal'.0 ok at here)))
        | false ↦ λ f. stage_other limits ask seen h e legal (ap (λ (x : Event). is_by ask.task x) s.is ∙ f) here
      ] refl

      by_wait : (e : Event) (h : History) (w : WaitsFor Claimed h e) → IsLegal limits (e ∷ h) → IsAccepted limits h e → Stage limits ask seen h → Stage limits ask seen (e ∷ h)
      by_wait e h w legal accepted here = elim (eqb w.ask.task ask.task) as (λ b. (eqb w.ask.task ask.task ≡ b) → Stage limits ask seen (e ∷ h)) [
        | true ↦ λ t.
            let same : w.ask ≡ ask = one w.ask w.claimed (eqb-true w.ask.task ask.task t) in
            let is : e ≡ Waited ask.task 1 = w.is ∙ ap (λ (a : Ask). Waited a.task 1) same in
            let signalled' : signal_phase h ask.task ≡ ask.phase + 1 = subst (λ (a : Ask). signal_phase h a.task ≡ a.phase + 1) same w.signalled in
            let at : wait_phase h ask.task ≡ ask.phase = subst (λ (a : Ask). wait_phase h a.task ≡ a.phase) same w.at in
            let ok : IsAccepted limits h (Waited ask.task 1) = subst (λ (x : Event). IsAccepted limits h x) is accepted in
            let legal' : IsLegal limits (Waited ask.task 1 ∷ h) = subst (λ (x : Event). IsLegal limits (x ∷ h)) is legal in
            subst (λ (x : Event). Stage limits ask seen (x ∷ h)) (sym is) (inr (inr (stage_waited limits ask seen h legal'.0 ok signalled' at here)))
        | false ↦ λ f. stage_other limits ask seen h e legal (ap (λ (x : Event). is_by ask.task x) w.is ∙ f) here
      ] refl

-- ---- what the asker learns when it finds that more phases are told than its own

pub answered : (limits : Limits) (ask : Ask) (seen h : History) (told : ℕ) → told ≤ done_of h → ask.phase < told
    → (IsMade limits ask seen h → told ≤ ask.phase) → Stage limits ask seen h → IsAnsweredAsk limits ask seen h
answered limits ask seen h told within found waits (inl u) = let low = done_within h ask.task ask.phase ask.phase u.stands in absurd (omega arith)
answered limits ask seen h told within found waits (inr (inl m)) = let low = waits m in absurd (omega arith)
answered limits ask seen h told within found waits (inr (inr a)) = a
