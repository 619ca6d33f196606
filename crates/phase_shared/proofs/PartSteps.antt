-- What a call adds to its task's own part of the history.
use Rattle.std.proofs.Common.{◌≡◌, ℕ, ◌≤◌, ℤ, Bool, true, false, cond, List, [], ◌∷◌, ◌++◌, map, Option, Some, None, Ok, Err, eqb, refl, sym, ap, ap₂, subst, ◌∙◌, arith}
use Rattle.std.specs.Prelude.{Result, ◌||◌, unwrap_or}
use Rattle.std.proofs.lemmas.Bool.{eq-eqb}
use Rattle.std.proofs.lemmas.Option.{same_Some}
use Rattle.phase_shared.specs.Phasers.{Limits, entry_of, mode_signals, mode_waits, Entry, Mode, Outcome, Single, Operation, Parcel, Got, RegisterRefusal, SignalRefusal, WaitRefusal, History, HasNoSignaller, members_of, founder, signal_phase, wait_phase, done_of, start_of, entry_at, received_by, IsLegal, OthersCame, is_in, HasNoEvents, sent_by}
use Rattle.phase_accum.specs.declared.outcome.Outcome.TheVariants.{Empty}
use Rattle.phase_history.specs.declared.event.Event.TheVariants.{Registered}
use Rattle.phase_history.specs.declared.got.Got.TheVariants.{Value, Ended}
use Rattle.phase_history.specs.declared.refusal.RegisterRefusal.TheVariants as register
use Rattle.phase_history.specs.Histories.{has_dropped}
use Rattle.phase_history.proofs.LawProofs.{above_law, answers_law}
use Rattle.phase_history.proofs.Answered.{ended_tells}
use Rattle.phase_history.proofs.OthersEvents.{received_by-others, sent_by-others}
use Rattle.phase_history.proofs.Gathered.{no_lists}
use Rattle.phase_history.proofs.Sendings.{length-sent_by}
use Rattle.phase_shared.specs.declared.next.Next.{Next}
use Rattle.phase_shared.specs.Calls.{Signals, Waits, HasRegistered, RefusesRegister, Leaves}
use Rattle.phase_shared.specs.Nexts.{MadeWhere, GoesNext, RefusesNext}
use Rattle.phase_shared.specs.Regs.{RegState}
use Rattle.phase_shared.specs.Parts.{with_got, with_any, PartStays, HasNoPart, SendsHeld, Gets, SendsAndGets}
use Rattle.phase_shared.proofs.Small.{is_in_self}
use Rattle.phase_shared.proofs.Giving.{member_after}

-- ---- while others' events come

pub PartStays-others : (tasks : List ℕ) (old new : History) (task : ℕ) → OthersCame tasks old new
    → is_in task tasks ≡ true → PartStays task old new
PartStays-others tasks old new task came has = record {
  received = λ value. ap (λ h. received_by value h task) came.is ∙ received_by-others value came.later old task (came.others task has);
  sent = ap (λ h. sent_by h task) came.is ∙ sent_by-others came.later old task (came.others task has);
}

-- a task's own
pub own : (me : ℕ) (old new : History) → OthersCame (me ∷ []) old new → PartStays me old new
own me old new came = PartStays-others (me ∷ []) old new me came (is_in_self me [])

-- what was in a list is in a longer one
in_rest : (a t : ℕ) (xs : List ℕ) → is_in t xs ≡ true → is_in t (a ∷ xs) ≡ true
in_rest a t xs has = elim (eqb a t) as (λ b. (b || is_in t xs) ≡ true) [ true ↦ refl | false ↦ has ]

some_stay : (value : List ℤ → Outcome) (some tasks : List ℕ) (old new : History)
    → ((task : ℕ) → is_in task some ≡ true → is_in task tasks ≡ true) → OthersCame tasks old new
    → map (received_by value new) some ≡ map (received_by value old) some
some_stay value [] tasks old new within came = refl
some_stay value (task ∷ some) tasks old new within came =
    ap₂ (λ x xs. x ∷ xs) ((PartStays-others tasks old new task came (within task (is_in_self task some))).received value)
    (some_stay value some tasks old new (λ t has. within t (in_rest task t some has)) came)

pub lists_stay : (value : List ℤ → Outcome) (tasks : List ℕ) (old new : History) → OthersCame tasks old new
    → map (received_by value new) tasks ≡ map (received_by value old) tasks
lists_stay value tasks old new came = some_stay value tasks tasks old new (λ t has. has) came

-- ---- a signal

pub signal_received : {A : Type 0} (op : Operation A) (value : List ℤ → Outcome) (limits : Limits) (me : ℕ) (held : Parcel A)
    (single : Option Single) (old new : History) (answer : Result ℕ SignalRefusal)
    → Signals op limits me held single old new answer → received_by value new me ≡ received_by value old me
signal_received op value limits me held single old new (Ok phase) s =
    ap (λ h. received_by value h me) s.seen ∙ (own me old s.before s.others).received value
signal_received op value limits me held single old new (Err refusal) s =
    ap (λ h. received_by value h me) s.seen ∙ (own me old s.before s.others).received value

pub signal_sends : {A : Type 0} (op : Operation A) (limits : Limits) (me phase : ℕ) (held : Parcel A) (single : Option Single)
    (old new : History) → Signals op limits me held single old new (Ok phase) → SendsHeld op me held old new
signal_sends op limits me phase held single old new s = record {
  sends = s.sends;
  stands = s.stands;
  sent = ap (λ h. sent_by h me) s.seen
      ∙ ap (λ b. cond b (sent_by s.before me ++ s.sends ∷ []) (sent_by s.before me)) (eq-eqb me me refl)
      ∙ ap (λ lists. lists ++ s.sends ∷ []) (own me old s.before s.others).sent;
}

pub refused_signal : {A : Type 0} (op : Operation A) (limits : Limits) (me : ℕ) (held : Parcel A) (single : Option Single)
    (old new : History) (refusal : SignalRefusal) → Signals op limits me held single old new (Err refusal) → PartStays me old new
refused_signal op limits me held single old new refusal s = record {
  received = λ value. signal_received op value limits me held single old new (Err refusal) s;
  sent = ap (λ h. sent_by h me) s.seen ∙ (own me old s.before s.others).sent;
}

-- ---- a wait

pub wait_gets : (value : List ℤ → Outcome) (limits : Limits) (me : ℕ) (old new : History) (got : Got)
    → Waits value limits me old new (Ok got) → Gets value me got old new
wait_gets value limits me old new (Value phase outcome) w = record {
  received = ap (λ h. received_by value h me) w.seen
      ∙ (answers_law value limits w.before me phase outcome w.reply).received
      ∙ ap (λ list. list ++ outcome ∷ []) ((own me old w.before w.others).received value);
  sent = ap (λ h. sent_by h me) w.seen ∙ (own me old w.before w.others).sent;
}
wait_gets value limits me old new Ended w = record {
  received = ap (λ h. received_by value h me) w.seen ∙ (own me old w.before w.others).received value;
  sent = ap (λ h. sent_by h me) w.seen ∙ (own me old w.before w.others).sent;
}

pub refused_wait : (value : List ℤ → Outcome) (limits : Limits) (me : ℕ) (old new : History) (refusal : WaitRefusal)
    → Waits value limits me old new (Err refusal) → PartStays me old new
refused_wait value limits me old new refusal w = record {
  received = λ other. ap (λ h. received_by other h me) w.seen ∙ (own me old w.before w.others).received other;
  sent = ap (λ h. sent_by h me) w.seen ∙ (own me old w.before w.others).sent;
}

pub wait_ended : (value : List ℤ → Outcome) (limits : Limits) (me : ℕ) (old new : History)
    → Waits value limits me old new (Ok Ended) → HasNoSignaller new × (done_of new ≤ wait_phase new me)
wait_ended value limits me old new w =
    subst (λ (h : History). HasNoSignaller h × (done_of h ≤ wait_phase h me)) (sym w.seen) (ended_tells value limits w.before me w.reply)

-- ---- a next phase

-- a call that was made where it could be, or nothing came
made_where : {X : Type 0} (can : Bool) (call : X → Type 0) (nothing : Type 0) (P : Option X → Type 0)
    → ((x : X) → call x → P (Some x)) → (nothing → P None) → (o : Option X) → MadeWhere can call nothing o → P o
made_where true call nothing P made none (Some x) m = made x m
made_where true call nothing P made none None m = absurd m
made_where false call nothing P made none None m = none m
made_where false call nothing P made none (Some x) m = absurd m

-- one that could be made, and one that could not
was_made : {X : Type 0} (can : Bool) (call : X → Type 0) (nothing P : Type 0) → ((x : X) → call x → P) → can ≡ true
    → (o : Option X) → MadeWhere can call nothing o → P
was_made true call nothing P made is (Some x) m = made x m
was_made true call nothing P made is None m = absurd m
was_made false call nothing P made is o m = absurd (cc)

was_not_made : {X : Type 0} (can : Bool) (call : X → Type 0) (nothing : Type 0) → can ≡ false
    → (o : Option X) → MadeWhere can call nothing o → nothing
was_not_made false call nothing is None m = m
was_not_made false call nothing is (Some x) m = absurd m
was_not_made true call nothing is o m = absurd (cc)

module _ {A K : Type 0} (op : Operation A) (limits : Limits) (single : Option Single) (old : RegState A K) (new : History) where
  -- what the wait leaves of what was sent
  sent_stays : (next : Next) (n : GoesNext op limits single old new next) → sent_by new old.number ≡ sent_by n.middle old.number
  sent_stays next n =
      made_where (mode_waits old.entry.mode) (λ got. Waits op.value limits old.number n.middle new (Ok got)) (new ≡ n.middle)
      (λ o. sent_by new old.number ≡ sent_by n.middle old.number)
      (λ got w. (wait_gets op.value limits old.number n.middle new got w).sent)
      (λ same. ap (λ h. sent_by h old.number) same) next.got n.waits

  pub next_adds : (next : Next) → GoesNext op limits single old new next → SendsAndGets op old new next
  next_adds next n =
      let me = old.number in
      let signalled : received_by op.value n.middle me ≡ received_by op.value old.seen me =
      made_where (mode_signals old.entry.mode)
      (λ phase. Signals op limits me old.held single old.seen n.middle (Ok phase)) (n.middle ≡ old.seen)
      (λ o. received_by op.value n.middle me ≡ received_by op.value old.seen me)
      (λ phase s. signal_received op op.value limits me old.held single old.seen n.middle (Ok phase) s)
      (λ same. ap (λ h. received_by op.value h me) same) next.signalled n.signals in
      record {
        received = made_where (mode_waits old.entry.mode)
            (λ got. Waits op.value limits me n.middle new (Ok got)) (new ≡ n.middle)
            (λ o. received_by op.value new me ≡ with_any (received_by op.value old.seen me) o)
            (λ got w. (wait_gets op.value limits me n.middle new got w).received ∙ ap (λ list. with_got list got) signalled)
            (λ same. ap (λ h. received_by op.value h me) same ∙ signalled) next.got n.waits;
        sent = λ can.
            was_made (mode_signals old.entry.mode)
            (λ phase. Signals op limits me old.held single old.seen n.middle (Ok phase)) (n.middle ≡ old.seen)
            (SendsHeld op me old.held old.seen new)
            (λ phase s.
            (let h : SendsHeld op me old.held old.seen n.middle = signal_sends op limits me phase old.held single old.seen n.middle s in
            record { sends = h.sends; stands = h.stands; sent = sent_stays next n ∙ h.sent }))
            can next.signalled n.signals;
        silent = λ cannot.
            sent_stays next n
            ∙ ap (λ h. sent_by h me) (was_not_made (mode_signals old.entry.mode)
            (λ phase. Signals op limits me old.held single old.seen n.middle (Ok phase)) (n.middle ≡ old.seen)
            cannot next.signalled n.signals);
      }

  -- what a next phase tells whose wait was answered that the stream has ended
  pub next_ended : (next : Next) → GoesNext op limits single old new next → next.got ≡ Some Ended
      → HasNoSignaller new × (done_of new ≤ wait_phase new old.number)
  next_ended next n ended =
      let tells : Option Got → Type 0 = λ o. o ≡ Some Ended → HasNoSignaller new × (done_of new ≤ wait_phase new old.number) in
      made_where (mode_waits old.entry.mode) (λ got. Waits op.value limits old.number n.middle new (Ok got)) (new ≡ n.middle) tells
      (λ got w is. wait_ended op.value limits old.number n.middle new
      (subst (λ g. Waits op.value limits old.number n.middle new (Ok g)) (same_Some got Ended is) w))
      (λ same is. absurd (cc)) next.got n.waits ended

  pub refused_next : (signals : Bool) (refusal : SignalRefusal) → RefusesNext op limits single old new signals refusal
      → PartStays old.number old.seen new
  refused_next true refusal r = refused_signal op limits old.number old.held single old.seen new refusal r
  refused_next false refusal r = record {
    received = λ value. ap (λ h. received_by value h old.number) r.2;
    sent = ap (λ h. sent_by h old.number) r.2;
  }

-- ---- a registration, and leaving

pub parent_stays : (me child : ℕ) (mode : Mode) (old new : History) → HasRegistered me child mode old new → PartStays me old new
parent_stays me child mode old new r = record {
  received = λ value. ap (λ h. received_by value h me) r.seen ∙ (own me old r.before r.others).received value;
  sent = ap (λ h. sent_by h me) r.seen ∙ (own me old r.before r.others).sent;
}

pub refused_register : (me : ℕ) (mode : Mode) (old new : History) (refusal : RegisterRefusal)
    → RefusesRegister me mode old new refusal → PartStays me old new
refused_register me mode old new register.NoTask r = own me old new r.0
refused_register me mode old new register.NotAllowed r = own me old new r.0
refused_register me mode old new register.NotNew r = own me old new r.0
refused_register me mode old new register.TooManyTasks r = own me old new r.0
refused_register me mode old new register.OutOfMemory r = own me old new r.0

-- the registration, as the last event of a legal history
accepted : (limits : Limits) (me child : ℕ) (mode : Mode) (old new : History) → IsLegal limits new
    → (r : HasRegistered me child mode old new) → IsLegal limits (Registered me child mode ∷ r.before)
accepted limits me child mode old new legal r = subst (IsLegal limits) r.seen legal

pub child_has_none : (limits : Limits) (me child : ℕ) (mode : Mode) (old new : History) → IsLegal limits new
    → HasRegistered me child mode old new → HasNoPart child new
child_has_none limits me child mode old new legal r =
    let all : IsLegal limits (Registered me child mode ∷ r.before) = accepted limits me child mode old new legal r in
    let nothing : (value : List ℤ → Outcome) → HasNoEvents value r.before child =
    λ value. above_law value limits r.before child all.0 (rw r.next (omega arith)) in
    record {
      received = λ value. ap (λ h. received_by value h child) r.seen ∙ (nothing value).received;
      sent = ap (λ h. sent_by h child) r.seen
          ∙ no_lists (sent_by r.before child) (length-sent_by r.before child ∙ (nothing (λ sends. Empty)).signals);
    }

pub child_starts : (limits : Limits) (me child : ℕ) (mode : Mode) (old new : History) (entry : Entry) → IsLegal limits new
    → HasRegistered me child mode old new → entry_of (members_of old) me ≡ Some entry
    → start_of new child ≡ Some (entry_at mode entry.signal_phase entry.wait_phase)
child_starts limits me child mode old new entry legal r member =
    let all : IsLegal limits (Registered me child mode ∷ r.before) = accepted limits me child mode old new legal r in
    let there : entry_of (members_of r.before) me ≡ Some entry = member_after limits me entry old r.before r.others all.0 member in
    ap (λ h. start_of h child) r.seen
    ∙ ap (λ b. cond b (Some (entry_at mode (signal_phase r.before me) (wait_phase r.before me))) (start_of r.before child)) (eq-eqb child child refl)
    ∙ ap (λ (o : Option Entry). Some (entry_at mode (unwrap_or o founder).signal_phase (unwrap_or o founder).wait_phase)) there

pub leaver_stays : (me : ℕ) (old new : History) → Leaves me old new → PartStays me old new
leaver_stays me old new l = record {
  received = λ value. ap (λ h. received_by value h me) l.seen ∙ (own me old l.before l.others).received value;
  sent = ap (λ h. sent_by h me) l.seen ∙ (own me old l.before l.others).sent;
}

pub leaver_dropped : (me : ℕ) (old new : History) → Leaves me old new → has_dropped new me ≡ true
leaver_dropped me old new l =
    ap (λ h. has_dropped h me) l.seen ∙ ap (λ b. cond b true (has_dropped l.before me)) (eq-eqb me me refl)
