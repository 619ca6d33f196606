-- What an answer tells: that the stream has ended; and that a member is known.
use Rattle.std.proofs.Common.{◌≡◌, ◌≢◌, ℕ, ℤ, ◌-◌, ◌≤◌, Bool, true, false, ◌&&◌, cond, leb, ltb, List, [], ◌∷◌, Option, Some, None, refl, ap, arith}
use Rattle.std.specs.Prelude.{Ok, Result, is_some, min}
use Rattle.std.proofs.lemmas.Bool.{ltb-false, le-leb}
use Rattle.std.proofs.lemmas.Option.{same_Some}
use Rattle.phase_base.specs.Limits.{Limits}
use Rattle.phase_base.specs.declared.mode.Mode.{Mode}
use Rattle.phase_base.specs.declared.entry.Entry.{Entry}
use Rattle.phase_base.specs.Members.{entry_of, signal_phases, least, signalled}
use Rattle.phase_accum.specs.declared.outcome.Outcome.{Outcome}
use Rattle.phase_accum.specs.declared.single.Single.{Single}
use Rattle.phase_history.specs.declared.got.Got.TheVariants as got
use Rattle.phase_history.specs.declared.got.GotBlock.TheVariants as block
use Rattle.phase_history.specs.declared.refusal.RegisterRefusal.TheVariants as register
use Rattle.phase_history.specs.declared.refusal.SignalRefusal.{SignalRefusal}
use Rattle.phase_history.specs.declared.refusal.SignalRefusal.TheVariants as signal
use Rattle.phase_history.specs.declared.refusal.WaitRefusal.TheVariants as wait
use Rattle.phase_history.specs.Histories.{History, HasNoSignaller, IsAlive, members_of, positions_of, done_of, wait_phase, greatest_used}
use Rattle.phase_history.specs.Phases.{value_of_phase}
use Rattle.phase_history.specs.Refusals.{refusal_at, register_rows, register_refusal, list_rows, signal_rows, signal_refusal, wait_rows, wait_refusal, drop_refusal}
use Rattle.phase_base.specs.Lists.{first_row}
use Rattle.phase_history.specs.Replies.{wait_reply, wait_block_reply, refused_or}
use Rattle.phase_history.proofs.Each.{Each}
use Rattle.phase_history.proofs.Refused.{Passes, passes_from}
use Rattle.phase_history.proofs.Steps.{member_entry_is}
use Rattle.phase_history.proofs.Used.{start_from}

-- ---- that the stream has ended

no_least : (xs : List ℕ) → is_some (least xs) ≡ false → xs ≡ []
no_least [] none = refl
no_least (x ∷ xs) none = absurd (cc)

not_below : {A : Type 0} (x y : A) (b : Bool) → x ≢ y → cond b x y ≡ y → b ≡ false
not_below x y true apart e = absurd (apart e)
not_below x y false apart e = refl

same_ok : {A R : Type 0} (x y : A) (r : Result A R) → r ≡ Ok x → r ≡ Ok y → x ≡ y
same_ok x y r e f = cc

second_false : (a b : Bool) → (a && b) ≡ false → a ≡ true → b ≡ false
second_false true b both is = both
second_false false b both is = absurd (cc)

-- a wait that is not refused, of a task that has got every phase: no task signals
quiet_at : (limits : Limits) (h : History) (task n : ℕ) → wait_refusal limits h task n ≡ None → done_of h ≤ wait_phase h task → HasNoSignaller h
quiet_at limits h task n none low =
    let p : Passes (entry_of (members_of h) task) (wait_rows limits (positions_of h) n) = passes_from _ _ _ none in
    let w_is : wait_phase h task ≡ p.entry.wait_phase = ap (λ (x : Entry). x.wait_phase) (member_entry_is (members_of h) task p.entry p.is_member) in
    let row : (leb (done_of h) p.entry.wait_phase && is_some (least (signal_phases (members_of h)))) ≡ false = p.passes.1.1.1.0 in
    no_least (signal_phases (members_of h)) (second_false _ _ row (le-leb (done_of h) p.entry.wait_phase (omega arith)))

-- a wait that answers that the stream has ended: no task signals, and every phase was got
ended_by : {A : Type 0} (limits : Limits) (h : History) (task n : ℕ) (got ended : A) → got ≢ ended
    → refused_or (wait_refusal limits h task n) (cond (ltb (wait_phase h task) (done_of h)) got ended) ≡ Ok ended
    → HasNoSignaller h × (done_of h ≤ wait_phase h task)
ended_by limits h task n got ended apart reply =
    let at = cond (ltb (wait_phase h task) (done_of h)) got ended in
    elim (wait_refusal limits h task n) as (λ o. (wait_refusal limits h task n ≡ o) → refused_or o at ≡ Ok ended
    → HasNoSignaller h × (done_of h ≤ wait_phase h task)) [
      | None ↦ λ none e.
          let low : done_of h ≤ wait_phase h task = ltb-false _ _ (not_below got ended (ltb (wait_phase h task) (done_of h)) apart (same_ok at ended (refused_or None at) refl e)) in
          (quiet_at limits h task n none low, low)
      | Some refusal ↦ λ some e. absurd (cc)
    ] refl reply

pub ended_tells : (value : List ℤ → Outcome) (limits : Limits) (h : History) (task : ℕ) → wait_reply value limits h task ≡ Ok got.Ended
    → HasNoSignaller h × (done_of h ≤ wait_phase h task)
ended_tells value limits h task = ended_by limits h task 1 (got.Value (wait_phase h task) (value_of_phase value h (wait_phase h task))) got.Ended (λ e. absurd (cc))

pub block_ended_tells : (limits : Limits) (h : History) (task n : ℕ) → wait_block_reply limits h task n ≡ Ok block.Ended
    → HasNoSignaller h × (done_of h ≤ wait_phase h task)
block_ended_tells limits h task n = ended_by limits h task n (block.Values (wait_phase h task) (min n (done_of h - wait_phase h task))) block.Ended (λ e. absurd (cc))

-- ---- that a member is known

-- a table answers nothing but its rows' answers
pub first_row_never : {R : Type 0} (rows : List (Bool × R)) (x : R) → Each (λ (row : Bool × R). row.1 ≢ x) rows → first_row rows ≢ Some x
first_row_never [] x each e = cc
first_row_never {R} (row ∷ rows) x each e =
    elim (row.0) as (λ b. cond b (Some row.1) (first_row rows) ≡ Some x → ⊥) [
      | true ↦ λ t. each.0 (same_Some _ _ t)
      | false ↦ λ t. first_row_never rows x each.1 t
    ] e

-- a call of a member is answered by its rows
refusal_at-never : {R : Type 0} (o : Option Entry) (x : R) (rows : Entry → List (Bool × R)) → is_some o ≡ true
    → ((entry : Entry) → Each (λ (row : Bool × R). row.1 ≢ x) (rows entry)) → refusal_at o x rows ≢ Some x
refusal_at-never None x rows member never e = absurd (cc)
refusal_at-never (Some entry) x rows member never e = first_row_never (rows entry) x (never entry) e

pub register_refusal-never : (h : History) (parent child : ℕ) (mode : Mode) → IsAlive h parent
    → register_refusal h parent child mode ≢ Some register.NoTask
register_refusal-never h parent child mode alive =
    refusal_at-never (entry_of (members_of h) parent) register.NoTask (register_rows (members_of h) (greatest_used h) child mode) alive
    (λ entry. ((λ e. cc), ((λ e. cc), ((λ e. cc), tt))))

-- none of the rows of a signal's phases
list_rows-never : (limits : Limits) (h : History) (lists : List (List ℤ)) (single : Option Single) (entry : Entry)
    → Each (λ (row : Bool × SignalRefusal). row.1 ≢ signal.NoTask) (list_rows limits h lists single entry)
list_rows-never limits h [] single entry = tt
list_rows-never limits h (sends ∷ lists) single entry =
    ((λ e. cc), ((λ e. cc), ((λ e. cc), ((λ e. cc), ((λ e. cc), list_rows-never limits h lists single (signalled 1 entry))))))

pub signal_refusal-never : (limits : Limits) (h : History) (task : ℕ) (lists : List (List ℤ)) (single : Option Single) → IsAlive h task
    → signal_refusal limits h task lists single ≢ Some signal.NoTask
signal_refusal-never limits h task lists single alive =
    refusal_at-never (entry_of (members_of h) task) signal.NoTask (signal_rows limits h lists single) alive
    (λ entry. ((λ e. cc), ((λ e. cc), ((λ e. cc), list_rows-never limits h lists single entry))))

pub wait_refusal-never : (limits : Limits) (h : History) (task n : ℕ) → IsAlive h task → wait_refusal limits h task n ≢ Some wait.NoTask
wait_refusal-never limits h task n alive =
    refusal_at-never (entry_of (members_of h) task) wait.NoTask (wait_rows limits (positions_of h) n) alive
    (λ entry. ((λ e. cc), ((λ e. cc), ((λ e. cc), ((λ e. cc), tt)))))

pub drop_refusal-member : (h : History) (task : ℕ) → IsAlive h task → drop_refusal h task ≡ None
drop_refusal-member h task alive =
    let e = start_from (entry_of (members_of h) task) alive in
    ap (λ o. refusal_at o (record {}) (λ entry. [])) e.1
