-- A session's phaser and the sends that its tasks hold, through the calls that it makes.
use Rattle.std.proofs.Common.{◌≡◌, ℕ, ◌+◌, ◌≤◌, Bool, true, false, cond, eqb, List, [], ◌∷◌, ◌++◌, Option, Some, None, Ok, Err, ℤ, Result, leb, not, length, refl, sym, ap, subst, ◌∙◌, arith, length-append}
use Rattle.std.proofs.lemmas.List.{append-nil}
use Rattle.std.proofs.lemmas.Bool.{eq-eqb, eqb-true, lt-leb}
use Rattle.phase_base.specs.Limits.{Limits}
use Rattle.phase_base.specs.Modes.{mode_signals}
use Rattle.phase_base.specs.declared.entry.Entry.{Entry}
use Rattle.phase_base.specs.Members.{entry_of}
use Rattle.phase_accum.specs.Operations.{Operation}
use Rattle.phase_accum.specs.Parcels.{Parcel, StandsForSends}
use Rattle.phase_accum.specs.declared.single.Single.{Single}
use Rattle.phase_history.specs.declared.event.Event.TheVariants.{Signalled, Dropped}
use Rattle.phase_history.specs.declared.refusal.NoTask.{NoTask}
use Rattle.phase_history.specs.declared.refusal.SignalRefusal.{SignalRefusal}
use Rattle.phase_history.specs.Histories.{History, members_of}
use Rattle.phase_history.specs.Refusals.{refusal_at, drop_refusal}
use Rattle.phase_history.specs.declared.call.Call.TheVariants.{Drop}
use Rattle.phase_history.specs.declared.reply.Reply.TheVariants.{Accepted as CallAccepted, SignalledIn, NotSignalled, NotDropped}
use Rattle.phase_history.specs.Replies.{reply_by, after_reply, signal_reply, refused_or}
use Rattle.phase_core.specs.Cores.{CoreState, StandsFor}
use Rattle.phase_script.specs.declared.refusal.Refusal.TheVariants as no
use Rattle.phase_script.specs.declared.command.Command.{Command}
use Rattle.phase_script.specs.declared.reply.Reply.{Reply}
use Rattle.phase_script.specs.ReplyLines.{WholeReply, whole_reply, Tells, Accepted}
use Rattle.phase_script.specs.Commands.{WholeCommand, whole_command}
use Rattle.phase_accum.specs.declared.outcome.Outcome.{Outcome}
use Rattle.std.specs.Prelude.{IfOk, OnOk, OnErr, IsSome, is_some, nat_lt}
use Rattle.phase_replay.specs.declared.script_phaser.ScriptPhaser.{ScriptPhaser}
use Rattle.phase_replay.specs.HeldSends.{Parcels, held_at, nothing}
use Rattle.phase_core.specs.Blocks.{one_each}
use Rattle.phase_replay.specs.Scripts.{Held, held_by, held_signal, after_call, held_by_others, send_rows, send_reply, held_after_send, held_after_signal, held_after_drop, done_unless, phaser_reply, history_after, held_after, IsOkReply, MayWantMemory, script_reply, signal_reason, script_block_rows, block_refusal, refused_or_reply, block_reply}
use Rattle.phase_replay.specs.Session.{ScriptPhaserStandsFor}

-- ---- the sends of a task among those of all

-- the sends of a task after one more of its own, or of another
held_by-push : (held : Held) (task other : ℕ) (v : ℤ)
    → held_by (held ++ (task, v) ∷ []) other ≡ held_by held other ++ cond (eqb task other) (v ∷ []) []
held_by-push [] task other v = elim (eqb task other) as (λ b. cond b (v ∷ []) [] ≡ cond b (v ∷ []) []) [
  | true ↦ refl
  | false ↦ refl
]
held_by-push (send ∷ sends) task other v =
    elim (eqb send.0 other) as (λ b. cond b (send.1 ∷ held_by (sends ++ (task, v) ∷ []) other) (held_by (sends ++ (task, v) ∷ []) other)
    ≡ cond b (send.1 ∷ held_by sends other) (held_by sends other) ++ cond (eqb task other) (v ∷ []) []) [
      | true ↦ ap (λ l. send.1 ∷ l) (held_by-push sends task other v)
      | false ↦ held_by-push sends task other v
    ]

either : (b : Bool) (xs : List ℤ) → xs ≡ cond b xs xs
either true xs = refl
either false xs = refl

-- a task holds none of the sends of the others, and another holds its own among them
held_by-others : (held : Held) (task other : ℕ)
    → held_by (held_by_others held task) other ≡ cond (eqb task other) [] (held_by held other)
held_by-others [] task other = either (eqb task other) []
held_by-others (send ∷ sends) task other =
    elim (eqb send.0 task) as (λ b. (eqb send.0 task ≡ b)
    → held_by (cond b (held_by_others sends task) (send ∷ held_by_others sends task)) other
    ≡ cond (eqb task other) [] (cond (eqb send.0 other) (send.1 ∷ held_by sends other) (held_by sends other))) [
      | true ↦ λ t.
          let same : send.0 ≡ task = eqb-true _ _ t in
          rw same (held_by-others sends task other ∙ own (eqb task other) (held_by sends other) (send.1 ∷ held_by sends other))
      | false ↦ λ t. elim (eqb send.0 other) as (λ b. (eqb send.0 other ≡ b)
          → cond b (send.1 ∷ held_by (held_by_others sends task) other) (held_by (held_by_others sends task) other)
          ≡ cond (eqb task other) [] (cond b (send.1 ∷ held_by sends other) (held_by sends other))) [
            | true ↦ λ is.
                let here : send.0 ≡ other = eqb-true _ _ is in
                let apart : eqb task other ≡ false = apart_of send.0 task other t here in
                ap (λ l. send.1 ∷ l) (held_by-others sends task other ∙ ap (λ b. cond b [] (held_by sends other)) apart)
                ∙ sym (ap (λ b. cond b [] (send.1 ∷ held_by sends other)) apart)
            | false ↦ λ is. held_by-others sends task other
          ] refl
    ] refl
  where
    own : (b : Bool) (xs ys : List ℤ) → cond b [] xs ≡ cond b [] (cond b ys xs)
    own true xs ys = refl
    own false xs ys = refl

    apart_of : (n task other : ℕ) → eqb n task ≡ false → n ≡ other → eqb task other ≡ false
    apart_of n task other differ same = elim (eqb task other) as (λ b. (eqb task other ≡ b) → b ≡ false) [
      | true ↦ λ e. let m : n ≡ task = same ∙ sym (eqb-true _ _ e) in let both : true ≡ false = sym (eq-eqb n task m) ∙ differ in absurd (cc)
      | false ↦ λ e. refl
    ] refl

-- ---- what is kept of each task's sends

-- one more send of a task is kept
sends_kept : {A : Type 0} (op : Operation A) (b : Bool) (kept own : Parcel A) (sends : List ℤ) (v : ℤ)
    → StandsForSends op kept sends → (b ≡ true → StandsForSends op own (sends ++ v ∷ []))
    → StandsForSends op (cond b own kept) (sends ++ cond b (v ∷ []) [])
sends_kept op true kept own sends v holds more = more refl
sends_kept op false kept own sends v holds more =
    rw (append-nil sends) holds

pub holds_sent : {A : Type 0} (op : Operation A) (old new : Parcels A) (own : Parcel A) (held : Held) (task : ℕ) (v : ℤ)
    → ((other : ℕ) → StandsForSends op (held_at op old other) (held_by held other))
    → ((other : ℕ) → held_at op new other ≡ cond (eqb task other) own (held_at op old other))
    → StandsForSends op own (held_by held task ++ v ∷ [])
    → (other : ℕ) → StandsForSends op (held_at op new other) (held_by (held ++ (task, v) ∷ []) other)
holds_sent {A} op old new own held task v holds puts more other =
    rw (held_by-push held task other v)
    (rw (puts other)
    (sends_kept op (eqb task other) (held_at op old other) own (held_by held other) v (holds other) (λ same.
    rw (eqb-true _ _ same) at more)))

-- a task's sends are given up, and nothing is kept of them
sends_cleared : {A : Type 0} (op : Operation A) (b : Bool) (kept none : Parcel A) (sends : List ℤ)
    → StandsForSends op kept sends → StandsForSends op none []
    → StandsForSends op (cond b none kept) (cond b [] sends)
sends_cleared op true kept none sends holds fresh = fresh
sends_cleared op false kept none sends holds fresh = holds

pub holds_cleared : {A : Type 0} (op : Operation A) (old new : Parcels A) (held : Held) (task : ℕ)
    → ((other : ℕ) → StandsForSends op (held_at op old other) (held_by held other))
    → ((other : ℕ) → held_at op new other ≡ cond (eqb task other) (nothing op) (held_at op old other))
    → StandsForSends op (nothing op) []
    → (other : ℕ) → StandsForSends op (held_at op new other) (held_by (held_by_others held task) other)
holds_cleared {A} op old new held task holds clears none other =
    rw (held_by-others held task other)
    (rw (clears other)
    (sends_cleared op (eqb task other) (held_at op old other) (nothing op) (held_by held other) (holds other) none))

-- nothing stands for no send
pub nothing_held : {A : Type 0} (op : Operation A) → StandsForSends op (nothing op) []
nothing_held op = record { part_is = record { is = refl; are_sends = tt; few = omega arith }; count_is = refl }

-- ---- the calls

-- an accepted send is held
pub phaser_sent : {A : Type 0} (op : Operation A) (old : ScriptPhaser A) (new : Parcels A) (own : Parcel A)
    (limits : Limits) (h : History) (held : Held) (task : ℕ) (e : Entry) (v : ℤ)
    → ScriptPhaserStandsFor op old limits h held → Some e ≡ entry_of old.core.members task → mode_signals e.mode ≡ true
    → StandsForSends op own (held_by held task ++ v ∷ [])
    → ((other : ℕ) → held_at op new other ≡ cond (eqb task other) own (held_at op old.held other))
    → ScriptPhaserStandsFor op (record { core = old.core; held = new; sends = old.sends }) limits h (held_after_send (send_reply h held task) held task v)
phaser_sent op old new own limits h held task e v stands found signals more puts =
    let found_h : entry_of (members_of h) task ≡ Some e = sym (found ∙ ap (λ ms. entry_of ms task) stands.core.members_are) in
    let one_more : length (held_by held task ++ v ∷ []) ≤ 65536 = more.part_is.few in
    let longer : length (held_by held task ++ v ∷ []) ≡ length (held_by held task) + 1 = length-append _ _ in
    let few : leb 65536 (length (held_by held task)) ≡ false = lt-leb 65536 (length (held_by held task)) (omega arith) in
    let accepted : send_reply h held task ≡ Accepted =
    ap (λ o. done_unless (refusal_at o no.NoTask (send_rows (length (held_by held task))))) found_h
    ∙ ap (λ b. done_unless (cond (not b) (Some no.NoSignal) (cond (leb 65536 (length (held_by held task))) (Some no.TooManySends) None))) signals
    ∙ ap (λ b. done_unless (cond b (Some no.TooManySends) None)) few in
    rw accepted (record {
      limits_are = stands.limits_are;
      core = stands.core;
      holds = holds_sent op old.held new own held task v stands.holds puts more;
    })

-- an accepted signal takes the task's sends along
pub phaser_signalled : {A : Type 0} (op : Operation A) (old : ScriptPhaser A) (core : CoreState A) (new : Parcels A)
    (limits : Limits) (h : History) (held : Held) (task phase : ℕ) (single : Option Single)
    → ScriptPhaserStandsFor op old limits h held → core.limits ≡ old.core.limits
    → signal_reply old.core.limits h task (held_by held task ∷ []) single ≡ Ok phase
    → StandsFor op core (Signalled task (held_by held task ∷ []) single ∷ h)
    → ((other : ℕ) → held_at op new other ≡ cond (eqb task other) (nothing op) (held_at op old.held other))
    → ScriptPhaserStandsFor op (record { core = core; held = new; sends = old.sends }) limits
    (after_call op.value limits h (held_signal held task single))
    (held_after_signal (signal_reply limits h task (held_by held task ∷ []) single) held task)
phaser_signalled op old core new limits h held task phase single stands same ok after clears =
    let accepted : signal_reply limits h task (held_by held task ∷ []) single ≡ Ok phase = rw stands.limits_are at ok in
    rw accepted (record {
      limits_are = same ∙ stands.limits_are;
      core = after;
      holds = holds_cleared op old.held new held task stands.holds clears (nothing_held op);
    })

-- an accepted drop gives the task's sends up
pub phaser_dropped : {A : Type 0} (op : Operation A) (old : ScriptPhaser A) (core : CoreState A) (new : Parcels A)
    (limits : Limits) (h : History) (held : Held) (task : ℕ)
    → ScriptPhaserStandsFor op old limits h held → core.limits ≡ old.core.limits
    → drop_refusal h task ≡ None → StandsFor op core (Dropped task ∷ h)
    → ((other : ℕ) → held_at op new other ≡ cond (eqb task other) (nothing op) (held_at op old.held other))
    → ScriptPhaserStandsFor op (record { core = core; held = new; sends = old.sends }) limits
    (after_call op.value limits h (Drop task)) (held_after_drop (drop_refusal h task) held task)
phaser_dropped op old core new limits h held task stands same accepted after clears =
    rw accepted (record {
      limits_are = same ∙ stands.limits_are;
      core = after;
      holds = holds_cleared op old.held new held task stands.holds clears (nothing_held op);
    })

-- ---- a call for a command that is this one

abbrev pub RepliesTo : {A : Type 0} → Operation A → ScriptPhaser A → WholeCommand → WholeReply → Type 0
RepliesTo op old command reply = (limits : Limits) (h : History) (held : Held)
    → ScriptPhaserStandsFor op old limits h held → reply ≡ phaser_reply op.value limits h held command

abbrev pub StandsAfter : {A : Type 0} → Operation A → ScriptPhaser A → ScriptPhaser A → WholeCommand → Type 0
StandsAfter op old new command = (limits : Limits) (h : History) (held : Held)
    → ScriptPhaserStandsFor op old limits h held
    → ScriptPhaserStandsFor op new limits (history_after op.value limits h held command) (held_after limits h held command)

abbrev pub IsOkAfter : {A : Type 0} → Operation A → ScriptPhaser A → WholeCommand → Type 0
IsOkAfter op old command = (limits : Limits) (h : History) (held : Held)
    → ScriptPhaserStandsFor op old limits h held → IsOkReply (phaser_reply op.value limits h held command)

-- what is told to a command that is this one, whatever outcomes stand beside
abbrev pub TellsOf : {A : Type 0} → Operation A → ScriptPhaser A → WholeCommand → Reply → Type 0
TellsOf op old command reply = (limits : Limits) (h : History) (held : Held)
    → ScriptPhaserStandsFor op old limits h held → Tells reply (phaser_reply op.value limits h held command)

pub replies : {A : Type 0} (op : Operation A) (old : ScriptPhaser A) (reply : WholeReply) (values : List ℤ) (command given : Command)
    → command ≡ given → RepliesTo op old (whole_command values given) reply → RepliesTo op old (whole_command values command) reply
replies op old reply values command given is same =
    rw is same

pub tells : {A : Type 0} (op : Operation A) (old : ScriptPhaser A) (reply : Reply) (outcomes : List Outcome) (values : List ℤ) (command given : Command)
    → command ≡ given → TellsOf op old (whole_command values given) reply
    → RepliesTo op old (whole_command values command) (whole_reply outcomes reply)
tells op old reply outcomes values command given is same =
    replies op old (whole_reply outcomes reply) values command given is (λ limits h held stands. same limits h held stands outcomes)

pub tells_if_ok : {A E : Type 0} (op : Operation A) (old : ScriptPhaser A) (r : Result Reply E) (outcomes : List Outcome) (values : List ℤ)
    (command given : Command) → command ≡ given → IfOk r (TellsOf op old (whole_command values given))
    → IfOk r (λ reply. RepliesTo op old (whole_command values command) (whole_reply outcomes reply))
tells_if_ok op old (Ok reply) outcomes values command given is same = tells op old reply outcomes values command given is same
tells_if_ok op old (Err e) outcomes values command given is same = tt

pub stands_on_ok : {A E : Type 0} (op : Operation A) (old new : ScriptPhaser A) (r : Result Reply E) (values : List ℤ) (command given : Command)
    → command ≡ given → OnOk r (StandsAfter op old new (whole_command values given)) → OnOk r (StandsAfter op old new (whole_command values command))
stands_on_ok op old new r values command given is stands =
    rw is stands

pub ok_on_err : {A E : Type 0} (op : Operation A) (old : ScriptPhaser A) (r : Result Reply E) (values : List ℤ) (command given : Command)
    → command ≡ given → OnErr r (IsOkAfter op old (whole_command values given)) → OnErr r (IsOkAfter op old (whole_command values command))
ok_on_err op old r values command given is ok =
    rw is ok

pub asks_as : {R E : Type 0} (r : Result R E) (values : List ℤ) (command given : Command)
    → command ≡ given → MayWantMemory (Some (whole_command values given)) → OnErr r (MayWantMemory (Some (whole_command values command)))
asks_as (Ok x) values command given is may = tt
asks_as (Err e) values command given is may =
    rw is may

pub stands_then : {A : Type 0} (op : Operation A) (old new : ScriptPhaser A) (values : List ℤ) (command given : Command)
    → command ≡ given → StandsAfter op old new (whole_command values given) → StandsAfter op old new (whole_command values command)
stands_then op old new values command given is stands =
    rw is stands

-- a member's drop is accepted
pub drop_is_accepted : {A : Type 0} (op : Operation A) (old : ScriptPhaser A) (limits : Limits) (h : History) (held : Held) (task : ℕ)
    → ScriptPhaserStandsFor op old limits h held → IsSome (entry_of old.core.members task) → drop_refusal h task ≡ None
drop_is_accepted op old limits h held task stands member =
    let there : IsSome (entry_of (members_of h) task) = ap (λ ms. is_some (entry_of ms task)) (sym stands.core.members_are) ∙ member in
    let absent : NoTask = record {} in
    elim (entry_of (members_of h) task) as (λ (o : Option Entry). (is_some o ≡ true) → refusal_at {R = NoTask} o absent (λ entry. []) ≡ None) [
      | None ↦ λ e. absurd (cc)
      | Some entry ↦ λ e. refl
    ] there

-- a block that a signaller with no sends makes is answered as its signal is
pub block_refused : {A : Type 0} (op : Operation A) (old : ScriptPhaser A) (limits : Limits) (h : History) (held : Held) (task : ℕ) (values : List ℤ)
    (e : Entry) (refusal : SignalRefusal)
    → ScriptPhaserStandsFor op old limits h held → Some e ≡ entry_of old.core.members task → mode_signals e.mode ≡ true
    → length (held_by held task) ≡ 0 → signal_reply old.core.limits h task (one_each values) None ≡ Err refusal
    → signal_reason refusal ≡ block_reply op.value limits h held task values
block_refused op old limits h held task values e refusal stands found signals none refused =
    let found_h : entry_of (members_of h) task ≡ Some e = sym (found ∙ ap (λ ms. entry_of ms task) stands.core.members_are) in
    let allowed : block_refusal h held task ≡ None =
    ap (λ o. refusal_at o no.NoTask (script_block_rows (held_by held task))) found_h
    ∙ ap (λ b. cond (not b) (Some no.NoSignal) (cond (nat_lt 0 (length (held_by held task))) (Some no.Held) None)) signals
    ∙ ap (λ n. cond (nat_lt 0 n) (Some no.Held) None) none in
    sym (
    ap (λ o. refused_or_reply o (script_reply (reply_by SignalledIn NotSignalled (signal_reply limits h task (one_each values) None)))) allowed
    ∙ ap (λ r. script_reply (reply_by SignalledIn NotSignalled r)) (rw stands.limits_are at refused)
    )
