-- The replies of a session are replies of scripts: their phases and values are within the limits.
use Rattle.std.proofs.Common.{◌≡◌, ℕ, ◌+◌, ◌-◌, ◌<◌, ◌≤◌, true, false, drop, List, [], ◌∷◌, Option, Some, None, Result, Ok, Err, ℤ, leb, refl, ap, subst, arith}
use Rattle.std.proofs.lemmas.Bool.{leb-false}
use Rattle.phase_base.specs.Limits.{Limits, AreLimits}
use Rattle.phase_base.specs.declared.entry.Entry.{Entry}
use Rattle.phase_base.specs.Members.{entry_of}
use Rattle.phase_accum.specs.declared.outcome.Outcome.{Outcome}
use Rattle.phase_accum.specs.declared.outcome.Outcome.TheVariants as outcome
use Rattle.phase_accum.specs.declared.single.Single.{Single}
use Rattle.phase_accum.specs.Values.{IsInRange, value_by}
use Rattle.phase_accum.specs.Operations.{Operation, AccumulateLaws}
use Rattle.phase_accum.specs.Sums.{sum_operation, sum_laws}
use Rattle.phase_accum.specs.Products.{product_operation, product_laws}
use Rattle.phase_accum.specs.Leasts.{least_operation, least_laws}
use Rattle.phase_accum.specs.Greatests.{greatest_operation, greatest_laws}
use Rattle.phase_accum.specs.Anys.{any_operation, any_laws}
use Rattle.phase_history.specs.declared.got.Got.{Got}
use Rattle.phase_history.specs.declared.got.Got.TheVariants as got
use Rattle.phase_history.specs.declared.refusal.NoTask.{NoTask}
use Rattle.phase_history.specs.declared.refusal.RegisterRefusal.{RegisterRefusal}
use Rattle.phase_history.specs.declared.refusal.RegisterRefusal.TheVariants as register
use Rattle.phase_history.specs.declared.refusal.SignalRefusal.{SignalRefusal}
use Rattle.phase_history.specs.declared.refusal.SignalRefusal.TheVariants as signal
use Rattle.phase_history.specs.declared.refusal.WaitRefusal.{WaitRefusal}
use Rattle.phase_history.specs.declared.refusal.WaitRefusal.TheVariants as wait
use Rattle.phase_history.specs.Histories.{History, members_of, signal_phase, done_of, top_of}
use Rattle.phase_history.specs.Legal.{IsLegal}
use Rattle.phase_history.specs.Refusals.{signal_refusal, signal_rows, register_refusal, register_now_refusal, drop_refusal}
use Rattle.phase_history.specs.declared.reply.Reply.TheVariants.{Accepted as CallAccepted, JoinedAt, SignalledIn, Received, ReceivedBlock, NotRegistered, NotSignalled, NotReceived, NotDropped}
use Rattle.phase_history.specs.Replies.{signal_reply, wait_reply, wait_block_reply, refused_or, reply_by as by_result}
use Rattle.phase_history.proofs.InRange.{wait_reply-in_range, stream_of-in_range}
use Rattle.phase_history.proofs.BlockAnswers.{block_tells}
use Rattle.phase_history.proofs.LawProofs.{answers_law}
use Rattle.phase_history.proofs.Refused.{Passes, passes_from}
use Rattle.phase_history.proofs.Steps.{done_below_top, sound_of, member_entry_is}
use Rattle.phase_history.proofs.Tops.{top_within}
use Rattle.phase_script.specs.Commands.{WholeCommand, Make, Add, Now, Send, Signal, Block, Wait, Take, Drop, IsCommand}
use Rattle.std.specs.List.{All}
use Rattle.std.proofs.lemmas.List.{length-take}
use Rattle.std.proofs.lemmas.List.Elements.{All-take, All-drop}
use Rattle.phase_history.specs.declared.got.GotBlock.{GotBlock}
use Rattle.phase_history.specs.declared.got.GotBlock.TheVariants as block
use Rattle.phase_history.specs.Phases.{stream_of}
use Rattle.phase_base.specs.declared.operation.Op.{Op}
use Rattle.phase_base.specs.declared.operation.Op.TheVariants.{Sum, Product, Least, Greatest, Any}
use Rattle.phase_script.specs.declared.refusal.Refusal.{Refusal}
use Rattle.phase_script.specs.ReplyLines.{WholeReply, IsReply}
use Rattle.phase_script.specs.Numbers.{most}
use Rattle.phase_replay.specs.declared.script_phaser.ScriptPhaser.{ScriptPhaser}
use Rattle.phase_replay.specs.declared.any_phaser.AnyPhaser.{AnyPhaser}
use Rattle.phase_replay.specs.declared.any_phaser.AnyPhaser.TheVariants as phaser
use Rattle.phase_core.specs.Blocks.{one_each}
use Rattle.phase_history.proofs.Standstill.{limits_of}
use Rattle.phase_replay.specs.Scripts.{ScriptState, NoPhaser, OnePhaser, Held, held_by, done_unless, script_reply, taken_reply, refused_or_reply, block_refusal, value_reply, phaser_reply, command_reply}
use Rattle.phase_replay.specs.Session.{ScriptPhaserStandsFor, AnyStandsFor, MaybeStandsFor}

-- ---- replies without a phase

done_is_reply : (o : Option Refusal) → IsReply (done_unless o)
done_is_reply None = tt
done_is_reply (Some refusal) = tt

registered_is_reply : (o : Option RegisterRefusal) (child : ℕ) → IsReply (script_reply (by_result (λ answer. CallAccepted) NotRegistered (refused_or o child)))
registered_is_reply None child = tt
registered_is_reply (Some register.NoTask) child = tt
registered_is_reply (Some register.NotAllowed) child = tt
registered_is_reply (Some register.NotNew) child = tt
registered_is_reply (Some register.TooManyTasks) child = tt
registered_is_reply (Some register.OutOfMemory) child = tt

joined_is_reply : (o : Option RegisterRefusal) (phase : ℕ) → phase ≤ most → IsReply (script_reply (by_result JoinedAt NotRegistered (refused_or o phase)))
joined_is_reply None phase low = low
joined_is_reply (Some register.NoTask) phase low = tt
joined_is_reply (Some register.NotAllowed) phase low = tt
joined_is_reply (Some register.NotNew) phase low = tt
joined_is_reply (Some register.TooManyTasks) phase low = tt
joined_is_reply (Some register.OutOfMemory) phase low = tt

dropped_is_reply : (o : Option NoTask) (task : ℕ) → IsReply (script_reply (by_result (λ answer. CallAccepted) NotDropped (refused_or o task)))
dropped_is_reply None task = tt
dropped_is_reply (Some refusal) task = tt

signalled_is_reply : (r : Result ℕ SignalRefusal) → ((phase : ℕ) → r ≡ Ok phase → phase ≤ most) → IsReply (script_reply (by_result SignalledIn NotSignalled r))
signalled_is_reply (Ok phase) low = low phase refl
signalled_is_reply (Err signal.NoTask) low = tt
signalled_is_reply (Err signal.NoSignal) low = tt
signalled_is_reply (Err signal.NotSingle) low = tt
signalled_is_reply (Err signal.BadBlock) low = tt
signalled_is_reply (Err signal.SignalTwice) low = tt
signalled_is_reply (Err signal.Spent) low = tt
signalled_is_reply (Err signal.Ahead) low = tt
signalled_is_reply (Err signal.SingleDiffers) low = tt
signalled_is_reply (Err signal.PhaseFull) low = tt

value_is_reply : (phase : ℕ) (o : Outcome) → phase ≤ most → IsInRange o → IsReply (value_reply phase o)
value_is_reply phase (outcome.Value v) low range = (low, range)
value_is_reply phase outcome.Empty low range = low
value_is_reply phase outcome.TooBig low range = low

received_is_reply : (r : Result Got WaitRefusal)
    → ((phase : ℕ) (o : Outcome) → r ≡ Ok (got.Value phase o) → (phase ≤ most) × IsInRange o) → IsReply (script_reply (by_result Received NotReceived r))
received_is_reply (Ok (got.Value phase o)) within = let w = within phase o refl in value_is_reply phase o w.0 w.1
received_is_reply (Ok got.Ended) within = tt
received_is_reply (Err wait.NoTask) within = tt
received_is_reply (Err wait.NoWait) within = tt
received_is_reply (Err wait.BadBlock) within = tt
received_is_reply (Err wait.SignalFirst) within = tt
received_is_reply (Err wait.NotYet) within = tt

refused_is_reply : (o : Option Refusal) (reply : WholeReply) → IsReply reply → IsReply (refused_or_reply o reply)
refused_is_reply None reply is = is
refused_is_reply (Some refusal) reply is = tt

-- what a wait for a block got can be told
record CanBeTold (stream : List Outcome) (phase count : ℕ) : Type 0 where
  low : phase ≤ most
  few : count ≤ 16
  range : All IsInRange stream

taken_is_reply : (stream : List Outcome) (r : Result GotBlock WaitRefusal)
    → ((phase count : ℕ) → r ≡ Ok (block.Values phase count) → CanBeTold stream phase count)
    → IsReply (taken_reply stream (by_result ReceivedBlock NotReceived r))
taken_is_reply stream (Ok (block.Values phase count)) within =
    let w = within phase count refl in
    let cut = length-take (phase + count - phase) (drop phase stream) in
    (w.low, omega (arith, w.few), All-take IsInRange (phase + count - phase) (drop phase stream) (All-drop IsInRange phase stream w.range))
taken_is_reply stream (Ok block.Ended) within = tt
taken_is_reply stream (Err wait.NoTask) within = tt
taken_is_reply stream (Err wait.NoWait) within = tt
taken_is_reply stream (Err wait.BadBlock) within = tt
taken_is_reply stream (Err wait.SignalFirst) within = tt
taken_is_reply stream (Err wait.NotYet) within = tt

-- ---- phases of answers

-- an answer that is no refusal was not refused
accepted_from : (o : Option SignalRefusal) (answer phase : ℕ) → refused_or o answer ≡ Ok phase → (o ≡ None) × (answer ≡ phase)
accepted_from None answer phase e = (refl, ap (λ (r : Result ℕ SignalRefusal). phase_in r answer) e)
  where
    phase_in : Result ℕ SignalRefusal → ℕ → ℕ
    phase_in (Ok n) default = n
    phase_in (Err refusal) default = default
accepted_from (Some refusal) answer phase e = absurd (cc)

signalled_low : (limits : Limits) (h : History) (task : ℕ) (lists : List (List ℤ)) (single : Option Single) (phase : ℕ)
    → AreLimits limits → signal_reply limits h task lists single ≡ Ok phase → phase ≤ most
signalled_low limits h task [] single phase are ok =
    let a = accepted_from (signal_refusal limits h task [] single) (signal_phase h task) phase ok in
    let p : Passes (entry_of (members_of h) task) (signal_rows limits h [] single) = passes_from _ signal.NoTask (signal_rows limits h [] single) a.0 in
    absurd (let bad : true ≡ false = p.passes.1.1.0 in cc)
signalled_low limits h task (sends ∷ lists) single phase are ok =
    let a = accepted_from (signal_refusal limits h task (sends ∷ lists) single) (signal_phase h task) phase ok in
    let p : Passes (entry_of (members_of h) task) (signal_rows limits h (sends ∷ lists) single) = passes_from _ signal.NoTask (signal_rows limits h (sends ∷ lists) single) a.0 in
    let spent : leb limits.phases_max p.entry.signal_phase ≡ false = p.passes.1.1.1.1.0 in
    let same : signal_phase h task ≡ p.entry.signal_phase = ap (λ (e : Entry). e.signal_phase) (member_entry_is (members_of h) task p.entry p.is_member) in
    let below : p.entry.signal_phase < limits.phases_max = leb-false _ _ spent in
    let is : signal_phase h task ≡ phase = a.1 in
    omega (arith, are.phases_most)

-- the first phase that is not complete is one that was made, or the next
done_low : (limits : Limits) (h : History) → IsLegal limits h → done_of h ≤ most
done_low limits h legal =
    let below : done_of h ≤ top_of h = done_below_top h (sound_of limits h legal) in
    let top : top_of h ≤ limits.phases_max = top_within limits h legal in
    let are : AreLimits limits = limits_of limits h legal in
    omega (arith, are.phases_most)

received_low : (value : List ℤ → Outcome) (limits : Limits) (h : History) (task phase : ℕ) (o : Outcome)
    → IsLegal limits h → wait_reply value limits h task ≡ Ok (got.Value phase o) → phase ≤ most
received_low value limits h task phase o legal reply =
    let a = answers_law value limits h task phase o reply in
    let below : done_of h ≤ top_of h = done_below_top h (sound_of limits h legal) in
    let top : top_of h ≤ limits.phases_max = top_within limits h legal in
    let are : AreLimits limits = limits_of limits h legal in
    let complete : phase < done_of h = a.complete in
    omega (arith, are.phases_most)

-- what a wait for at most 16 phases got
taken_low : {A : Type 0} (op : Operation A) (laws : AccumulateLaws op) (limits : Limits) (h : History) (task n phase count : ℕ)
    → IsLegal limits h → n ≤ 16 → wait_block_reply limits h task n ≡ Ok (block.Values phase count)
    → CanBeTold (stream_of op.value h) phase count
taken_low op laws limits h task n phase count legal few reply =
    let t = block_tells limits h task n phase count reply in
    let done : done_of h ≤ most = done_low limits h legal in
    record {
      low = omega (arith, t.phase_is, t.below);
      few = omega (arith, t.count_is);
      range = stream_of-in_range op laws limits h legal;
    }

-- ---- the replies of a session

phaser_is_reply : {A : Type 0} (op : Operation A) (laws : AccumulateLaws op) (limits : Limits) (h : History) (held : Held)
    → IsLegal limits h → (command : WholeCommand) → IsCommand command → IsReply (phaser_reply op.value limits h held command)
phaser_is_reply op laws limits h held legal (Make operation bound phases) fits = tt
phaser_is_reply op laws limits h held legal (Add parent child mode) fits = registered_is_reply (register_refusal h parent child mode) child
phaser_is_reply op laws limits h held legal (Now parent child) fits =
    joined_is_reply (register_now_refusal h parent child) (done_of h) (done_low limits h legal)
phaser_is_reply op laws limits h held legal (Send task number) fits = done_is_reply _
phaser_is_reply op laws limits h held legal (Signal task single) fits =
    signalled_is_reply _ (λ phase ok. signalled_low limits h task (held_by held task ∷ []) single phase (limits_of limits h legal) ok)
phaser_is_reply op laws limits h held legal (Block task values) fits =
    refused_is_reply (block_refusal h held task) _
    (signalled_is_reply _ (λ phase ok. signalled_low limits h task (one_each values) None phase (limits_of limits h legal) ok))
phaser_is_reply op laws limits h held legal (Take task phases) fits =
    taken_is_reply (stream_of op.value h) (wait_block_reply limits h task phases)
    (λ phase count ok. taken_low op laws limits h task phases phase count legal fits.2 ok)
phaser_is_reply op laws limits h held legal (Wait task) fits =
    received_is_reply _ (λ phase o ok. (received_low op.value limits h task phase o legal ok, wait_reply-in_range op laws limits h task phase o legal ok))
phaser_is_reply op laws limits h held legal (Drop task) fits = dropped_is_reply (drop_refusal h task) task

legal_at : {A : Type 0} (op : Operation A) (p : ScriptPhaser A) (limits : Limits) (h : History) (held : Held)
    → ScriptPhaserStandsFor op p limits h held → IsLegal limits h
legal_at op p limits h held stands =
    rw stands.limits_are at stands.core.legal

any_is_reply : (p : AnyPhaser) (operation : Op) (limits : Limits) (h : History) (held : Held) (command : WholeCommand)
    → AnyStandsFor p operation limits h held → IsCommand command → IsReply (phaser_reply (value_by operation) limits h held command)
unfolding AnyStandsFor
any_is_reply (phaser.Sum p) Sum limits h held command stands fits =
    phaser_is_reply sum_operation sum_laws limits h held (legal_at sum_operation p limits h held stands) command fits
any_is_reply (phaser.Sum p) Product limits h held command stands fits = absurd stands
any_is_reply (phaser.Sum p) Least limits h held command stands fits = absurd stands
any_is_reply (phaser.Sum p) Greatest limits h held command stands fits = absurd stands
any_is_reply (phaser.Sum p) Any limits h held command stands fits = absurd stands
any_is_reply (phaser.Product p) Sum limits h held command stands fits = absurd stands
any_is_reply (phaser.Product p) Product limits h held command stands fits =
    phaser_is_reply product_operation product_laws limits h held (legal_at product_operation p limits h held stands) command fits
any_is_reply (phaser.Product p) Least limits h held command stands fits = absurd stands
any_is_reply (phaser.Product p) Greatest limits h held command stands fits = absurd stands
any_is_reply (phaser.Product p) Any limits h held command stands fits = absurd stands
any_is_reply (phaser.Least p) Sum limits h held command stands fits = absurd stands
any_is_reply (phaser.Least p) Product limits h held command stands fits = absurd stands
any_is_reply (phaser.Least p) Least limits h held command stands fits =
    phaser_is_reply least_operation least_laws limits h held (legal_at least_operation p limits h held stands) command fits
any_is_reply (phaser.Least p) Greatest limits h held command stands fits = absurd stands
any_is_reply (phaser.Least p) Any limits h held command stands fits = absurd stands
any_is_reply (phaser.Greatest p) Sum limits h held command stands fits = absurd stands
any_is_reply (phaser.Greatest p) Product limits h held command stands fits = absurd stands
any_is_reply (phaser.Greatest p) Least limits h held command stands fits = absurd stands
any_is_reply (phaser.Greatest p) Greatest limits h held command stands fits =
    phaser_is_reply greatest_operation greatest_laws limits h held (legal_at greatest_operation p limits h held stands) command fits
any_is_reply (phaser.Greatest p) Any limits h held command stands fits = absurd stands
any_is_reply (phaser.Any p) Sum limits h held command stands fits = absurd stands
any_is_reply (phaser.Any p) Product limits h held command stands fits = absurd stands
any_is_reply (phaser.Any p) Least limits h held command stands fits = absurd stands
any_is_reply (phaser.Any p) Greatest limits h held command stands fits = absurd stands
any_is_reply (phaser.Any p) Any limits h held command stands fits =
    phaser_is_reply any_operation any_laws limits h held (legal_at any_operation p limits h held stands) command fits

pub state_is_reply : (p : Option AnyPhaser) (state : ScriptState) (command : WholeCommand) → MaybeStandsFor p state
    → IsCommand command → IsReply (command_reply state command)
unfolding MaybeStandsFor command_reply
state_is_reply None NoPhaser (Make operation bound phases) stands fits = done_is_reply _
state_is_reply None NoPhaser (Add parent child mode) stands fits = tt
state_is_reply None NoPhaser (Now parent child) stands fits = tt
state_is_reply None NoPhaser (Send task number) stands fits = tt
state_is_reply None NoPhaser (Signal task single) stands fits = tt
state_is_reply None NoPhaser (Block task values) stands fits = tt
state_is_reply None NoPhaser (Take task phases) stands fits = tt
state_is_reply None NoPhaser (Wait task) stands fits = tt
state_is_reply None NoPhaser (Drop task) stands fits = tt
state_is_reply None (OnePhaser operation limits h held) command stands fits = absurd stands
state_is_reply (Some p) NoPhaser command stands fits = absurd stands
state_is_reply (Some p) (OnePhaser operation limits h held) command stands fits = any_is_reply p operation limits h held command stands fits
