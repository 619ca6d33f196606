-- What a call on a block of phases adds to its task's own part of the history.
use Rattle.std.proofs.Common.{◌≡◌, ℕ, ◌+◌, ◌-◌, ◌≤◌, ℤ, cond, List, [], ◌∷◌, ◌++◌, take, drop, length, Option, Some, Ok, Err, refl, sym, ap, subst, ◌∙◌, arith}
use Rattle.std.specs.Prelude.{Result, slice_range, unwrap_or}
use Rattle.std.proofs.lemmas.Bool.{eq-eqb}
use Rattle.std.proofs.lemmas.List.{length-take-le, length-drop, length-append}
use Rattle.std.proofs.lemmas.List.FromFn.{length-map-range_with_len}
use Rattle.std.proofs.Math.Seq.{take-append_seam}
use Rattle.phase_shared.specs.Phasers.{Limits, entry_of, Entry, Operation, Parcel, Outcome, Single, SignalRefusal, WaitRefusal, History, HasNoSignaller, members_of, founder, done_of, start_of, entry_at, signal_phase, wait_phase, IsLegal, HasNoEvents, received_by, stream_of, sent_by, signal_reply, after_signal, StandForLists}
use Rattle.phase_base.specs.declared.mode.Mode.TheVariants.{Wait}
use Rattle.phase_accum.specs.declared.outcome.Outcome.TheVariants.{Empty}
use Rattle.phase_history.specs.declared.event.Event.TheVariants.{RegisteredNow}
use Rattle.phase_history.specs.declared.got.GotBlock.TheVariants.{Values, Ended}
use Rattle.phase_history.proofs.Answered.{block_ended_tells}
use Rattle.phase_history.proofs.BlockAnswers.{block_answers_law}
use Rattle.phase_history.proofs.Gathered.{no_lists}
use Rattle.phase_history.proofs.LawProofs.{above_law}
use Rattle.phase_history.proofs.Sendings.{length-sent_by}
use Rattle.phase_shared.specs.Calls.{Signals}
use Rattle.phase_shared.specs.Blocks.{SignalsBlock, WaitsBlock}
use Rattle.phase_shared.specs.Joins.{HasRegisteredNow}
use Rattle.phase_shared.specs.Parts.{PartStays, HasNoPart}
use Rattle.phase_shared.specs.BlockParts.{SendsLists, GetsValues}
use Rattle.phase_shared.proofs.Giving.{member_after}
use Rattle.phase_shared.proofs.PartSteps.{own}

-- ---- a signal

module _ {A : Type 0} (op : Operation A) (limits : Limits) (me : ℕ) (parcels : List (Parcel A)) (single : Option Single) (old new : History) where
  pub block_received : (value : List ℤ → Outcome) (answer : Result ℕ SignalRefusal) → SignalsBlock op limits me parcels single old new answer
      → received_by value new me ≡ received_by value old me
  block_received value (Ok phase) s = ap (λ h. received_by value h me) s.seen ∙ (own me old s.before s.others).received value
  block_received value (Err refusal) s = ap (λ h. received_by value h me) s.seen ∙ (own me old s.before s.others).received value

  pub block_sends : (phase : ℕ) → SignalsBlock op limits me parcels single old new (Ok phase) → SendsLists op me parcels old new
  block_sends phase s = record {
    sends = s.sends;
    stand = s.stand;
    sent = ap (λ h. sent_by h me) s.seen
        ∙ ap (λ b. cond b (sent_by s.before me ++ s.sends) (sent_by s.before me)) (eq-eqb me me refl)
        ∙ ap (λ lists. lists ++ s.sends) (own me old s.before s.others).sent;
  }

  pub refused_block : (refusal : SignalRefusal) → SignalsBlock op limits me parcels single old new (Err refusal) → PartStays me old new
  refused_block refusal s = record {
    received = λ value. block_received value (Err refusal) s;
    sent = ap (λ h. sent_by h me) s.seen ∙ (own me old s.before s.others).sent;
  }

-- ---- a plain signal is that of a block of one

module _ {A : Type 0} (op : Operation A) (limits : Limits) (me : ℕ) (held : Parcel A) (single : Option Single) (old new : History) (answer : Result ℕ SignalRefusal) where
  abbrev Plain : Type 0
  Plain = Signals op limits me held single old new answer

  abbrev Block : Type 0
  Block = SignalsBlock op limits me (held ∷ []) single old new answer

  of_one : (s : Block) (lists : List (List ℤ)) → lists ≡ s.sends → StandForLists op (held ∷ []) lists → Plain
  of_one s [] is stand = absurd stand
  of_one s (sends ∷ []) is stand = record {
    before = s.before;
    sends = sends;
    others = s.others;
    stands = stand.0;
    seen = s.seen ∙ ap (λ (l : List (List ℤ)). after_signal answer me l single s.before) (sym is);
    reply = λ xs held'. s.reply (xs ∷ []) (held', tt);
  }
  of_one s (sends ∷ more ∷ lists) is stand = absurd stand.1

  pub plain_of_block : Block → Plain
  plain_of_block s = of_one s s.sends refl s.stand

  replies : (s : Plain) (lists : List (List ℤ)) → StandForLists op (held ∷ []) lists → signal_reply limits s.before me lists single ≡ answer
  replies s [] stand = absurd stand
  replies s (sends ∷ []) stand = s.reply sends stand.0
  replies s (sends ∷ more ∷ lists) stand = absurd stand.1

  pub block_of_plain : Plain → Block
  block_of_plain s = record {
    before = s.before;
    sends = s.sends ∷ [];
    others = s.others;
    stand = (s.stands, tt);
    seen = s.seen;
    reply = replies s;
  }

-- ---- a wait

module _ (value : List ℤ → Outcome) (limits : Limits) (me : ℕ) (old new : History) (old_out new_out : List Outcome) where
  pub block_gets : (phase count : ℕ) → WaitsBlock value limits me old new old_out new_out (Ok (Values phase count)) → GetsValues value me count new_out old new
  block_gets phase count w =
      let t = block_answers_law value limits w.before me (length old_out) phase count w.reply in
      let xs = stream_of value w.before in
      let all : length xs ≡ done_of w.before = length-map-range_with_len _ 0 (done_of w.before) in
      let complete : phase + count ≤ done_of w.before = t.complete in
      let many : (phase + count) - phase ≡ count = omega arith in
      let long : length (slice_range xs phase (phase + count)) ≡ count =
      length-take-le ((phase + count) - phase) (drop phase xs) (let d : length (drop phase xs) ≡ length xs - phase = length-drop phase xs in omega arith) ∙ many in
      let first : take count new_out ≡ slice_range xs phase (phase + count) =
      ap (take count) w.out ∙ ap (λ k. take k (slice_range xs phase (phase + count) ++ drop count old_out)) (sym long)
      ∙ take-append_seam (slice_range xs phase (phase + count)) (drop count old_out) in
      record {
        some = t.some;
        within = (let l : length new_out ≡ length (slice_range xs phase (phase + count)) + length (drop count old_out) =
            ap length w.out ∙ length-append (slice_range xs phase (phase + count)) (drop count old_out) in omega arith);
        received = ap (λ h. received_by value h me) w.seen ∙ t.received
            ∙ ap (λ l. l ++ slice_range xs phase (phase + count)) ((own me old w.before w.others).received value)
            ∙ ap (λ l. received_by value old me ++ l) (sym first);
        sent = ap (λ h. sent_by h me) w.seen ∙ (own me old w.before w.others).sent;
      }

  pub block_ended : WaitsBlock value limits me old new old_out new_out (Ok Ended) → PartStays me old new
  block_ended w = record {
    received = λ other. ap (λ h. received_by other h me) w.seen ∙ (own me old w.before w.others).received other;
    sent = ap (λ h. sent_by h me) w.seen ∙ (own me old w.before w.others).sent;
  }

  pub block_end_seen : WaitsBlock value limits me old new old_out new_out (Ok Ended) → HasNoSignaller new × (done_of new ≤ wait_phase new me)
  block_end_seen w =
      subst (λ (h : History). HasNoSignaller h × (done_of h ≤ wait_phase h me)) (sym w.seen) (block_ended_tells limits w.before me (length old_out) w.reply)

  pub refused_wait_block : (refusal : WaitRefusal) → WaitsBlock value limits me old new old_out new_out (Err refusal) → PartStays me old new
  refused_wait_block refusal w = record {
    received = λ other. ap (λ h. received_by other h me) w.seen ∙ (own me old w.before w.others).received other;
    sent = ap (λ h. sent_by h me) w.seen ∙ (own me old w.before w.others).sent;
  }

-- ---- a registration of a waiter that joins now

pub parent_stays_now : (me child : ℕ) (parent start : Entry) (old new : History) → HasRegisteredNow me child parent start old new → PartStays me old new
parent_stays_now me child parent start old new r = record {
  received = λ value. ap (λ h. received_by value h me) r.seen ∙ (own me old r.before r.others).received value;
  sent = ap (λ h. sent_by h me) r.seen ∙ (own me old r.before r.others).sent;
}

pub child_has_none_now : (limits : Limits) (me child : ℕ) (parent start : Entry) (old new : History) → IsLegal limits new
    → HasRegisteredNow me child parent start old new → HasNoPart child new
child_has_none_now limits me child parent start old new legal r =
    let all : IsLegal limits (RegisteredNow me child ∷ r.before) = subst (IsLegal limits) r.seen legal in
    let nothing : (value : List ℤ → Outcome) → HasNoEvents value r.before child =
    λ value. above_law value limits r.before child all.0 (rw r.next (omega arith)) in
    record {
      received = λ value. ap (λ h. received_by value h child) r.seen ∙ (nothing value).received;
      sent = ap (λ h. sent_by h child) r.seen
          ∙ no_lists (sent_by r.before child) (length-sent_by r.before child ∙ (nothing (λ sends. Empty)).signals);
    }

pub child_starts_now : (limits : Limits) (me child : ℕ) (parent start : Entry) (old new : History) → IsLegal limits new
    → HasRegisteredNow me child parent start old new → entry_of (members_of old) me ≡ Some parent → start_of new child ≡ Some start
child_starts_now limits me child parent start old new legal r member =
    let all : IsLegal limits (RegisteredNow me child ∷ r.before) = subst (IsLegal limits) r.seen legal in
    let there : entry_of (members_of r.before) me ≡ Some parent = member_after limits me parent old r.before r.others all.0 member in
    ap (λ h. start_of h child) r.seen
    ∙ ap (λ b. cond b (Some (entry_at Wait (signal_phase r.before me) (done_of r.before))) (start_of r.before child)) (eq-eqb child child refl)
    ∙ ap (λ (o : Option Entry). Some (entry_at Wait (unwrap_or o founder).signal_phase (done_of r.before))) there
    ∙ ap Some (sym r.entry)
