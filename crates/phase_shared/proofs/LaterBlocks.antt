-- A call on a block after others' events is a call from the start.
use Rattle.std.proofs.Common.{◌≡◌, ℕ, ℤ, List, [], ◌∷◌, Option, subst, sym}
use Rattle.std.specs.Prelude.{Result}
use Rattle.phase_shared.specs.Phasers.{Limits, Operation, Parcel, Outcome, Single, GotBlock, SignalRefusal, WaitRefusal, History, OthersCame}
use Rattle.phase_history.proofs.OthersEvents.{OthersCame-trans}
use Rattle.phase_shared.specs.declared.rule.Terms.{Terms}
use Rattle.phase_shared.specs.Rule.{Allows}
use Rattle.phase_shared.specs.Regs.{RegState}
use Rattle.phase_shared.specs.Blocks.{SignalsBlock, WaitsBlock, MaySignalBlock}

module _ {A K : Type 0} (op : Operation A) (terms : Terms K) (parcels : List (Parcel A)) (single : Option Single) (old now : RegState A K)
    (number : now.number ≡ old.number) (came : OthersCame (old.number ∷ []) old.seen now.seen) where
  -- what the rule allows, it allows after others' events too
  pub may_block_later : (allows : K → Allows) → MaySignalBlock op allows terms old parcels single → MaySignalBlock op allows terms now parcels single
  may_block_later allows may h lists good others stand =
      let more : OthersCame (old.number ∷ []) now.seen h = subst (λ n. OthersCame (n ∷ []) now.seen h) number others in
      subst (λ n. allows terms.rule h n lists single) (sym number)
      (may h lists good (OthersCame-trans (old.number ∷ []) old.seen now.seen h came more) stand)

  -- a signal after others' events is a signal from the start
  pub signals_block_later : (new : History) (answer : Result ℕ SignalRefusal) → SignalsBlock op terms.limits now.number parcels single now.seen new answer
      → SignalsBlock op terms.limits old.number parcels single old.seen new answer
  signals_block_later new answer signals =
      let s : SignalsBlock op terms.limits old.number parcels single now.seen new answer =
      subst (λ n. SignalsBlock op terms.limits n parcels single now.seen new answer) number signals in
      record {
        before = s.before;
        sends = s.sends;
        others = OthersCame-trans (old.number ∷ []) old.seen now.seen s.before came s.others;
        stand = s.stand;
        seen = s.seen;
        reply = s.reply;
      }

-- a wait after others' events is a wait from the start
pub waits_block_later : (value : List ℤ → Outcome) (limits : Limits) (me number : ℕ) (old now new : History) (old_out new_out : List Outcome)
    (answer : Result GotBlock WaitRefusal) → number ≡ me → OthersCame (me ∷ []) old now
    → WaitsBlock value limits number now new old_out new_out answer → WaitsBlock value limits me old new old_out new_out answer
waits_block_later value limits me number old now new old_out new_out answer same came w =
    let v : WaitsBlock value limits me now new old_out new_out answer =
    subst (λ (n : ℕ). WaitsBlock value limits n now new old_out new_out answer) same w in
    record { before = v.before; others = OthersCame-trans (me ∷ []) old now v.before came v.others; seen = v.seen; reply = v.reply; out = v.out }
