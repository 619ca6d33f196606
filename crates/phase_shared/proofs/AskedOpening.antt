-- A registration that asks is taken apart and put together.
use Rattle.std.proofs.Common.{◌≡◌, ℕ, true, [], Some, None, refl, sym, ap, subst, ◌∙◌}
use Rattle.std.specs.Prelude.{Ok, Err}
use Rattle.std.proofs.lemmas.Option.{same_Some}
use Rattle.turn_lock.specs.Seats.{seat_place, seat_view}
use Rattle.turn_lock.specs.declared.seat.Seat.{Seat}
use Rattle.phase_shared.specs.Phasers.{Entry, History, Operation, Outcome, Parcel, SignalRefusal, StandsForSends, entry_of, members_of, mode_signals, mode_waits}
use Rattle.phase_history.specs.declared.got.Got.TheVariants.{Value}
use Rattle.phase_shared.specs.Asked.{IsAsked, HasGone, HasTakenBack, entry_gone, entry_signalled}
use Rattle.phase_shared.specs.LockedPhasers.{locked_place, locked_terms}
use Rattle.phase_shared.specs.Regs.{RegState, reg_state, IsReg}
use Rattle.phase_shared.specs.Rule.{Allows, IsGoodAt}
use Rattle.phase_shared.specs.Servings.{ask_of, AsksAt, HasAnswer, HasSignalled, IsAsking, IsRefused, IsRequestOf, MayWait}
use Rattle.phase_shared.specs.Views.{known_of}
use Rattle.phase_shared.specs.declared.rule.Terms.{Terms}
use Rattle.phase_shared.specs.declared.seats.locked.LockedPhaser.{LockedPhaser}
use Rattle.phase_shared.specs.declared.seats.request.Request.{Request}
use Rattle.phase_shared.specs.declared.seats.view.View.{View}
use Rattle.phase_shared.proofs.AskNexts.{answered_seat, answered_call, answered_back, refused_seat, refused_call, refused_back, back_seat, back_call}
use Rattle.phase_shared.proofs.Opening.{Opened, closed}

module _ {T A K : Type 0} (op : Operation A) (allows : K → Allows) (phaser : LockedPhaser A K)
    (entry : Entry) (held : Parcel A) (r : Request) where
  -- the registration as it asked
  abbrev pub old_of : Seat T (Terms K) View → RegState A K
  old_of s = reg_state (Some s) r.task entry held

  -- the seat of one that asks, on this phaser
  pub record OpenedAsk (s : Seat T (Terms K) View) : Type 0 where
    pub here : seat_place s ≡ locked_place phaser
    pub asks : AsksAt (locked_terms phaser).limits (allows (locked_terms phaser).rule) (ask_of r) (known_of (seat_view s)).seen (seat_view s)
    pub request : IsRequestOf op r (old_of s)
    pub signals : mode_signals entry.mode ≡ true
    pub waits : mode_waits entry.mode ≡ true
    pub member : entry_of (members_of (known_of (seat_view s)).seen) r.task ≡ Some entry
    pub good : IsGoodAt allows (locked_terms phaser) (known_of (seat_view s)).seen

  pub opened_ask : (s : Seat T (Terms K) View) → IsAsked op allows s entry held r → seat_place s ≡ locked_place phaser → OpenedAsk s
  opened_ask s k here =
      let same : k.terms ≡ locked_terms phaser = same_Some k.terms (locked_terms phaser) (sym k.named ∙ ap (λ p. p.1) here) in
      record {
        here = here;
        asks = subst (λ (t : Terms K). AsksAt t.limits (allows t.rule) (ask_of r) (known_of (seat_view s)).seen (seat_view s)) same k.asks;
        request = k.request;
        signals = k.signals;
        waits = k.waits;
        member = k.member;
        good = subst (λ (t : Terms K). IsGoodAt allows t (known_of (seat_view s)).seen) same k.good;
      }

  -- it asks still, from where it asked
  pub closed_ask : (s s' : Seat T (Terms K) View) → OpenedAsk s → seat_place s' ≡ locked_place phaser
      → IsAsking (ask_of r) (known_of (seat_view s)).seen (seat_view s') → IsAsked op allows s' entry held r
  closed_ask s s' o here asks =
      let same : (known_of (seat_view s')).seen ≡ (known_of (seat_view s)).seen = ap (λ (v : View). (known_of v).seen) asks in
      record {
        terms = locked_terms phaser;
        named = ap (λ p. p.1) here;
        asks = record {
          asks = subst (λ (h : History). IsAsking (ask_of r) h (seat_view s')) (sym same) asks;
          waits = subst (λ (h : History). MayWait (locked_terms phaser).limits (allows (locked_terms phaser).rule) (ask_of r) h) (sym same) o.asks.waits;
        };
        request = record {
          task = refl;
          signal_at = o.request.signal_at;
          wait_at = o.request.wait_at;
          holds = o.request.holds;
        };
        signals = o.signals;
        waits = o.waits;
        member = subst (λ (h : History). entry_of (members_of h) r.task ≡ Some entry) (sym same) o.member;
        good = subst (λ (h : History). IsGoodAt allows (locked_terms phaser) h) (sym same) o.good;
      }

  pub same_ask : (s s' : Seat T (Terms K) View) → OpenedAsk s → seat_place s' ≡ locked_place phaser
      → IsAsking (ask_of r) (known_of (seat_view s)).seen (seat_view s') → old_of s' ≡ old_of s
  same_ask s s' o here asks = λ i. record {
    at = (here ∙ sym o.here) i;
    number = r.task;
    entry = entry;
    held = held;
    seen = (known_of (asks i)).seen;
  }

  module _ (s s' : Seat T (Terms K) View) (o : OpenedAsk s) (here : seat_place s' ≡ locked_place phaser) where
    place_is : seat_place s' ≡ seat_place s
    place_is = here ∙ sym o.here

    -- its next phase was made
    module _ (outcome : Outcome) (a : HasAnswer op (locked_terms phaser).limits (allows (locked_terms phaser).rule) (ask_of r) (known_of (seat_view s)).seen outcome (seat_view s')) where
      pub gone_reg : IsReg allows (Some s') r.task (entry_gone entry r)
      gone_reg = closed allows phaser r.task (entry_gone entry r) s' (record {
        here = here;
        knows = answered_seat op allows (locked_terms phaser) (old_of s) r o.request o.signals o.waits o.member outcome (seat_view s') a;
      })

      module _ (kept : Parcel A) (none : StandsForSends op kept []) (count : kept.count ≡ 0) where
        abbrev new : RegState A K
        new = reg_state (Some s') r.task (entry_gone entry r) kept

        pub gone_call : HasGone op allows (locked_terms phaser) (old_of s) new (Ok (record { signalled = Some r.phase; got = Some (Value r.phase outcome) }))
        gone_call = record {
          call = answered_call op allows (locked_terms phaser) (old_of s) r o.request o.signals o.waits o.member outcome (seat_view s') a new place_is refl refl refl;
          held = (none, count);
        }

        pub gone_back : HasTakenBack op allows (locked_terms phaser) (old_of s) new (Ok (r.phase, Some (Value r.phase outcome)))
        gone_back = record {
          call = answered_back op allows (locked_terms phaser) (old_of s) r o.request o.signals o.waits o.member outcome (seat_view s') a new place_is refl refl refl;
          held = (none, count);
        }

    -- its signal is refused
    module _ (refusal : SignalRefusal) (f : IsRefused op (locked_terms phaser).limits (allows (locked_terms phaser).rule) (ask_of r) (known_of (seat_view s)).seen refusal (seat_view s')) where
      pub refused_reg : IsReg allows (Some s') r.task entry
      refused_reg = closed allows phaser r.task entry s' (record {
        here = here;
        knows = refused_seat op allows (locked_terms phaser) (old_of s) r o.request o.signals o.waits o.member refusal (seat_view s') f;
      })

      abbrev rests : RegState A K
      rests = reg_state (Some s') r.task entry held

      pub refused_gone : HasGone op allows (locked_terms phaser) (old_of s) rests (Err refusal)
      refused_gone = record {
        call = refused_call op allows (locked_terms phaser) (old_of s) r o.request o.signals o.waits o.member refusal (seat_view s') f rests place_is refl refl refl;
        held = refl;
      }

      pub refused_rests : HasTakenBack op allows (locked_terms phaser) (old_of s) rests (Err refusal)
      refused_rests = record {
        call = refused_back op allows (locked_terms phaser) (old_of s) r o.request o.signals o.waits o.member refusal (seat_view s') f rests place_is refl refl refl;
        held = refl;
      }

    -- its signal alone is made
    module _ (b : HasSignalled op (locked_terms phaser).limits (allows (locked_terms phaser).rule) (ask_of r) (known_of (seat_view s)).seen (seat_view s')) where
      pub back_reg : IsReg allows (Some s') r.task (entry_signalled entry r)
      back_reg = closed allows phaser r.task (entry_signalled entry r) s' (record {
        here = here;
        knows = back_seat op allows (locked_terms phaser) (old_of s) r o.request o.signals o.waits o.member (seat_view s') b;
      })

      pub back_gone : (kept : Parcel A) → StandsForSends op kept [] → kept.count ≡ 0
          → HasTakenBack op allows (locked_terms phaser) (old_of s) (reg_state (Some s') r.task (entry_signalled entry r) kept) (Ok (r.phase, None))
      back_gone kept none count = record {
        call = back_call op allows (locked_terms phaser) (old_of s) r o.request o.signals o.waits o.member (seat_view s') b
            (reg_state (Some s') r.task (entry_signalled entry r) kept) place_is refl refl refl;
        held = (none, count);
      }

-- the seat of a registration at rest that asks, and the one that it has then
module _ {T A K : Type 0} (op : Operation A) (allows : K → Allows) (phaser : LockedPhaser A K)
    (number : ℕ) (entry : Entry) (held : Parcel A) (r : Request) where
  pub asked_seat : (s s' : Seat T (Terms K) View) (self : RegState A K) → Opened allows phaser number entry held s self
      → IsRequestOf op r self → (mode_signals self.entry.mode ≡ true) × (mode_waits self.entry.mode ≡ true)
      → MayWait (locked_terms phaser).limits (allows (locked_terms phaser).rule) (ask_of r) (known_of (seat_view s)).seen
      → seat_place s' ≡ locked_place phaser → IsAsking (ask_of r) (known_of (seat_view s)).seen (seat_view s')
      → IsAsked op allows s' entry held r × (reg_state (Some s') r.task entry held ≡ self)
  asked_seat s s' self o request both may here asks =
      let old : RegState A K = reg_state (Some s) number entry held in
      let q : IsRequestOf op r old = subst (λ (x : RegState A K). IsRequestOf op r x) (sym o.is) request in
      let modes : (mode_signals entry.mode ≡ true) × (mode_waits entry.mode ≡ true) =
      subst (λ (x : RegState A K). (mode_signals x.entry.mode ≡ true) × (mode_waits x.entry.mode ≡ true)) (sym o.is) both in
      let same : (known_of (seat_view s')).seen ≡ (known_of (seat_view s)).seen = ap (λ (v : View). (known_of v).seen) asks in
      let place : seat_place s' ≡ seat_place s = here ∙ sym o.seat.here in
      let back : reg_state (Some s') r.task entry held ≡ old =
      λ i. record { at = place i; number = q.task i; entry = entry; held = held; seen = same i } in (
        record {
          terms = locked_terms phaser;
          named = ap (λ p. p.1) here;
          asks = record {
            asks = subst (λ (h : History). IsAsking (ask_of r) h (seat_view s')) (sym same) asks;
            waits = subst (λ (h : History). MayWait (locked_terms phaser).limits (allows (locked_terms phaser).rule) (ask_of r) h) (sym same) may;
          };
          request = record { task = refl; signal_at = q.signal_at; wait_at = q.wait_at; holds = q.holds };
          signals = modes.0;
          waits = modes.1;
          member = subst (λ (h : History). entry_of (members_of h) r.task ≡ Some entry) (sym same)
              (subst (λ (n : ℕ). entry_of (members_of (known_of (seat_view s)).seen) n ≡ Some entry) (sym q.task) o.seat.knows.member);
          good = subst (λ (h : History). IsGoodAt allows (locked_terms phaser) h) (sym same) o.seat.knows.good;
        },
        back ∙ o.is,
      )
