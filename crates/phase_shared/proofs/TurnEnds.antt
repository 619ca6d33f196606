-- What a turn of a seat that asks owes at its give.
use Rattle.std.proofs.Common.{◌≡◌, ℕ, ◌+◌, ◌*◌, ◌<◌, ◌≤◌, Bool, true, false, [], ◌∷◌, ◌++◌, ◌⊎◌, Some, None, refl, sym, ap, subst, ◌∙◌, inl, inr, arith}
use Rattle.std.specs.Prelude.{◌/◌, ◌%◌}
use Rattle.turn_lock.specs.WordSteps.{GivesOf}
use Rattle.phase_shared.specs.Phasers.{Limits, Operation, Outcome, SignalRefusal, History, done_of, value_of_phase, IsLegal, signal_refusal, OthersCame, CoreState}
use Rattle.phase_history.specs.declared.event.Event.TheVariants.{Signalled, Waited}
use Rattle.phase_core.specs.Cores as core
use Rattle.phase_history.proofs.OthersEvents.{OthersCame-refl}
use Rattle.phase_history.proofs.Used.{IsLegal-beginning}
use Rattle.phase_shared.specs.declared.seats.view.Knowledge.{Knowledge}
use Rattle.phase_shared.specs.Asks.{Ask, IsAtPhases, IsAnsweredAsk, IsOneOf}
use Rattle.phase_shared.specs.Desks.{View, Resting, Asking, IsPast}
use Rattle.phase_shared.specs.Goods.{Allows, IsGood, Keeps}
use Rattle.phase_shared.specs.Lanes.{lanes_most}
use Rattle.phase_shared.specs.Rule.{IsOneHistory, StandsWithin}
use Rattle.phase_shared.specs.Servings.{Turned, Starting, Serving, Finished, IsAnsweredIn, HasAnswer, HasSignalled, IsRefused, IsOpenIn, WasOpen}
use Rattle.phase_shared.specs.Tells.{EndsTurn, StillAsks, LaneIsPast, Leaves}
use Rattle.phase_shared.specs.Views.{Lane, Own, Holds, knowledge, known_of, resting, turning, board_of}
use Rattle.phase_shared.specs.WordTells.{with_lane, with_board}
use Rattle.phase_shared.proofs.Growing.{done_grows}
use Rattle.phase_shared.proofs.Small.{apart_phases}
use Rattle.phase_shared.proofs.Places.{own_not_held, held_number}
use Rattle.phase_shared.proofs.Stages.{signal_is, wait_is, done_within, stage_waited}
use Rattle.phase_shared.proofs.LaneReading.{answered_past}
use Rattle.phase_shared.proofs.AskAnswering.{keeps_before, later_value}
use Rattle.phase_shared.proofs.GivingAsks as asks
use Rattle.phase_shared.proofs.TurnParts.{seen_is, good_first}
use Rattle.phase_shared.proofs.WaitsLow.{waits_low}

odd_nought : 0 % 2 ≡ 1 → ⊥
odd_nought e = cc

same_phase : (i j n m : ℕ) → Holds i (n + 1) ≡ Holds j (m + 1) → n ≡ m
same_phase i j n m e = let is : n + 1 ≡ m + 1 = held_number i j (n + 1) (m + 1) e in omega arith

rests : (f g : Knowledge) (a : Ask) → Resting f ≡ Asking g a → ⊥
rests f g a e = cc

module _ {A : Type 0} (op : Operation A) (limits : Limits) (allows : Allows) (ask : Ask) where
  abbrev StandsFor : CoreState A → History → Type 0
  StandsFor = StandsWithin op limits

  abbrev mine : History → Knowledge
  mine now = knowledge now (ask.task ∷ [])

  -- a give that tells what was told, where no ask that was read was answered
  gives_same : (then : View → Type 0) (number told k : ℕ) (v u : View) (x y : CoreState A) (lane : Lane) (w : View)
      → (t : Turned op limits allows ask false k v x) → u ≡ turning t.did.now (ask.task ∷ []) t.did.claims t.did.said lane → y ≡ x
      → EndsTurn limits allows 0 (t.did.later ++ t.did.now) (mine t.did.now) lane w
      → ((s : StillAsks limits allows 0 (t.did.later ++ t.did.now) (mine t.did.now) lane w) → done_of t.did.now ≤ s.ask.phase)
      → then w → GivesOf (IsOneHistory op limits allows) tt number u y told told (λ p q r. then r)
  gives_same then number told k v u x y lane w t is same ends open' goes =
      subst (λ (z : View). GivesOf (IsOneHistory op limits allows) tt number z y told told (λ p q r. then r)) (sym is)
      (λ words views long kept at. (
        w,
        asks.gives_same op.value limits allows StandsFor number (mine t.did.now) t.did.claims t.did.said lane y t.did.later
            told w t.did.batch t.good (subst (λ (z : CoreState A). StandsWithin op limits z (t.did.later ++ t.did.now)) (sym same) t.stands)
            (λ a one low st. absurd (t.quiet refl a one st)) ends open' words views kept at,
        goes,
      ))

  -- what its own lane has is past
  lane_past : (lane : Lane) (new : History) → (lane ≡ Own ask.lane) ⊎ (lane ≡ Holds ask.lane (ask.phase + 1)) → IsPast new (ask.phase + 1)
      → LaneIsPast new lane
  lane_past lane new (inl e) past = subst (λ (l : Lane). LaneIsPast new l) (sym e) tt
  lane_past lane new (inr e) past = subst (λ (l : Lane). LaneIsPast new l) (sym e) past

  module _ (seen : History) where
    -- ---- its signal is refused

    pub gives_refused : (number told : ℕ) (refusal : SignalRefusal) (v u : View) (x y : CoreState A) → (s : Starting op limits allows ask seen v x)
        → u ≡ with_lane (Own ask.lane) v → y ≡ x
        → signal_refusal limits (known_of v).seen ask.task (ask.sends ∷ []) None ≡ Some refusal
        → GivesOf (IsOneHistory op limits allows) tt number u y told told (λ p q r. IsRefused op limits allows ask seen refusal r)
    gives_refused number told refusal v u x y s is same refused =
        let t = s.turned in
        gives_same (λ r. IsRefused op limits allows ask seen refusal r) number told 0 v u x y (Own ask.lane) (resting t.did.now (ask.task ∷ [])) t
        (is ∙ ap (with_lane (Own ask.lane)) t.is) same
        (inl (t.did.now, refl, subst (λ (l : History). OthersCame (ask.task ∷ []) t.did.now (l ++ t.did.now)) (sym s.first) (OthersCame-refl (ask.task ∷ []) t.did.now), tt))
        (λ q. absurd (own_not_held ask.lane q.ask.lane (q.ask.phase + 1) q.posts))
        (record {
          now = t.did.now;
          others = s.unmade.others;
          refused = subst (λ (h : History). signal_refusal limits h ask.task (ask.sends ∷ []) None ≡ Some refusal) (seen_is op limits allows ask false 0 v x t) refused;
          is = refl;
          good = good_first op limits allows ask seen v x s;
        })

    -- ---- its phase is open

    pub gives_asking : (number told : ℕ) (v u : View) (x y : CoreState A) → (s : Serving op limits allows ask seen false 0 v x)
        → u ≡ with_lane (Holds ask.lane (ask.phase + 1)) v → y ≡ x → WasOpen v ask.phase
        → GivesOf (IsOneHistory op limits allows) tt number u y told told (λ p q r. r ≡ Asking (knowledge seen (ask.task ∷ [])) ask)
    gives_asking number told v u x y s is same open' =
        let t = s.turned in
        let low : done_of t.did.now ≤ ask.phase = subst (λ (h : History). done_of h ≤ ask.phase) (seen_is op limits allows ask false 0 v x t) open' in
        gives_same (λ r. r ≡ Asking (knowledge seen (ask.task ∷ [])) ask) number told 0 v u x y (Holds ask.lane (ask.phase + 1)) (Asking (knowledge seen (ask.task ∷ [])) ask) t
        (is ∙ ap (with_lane (Holds ask.lane (ask.phase + 1))) t.is) same
        (inr record {
          ask = ask;
          knows = knowledge seen (ask.task ∷ []);
          mine = refl;
          speaks = refl;
          made = s.owes.made;
          may = s.owes.may;
          posts = refl;
          waits = λ odd. absurd (odd_nought odd);
          is = refl;
        })
        (λ q. subst (λ (n : ℕ). done_of t.did.now ≤ n) (same_phase ask.lane q.ask.lane ask.phase q.ask.phase q.posts) low)
        refl

    -- ---- its phase is open, and it asks no more

    pub gives_rest : (number told : ℕ) (v u : View) (x y : CoreState A) → (s : Serving op limits allows ask seen false 0 v x)
        → u ≡ with_lane (Own ask.lane) v → y ≡ x → IsOpenIn op x ask.phase
        → GivesOf (IsOneHistory op limits allows) tt number u y told told (λ p q r. HasSignalled op limits allows ask seen r)
    gives_rest number told v u x y s is same low =
        let t = s.turned in
        let m = s.owes.made in
        let log : History = t.did.later ++ t.did.now in
        let last : History = Signalled ask.task (ask.sends ∷ []) None ∷ m.before in
        let whole : log ≡ m.since.later ++ last = m.since.is in
        let good_log : IsGood limits allows (m.since.later ++ last) = subst (λ (h : History). IsGood limits allows h) whole t.good in
        let legal : IsLegal limits last = IsLegal-beginning limits last log (λ none. cc) t.good.legal (record { later = m.since.later; is = whole }) in
        let grown : done_of last ≤ done_of (m.since.later ++ last) = done_grows limits m.since.later last (λ none. cc) good_log.legal in
        let most : done_of (m.since.later ++ last) ≤ ask.phase = subst (λ (h : History). done_of h ≤ ask.phase) whole (low log t.stands.stands) in
        gives_same (λ r. HasSignalled op limits allows ask seen r) number told 0 v u x y (Own ask.lane) (resting last (ask.task ∷ [])) t
        (is ∙ ap (with_lane (Own ask.lane)) t.is) same
        (inl (last, refl, m.since, tt))
        (λ q. absurd (own_not_held ask.lane q.ask.lane (q.ask.phase + 1) q.posts))
        (record {
          before = m.before;
          others = m.others;
          accepted = m.accepted;
          signalled_in = m.signalled_in;
          is_open = omega (arith, grown, most);
          is = refl;
          good = record { legal = legal; keeps = keeps_before allows m.since.later last good_log.keeps };
        })

    -- ---- its wait is made

    module _ (serves : Bool) (k : ℕ) (outcome : Outcome) (v : View) (x : CoreState A) (f : Finished op limits allows ask seen serves k outcome v x) where
      abbrev last : History
      last = Waited ask.task 1 ∷ f.middle

      good_last : IsGood limits allows (Waited ask.task 1 ∷ f.middle)
      good_last = subst (λ (h : History). IsGood limits allows h) f.last f.turned.good

      answered_last : IsAnsweredAsk limits ask seen (Waited ask.task 1 ∷ f.middle)
      answered_last = stage_waited limits ask seen f.middle good_last.legal.0 good_last.legal.1
          (signal_is f.middle ask.task (ask.phase + 1) ask.phase f.made.stands) (wait_is f.middle ask.task (ask.phase + 1) ask.phase f.made.stands) (inr (inl f.made))

      -- the view that the turn ends with
      ends_last : (told : ℕ) → EndsTurn limits allows told (f.turned.did.later ++ f.turned.did.now) (mine f.turned.did.now) f.turned.did.lane (resting (Waited ask.task 1 ∷ f.middle) (ask.task ∷ []))
      ends_last told = subst (λ (h : History). EndsTurn limits allows told h (mine f.turned.did.now) f.turned.did.lane (resting (Waited ask.task 1 ∷ f.middle) (ask.task ∷ []))) (sym f.last)
          (inl (
            Waited ask.task 1 ∷ f.middle,
            refl,
            OthersCame-refl (ask.task ∷ []) (Waited ask.task 1 ∷ f.middle),
            lane_past f.turned.did.lane (Waited ask.task 1 ∷ f.middle) f.turned.did.own
                (answered_past limits ask seen (Waited ask.task 1 ∷ f.middle) answered_last),
          ))

      has_last : HasAnswer op limits allows ask seen outcome (resting (Waited ask.task 1 ∷ f.middle) (ask.task ∷ []))
      has_last = record {
        middle = f.middle;
        made = f.made;
        accepted = f.accepted;
        complete = f.complete;
        is = refl;
        has = f.has;
        good = good_last;
      }

      -- so many phases are complete then
      done_last : (done_of (f.turned.did.later ++ f.turned.did.now) ≤ ask.phase + 1) × (ask.phase < done_of (f.turned.did.later ++ f.turned.did.now))
      done_last = subst (λ (h : History). (done_of h ≤ ask.phase + 1) × (ask.phase < done_of h)) (sym f.last) (
        done_within (Waited ask.task 1 ∷ f.middle) ask.task (ask.phase + 1) (ask.phase + 1) answered_last.stands,
        answered_last.below,
      )

    pub gives_late : (number told : ℕ) (outcome : Outcome) (v : View) (x y : CoreState A) → Finished op limits allows ask seen false 0 outcome v x → y ≡ x
        → GivesOf (IsOneHistory op limits allows) tt number v y told told (λ p q r. HasAnswer op limits allows ask seen outcome r)
    gives_late number told outcome v x y f same =
        let t = f.turned in
        gives_same (λ r. HasAnswer op limits allows ask seen outcome r) number told 0 v v x y t.did.lane (resting (Waited ask.task 1 ∷ f.middle) (ask.task ∷ [])) t t.is same
        (ends_last false 0 outcome v x f 0)
        (λ q. absurd (rests (knowledge (Waited ask.task 1 ∷ f.middle) (ask.task ∷ [])) q.knows q.ask q.is))
        (has_last false 0 outcome v x f)

    -- what it knows of each ask that it read, where those for its phase are answered
    leaves : (k next : ℕ) (outcome : Outcome) (v : View) (x : CoreState A) (f : Finished op limits allows ask seen true k outcome v x)
        → (next % 2 ≡ 1 → (k ≡ 16) × (next / 2 ≡ done_of (f.turned.did.later ++ f.turned.did.now)))
        → (a : Ask) → IsOneOf f.turned.did.claims a → a.lane < lanes_most → Leaves op.value (f.turned.did.later ++ f.turned.did.now) next outcome a
    leaves k next outcome v x f tells a one low =
        let t = f.turned in
        let new : History = t.did.later ++ t.did.now in
        let d = done_last true k outcome v x f in
        record {
          waits = λ odd st.
              let p = tells odd in
              let most : done_of (t.did.later ++ t.did.now) ≤ a.phase + 1 = done_within (t.did.later ++ t.did.now) a.task (a.phase + 1) a.phase st in
              let apart : a.phase ≡ ask.phase → ⊥ = λ same.
              let few : a.lane < k = subst (λ (n : ℕ). a.lane < n) (sym p.0) low in
              let answered : IsAtPhases (t.did.later ++ t.did.now) a.task (a.phase + 1) (a.phase + 1) = t.served a one few same in
              apart_phases a.phase (sym (wait_is (t.did.later ++ t.did.now) a.task (a.phase + 1) (a.phase + 1) answered) ∙ wait_is (t.did.later ++ t.did.now) a.task (a.phase + 1) a.phase st) in
              let is : next / 2 ≡ done_of (t.did.later ++ t.did.now) = p.1 in
              let low' = d.0 in let high = d.1 in
              omega arith;
          has = λ st.
              let most : done_of (t.did.later ++ t.did.now) ≤ a.phase + 1 = done_within (t.did.later ++ t.did.now) a.task (a.phase + 1) (a.phase + 1) st in
              let least : st.entry.wait_phase ≤ done_of (t.did.later ++ t.did.now) = waits_low limits (t.did.later ++ t.did.now) a.task st.entry t.good.legal st.member in
              let at : st.entry.wait_phase ≡ a.phase + 1 = st.wait_at in
              let low' = d.0 in let high = d.1 in
              let same : ask.phase ≡ a.phase = omega arith in
              f.has ∙ ap (λ (h : History). value_of_phase op.value h ask.phase) (sym f.last) ∙ ap (λ (n : ℕ). value_of_phase op.value (t.did.later ++ t.did.now) n) same;
        }

    pub gives_finished : (number told next k : ℕ) (outcome : Outcome) (v u : View) (x y : CoreState A) → (f : Finished op limits allows ask seen true k outcome v x)
        → u ≡ with_board outcome v → y ≡ x
        → (next % 2 ≡ 1 → (k ≡ 16) × (next / 2 ≡ done_of (f.turned.did.later ++ f.turned.did.now)))
        → GivesOf (IsOneHistory op limits allows) tt number u y told next (λ p q r. HasAnswer op limits allows ask seen outcome r)
    gives_finished number told next k outcome v u x y f is same tells =
        let t = f.turned in
        let w : View = resting (Waited ask.task 1 ∷ f.middle) (ask.task ∷ []) in
        let here : u ≡ turning t.did.now (ask.task ∷ []) t.did.claims outcome t.did.lane = is ∙ ap (with_board outcome) t.is in
        subst (λ (z : View). GivesOf (IsOneHistory op limits allows) tt number z y told next (λ p q r. HasAnswer op limits allows ask seen outcome r)) (sym here)
        (λ words views long kept at. (
          w,
          asks.gives_asks op.value limits allows StandsFor number (mine t.did.now) t.did.claims outcome t.did.lane y t.did.later
              told next w t.did.batch t.good (subst (λ (z : CoreState A). StandsWithin op limits z (t.did.later ++ t.did.now)) (sym same) t.stands)
              (λ odd. let p = tells odd in let is' : next / 2 ≡ done_of (t.did.later ++ t.did.now) = p.1 in omega arith)
              (leaves k next outcome v x f tells) (ends_last true k outcome v x f next) words views kept at,
          has_last true k outcome v x f,
        ))

    -- what is told then: each ask for the phase was answered, or only how many phases are complete
    pub tells_odd : (k : ℕ) (outcome : Outcome) (v : View) (x y : CoreState A) (f : Finished op limits allows ask seen true k outcome v x) (done next : ℕ)
        → y ≡ x → ((h : History) → core.StandsFor op y h → done ≡ done_of h) → next ≡ done * 2 + 1
        → next % 2 ≡ 1 → (k ≡ k) × (next / 2 ≡ done_of (f.turned.did.later ++ f.turned.did.now))
    tells_odd k outcome v x y f done next same says is odd =
        let all : done ≡ done_of (f.turned.did.later ++ f.turned.did.now) = says (f.turned.did.later ++ f.turned.did.now)
        (subst (λ (z : CoreState A). core.StandsFor op z (f.turned.did.later ++ f.turned.did.now)) (sym same) f.turned.stands.stands) in
        let half : next / 2 ≡ done = omega arith in
        (refl, half ∙ all)

    pub tells_even : (k : ℕ) (outcome : Outcome) (v : View) (x : CoreState A) (f : Finished op limits allows ask seen true k outcome v x) (done next : ℕ)
        → next ≡ done * 2 → next % 2 ≡ 1 → (k ≡ 16) × (next / 2 ≡ done_of (f.turned.did.later ++ f.turned.did.now))
    tells_even k outcome v x f done next is odd = absurd (omega arith)

    -- ---- others have answered

    pub gives_answered : (number told : ℕ) (outcome : Outcome) (v u : View) (x y : CoreState A) → IsAnsweredIn op limits allows ask seen v x → u ≡ v → y ≡ x
        → outcome ≡ board_of v
        → GivesOf (IsOneHistory op limits allows) tt number u y told told (λ p q r. HasAnswer op limits allows ask seen outcome r)
    gives_answered number told outcome v u x y n is same read =
        let t = n.turned in
        let m = n.answered.middle in
        let good_now : IsGood limits allows t.did.now = subst (λ (l : History). IsGood limits allows (l ++ t.did.now)) n.first t.good in
        let first : IsLegal limits (Waited ask.task 1 ∷ m) = IsLegal-beginning limits (Waited ask.task 1 ∷ m) t.did.now (λ none. cc) good_now.legal
        (record { later = n.answered.since.later; is = n.answered.since.is }) in
        let past : IsPast t.did.now (ask.phase + 1) = answered_past limits ask seen t.did.now n.answered in
        gives_same (λ r. HasAnswer op limits allows ask seen outcome r) number told 0 v u x y t.did.lane (resting (Waited ask.task 1 ∷ m) (ask.task ∷ [])) t
        (is ∙ t.is) same
        (subst (λ (l : History). EndsTurn limits allows 0 (l ++ t.did.now) (mine t.did.now) t.did.lane (resting (Waited ask.task 1 ∷ m) (ask.task ∷ []))) (sym n.first)
        (inl (Waited ask.task 1 ∷ m, refl, n.answered.since, lane_past t.did.lane t.did.now t.did.own past)))
        (λ q. absurd (rests (knowledge (Waited ask.task 1 ∷ m) (ask.task ∷ [])) q.knows q.ask q.is))
        (record {
          middle = m;
          made = n.answered.made;
          accepted = n.answered.accepted;
          complete = n.answered.complete;
          is = refl;
          has = read ∙ ap board_of t.is ∙ n.has
              ∙ later_value op.value limits ask n.answered.since.later m t.did.now n.answered.since.is good_now.legal first n.answered.complete;
          good = record {
            legal = first;
            keeps = keeps_before allows n.answered.since.later (Waited ask.task 1 ∷ m)
                (subst (λ (h : History). Keeps allows h) n.answered.since.is good_now.keeps);
          };
        })
