-- A seat that asked goes on under its turn, from where its ask stands.
use Rattle.std.proofs.Common.{◌≡◌, ℕ, ◌+◌, ◌<◌, ◌≤◌, true, false, [], ◌∷◌, Option, Some, None, refl, sym, ap, subst, ◌∙◌, inr, arith, inl}
use Rattle.std.specs.Prelude.{is_some}
use Rattle.std.proofs.lemmas.Option.{same_Some}
use Rattle.phase_shared.specs.Phasers.{Limits, mode_waits, entry_of, signalled, waited, Entry, Operation, History, members_of, done_of, IsAlive, IsLegal, CoreState, StandsFor}
use Rattle.phase_history.specs.declared.event.Event.TheVariants.{Signalled, Waited}
use Rattle.phase_history.proofs.MemberLemmas.{entry_of-changed_same}
use Rattle.phase_history.proofs.Used.{IsLegal-beginning}
use Rattle.phase_shared.specs.Asks.{Ask, IsAtPhases, IsUnmade, IsMade, IsAnsweredAsk, Stage}
use Rattle.phase_shared.specs.Desks.{View, MayMakeAsk}
use Rattle.phase_shared.specs.Goods.{Allows}
use Rattle.phase_shared.specs.Rule.{StandsWithin}
use Rattle.phase_shared.specs.Servings.{Turned, Starting, Serving, IsAnsweredIn, IsWaiterIn, WasOpen}
use Rattle.phase_shared.specs.Tells.{TookAsked}
use Rattle.phase_shared.specs.Views.{Holds, knowledge, known_of}
use Rattle.phase_shared.proofs.Small.{apart_phases, none_below}
use Rattle.phase_shared.proofs.Stages.{wait_is}
use Rattle.phase_shared.proofs.Giving.{member_after}
use Rattle.phase_shared.proofs.TurnParts.{false_true}

-- ---- a task's mode stays

-- the task is registered then, in the same mode
record Goes (h : History) (task : ℕ) (old : Entry) : Type 0 where
  pub entry : Entry
  pub member : entry_of (members_of h) task ≡ Some entry
  pub mode_is : mode_waits entry.mode ≡ mode_waits old.mode

made_goes : (limits : Limits) (a : Ask) (seen h : History) (e : Entry) → IsLegal limits h → IsMade limits a seen h
    → entry_of (members_of seen) a.task ≡ Some e → Goes h a.task e
made_goes limits a seen h e legal m member =
    let signal : IsLegal limits (Signalled a.task (a.sends ∷ []) None ∷ m.before) = IsLegal-beginning limits (Signalled a.task (a.sends ∷ []) None ∷ m.before) h (λ none. cc) legal
    (record { later = m.since.later; is = m.since.is }) in
    let before = member_after limits a.task e seen m.before m.others signal.0 member in
    let then = entry_of-changed_same a.task (signalled 1) e (members_of m.before) before in
    record { entry = signalled 1 e; member = member_after limits a.task (signalled 1 e) (Signalled a.task (a.sends ∷ []) None ∷ m.before) h m.since legal then; mode_is = refl }

stage_member : (limits : Limits) (a : Ask) (seen h : History) (e : Entry) → IsLegal limits h → Stage limits a seen h
    → entry_of (members_of seen) a.task ≡ Some e → Goes h a.task e
stage_member limits a seen h e legal (inl u) member = record { entry = e; member = member_after limits a.task e seen h u.others legal member; mode_is = refl }
stage_member limits a seen h e legal (inr (inl m)) member = made_goes limits a seen h e legal m member
stage_member limits a seen h e legal (inr (inr n)) member =
    let wait : IsLegal limits (Waited a.task 1 ∷ n.middle) = IsLegal-beginning limits (Waited a.task 1 ∷ n.middle) h (λ none. cc) legal
    (record { later = n.since.later; is = n.since.is }) in
    let g = made_goes limits a seen n.middle e wait.0 n.made member in
    let then = entry_of-changed_same a.task (waited 1) g.entry (members_of n.middle) g.member in
    record { entry = waited 1 g.entry; member = member_after limits a.task (waited 1 g.entry) (Waited a.task 1 ∷ n.middle) h n.since legal then; mode_is = g.mode_is }

entry_in : {X : Type 0} (o : Option X) → is_some o ≡ true → (x : X) × (o ≡ Some x)
entry_in (Some x) yes' = (x, refl)
entry_in None yes' = absurd (cc)

still_waits : (limits : Limits) (a : Ask) (seen h : History) → IsLegal limits h → Stage limits a seen h → IsAlive seen a.task → IsWaiterIn seen a.task → IsWaiterIn h a.task
still_waits limits a seen h legal stage alive waits e member =
    let first = entry_in (entry_of (members_of seen) a.task) alive in
    let g = stage_member limits a seen h first.0 legal stage first.1 in
    ap (λ (d : Entry). mode_waits d.mode) (same_Some e g.entry (sym member ∙ g.member)) ∙ g.mode_is ∙ waits first.0 first.1

-- ---- where it stands tells how far it is

module _ (limits : Limits) (a : Ask) (seen h : History) (e : Entry) (member : entry_of (members_of h) a.task ≡ Some e) where
  signals_at : (s w : ℕ) → IsAtPhases h a.task s w → e.signal_phase ≡ s
  signals_at s w st = ap (λ (d : Entry). d.signal_phase) (same_Some e st.entry (sym member ∙ st.member)) ∙ st.signal_at

  waits_at : (s w : ℕ) → IsAtPhases h a.task s w → e.wait_phase ≡ w
  waits_at s w st = ap (λ (d : Entry). d.wait_phase) (same_Some e st.entry (sym member ∙ st.member)) ∙ st.wait_at

  pub is_answered : Stage limits a seen h → a.phase < e.wait_phase → IsAnsweredAsk limits a seen h
  is_answered (inl u) more = let w = waits_at a.phase a.phase u.stands in absurd (omega arith)
  is_answered (inr (inl m)) more = let w = waits_at (a.phase + 1) a.phase m.stands in absurd (omega arith)
  is_answered (inr (inr n)) more = n

  pub is_unmade : Stage limits a seen h → e.signal_phase ≡ a.phase → IsUnmade a seen h
  is_unmade (inl u) at = u
  is_unmade (inr (inl m)) at = absurd (apart_phases a.phase (sym (signals_at (a.phase + 1) a.phase m.stands) ∙ at))
  is_unmade (inr (inr n)) at = absurd (apart_phases a.phase (sym (signals_at (a.phase + 1) (a.phase + 1) n.stands) ∙ at))

  pub is_made : Stage limits a seen h → e.wait_phase ≤ a.phase → (e.signal_phase ≡ a.phase → ⊥) → IsMade limits a seen h
  is_made (inl u) low apart = absurd (apart (signals_at a.phase a.phase u.stands))
  is_made (inr (inl m)) low apart = m
  is_made (inr (inr n)) low apart = let w = waits_at (a.phase + 1) (a.phase + 1) n.stands in absurd (omega arith)

module _ {A : Type 0} (op : Operation A) (limits : Limits) (allows : Allows) (ask : Ask) (seen : History) where
  -- ---- in other words

  pub open_still : (v u : View) → known_of u ≡ known_of v → WasOpen v ask.phase → WasOpen u ask.phase
  open_still v u same open' = subst (λ f. done_of f.seen ≤ ask.phase) (sym same) open'

  abbrev Took : View → CoreState A → Type 0
  Took v x = TookAsked op.value limits allows (StandsWithin op limits) (knowledge seen (ask.task ∷ [])) ask x v

  -- the core that was lent is the turn's
  pub took_still : (v : View) (x y : CoreState A) → y ≡ x
      → TookAsked op.value limits allows (StandsWithin op limits) (knowledge seen (ask.task ∷ [])) ask x v
      → TookAsked op.value limits allows (StandsWithin op limits) (knowledge seen (ask.task ∷ [])) ask y v
  took_still v x y same k = subst (λ (z : CoreState A). Took v z) (sym same) k

  module _ (v : View) (x : CoreState A)
      (k : TookAsked op.value limits allows (StandsWithin op limits) (knowledge seen (ask.task ∷ [])) ask x v) where
    -- ---- the turn that it took

    pub legal_some : k.now ≡ [] → ⊥
    legal_some none = let never : IsLegal limits [] = subst (λ (h : History). IsLegal limits h) none k.good.legal in never

    pub took_turn : Turned op limits allows ask false 0 v x
    took_turn = record {
      did = record {
        now = k.now;
        claims = k.claims;
        said = k.said;
        lane = Holds ask.lane (ask.phase + 1);
        later = [];
        some = legal_some;
        batch = tt;
        theirs = λ a one. (k.read a one).1;
        apart = k.apart;
        own = inr refl;
      };
      is = k.is;
      good = k.good;
      stands = k.stands;
      quiet = λ no a one st. apart_phases a.phase (sym (wait_is k.now a.task (a.phase + 1) (a.phase + 1) st) ∙ wait_is k.now a.task (a.phase + 1) a.phase (k.read a one).0);
      complete = λ yes'. absurd (false_true yes');
      served = λ a one low at. absurd (none_below a.lane low);
    }

    -- the entry that the core told
    pub told_member : (o : Option Entry) (e : Entry) → o ≡ entry_of x.members ask.task → o ≡ Some e → entry_of (members_of k.now) ask.task ≡ Some e
    told_member o e viewed some = ap (λ ms. entry_of ms ask.task) (sym k.stands.stands.members_are) ∙ sym viewed ∙ some

    -- the task is registered
    pub stage_found : (o : Option Entry) → o ≡ entry_of x.members ask.task → o ≡ None → ⊥
    stage_found o viewed none = elim k.stage [
      | inl u ↦ no u.stands.entry u.stands.member
      | inr (inl m) ↦ no m.stands.entry m.stands.member
      | inr (inr n) ↦ no n.stands.entry n.stands.member
    ]
      where
        no : (e : Entry) → entry_of (members_of k.now) ask.task ≡ Some e → ⊥
        no e member =
            let z : Some e ≡ None = sym member ∙ ap (λ ms. entry_of ms ask.task) (sym k.stands.stands.members_are) ∙ sym viewed ∙ none in
            cc

    -- the core tells how many phases are complete
    pub open_now : (n : ℕ) → ((h : History) → StandsFor op x h → n ≡ done_of h) → n ≤ ask.phase → WasOpen v ask.phase
    open_now n done low = subst (λ (u : View). done_of (known_of u).seen ≤ ask.phase) (sym k.is) (subst (λ (m : ℕ). m ≤ ask.phase) (done k.now k.stands.stands) low)

    module _ (e : Entry) (member : entry_of (members_of k.now) ask.task ≡ Some e) where
      pub answered_in : ask.phase < e.wait_phase → IsAnsweredIn op limits allows ask seen v x
      unfolding took_turn
      answered_in more =
          let n : IsAnsweredAsk limits ask seen k.now = is_answered limits ask seen k.now e member k.stage more in
          record { turned = took_turn; first = refl; lane_is = refl; answered = n; has = k.has n }

      module _ (alive : IsAlive seen ask.task) (waits : IsWaiterIn seen ask.task) (may : MayMakeAsk limits allows seen ask) where
        pub starting : e.signal_phase ≡ ask.phase → Starting op limits allows ask seen v x
        unfolding took_turn
        starting at = record {
          turned = took_turn;
          first = refl;
          unmade = is_unmade limits ask seen k.now e member k.stage at;
          waits = still_waits limits ask seen k.now k.good.legal k.stage alive waits;
          may = may;
        }

        pub serving : e.wait_phase ≤ ask.phase → (e.signal_phase ≡ ask.phase → ⊥) → Serving op limits allows ask seen false 0 v x
        unfolding took_turn
        serving low apart = record {
          turned = took_turn;
          owes = record {
            made = is_made limits ask seen k.now e member k.stage low apart;
            waits = still_waits limits ask seen k.now k.good.legal k.stage alive waits;
            may = may;
          };
        }
