-- What a seat writes in its own lane: its send, and then the phase that it asks for; and a holder what it leaves there.
use Rattle.std.proofs.Common.{◌≡◌, ◌≢◌, ℕ, ℤ, ◌+◌, ◌<◌, true, false, eqb, List, [], ◌∷◌, ◌++◌, Option, Some, None, length, set, refl, sym, ap, subst, ◌∙◌, inl, inr}
use Rattle.std.proofs.lemmas.Bool.{eqb-true}
use mathlib.Core.Option.{some}
use lib.ListN.{get_elem?}
use Rattle.atomic_table.proofs.Lists.{set_here}
use Rattle.turn_lock.proofs.Keeping.{within, not_both}
use Rattle.phase_shared.specs.Phasers.{Limits, Outcome, History, IsLegal, events_of, OthersCame}
use Rattle.phase_history.proofs.Used.{entry_of-others}
use Rattle.phase_shared.specs.declared.seats.view.Knowledge.{Knowledge}
use Rattle.phase_shared.specs.Goods.{Allows}
use Rattle.phase_shared.specs.Views.{Lane, Unknown, Free, Own, Holds, speaks_of, known_of, is_turning}
use Rattle.phase_shared.specs.Asks.{Ask, IsAtPhases, IsMade, IsAnsweredAsk, IsOneOf}
use Rattle.phase_shared.specs.Lanes.{lanes_most, board, phase_place, send_place, owner_place, posted, owner_word, sends_of}
use Rattle.phase_shared.specs.Desks.{View, Resting, Turning, Posting, Asking, MayMakeAsk, IsSound, AskStands, Owns, LaneIs, StandsAsked, IsLane, Kept}
use Rattle.phase_shared.specs.WordTells.{KnowsOwn}
use Rattle.phase_shared.proofs.Small.{apart_phases}
use Rattle.phase_shared.proofs.Stages.{at_entry, signal_is}
use Rattle.phase_shared.proofs.Places.{is_asking, ask_in, stays, asked_stays, lane_stays, ne_of, own_not_held, held_same}
use Rattle.phase_shared.proofs.LaneWords.{SameElse, SameBut, send_else, send_posted, send_here, phase_else, phase_sent, phase_here, owner_else, owner_here, lane_but, free_apart}
use Rattle.phase_shared.proofs.AskMoves.{this_is_in, same_task, words_stay, else_sound, left_sound, moves, no_turning, held_lane, lane_still, holds}

-- where a task stood it stands, while others' events alone came
stands_others : (limits : Limits) (seen log : History) (task s w : ℕ) → IsLegal limits log → OthersCame (task ∷ []) seen log → IsAtPhases seen task s w → IsAtPhases log task s w
stands_others limits seen log task s w legal came st =
    let legal' : IsLegal limits (came.later ++ seen) = subst (λ (h : History). IsLegal limits h) came.is legal in
    let none : events_of task came.later ≡ [] = came.others task (this_is_in task (task ∷ []) refl) in
    subst (λ (h : History). IsAtPhases h task s w) (sym came.is) (at_entry seen (came.later ++ seen) task s w st
    (entry_of-others limits came.later seen task st.entry legal' none st.member))

module _ {T : Type 0} (value : List ℤ → Outcome) (limits : Limits) (allows : Allows) (StandsFor : T → History → Type 0) where
  -- a seat at rest learns something of its lane, or forgets it, while no lane of another changes
  rests_so : (number : ℕ) (v w : View) (home : Option T) (told : ℕ) (words after : List ℕ) (views : List View)
      → (k : Kept value limits allows StandsFor home told words views) → get_elem? views number ≡ some v → speaks_of w ≡ speaks_of v
      → is_asking v ≡ false → is_turning v ≡ false → is_asking w ≡ false → is_turning w ≡ false
      → IsSound value limits allows home k.holder k.log told after number w
      → ((j : ℕ) (u : View) → j ≢ number → get_elem? views j ≡ some u → IsSound value limits allows home k.holder k.log told after j u)
      → ((i : ℕ) → i < lanes_most → posted after i ≡ posted words i)
      → Kept value limits allows StandsFor home told after (set views number w)
  rests_so number v w home told words after views k at speaks asks turns asks' turns' here others same =
      let asking_stays : (j : ℕ) (g : Knowledge) (a : Ask) → get_elem? views j ≡ some (Asking g a) → get_elem? (set views number w) j ≡ some (Asking g a) =
      λ j g a e. stays is_asking views number j v w (Asking g a) at asks refl e in
      moves value limits allows StandsFor home told words views k number v at after w speaks here others turns turns'
      (λ a c. asked_stays limits k.log views (set views number w) a asking_stays c)
      (λ h a e m. not_both (is_asking w) (ap is_asking e) asks')
      (λ i few. subst (λ (m : ℕ). IsLane k.log (set views number w) i m) (sym (same i few))
      (lane_stays k.log views (set views number w) i (posted words i) asking_stays
      (λ j g cs said l e. stays is_turning views number j v w (Turning g cs said l) at turns refl e)
      (k.lanes i few)))

  -- a seat reads that a lane is its own
  pub owns_lane : (number : ℕ) (f : Knowledge) (t i : ℕ) → f.speaks ≡ t ∷ [] → i < lanes_most
      → (home : Option T) (told : ℕ) (words : List ℕ) (views : List View)
      → Kept value limits allows StandsFor home told words views → get_elem? views number ≡ some (Resting f) → owner_word words i ≡ t + 1
      → Kept value limits allows StandsFor home told words (set views number (Posting f i None))
  owns_lane number f t i speaks low home told words views k at owned =
      let s = k.sound number (Resting f) at in
      rests_so number (Resting f) (Posting f i None) home told words words views k at refl refl refl refl refl
      (s.0, s.1, record { task = t; speaks = speaks; low = low; owned = owned }, tt)
      (λ j u ne e. k.sound j u e)
      (λ l few. refl)

  -- it says that the lane is nobody's
  pub leaves_lane : (number : ℕ) (f : Knowledge) (i : ℕ) (n : Option ℕ) (home : Option T) (told : ℕ) (words : List ℕ) (views : List View) → length words ≡ 287
      → Kept value limits allows StandsFor home told words views → get_elem? views number ≡ some (Posting f i n)
      → Kept value limits allows StandsFor home told (set words (owner_place i) 0) (set views number (Resting f))
  leaves_lane number f i n home told words views long k at =
      let s = k.sound number (Posting f i n) at in
      let o : Owns words f i = s.2 in
      let same = owner_else words i 0 in
      rests_so number (Posting f i n) (Resting f) home told words (set words (owner_place i) 0) views k at refl refl refl refl refl
      (s.0, s.1)
      (left_sound value limits allows StandsFor home told words views k number (Posting f i n) at o.task i (set words (owner_place i) 0)
      (this_is_in o.task f.speaks o.speaks) o.owned same (owner_here words i 0 long o.low))
      same.same_posted

  -- a send is posted
  pub posts_send : (number : ℕ) (f : Knowledge) (i n : ℕ) (m : Option ℕ)
      → (home : Option T) (told : ℕ) (words : List ℕ) (views : List View) → length words ≡ 287
      → Kept value limits allows StandsFor home told words views → get_elem? views number ≡ some (Posting f i m)
      → Kept value limits allows StandsFor home told (set words (send_place i) n) (set views number (Posting f i (Some n)))
  posts_send number f i n m home told words views long k at =
      let s = k.sound number (Posting f i m) at in
      let o : Owns words f i = s.2 in
      let same = send_else words i n o.low in
      rests_so number (Posting f i m) (Posting f i (Some n)) home told words (set words (send_place i) n) views k at refl refl refl refl refl
      (s.0, s.1, record { task = o.task; speaks = o.speaks; low = o.low; owned = same.same_owner i ∙ o.owned }, send_here words i n long o.low)
      (else_sound value limits allows StandsFor home told words views k number (Posting f i m) at o.task i (set words (send_place i) n)
      (this_is_in o.task f.speaks o.speaks) o.owned same)
      (λ l few. send_posted words i n l)

  -- then the phase: it asks
  pub posts_phase : (number : ℕ) (f : Knowledge) (n : ℕ) (a : Ask) → f.speaks ≡ a.task ∷ [] → sends_of n ≡ a.sends
      → IsAtPhases f.seen a.task a.phase a.phase → MayMakeAsk limits allows f.seen a
      → (home : Option T) (told : ℕ) (words : List ℕ) (views : List View) → length words ≡ 287
      → Kept value limits allows StandsFor home told words views → get_elem? views number ≡ some (Posting f a.lane (Some n))
      → Kept value limits allows StandsFor home told (set words (phase_place a.lane) (a.phase + 1)) (set views number (Asking f a))
  posts_phase number f n a speaks sends stands may home told words views long k at =
      let after : List ℕ = set words (phase_place a.lane) (a.phase + 1) in
      let w : View = Asking f a in
      let s = k.sound number (Posting f a.lane (Some n)) at in
      let p : Owns words f a.lane = s.2 in
      let is : p.task ≡ a.task = same_task f.speaks p.task a.task p.speaks speaks in
      let owned : owner_word words a.lane ≡ a.task + 1 = subst (λ (t : ℕ). owner_word words a.lane ≡ t + 1) is p.owned in
      let same : SameElse a.lane words (set words (phase_place a.lane) (a.phase + 1)) = phase_else words a.lane (a.phase + 1) p.low in
      let came : OthersCame (a.task ∷ []) f.seen k.log = subst (λ (l : List ℕ). OthersCame l f.seen k.log) speaks s.0 in
      let stands' : IsAtPhases k.log a.task a.phase a.phase = stands_others limits f.seen k.log a.task a.phase a.phase k.good.legal came stands in
      let not_made : IsMade limits a f.seen k.log → ⊥ =
      λ m. apart_phases a.phase (sym (signal_is k.log a.task (a.phase + 1) a.phase m.stands) ∙ signal_is k.log a.task a.phase a.phase stands') in
      let not_answered : IsAnsweredAsk limits a f.seen k.log → ⊥ =
      λ m. apart_phases a.phase (sym (signal_is k.log a.task (a.phase + 1) (a.phase + 1) m.stands) ∙ signal_is k.log a.task a.phase a.phase stands') in
      let here : AskStands value limits allows k.log told after f a = record {
        speaks = speaks;
        low = p.low;
        owned = same.same_owner a.lane ∙ owned;
        stage = inl record { others = came; stands = stands' };
        waits = λ odd m. absurd (not_made m);
        may = may;
        has = λ m. absurd (not_answered m);
        posts = phase_here words a.lane (a.phase + 1) long p.low;
        sends = λ st. ap (λ (m : ℕ). sends_of m) (phase_sent words a.lane (a.phase + 1) a.lane ∙ s.3) ∙ sends;
      } in
      let asking_stays : (j : ℕ) (g : Knowledge) (b : Ask) → get_elem? views j ≡ some (Asking g b) → get_elem? (set views number (Asking f a)) j ≡ some (Asking g b) =
      λ j g b e. stays is_asking views number j (Posting f a.lane (Some n)) (Asking f a) (Asking g b) at refl refl e in
      let lane : (i : ℕ) → i < lanes_most → IsLane k.log (set views number (Asking f a)) i (posted after i) = λ i few.
      elim (eqb i a.lane) as (λ b. (eqb i a.lane ≡ b) → IsLane k.log (set views number (Asking f a)) i (posted after i)) [
        | true ↦ λ t. inr (inl record {
          seat = number;
          knows = f;
          ask = a;
          at = set_here views number w (within views number (Posting f a.lane (Some n)) at);
          is = sym (eqb-true i a.lane t);
        })
        | false ↦ λ t.
            subst (λ (m : ℕ). IsLane k.log (set views number (Asking f a)) i m)
            (sym (same.same_posted i (ne_of i a.lane t)))
            (lane_stays k.log views (set views number (Asking f a)) i (posted words i) asking_stays
            (λ j g cs said l e. stays is_turning views number j (Posting f a.lane (Some n)) (Asking f a) (Turning g cs said l) at refl refl e)
            (k.lanes i few))
      ] refl in
      moves value limits allows StandsFor home told words views k number (Posting f a.lane (Some n)) at after w refl here
      (else_sound value limits allows StandsFor home told words views k number (Posting f a.lane (Some n)) at a.task a.lane after (this_is_in a.task f.speaks speaks) owned
      same)
      refl refl
      (λ b c. asked_stays limits k.log views (set views number (Asking f a)) b asking_stays c)
      (λ h b e m. not_made (made_here f h a b k.log e m))
      lane
    where
      made_here : (f h : Knowledge) (a b : Ask) (log : History) → Asking f a ≡ Asking h b → IsMade limits b h.seen log → IsMade limits a f.seen log
      made_here f h a b log e m =
          let asks : b ≡ a = sym (ap (λ (u : View). ask_in a u) e) in
          let ks : h ≡ f = sym (ap (λ (u : View). known_of u) e) in
          subst (λ (x : Ask). IsMade limits x f.seen log) asks (subst (λ (g : Knowledge). IsMade limits b g.seen log) ks m)

  -- the lanes of others, while the holder writes its own
  other_lane : (number : ℕ) (f : Knowledge) (claims : List Ask) (said : Outcome) (lane lane' : Lane) (l n : ℕ) → l < lanes_most
      → ((m i : ℕ) → i ≢ l → lane ≢ Holds i m)
      → (told : ℕ) (words : List ℕ) (views : List View) (k : Kept value limits allows StandsFor None told words views)
      → get_elem? views number ≡ some (Turning f claims said lane) → (i : ℕ) → i ≢ l → i < lanes_most
      → IsLane k.log (set views number (Turning f claims said lane')) i (posted (set words (phase_place l) n) i)
  other_lane number f claims said lane lane' l n low own told words views k at i ne few =
      subst (λ (m : ℕ). IsLane k.log (set views number (Turning f claims said lane')) i m) (sym ((phase_else words l n low).same_posted i ne))
      (elim (k.lanes i few) [
        | inl z ↦ inl z
        | inr (inl q) ↦ inr (inl record {
          seat = q.seat;
          knows = q.knows;
          ask = q.ask;
          at = stays is_asking views number q.seat (Turning f claims said lane) (Turning f claims said lane') (Asking q.knows q.ask) at refl refl q.at;
          is = q.is;
        })
        | inr (inr (inl p)) ↦ inr (inr (inl p))
        | inr (inr (inr h)) ↦ inr (inr (absurd (own h.n i ne (held_lane value limits allows StandsFor told words views k number f claims said lane at i h))))
      ])

  -- an own lane is no other
  own_else : (l : ℕ) (lane : Lane) → KnowsOwn l lane → (m i : ℕ) → i ≢ l → lane ≢ Holds i m
  own_else l lane (inl is) m i ne same = own_not_held l i m (sym is ∙ same)
  own_else l lane (inr h) m i ne same = ne (sym (held_same l i h.0 m (sym h.1 ∙ same)))

  -- whose it is
  pub its_lane : (words : List ℕ) (f : Knowledge) (l : ℕ) (lane : Lane) → KnowsOwn l lane → LaneIs words f lane → Owns words f l
  its_lane words f l lane (inl is) has = subst (λ (x : Lane). LaneIs words f x) is has
  its_lane words f l lane (inr h) has = (subst (λ (x : Lane). LaneIs words f x) h.1 has).0

  -- a holder leaves a phase in its own lane
  pub posts_in : (number : ℕ) (f : Knowledge) (claims : List Ask) (said : Outcome) (lane : Lane) (l n : ℕ) → KnowsOwn l lane
      → (told : ℕ) (words : List ℕ) (views : List View) → length words ≡ 287
      → Kept value limits allows StandsFor None told words views → get_elem? views number ≡ some (Turning f claims said lane)
      → Kept value limits allows StandsFor None told (set words (phase_place l) n) (set views number (Turning f claims said (Holds l n)))
  posts_in number f claims said lane l n own told words views long k at =
      let after : List ℕ = set words (phase_place l) n in
      let w : View = Turning f claims said (Holds l n) in
      let s = k.sound number (Turning f claims said lane) at in
      let o : Owns words f l = its_lane words f l lane own s.6 in
      let same : SameElse l words (set words (phase_place l) n) = phase_else words l n o.low in
      let lanes : (i : ℕ) → i < lanes_most → IsLane k.log (set views number (Turning f claims said (Holds l n))) i (posted after i) = λ i few.
      elim (eqb i l) as (λ b. (eqb i l ≡ b) → IsLane k.log (set views number (Turning f claims said (Holds l n))) i (posted after i)) [
        | true ↦ λ e.
            let is : i ≡ l = eqb-true i l e in
            inr (inr (inr record {
              seat = number;
              knows = f;
              claims = claims;
              said = said;
              n = n;
              at = set_here views number w (within views number (Turning f claims said lane) at)
                  ∙ ap (λ (m : ℕ). some (Turning f claims said (Holds m n))) (sym is);
            }))
        | false ↦ λ e. other_lane number f claims said lane (Holds l n) l n o.low (own_else l lane own) told words views k at i (ne_of i l e) few
      ] refl in
      holds value limits allows StandsFor told words views k number f claims said lane at after claims said (Holds l n)
      (s.5 ∙ sym same.same_board)
      (record { task = o.task; speaks = o.speaks; low = o.low; owned = same.same_owner l ∙ o.owned }, phase_here words l n long o.low)
      (else_sound value limits allows StandsFor None told words views k number (Turning f claims said lane) at o.task l after (this_is_in o.task f.speaks o.speaks) o.owned same)
      (λ a one. one)
      (λ a one. k.claimed number f claims said lane at a one)
      lanes

  -- or clears it
  pub clears_in : (number : ℕ) (f : Knowledge) (claims : List Ask) (said : Outcome) (lane : Lane) (l : ℕ) → KnowsOwn l lane
      → (told : ℕ) (words : List ℕ) (views : List View) → length words ≡ 287
      → Kept value limits allows StandsFor None told words views → get_elem? views number ≡ some (Turning f claims said lane)
      → Kept value limits allows StandsFor None told (set words (phase_place l) 0) (set views number (Turning f claims said (Own l)))
  clears_in number f claims said lane l own told words views long k at =
      let after : List ℕ = set words (phase_place l) 0 in
      let s = k.sound number (Turning f claims said lane) at in
      let o : Owns words f l = its_lane words f l lane own s.6 in
      let same : SameElse l words (set words (phase_place l) 0) = phase_else words l 0 o.low in
      let lanes : (i : ℕ) → i < lanes_most → IsLane k.log (set views number (Turning f claims said (Own l))) i (posted after i) = λ i few.
      elim (eqb i l) as (λ b. (eqb i l ≡ b) → IsLane k.log (set views number (Turning f claims said (Own l))) i (posted after i)) [
        | true ↦ λ e. inl (ap (λ (j : ℕ). posted after j) (eqb-true i l e) ∙ phase_here words l 0 long o.low)
        | false ↦ λ e. other_lane number f claims said lane (Own l) l 0 o.low (own_else l lane own) told words views k at i (ne_of i l e) few
      ] refl in
      holds value limits allows StandsFor told words views k number f claims said lane at after claims said (Own l)
      (s.5 ∙ sym same.same_board)
      (record { task = o.task; speaks = o.speaks; low = o.low; owned = same.same_owner l ∙ o.owned })
      (else_sound value limits allows StandsFor None told words views k number (Turning f claims said lane) at o.task l after (this_is_in o.task f.speaks o.speaks) o.owned same)
      (λ a one. one)
      (λ a one. k.claimed number f claims said lane at a one)
      lanes

  -- ---- a lane that is nobody's

  -- a holder reads that a lane is
  pub finds_free : (number : ℕ) (f : Knowledge) (claims : List Ask) (said : Outcome) (i told : ℕ) (words : List ℕ) (views : List View) → i < lanes_most
      → Kept value limits allows StandsFor None told words views → get_elem? views number ≡ some (Turning f claims said Unknown) → owner_word words i ≡ 0
      → Kept value limits allows StandsFor None told words (set views number (Turning f claims said (Free i)))
  finds_free number f claims said i told words views low k at none =
      let s = k.sound number (Turning f claims said Unknown) at in
      holds value limits allows StandsFor told words views k number f claims said Unknown at words claims said (Free i)
      s.5 (low, none) (λ j u ne e. k.sound j u e) (λ a one. one) (λ a one. k.claimed number f claims said Unknown at a one)
      (λ l few. lane_still value limits allows StandsFor told words views k number f claims said Unknown at words claims said (Free i)
      s.5 (low, none) (λ j u ne e. k.sound j u e) (λ a one. one) (λ a one. k.claimed number f claims said Unknown at a one)
      (λ m n e. absurd (cc)) l (posted words l) (k.lanes l few))

  -- and says whose it is from now on
  pub takes_free : (number : ℕ) (f : Knowledge) (claims : List Ask) (said : Outcome) (i n told : ℕ) (words : List ℕ) (views : List View)
      → Kept value limits allows StandsFor None told words views → get_elem? views number ≡ some (Turning f claims said (Free i))
      → Kept value limits allows StandsFor None told (set words (owner_place i) n) (set views number (Turning f claims said Unknown))
  takes_free number f claims said i n told words views k at =
      let s = k.sound number (Turning f claims said (Free i)) at in
      let same : SameBut i words (set words (owner_place i) n) = owner_else words i n in
      let after : List ℕ = set words (owner_place i) n in
      let others : (j : ℕ) (u : View) → j ≢ number → get_elem? views j ≡ some u
      → IsSound {T = T} value limits allows None k.holder k.log told (set words (owner_place i) n) j u = λ j u ne e.
      words_stay {T = T} value limits allows None k.holder k.log told words (set words (owner_place i) n) same.same_board j u
      (λ l task low speaks theirs. lane_but words (set words (owner_place i) n) i l same low (free_apart words i l task s.6.1 theirs))
      (λ turns. absurd (no_turning value limits allows StandsFor told words views k number f claims said (Free i) at j u ne e turns))
      (k.sound j u e) in
      let board_is : said ≡ board (set words (owner_place i) n) = s.5 ∙ sym same.same_board in
      let stand : (a : Ask) → IsOneOf claims a → StandsAsked limits k.log views a = λ a one. k.claimed number f claims said (Free i) at a one in
      holds value limits allows StandsFor told words views k number f claims said (Free i) at after claims said Unknown
      board_is tt others (λ a one. one) stand
      (λ l few. subst (λ (m : ℕ). IsLane k.log (set views number (Turning f claims said Unknown)) l m) (sym (same.same_posted l few))
      (lane_still value limits allows StandsFor told words views k number f claims said (Free i) at after claims said Unknown
      board_is tt others (λ a one. one) stand
      (λ m n' e. absurd (cc)) l (posted words l) (k.lanes l few)))
