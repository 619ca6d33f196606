-- What each step of a seat that asks owes the rule, and what it tells; and how the board is read.
use Rattle.std.proofs.Common.{◌≡◌, ℕ, List, [], ◌∷◌, None, set, slice_index, refl, sym, ap, subst, ◌∙◌}
use mathlib.Core.Option.{some}
use Rattle.turn_lock.specs.WordSteps.{TakesOf, LooksOf, ReadsOf, ReadsIn}
use Rattle.phase_shared.specs.Phasers.{Limits, Operation, Outcome, History, value_of_phase, CoreState}
use Rattle.phase_history.specs.declared.event.Event.TheVariants.{Waited}
use Rattle.phase_shared.specs.declared.seats.view.Knowledge.{Knowledge}
use Rattle.phase_shared.specs.Asks.{Ask}
use Rattle.phase_shared.specs.Desks.{View, Resting, Turning, Reading}
use Rattle.phase_shared.specs.Goods.{Allows}
use Rattle.phase_shared.specs.Lanes.{KindIs, NumberIs}
use Rattle.phase_shared.specs.Rule.{IsOneHistory, StandsWithin}
use Rattle.phase_shared.specs.Servings.{IsAsking, HasAnswer}
use Rattle.phase_shared.specs.Tells.{Took, TookAsked, Looked, Learnt, TellsAnswer}
use Rattle.phase_shared.specs.Views.{knowledge, owning, known_of, board_of}
use Rattle.phase_shared.specs.WordTells.{IsHolder, IsReading, TookAskedAt, LookedAt, ReadsKind, ReadsNumber, BoardKind, BoardNumber}
use Rattle.phase_shared.proofs.Places.{ask_in}
use Rattle.phase_shared.proofs.Taking.{takes_own, takes_asked}
use Rattle.phase_shared.proofs.AskBoards.{reads_kind, reads_number, board_read}
use Rattle.phase_shared.proofs.AskAnswering.{looks_asked}

module _ {A : Type 0} (op : Operation A) (limits : Limits) (allows : Allows) where
  abbrev StandsFor : CoreState A → History → Type 0
  StandsFor = StandsWithin op limits

  -- ---- a seat that may ask

  pub takes_ready : (number : ℕ) (seen : History) (task lane : ℕ) (v : View) → v ≡ owning seen (task ∷ []) lane
      → TakesOf (IsOneHistory op limits allows) tt number v (λ v x w. Took limits allows (StandsWithin op limits) v x w)
  takes_ready number seen task lane v is =
      subst (λ (u : View). TakesOf (IsOneHistory op limits allows) tt number u (λ v x w. Took limits allows (StandsWithin op limits) v x w)) (sym is)
      (λ x told words views long k at. takes_own op.value limits allows StandsFor number (knowledge seen (task ∷ [])) lane None x told words views k at)

  -- ---- a seat that asks

  pub takes_ask : (number : ℕ) (a : Ask) (seen : History) (v : View) → IsAsking a seen v
      → TakesOf (IsOneHistory op limits allows) tt number v (λ v x w. TookAskedAt limits allows op v x w)
  takes_ask number a seen v is = λ x told words views long k at.
      let q = takes_asked op.value limits allows StandsFor number (knowledge seen (a.task ∷ [])) a x told words views k (at ∙ ap some is) in (
        q.0,
        q.1,
        λ f b e.
            subst (λ (u : View). TookAsked op.value limits allows StandsFor (known_of u) (ask_in a u) x q.0) (sym is ∙ e) q.2,
      )

  pub looks_ask : (number : ℕ) (a : Ask) (seen : History) (v : View) → IsAsking a seen v
      → LooksOf (IsOneHistory op limits allows) tt number v (λ v told w. LookedAt limits allows v told w)
  looks_ask number a seen v is = λ home told words views long k at.
      let q = looks_asked op.value limits allows StandsFor number (knowledge seen (a.task ∷ [])) a home told words views k (at ∙ ap some is) in (
        q.0,
        q.1,
        λ f b e.
            subst (λ (u : View). Looked limits allows (ask_in a u) (known_of u) told q.0) (sym is ∙ e) q.2,
      )

  -- ---- a look, and what is read then

  pub asks_still : (a : Ask) (seen : History) (v : View) (told : ℕ) (w : View) → IsAsking a seen v → LookedAt limits allows v told w
      → (TellsAnswer told a.phase → ⊥) → w ≡ v
  asks_still a seen v told w is look none = (look (knowledge seen (a.task ∷ [])) a is).stays none ∙ sym is

  pub was_answered : (a : Ask) (seen : History) (v : View) (told : ℕ) (w : View) → IsAsking a seen v → LookedAt limits allows v told w
      → TellsAnswer told a.phase → Learnt limits allows a (knowledge seen (a.task ∷ [])) w
  was_answered a seen v told w is look told_so = (look (knowledge seen (a.task ∷ [])) a is).answered told_so

  pub is_read : (a : Ask) (f : Knowledge) (w : View) → Learnt limits allows a f w → IsReading w
  is_read a f w l = record { knows = knowledge (Waited a.task 1 ∷ l.middle) (a.task ∷ []); ask = a; is = l.is }

  pub has_answer : (a : Ask) (seen : History) (w x : View) (o : Outcome) → Learnt limits allows a (knowledge seen (a.task ∷ [])) w
      → ((f : Knowledge) (b : Ask) → w ≡ Reading f b → (x ≡ Resting f) × (o ≡ value_of_phase op.value f.seen b.phase))
      → HasAnswer op limits allows a seen o x
  has_answer a seen w x o l read =
      let r = read (knowledge (Waited a.task 1 ∷ l.middle) (a.task ∷ [])) a l.is in
      record { middle = l.middle; made = l.made; accepted = l.accepted; complete = l.complete; is = r.0; has = r.1; good = l.good }

  -- ---- a seat that was answered

  pub answer_kind : (number : ℕ) (v : View) → IsReading v → ReadsOf (IsOneHistory op limits allows) tt number v 1 (λ v r w. ReadsKind op v r w)
  answer_kind number v r = λ home told words views long k at.
      let q = reads_kind op.value limits allows StandsFor number r.knows r.ask home told words views k (at ∙ ap some r.is) in
      let same : set views number v ≡ views = ap (λ (u : View). set views number u) r.is ∙ q.0 in (
        v,
        subst (λ (l : List View). IsOneHistory op limits allows tt home told words l) (sym same) k,
        (
          refl,
          λ f a e.
              subst (λ (u : View). KindIs (slice_index words 1) (value_of_phase op.value (known_of u).seen (asked r.ask u).phase)) (sym r.is ∙ e) q.1,
        ),
      )
    where
      asked : Ask → View → Ask
      asked d (Reading g a) = a
      asked d u = d

  pub answer_number : (number : ℕ) (v w : View) → IsReading v → w ≡ v → ReadsOf (IsOneHistory op limits allows) tt number w 0 (λ v r w. ReadsNumber op v r w)
  answer_number number v w r stays = λ home told words views long k at.
      let is : w ≡ Reading r.knows r.ask = stays ∙ r.is in
      let q = reads_number op.value limits allows StandsFor number r.knows r.ask home told words views k (at ∙ ap some is) in (
        Resting r.knows,
        q.0,
        λ f a e.
            subst (λ (u : View). (Resting r.knows ≡ Resting (known_of u)) × NumberIs (slice_index words 0) (value_of_phase op.value (known_of u).seen (asked r.ask u).phase)) (sym is ∙ e) (refl, q.1),
      )
    where
      asked : Ask → View → Ask
      asked d (Reading g a) = a
      asked d u = d

  -- ---- the holder

  pub holder_kind : (number told : ℕ) (v : View) → IsHolder v → ReadsIn (IsOneHistory op limits allows) tt number v told 1 (λ v r w. BoardKind v r w)
  holder_kind number told v h = λ words views long k at.
      let q = board_read op.value limits allows StandsFor number h.knows h.claims h.said h.lane told words views k (at ∙ ap some h.is) in
      let same : set views number v ≡ views = ap (λ (u : View). set views number u) h.is ∙ q.0 in (
        v,
        subst (λ (l : List View). IsOneHistory op limits allows tt None told words l) (sym same) k,
        (refl, subst (λ (u : View). KindIs (slice_index words 1) (board_of u)) (sym h.is) q.1),
      )

  pub holder_number : (number told : ℕ) (v w : View) → IsHolder v → w ≡ v → ReadsIn (IsOneHistory op limits allows) tt number w told 0 (λ v r w. BoardNumber v r w)
  holder_number number told v w h stays = λ words views long k at.
      let is : w ≡ Turning h.knows h.claims h.said h.lane = stays ∙ h.is in
      let q = board_read op.value limits allows StandsFor number h.knows h.claims h.said h.lane told words views k (at ∙ ap some is) in
      let same : set views number w ≡ views = ap (λ (u : View). set views number u) is ∙ q.0 in (
        w,
        subst (λ (l : List View). IsOneHistory op limits allows tt None told words l) (sym same) k,
        (refl, subst (λ (u : View). NumberIs (slice_index words 0) (board_of u)) (sym is) q.2),
      )
