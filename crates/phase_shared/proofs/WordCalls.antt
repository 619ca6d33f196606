-- What each step on a word owes the rule, and what it tells.
use Rattle.std.proofs.Common.{◌≡◌, ℕ, ◌+◌, ◌<◌, true, false, eqb, List, [], ◌∷◌, Option, Some, None, set, slice_index, refl, sym, ap, subst, ◌∙◌}
use Rattle.std.proofs.lemmas.Bool.{eqb-true}
use Rattle.atomic_table.proofs.Lists.{set_again}
use mathlib.Core.Option.{some}
use Rattle.turn_lock.specs.WordSteps.{WritesOf, ReadsOf, ReadsIn, WritesIn}
use Rattle.phase_shared.specs.Phasers.{Limits, Operation, Outcome, History, CoreState}
use Rattle.phase_shared.specs.declared.seats.request.Request.{Request}
use Rattle.phase_shared.specs.declared.seats.view.Knowledge.{Knowledge}
use Rattle.phase_shared.specs.Asks.{Ask}
use Rattle.phase_shared.specs.Desks.{View, Resting, Turning, Posting, Asking}
use Rattle.phase_shared.specs.Goods.{Allows}
use Rattle.phase_shared.specs.Lanes.{lanes_most, board, send_place, phase_place, owner_place, owner_word, sends_of, with_number}
use Rattle.phase_shared.specs.Rule.{IsOneHistory, StandsWithin}
use Rattle.phase_shared.specs.Servings.{ask_of, MayAsk, IsAsking}
use Rattle.phase_shared.specs.Tells.{LaneRead, OwnerRead, SendRead}
use Rattle.phase_shared.specs.Views.{Unknown, Free, Own, Holds, knowledge, resting, owning, known_of, board_of, claims_of, lane_of}
use Rattle.phase_shared.specs.WordTells.{IsHolder, IsOther, IsOwnLane, KnowsNoLane, FreeRead, OwnRead, LaneReadAt, OwnerReadAt, SendReadAt, lane_in, asking_of, with_board, with_lane, Completes, HasKind, HasNumber}
use Rattle.phase_shared.proofs.Stages.{signal_is}
use Rattle.phase_shared.proofs.AskPosting.{owns_lane, leaves_lane, posts_send, posts_phase, posts_in, clears_in, finds_free, takes_free}
use Rattle.phase_shared.proofs.Places.{ne_of}
use Rattle.phase_shared.proofs.AskBoards.{writes_number, writes_kind}
use Rattle.phase_shared.proofs.LaneReading.{lane_read, owner_read, send_read}

-- ---- posting what is asked for

-- with its send posted, it asks for what the request says
asking_is : (limits : Limits) (allows : Allows) (r : Request) (v w : View) → MayAsk limits allows (ask_of r) v → w ≡ Posting (known_of v) r.lane (Some r.send)
    → asking_of w ≡ Asking (knowledge (known_of v).seen (r.task ∷ [])) (ask_of r)
asking_is limits allows r v w may e =
    let seen : History = (known_of v).seen in
    ap asking_of (e ∙ ap (λ (f : Knowledge). Posting f r.lane (Some r.send)) (ap known_of may.rests))
    ∙ ap (λ (p : ℕ). Asking (knowledge seen (r.task ∷ [])) (record { task = r.task; lane = r.lane; phase = p; sends = sends_of r.send })) (signal_is seen r.task r.phase r.phase may.stands)

pub has_asked : (limits : Limits) (allows : Allows) (r : Request) (v w x : View) → MayAsk limits allows (ask_of r) v → w ≡ Posting (known_of v) r.lane (Some r.send)
    → x ≡ asking_of w → IsAsking (ask_of r) (known_of v).seen x
has_asked limits allows r v w x may e is = is ∙ asking_is limits allows r v w may e

module _ {A : Type 0} (op : Operation A) (limits : Limits) (allows : Allows) where
  abbrev Rule : Option (CoreState A) → ℕ → List ℕ → List View → Type 0
  Rule = IsOneHistory op limits allows tt

  abbrev StandsFor : CoreState A → History → Type 0
  StandsFor = StandsWithin op limits

  pub post_send : (number place n : ℕ) (r : Request) (v : View) → MayAsk limits allows (ask_of r) v → place ≡ send_place r.lane
      → WritesOf (IsOneHistory op limits allows) tt number v place n (λ v w. w ≡ Posting (known_of v) (lane_in 0 v) (Some n))
  post_send number place n r v may is = λ home told words views long k at.
      let f : Knowledge = knowledge (known_of v).seen (r.task ∷ []) in (
        Posting f r.lane (Some n),
        subst (λ (p : ℕ). Rule home told (set words p n) (set views number (Posting f r.lane (Some n)))) (sym is)
            (posts_send op.value limits allows StandsFor number f r.lane n None home told words views long k (at ∙ ap some may.rests)),
        ap (λ (u : View). Posting (known_of u) (lane_in 0 u) (Some n)) (sym may.rests),
      )

  pub post_phase : (number place : ℕ) (r : Request) (v w : View) → MayAsk limits allows (ask_of r) v → w ≡ Posting (known_of v) r.lane (Some r.send) → place ≡ phase_place r.lane
      → WritesOf (IsOneHistory op limits allows) tt number w place (r.phase + 1) (λ v w. w ≡ asking_of v)
  post_phase number place r v w may e is = λ home told words views long k at.
      let f : Knowledge = knowledge (known_of v).seen (r.task ∷ []) in (
        Asking f (ask_of r),
        subst (λ (p : ℕ). Rule home told (set words p (r.phase + 1)) (set views number (Asking f (ask_of r)))) (sym is)
            (posts_phase op.value limits allows StandsFor number f r.send (ask_of r) refl refl may.stands may.may home told words views long k
            (at ∙ ap some (e ∙ ap (λ (g : Knowledge). Posting g r.lane (Some r.send)) (ap known_of may.rests)))),
        sym (asking_is limits allows r v w may e),
      )

  -- ---- whose a lane is

  pub reads_own : (number lane task : ℕ) (v : View) → v ≡ resting (known_of v).seen (task ∷ []) → lane < lanes_most
      → ReadsOf (IsOneHistory op limits allows) tt number v (lane + 271) (λ v r w. OwnRead lane task v r w)
  reads_own number lane task v rests low = λ home told words views long k at.
      let f : Knowledge = knowledge (known_of v).seen (task ∷ []) in
      elim (eqb (owner_word words lane) (task + 1)) as (λ b. (eqb (owner_word words lane) (task + 1) ≡ b)
      → (w : View) × Rule home told words (set views number w) × OwnRead lane task v (owner_word words lane) w) [
        | true ↦ λ t. let is : owner_word words lane ≡ task + 1 = eqb-true (owner_word words lane) (task + 1) t in (
          Posting f lane None,
          owns_lane op.value limits allows StandsFor number f task lane refl low home told words views k (at ∙ ap some rests) is,
          (λ same. ap (λ (g : Knowledge). Posting g lane None) (sym (ap known_of rests)), λ other. absurd (other is)),
        )
        | false ↦ λ n. (
          v,
          subst (λ (l : List View). Rule home told words l) (sym (set_again views number v at)) k,
          (λ same. absurd (ne_of (owner_word words lane) (task + 1) n same), λ other. refl),
        )
      ] refl

  pub leaves_own : (number lane task : ℕ) (v w : View) → v ≡ resting (known_of v).seen (task ∷ []) → w ≡ owning (known_of v).seen (task ∷ []) lane
      → WritesOf (IsOneHistory op limits allows) tt number w (lane + 271) 0 (λ v w. w ≡ Resting (known_of v))
  leaves_own number lane task v w rests owns = λ home told words views long k at.
      let f : Knowledge = knowledge (known_of v).seen (task ∷ []) in (
        Resting f,
        leaves_lane op.value limits allows StandsFor number f lane None home told words views long k (at ∙ ap some owns),
        ap (λ (u : View). Resting (known_of u)) (sym owns),
      )

  pub reads_free : (number told lane : ℕ) (v : View) → KnowsNoLane v → lane < lanes_most
      → ReadsIn (IsOneHistory op limits allows) tt number v told (lane + 271) (λ v r w. FreeRead lane v r w)
  reads_free number told lane v n low = λ words views long k at.
      elim (eqb (owner_word words lane) 0) as (λ b. (eqb (owner_word words lane) 0 ≡ b)
      → (w : View) × Rule None told words (set views number w) × FreeRead lane v (owner_word words lane) w) [
        | true ↦ λ t. let is : owner_word words lane ≡ 0 = eqb-true (owner_word words lane) 0 t in (
          Turning n.knows n.claims n.said (Free lane),
          finds_free op.value limits allows StandsFor number n.knows n.claims n.said lane told words views low k (at ∙ ap some n.is) is,
          (λ same. ap (with_lane (Free lane)) (sym n.is), λ other. absurd (other is)),
        )
        | false ↦ λ f. (
          v,
          subst (λ (l : List View). Rule None told words l) (sym (set_again views number v at)) k,
          (λ same. absurd (ne_of (owner_word words lane) 0 f same), λ other. refl),
        )
      ] refl

  pub takes_lane : (number told lane owner : ℕ) (v w : View) → KnowsNoLane v → w ≡ with_lane (Free lane) v
      → WritesIn (IsOneHistory op limits allows) tt number w told (lane + 271) owner (λ v w. w ≡ with_lane Unknown v)
  takes_lane number told lane owner v w n is = λ words views long k at. (
    Turning n.knows n.claims n.said Unknown,
    takes_free op.value limits allows StandsFor number n.knows n.claims n.said lane owner told words views k (at ∙ ap some (is ∙ ap (with_lane (Free lane)) n.is)),
    ap (with_lane Unknown) (sym (is ∙ ap (with_lane (Free lane)) n.is)),
  )

  -- ---- reading a lane

  pub reads_lane : (number told lane place : ℕ) (v : View) → IsOther lane v → lane < lanes_most → place ≡ phase_place lane
      → ReadsIn (IsOneHistory op limits allows) tt number v told place (λ v r w. LaneReadAt limits allows lane v r w)
  reads_lane number told lane place v o few is = λ words views long k at.
      let q = lane_read op.value limits allows StandsFor number o.knows o.claims o.said o.lane lane told words views k (at ∙ ap some o.is) few o.other in (
        q.0,
        q.1,
        λ f claims said l e.
            subst (λ (u : View). LaneRead limits allows lane (known_of u) (claims_of u) (board_of u) (lane_of u) (slice_index words place) q.0) (sym o.is ∙ e)
            (subst (λ (p : ℕ). LaneRead limits allows lane o.knows o.claims o.said o.lane (slice_index words p) q.0) (sym is) q.2),
      )

  pub reads_owner : (number told lane place : ℕ) (v : View) → IsHolder v → place ≡ owner_place lane
      → ReadsIn (IsOneHistory op limits allows) tt number v told place (λ v r w. OwnerReadAt lane v r w)
  reads_owner number told lane place v o is = λ words views long k at.
      let q = owner_read op.value limits allows StandsFor number o.knows o.claims o.said o.lane lane told words views k (at ∙ ap some o.is) in
      let same : set views number v ≡ views = ap (λ (u : View). set views number u) o.is ∙ q.0 in (
        v,
        subst (λ (l : List View). Rule None told words l) (sym same) k,
        λ f claims said l e.
            subst (λ (u : View). OwnerRead lane (claims_of u) v (slice_index words place) v) (sym o.is ∙ e)
            (subst (λ (p : ℕ). OwnerRead lane o.claims v (slice_index words p) v) (sym is) (refl, q.1)),
      )

  pub reads_send : (number told lane place : ℕ) (v : View) → IsHolder v → place ≡ send_place lane
      → ReadsIn (IsOneHistory op limits allows) tt number v told place (λ v r w. SendReadAt lane v r w)
  reads_send number told lane place v o is = λ words views long k at.
      let q = send_read op.value limits allows StandsFor number o.knows o.claims o.said o.lane lane told words views k (at ∙ ap some o.is) in
      let same : set views number v ≡ views = ap (λ (u : View). set views number u) o.is ∙ q.0 in (
        v,
        subst (λ (l : List View). Rule None told words l) (sym same) k,
        λ f claims said l e.
            subst (λ (u : View). SendRead lane (known_of u) (claims_of u) v (slice_index words place) v) (sym o.is ∙ e)
            (subst (λ (p : ℕ). SendRead lane o.knows o.claims v (slice_index words p) v) (sym is) (refl, q.1)),
      )

  -- ---- the own lane

  pub posts_lane : (number told lane place n : ℕ) (v : View) → IsOwnLane lane v → place ≡ phase_place lane
      → WritesIn (IsOneHistory op limits allows) tt number v told place n (λ v w. w ≡ with_lane (Holds lane n) v)
  posts_lane number told lane place n v o is = λ words views long k at. (
    Turning o.knows o.claims o.said (Holds lane n),
    subst (λ (p : ℕ). Rule None told (set words p n) (set views number (Turning o.knows o.claims o.said (Holds lane n)))) (sym is)
        (posts_in op.value limits allows StandsFor number o.knows o.claims o.said o.lane lane n o.own told words views long k (at ∙ ap some o.is)),
    ap (with_lane (Holds lane n)) (sym o.is),
  )

  pub clears_lane : (number told lane place : ℕ) (v : View) → IsOwnLane lane v → place ≡ phase_place lane
      → WritesIn (IsOneHistory op limits allows) tt number v told place 0 (λ v w. w ≡ with_lane (Own lane) v)
  clears_lane number told lane place v o is = λ words views long k at. (
    Turning o.knows o.claims o.said (Own lane),
    subst (λ (p : ℕ). Rule None told (set words p 0) (set views number (Turning o.knows o.claims o.said (Own lane)))) (sym is)
        (clears_in op.value limits allows StandsFor number o.knows o.claims o.said o.lane lane o.own told words views long k (at ∙ ap some o.is)),
    ap (with_lane (Own lane)) (sym o.is),
  )

  -- its own, in a call
  pub posts_own : (ask : Ask) (number told : ℕ) (r : Request) (place : ℕ) (v : View) → ask ≡ ask_of r → IsOwnLane ask.lane v → place ≡ phase_place r.lane
      → WritesIn (IsOneHistory op limits allows) tt number v told place (r.phase + 1) (λ v w. w ≡ with_lane (Holds ask.lane (ask.phase + 1)) v)
  posts_own ask number told r place v asks own is =
      subst (λ (a : Ask). WritesIn (IsOneHistory op limits allows) tt number v told place (r.phase + 1) (λ v w. w ≡ with_lane (Holds a.lane (a.phase + 1)) v)) (sym asks)
      (posts_lane number told r.lane place (r.phase + 1) v (subst (λ (a : Ask). IsOwnLane a.lane v) asks own) is)

  pub clears_own : (ask : Ask) (number told : ℕ) (r : Request) (place : ℕ) (v : View) → ask ≡ ask_of r → IsOwnLane ask.lane v → place ≡ phase_place r.lane
      → WritesIn (IsOneHistory op limits allows) tt number v told place 0 (λ v w. w ≡ with_lane (Own ask.lane) v)
  clears_own ask number told r place v asks own is =
      subst (λ (a : Ask). WritesIn (IsOneHistory op limits allows) tt number v told place 0 (λ v w. w ≡ with_lane (Own a.lane) v)) (sym asks)
      (clears_lane number told r.lane place v (subst (λ (a : Ask). IsOwnLane a.lane v) asks own) is)

  -- ---- the board

  pub board_kind_written : (number told n : ℕ) (v : View) → Completes limits v
      → WritesIn (IsOneHistory op limits allows) tt number v told 1 n (λ v w. HasKind n v w)
  board_kind_written number told n v c = λ words views long k at.
      let f : Knowledge = knowledge c.now c.speaks in
      let q = writes_kind op.value limits allows StandsFor number f c.claims c.said c.lane c.later c.batch c.legal c.more told words views long k (at ∙ ap some c.is) n in
      let new : Outcome = board (set words 1 n) in
      (Turning f c.claims new c.lane, q.0, (ap (with_board new) (sym c.is), q.1))

  pub board_number_written : (number told n : ℕ) (v : View) → Completes limits v
      → WritesIn (IsOneHistory op limits allows) tt number v told 0 n (λ v w. HasNumber n v w)
  board_number_written number told n v c = λ words views long k at.
      let f : Knowledge = knowledge c.now c.speaks in
      let q = writes_number op.value limits allows StandsFor number f c.claims c.said c.lane c.later c.batch c.legal c.more told words views long k (at ∙ ap some c.is) n in
      let new : Outcome = board (set words 0 n) in
      (Turning f c.claims new c.lane, q.0, ap (λ (o : Outcome). Turning f c.claims o c.lane) q.1 ∙ ap (λ (u : View). with_board (with_number n (board_of u)) u) (sym c.is))

-- a board that is being written is a holder's
pub is_holder : (limits : Limits) (v : View) → Completes limits v → IsHolder v
is_holder limits v c = record { knows = knowledge c.now c.speaks; claims = c.claims; said = c.said; lane = c.lane; is = c.is }
