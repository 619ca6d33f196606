-- What the tasks of the stopped run know, each at a moment of its own, and that it agrees.
use Rattle.std.proofs.Common.{◌≡◌, ◌<◌, ◌+◌, ◌++◌, ◌||◌, ℕ, ℤ, zero, suc, Bool, true, false, eqb, eqb-true, List, [], ◌∷◌, Some, None, length, slice_get, pos, refl, sym, ap, subst, ◌∙◌, arith}
use Rattle.std.specs.List.{All}
use Rattle.std.proofs.lemmas.Option.{same_Some}
use Rattle.phase_base.specs.Lists.{is_in}
use Rattle.phase_base.specs.declared.mode.Mode.TheVariants.{Sig, Wait}
use Rattle.phase_accum.specs.declared.outcome.Outcome.{Outcome}
use Rattle.phase_accum.specs.declared.outcome.Outcome.TheVariants.{Value}
use Rattle.phase_history.specs.declared.event.Event.TheVariants.{Registered, Signalled, Waited, Dropped}
use Rattle.phase_history.specs.Histories.{History, has_dropped}
use Rattle.phase_history.specs.Legal.{IsLegal}
use Rattle.phase_history.specs.Others.{OthersCame, children_in, events_of}
use Rattle.phase_history.specs.Phases.{received_by}
use Rattle.phase_history.specs.Sent.{NamesAll}
use Rattle.graph_base.specs.declared.line.Kind.TheVariants.{Sink}
use Rattle.graph_base.specs.declared.line.Parent.{Parent}
use Rattle.graph_base.specs.Graphs.{phaser_at, task_at}
use Rattle.graph_base.specs.TaskLines.{IsGraph}
use Rattle.graph_runs.specs.Answers.{after_turns}
use Rattle.graph_runs.specs.Beginnings.{opening}
use Rattle.graph_runs.specs.Moments.{Moment, HasRun, limits_at, value_at}
use Rattle.graph_runs.specs.Nexts.{registrations_at}
use Rattle.graph_runs.specs.Reached.{IsReachable}
use Rattle.graph_runs.specs.RunEnds.{HasCome, IsRegisteredOn}
use Rattle.graph_runs.specs.Stops.{Agree, HasRunSoFar, HasStoppedAt, IsStillOpen}
use Rattle.graph_runs.specs.TaskEnds.{FounderEnd, HasFounded, HasOwnCalls, TaskEnd}
use Rattle.graph_runs.specs.TaskPlaces.{registration_at}
use Rattle.stream_lists.specs.Jobs.{Job, with_samples}
use Rattle.stream_lists.specs.Ranges.{is_too_big}
use Rattle.graph_runs.proofs.OnLines.{on_phaser}
use Rattle.worked_runs.specs.WorkedStops.{a_has_ended, a_knows, a_saw, as_a_knows, as_b_knows, as_out_knows, b_knows, b_saw, begun, end_with, founder_saw, out_knows, out_saw, stopped_ends, stopped_graph, unfed}
use Rattle.worked_runs.proofs.GraphTests.{is_graph}
use Rattle.worked_runs.proofs.Histories.{only_one}

pub stopped-is : IsGraph stopped_graph
stopped-is = (is_graph stopped_graph).sound refl

-- ---- one task

-- no task has a parent
pub rootless : (t : ℕ) (u : Parent) → (task_at stopped_graph t).parent ≡ Some u → ⊥
rootless zero u is = absurd (cc)
rootless (suc zero) u is = absurd (cc)
rootless (suc (suc zero)) u is = absurd (cc)
rootless (suc (suc (suc t))) u is = absurd (cc)

-- task t, which is number a on X, has seen this history of X, in which it has named no single,
-- was answered no value that is too big, and has registered nobody
pub record Knows (samples : List (List ℤ)) (m : Moment) (t a : ℕ) (h : History) : Type 0 where
  pub ran : HasRun (with_samples samples unfed) m
  pub few : t < 3
  pub number : m.number 0 t ≡ Some a
  pub saw : m.history 0 ≡ h
  pub named : NamesAll None (events_of a h)
  pub got : List Outcome
  pub received : received_by (value_at (with_samples samples unfed) 0) h a ≡ got
  pub met_none : All (λ outcome. is_too_big outcome ≡ false) got
  pub childless : children_in (events_of a h) ≡ []
  pub offset : m.offset t ≡ (opening (with_samples samples unfed)).offset t
  pub place : (registration_at (with_samples samples unfed) t 0).phaser ≡ 0
  pub one : length (registrations_at (with_samples samples unfed) t) ≡ 1

-- it has a number on X alone
number_of : (samples : List (List ℤ)) (m : Moment) (t a : ℕ) (h : History)
    → Knows samples m t a h → (p n : ℕ) → m.number p t ≡ Some n → (p ≡ 0) × (a ≡ n)
number_of samples m t a h k p n is =
    let on = on_phaser (with_samples samples unfed) t p stopped-is k.few
    ((k.ran.tasks t k.few).lines p n is) in
    let first : p ≡ 0 = omega (arith, on) in
    (first, same_Some a n (sym k.number ∙ subst (λ q. m.number q t ≡ Some n) first is))

-- what is so of number a on X is so of each number that it has
of_number : (samples : List (List ℤ)) (m : Moment) (t a : ℕ) (h : History)
    → Knows samples m t a h → (P : ℕ → ℕ → History → Type 0) → P 0 a h
    → (p n : ℕ) → m.number p t ≡ Some n → P p n (m.history p)
of_number samples m t a h k P holds p n is =
    let (at, same) = number_of samples m t a h k p n is in
    subst (λ q. P q n (m.history q)) (sym at)
    (subst (λ x. P 0 x (m.history 0)) same (subst (P 0 a) (sym k.saw) holds))

pub own_calls : (samples : List (List ℤ)) (m : Moment) (t a : ℕ) (h : History)
    → Knows samples m t a h → HasOwnCalls (with_samples samples unfed) m t
own_calls samples m t a h k = record {
  offset = λ e. k.offset;
  above = λ u is. absurd (rootless t u is);
  parent = λ u is. absurd (rootless t u is);
  named = of_number samples m t a h k
      (λ p n seen. NamesAll (phaser_at stopped_graph p).single (events_of n seen)) k.named;
  met_none = of_number samples m t a h k
      (λ p n seen. All (λ outcome. is_too_big outcome ≡ false)
      (received_by (value_at (with_samples samples unfed) p) seen n))
      (subst (All (λ outcome. is_too_big outcome ≡ false)) (sym k.received) k.met_none);
  children = λ p n b is among.
      absurd (let none : is_in b [] ≡ true =
      subst (λ xs. is_in b xs ≡ true)
      (of_number samples m t a h k (λ q n seen. children_in (events_of n seen) ≡ []) k.childless
      p n is) among in cc);
}

pub stands : (samples : List (List ℤ)) (m : Moment) (t a begun : ℕ) (h : History) (lines : List ℤ)
    → Knows samples m t a h → m.begun t ≡ begun
    → ((task_at stopped_graph t).kind ≡ Sink → m.taken t 0 ≡ lines)
    → (task_at stopped_graph t).joins_now ≡ false
    → HasStoppedAt (with_samples samples unfed) m (end_with t begun a h lines)
stands samples m t a begun h lines k steps took late =
    let job = with_samples samples unfed in
    record {
      part = record {
        ran = k.ran.tasks t k.few;
        legal = λ p on. (k.ran.phasers p (on_phaser job t p stopped-is k.few on)).legal;
      };
      own = own_calls samples m t a h k;
      begun = steps;
      start = λ e. absurd (let bad : true ≡ false = sym e ∙ late in cc);
      numbered = λ i lt. numbered i lt;
      whole = sym k.one;
      seen = λ i lt. seen i lt;
      lines = took;
      given = λ c is. absurd (rootless c is.parent is.has);
    }
  where
    numbered : (i : ℕ) → i < length (registrations_at (with_samples samples unfed) t)
        → m.number (registration_at (with_samples samples unfed) t i).phaser t
        ≡ slice_get (a ∷ []) i
    numbered zero lt = ap (λ p. m.number p t) k.place ∙ k.number
    numbered (suc i) lt = absurd (omega (arith, lt, k.one))

    seen : (i : ℕ) → i < length (registrations_at (with_samples samples unfed) t)
        → slice_get (h ∷ []) i
        ≡ Some (m.history (registration_at (with_samples samples unfed) t i).phaser)
    seen zero lt = ap Some (sym (ap m.history k.place ∙ k.saw))
    seen (suc i) lt = absurd (omega (arith, lt, k.one))

-- no outcome, or one value
pub none_too_big : All (λ outcome. is_too_big outcome ≡ false) []
none_too_big k d lt = absurd (omega (arith, lt))

pub value_in_range : (v : ℤ) → All (λ outcome. is_too_big outcome ≡ false) (Value v ∷ [])
value_in_range v zero d lt = refl
value_in_range v (suc k) d lt = absurd (omega (arith, lt))

-- ---- what they say of one another

-- what task t has seen
abbrev seen_of : ℕ → History
seen_of zero = a_saw
seen_of (suc zero) = b_saw
seen_of (suc (suc t)) = out_saw

-- a registration on X of a task that came
pub record IsOne (t n : ℕ) (seen : History) : Type 0 where
  pub few : t < 3
  pub number : t + 1 ≡ n
  pub saw : seen_of t ≡ seen

-- the end of a task that came
end_is : (x y : TaskEnd) → Some (Some x) ≡ Some (Some y) → x ≡ y
end_is x y is = same_Some x y (same_Some (Some x) (Some y) is)

one_of : (t i n begun a : ℕ) (h seen : History) (lines : List ℤ) (end : TaskEnd) → t < 3
    → Some (Some (end_with t begun a h lines)) ≡ Some (Some end) → i < 1 → t + 1 ≡ a → seen_of t ≡ h
    → slice_get end.numbers i ≡ Some n → slice_get end.seen i ≡ Some seen → IsOne t n seen
one_of t zero n begun a h seen lines end few is lt number saw at sees =
    let same = end_is (end_with t begun a h lines) end is in
    record {
      few = few;
      number = number ∙ same_Some a n
          (subst (λ (e : TaskEnd). slice_get e.numbers 0 ≡ Some n) (sym same) at);
      saw = saw ∙ same_Some h seen
          (subst (λ (e : TaskEnd). slice_get e.seen 0 ≡ Some seen) (sym same) sees);
    }
one_of t (suc i) n begun a h seen lines end few is lt number saw at sees = absurd (omega (arith, lt))

which : (samples : List (List ℤ)) (t i n : ℕ) (seen : History)
    → IsRegisteredOn (with_samples samples unfed) stopped_ends t i 0 n seen → IsOne t n seen
which samples zero i n seen on =
    one_of 0 i n 2 1 a_saw seen [] on.end (omega arith) on.came on.few refl refl on.number on.saw
which samples (suc zero) i n seen on =
    one_of 1 i n 1 2 b_saw seen [] on.end (omega arith) on.came on.few refl refl on.number on.saw
which samples (suc (suc zero)) i n seen on =
    one_of 2 i n 1 3 out_saw seen (pos 11 ∷ []) on.end (omega arith) on.came on.few refl refl
    on.number on.saw
which samples (suc (suc (suc t))) i n seen on = absurd (let came = on.came in cc)

-- none of the later events is number n's
came_by : (n : ℕ) (later seen : History) → events_of n later ≡ []
    → OthersCame (n ∷ []) seen (later ++ seen)
came_by n later seen none = record {
  later = later;
  is = refl;
  others = λ task among. subst (λ x. events_of x later ≡ []) (only_one n task among) none;
}

all_came : (t n : ℕ) (seen : History) → IsOne t n seen → OthersCame (n ∷ []) seen a_saw
all_came zero n seen one =
    subst (λ x. OthersCame (x ∷ []) seen a_saw) one.number
    (subst (λ h. OthersCame (1 ∷ []) h a_saw) one.saw (came_by 1 [] a_saw refl))
all_came (suc zero) n seen one =
    subst (λ x. OthersCame (x ∷ []) seen a_saw) one.number
    (subst (λ h. OthersCame (2 ∷ []) h a_saw) one.saw
    (came_by 2 (Dropped 1 ∷ Signalled 1 ((pos 2 ∷ []) ∷ []) None ∷ Waited 3 1 ∷ []) b_saw refl))
all_came (suc (suc zero)) n seen one =
    subst (λ x. OthersCame (x ∷ []) seen a_saw) one.number
    (subst (λ h. OthersCame (3 ∷ []) h a_saw) one.saw
    (came_by 3 (Dropped 1 ∷ Signalled 1 ((pos 2 ∷ []) ∷ []) None ∷ []) out_saw refl))
all_came (suc (suc (suc t))) n seen one = absurd (let few = one.few in omega (arith, few))

-- what is so of each of three numbers is so of each among them
three : (a x y z : ℕ) (P : ℕ → Type 0) → P x → P y → P z → is_in a (x ∷ y ∷ z ∷ []) ≡ true → P a
three a x y z P px py pz among = by (eqb x a) refl (eqb y a) refl (eqb z a) refl among
  where
    by : (b : Bool) → eqb x a ≡ b → (c : Bool) → eqb y a ≡ c → (d : Bool) → eqb z a ≡ d
        → (b || (c || (d || false))) ≡ true → P a
    by true e c f d g h = subst P (eqb-true x a e) px
    by false e true f d g h = subst P (eqb-true y a f) py
    by false e false f true g h = subst P (eqb-true z a g) pz
    by false e false f false g h = absurd (cc)

-- the founder
abbrev founder : FounderEnd
founder = record { number = 0; gave = 1 ∷ 2 ∷ 3 ∷ []; seen = founder_saw }

founds : HasFounded 0 (1 ∷ 2 ∷ 3 ∷ []) founder_saw
founds = record {
  made = record {
    later = Dropped 0 ∷ Registered 0 3 Wait ∷ Registered 0 2 Sig ∷ Registered 0 1 Sig ∷ [];
    is = refl;
  };
  silent = tt;
  gave_these = λ a among.
      three a 3 2 1 (λ x. is_in x (1 ∷ 2 ∷ 3 ∷ []) ≡ true) refl refl refl among;
}

given_to : (samples : List (List ℤ)) (a : ℕ) → is_in a (1 ∷ 2 ∷ 3 ∷ []) ≡ true
    → (t : ℕ) × (i : ℕ) × (seen : History)
    × IsRegisteredOn (with_samples samples unfed) stopped_ends t i 0 a seen
given_to samples a among =
    three a 1 2 3
    (λ x. (t : ℕ) × (i : ℕ) × (seen : History)
    × IsRegisteredOn (with_samples samples unfed) stopped_ends t i 0 x seen) (
      0,
      0,
      a_saw,
      record {
        end = a_knows;
        came = refl;
        few = omega arith;
        phaser = refl;
        number = refl;
        saw = refl;
      },
    ) (
      1,
      0,
      b_saw,
      record {
        end = b_knows;
        came = refl;
        few = omega arith;
        phaser = refl;
        number = refl;
        saw = refl;
      },
    ) (
      2,
      0,
      out_saw,
      record {
        end = out_knows;
        came = refl;
        few = omega arith;
        phaser = refl;
        number = refl;
        saw = refl;
      },
    )
    among

pub agree : (samples : List (List ℤ)) → IsLegal (limits_at (with_samples samples unfed) 0) a_saw
    → Agree (with_samples samples unfed) stopped_ends
agree samples legal = record {
  phasers = λ p lt. phasers p lt;
  roots = λ t lt root. roots t lt;
  parents = λ c u end came is. absurd (rootless c u is);
  children = λ c u end lt is came. absurd (rootless c u is);
}
  where
    phasers : (p : ℕ) → p < 1
        → (founder : FounderEnd) × (whole : History)
        × HasRunSoFar (with_samples samples unfed) stopped_ends p founder whole
    phasers zero lt = (
      founder,
      a_saw,
      record {
        legal = legal;
        founds = founds;
        founder_came = came_by 0
            (Dropped 1 ∷ Signalled 1 ((pos 2 ∷ []) ∷ []) None ∷ Waited 3 1
            ∷ Signalled 2 ((pos 10 ∷ []) ∷ []) None ∷ Signalled 1 ((pos 1 ∷ []) ∷ []) None ∷ [])
            founder_saw refl;
        tasks_came = λ t i n seen on. all_came t n seen (which samples t i n seen on);
        not_founder = λ t i n seen on is.
            (let number = (which samples t i n seen on).number in absurd (omega (arith, number, is)));
        distinct = λ t u i j n seen other on also.
            (let here = (which samples t i n seen on).number in
            let there = (which samples u j n other also).number in omega (arith, here, there));
        gave = given_to samples;
      },
    )
    phasers (suc p) lt = absurd (omega (arith, lt))

    roots : (t : ℕ) → t < 3 → (end : TaskEnd) × HasCome stopped_ends t end
    roots zero lt = (a_knows, refl)
    roots (suc zero) lt = (b_knows, refl)
    roots (suc (suc zero)) lt = (out_knows, refl)
    roots (suc (suc (suc t))) lt = absurd (omega (arith, lt))

-- ---- each of them

-- what is so of the end of each task is so of each that came
pub each : (P : ℕ → TaskEnd → Type 0) → P 0 a_knows → P 1 b_knows → P 2 out_knows
    → (t : ℕ) (end : TaskEnd) → HasCome stopped_ends t end
    → (end.task ≡ t) × (t < 3) × P t end
each P a b out zero end came =
    let same = end_is a_knows end came in
    subst (λ (e : TaskEnd). (e.task ≡ 0) × (0 < 3) × P 0 e) same (refl, omega arith, a)
each P a b out (suc zero) end came =
    let same = end_is b_knows end came in
    subst (λ (e : TaskEnd). (e.task ≡ 1) × (1 < 3) × P 1 e) same (refl, omega arith, b)
each P a b out (suc (suc zero)) end came =
    let same = end_is out_knows end came in
    subst (λ (e : TaskEnd). (e.task ≡ 2) × (2 < 3) × P 2 e) same (refl, omega arith, out)
each P a b out (suc (suc (suc t))) end came = absurd (cc)

-- b, which is open, has not left
pub still_open : IsStillOpen unfed a_has_ended stopped_ends
still_open zero i p n end seen came kind free at few place sees left = absurd (cc)
still_open (suc zero) zero p n end seen came kind free at few place sees left =
    let same = end_is b_knows end came in
    let number : 2 ≡ n = same_Some 2 n
    (subst (λ (e : TaskEnd). slice_get e.numbers 0 ≡ Some n) (sym same) at) in
    let saw : b_saw ≡ seen = same_Some b_saw seen
    (subst (λ (e : TaskEnd). slice_get e.seen 0 ≡ Some seen) (sym same) sees) in
    absurd (let bad : has_dropped b_saw 2 ≡ true =
    subst (λ x. has_dropped b_saw x ≡ true) (sym number)
    (subst (λ h. has_dropped h n ≡ true) (sym saw) left) in cc)
still_open (suc zero) (suc i) p n end seen came kind free at few place sees left =
    absurd (omega (arith, few))
still_open (suc (suc zero)) i p n end seen came kind free at few place sees left = absurd (cc)
still_open (suc (suc (suc t))) i p n end seen came kind free at few place sees left = absurd (cc)

-- ---- at moments of runs

abbrev pub Reaches : Type 0
Reaches = (job : Job) → IsGraph job.graph → IsReachable job (opening job)

abbrev pub StayReached : Type 0
StayReached = (job : Job) (m : Moment) (ts : List ℕ) → IsGraph job.graph → IsReachable job m
    → IsReachable job (after_turns job m ts)

-- each of them is one of a run, whatever the samples
pub ran_b : Reaches → StayReached → (job : Job) → IsGraph job.graph → IsReachable job (as_b_knows job)
ran_b reaches stays job is =
    stays job (begun job) (1 ∷ []) is (stays job (opening job) (0 ∷ []) is (reaches job is))

pub ran_out : Reaches → StayReached → (job : Job) → IsGraph job.graph
    → IsReachable job (as_out_knows job)
ran_out reaches stays job is =
    stays job (as_b_knows job) (2 ∷ []) is (ran_b reaches stays job is)

pub ran_a : Reaches → StayReached → (job : Job) → IsGraph job.graph → IsReachable job (as_a_knows job)
ran_a reaches stays job is =
    stays job (as_out_knows job) (0 ∷ 0 ∷ []) is (ran_out reaches stays job is)
