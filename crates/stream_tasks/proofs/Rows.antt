-- Lists that are gone through, or made, element by element.
use Rattle.std.proofs.Common.{◌≡◌, ℕ, zero, suc, ◌+◌, ◌<◌, List, [], ◌∷◌, ◌++◌, length, Some, refl, sym, ap, subst, ◌∙◌, arith}
use Rattle.std.specs.Prelude.{Result, Ok, Err, IfOk, slice_get, slice_set, slice_index_or, get_or, map}
use Rattle.std.proofs.lemmas.List.{length-append, length-set, append_assoc, append-nil}
use Rattle.std.specs.List.{All}
use Rattle.std.proofs.lemmas.List.Elements.{All-append}
use Rattle.std.proofs.lemmas.Option.{same_Some}
use Rattle.phase_base.specs.declared.mode.Mode.{Mode}
use Rattle.phase_history.specs.declared.event.Event.TheVariants.{Registered}
use Rattle.phase_history.specs.Legal.{IsLegal}
use Rattle.graph_base.specs.Graphs.{Graph, task_at}
use Rattle.graph_base.specs.Registrations.{registrations_of, no_registration}
use Rattle.graph_base.specs.TaskLines.{IsGraph}
use Rattle.graph_base.specs.declared.registration.Registration.{Registration}
use Rattle.stream_lists.specs.Jobs.{Job}
use Rattle.stream_lists.proofs.Basics.{each-push}
use Rattle.stream_members.specs.Members.{Spot, limits_on}
use Rattle.stream_members.specs.AnyPhasers.{phaser_op, phaser_spot, IsFounderOf}
use Rattle.stream_members.specs.declared.any_phaser.AnyPhaser.{AnyPhaser}
use Rattle.stream_members.specs.declared.any_phaser.AnyReg.{AnyReg}
use Rattle.stream_members.specs.AnyMembers.{member_in, left_in}
use Rattle.stream_members.specs.declared.any_member.AnyMember.{AnyMember}
use Rattle.graph_runs.specs.TaskPlaces.{registration_at}
use Rattle.graph_runs.specs.TaskEnds.{HasFoundedAndLeft}
use Rattle.stream_tasks.specs.Openings.{IsOfLine, ArePhasers, AreFoundersFrom, spot_at, IsFounderOn, AreFounders, IsRootMember, HaveFoundersLeft}
use Rattle.stream_tasks.specs.Founders.{FounderState, IsRoot, IsLeftOfFounder}
use Rattle.stream_tasks.specs.declared.opening.founder.FounderLeft.{FounderLeft}

-- ---- lists

-- an element that was read stands at its place
pub stands_at : {X : Type 0} (xs : List X) (p : ℕ) (x : X) → p < length xs
    → x ≡ slice_index_or xs p x → slice_get xs p ≡ Some x
stands_at [] p x lt e = absurd (omega arith)
stands_at (y ∷ xs) zero x lt e = ap Some (sym e)
stands_at (y ∷ xs) (suc p) x lt e = stands_at xs p x (omega arith) e

-- and of two lists side by side
pub pairs-push : {X Y : Type 0} (P : X → Y → Type 0) (xs : List X) (ys : List Y) (x : X) (y : Y)
    → length xs ≡ length ys
    → ((i : ℕ) (a : X) (b : Y) → slice_get xs i ≡ Some a → slice_get ys i ≡ Some b → P a b) → P x y
    → (i : ℕ) (a : X) (b : Y) → slice_get (xs ++ x ∷ []) i ≡ Some a
    → slice_get (ys ++ y ∷ []) i ≡ Some b → P a b
pairs-push P [] [] x y same each new zero a b e f =
    subst (λ c. P c b) (same_Some x a e) (subst (P x) (same_Some y b f) new)
pairs-push P [] [] x y same each new (suc i) a b e f = absurd (cc)
pairs-push P [] (d ∷ ys) x y same each new i a b e f = absurd (cc)
pairs-push P (c ∷ xs) [] x y same each new i a b e f = absurd (cc)
pairs-push P (c ∷ xs) (d ∷ ys) x y same each new zero a b e f = each zero a b e f
pairs-push P (c ∷ xs) (d ∷ ys) x y same each new (suc i) a b e f =
    pairs-push P xs ys x y (omega arith) (λ k v w g h. each (suc k) v w g h) new i a b e f

-- what holds of each holds of each after one was changed for another of which it holds
pub each-set : {X : Type 0} (P : ℕ → X → Type 0) (xs : List X) (p : ℕ) (x : X)
    → ((i : ℕ) (y : X) → slice_get xs i ≡ Some y → P i y) → P p x
    → (i : ℕ) (y : X) → slice_get (slice_set xs p x) i ≡ Some y → P i y
each-set P [] p x each new i y e = absurd (cc)
each-set P (z ∷ zs) zero x each new zero y e = subst (P 0) (same_Some x y e) new
each-set P (z ∷ zs) zero x each new (suc i) y e = each (suc i) y e
each-set P (z ∷ zs) (suc p) x each new zero y e = each zero y e
each-set P (z ∷ zs) (suc p) x each new (suc i) y e =
    each-set (λ k w. P (suc k) w) zs p x (λ k w f. each (suc k) w f) new i y e

-- ---- founders' registrations

-- none of none
pub none_first : AreFoundersFrom 0 [] []
none_first = record { many = refl; each = λ i phaser reg e f. absurd (cc) }

-- one more of both
pub both_more : (phasers : List AnyPhaser) (regs : List AnyReg) (phaser : AnyPhaser) (reg : AnyReg)
    → AreFoundersFrom 0 phasers regs → IsFounderOf phaser reg
    → AreFoundersFrom 0 (phasers ++ phaser ∷ []) (regs ++ reg ∷ [])
both_more phasers regs phaser reg are is =
    let one = length-append phasers (phaser ∷ []) in
    let other = length-append regs (reg ∷ []) in
    let many = are.many in
    record {
      many = omega arith;
      each = λ i a b e f.
          (let same : 0 + i ≡ i = omega arith in
          pairs-push IsFounderOf phasers regs phaser reg (omega arith)
          (λ k v w g h.
          (let still : 0 + k ≡ k = omega arith in
          are.each k v w (ap (slice_get phasers) still ∙ g) h))
          is i a b (sym (ap (slice_get (phasers ++ phaser ∷ [])) same) ∙ e) f);
    }

-- the first of those that are left
pub the_first : (p : ℕ) (phasers : List AnyPhaser) (rest : List AnyReg) (phaser : AnyPhaser)
    (reg : AnyReg) → AreFoundersFrom p phasers (reg ∷ rest) → slice_get phasers p ≡ Some phaser
    → IsFounderOf phaser reg
the_first p phasers rest phaser reg are e =
    let same : p + 0 ≡ p = omega arith in
    are.each 0 phaser reg (ap (slice_get phasers) same ∙ e) refl

-- and the others
pub the_others : (p : ℕ) (phasers : List AnyPhaser) (rest : List AnyReg) (reg : AnyReg)
    → AreFoundersFrom p phasers (reg ∷ rest) → AreFoundersFrom (p + 1) phasers rest
the_others p phasers rest reg are =
    let many : p + suc (length rest) ≡ length phasers = are.many in
    record {
      many = omega arith;
      each = λ i phaser other e f.
          (let same : p + suc i ≡ (p + 1) + i = omega arith in
          are.each (suc i) phaser other (ap (slice_get phasers) same ∙ e) f);
    }

-- ---- founders

-- each founder is that of the phaser at its place
pub record AreOf (phasers : List AnyPhaser) (founders : List FounderState) : Type 0 where
  pub each : (p : ℕ) (phaser : AnyPhaser) (founder : FounderState)
      → slice_get phasers p ≡ Some phaser → slice_get founders p ≡ Some founder
      → (founder.op ≡ phaser_op phaser) × (founder.at ≡ phaser_spot phaser)

-- where there are as many, a place in one is a place in the other
there : {X Y : Type 0} (xs : List X) (ys : List Y) (p : ℕ) (y : Y) → length ys ≡ length xs
    → slice_get ys p ≡ Some y → (x : X) × (slice_get xs p ≡ Some x)
there [] [] p y same e = absurd (cc)
there [] (d ∷ ys) p y same e = absurd (cc)
there (c ∷ xs) [] p y same e = absurd (cc)
there (c ∷ xs) (d ∷ ys) zero y same e = (c, refl)
there (c ∷ xs) (d ∷ ys) (suc p) y same e = there xs ys p y (omega arith) e

spot_is : (phasers : List AnyPhaser) (p : ℕ) (phaser : AnyPhaser)
    → slice_get phasers p ≡ Some phaser → spot_at phasers p ≡ phaser_spot phaser
spot_is [] p phaser e = absurd (cc)
spot_is (c ∷ phasers) zero phaser e = ap phaser_spot (same_Some c phaser e)
spot_is (c ∷ phasers) (suc p) phaser e = spot_is phasers p phaser e

-- the founders of a job's phasers
pub are_founders : (job : Job) (phasers : List AnyPhaser) (founders : List FounderState)
    → length founders ≡ length phasers → AreOf phasers founders → ArePhasers job phasers
    → AreFounders job (spot_at phasers) founders
are_founders job phasers founders many of are = record {
  many = many ∙ are.many;
  each = λ p founder e.
      (let found = there phasers founders p founder many e in
      let phaser = found.0 in
      let at = spot_is phasers p phaser found.1 in
      let is = of.each p phaser founder found.1 e in
      let line = are.each p phaser found.1 in
      record {
        at = is.1 ∙ sym at;
        line = subst (IsOfLine job p founder.op) (sym at)
            (subst (λ op. IsOfLine job p op (phaser_spot phaser)) (sym is.0) line);
      });
}

-- ---- founders that leave

-- what these founders have seen when they left, in their order
pub record AreLeftOf (founders : List FounderState) (lefts : List FounderLeft) : Type 0 where
  pub many : length lefts ≡ length founders
  pub each : (p : ℕ) (founder : FounderState) (left : FounderLeft)
      → slice_get founders p ≡ Some founder → slice_get lefts p ≡ Some left
      → IsLeftOfFounder founder left.left × (left.gave.items ≡ founder.gave)

-- these have left, and the rest stand behind them
pub record HaveLeft (all : List FounderState) (lefts : List FounderLeft)
    (rest : List FounderState) : Type 0 where
  pub gone : List FounderState
  pub is : all ≡ gone ++ rest
  pub left : AreLeftOf gone lefts

-- none has left
pub none_left : (all : List FounderState) → HaveLeft all [] all
none_left all = record {
  gone = [];
  is = refl;
  left = record { many = refl; each = λ p founder left e f. absurd (cc) };
}

-- one more has left
pub one_left : (all rest : List FounderState) (lefts : List FounderLeft) (founder : FounderState)
    (left : FounderLeft) → HaveLeft all lefts (founder ∷ rest) → IsLeftOfFounder founder left.left
    → left.gave.items ≡ founder.gave → HaveLeft all (lefts ++ left ∷ []) rest
one_left all rest lefts founder left have is gave =
    let one = length-append lefts (left ∷ []) in
    let other = length-append have.gone (founder ∷ []) in
    let many = have.left.many in
    record {
      gone = have.gone ++ founder ∷ [];
      is = have.is ∙ sym (append_assoc have.gone (founder ∷ []) rest);
      left = record {
        many = omega arith;
        each = pairs-push IsGone have.gone lefts founder left (omega arith) have.left.each (is, gave);
      };
    }
  where
    IsGone : FounderState → FounderLeft → Type 0
    IsGone f l = IsLeftOfFounder f l.left × (l.gave.items ≡ f.gave)

-- all have left
pub all_left : (all : List FounderState) (lefts : List FounderLeft) → HaveLeft all lefts []
    → AreLeftOf all lefts
all_left all lefts have =
    subst (λ founders. AreLeftOf founders lefts)
    (sym (have.is ∙ append-nil have.gone)) have.left

-- ---- founders of phasers

-- the founder of a phaser stands behind those of the phasers before it
pub of_push : (phasers : List AnyPhaser) (founders : List FounderState) (phaser : AnyPhaser)
    (founder : FounderState) → AreOf phasers founders
    → slice_get phasers (length founders) ≡ Some phaser → founder.op ≡ phaser_op phaser
    → founder.at ≡ phaser_spot phaser → AreOf phasers (founders ++ founder ∷ [])
of_push phasers founders phaser founder of here op at = record {
  each = λ p one other e f. each-push Of founders founder
      (λ i x g one e. of.each i one x e g) new p other f one e;
}
  where
    Of : ℕ → FounderState → Type 0
    Of p x = (one : AnyPhaser) → slice_get phasers p ≡ Some one
        → (x.op ≡ phaser_op one) × (x.at ≡ phaser_spot one)

    new : Of (length founders) founder
    new one e =
        let same : phaser ≡ one = same_Some phaser one (sym here ∙ e) in
        (op ∙ ap phaser_op same, at ∙ ap phaser_spot same)

pub none_of : (phasers : List AnyPhaser) → AreOf phasers []
none_of phasers = record { each = λ p one other e f. absurd (cc) }

-- ---- registrations

at_map : (rs : List Registration) (i : ℕ) → i < length rs
    → slice_index_or (map (λ r. r.phaser) rs) i 0 ≡ (get_or rs i no_registration).phaser
at_map [] i lt = absurd (omega arith)
at_map (r ∷ rs) zero lt = refl
at_map (r ∷ rs) (suc i) lt = at_map rs i (omega arith)

length-phasers : (rs : List Registration) → length (map (λ r. r.phaser) rs) ≡ length rs
length-phasers [] = refl
length-phasers (r ∷ rs) = ap suc (length-phasers rs)

-- a registration of a task is on a phaser of the graph
pub on_graph : (graph : Graph) (t i : ℕ) → IsGraph graph
    → map (λ r. r.phaser) (registrations_of graph (task_at graph t))
    ≡ (task_at graph t).inputs ++ (task_at graph t).outputs
    → t < length graph.tasks → i < length (registrations_of graph (task_at graph t))
    → (get_or (registrations_of graph (task_at graph t)) i no_registration).phaser
    < length graph.phasers
on_graph graph t i is same few lt =
    let task = task_at graph t in
    let rs = registrations_of graph task in
    let line = is.tasks t few in
    let all : All (λ p. p < length graph.phasers) (task.inputs ++ task.outputs) =
    All-append (λ p. p < length graph.phasers) task.inputs task.outputs line.inputs
    line.outputs in
    let long = length-phasers rs in
    let all_of : All (λ p. p < length graph.phasers) (map (λ r. r.phaser) rs) =
    subst (All (λ p. p < length graph.phasers)) (sym same) all in
    subst (λ p. p < length graph.phasers) (at_map rs i lt) (all_of i 0 (omega arith))

-- ---- a founder that has registered a task

-- a founder with the same phaser
pub on_same : (job : Job) (spots : ℕ → Spot) (p : ℕ) (old new : FounderState)
    → new.op ≡ old.op → new.at ≡ old.at → IsFounderOn job spots p old → IsFounderOn job spots p new
on_same job spots p old new op at on = record {
  at = at ∙ on.at;
  line = subst (λ o. IsOfLine job p o (spots p)) (sym op) on.line;
}

-- the founders after one of them has made a registration: it stays where it was
pub founders_stay : (job : Job) (spots : ℕ → Spot) (founders : List FounderState) (p : ℕ)
    (old new : FounderState) → slice_get founders p ≡ Some old → new.op ≡ old.op → new.at ≡ old.at
    → AreFounders job spots founders → AreFounders job spots (slice_set founders p new)
founders_stay job spots founders p old new here op at are = record {
  many = length-set founders p new ∙ are.many;
  each = each-set (IsFounderOn job spots) founders p new are.each
      (on_same job spots p old new op at (are.each p old here));
}

-- a member that a founder has registered is a root, whoever the founders' phasers are
pub root_member : (job : Job) (spots : ℕ → Spot) (t i p : ℕ) (mode : Mode)
    (founders : List FounderState) (old new : FounderState) (member : AnyMember)
    → p ≡ (registration_at job t i).phaser → mode ≡ (registration_at job t i).mode
    → slice_get founders p ≡ Some old → new.op ≡ old.op → new.at ≡ old.at
    → IsRoot mode new member → AreFounders job spots founders → IsRootMember job spots t i member
root_member job spots t i p mode founders old new member at_p in_mode here op at root are =
    let on : IsFounderOn job spots (registration_at job t i).phaser new =
    subst (λ q. IsFounderOn job spots q new) at_p
    (on_same job spots p old new op at (are.each p old here)) in
    let just = root.registered in
    let limits = ap limits_on on.at ∙ on.line.limits_are in
    record {
      at = root.at ∙ on.at;
      line = subst (λ o. IsOfLine job (registration_at job t i).phaser o
          (spots (registration_at job t i).phaser)) (sym root.op) on.line;
      mode = root.mode_is ∙ in_mode;
      root = record {
        before = just.before;
        is = just.is
            ∙ ap (λ m. Registered 0 (member_in member).number m ∷ just.before) in_mode;
        legal = subst (λ l. IsLegal l (member_in member).seen) limits root.legal;
        made = just.made;
        founder = just.founder;
      };
    }

-- what the founders have seen is of the phasers whose founders they are
pub have_left : (job : Job) (spots : ℕ → Spot) (founders : List FounderState)
    (lefts : List FounderLeft) → AreFounders job spots founders → AreLeftOf founders lefts
    → HaveFoundersLeft job spots lefts
have_left job spots founders lefts are left = record {
  many = left.many ∙ are.many;
  each = λ p l e.
      (let found = there founders lefts p l left.many e in
      let is = left.each p found.0 l found.1 e in
      let on = are.each p found.0 found.1 in
      record {
        at = is.0.at ∙ on.at;
        line = subst (λ o. IsOfLine job p o (spots p)) (sym is.0.op) on.line;
        numbers = is.0.numbers;
        legal = subst (λ x. IsLegal x (left_in l.left).seen)
            (ap limits_on on.at ∙ on.line.limits_are) is.0.legal;
        founded = subst
            (λ gave. HasFoundedAndLeft (record { number = 0; gave = gave; seen = (left_in l.left).seen }))
            (sym is.1) is.0.founded;
      });
}

-- what follows from an answer follows where there is one
pub if_ok : {X E : Type 0} (P Q : X → Type 0) (result : Result X E) → ((x : X) → P x → Q x)
    → IfOk result P → IfOk result Q
if_ok P Q (Ok x) follows is = follows x is
if_ok P Q (Err e) follows is = is

-- where there is a founder for each phaser, there is one for that of a registration
pub has_founder : (graph : Graph) (t i n : ℕ) (r : Registration) → IsGraph graph
    → map (λ r. r.phaser) (registrations_of graph (task_at graph t))
    ≡ (task_at graph t).inputs ++ (task_at graph t).outputs
    → t < length graph.tasks → i < length (registrations_of graph (task_at graph t))
    → r ≡ get_or (registrations_of graph (task_at graph t)) i no_registration
    → n ≡ length graph.phasers → r.phaser < n
has_founder graph t i n r is same few lt e many =
    let below = on_graph graph t i is same few lt in
    let at_p = ap (λ (x : Registration). x.phaser) e in
    omega arith
