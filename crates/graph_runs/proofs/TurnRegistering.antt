-- A child that a turn registers is the one that is next.
use Rattle.std.proofs.Common.{◌≡◌, ◌≢◌, ℕ, zero, suc, ◌+◌, [], ◌∷◌, ◌-◌, ◌<◌, ◌≤◌, Bool, true, false, not, eqb, Option, Some, None, is_some, length, get_or, refl, sym, ap, subst, ◌∙◌, arith, ◌⊎◌, inl, inr}
use Rattle.std.proofs.lemmas.Bool.{and_parts, eqb-true, cases_lt}
use Rattle.std.proofs.lemmas.List.{length-map, length-append}
use Rattle.phase_base.specs.Modes.{mode_signals, mode_waits}
use Rattle.phase_history.specs.Histories.{greatest_used}
use Rattle.phase_base.specs.declared.mode.Mode.{Mode}
use Rattle.phase_base.specs.declared.mode.Mode.TheVariants.{Wait}
use Rattle.phase_history.specs.Refusals.{register_refusal, register_now_refusal}
use Rattle.graph_base.specs.declared.line.Kind.{Kind}
use Rattle.graph_base.specs.declared.line.Kind.TheVariants.{Source, Fir, Split, Decimate, Join, Peer, Sink}
use Rattle.graph_base.specs.declared.line.Parent.{Parent}
use Rattle.graph_base.specs.declared.registration.Registration.{Registration}
use Rattle.phase_accum.specs.declared.single.Single.{Single}
use Rattle.graph_base.specs.declared.line.PhaserLine.{PhaserLine}
use Rattle.graph_base.specs.Graphs.{Task, task_at, phaser_at}
use Rattle.graph_base.specs.Registrations.{ends_of, as_input, as_output, as_exchange, exchange_mode, no_registration}
use Rattle.graph_base.specs.TaskLines.{IsGraph, IsTaskLine, HasEnds, IsExchangeBelow, has_children, IsParent}
use Rattle.graph_base.proofs.Registered.{registrations-phasers, registrations-plain, length-registrations, end-input, end-output}
use Rattle.stream_lists.specs.Jobs.{Job, index_in}
use Rattle.stream_lists.specs.Spans.{signalled_by, takes_from}
use Rattle.stream_lists.proofs.SpansAbove.{parent-is}
use Rattle.stream_lists.proofs.Ordered.{place-at, parent_signals, parent_waits}
use Rattle.graph_runs.specs.Moments.{Moment, HasRun, OnLine, input_at}
use Rattle.graph_runs.proofs.OnLines.{on_phaser}
use Rattle.graph_runs.proofs.OutputLists.{puts-few}
use Rattle.graph_runs.specs.Turned.{IsNextChild}
use Rattle.graph_runs.specs.TaskEvents.{TaskEvent, IsNext, IsThere, child, child_now}
use Rattle.graph_runs.specs.Nexts.{HasChildrenToCome, first_owed, first_due, first_missing, is_due, comes_by, has_registered, registrations_at, number_on}
use Rattle.graph_runs.specs.Answers.{makes, call_register, register_answer}
use Rattle.graph_runs.proofs.PlacesLemmas.{find-some, place_of_output}
use Rattle.graph_runs.proofs.Signalling.{Live, number_there, found_below}
use Rattle.graph_runs.proofs.Boundaries.{all_put, all_taken, made_many}
use Rattle.graph_runs.proofs.Calling.{accepted}

-- the parent of a child that comes at this boundary
pub record Comes (t b : ℕ) (parent : Option Parent) : Type 0 where
  pub by : Parent
  pub is : parent ≡ Some by
  pub task : by.task ≡ t
  pub at : by.at ≡ b

pub comes-is : (t b : ℕ) (parent : Option Parent) → comes_by t b parent ≡ true → Comes t b parent
comes-is t b None e = absurd (cc)
comes-is t b (Some u) e =
    let both = and_parts (eqb u.task t) (eqb u.at b) e in
    record { by = u; is = refl; task = eqb-true u.task t both.0; at = eqb-true u.at b both.1 }

pub no_peer : (kind : Kind) → has_children kind ≡ true → kind ≢ Peer
no_peer Source e = λ p. (cc)
no_peer Fir e = λ p. (cc)
no_peer Sink e = λ p. (cc)
no_peer Split e = absurd (cc)
no_peer Decimate e = absurd (cc)
no_peer Join e = absurd (cc)
no_peer Peer e = absurd (cc)

pub plain_outputs : (job : Job) (c : ℕ) → (task_at job.graph c).kind ≢ Peer
    → signalled_by (task_at job.graph c) ≡ (task_at job.graph c).outputs
plain_outputs job c plain = by (task_at job.graph c).kind refl
  where
    by : (kind : Kind) → (task_at job.graph c).kind ≡ kind
        → signalled_by (task_at job.graph c) ≡ (task_at job.graph c).outputs
    by Source e = rw e refl
    by Fir e = rw e refl
    by Split e = rw e refl
    by Decimate e = rw e refl
    by Join e = rw e refl
    by Sink e = rw e refl
    by Peer e = absurd (plain e)

pub plain_takes : (job : Job) (t b k : ℕ) → has_children (task_at job.graph t).kind ≡ true
    → takes_from (task_at job.graph t) b k ≡ b
plain_takes job t b k plain = by (task_at job.graph t).kind refl
  where
    by : (kind : Kind) → (task_at job.graph t).kind ≡ kind
        → takes_from (task_at job.graph t) b k ≡ b
    by Source e = rw e refl
    by Fir e = rw e refl
    by Split e = rw e refl
    by Decimate e = rw e refl
    by Peer e = rw e refl
    by Sink e = rw e refl
    by Join e =
        absurd (let wrong : true ≡ false = sym plain ∙ ap has_children e in cc)

-- ---- what a registration of a child is for

-- no phaser is an input and an output
apart : (job : Job) (c k j p : ℕ) → IsGraph job.graph → c < length job.graph.tasks
    → k < length (task_at job.graph c).inputs → get_or (task_at job.graph c).inputs k 0 ≡ p
    → j < length (task_at job.graph c).outputs → get_or (task_at job.graph c).outputs j 0 ≡ p → ⊥
apart job c k j p is there few at less on =
    omega (arith, (is.tasks c there).in_order k 0 few j 0 less)

-- the phaser is on the line, and the mode is that of its use there
pub record IsFor (job : Job) (c : ℕ) (r : Registration) : Type 0 where
  pub on_line : OnLine (task_at job.graph c) r.phaser
  pub signals : (j : ℕ) → index_in (signalled_by (task_at job.graph c)) r.phaser ≡ Some j
      → mode_signals r.mode ≡ true
  pub waits : (k : ℕ) → k < length (task_at job.graph c).inputs
      → input_at (task_at job.graph c) k ≡ r.phaser → mode_waits r.mode ≡ true

for_input : (job : Job) (c k : ℕ) → IsGraph job.graph → c < length job.graph.tasks
    → signalled_by (task_at job.graph c) ≡ (task_at job.graph c).outputs
    → k < length (task_at job.graph c).inputs
    → IsFor job c (as_input (k, get_or (task_at job.graph c).inputs k 0))
for_input job c k is there plain lt = record {
  on_line = inr (k, lt, refl);
  signals = λ j place.
      (let at = place-at (signalled_by (task_at job.graph c))
      (get_or (task_at job.graph c).inputs k 0) j place in
      absurd (apart job c k j (get_or (task_at job.graph c).inputs k 0) is there lt refl
      (omega (arith, ap length plain)) (sym (ap (λ qs. get_or qs j 0) plain) ∙ at.1)));
  waits = λ k lt at. refl;
}

for_output : (job : Job) (c j : ℕ) → IsGraph job.graph → c < length job.graph.tasks
    → signalled_by (task_at job.graph c) ≡ (task_at job.graph c).outputs
    → j < length (task_at job.graph c).outputs
    → IsFor job c (as_output (j, get_or (task_at job.graph c).outputs j 0))
for_output job c j is there plain lt =
    let line = is.tasks c there in
    let long : length (signalled_by (task_at job.graph c))
    ≡ length (task_at job.graph c).outputs = ap length plain in
    let same : get_or (signalled_by (task_at job.graph c)) j 0
    ≡ get_or (task_at job.graph c).outputs j 0 = ap (λ qs. get_or qs j 0) plain in
    record {
      on_line = inl (
        j,
        ap (λ p. index_in (signalled_by (task_at job.graph c)) p) (sym same)
            ∙ place_of_output job.graph c (task_at job.graph c) j line (omega arith),
      );
      signals = λ i place. refl;
      waits = λ k few at.
          absurd (apart job c k j (get_or (task_at job.graph c).outputs j 0) is there few at lt
          refl);
    }

for_plain : (job : Job) (c i : ℕ) → IsGraph job.graph → c < length job.graph.tasks
    → (task_at job.graph c).kind ≢ Peer → i < length (registrations_at job c)
    → IsFor job c (get_or (registrations_at job c) i no_registration)
for_plain job c i is there plain lt = by (cases_lt i (length (task_at job.graph c).inputs))
  where
    same : registrations_at job c ≡ ends_of (task_at job.graph c)
    same =
        registrations-plain job.graph (task_at job.graph c) plain

    long : length (registrations_at job c)
        ≡ length (task_at job.graph c).inputs + length (task_at job.graph c).outputs
    long =
        sym (length-map (registrations_at job c) (λ r. r.phaser))
        ∙ ap length (registrations-phasers job.graph c (task_at job.graph c) (is.tasks c there))
        ∙ length-append (task_at job.graph c).inputs (task_at job.graph c).outputs

    For : Registration → Type 0
    For r = IsFor job c r

    by : (i < length (task_at job.graph c).inputs) ⊎ (length (task_at job.graph c).inputs ≤ i)
        → IsFor job c (get_or (registrations_at job c) i no_registration)
    by (inl few) =
        subst For (sym (ap (λ rs. get_or rs i no_registration) same
        ∙ end-input (task_at job.graph c) i few))
        (for_input job c i is there (plain_outputs job c plain) few)
    by (inr from) =
        let all : length (registrations_at job c)
        ≡ length (task_at job.graph c).inputs + length (task_at job.graph c).outputs = long in
        let less : i - length (task_at job.graph c).inputs
        < length (task_at job.graph c).outputs = omega arith in
        subst For (sym (ap (λ rs. get_or rs i no_registration) same
        ∙ end-output (task_at job.graph c) i from less))
        (for_output job c (i - length (task_at job.graph c).inputs) is there
        (plain_outputs job c plain) less)

-- those of a peer: it waits on X, exchanges on E, and signals Y
for_peer : (job : Job) (c i : ℕ) → IsGraph job.graph → c < length job.graph.tasks
    → (task_at job.graph c).kind ≡ Peer → i < length (registrations_at job c)
    → IsFor job c (get_or (registrations_at job c) i no_registration)
for_peer job c i is there peer lt =
    let ends : (length task.inputs ≡ 2) × (length task.outputs ≡ 1) =
    subst (λ kind. HasEnds kind (length task.inputs) (length task.outputs)) peer line.ends in
    let below : x < e = subst (λ kind. IsExchangeBelow kind task.inputs) peer line.exchange in
    let all : registrations_at job c ≡ as_input (0, x) ∷ as_exchange job.graph e
    ∷ as_output (1, y) ∷ [] = rw peer refl in
    let outs : signalled_by task ≡ e ∷ y ∷ [] = rw peer refl in
    subst (IsFor job c) (sym (ap (λ rs. get_or rs i no_registration) all))
    (at i (omega (arith, ap length all)) ends.0 ends.1 below outs)
  where
    task : Task
    task = task_at job.graph c

    line : IsTaskLine job.graph c (task_at job.graph c)
    line = is.tasks c there

    x : ℕ
    x = get_or (task_at job.graph c).inputs 0 0

    e : ℕ
    e = get_or (task_at job.graph c).inputs 1 0

    y : ℕ
    y = get_or (task_at job.graph c).outputs 0 0

    -- an input stands above Y
    above : (k : ℕ) → k < length (task_at job.graph c).inputs
        → length (task_at job.graph c).outputs ≡ 1
        → get_or (task_at job.graph c).inputs k 0 < get_or (task_at job.graph c).outputs 0 0
    above k few one = line.in_order k 0 few 0 0 (omega arith)

    exchange_signals : (mode : PhaserLine) → mode_signals (exchange_mode mode) ≡ true
    exchange_signals phaser = by phaser.single refl
      where
        by : (o : Option Single) → phaser.single ≡ o → mode_signals (exchange_mode phaser) ≡ true
        by None f = rw f refl
        by (Some single) f = rw f refl

    exchange_waits : (mode : PhaserLine) → mode_waits (exchange_mode mode) ≡ true
    exchange_waits phaser = by phaser.single refl
      where
        by : (o : Option Single) → phaser.single ≡ o → mode_waits (exchange_mode phaser) ≡ true
        by None f = rw f refl
        by (Some single) f = rw f refl

    at : (k : ℕ) → k < 3 → length (task_at job.graph c).inputs ≡ 2
        → length (task_at job.graph c).outputs ≡ 1 → x < e
        → signalled_by (task_at job.graph c) ≡ e ∷ y ∷ []
        → IsFor job c (get_or (as_input (0, x) ∷ as_exchange job.graph e ∷ as_output (1, y) ∷ [])
        k no_registration)
    at zero lt two one below outs = record {
      on_line = inr (0, omega arith, refl);
      signals = λ j place.
          (let found = place-at (signalled_by (task_at job.graph c)) x j place in
          let long : length (signalled_by (task_at job.graph c)) ≡ 2 = ap length outs in
          absurd (no_output j (omega arith)
          (sym (ap (λ qs. get_or qs j 0) outs) ∙ found.1) (above 0 (omega arith) one)));
      waits = λ k few same. refl;
    }
      where
        no_output : (j : ℕ) → j < 2 → get_or (e ∷ y ∷ []) j 0 ≡ x → x < y → ⊥
        no_output zero few same less = omega arith
        no_output (suc zero) few same less = omega arith
        no_output (suc (suc j)) few same less = absurd (omega arith)
    at (suc zero) lt two one below outs = record {
      on_line = inr (1, omega arith, refl);
      signals = λ j place. exchange_signals (phaser_at job.graph e);
      waits = λ k few same. exchange_waits (phaser_at job.graph e);
    }
    at (suc (suc zero)) lt two one below outs = record {
      on_line = inl (
        1,
        ap (λ p. index_in (signalled_by (task_at job.graph c)) p)
            (sym (ap (λ qs. get_or qs 1 0) outs))
            ∙ place_of_output job.graph c (task_at job.graph c) 1 line
            (omega (arith, ap length outs)),
      );
      signals = λ j place. refl;
      waits = λ k few same.
          (absurd (omega (arith, above k few one)));
    }
    at (suc (suc (suc k))) lt two one below outs = absurd (omega arith)

-- each registration of a task is for its phaser
pub is_for : (job : Job) (c i : ℕ) → IsGraph job.graph → c < length job.graph.tasks
    → i < length (registrations_at job c)
    → IsFor job c (get_or (registrations_at job c) i no_registration)
is_for job c i is there lt = by (task_at job.graph c).kind refl
  where
    by : (kind : Kind) → (task_at job.graph c).kind ≡ kind
        → IsFor job c (get_or (registrations_at job c) i no_registration)
    by Source f = for_plain job c i is there (λ p. (let no = sym f ∙ p in cc)) lt
    by Fir f = for_plain job c i is there (λ p. (let no = sym f ∙ p in cc)) lt
    by Split f = for_plain job c i is there (λ p. (let no = sym f ∙ p in cc)) lt
    by Decimate f = for_plain job c i is there (λ p. (let no = sym f ∙ p in cc)) lt
    by Join f = for_plain job c i is there (λ p. (let no = sym f ∙ p in cc)) lt
    by Sink f = for_plain job c i is there (λ p. (let no = sym f ∙ p in cc)) lt
    by Peer f = for_peer job c i is there f lt

-- a phaser on the child's line is on its parent's
pub on_parent : (job : Job) (c p : ℕ) (u : Parent) → IsGraph job.graph → c < length job.graph.tasks
    → (task_at job.graph c).parent ≡ Some u → OnLine (task_at job.graph c) p
    → OnLine (task_at job.graph u.task) p
on_parent job c p u is there parent (inl out) =
    let i = parent_signals job.graph c (task_at job.graph c) u p out.0
    (parent-is job.graph c (task_at job.graph c) u (is.tasks c there) parent) out.1 in
    inl (i.0, i.1)
on_parent job c p u is there parent (inr into) =
    let i = parent_waits job.graph c (task_at job.graph c) u into.0
    (parent-is job.graph c (task_at job.graph c) u (is.tasks c there) parent) into.1 in
    inr (i.0, i.1, i.2 ∙ into.2)

-- ---- the child that is due

-- task c is a child of task t that comes at this boundary, and misses a registration
pub record IsDueChild (job : Job) (m : Moment) (t c : ℕ) : Type 0 where
  pub there : c < length job.graph.tasks
  pub missing : is_some (first_missing job m c) ≡ true
  pub comes : Comes t (m.begun t) (task_at job.graph c).parent
  pub parent : IsParent job.graph c (task_at job.graph c) comes.by
  pub parent_plain : has_children (task_at job.graph t).kind ≡ true

pub due_child : (job : Job) (m : Moment) (t c : ℕ) → IsGraph job.graph
    → first_due job m t ≡ Some c → IsDueChild job m t c
due_child job m t c is due =
    let found = found_below (is_due job m t) (length job.graph.tasks) c due in
    let parts = and_parts (comes_by t (m.begun t) (task_at job.graph c).parent)
    (is_some (first_missing job m c)) found.0 in
    let comes = comes-is t (m.begun t) (task_at job.graph c).parent parts.0 in
    let parent = parent-is job.graph c (task_at job.graph c) comes.by (is.tasks c found.1)
    comes.is in
    record {
      there = found.1;
      missing = parts.1;
      comes = comes;
      parent = parent;
      parent_plain = rw comes.task at parent.kind;
    }

-- a phaser on the child's line, and so on its parent's
pub on_parents_line : (job : Job) (m : Moment) (t c p : ℕ) → IsGraph job.graph
    → IsDueChild job m t c → OnLine (task_at job.graph c) p → OnLine (task_at job.graph t) p
on_parents_line job m t c p is d on =
    rw d.comes.task at (on_parent job c p d.comes.by is d.there d.comes.is on)

-- ---- the event

-- the mode of a sink's registration
pub sink_mode : (job : Job) (c i : ℕ) → IsGraph job.graph → c < length job.graph.tasks
    → (task_at job.graph c).kind ≡ Sink → i < length (registrations_at job c)
    → (get_or (registrations_at job c) i no_registration).mode ≡ Wait
sink_mode job c i is there kind lt =
    let task = task_at job.graph c in
    let line = is.tasks c there in
    let ends : (length task.inputs ≡ 1) × (length task.outputs ≡ 0) = rw kind at line.ends in
    let same : registrations_at job c ≡ ends_of task =
    registrations-plain job.graph task (λ peer. (let wrong = sym kind ∙ peer in cc)) in
    let long : length (registrations_at job c) ≡ length task.inputs + length task.outputs =
    length-registrations job.graph task line.ends in
    ap (λ rs. (get_or rs i no_registration).mode) same
    ∙ ap (λ r. r.mode) (end-input task i (omega (arith, ends.0, ends.1)))

-- the child that is due is the next one, where the phaser accepts it in this mode
next_child : (job : Job) (m : Moment) (t c : ℕ) (r : Registration) (mode : Mode)
    → IsGraph job.graph → HasRun job m → HasChildrenToCome job m → Live job m t
    → first_owed job m t ≡ None → (d : IsDueChild job m t c) → first_missing job m c ≡ Some r
    → register_refusal (m.history r.phaser) (number_on m t r.phaser)
    (greatest_used (m.history r.phaser) + 1) mode ≡ None → mode ≡ r.mode
    → IsThere job t r.phaser
    × IsNextChild job m t r.phaser (number_on m t r.phaser) c
    (greatest_used (m.history r.phaser) + 1) mode d.comes.by
next_child job m t c r mode is ran to_come live none d missing accepts same =
    let f = find-some (λ x. not (has_registered m c x)) (registrations_at job c) r
    no_registration missing in
    let use_of : IsFor job c r =
    rw f.1.2 at (is_for job c f.1.0 is d.there f.1.1) in
    let p = r.phaser in
    let above : OnLine (task_at job.graph t) p =
    on_parents_line job m t c p is d use_of.on_line in (
      record {
        task = live.there;
        phaser = on_phaser job t p is live.there above;
      },
      record {
        child = d.there;
        parent = d.comes.is;
        by = d.comes.task;
        on_line = use_of.on_line;
        numbered = number_there job m t p is live above;
        absent = absent (m.number p c) f.0;
        accepted = accepts;
        signals = λ j place. ap mode_signals same ∙ use_of.signals j place;
        waits = λ k lt at. ap mode_waits same ∙ use_of.waits k lt at;
        boundary = sym d.comes.at;
        offset = to_come.offset c d.comes.by d.there d.comes.is d.missing
            ∙ ap (λ x. m.offset x + d.comes.by.at) d.comes.task;
        nothing_put = λ j place. to_come.nothing_put c j d.there d.missing;
        nothing_taken = λ k lt at. to_come.nothing_taken c k d.there d.missing;
        nothing_begun = to_come.nothing_begun c d.there d.missing;
        all_put = λ i place.
            (let at = place-at (signalled_by (task_at job.graph t)) p i place in
            ap length (all_put job m t (ran.tasks t live.there) live.there none i at.0)
            ∙ made_many job m t i is (ran.tasks t live.there) live.there at.0
            ∙ puts-few (task_at job.graph t) (m.begun t) i (is.tasks t live.there).ends
            d.parent_plain);
        all_taken = λ k lt at.
            all_taken job m t is (ran.tasks t live.there) live.there none k lt
            ∙ plain_takes job t (m.begun t) k d.parent_plain;
      },
    )
  where
    absent : (o : Option ℕ) → not (is_some o) ≡ true → o ≡ None
    absent None e = refl
    absent (Some n) e = absurd (cc)

pub child_next : (job : Job) (m : Moment) (t c : ℕ) (event : TaskEvent) → IsGraph job.graph
    → HasRun job m → HasChildrenToCome job m → Live job m t → first_owed job m t ≡ None
    → first_due job m t ≡ Some c
    → call_register job m t c (first_missing job m c) ≡ makes event → IsNext job m event
child_next job m t c event is ran to_come live none due answer =
    by (first_missing job m c) refl (due_child job m t c is due) answer
  where
    Next : TaskEvent → Type 0
    Next e = IsNext job m e

    of : (r : Registration) → first_missing job m c ≡ Some r → IsDueChild job m t c → (b : Bool)
        → (task_at job.graph c).joins_now ≡ b → register_answer m t c r b ≡ makes event
        → IsNext job m event
    of r missing d true now e =
        let n = number_on m t r.phaser in
        let a = greatest_used (m.history r.phaser) + 1 in
        let made = accepted (child_now t r.phaser n c a) event
        (register_now_refusal (m.history r.phaser) n a) e in
        let f = find-some (λ x. not (has_registered m c x)) (registrations_at job c) r
        no_registration missing in
        let sink : (task_at job.graph c).kind ≡ Sink = ((is.tasks c d.there).now now).0 in
        let mode : r.mode ≡ Wait =
        ap (λ x. x.mode) (sym f.1.2) ∙ sink_mode job c f.1.0 is d.there sink f.1.1 in
        let next = next_child job m t c r Wait is ran to_come live none d missing made.0 (sym mode) in
        subst Next made.1 (
          next.0,
          (
            d.comes.by,
            record {
              child = next.1;
              now = now;
              nothing_taken = λ k. to_come.nothing_taken c k d.there d.missing;
            },
          ),
        )
    of r missing d false now e =
        let n = number_on m t r.phaser in
        let a = greatest_used (m.history r.phaser) + 1 in
        let made = accepted (child t r.phaser n c a r.mode) event
        (register_refusal (m.history r.phaser) n a r.mode) e in
        let next = next_child job m t c r r.mode is ran to_come live none d missing made.0 refl in
        subst Next made.1 (next.0, (d.comes.by, next.1))

    by : (o : Option Registration) → first_missing job m c ≡ o → IsDueChild job m t c
        → call_register job m t c o ≡ makes event → IsNext job m event
    by None missing d e = absurd (cc)
    by (Some r) missing d e = of r missing d (task_at job.graph c).joins_now refl e
