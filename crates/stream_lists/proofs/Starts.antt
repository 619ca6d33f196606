-- The phases at which sinks join now move those sinks alone: the lists of the phasers are as long,
-- no other task begins elsewhere, and the same tasks meet.
use Rattle.std.proofs.Common.{◌-◌, ◌≡◌, ℕ, zero, suc, ◌+◌, ◌<◌, ◌≤◌, ◌⊎◌, inl, inr, Bool, true, false, ◌&&◌, ◌||◌, cond, List, [], ◌∷◌, ◌++◌, length, map, get_or, Option, Some, None, refl, sym, ap, ◌∙◌, arith}
use Rattle.std.specs.Prelude.{nat_le, max, if◌then◌else◌}
use Rattle.std.specs.List.{range_with_len, fold, list_any, find}
use Rattle.std.specs.Option.{option_map}
use Rattle.graph_base.specs.Graphs.{Task, task_at, phaser_at}
use Rattle.graph_base.specs.TaskLines.{IsGraph, IsTaskLine, IsParent}
use Rattle.graph_base.specs.declared.line.Parent.{Parent}
use Rattle.stream_lists.specs.declared.span.Span.{Span}
use Rattle.graph_base.specs.declared.line.Kind.TheVariants.{Sink}
use Rattle.stream_lists.specs.Jobs.{Job, samples_at, start_at, index_in, with_starts, least}
use Rattle.stream_lists.specs.Spans.{nowhere, offset_of, span_at, span_in, spans_over, spans_of, lengths_of, end_of, end_on, length_on, greatest, signalled_by, enough_for, values_from}
use Rattle.stream_lists.specs.Meetings.{overlap, meet_on, meets_on, meets_above, meeting_line, is_any}
use Rattle.stream_lists.proofs.Growing.{map-same}
use Rattle.stream_lists.proofs.SpansAbove.{parent-is, same_offset, spans_are, spans_all}
use Rattle.stream_lists.proofs.EachPhase.{signaller_stays, overlap_parts}
use Rattle.stream_lists.proofs.Basics.{cut_less}

-- ---- tasks that do not join now

-- over lists of any lengths they stand where they did
pub others_span : (job : Job) (starts : List ℕ) (xs : List ℕ) → IsGraph job.graph
    → (limit t : ℕ) → t < limit → t < length job.graph.tasks
    → (task_at job.graph t).joins_now ≡ false
    → get_or (spans_over (with_starts starts job) xs) t nowhere
    ≡ get_or (spans_over job xs) t nowhere
others_span job starts xs is zero t below there stays = absurd (omega arith)
others_span job starts xs is (suc limit) t below there stays =
    let other = with_starts starts job in
    let task = task_at job.graph t in
    let line : IsTaskLine job.graph t task = is.tasks t there in
    let first : start_at other t ≡ start_at job t = rw stays refl in
    spans_are other xs t is there
    ∙ (ap (λ n. span_at task (length (samples_at job t)) xs
    (offset_of (spans_over other xs) n task.parent)) first
    ∙ ap (span_at task (length (samples_at job t)) xs)
    (same_offset (spans_over other xs) (spans_over job xs) (start_at job t) task.parent
    (λ u e. (let parent : IsParent job.graph t task u = parent-is job.graph t task u line e in
    let above : u.task < t = parent.above in
    others_span job starts xs is limit u.task (omega arith) (omega arith) parent.stays))))
    ∙ sym (spans_are job xs t is there)

-- and end where they did; a task that joins now signals nothing
pub others_end : (job : Job) (starts : List ℕ) (xs : List ℕ) (p t : ℕ) → IsGraph job.graph
    → t < length job.graph.tasks
    → end_of job.graph (spans_over (with_starts starts job) xs) p t
    ≡ end_of job.graph (spans_over job xs) p t
others_end job starts xs p t is there =
    by (index_in (signalled_by (task_at job.graph t)) p) refl
  where
    by : (place : Option ℕ) → index_in (signalled_by (task_at job.graph t)) p ≡ place
        → end_on (task_at job.graph t)
        (get_or (spans_over (with_starts starts job) xs) t nowhere) place
        ≡ end_on (task_at job.graph t) (get_or (spans_over job xs) t nowhere) place
    by None e = refl
    by (Some j) e =
        ap (λ (s : Span). end_on (task_at job.graph t) s (Some j))
        (others_span job starts xs is (suc t) t (omega arith) there
        (signaller_stays job.graph t p j is there e))

-- ---- lengths

pub fold-same : {X : Type 0} (f g : List X → ℕ → List X) (ps : List ℕ) (xs : List X)
    → ((ys : List X) (p : ℕ) → f ys p ≡ g ys p) → fold f xs ps ≡ fold g xs ps
fold-same f g [] xs same = refl
fold-same f g (p ∷ ps) xs same =
    ap (λ ys. fold f ys ps) (same xs p) ∙ fold-same f g ps (g xs p) same

pub lengths_stay : (job : Job) (starts : List ℕ) → IsGraph job.graph
    → lengths_of (with_starts starts job) ≡ lengths_of job
lengths_stay job starts is =
    fold-same (λ above p. above ++ length_on job.graph (spans_over (with_starts starts job) above) p
    ∷ [])
    (λ above p. above ++ length_on job.graph (spans_over job above) p ∷ [])
    (range_with_len 0 (length job.graph.phasers)) []
    (λ above p. ap (λ n. above ++ n ∷ []) (ap greatest
    (map-same (end_of job.graph (spans_over (with_starts starts job) above) p)
    (end_of job.graph (spans_over job above) p) 0 (length job.graph.tasks)
    (λ t less. others_end job starts above p t is (omega arith)))))

-- each task that does not join now has its span
pub others_stay : (job : Job) (starts : List ℕ) (t : ℕ) → IsGraph job.graph
    → t < length job.graph.tasks → (task_at job.graph t).joins_now ≡ false
    → get_or (spans_of (with_starts starts job)) t nowhere ≡ get_or (spans_of job) t nowhere
others_stay job starts t is there stays =
    ap (λ xs. get_or (spans_over (with_starts starts job) xs) t nowhere)
    (lengths_stay job starts is)
    ∙ others_span job starts (lengths_of job) is (suc t) t (omega arith) there stays

pub ends_stay : (job : Job) (starts : List ℕ) (p t : ℕ) → IsGraph job.graph
    → t < length job.graph.tasks
    → end_of job.graph (spans_of (with_starts starts job)) p t
    ≡ end_of job.graph (spans_of job) p t
ends_stay job starts p t is there =
    ap (λ xs. end_of job.graph (spans_over (with_starts starts job) xs) p t)
    (lengths_stay job starts is)
    ∙ others_end job starts (lengths_of job) p t is there

-- ---- meetings

-- who has no value meets nobody
nothing_met : (a b c d : ℕ) → (b ≡ 0) ⊎ (d ≡ 0) → overlap a b c d ≡ false
nothing_met a b c d none = by (overlap a b c d) refl none
  where
    by : (o : Bool) → overlap a b c d ≡ o → (b ≡ 0) ⊎ (d ≡ 0) → overlap a b c d ≡ false
    by false e none = e
    by true e (inl none) =
        let one : a < b = (overlap_parts a b c d e).0 in absurd (omega arith)
    by true e (inr none) =
        let two : c < d = (overlap_parts a b c d e).1 in absurd (omega arith)

-- a task that joins now ends nowhere
now_ends : (job : Job) (p t : ℕ) → IsGraph job.graph → t < length job.graph.tasks
    → (task_at job.graph t).joins_now ≡ true → end_of job.graph (spans_of job) p t ≡ 0
now_ends job p t is there now = by (index_in (signalled_by (task_at job.graph t)) p) refl
  where
    by : (place : Option ℕ) → index_in (signalled_by (task_at job.graph t)) p ≡ place
        → end_on (task_at job.graph t) (get_or (spans_of job) t nowhere) place ≡ 0
    by None e = refl
    by (Some j) e =
        absurd (let b : true ≡ false = sym now ∙ signaller_stays job.graph t p j is there e in cc)

pub meet_stays : (job : Job) (starts : List ℕ) (t p u : ℕ) → IsGraph job.graph
    → t < length job.graph.tasks → u < length job.graph.tasks
    → meet_on job.graph (spans_of (with_starts starts job)) t p u
    ≡ meet_on job.graph (spans_of job) t p u
meet_stays job starts t p u is there there_u =
    by (task_at job.graph t).joins_now (task_at job.graph u).joins_now refl refl
  where
    other : Job
    other = with_starts starts job

    dead : (end_of job.graph (spans_of job) p t ≡ 0) ⊎ (end_of job.graph (spans_of job) p u ≡ 0)
        → (end_of job.graph (spans_of (with_starts starts job)) p t ≡ 0)
        ⊎ (end_of job.graph (spans_of (with_starts starts job)) p u ≡ 0)
        → meet_on job.graph (spans_of (with_starts starts job)) t p u
        ≡ meet_on job.graph (spans_of job) t p u
    dead none none_other =
        nothing_met (get_or (spans_of (with_starts starts job)) t nowhere).offset
        (end_of job.graph (spans_of (with_starts starts job)) p t)
        (get_or (spans_of (with_starts starts job)) u nowhere).offset
        (end_of job.graph (spans_of (with_starts starts job)) p u) none_other
        ∙ sym (nothing_met (get_or (spans_of job) t nowhere).offset
        (end_of job.graph (spans_of job) p t) (get_or (spans_of job) u nowhere).offset
        (end_of job.graph (spans_of job) p u) none)

    by : (a b : Bool) → (task_at job.graph t).joins_now ≡ a → (task_at job.graph u).joins_now ≡ b
        → meet_on job.graph (spans_of (with_starts starts job)) t p u
        ≡ meet_on job.graph (spans_of job) t p u
    by true b first second =
        dead (inl (now_ends job p t is there first))
        (inl (now_ends (with_starts starts job) p t is there first))
    by false true first second =
        dead (inr (now_ends job p u is there_u second))
        (inr (now_ends (with_starts starts job) p u is there_u second))
    by false false first second =
        ap (λ (s : Span). overlap s.offset (end_of job.graph (spans_of (with_starts starts job)) p
        t)
        (get_or (spans_of (with_starts starts job)) u nowhere).offset
        (end_of job.graph (spans_of (with_starts starts job)) p u))
        (others_stay job starts t is there first)
        ∙ ap (λ (s : Span). overlap (get_or (spans_of job) t nowhere).offset
        (end_of job.graph (spans_of (with_starts starts job)) p t) s.offset
        (end_of job.graph (spans_of (with_starts starts job)) p u))
        (others_stay job starts u is there_u second)
        ∙ ap (λ n. overlap (get_or (spans_of job) t nowhere).offset n
        (get_or (spans_of job) u nowhere).offset
        (end_of job.graph (spans_of (with_starts starts job)) p u))
        (ends_stay job starts p t is there)
        ∙ ap (λ n. overlap (get_or (spans_of job) t nowhere).offset
        (end_of job.graph (spans_of job) p t) (get_or (spans_of job) u nowhere).offset n)
        (ends_stay job starts p u is there_u)

any-same : (f g : ℕ → Bool) (a n : ℕ) → ((t : ℕ) → t < a + n → f t ≡ g t)
    → list_any f (range_with_len a n) ≡ list_any g (range_with_len a n)
any-same f g a zero same = refl
any-same f g a (suc n) same =
    ap (λ b. b || list_any f (range_with_len (a + 1) n)) (same a (omega arith))
    ∙ ap (λ b. g a || b) (any-same f g (a + 1) n (λ t lt. same t (omega arith)))

find-same : (f g : ℕ → Bool) (a n : ℕ) → ((t : ℕ) → t < a + n → f t ≡ g t)
    → find f (range_with_len a n) ≡ find g (range_with_len a n)
find-same f g a zero same = refl
find-same f g a (suc n) same =
    ap (λ b. cond b (Some a) (find f (range_with_len (a + 1) n))) (same a (omega arith))
    ∙ ap (λ o. cond (g a) (Some a) o) (find-same f g (a + 1) n (λ t lt. same t (omega arith)))

-- the same tasks meet
pub meetings_stay : (job : Job) (starts : List ℕ) → IsGraph job.graph
    → meeting_line (with_starts starts job) ≡ meeting_line job
meetings_stay job starts is =
    ap (option_map (λ t. (task_at job.graph t).line))
    (find-same (meets_above job.graph (spans_of (with_starts starts job)))
    (meets_above job.graph (spans_of job)) 0 (length job.graph.tasks)
    (λ t lt. any-same (meets_on job.graph (spans_of (with_starts starts job)) t)
    (meets_on job.graph (spans_of job) t) 0 (length job.graph.phasers)
    (λ p pp. ap (λ b. is_any (phaser_at job.graph p).op && b)
    (any-same (meet_on job.graph (spans_of (with_starts starts job)) t p)
    (meet_on job.graph (spans_of job) t p) 0 t
    (λ u below. meet_stays job starts t p u is (omega arith) (omega arith))))))

-- ---- steps

first_less : (lengths ps : List ℕ) (a b : ℕ) → b ≤ a
    → get_or (map (λ p. get_or lengths p 0 - a) ps) 0 0
    ≤ get_or (map (λ p. get_or lengths p 0 - b) ps) 0 0
first_less lengths [] a b less = omega arith
first_less lengths (p ∷ ps) a b less = omega arith

-- a sink that begins later makes no more steps
later_steps : (task : Task) (n : ℕ) (lengths : List ℕ) (a b : ℕ) → task.kind ≡ Sink → b ≤ a
    → (span_at task n lengths (Some a)).steps ≤ (span_at task n lengths (Some b)).steps
later_steps task n lengths a b kind less =
    let enough : (x : ℕ) → enough_for task n (values_from task lengths x)
    ≡ get_or (values_from task lengths x) 0 0 = λ x. rw kind refl in
    let one = enough a in
    let two = enough b in
    let few : get_or (values_from task lengths a) 0 0 ≤ get_or (values_from task lengths b) 0 0 =
    first_less lengths task.inputs a b less in
    cut_less task.until (enough_for task n (values_from task lengths a))
    (enough_for task n (values_from task lengths b)) (omega arith)

gated : (task : Task) (n : ℕ) (lengths : List ℕ) (b : Bool) (start at : ℕ) → task.kind ≡ Sink
    → (span_at task n lengths (if b then Some (max start at) else None)).steps
    ≤ (span_at task n lengths (if b then Some (max 0 at) else None)).steps
gated task n lengths true start at kind =
    later_steps task n lengths (max start at) (max 0 at) kind (omega arith)
gated task n lengths false start at kind = omega arith

below_parent : (task : Task) (n : ℕ) (lengths : List ℕ) (above : List Span) (start : ℕ)
    (parent : Option Parent) → task.kind ≡ Sink
    → (span_at task n lengths (offset_of above start parent)).steps
    ≤ (span_at task n lengths (offset_of above 0 parent)).steps
below_parent task n lengths above start None kind = omega arith
below_parent task n lengths above start (Some u) kind =
    let s : Span = get_or above u.task nowhere in
    gated task n lengths (s.live && nat_le u.at s.steps) start (s.offset + u.at) kind

-- a parent joins nothing now
pub same_above : (job : Job) (starts : List ℕ) (t : ℕ) (task : Task) → IsTaskLine job.graph t task
    → t < length job.graph.tasks → IsGraph job.graph → (u : Parent) → task.parent ≡ Some u
    → get_or (spans_of (with_starts starts job)) u.task nowhere
    ≡ get_or (spans_of (least job)) u.task nowhere
same_above job starts t task line there is u o =
    let parent : IsParent job.graph t task u = parent-is job.graph t task u line o in
    let less : u.task < t = parent.above in
    let one = others_stay job starts u.task is (omega arith) parent.stays in
    let two = others_stay job [] u.task is (omega arith) parent.stays in
    one ∙ sym two

-- with the least starts each task makes the most steps
pub fewer_steps : (job : Job) (starts : List ℕ) (t : ℕ) → IsGraph job.graph
    → t < length job.graph.tasks
    → (span_in (with_starts starts job) t).steps ≤ (span_in (least job) t).steps
fewer_steps job starts t is there = by (task_at job.graph t).joins_now refl
  where
    by : (b : Bool) → (task_at job.graph t).joins_now ≡ b
        → (span_in (with_starts starts job) t).steps ≤ (span_in (least job) t).steps
    by false e =
        let one : (span_in (with_starts starts job) t).steps ≡ (span_in job t).steps =
        ap (λ (s : Span). s.steps) (others_stay job starts t is there e) in
        let two : (span_in (least job) t).steps ≡ (span_in job t).steps =
        ap (λ (s : Span). s.steps) (others_stay job [] t is there e) in
        omega arith
    by true e =
        let task = task_at job.graph t in
        let line : IsTaskLine job.graph t task = is.tasks t there in
        let kind : task.kind ≡ Sink = (line.now e).0 in
        let n = length (samples_at job t) in
        let j1 = with_starts starts job in
        let j0 = least job in
        let start = start_at j1 t in
        let none : start_at j0 t ≡ 0 = rw e refl in
        let above : (u : Parent) → task.parent ≡ Some u
        → get_or (spans_of j1) u.task nowhere ≡ get_or (spans_of j0) u.task nowhere =
        same_above job starts t task line there is in
        let one : span_in j1 t ≡ span_at task n (lengths_of job)
        (offset_of (spans_of j0) start task.parent) =
        spans_all j1 t is there
        ∙ ap (λ xs. span_at task n xs (offset_of (spans_of j1) start task.parent))
        (lengths_stay job starts is)
        ∙ ap (span_at task n (lengths_of job))
        (same_offset (spans_of j1) (spans_of j0) start task.parent above) in
        let two : span_in j0 t ≡ span_at task n (lengths_of job)
        (offset_of (spans_of j0) 0 task.parent) =
        spans_all j0 t is there
        ∙ ap (λ xs. span_at task n xs (offset_of (spans_of j0) (start_at j0 t) task.parent))
        (lengths_stay job [] is)
        ∙ ap (λ s. span_at task n (lengths_of job) (offset_of (spans_of j0) s task.parent)) none in
        let few = below_parent task n (lengths_of job) (spans_of j0) start task.parent kind in
        let first : (span_in j1 t).steps
        ≡ (span_at task n (lengths_of job) (offset_of (spans_of j0) start task.parent)).steps =
        ap (λ (s : Span). s.steps) one in
        let second : (span_in j0 t).steps
        ≡ (span_at task n (lengths_of job) (offset_of (spans_of j0) 0 task.parent)).steps =
        ap (λ (s : Span). s.steps) two in
        omega arith
