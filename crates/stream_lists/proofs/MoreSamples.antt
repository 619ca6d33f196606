-- More samples make lists longer, and let no task begin elsewhere: so who meets nobody with the longest
-- samples meets nobody with fewer.
use Rattle.std.proofs.Common.{◌≡◌, ℕ, ℤ, zero, suc, ◌+◌, ◌-◌, ◌*◌, ◌/◌, ◌<◌, ◌≤◌, Bool, true, false, ◌&&◌, ◌||◌, cond, List, [], ◌∷◌, ◌++◌, length, map, get_or, Option, Some, None, refl, sym, ap, subst, ◌∙◌, arith}
use Rattle.std.specs.Prelude.{min, max, nat_le, nat_lt, if◌then◌else◌}
use Rattle.std.specs.List.{range_with_len, fold, list_any, find}
use Rattle.std.specs.Option.{option_map}
use Rattle.std.proofs.lemmas.Bool.{and_parts, or_parts}
use Rattle.std.proofs.lemmas.Bool.Decides.{nat_tests}
use Rattle.std.proofs.Math.Nat.{div-zero}
use Rattle.std.proofs.lemmas.Nat.{div-add-mod', mul-le, le-div}
use Rattle.graph_base.specs.Graphs.{Task, task_at, phaser_at}
use Rattle.graph_base.specs.TaskLines.{IsGraph, IsTaskLine, IsParent}
use Rattle.graph_base.specs.declared.line.Kind.{Kind}
use Rattle.graph_base.specs.declared.line.Kind.TheVariants.{Source, Fir, Split, Decimate, Join, Peer, Sink}
use Rattle.graph_base.specs.declared.line.Parent.{Parent}
use Rattle.stream_lists.specs.Jobs.{Job, samples_at, samples_in, start_at, index_in, with_samples}
use Rattle.stream_lists.specs.declared.span.Span.{Span}
use Rattle.stream_lists.specs.Spans.{nowhere, turns_below, puts_on, run_out, first_run_out, enough_for, offset_of, values_from, span_at, span_of, spans_over, spans_of, lengths_of, lengths_up_to, end_on, end_of, length_on, signalled_by}
use Rattle.stream_lists.specs.Meetings.{is_any, meet_on, meets_on, meets_above, meeting_line}
use Rattle.stream_lists.proofs.EachPhase.{overlap_parts, no_line}
use Rattle.stream_lists.proofs.Growing.{length-grown, grown}
use Rattle.stream_lists.proofs.Firsts.{fold-range_more}
use Rattle.stream_lists.proofs.SpansAbove.{parent-is, spans_are}
use Rattle.stream_lists.proofs.Basics.{cut_less}

-- ---- numbers

map_less : (f g : ℕ → ℕ) (ps : List ℕ) → ((p : ℕ) → f p ≤ g p) → (k : ℕ)
    → get_or (map f ps) k 0 ≤ get_or (map g ps) k 0
map_less f g [] less k = omega arith
map_less f g (p ∷ ps) less zero = less p
map_less f g (p ∷ ps) less (suc k) = map_less f g ps less k

length_same : (f g : ℕ → ℕ) (ps : List ℕ) → length (map f ps) ≡ length (map g ps)
length_same f g [] = refl
length_same f g (p ∷ ps) = ap suc (length_same f g ps)

min_less : (f g : ℕ → ℕ) (ks : List ℕ) (a b : ℕ) → a ≤ b → ((k : ℕ) → f k ≤ g k)
    → fold min a (map f ks) ≤ fold min b (map g ks)
min_less f g [] a b le less = le
min_less f g (k ∷ ks) a b le less =
    min_less f g ks (min a (f k)) (min b (g k)) (let one = less k in omega arith) less

max_less : (f g : ℕ → ℕ) (from many a b : ℕ) → a ≤ b
    → ((t : ℕ) → t < from + many → f t ≤ g t)
    → fold max a (map f (range_with_len from many)) ≤ fold max b (map g (range_with_len from many))
max_less f g from zero a b le less = le
max_less f g from (suc many) a b le less =
    max_less f g (from + 1) many (max a (f from)) (max b (g from))
    (let one = less from (omega arith) in omega arith) (λ t lt. less t (omega arith))

push_less : (xs ys : List ℕ) (a b : ℕ) → length xs ≡ length ys → ((k : ℕ) → get_or xs k 0 ≤ get_or ys k 0)
    → a ≤ b → (k : ℕ) → get_or (xs ++ a ∷ []) k 0 ≤ get_or (ys ++ b ∷ []) k 0
push_less [] [] a b same less le zero = le
push_less [] [] a b same less le (suc k) = omega arith
push_less [] (y ∷ ys) a b same less le k = absurd (omega arith)
push_less (x ∷ xs) [] a b same less le k = absurd (omega arith)
push_less (x ∷ xs) (y ∷ ys) a b same less le zero = less 0
push_less (x ∷ xs) (y ∷ ys) a b same less le (suc k) =
    push_less xs ys a b (omega arith) (λ i. less (suc i)) le k

div_less : (m a b : ℕ) → a ≤ b → a / m ≤ b / m
div_less zero a b le = omega (arith, div-zero a)
div_less (suc m) a b le =
    let whole = div-add-mod' a (suc m) in
    le-div (a / suc m) b (suc m) (omega arith) (omega arith)

-- ---- spans

-- a task goes as far, or further, where it goes at all
pub record IsWithin (a b : Span) : Type 0 where
  pub live : a.live ≡ true → b.live ≡ true
  pub offset : a.live ≡ true → a.offset ≡ b.offset
  pub steps : a.steps ≤ b.steps

-- no source has fewer samples
abbrev pub HasNoFewer : Job → List (List ℤ) → Type 0
HasNoFewer job more = (t : ℕ) → t < length job.graph.tasks → (task_at job.graph t).kind ≡ Source
    → length (samples_at job t) ≤ length (samples_in job more t)

run_outs : (xs ys : List ℕ) → length xs ≡ length ys → ((k : ℕ) → get_or xs k 0 ≤ get_or ys k 0) → (k : ℕ)
    → run_out xs k ≤ run_out ys k
run_outs xs ys same less k =
    let product : length xs * get_or xs k 0 ≤ length ys * get_or ys k 0 =
    mul-le (length xs) (get_or xs k 0) (length ys) (get_or ys k 0) (omega arith) (less k) in
    omega arith

enough_less : (task : Task) (n n' offset : ℕ) (xs ys : List ℕ) → (task.kind ≡ Source → n ≤ n')
    → ((p : ℕ) → get_or xs p 0 ≤ get_or ys p 0)
    → enough_for task n (values_from task xs offset) ≤ enough_for task n' (values_from task ys offset)
enough_less task n n' offset xs ys few less = by task.kind refl
  where
    each : (p : ℕ) → get_or xs p 0 - offset ≤ get_or ys p 0 - offset
    each p = let one = less p in omega arith

    vs : List ℕ
    vs = values_from task xs offset

    ws : List ℕ
    ws = values_from task ys offset

    fewer : (k : ℕ) → get_or vs k 0 ≤ get_or ws k 0
    fewer =
        map_less (λ p. get_or xs p 0 - offset) (λ p. get_or ys p 0 - offset) task.inputs each

    first : ((k : ℕ) → get_or vs k 0 ≤ get_or ws k 0) → enough_for task n vs ≡ get_or vs 0 0
        → enough_for task n' ws ≡ get_or ws 0 0 → enough_for task n vs ≤ enough_for task n' ws
    first all a b = let one = all 0 in omega arith

    ended : ((k : ℕ) → run_out vs k ≤ run_out ws k) → length vs ≡ length ws
        → enough_for task n vs ≡ first_run_out vs → enough_for task n' ws ≡ first_run_out ws
        → enough_for task n vs ≤ enough_for task n' ws
    ended all same a b =
        let R : ℕ → Type 0 =
        λ k. fold min (run_out vs 0) (map (run_out vs) (range_with_len 0 (length vs)))
        ≤ fold min (run_out ws 0) (map (run_out ws) (range_with_len 0 k)) in
        let fewer : first_run_out vs ≤ first_run_out ws =
        subst R same (min_less (run_out vs) (run_out ws) (range_with_len 0 (length vs))
        (run_out vs 0) (run_out ws 0) (all 0) all) in
        omega arith

    by : (kind : Kind) → task.kind ≡ kind → enough_for task n vs ≤ enough_for task n' ws
    by Source e =
        let a : enough_for task n vs ≡ n = rw e refl in
        let b : enough_for task n' ws ≡ n' = rw e refl in
        let le = few e in omega arith
    by Fir e = first fewer (rw e refl) (rw e refl)
    by Split e = first fewer (rw e refl) (rw e refl)
    by Decimate e = first fewer (rw e refl) (rw e refl)
    by Peer e = first fewer (rw e refl) (rw e refl)
    by Sink e = first fewer (rw e refl) (rw e refl)
    by Join e =
        let same : length vs ≡ length ws =
        length_same (λ p. get_or xs p 0 - offset) (λ p. get_or ys p 0 - offset) task.inputs in
        ended (run_outs vs ws same fewer) same (rw e refl) (rw e refl)

-- who begins with fewer begins there with more
offset_less : (xs ys : List Span) (start n : ℕ) (parent : Option Parent)
    → ((u : Parent) → parent ≡ Some u
    → IsWithin (get_or xs u.task nowhere) (get_or ys u.task nowhere))
    → offset_of xs start parent ≡ Some n → offset_of ys start parent ≡ Some n
offset_less xs ys start n None each e = e
offset_less xs ys start n (Some u) each e =
    by ((get_or xs u.task nowhere).live && nat_le u.at (get_or xs u.task nowhere).steps) refl e
    (each u refl)
  where
    by : (b : Bool)
        → ((get_or xs u.task nowhere).live && nat_le u.at (get_or xs u.task nowhere).steps) ≡ b
        → (if b then Some (max start ((get_or xs u.task nowhere).offset + u.at)) else None) ≡ Some n
        → IsWithin (get_or xs u.task nowhere) (get_or ys u.task nowhere)
        → offset_of ys start (Some u) ≡ Some n
    by false dead f within = absurd (cc)
    by true live f within =
        let a = get_or xs u.task nowhere in
        let b = get_or ys u.task nowhere in
        let parts = and_parts a.live (nat_le u.at a.steps) live in
        let le : u.at ≤ a.steps = grind (arith, nat_tests, parts.1) in
        let longer : a.steps ≤ b.steps = within.steps in
        let test : nat_le u.at b.steps ≡ true = grind (arith, nat_tests, le, longer) in
        let both : (b.live && nat_le u.at b.steps) ≡ true =
        ap (λ x. x && nat_le u.at b.steps) (within.live parts.0) ∙ test in
        ap (λ x. if x then Some (max start (b.offset + u.at)) else None) both
        ∙ ap (λ x. Some (max start (x + u.at))) (sym (within.offset parts.0)) ∙ f

span_less : (task : Task) (n n' : ℕ) (xs ys : List ℕ) (o o' : Option ℕ)
    → (task.kind ≡ Source → n ≤ n') → ((p : ℕ) → get_or xs p 0 ≤ get_or ys p 0)
    → ((k : ℕ) → o ≡ Some k → o' ≡ Some k)
    → IsWithin (span_at task n xs o) (span_at task n' ys o')
span_less task n n' xs ys None o' few less begins = record {
  live = λ e. absurd (cc);
  offset = λ e. absurd (cc);
  steps = omega arith;
}
span_less task n n' xs ys (Some k) o' few less begins =
    let S : Option ℕ → Type 0 = λ q. IsWithin (span_at task n xs (Some k)) (span_at task n' ys q) in
    subst S (sym (begins k refl)) (record {
      live = λ e. refl;
      offset = λ e. refl;
      steps =
          cut_less task.until (enough_for task n (values_from task xs k))
          (enough_for task n' (values_from task ys k)) (enough_less task n n' k xs ys few less);
    })

pub spans_less : (job : Job) (more : List (List ℤ)) (xs ys : List ℕ) → IsGraph job.graph
    → HasNoFewer job more → ((p : ℕ) → get_or xs p 0 ≤ get_or ys p 0)
    → (limit t : ℕ) → t < limit → t < length job.graph.tasks
    → IsWithin (get_or (spans_over job xs) t nowhere)
    (get_or (spans_over (with_samples more job) ys) t nowhere)
spans_less job more xs ys is few less zero t below there = absurd (omega arith)
spans_less job more xs ys is few less (suc limit) t below there =
    let task = task_at job.graph t in
    let line : IsTaskLine job.graph t task = is.tasks t there in
    let old = spans_over job xs in
    let new = spans_over (with_samples more job) ys in
    let A : Span → Type 0 = λ s. IsWithin s (get_or new t nowhere) in
    let B : Span → Type 0 = λ s. IsWithin (span_of job xs old t) s in
    subst A (sym (spans_are job xs t is there))
    (subst B (sym (spans_are (with_samples more job) ys t is there))
    (span_less task (length (samples_at job t)) (length (samples_in job more t)) xs ys
    (offset_of old (start_at job t) task.parent) (offset_of new (start_at job t) task.parent)
    (few t there) less
    (λ k. offset_less old new (start_at job t) k task.parent
    (λ u e. (let parent : IsParent job.graph t task u = parent-is job.graph t task u line e in
    let above : u.task < t = parent.above in
    spans_less job more xs ys is few less limit u.task (omega arith) (omega arith))))))

-- ---- ends and lengths

turns_less : (m j n k : ℕ) → n ≤ k → turns_below m j n ≤ turns_below m j k
turns_less m j n k le = div_less m (n + (m - 1 - j)) (k + (m - 1 - j)) (omega arith)

puts_less : (task : Task) (n k j : ℕ) → n ≤ k → puts_on task n j ≤ puts_on task k j
puts_less task n k j le = by task.kind refl
  where
    plain : puts_on task n j ≡ n → puts_on task k j ≡ k → puts_on task n j ≤ puts_on task k j
    plain a b = omega arith

    turns : (m i : ℕ) → puts_on task n j ≡ turns_below m i n → puts_on task k j ≡ turns_below m i k
        → puts_on task n j ≤ puts_on task k j
    turns m i a b = let less = turns_less m i n k le in omega arith

    by : (kind : Kind) → task.kind ≡ kind → puts_on task n j ≤ puts_on task k j
    by Source e = plain (rw e refl) (rw e refl)
    by Fir e = plain (rw e refl) (rw e refl)
    by Join e = plain (rw e refl) (rw e refl)
    by Peer e = plain (rw e refl) (rw e refl)
    by Sink e = plain (rw e refl) (rw e refl)
    by Split e = turns (length task.outputs) j (rw e refl) (rw e refl)
    by Decimate e = turns task.every 0 (rw e refl) (rw e refl)

end_less : (task : Task) (a b : Span) (place : Option ℕ) → IsWithin a b
    → end_on task a place ≤ end_on task b place
end_less task a b None within = omega arith
end_less task a b (Some j) within = by a.live refl
  where
    by : (x : Bool) → a.live ≡ x → end_on task a (Some j) ≤ end_on task b (Some j)
    by false e =
        let none : end_on task a (Some j) ≡ 0 =
        ap (λ x. if x then a.offset + puts_on task a.steps j else 0) e in omega arith
    by true e =
        let old : end_on task a (Some j) ≡ a.offset + puts_on task a.steps j =
        ap (λ x. if x then a.offset + puts_on task a.steps j else 0) e in
        let new : end_on task b (Some j) ≡ b.offset + puts_on task b.steps j =
        ap (λ x. if x then b.offset + puts_on task b.steps j else 0) (within.live e) in
        let same = within.offset e in
        let puts = puts_less task a.steps b.steps j within.steps in
        omega arith

lengths_less : (job : Job) (more : List (List ℤ)) → IsGraph job.graph → HasNoFewer job more
    → (n k : ℕ) → get_or (lengths_up_to job n) k 0 ≤ get_or (lengths_up_to (with_samples more job) n) k 0
lengths_less job more is few zero k = omega arith
lengths_less job more is few (suc n) k =
    let f : List ℕ → ℕ → ℕ = λ above p. length_on job.graph (spans_over job above) p in
    let g : List ℕ → ℕ → ℕ =
    λ above p. length_on job.graph (spans_over (with_samples more job) above) p in
    let old = lengths_up_to job n in
    let new = lengths_up_to (with_samples more job) n in
    let before : (p : ℕ) → get_or old p 0 ≤ get_or new p 0 = lengths_less job more is few n in
    let next : suc n ≡ n + 1 = omega arith in
    let one : lengths_up_to job (suc n) ≡ old ++ f old n ∷ [] =
    ap (grown f) next ∙ fold-range_more (λ above p. above ++ f above p ∷ []) [] n in
    let two : lengths_up_to (with_samples more job) (suc n) ≡ new ++ g new n ∷ [] =
    ap (grown g) next ∙ fold-range_more (λ above p. above ++ g above p ∷ []) [] n in
    let same : length old ≡ length new = length-grown f n ∙ sym (length-grown g n) in
    let last : f old n ≤ g new n =
    max_less (end_of job.graph (spans_over job old) n)
    (end_of job.graph (spans_over (with_samples more job) new) n) 0 (length job.graph.tasks) 0 0
    (omega arith)
    (λ t lt. end_less (task_at job.graph t) (get_or (spans_over job old) t nowhere)
    (get_or (spans_over (with_samples more job) new) t nowhere)
    (index_in (signalled_by (task_at job.graph t)) n)
    (spans_less job more old new is few before (suc t) t (omega arith) (omega arith))) in
    let A : List ℕ → Type 0 =
    λ xs. get_or xs k 0 ≤ get_or (lengths_up_to (with_samples more job) (suc n)) k 0 in
    let B : List ℕ → Type 0 = λ ys. get_or (old ++ f old n ∷ []) k 0 ≤ get_or ys k 0 in
    subst A (sym one) (subst B (sym two) (push_less old new (f old n) (g new n) same before last k))

-- the span of each task
pub span_within : (job : Job) (more : List (List ℤ)) (t : ℕ) → IsGraph job.graph
    → HasNoFewer job more → t < length job.graph.tasks
    → IsWithin (get_or (spans_of job) t nowhere) (get_or (spans_of (with_samples more job)) t nowhere)
span_within job more t is few there =
    spans_less job more (lengths_of job) (lengths_of (with_samples more job)) is few
    (lengths_less job more is few (length job.graph.phasers)) (suc t) t (omega arith) there

-- ---- meetings

live_if : (task : Task) (s : Span) (place : Option ℕ) → s.offset < end_on task s place
    → s.live ≡ true
live_if task s None lt = absurd (omega arith)
live_if task s (Some j) lt = by s.live refl
  where
    by : (x : Bool) → s.live ≡ x → s.live ≡ true
    by true e = e
    by false e =
        absurd (let none : end_on task s (Some j) ≡ 0 =
        ap (λ x. if x then s.offset + puts_on task s.steps j else 0) e in omega arith)

meet_more : (job : Job) (more : List (List ℤ)) (t p u : ℕ) → IsGraph job.graph
    → HasNoFewer job more → t < length job.graph.tasks → u < length job.graph.tasks
    → meet_on job.graph (spans_of job) t p u ≡ true
    → meet_on job.graph (spans_of (with_samples more job)) t p u ≡ true
meet_more job more t p u is few there there_u e =
    let a = get_or (spans_of job) t nowhere in
    let a' = get_or (spans_of (with_samples more job)) t nowhere in
    let b = get_or (spans_of job) u nowhere in
    let b' = get_or (spans_of (with_samples more job)) u nowhere in
    let one = span_within job more t is few there in
    let two = span_within job more u is few there_u in
    let ae = end_of job.graph (spans_of job) p t in
    let be = end_of job.graph (spans_of job) p u in
    let ae' = end_of job.graph (spans_of (with_samples more job)) p t in
    let be' = end_of job.graph (spans_of (with_samples more job)) p u in
    let o = overlap_parts a.offset ae b.offset be e in
    let q1 : a.offset < ae = o.0 in
    let q2 : b.offset < be = o.1 in
    let q3 : a.offset < be = o.2 in
    let q4 : b.offset < ae = o.3 in
    let off_a : a.offset ≡ a'.offset =
    one.offset (live_if (task_at job.graph t) a (index_in (signalled_by (task_at job.graph t)) p) q1) in
    let off_b : b.offset ≡ b'.offset =
    two.offset (live_if (task_at job.graph u) b (index_in (signalled_by (task_at job.graph u)) p) q2) in
    let ends_a : ae ≤ ae' =
    end_less (task_at job.graph t) a a' (index_in (signalled_by (task_at job.graph t)) p)
    one in
    let ends_b : be ≤ be' =
    end_less (task_at job.graph u) b b' (index_in (signalled_by (task_at job.graph u)) p)
    two in
    let l1 : a'.offset < ae' = omega arith in
    let l2 : b'.offset < be' = omega arith in
    let l3 : a'.offset < be' = omega arith in
    let l4 : b'.offset < ae' = omega arith in
    let r1 : nat_lt a'.offset ae' ≡ true = grind (arith, nat_tests, l1) in
    let r2 : nat_lt b'.offset be' ≡ true = grind (arith, nat_tests, l2) in
    let r3 : nat_lt a'.offset be' ≡ true = grind (arith, nat_tests, l3) in
    let r4 : nat_lt b'.offset ae' ≡ true = grind (arith, nat_tests, l4) in
    rw (r1, r2, r3, r4) refl

-- where it does not hold of the longer, it does not of the shorter
from_true : (a b : Bool) → (a ≡ true → b ≡ true) → b ≡ false → a ≡ false
from_true false b more none = refl
from_true true b more none = let f : true ≡ false = sym (more refl) ∙ none in f

or_left : (a b : Bool) → (a || b) ≡ false → a ≡ false
or_left false b e = refl
or_left true b e = e

any_fewer : (f g : ℕ → Bool) (from many : ℕ)
    → ((t : ℕ) → t < from + many → g t ≡ false → f t ≡ false)
    → list_any g (range_with_len from many) ≡ false → list_any f (range_with_len from many) ≡ false
any_fewer f g from zero fewer none = refl
any_fewer f g from (suc many) fewer none =
    let rest = range_with_len (from + 1) many in
    ap (λ x. x || list_any f rest)
    (fewer from (omega arith) (or_left (g from) (list_any g rest) none))
    ∙ any_fewer f g (from + 1) many (λ t lt. fewer t (omega arith))
    (or_parts (g from) (list_any g rest) none).1

and_fewer : (a b c : Bool) → (c ≡ false → b ≡ false) → (a && c) ≡ false → (a && b) ≡ false
and_fewer false b c fewer none = refl
and_fewer true b c fewer none = fewer none

find_fewer : (f g : ℕ → Bool) (from many : ℕ)
    → ((t : ℕ) → t < from + many → g t ≡ false → f t ≡ false)
    → find g (range_with_len from many) ≡ None → find f (range_with_len from many) ≡ None
find_fewer f g from zero fewer none = refl
find_fewer f g from (suc many) fewer none =
    by (g from) refl (find_fewer f g (from + 1) many (λ t lt. fewer t (omega arith))) none
  where
    by : (x : Bool) → g from ≡ x
        → (find g (range_with_len (from + 1) many) ≡ None
        → find f (range_with_len (from + 1) many) ≡ None)
        → cond (g from) (Some from) (find g (range_with_len (from + 1) many)) ≡ None
        → cond (f from) (Some from) (find f (range_with_len (from + 1) many)) ≡ None
    by true e rest none =
        absurd (let it : Some from ≡ None =
        sym (ap (λ x. cond x (Some from) (find g (range_with_len (from + 1) many))) e) ∙ none in cc)
    by false e rest none =
        ap (λ x. cond x (Some from) (find f (range_with_len (from + 1) many)))
        (fewer from (omega arith) e)
        ∙ rest (sym (ap (λ x. cond x (Some from) (find g (range_with_len (from + 1) many))) e)
        ∙ none)

-- who meets nobody with the longest samples meets nobody with fewer
pub meetings_fewer : (job : Job) (more : List (List ℤ)) → IsGraph job.graph → HasNoFewer job more
    → meeting_line (with_samples more job) ≡ None → meeting_line job ≡ None
meetings_fewer job more is few none =
    let line : ℕ → ℕ = λ t. (task_at job.graph t).line in
    let tasks = length job.graph.tasks in
    let old = spans_of job in
    let new = spans_of (with_samples more job) in
    let nobody : find (meets_above job.graph new) (range_with_len 0 tasks) ≡ None =
    no_line line (find (meets_above job.graph new) (range_with_len 0 tasks)) none in
    ap (option_map line)
    (find_fewer (meets_above job.graph old) (meets_above job.graph new) 0 tasks
    (λ t lt. any_fewer (meets_on job.graph old t) (meets_on job.graph new t) 0
    (length job.graph.phasers)
    (λ p pp. and_fewer (is_any (phaser_at job.graph p).op)
    (list_any (meet_on job.graph old t p) (range_with_len 0 t))
    (list_any (meet_on job.graph new t p) (range_with_len 0 t))
    (any_fewer (meet_on job.graph old t p) (meet_on job.graph new t p) 0 t
    (λ u below. from_true (meet_on job.graph old t p u) (meet_on job.graph new t p u)
    (meet_more job more t p u is few (omega arith) (omega arith)))))) nobody)
