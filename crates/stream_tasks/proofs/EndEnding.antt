-- What was gathered and found to agree is the end of a run.
use Rattle.std.proofs.Common.{◌≡◌, ℕ, zero, suc, ◌+◌, ◌<◌, ◌≤◌, Bool, true, false, cond, List, [], ◌∷◌, Option, Some, None, ℤ, Ok, length, map, get_or, slice_get, refl, sym, ap, ◌∙◌, arith, ◌⊎◌, inl, inr}
use Rattle.std.specs.List.{All, filter, range_with_len}
use Rattle.std.specs.Prelude.{slice_index_or}
use Rattle.std.proofs.lemmas.Option.{slice_get-get_or}
use Rattle.phase_history.specs.Histories.{History}
use Rattle.phase_base.specs.Lists.{is_in}
use Rattle.graph_base.specs.Graphs.{task_at}
use Rattle.stream_eval.specs.Results.{sink_values}
use Rattle.stream_eval.specs.declared.whole.Lines.{Lines}
use Rattle.stream_lists.specs.Jobs.{Job, with_starts}
use Rattle.stream_lists.specs.Lists.{sinks_of, is_sink_at, start_in}
use Rattle.graph_runs.specs.Moments.{limits_at}
use Rattle.stream_members.specs.Members.{Spot, limits_on}
use Rattle.stream_members.specs.AnyMembers.{left_in}
use Rattle.stream_members.specs.declared.any_left.AnyLeft.{AnyLeft}
use Rattle.graph_runs.specs.Nexts.{registrations_at}
use Rattle.graph_runs.specs.TaskEnds.{TaskEnd, FounderEnd}
use Rattle.graph_runs.specs.RunEnds.{Ends, HasCome, IsRegisteredOn, HasWholeRun, IsRunEnd, HasAnswer, lines_in, start_in_end}
use Rattle.stream_tasks.specs.declared.ending.task_left.TaskKnowledge.{TaskKnowledge}
use Rattle.stream_tasks.specs.Joinings.{IsPlaced}
use Rattle.stream_tasks.specs.Gatherings.{TellsEnd, AreGathered}
use Rattle.stream_tasks.specs.RunAnswers.{AreLinesOf}
use Rattle.stream_tasks.specs.TaskLefts.{given_to, AreFoundersLeft, part_lines, lines_at, part_start}
use Rattle.stream_tasks.specs.Agreeing.{Agrees, IsNumberOfTask, AreOfTasks}
use Rattle.stream_tasks.proofs.Gathered.{below_length}

map-filtered : {Y : Type 0} (f h : ℕ → Y) (test : ℕ → Bool) (a n : ℕ)
    → ((t : ℕ) → t < a + n → f t ≡ h t)
    → map f (filter test (range_with_len a n)) ≡ map h (filter test (range_with_len a n))
map-filtered f h test a zero same = refl
map-filtered f h test a (suc n) same =
    let rest : map f (filter test (range_with_len (a + 1) n))
    ≡ map h (filter test (range_with_len (a + 1) n)) =
    map-filtered f h test (a + 1) n (λ t lt. same t (omega arith)) in
    elim (test a) as (λ b. map f (cond b (a ∷ filter test (range_with_len (a + 1) n))
    (filter test (range_with_len (a + 1) n)))
    ≡ map h (cond b (a ∷ filter test (range_with_len (a + 1) n))
    (filter test (range_with_len (a + 1) n)))) [
      | true ↦
          ap (λ y. y ∷ map f (filter test (range_with_len (a + 1) n))) (same a (omega arith))
          ∙ ap (λ ys. h a ∷ ys) rest
      | false ↦ rest
    ]

module _ (job : Job) (spots : ℕ → Spot) (founders joined : List (Option AnyLeft))
    (parts : List (Option TaskKnowledge)) (ends : Ends) (gave : ℕ → List ℕ)
    (g : AreGathered job founders joined parts ends)
    (many : length ends ≡ length job.graph.tasks)
    (agree : (c : ℕ) → c < length job.graph.tasks → Agrees job parts c)
    (founded : AreFoundersLeft job spots founders gave)
    (known : (p : ℕ) → p < length job.graph.phasers → AreOfTasks job parts p (gave p)) where
  -- the end of a part
  record HasEnd (t : ℕ) (part : TaskKnowledge) : Type 0 where
    end : TaskEnd
    has : HasCome ends t end
    tells : TellsEnd (Some part) (Some end)

  end_of_part : (t : ℕ) (part : TaskKnowledge) → IsPlaced parts t part → HasEnd t part
  end_of_part t part at =
      let low : t < length parts = below_length parts t (Some part) at in
      let same : length parts ≡ length ends = g.long in
      let is : slice_get ends t ≡ Some (get_or ends t None) =
      slice_get-get_or ends t None (omega arith) in
      by (get_or ends t None) is (g.tells t (Some part) (get_or ends t None) at is)
    where
      by : (o : Option TaskEnd) → slice_get ends t ≡ Some o → TellsEnd (Some part) o → HasEnd t part
      by None is tells = absurd tells
      by (Some end) is tells = record { end = end; has = is; tells = tells }

  record HasPartOf (t : ℕ) (end : TaskEnd) : Type 0 where
    part : TaskKnowledge
    at : IsPlaced parts t part
    tells : TellsEnd (Some part) (Some end)

  part_of_end : (t : ℕ) (end : TaskEnd) → HasCome ends t end → HasPartOf t end
  part_of_end t end has =
      let low : t < length ends = below_length ends t (Some end) has in
      let same : length parts ≡ length ends = g.long in
      let is : slice_get parts t ≡ Some (get_or parts t None) =
      slice_get-get_or parts t None (omega arith) in
      by (get_or parts t None) is (g.tells t (get_or parts t None) (Some end) is has)
    where
      by : (o : Option TaskKnowledge) → slice_get parts t ≡ Some o → TellsEnd o (Some end) → HasPartOf t end
      by None is tells = absurd tells
      by (Some part) is tells = record { part = part; at = is; tells = tells }

  whole_of : (p : ℕ) → p < length job.graph.phasers
      → (founder : FounderEnd) × (whole : History) × HasWholeRun job ends p founder whole
  whole_of p pp =
      let f = founded p pp in
      let s = g.phasers p f.0 f.1 in
      let founder : FounderEnd =
      record { number = 0; gave = gave p; seen = (left_in f.0).seen } in
      let limits : limits_on (left_in f.0).at ≡ limits_at job p =
      ap limits_on f.2.is_left.at ∙ f.2.is_left.limits in (
        founder,
        (left_in s.0).seen,
        record {
          legal = rw limits at (s.2.grown.legal (rw limits f.2.legal));
          founds = f.2.founds;
          founder_came = rw f.2.is_left.numbers_are at s.2.grown.came;
          tasks_came = λ t i n seen on. (s.2.tasks_came t i n seen on).0;
          not_founder = λ t i n seen on same.
              apart n f.0 f.2.is_left.numbers_are same (s.2.not_founder t i n seen on);
          distinct = s.2.distinct;
          gave = λ a inside. of_task p a (known p pp a inside);
        },
      )
    where
      apart : (n : ℕ) (left : AnyLeft) → (left_in left).numbers ≡ 0 ∷ [] → n ≡ 0
          → is_in n (left_in left).numbers ≡ false → ⊥
      apart n left numbers same none =
          let inside : is_in n (left_in left).numbers ≡ true =
          ap (λ k. is_in k (left_in left).numbers) same ∙ ap (is_in 0) numbers in
          let wrong : true ≡ false = sym inside ∙ none in cc

      of_task : (p a : ℕ) → IsNumberOfTask job parts p a
          → (t : ℕ) × (i : ℕ) × (seen : History) × IsRegisteredOn job ends t i p a seen
      of_task p a of =
          let e = end_of_part of.task of.part of.came in
          let k = g.tasks of.task e.end e.has in
          let task : e.end.task ≡ of.task = k.0 in
          let few : of.has.i < length (registrations_at job of.task) = of.has.few in
          let all : length e.end.seen ≡ length (registrations_at job e.end.task) =
          k.2.1.long in
          let same : length (registrations_at job e.end.task) ≡ length (registrations_at job of.task) =
          ap (λ t. length (registrations_at job t)) task in (
            of.task,
            of.has.i,
            get_or e.end.seen of.has.i [],
            record {
              end = e.end;
              came = e.has;
              few = of.has.few;
              phaser = of.has.phaser;
              number = ap (λ l. slice_get l of.has.i) e.tells.2 ∙ of.has.number;
              saw = slice_get-get_or e.end.seen of.has.i [] (omega arith);
            },
          )

  pub is_run_end : IsRunEnd job ends
  is_run_end = record {
    tasks = g.tasks;
    phasers = whole_of;
    roots = λ t there root.
        (let found = (agree t there).root root in
        let e = end_of_part t found.0 found.1 in (e.end, e.has));
    parents = λ c u end has e.
        (let mine = part_of_end c end has in
        let there : c < length job.graph.tasks = (g.tasks c end has).1 in
        let above = (agree c there).parent u mine.part mine.at e in
        let other = end_of_part u.task above.0 above.1 in
        let same : other.end.begun ≡ above.0.begun = other.tells.0 in
        let enough : u.at ≤ above.0.begun = above.2 in
        (other.end, other.has, omega arith));
    children = λ c u end there e has.
        (let above = part_of_end u.task end has in
        children c end above (above.tells.4 c) ((agree c there).given u above.part e above.at));
  }
    where
      children : (c : ℕ) (end : TaskEnd) {t : ℕ} (above : HasPartOf t end)
          → end.given c ≡ given_to above.part.given.items c
          → (given_to above.part.given.items c ≡ [])
          ⊎ ((other : TaskKnowledge) × IsPlaced parts c other
          × (other.numbers.items ≡ given_to above.part.given.items c))
          → (end.given c ≡ [])
          ⊎ ((other : TaskEnd) × HasCome ends c other × (other.numbers ≡ end.given c))
      children c end above same (inl none) = inl (same ∙ none)
      children c end above same (inr other) =
          let e = end_of_part c other.0 other.1 in
          inr (e.end, e.has, e.tells.2 ∙ (other.2 ∙ sym same))

  pub lines_are : (t : ℕ) → t < length job.graph.tasks → lines_in (slice_get ends t) ≡ lines_at parts t
  lines_are t there =
      let same : length parts ≡ length ends = g.long in
      let is : slice_get ends t ≡ Some (get_or ends t None) =
      slice_get-get_or ends t None (omega arith) in
      let at : slice_get parts t ≡ Some (get_or parts t None) =
      slice_get-get_or parts t None (omega arith) in
      ap lines_in is ∙ by (get_or ends t None) (get_or parts t None)
      (g.tells t (get_or parts t None) (get_or ends t None) at is)
    where
      by : (o : Option TaskEnd) (p : Option TaskKnowledge) → TellsEnd p o → lines_in (Some o) ≡ part_lines p
      by None None tells = refl
      by None (Some part) tells = absurd tells
      by (Some end) None tells = absurd tells
      by (Some end) (Some part) tells = tells.3

  -- so is where each began that joins now
  starts_are : (t : ℕ) → t < length job.graph.tasks
      → part_start (task_at job.graph t).joins_now (get_or parts t None)
      ≡ start_in_end (task_at job.graph t).joins_now (slice_get ends t)
  starts_are t there =
      let joins = (task_at job.graph t).joins_now in
      let same : length parts ≡ length ends = g.long in
      let is : slice_get ends t ≡ Some (get_or ends t None) =
      slice_get-get_or ends t None (omega arith) in
      let at : slice_get parts t ≡ Some (get_or parts t None) =
      slice_get-get_or parts t None (omega arith) in
      by joins (get_or ends t None) (get_or parts t None)
      (g.tells t (get_or parts t None) (get_or ends t None) at is)
      ∙ ap (λ o. start_in_end joins o) (sym is)
    where
      by : (joins : Bool) (o : Option TaskEnd) (p : Option TaskKnowledge) → TellsEnd p o
          → part_start joins p ≡ start_in_end joins (Some o)
      by true None None tells = refl
      by true None (Some part) tells = absurd tells
      by true (Some end) None tells = absurd tells
      by true (Some end) (Some part) tells = ap Some (sym tells.1)
      by false None None tells = refl
      by false None (Some part) tells = refl
      by false (Some end) None tells = refl
      by false (Some end) (Some part) tells = refl

  -- the lines of the sinks are those of the parts
  pub sinks_are : map {B = ℕ × List ℤ} (λ t. (t, lines_in (slice_get ends t))) (sinks_of job)
      ≡ map {B = ℕ × List ℤ} (λ t. (t, lines_at parts t)) (sinks_of job)
  sinks_are =
      let told : ℕ → ℕ × List ℤ = λ t. (t, lines_in (slice_get ends t)) in
      let known : ℕ → ℕ × List ℤ = λ t. (t, lines_at parts t) in
      map-filtered told known (is_sink_at job) 0 (length job.graph.tasks)
      (λ t lt. (let there : t < length job.graph.tasks = omega arith in
      let pair : List ℤ → ℕ × List ℤ = λ l. (t, l) in
      ap pair (lines_are t there)))

  -- what was told of the sinks is the answer
  pub are_lines : HasAnswer job ends → (lines : List Lines)
      → map sink_values lines ≡ map (λ t. (t, lines_at parts t)) (sinks_of job)
      → All (λ line. line.start
      ≡ part_start (task_at job.graph line.task).joins_now (get_or parts line.task None)) lines
      → All (λ line. line.task < length job.graph.tasks) lines → AreLinesOf job lines
  are_lines answer lines values starts there = record {
    starts = answer.starts;
    answer = answer.answer ∙ ap (λ told. Ok told) (sinks_are ∙ sym values);
    told = began;
    in_time = λ i line lt start is.
        answer.in_time (slice_index_or lines i line).task start (there i line lt)
        (sym (began i line lt) ∙ is);
  }
    where
      began : All (λ line. line.start ≡ start_in (with_starts answer.starts job) line.task) lines
      began i line lt =
          let t = (slice_index_or lines i line).task in
          starts i line lt ∙ starts_are t (there i line lt) ∙ answer.began t (there i line lt)
