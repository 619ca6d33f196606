-- The line of a sink behind what the sink has handed over, and what stays when it hands over all.
use Rattle.std.proofs.Common.{◌≡◌, ◌≢◌, ℕ, ℤ, zero, suc, ◌+◌, ◌<◌, Bool, true, false, eqb, cond, List, [], ◌∷◌, ◌++◌, Some, None, length, get_or, slice_get, set, map, refl, sym, ap, subst, ◌∙◌, arith}
use Rattle.std.specs.Prelude.{vec_capacity}
use Rattle.std.specs.List.{All, filter, range_with_len}
use Rattle.std.proofs.lemmas.List.Elements.{All-get_or, All-set}
use Rattle.std.proofs.lemmas.Bool.{eqb-true, eq-eqb}
use Rattle.std.proofs.lemmas.List.{append-nil, ext_get_or, get_or-map, get_or-set_same, get_or-set_other, length-map, length-set}
use Rattle.std.proofs.lemmas.Option.{get_or_from_slice_get, same_Some, slice_get-get_or}
use Rattle.stream_eval.specs.declared.whole.Lines.{Lines}
use Rattle.stream_lists.specs.Jobs.{Job}
use Rattle.stream_lists.specs.Lists.{is_sink_at, sinks_of}
use Rattle.graph_runs.specs.Moments.{Moment}
use Rattle.graph_runs.specs.Turned.{with_at}
use Rattle.graph_runs.proofs.Turned.{at_same, at_other}
use Rattle.stream_job.specs.Machines.{HasRoom, KeepsLines, kept_behind}
use Rattle.stream_job.specs.SinkLines.{kept_by, sink_begins_at}
use Rattle.stream_job.proofs.SinkLines.{filter_ascends, line_stays, one_place}

-- ---- a sink by its number among the sinks

abbrev pub sink_at : Job → ℕ → ℕ
sink_at job sink = get_or (sinks_of job) sink 0

filtered : (test : ℕ → Bool) (from n i t : ℕ)
    → slice_get (filter test (range_with_len from n)) i ≡ Some t
    → (test t ≡ true) × (t < from + n)
filtered test from zero i t found = absurd (cc)
filtered test from (suc n) i t found =
    by (test from) refl i found (λ j got. filtered test (from + 1) n j t got)
  where
    by : (b : Bool) → test from ≡ b → (j : ℕ)
        → slice_get (cond b (from ∷ filter test (range_with_len (from + 1) n))
        (filter test (range_with_len (from + 1) n))) j ≡ Some t
        → ((k : ℕ) → slice_get (filter test (range_with_len (from + 1) n)) k ≡ Some t
        → (test t ≡ true) × (t < from + 1 + n))
        → (test t ≡ true) × (t < from + suc n)
    by true e zero got rest =
        let same = same_Some from t got in
        (subst (λ u. test u ≡ true) same e, omega arith)
    by true e (suc j) got rest = let r = rest j got in (r.0, let lt = r.1 in omega arith)
    by false e j got rest = let r = rest j got in (r.0, let lt = r.1 in omega arith)

-- it is a sink
pub sink_there : (job : Job) (sink : ℕ) → sink < length (sinks_of job)
    → (is_sink_at job (sink_at job sink) ≡ true) × (sink_at job sink < length job.graph.tasks)
sink_there job sink lt =
    let r = filtered (is_sink_at job) 0 (length job.graph.tasks) sink (sink_at job sink)
    (slice_get-get_or (sinks_of job) sink 0 lt) in
    (r.0, let within = r.1 in omega arith)

-- another number is of another sink
sinks_apart : (job : Job) (i j : ℕ) → i < length (sinks_of job) → j < length (sinks_of job)
    → i ≢ j → sink_at job i ≢ sink_at job j
sinks_apart job i j lt also apart same =
    apart (one_place 0 i j (sink_at job j) (sinks_of job)
    (filter_ascends (is_sink_at job) 0 (length job.graph.tasks))
    (slice_get-get_or (sinks_of job) i 0 lt ∙ ap (λ t. Some t) same)
    (slice_get-get_or (sinks_of job) j 0 also))

-- ---- its line

pub lines_many : (job : Job) (given : ℕ → List ℤ) (m : Moment) (lines : List Lines)
    → KeepsLines job given m lines → length lines ≡ length (sinks_of job)
lines_many job given m lines keeps =
    sym (length-map lines (kept_behind given)) ∙ ap length keeps.values
    ∙ length-map (sinks_of job) (λ t. (t, kept_by job m t))

-- what the sink has kept, with its number
abbrev kept_at : Job → Moment → ℕ → ℕ × List ℤ
kept_at job m t = (t, kept_by job m t)

line_kept : (job : Job) (given : ℕ → List ℤ) (m : Moment) (lines : List Lines) (sink : ℕ)
    (line : Lines) → KeepsLines job given m lines → sink < length (sinks_of job)
    → line ≡ get_or lines sink line
    → kept_behind given line ≡ kept_at job m (sink_at job sink)
line_kept job given m lines sink line keeps lt value =
    let many = lines_many job given m lines keeps in
    let within : sink < length lines = omega arith in
    ap (kept_behind given) value
    ∙ sym (get_or-map (kept_behind given) lines sink line (0, []) within)
    ∙ ap (λ l. get_or l sink (0, [])) keeps.values
    ∙ get_or-map (kept_at job m) (sinks_of job) sink 0 (0, []) lt

pub line_task : (job : Job) (given : ℕ → List ℤ) (m : Moment) (lines : List Lines) (sink : ℕ)
    (line : Lines) → KeepsLines job given m lines → sink < length (sinks_of job)
    → line ≡ get_or lines sink line → line.task ≡ sink_at job sink
line_task job given m lines sink line keeps lt value =
    ap (λ (l : ℕ × List ℤ). l.0) (line_kept job given m lines sink line keeps lt value)

pub line_values : (job : Job) (given : ℕ → List ℤ) (m : Moment) (lines : List Lines) (sink : ℕ)
    (line : Lines) → KeepsLines job given m lines → sink < length (sinks_of job)
    → line ≡ get_or lines sink line
    → given (sink_at job sink) ++ line.values.items ≡ kept_by job m (sink_at job sink)
line_values job given m lines sink line keeps lt value =
    ap (λ t. given t ++ line.values.items)
    (sym (line_task job given m lines sink line keeps lt value))
    ∙ ap (λ (l : ℕ × List ℤ). l.1) (line_kept job given m lines sink line keeps lt value)

pub line_start : (job : Job) (given : ℕ → List ℤ) (m : Moment) (lines : List Lines) (sink : ℕ)
    (line : Lines) → KeepsLines job given m lines → sink < length (sinks_of job)
    → line ≡ get_or lines sink line → sink_begins_at job m (sink_at job sink) ≡ line.start
line_start job given m lines sink line keeps lt value =
    let many = lines_many job given m lines keeps in
    let within : sink < length lines = omega arith in
    sym (ap (λ (l : Lines). l.start) value
    ∙ sym (get_or-map (λ (l : Lines). l.start) lines sink line None within)
    ∙ ap (λ l. get_or l sink None) keeps.starts
    ∙ get_or-map (sink_begins_at job m) (sinks_of job) sink 0 None lt)

-- ---- a sink hands over all

get_or-any : {X : Type 0} (xs : List X) (i : ℕ) (d e : X) → i < length xs
    → get_or xs i d ≡ get_or xs i e
get_or-any xs i d e lt = sym (get_or_from_slice_get xs i (get_or xs i d) e
    (slice_get-get_or xs i d lt))

pub lines_forget : (job : Job) (given : ℕ → List ℤ) (m : Moment) (lines : List Lines) (sink : ℕ)
    (line new : Lines) → KeepsLines job given m lines → sink < length (sinks_of job)
    → line ≡ get_or lines sink line → new.task ≡ line.task → new.start ≡ line.start
    → new.values.items ≡ []
    → KeepsLines job (with_at (sink_at job sink) (kept_by job m (sink_at job sink)) given) m
    (set lines sink new)
lines_forget job given m lines sink line new keeps lt value task start none = record {
  values = ext_get_or (0, []) (map (kept_behind after) (set lines sink new))
      (map (kept_at job m) (sinks_of job))
      (length-map (set lines sink new) (kept_behind after) ∙ length-set lines sink new ∙ many
      ∙ sym (length-map (sinks_of job) (kept_at job m)))
      (λ i less. (let long = length-map (set lines sink new) (kept_behind after) in
      let as_long = length-set lines sink new in
      let count = many in
      let within : i < length (sinks_of job) = omega arith in
      let there : i < length (set lines sink new) = omega arith in
      get_or-map (kept_behind after) (set lines sink new) i new (0, []) there
      ∙ by i within (eqb i sink) refl
      ∙ sym (get_or-map (kept_at job m) (sinks_of job) i 0 (0, []) within)));
  starts = line_stays (λ l. l.start) lines sink line new value start ∙ keeps.starts;
}
  where
    after : ℕ → List ℤ
    after = with_at (sink_at job sink) (kept_by job m (sink_at job sink)) given

    many : length lines ≡ length (sinks_of job)
    many = lines_many job given m lines keeps

    by : (i : ℕ) → i < length (sinks_of job) → (b : Bool) → eqb i sink ≡ b
        → kept_behind (with_at (sink_at job sink) (kept_by job m (sink_at job sink)) given)
        (get_or (set lines sink new) i new) ≡ kept_at job m (sink_at job i)
    by i within true e =
        let same : i ≡ sink = eqb-true i sink e in
        let many = lines_many job given m lines keeps in
        let there : sink < length lines = omega arith in
        let u = sink_at job sink in
        let all = kept_by job m u in
        let its : new.task ≡ u =
        task ∙ line_task job given m lines sink line keeps lt value in
        ap (λ k. kept_behind (with_at u all given) (get_or (set lines sink new) k new)) same
        ∙ ap (kept_behind (with_at u all given)) (get_or-set_same lines sink new new there)
        ∙ ap (λ k. (k, with_at u all given k ++ new.values.items)) its
        ∙ ap (λ l. (u, l ++ new.values.items)) (at_same u all given)
        ∙ ap (λ l. (u, all ++ l)) none ∙ ap (λ l. (u, l)) (append-nil all)
        ∙ ap (λ k. kept_at job m (sink_at job k)) (sym same)
    by i within false e =
        let apart : i ≢ sink = λ same. (let no = sym (eq-eqb i sink same) ∙ e in cc) in
        let u = sink_at job sink in
        let all = kept_by job m u in
        let many = lines_many job given m lines keeps in
        let there : i < length lines = omega arith in
        let one = get_or lines i new in
        let itself : one ≡ get_or lines i one = get_or-any lines i new one there in
        let its : one.task ≡ sink_at job i =
        line_task job given m lines i one keeps within itself in
        let other : one.task ≢ u = λ is. sinks_apart job i sink within lt apart (sym its ∙ is) in
        ap (kept_behind (with_at u all given)) (get_or-set_other lines sink i new new apart)
        ∙ ap (λ l. (one.task, l ++ one.values.items)) (at_other u all given one.task other)
        ∙ line_kept job given m lines i one keeps within itself

-- the line that is empty has the room that it had
pub line_room_stays : (job : Job) (given : ℕ → List ℤ) (m : Moment) (lines : List Lines)
    (needs : ℕ → ℕ) (sink : ℕ) (line new : Lines) → KeepsLines job given m lines
    → sink < length (sinks_of job) → line ≡ get_or lines sink line → new.task ≡ line.task
    → vec_capacity new.values ≡ vec_capacity line.values → All (HasRoom needs) lines
    → All (HasRoom needs) (set lines sink new)
line_room_stays job given m lines needs sink line new keeps lt value task same own =
    let many = lines_many job given m lines keeps in
    let there : sink < length lines = omega arith in
    let had = (subst (HasRoom needs) (sym value)
    (All-get_or (HasRoom needs) lines sink line there own)).room in
    let needed = ap needs task in
    All-set (HasRoom needs) lines sink new record { room = omega arith } own
