-- The filter was given the numbers of the outcomes, and what it has made stands behind the rest.
use Rattle.std.proofs.Common.{◌≡◌, inl, inr, ◌+◌, ◌<◌, ◌≤◌, ◌++◌, ◌∷◌, [], length, map, refl, sym, ap, subst, ◌∙◌, arith}
use Rattle.std.proofs.lemmas.List.{length-append, length-map, take-map}
use Rattle.graph_base.specs.Graphs.{task_at}
use Rattle.stream_lists.specs.Lists.{number}
use Rattle.stream_job.specs.Filtering.{HasFiltered}
use Rattle.stream_job.proofs.Filtered.{WasGiven, was_given, few_given, filtered_so, good, less, out}
use Rattle.stream_job.proofs.filtering.filter_some.Goals as goal
use Rattle.stream_job.proofs.filtering.filter_some.Goals.{After-filtered_all-answer, In-Err}

-- what it was given
given : (c : After-filtered_all-answer) → WasGiven (task_at c.args.job.now.graph c.args.t)
    (map number c.args.outcomes.now) c.args.filter.now c.filtered_all-answer.new.filter
    c.filtered_all-answer.new.made.items
given c =
    let task = task_at c.args.job.now.graph c.args.t in
    subst (λ l. WasGiven task l c.args.filter.now c.filtered_all-answer.new.filter
    c.filtered_all-answer.new.made.items) c.numbers_of-numbers.ensures
    (was_given task _ c.args.filter.now c.filtered_all-answer.new.filter c.clear.new.self.items
    c.filtered_all-answer.new.made.items c.clear.ensures.items c.filtered_all-answer.ensures.made
    c.filtered_all-answer.ensures.filter)

few : (c : After-filtered_all-answer)
    → length c.filtered_all-answer.new.made.items ≤ length c.args.outcomes.now
few c =
    let task = task_at c.args.job.now.graph c.args.t in
    let ys = map number c.args.outcomes.now in
    let most = few_given task ys c.args.filter.now c.filtered_all-answer.new.filter
    c.filtered_all-answer.new.made.items c.requires.filter.0 (given c) c.requires.filter.1 in
    let long = length-map c.args.outcomes.now number in
    omega arith

pub put_good-requires : goal.put_good-requires
put_good-requires c =
    let a = (goal.at.put_good-requires c).After-filtered_all-answer in
    let most = few a in
    let same = ap length c.deref.ensures.value in
    let room = c.requires.room in
    omega arith

pub returns-in-Ok-clause-filtered : goal.returns-in-Ok-clause-filtered
returns-in-Ok-clause-filtered c =
    let a = (goal.at.returns-in-Ok-clause-filtered c).After-filtered_all-answer in
    let task = task_at c.args.job.now.graph c.args.t in
    let os = c.args.outcomes.now in
    let ys = map number os in
    let values = c.filtered_all-answer.new.made.items in
    let all = c.filtered_all-answer.ensures.ok.0 (rw c.in-Ok.is refl) in
    let none = ap length c.clear.ensures.items in
    let long = length-map os number in
    let cut = ap length c.numbers_of-numbers.ensures in
    let whole : length values ≡ length ys = omega arith in
    let items : c.put_good.new.made.items ≡ c.args.made.now.items ++ map good values =
    c.put_good.ensures.items
    ∙ ap (λ l. c.args.made.now.items ++ map good l) c.deref.ensures.value in
    subst (λ l. HasFiltered task l c.args.filter.now c.filtered_all-answer.new.filter
    c.args.made.now.items c.put_good.new.made.items) (take-map number (length os) os)
    (filtered_so task ys c.args.filter.now c.filtered_all-answer.new.filter values
    c.args.made.now.items c.put_good.new.made.items (length os) (given a).outputs (given a).next
    (inl (whole, sym long, items)))

-- fewer values than numbers
fewer : (c : In-Err) → length c.filtered_all-answer.new.made.items ≤ length c.args.outcomes.now
    → length c.filtered_all-answer.new.made.items < length c.args.outcomes.now
fewer c most =
    let os = c.args.outcomes.now in
    let values = c.filtered_all-answer.new.made.items in
    let none = ap length c.clear.ensures.items in
    let long = length-map os number in
    let cut = ap length c.numbers_of-numbers.ensures in
    less (length values) (length os) most
    (λ same. (let is = c.filtered_all-answer.ensures.ok.1 (omega arith) in
    let no = rw c.in-Err.is at is in cc))

pub push_reserved-requires : goal.push_reserved-requires
push_reserved-requires c =
    let a = goal.at.push_reserved-requires c in
    let less = fewer a.In-Err (few a.After-filtered_all-answer) in
    let made = c.args.made.now.items in
    let same = ap length c.deref.ensures.value in
    let items : length c.put_good.new.made.items ≡ length made + length c.deref.result.now =
    ap length c.put_good.ensures.items ∙ length-append made (map good c.deref.result.now)
    ∙ ap (λ n. length made + n) (length-map c.deref.result.now good) in
    let room = c.requires.room in
    let cap = c.put_good.ensures.room in
    omega (arith, c.put_good.new.made.ok.0)

pub returns-in-Err-clause-filtered : goal.returns-in-Err-clause-filtered
returns-in-Err-clause-filtered c =
    let b = goal.at.returns-in-Err-clause-filtered c in
    let a = b.After-filtered_all-answer in
    let less = fewer b.In-Err (few a) in
    let task = task_at c.args.job.now.graph c.args.t in
    let os = c.args.outcomes.now in
    let ys = map number os in
    let values = c.filtered_all-answer.new.made.items in
    let made = c.args.made.now.items in
    let long = length-map os number in
    let count : c.len.result + 1 ≡ length values + 1 =
    ap (λ n. n + 1) (c.len.ensures ∙ c.filtered_all-answer.new.made.ok.0) in
    let items : c.push_reserved.new.self.items ≡ (made ++ map good values) ++ out ∷ [] =
    c.push_reserved.ensures.items
    ∙ ap (λ l. l ++ out ∷ [])
    (c.put_good.ensures.items ∙ ap (λ l. made ++ map good l) c.deref.ensures.value) in
    subst (λ l. HasFiltered task l c.args.filter.now c.filtered_all-answer.new.filter
    made c.push_reserved.new.self.items) (take-map number (c.len.result + 1) os)
    (filtered_so task ys c.args.filter.now c.filtered_all-answer.new.filter values
    made c.push_reserved.new.self.items (c.len.result + 1) (given a).outputs (given a).next
    (inr ((λ e. (omega (arith, e, less, long))), count, items)))

pub returns-in-Err-clause-some : goal.returns-in-Err-clause-some
returns-in-Err-clause-some c =
    let a = goal.at.returns-in-Err-clause-some c in
    let less = fewer a.In-Err (few a.After-filtered_all-answer) in
    let count = c.len.ensures ∙ c.filtered_all-answer.new.made.ok.0 in
    (omega arith, omega arith)
