-- No source has a sample, and no two tasks meet, however many come.
use Rattle.std.proofs.Common.{◌≡◌, ◌<◌, ℕ, [], Option, Some, None, length, get_or, refl, sym, ap, subst, ◌∙◌, arith}
use Rattle.std.specs.List.{range_with_len}
use Rattle.std.proofs.lemmas.List.{get_or-replicate}
use Rattle.phase_accum.specs.Sends.{AreSends}
use Rattle.graph_base.specs.Graphs.{Graph, source_number, sources_of, task_at}
use Rattle.graph_base.specs.declared.line.Kind.TheVariants.{Source}
use Rattle.stream_lists.specs.JobFields.{given}
use Rattle.stream_lists.specs.Jobs.{Job, count_at, counted, with_samples}
use Rattle.stream_lists.specs.Meetings.{meeting_line}
use Rattle.stream_lists.specs.declared.sample_counts.TheConstants.{COUNT_MAX}
use Rattle.stream_job.specs.Streams.{IsApart, most_of}
use Rattle.stream_job.proofs.BareLists.{all_bare, bare_item, bare_items}
use Rattle.stream_job.proofs.Feeding.{source-within}
use Rattle.stream_job.proofs.Setting.{if_ok}
use Rattle.stream_job.proofs.stream.bare_job.Goals.{In-Ok-bare_lists}
use Rattle.stream_job.proofs.stream.bare_job.Goals as goal

-- how many samples a source may have
most_at : (graph : Graph) (t : ℕ) → t < length graph.tasks → (task_at graph t).kind ≡ Source
    → count_at graph (most_of graph) t ≡ COUNT_MAX
most_at graph t there kind =
    get_or-replicate (sources_of graph) (source_number graph.tasks t) COUNT_MAX 0
    (source-within graph t there kind)

-- no task meets another, with as many samples of each source as there may be
none_meets : (meeting line : Option ℕ) → meeting ≡ line → ((x : ℕ) → meeting ≡ Some x → ⊥)
    → line ≡ None
none_meets None line same never = sym same
none_meets (Some x) line same never = absurd (never x refl)

-- so it is in this graph
none : (c : In-Ok-bare_lists) → meeting_line (counted c.args.graph (most_of c.args.graph)) ≡ None
none c =
    none_meets c.in-Ok.meeting (meeting_line (counted c.args.graph (most_of c.args.graph)))
    c.in-Ok.ensures c.in_default-meeting.not-Some

pub new-requires-clause-each : goal.new-requires-clause-each
new-requires-clause-each c =
    bare_items c.in-Ok-bare_lists.samples.items c.sources.result c.in-Ok-bare_lists.ensures
    ∙ c.sources.ensures.count

pub new-requires-clause-sends : goal.new-requires-clause-sends
new-requires-clause-sends c k d lt =
    subst AreSends (sym (bare_item c.in-Ok-bare_lists.samples.items c.sources.result k d
    c.in-Ok-bare_lists.ensures lt)) tt

pub new-requires-clause-few : goal.new-requires-clause-few
new-requires-clause-few c k d lt =
    let none = ap length (bare_item c.in-Ok-bare_lists.samples.items c.sources.result k d
    c.in-Ok-bare_lists.ensures lt) in
    omega arith

pub returns-in-Ok-bare_lists-clause-apart : goal.returns-in-Ok-bare_lists-clause-apart
returns-in-Ok-bare_lists-clause-apart c =
    let graph = c.args.graph in
    let none = none (goal.at.returns-in-Ok-bare_lists-clause-apart c).In-Ok-bare_lists in
    if_ok c.new.result (λ (job : Job) (is : job.graph ≡ graph).
    subst (λ g. IsApart (record job { graph = g })) (sym is)
    (λ s few. c.none_meet_with_fewer.ensures (with_samples s (record job { graph = graph }))
    (most_of graph) c.tasks-tasks.ensures.graph
    (λ t there kind. (let least = few t there kind in
    let most = most_at graph t there kind in omega arith)) none))
    c.new.ensures.graph

pub returns-in-Ok-bare_lists-clause-any_meets : goal.returns-in-Ok-bare_lists-clause-any_meets
returns-in-Ok-bare_lists-clause-any_meets c = λ line refused.
    let graph = c.args.graph in
    let none = none (goal.at.returns-in-Ok-bare_lists-clause-any_meets c).In-Ok-bare_lists in
    let bare = given graph c.in-Ok-bare_lists.samples.items in
    let wrong : None ≡ Some line =
    sym (c.none_meet_with_fewer.ensures bare (most_of graph) c.tasks-tasks.ensures.graph
    (λ t there kind. (let few = ap length (ap (λ l. get_or l (source_number graph.tasks t) [])
    c.in-Ok-bare_lists.ensures
    ∙ all_bare (range_with_len 0 c.sources.result) (source_number graph.tasks t)) in
    omega arith)) none)
    ∙ c.new.ensures.any_meets line refused in
    absurd (cc)
