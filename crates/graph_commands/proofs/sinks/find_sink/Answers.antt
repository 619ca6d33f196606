-- The loop goes through the tasks in their order, and stops at the first that is the sink.
use Rattle.std.proofs.Common.{◌≡◌, ℕ, List, ◌<◌, ◌&&◌, length, ap, sym, ◌∙◌, Bool, arith, false}
use Rattle.std.specs.Str.{bytes_eq}
use Rattle.stream_lists.specs.Lists.{is_sink_at}
use Rattle.stream_lists.specs.Jobs.{Job}
use Rattle.stream_lists.proofs.Basics.{find_in_range, find_none_in_range, one_more}
use Rattle.graph_base.specs.Graphs.{name_at}
use Rattle.graph_base.specs.declared.place.Place.TheVariants as place
use Rattle.graph_commands.proofs.sinks.find_sink.Goals as goal

abbrev is_one : Job → List ℕ → ℕ → Bool
is_one job name t = is_sink_at job t && bytes_eq (name_at job.graph (place.Task t)) name

pub returns-then-is_sink_of : goal.returns-then-is_sink_of
returns-then-is_sink_of c =
    let job = c.args.job.now in
    let count : c.tasks-t-end.result ≡ length job.graph.tasks =
    c.tasks-t-end.ensures.count ∙ ap (λ g. length g.tasks) c.graph.ensures.graph in
    let lt : c.loop-t.t < c.tasks-t-end.result = c.loop-t-test.true in
    sym (find_in_range (is_one job c.args.name.now) (length job.graph.tasks) c.loop-t.t (omega arith)
    c.loop-t.invariant (sym c.is_sink_of.ensures ∙ c.if-is_sink_of.true))

pub loop-t-preserved : goal.loop-t-preserved
loop-t-preserved c =
    one_more (λ d. is_one c.args.job.now c.args.name.now d ≡ false) c.loop-t.t c.loop-t.invariant
    (sym c.is_sink_of.ensures ∙ c.if-is_sink_of.false)

pub returns : goal.returns
returns c =
    let job = c.args.job.now in
    let count : c.tasks-t-end.result ≡ length job.graph.tasks =
    c.tasks-t-end.ensures.count ∙ ap (λ g. length g.tasks) c.graph.ensures.graph in
    sym (find_none_in_range (is_one job c.args.name.now) (length job.graph.tasks)
    (λ d lt. c.loop-t.invariant d (let past = c.loop-t-test.false in omega arith)))
