-- One registration more.
use Rattle.std.proofs.Common.{◌≡◌, ◌∷◌, [], ◌++◌, Global, Vec, ap, append_assoc, arith, length, subst, sym, ◌∙◌}
use Rattle.std.specs.List.{filter_map, range_with_len}
use Rattle.graph_base.specs.Graphs.{Graph, task_at}
use Rattle.graph_base.specs.Registrations.{registrations_of}
use Rattle.graph_runs.specs.Nexts.{next_of, registrations_at}
use Rattle.stream_lists.specs.Jobs.{with_samples}
use Rattle.stream_lists.specs.declared.stand.Stand.{Stand}
use Rattle.stream_job.specs.Stands.{call_end, stand_by}
use Rattle.stream_job.specs.Streams.{StreamState}
use Rattle.stream_job.proofs.StandLists.{filter_map_less, filter_map_more}
use Rattle.stream_job.proofs.stream.Stream.put_stands.Goals as goal
use Rattle.stream_job.proofs.stream.Stream.put_stands.Goals.{in-Some+in_ok-push, in_default}

pub loop-k-preserved : goal.loop-k-preserved
loop-k-preserved c = λ s m given at.
    let f = stand_by (with_samples s c.args.self.now.job) m c.args.t c.call_end-end.result in
    let old = c.args.stands.now.items in
    let k = c.loop-k.k in
    let seen = filter_map f (range_with_len 0 k) in
    let is : f k ≡ c.stand_by.result = c.stand_by.ensures s m given at in
    let before = c.loop-k.invariant s m given at in
    elim c.match-stand_by.branch [
      | in-Some+in_ok-push w ↦
          (let one = w.in-Some.stand in
          ap (λ (v : Vec Stand Global). v.items) w.stands-is ∙ w.in_ok-push.ensures.items
          ∙ ap (λ l. l ++ one ∷ []) before
          ∙ append_assoc old seen (one ∷ [])
          ∙ ap (λ l. old ++ l) (sym (filter_map_more f k one (is ∙ w.in-Some.is))))
      | in_default w ↦
          ap (λ (v : Vec Stand Global). v.items) w.stands-is ∙ before
          ∙ ap (λ l. old ++ l) (sym (filter_map_less f k (is ∙ w.in_default.is)))
    ]

pub returns : goal.returns
returns c = λ s m given at.
    let state = c.args.self.now in
    let job = with_samples s state.job in
    let t = c.args.t in
    let end = c.call_end-end.result in
    let past = c.loop-k-test.false in
    let upto = c.loop-k.auto.k-end in
    let inside : c.registrations-k-end.result ≡ length (registrations_at c.self.inside.job t) =
    c.registrations-k-end.ensures.count
    ∙ ap (λ (g : Graph). length (registrations_of g (task_at g t))) c.graph.ensures.graph in
    let P : StreamState → Type 0 = λ w. c.registrations-k-end.result ≡ length (registrations_at w.job t) in
    let many = subst P c.self.view_is inside in
    let whole : c.loop-k.k ≡ length (registrations_at state.job t) = omega arith in
    let next : call_end (next_of job m t) ≡ end =
    ap call_end (c.step.ensures s m given at) ∙ sym c.call_end-end.ensures in
    c.loop-k.invariant s m given at
    ∙ ap (λ e. c.args.stands.now.items ++ filter_map (stand_by job m t e) (range_with_len 0 c.loop-k.k)) (sym next)
    ∙ ap (λ n. c.args.stands.now.items ++ filter_map (stand_by job m t (call_end (next_of job m t))) (range_with_len 0 n)) whole
