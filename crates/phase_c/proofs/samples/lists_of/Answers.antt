use Rattle.std.proofs.Common.{◌≡◌, ◌≤◌, ◌+◌, ℕ, length, take, get_or, ap, sym, subst, ◌∙◌, arith}
use Rattle.std.proofs.lemmas.List.{length_push, length-take-le, length-drop}
use Rattle.std.proofs.lemmas.List.Elements.{All-push}
use Rattle.phase_accum.specs.Sends.{AreSends}
use Rattle.stream_lists.specs.declared.job.TheConstants.{SAMPLES_MAX}
use Rattle.phase_accum.proofs.Parts.{AreSends-take, AreSends-drop}
use Rattle.phase_c.proofs.Cuts.{cut_more, sum_left}
use Rattle.phase_c.proofs.samples.lists_of.Goals as goal

-- one more list, of the numbers that come next
pub loop-count-preserved : goal.loop-count-preserved
loop-count-preserved c =
    let l = c.loop-count in
    let counts = c.args.counts.now in
    let i : ℕ = l.count-index in
    let n : ℕ = get_or counts i 0 in
    let rest = l.rest.now in
    let less = c.loop-count-test.true in
    let list = c.in_ok-list.list in
    let is : list.items ≡ take n rest = c.in_ok-list.ensures.items ∙ c.split_at.ensures.front in
    let left = sum_left counts i 0 less in
    let enough : n ≤ length rest = omega (arith, left, l.invariant.total) in
    let few : n ≤ SAMPLES_MAX = c.requires.few i 0 less in
    rw (c.in_ok-push.ensures.items, c.split_at.ensures.back) record {
      lists = cut_more l.lists.items list counts i 0 rest _ less is l.invariant.lists;
      each = length_push l.lists.items list ∙ ap (λ k. k + 1) l.invariant.each;
      total = omega (arith, left, l.invariant.total, length-drop n rest);
      rest_sends = AreSends-drop n rest l.invariant.rest_sends;
      sends = All-push (λ list. AreSends list.items) l.lists.items list l.invariant.sends
          (subst AreSends (sym is) (AreSends-take n rest l.invariant.rest_sends));
      few = All-push (λ list. length list.items ≤ SAMPLES_MAX) l.lists.items list l.invariant.few
          (omega (arith, ap length is, length-take-le n rest enough, few));
    }
