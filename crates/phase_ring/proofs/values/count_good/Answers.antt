-- It stops at the first value that is too big, or behind the last.
use Rattle.std.proofs.Common.{◌≡◌, ℕ, ℤ, pos, ◌<◌, ◌≤◌, List, length, map, get_or, true, false, sym, ap, subst, ◌∙◌, arith, ⊎_elim}
use Rattle.std.specs.List.{take_while}
use Rattle.std.proofs.lemmas.Bool.{cases_lt}
use Rattle.std.proofs.lemmas.List.{get_or-map, length-map}
use Rattle.std.proofs.lemmas.List.Folds.{length-prefix_len}
use Rattle.std.proofs.lemmas.List.Sums.{prefix_len_is}
use Rattle.phase_accum.specs.Operations.{Operation}
use Rattle.phase_accum.specs.Sends.{IsSend}
use Rattle.phase_accum.proofs.Parts.{send-same}
use Rattle.phase_ring.proofs.Blocks.{not_too_big}
use Rattle.phase_ring.proofs.Held.{AreSends-at}
use Rattle.phase_ring.specs.Blocks.{is_not_too_big}
use Rattle.phase_ring.specs.Restarts.{plain_value}
use Rattle.phase_ring.proofs.values.count_good.Given.{Over}
use Rattle.phase_ring.proofs.values.count_good.Goals.{After-finish}
use Rattle.phase_ring.proofs.values.count_good.Goals as goal

stops_at : {A : Type 0} (op : Operation A) (values : List ℤ) (n : ℕ) → n ≤ length values
    → ((k : ℕ) → k < n → is_not_too_big (plain_value op (get_or values k (pos 0))) ≡ true)
    → (n < length values → is_not_too_big (plain_value op (get_or values n (pos 0))) ≡ false)
    → n ≡ length (take_while is_not_too_big (map (plain_value op) values))
stops_at op values n within fit stops =
    let f = plain_value op in
    let xs = map f values in
    let d = f (pos 0) in
    let long = length-map values f in
    let at : (k : ℕ) → k < length values → get_or xs k d ≡ f (get_or values k (pos 0)) = λ k below. get_or-map f values k (pos 0) d below in
    sym (length-prefix_len is_not_too_big xs ∙ prefix_len_is is_not_too_big xs n d (omega arith)
    (λ k below. ap is_not_too_big (at k (omega arith)) ∙ fit k below)
    (λ more. ap is_not_too_big (at n (omega arith)) ∙ stops (omega arith)))

pub of-requires : goal.of-requires
of-requires g c =
    let values = c.args.values.now in let v = get_or values c.loop-k.k (pos 0) in
    let sent : IsSend v =
    AreSends-at values c.loop-k.k (pos 0) c.requires c.loop-k-test.true in
    rw (send-same v sent) sent

-- what was found is the value of its phase
found : (g : Over) (c : After-finish g)
    → c.finish.result
    ≡ plain_value g.A.Accumulate.operation (get_or c.args.values.now c.loop-k.k (pos 0))
found g c =
    let op = g.A.Accumulate.operation in
    let values = c.args.values.now in let v = get_or values c.loop-k.k (pos 0) in
    let sent : IsSend v =
    AreSends-at values c.loop-k.k (pos 0) c.requires c.loop-k-test.true in
    c.finish.ensures ∙ ap op.finish (c.of.ensures ∙ ap op.of (send-same v sent))

pub loop-k-preserved : goal.loop-k-preserved
loop-k-preserved g c =
    let is = found g (goal.at.loop-k-preserved g c).After-finish in
    λ j below.
    ⊎_elim (λ (before : j < c.loop-k.k). c.loop-k.invariant j before)
    (λ (last : c.loop-k.k ≤ j).
    let here : c.loop-k.k ≡ j = omega arith in
    subst (λ i. is_not_too_big (plain_value g.A.Accumulate.operation
    (get_or c.args.values.now i (pos 0))) ≡ true) here
    (ap is_not_too_big (sym is) ∙ not_too_big c.finish.result c.in_default.not-TooBig))
    (cases_lt j c.loop-k.k)

pub returns-in-TooBig : goal.returns-in-TooBig
returns-in-TooBig g c =
    let inside : c.loop-k.k < length c.args.values.now = c.loop-k-test.true in
    let is = found g (goal.at.returns-in-TooBig g c).After-finish in
    stops_at g.A.Accumulate.operation c.args.values.now c.loop-k.k (omega arith)
    c.loop-k.invariant (λ more. ap is_not_too_big (sym is ∙ c.in-TooBig.is))

pub returns : goal.returns
returns g c =
    let past : length c.args.values.now ≤ c.loop-k.k = c.loop-k-test.false in
    stops_at g.A.Accumulate.operation c.args.values.now (length c.args.values.now) (omega arith)
    (λ k below. c.loop-k.invariant k (omega arith)) (λ more. absurd (omega arith))
