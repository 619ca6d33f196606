-- One more empty list.
use Rattle.std.proofs.Common.{◌≡◌, ℕ, ℤ, List, [], ◌∷◌, ◌++◌, map, sym, ap, ◌∙◌, arith}
use Rattle.std.specs.List.{range_with_len}
use Rattle.std.specs.Global.{Global}
use Rattle.std.specs.declared.vec.Vec.{Vec}
use Rattle.std.proofs.lemmas.List.{map_push}
use Rattle.std.proofs.lemmas.List.FromFn.{map-range_with_len_more}
use Rattle.stream_lists.specs.JobFields.{items_of}
use Rattle.stream_job.proofs.stream.bare_lists.Goals as goal

abbrev bare : ℕ → List ℤ
bare k = []

pub loop-preserved : goal.loop-preserved
loop-preserved c =
    let n : ℕ = c.loop.counter in
    let lists = c.loop.lists.items in
    let list = c.new.result in
    ap items_of c.in_ok-push.ensures.items
    ∙ map_push (λ (one : Vec ℤ Global). one.items) lists list
    ∙ ap (λ xs. items_of lists ++ xs ∷ []) c.new.ensures.items
    ∙ ap (λ l. l ++ [] ∷ []) c.loop.invariant
    ∙ sym (map-range_with_len_more bare 0 n n (omega arith))

pub returns : goal.returns
returns c =
    let same : c.loop.counter ≡ c.args.many = omega arith in
    c.loop.invariant ∙ ap (λ n. map bare (range_with_len 0 n)) same
