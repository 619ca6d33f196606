use Rattle.std.proofs.Common.{◌≡◌, ◌≢◌, ◌++◌, ◌+◌, ◌-◌, Ok, Err, false, true, length, take, drop, refl, sym, ap, subst, ◌∙◌, arith}
use Rattle.std.specs.Prelude.{Result, IsErr, IsOk, is_ok}
use Rattle.std.proofs.lemmas.List.{length-take, length-take-le, length-drop, take_all, take-append-drop}
use Rattle.std.proofs.Math.Seq.{take-add}
use Rattle.stream_filters.specs.FilterFields.{HasStepped}
use Rattle.stream_filters.proofs.Stepped.{HasStepped-none, HasStepped-then, HasStepped-stop}
use Rattle.stream_filters.proofs.fir.Fir.steps.Goals as goal
use Rattle.stream_filters.proofs.fir.Fir.steps.Goals.{After-branch-block, After-from_residual, After-each}

-- an error is no answer
not_both : {A E : Type 0} → (r : Result A E) → IsErr r → IsOk r → ⊥
not_both (Ok a) err ok = let wrong : false ≡ true = err in absurd (cc)
not_both (Err e) err ok = let wrong : false ≡ true = ok in absurd (cc)

pub loop-at-init : goal.loop-at-init
loop-at-init c = (
  HasStepped-none c.args.self.now c.args.made.now.items,
  omega arith,
  refl,
  omega arith,
)

-- the samples of the block, behind those before it
first_ones : (c : After-branch-block)
    → take c.loop-at.at c.args.samples.now
    ++ take (c.loop-at.at + 16 - c.loop-at.at) (drop c.loop-at.at c.args.samples.now)
    ≡ take (c.loop-at.at + 16) c.args.samples.now
first_ones c =
    let at = c.loop-at.at in
    let samples = c.args.samples.now in
    let count : at + 16 - at ≡ 16 = omega arith in
    ap (λ n. take at samples ++ take n (drop at samples)) count ∙ sym (take-add at 16 samples)

before_it : (c : After-branch-block) → length (take c.loop-at.at c.args.samples.now) ≡ c.loop-at.at
before_it c = length-take-le c.loop-at.at c.args.samples.now c.loop-at.invariant.3

-- what the block leaves of all steps so far
blocked : (c : After-branch-block) → HasStepped c.args.self.now c.block.new.self
    (take (c.loop-at.at + 16) c.args.samples.now) c.args.made.now.items c.block.new.made.items
blocked c =
    subst (λ l. HasStepped c.args.self.now c.block.new.self l c.args.made.now.items
    c.block.new.made.items) (first_ones c)
    (HasStepped-then c.args.self.now c.loop-at.self c.block.new.self
    (take c.loop-at.at c.args.samples.now) _
    c.args.made.now.items c.loop-at.made.items c.block.new.made.items c.loop-at.invariant.0
    (c.loop-at.invariant.1 ∙ ap (λ n. length c.args.made.now.items + n) (sym (before_it c)))
    c.block.ensures.steps)

-- which has 16
sliced : (c : After-branch-block) → length (take (c.loop-at.at + 16 - c.loop-at.at)
    (drop c.loop-at.at c.args.samples.now)) ≡ 16
sliced c =
    omega (
      arith,
      length-take (c.loop-at.at + 16 - c.loop-at.at)
          (drop c.loop-at.at c.args.samples.now),
      length-drop c.loop-at.at c.args.samples.now,
      c.loop-at-test.true,
    )

-- it ends where an output of the block is out of range
less : (c : After-from_residual)
    → length c.block.new.made.items ≢ length c.args.made.now.items + (c.loop-at.at + 16)
less c e =
    let slice : length (take (c.loop-at.at + 16 - c.loop-at.at)
    (drop c.loop-at.at c.args.samples.now)) ≡ 16 = sliced (goal.at.returns-in_err-block-clause-made c).After-branch-block in
    let all : length c.block.new.made.items ≡ length c.loop-at.made.items
    + length (take (c.loop-at.at + 16 - c.loop-at.at) (drop c.loop-at.at c.args.samples.now)) =
    omega (arith, e, c.loop-at.invariant.1, slice) in
    let ok : IsOk c.block.result = c.block.ensures.ok.1 all in
    absurd (cc (ok, ap is_ok c.in_err-block.was))

ended : (c : After-from_residual) → HasStepped c.args.self.now c.block.new.self c.args.samples.now
    c.args.made.now.items c.block.new.made.items
ended c =
    let at = c.loop-at.at in
    let samples = c.args.samples.now in
    let here = (goal.at.returns-in_err-block-clause-made c).After-branch-block in
    let many : length (take (at + 16) samples) ≡ at + 16 =
    length-take-le (at + 16) samples (omega (arith, c.loop-at-test.true)) in
    subst (λ l. HasStepped c.args.self.now c.block.new.self l c.args.made.now.items
    c.block.new.made.items) (take-append-drop (at + 16) samples)
    (HasStepped-stop c.args.self.now c.block.new.self (take (at + 16) samples) (drop (at + 16) samples)
    c.args.made.now.items c.block.new.made.items (blocked here)
    (λ e. less c (e ∙ ap (λ n. length c.args.made.now.items + n) many)))

pub returns-in_err-block-clause-made : goal.returns-in_err-block-clause-made
returns-in_err-block-clause-made c = (ended c).made

pub returns-in_err-block-clause-stands : goal.returns-in_err-block-clause-stands
returns-in_err-block-clause-stands c = (ended c).stands

pub returns-in_err-block-clause-ok : goal.returns-in_err-block-clause-ok
returns-in_err-block-clause-ok c =
    let here = (goal.at.returns-in_err-block-clause-ok c).After-branch-block in
    let few = (blocked here).few in
    let many : length (take (c.loop-at.at + 16) c.args.samples.now) ≡ c.loop-at.at + 16 =
    length-take-le (c.loop-at.at + 16) c.args.samples.now (omega (arith, c.loop-at-test.true)) in (
      λ ok. absurd (not_both c.from_residual.result c.from_residual.ensures.0 ok),
      λ e. absurd (omega (arith, less c, few, many, e, c.loop-at-test.true)),
    )

pub loop-at-preserved : goal.loop-at-preserved
loop-at-preserved c =
    let here = (goal.at.loop-at-preserved c).After-branch-block in
    let all = c.block.ensures.ok.0 (rw c.in_ok-block.was refl) in (
      blocked here,
      omega (arith, all, sliced here, c.loop-at.invariant.1),
      c.block.ensures.capacity ∙ c.loop-at.invariant.2,
      omega (arith, c.loop-at-test.true),
    )

-- the rest, one by one
whole : (c : After-each) → HasStepped c.args.self.now c.each.new.self c.args.samples.now
    c.args.made.now.items c.each.new.made.items
whole c =
    let at = c.loop-at.at in
    let samples = c.args.samples.now in
    let first : length (take at samples) ≡ at = length-take-le at samples c.loop-at.invariant.3 in
    let rest : take (length samples - at) (drop at samples) ≡ drop at samples =
    take_all _ (drop at samples) (omega (arith, length-drop at samples)) in
    subst (λ l. HasStepped c.args.self.now c.each.new.self l c.args.made.now.items c.each.new.made.items)
    (ap (λ l. take at samples ++ l) rest ∙ take-append-drop at samples)
    (HasStepped-then c.args.self.now c.loop-at.self c.each.new.self (take at samples) _
    c.args.made.now.items c.loop-at.made.items c.each.new.made.items c.loop-at.invariant.0
    (c.loop-at.invariant.1 ∙ ap (λ n. length c.args.made.now.items + n) (sym first))
    c.each.ensures.steps)

pub returns-clause-made : goal.returns-clause-made
returns-clause-made c = (whole c).made

pub returns-clause-stands : goal.returns-clause-stands
returns-clause-stands c = (whole c).stands
