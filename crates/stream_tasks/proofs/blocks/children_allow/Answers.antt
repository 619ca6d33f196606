-- One child after the other.
use Rattle.std.proofs.Common.{◌≡◌, ℕ, ◌+◌, ◌<◌, ◌≤◌, Some, sym, subst, ap, ◌∙◌, arith, ◌⊎◌, inl, inr}
use Rattle.std.specs.Prelude.{slice_get}
use Rattle.std.proofs.lemmas.Bool.{cases_lt}
use Rattle.std.proofs.lemmas.Option.{slice_get_within, slice_get-get_or, same_Some}
use Rattle.stream_tasks.specs.declared.child.Child.{Child}
use Rattle.stream_tasks.proofs.blocks.children_allow.Goals.{then-child-begun, else-child-begun}
use Rattle.stream_tasks.proofs.blocks.children_allow.Goals as goal

pub loop-child-init : goal.loop-child-init
loop-child-init c = (λ some. some, omega arith, λ i child less. absurd (omega arith))

pub loop-child-preserved : goal.loop-child-preserved
loop-child-preserved c = (
  λ some. (let was : 1 ≤ c.loop-child.allowed = c.loop-child.invariant.0 some in
      elim c.if-child-begun.branch [
        | then-child-begun w ↦ let later = w.if-child-begun.true in let least = w.min-allowed.ensures in let is = w.allowed-is in omega arith
        | else-child-begun w ↦ let is = w.allowed-is in omega arith
      ]),
  (let was : c.loop-child.allowed ≤ c.args.steps = c.loop-child.invariant.1 in
      elim c.if-child-begun.branch [
        | then-child-begun w ↦ let least = w.min-allowed.ensures in let is = w.allowed-is in omega arith
        | else-child-begun w ↦ let is = w.allowed-is in omega arith
      ]),
  λ i child less at later. by i child less at later (cases_lt i c.loop-child.child-index),
)
  where
    fewer : c.if-child-begun.allowed ≤ c.loop-child.allowed
    fewer = elim c.if-child-begun.branch [
      | then-child-begun w ↦ let least = w.min-allowed.ensures in let is = w.allowed-is in omega arith
      | else-child-begun w ↦ let is = w.allowed-is in omega arith
    ]

    here : c.args.begun < c.child-item.result.at
        → c.args.begun + c.if-child-begun.allowed ≤ c.child-item.result.at
    here later = elim c.if-child-begun.branch [
      | then-child-begun w ↦ let least = w.min-allowed.ensures in let is = w.allowed-is in omega arith
      | else-child-begun w ↦ let no = w.if-child-begun.false in absurd (omega arith)
    ]

    by : (i : ℕ) (child : Child) → i < c.loop-child.child-index + 1
        → slice_get c.args.children.now i ≡ Some child → c.args.begun < child.at
        → (i < c.loop-child.child-index) ⊎ (c.loop-child.child-index ≤ i)
        → c.args.begun + c.if-child-begun.allowed ≤ child.at
    by i child less at later (inl low) =
        omega (arith, c.loop-child.invariant.2 i child low at later, fewer)
    by i child less at later (inr high) =
        let same : i ≡ c.loop-child.child-index = omega arith in
        let items = c.args.children.now in
        let found : slice_get items c.loop-child.child-index ≡ Some child = subst (λ x. slice_get items x ≡ Some child) same at in
        let is : c.child-item.result ≡ child =
        same_Some c.child-item.result child
        (ap Some c.child-item.is
        ∙ sym (slice_get-get_or items c.loop-child.child-index c.child-item.result (slice_get_within items c.loop-child.child-index child found)) ∙ found) in
        subst (λ (x : Child). c.args.begun + c.if-child-begun.allowed ≤ x.at) is
        (here (subst (λ (x : Child). c.args.begun < x.at) (sym is) later))

pub returns-clause-some : goal.returns-clause-some
returns-clause-some c = c.loop-child.invariant.0

pub returns-clause-few : goal.returns-clause-few
returns-clause-few c = c.loop-child.invariant.1

pub returns-clause-children : goal.returns-clause-children
returns-clause-children c = λ i child at later.
    let within = slice_get_within c.args.children.now i child at in
    let past = c.loop-child-test.false in
    c.loop-child.invariant.2 i child (omega arith) at later
