-- The next phaser and its founder stand behind the others.
use Rattle.std.proofs.Common.{subst, sym, ap, ◌∙◌, ◌++◌, [], ◌∷◌, ◌≡◌, length, arith}
use Rattle.std.specs.Prelude.{slice_get}
use Rattle.std.proofs.lemmas.List.{length-append}
use Rattle.stream_lists.proofs.Basics.{each-push}
use Rattle.stream_members.specs.AnyPhasers.{phaser_op, phaser_spot}
use Rattle.stream_tasks.specs.Openings.{AreFoundersFrom, IsOfLine}
use Rattle.stream_tasks.proofs.Rows.{both_more}
use Rattle.stream_tasks.proofs.opening.phasers.open_phasers.Goals as goal

pub loop-p-preserved : goal.loop-p-preserved
loop-p-preserved g c =
    let job = c.args.job.now in
    let phasers = c.loop-p.phasers.items in
    let regs = c.loop-p.regs.items in
    let phaser = c.in-Ok.phaser in
    let reg = c.in-Ok.reg in
    let items = c.push_reserved.ensures.items in
    let others = c.push_reserved-in-loop-p.ensures.items in
    let len = c.push_reserved.ensures.len in
    let len_of = c.push_reserved-in-loop-p.ensures.len in
    let capacity = c.push_reserved.ensures.capacity in
    let capacity_of = c.push_reserved-in-loop-p.ensures.capacity in
    let many = c.loop-p.invariant.1 in
    let long = c.loop-p.invariant.3 in
    let long_of = c.loop-p.invariant.4 in
    let room = c.loop-p.invariant.5 in
    let room_of = c.loop-p.invariant.6 in
    let one = length-append phasers (phaser ∷ []) in
    let same : length c.push_reserved.new.self.items ≡ length (phasers ++ phaser ∷ []) =
    ap length items in (
      subst (λ xs. AreFoundersFrom 0 xs c.push_reserved-in-loop-p.new.self.items) (sym items)
          (subst (AreFoundersFrom 0 (phasers ++ phaser ∷ [])) (sym others)
          (both_more phasers regs phaser reg c.loop-p.invariant.0 c.in-Ok.ensures.founder)),
      omega arith,
      λ p one e. each-push (λ q x. IsOfLine job q (phaser_op x) (phaser_spot x)) phasers phaser
          c.loop-p.invariant.2
          (subst (λ q. IsOfLine job q (phaser_op phaser) (phaser_spot phaser)) (sym many)
          c.in-Ok.ensures.line)
          p one (ap (λ xs. slice_get xs p) (sym items) ∙ e),
      omega arith,
      omega arith,
      omega arith,
      omega arith,
    )
