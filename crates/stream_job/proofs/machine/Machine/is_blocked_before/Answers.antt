-- By how many values there are before one that is out of range.
use Rattle.std.proofs.Common.{◌≡◌, ◌≤◌, None, Some, refl, sym, ap, ◌∙◌, arith}
use Rattle.std.proofs.lemmas.Bool.{le-ltb}
use Rattle.stream_lists.specs.Jobs.{with_samples}
use Rattle.stream_job.specs.Places.{place_in_state}
use Rattle.stream_job.proofs.HeldUp.{none_blocks, some_blocks}
use Rattle.stream_job.proofs.machine.Machine.is_blocked_before.Goals as goal

pub returns-in_default : goal.returns-in_default
returns-in_default c = λ s m makes at.
    let job = with_samples s c.args.job.now in
    let state = c.state.result.now in
    none_blocks state.most job m c.args.t c.args.j (place_in_state state) None (makes.is m at)
    (c.state.ensures s m at).stands (c.good_many.ensures ∙ c.in_default.is) refl

pub returns-then-many-gt0 : goal.returns-then-many-gt0
returns-then-many-gt0 c = λ s m makes at.
    let job = with_samples s c.args.job.now in
    let state = c.state.result.now in
    let it = c.state.ensures s m at in
    some_blocks state.most job m c.args.t c.args.j c.in-Some.many (place_in_state state) makes.there
    it.most at.graph makes.sends at.reached (makes.is m at) it.stands c.if-many-gt0.true
    (c.good_many.ensures ∙ c.in-Some.is)
    ∙ c.signal_blocks.ensures s m at (makes.live m at)

pub returns-else-many-gt0 : goal.returns-else-many-gt0
returns-else-many-gt0 c = λ s m makes at.
    let job = with_samples s c.args.job.now in
    let state = c.state.result.now in
    let past : c.in-Some.many ≤ 0 = c.if-many-gt0.false in
    let none : c.in-Some.many ≡ 0 = omega arith in
    none_blocks state.most job m c.args.t c.args.j (place_in_state state) (Some 0) (makes.is m at)
    (c.state.ensures s m at).stands
    (c.good_many.ensures ∙ c.in-Some.is ∙ ap (λ n. Some n) none) refl
    ∙ sym (le-ltb 0 c.in-Some.many past)
