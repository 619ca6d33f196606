-- The rows before the phases, then those of each phase; then all lists join.
use Rattle.std.proofs.Common.{◌≡◌, None, length, refl, sym, ◌∙◌, arith}
use Rattle.phase_base.specs.Lists.{first_row}
use Rattle.phase_core.specs.Cores.{StandsFor, core_of}
use Rattle.phase_core.specs.Blocks.{block_rows}
use Rattle.phase_core.proofs.Admitting.{Met, passed, refusal, within, replied, stands_alone, core_alone, taken, may_signal, stands_after, core_after}
use Rattle.phase_core.proofs.SignalRows.{reply_refused}
use Rattle.phase_core.proofs.SignalCore.{block_below}
use Rattle.phase_core.proofs.Phasers.{slots_phaser}
use Rattle.phase_core.proofs.SignalReply.{block_refused_first, opened_of, block_far_off}
use Rattle.phase_core.proofs.phaser_core.PhaserCore.signal_lists.Given.{Over}
use Rattle.phase_core.proofs.phaser_core.PhaserCore.signal_lists.Goals.{After-least_wait-slowest, After-check_single}
use Rattle.phase_core.proofs.phaser_core.PhaserCore.signal_lists.Goals as goal

-- the member, whose block the first rows do not refuse
met : (g : Over) (c : After-least_wait-slowest g)
    → Met g.A.Accumulate.operation c.self.inside.registry c.use_slots.new.store.board c.args.task c.in-Some.entry c.args.lists.now c.args.single c.least_wait-slowest.result
met g c =
    record {
      core = c.use_slots.ensures.core;
      found = sym c.in-Some.ensures.entry;
      few = c.in-Some.ensures.few;
      slow = c.least_wait-slowest.ensures;
      first = c.in_default-block_refusal.ensures;
    }

-- nor the rows of its phases
row : (g : Over) (c : After-check_single g)
    → first_row (block_rows c.use_slots.new.store.board.limits c.least_wait-slowest.result c.use_slots.new.store.board.ring c.args.lists.now c.args.single c.in-Some.entry) ≡ None
row g c = sym c.lists_refusal-refusal.ensures.rows ∙ c.in_default-refusal.is

pub returns-in-Some-block_refusal-clause-refused : goal.returns-in-Some-block_refusal-clause-refused
returns-in-Some-block_refusal-clause-refused g c h sends given holds =
    let core = core_of c.self.inside.registry c.use_slots.new.store.board in
    let stands : StandsFor g.A.Accumulate.operation core h = rw (c.use_slots.ensures.shows ∙ c.self.view_is) given in
    let refused = block_refused_first g.A.Accumulate.operation core h c.args.task c.in-Some.entry c.args.lists.now sends c.args.single (length c.args.lists.now)
    c.in-Some-block_refusal.refusal stands (sym c.in-Some.ensures.entry) holds refl c.in-Some-block_refusal.ensures in
    rw (← (c.use_slots.ensures.shows ∙ c.self.view_is)) (reply_refused core.limits h c.args.task sends c.args.single c.in-Some-block_refusal.refusal refused)

pub lists_refusal-refusal-requires-clause-opened : goal.lists_refusal-refusal-requires-clause-opened
lists_refusal-refusal-requires-clause-opened g c =
    let m = met g (goal.at.lists_refusal-refusal-requires-clause-opened g c).After-least_wait-slowest in
    opened_of g.A.Accumulate.operation c.self.inside.registry c.use_slots.new.store.board c.args.task c.in-Some.entry c.least_wait-slowest.result
    m.core.boarded m.slow m.found m.few (passed m).signals

pub lists_refusal-refusal-requires-clause-far : goal.lists_refusal-refusal-requires-clause-far
lists_refusal-refusal-requires-clause-far g c =
    let m = met g (goal.at.lists_refusal-refusal-requires-clause-far g c).After-least_wait-slowest in
    block_far_off g.A.Accumulate.operation (core_of c.self.inside.registry c.use_slots.new.store.board) m.core.history c.args.task (length c.args.lists.now) c.in-Some.entry
    m.core.stands m.found (passed m).few

pub returns-in-Some-refusal-clause-refused : goal.returns-in-Some-refusal-clause-refused
returns-in-Some-refusal-clause-refused g c h sends given holds =
    let m = met g (goal.at.returns-in-Some-refusal-clause-refused g c).After-least_wait-slowest in
    let b = c.use_slots.new.store.board in
    let stands : StandsFor g.A.Accumulate.operation (core_of c.self.inside.registry b) h = rw (c.use_slots.ensures.shows ∙ c.self.view_is) given in
    let refused = refusal m h sends stands holds ∙ sym c.lists_refusal-refusal.ensures.rows ∙ c.in-Some-refusal.is in
    rw (← (c.use_slots.ensures.shows ∙ c.self.view_is)) (reply_refused b.limits h c.args.task sends c.args.single c.in-Some-refusal.refusal refused)

pub overflow_add-phase : goal.overflow_add-phase
overflow_add-phase g c =
    let a = (goal.at.overflow_add-phase g c) in
    let far = within (met g a.After-least_wait-slowest) (row g a.After-check_single) in omega arith

pub raise_top-requires : goal.raise_top-requires
raise_top-requires g c =
    let a = (goal.at.raise_top-requires g c) in
    let far = within (met g a.After-least_wait-slowest) (row g a.After-check_single) in omega arith

pub signalled-requires-clause-below : goal.signalled-requires-clause-below
signalled-requires-clause-below g c =
    let a = (goal.at.signalled-requires-clause-below g c) in
    let m = met g a.After-least_wait-slowest in
    let far = within m (row g a.After-check_single) in
    block_below _ c.in-Some.entry (length c.args.lists.now) m.found (omega arith)

pub invariant_of-self-then-waiters-eq0 : goal.invariant_of-self-then-waiters-eq0
invariant_of-self-then-waiters-eq0 g c =
    let a = (goal.at.invariant_of-self-then-waiters-eq0 g c) in
    let sent = c.in_default-refusal.ensures.held refl in
    slots_phaser c.use_slots.ensures.slots (core_alone (met g a.After-least_wait-slowest) (row g a.After-check_single) c.signalled.new.self c.raise_top.new.self c.waiters.result c.waiters.ensures c.if-waiters-eq0.true
    c.check_single.ensures c.signalled.ensures c.raise_top.ensures.limits c.raise_top.ensures.ring c.raise_top.ensures.top sent.0 sent.1)

pub returns-then-waiters-eq0-clause-ok : goal.returns-then-waiters-eq0-clause-ok
returns-then-waiters-eq0-clause-ok g c h sends given holds =
    let a = (goal.at.returns-then-waiters-eq0-clause-ok g c) in
    let stands : StandsFor g.A.Accumulate.operation (core_of c.self.inside.registry c.use_slots.new.store.board) h = rw (c.use_slots.ensures.shows ∙ c.self.view_is) given in
    rw (← (c.use_slots.ensures.shows ∙ c.self.view_is)) (replied (met g a.After-least_wait-slowest) (row g a.After-check_single) h sends stands holds)

pub returns-then-waiters-eq0-clause-after : goal.returns-then-waiters-eq0-clause-after
returns-then-waiters-eq0-clause-after g c h sends given holds =
    let a = (goal.at.returns-then-waiters-eq0-clause-after g c) in
    let stands : StandsFor g.A.Accumulate.operation (core_of c.self.inside.registry c.use_slots.new.store.board) h = rw (c.use_slots.ensures.shows ∙ c.self.view_is) given in
    rw c.use_slots.ensures.slots (stands_alone (met g a.After-least_wait-slowest) (row g a.After-check_single) c.signalled.new.self c.raise_top.new.self c.waiters.result c.waiters.ensures c.if-waiters-eq0.true
    c.check_single.ensures c.signalled.ensures c.raise_top.ensures.limits c.raise_top.ensures.ring c.raise_top.ensures.top h sends stands holds)

pub signal_block-requires : goal.signal_block-requires
signal_block-requires g c =
    let a = (goal.at.signal_block-requires g c) in
    let m = met g a.After-least_wait-slowest in
    let r = row g a.After-check_single in
    let t = taken m r c.waiters.result c.waiters.ensures c.if-waiters-eq0.false in
    record { invariant = t.boarded.kept; may = may_signal m r c.waiters.result c.waiters.ensures c.if-waiters-eq0.false; fits = t.fits }

pub signalled-requires-2-clause-below : goal.signalled-requires-2-clause-below
signalled-requires-2-clause-below g c =
    let a = (goal.at.signalled-requires-2-clause-below g c) in
    let m = met g a.After-least_wait-slowest in
    let far = within m (row g a.After-check_single) in
    block_below _ c.in-Some.entry (length c.args.lists.now) m.found (omega arith)

pub invariant_of-self-3 : goal.invariant_of-self-3
invariant_of-self-3 g c =
    let a = (goal.at.invariant_of-self-3 g c) in
    let sent = c.in_default-refusal.ensures.held refl in
    let o = c.signal_block.ensures in
    slots_phaser c.use_slots.ensures.slots (core_after (met g a.After-least_wait-slowest) (row g a.After-check_single) c.waiters.result c.waiters.ensures c.if-waiters-eq0.false g.met.A.Accumulate.laws
    c.signalled-2.new.self c.signal_block.new.self c.check_single.ensures c.signalled-2.ensures o.signalled o.slots sent.0 sent.1 o.invariant o.stops)

pub returns-clause-ok : goal.returns-clause-ok
returns-clause-ok g c h sends given holds =
    let a = (goal.at.returns-clause-ok g c) in
    let stands : StandsFor g.A.Accumulate.operation (core_of c.self.inside.registry c.use_slots.new.store.board) h = rw (c.use_slots.ensures.shows ∙ c.self.view_is) given in
    rw (← (c.use_slots.ensures.shows ∙ c.self.view_is)) (replied (met g a.After-least_wait-slowest) (row g a.After-check_single) h sends stands holds)

pub returns-clause-after : goal.returns-clause-after
returns-clause-after g c h sends given holds =
    let a = (goal.at.returns-clause-after g c) in
    let stands : StandsFor g.A.Accumulate.operation (core_of c.self.inside.registry c.use_slots.new.store.board) h = rw (c.use_slots.ensures.shows ∙ c.self.view_is) given in
    let o = c.signal_block.ensures in
    rw c.use_slots.ensures.slots (stands_after (met g a.After-least_wait-slowest) (row g a.After-check_single) c.waiters.result c.waiters.ensures c.if-waiters-eq0.false g.met.A.Accumulate.laws
    c.signalled-2.new.self c.signal_block.new.self c.check_single.ensures c.signalled-2.ensures o.signalled o.slots h sends stands holds)
