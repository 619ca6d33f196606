-- The slowest waiter stands where it stood, or at the least wait phase after the wait.
use Rattle.std.proofs.Common.{◌≡◌, ◌-◌, true, drop, length, refl, sym, ap, ◌∙◌, arith}
use Rattle.std.proofs.lemmas.Bool.{true≢false}
use Rattle.circular_buffer.specs.Buffer.{buffer}
use Rattle.phase_ring.specs.Stores.{KeepsValues}
use Rattle.phase_core.proofs.PlainWaits.{StandsWithin, some_waits, stands_within, stays}
use Rattle.phase_core.proofs.going_on.go_on.Given.{Over}
use Rattle.phase_core.proofs.going_on.go_on.Goals.{In-Some}
use Rattle.phase_core.proofs.going_on.go_on.Goals as goal

pub returns-then-not-store : goal.returns-then-not-store
returns-then-not-store g c =
    let old = c.args.store.now in
    record {
      registry = c.waited.ensures;
      board = refl;
      plain = refl;
      slowest = λ on. absurd (true≢false (sym on ∙ c.if-not-store.true));
      low = omega arith;
      high = λ on. absurd (true≢false (sym on ∙ c.if-not-store.true));
      values = ap (λ k. buffer (drop k old.values.queue.items) old.values.queue.capacity)
          (let k : 0 ≡ old.values.base - old.values.base = omega arith in k);
    }

pub returns-then-entry-store : goal.returns-then-entry-store
returns-then-entry-store g c =
    let old = c.args.store.now in
    let on : old.is_plain ≡ true = c.if-not-store.false in
    let keeps : KeepsValues old = c.requires.values on in
    record {
      registry = c.waited.ensures;
      board = refl;
      plain = refl;
      slowest = λ is. stays old c.args.task c.args.phases c.args.entry c.args.registry.now
          c.waited.new.self c.requires c.waited.ensures on c.if-entry-store.true;
      low = omega arith;
      high = λ is. omega (arith, keeps.top_is);
      values = ap (λ k. buffer (drop k old.values.queue.items) old.values.queue.capacity)
          (let k : 0 ≡ old.values.base - old.values.base = omega arith in k);
    }

pub unreachable-requires : goal.unreachable-requires
unreachable-requires g c =
    some_waits c.args.store.now c.args.task c.args.phases c.args.entry c.args.registry.now
    c.waited.new.self c.requires c.waited.ensures c.if-not-store.false
    (sym c.least_wait.ensures ∙ c.in_default.is)

within : (g : Over) (c : In-Some g) → StandsWithin c.args.store.now c.in-Some.slowest
within g c =
    stands_within c.args.store.now c.args.task c.args.phases c.args.entry c.args.registry.now
    c.waited.new.self c.requires c.waited.ensures c.if-not-store.false c.in-Some.slowest
    (sym c.least_wait.ensures ∙ c.in-Some.is)

pub overflow_sub-kept : goal.overflow_sub-kept
overflow_sub-kept g c = (within g (goal.at.overflow_sub-kept g c).In-Some).high

pub returns : goal.returns
returns g c =
    let old = c.args.store.now in
    let in_range = within g (goal.at.returns g c).In-Some in
    let keeps : KeepsValues old = c.requires.values c.if-not-store.false in
    let low = in_range.low in
    let high = in_range.high in
    record {
      registry = c.waited.ensures;
      board = refl;
      plain = refl;
      slowest = λ on. sym c.least_wait.ensures ∙ c.in-Some.is;
      low = low;
      high = λ on. high;
      values = c.truncate_front.ensures
          ∙ ap (λ k. buffer (drop k old.values.queue.items) old.values.queue.capacity)
          (let k : length old.values.queue.items - (old.board.top - c.in-Some.slowest)
          ≡ c.in-Some.slowest - old.values.base = omega (arith, keeps.top_is) in k);
    }
