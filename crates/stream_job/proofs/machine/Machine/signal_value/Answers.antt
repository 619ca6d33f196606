-- The value is signalled as the number that stands at the registration of the output.
use Rattle.std.proofs.Common.{◌≡◌, ◌<◌, ◌*◌, [], ◌∷◌, length, get_or, refl, sym, ap, subst, ◌∙◌, arith, to_z-of_z}
use Rattle.phase_accum.specs.Sends.{AreSends}
use Rattle.graph_runs.specs.Nexts.{signals}
use Rattle.graph_runs.specs.TaskEvents.{signal}
use Rattle.stream_lists.specs.Jobs.{with_samples}
use Rattle.stream_job.specs.Places.{owed_in}
use Rattle.stream_job.proofs.Lively.{state_read, state_there}
use Rattle.stream_job.proofs.Setting.{set_read, bare_cores, full_cores}
use Rattle.stream_job.proofs.Signals.{signal_few, signals_at, signals_so, values_sent, signalled_turn, with_owing}
use Rattle.stream_job.proofs.SignalCalls.{refused_turn}
use Rattle.stream_job.proofs.machine.Machine.signal_value.Goals as goal

pub output_of-k-requires-clause-output : goal.output_of-k-requires-clause-output
output_of-k-requires-clause-output c =
    let s = c.requires.next.0 in
    let next = c.requires.next.2 in
    let job = with_samples s c.args.job.now in
    (signal_few job c.args.self.now next.some.0 c.args.t c.args.output
    next next.some.1)

pub offset_bounds-deref-k : goal.offset_bounds-deref-k
offset_bounds-deref-k c =
    let s = c.requires.next.0 in
    let next = c.requires.next.2 in
    let job = with_samples s c.args.job.now in
    let found = state_read next (λ e. (cc)) c.index.ensures in
    let place = (signals_at job c.args.self.now next.some.0 c.args.t
    c.args.output c.index.result.now next next.some.1 found).place in
    let same = c.output_of-k.ensures.registration in
    let long : length c.deref.result.now ≡ length c.index.result.now.numbers.items =
    ap length c.deref.ensures in
    let small : length c.deref.result.now * 8 < 9223372036854775808 = c.deref.type_inv.1 in
    record { fits = omega arith }

pub bounds-deref-k : goal.bounds-deref-k
bounds-deref-k c =
    let s = c.requires.next.0 in
    let next = c.requires.next.2 in
    let job = with_samples s c.args.job.now in
    let found = state_read next (λ e. (cc)) c.index.ensures in
    let place = (signals_at job c.args.self.now next.some.0 c.args.t
    c.args.output c.index.result.now next next.some.1 found).place in
    omega (arith, c.output_of-k.ensures.registration, ap length c.deref.ensures)

pub signal_values_on-requires-clause-sends : goal.signal_values_on-requires-clause-sends
signal_values_on-requires-clause-sends c =
    let s = c.requires.next.0 in
    let next = c.requires.next.2 in
    let job = with_samples s c.args.job.now in
    subst (λ v. AreSends (v ∷ [])) (sym (to_z-of_z c.ranges.x))
    (values_sent job c.args.self.now c.args.t c.args.output (c.args.x ∷ [])
    next (λ m at. c.requires.value s c.requires.next.1 m next at))

pub signal_values_on-requires-clause-room : goal.signal_values_on-requires-clause-room
signal_values_on-requires-clause-room c =
    let s = c.requires.next.0 in
    let next = c.requires.next.2 in
    let job = with_samples s c.args.job.now in
    let found = state_read next (λ e. (cc)) c.index.ensures in
    let there = (signals_at job c.args.self.now next.some.0 c.args.t c.args.output
    c.index.result.now next next.some.1 found).there in
    let room = c.requires.places c.args.t there in
    let same : c.buffers.inside.parcels ≡ c.args.buffers.now = c.buffers.view_is in
    omega arith

pub returns-in_default-clause-made : goal.returns-in_default-clause-made
returns-in_default-clause-made c = λ s steps next.
    let job = with_samples s c.args.job.now in
    let found = state_read next (λ e. (cc)) c.index.ensures in
    let number = get_or c.deref.result.now c.output_of-k.result.0 0 in
    let p = c.output_of-k.result.1 in
    refused_turn job c.args.self.now c.signal_values_on.new.self c.args.t number p
    (c.args.x ∷ []) (signals c.args.output) (signal c.args.t c.args.output p number (c.args.x ∷ []))
    c.in_default.field-0 next (sym c.output_of-k.ensures.phaser)
    (signals_so job c.args.self.now c.args.t c.args.output number p (c.args.x ∷ [])
    c.index.result.now next found c.output_of-k.ensures.phaser
    (ap (λ ns. get_or ns c.output_of-k.result.0 0) c.deref.ensures
    ∙ ap (λ k. get_or c.index.result.now.numbers.items k 0) c.output_of-k.ensures.registration)
    (λ m at. c.requires.value s steps m next at))
    (λ m at. (simp (to_z-of_z, c.ranges.x) at c.in_default.ensures.reply) m.history
    (bare_cores s at.cores))
    (λ m at. full_cores s (c.in_default.ensures.cores m.history (bare_cores s at.cores)))
    c.signal_values_on.ensures.others.0 c.signal_values_on.ensures.others.1

pub returns-clause-made : goal.returns-clause-made
returns-clause-made c = λ s steps next.
    let job = with_samples s c.args.job.now in
    let lt = state_there next (λ e. (cc)) in
    let found = state_read next (λ e. (cc)) c.index.ensures in
    let it = next.some.1.tasks c.args.t c.index.result.now found in
    let none = it.made_none c.requires.kind in
    let owed = c.owed_after_signal.result in
    signalled_turn job c.args.self.now _ c.args.t c.args.output
    (get_or c.deref.result.now c.output_of-k.result.0 0) c.output_of-k.result.1 c.in-Ok.field-0
    (c.args.x ∷ []) c.index.result.now owed c.index.result.now.made next found
    c.output_of-k.ensures.phaser
    (ap (λ ns. get_or ns c.output_of-k.result.0 0) c.deref.ensures
    ∙ ap (λ k. get_or c.index.result.now.numbers.items k 0) c.output_of-k.ensures.registration)
    (λ m at. c.requires.value s steps m next at) (λ m at. (simp (to_z-of_z, c.ranges.x) at c.in-Ok.ensures.reply) m.history
    (bare_cores s at.cores))
    (λ m at. full_cores s ((simp (to_z-of_z, c.ranges.x) at c.in-Ok.ensures.cores) m.history
    (bare_cores s at.cores)))
    (set_read (λ s. with_owing s c.owed_after_signal.result s.made) c.args.self.now.tasks.items
    c.signal_values_on.new.self.tasks.items c.args.t c.index.result.now c.index_mut.result.now
    (ap (λ v. v.items) c.signal_values_on.ensures.others.0) lt c.index.ensures c.index_mut.ensures.value)
    c.signal_values_on.ensures.others.1
    (record {
      owes = ap (owed_in c.owed_after_signal.result) none
          ∙ (simp (to_z-of_z, c.ranges.x) at c.owed_after_signal.ensures);
      room = refl;
      made_by = λ fir. absurd (c.requires.kind fir);
      made_none = λ other. none;
    })

pub signal_values_on-requires-clause-cores : goal.signal_values_on-requires-clause-cores
signal_values_on-requires-clause-cores c =
    let next = c.requires.next.2 in
    (next.some.0.history, bare_cores c.requires.next.0 next.some.1.cores)
