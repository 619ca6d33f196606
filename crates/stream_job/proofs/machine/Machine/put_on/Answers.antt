-- The value that the state owes is signalled as the number that stands at the registration of its
-- output.
use Rattle.std.proofs.Common.{rules, ◌≡◌, ◌<◌, ◌*◌, [], ◌∷◌, SFits, w64, length, get_or, true, false, refl, sym, ap, subst, ◌∙◌, arith, to_z-of_z}
use Rattle.phase_accum.specs.Sends.{AreSends}
use Rattle.std.specs.Prelude.{Ok}
use Rattle.std.proofs.lemmas.Option.{same_Some}
use Rattle.stream_lists.specs.Jobs.{with_samples}
use Rattle.graph_runs.specs.TaskEvents.{after_turn, signal}
use Rattle.graph_runs.specs.declared.owed.Owed.TheVariants as code
use Rattle.stream_job.specs.Places.{place_in_state}
use Rattle.stream_job.proofs.BareSteps.{none_stepped, owes_output, owes_send, read_at, signalled_once, state_owes}
use Rattle.stream_job.proofs.Ending.{number_of_output}
use Rattle.stream_job.proofs.Events.{unchanged}
use Rattle.stream_job.proofs.Setting.{set_read, bare_cores, full_cores}
use Rattle.stream_job.proofs.machine.Machine.put_on.Goals.{In-Ok, After-deref}
use Rattle.stream_job.proofs.machine.Machine.put_on.Goals as goal

-- what the state owes
owes : (c : In-Ok)
    → c.index.result.now.owed ≡ code.Value c.in-Value.output (Ok c.in-Ok.x)
owes c = c.in-Value.is ∙ ap (code.Value c.in-Value.output) c.in-Ok.is

pub output_of-k-requires-clause-output : goal.output_of-k-requires-clause-output
output_of-k-requires-clause-output c =
    let s = c.requires.machine.0 in
    let m = c.requires.machine.1.0 in
    let at = c.requires.machine.1.1 in
    let job = with_samples s c.args.job.now in
    let t = c.args.t in
    let state = c.index.result.now in
    let found = read_at job m c.args.self.now t state at c.requires.task c.index.ensures in
    let it = at.tasks t state found in
    owes_output job m t c.in-Value.output c.in-Ok.x (place_in_state state) it.stands
    (state_owes job m t c.in-Value.output c.in-Ok.x state it c.requires.kind
    (owes (goal.at.output_of-k-requires-clause-output c).In-Ok))

-- where the number stands
place : (c : After-deref) → c.output_of-k.result.0 < length c.deref.result.now
place c =
    let s = c.requires.machine.0 in
    let m = c.requires.machine.1.0 in
    let at = c.requires.machine.1.1 in
    let job = with_samples s c.args.job.now in
    let t = c.args.t in
    let j = c.in-Value.output in
    let first = c.index.result.now in
    let found = read_at job m c.args.self.now t first at c.requires.task c.index.ensures in
    let it = at.tasks t first found in
    let few = owes_output job m t j c.in-Ok.x (place_in_state first) it.stands
    (state_owes job m t j c.in-Ok.x first it c.requires.kind
    (c.in-Value.is ∙ ap (code.Value j) c.in-Ok.is)) in
    let state = c.index-2.result.now in
    let again = read_at job m c.args.self.now t state at c.requires.task c.index-2.ensures in
    let out = number_of_output job m t j (place_in_state state) at.graph
    (at.tasks t state again).stands (c.requires.live s m at) few in
    omega (arith, out.0, c.output_of-k.ensures.registration, ap length c.deref.ensures)

pub offset_bounds-deref-k : goal.offset_bounds-deref-k
offset_bounds-deref-k c =
    let lt = place (goal.at.offset_bounds-deref-k c).After-deref in
    let small : length c.deref.result.now * 8 < 9223372036854775808 = c.deref.type_inv.1 in
    record { fits = omega arith }

pub bounds-deref-k : goal.bounds-deref-k
bounds-deref-k c = place (goal.at.bounds-deref-k c).After-deref

pub signal_values_on-requires-clause-cores : goal.signal_values_on-requires-clause-cores
signal_values_on-requires-clause-cores c =
    let m = c.requires.machine.1.0 in
    (m.history, bare_cores c.requires.machine.0 c.requires.machine.1.1.cores)

pub signal_values_on-requires-clause-sends : goal.signal_values_on-requires-clause-sends
signal_values_on-requires-clause-sends c =
    let s = c.requires.machine.0 in
    let m = c.requires.machine.1.0 in
    let at = c.requires.machine.1.1 in
    let job = with_samples s c.args.job.now in
    let t = c.args.t in
    let state = c.index.result.now in
    let found = read_at job m c.args.self.now t state at c.requires.task c.index.ensures in
    let it = at.tasks t state found in
    let fits : SFits w64 c.in-Ok.x = search rules in
    subst (λ v. AreSends (v ∷ [])) (sym (to_z-of_z fits))
    (owes_send job m t c.in-Value.output c.in-Ok.x (place_in_state state) it.stands
    (state_owes job m t c.in-Value.output c.in-Ok.x state it c.requires.kind
    (owes (goal.at.signal_values_on-requires-clause-sends c).In-Ok)))

pub returns-in_default-signal_values_on-clause-steps :
    goal.returns-in_default-signal_values_on-clause-steps
returns-in_default-signal_values_on-clause-steps c = λ s m at.
    let job = with_samples s c.args.job.now in
    let w = c.in_default-signal_values_on in
    none_stepped job c.args.t m c.signal_values_on.new.self
    (unchanged job m c.args.self.now c.signal_values_on.new.self c.output_of-k.result.1 at
    (full_cores s (w.ensures.cores m.history (bare_cores s at.cores)))
    c.signal_values_on.ensures.others.0 c.signal_values_on.ensures.others.1)

pub returns-clause-steps : goal.returns-clause-steps
returns-clause-steps c = λ s m at.
    let job = with_samples s c.args.job.now in
    let t = c.args.t in
    let j = c.in-Value.output in
    let x = c.in-Ok.x in
    let p = c.output_of-k.result.1 in
    let n = get_or c.deref.result.now c.output_of-k.result.0 0 in
    let old = c.args.self.now in
    let first = c.index.result.now in
    let state = c.index-2.result.now in
    let was = read_at job m old t first at c.requires.task c.index.ensures in
    let found = read_at job m old t state at c.requires.task c.index-2.ensures in
    let same : first ≡ state = same_Some first state (sym was ∙ found) in
    let it = c.in-Ok-signal_values_on in
    let lt : t < length old.tasks.items =
    (let many = at.tasks_many in omega (arith, c.requires.task)) in
    let fits : SFits w64 x = search rules in
    let one = signalled_once job m old _ t j p n it.field-0 x state at found c.requires.task
    c.requires.kind (c.requires.live s m at)
    (ap (λ z. z.owed) (sym same) ∙ owes (goal.at.returns-clause-steps c).In-Ok)
    c.output_of-k.ensures.phaser
    (ap (λ ns. get_or ns c.output_of-k.result.0 0) c.deref.ensures
    ∙ ap (λ k. get_or state.numbers.items k 0) c.output_of-k.ensures.registration)
    ((simp (to_z-of_z, fits) at it.ensures.reply) m.history (bare_cores s at.cores))
    (full_cores s ((simp (to_z-of_z, fits) at it.ensures.cores) m.history (bare_cores s at.cores)))
    (set_read (λ z. record z { owed = code.Nothing }) old.tasks.items
    c.signal_values_on.new.self.tasks.items t state c.index_mut.result.now
    (ap (λ v. v.items) c.signal_values_on.ensures.others.0) lt c.index-2.ensures
    c.index_mut.ensures.value)
    c.signal_values_on.ensures.others.1 in
    record {
      events = signal t j p n (x ∷ []) ∷ [];
      after = after_turn job (signal t j p n (x ∷ [])) m;
      lead = (one.0, refl);
      some = λ e. absurd (let wrong : false ≡ true = e in cc);
      stands = one.1;
    }
