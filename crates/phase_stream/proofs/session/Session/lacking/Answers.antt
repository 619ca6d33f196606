-- By the cause.
use Rattle.std.proofs.Common.{◌≡◌, inl, inr, Some, slice_get, length, arith, refl, subst, rules}
use Rattle.std.proofs.lemmas.Option.{slice_get_read}
use Rattle.phase_stream.specs.Sessions.{StandsLacking}
use Rattle.phase_stream.proofs.Writing.{bad_stops, lacking_stops}
use Rattle.graph_commands.specs.declared.fault.JobFault.TheVariants as faults
use Rattle.phase_stream.proofs.session.Session.lacking.Goals as goal

pub returns-in_default-clause-stops : goal.returns-in_default-clause-stops
returns-in_default-clause-stops g c = λ held old new st.
    lacking_stops held old new c.args.self.now c.args.k c.args.lack faults.ReadFault c.unread.result
    c.kept_is_right.ensures.given c.kept_is_right.ensures.right st c.unread.ensures (inl refl)

pub returns-then-k-len-clause-stops : goal.returns-then-k-len-clause-stops
returns-then-k-len-clause-stops g c = λ held old new st.
    lacking_stops held old new c.args.self.now c.args.k c.args.lack faults.OutOfMemory
    c.unread-then-k-len.result c.kept_is_right.ensures.given c.kept_is_right.ensures.right st
    c.unread-then-k-len.ensures (inr refl)

pub returns-then-task-tasks-clause-stops : goal.returns-then-task-tasks-clause-stops
returns-then-task-tasks-clause-stops g c = λ held old new st.
    lacking_stops held old new c.args.self.now c.args.k c.args.lack faults.OutOfMemory
    c.unread-then-task-tasks.result c.kept_is_right.ensures.given c.kept_is_right.ensures.right st
    c.unread-then-task-tasks.ensures (inr refl)

pub returns-in-Err-clause-stops : goal.returns-in-Err-clause-stops
returns-in-Err-clause-stops g c = λ held old new st.
    lacking_stops held old new c.args.self.now c.args.k c.args.lack faults.OutOfMemory
    c.unread-in-Err.result c.kept_is_right.ensures.given c.kept_is_right.ensures.right st
    c.unread-in-Err.ensures (inr refl)

pub returns-in-Ok-clause-stops : goal.returns-in-Ok-clause-stops
returns-in-Ok-clause-stops g c = λ held old new st.
    let bad = subst (λ l. StandsLacking held old (λ k. (new k).written) c.args.self.now c.args.k l)
    c.in-BadRecord.is st in
    let lt = c.if-k-len.false in
    let many = c.len.ensures in
    let long = c.args.self.now.sources.ok.0 in
    let there : slice_get c.args.self.now.sources.items c.args.k ≡ Some c.index.result.now =
    slice_get_read c.args.self.now.sources.items (length c.args.self.now.sources.items) c.args.k
    c.index.result.now refl (omega (arith, lt, many, long)) c.index.ensures in
    bad_stops held old new c.args.self.now c.args.k c.in-BadRecord.number c.index.result.now.task
    c.in-Ok.name c.in-BadRecord.told c.unread-in-Ok.result c.kept_is_right.ensures.right
    bad c.unread-in-Ok.ensures (bad.there c.index.result.now there) (search rules)
