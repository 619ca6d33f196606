-- A closed source is one.
use Rattle.std.proofs.Common.{◌≡◌, None, Some, slice_get, length, refl, arith}
use Rattle.std.specs.Vec.{with_item}
use Rattle.std.proofs.lemmas.Option.{slice_get_read}
use Rattle.phase_stream.proofs.Standing.{sources_set}
use Rattle.phase_stream.proofs.session.Session.close.Goals as goal

pub returns-in-Some-clause-stands : goal.returns-in-Some-clause-stands
returns-in-Some-clause-stands g c = λ held old now stop stopped.
    let st = stopped.stands in
    let other = c.in-Some.source.now in
    let one = record other { file = None } in
    let lt = c.in-Some.ensures.variant.0 refl in
    let long = c.args.self.now.sources.ok.0 in
    let there : slice_get c.args.self.now.sources.items c.args.k ≡ Some other =
    slice_get_read c.args.self.now.sources.items (length c.args.self.now.sources.items) c.args.k other
    refl (omega (arith, lt, long)) c.in-Some.ensures.value in
    record {
      stands = record {
        samples = st.samples;
        moment = st.moment;
        given = st.given;
        reaches = st.reaches;
        sources = sources_set g.R.Read.remaining held c.args.self.now
            (record c.args.self.now { sources = with_item c.args.self.now.sources c.args.k one })
            st.samples st.samples c.args.k one other st.sources refl refl there refl
            (λ j apart. refl)
            (record { file = tt; unopened = (st.sources c.args.k other there).1.unopened });
        written = st.written;
      };
      whole = stopped.whole;
      stopped_is = stopped.stopped_is;
    }

pub returns-in-Some-clause-sources : goal.returns-in-Some-clause-sources
returns-in-Some-clause-sources g c = λ held s are.
    let other = c.in-Some.source.now in
    let one = record other { file = None } in
    let lt = c.in-Some.ensures.variant.0 refl in
    let long = c.args.self.now.sources.ok.0 in
    let there : slice_get c.args.self.now.sources.items c.args.k ≡ Some other =
    slice_get_read c.args.self.now.sources.items (length c.args.self.now.sources.items) c.args.k other
    refl (omega (arith, lt, long)) c.in-Some.ensures.value in
    sources_set g.R.Read.remaining held c.args.self.now
    (record c.args.self.now { sources = with_item c.args.self.now.sources c.args.k one })
    s s c.args.k one other are refl refl there refl (λ j apart. refl)
    (record { file = tt; unopened = (are c.args.k other there).1.unopened })
