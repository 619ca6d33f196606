-- Turns lead to a later moment, with the same samples and nothing more handed over.
use Rattle.std.proofs.Common.{refl, subst}
use Rattle.stream_job.specs.Streams.{StreamStopsAt, after_sized}
use Rattle.stream_lists.specs.Jobs.{with_samples}
use Rattle.phase_stream.proofs.Standing.{came_same, sources_same, stop_means, with_four}
use Rattle.phase_stream.proofs.session.Session.run.Goals as goal

pub returns-clause-stands : goal.returns-clause-stands
returns-clause-stands g c = λ held old now st.
    let on = c.run.ensures.goes_on in
    let later = on.later st.samples st.moment st.given st.reaches.at in
    record {
      samples = st.samples;
      moment = after_sized (with_samples st.samples c.args.self.now.stream.job) st.moment later.0;
      given = st.given;
      reaches = record {
        at = later.2;
        came = came_same held c.args.self.now.stream c.run.new.self st.samples on.job on.inputs
            st.reaches.came;
      };
      sources = sources_same g.R.Read.remaining held c.args.self.now
          (record c.args.self.now { stream = c.run.new.self }) st.samples on.job refl st.sources;
      written = st.written;
    }

pub returns-clause-stops : goal.returns-clause-stops
returns-clause-stops g c =
    with_four c.run.result _ _ _ _ _
    (λ stop stops done big meets s m given at. stop_means c.run.new.self s m given stop at
    (stops s m given at) (λ e more fed ready. done e s m given more at fed ready)
    (λ e more t fed ready there. c.starts_are_in_time.ensures.done c.run.new.self s m given more t at
    fed ready there (subst (StreamStopsAt c.run.new.self s m given) e (stops s m given at)))
    (λ place n e more fed ready. big place n e s m given more at fed ready)
    (λ place n e. meets place n e s m given at))
    c.run.ensures.stops c.run.ensures.done c.run.ensures.too_big c.run.ensures.meets
