-- Nothing came, and nothing was handed over.
use Rattle.phase_stream.proofs.Begun.{stands_first}
use Rattle.phase_stream.proofs.session.Session.new.Goals as goal

pub returns-clause-stands : goal.returns-clause-stands
returns-clause-stands g c = λ held old now bare.
    stands_first g.R.Read.remaining held old now
    (record {
      stream = c.args.stream;
      sources = c.in_ok-sources.sources;
      targets = c.args.targets;
    })
    c.job.result.now c.requires c.job.ensures (c.in_ok-sources.ensures held) bare
