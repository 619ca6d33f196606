use Rattle.graph_runs.proofs.FedFeeds.{feed_continues}
use Rattle.graph_runs.proofs.FedOpen.{open_stays}
use Rattle.graph_runs.proofs.feeds.feeds_go_on.Goals as goal

pub returns : goal.returns
returns c = record {
  continues = feed_continues;
  opens = λ job ended m samples opens. opens;
  turn = open_stays;
}
