use Rattle.graph_runs.proofs.FedNexts.{stands_fed, next_fed}
use Rattle.graph_runs.proofs.feeds.places_go_on.Goals as goal

pub returns : goal.returns
returns c = record {
  stands = λ most job m more t at goes there. stands_fed most job m more t at (goes t there);
  next = λ job m more t goes there. next_fed job m more t (goes t there);
}
