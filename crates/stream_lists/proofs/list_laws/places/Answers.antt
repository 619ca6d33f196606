-- A found place is within the line; no phaser stands twice on a line.
use Rattle.stream_lists.proofs.Ordered.{place-at, place_of_input, parents_signal, parents_wait}
use Rattle.stream_lists.proofs.list_laws.places.Goals as goal

pub returns-clause-found : goal.returns-clause-found
returns-clause-found c = place-at

pub returns-clause-input : goal.returns-clause-input
returns-clause-input c = place_of_input

pub returns-clause-signals : goal.returns-clause-signals
returns-clause-signals c = parents_signal

pub returns-clause-waits : goal.returns-clause-waits
returns-clause-waits c = parents_wait
