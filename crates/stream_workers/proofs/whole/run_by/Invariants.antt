use Rattle.stream_tasks.specs.Openings.{spot_at}
use Rattle.stream_workers.proofs.whole.run_by.Given as goal

-- the run is of this job, on these phasers
abbrev pub ghosts-run_named : goal.ghosts-run_named
ghosts-run_named g a = record { job = a.job.now; spots = spot_at a.phasers.now }
