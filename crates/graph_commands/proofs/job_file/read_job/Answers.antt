use Rattle.std.proofs.Common.{sym, subst}
use Rattle.graph_commands.specs.Explained.{IsTextOf}
use Rattle.graph_commands.specs.FileJobs.{Explains, IsJobOf, Known}
use Rattle.graph_commands.proofs.Counted.{known-same}
use Rattle.graph_commands.proofs.job_file.read_job.Goals as goal

-- the file was read, and its text gives a job
pub returns-in-Ok-job_of_text-clause-ok : goal.returns-in-Ok-job_of_text-clause-ok
returns-in-Ok-job_of_text-clause-ok g c =
    let name = c.args.name.now in
    let same = known-same (g.F.Files.file c.read.new.self) (g.F.Files.file c.args.files.now)
    c.in-Ok.ensures.same in
    let of : IsTextOf (g.F.Files.file c.read.new.self) name c.deref.result.now = rw c.deref.ensures.value
    (subst (λ (known : Known). IsTextOf known name c.in-Ok.text.items) (sym same)
    (record { bytes = c.in-Ok.ensures.bytes; short = c.in-Ok.ensures.short })) in
    subst (λ (known : Known). IsJobOf known name c.in-Ok-job_of_text.job) same
    (c.in-Ok-job_of_text.ensures.ok name of)

-- its text gives none
pub returns-in-Ok-clause-failed : goal.returns-in-Ok-clause-failed
returns-in-Ok-clause-failed g c =
    let name = c.args.name.now in
    let same = known-same (g.F.Files.file c.read.new.self) (g.F.Files.file c.args.files.now)
    c.in-Ok.ensures.same in
    let here : IsTextOf (g.F.Files.file c.args.files.now) name c.in-Ok.text.items =
    record { bytes = c.in-Ok.ensures.bytes; short = c.in-Ok.ensures.short } in
    let of : IsTextOf (g.F.Files.file c.read.new.self) name c.deref.result.now = rw c.deref.ensures.value
    (subst (λ (known : Known). IsTextOf known name c.in-Ok.text.items) (sym same) here) in
    record {
      explains = subst (λ (known : Known). Explains known name c.in-Err-job_of_text.fault) same
          (c.in-Err-job_of_text.ensures.fault name of);
      text_of = λ _. here;
    }
