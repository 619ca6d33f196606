-- One file more.
use Rattle.std.proofs.Common.{◌≡◌, ◌<◌, ◌+◌, ◌∙◌, ◌++◌, ◌∷◌, ℕ, [], Some, length, map, get_or, slice_get, sym, ap, subst, arith}
use Rattle.std.proofs.lemmas.List.{length-map}
use Rattle.phase_words.specs.Outputs.{pair_as}
use Rattle.phase_words.specs.StreamLine.{stream_asked}
use Rattle.phase_words.specs.declared.call.SinkFile.{SinkFile}
use Rattle.phase_stream.proofs.Targeting.{AreFirst, file_lacks, first_all, first_more, first_output, got_pair}
use Rattle.phase_stream.proofs.sink.targets.Goals as goal

abbrev nowhere : SinkFile
nowhere = record {
  sink = record { ref_ptr = (0, 0); now = [] };
  file = record { ref_ptr = (0, 0); now = [] };
}

pub loop-file-init : goal.loop-file-init
loop-file-init c =
    subst (AreFirst c.args.job.now (stream_asked c.args.call.now) 0)
    (sym (c.in-Ok.ensures.items ∙ ap (λ l. l ++ c.in-Some.output ∷ []) c.new-targets.ensures.items))
    (first_output c.args.job.now (stream_asked c.args.call.now) c.in-Some.output c.in-Some.ensures.some)

pub returns-in_default-asked_sink-clause-none : goal.returns-in_default-asked_sink-clause-none
returns-in_default-asked_sink-clause-none c =
    let items = c.args.call.now.files.items in
    let n : ℕ = c.loop-file.file-index in
    let lt = c.loop-file-test.true in
    let same = ap length c.deref-file-items.ensures.value in
    let found = c.deref-file-items.result.now in
    let within : n < length found = omega arith in
    let many = length-map items pair_as in
    let there : slice_get (map pair_as items) n ≡ Some (pair_as (get_or found n nowhere)) =
    ap (λ l. slice_get (map pair_as l) n) (sym c.deref-file-items.ensures.value)
    ∙ got_pair found n nowhere within in
    file_lacks c.args.job.now (stream_asked c.args.call.now) n (pair_as (get_or found n nowhere))
    (omega arith) there
    (c.asked_sink.ensures.none c.in_default-asked_sink.is)

pub loop-file-preserved : goal.loop-file-preserved
loop-file-preserved c =
    let items = c.args.call.now.files.items in
    let n : ℕ = c.loop-file.file-index in
    let lt = c.loop-file-test.true in
    let same = ap length c.deref-file-items.ensures.value in
    let found = c.deref-file-items.result.now in
    let within : n < length found = omega arith in
    let there : slice_get (map pair_as items) n ≡ Some (pair_as (get_or found n nowhere)) =
    ap (λ l. slice_get (map pair_as l) n) (sym c.deref-file-items.ensures.value)
    ∙ got_pair found n nowhere within in
    subst (AreFirst c.args.job.now (stream_asked c.args.call.now) (n + 1))
    (sym c.in-Ok-push.ensures.items)
    (first_more c.args.job.now (stream_asked c.args.call.now) n c.loop-file.targets.items
    (pair_as (get_or found n nowhere)) c.in-Some-asked_sink.sink c.loop-file.invariant there
    c.in-Some-asked_sink.ensures.some.0
    c.in-Some-asked_sink.ensures.some.1)

pub returns-clause-targets : goal.returns-clause-targets
returns-clause-targets c =
    let items = c.args.call.now.files.items in
    let far = c.loop-file-test.false in
    let near = c.loop-file.auto.file-index-end in
    let same = ap length c.deref-file-items.ensures.value in
    let many = length-map items pair_as in
    first_all c.args.job.now (stream_asked c.args.call.now) c.loop-file.file-index
    c.loop-file.targets.items (omega arith) c.loop-file.invariant
