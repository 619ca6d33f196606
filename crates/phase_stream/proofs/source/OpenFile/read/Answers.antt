-- The bytes that were read are looked at behind the others.
use Rattle.std.proofs.Common.{◌<◌, [], length, take, refl, subst, rules}
use Rattle.std.proofs.lemmas.Result.{IfOk-weaker}
use Rattle.std.specs.Io.KnownBytes.{Consumes}
use Rattle.watched_io.specs.Watched.{inner_of}
use Rattle.phase_stream.proofs.Reading.{read_on}
use Rattle.phase_stream.proofs.source.OpenFile.read.Goals as goal

pub returns-then-bytes-eq0-clause-got : goal.returns-then-bytes-eq0-clause-got
returns-then-bytes-eq0-clause-got g c =
    let old = c.args.self.now in
    let read = c.in_ok-bytes.ensures.bytes in
    let some : 0 < length c.read.new.piece = search rules in
    let consumed : Consumes (g.R.Read.remaining (inner_of old.input))
    (g.R.Read.remaining (inner_of c.read.new.self)) [] =
    subst (λ n. Consumes (g.R.Read.remaining (inner_of old.input))
    (g.R.Read.remaining (inner_of c.read.new.self)) (take n c.read.new.piece)) c.if-bytes-eq0.true
    read.0 in
    IfOk-weaker c.end.result _ _
    (λ piece gives known values is. gives known values
    (read_on g.R.Read.remaining known values old (record old { input = c.read.new.self }) []
    (is.good c.if-self.false) consumed refl refl refl)
    (read.1 c.if-bytes-eq0.true some)) c.end.ensures.got

pub returns-clause-got : goal.returns-clause-got
returns-clause-got g c =
    let old = c.args.self.now in
    IfOk-weaker c.pass.result _ _
    (λ piece gives known values is. gives known values
    (read_on g.R.Read.remaining known values old (record old { input = c.read.new.self })
    (take c.in_ok-bytes.bytes c.read.new.piece) (is.good c.if-self.false)
    c.in_ok-bytes.ensures.bytes.0 refl refl refl)) c.pass.ensures.got
