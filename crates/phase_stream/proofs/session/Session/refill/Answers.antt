-- What a read gave is fed.
use Rattle.std.proofs.Common.{◌≡◌, ℕ, List, [], Option, Some, length, get_or, slice_get, refl, arith}
use Rattle.std.specs.Vec.{with_item}
use Rattle.std.proofs.lemmas.Option.{slice_get_read}
use Rattle.graph_commands.specs.FileJobs.{Known}
use Rattle.graph_base.specs.Graphs.{file_at}
use Rattle.phase_stream.specs.Sessions.{IsKnownAs, StandsBy}
use Rattle.phase_stream.specs.Sources.{GivesSource}
use Rattle.phase_stream.proofs.Refilling.{Fed, fed_last, fed_more, fed_of, fed_short, gives_as, known_as, within_so, lacks_as, lacks_none, lacks_so, named_as, not_less}
use Rattle.phase_stream.proofs.session.Session.refill.Given.{Over}
use Rattle.phase_stream.proofs.session.Session.refill.Goals.{In-Some, After-file-name, In-Ok, After-feed}
use Rattle.phase_stream.proofs.session.Session.refill.Goals as goal

-- the source that is read
there : (g : Over) (c : In-Some g)
    → slice_get c.args.self.now.sources.items c.args.k ≡ Some c.in-Some.source.now
there g c =
    let items = c.args.self.now.sources.items in
    let lt = c.in-Some.ensures.variant.0 refl in
    let long = c.args.self.now.sources.ok.0 in
    slice_get_read items (length items) c.args.k c.in-Some.source.now refl (omega (arith, lt, long))
    c.in-Some.ensures.value

-- what is known of its file
known : (g : Over) (c : After-file-name g) (held : Known)
    → IsKnownAs held (g.F.Files.file c.args.files.now)
    → g.F.Files.file c.args.files.now c.file-name.result.now
    ≡ held (file_at c.args.self.now.stream.job.graph c.args.k)
known g c held is =
    known_as (g.F.Files.file c.args.files.now) held is c.file-name.result.now c.graph-2.result.now
    c.args.self.now.stream.job.graph c.args.k c.file-name.ensures.file c.graph-2.ensures

-- what it gave
gives : (g : Over) (c : In-Ok g) (held : Known)
    (old now : ℕ → Option (List ℕ))
    (st : StandsBy g.R.Read.remaining held old now c.args.self.now)
    → slice_get c.args.self.now.sources.items c.args.k ≡ Some c.in-Some.source.now
    → g.F.Files.file c.args.files.now c.file-name.result.now
    ≡ held (file_at c.args.self.now.stream.job.graph c.args.k)
    → GivesSource g.R.Read.remaining (held (file_at c.args.self.now.stream.job.graph c.args.k))
    (get_or st.samples c.args.k []) c.read.new.room.values c.in-Ok.piece c.read.new.self
gives g c held old now st here file =
    gives_as g.R.Read.remaining _ _ (get_or st.samples c.args.k []) c.read.new.room.values
    c.in-Ok.piece c.in-Some.source.now c.read.new.self file c.in-Ok.ensures.got
    (st.sources c.args.k c.in-Some.source.now here).1

-- and what of that was fed
fed : (g : Over) (c : After-feed g) (held : Known)
    (old now : ℕ → Option (List ℕ))
    (st : StandsBy g.R.Read.remaining held old now c.args.self.now)
    → slice_get c.args.self.now.sources.items c.args.k ≡ Some c.in-Some.source.now
    → GivesSource g.R.Read.remaining (held (file_at c.args.self.now.stream.job.graph c.args.k))
    (get_or st.samples c.args.k []) c.read.new.room.values c.in-Ok.piece c.read.new.self
    → Fed g.R.Read.remaining held old now c.args.self.now c.feed.new.self c.args.k c.feed.result
    c.read.new.self c.in-Some.source.now c.read.new.room.values c.in-Ok.piece st
fed g c held old now st here gave =
    let within = within_so c.sources.result c.args.k c.graph.result.now c.args.self.now.stream.job.graph
    c.sources.ensures.count c.graph.ensures c.if-k-sources.false in
    fed_of g.R.Read.remaining held old now c.args.self.now c.feed.new.self c.args.k c.feed.result
    c.read.new.self c.in-Some.source.now c.read.new.room.values c.in-Ok.piece st here within gave
    c.read.ensures.task (c.feed.ensures.took st.samples st.moment st.given st.reaches.at)
    (c.feed.ensures.fed st.samples st.moment st.given st.reaches.at) c.feed.ensures.others
    c.feed.ensures.ended

pub shared_ref_as_front-feed : goal.shared_ref_as_front-feed
shared_ref_as_front-feed g c =
    let (held, old, now, is, st) = c.requires in let a = goal.at.shared_ref_as_front-feed g c in
    (gives g a.In-Ok held old now st (there g a.In-Some) (known g a.After-file-name held is)).small

pub feed-requires-clause-sends : goal.feed-requires-clause-sends
feed-requires-clause-sends g c =
    let (held, old, now, is, st) = c.requires in let a = goal.at.feed-requires-clause-sends g c in
    (gives g a.In-Ok held old now st (there g a.In-Some) (known g a.After-file-name held is)).sends

pub returns-then-feed-piece-clause-err : goal.returns-then-feed-piece-clause-err
returns-then-feed-piece-clause-err g c = λ held old now hungry is stopped.
    (let a = goal.at.returns-then-feed-piece-clause-err g c in
    let st = stopped.stands in let here = there g a.In-Some in
    fed_short g.R.Read.remaining held old now c.args.self.now
    (record c.args.self.now {
      stream = c.feed.new.self;
      sources = with_item c.args.self.now.sources c.args.k c.read.new.self;
    })
    c.args.k c.feed.result c.read.new.self c.in-Some.source.now c.read.new.room.values c.in-Ok.piece st
    (fed g a.After-feed held old now st here (gives g a.In-Ok held old now st here (known g a.After-file-name held is)))
    c.if-feed-piece.true refl refl)

pub returns-then-piece-clause-ok : goal.returns-then-piece-clause-ok
returns-then-piece-clause-ok g c = λ held old now is st.
    (let a = goal.at.returns-then-piece-clause-ok g c in let here = there g a.In-Some in
    fed_last g.R.Read.remaining held old now c.args.self.now
    (record c.args.self.now {
      stream = c.finish.new.self;
      sources = with_item c.args.self.now.sources c.args.k c.read.new.self;
    })
    c.feed.new.self c.args.k c.feed.result c.read.new.self c.in-Some.source.now c.read.new.room.values
    c.in-Ok.piece st
    (fed g a.After-feed held old now st here (gives g a.In-Ok held old now st here (known g a.After-file-name held is)))
    (not_less c.feed.result c.in-Ok.piece.count c.if-feed-piece.false) c.if-piece.true
    c.finish.ensures.stands c.finish.ensures.others c.finish.ensures.ended refl refl)

pub returns-clause-ok : goal.returns-clause-ok
returns-clause-ok g c = λ held old now is st.
    (let a = goal.at.returns-clause-ok g c in let here = there g a.In-Some in
    fed_more g.R.Read.remaining held old now c.args.self.now
    (record c.args.self.now {
      stream = c.feed.new.self;
      sources = with_item c.args.self.now.sources c.args.k c.read.new.self;
    })
    c.args.k c.feed.result c.read.new.self c.in-Some.source.now c.read.new.room.values c.in-Ok.piece st
    (fed g a.After-feed held old now st here (gives g a.In-Ok held old now st here (known g a.After-file-name held is)))
    (not_less c.feed.result c.in-Ok.piece.count c.if-feed-piece.false) c.if-piece.false refl refl)

pub returns-in-Err-clause-err : goal.returns-in-Err-clause-err
returns-in-Err-clause-err g c = λ held old now hungry is stopped.
    (let a = goal.at.returns-in-Err-clause-err g c in
    let st = stopped.stands in let here = there g a.In-Some in
    lacks_so g.R.Read.remaining held old now c.args.self.now
    (record c.args.self.now {
      sources = with_item c.args.self.now.sources c.args.k c.read.new.self;
    })
    c.args.k c.read.new.self c.in-Some.source.now c.in-Err.lack hungry stopped here c.read.ensures.task
    refl refl refl
    (lacks_as g.R.Read.remaining _ _ _ _ (get_or st.samples c.args.k []) c.in-Some.source.now
    c.in-Err.lack (known g a.After-file-name held is)
    (named_as c.file-name.result.now c.graph-2.result.now c.args.self.now.stream.job.graph c.args.k
    c.file-name.ensures.file c.graph-2.ensures)
    c.in-Err.ensures.lacks (st.sources c.args.k c.in-Some.source.now here).1))

pub returns-in_default-clause-err : goal.returns-in_default-clause-err
returns-in_default-clause-err g c = λ held old now hungry is stopped.
    lacks_none g.R.Read.remaining held old now c.args.self.now c.args.k stopped.stands

pub returns-then-k-sources-clause-err : goal.returns-then-k-sources-clause-err
returns-then-k-sources-clause-err g c = λ held old now hungry is stopped.
    lacks_none g.R.Read.remaining held old now c.args.self.now c.args.k stopped.stands
