-- More of a source that waited for samples.
use Rattle.std.proofs.Common.{◌≡◌, ◌≢◌, ◌⊎◌, inl, inr, ◌<◌, ◌≤◌, ◌++◌, ℕ, ℤ, Bool, true, false, eqb, List, [], ◌∷◌, Option, Some, length, get_or, set, slice_get, take, zero, suc, refl, sym, ap, subst, ◌∙◌, append-nil, arith, rules}
use mathlib.Core.List.{IsPrefix}
use Rattle.std.specs.Prelude.{◌||◌, is_some, nat_lt}
use Rattle.stream_lists.specs.Jobs.{Job, with_samples}
use Rattle.std.proofs.lemmas.Bool.{eq-eqb, eqb-true, ltb-false, ltb-true}
use Rattle.std.proofs.lemmas.List.{length-take-le}
use Rattle.graph_commands.specs.FileJobs.{Known}
use Rattle.stream_job.specs.Streams.{FeedTakes, IsSameBut, IsSourceAt, IsStreamAt, StreamState, ended_at, ended_with, fed, has_ended}
use Rattle.stream_job.specs.declared.stopped.Stopped.TheVariants.{Hungry}
use Rattle.graph_base.specs.Graphs.{Graph, file_at, source_number, sources_of}
use Rattle.graph_runs.specs.Feeds.{IsFed}
use Rattle.graph_runs.specs.Moments.{Moment}
use Rattle.phase_stream.specs.Sessions.{AreCome, AreSources, AreWritten, IsKnownAs, KeptStill, Reaches, StandsBy, StandsFurther, StandsLacking, StandsStopped}
use Rattle.phase_stream.specs.Sources.{GivesSource, HasComeOf, IsSource, Lacks}
use Rattle.phase_stream.specs.declared.source.Lack.{Lack}
use Rattle.phase_stream.specs.declared.session.Session.{Session}
use Rattle.phase_stream.specs.declared.source.Lack.TheVariants as lack
use Rattle.phase_stream.specs.declared.source.Piece.{Piece}
use Rattle.phase_stream.specs.declared.source.Source.{Source}
use Rattle.phase_stream.proofs.Feeding.{came_fed, fed_here, fed_there}
use Rattle.phase_stream.proofs.Standing.{set_get, sources_set}

-- what was fed of source number k: these samples, of which so many were taken
pub record Fed {R : Type 0} (remaining : R → Option (List ℕ)) (held : Known)
    (old now : ℕ → Option (List ℕ)) (before : Session R) (mid : StreamState) (k took : ℕ)
    (one other : Source R) (room : List ℤ) (piece : Piece) (st : StandsBy remaining held old now before)
    : Type 0 where
  pub there : slice_get before.sources.items k ≡ Some other
  pub within : k < sources_of before.stream.job.graph
  pub gives : GivesSource remaining (held (file_at before.stream.job.graph k))
      (get_or st.samples k []) room piece one
  pub task : one.task ≡ other.task
  pub took_is : FeedTakes before.stream st.samples st.moment k (length (take piece.count room)) took
  pub fed_is : IsStreamAt mid (fed st.samples k (take took (take piece.count room))) st.moment st.given
  pub same : IsSameBut before.stream mid
  pub ended : (j : ℕ) → has_ended mid.inputs j ≡ has_ended before.stream.inputs j

-- an ended source takes nothing
or_true : (b c : Bool) → c ≡ true → (b || c) ≡ true
or_true true c e = refl
or_true false c e = e

took_none : {R : Type 0} (remaining : R → Option (List ℕ)) (held : Known)
    (old now : ℕ → Option (List ℕ)) (before : Session R) (mid : StreamState) (k took : ℕ)
    (one other : Source R) (room : List ℤ) (piece : Piece) (st : StandsBy remaining held old now before)
    → Fed remaining held old now before mid k took one other room piece st
    → has_ended before.stream.inputs k ≡ true → took ≡ 0
took_none remaining held old now before mid k took one other room piece st fed e =
    let at = (st.sources k other fed.there).0 in
    let is = fed.took_is other.task at.there at.kind at.number in
    let over = or_true (is_some before.stream.met) (has_ended before.stream.inputs k) e in
    rw over at is

-- the samples that came, with those that were taken
came_now : {R : Type 0} (remaining : R → Option (List ℕ)) (held : Known)
    (old now : ℕ → Option (List ℕ)) (before : Session R) (mid : StreamState) (k took : ℕ)
    (one other : Source R) (room : List ℤ) (piece : Piece) (st : StandsBy remaining held old now before)
    → Fed remaining held old now before mid k took one other room piece st
    → (took ≢ 0 → piece.is_last ≡ false)
    → AreCome held mid (fed st.samples k (take took (take piece.count room)))
came_now remaining held old now before mid k took one other room piece st it last =
    let each = st.reaches.at.each in
    let within = it.within in
    came_fed held before.stream mid st.samples k took (take piece.count room) st.reaches.came
    (omega (arith, each, within)) it.same.job it.ended within
    (took_none remaining held old now before mid k took one other room piece st it)
    (λ some. subst (λ b. HasComeOf b (held (file_at before.stream.job.graph k))
    (get_or st.samples k [] ++ take piece.count room)) (last some) it.gives.come)

pub fed_short : {R : Type 0} (remaining : R → Option (List ℕ)) (held : Known)
    (old now : ℕ → Option (List ℕ)) (before after : Session R) (k took : ℕ)
    (one other : Source R) (room : List ℤ) (piece : Piece) (st : StandsBy remaining held old now before)
    → Fed remaining held old now before after.stream k took one other room piece st
    → took < piece.count → after.sources.items ≡ set before.sources.items k one
    → after.targets.items ≡ before.targets.items → StandsLacking held old now after k lack.ReadFault
fed_short {R} remaining held old now before after k took one other room piece st it short items task =
    record {
      samples = fed st.samples k (take took (take piece.count room));
      moment = st.moment;
      given = st.given;
      reaches = record {
        at = it.fed_is;
        came = came_now remaining held old now before after.stream k took one other room piece st it
            (λ some. last_not piece.is_last refl some);
      };
      written = subst (λ ts. AreWritten ts st.given old now) (sym task) st.written;
      there = λ source got. here source (set_get before.sources.items k k one source
          (ap (λ l. slice_get l k) (sym items) ∙ got));
      still = λ number told is. absurd (cc);
      lacks = tt;
    }
  where
    last_not : (b : Bool) → piece.is_last ≡ b → took ≢ 0 → piece.is_last ≡ false
    last_not false e some = e
    last_not true e some =
        let most = it.gives.last e in
        absurd (some (omega (arith, short, most)))

    here : (source : Source R) → ((k ≡ k) × (source ≡ one))
        ⊎ ((k ≢ k) × (slice_get before.sources.items k ≡ Some source))
        → IsSourceAt after.stream.job source.task k
    here source (inl is) =
        subst (λ j. IsSourceAt j source.task k) (sym it.same.job)
        (subst (λ t. IsSourceAt before.stream.job t k) (sym (ap (λ w. w.task) is.1 ∙ it.task))
        (st.sources k other it.there).0)
    here source (inr never) = absurd (never.0 refl)

-- all of them were taken
taken_all : (xs : List ℤ) (n : ℕ) → length xs ≤ n → take n xs ≡ xs
taken_all [] zero le = refl
taken_all [] (suc n) le = refl
taken_all (x ∷ xs) zero le = absurd (omega (arith, le))
taken_all (x ∷ xs) (suc n) le = cc (taken_all xs n (omega (arith, le)))

at_least : (a b c : ℕ) → (a < b → ⊥) → c ≡ b → c ≤ a
at_least a b c never same = by (nat_lt a b) refl
  where
    by : (t : Bool) → nat_lt a b ≡ t → c ≤ a
    by true e = absurd (never (ltb-true a b e))
    by false e = let le = ltb-false a b e in omega (arith, le, same)

-- the sources behind them
sources_now : {R : Type 0} (remaining : R → Option (List ℕ)) (held : Known)
    (old now : ℕ → Option (List ℕ)) (before after : Session R) (mid : StreamState) (k took : ℕ)
    (one other : Source R) (room : List ℤ) (piece : Piece) (st : StandsBy remaining held old now before)
    → Fed remaining held old now before mid k took one other room piece st
    → (took < piece.count → ⊥) → after.sources.items ≡ set before.sources.items k one
    → after.stream.job ≡ before.stream.job
    → AreSources remaining held after (fed st.samples k (take took (take piece.count room)))
sources_now remaining held old now before after mid k took one other room piece st it all items job =
    let xs = take piece.count room in
    let size = length-take-le piece.count room it.gives.few in
    let each = st.reaches.at.each in
    let within = it.within in
    let whole : take took xs ≡ xs =
    taken_all xs took (at_least took piece.count (length xs) all size) in
    sources_set remaining held before after st.samples (fed st.samples k (take took xs)) k one other
    st.sources job items it.there it.task (λ j apart. fed_there st.samples k j (take took xs) apart)
    (subst (λ values. IsSource remaining (held (file_at before.stream.job.graph k)) values one)
    (sym (fed_here st.samples k (take took xs) (omega (arith, each, within))
    ∙ ap (λ l. get_or st.samples k [] ++ l) whole)) it.gives.source_is)

-- they go on behind those that came
fed_goes : {R : Type 0} (remaining : R → Option (List ℕ)) (held : Known)
    (old now : ℕ → Option (List ℕ)) (before : Session R) (mid : StreamState) (k took : ℕ)
    (one other : Source R) (room : List ℤ) (piece : Piece) (st : StandsBy remaining held old now before)
    → Fed remaining held old now before mid k took one other room piece st
    → IsFed (with_samples st.samples before.stream.job) (ended_at before.stream)
    (fed st.samples k (take took (take piece.count room)))
fed_goes remaining held old now before mid k took one other room piece st it = record {
  begins = λ t there kind.
      (let j = source_number before.stream.job.graph.tasks t in begins j (eqb j k) refl);
  stays = λ t there kind over.
      (let j = source_number before.stream.job.graph.tasks t in stays j (eqb j k) refl over);
}
  where
    within : k < length st.samples
    within = let each = st.reaches.at.each in let inside = it.within in omega (arith, each, inside)

    begins : (j : ℕ) (b : Bool) → eqb j k ≡ b → IsPrefix (get_or st.samples j [])
        (get_or (fed st.samples k (take took (take piece.count room))) j [])
    begins j true e =
        let xs = take took (take piece.count room) in (
          xs,
          subst (λ i. get_or st.samples i [] ++ xs ≡ get_or (fed st.samples k xs) i [])
              (sym (eqb-true j k e)) (sym (fed_here st.samples k xs within)),
        )
    begins j false e =
        let xs = take took (take piece.count room) in
        let apart : j ≢ k = λ is. (let yes : true ≡ false = sym (eq-eqb j k is) ∙ e in search rules) in
        ([], append-nil (get_or st.samples j []) ∙ sym (fed_there st.samples k j xs apart))

    stays : (j : ℕ) (b : Bool) → eqb j k ≡ b → has_ended before.stream.inputs j ≡ true
        → get_or (fed st.samples k (take took (take piece.count room))) j [] ≡ get_or st.samples j []
    stays j true e over =
        let xs = take piece.count room in
        let is = eqb-true j k e in
        let none = took_none remaining held old now before mid k took one other room piece st it
        (subst (λ i. has_ended before.stream.inputs i ≡ true) is over) in
        subst (λ i. get_or (fed st.samples k (take took xs)) i [] ≡ get_or st.samples i []) (sym is)
        (fed_here st.samples k (take took xs) within
        ∙ ap (λ n. get_or st.samples k [] ++ take n xs) none ∙ append-nil (get_or st.samples k []))
    stays j false e over =
        let apart : j ≢ k = λ is. (let yes : true ≡ false = sym (eq-eqb j k is) ∙ e in search rules) in
        fed_there st.samples k j (take took (take piece.count room)) apart

pub fed_more : {R : Type 0} (remaining : R → Option (List ℕ)) (held : Known)
    (old now : ℕ → Option (List ℕ)) (before after : Session R) (k took : ℕ)
    (one other : Source R) (room : List ℤ) (piece : Piece) (st : StandsBy remaining held old now before)
    → Fed remaining held old now before after.stream k took one other room piece st
    → (took < piece.count → ⊥) → piece.is_last ≡ false
    → after.sources.items ≡ set before.sources.items k one → after.targets.items ≡ before.targets.items
    → StandsFurther remaining held old now before after st
fed_more remaining held old now before after k took one other room piece st it all more items task =
    record {
      later = record {
        samples = fed st.samples k (take took (take piece.count room));
        moment = st.moment;
        given = st.given;
        reaches = record {
          at = it.fed_is;
          came = came_now remaining held old now before after.stream k took one other room piece st
              it (λ some. more);
        };
        sources = sources_now remaining held old now before after after.stream k took one other room
            piece st it all items it.same.job;
        written = subst (λ ts. AreWritten ts st.given old now) (sym task) st.written;
      };
      moment = refl;
      given = refl;
      fed = fed_goes remaining held old now before after.stream k took one other room piece st it;
      ended = λ t over.
          ap (λ (j : Job). has_ended after.stream.inputs (source_number j.graph.tasks t)) it.same.job
          ∙ it.ended (source_number before.stream.job.graph.tasks t) ∙ over;
    }

-- where the file has ended, all came
came_last : {R : Type 0} (remaining : R → Option (List ℕ)) (held : Known)
    (old now : ℕ → Option (List ℕ)) (before after : Session R) (mid : StreamState) (k took : ℕ)
    (one other : Source R) (room : List ℤ) (piece : Piece) (st : StandsBy remaining held old now before)
    → Fed remaining held old now before mid k took one other room piece st
    → (took < piece.count → ⊥) → piece.is_last ≡ true
    → ((j : ℕ) → has_ended after.stream.inputs j ≡ ended_with mid.inputs k j)
    → after.stream.job ≡ before.stream.job → (j : ℕ) (b : Bool) → eqb j k ≡ b
    → j < sources_of after.stream.job.graph
    → HasComeOf (has_ended after.stream.inputs j) (held (file_at after.stream.job.graph j))
    (get_or (fed st.samples k (take took (take piece.count room))) j [])
came_last remaining held old now before after mid k took one other room piece st it all last over
    job j true e inside =
    let xs = take piece.count room in
    let size = length-take-le piece.count room it.gives.few in
    let each = st.reaches.at.each in
    let within = it.within in
    let is : j ≡ k = eqb-true j k e in
    let ends : has_ended after.stream.inputs j ≡ true =
    over j ∙ ap (λ b. b || has_ended mid.inputs j) e in
    let whole : take took xs ≡ xs = taken_all xs took (at_least took piece.count (length xs) all size) in
    let values : get_or (fed st.samples k (take took xs)) j [] ≡ get_or st.samples k [] ++ xs =
    ap (λ i. get_or (fed st.samples k (take took xs)) i []) is
    ∙ fed_here st.samples k (take took xs) (omega (arith, each, within))
    ∙ ap (λ l. get_or st.samples k [] ++ l) whole in
    let come : HasComeOf true (held (file_at before.stream.job.graph k)) (get_or st.samples k [] ++ xs) =
    subst (λ b. HasComeOf b (held (file_at before.stream.job.graph k)) (get_or st.samples k [] ++ xs))
    last it.gives.come in
    rw (ends, job, values, is) come
came_last remaining held old now before after mid k took one other room piece st it all last over
    job j false e inside =
    let xs = take piece.count room in
    let apart : j ≢ k = λ is. (let yes : true ≡ false = sym (eq-eqb j k is) ∙ e in search rules) in
    let ends : has_ended after.stream.inputs j ≡ has_ended before.stream.inputs j =
    over j ∙ ap (λ b. b || has_ended mid.inputs j) e ∙ it.ended j in
    rw (ends, job, fed_there st.samples k j (take took xs) apart)
    (st.reaches.came j (subst (λ (i : Job). j < sources_of i.graph) job inside))

pub fed_last : {R : Type 0} (remaining : R → Option (List ℕ)) (held : Known)
    (old now : ℕ → Option (List ℕ)) (before after : Session R) (mid : StreamState) (k took : ℕ)
    (one other : Source R) (room : List ℤ) (piece : Piece) (st : StandsBy remaining held old now before)
    → Fed remaining held old now before mid k took one other room piece st
    → (took < piece.count → ⊥) → piece.is_last ≡ true
    → ((s : List (List ℤ)) (m : Moment) (given : ℕ → List ℤ) → IsStreamAt mid s m given
    → IsStreamAt after.stream s m given)
    → IsSameBut mid after.stream
    → ((j : ℕ) → has_ended after.stream.inputs j ≡ ended_with mid.inputs k j)
    → after.sources.items ≡ set before.sources.items k one → after.targets.items ≡ before.targets.items
    → StandsFurther remaining held old now before after st
fed_last remaining held old now before after mid k took one other room piece st it all last stands
    same over items task =
    let xs = take piece.count room in
    record {
      later = record {
        samples = fed st.samples k (take took xs);
        moment = st.moment;
        given = st.given;
        reaches = record {
          at = stands (fed st.samples k (take took xs)) st.moment st.given it.fed_is;
          came = λ j within. came_last remaining held old now before after mid k took one other room
              piece st it all last over (same.job ∙ it.same.job) j (eqb j k) refl within;
        };
        sources = sources_now remaining held old now before after mid k took one other room piece st
            it all items (same.job ∙ it.same.job);
        written = subst (λ ts. AreWritten ts st.given old now) (sym task) st.written;
      };
      moment = refl;
      given = refl;
      fed = fed_goes remaining held old now before mid k took one other room piece st it;
      ended = λ t ends.
          (let j = source_number before.stream.job.graph.tasks t in
          ap (λ (jb : Job). has_ended after.stream.inputs (source_number jb.graph.tasks t))
          (same.job ∙ it.same.job) ∙ over j
          ∙ or_true (eqb j k) (has_ended mid.inputs j) (it.ended j ∙ ends));
    }

-- no more came
pub lacks_so : {R : Type 0} (remaining : R → Option (List ℕ)) (held : Known)
    (old now : ℕ → Option (List ℕ)) (before after : Session R) (k : ℕ) (one other : Source R) (why : Lack)
    (hungry : ℕ) (stopped : StandsStopped remaining held old now before (Hungry hungry))
    → slice_get before.sources.items k ≡ Some other
    → one.task ≡ other.task → after.sources.items ≡ set before.sources.items k one
    → after.stream ≡ before.stream → after.targets.items ≡ before.targets.items
    → Lacks (held (file_at before.stream.job.graph k)) (file_at before.stream.job.graph k)
    (length (get_or stopped.stands.samples k [])) why
    → StandsLacking held old now after k why
lacks_so {R} remaining held old now before after k one other why hungry stopped there task items stream sink
    lacks =
    let st = stopped.stands in
    record {
      samples = st.samples;
      moment = st.moment;
      given = st.given;
      reaches = subst (λ w. Reaches held w st.samples st.moment st.given) (sym stream) st.reaches;
      written = subst (λ ts. AreWritten ts st.given old now) (sym sink) st.written;
      there = λ source got. here source (set_get before.sources.items k k one source
          (ap (λ l. slice_get l k) (sym items) ∙ got));
      still = λ number told is.
          subst (λ (w : StreamState). KeptStill w after.targets.items st.samples st.moment st.given)
          (sym stream) (subst (λ ts. KeptStill before.stream ts st.samples st.moment st.given)
          (sym sink) (record { whole = stopped.whole; rest = stopped.stopped_is }));
      lacks = subst (λ (w : StreamState). Lacks (held (file_at w.job.graph k)) (file_at w.job.graph k)
          (length (get_or st.samples k [])) why) (sym stream) lacks;
    }
  where
    here : (source : Source R) → ((k ≡ k) × (source ≡ one))
        ⊎ ((k ≢ k) × (slice_get before.sources.items k ≡ Some source))
        → IsSourceAt after.stream.job source.task k
    here source (inl is) =
        subst (λ (w : StreamState). IsSourceAt w.job source.task k) (sym stream)
        (subst (λ t. IsSourceAt before.stream.job t k) (sym (ap (λ w. w.task) is.1 ∙ task))
        (stopped.stands.sources k other there).0)
    here source (inr never) = absurd (never.0 refl)

-- what is known of the file of a source
pub known_as : (files held : Known) → IsKnownAs held files → (name : List ℕ) (graph other : Graph)
    (k : ℕ) → name ≡ file_at graph k → graph ≡ other → files name ≡ held (file_at other k)
known_as files held is name graph other k named same =
    is name ∙ ap held (named ∙ ap (λ g. file_at g k) same)

-- what a source gave, by what is known of its file
pub gives_as : {R : Type 0} (remaining : R → Option (List ℕ)) (here there : Option (List ℕ))
    (values room : List ℤ) (piece : Piece) (other one : Source R) → here ≡ there
    → ((values : List ℤ) → IsSource remaining here values other
    → GivesSource remaining here values room piece one)
    → IsSource remaining there values other → GivesSource remaining there values room piece one
gives_as remaining here there values room piece other one same got is =
    subst (λ known. GivesSource remaining known values room piece one) same
    (got values (subst (λ known. IsSource remaining known values other) (sym same) is))

-- and its name
pub named_as : (name : List ℕ) (graph other : Graph) (k : ℕ) → name ≡ file_at graph k → graph ≡ other
    → name ≡ file_at other k
named_as name graph other k named same = named ∙ ap (λ g. file_at g k) same

pub lacks_as : {R : Type 0} (remaining : R → Option (List ℕ)) (here there : Option (List ℕ))
    (name file : List ℕ) (values : List ℤ) (other : Source R) (why : Lack) → here ≡ there
    → name ≡ file
    → ((values : List ℤ) → IsSource remaining here values other → Lacks here name (length values) why)
    → IsSource remaining there values other → Lacks there file (length values) why
lacks_as remaining here there name file values other why same named lacks is =
    subst (λ f. Lacks there f (length values) why) named
    (subst (λ known. Lacks known name (length values) why) same
    (lacks values (subst (λ known. IsSource remaining known values other) (sym same) is)))

pub fed_of : {R : Type 0} (remaining : R → Option (List ℕ)) (held : Known)
    (old now : ℕ → Option (List ℕ)) (before : Session R) (mid : StreamState) (k took : ℕ)
    (one other : Source R) (room : List ℤ) (piece : Piece) (st : StandsBy remaining held old now before)
    → slice_get before.sources.items k ≡ Some other → k < sources_of before.stream.job.graph
    → GivesSource remaining (held (file_at before.stream.job.graph k)) (get_or st.samples k []) room
    piece one
    → one.task ≡ other.task
    → FeedTakes before.stream st.samples st.moment k (length (take piece.count room)) took
    → IsStreamAt mid (fed st.samples k (take took (take piece.count room))) st.moment st.given
    → IsSameBut before.stream mid
    → ((j : ℕ) → has_ended mid.inputs j ≡ has_ended before.stream.inputs j)
    → Fed remaining held old now before mid k took one other room piece st
fed_of remaining held old now before mid k took one other room piece st there within gives task took_is
    fed_is same ended =
    record {
      there = there;
      within = within;
      gives = gives;
      task = task;
      took_is = took_is;
      fed_is = fed_is;
      same = same;
      ended = ended;
    }

-- where there is no source of the number
pub lacks_none : {R : Type 0} (remaining : R → Option (List ℕ)) (held : Known)
    (old now : ℕ → Option (List ℕ)) (session : Session R) (k : ℕ) → StandsBy remaining held old now session
    → StandsLacking held old now session k lack.ReadFault
lacks_none remaining held old now session k st = record {
  samples = st.samples;
  moment = st.moment;
  given = st.given;
  reaches = st.reaches;
  written = st.written;
  there = λ source got. (st.sources k source got).0;
  still = λ number told is. absurd (cc);
  lacks = tt;
}

pub not_less : (a b : ℕ) → b ≤ a → a < b → ⊥
not_less a b le lt = absurd (omega (arith, le, lt))

pub within_so : (many k : ℕ) (graph other : Graph) → many ≡ sources_of graph → graph ≡ other
    → k < many → k < sources_of other
within_so many k graph other count same lt = subst (λ n. k < n) (count ∙ ap sources_of same) lt
