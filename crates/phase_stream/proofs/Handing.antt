-- What is handed over, behind what was.
use Rattle.std.proofs.Common.{◌≡◌, ◌≢◌, ◌⊎◌, inl, inr, ◌<◌, ◌≤◌, ◌+◌, ◌++◌, ℕ, ℤ, Bool, true, false, eqb, List, [], Option, Some, None, length, get_or, refl, sym, ap, subst, ◌∙◌, append-nil, append_assoc, arith}
use Rattle.std.proofs.KnownBytes.{Appends-nil, Appends-trans}
use Rattle.std.proofs.lemmas.Bool.{cases_lt, eq-eqb, eqb-true}
use Rattle.std.proofs.lemmas.List.Concat.{flat_map-append}
use Rattle.std.specs.List.{flat_map}
use Rattle.std.specs.Io.KnownBytes.{Appends}
use mathlib.Core.List.{IsPrefix}
use Rattle.graph_commands.specs.FileJobs.{Known}
use Rattle.graph_commands.specs.OutputTexts.{value_text}
use Rattle.watched_io.specs.Prefix.{AppendsPrefix}
use Rattle.watched_io.specs.States.{WriterState}
use Rattle.stream_job.specs.SinkLines.{kept_by}
use Rattle.stream_job.specs.Streams.{IsStreamAt, StreamState}
use Rattle.stream_job.specs.declared.stopped.Stopped.{Stopped}
use Rattle.graph_runs.specs.Moments.{Moment}
use Rattle.graph_runs.specs.Turned.{with_at}
use Rattle.stream_lists.specs.Jobs.{Job}
use Rattle.stream_lists.specs.Lists.{sinks_of}
use Rattle.phase_stream.specs.Sessions.{AllHanded, AreLeft, AreTargets, AreWritten, HandsOverAll, HandsPart, HasStopped, IsSameSession, Reaches, StandsBy, StandsPart, StandsStopped, WritesFirst, WritesLeft, WritesLeftPart, WritesSome, WritesTo, task_for, values_for}
use Rattle.phase_stream.specs.declared.session.Session.{Session}
use Rattle.phase_stream.specs.declared.sink.Sink.{Sink}
use Rattle.phase_stream.proofs.Standing.{came_same, sources_same, stopped_same}
use Rattle.phase_stream.proofs.Targets.{beyond, left_of_none, number_of_task}

-- bytes, and then more
pub written_more : (old now next : Option (List ℕ)) (xs ys zs : List ℤ)
    → Appends old now (flat_map value_text xs) → Appends now next (flat_map value_text ys)
    → xs ++ ys ≡ zs → Appends old next (flat_map value_text zs)
written_more old now next xs ys zs first more is =
    subst (λ bytes. Appends old next bytes)
    (sym (flat_map-append value_text xs ys) ∙ ap (flat_map value_text) is)
    (Appends-trans old now next (flat_map value_text xs) (flat_map value_text ys) first more)

-- bytes, and then a part of more
pub part_more : (old now next : Option (List ℕ)) (xs ys zs : List ℤ)
    → Appends old now (flat_map value_text xs) → AppendsPrefix now next (flat_map value_text ys)
    → xs ++ ys ≡ zs → AppendsPrefix old next (flat_map value_text zs)
part_more old now next xs ys zs first more is = (
  flat_map value_text xs ++ more.0,
  more.1,
  sym (ap (flat_map value_text) is) ∙ flat_map-append value_text xs ys
      ∙ ap (λ l. flat_map value_text xs ++ l) more.2
      ∙ sym (append_assoc (flat_map value_text xs) more.0 more.1),
  Appends-trans old now next (flat_map value_text xs) more.0 first more.3,
)

-- all of them are a part
pub whole_part : (old now : Option (List ℕ)) (bytes : List ℕ) → Appends old now bytes
    → AppendsPrefix old now bytes
whole_part old now bytes all = (bytes, [], sym (append-nil bytes), all)

-- ---- one writer after another

-- nothing is written where no sink goes
pub writes_none : (stream : StreamState) (targets : List (Option Sink)) (k : ℕ)
    (now : ℕ → WriterState) → task_for targets k ≡ None → WritesLeft stream targets k now now
writes_none stream targets k now none = record {
  values = [];
  left = left_of_none stream targets k none;
  writes = record { here = Appends-nil (now k).written; others = λ j apart. refl };
}

pub first_none : (stream : StreamState) (targets : List (Option Sink)) (now : ℕ → WriterState)
    → WritesFirst stream targets 0 now now
first_none stream targets now = record {
  values = λ k. [];
  left = λ k lt. absurd (omega (arith, lt));
  others = λ k le. refl;
  written = λ k. Appends-nil (now k).written;
}

-- what one more writer got, by what it was to get
more_at : (n : ℕ) (old now next : ℕ → WriterState) (values : ℕ → List ℤ) (xs : List ℤ)
    → values n ≡ [] → ((k : ℕ) → Appends (old k).written (now k).written
    (flat_map value_text (values k))) → WritesTo now next n (flat_map value_text xs)
    → (k : ℕ) → Appends (old k).written (next k).written
    (flat_map value_text (with_at n xs values k))
more_at n old now next values xs bare written writes k = by (eqb k n) refl
  where
    by : (b : Bool) → eqb k n ≡ b
        → Appends (old k).written (next k).written (flat_map value_text (with_at n xs values k))
    by true e =
        let is : k ≡ n = eqb-true k n e in
        let before : Appends (old n).written (now n).written [] =
        subst (λ l. Appends (old n).written (now n).written (flat_map value_text l)) bare (written n) in
        rw e (subst (λ j. Appends (old j).written (next j).written (flat_map value_text xs)) (sym is)
        (Appends-trans (old n).written (now n).written (next n).written [] (flat_map value_text xs)
        before writes.here))
    by false e =
        let apart : k ≢ n = λ is. (let yes : true ≡ false = sym (eq-eqb k n is) ∙ e in cc) in
        rw e (subst (λ (w : WriterState). Appends (old k).written w.written
        (flat_map value_text (values k))) (sym (writes.others k apart)) (written k))

pub writes_more : (stream : StreamState) (targets : List (Option Sink)) (n : ℕ)
    (old now next : ℕ → WriterState) → WritesFirst stream targets n old now
    → WritesLeft stream targets n now next → WritesFirst stream targets (n + 1) old next
writes_more stream targets n old now next first more = record {
  values = with_at n more.values first.values;
  left = λ k lt. left k lt (eqb k n) refl;
  others = λ k le. others k le (eqb k n) refl;
  written = more_at n old now next first.values more.values (first.others n (omega arith))
      first.written more.writes;
}
  where
    left : (k : ℕ) → k < n + 1 → (b : Bool) → eqb k n ≡ b
        → AreLeft stream targets k (with_at n more.values first.values k)
    left k lt true e =
        rw e (subst (λ j. AreLeft stream targets j more.values) (sym (eqb-true k n e)) more.left)
    left k lt false e =
        let apart : k ≢ n = λ is. (let yes : true ≡ false = sym (eq-eqb k n is) ∙ e in cc) in
        rw e (first.left k (omega (arith, lt, apart)))

    others : (k : ℕ) → n + 1 ≤ k → (b : Bool) → eqb k n ≡ b
        → with_at n more.values first.values k ≡ []
    others k le true e = let is = eqb-true k n e in absurd (omega (arith, le, is))
    others k le false e = rw e (first.others k (omega (arith, le)))

-- where a write fails, of each a part was written
pub writes_some : (stream : StreamState) (targets : List (Option Sink)) (n : ℕ)
    (old now next : ℕ → WriterState) → WritesFirst stream targets n old now
    → WritesLeftPart stream targets n now next → WritesSome stream targets old next
writes_some stream targets n old now next first more = record {
  values = with_at n more.values first.values;
  begins = λ k t goes s m given at begun. begins k t goes s m given at begun (eqb k n) refl;
  none = λ k free. none k free (eqb k n) refl;
  written = λ k. written k (eqb k n) refl;
}
  where
    whole : (k t : ℕ) (values : List ℤ) → AreLeft stream targets k values
        → task_for targets k ≡ Some t → (s : List (List ℤ)) (m : Moment) (given : ℕ → List ℤ)
        → IsStreamAt stream s m given → IsPrefix (given t ++ values) (kept_by stream.job m t)
    whole k t values left goes s m given at =
        ([], append-nil (given t ++ values) ∙ left.rest t goes s m given at)

    early : (k : ℕ) → (n ≤ k → first.values k ≡ []) → (k < n) ⊎ (first.values k ≡ [])
    early k others = elim (cases_lt k n) [
      | inl less ↦ inl less
      | inr past ↦ inr (others past)
    ]

    begins : (k t : ℕ) → task_for targets k ≡ Some t → (s : List (List ℤ)) (m : Moment)
        (given : ℕ → List ℤ) → IsStreamAt stream s m given
        → IsPrefix (given t) (kept_by stream.job m t) → (b : Bool) → eqb k n ≡ b
        → IsPrefix (given t ++ with_at n more.values first.values k) (kept_by stream.job m t)
    begins k t goes s m given at begun true e =
        rw e (whole k t more.values
        (subst (λ j. AreLeft stream targets j more.values) (sym (eqb-true k n e)) more.left)
        goes s m given at)
    begins k t goes s m given at begun false e =
        rw e (elim (early k (first.others k)) [
          | inl less ↦ whole k t (first.values k) (first.left k less) goes s m given at
          | inr bare ↦ subst (λ l. IsPrefix l (kept_by stream.job m t))
              (sym (ap (λ l. given t ++ l) bare ∙ append-nil (given t))) begun
        ])

    none : (k : ℕ) → task_for targets k ≡ None → (b : Bool) → eqb k n ≡ b
        → with_at n more.values first.values k ≡ []
    none k free true e =
        rw e (more.left.none (ap (task_for targets) (sym (eqb-true k n e)) ∙ free))
    none k free false e =
        rw e (elim (early k (first.others k)) [
          | inl less ↦ (first.left k less).none free
          | inr bare ↦ bare
        ])

    written : (k : ℕ) (b : Bool) → eqb k n ≡ b → AppendsPrefix (old k).written (next k).written
        (flat_map value_text (with_at n more.values first.values k))
    written k true e =
        let is : k ≡ n = eqb-true k n e in
        rw e (subst (λ j. AppendsPrefix (old j).written (next j).written
        (flat_map value_text more.values)) (sym is)
        (part_more (old n).written (now n).written (next n).written [] more.values more.values
        (subst (λ l. Appends (old n).written (now n).written (flat_map value_text l))
        (first.others n (omega arith)) (first.written n)) more.writes.here refl))
    written k false e =
        let apart : k ≢ n = λ is. (let yes : true ≡ false = sym (eq-eqb k n is) ∙ e in cc) in
        rw e (whole_part (old k).written (next k).written (flat_map value_text (first.values k))
        (subst (λ (w : WriterState). Appends (old k).written w.written
        (flat_map value_text (first.values k))) (sym (more.writes.others k apart))
        (first.written k)))

-- ---- a handing over

-- what was left of each was written
left_all : (stream : StreamState) (targets : List (Option Sink)) (old now : ℕ → WriterState)
    (first : WritesFirst stream targets (length targets) old now) (k : ℕ)
    → AreLeft stream targets k (first.values k)
left_all stream targets old now first k = elim (cases_lt k (length targets)) [
  | inl less ↦ first.left k less
  | inr past ↦
      subst (AreLeft stream targets k) (sym (first.others k past))
      (left_of_none stream targets k (beyond targets k past))
]

-- so all that it has kept was handed over
all_handed : (job : Job) (targets : List (Option Sink)) (m : Moment) (later : ℕ → List ℤ)
    → AreTargets job targets
    → ((i : ℕ) → i < length (sinks_of job)
    → later (get_or (sinks_of job) i 0) ≡ kept_by job m (get_or (sinks_of job) i 0))
    → AllHanded job targets m later
all_handed job targets m later are handed k t goes =
    let number = number_of_task job targets k t are goes in
    subst (λ u. later u ≡ kept_by job m u) number.2 (handed number.0 number.1)

-- and was written
all_written : (stream : StreamState) (targets : List (Option Sink)) (old : ℕ → Option (List ℕ))
    (now next : ℕ → WriterState) (s : List (List ℤ)) (m : Moment) (given later : ℕ → List ℤ)
    → IsStreamAt stream s m given → AllHanded stream.job targets m later
    → AreWritten targets given old (λ k. (now k).written)
    → WritesFirst stream targets (length targets) now next
    → AreWritten targets later old (λ k. (next k).written)
all_written stream targets old now next s m given later at handed before first k =
    by (task_for targets k) refl
  where
    left : AreLeft stream targets k (first.values k)
    left = left_all stream targets now next first k

    by : (task : Option ℕ) → task_for targets k ≡ task
        → Appends (old k) (next k).written
        (flat_map value_text (values_for (task_for targets k) later))
    by None e =
        let sofar : Appends (old k) (now k).written (flat_map value_text (values_for None given)) =
        subst (λ o. Appends (old k) (now k).written (flat_map value_text (values_for o given))) e
        (before k) in
        subst (λ o. Appends (old k) (next k).written (flat_map value_text (values_for o later))) (sym e)
        (written_more (old k) (now k).written (next k).written [] (first.values k) [] sofar
        (first.written k) (left.none e))
    by (Some t) e =
        let sofar : Appends (old k) (now k).written (flat_map value_text (given t)) =
        subst (λ o. Appends (old k) (now k).written (flat_map value_text (values_for o given))) e
        (before k) in
        subst (λ o. Appends (old k) (next k).written (flat_map value_text (values_for o later))) (sym e)
        (written_more (old k) (now k).written (next k).written (given t) (first.values k) (later t) sofar
        (first.written k) (left.rest t e s m given at ∙ sym (handed k t e)))

pub handed : {R : Type 0} (remaining : R → Option (List ℕ)) (held : Known)
    (old : ℕ → Option (List ℕ)) (now next : ℕ → WriterState) (before after : Session R)
    (stop : Stopped) → AreTargets before.stream.job before.targets.items
    → StandsBy remaining held old (λ k. (now k).written) before
    → ((s : List (List ℤ)) (m : Moment) (given : ℕ → List ℤ) → IsStreamAt before.stream s m given
    → HasStopped before.stream s m stop)
    → HandsOverAll now next before after → IsSameSession before after
    → StandsStopped remaining held old (λ k. (next k).written) after stop
handed remaining held old now next before after stop are st stops over same =
    let it = over.forgets.stands st.samples st.moment st.given st.reaches.at in
    let all = all_handed before.stream.job before.targets.items st.moment it.0 are it.2 in
    record {
      stands = record {
        samples = st.samples;
        moment = st.moment;
        given = it.0;
        reaches = record {
          at = it.1;
          came = came_same held before.stream after.stream st.samples same.job
              over.forgets.inputs st.reaches.came;
        };
        sources = sources_same remaining held before after st.samples same.job
            (ap (λ v. v.items) over.sources) st.sources;
        written = subst (λ ts. AreWritten ts it.0 old (λ k. (next k).written)) (sym same.targets)
            (all_written before.stream before.targets.items old now next st.samples st.moment
            st.given it.0 st.reaches.at all st.written over.writes);
      };
      whole = subst (λ ts. AllHanded after.stream.job ts st.moment it.0) (sym same.targets)
          (subst (λ j. AllHanded j before.targets.items st.moment it.0) (sym same.job) all);
      stopped_is = stopped_same before.stream after.stream st.samples st.moment stop same.job
          over.forgets.inputs (stops st.samples st.moment st.given st.reaches.at);
    }

-- a write failed
pub handed_part : {R : Type 0} (remaining : R → Option (List ℕ)) (held : Known)
    (old : ℕ → Option (List ℕ)) (now next : ℕ → WriterState) (before after : Session R)
    → StandsBy remaining held old (λ k. (now k).written) before → HandsPart now next before after
    → IsSameSession before after
    → ((k t : ℕ) → task_for after.targets.items k ≡ Some t → (s : List (List ℤ)) (m : Moment)
    (given : ℕ → List ℤ) → IsStreamAt after.stream s m given
    → IsPrefix (given t) (kept_by after.stream.job m t))
    → StandsPart held old (λ k. (next k).written) after
handed_part remaining held old now next before after st over same right =
    let ts = before.targets.items in
    let at : IsStreamAt after.stream st.samples st.moment st.given =
    subst (λ w. IsStreamAt w st.samples st.moment st.given) (sym over.same) st.reaches.at in
    record {
      samples = st.samples;
      moment = st.moment;
      given = st.given;
      reaches = subst (λ w. Reaches held w st.samples st.moment st.given) (sym over.same) st.reaches;
      values = λ k. values_for (task_for ts k) st.given ++ over.writes.values k;
      begins = λ k t goes.
          (let here : task_for ts k ≡ Some t = ap (λ l. task_for l k) (sym same.targets) ∙ goes in
          let begun = right k t goes st.samples st.moment st.given at in
          subst (λ o. IsPrefix (values_for o st.given ++ over.writes.values k)
          (kept_by after.stream.job st.moment t)) (sym here)
          (subst (λ (w : StreamState). IsPrefix (st.given t ++ over.writes.values k)
          (kept_by w.job st.moment t)) (sym over.same)
          (over.writes.begins k t here st.samples st.moment st.given st.reaches.at
          (subst (λ (w : StreamState). IsPrefix (st.given t) (kept_by w.job st.moment t)) over.same
          begun))));
      none = λ k free.
          (let here : task_for ts k ≡ None = ap (λ l. task_for l k) (sym same.targets) ∙ free in
          ap (λ o. values_for o st.given ++ over.writes.values k) here ∙ over.writes.none k here);
      written = λ k. part_more (old k) (now k).written (next k).written
          (values_for (task_for ts k) st.given) (over.writes.values k)
          (values_for (task_for ts k) st.given ++ over.writes.values k) (st.written k)
          (over.writes.written k) refl;
    }

-- memory ran out, and nothing was written
pub held_part : {R : Type 0} (remaining : R → Option (List ℕ)) (held : Known)
    (old now : ℕ → Option (List ℕ)) (session : Session R)
    → (st : StandsBy remaining held old now session)
    → ((k t : ℕ) → task_for session.targets.items k ≡ Some t
    → IsPrefix (st.given t) (kept_by session.stream.job st.moment t))
    → StandsPart held old now session
held_part remaining held old now session st right =
    let ts = session.targets.items in
    record {
      samples = st.samples;
      moment = st.moment;
      given = st.given;
      reaches = st.reaches;
      values = λ k. values_for (task_for ts k) st.given;
      begins = λ k t goes. subst (λ o. IsPrefix (values_for o st.given)
          (kept_by session.stream.job st.moment t)) (sym goes) (right k t goes);
      none = λ k free. ap (λ o. values_for o st.given) free;
      written = λ k. whole_part (old k) (now k) (flat_map value_text (values_for (task_for ts k) st.given))
          (st.written k);
    }
