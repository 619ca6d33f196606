-- What the whole history of a phaser has: nobody has signalled there but the tasks, all have left,
-- and each task's part is the one that it has seen.
use Rattle.std.proofs.Common.{◌≡◌, ℕ, ◌<◌, Bool, true, false, eqb, ◌||◌, List, [], ◌∷◌, Option, Some, None, is_some, length, refl, sym, ap, subst, ◌∙◌, ◌⊎◌, inl, inr}
use Rattle.std.proofs.lemmas.Bool.{eqb-true, eq-eqb, or_right}
use Rattle.phase_base.specs.declared.entry.Entry.{Entry}
use Rattle.phase_history.specs.Histories.{History, IsBeginning, start_of}
use Rattle.phase_history.specs.declared.event.Event.TheVariants.{Made}
use Rattle.phase_history.specs.Others.{events_of, children_in, OnlyUsed, OthersCame}
use Rattle.phase_base.specs.Lists.{is_in}
use Rattle.phase_history.specs.Sent.{NamesAll, IsSilent}
use Rattle.phase_history.proofs.Beginnings.{IsBeginning-trans}
use Rattle.phase_history.proofs.Descent.{OnlyUsed-descent}
use Rattle.phase_history.proofs.OthersEvents.{IsBeginning-others}
use Rattle.phase_history.proofs.Sendings.{IsSilent-unused}
use Rattle.phase_history.proofs.Used.{IsUsed-longer, events_of-unused}
use Rattle.graph_base.specs.Graphs.{phaser_at}
use Rattle.graph_base.specs.TaskLines.{IsGraph}
use Rattle.stream_lists.specs.Jobs.{Job}
use Rattle.graph_runs.specs.Moments.{Moment, PhaserRan, limits_at, numbers_on}
use Rattle.graph_runs.specs.Moves.{PartStays}
use Rattle.graph_runs.proofs.Framed.{part_came}
use Rattle.graph_runs.specs.TaskEnds.{FounderEnd, HasGiven, HasNoSignal}
use Rattle.graph_runs.specs.RunEnds.{Ends}
use Rattle.graph_runs.specs.Stops.{HasRunSoFar, IsStop}
use Rattle.graph_runs.proofs.Founding.{events_stay, names_any, founder_silent, named_by_each}
use Rattle.graph_runs.proofs.Owns.{used_by}
use Rattle.graph_runs.proofs.Joined.{whole, whole_history, IsNumbered, is_numbered, number_there, number_given, number_among, among_is}

module _ (job : Job) (ends : Ends) (is : IsGraph job.graph) (r : IsStop job ends) (p : ℕ)
    (founder : FounderEnd) (w : HasRunSoFar job ends p founder (whole_history job ends is r p)) where
  abbrev pub m : Moment
  m = whole job ends is r

  -- its founder and its tasks
  abbrev pub all : List ℕ
  all = founder.number ∷ numbers_on job m p

  -- what a task has seen of it
  pub came_to : (t n : ℕ) → (g : IsNumbered job ends is r t p n)
      → OthersCame (n ∷ []) (g.m.history p) (whole_history job ends is r p)
  came_to t n g = w.tasks_came t g.i n (g.m.history p) g.on

  -- each number is the founder's, or a task's
  pub case_of : (n : ℕ) → is_in n all ≡ true
      → (n ≡ founder.number) ⊎ ((t : ℕ) × IsNumbered job ends is r t p n)
  case_of n e = by (eqb founder.number n) refl e
    where
      by : (b : Bool) → eqb founder.number n ≡ b → (b || is_in n (numbers_on job m p)) ≡ true
          → (n ≡ founder.number) ⊎ ((t : ℕ) × IsNumbered job ends is r t p n)
      by true same e = inl (sym (eqb-true founder.number n same))
      by false same e = inr (among_is job ends is r p n e)

  begins : IsBeginning (Made founder.number ∷ []) (whole_history job ends is r p)
  begins =
      IsBeginning-trans (Made founder.number ∷ []) founder.seen (whole_history job ends is r p)
      w.founds.made
      (IsBeginning-others (founder.number ∷ []) founder.seen (whole_history job ends is r p) w.founder_came)

  founders_events : events_of founder.number (whole_history job ends is r p)
      ≡ events_of founder.number founder.seen
  founders_events =
      events_stay founder.number founder.seen (whole_history job ends is r p) w.founder_came

  -- whom one of them registered is one of them
  closed : (task child : ℕ) → is_in task all ≡ true
      → is_in child (children_in (events_of task (whole_history job ends is r p))) ≡ true
      → is_in child all ≡ true
  closed task child e given = by (case_of task e)
    where
      inside : (t : ℕ) → t < length job.graph.tasks → m.number p t ≡ Some child
          → is_in child all ≡ true
      inside t there at =
          or_right (eqb founder.number child) (is_in child (numbers_on job m p))
          (number_among job ends is r t p child there at)

      by : (task ≡ founder.number) ⊎ ((t : ℕ) × IsNumbered job ends is r t p task)
          → is_in child all ≡ true
      by (inl same) =
          let first : is_in child (children_in (events_of founder.number founder.seen)) ≡ true =
          ap (λ l. is_in child (children_in l)) (sym founders_events)
          ∙ ap (λ x. is_in child (children_in (events_of x (whole_history job ends is r p)))) (sym same) ∙ given in
          let gave = w.gave child (w.founds.gave_these child first) in
          let on = gave.3 in
          inside gave.0 (r.tasks gave.0 on.end on.came).1
          (number_there job ends is r gave.0 gave.1 p child on.end on.came on.few on.phaser on.number)
      by (inr numbered) =
          let t = numbered.0 in
          let g : IsNumbered job ends is r t p task = numbered.1 in
          let same : events_of task (whole_history job ends is r p) ≡ events_of task (g.m.history p) =
          events_stay task (g.m.history p) (whole_history job ends is r p) (came_to t task g) in
          let own : is_in child (children_in (events_of task (g.m.history p))) ≡ true =
          ap (λ l. is_in child (children_in l)) (sym same) ∙ given in
          let c : HasGiven job g.m t p child = g.own.own.children p task child g.numbered own in
          inside c.child c.is_child.there
          (number_given job ends is r t p child g.end g.has_come g.m g.own c.child c.is_child c.numbered)

  pub only_used : OnlyUsed all (whole_history job ends is r p)
  only_used =
      let H = whole_history job ends is r p in
      let first : is_in founder.number all ≡ true =
      ap (λ b. b || is_in founder.number (numbers_on job m p)) (eq-eqb founder.number founder.number refl) in
      rw begins.is
      (OnlyUsed-descent (limits_at job p) founder.number all begins.later
      (rw begins.is at w.legal) first
      (λ task child inside given. closed task child inside
      (ap (λ (g : History). is_in child (children_in (events_of task g))) begins.is ∙ given)))

  -- ---- what it has of each

  -- the part of a task
  pub part_of : (t n : ℕ) → (g : IsNumbered job ends is r t p n)
      → PartStays n (g.m.history p) (whole_history job ends is r p)
  part_of t n g = part_came n (g.m.history p) (whole_history job ends is r p) (came_to t n g)

  named : NamesAll (phaser_at job.graph p).single (whole_history job ends is r p)
  named =
      named_by_each (phaser_at job.graph p).single (whole_history job ends is r p)
      (λ n. by n (start_of (whole_history job ends is r p) n) refl)
    where
      by : (n : ℕ) (o : Option Entry) → start_of (whole_history job ends is r p) n ≡ o
          → NamesAll (phaser_at job.graph p).single
          (events_of n (whole_history job ends is r p))
      by n None e =
          let single = (phaser_at job.graph p).single in
          rw (events_of-unused (limits_at job p) (whole_history job ends is r p) n w.legal e) tt
      by n (Some start) e = of (case_of n (only_used n (ap is_some e)))
        where
          of : (n ≡ founder.number) ⊎ ((t : ℕ) × IsNumbered job ends is r t p n)
              → NamesAll (phaser_at job.graph p).single
              (events_of n (whole_history job ends is r p))
          of (inl same) =
              let single = (phaser_at job.graph p).single in
              rw same
              (rw founders_events
              (names_any single (events_of founder.number founder.seen) w.founds.silent))
          of (inr numbered) =
              let single = (phaser_at job.graph p).single in
              let g : IsNumbered job ends is r numbered.0 p n = numbered.1 in
              rw (events_stay n (g.m.history p) (whole_history job ends is r p) (came_to numbered.0 n g))
              (g.own.own.named p n g.numbered)

  silent : (n : ℕ) → is_in n (numbers_on job m p) ≡ false
      → IsSilent (whole_history job ends is r p) n
  silent n none = by (start_of (whole_history job ends is r p) n) refl
    where
      by : (o : Option Entry) → start_of (whole_history job ends is r p) n ≡ o
          → IsSilent (whole_history job ends is r p) n
      by None e =
          IsSilent-unused (limits_at job p) (whole_history job ends is r p) n w.legal e
      by (Some start) e = of (eqb founder.number n) refl (only_used n (ap is_some e))
        where
          of : (b : Bool) → eqb founder.number n ≡ b
              → (b || is_in n (numbers_on job m p)) ≡ true
              → IsSilent (whole_history job ends is r p) n
          of true same inside =
              rw (eqb-true founder.number n same) at (founder_silent (limits_at job p) founder.number (whole_history job ends is r p) w.legal begins
              (let N = founders_events in
              subst HasNoSignal (sym N) w.founds.silent))
          of false same inside = absurd (let no : true ≡ false = sym inside ∙ none in cc)

  pub phaser_ran : PhaserRan job m p
  phaser_ran = record {
    legal = w.legal;
    names = named;
    distinct = λ t u n there_t there_u at_t at_u.
        (let a = is_numbered job ends is r t p n at_t in
        let b = is_numbered job ends is r u p n at_u in
        w.distinct t u a.i b.i n (a.m.history p) (b.m.history p) a.on b.on);
    used = λ t n at.
        (let g = is_numbered job ends is r t p n at in
        IsUsed-longer (limits_at job p) (g.m.history p) (whole_history job ends is r p) n w.legal
        (IsBeginning-others (n ∷ []) (g.m.history p) (whole_history job ends is r p) (came_to t n g))
        (used_by job g.m t p n is g.there g.own.part.ran g.numbered));
    strangers = silent;
  }
