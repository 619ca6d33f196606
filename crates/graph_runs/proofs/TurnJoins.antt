-- A sink that joins now: the registration by its parent is an event of the run, and the moment
-- after it is reachable.
use Rattle.std.proofs.Common.{◌≡◌, ◌≢◌, ℕ, suc, ◌+◌, ◌<◌, ◌≤◌, Bool, true, false, not, cond, eqb, List, [], ◌∷◌, ◌++◌, Some, None, is_some, length, get_or, refl, sym, ap, subst, ◌∙◌, arith, ◌⊎◌, inl, inr}
use Rattle.std.specs.List.{find}
use Rattle.std.proofs.lemmas.Bool.{eqb-true, eq-eqb, ne_eqb}
use Rattle.std.proofs.lemmas.Option.{same_Some}
use Rattle.std.proofs.lemmas.List.{length-append, length-map, get_or-map, get_or_append_left}
use Rattle.phase_base.specs.Members.{member}
use Rattle.phase_base.specs.declared.entry.Entry.{Entry}
use Rattle.phase_base.specs.declared.mode.Mode.TheVariants.{Wait}
use Rattle.phase_history.specs.declared.event.Event.TheVariants.{RegisteredNow}
use Rattle.phase_history.specs.Histories.{members_of, start_of, signal_phase, entry_at, done_of, has_dropped}
use Rattle.phase_history.proofs.Used.{start_from, start_of-longer}
use Rattle.graph_base.specs.declared.line.Kind.{Kind}
use Rattle.graph_base.specs.declared.line.Kind.TheVariants.{Sink}
use Rattle.graph_base.specs.declared.line.Parent.{Parent}
use Rattle.graph_base.specs.declared.registration.Registration.{Registration}
use Rattle.graph_base.specs.Graphs.{task_at}
use Rattle.graph_base.specs.Registrations.{no_registration}
use Rattle.graph_base.specs.TaskLines.{IsGraph, IsTaskLine, IsParent, HasEnds}
use Rattle.graph_base.proofs.Registered.{registrations-phasers}
use Rattle.stream_lists.specs.Jobs.{Job}
use Rattle.stream_lists.specs.Spans.{signalled_by}
use Rattle.stream_lists.proofs.Growing.{filter_map-same}
use Rattle.stream_lists.proofs.SpansAbove.{parent-is}
use Rattle.stream_lists.proofs.Ordered.{place-at}
use Rattle.graph_runs.specs.Moments.{Moment, HasRun, OnLine, numbers_on, limits_at}
use Rattle.graph_runs.specs.Moves.{SameTask, RegistersNow}
use Rattle.graph_runs.proofs.OwnEvents.{eq_case}
use Rattle.graph_runs.proofs.JoinsNow.{join_keeps}
use Rattle.graph_runs.specs.TaskEvents.{child_now}
use Rattle.graph_runs.specs.Nexts.{HasChildrenToCome, first_missing, has_registered, registrations_at}
use Rattle.graph_runs.specs.Reached.{HasMode, HasModes, HasOnlyTasks, HasTaskMembers, IsReachable}
use Rattle.graph_runs.proofs.PlacesLemmas.{find-some}
use Rattle.graph_runs.proofs.Whose.{IsInOrder}
use Rattle.graph_runs.proofs.Reaching.{get_or-any, one_registration, length-joined, missed, one_number, by_numbers, by_members}
use Rattle.graph_runs.proofs.TurnRegistering.{plain_outputs, sink_mode}

module _ (job : Job) (before after : Moment) (t p n c a : ℕ) (u : Parent) (is : IsGraph job.graph)
    (s : RegistersNow job before after t p n c a u) where
  -- ---- the sink's one phaser

  line : IsTaskLine job.graph c (task_at job.graph c)
  line = is.tasks c s.child

  kind : (task_at job.graph c).kind ≡ Sink
  kind = (line.now s.now).0

  ends : (length (task_at job.graph c).inputs ≡ 1) × (length (task_at job.graph c).outputs ≡ 0)
  ends =
      subst (λ (k : Kind). HasEnds k (length (task_at job.graph c).inputs) (length (task_at
      job.graph c).outputs)) kind line.ends

  input_is : get_or (task_at job.graph c).inputs 0 0 ≡ p
  input_is = by s.on_line
    where
      by : OnLine (task_at job.graph c) p → get_or (task_at job.graph c).inputs 0 0 ≡ p
      by (inl on) =
          let plain : signalled_by (task_at job.graph c) ≡ (task_at job.graph c).outputs =
          plain_outputs job c (λ peer. (let wrong = sym kind ∙ peer in cc)) in
          let at = place-at (signalled_by (task_at job.graph c)) p on.0 on.1 in
          absurd (omega (arith, ends.1, ap length plain, at.0))
      by (inr on) =
          let one : length (task_at job.graph c).inputs ≡ 1 = ends.0 in
          let lt = on.1 in
          let first : on.0 ≡ 0 = omega arith in
          ap (λ k. get_or (task_at job.graph c).inputs k 0) (sym first) ∙ on.2

  one_phaser : (i : ℕ) → i < length (registrations_at job c)
      → (get_or (registrations_at job c) i no_registration).phaser ≡ p
  one_phaser i lt =
      let rs = registrations_at job c in
      let inputs = (task_at job.graph c).inputs in
      let outputs = (task_at job.graph c).outputs in
      let phasers = registrations-phasers job.graph c (task_at job.graph c) line in
      let long : length rs ≡ length (inputs ++ outputs) =
      sym (length-map rs (λ r. r.phaser)) ∙ ap length phasers in
      let both : length (inputs ++ outputs) ≡ length inputs + length outputs =
      length-append inputs outputs in
      let one : length inputs ≡ 1 = ends.0 in
      let none : length outputs ≡ 0 = ends.1 in
      let first : i ≡ 0 = omega arith in
      sym (get_or-map (λ r. r.phaser) rs i no_registration 0 lt)
      ∙ ap (λ ps. get_or ps i 0) phasers
      ∙ ap (λ k. get_or (inputs ++ outputs) k 0) first
      ∙ get_or_append_left inputs outputs 0 0 (omega arith)
      ∙ input_is

  -- it misses none
  misses_none : first_missing job after c ≡ None
  misses_none = none (registrations_at job c) (λ i lt. here i lt)
    where
      none : (rs : List Registration)
          → ((i : ℕ) → i < length rs → not (has_registered after c (get_or rs i no_registration))
          ≡ false)
          → find (λ r. not (has_registered after c r)) rs ≡ None
      none [] all = refl
      none (r ∷ rs) all =
          ap (λ b. cond b (Some r) (find (λ r. not (has_registered after c r)) rs))
          (all 0 (omega arith))
          ∙ none rs (λ i lt. all (suc i) (omega arith))

      here : (i : ℕ) → i < length (registrations_at job c)
          → not (has_registered after c (get_or (registrations_at job c) i no_registration)) ≡ false
      here i lt =
          ap (λ q. not (is_some (after.number q c))) (one_phaser i lt)
          ∙ ap (λ o. not (is_some o)) s.number

  -- ---- what is reachable

  join_modes : HasRun job before → HasRun job after → p < length job.graph.phasers
      → IsInOrder job before (child_now t p n c a) → HasModes job before → HasModes job after
  join_modes ran now pp missing modes x there k d lt =
      let R : Registration → Type 0 = λ r. HasMode after x r in
      subst R (get_or-any (registrations_at job x) k no_registration d lt) (λ b start at start_is.
      (let r = get_or (registrations_at job x) k no_registration in
      by (eqb r.phaser p) refl b start at start_is))
    where
      Mode_of : Type 0
      Mode_of = (b : ℕ) (start : Entry)
          → after.number (get_or (registrations_at job x) k no_registration).phaser x ≡ Some b
          → start_of (after.history (get_or (registrations_at job x) k no_registration).phaser) b
          ≡ Some start → start.mode ≡ (get_or (registrations_at job x) k no_registration).mode

      was : HasMode before x (get_or (registrations_at job x) k no_registration)
      was = modes x there k no_registration lt

      of_child : (get_or (registrations_at job x) k no_registration).phaser ≡ p → x ≡ c → Mode_of
      of_child here same b start at start_is =
          let f = find-some (λ r. not (has_registered before c r)) (registrations_at job c)
          missing.0
          no_registration missing.1 in
          let i = f.1.0 in
          let L : ℕ → Type 0 = λ y. k < length (registrations_at job y) in
          let few : k < length (registrations_at job c) = subst L same lt in
          let at_c : get_or (registrations_at job x) k no_registration
          ≡ get_or (registrations_at job c) k no_registration =
          ap (λ y. get_or (registrations_at job y) k no_registration) same in
          let one : k ≡ i =
          one_registration job c k i is s.child few f.1.1
          (ap (λ r. r.phaser) (sym at_c) ∙ here
          ∙ sym (ap (λ r. r.phaser) f.1.2 ∙ missing.2)) in
          let mine : get_or (registrations_at job x) k no_registration ≡ missing.0 =
          at_c ∙ ap (λ j. get_or (registrations_at job c) j no_registration) one ∙ f.1.2 in
          let number : after.number p c ≡ Some b =
          ap (λ y. after.number p y) (sym same)
          ∙ ap (λ q. after.number q x) (sym here) ∙ at in
          let new : a ≡ b = same_Some a b (sym s.number ∙ number) in
          let begins : Entry = entry_at Wait (signal_phase (before.history p) n)
          (done_of (before.history p)) in
          let first : eqb a b ≡ true = eq-eqb a b new in
          let now_is : start_of (RegisteredNow n a ∷ before.history p) b ≡ Some begins =
          rw first refl in
          let is_start : Some begins ≡ Some start =
          sym now_is ∙ ap (λ h. start_of h b) (sym s.here)
          ∙ ap (λ q. start_of (after.history q) b) (sym here) ∙ start_is in
          sym (ap (λ e. e.mode) (same_Some begins start is_start))
          ∙ sym (sink_mode job c i is s.child kind f.1.1) ∙ ap (λ r. r.mode) (f.1.2 ∙ sym mine)

      of_other : (get_or (registrations_at job x) k no_registration).phaser ≡ p → x ≢ c → Mode_of
      of_other here apart b start at start_is =
          let number : before.number p x ≡ Some b =
          sym (s.other_numbers p x (inr apart)) ∙ ap (λ q. after.number q x) (sym here) ∙ at in
          let used = start_from (start_of (before.history p) b)
          ((ran.phasers p pp).used x b number) in
          let stays : start_of (after.history p) b ≡ Some used.0 =
          start_of-longer (limits_at job p) (before.history p) (after.history p) b used.0
          (now.phasers p pp).legal
          (record { later = RegisteredNow n a ∷ []; is = s.here }) used.1 in
          let same : used.0 ≡ start =
          same_Some used.0 start
          (sym stays ∙ ap (λ q. start_of (after.history q) b) (sym here) ∙ start_is) in
          ap (λ e. e.mode) (sym same)
          ∙ was b used.0 (ap (λ q. before.number q x) here ∙ number)
          (ap (λ q. start_of (before.history q) b) here ∙ used.1)

      by : (here : Bool)
          → eqb (get_or (registrations_at job x) k no_registration).phaser p ≡ here → Mode_of
      by true e = child_or (eqb x c) refl
        where
          child_or : (y : Bool) → eqb x c ≡ y → Mode_of
          child_or true f = of_child (eqb-true _ p e) (eqb-true x c f)
          child_or false f =
              of_other (eqb-true _ p e)
              (λ same. (let no = sym (eq-eqb x c same) ∙ f in cc))
      by false e = λ b start at start_is.
          (let q = (get_or (registrations_at job x) k no_registration).phaser in
          let apart : q ≢ p = λ same. (let no = sym (eq-eqb q p same) ∙ e in cc) in
          was b start (sym (s.other_numbers q x (inl apart)) ∙ at)
          (ap (λ h. start_of h b) (sym (s.elsewhere q apart)) ∙ start_is))

  join_tasks : HasOnlyTasks job before → HasOnlyTasks job after
  join_tasks only q lt = by (eqb q p) refl
    where
      few : length (members_of (before.history q)) ≤ length (numbers_on job before q)
      few = only q lt

      by : (b : Bool) → eqb q p ≡ b
          → length (members_of (after.history q)) ≤ length (numbers_on job after q)
      by true e =
          let same : q ≡ p = eqb-true q p e in
          let entry : Entry = entry_at Wait (signal_phase (before.history p) n)
          (done_of (before.history p)) in
          let now : length (members_of (after.history q))
          ≡ length (members_of (before.history q) ++ member a entry ∷ []) =
          ap (λ x. length (members_of (after.history x))) same
          ∙ ap (λ h. length (members_of h)) s.here
          ∙ ap (λ x. length (members_of (before.history x) ++ member a entry ∷ [])) (sym same) in
          let one = length-append (members_of (before.history q)) (member a entry ∷ []) in
          let was : length (members_of (before.history q))
          ≤ length (numbers_on job before q) = few in
          let joined : length (numbers_on job after q) ≡ suc (length (numbers_on job before q)) =
          length-joined (before.number q) (after.number q) 0 (length job.graph.tasks) c a
          (omega arith) (let lt : c < length job.graph.tasks = s.child in omega arith)
          (ap (λ x. before.number x c) same ∙ s.absent)
          (ap (λ x. after.number x c) same ∙ s.number)
          (λ x apart. s.other_numbers q x (inr apart)) in
          omega arith
      by false e =
          let apart : q ≢ p = λ same. (let no = sym (eq-eqb q p same) ∙ e in cc) in
          let now : length (members_of (after.history q)) ≡ length (members_of (before.history q)) =
          ap (λ h. length (members_of h)) (s.elsewhere q apart) in
          let many : length (numbers_on job after q) ≡ length (numbers_on job before q) =
          ap length
          (filter_map-same (after.number q) (before.number q) 0 (length job.graph.tasks)
          (λ x less. s.other_numbers q x (inl apart))) in
          omega (arith, few)

  join_members : HasRun job before → HasRun job after → HasTaskMembers job before
      → HasTaskMembers job after
  join_members ran now members =
      by_members job after now
      (one_number job before after p c a s.child s.absent s.number s.other_numbers
      (λ q apart. s.elsewhere q apart)
      (λ x apart used. (let other : eqb a x ≡ false = ne_eqb a x (λ same. apart (sym same)) in
      let is : is_some (start_of (RegisteredNow n a ∷ before.history p) x)
      ≡ is_some (start_of (before.history p) x) = rw other refl in
      sym is ∙ ap (λ h. is_some (start_of h x)) (sym s.here) ∙ used))
      (λ x stays. ap (λ h. has_dropped h x) (sym s.here) ∙ stays)
      (by_numbers job before ran members))

  -- a child that misses a registration afterwards is another, and missed it before
  still : (x : ℕ) → is_some (first_missing job after x) ≡ true
      → (is_some (first_missing job before x) ≡ true) × SameTask before after x
  still x missing = (
    missed job before after x (λ q some. stays q some (eq_case q p) (eq_case x c)) missing,
    s.same x apart,
  )
    where
      apart : x ≢ c
      apart same =
          let no : is_some (first_missing job after x) ≡ false =
          ap (λ y. is_some (first_missing job after y)) same ∙ ap is_some misses_none in
          let wrong : true ≡ false = sym missing ∙ no in
          cc

      stays : (q : ℕ) → is_some (before.number q x) ≡ true → (q ≡ p) ⊎ (q ≢ p) → (x ≡ c) ⊎ (x ≢ c)
          → is_some (after.number q x) ≡ true
      stays q some (inr other) d = ap is_some (s.other_numbers q x (inl other)) ∙ some
      stays q some (inl same) (inr other) = ap is_some (s.other_numbers q x (inr other)) ∙ some
      stays q some (inl same) (inl here) = absurd (apart here)

  join_to_come : HasChildrenToCome job before → HasChildrenToCome job after
  join_to_come come = record {
    offset = λ d v lt parent missing.
        (let w = still d missing in
        w.1.offset ∙ come.offset d v lt parent w.0 ∙ ap (λ x. x + v.at)
        (sym (above d v lt parent)));
    nothing_begun = λ d lt missing.
        (let w = still d missing in w.1.begun ∙ come.nothing_begun d lt w.0);
    nothing_put = λ d j lt missing.
        (let w = still d missing in w.1.put j ∙ come.nothing_put d j lt w.0);
    nothing_taken = λ d k lt missing.
        (let w = still d missing in w.1.taken k ∙ come.nothing_taken d k lt w.0);
  }
    where
      -- a parent does not join now
      above : (d : ℕ) (v : Parent) → d < length job.graph.tasks
          → (task_at job.graph d).parent ≡ Some v → after.offset v.task ≡ before.offset v.task
      above d v lt parent =
          let is_parent : IsParent job.graph d (task_at job.graph d) v =
          parent-is job.graph d (task_at job.graph d) v (is.tasks d lt) parent in
          (s.same v.task (λ same. (
          let joins : (task_at job.graph v.task).joins_now ≡ true =
          ap (λ y. (task_at job.graph y).joins_now) same ∙ s.now in
          let wrong : true ≡ false = sym joins ∙ is_parent.stays in cc))).offset

  pub join_reached : t < length job.graph.tasks → p < length job.graph.phasers
      → IsInOrder job before (child_now t p n c a) → IsReachable job before → IsReachable job after
  join_reached there pp missing reached =
      let ran : HasRun job after = join_keeps job before after t p n c a u is there s reached.ran in
      record {
        ran = ran;
        modes = join_modes reached.ran ran pp missing reached.modes;
        only_tasks = join_tasks reached.only_tasks;
        members = join_members reached.ran ran reached.members;
        to_come = join_to_come reached.to_come;
      }
