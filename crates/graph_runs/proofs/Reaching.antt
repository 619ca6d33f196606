-- What a reached moment has stays after a turn.
use Rattle.std.proofs.Common.{◌≡◌, ◌≢◌, ℕ, zero, suc, ◌+◌, ◌<◌, ◌≤◌, Bool, true, false, not, cond, eqb, List, [], ◌∷◌, ◌++◌, Option, Some, None, is_some, length, map, get_or, refl, sym, ap, ◌∙◌, arith, ◌⊎◌, inl, inr, ℤ}
use Rattle.std.specs.List.{find, filter_map, cons_option, range_with_len}
use Rattle.std.proofs.lemmas.Bool.{eqb-true, eq-eqb, ne_eqb, cases_lt}
use Rattle.std.proofs.lemmas.Option.{same_Some}
use Rattle.std.proofs.lemmas.List.{append-nil, length-append, length-map, get_or-map}
use Rattle.std.proofs.lemmas.List.Sums.{length-filter, count_by-le-length}
use Rattle.phase_base.specs.Members.{Members, member, changed_at, signalled, waited}
use Rattle.phase_base.specs.declared.entry.Entry.{Entry}
use Rattle.phase_base.specs.declared.mode.Mode.{Mode}
use Rattle.phase_accum.specs.declared.single.Single.{Single}
use Rattle.phase_history.specs.declared.event.Event.{Event}
use Rattle.phase_history.specs.declared.event.Event.TheVariants.{Registered, Signalled, Waited, Dropped}
use Rattle.phase_history.specs.Histories.{History, members_of, start_of, signal_phase, wait_phase, entry_at, has_dropped}
use Rattle.phase_history.specs.Others.{IsUsed}
use Rattle.phase_history.proofs.Alive.{alive_law}
use Rattle.phase_history.proofs.Used.{start_from, start_of-longer}
use Rattle.graph_base.specs.declared.line.Parent.{Parent}
use Rattle.graph_base.specs.declared.registration.Registration.{Registration}
use Rattle.graph_base.specs.Graphs.{task_at}
use Rattle.graph_base.specs.Registrations.{no_registration}
use Rattle.graph_base.specs.TaskLines.{IsGraph}
use Rattle.phase_base.specs.Lists.{is_distinct}
use Rattle.graph_base.proofs.Registered.{registrations-phasers}
use Rattle.stream_lists.specs.Jobs.{Job, index_in}
use Rattle.stream_lists.proofs.Growing.{filter_map-same}
use Rattle.stream_lists.proofs.Ordered.{place-distinct}
use Rattle.graph_runs.specs.Moments.{Moment, HasRun, numbers_on, limits_at}
use Rattle.graph_runs.specs.Moves.{HasMoved, SameTask, Registers}
use Rattle.graph_runs.proofs.Opened.{opened_ran}
use Rattle.graph_runs.specs.TaskEvents.{child}
use Rattle.graph_runs.specs.Nexts.{HasChildrenToCome, first_missing, has_registered, registrations_at}
use Rattle.graph_runs.specs.Reached.{HasMode, HasModes, HasOnlyTasks, HasTaskMembers, IsOfTask, HasBegun, IsReachable}
use Rattle.graph_runs.proofs.PlacesLemmas.{find-some}
use Rattle.graph_runs.proofs.Whose.{IsInOrder}

-- ---- events that give no number

-- such an event leaves each start, and no member joins
pub record GivesNoNumber (event : Event) : Type 0 where
  pub starts : (h : History) (n : ℕ) → start_of (event ∷ h) n ≡ start_of h n
  pub members : (h : History) → length (members_of (event ∷ h)) ≤ length (members_of h)
  pub stays : (h : History) (n : ℕ) → has_dropped (event ∷ h) n ≡ false → has_dropped h n ≡ false

length-changed : (task : ℕ) (change : Entry → Entry) (ms : Members)
    → length (changed_at task change ms) ≡ length ms
length-changed task change [] = refl
length-changed task change (m ∷ ms) =
    elim (eqb m.task task) as (λ b. length (cond b (member m.task (change m.entry) ∷ ms)
    (m ∷ changed_at task change ms)) ≡ suc (length ms)) [
      | true ↦ refl
      | false ↦ ap suc (length-changed task change ms)
    ]

pub signal_gives_none : (n : ℕ) (lists : List (List ℤ)) (single : Option Single)
    → GivesNoNumber (Signalled n lists single)
signal_gives_none n lists single = record {
  starts = λ h x. refl;
  members = λ h.
      (let same = length-changed n (signalled (length lists)) (members_of h) in omega arith);
  stays = λ h x e. e;
}

pub wait_gives_none : (n k : ℕ) → GivesNoNumber (Waited n k)
wait_gives_none n k = record {
  starts = λ h x. refl;
  members = λ h. (let same = length-changed n (waited k) (members_of h) in omega arith);
  stays = λ h x e. e;
}

pub drop_gives_none : (n : ℕ) → GivesNoNumber (Dropped n)
drop_gives_none n = record {
  starts = λ h x. refl;
  members = λ h.
      (let same = length-filter (λ x. not (eqb x.task n)) (members_of h) in
      let few = count_by-le-length (λ x. not (eqb x.task n)) (members_of h) in omega arith);
  stays = λ h x e. by h x (eqb n x) e;
}
  where
    by : (h : History) (x : ℕ) (b : Bool) → cond b true (has_dropped h x) ≡ false
        → has_dropped h x ≡ false
    by h x true e = absurd (cc)
    by h x false e = e

-- ---- one event that gives no number

-- each history has the same starts
starts_same : (job : Job) (before after : Moment) (t p : ℕ) (event : Event)
    → HasMoved job before after t p event → GivesNoNumber event
    → (q n : ℕ) → start_of (after.history q) n ≡ start_of (before.history q) n
starts_same job before after t p event moved none q n = by (eqb q p) refl
  where
    by : (b : Bool) → eqb q p ≡ b
        → start_of (after.history q) n ≡ start_of (before.history q) n
    by true e =
        let same : q ≡ p = eqb-true q p e in
        ap (λ x. start_of (after.history x) n) same ∙ ap (λ h. start_of h n) moved.here
        ∙ none.starts (before.history p) n ∙ ap (λ x. start_of (before.history x) n) (sym same)
    by false e =
        ap (λ h. start_of h n)
        (moved.elsewhere q (λ same. (let no = sym (eq-eqb q p same) ∙ e in cc)))

modes_moved : (job : Job) (before after : Moment) (t p : ℕ) (event : Event)
    → HasMoved job before after t p event → GivesNoNumber event → HasModes job before
    → HasModes job after
modes_moved job before after t p event moved none modes u there k d lt n start at is =
    let r = get_or (registrations_at job u) k d in
    modes u there k d lt n start (sym (moved.numbers r.phaser u) ∙ at)
    (sym (starts_same job before after t p event moved none r.phaser n) ∙ is)

tasks_moved : (job : Job) (before after : Moment) (t p : ℕ) (event : Event)
    → HasMoved job before after t p event → GivesNoNumber event → HasOnlyTasks job before
    → HasOnlyTasks job after
tasks_moved job before after t p event moved none only q lt = by (eqb q p) refl
  where
    numbers : length (numbers_on job after q) ≡ length (numbers_on job before q)
    numbers =
        ap length
        (filter_map-same (after.number q) (before.number q) 0 (length job.graph.tasks)
        (λ u less. moved.numbers q u))

    few : length (members_of (before.history q)) ≤ length (numbers_on job before q)
    few = only q lt

    by : (b : Bool) → eqb q p ≡ b
        → length (members_of (after.history q)) ≤ length (numbers_on job after q)
    by true e =
        let same : q ≡ p = eqb-true q p e in
        let now : length (members_of (after.history q))
        ≡ length (members_of (event ∷ before.history q)) =
        ap (λ x. length (members_of (after.history x))) same
        ∙ ap (λ h. length (members_of h)) moved.here
        ∙ ap (λ x. length (members_of (event ∷ before.history x))) (sym same) in
        omega (arith, none.members (before.history q), few, numbers)
    by false e =
        let now : length (members_of (after.history q)) ≡ length (members_of (before.history q)) =
        ap (λ h. length (members_of h))
        (moved.elsewhere q (λ same. (let no = sym (eq-eqb q p same) ∙ e in cc))) in
        omega (arith, few, numbers)

-- ---- whose the members are

-- the same by the events of a phaser: whoever got a number there and has not dropped it is a task
abbrev pub HasTaskNumbers : Job → Moment → Type 0
HasTaskNumbers job m = (p n : ℕ) → p < length job.graph.phasers → IsUsed (m.history p) n
    → has_dropped (m.history p) n ≡ false → IsOfTask job m p n

pub by_numbers : (job : Job) (m : Moment) → HasRun job m → HasTaskMembers job m
    → HasTaskNumbers job m
by_numbers job m ran members p n pp used stays =
    members p n pp ((alive_law (limits_at job p) (m.history p) n (ran.phasers p pp).legal).1
    (used, stays))

pub by_members : (job : Job) (m : Moment) → HasRun job m → HasTaskNumbers job m
    → HasTaskMembers job m
by_members job m ran numbers p n pp alive =
    let it = (alive_law (limits_at job p) (m.history p) n (ran.phasers p pp).legal).0 alive in
    numbers p n pp it.0 it.1

-- one task more has a number, number a on phaser p
pub one_number : (job : Job) (before after : Moment) (p c a : ℕ) → c < length job.graph.tasks
    → before.number p c ≡ None → after.number p c ≡ Some a
    → ((q x : ℕ) → (q ≢ p) ⊎ (x ≢ c) → after.number q x ≡ before.number q x)
    → ((q : ℕ) → q ≢ p → after.history q ≡ before.history q)
    → ((x : ℕ) → x ≢ a → IsUsed (after.history p) x → IsUsed (before.history p) x)
    → ((x : ℕ) → has_dropped (after.history p) x ≡ false
    → has_dropped (before.history p) x ≡ false)
    → HasTaskNumbers job before → HasTaskNumbers job after
one_number job before after p c a there absent number others elsewhere used stays were q x qq now kept =
    by (eqb q p) refl
  where
    here : (b : Bool) → eqb x a ≡ b → p < length job.graph.phasers → IsUsed (after.history p) x
        → has_dropped (after.history p) x ≡ false → IsOfTask job after p x
    here true e pp now kept =
        (c, there, number ∙ ap (λ y. Some y) (sym (eqb-true x a e)))
    here false e pp now kept =
        let apart : x ≢ a = λ same. (let no = sym (eq-eqb x a same) ∙ e in cc) in
        let it = were p x pp (used x apart now) (stays x kept) in
        let other : it.0 ≢ c = λ same. (let wrong : Some x ≡ None =
        sym it.2 ∙ ap (before.number p) same ∙ absent in cc) in
        (it.0, it.1, others p it.0 (inr other) ∙ it.2)

    by : (b : Bool) → eqb q p ≡ b → IsOfTask job after q x
    by true e =
        let same : p ≡ q = sym (eqb-true q p e) in
        (rw same at (here (eqb x a) refl)) qq now kept
    by false e =
        let apart : q ≢ p = λ same. (let no = sym (eq-eqb q p same) ∙ e in cc) in
        let it = were q x qq (ap (λ h. is_some (start_of h x)) (sym (elsewhere q apart)) ∙ now)
        (ap (λ h. has_dropped h x) (sym (elsewhere q apart)) ∙ kept) in
        (it.0, it.1, others q it.0 (inl apart) ∙ it.2)

numbers_moved : (job : Job) (before after : Moment) (t p : ℕ) (event : Event)
    → HasMoved job before after t p event → GivesNoNumber event → HasTaskNumbers job before
    → HasTaskNumbers job after
numbers_moved job before after t p event moved none were q n qq used stays =
    let it = were q n qq
    (ap is_some (sym (starts_same job before after t p event moved none q n)) ∙ used)
    (by (eqb q p) refl) in
    (it.0, it.1, moved.numbers q it.0 ∙ it.2)
  where
    by : (b : Bool) → eqb q p ≡ b → has_dropped (before.history q) n ≡ false
    by true e =
        let same : q ≡ p = eqb-true q p e in
        none.stays (before.history q) n
        (ap (λ x. has_dropped (event ∷ before.history x) n) same
        ∙ ap (λ h. has_dropped h n) (sym moved.here)
        ∙ ap (λ x. has_dropped (after.history x) n) (sym same) ∙ stays)
    by false e =
        ap (λ h. has_dropped h n)
        (sym (moved.elsewhere q (λ same. (let no = sym (eq-eqb q p same) ∙ e in cc)))) ∙ stays

pub numbers_registered : (job : Job) (before after : Moment) (t p n c a : ℕ) (mode : Mode) (u : Parent)
    → Registers job before after t p n c a mode u → HasTaskNumbers job before
    → HasTaskNumbers job after
numbers_registered job before after t p n c a mode u s were =
    one_number job before after p c a s.child s.absent s.number s.other_numbers
    (λ q apart. s.elsewhere q apart)
    (λ x apart used. (let other : eqb a x ≡ false = ne_eqb a x (λ same. apart (sym same)) in
    let is : is_some (start_of (Registered n a mode ∷ before.history p) x)
    ≡ is_some (start_of (before.history p) x) = rw other refl in
    sym is ∙ ap (λ h. is_some (start_of h x)) (sym s.here) ∙ used))
    (λ x stays. ap (λ h. has_dropped h x) (sym s.here) ∙ stays) were

-- ---- children to come

-- where fewer are found, fewer were
find-fewer : {X : Type 0} (f g : X → Bool) (xs : List X) → ((x : X) → f x ≡ true → g x ≡ true)
    → is_some (find f xs) ≡ true → is_some (find g xs) ≡ true
find-fewer f g [] more e = absurd (cc)
find-fewer f g (x ∷ xs) more e = by (g x) refl (f x) refl e (λ i. find-fewer f g xs more i)
  where
    by : (b : Bool) → g x ≡ b → (c : Bool) → f x ≡ c
        → is_some (cond c (Some x) (find f xs)) ≡ true
        → (is_some (find f xs) ≡ true → is_some (find g xs) ≡ true)
        → is_some (cond b (Some x) (find g xs)) ≡ true
    by true is c was e later = refl
    by false is false was e later = later e
    by false is true was e later =
        absurd (let now : true ≡ false = sym (more x was) ∙ is in cc)

-- a task that misses a registration after missed one before
pub missed : (job : Job) (before after : Moment) (c : ℕ)
    → ((q : ℕ) → is_some (before.number q c) ≡ true → is_some (after.number q c) ≡ true)
    → is_some (first_missing job after c) ≡ true → is_some (first_missing job before c) ≡ true
missed job before after c stays e =
    find-fewer (λ r. not (has_registered after c r)) (λ r. not (has_registered before c r))
    (registrations_at job c)
    (λ r absent. by r (is_some (before.number r.phaser c)) refl absent) e
  where
    by : (r : Registration) (b : Bool) → is_some (before.number r.phaser c) ≡ b
        → not (is_some (after.number r.phaser c)) ≡ true
        → not (is_some (before.number r.phaser c)) ≡ true
    by r true is absent =
        absurd (let there : not true ≡ true =
        sym (ap not (stays r.phaser is)) ∙ absent in cc)
    by r false is absent = ap not is

-- where the offsets stay, and each task that misses a registration did so before and is as it was
to_come_stay : (job : Job) (before after : Moment)
    → ((c : ℕ) → after.offset c ≡ before.offset c)
    → ((c : ℕ) → is_some (first_missing job after c) ≡ true
    → (is_some (first_missing job before c) ≡ true) × SameTask before after c)
    → HasChildrenToCome job before → HasChildrenToCome job after
to_come_stay job before after offsets still come = record {
  offset = λ c u lt parent missing.
      (let s = still c missing in
      offsets c ∙ come.offset c u lt parent s.0 ∙ ap (λ x. x + u.at) (sym (offsets u.task)));
  nothing_begun = λ c lt missing.
      (let s = still c missing in s.1.begun ∙ come.nothing_begun c lt s.0);
  nothing_put = λ c j lt missing.
      (let s = still c missing in s.1.put j ∙ come.nothing_put c j lt s.0);
  nothing_taken = λ c k lt missing.
      (let s = still c missing in s.1.taken k ∙ come.nothing_taken c k lt s.0);
}

to_come_moved : (job : Job) (before after : Moment) (t p : ℕ) (event : Event)
    → HasMoved job before after t p event → first_missing job before t ≡ None
    → HasChildrenToCome job before → HasChildrenToCome job after
to_come_moved job before after t p event moved all come =
    to_come_stay job before after (λ c. offsets c (eqb c t) refl) still come
  where
    other : (c : ℕ) → eqb c t ≡ false → c ≢ t
    other c e same = (let no = sym (eq-eqb c t same) ∙ e in cc)

    offsets : (c : ℕ) (b : Bool) → eqb c t ≡ b → after.offset c ≡ before.offset c
    offsets c true e =
        let same : c ≡ t = eqb-true c t e in
        ap (λ x. after.offset x) same ∙ moved.offset ∙ ap (λ x. before.offset x) (sym same)
    offsets c false e = (moved.others c (other c e)).offset

    still : (c : ℕ) → is_some (first_missing job after c) ≡ true
        → (is_some (first_missing job before c) ≡ true) × SameTask before after c
    still c missing =
        let was : is_some (first_missing job before c) ≡ true =
        missed job before after c (λ q some. ap is_some (moved.numbers q c) ∙ some) missing in
        (was, (by (eqb c t) refl was))
      where
        by : (b : Bool) → eqb c t ≡ b → is_some (first_missing job before c) ≡ true
            → SameTask before after c
        by false e was = moved.others c (other c e)
        by true e was =
            let none : is_some (first_missing job before c) ≡ false =
            ap (λ x. is_some (first_missing job before x)) (eqb-true c t e) ∙ ap is_some all in
            absurd (let no : true ≡ false = sym was ∙ none in cc)

-- ---- a child's registration

-- the phaser of a registration stands at the registration's place
pub registration_placed : (job : Job) (c i : ℕ) → IsGraph job.graph → c < length job.graph.tasks
    → i < length (registrations_at job c)
    → index_in (map (λ r. r.phaser) (registrations_at job c))
    (get_or (registrations_at job c) i no_registration).phaser ≡ Some i
registration_placed job c i is there lt =
    let rs = registrations_at job c in
    let distinct : is_distinct (map (λ r. r.phaser) rs ++ []) ≡ true =
    ap (λ l. is_distinct l)
    (append-nil (map (λ r. r.phaser) rs)
    ∙ registrations-phasers job.graph c (task_at job.graph c) (is.tasks c there))
    ∙ (is.tasks c there).distinct in
    let long = length-map rs (λ r. r.phaser) in
    let same : 0 + i ≡ i = omega arith in
    ap (λ p. index_in (map (λ r. r.phaser) rs) p)
    (sym (get_or-map (λ r. r.phaser) rs i no_registration 0 lt))
    ∙ place-distinct 0 (map (λ r. r.phaser) rs) [] i (omega arith) distinct
    ∙ ap (λ k. Some k) same

-- a task has one registration on each phaser of its line
pub one_registration : (job : Job) (c i k : ℕ) → IsGraph job.graph → c < length job.graph.tasks
    → i < length (registrations_at job c) → k < length (registrations_at job c)
    → (get_or (registrations_at job c) i no_registration).phaser
    ≡ (get_or (registrations_at job c) k no_registration).phaser → i ≡ k
one_registration job c i k is there few less same =
    let place : Some i ≡ Some k =
    sym (registration_placed job c i is there few)
    ∙ ap (λ p. index_in (map (λ r. r.phaser) (registrations_at job c)) p) same
    ∙ registration_placed job c k is there less in
    same_Some i k place

-- a place of a list, whatever stands for no element
pub get_or-any : {X : Type 0} (xs : List X) (k : ℕ) (d e : X) → k < length xs
    → get_or xs k d ≡ get_or xs k e
get_or-any [] k d e lt = absurd (omega arith)
get_or-any (x ∷ xs) zero d e lt = refl
get_or-any (x ∷ xs) (suc k) d e lt = get_or-any xs k d e (omega arith)

pub modes_registered : (job : Job) (before after : Moment) (t p n c a : ℕ) (mode : Mode) (u : Parent)
    → IsGraph job.graph → HasRun job before → HasRun job after
    → Registers job before after t p n c a mode u
    → IsInOrder job before (child t p n c a mode) → p < length job.graph.phasers
    → HasModes job before → HasModes job after
modes_registered job before after t p n c a mode u is ran now s missing pp modes x there k d lt =
    rw (← (get_or-any (registrations_at job x) k no_registration d lt)) (λ b start at start_is.
    (let r = get_or (registrations_at job x) k no_registration in
    by (eqb r.phaser p) refl b start at start_is))
  where
    Mode_of : Type 0
    Mode_of = (b : ℕ) (start : Entry)
        → after.number (get_or (registrations_at job x) k no_registration).phaser x ≡ Some b
        → start_of (after.history (get_or (registrations_at job x) k no_registration).phaser) b
        ≡ Some start → start.mode ≡ (get_or (registrations_at job x) k no_registration).mode

    was : HasMode before x (get_or (registrations_at job x) k no_registration)
    was = modes x there k no_registration lt

    -- the child itself
    of_child : (get_or (registrations_at job x) k no_registration).phaser ≡ p → x ≡ c → Mode_of
    of_child here same b start at start_is =
        let f = find-some (λ r. not (has_registered before c r)) (registrations_at job c) missing.0
        no_registration missing.1 in
        let i = f.1.0 in
        let few : k < length (registrations_at job c) = rw (← same) lt in
        let at_c : get_or (registrations_at job x) k no_registration
        ≡ get_or (registrations_at job c) k no_registration =
        ap (λ y. get_or (registrations_at job y) k no_registration) same in
        let one : k ≡ i =
        one_registration job c k i is s.child few f.1.1
        (ap (λ r. r.phaser) (sym at_c) ∙ here
        ∙ sym (ap (λ r. r.phaser) f.1.2 ∙ missing.2)) in
        let mine : get_or (registrations_at job x) k no_registration ≡ missing.0 =
        at_c ∙ ap (λ j. get_or (registrations_at job c) j no_registration) one ∙ f.1.2 in
        let number : after.number p c ≡ Some b =
        ap (λ y. after.number p y) (sym same)
        ∙ ap (λ q. after.number q x) (sym here) ∙ at in
        let new : a ≡ b = same_Some a b (sym s.number ∙ number) in
        let begins : Entry = entry_at mode (signal_phase (before.history p) n)
        (wait_phase (before.history p) n) in
        let first : eqb a b ≡ true = eq-eqb a b new in
        let now_is : start_of (Registered n a mode ∷ before.history p) b ≡ Some begins =
        rw first refl in
        let is_start : Some begins ≡ Some start =
        sym now_is ∙ ap (λ h. start_of h b) (sym s.here)
        ∙ ap (λ q. start_of (after.history q) b) (sym here) ∙ start_is in
        sym (ap (λ e. e.mode) (same_Some begins start is_start)) ∙ sym missing.3
        ∙ ap (λ r. r.mode) (sym mine)

    -- another on the phaser, whose start stays
    of_other : (get_or (registrations_at job x) k no_registration).phaser ≡ p → x ≢ c → Mode_of
    of_other here apart b start at start_is =
        let number : before.number p x ≡ Some b =
        sym (s.other_numbers p x (inr apart)) ∙ ap (λ q. after.number q x) (sym here) ∙ at in
        let used = start_from (start_of (before.history p) b)
        ((ran.phasers p pp).used x b number) in
        let stays : start_of (after.history p) b ≡ Some used.0 =
        start_of-longer (limits_at job p) (before.history p) (after.history p) b used.0
        (now.phasers p pp).legal
        (record { later = Registered n a mode ∷ []; is = s.here }) used.1 in
        let same : used.0 ≡ start =
        same_Some used.0 start
        (sym stays ∙ ap (λ q. start_of (after.history q) b) (sym here) ∙ start_is) in
        ap (λ e. e.mode) (sym same)
        ∙ was b used.0 (ap (λ q. before.number q x) here ∙ number)
        (ap (λ q. start_of (before.history q) b) here ∙ used.1)

    by : (here : Bool)
        → eqb (get_or (registrations_at job x) k no_registration).phaser p ≡ here → Mode_of
    by true e = child_or (eqb x c) refl
      where
        child_or : (y : Bool) → eqb x c ≡ y → Mode_of
        child_or true f = of_child (eqb-true _ p e) (eqb-true x c f)
        child_or false f =
            of_other (eqb-true _ p e)
            (λ same. (let no = sym (eq-eqb x c same) ∙ f in cc))
    by false e = λ b start at start_is.
        (let q = (get_or (registrations_at job x) k no_registration).phaser in
        let apart : q ≢ p = λ same. (let no = sym (eq-eqb q p same) ∙ e in cc) in
        was b start (sym (s.other_numbers q x (inl apart)) ∙ at)
        (ap (λ h. start_of h b) (sym (s.elsewhere q apart)) ∙ start_is))

-- the same numbers beyond
filter_map-beyond : (f g : ℕ → Option ℕ) (from many c : ℕ) → ((x : ℕ) → x ≢ c → g x ≡ f x)
    → c < from
    → filter_map g (range_with_len from many) ≡ filter_map f (range_with_len from many)
filter_map-beyond f g from zero c same beyond = refl
filter_map-beyond f g from (suc many) c same beyond =
    ap (λ o. cons_option o (filter_map g (range_with_len (from + 1) many)))
    (same from (λ e. omega arith))
    ∙ ap (λ xs. cons_option (f from) xs)
    (filter_map-beyond f g (from + 1) many c same (omega arith))

-- one number more
pub length-joined : (f g : ℕ → Option ℕ) (from many c a : ℕ) → from ≤ c → c < from + many
    → f c ≡ None → g c ≡ Some a → ((x : ℕ) → x ≢ c → g x ≡ f x)
    → length (filter_map g (range_with_len from many))
    ≡ suc (length (filter_map f (range_with_len from many)))
length-joined f g from zero c a low high none some same = absurd (omega arith)
length-joined f g from (suc many) c a low high none some same =
    by (cases_lt from c)
    (λ more. length-joined f g (from + 1) many c a (omega arith) (omega arith) none some same)
  where
    tail : (h : ℕ → Option ℕ) → List ℕ
    tail h = filter_map h (range_with_len (from + 1) many)

    cons : (o : Option ℕ) (ys xs : List ℕ) → length ys ≡ suc (length xs)
        → length (cons_option o ys) ≡ suc (length (cons_option o xs))
    cons None ys xs e = e
    cons (Some b) ys xs e = ap suc e

    by : (from < c) ⊎ (c ≤ from)
        → (from < c → length (filter_map g (range_with_len (from + 1) many))
        ≡ suc (length (filter_map f (range_with_len (from + 1) many))))
        → length (cons_option (g from) (filter_map g (range_with_len (from + 1) many)))
        ≡ suc (length (cons_option (f from) (filter_map f (range_with_len (from + 1) many))))
    by (inl more) later =
        ap (λ o. length (cons_option o (filter_map g (range_with_len (from + 1) many))))
        (same from (λ e. omega arith))
        ∙ cons (f from) (filter_map g (range_with_len (from + 1) many))
        (filter_map f (range_with_len (from + 1) many)) (later more)
    by (inr here) later =
        let at : from ≡ c = omega arith in
        let rest : filter_map g (range_with_len (from + 1) many)
        ≡ filter_map f (range_with_len (from + 1) many) =
        filter_map-beyond f g (from + 1) many c same (omega arith) in
        ap (λ o. length (cons_option o (filter_map g (range_with_len (from + 1) many))))
        (ap g at ∙ some)
        ∙ ap (λ l. suc (length l)) rest
        ∙ sym (ap (λ o. suc (length (cons_option o (filter_map f (range_with_len (from + 1) many)))))
        (ap f at ∙ none))

pub tasks_registered : (job : Job) (before after : Moment) (t p n c a : ℕ) (mode : Mode) (u : Parent)
    → Registers job before after t p n c a mode u → HasOnlyTasks job before
    → HasOnlyTasks job after
tasks_registered job before after t p n c a mode u s only q lt = by (eqb q p) refl
  where
    few : length (members_of (before.history q)) ≤ length (numbers_on job before q)
    few = only q lt

    by : (b : Bool) → eqb q p ≡ b
        → length (members_of (after.history q)) ≤ length (numbers_on job after q)
    by true e =
        let same : q ≡ p = eqb-true q p e in
        let entry : Entry = entry_at mode (signal_phase (before.history p) n)
        (wait_phase (before.history p) n) in
        let now : length (members_of (after.history q))
        ≡ length (members_of (before.history q) ++ member a entry ∷ []) =
        ap (λ x. length (members_of (after.history x))) same
        ∙ ap (λ h. length (members_of h)) s.here
        ∙ ap (λ x. length (members_of (before.history x) ++ member a entry ∷ [])) (sym same) in
        let one = length-append (members_of (before.history q)) (member a entry ∷ []) in
        let was : length (members_of (before.history q)) ≤ length (numbers_on job before q) = few in
        let joined : length (numbers_on job after q) ≡ suc (length (numbers_on job before q)) =
        length-joined (before.number q) (after.number q) 0 (length job.graph.tasks) c a
        (omega arith) (let lt : c < length job.graph.tasks = s.child in omega arith)
        (ap (λ x. before.number x c) same ∙ s.absent)
        (ap (λ x. after.number x c) same ∙ s.number)
        (λ x apart. s.other_numbers q x (inr apart)) in
        omega arith
    by false e =
        let apart : q ≢ p = λ same. (let no = sym (eq-eqb q p same) ∙ e in cc) in
        let now : length (members_of (after.history q)) ≡ length (members_of (before.history q)) =
        ap (λ h. length (members_of h)) (s.elsewhere q apart) in
        let many : length (numbers_on job after q) ≡ length (numbers_on job before q) =
        ap length
        (filter_map-same (after.number q) (before.number q) 0 (length job.graph.tasks)
        (λ x less. s.other_numbers q x (inl apart))) in
        omega (arith, few)

pub to_come_registered : (job : Job) (before after : Moment) (t p n c a : ℕ) (mode : Mode) (u : Parent)
    → Registers job before after t p n c a mode u → HasChildrenToCome job before
    → HasChildrenToCome job after
to_come_registered job before after t p n c a mode u s come =
    to_come_stay job before after (λ x. (s.same x).offset)
    (λ x missing. (
      missed job before after x (λ q some. stays q x some (eqb q p) refl (eqb x c) refl) missing,
      s.same x,
    )) come
  where
    other : (x y : ℕ) → eqb x y ≡ false → x ≢ y
    other x y e same = (let no = sym (eq-eqb x y same) ∙ e in cc)

    stays : (q x : ℕ) → is_some (before.number q x) ≡ true → (b : Bool) → eqb q p ≡ b
        → (d : Bool) → eqb x c ≡ d → is_some (after.number q x) ≡ true
    stays q x some false e d f =
        ap is_some (s.other_numbers q x (inl (other q p e))) ∙ some
    stays q x some true e false f =
        ap is_some (s.other_numbers q x (inr (other x c f))) ∙ some
    stays q x some true e true f =
        ap (λ y. is_some (after.number y x)) (eqb-true q p e)
        ∙ ap (λ y. is_some (after.number p y)) (eqb-true x c f) ∙ ap is_some s.number

-- ---- an event of a task

pub reached_moved : (job : Job) (before after : Moment) (t p : ℕ) (event : Event)
    → HasMoved job before after t p event → GivesNoNumber event
    → first_missing job before t ≡ None → HasRun job after → IsReachable job before
    → IsReachable job after
reached_moved job before after t p event moved none all ran reached = record {
  ran = ran;
  modes = modes_moved job before after t p event moved none reached.modes;
  only_tasks = tasks_moved job before after t p event moved none reached.only_tasks;
  members = by_members job after ran
      (numbers_moved job before after t p event moved none
      (by_numbers job before reached.ran reached.members));
  to_come = to_come_moved job before after t p event moved all reached.to_come;
}

-- ---- the opening

pub begun_reached : (job : Job) (m : Moment) → IsGraph job.graph → HasBegun job m
    → IsReachable job m
begun_reached job m is begun = record {
  ran = opened_ran job m is begun.opened;
  modes = begun.modes;
  only_tasks = begun.only_tasks;
  members = begun.members;
  to_come = record {
    offset = λ c u lt parent missing. begun.offset c u lt parent;
    nothing_begun = λ c lt missing. (begun.opened.tasks c lt).nothing_begun;
    nothing_put = λ c j lt missing. (begun.opened.tasks c lt).nothing_put j;
    nothing_taken = λ c k lt missing. (begun.opened.tasks c lt).nothing_taken k;
  };
}
