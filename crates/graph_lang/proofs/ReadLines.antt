-- Lines that are read, one after another.
use Rattle.std.proofs.Common.{ℕ, ◌≡◌, ◌<◌, ◌≤◌, ◌+◌, List, ◌∷◌, Bor, length, map, drop, get_or, refl, ap, sym, ◌∙◌, Result, Ok, Err, Bool, true, false, Option, Some, None, is_some, if◌then◌else◌, [], inl, inr, subst}
use Rattle.std.proofs.lemmas.List.{drop_all}
use Rattle.phase_base.specs.Words.{Word}
use Rattle.graph_text.specs.Texts.{words_of_line, are_printable, is_ignored}
use Rattle.phase_base.specs.Lists.{without_cr}
use Rattle.graph_text.specs.Plain.{plain}
use Rattle.graph_text.specs.Decls.{Decl, Declares, Spells}
use Rattle.graph_text.specs.Versions.{heading_of}
use Rattle.graph_text.specs.declared.version.Version.{Version}
use Rattle.graph_text.specs.declared.version.Version.TheVariants.{One}
use Rattle.graph_base.specs.Graphs.{Graph}
use Rattle.graph_lang.specs.Reads.{or_one, version_of, emptied, without_heading, Steps, Reads, ReadsText, Tells}
use Rattle.graph_lang.specs.Reading.{TellsFault, version_in, version_behind, version_at, line_read, ReadsOn}
use Rattle.graph_lang.specs.declared.fault.GraphFault.{GraphFault}
use Rattle.graph_lang.specs.declared.fault.GraphRefusal.{GraphRefusal}
use Rattle.graph_lang.specs.declared.fault.GraphRefusal.TheVariants as refusal
use Rattle.graph_lang.proofs.Alls.{cut}

-- ---- one line

-- a line whose words spell a declaration
pub declares : (version : Version) (line : List ℕ) (words : List Word) (d : Decl)
    → are_printable line ≡ true → words ≡ words_of_line line → Spells version words d
    → Declares version line d
declares version line words d printable same spells =
    record { printable = printable; spells = rw same at spells }

-- ---- a line, where the version is known or not

-- an ignored line comes to the same in each version
step-ignored : (version other : Version) (n : ℕ) (before : Graph) (line same : List ℕ)
    (outcome : Result Graph GraphFault) → is_ignored line ≡ true → is_ignored same ≡ true
    → Steps version n before line outcome → Steps other n before same outcome
step-ignored version other n before line same outcome e also (inl (is, told)) = inl (also, told)
step-ignored version other n before line same outcome e also (inr (inl (is, none, told))) =
    let clash : true ≡ false = sym e ∙ is in absurd (cc)
step-ignored version other n before line same outcome e also (inr (inr (is, d, declares, told))) =
    let clash : true ≡ false = sym e ∙ is in absurd (cc)

emptied-ignored : (heading : Bool) (line : List ℕ) → is_ignored line ≡ true
    → is_ignored (if heading then [] else line) ≡ true
emptied-ignored true line e = refl
emptied-ignored false line e = e

-- what a line comes to by itself, it comes to as the first of those that are left
first-step : (n : ℕ) (before : Graph) (line : List ℕ) (lines : List (List ℕ))
    (outcome : Result Graph GraphFault) → Steps One n before (emptied line) outcome
    → (ignored : Bool) (heading : Option Version) → is_ignored line ≡ ignored
    → heading_of (words_of_line line) ≡ heading
    → Steps (if ignored then version_of lines else or_one heading) n before
    (if ignored then line else emptied line) outcome
first-step n before line lines outcome step true heading e h =
    step-ignored One (version_of lines) n before (emptied line) line outcome
    (emptied-ignored (is_some (heading_of (words_of_line line))) line e) e step
first-step n before line lines outcome step false (Some version) e h =
    let gone : emptied line ≡ [] = ap (λ o. if is_some o then [] else line) h in
    let none : is_ignored (emptied line) ≡ true = ap is_ignored gone in
    step-ignored One version n before (emptied line) (emptied line) outcome none none step
first-step n before line lines outcome step false None e h = step

-- a line that was read, and those after it
more-lines : (n : ℕ) (before after : Graph) (line : List ℕ) (lines : List (List ℕ))
    (outcome : Result Graph GraphFault) (ignored : Bool) (version : Version)
    → Steps (if ignored then version_of lines else version) n before
    (if ignored then line else emptied line) (Ok after)
    → ReadsOn (if ignored then None else Some version) (n + 1) after lines outcome
    → Reads (if ignored then version_of lines else version) n before
    (if ignored then line ∷ without_heading lines else emptied line ∷ lines) outcome
more-lines n before after line lines outcome true version step rest = inr (after, step, rest)
more-lines n before after line lines outcome false version step rest = inr (after, step, rest)

-- a line that stopped the reading
fault-line : (n : ℕ) (before : Graph) (line : List ℕ) (lines : List (List ℕ)) (f : GraphFault)
    (ignored : Bool) (version : Version)
    → Steps (if ignored then version_of lines else version) n before
    (if ignored then line else emptied line) (Err f)
    → Reads (if ignored then version_of lines else version) n before
    (if ignored then line ∷ without_heading lines else emptied line ∷ lines) (Err f)
fault-line n before line lines f true version step = inl (f, step, refl)
fault-line n before line lines f false version step = inl (f, step, refl)

reads-more : (known : Option Version) (n : ℕ) (before after : Graph) (line : List ℕ)
    (lines : List (List ℕ)) (outcome : Result Graph GraphFault)
    → Steps (version_at known) n before (line_read known line) (Ok after)
    → ReadsOn (version_behind known line) (n + 1) after lines outcome
    → ReadsOn known n before (line ∷ lines) outcome
reads-more (Some version) n before after line lines outcome step rest = inr (after, step, rest)
reads-more None n before after line lines outcome step rest =
    let ignored = is_ignored line in
    let heading = heading_of (words_of_line line) in
    more-lines n before after line lines outcome ignored (or_one heading)
    (first-step n before line lines (Ok after) step ignored heading refl refl) rest

reads-fault : (known : Option Version) (n : ℕ) (before : Graph) (line : List ℕ)
    (lines : List (List ℕ)) (f : GraphFault)
    → Steps (version_at known) n before (line_read known line) (Err f)
    → ReadsOn known n before (line ∷ lines) (Err f)
reads-fault (Some version) n before line lines f step = inl (f, step, refl)
reads-fault None n before line lines f step =
    let ignored = is_ignored line in
    let heading = heading_of (words_of_line line) in
    fault-line n before line lines f ignored (or_one heading)
    (first-step n before line lines (Err f) step ignored heading refl refl)

reads-end : (known : Option Version) (n : ℕ) (before : Graph)
    → ReadsOn known n before [] (Ok before)
reads-end (Some version) n before = refl
reads-end None n before = refl

-- a line that is read in a version is no heading
pub known-version : (known : Option Version) (line : List ℕ) (version : Version)
    → is_ignored line ≡ false → Some version ≡ version_in known (words_of_line line)
    → (version_at known ≡ version) × (line_read known line ≡ line)
    × (Some version ≡ version_behind known line)
known-version (Some other) line version going e =
    let same : version ≡ other = cc in (sym same, refl, e)
known-version None line version going e = at (heading_of (words_of_line line)) e
  where
    at : (heading : Option Version) → Some version ≡ (if is_some heading then None else Some One)
        → (One ≡ version) × ((if is_some heading then [] else line) ≡ line)
        × (Some version ≡ (if is_ignored line then None else Some (or_one heading)))
    at (Some other) none = absurd (cc)
    at None e = let same : version ≡ One = cc in (sym same, refl, rw going e)

-- ---- line after line

-- the lines of these pieces of a text
abbrev pub lines_in : List (Bor (List ℕ)) → List (List ℕ)
lines_in pieces = map without_cr (plain pieces)

pub lines_in-drop : (pieces : List (Bor (List ℕ))) (i : ℕ) (d : Bor (List ℕ)) → i < length pieces
    → lines_in (drop i pieces) ≡ without_cr (get_or pieces i d).now ∷ lines_in (drop (i + 1) pieces)
lines_in-drop pieces i d below = ap lines_in (cut pieces i d below)

-- reading the pieces from i on, as lines from n on, where this version is known, reads the whole
-- text
abbrev pub Continues : List (Bor (List ℕ)) → ℕ → ℕ → Option Version → Graph → Type 0
Continues pieces i n known before = (outcome : Result Graph GraphFault)
    → ReadsOn known n before (lines_in (drop i pieces)) outcome
    → ReadsText (lines_in pieces) outcome

-- a line that was read, and those after it
pub continues-more : (pieces : List (Bor (List ℕ))) (i n : ℕ) (known next : Option Version)
    (before after : Graph) (d : Bor (List ℕ)) → i < length pieces
    → Continues pieces i n known before
    → next ≡ version_behind known (without_cr (get_or pieces i d).now)
    → Steps (version_at known) n before (line_read known (without_cr (get_or pieces i d).now))
    (Ok after) → Continues pieces (i + 1) (n + 1) next after
continues-more pieces i n known next before after d below so_far same step outcome rest =
    let line = without_cr (get_or pieces i d).now in
    let lines = lines_in (drop (i + 1) pieces) in
    so_far outcome (rw (lines_in-drop pieces i d below)
    (reads-more known n before after line lines outcome step (rw same at rest)))

-- a line that stopped the reading
pub continues-fault : (pieces : List (Bor (List ℕ))) (i n : ℕ) (known : Option Version)
    (before : Graph) (d : Bor (List ℕ)) (e : GraphRefusal) → i < length pieces
    → Continues pieces i n known before
    → TellsFault (version_at known) n before
    (line_read known (without_cr (get_or pieces i d).now)) e
    → Tells (lines_in pieces) (Err e)
continues-fault pieces i n known before d (refusal.Fault f) below so_far step =
    let line = without_cr (get_or pieces i d).now in
    so_far (Err f) (rw (lines_in-drop pieces i d below)
    (reads-fault known n before line (lines_in (drop (i + 1) pieces)) f step))
continues-fault pieces i n known before d refusal.OutOfMemory below so_far step = tt

-- no line is left
pub continues-all : (pieces : List (Bor (List ℕ))) (i n : ℕ) (known : Option Version)
    (before : Graph) → length pieces ≤ i → Continues pieces i n known before
    → ReadsText (lines_in pieces) (Ok before)
continues-all pieces i n known before above so_far =
    let P : List (Bor (List ℕ)) → Type 0 = λ pieces.
    ReadsOn known n before (lines_in pieces) (Ok before) in
    so_far (Ok before) (subst P (sym (drop_all i pieces above)) (reads-end known n before))
