-- What a task has taken of the first wait of its next steps.
use Rattle.std.proofs.Common.{◌≡◌, ◌≢◌, ◌⊎◌, inl, inr, ℕ, ◌+◌, ◌≤◌, ℤ, List, [], ◌∷◌, ◌++◌, length, get_or, map, refl, sym, ap, subst, ◌∙◌, arith}
use Rattle.phase_accum.specs.declared.outcome.Outcome.{Outcome}
use Rattle.stream_filters.specs.Range.{ranged}
use Rattle.graph_base.specs.declared.line.Kind.{Kind}
use Rattle.graph_base.specs.declared.line.Kind.TheVariants.{Source, Fir, Split, Decimate, Join, Peer, Sink}
use Rattle.graph_base.specs.Graphs.{Task}
use Rattle.stream_lists.specs.Lists.{number}
use Rattle.graph_runs.specs.Moves.{IsBlock}
use Rattle.graph_runs.specs.Steps.{HasFilter, owed_of}
use Rattle.graph_runs.specs.TaskPlaces as places
use Rattle.graph_runs.specs.TaskPlaces.{owed_after_wait, outputs_of_block}
use Rattle.graph_runs.specs.declared.owed.Owed.TheVariants.{Nothing}
use Rattle.stream_job.specs.Filtering.{HasFiltered}
use Rattle.stream_job.specs.Places.{StateHasTaken, owed_in}
use Rattle.stream_job.specs.declared.task_state.TaskState.{TaskState}

-- what stays of a state whose task takes so many numbers
pub record StaysBeside (many : ℕ) (old new : TaskState) : Type 0 where
  pub numbers : new.numbers ≡ old.numbers
  pub left : new.left ≡ old.left
  pub sink : new.sink ≡ old.sink
  pub begun : new.begun ≡ old.begun + many
  pub most : new.most ≡ old.most
  pub room : new.made.cap ≡ old.made.cap

-- ---- a filter

pub took_values : (task : Task) (xs : List ℤ) (old new : TaskState) → task.kind ≡ Fir
    → 1 ≤ length xs → new.owed ≡ Nothing → old.made.items ≡ []
    → HasFiltered task xs old.filter new.filter old.made.items new.made.items
    → StaysBeside (length xs) old new → StateHasTaken task xs old new
took_values task xs old new fir some nothing none made stays = record {
  numbers = stays.numbers;
  left = stays.left;
  sink = stays.sink;
  begun = stays.begun;
  most = stays.most;
  room = stays.room;
  owed = λ taken has.
      ap (owed_in new.owed)
      (made.answers taken has
      ∙ ap (λ l. l ++ map ranged (outputs_of_block task.taps task.form taken xs)) none)
      ∙ some_owed taken xs some ∙ rw fir refl;
  made_by = λ is. nothing;
  made_none = λ other. absurd (other fir);
  filter = made.filter;
}
  where
    some_owed : (taken ys : List ℤ) → 1 ≤ length ys
        → owed_in new.owed (map ranged (outputs_of_block task.taps task.form taken ys))
        ≡ places.values 0 (map ranged (outputs_of_block task.taps task.form taken ys))
    some_owed taken [] le = absurd (omega arith)
    some_owed taken (y ∷ ys) le = refl

-- ---- the others

took_so : (task : Task) (xs : List ℤ) (old new : TaskState) → task.kind ≢ Fir
    → new.made.items ≡ []
    → ((taken : List ℤ) → owed_of new.owed ≡ owed_after_wait task old.begun taken xs)
    → StaysBeside (length xs) old new → StateHasTaken task xs old new
took_so task xs old new other none owes stays = record {
  numbers = stays.numbers;
  left = stays.left;
  sink = stays.sink;
  begun = stays.begun;
  most = stays.most;
  room = stays.room;
  owed = λ taken has. ap (owed_in new.owed) none ∙ owes taken;
  made_by = λ is. absurd (other is);
  made_none = λ is. none;
  filter = λ taken has is. absurd (other is);
}

-- a source, which takes none, and a sink owe nothing
pub took_freely : (task : Task) (xs : List ℤ) (old new : TaskState)
    → (task.kind ≡ Source) ⊎ (task.kind ≡ Sink) → new.owed ≡ Nothing → new.made.items ≡ []
    → StaysBeside (length xs) old new → StateHasTaken task xs old new
took_freely task xs old new (inl source) nothing none stays =
    took_so task xs old new (λ fir. (let wrong : Source ≡ Fir = sym source ∙ fir in cc)) none
    (λ taken. ap owed_of nothing ∙ rw source refl) stays
took_freely task xs old new (inr sink) nothing none stays =
    took_so task xs old new (λ fir. (let wrong : Sink ≡ Fir = sym sink ∙ fir in cc)) none
    (λ taken. ap owed_of nothing ∙ rw sink refl) stays

-- a splitter, a decimator, a joiner and a peer, whose block is one step
abbrev pub IsSingle : Kind → Type 0
IsSingle kind = (kind ≡ Split) ⊎ ((kind ≡ Decimate) ⊎ ((kind ≡ Join) ⊎ (kind ≡ Peer)))

pub took_one : (task : Task) (os : List Outcome) (d : Outcome) (old new : TaskState)
    → IsSingle task.kind → IsBlock task.kind (length os) → new.made.items ≡ []
    → ((taken : List ℤ) → HasFilter task old.filter taken
    → owed_of new.owed ≡ owed_after_wait task old.begun taken (number (get_or os 0 d) ∷ []))
    → StaysBeside (length (map number os)) old new → StateHasTaken task (map number os) old new
took_one task os d old new kinds block none owes stays =
    took_so task (map number os) old new (other kinds) none
    (λ taken. owes taken (λ is. absurd (other kinds is))
    ∙ ap (λ l. owed_after_wait task old.begun taken (map number l))
    (sym (one_of os (single kinds)))) stays
  where
    other : IsSingle task.kind → task.kind ≡ Fir → ⊥
    other (inl e) fir = (let wrong : Split ≡ Fir = sym e ∙ fir in cc)
    other (inr (inl e)) fir = (let wrong : Decimate ≡ Fir = sym e ∙ fir in cc)
    other (inr (inr (inl e))) fir = (let wrong : Join ≡ Fir = sym e ∙ fir in cc)
    other (inr (inr (inr e))) fir = (let wrong : Peer ≡ Fir = sym e ∙ fir in cc)

    single : IsSingle task.kind → length os ≡ 1
    single (inl e) = subst (λ k. IsBlock k (length os)) e block
    single (inr (inl e)) = subst (λ k. IsBlock k (length os)) e block
    single (inr (inr (inl e))) = subst (λ k. IsBlock k (length os)) e block
    single (inr (inr (inr e))) = subst (λ k. IsBlock k (length os)) e block

    one_of : (ls : List Outcome) → length ls ≡ 1 → ls ≡ get_or ls 0 d ∷ []
    one_of [] e = absurd (let no : 0 ≡ 1 = e in omega arith)
    one_of (o ∷ []) e = refl
    one_of (o ∷ p ∷ ls) e = absurd (omega arith)
