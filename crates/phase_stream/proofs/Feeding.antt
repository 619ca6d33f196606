-- What came of the files, once more of one was fed.
use Rattle.std.proofs.Common.{◌≡◌, ◌≢◌, ◌<◌, ◌++◌, ℕ, ℤ, Bool, true, false, eqb, List, [], Option, length, get_or, take, refl, sym, ap, subst, ◌∙◌, rules, append-nil, append_assoc, get_or-set_same, get_or-set_other, take-append-drop, suc, zero}
use Rattle.std.specs.Prelude.{drop}
use Rattle.std.proofs.lemmas.Bool.{eq-eqb, eqb-true}
use Rattle.graph_commands.specs.FileJobs.{Known}
use Rattle.stream_job.specs.Streams.{StreamState, fed, has_ended}
use Rattle.graph_base.specs.Graphs.{file_at, sources_of}
use Rattle.phase_stream.specs.Sessions.{AreCome}
use Rattle.phase_stream.specs.Sources.{HasComeOf, HasFront}

-- fewer samples came, too
fewer_came : (known : Option (List ℕ)) (values xs : List ℤ) (n : ℕ) → HasFront known (values ++ xs)
    → HasFront known (values ++ take n xs)
fewer_came known values xs n has = record {
  text = has.text;
  front = has.front;
  begins = λ more all are.
      let is = has.begins more all are in (
        drop n xs ++ is.0,
        sym (append_assoc (values ++ take n xs) (drop n xs) is.0)
            ∙ ap (λ l. l ++ is.0) (append_assoc values (take n xs) (drop n xs)
            ∙ ap (λ l. values ++ l) (take-append-drop n xs)) ∙ is.1,
      );
}

-- the samples of a source that was fed, and of the others
pub fed_here : (s : List (List ℤ)) (k : ℕ) (xs : List ℤ) → k < length s
    → get_or (fed s k xs) k [] ≡ get_or s k [] ++ xs
fed_here s k xs lt = get_or-set_same s k (get_or s k [] ++ xs) [] lt

pub fed_there : (s : List (List ℤ)) (k j : ℕ) (xs : List ℤ) → j ≢ k
    → get_or (fed s k xs) j [] ≡ get_or s j []
fed_there s k j xs apart = get_or-set_other s k j (get_or s k [] ++ xs) [] apart

-- where a source has ended, nothing was fed, and else the file goes on so
pub came_fed : (held : Known) (old new : StreamState) (s : List (List ℤ)) (k took : ℕ) (xs : List ℤ)
    → AreCome held old s → k < length s → new.job ≡ old.job
    → ((j : ℕ) → has_ended new.inputs j ≡ has_ended old.inputs j)
    → k < sources_of old.job.graph
    → (has_ended old.inputs k ≡ true → took ≡ 0)
    → (took ≢ 0 → HasFront (held (file_at old.job.graph k)) (get_or s k [] ++ xs))
    → AreCome held new (fed s k (take took xs))
came_fed held old new s k took xs came lt job same there over goes j within =
    by (eqb j k) refl
  where
    now : (values : List ℤ) → HasComeOf (has_ended old.inputs j) (held (file_at old.job.graph j)) values
        → get_or (fed s k (take took xs)) j [] ≡ values
        → HasComeOf (has_ended new.inputs j) (held (file_at new.job.graph j))
        (get_or (fed s k (take took xs)) j [])
    now values has is = rw (same j, job, is) has

    within_old : j < sources_of old.job.graph
    within_old = subst (λ (i : _). j < sources_of i.graph) job within

    here : (n : ℕ) (b : Bool) → took ≡ n → has_ended old.inputs k ≡ b
        → HasComeOf (has_ended old.inputs k) (held (file_at old.job.graph k))
        (get_or s k [] ++ take took xs)
    here zero b none e =
        subst (HasComeOf (has_ended old.inputs k) (held (file_at old.job.graph k)))
        (sym (ap (λ n. get_or s k [] ++ take n xs) none ∙ append-nil (get_or s k [])))
        (came k there)
    here (suc n) true some e =
        let none : suc n ≡ 0 = sym some ∙ over e in
        search rules
    here (suc n) false some e =
        subst (λ b. HasComeOf b (held (file_at old.job.graph k)) (get_or s k [] ++ take took xs))
        (sym e) (fewer_came (held (file_at old.job.graph k)) (get_or s k []) xs took
        (goes (λ z. let none : suc n ≡ 0 = sym some ∙ z in search rules)))

    by : (b : Bool) → eqb j k ≡ b
        → HasComeOf (has_ended new.inputs j) (held (file_at new.job.graph j))
        (get_or (fed s k (take took xs)) j [])
    by true e =
        let is : j ≡ k = eqb-true j k e in
        now (get_or s k [] ++ take took xs)
        (subst (λ i. HasComeOf (has_ended old.inputs i) (held (file_at old.job.graph i))
        (get_or s k [] ++ take took xs)) (sym is) (here took (has_ended old.inputs k) refl refl))
        (ap (λ i. get_or (fed s k (take took xs)) i []) is ∙ fed_here s k (take took xs) lt)
    by false e =
        now (get_or s j []) (came j within_old)
        (fed_there s k j (take took xs) (λ is. let yes : true ≡ false = sym (eq-eqb j k is) ∙ e in search rules))
