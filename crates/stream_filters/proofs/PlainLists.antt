-- Lists of numbers that come of samples alone.
use Rattle.std.proofs.Common.{◌≡◌, ℕ, suc, ◌+◌, ◌<◌, List, [], ◌∷◌, ◌++◌, length, get_or, map, take, ℤ, refl, sym, ap, ◌∙◌, zero-add, arith}
use Rattle.std.specs.List.{range_with_len}
use Rattle.std.proofs.lemmas.List.{append-nil, append_assoc, take_all, take-append-le, length_push}
use Rattle.std.proofs.lemmas.List.FromFn.{length-map-range_with_len, get_or-map-range_with_len, map-range_with_len_more}
use Rattle.stream_filters.specs.declared.form.Form.{Form}
use Rattle.stream_filters.specs.Filter.{IsPlainForm, outputs}
use Rattle.stream_filters.specs.Weighing.{weighed, weighed_after, weighed_at, weighed_behind}
use Rattle.stream_filters.proofs.Outputs.{map-range_with_len_same, plain-behind}

-- the output at an earlier sample does not change
weighed_at-push : (taps : List ℤ) (form : Form) (samples : List ℤ) (x : ℤ) (n : ℕ) → n < length samples
    → weighed_at taps form (samples ++ x ∷ []) n ≡ weighed_at taps form samples n
weighed_at-push taps form samples x n lt =
    ap (weighed_after taps form) (take-append-le (suc n) samples (x ∷ []) lt)

pub weighed-push : (taps : List ℤ) (form : Form) (samples : List ℤ) (x : ℤ)
    → weighed taps form (samples ++ x ∷ []) ≡ weighed taps form samples ++ weighed_after taps form (samples ++ x ∷ []) ∷ []
weighed-push taps form samples x =
    let longer = samples ++ x ∷ [] in
    let n = length samples in
    let whole : take (suc n) longer ≡ longer = take_all (suc n) longer (omega (arith, length_push samples x)) in
    ap (λ m. map (weighed_at taps form longer) (range_with_len 0 m)) (length_push samples x)
    ∙ (map-range_with_len_more (weighed_at taps form longer) 0 n n (zero-add n)
    ∙ (ap (λ ys. ys ++ weighed_at taps form longer n ∷ [])
    (map-range_with_len_same _ _ n (weighed_at-push taps form samples x))
    ∙ ap (λ zs. weighed taps form samples ++ weighed_after taps form zs ∷ []) whole))

-- the weighed of a block behind those of what was taken
pub weighed-block : (taps : List ℤ) (form : Form) (taken xs : List ℤ)
    → weighed taps form (taken ++ xs)
    ≡ weighed taps form taken ++ weighed_behind taps form taken xs
weighed-block taps form taken [] =
    ap (λ l. weighed taps form l) (append-nil taken)
    ∙ sym (append-nil (weighed taps form taken))
weighed-block taps form taken (x ∷ xs) =
    let next = taken ++ x ∷ [] in
    ap (λ l. weighed taps form l) (sym (append_assoc taken (x ∷ []) xs))
    ∙ weighed-block taps form next xs
    ∙ ap (λ l. l ++ weighed_behind taps form next xs) (weighed-push taps form taken x)
    ∙ append_assoc (weighed taps form taken) (weighed_after taps form next ∷ [])
    (weighed_behind taps form next xs)

pub weighed-entry : (taps : List ℤ) (form : Form) (samples : List ℤ) (n : ℕ) (default : ℤ)
    → n < length samples
    → get_or (weighed taps form samples) n default ≡ weighed_after taps form (take (n + 1) samples)
weighed-entry taps form samples n default lt =
    let next : suc n ≡ n + 1 = omega arith in
    get_or-map-range_with_len (weighed_at taps form samples) 0 (length samples) n n default lt (zero-add n)
    ∙ ap (λ m. weighed_after taps form (take m samples)) next

pub weighed-length : (taps : List ℤ) (form : Form) (samples : List ℤ)
    → length (weighed taps form samples) ≡ length samples
weighed-length taps form samples =
    length-map-range_with_len (weighed_at taps form samples) 0 (length samples)

pub length-weighed_behind : (taps : List ℤ) (form : Form) (taken xs : List ℤ)
    → length (weighed_behind taps form taken xs) ≡ length xs
length-weighed_behind taps form taken [] = refl
length-weighed_behind taps form taken (x ∷ xs) =
    ap suc (length-weighed_behind taps form (taken ++ x ∷ []) xs)

-- the outputs of a plain filter
pub plain-list : (taps : List ℤ) (form : Form) (samples : List ℤ) → IsPlainForm form
    → weighed taps form samples ≡ outputs taps form samples
plain-list taps form samples plain =
    weighed-block taps form [] samples ∙ sym (plain-behind taps form [] [] samples plain)
