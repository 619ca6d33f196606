-- Samples, and the lists that they are cut into.
use Rattle.std.proofs.Common.{◌≡◌, ℕ, ◌+◌, ◌<◌, List, [], ◌∷◌, ◌++◌, ℤ, length, take, drop, get_or, w64, SFits, of_z, sym, ap, subst, ◌∙◌, arith, append_assoc, Vec}
use Rattle.std.proofs.lemmas.Int.{ints}
use Rattle.std.proofs.lemmas.List.{drop_more, map_push, take_more}
use Rattle.std.proofs.lemmas.List.Sums.{sum_by-drop_more}
use Rattle.std.specs.Global.{Global}
use Rattle.std.specs.List.{sum}
use Rattle.stream_filters.specs.Range.{lowest}
use Rattle.phase_accum.specs.Sends.{AreSends, IsSend}
use Rattle.stream_lists.specs.JobFields.{items_of}
use Rattle.phase_accum.proofs.Parts.{AreSends-append}
use Rattle.phase_c.specs.Lent.{cut}

-- the one with these bits is the lowest
pub is_lowest : (v : ℤ) → SFits w64 v → of_z w64 v ≡ 9223372036854775808 → v ≡ lowest
is_lowest v fits same = omega (arith, ints)

-- one more can be sent
pub sends_more : (values : List ℤ) (i : ℕ) (d : ℤ) → i < length values
    → AreSends (take i values) → IsSend (get_or values i d) → AreSends (take (i + 1) values)
sends_more values i d within are is =
    subst AreSends (sym (take_more values i d within))
    (AreSends-append (take i values) (get_or values i d ∷ []) are (is, tt))

-- one more list, of the numbers that come next
pub cut_more : (lists : List (Vec ℤ Global)) (list : Vec ℤ Global) (counts : List ℕ)
    (i d : ℕ) (rest : List ℤ) (whole : List (List ℤ)) → i < length counts
    → list.items ≡ take (get_or counts i d) rest
    → items_of lists ++ cut (drop i counts) rest ≡ whole
    → items_of (lists ++ list ∷ []) ++ cut (drop (i + 1) counts) (drop (get_or counts i d) rest)
    ≡ whole
cut_more lists list counts i d rest whole less is before =
    let behind = cut (drop (i + 1) counts) (drop (get_or counts i d) rest) in
    ap (λ xs. xs ++ behind) (map_push (λ list. list.items) lists list)
    ∙ (append_assoc (items_of lists) (list.items ∷ []) behind
    ∙ (ap (λ xs. items_of lists ++ xs ∷ behind) is
    ∙ (ap (λ ns. items_of lists ++ cut ns rest) (sym (drop_more counts i d less)) ∙ before)))

-- the counts that are left make the next one and those behind it
pub sum_left : (counts : List ℕ) (i d : ℕ) → i < length counts
    → sum (drop i counts) ≡ get_or counts i d + sum (drop (i + 1) counts)
sum_left counts i d less = sum_by-drop_more (λ n. n) counts i d less
