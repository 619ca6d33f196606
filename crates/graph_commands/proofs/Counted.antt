-- The samples of the first sources, source by source.
use Rattle.std.proofs.Common.{◌≡◌, ℕ, ℤ, List, [], ◌∷◌, ◌++◌, length, sym, subst, Vec}
use Rattle.std.specs.Global.{Global}
use Rattle.std.proofs.lemmas.List.{length-map, map_push}
use Rattle.graph_base.specs.Graphs.{Graph, file_at}
use Rattle.graph_lang.proofs.Grown.{each-push}
use Rattle.graph_lang.specs.Samples.{AreSamplesOf}
use Rattle.stream_lists.specs.JobFields.{items_of}
use Rattle.graph_commands.specs.FileJobs.{AreFirstSamples, Known}

-- one more source
pub samples-push : (known : Known) (graph : Graph) (samples : List (List ℤ)) (values : List ℤ)
    (source : ℕ) → length samples ≡ source → AreFirstSamples known graph samples
    → AreSamplesOf (known (file_at graph source)) values
    → AreFirstSamples known graph (samples ++ values ∷ [])
samples-push known graph samples values source number before here =
    let Here : ℕ → Type 0 = λ s. AreSamplesOf (known (file_at graph s)) values in
    each-push samples values [] (λ s list. AreSamplesOf (known (file_at graph s)) list) before
    (subst Here (sym number) here)

-- what is known of each file is all that is known
pub known-same : (one other : Known) → ((name : List ℕ) → one name ≡ other name) → one ≡ other
known-same one other each = λ i. λ name. each name i

-- ---- lists as a `Vec` keeps them

pub length-items_of : (lists : List (Vec ℤ Global)) → length (items_of lists) ≡ length lists
length-items_of lists = length-map lists (λ list. list.items)

pub items_of-push : (lists : List (Vec ℤ Global)) (list : Vec ℤ Global)
    → items_of (lists ++ list ∷ []) ≡ items_of lists ++ list.items ∷ []
items_of-push lists list = map_push (λ list. list.items) lists list
