-- The sorts that the places of a pattern's variables ask for are the sorts of the variables.
use Rattle.std.proofs.Common.{length, ◌≡◌, ℕ, List, [], ◌∷◌, ◌++◌, map, get_or, refl, ap, sym, ◌∙◌}
use Rattle.std.proofs.lemmas.List.{map-append, length-map}
use Rattle.std.proofs.lemmas.Option.{get_or_from_slice_get}
use Rattle.term_core.specs.Tree.{Tree, Trees, var, app, none, some}
use Rattle.term_core.specs.Variables.{occurrences, occurrences_all}
use Rattle.term_core.specs.declared.ids.SortId.{SortId}
use Rattle.spec_core.specs.Declarations.{bool_sort}
use Rattle.spec_core.specs.Sig.{Sig}
use Rattle.spec_core.specs.Sorts.{Sorted, SortedAll}
use Rattle.clause_core.specs.Patterns.{IsPatternOf}
use Rattle.test_sets.specs.Children.{args_of, sorts_in, all_sorts_in}
use Rattle.test_sets.proofs.Variables.{all_items}

-- the sort of a variable, where `Bool` stands for none
abbrev sort_of : List SortId → ℕ → SortId
sort_of ctx n = get_or ctx n bool_sort

module _ (sig : Sig) (ctx : List SortId) where
  mutual
    occurring_sorts : (t : Tree) (s : SortId) → Sorted sig ctx t s →
        sorts_in sig s t ≡ map (sort_of ctx) (occurrences t)
    occurring_sorts (var n) s p = ap (λ (r : SortId). r ∷ []) (sym (get_or_from_slice_get ctx n s bool_sort p))
    occurring_sorts (app f ts) s p = ap (λ i. all_sorts_in sig (args_of i) ts) p.1 ∙ all_occurring_sorts ts p.0.args p.3

    all_occurring_sorts : (ts : Trees) (ss : List SortId) → SortedAll sig ctx ts ss →
        all_sorts_in sig ss ts ≡ map (sort_of ctx) (occurrences_all ts)
    all_occurring_sorts none ss p = refl
    all_occurring_sorts (some t ts) [] p = absurd p
    all_occurring_sorts (some t ts) (s ∷ ss) p =
        let first = occurring_sorts t s p.0 in
        let rest = all_occurring_sorts ts ss p.1 in
        (λ i. first i ++ rest i) ∙ sym (map-append (sort_of ctx) (occurrences t) (occurrences_all ts))

pub pattern_sorts : (sig : Sig) (s : SortId) (ctx : List SortId) (p : Tree) → IsPatternOf sig s ctx p →
    sorts_in sig s p ≡ ctx
pattern_sorts sig s ctx p is = occurring_sorts sig ctx p s is.sorted
    ∙ ap (λ ns. map (sort_of ctx) ns) is.numbered ∙ all_items (λ n. bool_sort) ctx

-- as many as there are occurrences
pub occurring_count : (sig : Sig) (ctx : List SortId) (t : Tree) (s : SortId) → Sorted sig ctx t s →
    length (sorts_in sig s t) ≡ length (occurrences t)
occurring_count sig ctx t s p = ap (λ (ss : List SortId). length ss) (occurring_sorts sig ctx t s p)
    ∙ length-map (occurrences t) (sort_of ctx)
