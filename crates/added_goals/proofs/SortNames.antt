-- The names of a signature's sorts, asked for one by one.
use Rattle.std.proofs.Common.{◌≡◌, ℕ, suc, ◌<◌, List, [], ◌∷◌, Some, None, refl, ap, sym, ◌∙◌, subst}
use Rattle.std.proofs.Common.{◌+◌, position, length, take, get_or, add-one}
use Rattle.std.specs.Prelude.{Option, option_map, slice_get, codes}
use Rattle.std.proofs.lemmas.Option.{slice_get-map, slice_get_read}
use Rattle.std.specs.Str.{bytes_eq}
use Rattle.term_core.specs.declared.ids.SortId.{SortId}
use Rattle.spec_core.specs.Sig.{Sig}
use Rattle.spec_core.specs.Declarations.{IsDeclared}
use Rattle.spec_grammar.specs.declared.raw.RawSort.{RawSort}
use Rattle.sort_check.specs.Signatures.{sort_names}
use Rattle.added_goals.proofs.Entries.{take_next}
use Rattle.sort_check.proofs.Names.{place_is, no_place, new_not, one_place, sorts_distinct}

-- the sort that is found by a name has this name
pub found_sort : (sig : Sig) (name : List ℕ) (sort : SortId) →
    ◌≡◌ {A = Option ℕ} (Some sort.0) (position (bytes_eq name) sig.sorts) →
    slice_get sig.sorts sort.0 ≡ Some name
found_sort sig name sort at = place_is name sig.sorts sort.0 (sym at)

-- no other sort has it
pub only_sort : (sig : Sig) → IsDeclared sig → (name : List ℕ) (sort number : ℕ) →
    slice_get sig.sorts sort ≡ Some name → slice_get sig.sorts number ≡ Some name → sort ≡ number
only_sort sig declared name sort number at there =
    one_place [] sig.sorts sort number name (sorts_distinct sig declared) at there

-- no sort has a name that isn't found
pub no_sort : (sig : Sig) (name : List ℕ) (number : ℕ) →
    ◌≡◌ {A = Option ℕ} None (position (bytes_eq name) sig.sorts) →
    slice_get sig.sorts number ≡ Some name → ⊥
no_sort sig name number none there = new_not name sig.sorts number (no_place name sig.sorts (sym none)) there

-- the name of a declared sort, behind `Bool`
pub declared_at : (sorts : List RawSort) (number : ℕ) (sort : RawSort) (name : List ℕ) → number < length sorts →
    sort ≡ get_or sorts number sort → name ≡ sort.head.name →
    slice_get (codes "Bool" ∷ sort_names sorts) (number + 1) ≡ Some name
declared_at sorts number sort name within at is =
    let there : slice_get sorts number ≡ Some sort = slice_get_read sorts (length sorts) number sort refl within at in
    rw add-one (slice_get-map (λ (s : RawSort). s.head.name) sorts number
    ∙ ap (λ found. option_map (λ (s : RawSort). s.head.name) found) there ∙ ap (λ n. Some n) (sym is))

-- one sort more
pub one_sort_more : (sorts : List (List ℕ)) (raws : List RawSort) (number : ℕ) (name : List ℕ) →
    take (number + 1) sorts ≡ take (number + 1) (codes "Bool" ∷ sort_names raws) →
    slice_get sorts (number + 1) ≡ Some name →
    slice_get (codes "Bool" ∷ sort_names raws) (number + 1) ≡ Some name →
    take (number + 1 + 1) sorts ≡ take (number + 1 + 1) (codes "Bool" ∷ sort_names raws)
one_sort_more sorts raws number name same at there =
    let next : take (suc (number + 1)) sorts ≡ take (suc (number + 1)) (codes "Bool" ∷ sort_names raws) =
    take_next sorts (codes "Bool" ∷ sort_names raws) (number + 1) same (at ∙ sym there) in
    subst (λ n. take n sorts ≡ take n (codes "Bool" ∷ sort_names raws)) (sym (add-one (number + 1))) next
