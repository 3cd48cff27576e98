-- References as entries of variables: as they are set, and none before a match.
use Rattle.std.proofs.Common.{◌≡◌, ℕ, zero, suc, ◌<◌, ◌≤◌, List, [], ◌∷◌, ◌++◌, Option, Some, None, length, ap, refl}
use Rattle.std.proofs.Common.{sym, ◌∙◌, subst, arith, set, take}
use Rattle.std.specs.Prelude.{replicate}
use Rattle.std.specs.Borrow.{Bor}
use Rattle.std.specs.Option.{option_copied}
use Rattle.std.proofs.lemmas.List.{map-append, map-set, length-map, take_all}
use Rattle.term_core.specs.Tree.{Tree}
use Rattle.substitutions.specs.Substitution.{entry}
use Rattle.substitutions.specs.Updates.{IsSetTo}
use Rattle.substitutions.proofs.Entries.{set_to}
use Rattle.matching.specs.Bindings.{entries_of}

-- no references are no entries
pub none_yet : (count : ℕ) → entries_of (replicate count None) ≡ replicate count None
none_yet zero = refl
none_yet (suc count) = ap (λ (es : List (Option Tree)). None ∷ es) (none_yet count)

pub no_entry : (count n : ℕ) → entry (replicate count None) n ≡ None
no_entry zero n = refl
no_entry (suc count) zero = refl
no_entry (suc count) (suc n) = no_entry count n

-- the entries stay when None is added
entry_padded :
    (entries : List (Option Tree)) (more n : ℕ) →
    entry (entries ++ replicate more None) n ≡ entry entries n
entry_padded [] more n = no_entry more n
entry_padded (e ∷ entries) more zero = refl
entry_padded (e ∷ entries) more (suc n) = entry_padded entries more n

pub grown :
    (items made : List (Option (Bor Tree))) (k more : ℕ) → length items ≤ k →
    made ≡ take k items ++ replicate more None →
    (n : ℕ) → entry (entries_of made) n ≡ entry (entries_of items) n
grown items made k more le is n =
    let added = is ∙ ap (λ xs. xs ++ replicate more None) (take_all k items le) in
    let entries : entries_of made ≡ entries_of items ++ replicate more None =
    ap entries_of added ∙ map-append option_copied items (replicate more None)
    ∙ ap (λ es. entries_of items ++ es) (none_yet more) in
    ap (λ es. entry es n) entries ∙ entry_padded (entries_of items) more n

-- a reference that is written at a place is the entry there
pub set_entry :
    (items : List (Option (Bor Tree))) (old : List (Option Tree)) (n : ℕ) (t : Bor Tree) →
    ((m : ℕ) → entry (entries_of items) m ≡ entry old m) → n < length items →
    IsSetTo old n t.now (entries_of (set items n (Some t)))
set_entry items old n t same lt =
    subst (λ new. IsSetTo old n t.now new) (sym (map-set option_copied items n (Some t)))
    (set_to old (entries_of items) n t.now (omega (arith, lt, length-map items option_copied)) same)
