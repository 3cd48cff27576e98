-- Rules with names of their own: no two share one, and none has a name that `clap` gives.
use Rattle.std.proofs.Common.{zero, suc, ◌&&◌, ◌≡◌, ◌<◌, ap, ℕ, Bool, true, false, not, List, [], ◌∷◌, length, refl}
use Rattle.std.proofs.Common.{sym, arith, true≢false}
use Rattle.std.specs.List.{slice_index_or}
use Rattle.std.specs.Str.{bytes_eq}
use Rattle.std.specs.Prelude.{codes}
use Rattle.std.proofs.lemmas.Slice.Eq.{bytes_eq-Decides}
use Rattle.clap.specs.Walk.{Rule, Text}
use Rattle.clap.proofs.WalkLemmas.{both}
use Rattle.command_line.specs.FlatApps.{is_other, is_in_none, is_own, have_own_names}

not_both : (t : Bool) → not t ≡ true → t ≡ true → ⊥
not_both true n y = true≢false (sym n)
not_both false n y = true≢false (sym y)

pub differs : (a b : Text) → not (bytes_eq a b) ≡ true → a ≡ b → ⊥
differs a b other same = not_both (bytes_eq a b) other ((bytes_eq-Decides a b).1 same)

apart : (id : Text) (r : Rule) → is_other id r ≡ true → (bytes_eq r.id id ≡ true → ⊥) × (bytes_eq id r.id ≡ true → ⊥)
apart id r e =
    let parts = both (not (bytes_eq r.id id)) (not (bytes_eq id r.id)) e in
    (not_both (bytes_eq r.id id) parts.0, not_both (bytes_eq id r.id) parts.1)

other_at : (id : Text) (rs : List Rule) (k : ℕ) (d : Rule) → is_in_none id rs ≡ true → k < length rs
    → (bytes_eq (slice_index_or rs k d).id id ≡ true → ⊥) × (bytes_eq id (slice_index_or rs k d).id ≡ true → ⊥)
other_at id [] k d e lt = absurd (omega arith)
other_at id (r ∷ rs) zero d e lt = apart id r (both (is_other id r) (is_in_none id rs) e).0
other_at id (r ∷ rs) (suc k) d e lt = other_at id rs k d (both (is_other id r) (is_in_none id rs) e).1 (omega arith)

parts_of : (r : Rule) (rs : List Rule) → have_own_names (r ∷ rs) ≡ true →
    (is_own r.id ≡ true) × (is_in_none r.id rs ≡ true) × (have_own_names rs ≡ true)
parts_of r rs e =
    let first = both (is_own r.id) (is_in_none r.id rs && have_own_names rs) e in
    let rest = both (is_in_none r.id rs) (have_own_names rs) first.1 in
    (first.0, rest.0, rest.1)

pub distinct_rules : (rs : List Rule) → have_own_names rs ≡ true → (j k : ℕ) (d e : Rule) → j < length rs →
    k < length rs
    → bytes_eq (slice_index_or rs j e).id (slice_index_or rs k d).id ≡ true → j ≡ k
distinct_rules [] own j k d e lt lt2 same = absurd (omega arith)
distinct_rules (r ∷ rs) own zero zero d e lt lt2 same = refl
distinct_rules (r ∷ rs) own zero (suc k) d e lt lt2 same = absurd
    ((other_at r.id rs k d (parts_of r rs own).1 (omega arith)).1 same)
distinct_rules (r ∷ rs) own (suc j) zero d e lt lt2 same = absurd
    ((other_at r.id rs j e (parts_of r rs own).1 (omega arith)).0 same)
distinct_rules (r ∷ rs) own (suc j) (suc k) d e lt lt2 same =
    ap suc (distinct_rules rs (parts_of r rs own).2 j k d e (omega arith) (omega arith) same)

pub own_at : (rs : List Rule) (k : ℕ) (d : Rule) → have_own_names rs ≡ true → k < length rs →
    is_own (slice_index_or rs k d).id ≡ true
own_at [] k d e lt = absurd (omega arith)
own_at (r ∷ rs) zero d e lt = (parts_of r rs e).0
own_at (r ∷ rs) (suc k) d e lt = own_at rs k d (parts_of r rs e).2 (omega arith)

pub own_parts : (id : Text) → is_own id ≡ true → (id ≡ [] → ⊥) × (id ≡ codes "help" → ⊥) × (id ≡ codes "version" → ⊥)
own_parts id e =
    let first = both (not (bytes_eq id []))
    (not (bytes_eq id (codes "help")) && not (bytes_eq id (codes "version"))) e in
    let rest = both (not (bytes_eq id (codes "help"))) (not (bytes_eq id (codes "version"))) first.1 in
    (differs id [] first.0, differs id (codes "help") rest.0, differs id (codes "version") rest.1)
