-- A new key of a table goes last.
use Rattle.std.proofs.Common.{◌≡◌, ℕ, List, [], ◌∷◌, ◌++◌, Bool, true, false, cond, Some, None, refl, ap, ◌∙◌}
use Rattle.std.specs.Global.{Vec}
use Rattle.std.specs.Option.{is_some}
use Rattle.std.specs.Map.{lookup}
use Rattle.std.specs.Str.{bytes_eq}
use Rattle.std.proofs.lemmas.Slice.Eq.{bytes_eq-Decides}
use Rattle.std.proofs.lemmas.List.{map-append}
use Rattle.indexmap.specs.IndexMap.{insert_entry}
use Rattle.spec_core.specs.declared.records.SymInfo.{SymInfo}
use Rattle.spec_core.specs.Pairs.{pairs_of}
use Rattle.spec_core.specs.Declarations.{IsNew}

not_equal : (m n : List ℕ) → (m ≡ n → ⊥) → bytes_eq m n ≡ false
not_equal m n h = by (bytes_eq m n) (bytes_eq-Decides m n).0
  where
    by : (b : Bool) → (b ≡ true → m ≡ n) → b ≡ false
    by true d = absurd (h (d refl))
    by false d = refl

pub new_absent : (n : List ℕ) (es : List (Vec ℕ × SymInfo)) → IsNew n (pairs_of es) →
    lookup (λ (k : Vec ℕ). bytes_eq n k.items) es ≡ None
new_absent n [] h = refl
new_absent n (e ∷ es) h = rw (not_equal n e.0.items h.0) (new_absent n es h.1)

pub absent_new : (n : List ℕ) (es : List (Vec ℕ × SymInfo)) →
    is_some (lookup (λ (k : Vec ℕ). bytes_eq n k.items) es) ≡ false → IsNew n (pairs_of es)
absent_new n [] h = tt
absent_new n (e ∷ es) h = by (bytes_eq n e.0.items) (bytes_eq-Decides n e.0.items).1 h (λ q. absent_new n es q)
  where
    by : (b : Bool) → (n ≡ e.0.items → b ≡ true) →
        is_some (cond b (Some e.1) (lookup (λ (k : Vec ℕ). bytes_eq n k.items) es)) ≡ false →
        (is_some (lookup (λ (k : Vec ℕ). bytes_eq n k.items) es) ≡ false → IsNew n (pairs_of es)) →
        (n ≡ e.0.items → ⊥) × IsNew n (pairs_of es)
    by true d q r = absurd (let p : true ≡ false = q in cc)
    by false d q r = (λ x. absurd (let p : false ≡ true = d x in cc), r q)

pub goes_last : (key : Vec ℕ) (info : SymInfo) (es : List (Vec ℕ × SymInfo)) → IsNew key.items (pairs_of es) →
    insert_entry (λ (a b : Vec ℕ). bytes_eq a.items b.items) es key info ≡ es ++ (key, info) ∷ []
goes_last key info [] h = refl
goes_last key info (e ∷ es) h = rw (not_equal key.items e.0.items h.0) (ap (λ x. e ∷ x) (goes_last key info es h.1))

pub pairs_last : (key : Vec ℕ) (info : SymInfo) (es fs : List (Vec ℕ × SymInfo)) → fs ≡ es ++ (key, info) ∷ [] →
    pairs_of fs ≡ pairs_of es ++ (key.items, info) ∷ []
pairs_last key info es fs e = ap (λ x. pairs_of x) e ∙ map-append (λ (x : Vec ℕ × SymInfo). (x.0.items, x.1)) es
    ((key, info) ∷ [])
