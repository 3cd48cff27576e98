-- The constructors of a sort from a number on.
use Rattle.std.proofs.Common.{◌≡◌, ◌≢◌, ℕ, zero, suc, ◌+◌, ◌-◌, ◌<◌, ◌≤◌, List, [], ◌∷◌, ◌++◌, true, false, cond, eqb}
use Rattle.std.proofs.Common.{Some, None, map, refl, ap, ◌∙◌, arith, drop, append_assoc}
use Rattle.std.specs.Prelude.{slice_get, option_map}
use Rattle.std.proofs.lemmas.Bool.Decides.{nat_tests}
use Rattle.std.proofs.lemmas.List.{map-append}
use Rattle.term_core.specs.declared.ids.SortId.{SortId}
use Rattle.term_core.specs.declared.ids.SymId.{SymId}
use Rattle.term_core.proofs.Items.{drop_here}
use Rattle.spec_core.specs.declared.records.SymInfo.{SymInfo}
use Rattle.spec_core.specs.Sig.{Sig, info_of}
use Rattle.spec_core.specs.Order.{constructors_from, symbol_number}

pub info_parts : (es : List (List ℕ × SymInfo)) (f : ℕ) (i : SymInfo) →
    option_map (λ (e : List ℕ × SymInfo). e.1) (slice_get es f) ≡ Some i → (e : List ℕ × SymInfo)
    × (slice_get es f ≡ Some e) × (e.1 ≡ i)
info_parts [] f i h = absurd (let q : None ≡ Some i = h in cc)
info_parts (x ∷ es) zero i h =
    let q : Some (x.1) ≡ Some i = h in
    (x, refl, cc)
info_parts (x ∷ es) (suc f) i h = info_parts es f i h

from_step : (es : List (List ℕ × SymInfo)) (f n : ℕ) (s : SortId) (e : List ℕ × SymInfo) →
    slice_get es f ≡ Some e → f < n → constructors_from f (n - f) s (drop f es) ≡ cond (eqb e.1.result.0 s.0)
    ((f, e.1.args) ∷ constructors_from (f + 1) (n - (f + 1)) s (drop (f + 1) es))
    (constructors_from (f + 1) (n - (f + 1)) s (drop (f + 1) es))
from_step es f n s e at h =
    let k : n - f ≡ suc (n - (f + 1)) = omega arith in
    let d = drop_here es f e at in
    let g : suc f ≡ f + 1 = omega arith in
    rw (k, d, g) refl

pub constructor_here : (sig : Sig) (f n : ℕ) (s : SortId) (i : SymInfo) → info_of sig f ≡ Some i → f < n →
    i.result.0 ≡ s.0 → constructors_from f (n - f) s (drop f sig.table) ≡ (f, i.args) ∷ constructors_from
    (f + 1) (n - (f + 1)) s (drop (f + 1) sig.table)
constructor_here sig f n s i at h q =
    let p = info_parts sig.table f i at in
    let r : p.0.1.result.0 ≡ s.0 = ap (λ (x : SymInfo). x.result.0) p.2 ∙ q in
    let t : eqb p.0.1.result.0 s.0 ≡ true = grind (arith, nat_tests) in
    from_step sig.table f n s p.0 p.1 h
    ∙ rw t (ap (λ (x : SymInfo). (f, x.args) ∷ constructors_from (f + 1) (n - (f + 1)) s
    (drop (f + 1) sig.table)) p.2)

pub constructor_other : (sig : Sig) (f n : ℕ) (s : SortId) (i : SymInfo) → info_of sig f ≡ Some i → f < n →
    i.result.0 ≢ s.0 → constructors_from f (n - f) s (drop f sig.table) ≡ constructors_from (f + 1)
    (n - (f + 1)) s (drop (f + 1) sig.table)
constructor_other sig f n s i at h q =
    let p = info_parts sig.table f i at in
    let a : p.0.1.result.0 ≡ i.result.0 = ap (λ (x : SymInfo). x.result.0) p.2 in
    let t : eqb p.0.1.result.0 s.0 ≡ false = grind (arith, nat_tests) in
    from_step sig.table f n s p.0 p.1 h ∙ rw t refl

-- the numbers of the sort's constructors from f on
abbrev pub numbers_from : Sig → ℕ → SortId → List ℕ
numbers_from sig f s = map (λ (c : ℕ × List SortId). c.0)
    (constructors_from f (sig.constructors - f) s (drop f sig.table))

-- none are left from the number of all constructors on
pub numbers_end : (sig : Sig) (f : ℕ) (s : SortId) → sig.constructors ≤ f → numbers_from sig f s ≡ []
numbers_end sig f s h =
    let k : sig.constructors - f ≡ 0 = omega arith in
    rw k refl

-- a constructor of the sort is the first of them, and another one isn't among them
pub number_here : (sig : Sig) (f : ℕ) (s : SortId) (i : SymInfo) → info_of sig f ≡ Some i →
    f < sig.constructors → i.result.0 ≡ s.0 → numbers_from sig f s ≡ f ∷ numbers_from sig (f + 1) s
number_here sig f s i at h q = ap (λ cs. map (λ (c : ℕ × List SortId). c.0) cs)
    (constructor_here sig f sig.constructors s i at h q)

pub number_other : (sig : Sig) (f : ℕ) (s : SortId) (i : SymInfo) → info_of sig f ≡ Some i →
    f < sig.constructors → i.result.0 ≢ s.0 → numbers_from sig f s ≡ numbers_from sig (f + 1) s
number_other sig f s i at h q = ap (λ cs. map (λ (c : ℕ × List SortId). c.0) cs)
    (constructor_other sig f sig.constructors s i at h q)

-- one more number in front of those that are left
pub numbers_pushed : (made new : List SymId) (f : SymId) (rest all : List ℕ) → new ≡ made ++ f ∷ [] →
    map symbol_number made ++ (f.0 ∷ rest) ≡ all → map symbol_number new ++ rest ≡ all
numbers_pushed made new f rest all e h =
    ap (λ fs. map symbol_number fs ++ rest) e ∙ ap (λ ns. ns ++ rest) (map-append symbol_number made (f ∷ []))
    ∙ append_assoc (map symbol_number made) (f.0 ∷ []) rest ∙ h
