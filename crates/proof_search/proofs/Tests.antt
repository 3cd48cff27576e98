-- What a test says if its answer is known.
use Rattle.std.proofs.Common.{◌≡◌, Bool, true, false, ap}
use Rattle.std.specs.Prelude.{◌↔◌, IsTrue, Option, Some, None}
use Rattle.std.specs.Option.{option_eq}

pub not_is : (r : Bool) (P : Type 0) → r ≡ false → (IsTrue r ↔ P) → P → ⊥
not_is true P e h p = absurd (let q : true ≡ false = e in cc)
not_is false P e h p = let t : IsTrue false = h.1 p in absurd (cc)

-- an option that is tested for an item is that item, if equality of items is decided
pub is_some_same :
    {X : Type 0} (eq : X → X → Bool) → ((x y : X) → eq x y ≡ true → x ≡ y) → (o : Option X) (x : X) →
    option_eq eq o (Some x) ≡ true → o ≡ Some x
is_some_same eq same None x e = absurd (let q : false ≡ true = e in cc)
is_some_same {X} eq same (Some y) x e = ap (λ (z : X). Some z) (same y x e)

pub not_true : (r : Bool) → r ≡ false → IsTrue r → ⊥
not_true true e t = absurd (let q : true ≡ false = e in cc)
not_true false e t = absurd (cc)
