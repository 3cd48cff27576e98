-- Arguments that are gone through, and those that are left.
use Rattle.std.proofs.Common.{◌≡◌, ℕ, zero, suc, ◌+◌, ◌<◌, length, List, [], ◌∷◌, map, drop, Option, refl, ap, sym}
use Rattle.std.proofs.Common.{◌∙◌, subst, arith}
use Rattle.std.proofs.Common.{get_or, add-one}
use Rattle.std.specs.Prelude.{slice_set}
use Rattle.std.proofs.lemmas.List.{drop-set-lt}
use Rattle.term_core.specs.Tree.{Tree}
use Rattle.substitutions.specs.Substitution.{apply}

rest_next : {X : Type 0} (xs ys : List X) (i : ℕ) → drop i xs ≡ drop i ys → drop (i + 1) xs ≡ drop (i + 1) ys
rest_next xs ys i e = one_more_off xs i ∙ ap (λ zs. drop 1 zs) e ∙ sym (one_more_off ys i)
  where
    one_more_off : {X : Type 0} (xs : List X) (i : ℕ) → drop (i + 1) xs ≡ drop 1 (drop i xs)
    one_more_off xs zero = refl
    one_more_off [] (suc i) = rw add-one refl
    one_more_off (x ∷ xs) (suc i) = rw add-one (rw add-one at (one_more_off xs i))

-- the rest of a list after its first item was set
pub rest_set : {X : Type 0} (xs ys : List X) (i : ℕ) (x : X) → drop i xs ≡ drop i ys →
    drop (i + 1) (slice_set xs i x) ≡ drop (i + 1) ys
rest_set xs ys i x e = drop-set-lt (i + 1) xs i x (omega arith) ∙ rest_next xs ys i e

-- the first item of the rest
pub rest_first : {X : Type 0} (xs ys : List X) (i : ℕ) (x : X) → drop i xs ≡ drop i ys → i < length xs →
    x ≡ get_or xs i x → length xs ≡ length ys → x ≡ get_or ys i x
rest_first [] ys i x e lt is n = absurd (omega arith)
rest_first (y ∷ xs) [] i x e lt is n = absurd (omega arith)
rest_first (y ∷ xs) (z ∷ ys) zero x e lt is n = let k : y ≡ z = cc in is ∙ k
rest_first (y ∷ xs) (z ∷ ys) (suc i) x e lt is n = rest_first xs ys i x e (omega arith) is (omega arith)

-- the instance of a pattern at a place
pub instance_at : (s : List (Option Tree)) (ps ys : List Tree) (i : ℕ) (p v : Tree) → map (apply s) ps ≡ ys →
    i < length ps → p ≡ get_or ps i p → v ≡ get_or ys i v → apply s p ≡ v
instance_at s ps ys i p v e lt at there = here ps i lt at (subst (λ zs. v ≡ get_or zs i v) (sym e) there)
  where
    here : (ps : List Tree) (i : ℕ) → i < length ps → p ≡ get_or ps i p → v ≡ get_or (map (apply s) ps) i v →
        apply s p ≡ v
    here [] i lt at there = absurd (omega arith)
    here (q ∷ ps) zero lt at there = ap (λ x. apply s x) at ∙ sym there
    here (q ∷ ps) (suc i) lt at there = here ps i (omega arith) at there
