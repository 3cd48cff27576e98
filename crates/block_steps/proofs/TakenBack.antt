-- The last step is taken back.
use Rattle.std.proofs.Common.{◌≡◌, ℕ, ◌-◌, List, [], ◌∷◌, ◌++◌, take, refl, sym, ◌∙◌, ap, arith, length, length-append}
use Rattle.std.proofs.lemmas.List.{take-map}
use Rattle.inference_rules.specs.declared.nodes.Node.{Node}
use Rattle.inference_rules.specs.Answers.{clauses_of}

longer : {A : Type 0} (x z : A) (ys : List A) (y : A) → x ∷ [] ≡ z ∷ (ys ++ y ∷ []) → ⊥
longer x z ys y e =
    let l : length (x ∷ []) ≡ length (z ∷ (ys ++ y ∷ [])) = ap (λ zs. length zs) e in
    omega (arith, l, length-append ys (y ∷ []))

-- lists with a last item are the same, and so are the last items
pub one_last :
    {A : Type 0} (xs ys : List A) (x y : A) → xs ++ x ∷ [] ≡ ys ++ y ∷ [] → (xs ≡ ys) × (x ≡ y)
one_last [] [] x y e = let q : x ∷ [] ≡ y ∷ [] = e in (refl, cc)
one_last [] (z ∷ ys) x y e = absurd (longer x z ys y e)
one_last (z ∷ xs) [] x y e = absurd (longer y z xs x (sym e))
one_last (z ∷ xs) (w ∷ ys) x y e =
    let q : z ∷ (xs ++ x ∷ []) ≡ w ∷ (ys ++ y ∷ []) = e in
    let h : z ≡ w = cc in
    let k : xs ++ x ∷ [] ≡ ys ++ y ∷ [] = cc in
    let same = one_last xs ys x y k in
    ((λ i. h i ∷ same.0 i), same.1)

-- the clauses of the first nodes
pub first_clauses :
    (nodes first : List Node) (k n : ℕ) → first ≡ take k nodes → k ≡ length nodes - n →
    clauses_of first ≡ take (length nodes - n) (clauses_of nodes)
first_clauses nodes first k n are is =
    ap clauses_of are ∙ sym (take-map (λ (node : Node). node.clause) k nodes)
    ∙ ap (λ j. take j (clauses_of nodes)) is
