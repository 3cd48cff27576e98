-- Equations with their variables renumbered.
use Rattle.std.proofs.Common.{◌≡◌, ℕ, List, [], ◌∷◌, ◌++◌, map, refl, ap, sym, ◌∙◌}
use Rattle.std.proofs.lemmas.List.{append-nil, map-append}
use Rattle.term_core.specs.Tree.{Tree, trees_of}
use Rattle.term_core.specs.Variables.{occurrences, occurrences_all}
use Rattle.term_core.specs.Gathered.{gathered}
use Rattle.spec_core.specs.declared.records.Equation.{Equation}
use Rattle.clause_core.specs.Clauses.{sides_of}
use Rattle.clause_core.specs.Tidied.{renumbered, renumbered_equation}
use Rattle.clause_core.proofs.Sides.{sides_append}
use Rattle.clause_core.proofs.Renumbering.{gathered-append, gathered_both, list_kept, renumbered_kept}

pub sides_renumbered : (olds : List ℕ) (es : List Equation) →
    sides_of (map (renumbered_equation olds) es) ≡ map (renumbered olds) (sides_of es)
sides_renumbered olds [] = refl
sides_renumbered olds (e ∷ es) = ap (λ ts. renumbered olds e.left ∷ renumbered olds e.right ∷ ts)
    (sides_renumbered olds es)

-- equations are known by their sides
same_equations : (es ds : List Equation) → sides_of es ≡ sides_of ds → es ≡ ds
same_equations [] [] h = refl
same_equations [] (d ∷ ds) h = absurd (let q : ◌≡◌ {A = List Tree} [] (d.left ∷ d.right ∷ sides_of ds) = h in cc)
same_equations (e ∷ es) [] h = absurd (let q : ◌≡◌ {A = List Tree} (e.left ∷ e.right ∷ sides_of es) [] = h in cc)
same_equations (e ∷ es) (d ∷ ds) h =
    let q : e.left ∷ e.right ∷ sides_of es ≡ d.left ∷ d.right ∷ sides_of ds = h in
    let l : e.left ≡ d.left = cc in
    let r : e.right ≡ d.right = cc in
    let rest : es ≡ ds = same_equations es ds (cc) in
    λ i. record { left = l i; right = r i } ∷ rest i

pub equations_kept :
    (start ns : List ℕ) (es : List Equation) →
    map (renumbered_equation (gathered (gathered start (occurrences_all (trees_of (sides_of es)))) ns)) es ≡ map
    (renumbered_equation (gathered start (occurrences_all (trees_of (sides_of es))))) es
equations_kept start ns es =
    same_equations _ _ (sides_renumbered _ es ∙ list_kept start ns (sides_of es) ∙ sym (sides_renumbered _ es))

pub gathered_next :
    (start : List ℕ) (es : List Equation) (e : Equation) →
    gathered start (occurrences_all (trees_of (sides_of (es ++ e ∷ [])))) ≡ gathered
    (gathered (gathered start (occurrences_all (trees_of (sides_of es)))) (occurrences e.left))
    (occurrences e.right)
gathered_next start es e =
    let first : List ℕ = gathered start (occurrences_all (trees_of (sides_of es))) in
    ap (λ ts. gathered start (occurrences_all (trees_of ts))) (sides_append es (e ∷ []))
    ∙ gathered_both start (sides_of es) (e.left ∷ e.right ∷ [])
    ∙ gathered-append first (occurrences e.left) (occurrences e.right ++ [])
    ∙ ap (λ ns. gathered (gathered first (occurrences e.left)) ns) (append-nil (occurrences e.right))

-- one equation more, whose sides are renumbered one after the other
pub equations_next :
    (start : List ℕ) (es : List Equation) (e : Equation) →
    (olds mid news : List ℕ) (made pushed : List Equation) (left right : Tree) →
    olds ≡ gathered start (occurrences_all (trees_of (sides_of es))) →
    mid ≡ gathered olds (occurrences e.left) → news ≡ gathered mid (occurrences e.right) →
    made ≡ map (renumbered_equation olds) es → left ≡ renumbered mid e.left → right ≡ renumbered news e.right →
    pushed ≡ made ++ record { left = left; right = right } ∷ [] →
    pushed ≡ map (renumbered_equation news) (es ++ e ∷ [])
equations_next start es e olds mid news made pushed left right o m n k l r p =
    let both : news ≡ gathered olds (occurrences e.left ++ occurrences e.right) = n
    ∙ ap (λ os. gathered os (occurrences e.right)) m
    ∙ sym (gathered-append olds (occurrences e.left) (occurrences e.right)) in
    let whole : news ≡ gathered (gathered start (occurrences_all (trees_of (sides_of es)))) (occurrences e.left
    ++ occurrences e.right) = both ∙ ap (λ os. gathered os (occurrences e.left ++ occurrences e.right)) o in
    let kept : made ≡ map (renumbered_equation news) es =
    k ∙ ap (λ os. map (renumbered_equation os) es) o
    ∙ sym (equations_kept start (occurrences e.left ++ occurrences e.right) es)
    ∙ ap (λ os. map (renumbered_equation os) es) (sym whole) in
    let first : left ≡ renumbered news e.left =
    l ∙ ap (λ os. renumbered os e.left) m ∙ sym (renumbered_kept e.left olds (occurrences e.right))
    ∙ ap (λ os. renumbered (gathered os (occurrences e.right)) e.left) (sym m)
    ∙ ap (λ os. renumbered os e.left) (sym n) in
    p ∙ (λ j. kept j ++ record { left = first j; right = r j } ∷ [])
    ∙ sym (map-append (renumbered_equation news) es (e ∷ []))
