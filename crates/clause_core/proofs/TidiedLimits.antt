-- A tidied clause has as many equations as the clause, and sides of the same sizes and depths.
use Rattle.std.proofs.Common.{◌≡◌, ℕ, ◌+◌, ◌↔◌, List, [], ◌∷◌, ◌++◌, map, refl, ap, sym, ◌∙◌, arith}
use Rattle.std.proofs.lemmas.List.{map-append, length-map}
use Rattle.term_core.specs.Tree.{Tree, Trees, var, app, none, some, trees_of, tree_size, sizes, tree_depth, depths}
use Rattle.clause_core.specs.declared.clauses.Clause.{Clause}
use Rattle.clause_core.specs.Clauses.{sides}
use Rattle.clause_core.specs.Limits.{clause_size, clause_depth, IsWithin}
use Rattle.clause_core.specs.Tidied.{variables_of, renumbered, renumbered_all, renumbered_equation, tidied}
use Rattle.clause_core.proofs.RenumberedEquations.{sides_renumbered}

mutual
  renumbered_size : (olds : List ℕ) (t : Tree) → tree_size (renumbered olds t) ≡ tree_size t
  renumbered_size olds (var n) = refl
  renumbered_size olds (app f ts) = ap (λ n. 1 + n) (renumbered_sizes olds ts)

  renumbered_sizes : (olds : List ℕ) (ts : Trees) → sizes (renumbered_all olds ts) ≡ sizes ts
  renumbered_sizes olds none = refl
  renumbered_sizes olds (some t ts) = omega (arith, renumbered_size olds t, renumbered_sizes olds ts)

mutual
  renumbered_depth : (olds : List ℕ) (t : Tree) → tree_depth (renumbered olds t) ≡ tree_depth t
  renumbered_depth olds (var n) = refl
  renumbered_depth olds (app f ts) = ap (λ n. 1 + n) (renumbered_depths olds ts)

  renumbered_depths : (olds : List ℕ) (ts : Trees) → depths (renumbered_all olds ts) ≡ depths ts
  renumbered_depths olds none = refl
  renumbered_depths olds (some t ts) = omega (arith, renumbered_depth olds t, renumbered_depths olds ts)

list_sizes : (olds : List ℕ) (ts : List Tree) → sizes (trees_of (map (renumbered olds) ts)) ≡ sizes (trees_of ts)
list_sizes olds [] = refl
list_sizes olds (t ∷ ts) = omega (arith, renumbered_size olds t, list_sizes olds ts)

list_depths : (olds : List ℕ) (ts : List Tree) → depths (trees_of (map (renumbered olds) ts)) ≡ depths (trees_of ts)
list_depths olds [] = refl
list_depths olds (t ∷ ts) = omega (arith, renumbered_depth olds t, list_depths olds ts)

tidied_sides : (c : Clause) → sides (tidied c) ≡ map (renumbered (variables_of c)) (sides c)
tidied_sides c =
    let l = sides_renumbered (variables_of c) c.premises in
    let r = sides_renumbered (variables_of c) c.conclusions in
    (λ i. l i ++ r i) ∙ sym (map-append (renumbered (variables_of c)) _ _)

pub tidied_size : (c : Clause) → clause_size (tidied c) ≡ clause_size c
tidied_size c = ap (λ ts. sizes (trees_of ts)) (tidied_sides c) ∙ list_sizes (variables_of c) (sides c)

pub tidied_depth : (c : Clause) → clause_depth (tidied c) ≡ clause_depth c
tidied_depth c = ap (λ ts. depths (trees_of ts)) (tidied_sides c) ∙ list_depths (variables_of c) (sides c)

-- a clause keeps or passes the limits as what it is tidied to does
pub tidied_within : (c : Clause) → IsWithin (tidied c) ↔ IsWithin c
tidied_within c =
    let e : List ℕ = variables_of c in
    let p = length-map c.premises (renumbered_equation e) in
    let q = length-map c.conclusions (renumbered_equation e) in (
      λ w. record {
        equations = omega (arith, p, q, w.equations);
        depth = omega (arith, tidied_depth c, w.depth);
        size = omega (arith, tidied_size c, w.size);
      },
      λ w. record {
        equations = omega (arith, p, q, w.equations);
        depth = omega (arith, tidied_depth c, w.depth);
        size = omega (arith, tidied_size c, w.size);
      },
    )
