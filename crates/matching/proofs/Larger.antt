-- A substitution makes no term smaller, and none less deep.
use Rattle.std.proofs.Common.{◌≡◌, ℕ, ◌≤◌, ◌<◌, List, Option, ap, arith, subst}
use Rattle.std.proofs.Common.{◌∷◌, sym}
use Rattle.term_core.specs.Tree.{Tree, Trees, var, app, none, some, trees_of, tree_size, sizes, tree_depth, depths}
use Rattle.term_core.proofs.Trees.{size_positive}
use Rattle.substitutions.specs.Substitution.{apply, apply_all, image}

depth_positive : (t : Tree) → 1 ≤ tree_depth t
depth_positive (var n) = omega arith
depth_positive (app f ts) = omega arith

module _ (s : List (Option Tree)) where
  mutual
    pub size_grows : (t : Tree) → tree_size t ≤ tree_size (apply s t)
    size_grows (var n) = size_positive (image s n)
    size_grows (app f ts) = omega (arith, sizes_grow ts)

    sizes_grow : (ts : Trees) → sizes ts ≤ sizes (apply_all s ts)
    sizes_grow none = omega arith
    sizes_grow (some t ts) = omega (arith, size_grows t, sizes_grow ts)

  mutual
    pub depth_grows : (t : Tree) → tree_depth t ≤ tree_depth (apply s t)
    depth_grows (var n) = depth_positive (image s n)
    depth_grows (app f ts) = omega (arith, depths_grow ts)

    depths_grow : (ts : Trees) → depths ts ≤ depths (apply_all s ts)
    depths_grow none = omega arith
    depths_grow (some t ts) = omega (arith, depth_grows t, depths_grow ts)

  pub larger_never_becomes :
      (p t : Tree) → tree_size t < tree_size p → apply s p ≡ t → ⊥
  larger_never_becomes p t lt e = omega (arith, lt, size_grows p, ap tree_size e)

  pub deeper_never_becomes :
      (p t : Tree) → tree_depth t < tree_depth p → apply s p ≡ t → ⊥
  deeper_never_becomes p t lt e = omega (arith, lt, depth_grows p, ap tree_depth e)
