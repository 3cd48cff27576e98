-- The size and the depth of what is round a term, with the term there.
use Rattle.std.proofs.Common.{◌≡◌, ℕ, ◌+◌, ◌-◌, ◌≤◌, List, [], ◌∷◌, ◌++◌, max, length, arith}
use Rattle.term_core.specs.Tree.{Tree, Trees, none, some, trees_of, tree_size, sizes, tree_depth, depths}
use Rattle.term_core.specs.Contexts.{Context, hole, under, around, plug}
use Rattle.clause_core.specs.Places.{path_of}

pub sizes_append : (xs ys : List Tree) → sizes (trees_of (xs ++ ys)) ≡ sizes (trees_of xs) + sizes (trees_of ys)
sizes_append [] ys = omega arith
sizes_append (x ∷ xs) ys = omega (arith, sizes_append xs ys)

-- in a list
pub sizes_round : (before after : List Tree) (t : Tree) →
    sizes (trees_of (before ++ t ∷ after)) ≡ sizes (trees_of before) + tree_size t + sizes (trees_of after)
sizes_round [] after t = omega arith
sizes_round (b ∷ before) after t = omega (arith, sizes_round before after t)

pub depths_round : (before after : List Tree) (t : Tree) →
    depths (trees_of (before ++ t ∷ after)) ≡ max (tree_depth t)
    (max (depths (trees_of before)) (depths (trees_of after)))
depths_round [] after t = omega arith
depths_round (b ∷ before) after t = omega (arith, depths_round before after t)

-- among arguments
sizes_around : (before after : Trees) (t : Tree) →
    sizes (around before t after) ≡ sizes before + tree_size t + sizes after
sizes_around none after t = omega arith
sizes_around (some b before) after t = omega (arith, sizes_around before after t)

depths_around : (before after : Trees) (t : Tree) →
    depths (around before t after) ≡ max (tree_depth t) (max (depths before) (depths after))
depths_around none after t = omega arith
depths_around (some b before) after t = omega (arith, depths_around before after t)

-- in a context
pub plug_size : (k : Context) (t u : Tree) → tree_size (plug k u) + tree_size t ≡ tree_size (plug k t) + tree_size u
plug_size hole t u = omega arith
plug_size (under f before k after) t u =
    omega (arith, plug_size k t u, sizes_around before after (plug k t), sizes_around before after (plug k u))

pub part_size : (k : Context) (t : Tree) → tree_size t ≤ tree_size (plug k t)
part_size hole t = omega arith
part_size (under f before k after) t = omega (arith, part_size k t, sizes_around before after (plug k t))

-- the levels above the term and those of the term are levels of the whole
pub plug_levels : (k : Context) (t : Tree) → length (path_of k) + tree_depth t ≤ tree_depth (plug k t)
plug_levels hole t = omega arith
plug_levels (under f before k after) t = omega (arith, plug_levels k t, depths_around before after (plug k t))

-- and only these change with the term
pub plug_depth :
    (k : Context) (t u : Tree) (n : ℕ) → tree_depth (plug k t) ≤ n → length (path_of k) + tree_depth u ≤ n →
    tree_depth (plug k u) ≤ n
plug_depth hole t u n h l = omega (arith, l)
plug_depth (under f before k after) t u n h l =
    let first = depths_around before after (plug k t) in
    let below = plug_depth k t u (n - 1) (omega (arith, h, first)) (omega (arith, l)) in
    omega (arith, h, first, below, depths_around before after (plug k u))
