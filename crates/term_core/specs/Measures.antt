-- What is kept of terms.
use Rattle.std.specs.Prelude.{ℕ, suc, ◌+◌, nat_le, max, min, if◌then◌else◌}
use Rattle.term_core.specs.Tree.{Tree, Trees, var, app, none, some, tree_size, sizes, tree_depth, depths}
use Rattle.term_core.specs.declared.measures.Measure.{Measure}

-- one more than the greatest number of a variable, and 0 if there is none
abbrev mutual
  pub tree_bound : Tree → ℕ
  tree_bound (var n) = suc n
  tree_bound (app f ts) = bounds ts

  pub bounds : Trees → ℕ
  bounds none = 0
  bounds (some t ts) = max (tree_bound t) (bounds ts)

-- the needs of terms before and after others, of which this is the bound
abbrev pub joint_need : ℕ → ℕ → ℕ → ℕ
joint_need first bound next = if nat_le next bound then first else max first next

-- how many variables have to be numbered before the term for its own to be numbered by first
-- occurrence
abbrev mutual
  pub tree_need : Tree → ℕ
  tree_need (var n) = n
  tree_need (app f ts) = needs ts

  pub needs : Trees → ℕ
  needs none = 0
  needs (some t ts) = joint_need (tree_need t) (tree_bound t) (needs ts)

-- a number of 32 bits: this one, or the greatest if it is above that
abbrev pub narrow : ℕ → ℕ
narrow n = min n 4294967295

abbrev pub measure_of : Tree → Measure
measure_of t = record {
  size = narrow (tree_size t);
  depth = narrow (tree_depth t);
  bound = tree_bound t;
  need = tree_need t;
}

-- that of terms together
abbrev pub measures_of : Trees → Measure
measures_of ts = record {
  size = narrow (sizes ts);
  depth = narrow (depths ts);
  bound = bounds ts;
  need = needs ts;
}

-- the measure of terms and of what follows them
abbrev pub followed : Measure → Measure → Measure
followed m n = record {
  size = narrow (m.size + n.size);
  depth = max m.depth n.depth;
  bound = max m.bound n.bound;
  need = joint_need m.need m.bound n.need;
}
