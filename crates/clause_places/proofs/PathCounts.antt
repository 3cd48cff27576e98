-- A term has as many paths as symbols and variables.
use Rattle.std.proofs.Common.{◌≡◌, ℕ, ◌+◌, ◌++◌, ◌∷◌, [], List, map, length, length-append, refl, arith, suc}
use Rattle.std.proofs.lemmas.List.{length-map}
use Rattle.term_core.specs.Tree.{Tree, Trees, var, app, none, some, tree_size, sizes}
use Rattle.clause_places.specs.Spots.{paths, argument_paths}

mutual
  pub path_count : (t : Tree) → length (paths t) ≡ tree_size t
  path_count (var n) = refl
  path_count (app f ts) =
      omega (
        arith,
        length-append (argument_paths 1 ts) (([], app f ts) ∷ []),
        argument_path_count 1 ts,
      )

  argument_path_count : (i : ℕ) (ts : Trees) → length (argument_paths i ts) ≡ sizes ts
  argument_path_count i none = refl
  argument_path_count i (some t ts) =
      let below : List ℕ × Tree → List ℕ × Tree = λ p. (i ∷ p.0, p.1) in
      omega (
        arith,
        length-append (map below (paths t)) (argument_paths (suc i) ts),
        length-map (paths t) below,
        path_count t,
        argument_path_count (suc i) ts,
      )
