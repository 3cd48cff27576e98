-- The nodes before the children of a node, and its first child by links alone.
use Rattle.std.proofs.Common.{◌≡◌, ℕ, List, [], ◌∷◌, ◌++◌, take, drop, refl, sym, ◌∙◌, ap, arith, length, map}
use Rattle.std.specs.Prelude.{flat_map}
use Rattle.std.proofs.Math.Seq.{take-append_seam}
use Rattle.std.proofs.lemmas.Grind.{flat_map-append}
use Rattle.std.proofs.lemmas.List.{length-map, take-append-drop, take-map}
use Rattle.clause_core.specs.declared.answers.Child.{Child}
use Rattle.clause_core.specs.declared.answers.Children.{Children}
use Rattle.clause_core.specs.declared.clauses.Clause.{Clause}
use Rattle.acceptance.specs.Blocks.{clauses_of, nodes_of}
use Rattle.acceptance.specs.Strict.{first_child}
use Rattle.block_links.specs.Links.{links_of, without_sides}
use Rattle.block_steps.proofs.ChildNumbers.{counted, counted_clauses, counted_cons}

-- the nodes that the first steps make are the first nodes
pub first_nodes :
    (start : Clause) (made : List Children) (k : ℕ) → take (first_child made k) (nodes_of start made) ≡ nodes_of start
    (take k made)
first_nodes start made k =
    let n : first_child made k ≡ length (nodes_of start (take k made)) = omega (arith, counted_clauses (take k made)) in
    let parted : nodes_of start made ≡ nodes_of start (take k made) ++ flat_map clauses_of (drop k made) =
    ap (λ ms. nodes_of start ms) (sym (take-append-drop k made)) ∙ ap (λ cs. start ∷ cs)
    (flat_map-append clauses_of (take k made) (drop k made)) in
    ap (λ j. take j (nodes_of start made)) n
    ∙ ap (λ ns. take (length (nodes_of start (take k made))) ns) parted
    ∙ take-append_seam (nodes_of start (take k made)) (flat_map clauses_of (drop k made))

-- the child without its clause
abbrev pub link_of : Child → Child
link_of d = record { clause = without_sides; relation = d.relation }

counted_links : (made : List Children) → counted (map links_of made) ≡ counted made
counted_links [] = refl
counted_links (m ∷ made) =
    omega (
      arith,
      counted_cons (links_of m) (map links_of made),
      counted_cons m made,
      counted_links made,
      length-map m.clauses link_of,
    )

-- the first child of a node has the same number by links
pub first_by_links : (made : List Children) (k : ℕ) → first_child (map links_of made) k ≡ first_child made k
first_by_links made k =
    let e : counted (take k (map links_of made)) ≡ counted (map links_of (take k made)) =
    ap (λ ms. counted ms) (take-map links_of k made) in
    omega (arith, e, counted_links (take k made))
