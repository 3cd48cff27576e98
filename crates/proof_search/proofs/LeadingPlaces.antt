-- The places of leading equations that are kept for nodes.
use Rattle.std.proofs.Common.{◌≡◌, ℕ, zero, suc, List, [], ◌∷◌, ◌++◌, Option, Some, subst, sym, length}
use Rattle.std.specs.Prelude.{slice_get}
use Rattle.std.specs.List.{AllZip}
use Rattle.std.proofs.lemmas.Option.{none-some, same_Some}
use Rattle.std.proofs.lemmas.Slice.Zip.{AllZip-long, all_zipped_more}
use Rattle.fitting_lists.specs.Leading.{IsPlace}
use Rattle.fitting_lists.specs.declared.leading_equations.LeadingPlace.{LeadingPlace}
use Rattle.inference_rules.specs.declared.nodes.Node.{Node}
use Rattle.proof_search.specs.Leading.{ArePlaces}

module _ {A B : Type 0} (R : A → B → Type 0) where
  -- the items at an index
  all_zip_at :
      (xs : List A) (ys : List B) → AllZip R xs ys → (k : ℕ) (x : A) (y : B) →
      slice_get xs k ≡ Some x → slice_get ys k ≡ Some y → R x y
  all_zip_at [] ys all k x y p q = absurd (none-some x p)
  all_zip_at (z ∷ xs) [] all k x y p q = absurd all
  all_zip_at (z ∷ xs) (w ∷ ys) all zero x y p q =
      subst (λ (u : A). R u y) (same_Some z x p)
      (subst (λ (v : B). R z v) (same_Some w y q) all.0)
  all_zip_at (z ∷ xs) (w ∷ ys) all (suc k) x y p q = all_zip_at xs ys all.1 k x y p q

-- one node more, with its place
pub places_more :
    (nodes more : List Node) (places longer : List (Option LeadingPlace)) (node : Node)
    (place : Option LeadingPlace) → ArePlaces nodes places → IsPlace node.clause place →
    more ≡ nodes ++ node ∷ [] → longer ≡ places ++ place ∷ [] → ArePlaces more longer
places_more nodes more places longer node place all is e f =
    subst (λ (ns : List Node). ArePlaces ns longer) (sym e)
    (subst (λ (ps : List (Option LeadingPlace)). ArePlaces (nodes ++ node ∷ []) ps) (sym f)
    (all_zipped_more (λ (n : Node) (p : Option LeadingPlace). IsPlace n.clause p) nodes places node place
    all is))

-- the place that is kept for a node
pub place_at :
    (nodes : List Node) (places : List (Option LeadingPlace)) → ArePlaces nodes places → (k : ℕ)
    (node : Node) (place : Option LeadingPlace) → slice_get nodes k ≡ Some node →
    slice_get places k ≡ Some place → IsPlace node.clause place
place_at nodes places all k node place p q =
    all_zip_at (λ (n : Node) (p : Option LeadingPlace). IsPlace n.clause p) nodes places all k node
    place p q

pub places_long :
    (nodes : List Node) (places : List (Option LeadingPlace)) → ArePlaces nodes places →
    length places ≡ length nodes
places_long nodes places all =
    AllZip-long (λ (n : Node) (p : Option LeadingPlace). IsPlace n.clause p) nodes places all
