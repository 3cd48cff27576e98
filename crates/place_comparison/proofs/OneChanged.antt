-- Lists of terms that differ in one member compare as multisets as that member does: all the others
-- cancel.
use Rattle.std.proofs.Common.{◌≡◌, ◌≢◌, List, [], ◌∷◌, ◌++◌, refl, sym, ◌∙◌, subst, arith, inl, inr}
use Rattle.std.specs.Prelude.{◌↔◌, IsPermutation, Contains}
use Rattle.std.proofs.lemmas.List.Sorted.{IsPermutation-refl, IsPermutation-trans, IsPermutation-middle}
use Rattle.std.proofs.lemmas.List.Sorted.{IsPermutation-append_comm}
use Rattle.term_core.specs.Tree.{Tree}
use Rattle.term_core.proofs.Members.{in_contained, contained_in}
use Rattle.term_core.proofs.SameTrees.{same_tree_or_not}
use Rattle.clause_core.specs.declared.clauses.Relation.{Relation}
use Rattle.clause_core.specs.declared.clauses.Relation.TheVariants.{Less, Same, Neither}
use Rattle.clause_core.specs.Multisets.{AreRests, Exceeds}
use Rattle.clause_core.specs.Comparing.{MultisetsCompare}
use Rattle.clause_core.proofs.Multisets.{all_cancel, nothing_left, something_left, each_exceeded}
use Rattle.place_comparison.specs.AtPlaces.{TermsCompare}

to_end : (before after : List Tree) (t : Tree) → IsPermutation (before ++ t ∷ after) ((before ++ after) ++ t ∷ [])
to_end before after t =
    IsPermutation-trans (before ++ t ∷ after) (t ∷ (before ++ after)) ((before ++ after) ++ t ∷ [])
    (IsPermutation-middle before t after) (IsPermutation-append_comm (t ∷ []) (before ++ after))

only_member : (t x : Tree) → Contains (t ∷ []) x → x ≡ t
only_member t x i = elim (in_contained (t ∷ []) x i) [ inl e ↦ e | inr n ↦ absurd n ]

module _ (before after : List Tree) (t u : Tree) where
  -- what is left where they differ
  rests : t ≢ u → AreRests (before ++ t ∷ after) (before ++ u ∷ after) (t ∷ []) (u ∷ [])
  rests n = record {
    common = before ++ after;
    of_first = to_end before after t;
    of_second = to_end before after u;
    apart = λ x i j. n (sym (only_member t x i) ∙ only_member u x j);
  }

  same_list : t ≡ u → IsPermutation (before ++ t ∷ after) (before ++ u ∷ after)
  same_list e = subst (λ z. IsPermutation (before ++ t ∷ after) (before ++ z ∷ after)) e
      (IsPermutation-refl (before ++ t ∷ after))

  same_member : IsPermutation (before ++ t ∷ after) (before ++ u ∷ after) → t ≡ u
  same_member p = elim (same_tree_or_not t u) [
    | inl e ↦ e
    | inr n ↦
        absurd (let q : t ∷ [] ≡ [] = (nothing_left same_tree_or_not (before ++ t ∷ after) (before ++ u ∷ after)
        (t ∷ []) (u ∷ []) (rests n) p).0 in cc)
  ]

  module _ (above : Tree → Tree → Type 0) where
    differs : Exceeds above (before ++ t ∷ after) (before ++ u ∷ after) → t ≢ u
    differs x e = something_left same_tree_or_not (before ++ t ∷ after) (before ++ u ∷ after) [] []
        (all_cancel (before ++ t ∷ after) (before ++ u ∷ after) (same_list e)) above x refl

    greater_member : Exceeds above (before ++ t ∷ after) (before ++ u ∷ after) → above t u
    greater_member x =
        let g = each_exceeded same_tree_or_not (before ++ t ∷ after) (before ++ u ∷ after) (t ∷ []) (u ∷ [])
        (rests (differs x)) above x u (contained_in (u ∷ []) u (inl refl)) in
        subst (λ z. above z u) (only_member t g.0 g.1) g.2

    greater_list : t ≢ u → above t u → Exceeds above (before ++ t ∷ after) (before ++ u ∷ after)
    greater_list n g = record {
      rest = t ∷ [];
      other = u ∷ [];
      rests = rests n;
      not_empty = omega arith;
      has_greater = λ y i. (t, contained_in (t ∷ []) t (inl refl), subst (λ z. above t z) (sym (only_member u y i)) g);
    }

    pub one_changed : (r : Relation) → MultisetsCompare above (before ++ t ∷ after) (before ++ u ∷ after) r ↔
        TermsCompare above t u r
    one_changed Same = (same_member, same_list)
    one_changed Less = (λ x. (differs x, greater_member x), λ h. greater_list h.0 h.1)
    one_changed Neither = (
      λ h. (λ e. h.0 (same_list e), λ g. h.1 (greater_list (λ e. h.0 (same_list e)) g)),
      λ h. (λ p. h.0 (same_member p), λ x. h.1 (greater_member x)),
    )
