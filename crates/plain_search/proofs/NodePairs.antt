-- Pairs of terms that nodes stand for: a node is such a pair, tidied, and what is made of the node is
-- tidied to what is made of the pair.
use Rattle.std.proofs.Common.{◌≡◌, ℕ, ◌⊎◌, List, Some, inl, inr, refl, ap, sym, ◌∙◌, subst}
use Rattle.std.specs.Prelude.{slice_get, slice_index_or}
use Rattle.std.proofs.lemmas.List.{map-id}
use Rattle.std.proofs.lemmas.Option.{get_or_from_slice_get}
use Rattle.term_core.specs.Tree.{Tree, Trees, var, app, none, some}
use Rattle.term_core.specs.Variables.{Occurs, OccursAny}
use Rattle.term_core.specs.declared.ids.SortId.{SortId}
use Rattle.spec_core.specs.Declarations.{bool_sort}
use Rattle.clause_core.specs.Tidied.{place_of, renumbered, renumbered_all, sorts_at, variables_of, tidied}
use Rattle.clause_core.proofs.Renumbering.{Met}
use Rattle.clause_core.proofs.TidiedSorts.{at_place, sort_at, variables_met}
use Rattle.plain_proof.specs.Limits.{equation_clause}
use Rattle.plain_proof.proofs.RenamedTidying.{renamed, renamed_all, renamed_tidied}
use Rattle.plain_proof.proofs.CasesOfClauses.{all_any_occurring}
use Rattle.plain_search.proofs.Renamings.{renamed_back}

mutual
  -- the numbers by first occurrence are other numbers
  pub renumbered_renamed : (olds : List ℕ) (t : Tree) → renumbered olds t ≡ renamed (place_of olds) t
  renumbered_renamed olds (var n) = refl
  renumbered_renamed olds (app f ts) = ap (λ us. app f us) (all_renumbered_renamed olds ts)

  all_renumbered_renamed : (olds : List ℕ) (ts : Trees) → renumbered_all olds ts ≡ renamed_all (place_of olds) ts
  all_renumbered_renamed olds none = refl
  all_renumbered_renamed olds (some t ts) =
      let p = renumbered_renamed olds t in
      let q = all_renumbered_renamed olds ts in
      λ i. some (p i) (q i)

module _ (over : List SortId) (a b : Tree) where
  -- the variables of the pair, by first occurrence, and the number of each in the node
  abbrev pub olds : List ℕ
  olds = variables_of (equation_clause over a b)

  abbrev pub number : ℕ → ℕ
  number n = place_of olds n

  abbrev pub node_ctx : List SortId
  node_ctx = sorts_at over olds

  -- a term of these variables in the node
  abbrev pub in_node : Tree → Tree
  in_node t = renamed number t

  abbrev pub IsHere : ℕ → Type 0
  IsHere n = Occurs n a ⊎ Occurs n b

  pub here_met : (n : ℕ) → IsHere n → Met olds n
  here_met n (inl o) = variables_met (equation_clause over a b) n (inl o)
  here_met n (inr o) = variables_met (equation_clause over a b) n (inr (inl o))

  pub node_is : tidied (equation_clause over a b) ≡ equation_clause node_ctx (in_node a) (in_node b)
  node_is =
      let l = renumbered_renamed olds a in
      let r = renumbered_renamed olds b in
      λ i. equation_clause node_ctx (l i) (r i)

  abbrev pub back : ℕ → ℕ
  back m = slice_index_or olds m 0

  pub back_number : (n : ℕ) → Met olds n → back (number n) ≡ n
  back_number n h = get_or_from_slice_get olds (number n) n 0
      (subst (λ (ns : List ℕ). slice_get ns (number n) ≡ Some n) (map-id olds) (at_place (λ i. i) olds n h))

  one_number : (m n : ℕ) → Met olds m → Met olds n → number m ≡ number n → m ≡ n
  one_number m n p q e = sym (back_number m p) ∙ ap back e ∙ back_number n q

  -- what is taken back to the pair
  pub taken : (t : Tree) → ((n : ℕ) → Occurs n t → IsHere n) → renamed back (in_node t) ≡ t
  taken t h = renamed_back number back t (λ n o. back_number n (here_met n (h n o)))

  -- the sort of a variable in the node
  pub sort_here : (n : ℕ) (s : SortId) → Met olds n → slice_get over n ≡ Some s → slice_get node_ctx (number n) ≡ Some s
  sort_here n s h at = at_place (λ i. slice_index_or over i bool_sort) olds n h
      ∙ ap (λ (q : SortId). Some q) (sort_at over n s at)

  -- terms of the pair's variables make one clause in the node and in the pair
  pub again : (x y : Tree) → ((n : ℕ) → Occurs n x ⊎ Occurs n y → IsHere n) →
      tidied (equation_clause node_ctx (in_node x) (in_node y)) ≡ tidied (equation_clause over x y)
  again x y h =
      let each = all_any_occurring (Met olds) (some x (some y none)) (λ n o. here_met n (h n (either n o))) in
      renamed_tidied number (Met olds) one_number over node_ctx x y each
      (λ n m. get_or_from_slice_get node_ctx (number n) (slice_index_or over n bool_sort) bool_sort
      (at_place (λ i. slice_index_or over i bool_sort) olds n m))
    where
      either : (n : ℕ) → OccursAny n (some x (some y none)) → Occurs n x ⊎ Occurs n y
      either n (inl o) = inl o
      either n (inr (inl o)) = inr o
      either n (inr (inr o)) = absurd o
