-- The terms by which the equation of the first node becomes a pair of a node, from an instance of the goal's equation.
use Rattle.std.proofs.Common.{◌≡◌, ℕ, ◌<◌, ◌⊎◌, List, [], ◌∷◌, Option, inl, inr, map, length, refl, ap, sym, ◌∙◌, subst}
use Rattle.std.specs.Prelude.{slice_index_or}
use Rattle.std.specs.List.{AllByRecursion}
use Rattle.std.proofs.lemmas.Option.{slice_get-get_or, get_or_from_slice_get}
use Rattle.term_core.specs.Tree.{Tree, Trees, var, app, none, some, trees_of}
use Rattle.term_core.specs.Variables.{Occurs, OccursAny, occurrences_all}
use Rattle.term_core.specs.declared.ids.SortId.{SortId}
use Rattle.spec_core.specs.declared.records.Equation.{Equation}
use Rattle.spec_core.specs.Declarations.{bool_sort}
use Rattle.spec_core.specs.Sig.{Sig}
use Rattle.spec_core.specs.Sorts.{Sorted, SortedAll}
use Rattle.substitutions.specs.Substitution.{image, apply, apply_all}
use Rattle.substitutions.specs.Fitting.{Fits}
use Rattle.substitutions.proofs.Instances.{image_entry, apply_values, apply_occurs}
use Rattle.clause_core.specs.Tidied.{sorts_at}
use Rattle.clause_core.proofs.TidiedSorts.{at_place}
use Rattle.plain_proof.proofs.RenamedTidying.{renamed_all, firsts_all}
use Rattle.plain_proof.proofs.CasesOfClauses.{all_any_occurring}
use Rattle.plain_search.specs.Choices.{with_terms}
use Rattle.plain_search.proofs.Renamings.{entries_of, sorted_renamed}
use Rattle.plain_search.proofs.NodePairs.{olds, number, node_ctx, in_node, IsHere, here_met, sort_here}

module _ (sig : Sig) (gctx : List SortId) (e : Equation) (ranges : (n : ℕ) →
    Occurs n e.left ⊎ Occurs n e.right → n < length gctx) (over : List SortId) (a b : Tree) where
  -- the first node's own variables and terms
  abbrev goal_olds : List ℕ
  goal_olds = olds gctx e.left e.right

  abbrev in_first : Tree → Tree
  in_first t = in_node gctx e.left e.right t

  abbrev pub first : Equation
  first = record { left = in_first e.left; right = in_first e.right }

  abbrev pub terms : List (Option Tree) → List Tree
  terms s = map (λ n. in_node over a b (image s n)) goal_olds

  mutual
    terms_apply : (s : List (Option Tree)) (t : Tree) → ((n : ℕ) → Occurs n t → IsHere gctx e.left e.right n) →
        apply (entries_of (terms s)) (in_first t) ≡ in_node over a b (apply s t)
    terms_apply s (var n) h =
        let j = number gctx e.left e.right n in
        let at = at_place (λ m. in_node over a b (image s m)) goal_olds n (here_met gctx e.left e.right n (h n refl)) in
        apply_values (terms s) (var j) ∙ get_or_from_slice_get (terms s) j (in_node over a b (image s n)) (var j) at
    terms_apply s (app f ts) h = ap (λ us. app f us) (terms_apply_all s ts h)

    terms_apply_all : (s : List (Option Tree)) (ts : Trees) →
        ((n : ℕ) → OccursAny n ts → IsHere gctx e.left e.right n) →
        apply_all (entries_of (terms s)) (renamed_all (number gctx e.left e.right) ts) ≡ renamed_all
        (number over a b) (apply_all s ts)
    terms_apply_all s none h = refl
    terms_apply_all s (some t ts) h =
        let p = terms_apply s t (λ n o. h n (inl o)) in
        let q = terms_apply_all s ts (λ n o. h n (inr o)) in
        λ i. some (p i) (q i)

  -- an instance of the goal's equation in terms of the pair's variables
  module _ (s : List (Option Tree)) (fits : Fits sig gctx over s) (x y : Tree) (l : apply s e.left ≡ x)
      (r : apply s e.right ≡ y) (here : (n : ℕ) → Occurs n x ⊎ Occurs n y → IsHere over a b n) where
    pub terms_make : with_terms (terms s)
        (first ∷ []) ≡ (record { left = in_node over a b x; right = in_node over a b y }) ∷ []
    terms_make =
        let p = terms_apply s e.left (λ n o. inl o) ∙ ap (λ t. in_node over a b t) l in
        let q = terms_apply s e.right (λ n o. inr o) ∙ ap (λ t. in_node over a b t) r in
        λ i. record { left = p i; right = q i } ∷ []

    image_here : (n k : ℕ) → IsHere gctx e.left e.right n → Occurs k (image s n) → IsHere over a b k
    image_here n k (inl o) h = here k (inl (subst (λ t. Occurs k t) l (apply_occurs e.left s k n o h)))
    image_here n k (inr o) h = here k (inr (subst (λ t. Occurs k t) r (apply_occurs e.right s k n o h)))

    image_sorted : (n : ℕ) → IsHere gctx e.left e.right n →
        Sorted sig (node_ctx over a b) (in_node over a b (image s n)) (slice_index_or gctx n bool_sort)
    image_sorted n o =
        let q = slice_index_or gctx n bool_sort in
        let f = fits n q (slice_get-get_or gctx n bool_sort (ranges n o)) in
        let u : Sorted sig over (image s n) q = subst (λ t. Sorted sig over t q) (sym (image_entry s n f.0 f.1)) f.2 in
        sorted_renamed (number over a b) sig over (node_ctx over a b) (image s n) q
        (λ k p i at. sort_here over a b k p (here_met over a b k (image_here n k o i)) at) u

    all_sorted : (ns : List ℕ) → AllByRecursion (IsHere gctx e.left e.right) ns →
        SortedAll sig (node_ctx over a b) (trees_of (map (λ n. in_node over a b (image s n)) ns)) (sorts_at gctx ns)
    all_sorted [] h = tt
    all_sorted (n ∷ ns) h = (image_sorted n h.0, all_sorted ns h.1)

    pub terms_sorted : SortedAll sig (node_ctx over a b) (trees_of (terms s)) (node_ctx gctx e.left e.right)
    terms_sorted =
        let both = some e.left (some e.right none) in
        all_sorted goal_olds (firsts_all (IsHere gctx e.left e.right) (occurrences_all both)
        (all_any_occurring (IsHere gctx e.left e.right) both either))
      where
        either : (n : ℕ) → OccursAny n (some e.left (some e.right none)) → IsHere gctx e.left e.right n
        either n (inl o) = inl o
        either n (inr (inl o)) = inr o
        either n (inr (inr o)) = absurd o
