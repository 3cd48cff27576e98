-- Tidied clauses weigh what the clauses do, and fail if they do.
use Rattle.std.proofs.Common.{◌≡◌, ℕ, List, [], ◌∷◌, ◌++◌, map, inl, inr, sym, ◌∙◌, subst}
use Rattle.std.proofs.lemmas.List.{map-append}
use Rattle.term_core.specs.Tree.{Tree, trees_of}
use Rattle.term_core.specs.Variables.{OccursAny}
use Rattle.spec_core.specs.declared.records.Spec.{Spec}
use Rattle.clause_core.specs.declared.clauses.Clause.{Clause}
use Rattle.clause_core.specs.Ranks.{HasRank}
use Rattle.clause_core.specs.Clauses.{sides_of, sides, ClauseIsSorted}
use Rattle.clause_core.specs.Tidied.{variables_of, renumbered, tidied}
use Rattle.clause_core.specs.Failing.{ClauseFails, values_at}
use Rattle.clause_core.proofs.Renumbering.{Met}
use Rattle.clause_core.proofs.RenumberedEquations.{sides_renumbered}
use Rattle.clause_core.proofs.TidiedSorts.{variables_met}
use Rattle.clause_core.proofs.TidiedFails.{same_instance, keeps_failing}
use Rattle.descent.specs.Weights.{AreRanks, IsWeight}
use Rattle.descent.specs.WeightLaws.{TidyingKeepsWeight}

-- a tidied clause has the sides renumbered
sides_tidied : (c : Clause) → sides (tidied c) ≡ map (renumbered (variables_of c)) (sides c)
sides_tidied c =
    (λ i. sides_renumbered (variables_of c) c.premises i ++ sides_renumbered (variables_of c) c.conclusions i)
    ∙ sym (map-append (renumbered (variables_of c)) (sides_of c.premises) (sides_of c.conclusions))

module _ (rank : ℕ → ℕ → Tree → ℕ → Type 0) (spec : Spec) (olds : List ℕ) (xs : List Tree) where
  ranks_renumbered : (ts : List Tree) → ((n : ℕ) → OccursAny n (trees_of ts) → Met olds n) → (w : List ℕ) →
      AreRanks rank spec xs ts w → AreRanks rank spec (values_at olds xs) (map (renumbered olds) ts) w
  ranks_renumbered [] h [] p = tt
  ranks_renumbered [] h (r ∷ w) p = absurd p
  ranks_renumbered (t ∷ ts) h [] p = absurd p
  ranks_renumbered (t ∷ ts) h (r ∷ w)
      p = (
        subst (λ u. HasRank rank spec u r) (sym (same_instance olds xs t (λ n o. h n (inl o)))) p.0,
        ranks_renumbered ts (λ n o. h n (inr o)) w p.1,
      )

  renumbered_ranks : (ts : List Tree) → ((n : ℕ) → OccursAny n (trees_of ts) → Met olds n) → (w : List ℕ) →
      AreRanks rank spec (values_at olds xs) (map (renumbered olds) ts) w → AreRanks rank spec xs ts w
  renumbered_ranks [] h [] p = tt
  renumbered_ranks [] h (r ∷ w) p = absurd p
  renumbered_ranks (t ∷ ts) h [] p = absurd p
  renumbered_ranks (t ∷ ts) h (r ∷ w)
      p = (
        subst (λ u. HasRank rank spec u r) (same_instance olds xs t (λ n o. h n (inl o))) p.0,
        renumbered_ranks ts (λ n o. h n (inr o)) w p.1,
      )

pub tidied_weight : (rank : ℕ → ℕ → Tree → ℕ → Type 0) (spec : Spec) (c : Clause) (xs : List Tree)
    (w : List ℕ) → IsWeight rank spec (values_at (variables_of c) xs) (tidied c) w → IsWeight rank spec xs c w
tidied_weight rank spec c xs w p = renumbered_ranks rank spec (variables_of c) xs (sides c) (variables_met c) w
    (subst (λ ts. AreRanks rank spec (values_at (variables_of c) xs) ts w) (sides_tidied c) p)

pub keeps_weight : (rank : ℕ → ℕ → Tree → ℕ → Type 0) → TidyingKeepsWeight rank
keeps_weight rank spec c xs w = (
  λ p. subst (λ ts. AreRanks rank spec (values_at (variables_of c) xs) ts w) (sym (sides_tidied c))
      (ranks_renumbered rank spec (variables_of c) xs (sides c) (variables_met c) w p),
  tidied_weight rank spec c xs w,
)

pub tidied_fails : (spec : Spec) (c : Clause) → ClauseIsSorted spec.sig c → (xs : List Tree) →
    ClauseFails spec c xs → ClauseFails spec (tidied c) (values_at (variables_of c) xs)
tidied_fails spec c sorted xs fails = keeps_failing spec c xs sorted fails
