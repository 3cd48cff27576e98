-- One step of descent for `drop` and `clash`: an equation is taken out of a clause.
use Rattle.std.proofs.Common.{◌≡◌, ℕ, List, [], ◌∷◌, ◌++◌, Bool, true, false, sym, ◌∙◌, subst, append_assoc}
use Rattle.std.specs.List.{AllByRecursion}
use Rattle.term_core.specs.Tree.{Tree}
use Rattle.spec_core.specs.declared.records.Equation.{Equation}
use Rattle.spec_core.specs.declared.records.Spec.{Spec}
use Rattle.spec_core.specs.Truth.{AllHold, AllBroken}
use Rattle.spec_core.specs.WellSorted.{IsWellSorted}
use Rattle.term_order.specs.Laws.{HasRanks}
use Rattle.clause_core.specs.declared.clauses.Clause.{Clause}
use Rattle.clause_core.specs.declared.clauses.Relation.TheVariants.{Less}
use Rattle.clause_core.specs.Clauses.{sides_of, sides, ClauseIsSorted}
use Rattle.clause_core.specs.NumberedEquations.{EquationAt, equations, exchanged}
use Rattle.clause_core.specs.Tidied.{variables_of, tidied}
use Rattle.clause_core.specs.Failing.{ClauseFails, values_at}
use Rattle.clause_core.proofs.Sides.{sides_append}
use Rattle.descent.specs.Weights.{AreRanks, IsWeight, IsHeavier}
use Rattle.descent.specs.Descent.{GoesTo}
use Rattle.descent.proofs.SortedEquations.{split_all}
use Rattle.descent.proofs.TidiedWeights.{tidied_fails, tidied_weight}
use Rattle.descent.proofs.SideRanks.{Grounded, clause_grounded, two_removed}
use Rattle.descent.proofs.KeptSorts.{exchange_sorted}

-- what holds of all equations holds without one of them
pub holds_without : (spec : Spec) (xs : List Tree) (before after : List Equation) (e : Equation) →
    AllHold spec xs (before ++ (e ∷ after)) → AllHold spec xs (before ++ after)
holds_without spec xs [] after e h = h.1
holds_without spec xs (d ∷ ds) after e h = (h.0, holds_without spec xs ds after e h.1)

pub broken_without : (spec : Spec) (xs : List Tree) (before after : List Equation) (e : Equation) →
    AllBroken spec xs (before ++ (e ∷ after)) → AllBroken spec xs (before ++ after)
broken_without spec xs [] after e h = h.1
broken_without spec xs (d ∷ ds) after e h = (h.0, broken_without spec xs ds after e h.1)

module _ (above : Tree → Tree → Type 0) (rank : ℕ → ℕ → Tree → ℕ → Type 0) (laws : HasRanks above rank)
    (spec : Spec) (fine : IsWellSorted spec) (c : Clause) (sorted : ClauseIsSorted spec.sig c) (xs : List Tree)
    (fails : ClauseFails spec c xs) where
  -- the clause without an equation: two sides less
  less_weight : (d : Clause) (before after : List Tree) (l r : Tree) → sides c ≡ before ++ (l ∷ (r ∷ after)) →
      sides d ≡ before ++ after → AllByRecursion (Grounded spec xs) (sides c) → (w v : List ℕ) →
      IsWeight rank spec xs c w → IsWeight rank spec xs d v → IsHeavier w v
  less_weight d before after l r e f g w v p q =
      let parts = split_all (Grounded spec xs) before (l ∷ (r ∷ after))
      (subst (λ ts. AllByRecursion (Grounded spec xs) ts) e g) in
      two_removed above rank laws spec xs before after l r parts.0 parts.1.1.1 w v
      (subst (λ ts. AreRanks rank spec xs ts w) e p) (subst (λ ts. AreRanks rank spec xs ts v) f q)

  pub sides_grounded : AllByRecursion (Grounded spec xs) (sides c)
  sides_grounded = clause_grounded spec fine c sorted xs fails.values_fit

  -- the clause without an equation fails under the same values
  pub removed_fails : (kind : Bool) (n : ℕ) (at : EquationAt (equations kind c) n) →
      ClauseFails spec (exchanged kind c at []) xs
  removed_fails true n at = record {
    values_fit = fails.values_fit;
    premises = fails.premises;
    conclusions = broken_without spec xs at.before at.after at.equation
        (subst (λ es. AllBroken spec xs es) at.is fails.conclusions);
  }
  removed_fails false n at = record {
    values_fit = fails.values_fit;
    premises = holds_without spec xs at.before
        at.after at.equation (subst (λ es. AllHold spec xs es) at.is fails.premises);
    conclusions = fails.conclusions;
  }

  removed_sides : (kind : Bool) (n : ℕ) (at : EquationAt (equations kind c) n) →
      (before : List Tree) × (after : List Tree)
      × (sides c ≡ before ++ (at.equation.left ∷ (at.equation.right ∷ after)))
      × (sides (exchanged kind c at []) ≡ before ++ after)
  removed_sides true n at = (
    sides_of c.premises ++ sides_of at.before,
    sides_of at.after,
    (λ i. sides_of c.premises ++ sides_of (at.is i))
        ∙ (λ i. sides_of c.premises ++ sides_append at.before (at.equation ∷ at.after) i)
        ∙ sym (append_assoc (sides_of c.premises) (sides_of at.before)
        (at.equation.left ∷ (at.equation.right ∷ sides_of at.after))),
    (λ i. sides_of c.premises ++ sides_append at.before at.after i)
        ∙ sym (append_assoc (sides_of c.premises) (sides_of at.before) (sides_of at.after)),
  )
  removed_sides false n at = (
    sides_of at.before,
    sides_of at.after ++ sides_of c.conclusions,
    (λ i. sides_of (at.is i) ++ sides_of c.conclusions)
        ∙ (λ i. sides_append at.before (at.equation ∷ at.after) i ++ sides_of c.conclusions)
        ∙ append_assoc (sides_of at.before) (at.equation.left ∷ (at.equation.right ∷ sides_of at.after))
        (sides_of c.conclusions),
    (λ i. sides_append at.before at.after i ++ sides_of c.conclusions)
        ∙ append_assoc (sides_of at.before) (sides_of at.after) (sides_of c.conclusions),
  )

  -- and weighs less
  pub removed_weight : (kind : Bool) (n : ℕ) (at : EquationAt (equations kind c) n) → (w v : List ℕ) →
      IsWeight rank spec xs c w → IsWeight rank spec xs (exchanged kind c at []) v → IsHeavier w v
  removed_weight kind n at w v p q =
      let parts = removed_sides kind n at in
      less_weight (exchanged kind c at []) parts.0 parts.1 at.equation.left at.equation.right parts.2 parts.3
      sides_grounded w v p q

  -- so its tidied clause fails under values that weigh less
  pub removed_goes : (kind : Bool) (n : ℕ) (at : EquationAt (equations kind c) n) →
      GoesTo rank spec c xs (tidied (exchanged kind c at [])) Less
  removed_goes kind n at =
      let d = exchanged kind c at [] in
      let parts = removed_sides kind n at in
      record {
        others = values_at (variables_of d) xs;
        fails = tidied_fails spec d (exchange_sorted spec.sig c sorted kind n at [] (λ p. tt)) xs
            (removed_fails kind n at);
        weighs = λ w v p q. less_weight d parts.0 parts.1 at.equation.left at.equation.right parts.2 parts.3
            sides_grounded w v p (tidied_weight rank spec d xs v q);
      }
