-- Instances of clauses here: they fail if their premises are there and their conclusions are broken. Then the
-- clauses fail.
use Rattle.std.proofs.Common.{◌≡◌, ◌⊎◌, ℕ, List, [], ◌∷◌, Some, map, inl, inr, sym, subst}
use Rattle.std.specs.Prelude.{slice_get}
use Rattle.std.specs.List.{AllByRecursion}
use Rattle.term_core.specs.declared.ids.SortId.{SortId}
use Rattle.term_core.specs.Tree.{Tree, var, instance, trees_of}
use Rattle.term_core.proofs.Items.{all_append}
use Rattle.spec_core.specs.declared.records.Equation.{Equation}
use Rattle.spec_core.specs.declared.records.Spec.{Spec}
use Rattle.spec_core.specs.Sig.{Sig}
use Rattle.spec_core.specs.Sorts.{Sorted, SortedAll}
use Rattle.spec_core.specs.Gives.{Gives}
use Rattle.spec_core.specs.Truth.{AreValuesOf, EquationHolds, EquationBroken, AllHold, AllBroken}
use Rattle.spec_core.specs.WellSorted.{IsWellSorted}
use Rattle.spec_core.proofs.Instances.{sorted_instance}
use Rattle.term_order.specs.Laws.{HasRanks}
use Rattle.clause_core.specs.declared.clauses.Clause.{Clause}
use Rattle.clause_core.specs.declared.clauses.Relation.{Relation}
use Rattle.clause_core.specs.Equations.{IsEither, Among, IsIdentity}
use Rattle.clause_core.specs.Clauses.{sides, sides_of, ClauseIsSorted}
use Rattle.clause_core.specs.Limits.{IsWithin}
use Rattle.clause_core.specs.Comparing.{Compares}
use Rattle.clause_core.specs.Admitted.{IsAdmitted}
use Rattle.clause_core.specs.Referred.{AreTermsFor}
use Rattle.clause_core.specs.Failing.{ClauseFails}
use Rattle.descent.specs.OneValue.{ValuesRankLower}
use Rattle.descent.specs.Descent.{GoesTo}
use Rattle.descent.proofs.Environments.{equation_under, clause_under}
use Rattle.descent.proofs.Closers.{value_of}
use Rattle.descent.proofs.SortedEquations.{Each, each_sorted}
use Rattle.descent.proofs.SideRanks.{Grounded, grounded_sides, some_ranks}
use Rattle.descent.proofs.Removing.{sides_grounded}
use Rattle.descent.proofs.ComparedWeights.{compared_weighs}
use Rattle.descent.proofs.Counted.{weighs_no_more}
use Rattle.descent.proofs.EqualTerms.{each_deep}
use Rattle.descent.proofs.Valued.{FailsLower}
use Rattle.descent.proofs.SortedInstances.{term_of, each_instance}

-- an equation that is among those that hold holds, and among those that are broken is broken
module _ (spec : Spec) (xs : List Tree) where
  either_holds : (e d : Equation) → IsEither e d → EquationHolds spec xs d → EquationHolds spec xs e
  either_holds e d (inl p) h = subst (λ x. EquationHolds spec xs x) p h
  either_holds e d (inr p) h = let g = subst (λ x. EquationHolds spec xs x) p h in (g.0, g.2, g.1, g.4, g.3)

  either_broken : (e d : Equation) → IsEither e d → EquationBroken spec xs d → EquationBroken spec xs e
  either_broken e d (inl p) h = subst (λ x. EquationBroken spec xs x) p h
  either_broken e d (inr p) h = let g = subst (λ x. EquationBroken spec xs x) p h in
      (g.1, g.0, g.3, g.2, λ q. g.4 (sym q), g.6, g.5)

  pub among_holds : (es : List Equation) (e : Equation) → AllHold spec xs es → Among e es → EquationHolds spec xs e
  among_holds [] e h i = absurd i
  among_holds (d ∷ ds) e h (inl p) = either_holds e d p h.0
  among_holds (d ∷ ds) e h (inr i) = among_holds ds e h.1 i

  pub among_broken : (es : List Equation) (e : Equation) → AllBroken spec xs es → Among e es → EquationBroken spec xs e
  among_broken [] e h i = absurd i
  among_broken (d ∷ ds) e h (inl p) = either_broken e d p h.0
  among_broken (d ∷ ds) e h (inr i) = among_broken ds e h.1 i

  pub all_broken : (es own : List Equation) → AllBroken spec xs own →
      AllByRecursion (λ (e : Equation). Among e own) es → AllBroken spec xs es
  all_broken [] own h p = tt
  all_broken (e ∷ es) own h p = (among_broken own e h p.0, all_broken es own h p.1)

-- terms of the variables' sorts keep sorts
module _ (sig : Sig) (ctx to : List SortId) (terms : List Tree)
    (sorted_terms : SortedAll sig to (trees_of terms) ctx) where
  pub term_sorted : (n : ℕ) (u : SortId) → slice_get ctx n ≡ Some u → Sorted sig to (instance terms (var n)) u
  term_sorted n u at = term_of sig to terms ctx sorted_terms n u at (var n)

  pub each_by_terms : (es : List Equation) → Each sig ctx es → Each sig to (map (equation_under terms) es)
  each_by_terms es p = each_instance sig to ctx terms term_sorted es p

module _ (above : Tree → Tree → Type 0) (rank : ℕ → ℕ → Tree → ℕ → Type 0) (laws : HasRanks above rank)
    (exist : ValuesRankLower above rank) (spec : Spec) (fine : IsWellSorted spec)
    (admitted : IsAdmitted above spec) where
  -- a sorted term has a value under values
  pub some_value : (ctx : List SortId) (xs : List Tree) → AreValuesOf spec ctx xs → (t : Tree) (s : SortId) →
      Sorted spec.sig ctx t s → (v : Tree) × (n : ℕ) × Gives spec (instance xs t) v n
  some_value ctx xs values t s p =
      let v = exist spec fine admitted (instance xs t) s
      (sorted_instance spec.sig ctx t s xs p (λ n u at. (value_of spec ctx xs values n u at (var n)).0)) in
      (v.value, v.cost, v.gives)

  -- premises that are there, or have identical sides, hold
  pub premises_hold : (ctx : List SortId) (xs : List Tree) → AreValuesOf spec ctx xs →
      (own es : List Equation) → AllHold spec xs own → Each spec.sig ctx es →
      AllByRecursion (λ (e : Equation). Among e own ⊎ IsIdentity e) es → AllHold spec xs es
  premises_hold ctx xs values own [] h p i = tt
  premises_hold ctx xs values own (e ∷ es) h p i = (one i.0, premises_hold ctx xs values own es h p.1 i.1)
    where
      one : Among e own ⊎ IsIdentity e → EquationHolds spec xs e
      one (inl a) = among_holds spec xs own e h a
      one (inr q) = let v = some_value ctx xs values e.left p.0.0 p.0.1 in
          (v.0, v.1, v.1, v.2, subst (λ t. Gives spec (instance xs t) v.0 v.1) q v.2)

  module _ (c d : Clause) (terms : List Tree) (sorted_terms : AreTermsFor spec c d terms)
      (sorted_d : ClauseIsSorted spec.sig d) (xs : List Tree) where
    pub here_grounded : AreValuesOf spec c.ctx xs →
        AllByRecursion (Grounded spec xs) (sides (clause_under terms c.ctx d))
    here_grounded values =
        let ps = each_by_terms spec.sig d.ctx c.ctx terms sorted_terms d.premises
        (each_sorted spec.sig d.ctx d.premises sorted_d.premises) in
        let cs = each_by_terms spec.sig d.ctx c.ctx terms sorted_terms d.conclusions
        (each_sorted spec.sig d.ctx d.conclusions sorted_d.conclusions) in
        all_append (Grounded spec xs) (sides_of (map (equation_under terms) d.premises))
        (sides_of (map (equation_under terms) d.conclusions))
        (grounded_sides spec fine c.ctx xs values (map (equation_under terms) d.premises) ps)
        (grounded_sides spec fine c.ctx xs values (map (equation_under terms) d.conclusions) cs)

    -- the node that is referred to fails so, and weighs what comparing its instance tells
    pub refers_goes : ClauseIsSorted spec.sig c → (fails : ClauseFails spec c xs) →
        FailsLower above rank laws exist spec fine admitted c d terms sorted_terms sorted_d xs
        fails.values_fit → IsWithin (clause_under terms c.ctx d) → (r : Relation) →
        Compares above c (clause_under terms c.ctx d) r → GoesTo rank spec c xs d r
    refers_goes sorted fails down within r compares =
        let g = here_grounded fails.values_fit in
        let u = some_ranks above rank laws spec xs (sides (clause_under terms c.ctx d)) g in
        record {
          others = down.others;
          fails = down.fails;
          weighs = λ w v a b.
              weighs_no_more r w u.0 v
              (compared_weighs above rank laws spec xs c (clause_under terms c.ctx d) r compares
              (sides_grounded above rank laws spec fine c sorted xs fails) g
              (each_deep 100 (sides (clause_under terms c.ctx d)) within.depth) w u.0 a u.1)
              (down.no_more u.0 v u.1 b);
        }
