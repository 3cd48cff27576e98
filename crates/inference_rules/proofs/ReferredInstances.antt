-- The instance of a clause that a step refers to: what the rows say of it.
use Rattle.std.proofs.Common.{◌≡◌, ◌↔◌, ◌⊎◌, ℕ, ◌<◌, length, get_or, List, [], Option, Some, Bool, true, false, IsTrue}
use Rattle.std.proofs.Common.{inl, inr, refl, sym, ◌∙◌, subst, map}
use Rattle.std.specs.List.{AllByRecursion}
use Rattle.term_core.specs.Tree.{Tree, trees_of}
use Rattle.term_core.specs.declared.ids.SortId.{SortId}
use Rattle.spec_core.specs.Sorts.{SortedAll}
use Rattle.spec_core.specs.declared.records.Equation.{Equation}
use Rattle.spec_core.specs.declared.records.Spec.{Spec}
use Rattle.clause_core.specs.declared.clauses.Clause.{Clause}
use Rattle.clause_core.specs.declared.answers.Why.TheVariants.{DoesNotFit}
use Rattle.clause_core.specs.ClauseInstances.{clause_instance, equation_instance}
use Rattle.clause_core.specs.Equations.{Among, IsIdentity}
use Rattle.clause_core.specs.Limits.{IsWithin}
use Rattle.clause_core.specs.Referred.{AreTermsFor, PremisesAreThere, instance_here, with_instance}
use Rattle.clause_core.specs.Rows.{Made, Row, needs, makes}
use Rattle.clause_core.specs.Subsuming.{Subsumes, subsumed_by}
use Rattle.inference_rules.specs.declared.nodes.StepError.{StepError}
use Rattle.inference_rules.specs.declared.nodes.StepError.TheVariants.{Why as because, OutOfMemory as out_of_memory}
use Rattle.inference_rules.specs.Conditions.{Refuses, RefusesWith, Makes}
use Rattle.test_sets.proofs.ChildrenOfPatterns.{mapped_at}

module _ (spec : Spec) (c d : Clause) (terms : List Tree) where
  -- what is found of the terms, their sorts and the instance by them
  pub sorted_here : (ctx sorts : List SortId) → ctx ≡ c.ctx → sorts ≡ d.ctx →
      SortedAll spec.sig ctx (trees_of terms) sorts → AreTermsFor spec c d terms
  sorted_here ctx sorts p q s =
      subst (λ (z : List SortId). SortedAll spec.sig z (trees_of terms) d.ctx) p
      (subst (λ (z : List SortId). SortedAll spec.sig ctx (trees_of terms) z) q s)

  pub here_sorted : (ctx sorts : List SortId) → ctx ≡ c.ctx → sorts ≡ d.ctx → AreTermsFor spec c d terms →
      SortedAll spec.sig ctx (trees_of terms) sorts
  here_sorted ctx sorts p q s =
      subst (λ (z : List SortId). SortedAll spec.sig z (trees_of terms) sorts) (sym p)
      (subst (λ (z : List SortId). SortedAll spec.sig c.ctx (trees_of terms) z) (sym q) s)

  pub past_limits :
      (entries : List (Option Tree)) → entries ≡ map (λ (t : Tree). Some t) terms → (ok : Bool) → ok ≡ false →
      ((ctx : List SortId) → IsTrue ok ↔ IsWithin (clause_instance entries ctx d)) →
      IsWithin (instance_here spec c d terms) → ⊥
  past_limits entries e ok wrong h w =
      let old : IsWithin (clause_instance entries c.ctx d) = subst
      (λ (z : List (Option Tree)). IsWithin (clause_instance z c.ctx d)) (sym e) w in
      let q : ok ≡ true = (h c.ctx).1 old in
      let r : false ≡ true = sym wrong ∙ q in
      cc

  -- if there is no instance, no row that begins with it goes on
  pub no_instance :
      (rest : Clause → Row) (error : StepError) → RefusesWith (with_instance spec c d terms (λ x. makes [] [])) error →
      RefusesWith (with_instance spec c d terms rest) error
  no_instance rest (because why) (inl (s, inl (w, n))) = absurd n
  no_instance rest (because why) (inl (s, inr n)) = inl (s, inr n)
  no_instance rest (because why) (inr n) = inr n
  no_instance rest out_of_memory r = tt

  module _ (x : Clause) (sorted : AreTermsFor spec c d terms) (within : IsWithin x)
      (is : x ≡ instance_here spec c d terms) where
    instance_within : IsWithin (instance_here spec c d terms)
    instance_within = subst IsWithin is within

    -- if there is one, the row goes on with it
    pub refused_at :
        (rest : Clause → Row) (error : StepError) → RefusesWith (rest x) error →
        RefusesWith (with_instance spec c d terms rest) error
    refused_at rest (because why) r = inl (sorted, inl (instance_within, subst (λ z. Refuses (rest z) why) is r))
    refused_at rest out_of_memory r = tt

    pub made_at :
        (rest : Clause → Row) (children : List Made) (refs : List (ℕ × Clause)) → Makes (rest x) children refs →
        Makes (with_instance spec c d terms rest) children refs
    made_at rest children refs m = (sorted, (instance_within, subst (λ z. Makes (rest z) children refs) is m))

  pub not_subsumed :
      (refs : Clause → List (ℕ × Clause)) (x : Clause) → AreTermsFor spec c d terms → IsWithin x →
      x ≡ instance_here spec c d terms →
      (Subsumes c x → ⊥) → Refuses (subsumed_by spec c d terms refs) DoesNotFit
  not_subsumed refs x s w is n = refused_at x s w is
      (λ z. needs (Subsumes c z) DoesNotFit (λ subsumes. makes [] (refs z))) (because DoesNotFit) (inr (n, refl))

  pub subsumed :
      (refs : Clause → List (ℕ × Clause)) (x : Clause) → AreTermsFor spec c d terms → IsWithin x →
      x ≡ instance_here spec c d terms →
      Subsumes c x → Makes (subsumed_by spec c d terms refs) [] (refs x)
  subsumed refs x s w is h = made_at x s w is
      (λ z. needs (Subsumes c z) DoesNotFit (λ subsumes. makes [] (refs z))) [] (refs x) (h, (refl, refl))

  pub no_instance_subsumes :
      (refs : Clause → List (ℕ × Clause)) (error : StepError) →
      RefusesWith (with_instance spec c d terms (λ x. makes [] [])) error →
      RefusesWith (subsumed_by spec c d terms refs) error
  no_instance_subsumes refs error r = no_instance
      (λ z. needs (Subsumes c z) DoesNotFit (λ subsumes. makes [] (refs z))) error r

-- a premise whose instance isn't there
pub premise_missing :
    (entries : List (Option Tree)) (ctx : List SortId) (c d : Clause) (premises : List Equation) (number : ℕ)
    (e : Equation) →
    premises ≡ d.premises → number < length premises → e ≡ get_or premises number e → (made : Equation) →
    made ≡ equation_instance entries e →
    (Among made c.premises ⊎ IsIdentity made → ⊥) → PremisesAreThere c (clause_instance entries ctx d) → ⊥
premise_missing entries ctx c d premises number e are lt is made own n there =
    let P : Equation → Type 0 = λ e. Among e c.premises ⊎ IsIdentity e in
    n (subst P (sym own)
    (mapped_at P (equation_instance entries) premises number e lt is
    (subst (λ es. AllByRecursion P (map (equation_instance entries) es)) (sym are) there)))
