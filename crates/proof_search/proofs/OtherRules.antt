-- A rule of another function has no step at a place.
use Rattle.std.proofs.Common.{◌≡◌, ℕ, ◌+◌, List, [], ◌∷◌, Bool, true, false, Some, Ok, Err, Result, inl, inr, ap, sym}
use Rattle.std.proofs.Common.{◌∙◌, subst, arith}
use Rattle.std.specs.Prelude.{slice_get}
use Rattle.term_core.specs.Tree.{Tree, Trees, var, app, instance, instances}
use Rattle.spec_core.specs.declared.records.Rule.{Rule}
use Rattle.spec_core.specs.RuleTables.{has_head}
use Rattle.spec_core.specs.WellSorted.{IsLeft}
use Rattle.spec_core.proofs.RuleTables.{instance_head}
use Rattle.spec_core.specs.Sig.{Sig}
use Rattle.clause_core.specs.declared.answers.Children.{Children}
use Rattle.clause_core.specs.declared.answers.Why.{Why}
use Rattle.clause_core.specs.declared.steps.Place.{Place}
use Rattle.clause_core.specs.declared.steps.Step.{Step}
use Rattle.clause_core.specs.Places.{TermAt}
use Rattle.clause_core.specs.RuleInstances.{RuleAt, IsInstance}
use Rattle.clause_core.proofs.OnePlace.{term_one}
use Rattle.clause_core.proofs.OneReferred.{one_get}
use Rattle.routine_proof.specs.Candidates.{Candidate, Gives, certain, each}
use Rattle.routine_proof.specs.First.{NoneIs}
use Rattle.proof_search.specs.declared.at.At.{At}
use Rattle.proof_search.specs.declared.ruling.ByRule.{ByRule}
use Rattle.proof_search.specs.declared.ruling.ByRule.TheVariants.{Rule as by_rule, Case as by_case}
use Rattle.proof_search.specs.Ruling.{ruling_step, rulings_by}
use Rattle.proof_search.specs.Taking.{IsAt, SaysAt}

-- the rule of a step that makes something fits the term at its place
pub record Fitting (at : At) (place : Place) (number : ℕ) : Type 0 where
  pub there : TermAt at.here.now place
  pub by_number : RuleAt at.setting.now.spec.now number
  pub fits : IsInstance by_number.rule there.term

never : {X : Type 0} (made : Children) (why : Why) →
    ◌≡◌ {A = Result Children Why} (Ok made) (Err why) → X
never made why e = absurd (cc)

module _ (above : Tree → Tree → Type 0) (at : At) (place : Place) (number : ℕ)
    (made : Children) where
  pub fitting : (entry : ByRule) → SaysAt above at (ruling_step entry place number) made →
      Fitting at place number
  fitting by_rule (inl (p, inl (r, inl (m, rest)))) =
      record { there = p; by_number = r; fits = m.0 }
  fitting by_rule (inl (p, inl (r, inr q))) = never made _ q.1
  fitting by_rule (inl (p, inr q)) = never made _ q.1
  fitting by_rule (inr q) = never made _ q.1
  fitting by_case (inl (p, inl (r, inl (m, rest)))) = record { there = p; by_number = r; fits = m }
  fitting by_case (inl (p, inl (r, inr q))) = never made _ q.1
  fitting by_case (inl (p, inr q)) = never made _ q.1
  fitting by_case (inr q) = never made _ q.1

-- no instance of a left side is a variable
pub not_variable : (sig : Sig) (left : Tree) (list : List Tree) (n : ℕ) → IsLeft sig left →
    instance list left ≡ var n → ⊥
not_variable sig (var m) list n is e = is
not_variable sig (app g us) list n is e = let q : app g (instances list us) ≡ var n = e in cc

module _ (above : Tree → Tree → Type 0) (at : At) (is : IsAt at) (entry : ByRule)
    (place : Place) where
  abbrev Steps : ℕ → List Candidate
  Steps n = certain (ruling_step entry place n)

  no_step : (n : ℕ) → (Fitting at place n → ⊥) → NoneIs (Gives (SaysAt above at)) (Steps n)
  no_step n none = (
    λ move g. none (fitting above at place n move.made entry
        (subst (λ (s : Step). SaysAt above at s move.made) g.step g.defined)),
    tt,
  )

  no_steps : (ns : List ℕ) → ((n : ℕ) → Fitting at place n → ⊥) →
      NoneIs (Gives (SaysAt above at)) (each ns Steps)
  unfolding each
  no_steps [] none = tt
  no_steps (n ∷ ns) none = ((no_step n (none n)).0, no_steps ns none)

  module _ (there : TermAt at.here.now place) where
    instance_there : {n : ℕ} (f : Fitting at place n) →
        instance f.fits.terms f.by_number.rule.left ≡ there.term
    instance_there f = f.fits.is ∙ (term_one at.here.now place f.there there).0

    left_there : {n : ℕ} (f : Fitting at place n) →
        IsLeft at.setting.now.spec.now.sig f.by_number.rule.left
    left_there f = (is.setting.fine.rules f.by_number.place f.by_number.rule f.by_number.is).left

    -- a rule whose left side doesn't fit
    pub none_unfit :
        (n : ℕ) →
        ((by : RuleAt at.setting.now.spec.now n) → IsInstance by.rule there.term → ⊥) →
        NoneIs (Gives (SaysAt above at)) (Steps n)
    none_unfit n unfit = no_step n (λ f.
        unfit f.by_number (record {
          terms = f.fits.terms;
          long = f.fits.long;
          is = instance_there f;
        }))

    -- if none fits
    pub none_where_unfit :
        ((n : ℕ) (by : RuleAt at.setting.now.spec.now n) → IsInstance by.rule there.term → ⊥) →
        (ns : List ℕ) → NoneIs (Gives (SaysAt above at)) (rulings_by entry place ns)
    none_where_unfit unfit ns = no_steps ns (λ n f.
        unfit n f.by_number (record {
          terms = f.fits.terms;
          long = f.fits.long;
          is = instance_there f;
        }))

    -- if it is a variable
    pub none_at_variable : (ns : List ℕ) (m : ℕ) → var m ≡ there.term →
        NoneIs (Gives (SaysAt above at)) (rulings_by entry place ns)
    none_at_variable ns m e = no_steps ns (λ n f.
        not_variable at.setting.now.spec.now.sig f.by_number.rule.left f.fits.terms m (left_there f)
        (instance_there f ∙ sym e))

    -- a rule of another function
    pub none_of_others :
        (f : ℕ) (ts : Trees) → app f ts ≡ there.term → (k : ℕ) (rule : Rule) →
        slice_get at.setting.now.spec.now.rules k ≡ Some rule → has_head f rule.left ≡ false →
        NoneIs (Gives (SaysAt above at)) (certain (ruling_step entry place (1 + k)))
    none_of_others f ts e k rule listed other = no_step (1 + k) (λ w.
        let j : k ≡ w.by_number.place = omega (arith, w.by_number.counts) in
        let same : rule ≡ w.by_number.rule =
        one_get at.setting.now.spec.now.rules k w.by_number.place rule w.by_number.rule listed
        w.by_number.is j in
        let root : has_head f w.by_number.rule.left ≡ true =
        instance_head at.setting.now.spec.now.sig w.by_number.rule.left f w.fits.terms ts
        (left_there w) (instance_there w ∙ sym e) in
        let q : ◌≡◌ {A = Bool} true false = sym root
        ∙ ap (λ (r : Rule). has_head f r.left) (sym same) ∙ other in
        cc)
