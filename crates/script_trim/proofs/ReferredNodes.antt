-- The nodes that a step refers to are those that it names.
use Rattle.std.proofs.Common.{◌≡◌, ℕ, zero, suc, ◌+◌, List, [], ◌∷◌, ◌++◌, Bool, true, Some, None, Ok, Err, inl, inr}
use Rattle.std.proofs.Common.{refl, sym, ◌∙◌, ap, subst, arith}
use Rattle.std.specs.Prelude.{slice_get}
use Rattle.std.specs.List.{AllByRecursion, AllZip}
use Rattle.term_core.specs.Tree.{Tree}
use Rattle.spec_core.specs.declared.records.Spec.{Spec}
use Rattle.clause_core.specs.declared.answers.Children.{Children}
use Rattle.clause_core.specs.declared.answers.Reference.{Reference}
use Rattle.clause_core.specs.declared.answers.Why.TheVariants.{Limit}
use Rattle.clause_core.specs.declared.clauses.Clause.{Clause}
use Rattle.clause_core.specs.declared.steps.Step.{Step}
use Rattle.clause_core.specs.declared.steps.Step.TheVariants.{Trivial, Match, Absurd, Subsume, ByLemma, Rule, Case}
use Rattle.clause_core.specs.declared.steps.Step.TheVariants.{Decompose, Clash, Drop, Solve, Cover, Generalize}
use Rattle.clause_core.specs.declared.steps.Step.TheVariants.{Context, Hyp, Lemma}
use Rattle.clause_core.specs.Rows.{Row, needs, makes}
use Rattle.clause_core.specs.Says.{IsReference, Says}
use Rattle.clause_core.specs.Steps.{row_of}
use Rattle.acceptance.specs.Blocks.{clauses_of, StepMakes, StepsMake}
use Rattle.script_trim.specs.Cut.{RefersToStaying}

module _ (stays : ℕ → Bool) where
  -- the references of a row are to nodes that stay
  abbrev RefersThere : Row → Type 0
  RefersThere (needs P why rest) = (p : P) → RefersThere (rest p)
  RefersThere (makes children refs) = AllByRecursion (λ (r : ℕ × Clause). stays r.0 ≡ true) refs

  rows_refer :
      (spec : Spec) (usable : ℕ → Type 0) (nodes : List Clause) (c : Clause) (step : Step) →
      RefersToStaying stays step → RefersThere (row_of spec usable nodes c step)
  rows_refer spec usable nodes c (Trivial k) h = λ at same. tt
  rows_refer spec usable nodes c (Match k j) h = λ at same. tt
  rows_refer spec usable nodes c (Absurd j) h = λ at clash. tt
  rows_refer spec usable nodes c (Subsume j terms) h = λ node sorted within subsumes. (h, tt)
  rows_refer spec usable nodes c (ByLemma name terms) h = λ lemma sorted within subsumes. tt
  rows_refer spec usable nodes c (Rule place n) h = λ at rule fits. tt
  rows_refer spec usable nodes c (Case place n) h = λ at rule fits. tt
  rows_refer spec usable nodes c (Decompose kind n) h = λ at heads. tt
  rows_refer spec usable nodes c (Clash n) h = λ at clash. tt
  rows_refer spec usable nodes c (Drop kind n) h = λ at. tt
  rows_refer spec usable nodes c (Solve n) h = λ at solved. tt
  rows_refer spec usable nodes c (Cover v patterns) h = λ are covering. tt
  rows_refer spec usable nodes c (Generalize t) h = λ general stands. tt
  rows_refer spec usable nodes c (Context place n left) h = λ at same. tt
  rows_refer spec usable nodes c (Hyp j terms place left) h = λ node sorted within at rewrites. (h, tt)
  rows_refer spec usable nodes c (Lemma name terms place left) h = λ lemma sorted within at rewrites. tt

  module _ (above : Tree → Tree → Type 0) (c : Clause) where
    refs_there :
        (refs : List (ℕ × Clause)) (made : List Reference) →
        AllByRecursion (λ (r : ℕ × Clause). stays r.0 ≡ true) refs → AllZip (IsReference above c) refs made →
        (a : ℕ) (r : Reference) → slice_get made a ≡ Some r → stays r.node ≡ true
    refs_there [] [] h p a r at = absurd (let q : None ≡ Some r = at in cc)
    refs_there [] (m ∷ made) h p a r at = absurd p
    refs_there (s ∷ refs) [] h p a r at = absurd p
    refs_there (s ∷ refs) (m ∷ made) h p zero r at =
        let q : Some m ≡ Some r = at in
        let e : m ≡ r = cc in
        ap (λ (x : Reference). stays x.node) (sym e) ∙ ap stays p.0.0 ∙ h.0
    refs_there (s ∷ refs) (m ∷ made) h p (suc a) r at = refs_there refs made h.1 p.1 a r at

    says_there :
        (nodes : List Clause) (row : Row) → RefersThere row → (m : Children) → Says above c nodes row (Ok m) →
        (a : ℕ) (r : Reference) → slice_get m.refs a ≡ Some r → stays r.node ≡ true
    says_there nodes (needs P why rest) h m (inl (p, s)) a r at = says_there nodes (rest p) (h p) m s a r at
    says_there nodes (needs P why rest) h m (inr (n, e)) a r at = absurd (let q : Ok m ≡ Err why = e in cc)
    says_there nodes (makes children refs) h m (made, cs, rs, inl (few, e)) a r at =
        let q : Ok m ≡ Ok made = e in
        let k : m ≡ made = cc in
        refs_there refs made.refs h rs a r (subst (λ (x : Children). slice_get x.refs a ≡ Some r) k at)
    says_there nodes (makes children refs) h m (made, cs, rs, inr (few, e)) a r at =
        absurd (let q : Ok m ≡ Err Limit = e in cc)

  module _ (above : Tree → Tree → Type 0) (spec : Spec) (usable : ℕ → Type 0) where
    pub made_there :
        (nodes : List Clause) (k : ℕ) (step : Step) (m : Children) → StepMakes above spec usable nodes k step m →
        RefersToStaying stays step → (a : ℕ) (r : Reference) → slice_get m.refs a ≡ Some r → stays r.node ≡ true
    made_there nodes k step m p h a r at =
        says_there above p.clause nodes (row_of spec usable nodes p.clause step)
        (rows_refer spec usable nodes p.clause step h) m p.says a r at

-- the step that makes what node k makes
module _ (above : Tree → Tree → Type 0) (spec : Spec) (usable : ℕ → Type 0) where
  pub step_at :
      (nodes : List Clause) (n : ℕ) (steps : List Step) (made : List Children) →
      StepsMake above spec usable nodes n steps made → (k : ℕ) (m : Children) → slice_get made k ≡ Some m →
      (step : Step) × (over : List Clause) × (slice_get steps k ≡ Some step) ×
      StepMakes above spec usable over (n + k) step m
  step_at nodes n [] [] p k m at = absurd (let q : None ≡ Some m = at in cc)
  step_at nodes n [] (x ∷ made) p k m at = absurd p
  step_at nodes n (s ∷ steps) [] p k m at = absurd p
  step_at nodes n (s ∷ steps) (x ∷ made) p zero m at =
      let q : Some x ≡ Some m = at in
      let e : x ≡ m = cc in
      let z : n ≡ n + 0 = omega arith in (
        s,
        nodes,
        refl,
        subst (λ y. StepMakes above spec usable nodes (n + 0) s y) e
            (subst (λ j. StepMakes above spec usable nodes j s x) z p.0),
      )
  step_at nodes n (s ∷ steps) (x ∷ made) p (suc k) m at =
      let r = step_at (nodes ++ clauses_of x) (suc n) steps made p.1 k m at in
      let z : suc n + k ≡ n + suc k = omega arith in
      (r.0, r.1, r.2, subst (λ j. StepMakes above spec usable r.1 j r.0 m) z r.3)
