-- A closing step makes no children.
use Rattle.std.proofs.Common.{◌≡◌, ℕ, List, [], ◌∷◌, Ok, Err, inl, inr, refl, ◌∙◌, ap}
use Rattle.std.specs.Prelude.{Contains}
use Rattle.std.specs.List.{AllZip}
use Rattle.term_core.specs.Tree.{Tree}
use Rattle.spec_core.specs.declared.records.Goal.{Goal}
use Rattle.spec_core.specs.declared.records.Spec.{Spec}
use Rattle.clause_core.specs.declared.answers.Child.{Child}
use Rattle.clause_core.specs.declared.answers.Children.{Children}
use Rattle.clause_core.specs.declared.answers.Why.TheVariants.{Limit}
use Rattle.clause_core.specs.declared.clauses.Clause.{Clause}
use Rattle.clause_core.specs.declared.steps.Step.{Step}
use Rattle.clause_core.specs.declared.steps.Step.TheVariants.{Trivial, Match, Absurd, Subsume, ByLemma}
use Rattle.clause_core.specs.Rows.{Made, Row, needs, makes}
use Rattle.clause_core.specs.Says.{IsChild, Says}
use Rattle.clause_core.specs.Steps.{row_of}
use Rattle.acceptance.specs.Blocks.{StepMakes}
use Rattle.script_trim.specs.Closing.{closing_steps}
use Rattle.script_trim.proofs.AllItems.{all_of}
use Rattle.script_trim.proofs.ClosingKinds.{as_lemma, HoldsOfKinds, closing_has}

-- one of the five steps that make no children
abbrev pub MakesNone : Step → Type 0
MakesNone (Trivial k) = Unit {0}
MakesNone (Match k j) = Unit {0}
MakesNone (Absurd j) = Unit {0}
MakesNone (Subsume j terms) = Unit {0}
MakesNone (ByLemma name terms) = Unit {0}
MakesNone step = ⊥

pub closing_makes_none :
    (spec : Spec) (nodes : List Clause) (c : Clause) (step : Step) →
    Contains (closing_steps spec nodes c) step → MakesNone step
closing_makes_none spec nodes c step has =
    let kinds : HoldsOfKinds MakesNone spec nodes c = record {
      trivials = λ k b. tt;
      matches = λ k j b a. tt;
      absurds = λ j a. tt;
      others = λ k d below. tt;
      lemmas = all_of (λ (goal : Goal). MakesNone (as_lemma goal)) spec.goals (λ goal. tt);
    } in
    closing_has MakesNone spec nodes c kinds step has

-- the row makes no children
abbrev NoChildren : Row → Type 0
NoChildren (needs P why rest) = (p : P) → NoChildren (rest p)
NoChildren (makes children refs) = children ≡ []

rows_none :
    (spec : Spec) (usable : ℕ → Type 0) (nodes : List Clause) (c : Clause) (step : Step) → MakesNone step →
    NoChildren (row_of spec usable nodes c step)
rows_none spec usable nodes c (Trivial k) h = λ at same. refl
rows_none spec usable nodes c (Match k j) h = λ at same. refl
rows_none spec usable nodes c (Absurd j) h = λ at clash. refl
rows_none spec usable nodes c (Subsume j terms) h = λ node sorted within subsumes. refl
rows_none spec usable nodes c (ByLemma name terms) h = λ lemma sorted within subsumes. refl
rows_none spec usable nodes c step h = absurd h

module _ (above : Tree → Tree → Type 0) (c : Clause) where
  none_made :
      (children : List Made) (made : List Child) → children ≡ [] → AllZip (IsChild above c) children made → made ≡ []
  none_made [] [] e p = refl
  none_made [] (m ∷ made) e p = absurd p
  none_made (d ∷ children) made e p = absurd (let q : d ∷ children ≡ [] = e in cc)

  says_none :
      (nodes : List Clause) (row : Row) → NoChildren row → (m : Children) → Says above c nodes row (Ok m) →
      m.clauses ≡ []
  says_none nodes (needs P why rest) h m (inl (p, s)) = says_none nodes (rest p) (h p) m s
  says_none nodes (needs P why rest) h m (inr (n, e)) = absurd (let q : Ok m ≡ Err why = e in cc)
  says_none nodes (makes children refs) h m (made, cs, rs, inl (few, e)) =
      let q : Ok m ≡ Ok made = e in
      let k : m ≡ made = cc in
      ap (λ (x : Children). x.clauses) k ∙ none_made children made.clauses h cs
  says_none nodes (makes children refs) h m (made, cs, rs, inr (few, e)) = absurd (let q : Ok m ≡ Err Limit = e in cc)

module _ (above : Tree → Tree → Type 0) (spec : Spec) (usable : ℕ → Type 0) where
  pub none_by :
      (nodes : List Clause) (k : ℕ) (step : Step) (m : Children) → StepMakes above spec usable nodes k step m →
      MakesNone step → m.clauses ≡ []
  none_by nodes k step m p h =
      says_none above p.clause nodes (row_of spec usable nodes p.clause step)
      (rows_none spec usable nodes p.clause step h) m p.says
