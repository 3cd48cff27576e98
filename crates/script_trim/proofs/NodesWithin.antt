-- The nodes of a block are within the limits of clauses.
use Rattle.std.proofs.Common.{◌≡◌, ℕ, suc, List, [], ◌∷◌, ◌++◌, Ok, Err, inl, inr, sym, subst, append_assoc}
use Rattle.std.specs.Prelude.{flat_map}
use Rattle.std.specs.List.{AllByRecursion}
use Rattle.std.proofs.lemmas.List.{append-nil}
use Rattle.term_core.specs.Tree.{Tree}
use Rattle.term_core.proofs.Items.{all_append}
use Rattle.spec_core.specs.declared.records.Spec.{Spec}
use Rattle.clause_core.specs.declared.answers.Child.{Child}
use Rattle.clause_core.specs.declared.answers.Children.{Children}
use Rattle.clause_core.specs.declared.answers.Why.TheVariants.{Limit}
use Rattle.clause_core.specs.declared.clauses.Clause.{Clause}
use Rattle.clause_core.specs.declared.steps.Step.{Step}
use Rattle.clause_core.specs.Limits.{IsWithin}
use Rattle.clause_core.specs.Rows.{Row, needs, makes}
use Rattle.clause_core.specs.Says.{AreWithin, Says}
use Rattle.clause_core.specs.Steps.{row_of}
use Rattle.acceptance.specs.Blocks.{clauses_of, StepsMake}
use Rattle.script_trim.proofs.AllItems.{all_mapped}

module _ (above : Tree → Tree → Type 0) where
  -- what a row makes is within the limits
  says_within :
      (c : Clause) (nodes : List Clause) (row : Row) (m : Children) →
      Says above c nodes row (Ok m) → AreWithin nodes m.clauses
  says_within c nodes (needs P why rest) m (inl (p, s)) = says_within c nodes (rest p) m s
  says_within c nodes (needs P why rest) m (inr (n, e)) =
      absurd (let q : Ok m ≡ Err why = e in cc)
  says_within c nodes (makes cs refs) m (made, kids, rs, inl (few, e)) =
      let q : Ok m ≡ Ok made = e in
      let k : m ≡ made = cc in
      subst (λ (x : Children). AreWithin nodes x.clauses) (sym k) few
  says_within c nodes (makes cs refs) m (made, kids, rs, inr (n, e)) =
      absurd (let q : Ok m ≡ Err Limit = e in cc)

  -- so if the first nodes are, all nodes are
  pub nodes_within :
      (spec : Spec) (usable : ℕ → Type 0) (nodes : List Clause) (k : ℕ) (steps : List Step)
      (made : List Children) → StepsMake above spec usable nodes k steps made →
      AllByRecursion IsWithin nodes → AllByRecursion IsWithin (nodes ++ flat_map clauses_of made)
  nodes_within spec usable nodes k [] [] p h =
      subst (λ ns. AllByRecursion IsWithin ns) (sym (append-nil nodes)) h
  nodes_within spec usable nodes k [] (m ∷ made) p h = absurd p
  nodes_within spec usable nodes k (s ∷ steps) [] p h = absurd p
  nodes_within spec usable nodes k (s ∷ steps) (m ∷ made) p h =
      let row = row_of spec usable nodes p.0.clause s in
      let within = says_within p.0.clause nodes row m p.0.says in
      let next = all_mapped IsWithin (λ (d : Child). d.clause) m.clauses within.0 in
      let more = all_append IsWithin nodes (clauses_of m) h next in
      subst (λ ns. AllByRecursion IsWithin ns)
      (append_assoc nodes (clauses_of m) (flat_map clauses_of made))
      (nodes_within spec usable (nodes ++ clauses_of m) (suc k) steps made p.1 more)
