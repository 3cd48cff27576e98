-- A block whose steps make something has at most 10,000 nodes.
use Rattle.std.proofs.Common.{◌≡◌, ℕ, suc, ◌+◌, ◌≤◌, List, [], ◌∷◌, ◌++◌, Ok, Err, inl, inr, ap, arith, length}
use Rattle.std.proofs.Common.{length-append}
use Rattle.std.proofs.lemmas.List.{length-map}
use Rattle.term_core.specs.Tree.{Tree}
use Rattle.spec_core.specs.declared.records.Spec.{Spec}
use Rattle.clause_core.specs.declared.answers.Child.{Child}
use Rattle.clause_core.specs.declared.answers.Children.{Children}
use Rattle.clause_core.specs.declared.answers.Why.TheVariants.{Limit}
use Rattle.clause_core.specs.declared.clauses.Clause.{Clause}
use Rattle.clause_core.specs.declared.steps.Step.{Step}
use Rattle.clause_core.specs.Rows.{Row, needs, makes}
use Rattle.clause_core.specs.Says.{Says}
use Rattle.clause_core.specs.Steps.{row_of}
use Rattle.acceptance.specs.Blocks.{clauses_of, StepsMake}
use Rattle.block_steps.proofs.ChildNumbers.{counted, counted_cons}

module _ (above : Tree → Tree → Type 0) where
  says_few :
      (c : Clause) (nodes : List Clause) (row : Row) (m : Children) → Says above c nodes row (Ok m) →
      length nodes + length m.clauses ≤ 10000
  says_few c nodes (needs P why rest) m (inl (p, s)) = says_few c nodes (rest p) m s
  says_few c nodes (needs P why rest) m (inr (n, e)) = absurd (let q : Ok m ≡ Err why = e in cc)
  says_few c nodes (makes cs refs) m (made, kids, rs, inl (few, e)) =
      let q : Ok m ≡ Ok made = e in
      let k : m ≡ made = cc in
      omega (arith, few.1, ap (λ (x : Children). length x.clauses) k)
  says_few c nodes (makes cs refs) m (made, kids, rs, inr (n, e)) = absurd (let q : Ok m ≡ Err Limit = e in cc)

  pub nodes_few :
      (spec : Spec) (usable : ℕ → Type 0) (nodes : List Clause) (k : ℕ) (s : Step) (steps : List Step) (m : Children)
      (made : List Children) → StepsMake above spec usable nodes k (s ∷ steps) (m ∷ made) →
      length nodes + counted (m ∷ made) ≤ 10000
  nodes_few spec usable nodes k s [] m [] p =
      omega (arith, says_few p.0.clause nodes (row_of spec usable nodes p.0.clause s) m p.0.says, counted_cons m [])
  nodes_few spec usable nodes k s [] m (n ∷ made) p = absurd p.1
  nodes_few spec usable nodes k s (t ∷ steps) m [] p = absurd p.1
  nodes_few spec usable nodes k s (t ∷ steps) m (n ∷ made) p =
      omega (
        arith,
        nodes_few spec usable (nodes ++ clauses_of m) (suc k) t steps n made p.1,
        length-append nodes (clauses_of m),
        length-map m.clauses (λ (x : Child). x.clause),
        counted_cons m (n ∷ made),
      )
