-- `solve` says one thing.
use Rattle.std.proofs.Common.{◌≡◌, ℕ, [], ◌∷◌, false, refl, sym, ◌∙◌, subst}
use Rattle.term_core.specs.Tree.{Tree, var, app}
use Rattle.spec_core.specs.declared.records.Equation.{Equation}
use Rattle.spec_core.specs.declared.records.Spec.{Spec}
use Rattle.spec_core.specs.Sig.{Sig}
use Rattle.clause_core.specs.declared.clauses.Clause.{Clause}
use Rattle.clause_core.specs.declared.clauses.Relation.TheVariants.{Less}
use Rattle.clause_core.specs.Rows.{child}
use Rattle.clause_core.specs.Solving.{Solves, IsSolved, solve_row}
use Rattle.clause_core.specs.Instances.{with_term}
use Rattle.clause_core.proofs.OneAnswer.{Agree, forth, back}
use Rattle.clause_core.proofs.OnePlace.{equation_one, exchanged_one}

-- an equation solves one variable by one term
solves_one : (l r : Tree) (m n : ℕ) (t u : Tree) → Solves l r m t → Solves l r n u → (m ≡ n) × (t ≡ u)
solves_one (var k) r m n t u p q = (p.0 ∙ sym q.0, p.1 ∙ sym q.1)
solves_one (app f ts) (var k) m n t u p q = (p.0 ∙ sym q.0, p.1 ∙ sym q.1)
solves_one (app f ts) (app g us) m n t u p q = absurd p

solved_one : (sig : Sig) (e d : Equation) → e ≡ d → (a : IsSolved sig e) (b : IsSolved sig d) →
    (a.variable ≡ b.variable) × (a.term ≡ b.term)
solved_one sig e d q a b = solves_one e.left e.right a.variable b.variable a.term b.term a.solves
    (subst (λ (x : Equation). Solves x.left x.right b.variable b.term) (sym q) b.solves)

module _ (spec : Spec) (c : Clause) where
  pub solve_one : (n : ℕ) → Agree (solve_row spec c n) (solve_row spec c n)
  solve_one n = (
    λ p. p,
    λ p. p,
    refl,
    λ at bt.
        let e = equation_one c.premises n at bt in
        let k = exchanged_one false c n at bt [] in (
          forth (λ x. IsSolved spec.sig x) e.1,
          back (λ x. IsSolved spec.sig x) e.1,
          refl,
          λ a b.
              let s = solved_one spec.sig at.equation bt.equation e.1 a b in
              (λ i. child Less (with_term c.ctx (k i) (s.0 i) (s.1 i)) ∷ [], refl),
        ),
  )
