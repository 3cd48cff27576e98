-- `decompose`, `clash` and `drop` say one thing.
use Rattle.std.proofs.Common.{◌≡◌, ℕ, List, [], ◌∷◌, Bool, true, false, map, refl, ap, sym, ◌∙◌}
use Rattle.term_core.proofs.Trees.{args_eq}
use Rattle.spec_core.specs.declared.records.Equation.{Equation}
use Rattle.spec_core.specs.declared.records.Spec.{Spec}
use Rattle.spec_core.specs.Sig.{Sig}
use Rattle.clause_core.specs.declared.clauses.Clause.{Clause}
use Rattle.clause_core.specs.declared.clauses.Relation.TheVariants.{Less}
use Rattle.clause_core.specs.NumberedEquations.{EquationAt, equations}
use Rattle.clause_core.specs.Clashes.{Clash}
use Rattle.clause_core.specs.Rows.{child}
use Rattle.clause_core.specs.Simplifying.{SameHeads, pairs, taken_apart, decompose_row, clash_row, drop_row}
use Rattle.clause_core.proofs.OneAnswer.{Agree, forth, back}
use Rattle.clause_core.proofs.OnePlace.{equation_one, exchanged_one}

heads_one : (sig : Sig) (e d : Equation) → e ≡ d → (a : SameHeads sig e) (b : SameHeads sig d) →
    (a.lefts ≡ b.lefts) × (a.rights ≡ b.rights)
heads_one sig e d q a b = (
  args_eq (sym a.is_left ∙ ap (λ (x : Equation). x.left) q ∙ b.is_left),
  args_eq (sym a.is_right ∙ ap (λ (x : Equation). x.right) q ∙ b.is_right),
)

module _ (spec : Spec) (c : Clause) where
  taken_apart_one : (kind : Bool) (n : ℕ) (a b : EquationAt (equations kind c) n) (es : List Equation) →
      taken_apart spec c kind a es ≡ taken_apart spec c kind b es
  taken_apart_one false n a b es = let k = exchanged_one false c n a b es in λ i. child Less (k i) ∷ []
  taken_apart_one true n a b es = let k = λ (e : Equation). exchanged_one true c n a b (e ∷ []) in
      λ i. map (λ e. child Less (k e i)) es

  pub decompose_one : (kind : Bool) (n : ℕ) → Agree (decompose_row spec c kind n) (decompose_row spec c kind n)
  decompose_one kind n = (
    λ p. p,
    λ p. p,
    refl,
    λ at bt.
        let e = equation_one (equations kind c) n at bt in (
          forth (λ x. SameHeads spec.sig x) e.1,
          back (λ x. SameHeads spec.sig x) e.1,
          refl,
          λ a b.
              let h = heads_one spec.sig at.equation bt.equation e.1 a b in (
                taken_apart_one kind n at bt (pairs a.lefts a.rights)
                    ∙ (λ i. taken_apart spec c kind bt (pairs (h.0 i) (h.1 i))),
                refl,
              ),
        ),
  )

  pub clash_one : (n : ℕ) → Agree (clash_row spec c n) (clash_row spec c n)
  clash_one n = (
    λ p. p,
    λ p. p,
    refl,
    λ at bt.
        let e = equation_one c.conclusions n at bt in
        let k = exchanged_one true c n at bt [] in (
          forth (λ (x : Equation). Clash spec.sig x.left x.right) e.1,
          back (λ (x : Equation). Clash spec.sig x.left x.right) e.1,
          refl,
          λ p q. (λ i. child Less (k i) ∷ [], refl),
        ),
  )

  pub drop_one : (kind : Bool) (n : ℕ) → Agree (drop_row spec c kind n) (drop_row spec c kind n)
  drop_one kind n = (
    λ p. p,
    λ p. p,
    refl,
    λ at bt. let k = exchanged_one kind c n at bt [] in
        (λ i. child Less (k i) ∷ [], refl),
  )
