use Rattle.std.proofs.Common.{◌≡◌, ℕ, true, false, inl, inr, not, ◌==◌, refl, ap, sym, ◌∙◌}
use Rattle.std.proofs.lemmas.Bool.Decides.{eqb_tells}
use Rattle.term_core.specs.Tree.{app, trees_of}
use Rattle.term_core.specs.View.{tree_of}
use Rattle.spec_core.specs.declared.records.Equation.{Equation}
use Rattle.inference_rules.proofs.Simplified.{same_heads}
use Rattle.inference_rules.proofs.simplifying.arguments_of.Goals as goal

same_number : (f g : ℕ) → false ≡ not (f == g) → f ≡ g
same_number f g e = elim (eqb_tells f g) [ inl p ↦ p.1 | inr p ↦ absurd (let q : false ≡ true = e ∙ ap not p.0 in cc) ]

pub returns : goal.returns
returns c =
    let left : c.args.equation.now.left ≡ app c.in-App-App.f.0 (trees_of c.in-App-App.lefts) = sym
    (ap (λ (e : Equation). e.left) c.equation.view_is) ∙ ap tree_of c.in-App-App.is-0 in
    let right : c.args.equation.now.right ≡ app c.in-App-App.g.0 (trees_of c.in-App-App.rights) = sym
    (ap (λ (e : Equation). e.right) c.equation.view_is) ∙ ap tree_of c.in-App-App.is-1 in
    let h = same_heads c.args.sig.now c.args.equation.now c.in-App-App.f.0 c.in-App-App.g.0 c.in-App-App.lefts
    c.in-App-App.rights left right (same_number c.in-App-App.f.0 c.in-App-App.g.0 c.if-ne.ensures)
    (c.if-not-is_constructor.ensures.0 refl) in
    (h.0, h.1 ∙ ap trees_of (sym c.as_slice.ensures), h.2 ∙ ap trees_of (sym c.as_slice-2.ensures))
