use Rattle.std.proofs.Common.{rules, ◌≡◌, ◌↔◌, ℕ, List, Bool, IsTrue, Option, map, ap, sym, ◌∙◌}
use Rattle.term_core.specs.Tree.{Tree, app, trees_of}
use Rattle.term_core.specs.View.{tree_of}
use Rattle.term_core.proofs.Trees.{trees_of-inj, args_eq}
use Rattle.substitutions.specs.Substitution.{apply}
use Rattle.substitutions.proofs.Instances.{apply_all-trees_of}
use Rattle.cond_rewrite.proofs.instances.+is_instance.Goals as goal

-- an application is an instance if its arguments are
applications :
    (s : List (Option Tree)) (p t : Tree) (f g : ℕ) (patterns terms : List Tree) (r : Bool) →
    app f (trees_of patterns) ≡ p → app g (trees_of terms) ≡ t → g ≡ f →
    IsTrue r ↔ (terms ≡ map (apply s) patterns) → IsTrue r ↔ (t ≡ apply s p)
applications s p t f g patterns terms r e d h same =
    let whole : apply s p ≡ app f (trees_of (map (apply s) patterns)) = ap (λ u. apply s u) (sym e)
    ∙ ap (λ us. app f us) (apply_all-trees_of s patterns) in (
      λ y. sym d ∙ (λ i. app (h i) (trees_of (same.0 y i))) ∙ sym whole,
      λ q. same.1 (trees_of-inj terms (map (apply s) patterns) (args_eq (d ∙ q ∙ whole))),
    )

pub is_instance-returns-then-eq : goal.is_instance-returns-then-eq
is_instance-returns-then-eq t c =
    applications c.args.theta.now.terms c.args.pattern.now c.args.term.now c.in-App-App.f.0 c.in-App-App.g.0
    c.as_slice.result.now c.as_slice-then-eq.result.now c.are_instances.result
    (ap (λ ts. app c.in-App-App.f.0 (trees_of ts)) c.as_slice.ensures ∙ ap tree_of (sym c.in-App-App.is-0)
    ∙ c.pattern.view_is)
    (ap (λ ts. app c.in-App-App.g.0 (trees_of ts)) c.as_slice-then-eq.ensures
    ∙ ap tree_of (sym c.in-App-App.is-1) ∙ c.term.view_is)
    (search rules) c.are_instances.ensures
