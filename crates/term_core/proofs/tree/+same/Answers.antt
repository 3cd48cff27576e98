use Rattle.std.proofs.Common.{rules, ◌≡◌, ap, sym, ◌∙◌}
use Rattle.term_core.specs.View.{tree_of}
use Rattle.term_core.proofs.Trees.{same_app}
use Rattle.term_core.proofs.tree.+same.Goals as goal
use Rattle.term_core.proofs.tree.+same.Goals.{Term::same-then-eq, Term::same-else-eq}

pub Term::same-returns-then-eq-2 : goal.Term::same-returns-then-eq-2
Term::same-returns-then-eq-2 t c =
    let x = c.as_slice.ensures in
    let y = c.as_slice-then-eq-2.ensures in
    let heads : c.in-App-App.f.0 ≡ c.in-App-App.g.0 = elim c.if-eq.branch [
      | Term::same-then-eq w ↦ search rules
      | Term::same-else-eq w ↦ absurd (search rules)
    ] in
    same_app _ _ c.in-App-App.f.0 c.in-App-App.g.0 c.in-App-App.xs c.in-App-App.ys _
    (ap tree_of (sym c.in-App-App.is-0) ∙ c.self.view_is)
    (ap tree_of (sym c.in-App-App.is-1) ∙ c.other.view_is) heads
    (rw (← x, ← y) c.same_all.ensures)
