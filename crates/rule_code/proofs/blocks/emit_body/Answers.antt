use Rattle.std.proofs.Common.{◌≡◌, ap, sym, ◌∙◌, subst}
use Rattle.term_core.specs.Tree.{app, trees_of}
use Rattle.term_core.specs.View.{tree_of}
use Rattle.term_core.specs.Variables.{Occurs, OccursAny}
use Rattle.rule_code.proofs.blocks.emit_body.Goals as goal

pub emit_all-requires-clause-variables : goal.emit_all-requires-clause-variables
emit_all-requires-clause-variables c n o =
    let e : app c.in-App.sym.0 (trees_of c.in-App.args) ≡ c.args.term.now = ap tree_of (sym c.in-App.is)
    ∙ c.term.view_is in
    c.requires.variables n (subst (λ z. Occurs n z) e (subst (λ z. OccursAny n (trees_of z)) c.as_slice.ensures o))
