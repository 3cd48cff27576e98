use Rattle.std.proofs.Common.{ap, sym, ◌∙◌}
use Rattle.clause_core.specs.Instances.{variables}
use Rattle.script_trim.proofs.OwnTerms.{of_node, of_no_node}
use Rattle.script_trim.proofs.closing.is_whole_node.Goals as goal

pub returns-in-Some : goal.returns-in-Some
returns-in-Some c = of_node c.args.nodes.now c.args.number c.in-Some.node.now c.args.terms.now
    c.are_variables.result c.in-Some.ensures.lookup.3.0 c.in-Some.ensures.lookup.1 (
      λ y. c.are_variables.ensures.0 y ∙ ap (λ n. variables 0 n) c.len.ensures,
      λ e. c.are_variables.ensures.1 (e ∙ ap (λ n. variables 0 n) (sym c.len.ensures)),
    )

pub returns-in-None : goal.returns-in-None
returns-in-None c = (
  λ y. absurd (cc),
  λ p. absurd (of_no_node c.args.nodes.now c.args.number p.0
      c.in-None.ensures.lookup.3 p.1),
)
