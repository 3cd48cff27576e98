use Rattle.std.proofs.Common.{◌≡◌, ap, sym, ◌∙◌}
use Rattle.clause_core.specs.declared.clauses.Clause.{Clause}
use Rattle.clause_core.specs.Instances.{variables}
use Rattle.script_trim.specs.Closing.{own_variables}
use Rattle.clause_core.specs.Tidied.{goal_clause}
use Rattle.script_trim.proofs.OwnTerms.{of_goal}
use Rattle.script_trim.proofs.closing.is_whole_goal.Goals as goal

pub returns-in_ok-clause-in-Some : goal.returns-in_ok-clause-in-Some
returns-in_ok-clause-in-Some c =
    let same : variables 0 c.len.result ≡ own_variables (goal_clause c.in-Some.goal.now) =
    ap (λ n. variables 0 n) c.len.ensures ∙ ap (λ (d : Clause). own_variables d) c.in_ok-clause-in-Some.ensures in
    of_goal c.args.spec.now c.requires c.in-Some._number c.in-Some.goal.now c.args.name.now c.args.terms.now
    c.are_variables.result c.in-Some.ensures.0 c.in-Some.ensures.1
    (λ y. c.are_variables.ensures.0 y ∙ same, λ e. c.are_variables.ensures.1 (e ∙ sym same))

pub returns-in-None : goal.returns-in-None
returns-in-None c = (λ y. absurd (cc), λ p. absurd (c.in-None.ensures p.0 p.1 p.2 p.3))
