use Rattle.std.proofs.Common.{[], ap, ◌∙◌, subst}
use Rattle.term_core.specs.Tree.{app, trees_of}
use Rattle.clause_core.specs.Instances.{variables}
use Rattle.substitutions.specs.Updates.{IsSetTo}
use Rattle.plain_proof.proofs.Replaced.{set_is_only}
use Rattle.plain_proof.proofs.cases.case_of.Goals as goal

pub returns : goal.returns
returns c u =
    let made = c.set.new.self.terms in
    let x = c.args.var.0 in
    let pattern = app c.args.sym.0 (trees_of (variables c.args.from c.args.count)) in
    let is = c.app-pattern.ensures ∙ ap (λ ts. app c.args.sym.0 (trees_of ts)) c.in_ok-fresh.ensures in
    set_is_only made x pattern
    (subst (λ t. IsSetTo [] x t made) is
    (subst (λ o. IsSetTo o x c.app-pattern.result made) c.new-made.ensures c.in_ok-set.ensures.set)) u
