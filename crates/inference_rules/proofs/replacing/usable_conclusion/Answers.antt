use Rattle.std.proofs.Common.{◌≡◌, [], ap, sym, ◌∙◌, length}
use Rattle.std.proofs.lemmas.Bool.Decides.{Decides-eqb}
use Rattle.substitutions.specs.Substitution.{apply}
use Rattle.inference_rules.proofs.ReplacedTerms.{rewrites, no_items}
use Rattle.inference_rules.proofs.replacing.usable_conclusion.Goals as goal

pub returns : goal.returns
returns c =
    let empty : length c.in-Some.others.now ≡ 0 = (Decides-eqb (length c.in-Some.others.now) 0).0
    (sym c.is_empty.ensures ∙ c.if-not-is_empty.false) in
    let none : c.in-Some.others.now ≡ [] = no_items c.in-Some.others.now empty in
    rewrites c.args.theta.now.terms c.args.here.now.ctx c.args.here.now c.args.clause.now c.args.term.now
    c.args.left c.in-Some.equation.now c.in-Some.others.now
    (sym c.as_slice.ensures ∙ c.in-Some.ensures) none
    (ap (λ u. apply c.args.theta.now.terms u) (sym c.side.ensures)
    ∙ sym (c.is_instance.ensures.0 c.if-not-is_instance.false))
    (c.in_ok-instances_are_there.ensures.0 c.if-not-branch.false)
