use Rattle.std.proofs.Common.{◌≡◌, ℕ, suc, Option, List, map, ap, sym, ◌∙◌, subst}
use Rattle.term_core.specs.Tree.{var, app, trees_of}
use Rattle.term_core.specs.View.{tree_of}
use Rattle.routine_proof.specs.declared.moves.Move.{Move}
use Rattle.routine_proof.specs.Candidates.{Gives, certain}
use Rattle.routine_proof.specs.Entries.{rules}
use Rattle.spec_core.specs.RuleTables.{numbers_of}
use Rattle.spec_core.proofs.RuleTables.{numbers_after}
use Rattle.proof_search.specs.Ruling.{ruling_step, rulings_by}
use Rattle.proof_search.specs.Taking.{SaysAt, IsFound, place_of, term_of}
use Rattle.term_core.proofs.Items.{if_ok_map}
use Rattle.proof_search.proofs.OtherRules.{none_at_variable, none_of_others}
use Rattle.proof_search.proofs.RuleNumbers.{by_all}
use Rattle.proof_search.proofs.ruling.ruling_at.Goals as goal

pub returns-in_default : goal.returns-in_default
returns-in_default g c =
    let at = c.args.at.now in
    let k = c.args.index in
    let n = c.in_default.field-0.0 in
    let e : var n ≡ term_of at k =
    ap tree_of (sym c.in_default.is) ∙ c.term.view_is ∙ c.term-term.ensures in
    none_at_variable (g.O.TermOrder.above c.args.order.now) at c.requires.at c.args.entry
    (place_of at k) c.requires.there.place (rules at.setting.now.spec.now) n
    (e ∙ sym c.requires.there.term)

pub returns : goal.returns
returns g c =
    let at = c.args.at.now in
    let above = g.O.TermOrder.above c.args.order.now in
    let f = c.in-App.sym.0 in
    let args = trees_of c.in-App.field-1 in
    let place = place_of at c.args.index in
    let e : app f args ≡ term_of at c.args.index =
    ap tree_of (sym c.in-App.is) ∙ c.term.view_is ∙ c.term-term.ensures in
    let listed = at.setting.now.spec.now.rules in
    let all = rulings_by c.args.entry place (rules at.setting.now.spec.now) in
    let numbers = map (λ k. suc k) c.rules_of.result.now in
    let are : numbers ≡ numbers_of f 1 listed =
    ap (λ ks. map (λ k. suc k) ks) (c.rules_of.ensures ∙ c.requires.at.setting.rules f)
    ∙ numbers_after f 0 listed in
    if_ok_map c.ruling_by.result
    (IsFound above at (rulings_by c.args.entry place numbers)) (IsFound above at all)
    (λ (found : Option Move) first.
    by_all (Gives (SaysAt above at)) (λ (n : ℕ). certain (ruling_step c.args.entry place n)) f
    listed
    (none_of_others above at c.requires.at c.args.entry place c.requires.there.place f args
    (e ∙ sym c.requires.there.term)) found
    (subst (λ (ns : List ℕ). IsFound above at (rulings_by c.args.entry place ns) found)
    are first))
    c.ruling_by.ensures
