use Rattle.std.proofs.Common.{◌≡◌, Some, ap, sym, ◌∙◌}
use Rattle.term_core.specs.Tree.{var, app, trees_of}
use Rattle.term_core.specs.View.{tree_of}
use Rattle.term_core.proofs.Trees.{list_of-trees_of}
use Rattle.rule_code.specs.Symbols.{symbol_at, arguments_of}
use Rattle.rule_code.proofs.Looking.{nothing_at}
use Rattle.rule_code.proofs.symbols.Path.symbol_in.Goals as goal

pub returns-in-Var : goal.returns-in-Var
returns-in-Var c =
    let argument = c.args.self.now.argument in
    let below = c.args.self.now.below.items in
    let e : var c.in-Var.field-0.0 ≡ c.args.rule.now.left = ap tree_of (sym c.in-Var.is) ∙ c.left.view_is in
    sym (nothing_at below argument) ∙ ap (λ z. symbol_at argument below (arguments_of (Some z))) e

pub returns-in-App : goal.returns-in-App
returns-in-App c =
    let argument = c.args.self.now.argument in
    let below = c.args.self.now.below.items in
    let e : app c.in-App.field-0.0 (trees_of c.in-App.args) ≡ c.args.rule.now.left = ap tree_of
    (sym c.in-App.is) ∙ c.left.view_is in
    c.symbol_at.ensures ∙ ap (λ z. symbol_at argument z c.as_slice.result.now) c.deref.ensures.value
    ∙ ap (λ z. symbol_at argument below z) (c.as_slice.ensures ∙ sym (list_of-trees_of c.in-App.args))
    ∙ ap (λ z. symbol_at argument below (arguments_of (Some z))) e
