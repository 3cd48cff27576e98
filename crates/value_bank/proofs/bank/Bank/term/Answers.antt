use Rattle.std.proofs.Common.{[], ◌∷◌, Some, subst}
use Rattle.value_bank.specs.Answers.{IsOrderOr}
use Rattle.value_bank.specs.Preorders.{Makes}
use Rattle.value_bank.proofs.Orders.{ordered_term}
use Rattle.value_bank.proofs.bank.Bank.term.Goals as goal

pub returns : goal.returns
returns c =
    let h : IsOrderOr c.args.self.now c.args.id.0 (Some c.in-Ok-Some.order) = subst
    (λ o. IsOrderOr c.args.self.now c.args.id.0 o) c.in-Ok-Some.field-0-is c.in-Ok-Some.ensures in
    ordered_term c.args.self.now c.args.id.0 c.in-Ok-Some.order.items c.in-Ok.term h.0 h.1
    (subst (λ ps. Makes c.args.self.now ps (c.in-Ok.term ∷ [])) c.deref.ensures.value c.in-Ok.ensures)
