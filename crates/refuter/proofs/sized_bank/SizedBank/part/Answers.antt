use Rattle.std.proofs.Common.{sym, subst, map}
use Rattle.term_core.specs.Tree.{trees_of}
use Rattle.term_core.proofs.Items.{if_ok_map}
use Rattle.value_bank.specs.Cells.{AreTerms}
use Rattle.value_bank.specs.declared.bank.ValueId.{ValueId}
use Rattle.ground_eval.specs.Opened.{AreFirstValues}
use Rattle.refuter.proofs.Sizing.{sizes_kept}
use Rattle.refuter.proofs.Steps.{at_places}
use Rattle.refuter.proofs.sized_bank.SizedBank.part.Goals as goal

pub invariant_of-self : goal.invariant_of-self
invariant_of-self c = sizes_kept c.self.inside.bank c.verdict_part.new.bank c.self.inside.sizes.items
    c.verdict_part.ensures.adds c.self.invariant

pub returns-clause-part : goal.returns-clause-part
returns-clause-part c =
    let spec = c.args.prepared.now.spec in
    let aim = c.args.prepared.now.goal in
    if_ok_map c.verdict_part.result _ _ (λ part h firsts stand.
    h firsts (subst (λ ids. AreTerms c.self.inside.bank (map (λ (id : ValueId). id.0) ids) (trees_of firsts))
    (sym c.deref.ensures.value) (subst (λ ps. AreTerms c.self.inside.bank ps (trees_of firsts))
    (sym c.in_ok-ids.ensures) (subst (λ cells. AreTerms cells c.args.places.now (trees_of firsts))
    (sym c.self.view_is) stand)))
    (at_places c.args.self.now c.args.places.now (λ vs. AreFirstValues spec aim vs) c.requires.values.0
    c.requires.values.1 c.requires.values.2 firsts stand)) c.verdict_part.ensures.part
