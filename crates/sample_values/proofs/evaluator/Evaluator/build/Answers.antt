use Rattle.std.proofs.Common.{sym, subst}
use Rattle.term_core.specs.Tree.{trees_of}
use Rattle.term_core.proofs.Items.{if_ok_map}
use Rattle.spec_core.specs.Sig.{IsConstructor}
use Rattle.value_bank.proofs.Placed.{terms_within}
use Rattle.sample_values.specs.Evaluators.{Evaluated, evaluated, CanApply}
use Rattle.sample_values.proofs.Applying.{built_given}
use Rattle.sample_values.proofs.Keeping.{evaluator_kept}
use Rattle.sample_values.proofs.evaluator.Evaluator.build.Goals as goal

pub add-requires : goal.add-requires
add-requires c =
    let can = subst (λ (e : Evaluated). CanApply e c.args.sym.0 c.args.places.now) (sym c.self.view_is)
    c.requires.can in
    terms_within c.self.inside.bank c.args.places.now (trees_of can.args.values) can.args.stand

pub invariant_of-self : goal.invariant_of-self
invariant_of-self c = evaluator_kept c.self.inside.spec.now c.self.inside.machine c.self.inside.sides.items
    c.self.inside.bank c.add.new.self c.self.inside.kept c.add.ensures.adds c.self.invariant

pub returns-clause-given : goal.returns-clause-given
returns-clause-given c =
    let now = evaluated c.self.inside.spec.now c.self.inside.bank in
    let can = subst (λ (e : Evaluated). CanApply e c.args.sym.0 c.args.places.now) (sym c.self.view_is)
    c.requires.can in
    let is = subst (λ (e : Evaluated). IsConstructor e.spec.sig c.args.sym.0) (sym c.self.view_is)
    c.requires.constructor in
    if_ok_map c.add.result _ _ (λ place at. built_given now c.args.sym.0 c.args.places.now can c.add.new.self
    place is c.add.ensures.adds at) c.add.ensures.found
