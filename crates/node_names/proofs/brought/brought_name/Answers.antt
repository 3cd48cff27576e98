use Rattle.std.specs.Prelude.{Contains}
use Rattle.std.proofs.lemmas.List.Elements.{All-contains}
use Rattle.node_names.specs.Names.{IsDerived}
use Rattle.node_names.proofs.NameLists.{derived_fresh, derived_marked, marked_found}
use Rattle.node_names.proofs.brought.brought_name.Goals as goal

pub returns-in-Some-2-clause-derived : goal.returns-in-Some-2-clause-derived
returns-in-Some-2-clause-derived c =
    let spec = c.args.setting.now.spec.now in
    let goal = c.args.setting.now.goal.now in
    let name = c.in-Some.name.now in
    let there : Contains c.args.names.now name = c.in-Some.ensures in
    derived_marked spec goal name c.in-Some-2.primed
    (All-contains (IsDerived spec goal) c.args.names.now name c.requires.names.derived there)
    (marked_found c.in_ok-primed.field-0 name c.in-Some-2.primed c.as_bytes.result.now
    c.in-Some-2.is c.as_bytes.ensures c.in_ok-primed.ensures.marked)

pub returns-clause-derived : goal.returns-clause-derived
returns-clause-derived c =
    derived_fresh c.args.setting.now.spec.now c.args.setting.now.goal.now c.fresh_name.result
    c.stem_of.result.now c.stem_of.ensures c.fresh_name.ensures.marked
