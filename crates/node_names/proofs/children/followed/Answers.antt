use Rattle.std.proofs.Common.{ℕ, List}
use Rattle.std.specs.Prelude.{All, Contains}
use Rattle.std.specs.Global.{Vec}
use Rattle.node_names.specs.Names.{AreDifferent}
use Rattle.node_names.proofs.NameLists.{names_among, some_of}
use Rattle.node_names.proofs.children.followed.Goals as goal

pub returns-clause-names : goal.returns-clause-names
returns-clause-names c =
    let met = c.in-Some-2.met in
    names_among c.args.setting.now.spec.now c.args.setting.now.goal.now c.args.names.now met.items c.requires
    (some_of c.in_ok-met.field-0 met (λ (m : Vec (List ℕ)). AreDifferent m.items) c.in-Some-2.is
    c.in_ok-met.ensures.different)
    (some_of c.in_ok-met.field-0 met (λ (m : Vec (List ℕ)). All (Contains c.args.names.now) m.items)
    c.in-Some-2.is c.in_ok-met.ensures.among)
