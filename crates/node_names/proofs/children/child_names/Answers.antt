use Rattle.std.proofs.Common.{◌≡◌, ℕ, List, ap, length, subst, sym, ◌∙◌}
use Rattle.std.specs.Global.{Vec}
use Rattle.node_names.specs.Names.{AreNames}
use Rattle.node_names.proofs.NameLists.{names_dropped, names_taken, some_of}
use Rattle.node_names.proofs.children.child_names.Goals as goal

pub returns : goal.returns
returns c =
    let spec = c.args.setting.now.spec.now in
    let goal = c.args.setting.now.goal.now in
    let met = c.in-Some.variables in
    let are : AreNames spec goal met.items =
    some_of c.in_ok-variables.field-0 met (λ (m : Vec (List ℕ)). AreNames spec goal m.items) c.in-Some.is
    c.in_ok-variables.ensures.names in
    let each : length met.items ≡ length c.args.child.now.clause.now.ctx =
    some_of c.in_ok-variables.field-0 met
    (λ (m : Vec (List ℕ)). length m.items ≡ length c.args.child.now.clause.now.ctx) c.in-Some.is
    c.in_ok-variables.ensures.each in
    let all : AreNames spec goal c.deref-2.result.now =
    subst (λ (ns : List (List ℕ)). AreNames spec goal ns) (sym c.deref-2.ensures.value) c.in_ok-names.ensures.names in
    record {
      each = ap (λ (ns : List (List ℕ)). length ns) c.from_vec.ensures ∙ each;
      variables = subst (λ (ns : List (List ℕ)). AreNames spec goal ns) (sym c.from_vec.ensures) are;
      pattern = subst (λ (ns : List (List ℕ)). AreNames spec goal ns)
          (sym (c.from_vec-2.ensures ∙ c.in_ok-pattern.ensures))
          (names_taken spec goal _ _ (names_dropped spec goal c.deref-2.result.now _ all));
    }
