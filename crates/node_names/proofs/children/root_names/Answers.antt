use Rattle.std.proofs.Common.{◌≡◌, ℕ, List, true, false, length, ap, arith, subst, sym, ◌∙◌}
use Rattle.clause_core.specs.declared.clauses.Clause.{Clause}
use Rattle.node_names.specs.Names.{AreDifferent, AreNames, AreNoSymbols, goal_names}
use Rattle.node_names.proofs.NameLists.{names_none}
use Rattle.node_names.proofs.GoalNames.{goal_long, goal_named, kept_otherwise}
use Rattle.node_names.proofs.children.root_names.Goals as goal
use Rattle.node_names.proofs.children.root_names.Goals.{else-len-via-then-len+else-can_be_names, else-len-via-else-len}

pub returns-then-can_be_names-clause-names : goal.returns-then-can_be_names-clause-names
returns-then-can_be_names-clause-names c =
    let spec = c.args.setting.now.spec.now in
    let goal = c.args.setting.now.goal.now in
    let own = c.in_ok-own.own.items in
    let both : AreDifferent own × AreNoSymbols spec.sig own =
    subst (λ (ns : List (List ℕ)). AreDifferent ns × AreNoSymbols spec.sig ns) c.deref.ensures.value
    (c.can_be_names.ensures.0 c.if-can_be_names.true) in
    let are : AreNames spec goal own = goal_named spec goal own c.in_ok-own.ensures both in
    let long : length c.from_vec.result ≡ length own =
    ap (λ (ns : List (List ℕ)). length ns) c.from_vec.ensures in
    record {
      each = omega (arith, long, c.len.ensures, c.len-2.ensures, c.if-len.true);
      variables = subst (λ (ns : List (List ℕ)). AreNames spec goal ns) (sym c.from_vec.ensures) are;
      pattern = subst (λ (ns : List (List ℕ)). AreNames spec goal ns) (sym c.new.ensures) (names_none spec goal);
    }

pub returns-clause-kept : goal.returns-clause-kept
returns-clause-kept c = λ same.
    let spec = c.args.setting.now.spec.now in
    let goal = c.args.setting.now.goal.now in
    let own = c.in_ok-own.own.items in
    let ctx : length c.args.clause.now.ctx ≡ length (goal_names goal) =
    ap (λ (d : Clause). length d.ctx) same ∙ sym (goal_long goal) in
    let long : length own ≡ length (goal_names goal) =
    ap (λ (ns : List (List ℕ)). length ns) c.in_ok-own.ensures in
    kept_otherwise spec goal c.names_by_sorts.result (λ different no_symbols.
    elim c.else-len.branch [
      | else-len-via-then-len+else-can_be_names w ↦
          let both : AreDifferent w.deref.result.now × AreNoSymbols spec.sig w.deref.result.now =
          subst (λ (ns : List (List ℕ)). AreDifferent ns × AreNoSymbols spec.sig ns)
          (sym (w.deref.ensures.value ∙ c.in_ok-own.ensures)) (different, no_symbols) in
          let q : true ≡ false = sym (w.can_be_names.ensures.1 both) ∙ w.if-can_be_names.false in
          cc
      | else-len-via-else-len w ↦
          w.if-len.false (omega (arith, ctx, long, c.len.ensures, c.len-2.ensures))
    ])
