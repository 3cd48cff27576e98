use Rattle.std.proofs.Common.{◌≤◌, ◌+◌, Some, ap, ◌∙◌, subst, arith, length}
use Rattle.std.proofs.lemmas.Option.{slice_get_within}
use Rattle.term_core.specs.Tree.{var, instance}
use Rattle.value_bank.proofs.Placed.{term_within}
use Rattle.rule_code.specs.Branches.{IsFollowerOn}
use Rattle.rule_code.specs.Programs.{Program, IsProgram}
use Rattle.rule_code.proofs.Ranges.{item_listed}
use Rattle.rule_code.proofs.Testing.{read_is}
use Rattle.bank_machine.specs.Stacks.{shown}
use Rattle.bank_machine.proofs.Deciding.{answer_slot, answer_term, rule_within, none_follows, no_branch, other_within}
use Rattle.bank_machine.proofs.Deciding.{next_block, cut_within, followed, asked_rule, answered_by}
use Rattle.bank_machine.proofs.machine.Machine.decide.Goals as goal

pub slot-requires : goal.slot-requires
slot-requires c =
    let q = c.requires.works in
    answer_slot c.args.self.now c.args.bank.now (shown c.args.stack.now) q.0 q.1 q.2 c.args.slot c.args.rule
    c.args.asked c.args.homes.now c.requires.there

pub cell-sym-requires : goal.cell-sym-requires
cell-sym-requires c =
    let q = c.requires.works in
    term_within c.args.bank.now c.slot.result _
    (answer_term c.args.self.now c.args.bank.now (shown c.args.stack.now) q.0 q.1 q.2 c.args.slot
    c.args.rule c.args.asked c.args.homes.now c.requires.there c.slot.result c.slot.ensures)

pub index-code-requires : goal.index-code-requires
index-code-requires c =
    let q = c.requires.works in
    omega (
      arith,
      rule_within c.args.self.now c.args.bank.now (shown c.args.stack.now) q.0 q.1 q.2 c.args.slot
          c.args.rule c.args.asked c.args.homes.now c.requires.there c.requires.fine c.self.inside.rules.items
          c.self.inside.trees.items
          (subst (λ (z : Program). IsProgram z.spec z.code c.self.inside.rules.items c.self.inside.trees.items)
          c.self.view_is c.self.invariant),
      c.self.inside.rules.ok,
    )

pub returns-in_default : goal.returns-in_default
returns-in_default c left s sort w pays =
    let le : length c.index-code.result.now.branches.items ≤ c.args.asked = omega (
      arith,
      c.in_default.ensures.lookup.3,
      ap length c.as_slice.ensures.value,
    ) in
    none_follows c.args.self.now c.args.bank.now (shown c.args.stack.now) s sort w c.args.slot c.args.rule
    c.args.asked c.args.homes.now c.requires.there c.requires.fine c.self.inside.rules.items
    c.self.inside.trees.items
    (subst (λ (z : Program). IsProgram z.spec z.code c.self.inside.rules.items c.self.inside.trees.items)
    c.self.view_is c.self.invariant) c.index-code.result.now c.index-code.ensures left
    (shown c.args.stack.now) c.args.bank.now
    (no_branch c.args.self.now c.args.bank.now (shown c.args.stack.now) s sort w c.args.slot c.args.rule
    c.args.asked c.args.homes.now c.requires.there c.requires.fine c.self.inside.rules.items
    c.self.inside.trees.items
    (subst (λ (z : Program). IsProgram z.spec z.code c.self.inside.rules.items c.self.inside.trees.items)
    c.self.view_is c.self.invariant) c.index-code.result.now c.index-code.ensures le)

pub returns-in_default-answered : goal.returns-in_default-answered
returns-in_default-answered c left s sort w pays =
    let at = item_listed c.as_slice.result.now c.index-code.result.now.branches.items c.args.asked
    c.in-Some.branch.now c.as_slice.ensures.value c.in-Some.ensures.lookup.3.0 c.in-Some.ensures.lookup.1 in
    let f = answered_by c.args.self.now c.args.bank.now (shown c.args.stack.now) s sort w c.args.slot
    c.args.rule c.args.asked c.args.homes.now c.requires.there c.requires.fine c.self.inside.rules.items
    c.self.inside.trees.items
    (subst (λ (z : Program). IsProgram z.spec z.code c.self.inside.rules.items c.self.inside.trees.items)
    c.self.view_is c.self.invariant) c.index-code.result.now c.index-code.ensures c.in-Some.branch.now
    at c.slot.result c.cell-sym.result.0 c.cell-sym.result.1.now c.slot.ensures c.cell-sym.ensures
    c.answered.result c.answered.ensures in
    none_follows c.args.self.now c.args.bank.now (shown c.args.stack.now) s sort w c.args.slot c.args.rule
    c.args.asked c.args.homes.now c.requires.there c.requires.fine c.self.inside.rules.items
    c.self.inside.trees.items
    (subst (λ (z : Program). IsProgram z.spec z.code c.self.inside.rules.items c.self.inside.trees.items)
    c.self.view_is c.self.invariant) c.index-code.result.now c.index-code.ensures left
    (shown c.args.stack.now) c.args.bank.now
    (subst (λ o. IsFollowerOn c.args.self.now.spec.rules
    (asked_rule c.args.self.now c.args.bank.now (shown c.args.stack.now) s sort w c.args.slot c.args.rule
    c.args.asked c.args.homes.now c.requires.there).rule c.args.asked (instance s.top.env (var c.args.slot))
    o) c.in_default-answered.is f)

pub index-next-requires : goal.index-next-requires
index-next-requires c =
    let q = c.requires.works in
    let at = item_listed c.as_slice.result.now c.index-code.result.now.branches.items c.args.asked
    c.in-Some.branch.now c.as_slice.ensures.value c.in-Some.ensures.lookup.3.0 c.in-Some.ensures.lookup.1 in
    let f = answered_by c.args.self.now c.args.bank.now (shown c.args.stack.now) q.0 q.1 q.2 c.args.slot
    c.args.rule c.args.asked c.args.homes.now c.requires.there c.requires.fine c.self.inside.rules.items
    c.self.inside.trees.items
    (subst (λ (z : Program). IsProgram z.spec z.code c.self.inside.rules.items c.self.inside.trees.items)
    c.self.view_is c.self.invariant) c.index-code.result.now c.index-code.ensures c.in-Some.branch.now
    at c.slot.result c.cell-sym.result.0 c.cell-sym.result.1.now c.slot.ensures c.cell-sym.ensures
    c.answered.result c.answered.ensures in
    let g : IsFollowerOn c.args.self.now.spec.rules
    (asked_rule c.args.self.now c.args.bank.now (shown c.args.stack.now) q.0 q.1 q.2 c.args.slot c.args.rule
    c.args.asked c.args.homes.now c.requires.there).rule c.args.asked
    (instance q.0.top.env (var c.args.slot)) (Some c.in-Some-answered.number) = subst
    (λ o. IsFollowerOn c.args.self.now.spec.rules
    (asked_rule c.args.self.now c.args.bank.now (shown c.args.stack.now) q.0 q.1 q.2 c.args.slot c.args.rule
    c.args.asked c.args.homes.now c.requires.there).rule c.args.asked
    (instance q.0.top.env (var c.args.slot)) o) c.in-Some-answered.is f in
    omega (
      arith,
      other_within c.args.self.now c.args.bank.now (shown c.args.stack.now) q.0 q.1 q.2 c.args.slot
          c.args.rule c.args.asked c.args.homes.now c.requires.there c.requires.fine c.self.inside.rules.items
          c.self.inside.trees.items
          (subst (λ (z : Program). IsProgram z.spec z.code c.self.inside.rules.items c.self.inside.trees.items)
          c.self.view_is c.self.invariant) c.index-code.result.now c.index-code.ensures c.in-Some-answered.number
          g,
      c.self.inside.rules.ok,
    )

pub index-requires : goal.index-requires
index-requires c =
    let q = c.requires.works in
    let at = item_listed c.as_slice.result.now c.index-code.result.now.branches.items c.args.asked
    c.in-Some.branch.now c.as_slice.ensures.value c.in-Some.ensures.lookup.3.0 c.in-Some.ensures.lookup.1 in
    let f = answered_by c.args.self.now c.args.bank.now (shown c.args.stack.now) q.0 q.1 q.2 c.args.slot
    c.args.rule c.args.asked c.args.homes.now c.requires.there c.requires.fine c.self.inside.rules.items
    c.self.inside.trees.items
    (subst (λ (z : Program). IsProgram z.spec z.code c.self.inside.rules.items c.self.inside.trees.items)
    c.self.view_is c.self.invariant) c.index-code.result.now c.index-code.ensures c.in-Some.branch.now
    at c.slot.result c.cell-sym.result.0 c.cell-sym.result.1.now c.slot.ensures c.cell-sym.ensures
    c.answered.result c.answered.ensures in
    let g : IsFollowerOn c.args.self.now.spec.rules
    (asked_rule c.args.self.now c.args.bank.now (shown c.args.stack.now) q.0 q.1 q.2 c.args.slot c.args.rule
    c.args.asked c.args.homes.now c.requires.there).rule c.args.asked
    (instance q.0.top.env (var c.args.slot)) (Some c.in-Some-answered.number) = subst
    (λ o. IsFollowerOn c.args.self.now.spec.rules
    (asked_rule c.args.self.now c.args.bank.now (shown c.args.stack.now) q.0 q.1 q.2 c.args.slot c.args.rule
    c.args.asked c.args.homes.now c.requires.there).rule c.args.asked
    (instance q.0.top.env (var c.args.slot)) o) c.in-Some-answered.is f in
    let b = next_block c.args.self.now c.args.bank.now (shown c.args.stack.now) q.0 q.1 q.2 c.args.slot
    c.args.rule c.args.asked c.args.homes.now c.requires.there c.requires.fine c.self.inside.rules.items
    c.self.inside.trees.items
    (subst (λ (z : Program). IsProgram z.spec z.code c.self.inside.rules.items c.self.inside.trees.items)
    c.self.view_is c.self.invariant) c.index-code.result.now c.index-code.ensures c.in-Some-answered.number
    g c.index-next.result.now c.index-next.ensures in
    omega (
      arith,
      slice_get_within c.index-next.result.now.begins.items (c.args.asked + 1) b.place b.begin,
      c.index-next.result.now.begins.ok,
    )

pub cut-requires : goal.cut-requires
cut-requires c =
    let q = c.requires.works in
    cut_within c.args.self.now c.args.bank.now (shown c.args.stack.now) q.0 q.1 q.2 c.args.slot c.args.rule
    c.args.asked c.args.homes.now c.requires.there c.requires.fine c.self.inside.rules.items
    c.self.inside.trees.items
    (subst (λ (z : Program). IsProgram z.spec z.code c.self.inside.rules.items c.self.inside.trees.items)
    c.self.view_is c.self.invariant) c.index-code.result.now c.index-code.ensures

pub returns : goal.returns
returns c left s sort w pays =
    let at = item_listed c.as_slice.result.now c.index-code.result.now.branches.items c.args.asked
    c.in-Some.branch.now c.as_slice.ensures.value c.in-Some.ensures.lookup.3.0 c.in-Some.ensures.lookup.1 in
    let f = answered_by c.args.self.now c.args.bank.now (shown c.args.stack.now) s sort w c.args.slot
    c.args.rule c.args.asked c.args.homes.now c.requires.there c.requires.fine c.self.inside.rules.items
    c.self.inside.trees.items
    (subst (λ (z : Program). IsProgram z.spec z.code c.self.inside.rules.items c.self.inside.trees.items)
    c.self.view_is c.self.invariant) c.index-code.result.now c.index-code.ensures c.in-Some.branch.now
    at c.slot.result c.cell-sym.result.0 c.cell-sym.result.1.now c.slot.ensures c.cell-sym.ensures
    c.answered.result c.answered.ensures in
    let g : IsFollowerOn c.args.self.now.spec.rules
    (asked_rule c.args.self.now c.args.bank.now (shown c.args.stack.now) s sort w c.args.slot c.args.rule
    c.args.asked c.args.homes.now c.requires.there).rule c.args.asked (instance s.top.env (var c.args.slot))
    (Some c.in-Some-answered.number) = subst
    (λ o. IsFollowerOn c.args.self.now.spec.rules
    (asked_rule c.args.self.now c.args.bank.now (shown c.args.stack.now) s sort w c.args.slot c.args.rule
    c.args.asked c.args.homes.now c.requires.there).rule c.args.asked (instance s.top.env (var c.args.slot))
    o) c.in-Some-answered.is f in
    let b = next_block c.args.self.now c.args.bank.now (shown c.args.stack.now) s sort w c.args.slot c.args.rule
    c.args.asked c.args.homes.now c.requires.there c.requires.fine c.self.inside.rules.items
    c.self.inside.trees.items
    (subst (λ (z : Program). IsProgram z.spec z.code c.self.inside.rules.items c.self.inside.trees.items)
    c.self.view_is c.self.invariant) c.index-code.result.now c.index-code.ensures c.in-Some-answered.number
    g c.index-next.result.now c.index-next.ensures in
    followed c.args.self.now c.args.bank.now (shown c.args.stack.now) s sort w c.args.slot c.args.rule
    c.args.asked c.args.homes.now c.requires.there c.requires.fine c.self.inside.rules.items
    c.self.inside.trees.items
    (subst (λ (z : Program). IsProgram z.spec z.code c.self.inside.rules.items c.self.inside.trees.items)
    c.self.view_is c.self.invariant) c.index-code.result.now c.index-code.ensures c.in-Some-answered.number
    g c.index-next.result.now c.index-next.ensures left c.index.result.now (shown c.cut.new.self)
    (c.index.ensures ∙ read_is c.index-next.result.now.begins.items (c.args.asked + 1) b.place
    c.index.result.now b.begin) c.cut.ensures pays
