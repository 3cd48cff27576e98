use Rattle.std.proofs.Common.{◌<◌, ◌++◌, length, ap, sym, ◌∙◌, arith, rules}
use Rattle.std.specs.List.{zip}
use Rattle.unifier.specs.Roots.{relabelled}
use Rattle.unifier.proofs.Joining.{last_within, from_within, to_within, same_root, clash_read, applications_read}
use Rattle.unifier.proofs.Joining.{first_variable_read, second_variable_read}
use Rattle.unifier.proofs.unification.closure.join.Goals as goal
use Rattle.unifier.proofs.unification.closure.join.Goals.{then-f-g-via-then-f-g, then-f-g-via-else-f-g+then-len}

pub index-from-requires : goal.index-from-requires
index-from-requires c = omega (
  arith,
  c.requires.classes.long,
  c.args.roots.now.ok.0,
  last_within c.args.graph.now c.args.roots.now.items c.args.pending.now.items c.args.left c.args.right
      c.requires.classes,
)

pub index-to-requires : goal.index-to-requires
index-to-requires c = omega (
  arith,
  c.requires.classes.long,
  c.args.roots.now.ok.0,
  last_within c.args.graph.now c.args.roots.now.items c.args.pending.now.items c.args.left c.args.right
      c.requires.classes,
)

pub returns-then-from-to : goal.returns-then-from-to
returns-then-from-to c = same_root c.args.graph.now c.args.roots.now.items c.args.pending.now.items c.args.left
    c.args.right c.requires.classes c.index-from.result.now c.index-to.result.now c.index-from.ensures
    c.index-to.ensures c.if-from-to.true

pub bounds-graph-from : goal.bounds-graph-from
bounds-graph-from c = from_within c.args.graph.now c.args.roots.now.items c.args.pending.now.items c.args.left
    c.args.right c.requires.classes c.index-from.result.now c.index-to.result.now c.index-from.ensures
    c.index-to.ensures

pub offset_bounds-graph-from : goal.offset_bounds-graph-from
offset_bounds-graph-from c =
    let h : c.index-from.result.now < length c.args.graph.now = from_within c.args.graph.now
    c.args.roots.now.items c.args.pending.now.items c.args.left c.args.right c.requires.classes
    c.index-from.result.now c.index-to.result.now c.index-from.ensures c.index-to.ensures in
    search rules

pub bounds-graph-to : goal.bounds-graph-to
bounds-graph-to c = to_within c.args.graph.now c.args.roots.now.items c.args.pending.now.items c.args.left
    c.args.right c.requires.classes c.index-from.result.now c.index-to.result.now c.index-from.ensures
    c.index-to.ensures

pub offset_bounds-graph-to : goal.offset_bounds-graph-to
offset_bounds-graph-to c =
    let h : c.index-to.result.now < length c.args.graph.now = to_within c.args.graph.now c.args.roots.now.items
    c.args.pending.now.items c.args.left c.args.right c.requires.classes c.index-from.result.now
    c.index-to.result.now c.index-from.ensures c.index-to.ensures in
    search rules

pub returns-then-f-g : goal.returns-then-f-g
returns-then-f-g c =
    clash_read c.args.graph.now c.args.roots.now.items c.args.pending.now.items c.args.left c.args.right
    c.requires.classes c.index-from.result.now c.index-to.result.now c.index-from.ensures c.index-to.ensures
    c.index-graph-from.result c.index-graph-to.result c.index-graph-from.is c.index-graph-to.is
    c.in-App-App.f c.in-App-App.g c.in-App-App.xs c.in-App-App.ys c.in-App-App.is-0 c.in-App-App.is-1
    (λ e l. elim c.then-f-g.branch [
      | then-f-g-via-then-f-g w ↦ w.if-f-g.true e
      | then-f-g-via-else-f-g+then-len w ↦ w.if-len.true (w.len.ensures ∙ l ∙ sym w.len-else-f-g.ensures)
    ])

pub returns-in_ok-push_pairs-in-App-App : goal.returns-in_ok-push_pairs-in-App-App
returns-in_ok-push_pairs-in-App-App c =
    applications_read c.args.graph.now c.args.roots.now.items c.args.pending.now.items c.args.left c.args.right
    c.requires.classes c.index-from.result.now c.index-to.result.now c.index-from.ensures c.index-to.ensures
    c.index-graph-from.result c.index-graph-to.result c.index-graph-from.is c.index-graph-to.is
    c.relabel.new.roots c.args.roots.now.len (omega (arith, c.args.roots.now.ok.0)) c.if-from-to.false
    c.requires.graph c.in-App-App.f c.in-App-App.g c.in-App-App.xs c.in-App-App.ys c.in-App-App.is-0
    c.in-App-App.is-1 c.if-f-g.false (sym c.len.ensures ∙ c.if-len.false ∙ c.len-else-f-g.ensures)
    c.push_pairs.new.pending.items
    (c.in_ok-push_pairs-in-App-App.ensures
    ∙ ap (λ xs. c.args.pending.now.items ++ zip xs c.as_slice-in-App-App.result.now) c.as_slice.ensures
    ∙ ap (λ ys. c.args.pending.now.items ++ zip c.in-App-App.xs ys) c.as_slice-in-App-App.ensures)
    (c.relabel.ensures ∙ ap (λ rs. relabelled c.index-from.result.now c.index-to.result.now rs)
    c.deref_mut.ensures.value)

pub returns-in-App-Var : goal.returns-in-App-Var
returns-in-App-Var c =
    second_variable_read c.args.graph.now c.args.roots.now.items c.args.pending.now.items c.args.left
    c.args.right c.requires.classes c.index-from.result.now c.index-to.result.now c.index-from.ensures
    c.index-to.ensures c.index-graph-from.result c.index-graph-to.result c.index-graph-from.is
    c.index-graph-to.is c.relabel-in-App-Var.new.roots c.args.roots.now.len
    (omega (arith, c.args.roots.now.ok.0)) c.if-from-to.false c.in-App-Var.field-0-1 c.in-App-Var.is-1
    (c.relabel-in-App-Var.ensures ∙ ap (λ rs. relabelled c.index-to.result.now c.index-from.result.now rs)
    c.deref_mut-in-App-Var.ensures.value)

pub returns-in-Var-default : goal.returns-in-Var-default
returns-in-Var-default c =
    first_variable_read c.args.graph.now c.args.roots.now.items c.args.pending.now.items c.args.left
    c.args.right c.requires.classes c.index-from.result.now c.index-to.result.now c.index-from.ensures
    c.index-to.ensures c.index-graph-from.result c.index-graph-to.result c.index-graph-from.is
    c.index-graph-to.is c.relabel-in-Var-default.new.roots c.args.roots.now.len
    (omega (arith, c.args.roots.now.ok.0)) c.if-from-to.false c.in-Var-default.field-0-0
    c.in-Var-default.is-0 (c.relabel-in-Var-default.ensures
    ∙ ap (λ rs. relabelled c.index-from.result.now c.index-to.result.now rs)
    c.deref_mut-in-Var-default.ensures.value)
