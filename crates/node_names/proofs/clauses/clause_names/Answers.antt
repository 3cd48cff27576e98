use Rattle.std.proofs.Common.{◌≡◌, ◌+◌, ◌∷◌, [], ℕ, List, ap, arith, length, length-append, subst, sym, ◌∙◌}
use Rattle.node_names.specs.Names.{AreNames, IsFree}
use Rattle.node_names.proofs.NameLists.{names_none, names_pushed}
use Rattle.node_names.proofs.clauses.clause_names.Goals as goal

pub loop-sort-init : goal.loop-sort-init
loop-sort-init c = record {
  names = subst (λ (ns : List (List ℕ)). AreNames c.args.spec.now c.args.goal.now ns)
      (sym c.new-made.ensures.items) (names_none c.args.spec.now c.args.goal.now);
  each = ap (λ (ns : List (List ℕ)). length ns) c.new-made.ensures.items;
}

pub loop-sort-preserved : goal.loop-sort-preserved
loop-sort-preserved c =
    let spec = c.args.spec.now in
    let goal = c.args.goal.now in
    let made = c.loop-sort.made.items in
    let name = c.in_ok-name.name in
    let free : IsFree spec.sig made name =
    subst (λ (ns : List (List ℕ)). IsFree spec.sig ns name) c.deref.ensures.value c.in_ok-name.ensures.free in
    let long : length c.push.new.self.items ≡ length made + length (name ∷ []) =
    ap (λ (ns : List (List ℕ)). length ns) c.in_ok-push.ensures.items ∙ length-append made (name ∷ []) in
    record {
      names = subst (λ (ns : List (List ℕ)). AreNames spec goal ns) (sym c.in_ok-push.ensures.items)
          (names_pushed spec goal made name c.loop-sort.invariant.names free c.in_ok-name.ensures.derived);
      each = omega (arith, long, c.loop-sort.invariant.each);
    }
