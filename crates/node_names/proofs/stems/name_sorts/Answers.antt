use Rattle.std.proofs.Common.{◌≡◌, ℕ, List, set, inl, inr, subst, sym}
use Rattle.std.specs.Prelude.{◌⊎◌, All, Contains}
use Rattle.std.proofs.lemmas.List.Elements.{All-set}
use Rattle.node_names.proofs.SortStems.{named}
use Rattle.node_names.proofs.stems.name_sorts.Goals as goal

pub loop-var-preserved : goal.loop-var-preserved
loop-var-preserved c = λ known before all.
    let v = c.var-item.result in
    let old = c.loop-var.stems.items in
    let new = c.name_sort.new.stems.items in
    let h : (new ≡ old) ⊎ (new ≡ set old v.sort.0 v.name) = c.in_ok-name_sort.ensures in
    let now : All (Contains known) old = c.loop-var.invariant known before all in
    elim h [
      | inl e ↦ subst (λ (ns : List (List ℕ)). All (Contains known) ns) (sym e) now
      | inr e ↦ subst (λ (ns : List (List ℕ)). All (Contains known) ns) (sym e)
          (All-set (Contains known) old v.sort.0 v.name
          (named known c.args.vars.now c.loop-var.var-index v c.loop-var-test.true c.var-item.is all) now)
    ]
