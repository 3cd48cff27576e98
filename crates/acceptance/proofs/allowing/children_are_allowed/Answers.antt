use Rattle.std.proofs.Common.{◌≡◌, false, true, List, refl, sym, subst, rules, inl, inr}
use Rattle.clause_core.specs.declared.clauses.Relation.{Relation}
use Rattle.clause_core.specs.declared.clauses.Relation.TheVariants.{Less, Same, Neither}
use Rattle.clause_core.specs.declared.answers.Child.{Child}
use Rattle.clause_core.specs.declared.answers.Children.{Children}
use Rattle.clause_core.specs.contracts.clauses.Relation.{the_type}
use Rattle.acceptance.specs.Strict.{ChildIsAllowed}
use Rattle.acceptance.proofs.Flags.{read, first_more, all_children, one_child}
use Rattle.acceptance.proofs.allowing.children_are_allowed.Goals as goal
use denote.Enum.Bare.{sameb, same_true}

neither_is_not : (made : List Children) → ChildIsAllowed made Neither → ⊥
neither_is_not made (inl e) = let q : Neither ≡ Less = e in cc
neither_is_not made (inr e) = let q : Neither ≡ Same = e in cc

other_is : (made : List Children) (r : Relation) → false ≡ sameb the_type r Neither → ChildIsAllowed made r
other_is made Less e = inl refl
other_is made Same e = inr refl
other_is made Neither e = absurd (let q : false ≡ true = e in cc)

pub returns-then-eq : goal.returns-then-eq
returns-then-eq c =
    let here = one_child c.args.made.now c.args.node c.requires c.index-made-node.result _ refl
    c.as_slice-child-items.result.now c.as_slice-child-items.ensures c.loop-child.child-index
    c.child-item.result (read c.as_slice-child-items.result.now c.loop-child.child-index c.child-item.result
    c.loop-child-test.true c.child-item.is) in
    let e : c.child-item.result.relation ≡ Neither = same_true the_type (search rules) _ _ (sym c.if-eq.ensures) in (
      λ f. absurd (let q : false ≡ true = f in cc),
      λ all. absurd (neither_is_not c.args.made.now
          (subst (λ r. ChildIsAllowed c.args.made.now r) e (all _ c.child-item.result.relation here))),
    )

pub loop-child-preserved : goal.loop-child-preserved
loop-child-preserved c =
    first_more (λ i (d : Child). ChildIsAllowed c.args.made.now d.relation) c.as_slice-child-items.result.now
    c.loop-child.child-index c.child-item.result
    (read c.as_slice-child-items.result.now c.loop-child.child-index c.child-item.result
    c.loop-child-test.true c.child-item.is) (other_is c.args.made.now c.child-item.result.relation
    c.if-eq.ensures) c.loop-child.invariant

pub returns : goal.returns
returns c = (
  λ t. all_children c.args.made.now c.args.node c.requires c.index-made-node.result _ refl
      c.as_slice-child-items.result.now c.as_slice-child-items.ensures
      (λ j r. ChildIsAllowed c.args.made.now r) c.loop-child.child-index c.loop-child-test.false
      c.loop-child.invariant,
  λ h. refl,
)
