use Rattle.std.proofs.Common.{List, [], sym, ◌∙◌, subst}
use Rattle.term_core.specs.Tree.{Tree}
use Rattle.term_core.specs.References.{terms_of}
use Rattle.term_core.proofs.SameTrees.{same_tree_or_not}
use Rattle.clause_core.specs.Multisets.{AreRests}
use Rattle.clause_core.proofs.Multisets.{same_members, nothing_left, something_left, each_exceeded}
use Rattle.clause_core.proofs.TermReferences.{no_terms, some_terms}
use Rattle.clause_core.proofs.comparing.relation.Goals as goal

pub returns-then-is_empty-2 : goal.returns-then-is_empty-2
returns-then-is_empty-2 g c xs ys r =
    let p = no_terms c.args.first.now (sym c.is_empty.ensures ∙ c.if-is_empty.true) in
    let q = no_terms c.args.second.now (sym c.is_empty-then-is_empty.ensures ∙ c.if-is_empty-2.true) in
    same_members xs ys (subst (λ (us : List Tree). AreRests xs ys us []) p
    (subst (λ (us : List Tree). AreRests xs ys (terms_of c.args.first.now) us) q r))

pub returns-then-is_empty : goal.returns-then-is_empty
returns-then-is_empty g c xs ys r =
    let p = no_terms c.args.first.now (sym c.is_empty.ensures ∙ c.if-is_empty.true) in (
      λ same. some_terms c.args.second.now (sym c.is_empty-then-is_empty.ensures ∙ c.if-is_empty-2.false)
          (nothing_left same_tree_or_not xs ys _ _ r same).1,
      λ e. something_left same_tree_or_not xs ys _ _ r _ e p,
    )

pub returns : goal.returns
returns g c xs ys r = (
  λ same. some_terms c.args.first.now (sym c.is_empty.ensures ∙ c.if-is_empty.false)
      (nothing_left same_tree_or_not xs ys _ _ r same).0,
  λ e. (let t = c.each_has_greater.ensures.1 (each_exceeded same_tree_or_not xs ys _ _ r _ e) in
      let f = c.if-each_has_greater.false in cc),
)
