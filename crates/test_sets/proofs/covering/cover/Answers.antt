use Rattle.std.proofs.Common.{◌≡◌, ℕ, List, Option, Some, Vec, Global, get_or, map, ◌∙◌, ap, subst}
use Rattle.std.specs.Prelude.{MatchOption, slice_get}
use Rattle.std.specs.List.{AllByRecursion}
use Rattle.std.proofs.lemmas.Option.{get_or_from_slice_get}
use Rattle.term_core.specs.Tree.{Tree}
use Rattle.term_core.specs.declared.ids.SortId.{SortId}
use Rattle.spec_core.specs.Declarations.{bool_sort}
use Rattle.clause_core.specs.declared.clauses.Clause.{Clause}
use Rattle.clause_core.specs.Limits.{IsWithin}
use Rattle.clause_core.specs.Patterns.{AreCovering}
use Rattle.test_sets.specs.Children.{child_by}
use Rattle.test_sets.specs.Covers.{IsUncovered}
use Rattle.test_sets.proofs.CoverAnswers.{made_children, past_limit}
use Rattle.test_sets.proofs.covering.cover.Goals as goal

-- the sort that is read is the one of the variable
its_sort : (ctx read : List SortId) (n : ℕ) (s : SortId) → read ≡ ctx → slice_get ctx n ≡ Some s →
    get_or read n bool_sort ≡ s
its_sort ctx read n s e at = ap (λ ss. get_or ss n bool_sort) e ∙ get_or_from_slice_get ctx n s bool_sort at

pub returns-in-Some-2 : goal.returns-in-Some-2
returns-in-Some-2 c are =
    let sig = c.args.sig.now in
    let ps = c.args.patterns.now in
    let s = get_or c.as_slice.result.now c.args.var.0 bool_sort in
    let f = child_by sig c.args.clause.now c.args.var.0 s in
    let at : s ≡ are.sort = its_sort c.args.clause.now.ctx c.as_slice.result.now c.args.var.0 are.sort
    c.as_slice.ensures are.is in
    let covering : AreCovering sig s ps = subst (λ (o : Option Tree). MatchOption o (AreCovering sig s ps)
    (IsUncovered sig s ps)) c.in_default.is c.in_ok-value.ensures in
    let found = subst (λ (o : Option (Vec Clause Global)). MatchOption o (AllByRecursion IsWithin (map f ps) →
    ⊥) (λ made. (made.items ≡ map f ps) × AllByRecursion IsWithin made.items)) c.in-Some-2.is
    c.in_ok-made.ensures in
    made_children sig c.args.clause.now c.args.var.0 ps are s at c.in-Some-2.made.items covering found.0 found.1

pub returns-in-None : goal.returns-in-None
returns-in-None c are =
    let sig = c.args.sig.now in
    let ps = c.args.patterns.now in
    let s = get_or c.as_slice.result.now c.args.var.0 bool_sort in
    let f = child_by sig c.args.clause.now c.args.var.0 s in
    let at : s ≡ are.sort = its_sort c.args.clause.now.ctx c.as_slice.result.now c.args.var.0 are.sort
    c.as_slice.ensures are.is in
    let covering : AreCovering sig s ps = subst (λ (o : Option Tree). MatchOption o (AreCovering sig s ps)
    (IsUncovered sig s ps)) c.in_default.is c.in_ok-value.ensures in
    let past = subst (λ (o : Option (Vec Clause Global)). MatchOption o (AllByRecursion IsWithin (map f ps) →
    ⊥) (λ made. (made.items ≡ map f ps) × AllByRecursion IsWithin made.items)) c.in-None.is c.in_ok-made.ensures in
    past_limit sig c.args.clause.now c.args.var.0 ps are s at covering past
