-- A raw rule stands for at most one rule.
use Rattle.std.proofs.Common.{◌≡◌, ℕ, suc, ◌≤◌, inl, inr, List, [], ◌∷◌, Some, refl, ap, sym, ◌∙◌, subst, arith, length}
use Rattle.std.specs.List.{AllZip}
use Rattle.std.specs.Prelude.{slice_get, option_map}
use Rattle.std.proofs.lemmas.List.{take_all, length-map}
use Rattle.std.proofs.lemmas.Option.{slice_get-map, slice_get_within}
use Rattle.term_core.specs.Tree.{Tree, Trees, var, app, none, some}
use Rattle.term_core.specs.declared.ids.SortId.{SortId}
use Rattle.spec_core.specs.declared.records.Guard.{Guard}
use Rattle.spec_core.specs.declared.records.Rule.{Rule}
use Rattle.spec_core.specs.declared.records.SymInfo.{SymInfo}
use Rattle.spec_core.specs.declared.records.VarInfo.{VarInfo}
use Rattle.spec_core.specs.Sig.{Sig}
use Rattle.spec_core.specs.Sorts.{Sorted, SortedAll}
use Rattle.spec_core.specs.Declarations.{AreNewNames, IsDeclared}
use Rattle.term_core.specs.Variables.{Occurs, OccursAny}
use Rattle.spec_core.specs.WellSorted.{IsLeft, sorts_of}
use Rattle.spec_core.specs.TermText.{variable_names}
use Rattle.spec_grammar.specs.declared.raw.RawGuard.{RawGuard}
use Rattle.spec_grammar.specs.declared.raw.RawRule.{RawRule}
use Rattle.sort_check.specs.Occurrence.{names_after}
use Rattle.sort_check.specs.Terms.{TermStands}
use Rattle.sort_check.specs.Rules.{RuleStands, GuardStands}
use Rattle.sort_check.proofs.Pairs.{pairs_one}
use Rattle.sort_check.proofs.Names.{symbols_distinct}
use Rattle.sort_check.proofs.Occurrences.{through}
use Rattle.sort_check.proofs.OneTerm.{one_term}
use Rattle.spec_core.proofs.Values.{numbered_occurs}

-- variables of the same names and sorts
pub same_vars : (vs ws : List VarInfo) → variable_names vs ≡ variable_names ws →
    ((n : ℕ) (v : VarInfo) → slice_get vs n ≡ Some v → slice_get (sorts_of ws) n ≡ Some v.sort) → vs ≡ ws
same_vars [] [] names sorts = refl
same_vars [] (w ∷ ws) names sorts = let q : [] ≡ w.name ∷ variable_names ws = names in absurd (cc)
same_vars (v ∷ vs) [] names sorts = let q : v.name ∷ variable_names vs ≡ [] = names in absurd (cc)
same_vars (v ∷ vs) (w ∷ ws) names sorts =
    let q : v.name ∷ variable_names vs ≡ w.name ∷ variable_names ws = names in
    let a : v.name ≡ w.name = cc in
    let b : variable_names vs ≡ variable_names ws = cc in
    let first : Some w.sort ≡ Some v.sort = sorts 0 v refl in
    let s : v.sort ≡ w.sort = cc in
    let rest : vs ≡ ws = same_vars vs ws b (λ n u at. sorts (suc n) u at) in
    λ i. record { name = a i; sort = s i } ∷ rest i

pub sort_of_place : (vs : List VarInfo) (n : ℕ) (v : VarInfo) → slice_get vs n ≡ Some v →
    slice_get (sorts_of vs) n ≡ Some v.sort
sort_of_place vs n v at = slice_get-map (λ (u : VarInfo). u.sort) vs n
    ∙ ap (λ o. option_map (λ (u : VarInfo). u.sort) o) at

pub name_of_place : (vs : List VarInfo) (n : ℕ) (v : VarInfo) → slice_get vs n ≡ Some v →
    slice_get (variable_names vs) n ≡ Some v.name
name_of_place vs n v at = slice_get-map (λ (u : VarInfo). u.name) vs n
    ∙ ap (λ o. option_map (λ (u : VarInfo). u.name) o) at

-- a variable of a sorted term has one sort
module _ (sig : Sig) (ctx others : List SortId) where
  mutual
    sort_at : (t : Tree) (s : SortId) → Sorted sig ctx t s → Sorted sig others t s → (n : ℕ) → Occurs n t →
        slice_get ctx n ≡ slice_get others n
    sort_at (var m) s p q n o = ap (λ k. slice_get ctx k) o ∙ p ∙ sym q ∙ ap (λ k. slice_get others k) (sym o)
    sort_at (app f ts) s p q n o =
        let e : Some p.0 ≡ Some q.0 = sym p.1 ∙ q.1 in
        let k : q.0 ≡ p.0 = cc in
        sorts_at ts p.0.args p.3 (subst (λ (i : SymInfo). SortedAll sig others ts i.args) k q.3) n o

    sorts_at : (ts : Trees) (ss : List SortId) → SortedAll sig ctx ts ss → SortedAll sig others ts ss →
        (n : ℕ) → OccursAny n ts → slice_get ctx n ≡ slice_get others n
    sorts_at none ss p q n o = absurd o
    sorts_at (some t ts) [] p q n o = absurd p
    sorts_at (some t ts) (s ∷ ss) p q n (inl o) = sort_at t s p.0 q.0 n o
    sorts_at (some t ts) (s ∷ ss) p q n (inr o) = sorts_at ts ss p.1 q.1 n o

  left_sort_at : (t : Tree) (s u : SortId) → IsLeft sig t → Sorted sig ctx t s → Sorted sig others t u →
      (n : ℕ) → Occurs n t → slice_get ctx n ≡ slice_get others n
  left_sort_at (var m) s u l p q n o = absurd l
  left_sort_at (app f ts) s u l p q n o =
      let e : Some p.0 ≡ Some q.0 = sym p.1 ∙ q.1 in
      let k : q.0 ≡ p.0 = cc in
      sorts_at ts p.0.args p.3 (subst (λ (i : SymInfo). SortedAll sig others ts i.args) k q.3) n o

-- the names of the rule are those of the left side by first occurrence
pub rule_names : (sig : Sig) (raw : RawRule) (rule : Rule) → RuleStands sig raw rule →
    names_after sig [] raw.left ≡ variable_names rule.vars
rule_names sig raw rule is =
    let names = variable_names rule.vars in
    let all : length names ≤ length (sorts_of rule.vars) = omega (
      arith,
      length-map rule.vars (λ (v : VarInfo). v.sort),
      length-map rule.vars (λ (v : VarInfo). v.name),
    ) in
    through sig names is.names raw.left rule.left 0 (length (sorts_of rule.vars)) is.left is.numbered
    ∙ take_all (length (sorts_of rule.vars)) names all

module _ (sig : Sig) (declared : IsDeclared sig) where
  one_guard : (names : List (List ℕ)) → AreNewNames [] names → (raw : RawGuard) (g h : Guard) →
      GuardStands sig names raw g → GuardStands sig names raw h → g ≡ h
  one_guard names different raw g h p q =
      let a : g.test ≡ h.test = one_term sig (symbols_distinct sig declared) names different raw.test g.test
      h.test p.0 q.0 in
      let b : g.wanted ≡ h.wanted = p.1 ∙ sym q.1 in
      λ i. record { test = a i; wanted = b i }

  pub one_rule : (raw : RawRule) (r q : Rule) → RuleStands sig raw r → RuleStands sig raw q → r ≡ q
  one_rule raw r q is too =
      let distinct = symbols_distinct sig declared in
      let mine = variable_names r.vars in
      let names : variable_names q.vars ≡ variable_names r.vars = sym (rule_names sig raw q too)
      ∙ rule_names sig raw r is in
      let left : r.left ≡ q.left = one_term sig distinct mine is.names raw.left r.left q.left is.left
      (subst (λ ns. TermStands sig ns raw.left q.left) names too.left) in
      let right : r.right ≡ q.right = one_term sig distinct mine is.names raw.right r.right q.right is.right
      (subst (λ ns. TermStands sig ns raw.right q.right) names too.right) in
      let guards : r.guards ≡ q.guards = pairs_one (GuardStands sig mine) (one_guard mine is.names) raw.guards
      r.guards q.guards is.guards (subst (λ ns. AllZip (GuardStands sig ns) raw.guards q.guards) names
      too.guards) in
      let long : length (sorts_of r.vars) ≡ length r.vars = length-map r.vars (λ (v : VarInfo). v.sort) in
      let there : Sorted sig (sorts_of q.vars) r.left too.sides.0 = subst
      (λ t. Sorted sig (sorts_of q.vars) t too.sides.0) (sym left) too.sides.1 in
      let occurs : (n : ℕ) (v : VarInfo) → slice_get r.vars n ≡ Some v →
      Occurs n r.left = λ n v at. numbered_occurs 0 (length (sorts_of r.vars)) r.left is.numbered n
      (omega arith) (omega (arith, slice_get_within r.vars n v at)) in
      let vars : r.vars ≡ q.vars = same_vars r.vars q.vars (sym names)
      (λ n v at. sym (left_sort_at sig (sorts_of r.vars) (sorts_of q.vars) r.left is.sides.0 too.sides.0
      is.head is.sides.1 there n (occurs n v at)) ∙ sort_of_place r.vars n v at) in
      λ i. record { vars = vars i; left = left i; right = right i; guards = guards i }
