-- Raw declarations stand for at most one signature.
use Rattle.std.proofs.Common.{◌≡◌, ℕ, suc, List, [], ◌∷◌, ◌++◌, sym, ◌∙◌, subst}
use Rattle.std.specs.Prelude.{codes}
use Rattle.term_core.specs.declared.ids.SortId.{SortId}
use Rattle.spec_core.specs.declared.records.SymInfo.{SymInfo}
use Rattle.spec_core.specs.Sig.{Sig}
use Rattle.spec_core.specs.Declarations.{AreNewNames, IsDeclared, declared_by}
use Rattle.spec_grammar.specs.declared.raw.RawName.{RawName}
use Rattle.spec_grammar.specs.declared.raw.RawNames.{RawNames}
use Rattle.spec_grammar.specs.declared.raw.RawSort.{RawSort}
use Rattle.spec_grammar.specs.declared.raw.RawFun.{RawFun}
use Rattle.spec_grammar.specs.declared.raw.RawSpec.{RawSpec}
use Rattle.sort_check.specs.Signatures.{sort_names, SortStands, ConstructorStands, ConstructorsStand, FunctionStands}
use Rattle.sort_check.specs.Signatures.{SignatureStands}
use Rattle.sort_check.proofs.Pairs.{pairs_one}
use Rattle.sort_check.proofs.Names.{one_place, sorts_distinct}

module _ (sorts : List (List ℕ)) (distinct : AreNewNames [] sorts) where
  pub one_sort : (raw : RawName) (s u : SortId) → SortStands sorts raw s → SortStands sorts raw u → s ≡ u
  one_sort raw s u p q = let e : s.0 ≡ u.0 = one_place [] sorts s.0 u.0 raw.name distinct p q in λ i. record { 0 = e i }

  one_constructor : (sort : ℕ) (raw : RawNames) (e d : List ℕ × SymInfo) → ConstructorStands sorts sort raw e →
      ConstructorStands sorts sort raw d → e ≡ d
  one_constructor sort raw e d p q =
      let a : e.0 ≡ d.0 = p.0 ∙ sym q.0 in
      let b : e.1.args ≡ d.1.args = pairs_one (SortStands sorts) one_sort raw.args e.1.args d.1.args p.1 q.1 in
      let r : e.1.result.0 ≡ d.1.result.0 = p.2 ∙ sym q.2 in
      λ i. (a i, record { args = b i; result = record { 0 = r i } })

  one_function : (raw : RawFun) (e d : List ℕ × SymInfo) → FunctionStands sorts raw e →
      FunctionStands sorts raw d → e ≡ d
  one_function raw e d p q =
      let a : e.0 ≡ d.0 = p.0 ∙ sym q.0 in
      let b : e.1.args ≡ d.1.args = pairs_one (SortStands sorts) one_sort raw.head.args e.1.args d.1.args p.1 q.1 in
      let r : e.1.result ≡ d.1.result = one_sort raw.result e.1.result d.1.result p.2 q.2 in
      λ i. (a i, record { args = b i; result = r i })

  one_constructors : (sort : ℕ) (raws : List RawSort) (es ds : List (List ℕ × SymInfo)) →
      ConstructorsStand sorts sort raws es → ConstructorsStand sorts sort raws ds → es ≡ ds
  one_constructors sort [] es ds p q = p ∙ sym q
  one_constructors sort (raw ∷ raws) es ds p q =
      let a : p.0 ≡ q.0 = pairs_one (ConstructorStands sorts sort) (one_constructor sort) raw.constructors p.0
      q.0 p.3 q.3 in
      let b : p.1 ≡ q.1 = one_constructors (suc sort) raws p.1 q.1 p.4 q.4 in
      p.2 ∙ (λ i. a i ++ b i) ∙ sym q.2

pub one_signature : (raw : RawSpec) (s t : Sig) → IsDeclared s → SignatureStands raw s → SignatureStands raw t → s ≡ t
one_signature raw s t declared p q =
    let names = codes "Bool" ∷ sort_names raw.sorts in
    let distinct : AreNewNames [] names = subst (λ (g : Sig). AreNewNames [] g.sorts) p.is
    (sorts_distinct s declared) in
    let a : p.constructors ≡ q.constructors = one_constructors names distinct 1 raw.sorts p.constructors
    q.constructors p.each_constructor q.each_constructor in
    let b : p.functions ≡ q.functions = pairs_one (FunctionStands names) (one_function names distinct) raw.funs
    p.functions q.functions p.each_function q.each_function in
    p.is ∙ (λ i. declared_by (sort_names raw.sorts) (a i) (b i)) ∙ sym q.is
