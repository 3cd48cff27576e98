-- `generalize` says one thing.
use Rattle.std.proofs.Common.{◌≡◌, List, [], ◌∷◌, refl}
use Rattle.term_core.specs.Tree.{Tree, var, app}
use Rattle.term_core.specs.declared.ids.SortId.{SortId}
use Rattle.spec_core.specs.declared.records.Spec.{Spec}
use Rattle.spec_core.specs.Sig.{Sig}
use Rattle.spec_core.proofs.OneSort.{sort_unique}
use Rattle.clause_core.specs.declared.clauses.Clause.{Clause}
use Rattle.clause_core.specs.declared.clauses.Relation.TheVariants.{Same}
use Rattle.clause_core.specs.Rows.{child}
use Rattle.clause_core.specs.Abstracting.{generalized}
use Rattle.clause_core.specs.Generalizing.{IsGeneral, generalize_row}
use Rattle.clause_core.proofs.OneAnswer.{Agree}

-- a term has one sort
sort_one : (sig : Sig) (ctx : List SortId) (t : Tree) (s r : SortId) → IsGeneral sig ctx t s →
    IsGeneral sig ctx t r → s ≡ r
sort_one sig ctx (var n) s r p q = absurd p
sort_one sig ctx (app f ts) s r p q = sort_unique sig ctx (app f ts) s r p q

module _ (spec : Spec) (c : Clause) where
  pub generalize_one : (t : Tree) → Agree (generalize_row spec c t) (generalize_row spec c t)
  generalize_one t = (
    λ p. p,
    λ p. p,
    refl,
    λ a b.
        let e : a.0 ≡ b.0 = sort_one spec.sig c.ctx t a.0 b.0 a.1 b.1 in
        (λ p. p, λ p. p, refl, λ p q. (λ i. child Same (generalized c t (e i)) ∷ [], refl)),
  )
