-- With its own variables for its variables a clause says what it said.
use Rattle.std.proofs.Common.{◌≡◌, ℕ, List, [], ◌∷◌, Some, inl, inr, refl, ◌∙◌, ap, arith, length, map, get_or}
use Rattle.std.proofs.Math.ListN.{get_or-eq_default}
use Rattle.std.proofs.lemmas.List.FromFn.{length-map-range_with_len, get_or-map-range_with_len}
use Rattle.term_core.specs.Tree.{Tree, Trees, var, app, none, some, instance, instances}
use Rattle.term_core.specs.declared.ids.SortId.{SortId}
use Rattle.term_core.proofs.Numbers.{below_or_not}
use Rattle.spec_core.specs.declared.records.Equation.{Equation}
use Rattle.substitutions.proofs.Instances.{apply_values}
use Rattle.clause_core.specs.declared.clauses.Clause.{Clause}
use Rattle.clause_core.specs.ClauseInstances.{equation_instance}
use Rattle.clause_core.specs.Instances.{variables, instance_by}
use Rattle.script_trim.specs.Closing.{own_variables}

variable_stays : (count k : ℕ) → get_or (variables 0 count) k (var k) ≡ var k
variable_stays count k = elim (below_or_not k count) [
  | inl lt ↦ get_or-map-range_with_len (λ n. var n) 0 count k k (var k) lt (omega arith)
  | inr le ↦ get_or-eq_default (variables 0 count) (var k) (omega
      (arith, le, length-map-range_with_len (λ n. var n) 0 count))
]

mutual
  term_stays : (count : ℕ) (t : Tree) → instance (variables 0 count) t ≡ t
  term_stays count (var k) = variable_stays count k
  term_stays count (app f ts) = ap (λ us. app f us) (terms_stay count ts)

  terms_stay : (count : ℕ) (ts : Trees) → instances (variables 0 count) ts ≡ ts
  terms_stay count none = refl
  terms_stay count (some t ts) =
      let p : instance (variables 0 count) t ≡ t = term_stays count t in
      let q : instances (variables 0 count) ts ≡ ts = terms_stay count ts in
      cc

equations_stay : (count : ℕ) (es : List Equation) →
    map (equation_instance (map (λ (t : Tree). Some t) (variables 0 count))) es ≡ es
equations_stay count [] = refl
equations_stay count (e ∷ es) =
    let left = apply_values (variables 0 count) e.left ∙ term_stays count e.left in
    let right = apply_values (variables 0 count) e.right ∙ term_stays count e.right in
    let rest = equations_stay count es in
    λ i. record { left = left i; right = right i } ∷ rest i

pub premises_stay : (d : Clause) (ctx : List SortId) → (instance_by (own_variables d) ctx d).premises ≡ d.premises
premises_stay d ctx = equations_stay (length d.ctx) d.premises

pub conclusions_stay : (d : Clause) (ctx : List SortId) →
    (instance_by (own_variables d) ctx d).conclusions ≡ d.conclusions
conclusions_stay d ctx = equations_stay (length d.ctx) d.conclusions
