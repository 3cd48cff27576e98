-- What the steps say at sorted(cons(?0, cons(?1, ?2))) = true.
use Rattle.std.proofs.Common.{◌≡◌, ◌≢◌, ℕ, zero, suc, ◌<◌, List, [], ◌∷◌, true, Some, inl, inr, refl, ap, sym, ◌∙◌}
use Rattle.std.proofs.Common.{subst, arith}
use Rattle.std.specs.Prelude.{Err, Any}
use Rattle.term_core.specs.Tree.{Tree, Trees, var, app, none, some, instance}
use Rattle.term_core.specs.declared.ids.SortId.{SortId}
use Rattle.spec_core.specs.declared.records.SymInfo.{SymInfo}
use Rattle.spec_core.specs.Sorts.{Sorted, SortedAll, IsBuilt}
use Rattle.spec_core.specs.Declarations.{bool_symbol}
use Rattle.spec_core.specs.Naturals.{nat, declares, zero_term, succ_term}
use Rattle.clause_core.specs.declared.steps.Step.TheVariants.{Rule as by_rule, Case as by_group, Cover}
use Rattle.clause_core.specs.declared.steps.Step.TheVariants.{Context as by_context}
use Rattle.clause_core.specs.declared.answers.Why.TheVariants.{NoSuchPlace, DoesNotFit, NotCovering}
use Rattle.clause_core.specs.Patterns.{IsPatternOf, IsInstanceOf, AreCovering}
use Rattle.clause_core.specs.Insertion.{list, insertion, insertion_sig, sorted_if_rule, sorted_term, two_items}
use Rattle.clause_core.specs.RuleInstances.{RuleAt, IsInstance}
use Rattle.clause_core.specs.ExampleClauses.{conclusion_side, SaysAlone, gives, less, same}
use Rattle.clause_core.specs.TableExamples.{two_sorted, two_sorted_where_le, where_le, where_le_swapped, where_not_le}
use Rattle.clause_core.specs.TableExamples.{first_zero, first_succ, zero_or_succ}
use Rattle.clause_core.proofs.SmallPlaces.{left_side, number_in_range}

abbrev sixth : RuleAt insertion 6
sixth = record { place = 5; rule = sorted_if_rule; counts = refl; is = refl }

abbrev any_items : IsInstance sorted_if_rule (sorted_term two_items)
any_items = record { terms = var 0 ∷ var 1 ∷ var 2 ∷ []; long = refl; is = refl }

pub by_cases : SaysAlone insertion two_sorted (by_group (conclusion_side true []) 6)
    (gives (less where_le ∷ less where_not_le ∷ []) [])
by_cases = inl (
  left_side _ [] _,
  inl (
    sixth,
    inl (
      any_items,
      (
        _,
        ((refl, refl), ((refl, refl), tt)),
        tt,
        inl (
          (
            (
              record { equations = omega arith; depth = omega arith; size = omega arith },
              (record { equations = omega arith; depth = omega arith; size = omega arith }, tt),
            ),
            omega arith,
          ),
          refl,
        ),
      ),
    ),
  ),
)

pub by_one_case : SaysAlone insertion two_sorted (by_rule (conclusion_side true []) 6) (Err DoesNotFit)
by_one_case = inl (left_side _ [] _, inl (sixth, inr (λ m. m.1.0, refl)))

pub by_guarded_rule : SaysAlone insertion two_sorted_where_le (by_rule (conclusion_side true []) 6)
    (gives (less where_le_swapped ∷ []) [])
by_guarded_rule = inl (
  left_side _ _ _,
  inl (
    sixth,
    inl (
      (any_items, (inl (inr refl), tt)),
      (
        _,
        ((refl, refl), tt),
        tt,
        inl (((record { equations = omega arith; depth = omega arith; size = omega arith }, tt), omega arith), refl),
      ),
    ),
  ),
)

pub no_premise : SaysAlone insertion two_sorted (by_context (conclusion_side true []) 1 true) (Err NoSuchPlace)
no_premise = inr (λ at. omega (arith, number_in_range [] 1 at.1), refl)

zero_pattern : IsPatternOf insertion_sig nat [] zero_term
zero_pattern = record { sorted = (_, refl, refl, tt); pattern = (omega arith, tt); numbered = refl }

succ_pattern : IsPatternOf insertion_sig nat (nat ∷ []) (succ_term (var 0))
succ_pattern = record { sorted = (_, refl, refl, (refl, tt)); pattern = (omega arith, (tt, tt)); numbered = refl }

zero_is_not_succ : (v : Tree) → v ≡ succ_term zero_term → Any (IsInstanceOf v) (zero_term ∷ []) → ⊥
zero_is_not_succ v e (zero, p, l, is, (ts, h)) = let q : instance ts p ≡ succ_term zero_term = h ∙ e in
    let k : instance ts zero_term ≡ succ_term zero_term = ap (λ x. instance ts x) is ∙ q in
    let n : ◌≡◌ {A = ℕ} 2 3 = (let r : app 2 none ≡ app 3 (some (app 2 none) none) = k in cc) in omega arith
zero_is_not_succ v e (suc k, p, l, is, h) = omega (arith, l)

pub by_zero : SaysAlone insertion two_sorted (Cover (record { 0 = 0 }) (zero_term ∷ [])) (Err NotCovering)
by_zero = inl (
  record { sort = nat; is = refl; contexts = [] ∷ []; each = (zero_pattern, tt) },
  inr (
    λ c. zero_is_not_succ (succ_term zero_term) refl
        (c (succ_term zero_term) (
          (_, refl, refl, ((_, refl, refl, tt), tt)),
          (omega arith, ((omega arith, tt), tt)),
        )),
    refl,
  ),
)

args : (i : SymInfo) (ts : Trees) (ss : List SortId) → Some (declares ss) ≡ Some i →
    SortedAll insertion_sig [] ts i.args → SortedAll insertion_sig [] ts ss
args i ts ss at s = let e : declares ss ≡ i = cc in
    subst (λ (x : SymInfo). SortedAll insertion_sig [] ts x.args) (sym e) s

not_nat : (s i : SymInfo) → Some s ≡ Some i → i.result ≡ nat → s.result.0 ≢ 1 → ⊥
not_nat s i at r n = let e : s ≡ i = cc in n (ap (λ (x : SymInfo). x.result.0) e ∙ ap (λ (x : SortId). x.0) r)

-- a value of sort Nat is zero, or succ of one
nat_value : (v : Tree) → Sorted insertion_sig [] v nat → IsBuilt insertion_sig v → Any (IsInstanceOf v) zero_or_succ
nat_value (var n) s b = absurd b
nat_value (app zero ts) s b = absurd (not_nat bool_symbol s.0 s.1 s.2 (omega arith))
nat_value (app (suc zero) ts) s b = absurd (not_nat bool_symbol s.0 s.1 s.2 (omega arith))
nat_value (app (suc (suc zero)) none) s b = (0, zero_term, omega arith, refl, ([], refl))
nat_value (app (suc (suc zero)) (some t ts)) s b = absurd (args s.0 (some t ts) [] s.1 s.3)
nat_value (app (suc (suc (suc zero))) none) s b = absurd (args s.0 none (nat ∷ []) s.1 s.3)
nat_value (app (suc (suc (suc zero))) (some t none)) s b = (1, succ_term (var 0), omega arith, refl, (t ∷ [], refl))
nat_value (app (suc (suc (suc zero))) (some t (some u us))) s b = absurd
    (args s.0 (some t (some u us)) (nat ∷ []) s.1 s.3).1
nat_value (app (suc (suc (suc (suc zero)))) ts) s b = absurd
    (not_nat (record { args = []; result = list }) s.0 s.1 s.2 (omega arith))
nat_value (app (suc (suc (suc (suc (suc zero))))) ts) s b = absurd
    (not_nat (record { args = nat ∷ list ∷ []; result = list }) s.0 s.1 s.2 (omega arith))
nat_value (app (suc (suc (suc (suc (suc (suc f)))))) ts) s b = let k : suc (suc (suc (suc (suc (suc f))))) <
    6 = b.0 in absurd (omega arith)

covering : AreCovering insertion_sig nat zero_or_succ
covering v h = nat_value v h.0 h.1

pub by_zero_or_succ : SaysAlone insertion two_sorted (Cover (record { 0 = 0 }) zero_or_succ)
    (gives (same first_zero ∷ same first_succ ∷ []) [])
by_zero_or_succ = inl (
  record {
    sort = nat;
    is = refl;
    contexts = [] ∷ (nat ∷ []) ∷ [];
    each = (
      zero_pattern,
      (succ_pattern, tt),
    );
  },
  inl (
    covering,
    (
      _,
      ((refl, refl), ((refl, refl), tt)),
      tt,
      inl (
        (
          (
            record { equations = omega arith; depth = omega arith; size = omega arith },
            (record { equations = omega arith; depth = omega arith; size = omega arith }, tt),
          ),
          omega arith,
        ),
        refl,
      ),
    ),
  ),
)
