-- A tidied clause fails if the clause does.
use Rattle.std.proofs.Common.{◌≡◌, ℕ, zero, suc, List, [], ◌∷◌, ◌++◌, Some, None, inl, inr, refl, ap, sym, subst, map}
use Rattle.std.specs.Prelude.{slice_get, slice_index_or}
use Rattle.std.specs.List.{AllByRecursion}
use Rattle.term_core.specs.Tree.{Tree, Trees, var, app, none, some, instance, instances, trees_of}
use Rattle.term_core.specs.Variables.{occurrences, occurrences_all, Occurs, OccursAny}
use Rattle.term_core.specs.Gathered.{met, gathered}
use Rattle.term_core.specs.declared.ids.SortId.{SortId}
use Rattle.term_core.proofs.Items.{all_append}
use Rattle.spec_core.specs.declared.records.Equation.{Equation}
use Rattle.spec_core.specs.declared.records.Spec.{Spec}
use Rattle.spec_core.specs.Sig.{Sig}
use Rattle.spec_core.specs.Sorts.{Sorted, SortedAll, IsValue}
use Rattle.spec_core.specs.Gives.{Gives}
use Rattle.spec_core.specs.Truth.{AreValuesOf, AllHold, AllBroken}
use Rattle.spec_core.specs.WellSorted.{EquationsAreSorted}
use Rattle.clause_core.specs.declared.clauses.Clause.{Clause}
use Rattle.clause_core.specs.Clauses.{sides_of, sides, ClauseIsSorted}
use Rattle.clause_core.specs.Tidied.{variables_of, place_of, renumbered, renumbered_all, renumbered_equation, sorts_at}
use Rattle.clause_core.specs.Tidied.{tidied}
use Rattle.clause_core.specs.Failing.{ClauseFails, values_at}
use Rattle.clause_core.proofs.FirstOccurrences.{gathered_firsts}
use Rattle.clause_core.proofs.Renumbering.{Met, met_or_not, met_old, met_new, occurrences_all-append}
use Rattle.clause_core.proofs.TidiedSorts.{variables_met, at_place, sort_at, any_in_first, any_in_second}

index_at : (ts : List Tree) (k : ℕ) (t d : Tree) → slice_get ts k ≡ Some t → slice_index_or ts k d ≡ t
index_at [] k t d e = absurd (let q : None ≡ Some t = e in cc)
index_at (u ∷ ts) zero t d e = let q : Some u ≡ Some t = e in cc
index_at (u ∷ ts) (suc k) t d e = index_at ts k t d e

module _ (olds : List ℕ) (values : List Tree) where
  mutual
    -- a renumbered term has the same instance under the values of the variables that were met
    pub same_instance : (t : Tree) → ((n : ℕ) → Occurs n t → Met olds n) →
        instance (values_at olds values) (renumbered olds t) ≡ instance values t
    same_instance (var n) h = index_at (values_at olds values) (place_of olds n) (instance values (var n))
        (var (place_of olds n)) (at_place (λ m. instance values (var m)) olds n (h n refl))
    same_instance (app f ts) h = ap (λ us. app f us) (same_instances ts h)

    same_instances :
        (ts : Trees) → ((n : ℕ) → OccursAny n ts → Met olds n) →
        instances (values_at olds values) (renumbered_all olds ts) ≡ instances values ts
    same_instances none h = refl
    same_instances (some t ts) h =
        let p : instance (values_at olds values) (renumbered olds t) ≡ instance values t = same_instance t
        (λ n o. h n (inl o)) in
        let q : instances (values_at olds values) (renumbered_all olds ts) ≡ instances values
        ts = same_instances ts (λ n o. h n (inr o)) in
        λ i. some (p i) (q i)

  module _ (spec : Spec) where
    moved :
        (t : Tree) → ((n : ℕ) → Occurs n t → Met olds n) → {v : Tree} {n : ℕ} → Gives spec (instance values t) v n →
        Gives spec (instance (values_at olds values) (renumbered olds t)) v n
    moved t h {v} {n} g = subst (λ u. Gives spec u v n) (sym (same_instance t h)) g

    all_hold :
        (es : List Equation) → ((n : ℕ) → OccursAny n (trees_of (sides_of es)) → Met olds n) → AllHold spec values es →
        AllHold spec (values_at olds values) (map (renumbered_equation olds) es)
    all_hold [] m h = tt
    all_hold (e ∷ es) m h = (
      (
        h.0.0,
        h.0.1,
        h.0.2,
        moved e.left (λ n o. m n (inl o)) h.0.3,
        moved e.right (λ n o. m n (inr (inl o))) h.0.4,
      ),
      all_hold es (λ n o. m n (inr (inr o))) h.1,
    )

    all_broken :
        (es : List Equation) → ((n : ℕ) → OccursAny n (trees_of (sides_of es)) → Met olds n) →
        AllBroken spec values es → AllBroken spec (values_at olds values) (map (renumbered_equation olds) es)
    all_broken [] m h = tt
    all_broken (e ∷ es) m h = (
      (
        h.0.0,
        h.0.1,
        h.0.2,
        h.0.3,
        h.0.4,
        moved e.left (λ n o. m n (inl o)) h.0.5,
        moved e.right (λ n o. m n (inr (inl o))) h.0.6,
      ),
      all_broken es (λ n o. m n (inr (inr o))) h.1,
    )

-- the variable has a sort
abbrev HasSort : List SortId → ℕ → Type 0
HasSort ctx n = (s : SortId) × (slice_get ctx n ≡ Some s)

module _ (sig : Sig) (ctx : List SortId) where
  mutual
    sorted_variables : (t : Tree) (s : SortId) → Sorted sig ctx t s → AllByRecursion (HasSort ctx) (occurrences t)
    sorted_variables (var n) s p = ((s, p), tt)
    sorted_variables (app f ts) s p = all_sorted_variables ts p.0.args p.3

    all_sorted_variables : (ts : Trees) (ss : List SortId) → SortedAll sig ctx ts ss →
        AllByRecursion (HasSort ctx) (occurrences_all ts)
    all_sorted_variables none ss p = tt
    all_sorted_variables (some t ts) [] p = absurd p
    all_sorted_variables (some t ts) (s ∷ ss) p = all_append (HasSort ctx) (occurrences t) (occurrences_all ts)
        (sorted_variables t s p.0) (all_sorted_variables ts ss p.1)

  variables_of_sides : (es : List Equation) → EquationsAreSorted sig ctx es →
      AllByRecursion (HasSort ctx) (occurrences_all (trees_of (sides_of es)))
  variables_of_sides [] h = tt
  variables_of_sides (e ∷ es) h =
      let s = h 0 e refl in
      all_append (HasSort ctx) (occurrences e.left) (occurrences e.right
      ++ occurrences_all (trees_of (sides_of es))) (sorted_variables e.left s.0 s.1)
      (all_append (HasSort ctx) (occurrences e.right) (occurrences_all (trees_of (sides_of es)))
      (sorted_variables e.right s.0 s.2) (variables_of_sides es (λ k d at. h (suc k) d at)))

all_met : (P : ℕ → Type 0) (olds ns : List ℕ) → AllByRecursion P olds → AllByRecursion P ns →
    AllByRecursion P (gathered olds ns)
all_met P olds [] p q = p
all_met P olds (n ∷ ns) p q = all_met P (met olds n) ns more q.1
  where
    more : AllByRecursion P (met olds n)
    more = elim (met_or_not olds n) [
      | inl h ↦ subst (λ os. AllByRecursion P os) (sym (met_old olds n h)) p
      | inr h ↦ subst (λ os. AllByRecursion P os) (sym (met_new olds n h)) (all_append P olds (n ∷ []) p (q.0, tt))
    ]

variables_have_sorts : (sig : Sig) (c : Clause) → ClauseIsSorted sig c → AllByRecursion (HasSort c.ctx) (variables_of c)
variables_have_sorts sig c s =
    let all : AllByRecursion (HasSort c.ctx) (occurrences_all (trees_of (sides c))) =
    subst (λ ns. AllByRecursion (HasSort c.ctx) ns)
    (sym (occurrences_all-append (sides_of c.premises) (sides_of c.conclusions)))
    (all_append (HasSort c.ctx) (occurrences_all (trees_of (sides_of c.premises)))
    (occurrences_all (trees_of (sides_of c.conclusions)))
    (variables_of_sides sig c.ctx c.premises s.premises)
    (variables_of_sides sig c.ctx c.conclusions s.conclusions)) in
    subst (λ ns. AllByRecursion (HasSort c.ctx) ns) (gathered_firsts (occurrences_all (trees_of (sides c))))
    (all_met (HasSort c.ctx) [] (occurrences_all (trees_of (sides c))) tt all)

value_of :
    (spec : Spec) (ctx : List SortId) (values : List Tree) → AreValuesOf spec ctx values → (n : ℕ) (s : SortId) →
    slice_get ctx n ≡ Some s → (d : Tree) → IsValue spec.sig s (slice_index_or values n d)
value_of spec [] values v n s at d = absurd (let q : None ≡ Some s = at in cc)
value_of spec (x ∷ ctx) [] v n s at d = absurd v
value_of spec (x ∷ ctx) (y ∷ ys) v zero s at d = let q : Some x ≡ Some s = at in let k : x ≡ s = cc in
    subst (λ w. IsValue spec.sig w y) k v.0
value_of spec (x ∷ ctx) (y ∷ ys) v (suc n) s at d = value_of spec ctx ys v.1 n s at d

values_kept :
    (spec : Spec) (ctx : List SortId) (values : List Tree) → AreValuesOf spec ctx values → (olds : List ℕ) →
    AllByRecursion (HasSort ctx) olds → AreValuesOf spec (sorts_at ctx olds) (values_at olds values)
values_kept spec ctx values v [] h = tt
values_kept spec ctx values v (n ∷ ns) h = (
  subst (λ s. IsValue spec.sig s (instance values (var n))) (sym (sort_at ctx n h.0.0 h.0.1))
      (value_of spec ctx values v n h.0.0 h.0.1 (var n)),
  values_kept spec ctx values v ns h.1,
)

pub keeps_failing :
    (spec : Spec) (c : Clause) (values : List Tree) → ClauseIsSorted spec.sig c → ClauseFails spec c values →
    ClauseFails spec (tidied c) (values_at (variables_of c) values)
keeps_failing spec c values s f = record {
  values_fit = values_kept spec c.ctx values f.values_fit (variables_of c) (variables_have_sorts spec.sig c s);
  premises = all_hold (variables_of c) values spec c.premises
      (λ n o. variables_met c n (any_in_first n (sides_of c.premises) (sides_of c.conclusions) o)) f.premises;
  conclusions = all_broken (variables_of c) values spec c.conclusions
      (λ n o. variables_met c n (any_in_second n (sides_of c.premises) (sides_of c.conclusions) o)) f.conclusions;
}
