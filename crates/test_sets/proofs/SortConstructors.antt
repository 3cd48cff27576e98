-- The constructors of a sort, and the patterns that they make.
use Rattle.std.proofs.Common.{◌≡◌, ℕ, zero, suc, ◌+◌, ◌<◌, ◌≤◌, List, [], ◌∷◌, cond, Some, None, inl, inr, ◌++◌, map}
use Rattle.std.proofs.Common.{length, take, get_or, refl, ap, sym, ◌∙◌, subst, arith}
use Rattle.std.specs.Prelude.{Any, slice_get, option_map}
use Rattle.std.specs.List.{AllByRecursion, AllZip}
use Rattle.std.proofs.lemmas.Bool.Decides.{eqb_tells}
use Rattle.std.proofs.lemmas.List.{length-map, get_or-map, get_or_default}
use Rattle.std.proofs.lemmas.Option.{slice_get_within}
use Rattle.term_core.specs.Tree.{Tree, Trees, var, app, none, some, instance, trees_of, list_of}
use Rattle.term_core.specs.declared.ids.SortId.{SortId}
use Rattle.term_core.specs.declared.ids.SymId.{SymId}
use Rattle.term_core.proofs.Members.{In}
use Rattle.term_core.proofs.Trees.{trees_of-list_of}
use Rattle.spec_core.specs.declared.records.SymInfo.{SymInfo}
use Rattle.spec_core.specs.Sig.{Sig, info_of, IsConstructor}
use Rattle.spec_core.specs.Sorts.{SortedAll}
use Rattle.spec_core.specs.Order.{constructors_from, constructors_of, symbol_number, constructor_numbers}
use Rattle.spec_core.proofs.Constructors.{info_parts}
use Rattle.clause_core.specs.Instances.{variables}
use Rattle.clause_core.specs.Patterns.{IsPatternOf, IsInstanceOf, AreCovering}
use Rattle.test_sets.specs.TestSets.{applied, test_set_of, contexts_of}
use Rattle.test_sets.proofs.ChildrenOfPatterns.{mapped_next, all_at}
use Rattle.test_sets.proofs.CoveredValues.{any_first, any_behind}
use Rattle.test_sets.proofs.Variables.{variables_instances, variables_occur, variables_are_patterns}
use Rattle.test_sets.proofs.Variables.{variables_are_sorted}

-- a constructor of the sort with its arguments' sorts
pub record IsOneOf (sig : Sig) (s : SortId) (c : ℕ × List SortId) : Type 0 where
  pub constructor : IsConstructor sig c.0
  pub info : SymInfo
  pub at : info_of sig c.0 ≡ Some info
  pub args : info.args ≡ c.1
  pub result : info.result ≡ s

same_sort : (r s : SortId) → r.0 ≡ s.0 → r ≡ s
same_sort r s e = λ i. record { 0 = e i }

module _ (sig : Sig) (s : SortId) where
  each_from :
      (f left : ℕ) (es : List (List ℕ × SymInfo)) → ((k : ℕ) → slice_get es k ≡ slice_get sig.table (f + k)) →
      f + left ≤ sig.constructors →
      AllByRecursion (IsOneOf sig s) (constructors_from f left s es)
  each_from f zero es h w = tt
  each_from f (suc left) [] h w = tt
  each_from f (suc left) (e ∷ es) h w =
      let rest = each_from (suc f) left es (λ k. let n : f + suc k ≡ suc f + k = omega arith in
      h (suc k) ∙ ap (λ m. slice_get sig.table m) n) (omega arith) in
      let All : List (ℕ × List SortId) → Type 0 = λ cs. AllByRecursion (IsOneOf sig s) cs in
      let others = constructors_from (suc f) left s es in
      elim (eqb_tells e.1.result.0 s.0) [
        | inl t ↦ subst (λ b. All (cond b ((f, e.1.args) ∷ others) others)) (sym t.0) (
          record {
            constructor = omega arith;
            info = e.1;
            at = let n : f ≡ f + 0 = omega arith in
                ap (λ m. option_map (λ (x : List ℕ × SymInfo). x.1) (slice_get sig.table m)) n
                ∙ ap (λ o. option_map (λ (x : List ℕ × SymInfo). x.1) o) (sym (h 0));
            args = refl;
            result = same_sort e.1.result s t.1;
          },
          rest,
        )
        | inr t ↦ subst (λ b. All (cond b ((f, e.1.args) ∷ others) others)) (sym t.0) rest
      ]

  pub each_of_sort : AllByRecursion (IsOneOf sig s) (constructors_of sig s)
  each_of_sort = each_from 0 sig.constructors sig.table (λ k. let n : k ≡ 0 + k = omega arith in
      ap (λ m. slice_get sig.table m) n) (omega arith)

  has_from :
      (f left : ℕ) (es : List (List ℕ × SymInfo)) (k : ℕ) (e : List ℕ × SymInfo) → slice_get es k ≡ Some e →
      k < left → e.1.result.0 ≡ s.0 →
      In (f + k, e.1.args) (constructors_from f left s es)
  has_from f zero es k e at lt q = absurd (omega arith)
  has_from f (suc left) [] k e at lt q = absurd (let z : None ≡ Some e = at in cc)
  has_from f (suc left) (d ∷ es) zero e at lt q =
      let z : Some d ≡ Some e = at in
      let here : d ≡ e = cc in
      let others = constructors_from (suc f) left s es in
      let n : f + 0 ≡ f = omega arith in
      elim (eqb_tells d.1.result.0 s.0) [
        | inl t ↦ subst (λ b. In (f + 0, e.1.args) (cond b ((f, d.1.args) ∷ others) others)) (sym t.0)
            (inl (λ i. (n i, (sym here i).1.args)))
        | inr t ↦ absurd (t.1 (ap (λ (x : List ℕ × SymInfo). x.1.result.0) here ∙ q))
      ]
  has_from f (suc left) (d ∷ es) (suc k) e at lt q =
      let others = constructors_from (suc f) left s es in
      let n : suc f + k ≡ f + suc k = omega arith in
      let rest : In (f + suc k, e.1.args) others = subst (λ m. In (m, e.1.args) others) n
      (has_from (suc f) left es k e at (omega arith) q) in
      elim (eqb_tells d.1.result.0 s.0) [
        | inl t ↦ subst (λ b. In (f + suc k, e.1.args) (cond b ((f, d.1.args) ∷ others) others)) (sym t.0) (inr rest)
        | inr t ↦ subst (λ b. In (f + suc k, e.1.args) (cond b ((f, d.1.args) ∷ others) others)) (sym t.0) rest
      ]

  has_constructor : (f : ℕ) (i : SymInfo) → IsConstructor sig f → info_of sig f ≡ Some i → i.result ≡ s →
      In (f, i.args) (constructors_of sig s)
  has_constructor f i lt at r =
      let e = info_parts sig.table f i at in
      let n : 0 + f ≡ f = omega arith in
      let there = has_from 0 sig.constructors sig.table f e.0 e.1 lt (ap (λ (x : SymInfo). x.result.0) e.2
      ∙ ap (λ (x : SortId). x.0) r) in
      subst (λ (c : ℕ × List SortId). In c (constructors_of sig s)) (λ j. (n j, (e.2 j).args)) there

any_applied : (v : Tree) (c : ℕ × List SortId) (cs : List (ℕ × List SortId)) → In c cs →
    IsInstanceOf v (applied c) → Any (IsInstanceOf v) (map applied cs)
any_applied v c [] i h = absurd i
any_applied v c (d ∷ cs) (inl e) h = any_first (IsInstanceOf v) (applied d) (map applied cs)
    (subst (λ x. IsInstanceOf v (applied x)) e h)
any_applied v c (d ∷ cs) (inr i) h = any_behind (IsInstanceOf v) (applied d) (map applied cs) (any_applied v c cs i h)

-- as many arguments as sorts
sorted_count : (sig : Sig) (ctx : List SortId) (ts : Trees) (ss : List SortId) → SortedAll sig ctx ts ss →
    length (list_of ts) ≡ length ss
sorted_count sig ctx none [] p = refl
sorted_count sig ctx none (s ∷ ss) p = absurd p
sorted_count sig ctx (some t ts) [] p = absurd p
sorted_count sig ctx (some t ts) (s ∷ ss) p = omega (arith, sorted_count sig ctx ts ss p.1)

pub test_set_covers : (sig : Sig) (s : SortId) → AreCovering sig s (test_set_of sig s)
test_set_covers sig s (var n) is = absurd is.1
test_set_covers sig s (app f ts) is =
    let i = is.0.0 in
    let count = sorted_count sig [] ts i.args is.0.3 in
    let made = variables_instances (list_of ts) ∙ trees_of-list_of ts in
    any_applied (app f ts) (f, i.args) (constructors_of sig s) (has_constructor sig s f i is.1.0 is.0.1 is.0.2) (
      list_of ts,
      ap (λ k. instance (list_of ts) (app f (trees_of (variables 0 k)))) (sym count)
          ∙ ap (λ us. app f us) made,
    )

one_pattern : (sig : Sig) (s : SortId) (c : ℕ × List SortId) → IsOneOf sig s c → IsPatternOf sig s c.1 (applied c)
one_pattern sig s c is =
    let args = variables_are_sorted sig c.1 0 c.1 (λ k. let n : 0 + k ≡ k = omega arith in
    ap (λ m. slice_get c.1 m) n) in
    record {
      sorted = (
        is.info,
        is.at,
        is.result,
        subst (λ ss. SortedAll sig c.1 (trees_of (variables 0 (length c.1))) ss) (sym is.args) args,
      );
      pattern = (is.constructor, variables_are_patterns sig 0 (length c.1));
      numbered = variables_occur 0 (length c.1);
    }

each_pattern : (sig : Sig) (s : SortId) (cs : List (ℕ × List SortId)) → AllByRecursion (IsOneOf sig s) cs →
    AllZip (IsPatternOf sig s) (map (λ (c : ℕ × List SortId). c.1) cs) (map applied cs)
each_pattern sig s [] h = tt
each_pattern sig s (c ∷ cs) h = (one_pattern sig s c h.0, each_pattern sig s cs h.1)

pub test_set_patterns : (sig : Sig) (s : SortId) → AllZip (IsPatternOf sig s) (contexts_of sig s) (test_set_of sig s)
test_set_patterns sig s = each_pattern sig s (constructors_of sig s) (each_of_sort sig s)

module _ (sig : Sig) (s : SortId) (syms : List SymId) (numbers : map symbol_number syms ≡ constructor_numbers
    sig s) where
  -- as many symbols as constructors
  symbols_count : length syms ≡ length (constructors_of sig s)
  symbols_count =
      sym (length-map syms symbol_number)
      ∙ ap (λ (ns : List ℕ). length ns) numbers
      ∙ length-map (constructors_of sig s) (λ (c : ℕ × List SortId). c.0)

  -- the constructor of the symbol at a place
  record At (k : ℕ) (f : SymId) : Type 0 where
    constructor : ℕ × List SortId
    there : constructor ≡ get_or (constructors_of sig s) k constructor
    within : k < length (constructors_of sig s)
    number : f.0 ≡ constructor.0
    is : IsOneOf sig s constructor

  symbol_at : (k : ℕ) (f : SymId) → k < length syms → f ≡ get_or syms k f → At k f
  symbol_at k f lt at =
      let cs : List (ℕ × List SortId) = constructors_of sig s in
      let d : ℕ × List SortId = (0, []) in
      let c : ℕ × List SortId = get_or cs k d in
      let below : k < length cs = omega (arith, lt, symbols_count) in
      let there : c ≡ get_or cs k c = get_or_default cs k d c below in
      let number : f.0 ≡ c.0 =
      ap (λ (x : SymId). x.0) at
      ∙ sym (get_or-map symbol_number syms k f 0 lt)
      ∙ ap (λ (ns : List ℕ). get_or ns k 0) numbers
      ∙ get_or-map (λ (x : ℕ × List SortId). x.0) cs k d 0 below in
      record {
        constructor = c;
        there = there;
        within = below;
        number = number;
        is = all_at (IsOneOf sig s) cs k c below there (each_of_sort sig s);
      }

  -- each of the symbols is declared
  pub symbol_within : (k : ℕ) (f : SymId) → k < length syms → f ≡ get_or syms k f → f.0 < length sig.table
  symbol_within k f lt at =
      let h = symbol_at k f lt at in
      let e = info_parts sig.table h.constructor.0 h.is.info h.is.at in
      omega (arith, h.number, slice_get_within sig.table h.constructor.0 e.0 e.1)

  -- one symbol more, applied to variables
  pub applied_next :
      (k : ℕ) (f : SymId) (i : SymInfo) (made : List Tree) (t : Tree) → k < length syms → f ≡ get_or syms k f →
      info_of sig f.0 ≡ Some i →
      made ≡ map applied (take k (constructors_of sig s)) → t ≡ app f.0 (trees_of (variables 0 (length i.args))) →
      made ++ t ∷ [] ≡ map applied (take (k + 1) (constructors_of sig s))
  applied_next k f i made t lt at info e is =
      let h = symbol_at k f lt at in
      let both : Some i ≡ Some h.is.info = sym info ∙ ap (λ n. info_of sig n) h.number ∙ h.is.at in
      let same : i ≡ h.is.info = cc in
      let args : i.args ≡ h.constructor.1 = ap (λ (x : SymInfo). x.args) same ∙ h.is.args in
      mapped_next applied (constructors_of sig s) k h.constructor t made h.within h.there e
      (is ∙ (λ j. app (h.number j) (trees_of (variables 0 (length (args j))))))
