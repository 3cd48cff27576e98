-- One step of descent for `case`: the rule of the left side whose guards hold.
use Rattle.std.proofs.Common.{◌≡◌, ℕ, zero, suc, List, [], ◌∷◌, ◌++◌, Bool, true, false, cond, Some, None, map, filter}
use Rattle.std.proofs.Common.{inl, inr, refl, ap, sym, ◌∙◌, subst, arith, length, append_assoc}
use Rattle.std.specs.Prelude.{slice_get}
use Rattle.std.specs.List.{AllByRecursion}
use Rattle.std.proofs.lemmas.List.{length-map}
use Rattle.term_core.specs.declared.ids.SortId.{SortId}
use Rattle.term_core.specs.Tree.{Tree, var, instance}
use Rattle.term_core.specs.Same.{same_tree}
use Rattle.term_core.specs.Contexts.{plug}
use Rattle.term_core.proofs.SameTrees.{same_tree-refl}
use Rattle.spec_core.specs.declared.records.Equation.{Equation}
use Rattle.spec_core.specs.declared.records.Guard.{Guard}
use Rattle.spec_core.specs.declared.records.Rule.{Rule}
use Rattle.spec_core.specs.declared.records.VarInfo.{VarInfo}
use Rattle.spec_core.specs.declared.records.Spec.{Spec}
use Rattle.spec_core.specs.Declarations.{bool_sort}
use Rattle.spec_core.specs.Sorts.{Sorted}
use Rattle.spec_core.specs.Gives.{Gives}
use Rattle.spec_core.specs.Truth.{AllHold}
use Rattle.spec_core.specs.WellSorted.{IsWellSorted, sorts_of}
use Rattle.spec_core.proofs.Instances.{sorted_instance}
use Rattle.term_order.specs.Laws.{HasRanks}
use Rattle.clause_core.specs.declared.clauses.Clause.{Clause}
use Rattle.clause_core.specs.declared.clauses.Relation.TheVariants.{Less}
use Rattle.clause_core.specs.declared.steps.Place.{Place}
use Rattle.clause_core.specs.declared.steps.Step.TheVariants.{Case}
use Rattle.clause_core.specs.declared.answers.Why.TheVariants.{NoSuchPlace, NoSuchRule, DoesNotFit}
use Rattle.clause_core.specs.Admitted.{IsAdmitted}
use Rattle.clause_core.specs.Clauses.{sides_of, ClauseIsSorted}
use Rattle.clause_core.specs.Places.{TermAt, holding}
use Rattle.clause_core.specs.RuleInstances.{IsInstance, guard_equation, guard_equations, group_of}
use Rattle.clause_core.specs.CaseSplitting.{with_premises, case_child}
use Rattle.clause_core.specs.Rows.{Made}
use Rattle.clause_core.specs.Tidied.{variables_of, tidied}
use Rattle.clause_core.specs.Failing.{ClauseFails, values_at}
use Rattle.clause_core.proofs.Sides.{sides_append}
use Rattle.descent.specs.OneValue.{ValuesRankLower}
use Rattle.descent.specs.Weights.{IsWeight, AreRanks, IsHeavier}
use Rattle.descent.specs.Descent.{GoesTo, StepDescends}
use Rattle.spec_core.proofs.BooleanValues.{value_boolean}
use Rattle.descent.proofs.WholeGroups.{Member, from_group, HasBoolean, choose}
use Rattle.descent.proofs.Closers.{value_of}
use Rattle.descent.proofs.TidiedWeights.{tidied_fails, tidied_weight}
use Rattle.descent.proofs.SideRanks.{Grounded, ranks_split}
use Rattle.descent.proofs.StepDescents.{no_reason, makes_these, goes_on, get_map}
use Rattle.descent.proofs.Counted.{drops_heavier}
use Rattle.descent.proofs.Exchanged.{ranks_join, drops_with}
use Rattle.descent.proofs.SameVariables.{same_variables}
use Rattle.descent.proofs.RuleUse.{evaluated, guards_from, guards_to, child_fails, FallsAt, weight_falls, guards_fall}
use Rattle.descent.proofs.MadeSorted.{case_made}

-- what is kept of a list is at some place
kept_at : (p : Rule → Bool) (rs : List Rule) (n : ℕ) (r : Rule) → slice_get rs n ≡ Some r → p r ≡ true →
    (j : ℕ) × (slice_get (filter p rs) j ≡ Some r)
kept_at p [] n r at e = absurd (let q : None ≡ Some r = at in cc)
kept_at p (x ∷ rs) zero r at e =
    let q : Some x ≡ Some r = at in
    let k : x ≡ r = cc in
    let h : p x ≡ true = ap p k ∙ e in
    (0, ap (λ b. slice_get (cond b (x ∷ filter p rs) (filter p rs)) 0) h ∙ ap (λ z. Some z) k)
kept_at p (x ∷ rs) (suc n) r at e = by (p x) refl (kept_at p rs n r at e)
  where
    by : (b : Bool) → p x ≡ b → (j : ℕ) × (slice_get (filter p rs) j ≡ Some r) →
        (j : ℕ) × (slice_get (filter p (x ∷ rs)) j ≡ Some r)
    by true h i = (suc i.0, ap (λ b. slice_get (cond b (x ∷ filter p rs) (filter p rs)) (suc i.0)) h ∙ i.1)
    by false h i = (i.0, ap (λ b. slice_get (cond b (x ∷ filter p rs) (filter p rs)) i.0) h ∙ i.1)

hold_append : (spec : Spec) (xs : List Tree) (es ds : List Equation) → AllHold spec xs es → AllHold spec xs ds →
    AllHold spec xs (es ++ ds)
hold_append spec xs [] ds h k = k
hold_append spec xs (e ∷ es) ds h k = (h.0, hold_append spec xs es ds h.1 k)

module _ (above : Tree → Tree → Type 0) (rank : ℕ → ℕ → Tree → ℕ → Type 0) (laws : HasRanks above rank)
    (exist : ValuesRankLower above rank) (spec : Spec) (fine : IsWellSorted spec)
    (admitted : IsAdmitted above spec) (c : Clause) (sorted : ClauseIsSorted spec.sig c) (xs : List Tree)
    (fails : ClauseFails spec c xs) (place : Place) (at : TermAt c place) where
  -- the child of a rule whose guards hold
  module _ (k : ℕ) (rule : Rule) (listed : slice_get spec.rules k ≡ Some rule) (fits : IsInstance rule at.term)
      (hold : AllHold spec xs (guard_equations fits.terms rule)) where
    -- the guards' sides come in, and all of them rank below the side that goes
    case_weight : ClauseFails spec (holding at (instance fits.terms rule.right)) xs → (w v : List ℕ) →
        IsWeight rank spec xs c w →
        IsWeight rank spec xs (with_premises (holding at (instance fits.terms rule.right))
        (guard_equations fits.terms rule)) v → IsHeavier w v
    case_weight f w v a b = apart (weight_falls above rank laws exist spec fine admitted c sorted xs fails place
        at k rule listed fits f) (subst (λ ts. AreRanks rank spec xs ts v) split b)
      where
        ps : List Equation
        ps = (holding at (instance fits.terms rule.right)).premises

        cs : List Equation
        cs = (holding at (instance fits.terms rule.right)).conclusions

        es : List Equation
        es = guard_equations fits.terms rule

        split : sides_of (ps ++ es) ++ sides_of cs ≡ sides_of ps ++ (sides_of es ++ sides_of cs)
        split = ap (λ z. z ++ sides_of cs) (sides_append ps es) ∙ append_assoc (sides_of ps) (sides_of es) (sides_of cs)

        apart : Grounded spec xs (plug at.round at.term) × ((w v : List ℕ) → IsWeight rank spec xs c w →
            IsWeight rank spec xs (holding at (instance fits.terms rule.right)) v →
            FallsAt above rank laws exist spec fine admitted c sorted xs fails place at k rule listed fits w
            v) → AreRanks rank spec xs (sides_of ps ++ (sides_of es ++ sides_of cs)) v → IsHeavier w v
        apart falls r = by (ranks_split above rank laws spec xs (sides_of ps) (sides_of es ++ sides_of cs) v r)
          where
            three : (p g q : List ℕ) → v ≡ p ++ (g ++ q) → AreRanks rank spec xs (sides_of ps) p →
                AreRanks rank spec xs (sides_of es) g → AreRanks rank spec xs (sides_of cs) q → IsHeavier w v
            three p g q e rp rg rq =
                let m = falls.1 w (p ++ q) a (ranks_join above rank laws spec xs (sides_of ps) (sides_of cs) p q
                rp rq) in
                let small = guards_fall above rank laws exist spec fine admitted c sorted xs fails place at k
                rule listed fits rule.guards (admitted.ordered k rule listed).guards
                (fine.rules k rule listed).shallow_guards (fine.rules k rule listed).guards falls.0 m.0 m.1 g rg in
                subst (λ z. IsHeavier w z) (sym e)
                (drops_heavier w (p ++ (g ++ q)) (drops_with w p g q m.0 m.2.0 m.2.1 small))

            two : (p t : List ℕ) → v ≡ p ++ t → AreRanks rank spec xs (sides_of ps) p →
                ((g : List ℕ) × (q : List ℕ) × (t ≡ g ++ q) × AreRanks rank spec xs (sides_of es) g
                × AreRanks rank spec xs (sides_of cs) q) → IsHeavier w v
            two p t e rp (g, q, k, rg, rq) = three p g q (e ∙ (λ i. p ++ k i)) rp rg rq

            by : ((p : List ℕ) × (t : List ℕ) × (v ≡ p ++ t) × AreRanks rank spec xs (sides_of ps) p
                × AreRanks rank spec xs (sides_of es ++ sides_of cs) t) → IsHeavier w v
            by (p, t, e, rp, rt) = two p t e rp (ranks_split above rank laws spec xs (sides_of es) (sides_of cs) t rt)

    case_goes : GoesTo rank spec c xs
        (tidied (with_premises (holding at (instance fits.terms rule.right)) (guard_equations fits.terms rule))) Less
    case_goes =
        let here = fine.rules k rule listed in
        let d0 = holding at (instance fits.terms rule.right) in
        let es = guard_equations fits.terms rule in
        let d = with_premises d0 es in
        let g = guards_from above rank laws exist spec fine admitted c sorted xs fails place at k rule listed
        fits rule.guards here.guards hold in
        let f = child_fails above rank laws exist spec fine admitted c sorted xs fails place at k rule listed
        fits g.0 g.1 in
        let d_fails : ClauseFails spec d xs = record {
          values_fit = f.values_fit;
          premises = hold_append spec xs
              d0.premises es f.premises hold;
          conclusions = f.conclusions;
        } in
        let d_sorted : ClauseIsSorted spec.sig d = case_made spec fine c sorted place at fits.terms rule here fits.is in
        record {
          others = values_at (variables_of d) xs;
          fails = tidied_fails spec d d_sorted xs d_fails;
          weighs = λ w v a b. case_weight f w v a (tidied_weight rank spec d xs v b);
        }

  module _ (k : ℕ) (rule : Rule) (listed : slice_get spec.rules k ≡ Some rule) (fits : IsInstance rule at.term) where
    tests_boolean : (gs : List Guard) →
        AllByRecursion (λ (g : Guard). Sorted spec.sig (sorts_of rule.vars) g.test bool_sort) gs →
        AllByRecursion (HasBoolean spec (evaluated above rank laws exist spec fine admitted c sorted xs fails
        place at k rule listed fits).0) gs
    tests_boolean [] p = tt
    tests_boolean (g ∷ gs) p = (one, tests_boolean gs p.1)
      where
        one : HasBoolean spec (evaluated above rank laws exist spec fine admitted c sorted xs fails place at k
            rule listed fits).0 g
        one =
            let ev = evaluated above rank laws exist spec fine admitted c sorted xs fails place at k rule listed fits in
            let v = exist spec fine admitted (instance ev.0 g.test) bool_sort
            (sorted_instance spec.sig (sorts_of rule.vars) g.test bool_sort ev.0 p.0
            (λ n u e. (value_of spec (sorts_of rule.vars) ev.0 ev.1 n u e (var n)).0)) in
            let b = value_boolean spec.sig fine.signature v.value v.is_value in
            (b.0, v.cost, subst (λ t. Gives spec (instance ev.0 g.test) t v.cost) b.1 v.gives)

    member_tests : (gs : List Guard) → (m : Member rule.left spec.rules gs) →
        AllByRecursion (λ (g : Guard). Sorted spec.sig (sorts_of rule.vars) g.test bool_sort) gs
    member_tests gs m =
        let e : sorts_of rule.vars ≡ sorts_of m.rule.vars = same_variables spec.sig rule m.rule
        (fine.rules k rule listed) (fine.rules m.number m.rule m.listed) m.is in
        subst (λ hs. AllByRecursion (λ (g : Guard). Sorted spec.sig (sorts_of rule.vars) g.test bool_sort) hs)
        (sym m.guards) (subst (λ ss. AllByRecursion (λ (g : Guard). Sorted spec.sig ss g.test bool_sort)
        m.rule.guards) (sym e) (fine.rules m.number m.rule m.listed).guards)

    -- some rule of the left side goes on
    pub some_case : (j : ℕ) × (r : Rule) × (slice_get (group_of spec rule.left) j ≡ Some r)
        × GoesTo rank spec c xs
        (tidied (with_premises (holding at (instance fits.terms r.right)) (guard_equations fits.terms r))) Less
    some_case =
        let ev = evaluated above rank laws exist spec fine admitted c sorted xs fails place at k rule listed fits in
        let ch = choose spec ev.0 (admitted.whole k rule listed)
        (λ n gs i. tests_boolean gs (member_tests gs (from_group rule.left spec.rules 0 (n, gs) i))) in
        let m = from_group rule.left spec.rules 0 (ch.number, ch.guards) ch.among in
        let hold : AllHold spec xs (map (guard_equation fits.terms) ch.guards) = guards_to above rank laws exist
        spec fine admitted c sorted xs fails place at k rule listed fits ch.guards
        (member_tests ch.guards m) ch.hold in
        let e : sorts_of rule.vars ≡ sorts_of m.rule.vars = same_variables spec.sig rule m.rule
        (fine.rules k rule listed) (fine.rules m.number m.rule m.listed) m.is in
        let l : length (sorts_of rule.vars) ≡ length (sorts_of m.rule.vars) = ap (λ (ss : List SortId). length ss) e in
        let other : IsInstance m.rule at.term = record {
          terms = fits.terms;
          long = omega (
            arith,
            fits.long,
            l,
            length-map rule.vars (λ (v : VarInfo). v.sort),
            length-map m.rule.vars (λ (v : VarInfo). v.sort),
          );
          is = ap (λ t. instance fits.terms t) (sym m.is) ∙ fits.is;
        } in
        let j = kept_at (λ (r : Rule). same_tree rule.left r.left) spec.rules m.number m.rule m.listed
        (subst (λ t. same_tree rule.left t ≡ true) m.is (same_tree-refl rule.left)) in (
          j.0,
          m.rule,
          j.1,
          case_goes m.number m.rule m.listed other
              (subst (λ gs. AllHold spec xs (map (guard_equation fits.terms) gs)) m.guards hold),
        )

pub case_descends : (above : Tree → Tree → Type 0) (rank : ℕ → ℕ → Tree → ℕ → Type 0) → HasRanks above rank →
    ValuesRankLower above rank → (place : Place) (number : ℕ) → StepDescends above rank (Case place number)
case_descends above rank laws exist place number spec numbers nodes c made xs fine admitted lemmas nodes_sorted
    sorted (inl (at, inl (r, inl (f, m)))) fails =
    let h = case_child spec c at f.terms in
    let cs : List Made = map h (group_of spec r.rule.left) in
    let g = some_case above rank laws exist spec fine admitted c sorted xs fails place at r.place r.rule r.is f in
    goes_on above c nodes made rank spec xs cs (makes_these above c nodes made cs [] m).0 g.0 Less
    (with_premises (holding at (instance f.terms g.1.right)) (guard_equations f.terms g.1))
    (get_map h (group_of spec r.rule.left) g.0 g.1 g.2) g.3
case_descends above rank laws exist place number spec numbers nodes c made xs fine admitted lemmas nodes_sorted
    sorted (inl (at, inl (r, inr h))) fails = absurd (no_reason above c nodes made DoesNotFit h.1)
case_descends above rank laws exist place number spec numbers nodes c made xs fine admitted lemmas nodes_sorted
    sorted (inl (at, inr h)) fails = absurd (no_reason above c nodes made NoSuchRule h.1)
case_descends above rank laws exist place number spec numbers nodes c made xs fine admitted lemmas nodes_sorted
    sorted (inr h) fails = absurd (no_reason above c nodes made NoSuchPlace h.1)
