-- What a step makes of a sorted clause is sorted, before it is tidied.
use Rattle.std.proofs.Common.{◌≡◌, ◌≢◌, ◌⊎◌, ℕ, suc, ◌+◌, List, [], ◌∷◌, ◌++◌, map, length, Bool, true, false, not}
use Rattle.std.proofs.Common.{cond, Some, inl, inr, refl, ap, sym, ◌∙◌, subst}
use Rattle.std.specs.Prelude.{slice_get, slice_set, filter, zip}
use Rattle.std.specs.List.{AllByRecursion, AllZip}
use Rattle.std.proofs.lemmas.List.FromFn.{get_or-map-range_with_len}
use Rattle.std.proofs.lemmas.Option.{slice_get_within}
use Rattle.term_core.specs.declared.ids.SortId.{SortId}
use Rattle.term_core.specs.Tree.{Tree, var, app, instance}
use Rattle.term_core.specs.Same.{same_tree}
use Rattle.term_core.specs.Contexts.{plug}
use Rattle.term_core.proofs.Items.{all_append, all_at}
use Rattle.spec_core.specs.declared.records.Equation.{Equation}
use Rattle.spec_core.specs.declared.records.Guard.{Guard}
use Rattle.spec_core.specs.declared.records.Rule.{Rule}
use Rattle.spec_core.specs.declared.records.Spec.{Spec}
use Rattle.spec_core.specs.Sig.{Sig, IsSort}
use Rattle.spec_core.specs.Sorts.{Sorted}
use Rattle.spec_core.specs.Declarations.{bool_sort}
use Rattle.spec_core.specs.WellSorted.{IsWellSorted, RuleIsSorted, sorts_of}
use Rattle.spec_core.proofs.Ranges.{sorts_in_range}
use Rattle.clause_core.specs.declared.clauses.Clause.{Clause}
use Rattle.clause_core.specs.declared.clauses.Relation.TheVariants.{Less}
use Rattle.clause_core.specs.declared.steps.Place.{Place}
use Rattle.clause_core.specs.Clauses.{ClauseIsSorted}
use Rattle.clause_core.specs.NumberedEquations.{EquationAt, equations, exchanged}
use Rattle.clause_core.specs.Places.{TermAt, side, with_side, holding}
use Rattle.clause_core.specs.Referred.{AreTermsFor, instance_here}
use Rattle.clause_core.specs.Rows.{child}
use Rattle.clause_core.specs.Solving.{Solves, IsSolved}
use Rattle.clause_core.specs.Instances.{with_term, variables}
use Rattle.clause_core.specs.Patterns.{IsPatternOf}
use Rattle.clause_core.specs.Covering.{covered_by, cover_child}
use Rattle.clause_core.specs.Generalizing.{IsGeneral}
use Rattle.clause_core.specs.Abstracting.{generalized}
use Rattle.clause_core.specs.RuleInstances.{guard_equation, guard_equations}
use Rattle.clause_core.specs.CaseSplitting.{case_child, with_premises}
use Rattle.clause_core.specs.Replacing.{Rewrites}
use Rattle.descent.proofs.Environments.{instance_under}
use Rattle.descent.proofs.SameTests.{same_is}
use Rattle.descent.proofs.SortedEquations.{Each, each_sorted, sorted_each, HasOneSort}
use Rattle.descent.proofs.KeptSorts.{MadeIsSorted, each_abstracted, premise_sorted, exchange_sorted, held_sorted}
use Rattle.descent.proofs.KeptSorts.{place_sort, instance_clause_sorted}
use Rattle.descent.proofs.PatternSorts.{pattern_sorts}
use Rattle.descent.proofs.SortedInstances.{sorted_open, set_at, right_sorted, part_sorted, term_of, boolean_sorted}
use Rattle.descent.proofs.SortedContexts.{other_sorted}
use Rattle.descent.proofs.Appended.{get_left, get_right}

pub solved_sorts : (sig : Sig) (ctx : List SortId) (l r : Tree) (x : ℕ) (t : Tree) (s : SortId) →
    Solves l r x t → Sorted sig ctx l s → Sorted sig ctx r s → (slice_get ctx x ≡ Some s) × Sorted sig ctx t s
solved_sorts sig ctx (var m) r x t s e p q = (
  ap (λ k. slice_get ctx k) e.0 ∙ p,
  subst (λ u. Sorted sig ctx u s) (sym e.1) q,
)
solved_sorts sig ctx (app f ts) (var m) x t s e p q = (
  ap (λ k. slice_get ctx k) e.0 ∙ q,
  subst (λ u. Sorted sig ctx u s) (sym e.1) p,
)
solved_sorts sig ctx (app f ts) (app g us) x t s e p q = absurd e

module _ (spec : Spec) (fine : IsWellSorted spec) (c : Clause) (sorted : ClauseIsSorted spec.sig c) where
  -- one of the clause's equations exchanged for each of some
  pub each_made : (kind : Bool) (n : ℕ) (at : EquationAt (equations kind c) n) (es : List Equation) →
      Each spec.sig c.ctx es →
      AllByRecursion (MadeIsSorted spec.sig) (map (λ e. child Less (exchanged kind c at (e ∷ []))) es)
  each_made kind n at [] p = tt
  each_made kind n at (e ∷ es) p = (
    exchange_sorted spec.sig c sorted kind n at (e ∷ []) (λ q. (p.0, tt)),
    each_made kind n at es p.1,
  )

  -- a term for a variable
  pub solved_made : (n : ℕ) (at : EquationAt c.premises n) (s : IsSolved spec.sig at.equation) →
      ClauseIsSorted spec.sig (with_term c.ctx (exchanged false c at []) s.variable s.term)
  solved_made n at s =
      subst (λ d. ClauseIsSorted spec.sig d)
      (sym (instance_under (slice_set (variables 0 (length c.ctx)) s.variable s.term) c.ctx
      (exchanged false c at []))) (instance_clause_sorted spec.sig (exchanged false c at [])
      (exchange_sorted spec.sig c sorted false n at [] (λ q. tt)) c.ctx
      (slice_set (variables 0 (length c.ctx)) s.variable s.term) sorted.variables keeps)
    where
      by : (m : ℕ) (u : SortId) → slice_get c.ctx m ≡ Some u →
          ((m ≡ s.variable) × (instance (slice_set (variables 0 (length c.ctx)) s.variable s.term)
          (var m) ≡ s.term)) ⊎ ((m ≢ s.variable)
          × (instance (slice_set (variables 0 (length c.ctx)) s.variable s.term) (var m) ≡ var m)) →
          Sorted spec.sig c.ctx (instance (slice_set (variables 0 (length c.ctx)) s.variable s.term) (var m)) u
      by m u e (inl (q, h)) =
          let p = premise_sorted spec.sig c sorted n at in
          let a = solved_sorts spec.sig c.ctx at.equation.left at.equation.right s.variable s.term p.0 s.solves
          p.1 p.2 in
          let w : Some p.0 ≡ Some u = sym a.0 ∙ ap (λ k. slice_get c.ctx k) (sym q) ∙ e in
          let k : p.0 ≡ u = cc in
          subst (λ t. Sorted spec.sig c.ctx t u) (sym h) (subst (λ z. Sorted spec.sig c.ctx s.term z) k a.1)
      by m u e (inr (q, h)) = subst (λ t. Sorted spec.sig c.ctx t u) (sym h) e

      keeps : (m : ℕ) (u : SortId) → slice_get c.ctx m ≡ Some u →
          Sorted spec.sig c.ctx (instance (slice_set (variables 0 (length c.ctx)) s.variable s.term) (var m)) u
      keeps m u e = by m u e (set_at (length c.ctx) s.variable s.term m (slice_get_within c.ctx m u e))

  -- a pattern for a variable
  pub covered_made : (x : ℕ) (s : SortId) → slice_get c.ctx x ≡ Some s → (more : List SortId) (p : Tree) →
      IsPatternOf spec.sig s more p → ClauseIsSorted spec.sig (covered_by c x (more, p))
  covered_made x s is more p pattern =
      subst (λ d. ClauseIsSorted spec.sig d)
      (sym (instance_under (slice_set (variables 0 (length c.ctx)) x
      (instance (variables (length c.ctx) (length more)) p)) (c.ctx ++ more) c))
      (instance_clause_sorted spec.sig c sorted (c.ctx ++ more)
      (slice_set (variables 0 (length c.ctx)) x (instance (variables (length c.ctx) (length more)) p))
      (all_append (IsSort spec.sig) c.ctx more sorted.variables
      (pattern_sorts spec.sig (sorts_in_range spec.sig fine.signature) s
      (all_at (IsSort spec.sig) c.ctx sorted.variables x s is) more p pattern))
      (λ m u e. by m u e (set_at (length c.ctx) x (instance (variables (length c.ctx) (length more)) p) m
      (slice_get_within c.ctx m u e))))
    where
      fresh_sorted : (n : ℕ) (r : SortId) → slice_get more n ≡ Some r →
          Sorted spec.sig (c.ctx ++ more) (instance (variables (length c.ctx) (length more)) (var n)) r
      fresh_sorted n r g = subst (λ t. Sorted spec.sig (c.ctx ++ more) t r)
          (sym (get_or-map-range_with_len (λ k. var k) (length c.ctx) (length more) n (length c.ctx + n) (var n)
          (slice_get_within more n r g) refl)) (get_right c.ctx more n (length c.ctx + n) refl ∙ g)

      by : (m : ℕ) (u : SortId) → slice_get c.ctx m ≡ Some u →
          ((m ≡ x) × (instance (slice_set (variables 0 (length c.ctx)) x
          (instance (variables (length c.ctx) (length more)) p)) (var m) ≡ instance
          (variables (length c.ctx) (length more)) p))
          ⊎ ((m ≢ x) × (instance
          (slice_set (variables 0 (length c.ctx)) x (instance (variables (length c.ctx) (length more)) p))
          (var m) ≡ var m)) → Sorted spec.sig (c.ctx ++ more)
          (instance (slice_set (variables 0 (length c.ctx)) x
          (instance (variables (length c.ctx) (length more)) p)) (var m)) u
      by m u e (inl (q, h)) =
          let w : Some s ≡ Some u = sym is ∙ ap (λ k. slice_get c.ctx k) (sym q) ∙ e in
          let k : s ≡ u = cc in
          subst (λ t. Sorted spec.sig (c.ctx ++ more) t u) (sym h)
          (sorted_open spec.sig more (c.ctx ++ more) (variables (length c.ctx) (length more)) fresh_sorted p
          u (subst (λ z. Sorted spec.sig more p z) k pattern.sorted))
      by m u e (inr (q, h)) = subst (λ t. Sorted spec.sig (c.ctx ++ more) t u) (sym h) (get_left c.ctx more m u e)

  pub all_covered : (x : ℕ) (s : SortId) → slice_get c.ctx x ≡ Some s →
      (contexts : List (List SortId)) (patterns : List Tree) →
      AllZip (IsPatternOf spec.sig s) contexts patterns →
      AllByRecursion (MadeIsSorted spec.sig) (map (cover_child spec c x) (zip contexts patterns))
  all_covered x s is [] [] h = tt
  all_covered x s is [] (p ∷ ps) h = absurd h
  all_covered x s is (m ∷ ms) [] h = absurd h
  all_covered x s is (m ∷ ms) (p ∷ ps) h = (covered_made x s is m p h.0, all_covered x s is ms ps h.1)

  -- a variable for a term
  pub general_made : (t : Tree) (s : SortId) → IsGeneral spec.sig c.ctx t s →
      ClauseIsSorted spec.sig (generalized c t s)
  general_made (var n) s g = absurd g
  general_made (app f ts) s g = record {
    variables = all_append (IsSort spec.sig) c.ctx (s ∷ []) sorted.variables
        (subst (λ r. IsSort spec.sig r) g.2 (sorts_in_range spec.sig fine.signature f g.0 g.1).0, tt);
    premises = sorted_each spec.sig (c.ctx ++ (s ∷ [])) (generalized c (app f ts) s).premises
        (each_abstracted spec.sig c.ctx (app f ts) s g c.premises
        (each_sorted spec.sig c.ctx c.premises sorted.premises));
    conclusions = sorted_each spec.sig (c.ctx ++ (s ∷ [])) (generalized c (app f ts) s).conclusions
        (each_abstracted spec.sig c.ctx (app f ts) s g c.conclusions
        (each_sorted spec.sig c.ctx c.conclusions sorted.conclusions));
  }

  -- the instance of a rule's right side
  pub rule_made : (place : Place) (at : TermAt c place) (rule : Rule) → RuleIsSorted spec.sig rule →
      (terms : List Tree) → instance terms rule.left ≡ at.term →
      ClauseIsSorted spec.sig (holding at (instance terms rule.right))
  rule_made place at rule p terms e = held_sorted spec.sig c sorted place at (instance terms rule.right)
      (λ r q. right_sorted spec.sig c.ctx rule r terms p (subst (λ t. Sorted spec.sig c.ctx t r) (sym e) q))

  pub guards_made : (rule : Rule) → RuleIsSorted spec.sig rule → (terms : List Tree) (r : SortId) →
      Sorted spec.sig c.ctx (instance terms rule.left) r → (gs : List Guard) →
      AllByRecursion (λ (g : Guard). Sorted spec.sig (sorts_of rule.vars) g.test bool_sort) gs →
      Each spec.sig c.ctx (map (guard_equation terms) gs)
  guards_made rule p terms r q [] h = tt
  guards_made rule p terms r q (g ∷ gs)
      h = (
        (
          bool_sort,
          part_sorted spec.sig c.ctx rule r terms p q g.test bool_sort h.0,
          boolean_sorted spec.sig c.ctx fine.signature g.wanted,
        ),
        guards_made rule p terms r q gs h.1,
      )

  premises_added : (d : Clause) (es : List Equation) → ClauseIsSorted spec.sig d → Each spec.sig d.ctx es →
      ClauseIsSorted spec.sig (with_premises d es)
  premises_added d es h p = record {
    variables = h.variables;
    premises = sorted_each spec.sig d.ctx (d.premises ++ es)
        (all_append (λ (e : Equation). HasOneSort spec.sig d.ctx e) d.premises es
        (each_sorted spec.sig d.ctx d.premises h.premises) p);
    conclusions = h.conclusions;
  }

  same_ctx : (kind : Bool) (n : ℕ) (at : EquationAt (equations kind c) n) (es : List Equation) →
      (exchanged kind c at es).ctx ≡ c.ctx
  same_ctx true n at es = refl
  same_ctx false n at es = refl

  pub case_made : (place : Place) (at : TermAt c place) (terms : List Tree) (rule : Rule) →
      RuleIsSorted spec.sig rule → instance terms rule.left ≡ at.term →
      MadeIsSorted spec.sig (case_child spec c at terms rule)
  case_made place at terms rule p e =
      let r = place_sort spec.sig c sorted place at in
      let gs = guards_made rule p terms r.0 (subst (λ t. Sorted spec.sig c.ctx t r.0) (sym e) r.1) rule.guards
      p.guards in
      premises_added (holding at (instance terms rule.right)) (guard_equations terms rule)
      (rule_made place at rule p terms e) (subst (λ ctx. Each spec.sig ctx (guard_equations terms rule))
      (sym (same_ctx place.conclusion place.number at.at
      (with_side place.left at.at.equation (plug at.round (instance terms rule.right)) ∷ []))) gs)

  pub all_cases : (place : Place) (at : TermAt c place) (terms : List Tree) (left : Tree) →
      instance terms left ≡ at.term → (rs : List Rule) →
      ((k : ℕ) (rule : Rule) → slice_get rs k ≡ Some rule → RuleIsSorted spec.sig rule) →
      AllByRecursion (MadeIsSorted spec.sig)
      (map (case_child spec c at terms) (filter (λ (r : Rule). same_tree left r.left) rs))
  all_cases place at terms left e [] h = tt
  all_cases place at terms left e (r ∷ rs) h = go
      (all_cases place at terms left e rs (λ k rule g. h (suc k) rule g)) (same_tree left r.left)
      (λ q. same_is left r.left q)
    where
      go : AllByRecursion (MadeIsSorted spec.sig)
          (map (case_child spec c at terms) (filter (λ (r : Rule). same_tree left r.left) rs)) → (b : Bool) →
          (b ≡ true → left ≡ r.left) →
          AllByRecursion (MadeIsSorted spec.sig)
          (map (case_child spec c at terms) (cond b (r ∷ filter (λ (r : Rule). same_tree left r.left) rs)
          (filter (λ (r : Rule). same_tree left r.left) rs)))
      go rest true q = (
        case_made place at terms r (h 0 r refl)
            (ap (λ t. instance terms t) (sym (q (λ i. true))) ∙ e),
        rest,
      )
      go rest false q = rest

  -- what a clause that is referred to rewrites
  pub rewritten_made : (d : Clause) → ClauseIsSorted spec.sig d →
      (terms : List Tree) (place : Place) (left : Bool) → AreTermsFor spec c d terms →
      (at : TermAt c place) (w : Rewrites c (instance_here spec c d terms) at.term left) →
      ClauseIsSorted spec.sig (holding at (side (not left) w.equation))
  rewritten_made d sd terms place left st at w =
      let i = subst (λ z. ClauseIsSorted spec.sig z) (sym (instance_under terms c.ctx d))
      (instance_clause_sorted spec.sig d sd c.ctx terms sorted.variables
      (λ n u e. term_of spec.sig c.ctx terms d.ctx st n u e (var n))) in
      let all = each_sorted spec.sig c.ctx (instance_here spec c d terms).conclusions i.conclusions in
      let one : HasOneSort spec.sig c.ctx w.equation = (subst (λ es. Each spec.sig c.ctx es) w.alone all).0 in
      held_sorted spec.sig c sorted place at (side (not left) w.equation)
      (λ r q. other_sorted spec.sig c.ctx left w.equation at.term r w.is one q)
