-- One step of descent for `solve`: a term in the place of a variable that a premise equates to it.
use Rattle.std.proofs.Common.{◌≡◌, ◌≢◌, ◌⊎◌, ℕ, List, [], ◌∷◌, ◌++◌, false, Some, map, inl, inr, refl, ap, sym, ◌∙◌}
use Rattle.std.proofs.Common.{subst, length}
use Rattle.std.specs.Prelude.{slice_get, slice_set}
use Rattle.std.proofs.lemmas.List.{append-nil}
use Rattle.std.proofs.lemmas.Option.{slice_get_within}
use Rattle.term_core.specs.declared.ids.SortId.{SortId}
use Rattle.term_core.specs.Tree.{Tree, Trees, var, app, none, some, instance, instances}
use Rattle.spec_core.specs.declared.records.Equation.{Equation}
use Rattle.spec_core.specs.declared.records.Spec.{Spec}
use Rattle.spec_core.specs.Sig.{Sig}
use Rattle.spec_core.specs.Sorts.{Sorted, SortedAll, IsBuilt, AreBuilt}
use Rattle.spec_core.specs.Gives.{Gives}
use Rattle.spec_core.specs.Truth.{AreValuesOf, AllHold, AllBroken}
use Rattle.spec_core.specs.WellSorted.{IsWellSorted, IsPattern, ArePatterns}
use Rattle.spec_core.proofs.Values.{built_only}
use Rattle.term_order.specs.Laws.{HasRanks}
use Rattle.clause_core.specs.declared.clauses.Clause.{Clause}
use Rattle.clause_core.specs.declared.clauses.Relation.TheVariants.{Less}
use Rattle.clause_core.specs.Clauses.{sides_of, ClauseIsSorted}
use Rattle.clause_core.specs.NumberedEquations.{EquationAt, exchanged}
use Rattle.clause_core.specs.Solving.{Solves, IsSolved}
use Rattle.clause_core.specs.Instances.{with_term, variables}
use Rattle.clause_core.specs.Tidied.{variables_of, tidied}
use Rattle.clause_core.specs.Failing.{ClauseFails, values_at}
use Rattle.descent.specs.Weights.{AreRanks}
use Rattle.descent.specs.Descent.{GoesTo}
use Rattle.descent.proofs.Environments.{equation_under, clause_under, instance_under}
use Rattle.descent.proofs.Closers.{holds_at, value_of}
use Rattle.descent.proofs.SortedEquations.{Each, each_sorted, sorted_at}
use Rattle.descent.proofs.TidiedWeights.{tidied_fails, tidied_weight}
use Rattle.descent.proofs.Removing.{removed_fails, removed_weight}
use Rattle.descent.proofs.SortedInstances.{set_at}
use Rattle.descent.proofs.KeptSorts.{exchange_sorted}
use Rattle.descent.proofs.MadeSorted.{solved_sorts, solved_made}

-- two instances, one after the other, are one if they agree on the variables
mutual
  pub instance_after : (sig : Sig) (ctx : List SortId) (ts xs ys : List Tree) →
      ((n : ℕ) (u : SortId) → slice_get ctx n ≡ Some u →
      instance ys (instance ts (var n)) ≡ instance xs (var n)) → (t : Tree) (s : SortId) → Sorted sig ctx t s →
      instance ys (instance ts t) ≡ instance xs t
  instance_after sig ctx ts xs ys h (var n) s p = h n s p
  instance_after sig ctx ts xs ys h (app f us) s p = ap (λ vs. app f vs)
      (instances_after sig ctx ts xs ys h us p.0.args p.3)

  instances_after : (sig : Sig) (ctx : List SortId) (ts xs ys : List Tree) →
      ((n : ℕ) (u : SortId) → slice_get ctx n ≡ Some u →
      instance ys (instance ts (var n)) ≡ instance xs (var n)) → (us : Trees) (ss : List SortId) →
      SortedAll sig ctx us ss → instances ys (instances ts us) ≡ instances xs us
  instances_after sig ctx ts xs ys h none [] p = refl
  instances_after sig ctx ts xs ys h none (s ∷ ss) p = absurd p
  instances_after sig ctx ts xs ys h (some u us) [] p = absurd p
  instances_after sig ctx ts xs ys h (some u us) (s ∷ ss) p =
      let a : instance ys (instance ts u) ≡ instance xs u = instance_after sig ctx ts xs ys h u s p.0 in
      let b : instances ys (instances ts us) ≡ instances xs us = instances_after sig ctx ts xs ys h us ss p.1 in
      λ i. some (a i) (b i)

-- clauses whose sides have the same instances
module _ (spec : Spec) (ctx : List SortId) (ts xs ys : List Tree) (h : (n : ℕ) (u : SortId) →
    slice_get ctx n ≡ Some u → instance ys (instance ts (var n)) ≡ instance xs (var n)) where
  pub holds_after : (es : List Equation) → Each spec.sig ctx es → AllHold spec xs es →
      AllHold spec ys (map (equation_under ts) es)
  holds_after [] p a = tt
  holds_after (e ∷ es) p
      a = (
        (
          a.0.0,
          a.0.1,
          a.0.2,
          subst (λ t. Gives spec t a.0.0 a.0.1) (sym (instance_after spec.sig ctx ts xs ys h e.left p.0.0 p.0.1))
              a.0.3,
          subst (λ t. Gives spec t a.0.0 a.0.2)
              (sym (instance_after spec.sig ctx ts xs ys h e.right p.0.0 p.0.2)) a.0.4,
        ),
        holds_after es p.1 a.1,
      )

  pub broken_after : (es : List Equation) → Each spec.sig ctx es → AllBroken spec xs es →
      AllBroken spec ys (map (equation_under ts) es)
  broken_after [] p a = tt
  broken_after (e ∷ es) p a = (
    (
      a.0.0,
      a.0.1,
      a.0.2,
      a.0.3,
      a.0.4,
      subst (λ t. Gives spec t a.0.0 a.0.2) (sym (instance_after spec.sig ctx ts xs ys h e.left p.0.0 p.0.1))
          a.0.5,
      subst (λ t. Gives spec t a.0.1 a.0.3)
          (sym (instance_after spec.sig ctx ts xs ys h e.right p.0.0 p.0.2)) a.0.6,
    ),
    broken_after es p.1 a.1,
  )

  -- the ranks of the sides
  ranks_of : (rank : ℕ → ℕ → Tree → ℕ → Type 0) (es : List Equation) (rest rest' : List Tree) →
      Each spec.sig ctx es → ((v : List ℕ) → AreRanks rank spec ys rest' v → AreRanks rank spec xs rest v) →
      (v : List ℕ) → AreRanks rank spec ys (sides_of (map (equation_under ts) es) ++ rest') v →
      AreRanks rank spec xs (sides_of es ++ rest) v
  ranks_of rank [] rest rest' p f v a = f v a
  ranks_of rank (e ∷ es) rest rest' p f [] a = absurd a
  ranks_of rank (e ∷ es) rest rest' p f (r ∷ []) a = absurd a.1
  ranks_of rank (e ∷ es) rest rest' p f (r ∷ (q ∷ v)) a = (
    subst (λ t. rank (length spec.sig.table) 100 t r) (instance_after spec.sig ctx ts xs ys h e.left p.0.0 p.0.1) a.0,
    (
      subst (λ t. rank (length spec.sig.table) 100 t q)
          (instance_after spec.sig ctx ts xs ys h e.right p.0.0 p.0.2) a.1.0,
      ranks_of rank es rest rest' p.1 f v a.1.1,
    ),
  )

  pub weight_of : (rank : ℕ → ℕ → Tree → ℕ → Type 0) (ps cs : List Equation) → Each spec.sig ctx ps →
      Each spec.sig ctx cs → (v : List ℕ) →
      AreRanks rank spec ys (sides_of (map (equation_under ts) ps) ++ sides_of (map (equation_under ts) cs)) v →
      AreRanks rank spec xs (sides_of ps ++ sides_of cs) v
  weight_of rank ps cs p q v a = ranks_of rank ps (sides_of cs) (sides_of (map (equation_under ts) cs)) p last v a
    where
      last : (w : List ℕ) → AreRanks rank spec ys (sides_of (map (equation_under ts) cs)) w →
          AreRanks rank spec xs (sides_of cs) w
      last w b = subst (λ us. AreRanks rank spec xs us w) (append-nil (sides_of cs))
          (ranks_of rank cs [] [] q none w
          (subst (λ us. AreRanks rank spec ys us w) (sym (append-nil (sides_of (map (equation_under ts) cs)))) b))
        where
          none : (u : List ℕ) → AreRanks rank spec ys [] u → AreRanks rank spec xs [] u
          none [] z = tt
          none (r ∷ u) z = absurd z

-- a pattern under values is a value
mutual
  pub pattern_built : (spec : Spec) (ctx : List SortId) (xs : List Tree) → AreValuesOf spec ctx xs →
      (t : Tree) (s : SortId) → Sorted spec.sig ctx t s → IsPattern spec.sig t → IsBuilt spec.sig (instance xs t)
  pattern_built spec ctx xs v (var n) s p q = (value_of spec ctx xs v n s p (var n)).1
  pattern_built spec ctx xs v (app f ts) s p q = (q.0, patterns_built spec ctx xs v ts p.0.args p.3 q.1)

  pub patterns_built : (spec : Spec) (ctx : List SortId) (xs : List Tree) → AreValuesOf spec ctx xs →
      (ts : Trees) (ss : List SortId) → SortedAll spec.sig ctx ts ss → ArePatterns spec.sig ts →
      AreBuilt spec.sig (instances xs ts)
  patterns_built spec ctx xs v none ss p q = tt
  patterns_built spec ctx xs v (some t ts) [] p q = absurd p
  patterns_built spec ctx xs v (some t ts) (s ∷ ss) p q = (
    pattern_built spec ctx xs v t s p.0 q.0,
    patterns_built spec ctx xs v ts ss p.1 q.1,
  )

solved_values : (spec : Spec) (xs : List Tree) (l r : Tree) (x : ℕ) (t : Tree) (v : Tree) (n m : ℕ) →
    Solves l r x t → Gives spec (instance xs l) v n → Gives spec (instance xs r) v m →
    ((k : ℕ) × Gives spec (instance xs (var x)) v k) × ((k : ℕ) × Gives spec (instance xs t) v k)
solved_values spec xs (var y) r x t v n m e a
    b = (
      (n, subst (λ k. Gives spec (instance xs (var k)) v n) (sym e.0) a),
      (m, subst (λ u. Gives spec (instance xs u) v m) (sym e.1) b),
    )
solved_values spec xs (app f ts) (var y) x t v n m e a
    b = (
      (m, subst (λ k. Gives spec (instance xs (var k)) v m) (sym e.0) b),
      (n, subst (λ u. Gives spec (instance xs u) v n) (sym e.1) a),
    )
solved_values spec xs (app f ts) (app g us) x t v n m e a b = absurd e

module _ (above : Tree → Tree → Type 0) (rank : ℕ → ℕ → Tree → ℕ → Type 0) (laws : HasRanks above rank)
    (spec : Spec) (fine : IsWellSorted spec) (c : Clause) (sorted : ClauseIsSorted spec.sig c) (xs : List Tree)
    (fails : ClauseFails spec c xs) (n : ℕ) (at : EquationAt c.premises n) (s : IsSolved spec.sig at.equation) where
  sort_is : (r : SortId) × (slice_get c.ctx s.variable ≡ Some r) × Sorted spec.sig c.ctx s.term r
  sort_is =
      let p = sorted_at spec.sig c.ctx c.premises n at sorted.premises in
      let q = solved_sorts spec.sig c.ctx at.equation.left at.equation.right s.variable s.term p.0 s.solves p.1 p.2 in
      (p.0, q.0, q.1)

  -- the variable's value is the term's
  same_value : instance xs (var s.variable) ≡ instance xs s.term
  same_value =
      let h = holds_at spec xs c.premises n at fails.premises in
      let g = solved_values spec xs at.equation.left at.equation.right s.variable s.term h.0 h.1 h.2 s.solves h.3 h.4 in
      sym (built_only spec fine g.0.1 (value_of spec c.ctx xs fails.values_fit s.variable sort_is.0 sort_is.1
      (var s.variable)).1).0
      ∙ (built_only spec fine g.1.1 (pattern_built spec c.ctx xs fails.values_fit s.term sort_is.0 sort_is.2
      s.pattern)).0

  abbrev terms : List Tree
  terms = slice_set (variables 0 (length c.ctx)) s.variable s.term

  agrees : (m : ℕ) (u : SortId) → slice_get c.ctx m ≡ Some u →
      instance xs (instance terms (var m)) ≡ instance xs (var m)
  agrees m u e = by (set_at (length c.ctx) s.variable s.term m (slice_get_within c.ctx m u e))
    where
      by : ((m ≡ s.variable) × (instance terms (var m) ≡ s.term))
          ⊎ ((m ≢ s.variable) × (instance terms (var m) ≡ var m)) →
          instance xs (instance terms (var m)) ≡ instance xs (var m)
      by (inl (q, h)) = ap (λ t. instance xs t) h ∙ sym same_value ∙ ap (λ k. instance xs (var k)) (sym q)
      by (inr (q, h)) = ap (λ t. instance xs t) h

  -- the clause without the premise, under the list of terms
  abbrev without : Clause
  without = exchanged false c at []

  under_goes : GoesTo rank spec c xs (tidied (clause_under terms c.ctx without)) Less
  under_goes =
      let d0 = without in
      let d = clause_under terms c.ctx d0 in
      let s0 = exchange_sorted spec.sig c sorted false n at [] (λ p. tt) in
      let f0 = removed_fails above rank laws spec fine c sorted xs fails false n at in
      let ps = each_sorted spec.sig c.ctx d0.premises s0.premises in
      let cs = each_sorted spec.sig c.ctx d0.conclusions s0.conclusions in
      let d_sorted : ClauseIsSorted spec.sig d = subst (λ z. ClauseIsSorted spec.sig z)
      (instance_under terms c.ctx without) (solved_made spec fine c sorted n at s) in
      let d_fails : ClauseFails spec d xs = record {
        values_fit = fails.values_fit;
        premises = holds_after spec c.ctx terms xs xs agrees d0.premises ps f0.premises;
        conclusions = broken_after spec c.ctx terms xs xs agrees d0.conclusions cs f0.conclusions;
      } in
      record {
        others = values_at (variables_of d) xs;
        fails = tidied_fails spec d d_sorted xs d_fails;
        weighs = λ w v p q. removed_weight above rank laws spec fine c sorted xs fails false n at w v p
            (weight_of spec c.ctx terms xs xs agrees rank d0.premises d0.conclusions ps cs v
            (tidied_weight rank spec d xs v q));
      }

  pub solve_goes : GoesTo rank spec c xs (tidied (with_term c.ctx (exchanged false c at []) s.variable s.term)) Less
  solve_goes = subst (λ d. GoesTo rank spec c xs (tidied d) Less) (sym (instance_under terms c.ctx without)) under_goes
