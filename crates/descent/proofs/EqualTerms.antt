-- A term in the place of one with the same value: the child fails, and weighs what comparing tells.
use Rattle.std.proofs.Common.{◌≡◌, ℕ, ◌≤◌, List, [], ◌∷◌, Bool, true, false, not, inl, inr, refl, sym, subst, arith}
use Rattle.std.specs.Prelude.{Ok, Err}
use Rattle.std.specs.List.{AllByRecursion}
use Rattle.term_core.specs.declared.ids.SortId.{SortId}
use Rattle.term_core.specs.Tree.{Tree, instance, trees_of, tree_depth, depths}
use Rattle.term_core.proofs.Items.{all_at}
use Rattle.spec_core.specs.declared.records.Equation.{Equation}
use Rattle.spec_core.specs.declared.records.Spec.{Spec}
use Rattle.spec_core.specs.Sig.{Sig}
use Rattle.spec_core.specs.Sorts.{Sorted}
use Rattle.spec_core.specs.Gives.{Gives}
use Rattle.spec_core.specs.Truth.{EquationHolds}
use Rattle.spec_core.specs.WellSorted.{IsWellSorted}
use Rattle.spec_core.proofs.OneSort.{sort_unique}
use Rattle.term_order.specs.Laws.{HasRanks}
use Rattle.clause_core.specs.declared.clauses.Clause.{Clause}
use Rattle.clause_core.specs.declared.steps.Place.{Place}
use Rattle.clause_core.specs.declared.answers.Child.{Child}
use Rattle.clause_core.specs.declared.answers.Children.{Children}
use Rattle.clause_core.specs.Clauses.{sides, ClauseIsSorted}
use Rattle.clause_core.specs.Admitted.{IsAdmitted}
use Rattle.clause_core.specs.Limits.{IsWithin}
use Rattle.clause_core.specs.Tidied.{variables_of, tidied}
use Rattle.clause_core.specs.Places.{TermAt, side, holding}
use Rattle.clause_core.specs.Rows.{Made, compared_child, makes}
use Rattle.clause_core.specs.Says.{AreWithin, Says}
use Rattle.clause_core.specs.Failing.{ClauseFails, values_at}
use Rattle.clause_core.proofs.TidiedLimits.{tidied_within}
use Rattle.descent.specs.Descent.{GoesTo, GoesOn}
use Rattle.descent.proofs.TidiedWeights.{tidied_fails, tidied_weight}
use Rattle.descent.proofs.Removing.{sides_grounded}
use Rattle.descent.proofs.ComparedWeights.{compared_weighs}
use Rattle.descent.proofs.Replaced.{holding_fails}
use Rattle.descent.proofs.StepDescents.{makes_these, child_made}
use Rattle.descent.proofs.KeptSorts.{held_sorted}

-- no side is deeper than the deepest
pub each_deep : (n : ℕ) (ts : List Tree) → depths (trees_of ts) ≤ n → AllByRecursion (λ t. tree_depth t ≤ n) ts
each_deep n [] l = tt
each_deep n (t ∷ ts) l = (omega (arith, l), each_deep n ts (omega (arith, l)))

-- the sides of a clause are no deeper than its tidied clause may be
pub tidied_deep : (d : Clause) → IsWithin (tidied d) → AllByRecursion (λ t. tree_depth t ≤ 100) (sides d)
tidied_deep d w = each_deep 100 (sides d) ((tidied_within d).0 w).depth

-- the children of a step are within the limits
pub within_these : (above : Tree → Tree → Type 0) (c : Clause) (nodes : List Clause) (made : Children)
    (cs : List Made) (rs : List (ℕ × Clause)) → Says above c nodes (makes cs rs) (Ok made) →
    AreWithin nodes made.clauses
within_these above c nodes made cs rs (m, p, q, inl h) = let e : Ok made ≡ Ok m = h.1 in
    let k : m ≡ made = cc in subst (λ (x : Children). AreWithin nodes x.clauses) k h.0
within_these above c nodes made cs rs (m, p, q, inr h) = absurd (let e : Ok made ≡ Err _ = h.1 in cc)

sides_value : (spec : Spec) (xs : List Tree) (left : Bool) (e : Equation) → EquationHolds spec xs e →
    (w : Tree) × (k : ℕ) × (m : ℕ) × Gives spec (instance xs (side left e)) w k
    × Gives spec (instance xs (side (not left) e)) w m
sides_value spec xs true e h = (h.0, h.1, h.2, h.3, h.4)
sides_value spec xs false e h = (h.0, h.2, h.1, h.4, h.3)

sides_sorts : (sig : Sig) (ctx : List SortId) (left : Bool) (e : Equation) →
    ((s : SortId) × Sorted sig ctx e.left s × Sorted sig ctx e.right s) →
    (r : SortId) × Sorted sig ctx (side left e) r × Sorted sig ctx (side (not left) e) r
sides_sorts sig ctx true e p = p
sides_sorts sig ctx false e p = (p.0, p.2, p.1)

module _ (above : Tree → Tree → Type 0) (rank : ℕ → ℕ → Tree → ℕ → Type 0) (laws : HasRanks above rank)
    (spec : Spec) (fine : IsWellSorted spec) (admitted : IsAdmitted above spec) (nodes : List Clause)
    (c : Clause) (made : Children) (sorted : ClauseIsSorted spec.sig c) (xs : List Tree)
    (fails : ClauseFails spec c xs) where
  -- an equation that holds lets one side stand for the other one
  pub exchange_goes : (place : Place) (at : TermAt c place) (left : Bool) (e : Equation) →
      ((s : SortId) × Sorted spec.sig c.ctx e.left s × Sorted spec.sig c.ctx e.right s) →
      EquationHolds spec xs e → side left e ≡ at.term → (rs : List (ℕ × Clause)) →
      Says above c nodes (makes (compared_child (holding at (side (not left) e)) ∷ []) rs) (Ok made) →
      GoesOn rank spec nodes c xs made
  exchange_goes place at left e es holds same rs m =
      let h = sides_value spec xs left e holds in
      let p = sides_sorts spec.sig c.ctx left e es in
      let u = side (not left) e in
      let d = holding at u in
      let pt : Sorted spec.sig c.ctx at.term p.0 = subst (λ t. Sorted spec.sig c.ctx t p.0) same p.1 in
      let d_fails : ClauseFails spec d xs = holding_fails spec fine admitted.apart admitted.whole c sorted xs
      fails place at u p.0 pt h.0 h.1 h.2 (subst (λ t. Gives spec (instance xs t) h.0 h.1) same h.3) h.4 in
      let d_sorted : ClauseIsSorted spec.sig d = held_sorted spec.sig c sorted place at u
      (λ r q. subst (λ s. Sorted spec.sig c.ctx u s) (sort_unique spec.sig c.ctx at.term p.0 r pt q) p.2) in
      let cs : List Made = compared_child d ∷ [] in
      let ch = child_made above c nodes made cs made.clauses (makes_these above c nodes made cs rs m).0 0
      (compared_child d) refl in
      let within : IsWithin (tidied d) = subst (λ x. IsWithin x) ch.2.0
      (all_at (λ (x : Child). IsWithin x.clause) made.clauses (within_these above c nodes made cs rs m).0 0
      ch.0 ch.1) in
      inl (
        0,
        ch.0,
        ch.1,
        subst (λ x. GoesTo rank spec c xs x ch.0.relation) (sym ch.2.0) (record {
          others = values_at (variables_of d) xs;
          fails = tidied_fails spec d d_sorted xs d_fails;
          weighs = λ w v a b. compared_weighs above rank laws spec xs c d ch.0.relation ch.2.1
              (sides_grounded above rank laws spec fine c sorted xs fails)
              (sides_grounded above rank laws spec fine d d_sorted xs d_fails) (tidied_deep d within) w v a
              (tidied_weight rank spec d xs v b);
        }),
      )
