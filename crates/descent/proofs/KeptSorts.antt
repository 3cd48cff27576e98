-- Clauses that a step makes of a sorted clause are sorted.
use Rattle.std.proofs.Common.{◌≡◌, ℕ, List, [], ◌∷◌, ◌++◌, map, length, Bool, true, false, cond, Some, sym, ◌∙◌, subst}
use Rattle.std.proofs.Common.{arith}
use Rattle.std.specs.Prelude.{slice_get}
use Rattle.std.specs.List.{AllByRecursion}
use Rattle.term_core.specs.declared.ids.SortId.{SortId}
use Rattle.term_core.specs.Tree.{Tree, Trees, var, app, none, some, instance}
use Rattle.term_core.specs.Same.{same_tree}
use Rattle.term_core.specs.Contexts.{plug}
use Rattle.spec_core.specs.declared.records.Equation.{Equation}
use Rattle.spec_core.specs.declared.records.SymInfo.{SymInfo}
use Rattle.spec_core.specs.Sig.{Sig, IsSort}
use Rattle.spec_core.specs.Sorts.{Sorted, SortedAll}
use Rattle.spec_core.proofs.OneSort.{sort_unique}
use Rattle.clause_core.specs.declared.clauses.Clause.{Clause}
use Rattle.clause_core.specs.declared.steps.Place.{Place}
use Rattle.clause_core.specs.Clauses.{ClauseIsSorted}
use Rattle.clause_core.specs.NumberedEquations.{EquationAt, equations, exchanged}
use Rattle.clause_core.specs.Places.{TermAt, side, with_side, holding}
use Rattle.clause_core.specs.Rows.{Made, child, compared_child}
use Rattle.clause_core.specs.Simplifying.{SameHeads, pairs}
use Rattle.clause_core.specs.Abstracting.{abstracted, abstracted_all, abstracted_equation}
use Rattle.descent.proofs.Environments.{equation_under, clause_under}
use Rattle.descent.proofs.SameTests.{same_is}
use Rattle.descent.proofs.SortedEquations.{Each, each_sorted, sorted_each, sorted_at, each_replaced, each_at}
use Rattle.descent.proofs.SortedEquations.{HasOneSort}
use Rattle.descent.proofs.SortedContexts.{sorted_plug, side_sorted}
use Rattle.descent.proofs.SortedInstances.{each_instance}
use Rattle.descent.proofs.Appended.{get_left, get_right}

-- a child before it is tidied is sorted
abbrev pub MadeIsSorted : Sig → Made → Type 0
MadeIsSorted sig (child r d) = ClauseIsSorted sig d
MadeIsSorted sig (compared_child d) = ClauseIsSorted sig d

module _ (sig : Sig) (to : List SortId) where
  pub pairs_sorted : (ts us : Trees) (ss : List SortId) → SortedAll sig to ts ss → SortedAll sig to us ss →
      Each sig to (pairs ts us)
  pairs_sorted none us ss p q = tt
  pairs_sorted (some t ts) none ss p q = tt
  pairs_sorted (some t ts) (some u us) [] p q = absurd p
  pairs_sorted (some t ts) (some u us) (s ∷ ss) p q = ((s, p.0, q.0), pairs_sorted ts us ss p.1 q.1)

  -- the arguments of both sides have the sorts of the constructor
  pub heads_sorts : (e : Equation) (h : SameHeads sig e) → HasOneSort sig to e →
      (ss : List SortId) × SortedAll sig to h.lefts ss × SortedAll sig to h.rights ss
  heads_sorts e h p =
      let l : Sorted sig to (app h.head h.lefts) p.0 = subst (λ t. Sorted sig to t p.0) h.is_left p.1 in
      let r : Sorted sig to (app h.head h.rights) p.0 = subst (λ t. Sorted sig to t p.0) h.is_right p.2 in
      let q : Some l.0 ≡ Some r.0 = sym l.1 ∙ r.1 in
      let k : l.0 ≡ r.0 = cc in
      (l.0.args, l.3, subst (λ (i : SymInfo). SortedAll sig to h.rights i.args) (sym k) r.3)

  pub heads_sorted : (e : Equation) (h : SameHeads sig e) → HasOneSort sig to e → Each sig to (pairs h.lefts h.rights)
  heads_sorted e h p = let s = heads_sorts e h p in pairs_sorted h.lefts h.rights s.0 s.1 s.2

-- a variable put for a term
module _ (sig : Sig) (ctx : List SortId) (t : Tree) (s : SortId) (pt : Sorted sig ctx t s) where
  mutual
    abstracted_sorted : (u : Tree) (r : SortId) → Sorted sig ctx u r →
        Sorted sig (ctx ++ (s ∷ [])) (abstracted t (length ctx) u) r
    abstracted_sorted (var m) r p = get_left ctx (s ∷ []) m r p
    abstracted_sorted (app f ts) r p = go (same_tree t (app f ts)) (λ e. same_is t (app f ts) e)
        (abstracted_all_sorted ts p.0.args p.3)
      where
        go : (b : Bool) → (b ≡ true → t ≡ app f ts) →
            SortedAll sig (ctx ++ (s ∷ [])) (abstracted_all t (length ctx) ts) p.0.args →
            Sorted sig (ctx ++ (s ∷ [])) (cond b (var (length ctx)) (app f (abstracted_all t (length ctx) ts))) r
        go true h all =
            let e : t ≡ app f ts = h (λ i. true) in
            let k : s ≡ r = sort_unique sig ctx (app f ts) s r (subst (λ z. Sorted sig ctx z s) e pt) p in
            subst (λ z. slice_get (ctx ++ (s ∷ [])) (length ctx) ≡ Some z) k
            (get_right ctx (s ∷ []) 0 (length ctx) (omega arith))
        go false h all = (p.0, p.1, p.2, all)

    abstracted_all_sorted : (us : Trees) (rs : List SortId) → SortedAll sig ctx us rs →
        SortedAll sig (ctx ++ (s ∷ [])) (abstracted_all t (length ctx) us) rs
    abstracted_all_sorted none [] p = tt
    abstracted_all_sorted none (r ∷ rs) p = absurd p
    abstracted_all_sorted (some u us) [] p = absurd p
    abstracted_all_sorted (some u us) (r ∷ rs) p = (abstracted_sorted u r p.0, abstracted_all_sorted us rs p.1)

  pub each_abstracted : (es : List Equation) → Each sig ctx es →
      Each sig (ctx ++ (s ∷ [])) (map (abstracted_equation t (length ctx)) es)
  each_abstracted [] p = tt
  each_abstracted (e ∷ es) p = (
    (
      p.0.0,
      abstracted_sorted e.left p.0.0 p.0.1,
      abstracted_sorted e.right p.0.0 p.0.2,
    ),
    each_abstracted es p.1,
  )

module _ (sig : Sig) (c : Clause) (sorted : ClauseIsSorted sig c) where
  pub premise_sorted : (n : ℕ) (at : EquationAt c.premises n) → HasOneSort sig c.ctx at.equation
  premise_sorted n at = sorted_at sig c.ctx c.premises n at sorted.premises

  -- other equations in the place of one
  pub exchange_sorted : (kind : Bool) (n : ℕ) (at : EquationAt (equations kind c) n) (es : List Equation) →
      (HasOneSort sig c.ctx at.equation → Each sig c.ctx es) → ClauseIsSorted sig (exchanged kind c at es)
  exchange_sorted true n at es h =
      let each = subst (λ ds. Each sig c.ctx ds) at.is (each_sorted sig c.ctx c.conclusions sorted.conclusions) in
      record {
        variables = sorted.variables;
        premises = sorted.premises;
        conclusions = sorted_each sig c.ctx
            (at.before ++ (es ++ at.after)) (each_replaced sig c.ctx at.before at.after es at.equation each
            (h (each_at sig c.ctx at.before at.after at.equation each)));
      }
  exchange_sorted false n at es h =
      let each = subst (λ ds. Each sig c.ctx ds) at.is (each_sorted sig c.ctx c.premises sorted.premises) in
      record {
        variables = sorted.variables;
        premises = sorted_each sig c.ctx (at.before ++ (es ++ at.after))
            (each_replaced sig c.ctx at.before at.after es at.equation each
            (h (each_at sig c.ctx at.before at.after at.equation each)));
        conclusions = sorted.conclusions;
      }

  -- another term at a place
  pub held_sorted : (place : Place) (at : TermAt c place) (u : Tree) →
      ((r : SortId) → Sorted sig c.ctx at.term r → Sorted sig c.ctx u r) → ClauseIsSorted sig (holding at u)
  held_sorted place at u h = exchange_sorted place.conclusion place.number at.at
      (with_side place.left at.at.equation (plug at.round u) ∷ [])
      (λ p. (side_sorted sig c.ctx place.left at.at.equation at.round at.term u h at.is p, tt))

  -- the term at a place has a sort
  pub place_sort : (place : Place) (at : TermAt c place) → (r : SortId) × Sorted sig c.ctx at.term r
  place_sort place at = go place.conclusion place.number at.at place.left at.is
    where
      in_side : (left : Bool) (e : Equation) → HasOneSort sig c.ctx e → side left e ≡ plug at.round at.term →
          (r : SortId) × Sorted sig c.ctx at.term r
      in_side true e p q = let a = sorted_plug sig c.ctx at.round at.term p.0
          (subst (λ z. Sorted sig c.ctx z p.0) q p.1) in (a.0, a.1)
      in_side false e p q = let a = sorted_plug sig c.ctx at.round at.term p.0
          (subst (λ z. Sorted sig c.ctx z p.0) q p.2) in (a.0, a.1)

      go : (kind : Bool) (n : ℕ) (e : EquationAt (equations kind c) n) (left : Bool) →
          side left e.equation ≡ plug at.round at.term → (r : SortId) × Sorted sig c.ctx at.term r
      go true n e left q = in_side left e.equation (sorted_at sig c.ctx c.conclusions n e sorted.conclusions) q
      go false n e left q = in_side left e.equation (sorted_at sig c.ctx c.premises n e sorted.premises) q

  pub instance_clause_sorted : (to : List SortId) (ts : List Tree) → AllByRecursion (IsSort sig) to →
      ((n : ℕ) (u : SortId) → slice_get c.ctx n ≡ Some u → Sorted sig to (instance ts (var n)) u) →
      ClauseIsSorted sig (clause_under ts to c)
  instance_clause_sorted to ts in_sig k = record {
    variables = in_sig;
    premises = sorted_each sig to (map (equation_under ts) c.premises)
        (each_instance sig to c.ctx ts k c.premises (each_sorted sig c.ctx c.premises sorted.premises));
    conclusions = sorted_each sig to (map (equation_under ts) c.conclusions)
        (each_instance sig to c.ctx ts k c.conclusions (each_sorted sig c.ctx c.conclusions sorted.conclusions));
  }
