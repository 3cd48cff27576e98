-- An instance of a rule's left side in a failing clause: if the guards hold, the right side has its value, and a
-- lesser rank.
use Rattle.std.proofs.Common.{◌≡◌, ℕ, ◌+◌, ◌≤◌, ◌<◌, List, [], ◌∷◌, ◌++◌, Bool, true, false, Some, inl, inr, map, refl}
use Rattle.std.proofs.Common.{ap, sym, ◌∙◌, subst, arith, length}
use Rattle.std.specs.Prelude.{slice_get}
use Rattle.std.specs.List.{AllByRecursion}
use Rattle.std.proofs.lemmas.List.{length-map}
use Rattle.term_core.specs.declared.ids.SortId.{SortId}
use Rattle.term_core.specs.Tree.{tree_depth, Tree, var, app, instance, instances, trees_of}
use Rattle.term_core.specs.Contexts.{hole, plug}
use Rattle.term_core.specs.Ground.{IsGroundIn}
use Rattle.spec_core.specs.declared.records.Equation.{Equation}
use Rattle.spec_core.specs.declared.records.Guard.{Guard}
use Rattle.spec_core.specs.declared.records.Rule.{Rule}
use Rattle.spec_core.specs.declared.records.VarInfo.{VarInfo}
use Rattle.spec_core.specs.declared.records.Spec.{Spec}
use Rattle.spec_core.specs.Sig.{Sig}
use Rattle.spec_core.specs.Declarations.{IsDeclared, bool_sort}
use Rattle.spec_core.specs.Sorts.{Sorted, SortedAll, IsBuilt, AreBuilt}
use Rattle.spec_core.specs.Gives.{Gives, GivesGuards, no_guards, more_guards, boolean}
use Rattle.spec_core.specs.Truth.{AllHold, AreValuesOf}
use Rattle.spec_core.specs.WellSorted.{IsWellSorted, RuleIsSorted, IsLeft, IsShallow, sorts_of}
use Rattle.spec_core.proofs.Guarded.{call_only}
use Rattle.spec_core.proofs.Instances.{sorted_instance}
use Rattle.spec_core.proofs.Values.{built_gives, built_only}
use Rattle.term_order.specs.Laws.{HasRanks}
use Rattle.clause_core.specs.declared.clauses.Clause.{Clause}
use Rattle.clause_core.specs.declared.steps.Place.{Place}
use Rattle.clause_core.specs.Equations.{Among}
use Rattle.clause_core.specs.Clauses.{sides_of, sides, ClauseIsSorted}
use Rattle.clause_core.specs.Admitted.{GuardIsOrdered, IsAdmitted}
use Rattle.clause_core.specs.Places.{TermAt, holding}
use Rattle.clause_core.specs.RuleInstances.{IsInstance, guard_equation, guard_equations}
use Rattle.clause_core.specs.Failing.{ClauseFails}
use Rattle.descent.specs.OneValue.{ValuesRankLower}
use Rattle.descent.specs.Weights.{IsWeight, AreRanks}
use Rattle.descent.proofs.InContexts.{context_instance, plug_instance, plug_inside}
use Rattle.descent.proofs.Closers.{value_of}
use Rattle.descent.proofs.SortedEquations.{split_all}
use Rattle.descent.proofs.GroundTerms.{sorted_ground}
use Rattle.descent.proofs.SideRanks.{Grounded}
use Rattle.descent.proofs.Removing.{sides_grounded}
use Rattle.descent.proofs.Replaced.{holding_fails}
use Rattle.descent.proofs.Solving.{instance_after, patterns_built}
use Rattle.descent.proofs.Counted.{Drops}
use Rattle.descent.proofs.Multisets.{IsIn, none-in, in-cases}
use Rattle.descent.proofs.Valued.{terms_sorted, Entries, evaluate, to_values, from_values, under_values, under_sorted}
use Rattle.descent.proofs.Valued.{under_at, some_term}
use Rattle.descent.proofs.Referring.{some_value, among_holds}
use Rattle.descent.proofs.Exchanged.{exchanged_sides, inside_rank, exchanged_drops}
use Rattle.descent.proofs.KeptSorts.{place_sort}
use Rattle.descent.proofs.SortedInstances.{rule_terms_sorted, boolean_sorted}
use Rattle.descent.proofs.MadeSorted.{rule_made}

pub boolean_built : (sig : Sig) → IsDeclared sig → (b : Bool) → IsBuilt sig (boolean b)
boolean_built sig d true = (
  let e : sig.constructors ≡ 2 + length d.constructors = ap
      (λ (s : Sig). s.constructors) d.is in omega (arith, e),
  tt,
)
boolean_built sig d false = (
  let e : sig.constructors ≡ 2 + length d.constructors = ap
      (λ (s : Sig). s.constructors) d.is in omega (arith, e),
  tt,
)

-- what a left side gives under values, the right side gives if the guards hold
pub along_rule : (spec : Spec) → IsWellSorted spec → (above : Tree → Tree → Type 0) → IsAdmitted above spec →
    (k : ℕ) (rule : Rule) → slice_get spec.rules k ≡ Some rule → (ws : List Tree) →
    AreValuesOf spec (sorts_of rule.vars) ws → (g : ℕ) → GivesGuards spec ws rule.guards g →
    (v : Tree) (n : ℕ) → Gives spec (instance ws rule.left) v n → (m : ℕ) × Gives spec (instance ws rule.right) v m
along_rule spec fine above admitted k rule listed ws values g guards v n gives = go rule.left refl
  where
    here : RuleIsSorted spec.sig rule
    here = fine.rules k rule listed

    go : (left : Tree) → rule.left ≡ left → (m : ℕ) × Gives spec (instance ws rule.right) v m
    go (var x) e = absurd (subst (λ t. IsLeft spec.sig t) e here.left)
    go (app f ps) e =
        let l : IsLeft spec.sig (app f ps) = subst (λ t. IsLeft spec.sig t) e here.left in
        let w = here.sides.0 in
        let p : Sorted spec.sig (sorts_of rule.vars) (app f ps) w = subst
        (λ t. Sorted spec.sig (sorts_of rule.vars) t w) e here.sides.1 in
        let b : AreBuilt spec.sig (instances ws ps) = patterns_built spec (sorts_of rule.vars) ws values ps
        p.0.args p.3 l.1 in
        let q : Sorted spec.sig [] (app f (instances ws ps)) w = sorted_instance spec.sig (sorts_of rule.vars)
        (app f ps) w ws p (λ i u at. (value_of spec (sorts_of rule.vars) ws values i u at (var i)).0) in
        let is : instance ws rule.left ≡ app f (instances ws ps) = ap (λ t. instance ws t) e in
        let r = call_only spec fine admitted.apart admitted.whole f (instances ws ps) w k rule ws g l.0 b q
        listed is guards (subst (λ t. Gives spec t v n) is gives) in
        (r.0, r.1)

module _ (above : Tree → Tree → Type 0) (rank : ℕ → ℕ → Tree → ℕ → Type 0) (laws : HasRanks above rank)
    (exist : ValuesRankLower above rank) (spec : Spec) (fine : IsWellSorted spec)
    (admitted : IsAdmitted above spec) (c : Clause) (sorted : ClauseIsSorted spec.sig c) (xs : List Tree)
    (fails : ClauseFails spec c xs) (place : Place) (at : TermAt c place) (k : ℕ) (rule : Rule)
    (listed : slice_get spec.rules k ≡ Some rule) (fits : IsInstance rule at.term) where
  here : RuleIsSorted spec.sig rule
  here = fine.rules k rule listed

  pub left_sorted : (r : SortId) × Sorted spec.sig c.ctx (instance fits.terms rule.left) r
  left_sorted = let p = place_sort spec.sig c sorted place at in
      (p.0, subst (λ t. Sorted spec.sig c.ctx t p.0) (sym fits.is) p.1)

  pub terms_are : SortedAll spec.sig c.ctx (trees_of fits.terms) (sorts_of rule.vars)
  terms_are = rule_terms_sorted spec.sig c.ctx rule here fits.terms
      (omega (arith, fits.long, length-map rule.vars (λ (v : VarInfo). v.sort))) left_sorted.0 left_sorted.1

  pub two : (t : Tree) (s : SortId) → Sorted spec.sig (sorts_of rule.vars) t s →
      instance xs (instance fits.terms t) ≡ instance (under_values xs fits.terms) t
  two t s p = instance_after spec.sig (sorts_of rule.vars) fits.terms (under_values xs fits.terms) xs
      (λ n u e. let r = some_term spec.sig c.ctx fits.terms (sorts_of rule.vars) terms_are n u e in
      under_at xs fits.terms n (var n) (var n) r.0 r.1) t s p

  -- the values of the terms
  pub evaluated : (ws : List Tree) × AreValuesOf spec (sorts_of rule.vars) ws
      × Entries rank spec (sorts_of rule.vars) (under_values xs fits.terms) ws
  evaluated = evaluate above rank laws exist spec fine admitted (sorts_of rule.vars)
      (under_values xs fits.terms) (under_sorted spec c.ctx xs fails.values_fit fits.terms (sorts_of rule.vars)
      terms_are)

  pub down : (t : Tree) (s : SortId) → Sorted spec.sig (sorts_of rule.vars) t s → (v : Tree) (n : ℕ) →
      Gives spec (instance xs (instance fits.terms t)) v n → (m : ℕ) × Gives spec (instance evaluated.0 t) v m
  down t s p v n g = to_values above rank laws exist spec fine admitted (sorts_of rule.vars)
      (under_values xs fits.terms) evaluated.0 evaluated.2 t s p v n (subst (λ u. Gives spec u v n) (two t s p) g)

  pub up : (t : Tree) (s : SortId) → Sorted spec.sig (sorts_of rule.vars) t s → (v : Tree) (n : ℕ) →
      Gives spec (instance evaluated.0 t) v n → (m : ℕ) × Gives spec (instance xs (instance fits.terms t)) v m
  up t s p v n g = let r = from_values above rank laws exist spec fine admitted (sorts_of rule.vars)
      (under_values xs fits.terms) evaluated.0 evaluated.2 t s p v n g in
      (r.0, subst (λ u. Gives spec u v r.0) (sym (two t s p)) r.1)

  -- guards whose equations hold
  pub guards_from : (gs : List Guard) →
      AllByRecursion (λ (g : Guard). Sorted spec.sig (sorts_of rule.vars) g.test bool_sort) gs →
      AllHold spec xs (map (guard_equation fits.terms) gs) → (n : ℕ) × GivesGuards spec evaluated.0 gs n
  guards_from [] p a = (0, no_guards)
  guards_from (g ∷ gs) p a =
      let e = a.0 in
      let is : e.0 ≡ boolean g.wanted = (built_only spec fine e.4 (boolean_built spec.sig fine.signature g.wanted)).0 in
      let one = down g.test bool_sort p.0 (boolean g.wanted) e.1
      (subst (λ v. Gives spec (instance xs (instance fits.terms g.test)) v e.1) is e.3) in
      let more = guards_from gs p.1 a.1 in
      (one.0 + more.0, more_guards one.1 more.1 refl)

  -- and equations of guards that hold
  pub guards_to : (gs : List Guard) →
      AllByRecursion (λ (g : Guard). Sorted spec.sig (sorts_of rule.vars) g.test bool_sort) gs → {n : ℕ} →
      GivesGuards spec evaluated.0 gs n → AllHold spec xs (map (guard_equation fits.terms) gs)
  guards_to [] p a = tt
  guards_to (g ∷ gs) p (more_guards {n} one more cost) = let r = up g.test bool_sort p.0 (boolean g.wanted) n
      one in (
        (
          boolean g.wanted,
          r.0,
          0,
          r.1,
          built_gives spec (boolean g.wanted) (boolean_built spec.sig fine.signature g.wanted),
        ),
        guards_to gs p.1 more,
      )

  all_among : (es : List Equation) → AllByRecursion (λ (e : Equation). Among e c.premises) es → AllHold spec xs es
  all_among [] a = tt
  all_among (e ∷ es) a = (among_holds spec xs c.premises e fails.premises a.0, all_among es a.1)

  pub guards_hold : AllByRecursion (λ (e : Equation). Among e c.premises) (guard_equations fits.terms rule) →
      (n : ℕ) × GivesGuards spec evaluated.0 rule.guards n
  guards_hold a = guards_from rule.guards here.guards (all_among (guard_equations fits.terms rule) a)

  -- the clause with the right side fails, if the guards hold
  pub child_fails : (g : ℕ) → GivesGuards spec evaluated.0 rule.guards g →
      ClauseFails spec (holding at (instance fits.terms rule.right)) xs
  child_fails g guards =
      let p = left_sorted in
      let v = some_value above rank laws exist spec fine admitted c.ctx xs fails.values_fit
      (instance fits.terms rule.left) p.0 p.1 in
      let a = down rule.left here.sides.0 here.sides.1 v.0 v.1 v.2 in
      let b = along_rule spec fine above admitted k rule listed evaluated.0 evaluated.1 g guards v.0 a.0 a.1 in
      let d = up rule.right here.sides.0 here.sides.2 v.0 b.0 b.1 in
      let pt = place_sort spec.sig c sorted place at in
      holding_fails spec fine admitted.apart admitted.whole c sorted xs fails place
      at (instance fits.terms rule.right) pt.0 pt.1 v.0 v.1 d.0
      (subst (λ t. Gives spec (instance xs t) v.0 v.1) fits.is v.2) d.1

  -- the side at the place, under the values
  pub old_is : instance xs (plug at.round at.term) ≡ plug (context_instance xs at.round)
      (instance (under_values xs fits.terms) rule.left)
  old_is = plug_instance xs at.round at.term ∙ ap (λ t. plug (context_instance xs at.round) t)
      (ap (λ t. instance xs t) (sym fits.is) ∙ two rule.left here.sides.0 here.sides.1)

  new_is : instance xs (plug at.round (instance fits.terms rule.right)) ≡ plug (context_instance xs at.round)
      (instance (under_values xs fits.terms) rule.right)
  new_is = plug_instance xs at.round (instance fits.terms rule.right)
      ∙ ap (λ t. plug (context_instance xs at.round) t) (two rule.right here.sides.0 here.sides.2)

  -- the side falls
  side_falls : Grounded spec xs (plug at.round at.term) →
      Grounded spec xs (plug at.round (instance fits.terms rule.right)) → (m n : ℕ) →
      rank (length spec.sig.table) 100 (instance xs (plug at.round at.term)) m →
      rank (length spec.sig.table) 100 (instance xs (plug at.round (instance fits.terms rule.right))) n → n < m
  side_falls ga gb m n a b =
      laws.in_contexts (length spec.sig.table) 100 rule.left rule.right (under_values xs fits.terms)
      (context_instance xs at.round) m n (omega arith) (admitted.ordered k rule listed).right here.shallow_right
      (subst (λ t. IsGroundIn (length spec.sig.table) t) old_is ga)
      (subst (λ t. IsGroundIn (length spec.sig.table) t) new_is gb)
      (subst (λ t. rank (length spec.sig.table) 100 t m) old_is a)
      (subst (λ t. rank (length spec.sig.table) 100 t n) new_is b)

  abbrev pub FallsAt : List ℕ → List ℕ → Type 0
  FallsAt w v = (m : ℕ) × rank (length spec.sig.table) 100 (instance xs (plug at.round at.term)) m
      × ((d : Drops w v) × (d.at ≡ m))

  -- and so does the weight
  pub weight_falls : ClauseFails spec (holding at (instance fits.terms rule.right)) xs →
      Grounded spec xs (plug at.round at.term) × ((w v : List ℕ) → IsWeight rank spec xs c w →
      IsWeight rank spec xs (holding at (instance fits.terms rule.right)) v → FallsAt w v)
  weight_falls d_fails =
      let u = instance fits.terms rule.right in
      let s = exchanged_sides place.conclusion place.left c place.number at.at in
      let first : sides c ≡ s.before ++ (plug at.round at.term ∷ s.after) = s.first
      ∙ ap (λ t. s.before ++ (t ∷ s.after)) at.is in
      let second : sides (holding at u) ≡ s.before ++ (plug at.round u ∷ s.after) = s.second (plug at.round u) in
      let g = split_all (Grounded spec xs) s.before (plug at.round at.term ∷ s.after)
      (subst (λ ts. AllByRecursion (Grounded spec xs) ts) first
      (sides_grounded above rank laws spec fine c sorted xs fails)) in
      let h = split_all (Grounded spec xs) s.before (plug at.round u ∷ s.after)
      (subst (λ ts. AllByRecursion (Grounded spec xs) ts) second
      (sides_grounded above rank laws spec fine (holding at u)
      (rule_made spec fine c sorted place at rule here fits.terms fits.is) xs d_fails)) in (
        g.1.0,
        λ w v a b. exchanged_drops above rank laws spec xs s.before s.after (plug at.round at.term)
            (plug at.round u) g.0 g.1.1 (side_falls g.1.0 h.1.0) w v
            (subst (λ ts. AreRanks rank spec xs ts w) first a) (subst (λ ts. AreRanks rank spec xs ts v) second b),
      )

  -- an instance of what the left side is above ranks below the side
  pub part_falls : (t : Tree) → above rule.left t → tree_depth t ≤ 100 →
      Grounded spec xs (plug at.round at.term) →
      IsGroundIn (length spec.sig.table) (instance (under_values xs fits.terms) t) → (m r : ℕ) →
      rank (length spec.sig.table) 100 (instance xs (plug at.round at.term)) m →
      rank (length spec.sig.table) 100 (instance (under_values xs fits.terms) t) r → r < m
  part_falls t a deep ga gt m r p q =
      let g = subst (λ u. IsGroundIn (length spec.sig.table) u) old_is ga in
      let gl = plug_inside (length spec.sig.table) (context_instance xs at.round)
      (instance (under_values xs fits.terms) rule.left) g in
      let k = laws.some_rank (length spec.sig.table) 100 (instance (under_values xs fits.terms) rule.left)
      (omega arith) gl in
      let less : r < k.0 = laws.in_contexts (length spec.sig.table) 100 rule.left t (under_values xs fits.terms)
      hole k.0 r (omega arith) a deep gl gt k.1 q in
      let more : k.0 ≤ m = inside_rank above rank laws (length spec.sig.table) 100 (omega arith)
      (context_instance xs at.round) (instance (under_values xs fits.terms) rule.left) m k.0 g
      (subst (λ u. rank (length spec.sig.table) 100 u m) old_is p) k.1 in
      omega arith

  -- the sides of the guards' equations rank below it
  pub guards_fall : (gs : List Guard) → AllByRecursion (GuardIsOrdered above rule.left) gs →
      AllByRecursion (λ (g : Guard). IsShallow g.test) gs →
      AllByRecursion (λ (g : Guard). Sorted spec.sig (sorts_of rule.vars) g.test bool_sort) gs →
      Grounded spec xs (plug at.round at.term) → (m : ℕ) →
      rank (length spec.sig.table) 100 (instance xs (plug at.round at.term)) m → (w : List ℕ) →
      AreRanks rank spec xs (sides_of (map (guard_equation fits.terms) gs)) w → (x : ℕ) → IsIn x w → x < m
  guards_fall [] o d p ga m q [] a x i = absurd (none-in x i)
  guards_fall [] o d p ga m q (r ∷ w) a x i = absurd a
  guards_fall (g ∷ gs) o d p ga m q [] a x i = absurd a
  guards_fall (g ∷ gs) o d p ga m q (r ∷ []) a x i = absurd a.1
  guards_fall (g ∷ gs) o d p ga m q (r ∷ (s ∷ w)) a x i =
      let zs_test : IsGroundIn (length spec.sig.table)
      (instance (under_values xs fits.terms) g.test) = sorted_ground spec.sig fine.arities
      (instance (under_values xs fits.terms) g.test) bool_sort
      (terms_sorted above rank laws exist spec fine admitted (sorts_of rule.vars)
      (under_values xs fits.terms) evaluated.0 evaluated.2 g.test bool_sort p.0) in
      let zs_bool : IsGroundIn (length spec.sig.table) (boolean g.wanted) = sorted_ground spec.sig fine.arities
      (boolean g.wanted) bool_sort (boolean_sorted spec.sig [] fine.signature g.wanted) in
      let first : r < m = part_falls g.test o.0.0 d.0 ga zs_test m r q
      (subst (λ u. rank (length spec.sig.table) 100 u r) (two g.test bool_sort p.0) a.0) in
      let second : s < m = part_falls (boolean g.wanted) o.0.1 (omega arith) ga zs_bool m s q a.1.0 in
      elim (in-cases x r (s ∷ w) i) [
        | inl e ↦ omega (arith, e, first)
        | inr j ↦ elim (in-cases x s w j) [
          | inl e ↦ omega (arith, e, second)
          | inr h ↦ guards_fall gs o.1 d.1 p.1 ga m q w a.1.1 x h
        ]
      ]
