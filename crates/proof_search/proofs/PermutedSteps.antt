-- By a lemma that is an equation which permutes, what a step from the right side makes, one from
-- the left side makes, too: by the instances of the terms that swap the sides.
use Rattle.std.proofs.Common.{◌≡◌, ℕ, zero, suc, ◌<◌, List, [], ◌∷◌, ◌++◌, Bool, true, false, cond, Option, Some, None}
use Rattle.std.proofs.Common.{Ok, inl, inr, refl, ap, sym, ◌∙◌, subst, arith, map, length, get_or}
use Rattle.std.specs.Prelude.{slice_get}
use Rattle.std.proofs.lemmas.List.{length-map}
use Rattle.std.proofs.lemmas.Option.{get_or_from_slice_get, slice_get_within}
use Rattle.term_core.specs.Tree.{Tree, Trees, var, app, none, some, trees_of, instance, instances}
use Rattle.term_core.specs.Variables.{Occurs, OccursAny}
use Rattle.term_core.specs.declared.ids.SortId.{SortId}
use Rattle.substitutions.proofs.Instances.{apply_values, sorted_image}
use Rattle.substitutions.specs.Substitution.{image}
use Rattle.spec_core.specs.Sig.{Sig}
use Rattle.spec_core.specs.Sorts.{Sorted, SortedAll}
use Rattle.spec_core.specs.declared.records.Equation.{Equation}
use Rattle.spec_core.specs.declared.records.Spec.{Spec}
use Rattle.clause_core.specs.ClauseInstances.{equation_instance}
use Rattle.clause_core.specs.Clauses.{ClauseIsSorted}
use Rattle.clause_core.specs.Equations.{swapped}
use Rattle.clause_core.specs.Instances.{instance_by}
use Rattle.clause_core.specs.Limits.{IsWithin}
use Rattle.clause_core.specs.Places.{side}
use Rattle.clause_core.specs.Referred.{AreTermsFor, PremisesAreThere}
use Rattle.clause_core.specs.Replacing.{Rewrites, rewritten_by}
use Rattle.clause_core.specs.Says.{Says}
use Rattle.clause_core.specs.declared.answers.Children.{Children}
use Rattle.clause_core.specs.declared.clauses.Clause.{Clause}
use Rattle.clause_core.specs.declared.steps.Place.{Place}
use Rattle.clause_core.specs.declared.steps.Step.{Step}
use Rattle.clause_places.specs.Spots.{Spot}
use Rattle.inference_rules.specs.Answers.{clauses_of}
use Rattle.fitting_lists.specs.Answering.{AreVariables}
use Rattle.fitting_lists.specs.Fitting.{has_all}
use Rattle.fitting_lists.proofs.Variables.{side_variables}
use Rattle.place_comparison.specs.AtPlaces.{PlaceDecides}
use Rattle.routine_proof.specs.Candidates.{Candidate, Gives}
use Rattle.routine_proof.specs.First.{HasNone, IsFirst}
use Rattle.routine_proof.specs.declared.moves.Move.{Move}
use Rattle.proof_search.specs.declared.at.At.{At}
use Rattle.proof_search.specs.declared.falling_sides.FallingSides.{FallingSides}
use Rattle.proof_search.specs.Falling.{IsReferred, IsGoalClause, NeverRises, AreSides}
use Rattle.proof_search.specs.FallingSides.{KeepsLeft, Permutes, marked}
use Rattle.proof_search.specs.Referring.{Target, node, goal, rewriting_by, rewriting_step, rewritings_at}
use Rattle.proof_search.specs.Referring.{falling_rewritings}
use Rattle.proof_search.specs.Taking.{IsAt, SaysAt}
use Rattle.proof_search.proofs.FallingSteps.{by_sides, falling_variables, first_at_spot, instance_sorted}
use Rattle.proof_search.proofs.LessSteps.{named_clause, never}

-- the instance of an instance, if both lists have this many terms
entry_twice :
    (f : Tree → Tree) (xs zs : List Tree) (n : ℕ) (d : Tree) → length xs ≡ length zs →
    f d ≡ get_or xs n d → get_or (map f zs) n d ≡ f (get_or zs n d)
entry_twice f [] [] n d same e = sym e
entry_twice f [] (z ∷ zs) n d same e = absurd (omega (arith, same))
entry_twice f (x ∷ xs) [] n d same e = absurd (omega (arith, same))
entry_twice f (x ∷ xs) (z ∷ zs) zero d same e = refl
entry_twice f (x ∷ xs) (z ∷ zs) (suc n) d same e =
    entry_twice f xs zs n d (omega (arith, same)) e

module _ (xs zs : List Tree) (same : length xs ≡ length zs) where
  mutual
    instance_twice : (t : Tree) → instance (map (instance xs) zs) t ≡ instance xs (instance zs t)
    instance_twice (var n) = entry_twice (instance xs) xs zs n (var n) same refl
    instance_twice (app f ts) = ap (λ us. app f us) (instances_twice ts)

    instances_twice :
        (ts : Trees) → instances (map (instance xs) zs) ts ≡ instances xs (instances zs ts)
    instances_twice none = refl
    instances_twice (some t ts) =
        let p = instance_twice t in
        let q = instances_twice ts in
        cc

-- terms of the variables' sorts
module _ (sig : Sig) (to : List SortId) where
  terms_sorted :
      (ys : List Tree) (ss : List SortId) → length ys ≡ length ss →
      ((n : ℕ) (s : SortId) (y : Tree) → slice_get ss n ≡ Some s → slice_get ys n ≡ Some y →
      Sorted sig to y s) →
      SortedAll sig to (trees_of ys) ss
  terms_sorted [] [] same h = tt
  terms_sorted [] (s ∷ ss) same h = absurd (omega (arith, same))
  terms_sorted (y ∷ ys) [] same h = absurd (omega (arith, same))
  terms_sorted (y ∷ ys) (s ∷ ss) same h =
      (h 0 s y refl refl, terms_sorted ys ss (omega (arith, same)) (λ n r z p q. h (suc n) r z p q))

  -- if a term that has all variables becomes one of its sort
  terms_for :
      (ys : List Tree) (ss : List SortId) (t : Tree) (sort : SortId) → length ys ≡ length ss →
      ((n : ℕ) → n < length ss → Occurs n t) → Sorted sig ss t sort →
      Sorted sig to (instance ys t) sort → SortedAll sig to (trees_of ys) ss
  terms_for ys ss t sort same has own made = terms_sorted ys ss same (λ n s y p q.
      let entries = map (λ (x : Tree). Some x) ys in
      let there = subst (λ (x : Tree). Sorted sig to x sort) (sym (apply_values ys t)) made in
      let one : Sorted sig to (image entries n) s =
      sorted_image sig ss to entries t sort own there n s (has n (slice_get_within ss n s p)) p in
      let is : image entries n ≡ y = apply_values ys (var n) ∙ get_or_from_slice_get ys n y (var n) q in
      subst (λ (x : Tree). Sorted sig to x s) is one)

-- the clause of an equation alone
abbrev alone_by : List SortId → Equation → Clause
alone_by ctx e = record { ctx = ctx; premises = []; conclusions = e ∷ [] }

within_swapped :
    (ctx : List SortId) (e : Equation) → IsWithin (alone_by ctx e) →
    IsWithin (alone_by ctx (swapped e))
within_swapped ctx e w = record {
  equations = w.equations;
  depth = omega (arith, w.depth);
  size = omega (arith, w.size);
}

-- its instance
instance_alone :
    (list : List Tree) (ctx : List SortId) (d : Clause) (e : Equation) → d.premises ≡ [] →
    d.conclusions ≡ e ∷ [] →
    instance_by list ctx d
    ≡ alone_by ctx (record { left = instance list e.left; right = instance list e.right })
instance_alone list ctx d e bare alone =
    let entries = map (λ (t : Tree). Some t) list in
    let own : equation_instance entries e
    ≡ record { left = instance list e.left; right = instance list e.right } =
    λ i. record { left = apply_values list e.left i; right = apply_values list e.right i } in
    λ i. record {
      ctx = ctx;
      premises = map (equation_instance entries) (bare i);
      conclusions =
          (ap (λ (es : List Equation). map (equation_instance entries) es) alone
          ∙ ap (λ (x : Equation). x ∷ []) own) i;
    }

module _ (spec : Spec) (c d : Clause) (e : Equation) (bare : d.premises ≡ [])
    (alone : d.conclusions ≡ e ∷ []) (sorted : ClauseIsSorted spec.sig d)
    (variables : has_all d (e.left ∷ []) ≡ true) (permutes : Permutes (length d.ctx) e)
    (xs : List Tree) (long : length xs ≡ length d.ctx) where
  abbrev swap : List Tree
  swap = permutes.0

  -- the terms by which the left side becomes what the right one does by the others
  abbrev ys : List Tree
  ys = map (instance xs) swap

  abbrev own : Equation
  own = record { left = instance xs e.left; right = instance xs e.right }

  ys_long : length ys ≡ length d.ctx
  ys_long = length-map swap (instance xs) ∙ permutes.1.0

  becomes : (s t : Tree) → instance swap s ≡ t → instance ys s ≡ instance xs t
  becomes s t is =
      instance_twice xs swap (long ∙ sym permutes.1.0) s ∙ ap (λ u. instance xs u) is

  left_becomes : instance ys e.left ≡ instance xs e.right
  left_becomes =
      let q : instance swap e.left ∷ instance swap e.right ∷ [] ≡ e.right ∷ e.left ∷ [] =
      permutes.1.1 in
      becomes e.left e.right (cc)

  right_becomes : instance ys e.right ≡ instance xs e.left
  right_becomes =
      let q : instance swap e.left ∷ instance swap e.right ∷ [] ≡ e.right ∷ e.left ∷ [] =
      permutes.1.1 in
      becomes e.right e.left (cc)

  by_xs : instance_by xs c.ctx d ≡ alone_by c.ctx own
  by_xs = instance_alone xs c.ctx d e bare alone

  by_ys : instance_by ys c.ctx d ≡ alone_by c.ctx (swapped own)
  by_ys =
      instance_alone ys c.ctx d e bare alone
      ∙ (λ i. alone_by c.ctx (record { left = left_becomes i; right = right_becomes i }))

  rewrites_left :
      (t : Tree) (r : Rewrites c (instance_by xs c.ctx d) t false) →
      (instance_by ys c.ctx d).conclusions ≡ swapped r.equation ∷ []
  rewrites_left t r =
      let q : own ∷ [] ≡ r.equation ∷ [] =
      sym (ap (λ (x : Clause). x.conclusions) by_xs) ∙ r.alone in
      let same : own ≡ r.equation = cc in
      ap (λ (x : Clause). x.conclusions) by_ys ∙ ap (λ (x : Equation). swapped x ∷ []) same

  ys_sorted : AreTermsFor spec c d xs → AreTermsFor spec c d ys
  ys_sorted p =
      let sorts = sorted.conclusions 0 e (ap (λ (es : List Equation). slice_get es 0) alone) in
      let has : (n : ℕ) → n < length d.ctx → Occurs n e.left =
      λ n lt. in_one n e.left ((side_variables spec.sig d sorted e alone true variables n).1 lt) in
      terms_for spec.sig c.ctx ys d.ctx e.left sorts.0 ys_long has sorts.1
      (subst (λ (t : Tree). Sorted spec.sig c.ctx t sorts.0) (sym left_becomes)
      (instance_sorted spec.sig c.ctx xs d.ctx p e.right sorts.0 sorts.2))
    where
      in_one : (n : ℕ) (t : Tree) → OccursAny n (trees_of (t ∷ [])) → Occurs n t
      in_one n t (inl o) = o
      in_one n t (inr o) = absurd o

  -- the row of the step from the right side says the same of the one from the left side
  module _ (above : Tree → Tree → Type 0) (nodes : List Clause) (place : Place) (made : Children) where
    by_row :
        Says above c nodes (rewritten_by spec c d xs place false (λ (x : Clause). [])) (Ok made) →
        Says above c nodes (rewritten_by spec c d ys place true (λ (x : Clause). [])) (Ok made)
    by_row (inl (p, inl (within, inl (there, inl (rewrites, rest))))) =
        let small : IsWithin (instance_by ys c.ctx d) =
        subst IsWithin (sym by_ys)
        (within_swapped c.ctx own (subst IsWithin by_xs within)) in
        let from : Rewrites c (instance_by ys c.ctx d) there.term true =
        record {
          equation = swapped rewrites.equation;
          alone = rewrites_left there.term rewrites;
          premises = subst (λ (x : Clause). PremisesAreThere c x) (sym by_ys) tt;
          is = rewrites.is;
        } in
        inl (ys_sorted p, inl (small, inl (there, inl (from, rest))))
    by_row (inl (p, inl (within, inl (there, inr q)))) = never made _ q.1
    by_row (inl (p, inl (within, inr q))) = never made _ q.1
    by_row (inl (p, inr q)) = never made _ q.1
    by_row (inr q) = never made _ q.1

-- a first item that gives what the second one gives
module _ {A R : Type 0} (is : A → R → Type 0) (x y : A) (fails : HasNone is x → HasNone is y) where
  with_second :
      (kept : Bool) (found : Option R) → IsFirst is (x ∷ []) found →
      IsFirst is ((x ∷ []) ++ cond kept (y ∷ []) []) found
  with_second false found first = first
  with_second true (Some r) (inl first) = inl first
  with_second true (Some r) (inr first) = absurd first.1
  with_second true None first = (first.0, (fails first.0, tt))

module _ (above : Tree → Tree → Type 0) (d : Clause) (sides : FallingSides) (e : Equation)
    (alone : d.conclusions ≡ e ∷ []) where
  only_one : (f : Equation) → d.conclusions ≡ f ∷ [] → f ≡ e
  only_one f is = let q : f ∷ [] ≡ e ∷ [] = sym is ∙ alone in cc

  kept_variables : KeepsLeft d sides → has_all d (e.left ∷ []) ≡ true
  kept_variables keeps =
      subst (λ (x : Equation). has_all d (x.left ∷ []) ≡ true)
      (only_one keeps.equation keeps.alone) keeps.variables

  -- the variables of a side from which the clause rewrites
  pub variables_by_sides :
      (target : Target) → AreSides above target d sides → (sig : Sig) → ClauseIsSorted sig d →
      (left : Bool) → marked left sides ≡ true → AreVariables (length d.ctx) (side left e ∷ [])
  variables_by_sides (node number) may sig sorted left is =
      falling_variables above d sides may e alone sig sorted left is
  variables_by_sides (goal name) (inl may) sig sorted left is =
      falling_variables above d sides may e alone sig sorted left is
  variables_by_sides (goal name) (inr keeps) sig sorted true is =
      side_variables sig d sorted e alone true (kept_variables keeps)
  variables_by_sides (goal name) (inr keeps) sig sorted false is =
      absurd (let q : true ≡ false = sym is ∙ keeps.right in cc)

  module _ (at : At) (is : IsAt at) (sorted : ClauseIsSorted at.setting.now.spec.now.sig d) where
    abbrev spec : Spec
    spec = at.setting.now.spec.now

    abbrev says : Step → Children → Type 0
    says = SaysAt above at

    module _ (name : List ℕ) (referred : IsGoalClause at name d) (keeps : KeepsLeft d sides) where
      permutes : Permutes (length d.ctx) e
      permutes =
          subst (λ (x : Equation). Permutes (length d.ctx) x)
          (only_one keeps.equation keeps.alone) keeps.permutes

      step_left :
          (xs : List Tree) → length xs ≡ length d.ctx → (place : Place) (made : Children) →
          says (rewriting_step (goal name) place xs false) made →
          says (rewriting_step (goal name) place (map (instance xs) permutes.0) true) made
      step_left xs long place made (inl (lemma, p)) =
          let same = named_clause at is name d referred lemma in
          let row : Clause → List Tree → Bool → Type 0 =
          λ x list left.
          Says above at.here.now (clauses_of at.nodes.now)
          (rewritten_by spec at.here.now x list place left (λ (i : Clause). [])) (Ok made) in
          inl (
            lemma,
            subst (λ (x : Clause). row x (map (instance xs) permutes.0) true) (sym same)
                (by_row spec at.here.now d e keeps.premises alone sorted (kept_variables keeps) permutes
                xs long above (clauses_of at.nodes.now) place made
                (subst (λ (x : Clause). row x xs false) same p)),
          )
      step_left xs long place made (inr q) = never made _ q.1

      abbrev by : Place → Tree → Bool → Candidate
      by place t left = rewriting_by (goal name) d place t left (side left e)

      -- if the left side rewrites nothing, the right one doesn't
      none_right :
          (place : Place) (t : Tree) → HasNone (Gives says) (by place t true) →
          HasNone (Gives says) (by place t false)
      none_right place t fails = λ move g.
          let xs = g.list in
          let list = map (instance xs) permutes.0 in
          let variables = kept_variables keeps in
          fails (record { step = rewriting_step (goal name) place list true; made = move.made })
          (record {
            list = list;
            answers = (
              length-map permutes.0 (instance xs) ∙ permutes.1.0,
              ap (λ (x : Tree). x ∷ [])
                  (left_becomes spec at.here.now d e keeps.premises alone sorted variables permutes
                  xs g.answers.0)
                  ∙ g.answers.1,
            );
            step = refl;
            defined = step_left xs g.answers.0 place move.made
                (subst (λ (s : Step). says s move.made) g.step g.defined);
            meets = g.meets;
          })

      first_kept :
          (s : Spot) (found : Option Move) →
          IsFirst (Gives says) (falling_rewritings (goal name) d s.place s.term e sides) found →
          IsFirst (Gives says) (rewritings_at (goal name) d s) found
      first_kept s found first =
          let l = by s.place s.term true in
          let r = by s.place s.term false in
          let kept : IsFirst (Gives says) (l ∷ []) found =
          subst
          (λ (x : Bool × Bool).
          IsFirst (Gives says) (cond x.0 (l ∷ []) [] ++ cond x.1 (r ∷ []) []) found)
          (λ i. (keeps.left i, keeps.right i)) first in
          subst (λ (cs : List Candidate). IsFirst (Gives says) cs found)
          (sym (by_sides (goal name) d e s alone))
          (subst
          (λ (x : Bool).
          IsFirst (Gives says)
          (cond x (l ∷ []) [] ++ cond (has_all d (e.right ∷ [])) (r ∷ []) []) found)
          (sym (kept_variables keeps))
          (with_second (Gives says) l r (none_right s.place s.term) (has_all d (e.right ∷ [])) found
          kept))

    -- the first step by the sides from which the clause rewrites is the first step at the spot
    pub first_by_sides :
        (target : Target) → AreSides above target d sides → PlaceDecides above →
        NeverRises above → IsReferred at target d → (s : Spot) (found : Option Move) →
        IsFirst (Gives says) (falling_rewritings target d s.place s.term e sides) found →
        IsFirst (Gives says) (rewritings_at target d s) found
    first_by_sides (node number) may decides rises referred s found first =
        first_at_spot above d sides may e alone decides rises at is (node number) sorted referred s
        found first
    first_by_sides (goal name) (inl may) decides rises referred s found first =
        first_at_spot above d sides may e alone decides rises at is (goal name) sorted referred s
        found first
    first_by_sides (goal name) (inr keeps) decides rises referred s found first =
        first_kept name referred keeps s found first
