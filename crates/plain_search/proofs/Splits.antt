-- The step that splits a goal's variable.
use Rattle.std.proofs.Common.{◌≡◌, ℕ, zero, suc, ◌+◌, ◌<◌, ◌==◌, inl, inr, List, [], ◌∷◌, not, cond, Option, Some}
use Rattle.std.proofs.Common.{None, length, get_or, refl, ap, sym, ◌∙◌, subst, arith}
use Rattle.std.specs.Prelude.{position, nat_lt, slice_get}
use Rattle.std.specs.List.{position_or_len}
use Rattle.std.proofs.lemmas.List.{length-map, map-id}
use Rattle.std.proofs.lemmas.Option.{slice_get_within}
use Rattle.term_core.specs.Tree.{Tree, app, none, some}
use Rattle.term_core.specs.Variables.{occurrences, firsts, numbers_of}
use Rattle.term_core.specs.declared.ids.VarId.{VarId}
use Rattle.spec_core.specs.declared.records.Equation.{Equation}
use Rattle.spec_core.specs.declared.records.Goal.{Goal}
use Rattle.spec_core.specs.declared.records.Spec.{Spec}
use Rattle.spec_core.specs.declared.records.VarInfo.{VarInfo}
use Rattle.spec_core.specs.WellSorted.{sorts_of}
use Rattle.clause_core.specs.declared.clauses.Clause.{Clause}
use Rattle.clause_core.specs.Tidied.{place_of, variables_of, written_clause}
use Rattle.clause_core.proofs.Renumbering.{found_at, not_found}
use Rattle.clause_core.proofs.TidiedSorts.{at_place, variables_met}
use Rattle.plain_proof.specs.PlainProofs.{IsPlain}
use Rattle.plain_search.proofs.Variables.{variables_few}

-- both terms as the arguments of one symbol
abbrev pair_of : Tree → Tree → Tree
pair_of x y = app 0 (some x (some y none))

places_map : (x : ℕ) (vars : List VarId) →
    position_or_len (λ m. m == x) (numbers_of vars) ≡ position_or_len (λ (v : VarId). v.0 == x) vars
places_map x [] = refl
places_map x (v ∷ vars) = ap (λ k. cond (not (v.0 == x)) (1 + k) 0) (places_map x vars)

position_map : (x : ℕ) (vars : List VarId) →
    position (λ m. m == x) (numbers_of vars) ≡ position (λ (v : VarId). v.0 == x) vars
position_map x vars =
    let p = places_map x vars in
    let n : length (numbers_of vars) ≡ length vars = length-map vars (λ (v : VarId). v.0) in
    λ i. cond (nat_lt (p i) (n i)) (Some (p i)) None

sort_at : (vs : List VarInfo) (k : ℕ) (u : VarInfo) → k < length vs → u ≡ get_or vs k u →
    slice_get (sorts_of vs) k ≡ Some u.sort
sort_at [] k u lt at = absurd (omega arith)
sort_at (v ∷ vs) zero u lt at = ap (λ (w : VarInfo). Some w.sort) (sym at)
sort_at (v ∷ vs) (suc k) u lt at = sort_at vs k u (omega arith) at

module _ (spec : Spec) (goal : Goal) (x long : ℕ) (p : IsPlain spec goal x long) where
  -- the conclusion
  pub the_equation : (own : List Equation) (e : Equation) → own ≡ goal.conclusions → e ≡ get_or own 0 e → e ≡ p.equation
  the_equation own e same at = at ∙ ap (λ es. get_or es 0 e) (same ∙ p.conclusion)

  pub some_conclusion : (own : List Equation) → own ≡ goal.conclusions → 0 < length own
  some_conclusion own same = let n = ap (λ (es : List Equation). length es) (same ∙ p.conclusion) in omega (arith, n)

  -- the variables of its sides are those of the goal's clause
  pub variables_are : (vars : List VarId) (e : Equation) (t : Tree) → e ≡ p.equation →
      t ≡ pair_of e.left e.right → numbers_of vars ≡ firsts (occurrences t) →
      numbers_of vars ≡ variables_of (written_clause goal)
  variables_are vars e t same is are =
      let w : variables_of (record {
        ctx = sorts_of goal.vars;
        premises = [];
        conclusions = p.equation ∷ [];
      }) ≡ variables_of (written_clause goal) = ap
      (λ (c : Clause). variables_of c)
      (λ i. record {
        ctx = sorts_of goal.vars;
        premises = sym p.no_premises i;
        conclusions = sym
            p.conclusion i;
      }) in
      are ∙ ap (λ u. firsts (occurrences u)) (is ∙ ap (λ (d : Equation). pair_of d.left d.right) same) ∙ w

  module _ (vars : List VarId) (are : numbers_of vars ≡ variables_of (written_clause goal)) where
    met : place_of (numbers_of vars) x < length (numbers_of vars)
    met =
        let c : Clause = record { ctx = sorts_of goal.vars; premises = []; conclusions = p.equation ∷ [] } in
        let is : c ≡ written_clause goal = λ i. record {
          ctx = sorts_of goal.vars;
          premises = sym p.no_premises
              i;
          conclusions = sym p.conclusion i;
        } in
        let o = elim p.occurs as (λ _. place_of (variables_of c) x < length (variables_of c)) [
          | inl l ↦ variables_met c x (inl l)
          | inr r ↦ variables_met c x (inr (inl r))
        ] in
        subst (λ ns. place_of ns x < length ns) (ap (λ d. variables_of d) is ∙ sym are) o

    pub place_found : (o : Option ℕ) (number : ℕ) → o ≡ position (λ (v : VarId). v.0 == x) vars →
        o ≡ Some number → slice_get (variables_of (written_clause goal)) number ≡ Some x
    place_found o number e is =
        let f = found_at (numbers_of vars) x number (position_map x vars ∙ sym e ∙ is) in
        let a = at_place (λ k. k) (numbers_of vars) x f.0 in
        subst (λ ns. slice_get ns number ≡ Some x) are (subst (λ k. slice_get (numbers_of vars) k ≡ Some x) f.1
        (subst (λ ns. slice_get ns (place_of (numbers_of vars) x) ≡ Some x) (map-id (numbers_of vars)) a))

    pub place_there : (o : Option ℕ) → o ≡ position (λ (v : VarId). v.0 == x) vars → o ≡ None → ⊥
    place_there o e is =
        let n = not_found (numbers_of vars) x (position_map x vars ∙ sym e ∙ is) in
        let m = met in omega arith

  -- there are few of them
  pub number_small : (number : ℕ) → slice_get (variables_of (written_clause goal)) number ≡ Some x → number < 4294967296
  number_small number at =
      let e = p.equation in
      let w : variables_of (record {
        ctx = sorts_of goal.vars;
        premises = [];
        conclusions = e ∷ [];
      }) ≡ variables_of (written_clause goal) = ap (λ (c : Clause). variables_of c)
      (λ i. record {
        ctx = sorts_of goal.vars;
        premises = sym p.no_premises i;
        conclusions = sym
            p.conclusion i;
      }) in
      let few = variables_few (some e.left (some e.right none)) in
      let lt = slice_get_within (variables_of (written_clause goal)) number x at in
      let long = ap (λ (ns : List ℕ). length ns) w in
      let size = p.within.size in
      omega arith

  -- its sort
  pub sort_there : (own : List VarInfo) (v : VarInfo) → own ≡ goal.vars → x < length own → v ≡ get_or own x v →
      slice_get (sorts_of goal.vars) x ≡ Some v.sort
  sort_there own v same lt at = subst (λ vs. slice_get (sorts_of vs) x ≡ Some v.sort) same (sort_at own x v lt at)

  pub variable_there : (own : List VarInfo) → own ≡ goal.vars → x < length own
  variable_there own same =
      let lt = slice_get_within (sorts_of goal.vars) x p.sort p.sorted in
      let n : length (sorts_of goal.vars) ≡ length goal.vars = length-map goal.vars (λ (v : VarInfo). v.sort) in
      let m = ap (λ (vs : List VarInfo). length vs) same in
      omega arith
