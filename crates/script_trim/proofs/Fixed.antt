-- The report of the example is trimmed by one cut, and then no node could be closed.
use Rattle.std.proofs.Common.{◌≡◌, ℕ, zero, suc, ◌<◌, List, [], ◌∷◌, ◌++◌, ◌+◌, Some, None, Ok, Err, inl, inr, refl}
use Rattle.std.proofs.Common.{sym, ◌∙◌, ap, subst, arith, length}
use Rattle.std.specs.Prelude.{codes, slice_get}
use Rattle.std.specs.List.{AllZip}
use Rattle.std.proofs.lemmas.List.Sorted.{IsPermutation-refl}
use Rattle.term_core.specs.Tree.{Tree, app, none, some}
use Rattle.spec_core.specs.Naturals.{plus_term, succ_term, zero_term}
use Rattle.spec_core.specs.WellSorted.{IsWellSorted}
use Rattle.spec_core.specs.declared.records.Equation.{Equation}
use Rattle.sample_specs.specs.SumOrder.{AboveInSums}
use Rattle.clause_core.specs.declared.answers.Children.{Children}
use Rattle.clause_core.specs.declared.answers.Reference.{Reference}
use Rattle.clause_core.specs.declared.answers.Why.TheVariants.{NotProvedBefore, NoSuchNode, NoSuchPlace, DoesNotFit}
use Rattle.clause_core.specs.declared.answers.Why.TheVariants.{Limit, Sort}
use Rattle.clause_core.specs.declared.clauses.Clause.{Clause}
use Rattle.clause_core.specs.declared.clauses.Relation.TheVariants.{Same}
use Rattle.clause_core.specs.declared.steps.Step.{Step}
use Rattle.clause_core.specs.declared.steps.Step.TheVariants.{Trivial, Subsume, ByLemma}
use Rattle.clause_core.specs.ClauseExamples.{equals, claims}
use Rattle.clause_core.specs.ExampleClauses.{less}
use Rattle.clause_core.specs.ClauseLaws.{OneRelation}
use Rattle.clause_core.specs.NumberedEquations.{EquationAt}
use Rattle.clause_core.specs.Referred.{UsableGoal}
use Rattle.clause_core.specs.Says.{IsReference, Says}
use Rattle.clause_core.specs.Comparing.{Compares}
use Rattle.clause_core.specs.Equations.{Among}
use Rattle.clause_core.specs.Referred.{instance_here}
use Rattle.clause_core.specs.Steps.{row_of}
use Rattle.clause_core.specs.Subsuming.{Subsumes}
use Rattle.acceptance.specs.Blocks.{StepMakes}
use Rattle.acceptance.specs.Claims.{ProvedBefore}
use Rattle.script_trim.specs.Examples.{one_goal, with_one, four_steps, three_steps, report_by}
use Rattle.script_trim.specs.Trimmed.{proves, ProvedClaim, Closes, CouldBeClosed, LeadsTo, done, cut, Trims}
use Rattle.script_trim.proofs.OneCut.{made_same}
use Rattle.script_trim.proofs.FirstCuts.{cuts_trim}
use Rattle.script_trim.proofs.Prefixes.{met, refers_below}
use Rattle.script_trim.proofs.Unclosable.{not_by_itself, not_closed}
use Rattle.script_trim.proofs.Worked.{start, rewritten, both_ones, makes_clauses, made, makes, closing, claim}
use Rattle.script_trim.proofs.Worked.{accepted, accepted_cut, closes}

-- the only equation
only : (e : Equation) (at : EquationAt (e ∷ []) 1) → at.equation ≡ e
only e at = by_before at.before at.is at.place
  where
    by_before :
        (before : List Equation) → e ∷ [] ≡ before ++ (at.equation ∷ at.after) → 1 ≡ length before + 1 →
        at.equation ≡ e
    by_before [] i p = cc
    by_before (x ∷ before) i p = absurd (omega (arith, p))

abbrev no_lemma : ℕ → Type 0
no_lemma = ProvedBefore with_one []

-- a conclusion whose sides differ
not_trivial :
    (nodes : List Clause) (k : ℕ) (e : Equation) (m : Children) → slice_get nodes k ≡ Some (claims [] e) →
    (e.left ≡ e.right → ⊥) → StepMakes AboveInSums with_one no_lemma nodes k (Trivial 1) m → ⊥
not_trivial nodes k e m at differ p =
    let s : Some p.clause ≡ Some (claims [] e) = sym p.is ∙ at in
    let c : p.clause ≡ claims [] e = cc in
    by_says (subst (λ x. Says AboveInSums x nodes (row_of with_one no_lemma nodes x (Trivial 1)) (Ok m)) c p.says)
  where
    by_says : Says AboveInSums (claims [] e) nodes (row_of with_one no_lemma nodes (claims [] e) (Trivial 1)) (Ok m) → ⊥
    by_says (inl (at, inl (same, h))) =
        let f = only e at in differ (ap (λ (x : Equation). x.left) (sym f) ∙ same ∙ ap (λ (x : Equation). x.right) f)
    by_says (inl (at, inr (n, q))) = (let r : Ok m ≡ Err DoesNotFit = q in cc)
    by_says (inr (n, q)) = (let r : Ok m ≡ Err NoSuchPlace = q in cc)

-- no goal may be used
not_lemma :
    (nodes : List Clause) (k : ℕ) (terms : List Tree) (m : Children) →
    StepMakes AboveInSums with_one no_lemma nodes k (ByLemma (codes "one") terms) m → ⊥
not_lemma nodes k terms m p =
    let l : UsableGoal with_one no_lemma (codes "one") = met m NotProvedBefore p.says in l.may_be_used.2

-- a node that isn't made yet
not_made :
    (nodes : List Clause) (k j : ℕ) (m : Children) → length nodes < suc j →
    StepMakes AboveInSums with_one no_lemma nodes k (Subsume j []) m → ⊥
not_made nodes k j m l p = omega (arith, l, refers_below AboveInSums with_one no_lemma nodes k (Subsume j []) m p)

-- the node itself: the reference to it is Same
module _ (one : OneRelation AboveInSums) where
  one_reference :
      (c inst : Clause) (k : ℕ) (refs : List Reference) → inst ≡ c →
      AllZip (IsReference AboveInSums c) ((k, inst) ∷ []) refs → (r : Reference) × (slice_get refs 0 ≡ Some r) ×
      (r.node ≡ k) × (r.relation ≡ Same)
  one_reference c inst k [] e p = absurd p
  one_reference c inst k (r ∷ refs) e p =
      let h : Compares AboveInSums c c r.relation = subst (λ d. Compares AboveInSums c d r.relation) e p.0.1 in
      (r, refl, p.0.0, one c c r.relation Same h (IsPermutation-refl _))

  by_itself :
      (nodes : List Clause) (k : ℕ) (c : Clause) (m : Children) → slice_get nodes k ≡ Some c →
      instance_here with_one c c [] ≡ c → StepMakes AboveInSums with_one no_lemma nodes k (Subsume k []) m →
      (r : Reference) × (slice_get m.refs 0 ≡ Some r) × (r.node ≡ k) × (r.relation ≡ Same)
  by_itself nodes k c m at own p =
      let s : Some p.clause ≡ Some c = sym p.is ∙ at in
      let e : p.clause ≡ c = cc in
      by_says (subst (λ x. Says AboveInSums x nodes (row_of with_one no_lemma nodes x (Subsume k [])) (Ok m)) e p.says)
    where
      by_says :
          Says AboveInSums c nodes (row_of with_one no_lemma nodes c (Subsume k [])) (Ok m) → (r : Reference) ×
          (slice_get m.refs 0 ≡ Some r) × (r.node ≡ k) × (r.relation ≡ Same)
      by_says (inl (node, inl (sorted, inl (within, inl (fits, (made, cs, rs, inl (few, q))))))) =
          let h : Ok m ≡ Ok made = q in
          let g : made ≡ m = cc in
          let s : Some node.clause ≡ Some c = sym node.is ∙ at in
          let e : node.clause ≡ c = cc in
          let r = one_reference c (instance_here with_one c node.clause []) k made.refs
          (ap (λ x. instance_here with_one c x []) e ∙ own) rs in
          (r.0, subst (λ (x : Children). slice_get x.refs 0 ≡ Some r.0) g r.1, r.2, r.3)
      by_says (inl (node, inl (sorted, inl (within, inl (fits, (made, cs, rs, inr (few, q))))))) =
          absurd (let h : Ok m ≡ Err Limit = q in cc)
      by_says (inl (node, inl (sorted, inl (within, inr (n, q))))) = absurd (let h : Ok m ≡ Err DoesNotFit = q in cc)
      by_says (inl (node, inl (sorted, inr (n, q)))) = absurd (let h : Ok m ≡ Err Limit = q in cc)
      by_says (inl (node, inr (n, q))) = absurd (let h : Ok m ≡ Err Sort = q in cc)
      by_says (inr (n, q)) = absurd (let h : Ok m ≡ Err NoSuchNode = q in cc)

-- the goal isn't among the conclusions of what it is rewritten to
not_start : (m : Children) → StepMakes AboveInSums with_one no_lemma (start ∷ rewritten ∷ []) 1 (Subsume 0 []) m → ⊥
not_start m p =
    let s : Some p.clause ≡ Some rewritten = sym p.is in
    let e : p.clause ≡ rewritten = cc in
    by_says (subst (λ x. Says AboveInSums x (start ∷ rewritten ∷ [])
    (row_of with_one no_lemma (start ∷ rewritten ∷ []) x (Subsume 0 [])) (Ok m)) e p.says)
  where
    not_fits : (d : Clause) → d ≡ start → Subsumes rewritten (instance_here with_one rewritten d []) → ⊥
    not_fits d e f = by_among (subst (λ x. Subsumes rewritten (instance_here with_one rewritten x [])) e f).1.0
      where
        by_among :
            Among (equals (plus_term (succ_term zero_term) zero_term) (succ_term zero_term))
            (equals (succ_term (plus_term zero_term zero_term)) (succ_term zero_term) ∷ []) → ⊥
        by_among (inl (inl q)) =
            (let k : app 3 (some (plus_term zero_term zero_term) none) ≡ plus_term (succ_term zero_term) zero_term =
            ap (λ (x : Equation). x.left) q in let n : ◌≡◌ {A = ℕ} 3 4 = cc in omega arith)
        by_among (inl (inr q)) =
            (let k : app 3 (some zero_term none) ≡ plus_term (succ_term zero_term) zero_term =
            ap (λ (x : Equation). x.right) q in let n : ◌≡◌ {A = ℕ} 3 4 = cc in omega arith)
        by_among (inr h) = h

    by_says :
        Says AboveInSums rewritten (start ∷ rewritten ∷ [])
        (row_of with_one no_lemma (start ∷ rewritten ∷ []) rewritten (Subsume 0 [])) (Ok m) → ⊥
    by_says (inl (node, inl (sorted, inl (within, inl (fits, h))))) =
        let s : Some start ≡ Some node.clause = node.is in
        let e : node.clause ≡ start = cc in
        not_fits node.clause e fits
    by_says (inl (node, inl (sorted, inl (within, inr (n, q))))) = (let h : Ok m ≡ Err DoesNotFit = q in cc)
    by_says (inl (node, inl (sorted, inr (n, q)))) = (let h : Ok m ≡ Err Limit = q in cc)
    by_says (inl (node, inr (n, q))) = (let h : Ok m ≡ Err Sort = q in cc)
    by_says (inr (n, q)) = (let h : Ok m ≡ Err NoSuchNode = q in cc)

-- the claim that is left
abbrev made_three : List Children
made_three = makes_clauses (less rewritten ∷ []) ∷ makes_clauses (less both_ones ∷ []) ∷ makes_clauses [] ∷ []

abbrev claim_three : ProvedClaim AboveInSums with_one (report_by three_steps) 0
claim_three = record {
  goal = one_goal;
  named = (0, refl, refl);
  steps = three_steps;
  is = refl;
  made = made_three;
  makes = ((makes no_lemma).0, ((makes no_lemma).1.0, (closing, tt)));
}

sides_differ : plus_term (succ_term zero_term) zero_term ≡ succ_term zero_term → ⊥
sides_differ e = let n : ◌≡◌ {A = ℕ} 4 3 = cc in omega arith

still_differ : succ_term (plus_term zero_term zero_term) ≡ succ_term zero_term → ⊥
still_differ e = let n : ◌≡◌ {A = ℕ} 4 2 = cc in omega arith

module _ (one : OneRelation AboveInSums) (fine : IsWellSorted with_one) where
  no_first : (step : Step) (rest : List Step) → Closes AboveInSums with_one (report_by four_steps) 0 0 step rest → ⊥
  no_first = not_closed AboveInSums one with_one fine (report_by four_steps) accepted 0 claim 0 start refl (
    λ stays kept m p a. not_trivial (start ∷ []) 0 _ m refl sides_differ p,
    (
      λ stays kept m p a. (let r = by_itself one (start ∷ []) 0 start m refl refl p in
          not_by_itself stays made 0 m kept (omega arith) 0 r.0 r.1 r.2 r.3 a),
      (
        λ stays kept m p a. not_made (start ∷ []) 0 1 m (omega arith) p,
        (
          λ stays kept m p a. not_made (start ∷ []) 0 2 m (omega arith) p,
          (
            λ stays kept m p a. not_made (start ∷ []) 0 3 m (omega arith) p,
            (λ stays kept m p a. not_lemma (start ∷ []) 0 [] m p, tt),
          ),
        ),
      ),
    ),
  )

  no_second : (step : Step) (rest : List Step) → Closes AboveInSums with_one (report_by four_steps) 0 1 step rest → ⊥
  no_second = not_closed AboveInSums one with_one fine (report_by four_steps) accepted 0 claim 1 rewritten refl (
    λ stays kept m p a. not_trivial (start ∷ rewritten ∷ []) 1 _ m refl still_differ p,
    (
      λ stays kept m p a. not_start m p,
      (
        λ stays kept m p a. (let r = by_itself one (start ∷ rewritten ∷ []) 1 rewritten m refl refl p in
            not_by_itself stays made 1 m kept (omega arith) 0 r.0 r.1 r.2 r.3 a),
        (
          λ stays kept m p a. not_made (start ∷ rewritten ∷ []) 1 2 m (omega arith) p,
          (
            λ stays kept m p a. not_made (start ∷ rewritten ∷ []) 1 3 m (omega arith) p,
            (λ stays kept m p a. not_lemma (start ∷ rewritten ∷ []) 1 [] m p, tt),
          ),
        ),
      ),
    ),
  )

  no_first_left :
      (step : Step) (rest : List Step) → Closes AboveInSums with_one (report_by three_steps) 0 0 step rest → ⊥
  no_first_left =
      not_closed AboveInSums one with_one fine (report_by three_steps) (accepted_cut one fine) 0 claim_three 0 start
      refl (
        λ stays kept m p a. not_trivial (start ∷ []) 0 _ m refl sides_differ p,
        (
          λ stays kept m p a. (let r = by_itself one (start ∷ []) 0 start m refl refl p in
              not_by_itself stays made_three 0 m kept (omega arith) 0 r.0 r.1 r.2 r.3 a),
          (
            λ stays kept m p a. not_made (start ∷ []) 0 1 m (omega arith) p,
            (
              λ stays kept m p a. not_made (start ∷ []) 0 2 m (omega arith) p,
              (λ stays kept m p a. not_lemma (start ∷ []) 0 [] m p, tt),
            ),
          ),
        ),
      )

  no_second_left :
      (step : Step) (rest : List Step) → Closes AboveInSums with_one (report_by three_steps) 0 1 step rest → ⊥
  no_second_left =
      not_closed AboveInSums one with_one fine (report_by three_steps) (accepted_cut one fine) 0 claim_three 1
      rewritten refl (
        λ stays kept m p a. not_trivial (start ∷ rewritten ∷ []) 1 _ m refl still_differ p,
        (
          λ stays kept m p a. not_start m p,
          (
            λ stays kept m p a. (let r = by_itself one (start ∷ rewritten ∷ []) 1 rewritten m refl refl p in
                not_by_itself stays made_three 1 m kept (omega arith) 0 r.0 r.1 r.2 r.3 a),
            (
              λ stays kept m p a. not_made (start ∷ rewritten ∷ []) 1 2 m (omega arith) p,
              (λ stays kept m p a. not_lemma (start ∷ rewritten ∷ []) 1 [] m p, tt),
            ),
          ),
        ),
      )

  -- no node of the report that is left could be closed
  none_left : (number i : ℕ) → CouldBeClosed AboveInSums with_one (report_by three_steps) number i → ⊥
  none_left (suc number) i (h, c) = let q : None ≡ Some (proves h.claim.goal.name h.claim.steps) = h.claim.is in cc
  none_left zero zero (h, (step, rest, c)) = no_first_left step rest c
  none_left zero (suc zero) (h, (step, rest, c)) = no_second_left step rest c
  none_left zero (suc (suc i)) (h, c) =
      no_children i (subst (λ ms. slice_get ms (suc (suc i)) ≡ Some h.children)
      (made_same AboveInSums one with_one fine (report_by three_steps) 0 0 refl h.claim claim_three) h.at)
    where
      no_children : (i : ℕ) → slice_get made_three (suc (suc i)) ≡ Some h.children → ⊥
      no_children zero at =
          let q : Some (makes_clauses []) ≡ Some h.children = at in
          let e : makes_clauses [] ≡ h.children = cc in
          h.some (ap (λ (x : Children). x.clauses) (sym e))
      no_children (suc i) at = let q : None ≡ Some h.children = at in cc

  none_before : (i : ℕ) → i < 2 → CouldBeClosed AboveInSums with_one (report_by four_steps) 0 i → ⊥
  none_before zero l (h, (step, rest, c)) = no_first step rest c
  none_before (suc zero) l (h, (step, rest, c)) = no_second step rest c
  none_before (suc (suc i)) l h = omega (arith, l)

  pub leads : LeadsTo AboveInSums with_one (report_by four_steps) (report_by three_steps)
  leads = cut (report_by three_steps) (record {
    number = 0;
    node = 2;
    step = Trivial 1;
    rest = three_steps;
    children =
        record {
          claim = claim;
          children = makes_clauses (less (claims [] (equals zero_term zero_term)) ∷ []);
          at =
              refl;
          some = λ e. (let q : less (claims [] (equals zero_term zero_term)) ∷ [] ≡ [] = e in cc);
        };
    closes = closes one fine;
    first_claim = λ n i l h. omega (arith, l);
    first_node = none_before;
    before = [];
    after = Subsume 0 [] ∷ Subsume 1 [] ∷ Subsume 2 [] ∷ Subsume 3 [] ∷ ByLemma (codes "one") [] ∷ [];
    parted = refl;
    first_step = tt;
    is = refl;
  }) (done none_left)

  pub trims : Trims AboveInSums with_one (report_by four_steps) (report_by three_steps)
  trims = cuts_trim AboveInSums with_one (report_by four_steps) (report_by three_steps) accepted leads
