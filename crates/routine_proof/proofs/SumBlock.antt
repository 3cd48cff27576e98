-- The routine block of plus(succ(zero), zero) = succ(zero), and that it is the first proof.
use Rattle.std.proofs.Common.{◌≡◌, ◌≢◌, ℕ, zero, suc, ◌+◌, ◌≤◌, List, [], ◌∷◌, true, Some, None, inl, inr, length}
use Rattle.std.proofs.Common.{refl, ap, sym, ◌∙◌, subst, lit<, lit≤, arith}
use Rattle.std.specs.Prelude.{slice_get}
use Rattle.std.proofs.lemmas.Fmt.{decimal_digit}
use Rattle.term_core.specs.Tree.{Tree, Trees, var, app, none, some, instance}
use Rattle.term_core.specs.Contexts.{Context, hole, under, plug}
use Rattle.spec_core.specs.declared.records.Equation.{Equation}
use Rattle.spec_core.specs.declared.records.Rule.{Rule}
use Rattle.spec_core.specs.Naturals.{naturals, naturals_sig, zero_term, succ_term, plus_term, plus_zero_rule}
use Rattle.spec_core.specs.Naturals.{plus_succ_rule}
use Rattle.spec_core.specs.WellSorted.{IsWellSorted}
use Rattle.sample_specs.specs.SumOrder.{AboveInSums}
use Rattle.clause_core.specs.declared.answers.Children.{Children}
use Rattle.clause_core.specs.declared.answers.Why.TheVariants.{NoSuchPlace, NoSuchRule, DoesNotFit}
use Rattle.clause_core.specs.declared.clauses.Clause.{Clause}
use Rattle.clause_core.specs.declared.steps.Place.{Place}
use Rattle.clause_core.specs.declared.steps.Step.{Step}
use Rattle.clause_core.specs.declared.steps.Step.TheVariants.{Trivial, Clash, Rule as by_rule}
use Rattle.clause_core.specs.Clashes.{Clash as Clashing}
use Rattle.clause_core.specs.ClauseExamples.{equals, claims}
use Rattle.clause_core.specs.ExampleClauses.{conclusion_side, less}
use Rattle.clause_core.specs.Limits.{IsWithin}
use Rattle.clause_core.specs.NumberedEquations.{EquationAt}
use Rattle.clause_core.specs.Places.{TermAt, path_of}
use Rattle.clause_core.specs.RuleInstances.{RuleAt, IsInstance}
use Rattle.clause_core.specs.StepLaws.{OneAnswer}
use Rattle.clause_core.specs.Tidied.{goal_clause}
use Rattle.clause_core.proofs.OnePlace.{equation_one, term_one}
use Rattle.acceptance.specs.Strict.{AllAreAllowed}
use Rattle.acceptance.proofs.Links.{allowed_by, allowed_past}
use Rattle.routine_proof.specs.declared.moves.Move.{Move}
use Rattle.routine_proof.specs.Blocks.{IsChosen, root}
use Rattle.routine_proof.specs.Candidates.{Candidate, Gives, each, nothing}
use Rattle.routine_proof.specs.Entries.{lemma_goals, by_fitting, by_rewriting}
use Rattle.routine_proof.specs.Examples.{sum_goal, sum_steps}
use Rattle.routine_proof.specs.First.{HasNone}
use Rattle.routine_proof.specs.Routine.{no_split, candidates, claim_bytes, makes, IsRoutine, IsProof, IsFirstProof}
use Rattle.routine_proof.specs.Ways.{Node}
use Rattle.routine_proof.proofs.OneProofs.{routine_one}
use Rattle.routine_proof.proofs.StandingSteps.{is_met}

-- The nodes.

abbrev sum_of : Tree → Equation
sum_of t = equals t (succ_term zero_term)

abbrev first_left : Tree
first_left = plus_term (succ_term zero_term) zero_term

abbrev second_left : Tree
second_left = succ_term (plus_term zero_term zero_term)

abbrev alone : Tree → Clause
alone t = claims [] (sum_of t)

abbrev first_node : Node
first_node = root (alone first_left)

abbrev second_node : Node
second_node = record {
  clause = alone second_left;
  way = (0, by_rule (conclusion_side true []) 2) ∷ [];
}

abbrev third_node : Node
third_node = record {
  clause = alone (succ_term zero_term);
  way =
      (0, by_rule (conclusion_side true []) 2)
      ∷ (1, by_rule (conclusion_side true (1 ∷ [])) 1) ∷ [];
}

-- What doesn't happen at a node.

abbrev only : (e : Equation) → EquationAt (e ∷ []) 1
only e = record { before = []; equation = e; after = []; is = refl; place = refl }

is_only : (e : Equation) (at : EquationAt (e ∷ []) 1) → at.equation ≡ e
is_only e at = (equation_one (e ∷ []) 1 at (only e)).1

abbrev says : List Clause → Clause → Step → Children → Type 0
says = makes AboveInSums naturals []

not_trivial :
    (nodes : List Clause) (e : Equation) → (e.left ≡ e.right → ⊥) →
    (m : Children) → says nodes (claims [] e) (Trivial 1) m → ⊥
not_trivial nodes e differ m p =
    let at = is_met m NoSuchPlace p in
    let same = is_met m DoesNotFit at.1 in
    differ (subst (λ (d : Equation). d.left ≡ d.right) (is_only e at.0) same.0)

not_clash :
    (nodes : List Clause) (e : Equation) → (Clashing naturals_sig e.left e.right → ⊥) →
    (m : Children) → says nodes (claims [] e) (Clash 1) m → ⊥
not_clash nodes e never m p =
    let at = is_met m NoSuchPlace p in
    let clash = is_met m DoesNotFit at.1 in
    never (subst (λ (d : Equation). Clashing naturals_sig d.left d.right) (is_only e at.0) clash.0)

-- each rule is one of plus
left_of :
    (k : ℕ) (rule : Rule) → slice_get naturals.rules k ≡ Some rule →
    (s : Tree) × (t : Tree) × (rule.left ≡ plus_term s t)
left_of zero rule at =
    let q : Some plus_zero_rule ≡ Some rule = at in
    let e : plus_zero_rule ≡ rule = cc in
    (_, _, ap (λ (r : Rule). r.left) (sym e))
left_of (suc zero) rule at =
    let q : Some plus_succ_rule ≡ Some rule = at in
    let e : plus_succ_rule ≡ rule = cc in
    (_, _, ap (λ (r : Rule). r.left) (sym e))
left_of (suc (suc k)) rule at = absurd (let q : None ≡ Some rule = at in cc)

-- so a term of another symbol isn't an instance of its left side
no_instance :
    (n : ℕ) (r : RuleAt naturals n) (f : ℕ) (ts : Trees) →
    f ≢ 4 → IsInstance r.rule (app f ts) → ⊥
no_instance n r f ts other m =
    let l = left_of r.place r.rule r.is in
    let e : instance m.terms (plus_term l.0 l.1) ≡ app f ts =
    ap (λ t. instance m.terms t) (sym l.2) ∙ m.is in
    other (let h : 4 ≡ f = cc in sym h)

no_rule :
    (nodes : List Clause) (c : Clause) (place : Place) (at : TermAt c place) (f : ℕ) (ts : Trees) →
    at.term ≡ app f ts → f ≢ 4 → (n : ℕ) (m : Children) → says nodes c (by_rule place n) m → ⊥
no_rule nodes c place at f ts is other n m p =
    let there = is_met m NoSuchPlace p in
    let rule = is_met m NoSuchRule there.1 in
    let fits = is_met m DoesNotFit rule.1 in
    let same : there.0.term ≡ app f ts = (term_one c place there.0 at).0 ∙ is in
    no_instance n rule.0 f ts other (subst (λ t. IsInstance rule.0.rule t) same fits.0.0)

-- the first rule is the one for zero
first_rule :
    (k : ℕ) (rule : Rule) →
    1 ≡ k + 1 → slice_get naturals.rules k ≡ Some rule → plus_zero_rule ≡ rule
first_rule zero rule n at = let q : Some plus_zero_rule ≡ Some rule = at in cc
first_rule (suc k) rule n at = absurd (omega arith)

not_zero : (u : Tree) → plus_term zero_term u ≡ first_left → ⊥
not_zero u e =
    let k : ◌≡◌ {A = ℕ} 2 3 = cc in
    omega arith

no_first_rule :
    (nodes : List Clause) (m : Children) →
    says nodes (alone first_left) (by_rule (conclusion_side true []) 1) m → ⊥
no_first_rule nodes m p =
    let there = is_met m NoSuchPlace p in
    let rule = is_met m NoSuchRule there.1 in
    let fits = is_met m DoesNotFit rule.1 in
    let e = first_rule rule.0.place rule.0.rule rule.0.counts rule.0.is in
    let at : TermAt (alone first_left) (conclusion_side true []) = record {
      at = only (sum_of first_left);
      round = hole;
      term = first_left;
      is = refl;
      path = refl;
    } in
    let same : there.0.term ≡ first_left =
    (term_one (alone first_left) (conclusion_side true []) there.0 at).0 in
    let i : IsInstance plus_zero_rule there.0.term =
    subst (λ (r : Rule). IsInstance r there.0.term) (sym e) fits.0.0 in
    not_zero (instance i.terms (var 0)) (i.is ∙ same)

-- a candidate of one step has no result if the step isn't defined
none_of :
    (here : Step → Children → Type 0) (step : Step) → ((m : Children) → here step m → ⊥) →
    HasNone (Gives here)
    (record {
      question = record { variables = 0; patterns = []; terms = [] };
      step = λ list. step;
      asks = nothing;
    })
none_of here step never r g = never r.made (subst (λ s. here s r.made) g.step g.defined)

-- what a candidate of one step gives if the table defines the step
its_move :
    (here : Step → Children → Type 0) (move : Move) → here move.step move.made →
    Gives here
    (record {
      question = record { variables = 0; patterns = []; terms = [] };
      step = λ list. move.step;
      asks = nothing;
    })
    move
its_move here move says =
    record { list = []; answers = (refl, refl); step = refl; defined = says; meets = tt }

-- The steps of the nodes, with what they make.

abbrev makes_one_clause : Tree → Children
makes_one_clause t = record { clauses = less (alone t) ∷ []; refs = [] }

abbrev first_move : Move
first_move = record {
  step = by_rule (conclusion_side true []) 2;
  made = makes_one_clause second_left;
}

abbrev second_move : Move
second_move = record {
  step = by_rule (conclusion_side true (1 ∷ [])) 1;
  made = makes_one_clause (succ_term zero_term);
}

abbrev third_move : Move
third_move = record { step = Trivial 1; made = record { clauses = []; refs = [] } }

-- a term in the left side of an equation that stands alone
abbrev at_left :
    (t : Tree) (round : Context) (u : Tree) (path : List ℕ) → t ≡ plug round u →
    path ≡ path_of round → TermAt (alone t) (conclusion_side true path)
at_left t round u path is ways =
    record { at = only (sum_of t); round = round; term = u; is = is; path = ways }

first_says :
    says (alone first_left ∷ []) (alone first_left) first_move.step first_move.made
first_says =
    let small : IsWithin (alone second_left) =
    record { equations = omega arith; depth = omega arith; size = omega arith } in
    inl (
      at_left first_left hole first_left [] refl refl,
      inl (
        record { place = 1; rule = plus_succ_rule; counts = refl; is = refl },
        inl (
          (record { terms = zero_term ∷ zero_term ∷ []; long = refl; is = refl }, tt),
          (
            _,
            ((refl, refl), tt),
            tt,
            inl (((small, tt), omega arith), refl),
          ),
        ),
      ),
    )

second_says :
    says (alone first_left ∷ alone second_left ∷ []) (alone second_left)
    second_move.step second_move.made
second_says =
    let small : IsWithin (alone (succ_term zero_term)) =
    record { equations = omega arith; depth = omega arith; size = omega arith } in
    let sum = plus_term zero_term zero_term in
    inl (
      at_left second_left (under 3 none hole none) sum (1 ∷ []) refl refl,
      inl (
        record { place = 0; rule = plus_zero_rule; counts = refl; is = refl },
        inl (
          (record { terms = zero_term ∷ []; long = refl; is = refl }, tt),
          (
            _,
            ((refl, refl), tt),
            tt,
            inl (((small, tt), omega arith), refl),
          ),
        ),
      ),
    )

third_says :
    says (alone first_left ∷ alone second_left ∷ alone (succ_term zero_term) ∷ [])
    (alone (succ_term zero_term)) third_move.step third_move.made
third_says =
    inl (
      only (sum_of (succ_term zero_term)),
      inl (refl, (_, tt, tt, inl ((tt, omega arith), refl))),
    )

abbrev list : ℕ → List Node → Node → List Candidate
list = candidates naturals (lemma_goals naturals []) no_split

first_chosen : IsChosen says list (first_node ∷ []) 0 first_node first_move
unfolding each by_fitting by_rewriting
first_chosen =
    let c = alone first_left in
    let here = says (c ∷ []) c in
    let deep : TermAt c (conclusion_side true (1 ∷ 1 ∷ [])) =
    at_left first_left (under 4 none (under 3 none hole none) (some zero_term none)) zero_term
    (1 ∷ 1 ∷ []) refl refl in
    let left : TermAt c (conclusion_side true (1 ∷ [])) =
    at_left first_left (under 4 none hole (some zero_term none)) (succ_term zero_term) (1 ∷ [])
    refl refl in
    let right : TermAt c (conclusion_side true (2 ∷ [])) =
    at_left first_left (under 4 (some (succ_term zero_term) none) hole none) zero_term (2 ∷ [])
    refl refl in
    let differ : first_left ≡ succ_term zero_term → ⊥ =
    λ e. (let k : ◌≡◌ {A = ℕ} 4 3 = cc in omega arith) in
    let no_zero : ◌≢◌ {A = ℕ} 2 4 = λ e. omega arith in
    let no_succ : ◌≢◌ {A = ℕ} 3 4 = λ e. omega arith in
    inr (
      none_of here _ (not_trivial (c ∷ []) (sum_of first_left) differ),
      inr (
        none_of here _ (not_clash (c ∷ []) (sum_of first_left) (λ h. omega (arith, h.0))),
        inr (
          none_of here _ (no_rule (c ∷ []) c _ deep 2 none refl no_zero 1),
          inr (
            none_of here _ (no_rule (c ∷ []) c _ deep 2 none refl no_zero 2),
            inr (
              none_of here _ (no_rule (c ∷ []) c _ left 3 _ refl no_succ 1),
              inr (
                none_of here _ (no_rule (c ∷ []) c _ left 3 _ refl no_succ 2),
                inr (
                  none_of here _ (no_rule (c ∷ []) c _ right 2 none refl no_zero 1),
                  inr (
                    none_of here _ (no_rule (c ∷ []) c _ right 2 none refl no_zero 2),
                    inr (
                      none_of here _ (no_first_rule (c ∷ [])),
                      inl (its_move here first_move first_says),
                    ),
                  ),
                ),
              ),
            ),
          ),
        ),
      ),
    )

second_chosen : IsChosen says list (first_node ∷ second_node ∷ []) 1 second_node second_move
unfolding each by_fitting by_rewriting
second_chosen =
    let c = alone second_left in
    let nodes = alone first_left ∷ c ∷ [] in
    let here = says nodes c in
    let left : TermAt c (conclusion_side true (1 ∷ 1 ∷ [])) =
    at_left second_left (under 3 none (under 4 none hole (some zero_term none)) none) zero_term
    (1 ∷ 1 ∷ []) refl refl in
    let right : TermAt c (conclusion_side true (1 ∷ 2 ∷ [])) =
    at_left second_left (under 3 none (under 4 (some zero_term none) hole none) none) zero_term
    (1 ∷ 2 ∷ []) refl refl in
    let no_zero : ◌≢◌ {A = ℕ} 2 4 = λ e. omega arith in
    let differ : second_left ≡ succ_term zero_term → ⊥ =
    λ e. (let k : ◌≡◌ {A = ℕ} 4 2 = cc in omega arith) in
    inr (
      none_of here _ (not_trivial nodes (sum_of second_left) differ),
      inr (
        none_of here _ (not_clash nodes (sum_of second_left) (λ h. h.2 refl)),
        inr (
          none_of here _ (no_rule nodes c _ left 2 none refl no_zero 1),
          inr (
            none_of here _ (no_rule nodes c _ left 2 none refl no_zero 2),
            inr (
              none_of here _ (no_rule nodes c _ right 2 none refl no_zero 1),
              inr (
                none_of here _ (no_rule nodes c _ right 2 none refl no_zero 2),
                inl (its_move here second_move second_says),
              ),
            ),
          ),
        ),
      ),
    )

third_chosen :
    IsChosen says list (first_node ∷ second_node ∷ third_node ∷ []) 2 third_node third_move
unfolding each by_fitting by_rewriting
third_chosen =
    let nodes = alone first_left ∷ alone second_left ∷ third_node.clause ∷ [] in
    inl (its_move (says nodes third_node.clause) third_move third_says)

pub block : IsRoutine AboveInSums naturals [] (goal_clause sum_goal) no_split sum_steps
block = (
  first_node,
  first_move,
  refl,
  first_chosen,
  refl,
  (
    second_node,
    second_move,
    refl,
    second_chosen,
    refl,
    (third_node, third_move, refl, third_chosen, refl, refl),
  ),
)

abbrev made : List Children
made = first_move.made ∷ second_move.made ∷ third_move.made ∷ []

allowed : AllAreAllowed made
allowed zero = allowed_by made 0 _ refl (inl refl, tt) tt
allowed (suc zero) = allowed_by made 1 _ refl (inl refl, tt) tt
allowed (suc (suc zero)) = allowed_by made 2 _ refl tt tt
allowed (suc (suc (suc k))) = allowed_past made (suc (suc (suc k))) refl

-- its text has few bytes
short : length (claim_bytes naturals sum_goal sum_steps) ≤ 300000
short =
    let one = decimal_digit 1 (lit< tt) in
    let two = decimal_digit 2 (lit< tt) in
    let three = decimal_digit 3 (lit< tt) in
    rw (three, two, one) (lit≤ tt)

pub first_proof : IsFirstProof AboveInSums naturals [] sum_goal 3 (Some sum_steps)
first_proof = inl (record {
  routine = block;
  few = omega arith;
  short = short;
  proves = record {
    within = record { equations = omega arith; depth = omega arith; size = omega arith };
    made = made;
    makes = (
      record { clause = alone first_left; is = refl; says = first_says },
      (
        record { clause = alone second_left; is = refl; says = second_says },
        (record { clause = alone (succ_term zero_term); is = refl; says = third_says }, tt),
      ),
    );
    finished = refl;
    allowed = allowed;
  };
})

pub too_few_nodes :
    OneAnswer AboveInSums → IsWellSorted naturals → IsFirstProof AboveInSums naturals [] sum_goal 2 None
too_few_nodes one fine = (never, tt)
  where
    never : (steps : List Step) → IsProof AboveInSums naturals [] sum_goal 2 no_split steps → ⊥
    never steps p =
        let same : steps ≡ sum_steps =
        routine_one AboveInSums one naturals fine [] (goal_clause sum_goal) no_split steps sum_steps
        p.routine block in
        let long : length steps ≡ 3 = ap (λ (ss : List Step). length ss) same in
        omega (arith, long, p.few)
