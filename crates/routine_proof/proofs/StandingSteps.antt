-- A step of the list that makes something of a node may appear in a report.
use Rattle.std.proofs.Common.{◌≡◌, ◌⊎◌, ℕ, ◌^◌, ◌<◌, ◌≤◌, List, [], ◌∷◌, ◌++◌, Bool, true, false, Some, inl, inr}
use Rattle.std.proofs.Common.{length, refl, sym, subst, arith}
use Rattle.std.specs.Prelude.{Result, Ok, Err, slice_get}
use Rattle.std.specs.List.{AllByRecursion}
use Rattle.std.proofs.lemmas.Option.{slice_get_within}
use Rattle.term_core.specs.Tree.{Tree}
use Rattle.term_core.specs.declared.ids.SortId.{SortId}
use Rattle.term_core.proofs.Items.{all_at}
use Rattle.spec_core.specs.declared.records.Equation.{Equation}
use Rattle.spec_core.specs.declared.records.Goal.{Goal}
use Rattle.spec_core.specs.declared.records.Spec.{Spec}
use Rattle.spec_core.specs.Sig.{IsSort}
use Rattle.spec_core.specs.Sorts.{Sorted}
use Rattle.spec_core.specs.WellSorted.{IsWellSorted, EquationsAreSorted}
use Rattle.clause_core.specs.declared.answers.Children.{Children}
use Rattle.clause_core.specs.declared.answers.Why.{Why}
use Rattle.clause_core.specs.declared.answers.Why.TheVariants.{NoSuchNode, NoSuchPlace, NoSuchRule, NotProvedBefore}
use Rattle.clause_core.specs.declared.answers.Why.TheVariants.{NotCovering, Sort, Limit}
use Rattle.clause_core.specs.declared.clauses.Clause.{Clause}
use Rattle.clause_core.specs.declared.steps.Place.{Place}
use Rattle.clause_core.specs.declared.steps.Step.{Step}
use Rattle.clause_core.specs.declared.steps.Step.TheVariants.{Trivial, Match, Absurd, Subsume, ByLemma, Rule, Case}
use Rattle.clause_core.specs.declared.steps.Step.TheVariants.{Decompose, Clash, Drop, Solve, Cover, Generalize}
use Rattle.clause_core.specs.declared.steps.Step.TheVariants.{Context, Hyp, Lemma}
use Rattle.clause_core.specs.Limits.{IsWithin}
use Rattle.clause_core.specs.NumberedEquations.{EquationAt, equations}
use Rattle.clause_core.specs.Patterns.{AreCovering}
use Rattle.clause_core.specs.Places.{TermAt, side}
use Rattle.clause_core.specs.Referred.{NodeAt, UsableGoal, AreTermsFor, instance_here}
use Rattle.clause_core.specs.Rows.{Row, needs, makes}
use Rattle.clause_core.specs.RuleInstances.{RuleAt}
use Rattle.clause_core.specs.Says.{Says}
use Rattle.clause_core.specs.Covering.{ArePatternsFor}
use Rattle.clause_core.specs.Steps.{row_of}
use Rattle.clause_core.specs.Tidied.{IsTidied, tidied, written_clause}
use Rattle.clause_core.proofs.EquationPlaces.{number_within}
use Rattle.clause_core.proofs.PathsOfPlaces.{term_is_at}
use Rattle.descent.specs.SortedChildren.{IsNode}
use Rattle.proof_script.specs.Names.{IsReportName}
use Rattle.proof_script.specs.Standing.{IsShort, Between, PlaceStands, TermStands, PatternStands, StepStands}
use Rattle.routine_proof.specs.Standing.{NamesStand}
use Rattle.routine_proof.proofs.CandidateLists.{IsListed}
use Rattle.routine_proof.proofs.ShallowTerms.{few_variables, terms_shallow}
use Rattle.routine_proof.proofs.StandingTerms.{path_stands, terms_stand, test_set_stands}

-- if something is made, a condition is met
pub is_met :
    {A B : Type 0} (m : Children) (why : Why) →
    A ⊎ (B × (◌≡◌ {A = Result Children Why} (Ok m) (Err why))) → A
is_met m why (inl p) = p
is_met m why (inr (n, e)) =
    absurd (let q : ◌≡◌ {A = Result Children Why} (Ok m) (Err why) = e in cc)

-- if something is made there are few nodes
pub few_nodes :
    (above : Tree → Tree → Type 0) (c : Clause) (nodes : List Clause) (row : Row) (m : Children) →
    Says above c nodes row (Ok m) → length nodes ≤ 10000
few_nodes above c nodes (needs P why rest) m (inl (p, s)) = few_nodes above c nodes (rest p) m s
few_nodes above c nodes (needs P why rest) m (inr (n, e)) =
    absurd (let q : ◌≡◌ {A = Result Children Why} (Ok m) (Err why) = e in cc)
few_nodes above c nodes (makes cs refs) m (made, kids, rs, inl (few, e)) = omega (arith, few.1)
few_nodes above c nodes (makes cs refs) m (made, kids, rs, inr (n, e)) =
    absurd (let q : ◌≡◌ {A = Result Children Why} (Ok m) (Err Limit) = e in cc)

get_behind :
    (before : List Equation) (e : Equation) (after : List Equation) →
    slice_get (before ++ (e ∷ after)) (length before) ≡ Some e
get_behind [] e after = refl
get_behind (b ∷ before) e after = get_behind before e after

side_sorted :
    (spec : Spec) (c : Clause) (es : List Equation) (left : Bool) (n : ℕ) (at : EquationAt es n) →
    EquationsAreSorted spec.sig c.ctx es →
    (s : SortId) × Sorted spec.sig c.ctx (side left at.equation) s
side_sorted spec c es left n at sorted =
    let get : slice_get es (length at.before) ≡ Some at.equation =
    subst (λ l. slice_get l (length at.before) ≡ Some at.equation) (sym at.is)
    (get_behind at.before at.equation at.after) in
    let both = sorted (length at.before) at.equation get in
    of left both
  where
    of :
        (left : Bool) →
        (s : SortId) × Sorted spec.sig c.ctx at.equation.left s
        × Sorted spec.sig c.ctx at.equation.right s →
        (s : SortId) × Sorted spec.sig c.ctx (side left at.equation) s
    of true b = (b.0, b.1)
    of false b = (b.0, b.2)

module _
    (spec : Spec) (fine : IsWellSorted spec) (names : NamesStand spec)
    (rules : length spec.rules < 10 ^ 9) (c : Clause) (own : IsNode spec.sig c)
  where
    equations_few : (conclusion : Bool) → length (equations conclusion c) ≤ 64
    equations_few true = omega (arith, own.within.equations)
    equations_few false = omega (arith, own.within.equations)

    equations_sorted :
        (conclusion : Bool) → EquationsAreSorted spec.sig c.ctx (equations conclusion c)
    equations_sorted true = own.sorted.conclusions
    equations_sorted false = own.sorted.premises

    number_stands :
        (conclusion : Bool) (n : ℕ) → EquationAt (equations conclusion c) n → Between 1 9999 n
    number_stands conclusion n at =
        let w = number_within (equations conclusion c) n at in
        (w.0, omega (arith, w.1, equations_few conclusion))

    place_stands : (place : Place) → TermAt c place → PlaceStands place
    place_stands place at =
        let es = equations place.conclusion c in
        let sorted = equations_sorted place.conclusion in
        let s = side_sorted spec c es place.left place.number at.at sorted in
        record {
          number = number_stands place.conclusion place.number at.at;
          path =
              path_stands spec.sig c.ctx fine.arities place.path (side place.left at.at.equation)
              at.term s.0 (term_is_at c place at) s.1;
        }

    rule_stands : (n : ℕ) → RuleAt spec n → IsShort n
    rule_stands n at =
        let below = slice_get_within spec.rules at.place at.rule at.is in
        omega (arith, at.counts, below, rules)

    variables_short : IsShort (length c.ctx)
    variables_short = omega (arith, few_variables c own.is_tidied own.within)

    list_stands :
        (d : Clause) (terms : List Tree) → IsTidied d → AreTermsFor spec c d terms →
        IsWithin (instance_here spec c d terms) → AllByRecursion (TermStands spec.sig) terms
    list_stands d terms tidy sorted within =
        terms_stand spec.sig names.symbols c.ctx variables_short terms d.ctx sorted
        (terms_shallow spec.sig c.ctx d terms tidy sorted within)

    name_stands :
        (usable : ℕ → Type 0) (name : List ℕ) → UsableGoal spec usable name → IsReportName name
    name_stands usable name g =
        subst (λ n. IsReportName n) g.named
        (all_at (λ (g : Goal). IsReportName g.name) spec.goals names.goals g.number g.goal g.is)

    patterns_stand :
        (n : ℕ) (patterns : List Tree) → IsListed spec.sig (Cover (record { 0 = n }) patterns) →
        (are : ArePatternsFor spec.sig c n patterns) → AreCovering spec.sig are.sort patterns →
        IsShort n × (1 ≤ length patterns) × AllByRecursion (PatternStands spec.sig) patterns
    patterns_stand n patterns listed are covering =
        let below = slice_get_within c.ctx n are.sort are.is in
        let in_range = all_at (IsSort spec.sig) c.ctx own.sorted.variables n are.sort are.is in
        let value = fine.signature.small are.sort.0 in_range in
        let some_pattern = covering value.0 value.1 in
        let all = test_set_stands spec.sig names.symbols fine.arities listed.0 in (
          omega (arith, below, variables_short),
          omega (arith, some_pattern.2),
          subst (λ ps. AllByRecursion (PatternStands spec.sig) ps) (sym listed.1) all,
        )

    module _
        (above : Tree → Tree → Type 0) (usable : ℕ → Type 0)
        (tidy : (d : Clause) → IsTidied (tidied d)) (nodes : List Clause)
        (here : (j : ℕ) (d : Clause) → slice_get nodes j ≡ Some d → IsNode spec.sig d)
      where
        node_short :
            (step : Step) (m : Children) →
            Says above c nodes (row_of spec usable nodes c step) (Ok m) →
            (j : ℕ) → NodeAt nodes j → IsShort j
        node_short step m p j at =
            let below = slice_get_within nodes j at.clause at.is in
            let few = few_nodes above c nodes (row_of spec usable nodes c step) m p in
            omega (arith, below, few)

        pub step_stands :
            (step : Step) (m : Children) → IsListed spec.sig step →
            Says above c nodes (row_of spec usable nodes c step) (Ok m) → StepStands spec.sig step
        step_stands (Trivial k) m listed p = (number_stands true k (is_met m NoSuchPlace p).0, tt)
        step_stands (Match k j) m listed p =
            let at = (is_met m NoSuchPlace p).0 in
            (number_stands true k at.0, (number_stands false j at.1, tt))
        step_stands (Absurd j) m listed p = (number_stands false j (is_met m NoSuchPlace p).0, tt)
        step_stands (Subsume j terms) m listed p =
            let node = is_met m NoSuchNode p in
            let sorted = is_met m Sort node.1 in
            let within = is_met m Limit sorted.1 in
            let d = node.0.clause in
            let tidy_node = (here j d node.0.is).is_tidied in (
              node_short (Subsume j terms) m p j node.0,
              (list_stands d terms tidy_node sorted.0 within.0, tt),
            )
        step_stands (ByLemma name terms) m listed p =
            let lemma = is_met m NotProvedBefore p in
            let sorted = is_met m Sort lemma.1 in
            let within = is_met m Limit sorted.1 in
            let d = written_clause lemma.0.goal in (
              name_stands usable name lemma.0,
              (list_stands (tidied d) terms (tidy d) sorted.0 within.0, tt),
            )
        step_stands (Rule place n) m listed p =
            let at = is_met m NoSuchPlace p in
            let rule = is_met m NoSuchRule at.1 in
            (place_stands place at.0, (rule_stands n rule.0, tt))
        step_stands (Case place n) m listed p =
            let at = is_met m NoSuchPlace p in
            let rule = is_met m NoSuchRule at.1 in
            (place_stands place at.0, (rule_stands n rule.0, tt))
        step_stands (Decompose kind n) m listed p =
            (number_stands kind n (is_met m NoSuchPlace p).0, tt)
        step_stands (Clash k) m listed p = (number_stands true k (is_met m NoSuchPlace p).0, tt)
        step_stands (Drop kind n) m listed p = (number_stands kind n (is_met m NoSuchPlace p).0, tt)
        step_stands (Solve j) m listed p = (number_stands false j (is_met m NoSuchPlace p).0, tt)
        step_stands (Cover v patterns) m listed p =
            let are = is_met m Sort p in
            let covering = is_met m NotCovering are.1 in
            let s = patterns_stand v.0 patterns listed are.0 covering.0 in
            (s.0, ((s.1, s.2), tt))
        step_stands (Generalize t) m listed p = absurd listed
        step_stands (Context place j left) m listed p =
            let at = (is_met m NoSuchPlace p).0 in
            (place_stands place at.0, (number_stands false j at.1, (tt, tt)))
        step_stands (Hyp j terms place left) m listed p =
            let node = is_met m NoSuchNode p in
            let sorted = is_met m Sort node.1 in
            let within = is_met m Limit sorted.1 in
            let at = is_met m NoSuchPlace within.1 in
            let d = node.0.clause in
            let tidy_node = (here j d node.0.is).is_tidied in (
              node_short (Hyp j terms place left) m p j node.0,
              (
                list_stands d terms tidy_node sorted.0 within.0,
                (place_stands place at.0, (tt, tt)),
              ),
            )
        step_stands (Lemma name terms place left) m listed p =
            let lemma = is_met m NotProvedBefore p in
            let sorted = is_met m Sort lemma.1 in
            let within = is_met m Limit sorted.1 in
            let at = is_met m NoSuchPlace within.1 in
            let d = written_clause lemma.0.goal in (
              name_stands usable name lemma.0,
              (
                list_stands (tidied d) terms (tidy d) sorted.0 within.0,
                (place_stands place at.0, (tt, tt)),
              ),
            )
