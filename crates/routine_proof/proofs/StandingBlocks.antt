-- The steps of a routine block may appear in a report.
use Rattle.std.proofs.Common.{◌≡◌, ℕ, zero, suc, ◌^◌, ◌<◌, List, [], ◌∷◌, ◌++◌, Bool, Some, None, inl, inr, map}
use Rattle.std.proofs.Common.{length, refl, sym, subst}
use Rattle.std.specs.Prelude.{Contains, slice_get}
use Rattle.std.specs.List.{AllByRecursion}
use Rattle.term_core.specs.Tree.{Tree}
use Rattle.term_core.proofs.Items.{all_append, all_at}
use Rattle.spec_core.specs.declared.records.Goal.{Goal}
use Rattle.spec_core.specs.declared.records.Spec.{Spec}
use Rattle.spec_core.specs.declared.records.VarInfo.{VarInfo}
use Rattle.spec_core.specs.Sig.{Sig, IsSort}
use Rattle.spec_core.specs.WellSorted.{IsWellSorted, GoalIsSorted, sorts_of}
use Rattle.clause_core.specs.declared.answers.Child.{Child}
use Rattle.clause_core.specs.declared.answers.Children.{Children}
use Rattle.clause_core.specs.declared.clauses.Clause.{Clause}
use Rattle.clause_core.specs.declared.steps.Step.{Step}
use Rattle.clause_core.specs.ClauseLaws.{TidyingLaws}
use Rattle.clause_core.specs.Clauses.{ClauseIsSorted}
use Rattle.clause_core.specs.Tidied.{written_clause, goal_clause}
use Rattle.descent.specs.SortedChildren.{IsNode, ChildrenAreSorted}
use Rattle.proof_script.specs.Standing.{StepStands}
use Rattle.clause_places.specs.Spots.{Spot}
use Rattle.fitting_lists.specs.Questions.{Question}
use Rattle.fitting_lists.specs.Fitting.{fittings, rewritable, rewriting}
use Rattle.routine_proof.specs.declared.moves.Move.{Move}
use Rattle.routine_proof.specs.Blocks.{clauses, Runs, root}
use Rattle.routine_proof.specs.Candidates.{Candidate, Asks, all_less, Gives}
use Rattle.routine_proof.specs.Entries.{lemma_goals, by_fitting, by_rewriting}
use Rattle.routine_proof.specs.First.{FirstIs}
use Rattle.routine_proof.specs.Routine.{Start, no_split, split, candidates, makes}
use Rattle.routine_proof.specs.Standing.{NamesStand, RoutineBlocksStand}
use Rattle.routine_proof.specs.Ways.{Node, born}
use Rattle.routine_proof.proofs.Blocks.{chosen_says}
use Rattle.routine_proof.proofs.CandidateLists.{IsListed, AreAll, HoldsOfKinds, cover_all, entries_all}
use Rattle.routine_proof.proofs.StandingSteps.{step_stands}

-- whatever list answers, the candidate's step is one that the list has
abbrev AllListed : Sig → Candidate → Type 0
AllListed sig c = (list : List Tree) → IsListed sig (c.step list)

all_asked :
    (sig : Sig) (qs : List Question) (asks : Asks) (step : List Tree → Step) →
    ((list : List Tree) → IsListed sig (step list)) →
    AllByRecursion (AllListed sig)
    (map (λ (q : Question). record { question = q; step = step; asks = asks }) qs)
all_asked sig [] asks step h = tt
all_asked sig (q ∷ qs) asks step h = (h, all_asked sig qs asks step h)

fits_listed :
    (sig : Sig) (c referred : Clause) (asks : Asks) (step : List Tree → Step) →
    ((list : List Tree) → IsListed sig (step list)) →
    AreAll (AllListed sig) (by_fitting c referred asks step)
unfolding by_fitting
fits_listed sig c referred asks step h =
    record { all = all_asked sig (fittings c referred) asks step h }

rewrites_listed :
    (sig : Sig) (referred : Clause) (step : List Tree → Bool → Step) (spot : Spot) →
    ((list : List Tree) (left : Bool) → IsListed sig (step list left)) →
    AreAll (AllListed sig) (by_rewriting referred step spot)
unfolding by_rewriting
rewrites_listed sig referred step spot h = record { all = go (rewritable referred) }
  where
    go :
        (sides : List (Bool × Tree)) →
        AllByRecursion (AllListed sig)
        (map
        (λ (s : Bool × Tree). record {
          question = rewriting referred s.1 spot.term;
          step = λ list. step list s.0;
          asks = all_less;
        })
        sides)
    go [] = tt
    go (s ∷ sides) = (λ list. h list s.0, go sides)

kinds_listed : (sig : Sig) → HoldsOfKinds sig (AllListed sig)
kinds_listed sig = record {
  single = λ step listed. record { all = (λ list. listed, tt) };
  fits = λ here referred asks step h. fits_listed sig here referred asks step h;
  rewrites = λ referred step spot h. rewrites_listed sig referred step spot h;
}

candidates_listed :
    (spec : Spec) (goals : List Goal) (start : Start) (k : ℕ) (nodes : List Node) (node : Node) →
    AreAll (AllListed spec.sig) (candidates spec goals start k nodes node)
candidates_listed spec goals (split v) zero nodes node =
    cover_all spec (AllListed spec.sig) (kinds_listed spec.sig) node.clause v
candidates_listed spec goals (split v) (suc k) nodes node =
    entries_all spec (AllListed spec.sig) (kinds_listed spec.sig) goals nodes node
candidates_listed spec goals no_split k nodes node =
    entries_all spec (AllListed spec.sig) (kinds_listed spec.sig) goals nodes node

-- so the step of a chosen move is such
chosen_listed :
    (sig : Sig) (says : Step → Children → Type 0) (cs : List Candidate) (move : Move) →
    AllByRecursion (AllListed sig) cs → FirstIs (Gives says) cs move → IsListed sig move.step
chosen_listed sig says [] move h p = absurd p
chosen_listed sig says (c ∷ cs) move h (inl p) =
    subst (λ s. IsListed sig s) (sym p.step) (h.0 p.list)
chosen_listed sig says (c ∷ cs) move h (inr p) = chosen_listed sig says cs move h.1 p.1

abbrev AreNodes : Sig → List Node → Type 0
AreNodes sig nodes = AllByRecursion (λ (n : Node). IsNode sig n.clause) nodes

-- the node whose clause is at a place of the clauses
clause_of_node :
    (nodes : List Node) (j : ℕ) (d : Clause) → slice_get (clauses nodes) j ≡ Some d →
    (n : Node) × (slice_get nodes j ≡ Some n) × (n.clause ≡ d)
clause_of_node [] j d at = absurd (let q : None ≡ Some d = at in cc)
clause_of_node (n ∷ nodes) zero d at =
    let q : Some n.clause ≡ Some d = at in
    let e : n.clause ≡ d = cc in
    (n, refl, e)
clause_of_node (n ∷ nodes) (suc j) d at = clause_of_node nodes j d at

clauses_are_nodes :
    (sig : Sig) (nodes : List Node) → AreNodes sig nodes →
    (j : ℕ) (d : Clause) → slice_get (clauses nodes) j ≡ Some d → IsNode sig d
clauses_are_nodes sig nodes h j d at =
    let n = clause_of_node nodes j d at in
    subst (λ c. IsNode sig c) n.2 (all_at (λ (n : Node). IsNode sig n.clause) nodes h j n.0 n.1)

born_are_nodes :
    (sig : Sig) (k : ℕ) (node : Node) (step : Step) (ds : List Child) →
    ((i : ℕ) (d : Child) → slice_get ds i ≡ Some d → IsNode sig d.clause) →
    AreNodes sig
    (map (λ (d : Child). record { clause = d.clause; way = node.way ++ (k, step) ∷ [] }) ds)
born_are_nodes sig k node step [] h = tt
born_are_nodes sig k node step (d ∷ ds) h =
    (h 0 d refl, born_are_nodes sig k node step ds (λ i e at. h (suc i) e at))

module _
    (above : Tree → Tree → Type 0) (tidying : TidyingLaws) (keep : ChildrenAreSorted above)
    (spec : Spec) (fine : IsWellSorted spec) (names : NamesStand spec)
    (rules : length spec.rules < 10 ^ 9) (lemmas : List ℕ) (start : Start)
  where
    run_stands :
        (nodes : List Node) (k : ℕ) (steps : List Step) → AreNodes spec.sig nodes →
        Runs (makes above spec lemmas) (candidates spec (lemma_goals spec lemmas) start) nodes k
        steps →
        AllByRecursion (StepStands spec.sig) steps
    run_stands nodes k [] are r = tt
    run_stands nodes k (step ∷ steps) are r =
        let node = r.0 in
        let move = r.1 in
        let own = all_at (λ (n : Node). IsNode spec.sig n.clause) nodes are k node r.2 in
        let here = clauses_are_nodes spec.sig nodes are in
        let list = candidates spec (lemma_goals spec lemmas) start k nodes node in
        let says = makes above spec lemmas (clauses nodes) node.clause in
        let made = chosen_says says list move r.3 in
        let listed =
        chosen_listed spec.sig says list move
        (candidates_listed spec (lemma_goals spec lemmas) start k nodes node).all r.3 in
        let stands =
        step_stands spec fine names rules node.clause own above (Contains lemmas)
        (λ d. tidying.is_tidied d) (clauses nodes) here move.step move.made listed made in
        let kids =
        keep move.step spec lemmas (clauses nodes) node.clause move.made fine
        (λ j d at. (here j d at).sorted) own.sorted made in
        let more =
        all_append (λ (n : Node). IsNode spec.sig n.clause) nodes (born k node step move.made) are
        (born_are_nodes spec.sig k node step move.made.clauses kids) in (
          subst (λ s. StepStands spec.sig s) r.4 stands,
          run_stands (nodes ++ born k node step move.made) (suc k) steps more r.5,
        )

sorts_in_range :
    (sig : Sig) (vars : List VarInfo) → AllByRecursion (λ (v : VarInfo). IsSort sig v.sort) vars →
    AllByRecursion (IsSort sig) (sorts_of vars)
sorts_in_range sig [] h = tt
sorts_in_range sig (v ∷ vars) h = (h.0, sorts_in_range sig vars h.1)

written_sorted :
    (spec : Spec) (goal : Goal) → GoalIsSorted spec.sig goal →
    ClauseIsSorted spec.sig (written_clause goal)
written_sorted spec goal sorted = record {
  variables = sorts_in_range spec.sig goal.vars sorted.variables;
  premises = sorted.premises;
  conclusions = sorted.conclusions;
}

pub blocks_stand :
    (above : Tree → Tree → Type 0) → TidyingLaws → ChildrenAreSorted above →
    RoutineBlocksStand above
blocks_stand above tidying keep spec lemmas goal start steps fine sorted names rules within run =
    let written = written_clause goal in
    let its_sorts = written_sorted spec goal sorted in
    let first : IsNode spec.sig (goal_clause goal) = record {
      sorted = tidying.keeps_sorts spec.sig written fine.signature its_sorts;
      is_tidied = tidying.is_tidied written;
      within = within;
    } in
    run_stands above tidying keep spec fine names rules lemmas start
    (root (goal_clause goal) ∷ []) 0 steps (first, tt) run
