-- A walk past the nodes at which the routine strategy stops: what it keeps from node to node.
use Rattle.std.proofs.Common.{◌≡◌, ℕ, zero, suc, ◌<◌, ◌≤◌, List, [], ◌∷◌, ◌++◌, Option, Some, refl, ap, sym}
use Rattle.std.proofs.Common.{◌∙◌, subst, arith, length, length-append}
use Rattle.std.specs.Prelude.{slice_get}
use Rattle.std.specs.List.{AllByRecursion}
use Rattle.std.proofs.lemmas.Option.{same_Some}
use Rattle.std.proofs.lemmas.List.Edits.{length-remove}
use Rattle.term_core.specs.Tree.{Tree}
use Rattle.term_core.proofs.Items.{all_append}
use Rattle.spec_core.specs.declared.records.Spec.{Spec}
use Rattle.spec_core.specs.WellSorted.{IsWellSorted}
use Rattle.clause_core.specs.declared.clauses.Clause.{Clause}
use Rattle.descent.specs.SortedChildren.{IsNode, ChildrenAreSorted}
use Rattle.acceptance.specs.Blocks.{clauses_of as clauses_made}
use Rattle.block_steps.proofs.Taking.{one_node}
use Rattle.inference_rules.specs.Answers.{clauses_of}
use Rattle.inference_rules.specs.Nodes.{AreNodes}
use Rattle.routine_proof.specs.declared.moves.Move.{Move}
use Rattle.routine_proof.specs.Blocks.{clauses}
use Rattle.routine_proof.specs.Candidates.{Candidate, Gives}
use Rattle.routine_proof.specs.Entries.{entries, lemma_goals}
use Rattle.routine_proof.specs.First.{IsFirst}
use Rattle.routine_proof.specs.Routine.{Start, no_split, split, candidates, makes}
use Rattle.routine_proof.specs.Ways.{Node}
use Rattle.proof_search.specs.declared.building.Building.{Building}
use Rattle.proof_search.specs.declared.setting.Setting.{Setting}
use Rattle.proof_search.specs.declared.stuck.Cause.{Cause}
use Rattle.proof_search.specs.declared.stuck.Cause.TheVariants.{NoStep, Covers}
use Rattle.proof_search.specs.declared.stuck.Stuck.{Stuck}
use Rattle.proof_search.specs.Building.{nodes_in, IsWhole, Begins, Takes, Passes, child_nodes}
use Rattle.proof_search.specs.FallingSides.{AreFalling, KeepsSides, LemmasFall}
use Rattle.proof_search.specs.Starting.{IsNext}
use Rattle.proof_search.specs.Stuck.{Reaches, begins, takes, passes, IsCause, IsStuckFrom}
use Rattle.proof_search.specs.Walks.{Tells, IsNextClause}
use Rattle.proof_search.proofs.BuiltNodes.{there, length_one, get_more, nodes_length, begins_whole, begins_nodes}
use Rattle.proof_search.proofs.BuiltNodes.{takes_whole, takes_nodes}
use Rattle.proof_search.proofs.ChosenNodes.{next_clause, clauses_after, nodes_after}
use Rattle.proof_search.proofs.PassedNodes.{passes_whole, passes_nodes, passes_are, passes_first}

module _ (above : Tree → Tree → Type 0) (spec : Spec) (lemmas : List ℕ) (start : Start) where
  -- after the first node the candidates are those of the list
  later_candidates :
      (from : Start) (k : ℕ) (nodes : List Node) (here : Node) → 0 < k →
      candidates spec (lemma_goals spec lemmas) from k nodes here
      ≡ entries spec (lemma_goals spec lemmas) nodes here
  later_candidates no_split k nodes here later = refl
  later_candidates (split v) zero nodes here later = absurd (omega (arith, later))
  later_candidates (split v) (suc k) nodes here later = refl

  -- the nodes so far are made from the start, and each node that is listed is stuck
  pub record IsWalk (goal : Clause) (b : Building) (stuck : List Stuck) : Type 0 where
    pub reached : length b.steps.items ≤ length b.block.nodes.items
    pub whole : IsWhole b
    pub nodes : AreNodes spec.sig (clauses_of b.block.nodes.items)
    pub made : Reaches above spec lemmas start goal (nodes_in b) (length b.steps.items)
    pub first : slice_get (clauses_of b.block.nodes.items) 0 ≡ Some goal
    pub sides : AreFalling above goal b.sides
    pub listed : AllByRecursion (IsStuckFrom above spec lemmas start goal) stuck

  module _ (goal : Clause) where
    abbrev Reached : List Node → ℕ → Type 0
    Reached nodes k = Reaches above spec lemmas start goal nodes k

    abbrev AreAll : List Stuck → Type 0
    AreAll stuck = AllByRecursion (IsStuckFrom above spec lemmas start goal) stuck

    pub walk_begins :
        (b : Building) (stuck : List Stuck) → IsNode spec.sig goal → Begins goal b → AreFalling above goal b.sides →
        stuck ≡ [] → IsWalk goal b stuck
    walk_begins b stuck node h falling none =
        let k : length b.steps.items ≡ 0 = ap length h.steps in
        let are : clauses_of b.block.nodes.items ≡ goal ∷ [] = ap clauses_of h.nodes in
        record {
          reached = omega (arith, k);
          whole = begins_whole goal b h;
          nodes = subst (AreNodes spec.sig) (sym are) (one_node spec.sig goal node);
          made =
              subst (λ (p : List Node × ℕ). Reached p.0 p.1)
              (λ i. (sym (begins_nodes goal b h) i, sym k i)) begins;
          first = ap (λ (cs : List Clause). slice_get cs 0) are;
          sides = falling;
          listed = subst AreAll (sym none) tt;
        }

    module _ (b : Building) (stuck : List Stuck) (walk : IsWalk goal b stuck) where
      pub walk_sides : (s : Setting) → LemmasFall above s → KeepsSides above s b
      walk_sides s falls = record {
        lemmas = falls;
        first = λ c at.
            subst (λ (d : Clause). AreFalling above d b.sides)
            (same_Some goal c (sym walk.first ∙ at)) walk.sides;
      }

      module _ (lt : length b.steps.items < length b.block.nodes.items) where
        abbrev next : ℕ
        next = length b.steps.items

        long : length (nodes_in b) ≡ length b.block.nodes.items
        long = nodes_length b walk.whole

        here : (node : Node) × (slice_get (nodes_in b) (length b.steps.items) ≡ Some node)
        here = there (nodes_in b) (length b.steps.items) (omega (arith, lt, long))

        abbrev Says : List Candidate → Option Move → Type 0
        Says list found =
            IsFirst (Gives (makes above spec lemmas (clauses (nodes_in b)) here.0.clause)) list found

        abbrev list : List Candidate
        list = entries spec (lemma_goals spec lemmas) (nodes_in b) here.0

        -- the node is stuck for the cause
        cause_is :
            (found : Option Move) → IsNext above spec lemmas start b found → 0 < next →
            (cause : Cause) → Tells found cause →
            IsCause above spec lemmas (nodes_in b) here.0 cause
        cause_is found chosen later cause tells =
            by cause tells
            (subst (λ (l : List Candidate). Says l found)
            (later_candidates start next (nodes_in b) here.0 later) (chosen here.0 here.1))
          where
            by :
                (c : Cause) → Tells found c → Says list found →
                IsCause above spec lemmas (nodes_in b) here.0 c
            by NoStep t says = subst (Says list) t says
            by Covers t says = (t.0, t.2, subst (Says list) t.1 says)

        module _
            (clause : Clause) (its : IsNextClause b clause) (found : Option Move)
            (chosen : IsNext above spec lemmas start b found) (later : 0 < length b.steps.items)
            (cause : Cause) (tells : Tells found cause)
          where
            abbrev one : Stuck
            one = record { clause = clause; cause = cause }

            is_stuck : IsStuckFrom above spec lemmas start goal one
            is_stuck = record {
              nodes = nodes_in b;
              number = next;
              here = here.0;
              reached = walk.made;
              later = later;
              at = here.1;
              clause =
                  same_Some clause here.0.clause
                  (sym its ∙ next_clause above spec lemmas start b walk.whole here.0 here.1);
              node = walk.nodes next clause its;
              cause = cause_is found chosen later cause tells;
            }

            all_stuck : (more : List Stuck) → more ≡ stuck ++ one ∷ [] → AreAll more
            all_stuck more e =
                subst AreAll (sym e)
                (all_append (IsStuckFrom above spec lemmas start goal) stuck (one ∷ []) walk.listed
                (is_stuck, tt))

            -- the node is listed
            pub walk_lists :
                (more : List Stuck) →
                more ≡ stuck ++ record { clause = clause; cause = cause } ∷ [] →
                IsWalk goal b more
            walk_lists more e = record {
              reached = walk.reached;
              whole = walk.whole;
              nodes = walk.nodes;
              made = walk.made;
              first = walk.first;
              sides = walk.sides;
              listed = all_stuck more e;
            }

        -- the node is passed over
        pub walk_passes :
            (clause : Clause) (new : Building) → Passes b new clause → 0 < length b.steps.items →
            IsWalk goal new stuck
        walk_passes clause new passed later =
            let same : length new.steps.items ≡ next = ap length passed.steps in
            let less = length-remove b.block.nodes.items next lt in
            let left = ap length passed.nodes in
            let within : next < length (nodes_in b) = omega (arith, lt, long) in
            record {
              reached = omega (arith, same, less, left, lt);
              whole = passes_whole b new clause passed walk.whole lt;
              nodes = passes_are b new clause passed walk.whole lt spec.sig walk.nodes;
              made =
                  subst (λ (p : List Node × ℕ). Reached p.0 p.1)
                  (λ i. (sym (passes_nodes b new clause passed walk.whole lt) i, sym same i))
                  (passes walk.made later within);
              first = passes_first b new clause passed walk.whole lt goal later walk.first;
              sides = subst (AreFalling above goal) (sym passed.sides) walk.sides;
              listed = walk.listed;
            }

        -- the node takes its step
        pub walk_takes :
            ChildrenAreSorted above → IsWellSorted spec → (new : Building) (move : Move) →
            IsNext above spec lemmas start b (Some move) → Takes b new move → IsWalk goal new stuck
        walk_takes laws fine new move chosen taken =
            let steps : length new.steps.items ≡ suc next =
            ap length taken.steps ∙ length_one b.steps.items move.step in
            let more = child_nodes move.made.clauses in
            let many = ap length taken.nodes ∙ length-append b.block.nodes.items more in
            record {
              reached = omega (arith, steps, many, lt);
              whole = takes_whole b new move taken walk.whole lt;
              nodes =
                  nodes_after above spec lemmas start b walk.whole here.0 here.1 move chosen new taken laws
                  fine walk.nodes;
              made =
                  let grown = takes_nodes b new move taken walk.whole here.0 here.1 in
                  subst (λ (p : List Node × ℕ). Reached p.0 p.1) (λ i. (sym grown i, sym steps i))
                  (takes here.0 move walk.made here.1 (chosen here.0 here.1));
              first =
                  ap (λ (cs : List Clause). slice_get cs 0)
                  (clauses_after above spec lemmas start b walk.whole here.0 here.1 move chosen new taken)
                  ∙ get_more (clauses_of b.block.nodes.items) (clauses_made move.made) 0 goal walk.first;
              sides = subst (AreFalling above goal) (sym taken.sides) walk.sides;
              listed = walk.listed;
            }
