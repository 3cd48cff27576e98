-- The children of each step at a sorted node can be nodes themselves.
use Rattle.std.proofs.Common.{◌≡◌, ℕ, zero, suc, List, [], ◌∷◌, map, Bool, true, false, not, Some, None, Ok, Err, inl}
use Rattle.std.proofs.Common.{inr, sym, subst}
use Rattle.std.specs.Prelude.{Contains, slice_get, zip}
use Rattle.std.specs.List.{AllByRecursion, AllZip}
use Rattle.term_core.specs.Tree.{Tree, instance}
use Rattle.spec_core.specs.declared.records.Spec.{Spec}
use Rattle.spec_core.specs.WellSorted.{IsWellSorted}
use Rattle.clause_core.specs.declared.clauses.Clause.{Clause}
use Rattle.clause_core.specs.declared.clauses.Relation.TheVariants.{Less, Same}
use Rattle.clause_core.specs.declared.steps.Place.{Place}
use Rattle.clause_core.specs.declared.steps.Step.{Step}
use Rattle.clause_core.specs.declared.steps.Step.TheVariants.{Trivial, Match, Absurd, Subsume, ByLemma}
use Rattle.clause_core.specs.declared.steps.Step.TheVariants.{Rule as RuleStep, Case, Decompose, Clash as ClashStep}
use Rattle.clause_core.specs.declared.steps.Step.TheVariants.{Drop, Solve, Cover, Generalize, Context as ContextStep}
use Rattle.clause_core.specs.declared.steps.Step.TheVariants.{Hyp, Lemma}
use Rattle.clause_core.specs.declared.answers.Child.{Child}
use Rattle.clause_core.specs.declared.answers.Children.{Children}
use Rattle.clause_core.specs.declared.answers.Why.{Why}
use Rattle.clause_core.specs.Clauses.{ClauseIsSorted}
use Rattle.clause_core.specs.Tidied.{tidied, IsTidied, goal_clause}
use Rattle.clause_core.specs.NumberedEquations.{exchanged}
use Rattle.clause_core.specs.Places.{side, holding}
use Rattle.clause_core.specs.Referred.{instance_here}
use Rattle.clause_core.specs.Rows.{Made, Row, child, compared_child, makes}
use Rattle.clause_core.specs.Says.{IsChild, Says}
use Rattle.clause_core.specs.Steps.{row_of}
use Rattle.clause_core.specs.Limits.{IsWithin}
use Rattle.clause_core.specs.ClauseLaws.{TidyingLaws}
use Rattle.clause_core.specs.Closing.{trivial_row, match_row, absurd_row}
use Rattle.clause_core.specs.Subsuming.{subsumed_by, subsume_row, by_lemma_row}
use Rattle.clause_core.specs.Simplifying.{pairs, decompose_row, clash_row, drop_row}
use Rattle.clause_core.specs.Solving.{solve_row}
use Rattle.clause_core.specs.Instances.{with_term}
use Rattle.clause_core.specs.Covering.{cover_child, cover_row}
use Rattle.clause_core.specs.Generalizing.{generalize_row}
use Rattle.clause_core.specs.Abstracting.{generalized}
use Rattle.clause_core.specs.RuleInstances.{group_of}
use Rattle.clause_core.specs.CaseSplitting.{case_child, case_row}
use Rattle.clause_core.specs.Rewriting.{rule_row}
use Rattle.clause_core.specs.Replacing.{rewritten_by, context_row, hyp_row, lemma_row}
use Rattle.clause_core.proofs.TidiedSorts.{keeps_sorts}
use Rattle.descent.specs.SortedChildren.{NodesAreSorted, IsNode, ChildrenAreSorted}
use Rattle.descent.proofs.EqualTerms.{within_these}
use Rattle.descent.proofs.Untidied.{goal_sorted}
use Rattle.descent.proofs.StepDescents.{no_reason, makes_these}
use Rattle.descent.proofs.SortedEquations.{sorted_at}
use Rattle.descent.proofs.KeptSorts.{MadeIsSorted, heads_sorted, premise_sorted, exchange_sorted, held_sorted}
use Rattle.descent.proofs.SortedContexts.{other_sorted}
use Rattle.descent.proofs.MadeSorted.{each_made, solved_made, all_covered, general_made, rule_made, all_cases}
use Rattle.descent.proofs.MadeSorted.{rewritten_made}

module _ (above : Tree → Tree → Type 0) (tidy : TidyingLaws) (spec : Spec) (fine : IsWellSorted spec)
    (c : Clause) (sorted : ClauseIsSorted spec.sig c) where
  module _ (nodes : List Clause) (made : Children) where
    abbrev Kept : Row → Type 0
    Kept row = Says above c nodes row (Ok made) → (i : ℕ) (d : Child) → slice_get made.clauses i ≡ Some d →
        IsNode spec.sig d.clause

    child_node : (d : Clause) (x : Child) → x.clause ≡ tidied d → ClauseIsSorted spec.sig d →
        IsWithin x.clause → IsNode spec.sig x.clause
    child_node d x e h w = record {
      sorted = subst (λ z. ClauseIsSorted spec.sig z) (sym e) (keeps_sorts spec.sig d fine.signature h);
      is_tidied = subst (λ z. IsTidied z) (sym e) (tidy.is_tidied d);
      within = w;
    }

    made_node : (m : Made) (x : Child) → IsChild above c m x → MadeIsSorted spec.sig m → IsWithin x.clause →
        IsNode spec.sig x.clause
    made_node (child r d) x p h w = child_node d x p.0 h w
    made_node (compared_child d) x p h w = child_node d x p.0 h w

    all_children : (ms : List Made) (ds : List Child) → AllZip (IsChild above c) ms ds →
        AllByRecursion (MadeIsSorted spec.sig) ms → AllByRecursion (λ (x : Child). IsWithin x.clause) ds →
        (i : ℕ) (d : Child) → slice_get ds i ≡ Some d → IsNode spec.sig d.clause
    all_children [] [] p h w i d at = absurd (let q : None ≡ Some d = at in cc)
    all_children [] (x ∷ ds) p h w i d at = absurd p
    all_children (m ∷ ms) [] p h w i d at = absurd p
    all_children (m ∷ ms) (x ∷ ds) p h w zero d at = let q : Some x ≡ Some d = at in let k : x ≡ d = cc in
        subst (λ (z : Child). IsNode spec.sig z.clause) k (made_node m x p.0 h.0 w.0)
    all_children (m ∷ ms) (x ∷ ds) p h w (suc i) d at = all_children ms ds p.1 h.1 w.1 i d at

    kept_makes : (ms : List Made) (rs : List (ℕ × Clause)) → AllByRecursion (MadeIsSorted spec.sig) ms →
        Kept (makes ms rs)
    kept_makes ms rs h says = all_children ms made.clauses (makes_these above c nodes made ms rs says).0 h
        (within_these above c nodes made ms rs says).0

    gone : (why : Why) → Ok made ≡ Err why → (i : ℕ) (d : Child) → slice_get made.clauses i ≡ Some d →
        IsNode spec.sig d.clause
    gone why e = absurd (no_reason above c nodes made why e)

    kept_trivial : (k : ℕ) → Kept (trivial_row spec c k)
    kept_trivial k (inl (at, inl (same, m))) = kept_makes [] [] tt m
    kept_trivial k (inl (at, inr h)) = gone _ h.1
    kept_trivial k (inr h) = gone _ h.1

    kept_match : (k j : ℕ) → Kept (match_row spec c k j)
    kept_match k j (inl (at, inl (same, m))) = kept_makes [] [] tt m
    kept_match k j (inl (at, inr h)) = gone _ h.1
    kept_match k j (inr h) = gone _ h.1

    kept_absurd : (j : ℕ) → Kept (absurd_row spec c j)
    kept_absurd j (inl (at, inl (clash, m))) = kept_makes [] [] tt m
    kept_absurd j (inl (at, inr h)) = gone _ h.1
    kept_absurd j (inr h) = gone _ h.1

    kept_subsumed : (d : Clause) (terms : List Tree) (refs : Clause → List (ℕ × Clause)) →
        Kept (subsumed_by spec c d terms refs)
    kept_subsumed d terms refs (inl (st, inl (within, inl (subsumes, m)))) = kept_makes []
        (refs (instance_here spec c d terms)) tt m
    kept_subsumed d terms refs (inl (st, inl (within, inr h))) = gone _ h.1
    kept_subsumed d terms refs (inl (st, inr h)) = gone _ h.1
    kept_subsumed d terms refs (inr h) = gone _ h.1

    kept_subsume : (j : ℕ) (terms : List Tree) → Kept (subsume_row spec c nodes j terms)
    kept_subsume j terms (inl (node, m)) = kept_subsumed node.clause terms (λ i. (j, i) ∷ []) m
    kept_subsume j terms (inr h) = gone _ h.1

    kept_by_lemma : (usable : ℕ → Type 0) (name : List ℕ) (terms : List Tree) →
        Kept (by_lemma_row spec c usable name terms)
    kept_by_lemma usable name terms (inl (lemma, m)) = kept_subsumed (goal_clause lemma.goal) terms (λ i. []) m
    kept_by_lemma usable name terms (inr h) = gone _ h.1

    kept_rule : (place : Place) (n : ℕ) → Kept (rule_row spec c place n)
    kept_rule place n (inl (at, inl (by_rule, inl (m, says)))) = kept_makes
        (child Less (holding at (instance m.0.terms by_rule.rule.right)) ∷ []) [] (
          rule_made spec fine c sorted place at by_rule.rule (fine.rules by_rule.place by_rule.rule by_rule.is)
              m.0.terms m.0.is,
          tt,
        ) says
    kept_rule place n (inl (at, inl (by_rule, inr h))) = gone _ h.1
    kept_rule place n (inl (at, inr h)) = gone _ h.1
    kept_rule place n (inr h) = gone _ h.1

    kept_case : (place : Place) (n : ℕ) → Kept (case_row spec c place n)
    kept_case place n (inl (at, inl (by_rule, inl (m, says)))) = kept_makes
        (map (case_child spec c at m.terms) (group_of spec by_rule.rule.left)) []
        (all_cases spec fine c sorted place at m.terms by_rule.rule.left m.is spec.rules fine.rules) says
    kept_case place n (inl (at, inl (by_rule, inr h))) = gone _ h.1
    kept_case place n (inl (at, inr h)) = gone _ h.1
    kept_case place n (inr h) = gone _ h.1

    kept_decompose : (kind : Bool) (n : ℕ) → Kept (decompose_row spec c kind n)
    kept_decompose false n (inl (at, inl (heads, m))) = kept_makes
        (child Less (exchanged false c at (pairs heads.lefts heads.rights)) ∷ []) [] (
          exchange_sorted spec.sig c sorted false n at (pairs heads.lefts heads.rights)
              (λ p. heads_sorted spec.sig c.ctx at.equation heads p),
          tt,
        ) m
    kept_decompose false n (inl (at, inr h)) = gone _ h.1
    kept_decompose false n (inr h) = gone _ h.1
    kept_decompose true n (inl (at, inl (heads, m))) = kept_makes
        (map (λ e. child Less (exchanged true c at (e ∷ []))) (pairs heads.lefts heads.rights)) []
        (each_made spec fine c sorted true n at (pairs heads.lefts heads.rights)
        (heads_sorted spec.sig c.ctx at.equation heads
        (sorted_at spec.sig c.ctx c.conclusions n at sorted.conclusions))) m
    kept_decompose true n (inl (at, inr h)) = gone _ h.1
    kept_decompose true n (inr h) = gone _ h.1

    kept_clash : (n : ℕ) → Kept (clash_row spec c n)
    kept_clash n (inl (at, inl (clash, m))) = kept_makes (child Less (exchanged true c at []) ∷ []) []
        (exchange_sorted spec.sig c sorted true n at [] (λ p. tt), tt) m
    kept_clash n (inl (at, inr h)) = gone _ h.1
    kept_clash n (inr h) = gone _ h.1

    kept_drop : (kind : Bool) (n : ℕ) → Kept (drop_row spec c kind n)
    kept_drop kind n (inl (at, m)) = kept_makes (child Less (exchanged kind c at []) ∷ []) []
        (exchange_sorted spec.sig c sorted kind n at [] (λ p. tt), tt) m
    kept_drop kind n (inr h) = gone _ h.1

    kept_solve : (n : ℕ) → Kept (solve_row spec c n)
    kept_solve n (inl (at, inl (s, m))) = kept_makes
        (child Less (with_term c.ctx (exchanged false c at []) s.variable s.term) ∷ []) []
        (solved_made spec fine c sorted n at s, tt) m
    kept_solve n (inl (at, inr h)) = gone _ h.1
    kept_solve n (inr h) = gone _ h.1

    kept_cover : (x : ℕ) (patterns : List Tree) → Kept (cover_row spec c x patterns)
    kept_cover x patterns (inl (are, inl (covering, m))) = kept_makes
        (map (cover_child spec c x) (zip are.contexts patterns)) []
        (all_covered spec fine c sorted x are.sort are.is are.contexts patterns are.each) m
    kept_cover x patterns (inl (are, inr h)) = gone _ h.1
    kept_cover x patterns (inr h) = gone _ h.1

    kept_generalize : (t : Tree) → Kept (generalize_row spec c t)
    kept_generalize t (inl (g, inl (stands, m))) = kept_makes (child Same (generalized c t g.0) ∷ []) []
        (general_made spec fine c sorted t g.0 g.1, tt) m
    kept_generalize t (inl (g, inr h)) = gone _ h.1
    kept_generalize t (inr h) = gone _ h.1

    kept_context : (place : Place) (n : ℕ) (left : Bool) → Kept (context_row spec c place n left)
    kept_context place n left (inl (at, inl (same, m))) = kept_makes
        (compared_child (holding at.0 (side (not left) at.1.equation)) ∷ []) [] (
          held_sorted spec.sig c sorted place at.0 (side (not left) at.1.equation)
              (λ r q. other_sorted spec.sig c.ctx left at.1.equation at.0.term r same
              (premise_sorted spec.sig c sorted n at.1) q),
          tt,
        ) m
    kept_context place n left (inl (at, inr h)) = gone _ h.1
    kept_context place n left (inr h) = gone _ h.1

    kept_rewritten : (d : Clause) → ClauseIsSorted spec.sig d →
        (terms : List Tree) (place : Place) (left : Bool) (refs : Clause → List (ℕ × Clause)) →
        Kept (rewritten_by spec c d terms place left refs)
    kept_rewritten d sd terms place left refs (inl (st, inl (within, inl (at, inl (w, m))))) = kept_makes
        (compared_child (holding at (side (not left) w.equation)) ∷ []) (refs (instance_here spec c d terms))
        (rewritten_made spec fine c sorted d sd terms place left st at w, tt) m
    kept_rewritten d sd terms place left refs (inl (st, inl (within, inl (at, inr h)))) = gone _ h.1
    kept_rewritten d sd terms place left refs (inl (st, inl (within, inr h))) = gone _ h.1
    kept_rewritten d sd terms place left refs (inl (st, inr h)) = gone _ h.1
    kept_rewritten d sd terms place left refs (inr h) = gone _ h.1

    kept_hyp : NodesAreSorted spec.sig nodes → (j : ℕ) (terms : List Tree) (place : Place) (left : Bool) →
        Kept (hyp_row spec c nodes j terms place left)
    kept_hyp all j terms place left (inl (node, m)) = kept_rewritten node.clause (all j node.clause node.is)
        terms place left (λ i. (j, i) ∷ []) m
    kept_hyp all j terms place left (inr h) = gone _ h.1

    kept_lemma : (usable : ℕ → Type 0) (name : List ℕ) (terms : List Tree) (place : Place) (left : Bool) →
        Kept (lemma_row spec c usable name terms place left)
    kept_lemma usable name terms place left (inl (lemma, m)) = kept_rewritten (goal_clause lemma.goal)
        (goal_sorted spec.sig lemma.goal (fine.goals lemma.number lemma.goal lemma.is) fine.signature) terms
        place left (λ i. []) m
    kept_lemma usable name terms place left (inr h) = gone _ h.1

    kept_step : NodesAreSorted spec.sig nodes → (usable : ℕ → Type 0) (step : Step) →
        Kept (row_of spec usable nodes c step)
    kept_step all usable (Trivial k) says = kept_trivial k says
    kept_step all usable (Match k j) says = kept_match k j says
    kept_step all usable (Absurd j) says = kept_absurd j says
    kept_step all usable (Subsume j terms) says = kept_subsume j terms says
    kept_step all usable (ByLemma name terms) says = kept_by_lemma usable name terms says
    kept_step all usable (RuleStep place n) says = kept_rule place n says
    kept_step all usable (Case place n) says = kept_case place n says
    kept_step all usable (Decompose kind n) says = kept_decompose kind n says
    kept_step all usable (ClashStep n) says = kept_clash n says
    kept_step all usable (Drop kind n) says = kept_drop kind n says
    kept_step all usable (Solve n) says = kept_solve n says
    kept_step all usable (Cover x patterns) says = kept_cover x.0 patterns says
    kept_step all usable (Generalize t) says = kept_generalize t says
    kept_step all usable (ContextStep place n left) says = kept_context place n left says
    kept_step all usable (Hyp j terms place left) says = kept_hyp all j terms place left says
    kept_step all usable (Lemma name terms place left) says = kept_lemma usable name terms place left says

pub children_sorted : (above : Tree → Tree → Type 0) → TidyingLaws → ChildrenAreSorted above
children_sorted above tidy step spec numbers nodes c made fine all sorted says = kept_step above tidy spec fine
    c sorted nodes made all (Contains numbers) step says
