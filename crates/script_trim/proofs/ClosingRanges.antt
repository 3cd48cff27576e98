-- The symbols in the lines of closing steps are the signature's: there are none.
use Rattle.std.proofs.Common.{ℕ, suc, ◌<◌, List, [], ◌∷◌, ◌++◌, subst, arith, length, map}
use Rattle.std.specs.Prelude.{flat_map}
use Rattle.std.specs.List.{AllByRecursion}
use Rattle.term_core.specs.Tree.{Tree, var}
use Rattle.term_core.proofs.Items.{all_append, all_at_or}
use Rattle.spec_core.specs.declared.records.Spec.{Spec}
use Rattle.spec_core.specs.Sig.{Sig}
use Rattle.spec_core.specs.TermText.{SymbolsAreInRange}
use Rattle.spec_core.specs.WellSorted.{IsWellSorted}
use Rattle.clause_core.specs.declared.clauses.Clause.{Clause}
use Rattle.clause_core.specs.declared.reports.Report.{Report}
use Rattle.clause_core.specs.declared.steps.Step.{Step}
use Rattle.clause_core.specs.declared.steps.Step.TheVariants.{Trivial, Match, Absurd}
use Rattle.clause_core.specs.ClauseLaws.{OneRelation}
use Rattle.clause_core.specs.Instances.{variables}
use Rattle.inference_rules.specs.Answers.{clauses_of}
use Rattle.proof_script.specs.Ranges.{ClaimIsInRange, LineIsInRange}
use Rattle.proof_script.specs.Steps.{step_line}
use Rattle.script_trim.specs.declared.blocks.Fit.{Fit}
use Rattle.script_trim.specs.declared.blocks.KeptBlock.{KeptBlock}
use Rattle.script_trim.specs.Closing.{numbers, subsume_each, by_whole_lemma, by_each_lemma, closing_steps}
use Rattle.script_trim.specs.Cutting.{FitsAt}
use Rattle.script_trim.specs.Kept.{IsKept}
use Rattle.script_trim.specs.Trimmed.{proves}
use Rattle.script_trim.proofs.BlockRests.{long_nodes}
use Rattle.script_trim.proofs.FewerFits.{all_images, all_lists}
use Rattle.script_trim.proofs.StayingChildren.{there}

module _ (sig : Sig) where
  abbrev InRange : Step → Type 0
  InRange step = LineIsInRange sig (step_line step)

  variables_in_range : (first count : ℕ) → AllByRecursion (SymbolsAreInRange sig) (variables first count)
  variables_in_range first count = all_images (SymbolsAreInRange sig) (λ (n : ℕ). var n) _ (λ n. tt)

  each_in_range : (k : ℕ) (cs : List Clause) → AllByRecursion InRange (subsume_each k cs)
  each_in_range k [] = tt
  each_in_range k (c ∷ cs) = ((tt, (variables_in_range 0 (length c.ctx), tt)), each_in_range (suc k) cs)

closing_in_range :
    (spec : Spec) (nodes : List Clause) (c : Clause) →
    AllByRecursion (λ (step : Step). LineIsInRange spec.sig (step_line step)) (closing_steps spec nodes c)
closing_in_range spec nodes c =
    let P = λ (step : Step). LineIsInRange spec.sig (step_line step) in
    let trivials = map (λ (a : ℕ). Trivial a) (numbers c.conclusions) in
    let matches = flat_map (λ (a : ℕ). map (λ (b : ℕ). Match a b) (numbers c.premises)) (numbers c.conclusions) in
    let absurds = map (λ (b : ℕ). Absurd b) (numbers c.premises) in
    let subsumes = subsume_each 0 nodes in
    let lemmas = by_each_lemma spec.goals in
    all_append P trivials (matches ++ (absurds ++ (subsumes ++ lemmas)))
    (all_images P (λ (a : ℕ). Trivial a) (numbers c.conclusions) (λ a. (tt, tt)))
    (all_append P matches (absurds ++ (subsumes ++ lemmas))
    (all_lists P (λ (a : ℕ). map (λ (b : ℕ). Match a b) (numbers c.premises)) (numbers c.conclusions)
    (λ a. all_images P (λ (b : ℕ). Match a b) (numbers c.premises) (λ b. (tt, (tt, tt)))))
    (all_append P absurds (subsumes ++ lemmas)
    (all_images P (λ (b : ℕ). Absurd b) (numbers c.premises) (λ b. (tt, tt)))
    (all_append P subsumes lemmas (each_in_range spec.sig 0 nodes)
    (all_images P by_whole_lemma spec.goals (λ g. (tt, (variables_in_range spec.sig 0 _, tt)))))))

-- so a claim by this step alone can be printed
pub fit_in_range :
    (above : Tree → Tree → Type 0) (one : OneRelation above) (spec : Spec) (fine : IsWellSorted spec)
    (report : Report) (number : ℕ) (block : KeptBlock) (kept : IsKept above spec report number block) (i : ℕ) →
    i < length block.steps.items → (fit : Fit) → FitsAt above spec report number block kept i fit →
    (name : List ℕ) → ClaimIsInRange spec.sig (proves name (fit.step ∷ []))
fit_in_range above one spec fine report number block kept i within fit fits name =
    let nodes = clauses_of block.nodes.items in
    let here = there (clauses_of block.nodes.items) i
    (omega (arith, within, long_nodes above one spec fine report number block kept)) in
    let P = λ (step : Step). LineIsInRange spec.sig (step_line step) in
    let member = (fits here.0 here.1).0 in
    let line : P fit.step = subst P member.2
    (all_at_or P (closing_steps spec nodes here.0) member.0 fit.step (closing_in_range spec nodes here.0) member.1) in
    ((tt, (tt, (tt, tt))), (line, tt))
