-- The symbols in the lines of steps that make something are the signature's, as the printer of
-- claims asks.
use Rattle.std.proofs.Common.{◌≡◌, ℕ, zero, suc, ◌<◌, List, [], ◌∷◌, ◌++◌, Some, None, Ok, map, length, inl, inr, arith}
use Rattle.std.specs.Prelude.{slice_get, option_map}
use Rattle.std.specs.List.{AllByRecursion, AllZip}
use Rattle.term_core.specs.Tree.{Tree, Trees, var, app, none, some, trees_of}
use Rattle.term_core.specs.declared.ids.SortId.{SortId}
use Rattle.spec_core.specs.declared.records.Spec.{Spec}
use Rattle.spec_core.specs.declared.records.SymInfo.{SymInfo}
use Rattle.spec_core.specs.Sig.{Sig}
use Rattle.spec_core.specs.Sorts.{Sorted, SortedAll}
use Rattle.spec_core.specs.TermText.{SymbolsAreInRange, AllSymbolsAreInRange}
use Rattle.clause_core.specs.declared.answers.Children.{Children}
use Rattle.clause_core.specs.declared.clauses.Clause.{Clause}
use Rattle.clause_core.specs.declared.reports.Outcome.TheVariants.{Proved}
use Rattle.clause_core.specs.declared.steps.Block.{Block}
use Rattle.clause_core.specs.declared.steps.Step.{Step}
use Rattle.clause_core.specs.declared.steps.Step.TheVariants.{Trivial, Match, Absurd, Subsume, ByLemma, Rule, Case}
use Rattle.clause_core.specs.declared.steps.Step.TheVariants.{Decompose, Clash, Drop, Solve, Cover, Generalize}
use Rattle.clause_core.specs.declared.steps.Step.TheVariants.{Context, Hyp, Lemma}
use Rattle.clause_core.specs.Generalizing.{IsGeneral}
use Rattle.clause_core.specs.Patterns.{IsPatternOf}
use Rattle.clause_core.specs.Says.{Says}
use Rattle.clause_core.specs.Steps.{row_of}
use Rattle.acceptance.specs.Blocks.{clauses_of, StepsMake}
use Rattle.proof_script.specs.Ranges.{LineIsInRange, ClaimIsInRange}
use Rattle.proof_script.specs.Steps.{step_line}

symbol_in_range :
    (table : List (List ℕ × SymInfo)) (f : ℕ) (i : SymInfo) →
    option_map (λ (e : List ℕ × SymInfo). e.1) (slice_get table f) ≡ Some i → f < length table
symbol_in_range [] f i e = absurd (let q : None ≡ Some i = e in cc)
symbol_in_range (e ∷ table) zero i h = omega arith
symbol_in_range (e ∷ table) (suc f) i h = omega (arith, symbol_in_range table f i h)

module _ (sig : Sig) where
  mutual
    pub sorted_in_range :
        (ctx : List SortId) (t : Tree) (s : SortId) → Sorted sig ctx t s →
        SymbolsAreInRange sig t
    sorted_in_range ctx (var n) s p = tt
    sorted_in_range ctx (app f ts) s p =
        (symbol_in_range sig.table f p.0 p.1, all_in_range ctx ts p.0.args p.3)

    all_in_range :
        (ctx : List SortId) (ts : Trees) (ss : List SortId) → SortedAll sig ctx ts ss →
        AllSymbolsAreInRange sig ts
    all_in_range ctx none ss p = tt
    all_in_range ctx (some t ts) [] p = absurd p
    all_in_range ctx (some t ts) (s ∷ ss) p =
        (sorted_in_range ctx t s p.0, all_in_range ctx ts ss p.1)

  terms_in_range :
      (ctx : List SortId) (ts : List Tree) (ss : List SortId) →
      SortedAll sig ctx (trees_of ts) ss → AllByRecursion (SymbolsAreInRange sig) ts
  terms_in_range ctx [] ss p = tt
  terms_in_range ctx (t ∷ ts) [] p = absurd p
  terms_in_range ctx (t ∷ ts) (s ∷ ss) p =
      (sorted_in_range ctx t s p.0, terms_in_range ctx ts ss p.1)

  patterns_in_range :
      (s : SortId) (ctxs : List (List SortId)) (ps : List Tree) →
      AllZip (IsPatternOf sig s) ctxs ps → AllByRecursion (SymbolsAreInRange sig) ps
  patterns_in_range s [] [] h = tt
  patterns_in_range s [] (p ∷ ps) h = absurd h
  patterns_in_range s (ctx ∷ ctxs) [] h = tt
  patterns_in_range s (ctx ∷ ctxs) (p ∷ ps) h =
      (sorted_in_range ctx p s h.0.sorted, patterns_in_range s ctxs ps h.1)

  general_in_range :
      (ctx : List SortId) (t : Tree) (s : SortId) → IsGeneral sig ctx t s →
      SymbolsAreInRange sig t
  general_in_range ctx (var n) s p = absurd p
  general_in_range ctx (app f ts) s p = sorted_in_range ctx (app f ts) s p

module _ (above : Tree → Tree → Type 0) (spec : Spec) (usable : ℕ → Type 0) where
  -- the line of a step that makes something
  step_in_range :
      (nodes : List Clause) (c : Clause) (m : Children) (step : Step) →
      Says above c nodes (row_of spec usable nodes c step) (Ok m) →
      LineIsInRange spec.sig (step_line step)
  step_in_range nodes c m (Trivial k) h = (tt, tt)
  step_in_range nodes c m (Match k j) h = (tt, (tt, tt))
  step_in_range nodes c m (Absurd j) h = (tt, tt)
  step_in_range nodes c m (Subsume j ts) (inl (node, inl (sorted, h))) =
      (tt, (terms_in_range spec.sig c.ctx ts node.clause.ctx sorted, tt))
  step_in_range nodes c m (Subsume j ts) (inl (node, inr (h, e))) = absurd (cc)
  step_in_range nodes c m (Subsume j ts) (inr (h, e)) = absurd (cc)
  step_in_range nodes c m (ByLemma name ts) (inl (lemma, inl (sorted, h))) =
      (tt, (terms_in_range spec.sig c.ctx ts _ sorted, tt))
  step_in_range nodes c m (ByLemma name ts) (inl (lemma, inr (h, e))) = absurd (cc)
  step_in_range nodes c m (ByLemma name ts) (inr (h, e)) = absurd (cc)
  step_in_range nodes c m (Rule p n) h = (tt, (tt, tt))
  step_in_range nodes c m (Case p n) h = (tt, (tt, tt))
  step_in_range nodes c m (Decompose kind n) h = (tt, tt)
  step_in_range nodes c m (Clash k) h = (tt, tt)
  step_in_range nodes c m (Drop kind n) h = (tt, tt)
  step_in_range nodes c m (Solve j) h = (tt, tt)
  step_in_range nodes c m (Cover v ps) (inl (are, h)) =
      (tt, (patterns_in_range spec.sig are.sort are.contexts ps are.each, tt))
  step_in_range nodes c m (Cover v ps) (inr (h, e)) = absurd (cc)
  step_in_range nodes c m (Generalize t) (inl ((s, general), h)) =
      (general_in_range spec.sig c.ctx t s general, tt)
  step_in_range nodes c m (Generalize t) (inr (h, e)) = absurd (cc)
  step_in_range nodes c m (Context p n left) h = (tt, (tt, (tt, tt)))
  step_in_range nodes c m (Hyp j ts p left) (inl (node, inl (sorted, h))) =
      (tt, (terms_in_range spec.sig c.ctx ts node.clause.ctx sorted, (tt, (tt, tt))))
  step_in_range nodes c m (Hyp j ts p left) (inl (node, inr (h, e))) = absurd (cc)
  step_in_range nodes c m (Hyp j ts p left) (inr (h, e)) = absurd (cc)
  step_in_range nodes c m (Lemma name ts p left) (inl (lemma, inl (sorted, h))) =
      (tt, (terms_in_range spec.sig c.ctx ts _ sorted, (tt, (tt, tt))))
  step_in_range nodes c m (Lemma name ts p left) (inl (lemma, inr (h, e))) = absurd (cc)
  step_in_range nodes c m (Lemma name ts p left) (inr (h, e)) = absurd (cc)

  steps_in_range :
      (nodes : List Clause) (k : ℕ) (steps : List Step) (made : List Children) →
      StepsMake above spec usable nodes k steps made →
      AllByRecursion (LineIsInRange spec.sig) (map step_line steps)
  steps_in_range nodes k [] made h = tt
  steps_in_range nodes k (step ∷ steps) [] h = absurd h
  steps_in_range nodes k (step ∷ steps) (m ∷ made) h = (
    step_in_range nodes h.0.clause m step h.0.says,
    steps_in_range (nodes ++ clauses_of m) (suc k) steps made h.1,
  )

  -- so those of a claim, whatever its name
  pub claim_in_range :
      (name : List ℕ) (block : Block) (start : Clause) (made : List Children) →
      StepsMake above spec usable (start ∷ []) 0 block.steps made →
      ClaimIsInRange spec.sig (record { goal = name; outcome = Proved block })
  claim_in_range name block start made h =
      ((tt, (tt, (tt, tt))), steps_in_range (start ∷ []) 0 block.steps made h)
