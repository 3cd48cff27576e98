-- A line of a name is a step's of this name.
use Rattle.std.proofs.Common.{◌≡◌, ℕ, List, Bool, ap, codes, arith}
use Rattle.term_core.specs.Tree.{Tree}
use Rattle.term_core.specs.declared.ids.VarId.{VarId}
use Rattle.spec_core.specs.Sig.{Sig}
use Rattle.clause_core.specs.declared.steps.Place.{Place}
use Rattle.clause_core.specs.declared.steps.Step.{Step}
use Rattle.clause_core.specs.declared.steps.Step.TheVariants.{Trivial, Match, Absurd, Subsume, ByLemma, Rule, Case}
use Rattle.clause_core.specs.declared.steps.Step.TheVariants.{Decompose, Clash, Drop, Solve, Cover, Generalize}
use Rattle.clause_core.specs.declared.steps.Step.TheVariants.{Context, Hyp, Lemma}
use Rattle.proof_script.specs.Steps.{step_line}
use Rattle.proof_script.specs.LineWords.{AreWords, IsStepBehind}
use Rattle.proof_script.proofs.StepReads.{total, tag}

module _ (sig : Sig) (words : List ℕ) where
  -- the words of this step are there
  abbrev pub Stand : Step → Type 0
  Stand step = AreWords sig words (step_line step).words

  pub no_trivial : ((n : ℕ) → Stand (Trivial n) → ⊥) → (step : Step) → IsStepBehind sig (codes "trivial") words step → ⊥
  no_trivial never step h = by step (ap (λ bs. total bs) h.named) h.stand
    where
      by : (s : Step) → tag s ≡ total (codes "trivial") → Stand s → ⊥
      by (Trivial n) e stand = never n stand
      by _ e l = omega (arith, e)

  pub no_match : ((k : ℕ) (j : ℕ) → Stand (Match k j) → ⊥) → (step : Step) →
      IsStepBehind sig (codes "match") words step → ⊥
  no_match never step h = by step (ap (λ bs. total bs) h.named) h.stand
    where
      by : (s : Step) → tag s ≡ total (codes "match") → Stand s → ⊥
      by (Match k j) e stand = never k j stand
      by _ e l = omega (arith, e)

  pub no_absurd : ((n : ℕ) → Stand (Absurd n) → ⊥) → (step : Step) → IsStepBehind sig (codes "absurd") words step → ⊥
  no_absurd never step h = by step (ap (λ bs. total bs) h.named) h.stand
    where
      by : (s : Step) → tag s ≡ total (codes "absurd") → Stand s → ⊥
      by (Absurd n) e stand = never n stand
      by _ e l = omega (arith, e)

  pub no_subsume : ((node : ℕ) (ts : List Tree) → Stand (Subsume node ts) → ⊥) → (step : Step) →
      IsStepBehind sig (codes "subsume") words step → ⊥
  no_subsume never step h = by step (ap (λ bs. total bs) h.named) h.stand
    where
      by : (s : Step) → tag s ≡ total (codes "subsume") → Stand s → ⊥
      by (Subsume node ts) e stand = never node ts stand
      by _ e l = omega (arith, e)

  pub no_by_lemma : ((goal : List ℕ) (ts : List Tree) → Stand (ByLemma goal ts) → ⊥) → (step : Step) →
      IsStepBehind sig (codes "by-lemma") words step → ⊥
  no_by_lemma never step h = by step (ap (λ bs. total bs) h.named) h.stand
    where
      by : (s : Step) → tag s ≡ total (codes "by-lemma") → Stand s → ⊥
      by (ByLemma goal ts) e stand = never goal ts stand
      by _ e l = omega (arith, e)

  pub no_rule : ((p : Place) (r : ℕ) → Stand (Rule p r) → ⊥) → (step : Step) →
      IsStepBehind sig (codes "rule") words step → ⊥
  no_rule never step h = by step (ap (λ bs. total bs) h.named) h.stand
    where
      by : (s : Step) → tag s ≡ total (codes "rule") → Stand s → ⊥
      by (Rule p r) e stand = never p r stand
      by _ e l = omega (arith, e)

  pub no_case : ((p : Place) (r : ℕ) → Stand (Case p r) → ⊥) → (step : Step) →
      IsStepBehind sig (codes "case") words step → ⊥
  no_case never step h = by step (ap (λ bs. total bs) h.named) h.stand
    where
      by : (s : Step) → tag s ≡ total (codes "case") → Stand s → ⊥
      by (Case p r) e stand = never p r stand
      by _ e l = omega (arith, e)

  pub no_decompose : ((b : Bool) (n : ℕ) → Stand (Decompose b n) → ⊥) → (step : Step) →
      IsStepBehind sig (codes "decompose") words step → ⊥
  no_decompose never step h = by step (ap (λ bs. total bs) h.named) h.stand
    where
      by : (s : Step) → tag s ≡ total (codes "decompose") → Stand s → ⊥
      by (Decompose b n) e stand = never b n stand
      by _ e l = omega (arith, e)

  pub no_clash : ((n : ℕ) → Stand (Clash n) → ⊥) → (step : Step) → IsStepBehind sig (codes "clash") words step → ⊥
  no_clash never step h = by step (ap (λ bs. total bs) h.named) h.stand
    where
      by : (s : Step) → tag s ≡ total (codes "clash") → Stand s → ⊥
      by (Clash n) e stand = never n stand
      by _ e l = omega (arith, e)

  pub no_drop : ((b : Bool) (n : ℕ) → Stand (Drop b n) → ⊥) → (step : Step) →
      IsStepBehind sig (codes "drop") words step → ⊥
  no_drop never step h = by step (ap (λ bs. total bs) h.named) h.stand
    where
      by : (s : Step) → tag s ≡ total (codes "drop") → Stand s → ⊥
      by (Drop b n) e stand = never b n stand
      by _ e l = omega (arith, e)

  pub no_solve : ((n : ℕ) → Stand (Solve n) → ⊥) → (step : Step) → IsStepBehind sig (codes "solve") words step → ⊥
  no_solve never step h = by step (ap (λ bs. total bs) h.named) h.stand
    where
      by : (s : Step) → tag s ≡ total (codes "solve") → Stand s → ⊥
      by (Solve n) e stand = never n stand
      by _ e l = omega (arith, e)

  pub no_cover : ((x : VarId) (ps : List Tree) → Stand (Cover x ps) → ⊥) → (step : Step) →
      IsStepBehind sig (codes "cover") words step → ⊥
  no_cover never step h = by step (ap (λ bs. total bs) h.named) h.stand
    where
      by : (s : Step) → tag s ≡ total (codes "cover") → Stand s → ⊥
      by (Cover x ps) e stand = never x ps stand
      by _ e l = omega (arith, e)

  pub no_generalize : ((t : Tree) → Stand (Generalize t) → ⊥) → (step : Step) →
      IsStepBehind sig (codes "generalize") words step → ⊥
  no_generalize never step h = by step (ap (λ bs. total bs) h.named) h.stand
    where
      by : (s : Step) → tag s ≡ total (codes "generalize") → Stand s → ⊥
      by (Generalize t) e stand = never t stand
      by _ e l = omega (arith, e)

  pub no_context : ((p : Place) (n : ℕ) (l : Bool) → Stand (Context p n l) → ⊥) → (step : Step) →
      IsStepBehind sig (codes "context") words step → ⊥
  no_context never step h = by step (ap (λ bs. total bs) h.named) h.stand
    where
      by : (s : Step) → tag s ≡ total (codes "context") → Stand s → ⊥
      by (Context p n l) e stand = never p n l stand
      by _ e l = omega (arith, e)

  pub no_hyp : ((node : ℕ) (ts : List Tree) (p : Place) (l : Bool) → Stand (Hyp node ts p l) → ⊥) →
      (step : Step) → IsStepBehind sig (codes "hyp") words step → ⊥
  no_hyp never step h = by step (ap (λ bs. total bs) h.named) h.stand
    where
      by : (s : Step) → tag s ≡ total (codes "hyp") → Stand s → ⊥
      by (Hyp node ts p l) e stand = never node ts p l stand
      by _ e l = omega (arith, e)

  pub no_lemma : ((goal : List ℕ) (ts : List Tree) (p : Place) (l : Bool) → Stand (Lemma goal ts p l) → ⊥) →
      (step : Step) → IsStepBehind sig (codes "lemma") words step → ⊥
  no_lemma never step h = by step (ap (λ bs. total bs) h.named) h.stand
    where
      by : (s : Step) → tag s ≡ total (codes "lemma") → Stand s → ⊥
      by (Lemma goal ts p l) e stand = never goal ts p l stand
      by _ e l = omega (arith, e)
