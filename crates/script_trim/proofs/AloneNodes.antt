-- If a node is alone, no node is tried.
use Rattle.std.proofs.Common.{◌≡◌, ◌⊎◌, ℕ, ◌+◌, List, [], ◌∷◌, Some, true, inl, inr, sym, ◌∙◌, ap, subst}
use Rattle.std.proofs.Common.{arith}
use Rattle.std.specs.Prelude.{Contains, slice_get}
use Rattle.std.specs.List.{AllByRecursion}
use Rattle.std.proofs.lemmas.List.{append-nil}
use Rattle.term_core.specs.Tree.{Tree}
use Rattle.term_core.proofs.Numbers.{same_or_not}
use Rattle.spec_core.specs.declared.records.Spec.{Spec}
use Rattle.clause_core.specs.declared.clauses.Clause.{Clause}
use Rattle.clause_core.specs.declared.steps.Step.{Step}
use Rattle.clause_core.specs.declared.steps.Step.TheVariants.{Subsume}
use Rattle.clause_core.specs.ClauseLaws.{OneRelation}
use Rattle.inference_rules.specs.Answers.{clauses_of}
use Rattle.script_trim.specs.declared.blocks.Fit.{Fit}
use Rattle.script_trim.specs.declared.fitting.Spot.{Spot}
use Rattle.script_trim.specs.Closing.{own_variables, subsume_each}
use Rattle.script_trim.specs.Fitting.{AreDefined, IsByItself, none, left_out}
use Rattle.script_trim.specs.Trying.{IsSpot, Adds}
use Rattle.script_trim.proofs.ByItself.{is_by_itself}
use Rattle.script_trim.proofs.FewerFits.{subsume_all}
use Rattle.script_trim.proofs.Unfit.{node_agrees}

all_left_out :
    (above : Tree → Tree → Type 0) (spec : Spec) (usable : ℕ → Type 0) (nodes : List Clause) (i : ℕ)
    (steps : List Step) → AllByRecursion (IsByItself above spec usable nodes i) steps →
    AreDefined above spec usable nodes i steps []
all_left_out above spec usable nodes i [] h = none
all_left_out above spec usable nodes i (step ∷ steps) h =
    left_out h.0 (all_left_out above spec usable nodes i steps h.1)

module _
    (above : Tree → Tree → Type 0) (one : OneRelation above) (spot : Spot) (is : IsSpot spot)
    (alone : spot.alone ≡ true) where
  abbrev nodes : List Clause
  nodes = clauses_of spot.nodes.now

  abbrev ByItself : Step → Type 0
  ByItself step = IsByItself above spot.spec.now (Contains spot.proved.now) nodes spot.number step

  each : (j : ℕ) (d : Clause) → slice_get nodes j ≡ Some d → ByItself (Subsume (0 + j) (own_variables d))
  each j d at =
      let z : j ≡ 0 + j = omega arith in
      subst (λ n. ByItself (Subsume n (own_variables d))) z (either (same_or_not j spot.number))
    where
      either : (j ≡ spot.number) ⊎ (j ≡ spot.number → ⊥) → ByItself (Subsume j (own_variables d))
      either (inl e) =
          subst (λ n. ByItself (Subsume n (own_variables d))) (sym e)
          (is_by_itself above one spot.spec.now d spot.number (Contains spot.proved.now) nodes
          (ap (λ n. slice_get nodes n) (sym e) ∙ at))
      either (inr apart) =
          λ made makes. absurd (is.alone alone j d apart at (node_agrees above spot is j d made at makes))

  pub alone_adds_none : (fits : List Fit) → Adds above spot (subsume_each 0 nodes) fits fits
  alone_adds_none fits = record {
    more = [];
    is = sym (append-nil fits);
    defined =
        all_left_out above spot.spec.now (Contains spot.proved.now) nodes spot.number (subsume_each 0 nodes)
        (subsume_all ByItself 0 nodes each);
  }
