-- One step of descent for `rule`.
use Rattle.std.proofs.Common.{ℕ, List, [], ◌∷◌, inl, inr, refl}
use Rattle.term_core.specs.Tree.{Tree, instance}
use Rattle.term_order.specs.Laws.{HasRanks}
use Rattle.clause_core.specs.declared.clauses.Relation.TheVariants.{Less}
use Rattle.clause_core.specs.declared.steps.Place.{Place}
use Rattle.clause_core.specs.declared.steps.Step.TheVariants.{Rule}
use Rattle.clause_core.specs.declared.answers.Why.TheVariants.{NoSuchPlace, NoSuchRule, DoesNotFit}
use Rattle.clause_core.specs.Places.{holding}
use Rattle.clause_core.specs.Rows.{Made, child}
use Rattle.clause_core.specs.Tidied.{variables_of}
use Rattle.clause_core.specs.Failing.{values_at}
use Rattle.descent.specs.OneValue.{ValuesRankLower}
use Rattle.descent.specs.Descent.{StepDescends}
use Rattle.descent.proofs.TidiedWeights.{tidied_fails, tidied_weight}
use Rattle.descent.proofs.StepDescents.{no_reason, makes_these, goes_on}
use Rattle.descent.proofs.Counted.{drops_heavier}
use Rattle.descent.proofs.RuleUse.{guards_hold, child_fails, weight_falls}
use Rattle.descent.proofs.MadeSorted.{rule_made}

module _ (above : Tree → Tree → Type 0) (rank : ℕ → ℕ → Tree → ℕ → Type 0) (laws : HasRanks above rank)
    (exist : ValuesRankLower above rank) where
  pub rule_descends : (place : Place) (number : ℕ) → StepDescends above rank (Rule place number)
  rule_descends place number spec numbers nodes c made xs fine admitted lemmas nodes_sorted sorted
      (inl (at, inl (r, inl (f, m)))) fails =
      let d = holding at (instance f.0.terms r.rule.right) in
      let cs : List Made = child Less d ∷ [] in
      let g = guards_hold above rank laws exist spec fine admitted c sorted xs fails place at r.place r.rule
      r.is f.0 f.1 in
      let d_fails = child_fails above rank laws exist spec fine admitted c sorted xs fails place at r.place
      r.rule r.is f.0 g.0 g.1 in
      let d_sorted = rule_made spec fine c sorted place at r.rule (fine.rules r.place r.rule r.is) f.0.terms f.0.is in
      let falls = weight_falls above rank laws exist spec fine admitted c sorted xs fails place at r.place
      r.rule r.is f.0 d_fails in
      goes_on above c nodes made rank spec xs cs (makes_these above c nodes made cs [] m).0 0 Less d refl
      (record {
        others = values_at (variables_of d) xs;
        fails = tidied_fails spec d d_sorted xs d_fails;
        weighs = λ w v a b. let q = falls.1 w v a (tidied_weight rank spec d xs v b) in drops_heavier w v q.2.0;
      })
  rule_descends place number spec numbers nodes c made xs fine admitted lemmas nodes_sorted sorted
      (inl (at, inl (r, inr h))) fails = absurd (no_reason above c nodes made DoesNotFit h.1)
  rule_descends place number spec numbers nodes c made xs fine admitted lemmas nodes_sorted sorted
      (inl (at, inr h)) fails = absurd (no_reason above c nodes made NoSuchRule h.1)
  rule_descends place number spec numbers nodes c made xs fine admitted lemmas nodes_sorted sorted (inr h)
      fails = absurd (no_reason above c nodes made NoSuchPlace h.1)
