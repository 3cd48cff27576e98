-- The name of the variable that occurs twice on a left side.
use Rattle.std.proofs.Common.{◌≡◌, ◌<◌, ◌-◌, ℕ, List, Some, ap, sym, ◌∙◌, arith, length, get_or}
use Rattle.std.specs.Prelude.{option_map, slice_get}
use Rattle.std.proofs.lemmas.List.{length-map}
use Rattle.std.proofs.lemmas.Option.{get_or_from_slice_get, slice_get-get_or}
use Rattle.term_core.specs.declared.ids.VarId.{VarId}
use Rattle.term_core.proofs.Numbered.{numbered_below}
use Rattle.spec_core.specs.declared.records.Rule.{Rule}
use Rattle.spec_core.specs.declared.records.Spec.{Spec}
use Rattle.spec_core.specs.declared.records.VarInfo.{VarInfo}
use Rattle.spec_core.specs.WellSorted.{RuleIsSorted, IsWellSorted, sorts_of}
use Rattle.overlap_check.specs.declared.answers.Linear.TheVariants.{Repeated}
use Rattle.overlap_check.specs.Repetition.{IsLinearity}
use Rattle.overlap_check.proofs.Counting.{twice_occurs}
use Rattle.spec_admit.specs.FirstFault.{IsRepeated}

module _ (spec : Spec) (number : ℕ) (var : VarId) (h : IsLinearity spec (Repeated number var))
    (rules : List Rule) (all : rules ≡ spec.rules) (d : Rule) where
  -- the rule with this number is the one with the variable
  same_rule : h.2.rule ≡ get_or rules (number - 1) d
  same_rule =
      let place : number - 1 ≡ h.0 = omega (arith, h.1) in
      sym (get_or_from_slice_get spec.rules h.0 h.2.rule d h.2.at) ∙ ap (λ n. get_or spec.rules n d) (sym place)
      ∙ ap (λ rs. get_or rs (number - 1) d) (sym all)

  pub within : IsWellSorted spec → var.0 < length (get_or rules (number - 1) d).vars
  within fine =
      let sorted : RuleIsSorted spec.sig h.2.rule = fine.rules h.0 h.2.rule h.2.at in
      let few = numbered_below 0 (length (sorts_of h.2.rule.vars)) h.2.rule.left sorted.numbered var.0
      (twice_occurs var.0 h.2.rule.left h.2.least.0) in
      omega (arith, few, length-map h.2.rule.vars (λ (v : VarInfo). v.sort), ap (λ (r : Rule). length r.vars) same_rule)

  pub is_repeated : IsWellSorted spec → (vars : List VarInfo) (info : VarInfo) (name : List ℕ) →
      vars ≡ (get_or rules (number - 1) d).vars → name ≡ (get_or vars var.0 info).name → IsRepeated spec number name
  is_repeated fine vars info name are named =
      let few : var.0 < length vars = omega (arith, within fine, ap length are) in
      record {
        place = h.0;
        counts = h.1;
        var = var.0;
        first = h.2;
        named =
            ap (λ (r : Rule). option_map (λ (i : VarInfo). i.name) (slice_get r.vars var.0)) same_rule
            ∙ ap (λ vs. option_map (λ (i : VarInfo). i.name) (slice_get vs var.0)) (sym are)
            ∙ ap (λ o. option_map (λ (i : VarInfo). i.name) o) (slice_get-get_or vars var.0 info few)
            ∙ ap (λ n. Some n) (sym named);
      }
