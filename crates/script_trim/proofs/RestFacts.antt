-- What is left of a kept block, by the lists that the code reads.
use Rattle.std.proofs.Common.{◌≡◌, ◌⊎◌, ◌∙◌, ◌+◌, ◌<◌, ◌≤◌, ◌^◌, ℕ, List, Bool, true, false, Some, None}
use Rattle.std.proofs.Common.{Option, inl, inr}
use Rattle.std.proofs.Common.{refl, sym, ap, subst, arith, length, map}
use Rattle.std.specs.Prelude.{MatchOption, slice_get, slice_set}
use Rattle.std.specs.List.{AllByRecursion}
use Rattle.term_core.specs.Tree.{Tree}
use Rattle.spec_core.specs.declared.records.Spec.{Spec}
use Rattle.spec_core.specs.WellSorted.{IsWellSorted}
use Rattle.clause_core.specs.declared.answers.Children.{Children}
use Rattle.clause_core.specs.declared.reports.Report.{Report}
use Rattle.clause_core.specs.declared.steps.Step.{Step}
use Rattle.clause_core.specs.ClauseLaws.{OneRelation}
use Rattle.acceptance.specs.AllowedAnswers.{IsWholeBlock}
use Rattle.acceptance.specs.Strict.{AllAreAllowed}
use Rattle.block_links.specs.Links.{links_of}
use Rattle.proof_script.specs.Claims.{claim_text}
use Rattle.proof_script.specs.Ranges.{ClaimIsInRange}
use Rattle.proof_script.specs.Steps.{step_line}
use Rattle.proof_script.specs.Words.{line_text}
use Rattle.script_trim.specs.declared.blocks.Fit.{Fit}
use Rattle.script_trim.specs.declared.blocks.KeptBlock.{KeptBlock}
use Rattle.script_trim.specs.Cut.{renumbered, staying, RefersToStaying}
use Rattle.script_trim.specs.Cutting.{ClosesAt, FitsAt, TellsAllowed}
use Rattle.script_trim.specs.Flags.{flag_of, RefersWithin, TellStaying}
use Rattle.script_trim.specs.Kept.{IsKept}
use Rattle.script_trim.specs.Made.{cut_made}
use Rattle.script_trim.specs.Trimmed.{proves}
use Rattle.script_trim.proofs.BlockRests.{all_by_allowed, allowed_by_all, allowed_by_less, can_close}
use Rattle.script_trim.proofs.BlockRests.{closed_refers}
use Rattle.script_trim.proofs.BlockRests.{cut, few_clauses, in_range, long_flags, long_links, must_be_allowed}
use Rattle.script_trim.proofs.BlockRests.{must_be_short, must_refer, new_whole, whole_linked}
use Rattle.script_trim.proofs.LinkedCuts.{refers_within}
use Rattle.script_trim.proofs.TextBound.{cut_text}

module _
    (above : Tree → Tree → Type 0) (one : OneRelation above) (spec : Spec) (fine : IsWellSorted spec)
    (report : Report) (number : ℕ) (block : KeptBlock) (kept : IsKept above spec report number block)
    (i :
    ℕ) (within : i < length block.steps.items) (fit : Fit)
    (fits : FitsAt above spec report number block kept i fit)
    (steps :
    List Step) (steps_are : steps ≡ block.steps.items) (links : List Children)
    (links_are : links ≡ block.links.items)
    (stays : List Bool) (told : TellStaying links i stays) (flags : List Bool) (flags_are : flags ≡ stays) where
  told_flags : TellStaying block.links.items i flags
  told_flags =
      subst (λ fs. TellStaying block.links.items i fs) (sym flags_are)
      (subst (λ ls. TellStaying ls i stays) links_are told)

  pub steps_long : length steps ≡ length flags
  steps_long =
      omega (
        arith,
        ap (λ ss. length ss) steps_are,
        long_flags above one spec fine report number block kept i within
            fit fits flags told_flags,
      )

  pub flags_few : length flags < 2 ^ 32
  flags_few =
      omega (
        arith,
        few_clauses above one spec fine report number block kept,
        long_flags above one spec fine report number block kept i within fit fits flags told_flags,
      )

  abbrev pub Refer : Type 0
  Refer = AllByRecursion (RefersToStaying (flag_of flags)) (staying (flag_of flags) 0 (slice_set steps i fit.step))

  pub closes_refer : (rest : List Step) → ClosesAt above spec report number block kept i fit.step rest → Refer
  closes_refer rest c =
      subst (λ ss. AllByRecursion (RefersToStaying (flag_of flags))
      (staying (flag_of flags) 0 (slice_set ss i fit.step))) (sym steps_are)
      (must_refer above one spec fine report number block kept i within fit fits flags told_flags rest c)

  pub links_long : length links ≡ length flags
  links_long =
      omega (
        arith,
        ap (λ ls. length ls) links_are,
        long_links above one spec fine report number block kept,
        long_flags above one spec fine report number block kept i within fit fits flags told_flags,
      )

  pub links_refer : (k : ℕ) (m : Children) → slice_get links k ≡ Some m → RefersWithin (length links) m
  links_refer =
      subst (λ (ls : List Children). (k : ℕ) (m : Children) → slice_get ls k ≡ Some m → RefersWithin (length ls) m)
      (sym links_are) (refers_within block.links.items (whole_linked above one spec fine report number block kept))

  pub closed_in : RefersWithin (length links) fit.made
  closed_in =
      subst (λ (ls : List Children). RefersWithin (length ls) fit.made) (sym links_are)
      (closed_refers above one spec fine report number block kept i within fit fits)

  module _ (refer : Refer) where
    refer_block :
        AllByRecursion (RefersToStaying (flag_of flags)) (staying (flag_of flags) 0
        (slice_set block.steps.items i fit.step))
    refer_block =
        subst (λ ss. AllByRecursion (RefersToStaying (flag_of flags))
        (staying (flag_of flags) 0 (slice_set ss i fit.step))) steps_are refer

    pub whole_left : IsWholeBlock (map links_of (cut_made (flag_of flags) links i fit.made))
    whole_left =
        subst (λ ls. IsWholeBlock (map links_of (cut_made (flag_of flags) ls i fit.made))) (sym links_are)
        (new_whole above one spec fine report number block kept i within fit fits flags told_flags refer_block)

    pub closes_allowed :
        TellsAllowed (flag_of flags) links i fit.made false → (rest : List Step) →
        ClosesAt above spec report number block kept i fit.step rest → ⊥
    closes_allowed not_all rest c =
        not_all (subst (λ ls. AllAreAllowed (map links_of (cut_made (flag_of flags) ls i fit.made))) (sym links_are)
        (all_by_allowed above one spec fine report number block kept i within fit fits flags told_flags
        refer_block (must_be_allowed above one spec fine report number block kept i within fit fits flags
        told_flags rest c)))

    all_allowed :
        TellsAllowed (flag_of flags) links i fit.made true →
        AllAreAllowed (cut_made (flag_of flags) kept.claim.made i fit.made)
    all_allowed (inl less) =
        allowed_by_less above one spec fine report number block kept i within fit fits flags told_flags refer_block
        less
    all_allowed (inr all) =
        allowed_by_all above one spec fine report number block kept i within fit fits flags told_flags refer_block
        (subst (λ ls. AllAreAllowed (map links_of (cut_made (flag_of flags) ls i fit.made))) links_are all)

    abbrev pub Left : List Step
    Left = map (renumbered (flag_of flags)) (staying (flag_of flags) 0 (slice_set steps i fit.step))

    left_block :
        Left ≡ map (renumbered (flag_of flags)) (staying (flag_of flags) 0 (slice_set block.steps.items i fit.step))
    left_block =
        ap (λ ss. map (renumbered (flag_of flags)) (staying (flag_of flags) 0 (slice_set ss i fit.step))) steps_are

    module _ (name : List ℕ) (name_is : name ≡ kept.name) (rest : List Step) (rest_is : rest ≡ Left) where
      same :
          proves name rest ≡ proves kept.name (map (renumbered (flag_of flags))
          (staying (flag_of flags) 0 (slice_set block.steps.items i fit.step)))
      same = let e = rest_is ∙ left_block in λ k. proves (name_is k) (e k)

      pub rest_in_range : ClaimIsInRange spec.sig (proves name rest)
      rest_in_range =
          subst (ClaimIsInRange spec.sig) (sym same) (in_range above one spec fine report number block kept i within
          fit fits flags told_flags refer_block)

      -- the text gets longer by the closing step's line at most
      pub rest_bound :
          length (claim_text spec.sig (proves name rest))
          ≤ block.bytes + length (line_text spec.sig (step_line fit.step))
      rest_bound =
          let others = map (renumbered (flag_of flags))
          (staying (flag_of flags) 0 (slice_set block.steps.items i fit.step)) in
          let t = cut_text spec.sig kept.name kept.claim.steps kept.claim.made i fit.step others
          (cut above one spec fine report number block kept i within fit fits flags told_flags refer_block) in
          let e : length (claim_text spec.sig (proves name rest))
          ≡ length (claim_text spec.sig (proves kept.name others)) = ap (λ x. length (claim_text spec.sig x)) same in
          let f : length (claim_text spec.sig (proves kept.name kept.claim.steps))
          ≡ length (claim_text spec.sig (proves kept.name block.steps.items)) =
          ap (λ ss. length (claim_text spec.sig (proves kept.name ss))) kept.steps in
          omega (arith, t, e, f, kept.text)

      pub closes_short :
          (length (claim_text spec.sig (proves name rest)) ≤ 300000 → ⊥) → (others : List Step) →
          ClosesAt above spec report number block kept i fit.step others → ⊥
      closes_short too_long others c =
          too_long (subst (λ x. length (claim_text spec.sig x) ≤ 300000) (sym same)
          (must_be_short above one spec fine report number block kept i within fit fits flags told_flags others c))

      pub rest_closes :
          TellsAllowed (flag_of flags) links i fit.made true →
          length (claim_text spec.sig (proves name rest)) ≤ 300000 → (others : List Step) → others ≡ rest →
          ClosesAt above spec report number block kept i fit.step others
      rest_closes tells short others e =
          subst (λ ss. ClosesAt above spec report number block kept i fit.step ss) (sym (e ∙ rest_is ∙ left_block))
          (can_close above one spec fine report number block kept i within fit fits flags told_flags refer_block
          (all_allowed tells) (subst (λ x. length (claim_text spec.sig x) ≤ 300000) same short))

      pub rest_told :
          TellsAllowed (flag_of flags) links i fit.made true → {A : Type 0} (items : A → List Step) (o : Option A) →
          MatchOption o (length (claim_text spec.sig (proves name rest)) ≤ 300000 → ⊥)
          (λ kept_ones. (items kept_ones ≡ rest) × (length (claim_text spec.sig (proves name rest)) ≤ 300000)) →
          MatchOption o
          ((others : List Step) → ClosesAt above spec report number block kept i fit.step others → ⊥)
          (λ kept_ones. ClosesAt above spec report number block kept i fit.step (items kept_ones))
      rest_told tells items None h = closes_short h
      rest_told tells items (Some found) h = rest_closes tells h.1 (items found) h.0
