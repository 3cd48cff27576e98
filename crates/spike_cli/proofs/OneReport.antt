-- A report of a well sorted specification is the only one with its bounds.
use Rattle.std.proofs.Common.{◌≡◌, ◌∙◌, ℕ, List, [], ◌++◌, Option, Some, inl, inr, refl, ap, sym, subst, take, length}
use Rattle.std.proofs.Common.{append-nil, append_assoc, map-id, codes, arith}
use Rattle.std.proofs.Math.Seq.{take-append_seam}
use Rattle.std.proofs.lemmas.Bool.{cases_order}
use Rattle.std.proofs.lemmas.Grind.{flat_map-append}
use Rattle.io_core.specs.Piece.{Appended, AppendedPrefix}
use Rattle.io_core.proofs.Pieces.{AppendedPrefix-more}
use Rattle.spec_core.specs.Sig.{Sig}
use Rattle.spec_core.specs.declared.records.Goal.{Goal}
use Rattle.spec_core.specs.declared.records.Spec.{Spec}
use Rattle.spec_core.specs.WellSorted.{IsWellSorted}
use Rattle.spec_order.specs.Orders.{above_of}
use Rattle.clause_core.specs.declared.reports.Budget.{Budget}
use Rattle.clause_core.specs.declared.reports.Claim.{Claim}
use Rattle.clause_core.specs.declared.reports.Outcome.TheVariants.{Proved}
use Rattle.clause_core.specs.declared.steps.Block.{Block}
use Rattle.command_line.specs.declared.bounds.ProofBounds.{ProofBounds}
use Rattle.plain_search.specs.Laws.{OneBlock}
use Rattle.plain_search.specs.Blocks.{IsPlainBlock}
use Rattle.proof_script.specs.Words.{lines_text}
use Rattle.proof_script.specs.Claims.{claim_text, claims_text, header_lines, report_text}
use Rattle.routine_proof.specs.Laws.{OneProof}
use Rattle.search_claims.specs.Claims.{AreClaims, AreFirstClaims, report_of}
use Rattle.file_replies.specs.declared.statuses.Status.{Status}
use Rattle.file_replies.specs.declared.statuses.Status.TheVariants.{Done, Refuted, Open}
use Rattle.spike_cli.specs.Claims.{IsNextClaim, IsStatusOfClaims, IsUnrefuted, number_proved}
use Rattle.spike_cli.specs.OneReport.{OneRightReport}
use Rattle.file_replies.specs.Parts.{AppendsPartOf}
use Rattle.spike_cli.specs.Reports.{BeginsReport, IsReport, begun, begun_text, whole}
use Rattle.spike_cli.proofs.OneReportClaims.{SeesOneProof, SeesProved, begun_seen, whole_seen}
use Rattle.spike_cli.proofs.BegunTexts.{begun_text-whole}
use Rattle.file_replies.proofs.Pieces.{nothing_appended}

-- claims have one status
one_status :
    (claims : List Claim) (s t : Status) → IsStatusOfClaims claims s →
    IsStatusOfClaims claims t → s ≡ t
one_status claims Done Done a b = refl
one_status claims Done Refuted a b = absurd (a.1 b)
one_status claims Done Open a b = absurd (a.0 b.0)
one_status claims Refuted Done a b = absurd (b.1 a)
one_status claims Refuted Refuted a b = refl
one_status claims Refuted Open a b = absurd (b.1 a)
one_status claims Open Done a b = absurd (b.0 a.0)
one_status claims Open Refuted a b = absurd (a.1 b)
one_status claims Open Open a b = refl
one_status claims Done t a b = absurd b
one_status claims Refuted t a b = absurd b
one_status claims Open t a b = absurd b
one_status claims s t a b = absurd a

-- the text of a report that was begun, with further claims
begun_text-append :
    (steps : ℕ) (sig : Sig) (claims others : List Claim) →
    begun_text steps sig (claims ++ others)
    ≡ begun_text steps sig claims ++ claims_text sig others
begun_text-append steps sig claims others =
    let header = lines_text sig (header_lines steps) in
    ap (λ x. header ++ x) (flat_map-append (claim_text sig) claims others)
    ∙ sym (append_assoc header (claims_text sig claims) (claims_text sig others))

module _
    (spec : Spec) (plain : OneBlock (above_of spec)) (routine : OneProof (above_of spec))
    (bounds : ProofBounds) (fine : IsWellSorted spec) where
  -- two proofs of a goal have the same steps
  same_steps :
      (lemmas : List ℕ) (goal : Goal) (tried : Budget) (a b : Block) →
      IsUnrefuted bounds spec lemmas goal tried (Proved a) →
      IsUnrefuted bounds spec lemmas goal tried (Proved b) → a.steps ≡ b.steps
  same_steps lemmas goal tried a b (inl p) (inl q) =
      elim (cases_order p.variable.0 q.variable.0) [
        | inl e ↦ (
            let moved = subst (λ x. IsPlainBlock (above_of spec) spec goal x a.steps) e p.plain in
            plain spec goal q.variable.0 a.steps b.steps fine q.first.0.1.no_premises moved q.plain
            )
        | inr (inl below) ↦ absurd (q.first.1 p.variable.0 below p.first.0)
        | inr (inr above) ↦ absurd (p.first.1 q.variable.0 above q.first.0)
      ]
  same_steps lemmas goal tried a b (inl p) (inr q) = absurd (q.0 p.variable.0 p.first.0)
  same_steps lemmas goal tried a b (inr p) (inl q) = absurd (p.0 q.variable.0 q.first.0)
  same_steps lemmas goal tried a b (inr p) (inr q) =
      let some : Some a.steps ≡ Some b.steps =
      routine spec lemmas goal bounds.nodes (Some a.steps) (Some b.steps) fine p.1 q.1 in
      cc

  tells : SeesProved (λ claim. claim) bounds spec
  tells number c d e = ap (λ x. number_proved number x.outcome) e

  one_proof : SeesOneProof (λ claim. claim) bounds spec
  one_proof lemmas goal tried name a b p q =
      ap (λ s. record { goal = name; outcome = Proved (record { steps = s }) })
      (same_steps lemmas goal tried a b p q)

  -- so the goals have one list of claims, and claims on the first goals are the first of this list
  one_list :
      (cs ds : List Claim) → AreClaims (IsNextClaim bounds spec) [] spec.goals cs →
      AreClaims (IsNextClaim bounds spec) [] spec.goals ds → cs ≡ ds
  one_list cs ds a b =
      sym (map-id cs)
      ∙ whole_seen (λ claim. claim) bounds spec one_proof tells spec.goals cs ds a b
      ∙ map-id ds

  first_of_list :
      (cs ds : List Claim) → AreFirstClaims (IsNextClaim bounds spec) [] spec.goals cs →
      AreClaims (IsNextClaim bounds spec) [] spec.goals ds →
      (rest : List Claim) × (ds ≡ cs ++ rest)
  first_of_list cs ds a b =
      let r = begun_seen (λ claim. claim) bounds spec one_proof tells spec.goals cs ds a b in
      (r.0, sym (map-id ds) ∙ r.1 ∙ ap (λ xs. xs ++ r.0) (map-id cs))

  module _ (text : List ℕ) (status : Status) (r : IsReport bounds spec text status) where
    -- the report's text goes on from every text that a report may begin with
    goes_on : (part : List ℕ) → BeginsReport bounds spec part →
        (rest : List ℕ) × (text ≡ part ++ rest)
    goes_on part (begun claims first) =
        let steps = bounds.search.steps in
        let more = first_of_list claims r.claims first r.are_claims in
        let others = claims_text spec.sig more.0 in (
          others ++ codes "done\n",
          r.is_text
              ∙ sym (begun_text-whole steps spec.sig r.claims)
              ∙ ap (λ cs. begun_text steps spec.sig cs ++ codes "done\n") more.1
              ∙ ap (λ x. x ++ codes "done\n") (begun_text-append steps spec.sig claims more.0)
              ∙ append_assoc (begun_text steps spec.sig claims) others (codes "done\n"),
        )
    goes_on part (whole claims all) =
        let same = one_list r.claims claims r.are_claims all in (
          [],
          r.is_text
              ∙ ap (λ cs. report_text spec.sig (report_of bounds.search.steps cs)) same
              ∙ sym (append-nil part),
        )

    only : (other : List ℕ) (ending : Status) → IsReport bounds spec other ending →
        (other ≡ text) × (ending ≡ status)
    only other ending o =
        let same = one_list o.claims r.claims o.are_claims r.are_claims in
        let answers = subst (λ cs. IsStatusOfClaims cs ending) same o.answers in (
          o.is_text
              ∙ ap (λ cs. report_text spec.sig (report_of bounds.search.steps cs)) same
              ∙ sym r.is_text,
          one_status r.claims ending status answers r.answers,
        )

    part_appended :
        (old new : Option (List ℕ)) → AppendsPartOf (BeginsReport bounds spec) old new →
        AppendedPrefix old new text
    part_appended old new (inl e) =
        (0, omega arith, subst (λ x. Appended old x []) (sym e) (nothing_appended old))
    part_appended old new (inr p) =
        let more = goes_on p.0 p.1 in
        subst (λ x. AppendedPrefix old new x) (sym more.1)
        (AppendedPrefix-more old new p.0 more.0 p.2)

pub one_right_report :
    ((spec : Spec) → OneBlock (above_of spec)) → ((spec : Spec) → OneProof (above_of spec)) →
    OneRightReport
one_right_report plain routine bounds spec text status fine r = record {
  only = only spec (plain spec) (routine spec) bounds fine text status r;
  begins =
      λ part is.
      let more = goes_on spec (plain spec) (routine spec) bounds fine text status r part is in
      ap (take (length part)) more.1 ∙ take-append_seam part more.0;
  appended = part_appended spec (plain spec) (routine spec) bounds fine text status r;
}
