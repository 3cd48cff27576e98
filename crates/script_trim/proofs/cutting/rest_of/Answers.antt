use Rattle.std.proofs.Common.{◌≡◌, ◌∙◌, ◌+◌, ◌<◌, ◌≤◌, [], ◌∷◌, false, true, refl, sym, ap, subst, arith}
use Rattle.std.proofs.Common.{length, rules}
use Rattle.std.specs.Prelude.{IfOk, MatchOption}
use Rattle.std.proofs.lemmas.Option.{slice_get_within}
use Rattle.term_core.proofs.Items.{if_ok_map}
use Rattle.spec_core.specs.WellSorted.{IsWellSorted}
use Rattle.clause_core.specs.ClauseLaws.{OneRelation}
use Rattle.acceptance.specs.AllowedAnswers.{IsWholeBlock}
use Rattle.proof_script.specs.Claims.{claim_text}
use Rattle.proof_script.specs.Ranges.{ClaimIsInRange}
use Rattle.proof_script.specs.Steps.{step_line}
use Rattle.proof_script.specs.Words.{line_text}
use Rattle.script_trim.specs.Cutting.{TellsAllowed}
use Rattle.script_trim.specs.Fitting.{RefersToItself}
use Rattle.script_trim.specs.Flags.{flag_of, AreInOrder, AreNewNumbers}
use Rattle.script_trim.specs.Trimmed.{proves}
use Rattle.script_trim.proofs.BlockRests.{in_order, not_itself, whole_linked}
use Rattle.script_trim.proofs.RestFacts.{closed_in, closes_allowed, closes_refer, flags_few, links_long}
use Rattle.script_trim.proofs.RestFacts.{links_refer}
use Rattle.script_trim.proofs.ClosingRanges.{fit_in_range}
use Rattle.script_trim.proofs.TextBound.{within_sum}
use Rattle.script_trim.proofs.RestFacts.{rest_bound, rest_in_range, rest_told, steps_long, whole_left}
use Rattle.script_trim.proofs.cutting.rest_of.Goals as goal

pub returns-then-refers_to_itself : goal.returns-then-refers_to_itself
returns-then-refers_to_itself g c = λ kept others closes.
    let above = g.O.TermOrder.above c.args.admitted.now.order in
    let spec = c.args.admitted.now.spec in
    let report = c.args.place.now.report.now in
    let number = c.args.place.now.number in
    let block = c.args.block.now in
    let fine : IsWellSorted c.args.admitted.now.spec = rw (← c.admitted.view_is) c.admitted.invariant.0 in
    let one : OneRelation (g.O.TermOrder.above c.args.admitted.now.order) = rw (← c.admitted.view_is)
    c.one_relation.ensures in
    not_itself above one spec fine report number block kept c.args.node c.requires.node c.args.fit.now
    (c.requires.fits kept) others closes
    (subst (λ rs. RefersToItself c.args.node rs) c.as_slice.ensures (c.if-refers_to_itself.ensures refl))

pub staying_nodes-requires : goal.staying_nodes-requires
staying_nodes-requires g c =
    let above = g.O.TermOrder.above c.args.admitted.now.order in
    let spec = c.args.admitted.now.spec in
    let report = c.args.place.now.report.now in
    let number = c.args.place.now.number in
    let block = c.args.block.now in
    let fine : IsWellSorted c.args.admitted.now.spec = rw (← c.admitted.view_is) c.admitted.invariant.0 in
    let one : OneRelation (g.O.TermOrder.above c.args.admitted.now.order) = rw (← c.admitted.view_is)
    c.one_relation.ensures in
    record {
      whole = subst IsWholeBlock (sym c.as_slice-links.ensures.value)
          (whole_linked above one spec fine report number block c.requires.kept);
      order = subst AreInOrder (sym c.as_slice-links.ensures.value)
          (in_order above one spec fine report number block c.requires.kept);
    }

pub all_refer_to_staying-requires : goal.all_refer_to_staying-requires
all_refer_to_staying-requires g c =
    let above = g.O.TermOrder.above c.args.admitted.now.order in
    let spec = c.args.admitted.now.spec in
    let report = c.args.place.now.report.now in
    let number = c.args.place.now.number in
    let block = c.args.block.now in
    let fine : IsWellSorted c.args.admitted.now.spec = rw (← c.admitted.view_is) c.admitted.invariant.0 in
    let one : OneRelation (g.O.TermOrder.above c.args.admitted.now.order) = rw (← c.admitted.view_is)
    c.one_relation.ensures in
    steps_long above one spec fine report number block c.requires.kept c.args.node c.requires.node c.args.fit.now
    (c.requires.fits c.requires.kept) c.as_slice-steps.result.now c.as_slice-steps.ensures.value
    c.as_slice-links.result.now c.as_slice-links.ensures.value c.in_ok-stays.stays.items c.in_ok-stays.ensures
    c.as_slice-stays.result.now c.as_slice-stays.ensures.value

pub returns-then-not-all_refer_to_staying : goal.returns-then-not-all_refer_to_staying
returns-then-not-all_refer_to_staying g c = λ kept others closes.
    let above = g.O.TermOrder.above c.args.admitted.now.order in
    let spec = c.args.admitted.now.spec in
    let report = c.args.place.now.report.now in
    let number = c.args.place.now.number in
    let block = c.args.block.now in
    let fine : IsWellSorted c.args.admitted.now.spec = rw (← c.admitted.view_is) c.admitted.invariant.0 in
    let one : OneRelation (g.O.TermOrder.above c.args.admitted.now.order) = rw (← c.admitted.view_is)
    c.one_relation.ensures in
    let no = c.if-not-all_refer_to_staying.ensures.1
    (closes_refer above one spec fine report number block kept c.args.node c.requires.node c.args.fit.now
    (c.requires.fits kept) c.as_slice-steps.result.now c.as_slice-steps.ensures.value c.as_slice-links.result.now
    c.as_slice-links.ensures.value c.in_ok-stays.stays.items c.in_ok-stays.ensures c.as_slice-stays.result.now
    c.as_slice-stays.ensures.value others closes) in
    cc

pub new_numbers-requires : goal.new_numbers-requires
new_numbers-requires g c =
    let above = g.O.TermOrder.above c.args.admitted.now.order in
    let spec = c.args.admitted.now.spec in
    let report = c.args.place.now.report.now in
    let number = c.args.place.now.number in
    let block = c.args.block.now in
    let fine : IsWellSorted c.args.admitted.now.spec = rw (← c.admitted.view_is) c.admitted.invariant.0 in
    let one : OneRelation (g.O.TermOrder.above c.args.admitted.now.order) = rw (← c.admitted.view_is)
    c.one_relation.ensures in
    flags_few above one spec fine report number block c.requires.kept c.args.node c.requires.node c.args.fit.now
    (c.requires.fits c.requires.kept) c.as_slice-steps.result.now c.as_slice-steps.ensures.value
    c.as_slice-links.result.now c.as_slice-links.ensures.value c.in_ok-stays.stays.items c.in_ok-stays.ensures
    c.as_slice-stays.result.now c.as_slice-stays.ensures.value

pub are_allowed-requires : goal.are_allowed-requires
are_allowed-requires g c =
    let above = g.O.TermOrder.above c.args.admitted.now.order in
    let spec = c.args.admitted.now.spec in
    let report = c.args.place.now.report.now in
    let number = c.args.place.now.number in
    let block = c.args.block.now in
    let fine : IsWellSorted c.args.admitted.now.spec = rw (← c.admitted.view_is) c.admitted.invariant.0 in
    let one : OneRelation (g.O.TermOrder.above c.args.admitted.now.order) = rw (← c.admitted.view_is)
    c.one_relation.ensures in
    let refer = c.if-not-all_refer_to_staying.ensures.0 refl in
    let numbers : AreNewNumbers c.as_slice-stays.result.now c.as_slice-numbers.result.now = subst
    (λ ns. AreNewNumbers c.as_slice-stays.result.now ns) (sym c.as_slice-numbers.ensures.value)
    c.in_ok-numbers.ensures in
    record {
      long = links_long above one spec fine report number block c.requires.kept c.args.node c.requires.node
          c.args.fit.now (c.requires.fits c.requires.kept) c.as_slice-steps.result.now c.as_slice-steps.ensures.value
          c.as_slice-links.result.now c.as_slice-links.ensures.value c.in_ok-stays.stays.items c.in_ok-stays.ensures
          c.as_slice-stays.result.now c.as_slice-stays.ensures.value;
      numbers = numbers;
      refs = links_refer above one spec fine report number block c.requires.kept c.args.node c.requires.node
          c.args.fit.now (c.requires.fits c.requires.kept) c.as_slice-steps.result.now c.as_slice-steps.ensures.value
          c.as_slice-links.result.now c.as_slice-links.ensures.value c.in_ok-stays.stays.items c.in_ok-stays.ensures
          c.as_slice-stays.result.now c.as_slice-stays.ensures.value;
      closed = closed_in above one spec fine report number block c.requires.kept c.args.node c.requires.node
          c.args.fit.now (c.requires.fits c.requires.kept) c.as_slice-steps.result.now c.as_slice-steps.ensures.value
          c.as_slice-links.result.now c.as_slice-links.ensures.value c.in_ok-stays.stays.items c.in_ok-stays.ensures
          c.as_slice-stays.result.now c.as_slice-stays.ensures.value;
      whole = whole_left above one spec fine report number block c.requires.kept c.args.node c.requires.node
          c.args.fit.now (c.requires.fits c.requires.kept) c.as_slice-steps.result.now c.as_slice-steps.ensures.value
          c.as_slice-links.result.now c.as_slice-links.ensures.value c.in_ok-stays.stays.items c.in_ok-stays.ensures
          c.as_slice-stays.result.now c.as_slice-stays.ensures.value refer;
    }

pub rest_steps-requires : goal.rest_steps-requires
rest_steps-requires g c =
    let above = g.O.TermOrder.above c.args.admitted.now.order in
    let spec = c.args.admitted.now.spec in
    let report = c.args.place.now.report.now in
    let number = c.args.place.now.number in
    let block = c.args.block.now in
    let fine : IsWellSorted c.args.admitted.now.spec = rw (← c.admitted.view_is) c.admitted.invariant.0 in
    let one : OneRelation (g.O.TermOrder.above c.args.admitted.now.order) = rw (← c.admitted.view_is)
    c.one_relation.ensures in
    let refer = c.if-not-all_refer_to_staying.ensures.0 refl in
    let numbers : AreNewNumbers c.as_slice-stays.result.now c.as_slice-numbers.result.now = subst
    (λ ns. AreNewNumbers c.as_slice-stays.result.now ns) (sym c.as_slice-numbers.ensures.value)
    c.in_ok-numbers.ensures in
    record {
      long = steps_long above one spec fine report number block c.requires.kept c.args.node c.requires.node
          c.args.fit.now (c.requires.fits c.requires.kept) c.as_slice-steps.result.now c.as_slice-steps.ensures.value
          c.as_slice-links.result.now c.as_slice-links.ensures.value c.in_ok-stays.stays.items c.in_ok-stays.ensures
          c.as_slice-stays.result.now c.as_slice-stays.ensures.value;
      numbers = numbers;
      refer = refer;
    }

pub returns-then-not-branch : goal.returns-then-not-branch
returns-then-not-branch g c = λ kept others closes.
    let above = g.O.TermOrder.above c.args.admitted.now.order in
    let spec = c.args.admitted.now.spec in
    let report = c.args.place.now.report.now in
    let number = c.args.place.now.number in
    let block = c.args.block.now in
    let fine : IsWellSorted c.args.admitted.now.spec = rw (← c.admitted.view_is) c.admitted.invariant.0 in
    let one : OneRelation (g.O.TermOrder.above c.args.admitted.now.order) = rw (← c.admitted.view_is)
    c.one_relation.ensures in
    let refer = c.if-not-all_refer_to_staying.ensures.0 refl in
    let e : c.in_ok-are_allowed.field-0 ≡ false = search rules in
    let tells : TellsAllowed (flag_of c.as_slice-stays.result.now) c.as_slice-links.result.now c.args.node
    c.args.fit.now.made false = subst (λ b. TellsAllowed (flag_of c.as_slice-stays.result.now)
    c.as_slice-links.result.now c.args.node c.args.fit.now.made b) e c.in_ok-are_allowed.ensures in
    closes_allowed above one spec fine report number block kept c.args.node c.requires.node c.args.fit.now
    (c.requires.fits kept) c.as_slice-steps.result.now c.as_slice-steps.ensures.value c.as_slice-links.result.now
    c.as_slice-links.ensures.value c.in_ok-stays.stays.items c.in_ok-stays.ensures c.as_slice-stays.result.now
    c.as_slice-stays.ensures.value refer tells others closes

pub name_at-name-requires : goal.name_at-name-requires
name_at-name-requires g c =
    let number = c.args.place.now.number in
    slice_get_within c.args.place.now.report.now.claims number _ c.requires.kept.there

pub if_short-requires-clause-range : goal.if_short-requires-clause-range
if_short-requires-clause-range g c =
    let above = g.O.TermOrder.above c.args.admitted.now.order in
    let spec = c.args.admitted.now.spec in
    let report = c.args.place.now.report.now in
    let number = c.args.place.now.number in
    let block = c.args.block.now in
    let fine : IsWellSorted c.args.admitted.now.spec = rw (← c.admitted.view_is) c.admitted.invariant.0 in
    let one : OneRelation (g.O.TermOrder.above c.args.admitted.now.order) = rw (← c.admitted.view_is)
    c.one_relation.ensures in
    let refer = c.if-not-all_refer_to_staying.ensures.0 refl in
    let name_is : c.name_at-name.result.now ≡ c.requires.kept.name = c.name_at-name.ensures _ c.requires.kept.there in
    let h : ClaimIsInRange c.args.admitted.now.spec.sig (proves c.name_at-name.result.now c.in_ok-rest.rest.items) =
    rest_in_range above one spec fine report number block c.requires.kept c.args.node c.requires.node
    c.args.fit.now (c.requires.fits c.requires.kept) c.as_slice-steps.result.now c.as_slice-steps.ensures.value
    c.as_slice-links.result.now c.as_slice-links.ensures.value c.in_ok-stays.stays.items c.in_ok-stays.ensures
    c.as_slice-stays.result.now c.as_slice-stays.ensures.value refer c.name_at-name.result.now name_is
    c.in_ok-rest.rest.items c.in_ok-rest.ensures in
    let sig_is : c.admitted.inside.spec.sig ≡ c.args.admitted.now.spec.sig = rw (← c.admitted.view_is) refl in
    subst (λ s. ClaimIsInRange s (proves c.name_at-name.result.now c.in_ok-rest.rest.items)) (sym sig_is) h

pub returns : goal.returns
returns g c =
    let above = g.O.TermOrder.above c.args.admitted.now.order in
    let spec = c.args.admitted.now.spec in
    let report = c.args.place.now.report.now in
    let number = c.args.place.now.number in
    let block = c.args.block.now in
    let fine : IsWellSorted c.args.admitted.now.spec = rw (← c.admitted.view_is) c.admitted.invariant.0 in
    let one : OneRelation (g.O.TermOrder.above c.args.admitted.now.order) = rw (← c.admitted.view_is)
    c.one_relation.ensures in
    let refer = c.if-not-all_refer_to_staying.ensures.0 refl in
    let e : c.in_ok-are_allowed.field-0 ≡ true = search rules in
    let tells : TellsAllowed (flag_of c.as_slice-stays.result.now) c.as_slice-links.result.now c.args.node
    c.args.fit.now.made true = subst (λ b. TellsAllowed (flag_of c.as_slice-stays.result.now)
    c.as_slice-links.result.now c.args.node c.args.fit.now.made b) e c.in_ok-are_allowed.ensures in
    let sig_is : c.admitted.inside.spec.sig ≡ c.args.admitted.now.spec.sig = rw (← c.admitted.view_is) refl in
    let short = subst (λ s. IfOk c.if_short.result
    (λ o. MatchOption o (length (claim_text s (proves c.name_at-name.result.now c.in_ok-rest.rest.items)) ≤ 300000 → ⊥)
    (λ found. (found.items ≡ c.in_ok-rest.rest.items) ×
    (length (claim_text s (proves c.name_at-name.result.now c.in_ok-rest.rest.items)) ≤ 300000)))) sig_is
    c.if_short.ensures in
    if_ok_map c.if_short.result _ _ (λ o h kept. rest_told above one spec fine report number block kept c.args.node
    c.requires.node c.args.fit.now (c.requires.fits kept) c.as_slice-steps.result.now
    c.as_slice-steps.ensures.value c.as_slice-links.result.now c.as_slice-links.ensures.value
    c.in_ok-stays.stays.items c.in_ok-stays.ensures c.as_slice-stays.result.now c.as_slice-stays.ensures.value
    refer c.name_at-name.result.now (c.name_at-name.ensures _ kept.there) c.in_ok-rest.rest.items
    c.in_ok-rest.ensures tells
    (λ found. found.items) o h) short

pub bytes_with-requires : goal.bytes_with-requires
bytes_with-requires g c =
    let above = g.O.TermOrder.above c.args.admitted.now.order in
    let spec = c.args.admitted.now.spec in
    let fine : IsWellSorted c.args.admitted.now.spec = rw (← c.admitted.view_is) c.admitted.invariant.0 in
    let one : OneRelation (g.O.TermOrder.above c.args.admitted.now.order) = rw (← c.admitted.view_is)
    c.one_relation.ensures in
    let sig_is : c.admitted.inside.spec.sig ≡ c.args.admitted.now.spec.sig = rw (← c.admitted.view_is) refl in
    subst (λ s. ClaimIsInRange s (proves c.name_at-name.result.now (c.args.fit.now.step ∷ []))) (sym sig_is)
    (fit_in_range above one spec fine c.args.place.now.report.now c.args.place.now.number c.args.block.now
    c.requires.kept c.args.node c.requires.node c.args.fit.now (c.requires.fits c.requires.kept)
    c.name_at-name.result.now)

pub if_short-requires-clause-bound : goal.if_short-requires-clause-bound
if_short-requires-clause-bound g c =
    let above = g.O.TermOrder.above c.args.admitted.now.order in
    let spec = c.args.admitted.now.spec in
    let report = c.args.place.now.report.now in
    let number = c.args.place.now.number in
    let block = c.args.block.now in
    let fine : IsWellSorted c.args.admitted.now.spec = rw (← c.admitted.view_is) c.admitted.invariant.0 in
    let one : OneRelation (g.O.TermOrder.above c.args.admitted.now.order) = rw (← c.admitted.view_is)
    c.one_relation.ensures in
    let refer = c.if-not-all_refer_to_staying.ensures.0 refl in
    let name_is : c.name_at-name.result.now ≡ c.requires.kept.name = c.name_at-name.ensures _ c.requires.kept.there in
    let bound = rest_bound above one spec fine report number block c.requires.kept c.args.node c.requires.node
    c.args.fit.now (c.requires.fits c.requires.kept) c.as_slice-steps.result.now c.as_slice-steps.ensures.value
    c.as_slice-links.result.now c.as_slice-links.ensures.value c.in_ok-stays.stays.items c.in_ok-stays.ensures
    c.as_slice-stays.result.now c.as_slice-stays.ensures.value refer c.name_at-name.result.now name_is
    c.in_ok-rest.rest.items c.in_ok-rest.ensures in
    let sig_is : c.admitted.inside.spec.sig ≡ c.args.admitted.now.spec.sig = rw (← c.admitted.view_is) refl in
    let grown = subst (λ s. c.args.block.now.bytes + length (line_text s (step_line c.args.fit.now.step))
    ≤ c.in_ok-bytes.bytes) sig_is c.in_ok-bytes.ensures in
    subst (λ s. length (claim_text s (proves c.name_at-name.result.now c.in_ok-rest.rest.items)) ≤ c.in_ok-bytes.bytes)
    (sym sig_is) (within_sum _ _ _ _ bound grown)
