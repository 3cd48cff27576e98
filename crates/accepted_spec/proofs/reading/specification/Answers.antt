use Rattle.std.proofs.Common.{◌∙◌, ap, sym, arith, length}
use Rattle.std.specs.Prelude.{Err}
use Rattle.spec_grammar.specs.Grammar.{IsSpecText}
use Rattle.spec_grammar.proofs.KeepsLimits.{keeps_limits}
use Rattle.sort_check.specs.FirstFault.{HasFirstFault}
use Rattle.accepted_spec.specs.declared.refusals.Subject.TheVariants.{File}
use Rattle.sort_check.proofs.FewDeclarations.{few_declarations}
use Rattle.clause_core.specs.Admitted.{IsAdmitted}
use Rattle.spec_order.specs.Orders.{order_of}
use Rattle.spec_order.proofs.OwnOrders.{by_own_order}
use Rattle.spec_admit.specs.FirstFault.{Tells as IsFirstFault}
use Rattle.accepted_spec.proofs.Told.{syntax_told, sort_told}
use Rattle.accepted_spec.proofs.Accepting.{spec_within, text_told, accepted_as, refused_as, back_printable}
use Rattle.accepted_spec.proofs.reading.specification.Goals as goal

pub elaborate-requires : goal.elaborate-requires
elaborate-requires c = record {
  few = few_declarations c.in-Ok.raw
      (keeps_limits c.args.bytes.now c.in-Ok.raw c.in-Ok.ensures.derived);
}

pub returns-in-Err-clause-refused : goal.returns-in-Err-clause-refused
returns-in-Err-clause-refused c = text_told c.args.bytes.now c.syntax_refusal.result
    (syntax_told File IsSpecText HasFirstFault c.args.bytes.now c.in-Err.fault c.in-Err.ensures.fault
    c.syntax_refusal.result c.syntax_refusal.ensures)

pub returns-in-Err-elaborate-clause-refused : goal.returns-in-Err-elaborate-clause-refused
returns-in-Err-elaborate-clause-refused c = text_told c.args.bytes.now c.sort_refusal.result
    (sort_told File IsSpecText HasFirstFault c.args.bytes.now c.in-Ok.raw c.in-Ok.ensures.derived
    c.in-Err-elaborate.fault (λ at kind e. c.in-Err-elaborate.ensures.fault at kind (ap (λ f. Err f) e))
    c.sort_refusal.result c.sort_refusal.ensures)

pub of-requires : goal.of-requires
of-requires c =
    (c.in-Ok-elaborate.ensures.sorted (keeps_limits c.args.bytes.now c.in-Ok.raw c.in-Ok.ensures.derived)).order

pub admit-requires-clause-sorted : goal.admit-requires-clause-sorted
admit-requires-clause-sorted c = c.in-Ok-elaborate.ensures.sorted
    (keeps_limits c.args.bytes.now c.in-Ok.raw c.in-Ok.ensures.derived)

pub admit-requires-clause-small : goal.admit-requires-clause-small
admit-requires-clause-small c = spec_within (length c.args.bytes.now) 4294967295 (omega (arith, c.requires))
    c.in-Ok-elaborate.spec (c.numbering_keeps_sizes.ensures (length c.args.bytes.now) c.in-Ok.raw
    c.in-Ok-elaborate.spec c.in-Ok.ensures.few_words c.in-Ok-elaborate.ensures.stands.numbered)

pub returns-in-Ok-admit-clause-accepted : goal.returns-in-Ok-admit-clause-accepted
returns-in-Ok-admit-clause-accepted c =
    let admitted =
    by_own_order (λ above. IsAdmitted above c.in-Ok-elaborate.spec) c.in-Ok-elaborate.spec
    c.in_ok-order.ensures c.in-Ok-admit.ensures.admitted in
    accepted_as c.args.bytes.now c.in-Ok.raw c.in-Ok-elaborate.spec c.in-Ok.ensures.derived
    c.in-Ok-elaborate.ensures.stands c.in-Ok-admit.admitted.spec c.in-Ok-admit.ensures.same_spec
    admitted

pub returns-in-Ok-admit-clause-ordered : goal.returns-in-Ok-admit-clause-ordered
returns-in-Ok-admit-clause-ordered c =
    c.in-Ok-admit.ensures.same_order ∙ c.in_ok-order.ensures
    ∙ ap order_of (sym c.in-Ok-admit.ensures.same_spec)

pub admit_refusal-requires : goal.admit_refusal-requires
admit_refusal-requires c =
    let first =
    by_own_order
    (λ above. IsFirstFault above c.in-Ok-elaborate.spec c.in-Err-admit.error.fault)
    c.in-Ok-elaborate.spec c.in_ok-order.ensures c.in-Err-admit.ensures.refused in
    back_printable c.in-Ok-elaborate.spec c.in-Err-admit.error.spec c.in-Err-admit.error.fault
    c.in-Err-admit.ensures.returned first

pub returns-in-Err-admit-clause-refused : goal.returns-in-Err-admit-clause-refused
returns-in-Err-admit-clause-refused c =
    let first =
    by_own_order
    (λ above. IsFirstFault above c.in-Ok-elaborate.spec c.in-Err-admit.error.fault)
    c.in-Ok-elaborate.spec c.in_ok-order.ensures c.in-Err-admit.ensures.refused in
    refused_as c.args.bytes.now c.in-Ok.raw c.in-Ok-elaborate.spec c.in-Ok.ensures.derived
    c.in-Ok-elaborate.ensures.stands c.in-Err-admit.error.spec c.in-Err-admit.error.fault
    c.in-Err-admit.ensures.returned first c.admit_refusal.result c.admit_refusal.ensures
