use Rattle.spec_grammar.proofs.KeepsLimits.{keeps_limits}
use Rattle.sort_check.proofs.FewDeclarations.{few_declarations}
use Rattle.case_input.proofs.specifications.specification.Goals as goal

pub elaborate-requires : goal.elaborate-requires
elaborate-requires c = record {
  few = few_declarations c.in-Ok.raw
      (keeps_limits c.args.bytes.now c.in-Ok.raw c.in-Ok.ensures.derived);
}

pub returns : goal.returns
returns c = record {
  sorted = c.in-Ok-elaborate.ensures.sorted
      (keeps_limits c.args.bytes.now c.in-Ok.raw c.in-Ok.ensures.derived);
}
