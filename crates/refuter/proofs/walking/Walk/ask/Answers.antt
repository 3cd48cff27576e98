use Rattle.std.proofs.Common.{arith, subst}
use Rattle.ground_eval.specs.Opened.{IsPart}
use Rattle.refuter.proofs.Walks.{first_values, variables_long}
use Rattle.rule_code.proofs.Testing.{terms_count}
use Rattle.refuter.proofs.walking.Walk.ask.Goals as goal

pub size-requires-clause-last : goal.size-requires-clause-last
size-requires-clause-last c = (c.requires.begun.1.sorts, c.requires.begun.1.parted)

pub part-requires-clause-values : goal.part-requires-clause-values
part-requires-clause-values c = (
  c.requires.begun.0,
  c.requires.begun.1.stand,
  first_values _ _ _ _ _ _ c.requires.walk c.args.bank.now c.args.row.now c.args.sorts.now c.requires.begun.0
      c.requires.begun.1,
)

pub overflow_sub-count : goal.overflow_sub-count
overflow_sub-count c =
    let firsts = c.requires.begun.0 in
    let part = subst (λ p. IsPart c.args.self.now.prepared.now.spec c.args.self.now.prepared.now.goal firsts
    c.args.self.now.budget p) c.in-Looks.is (c.in_ok-verdict.ensures.part firsts c.requires.begun.1.stand) in
    let n = terms_count c.args.bank.now c.args.row.now firsts c.requires.begun.1.stand in
    omega (arith, part.0)

pub returns-in-All-clause-asked : goal.returns-in-All-clause-asked
returns-in-All-clause-asked c firsts h = (
  c.in-Some.ensures.size,
  subst (λ p. IsPart c.args.self.now.prepared.now.spec c.args.self.now.prepared.now.goal firsts
      c.args.self.now.budget p) c.in-All.is (c.in_ok-verdict.ensures.part firsts h),
)

pub returns-in-Looks-clause-asked : goal.returns-in-Looks-clause-asked
returns-in-Looks-clause-asked c firsts h =
    let first = c.requires.begun.0 in
    let part = subst (λ p. IsPart c.args.self.now.prepared.now.spec c.args.self.now.prepared.now.goal first
    c.args.self.now.budget p) c.in-Looks.is (c.in_ok-verdict.ensures.part first c.requires.begun.1.stand) in
    let n = terms_count c.args.bank.now c.args.row.now first c.requires.begun.1.stand in
    let m = variables_long _ _ _ _ _ _ c.requires.walk c.args.bank.now c.args.row.now c.args.sorts.now
    c.requires.begun.0 c.requires.begun.1 in
    (omega (arith, part.0), omega (arith, part.1))
