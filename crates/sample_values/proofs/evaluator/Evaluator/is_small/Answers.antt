use Rattle.std.proofs.Common.{subst}
use Rattle.value_bank.proofs.Placed.{term_within}
use Rattle.sample_values.specs.Evaluators.{HaveTerms}
use Rattle.sample_values.proofs.Placing.{last_term, terms_next}
use Rattle.sample_values.proofs.evaluator.Evaluator.is_small.Goals as goal

pub cell-requires : goal.cell-requires
cell-requires c =
    let all = subst (λ ps. HaveTerms c.self.inside.bank ps) c.in-Some.ensures.items c.loop-symbol.invariant in
    let t = last_term c.self.inside.bank c.pop.new.self.items c.in-Some.next all in
    term_within c.self.inside.bank c.in-Some.next t.0 t.1

pub loop-symbol-preserved : goal.loop-symbol-preserved
loop-symbol-preserved c =
    terms_next c.self.inside.bank c.loop-symbol.pending.items c.pop.new.self.items c.extend_from_slice.new.self.items
    c.cell.result.1.now c.in-Some.next c.cell.result.0 c.in-Some.ensures.items c.loop-symbol.invariant c.cell.ensures
    c.in_ok-extend_from_slice.ensures.items
