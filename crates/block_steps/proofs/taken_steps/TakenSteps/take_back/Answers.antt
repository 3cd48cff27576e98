use Rattle.std.proofs.Common.{◌≡◌, ◌-◌, ap, arith, length, sym, ◌∙◌}
use Rattle.clause_core.specs.declared.answers.Children.{Children}
use Rattle.block_steps.proofs.TakenBack.{first_clauses, one_last}
use Rattle.block_steps.proofs.taken_steps.TakenSteps.take_back.Goals as goal

pub returns : goal.returns
returns c = record {
  last = λ links link is.
      let same = one_last c.pop.new.self.items links c.in-Some.last link (sym c.in-Some.ensures.items ∙ is) in
      let count : length c.in-Some.last.clauses ≡ length link.clauses =
      ap (λ (x : Children). length x.clauses) same.1 in
      let left : c.saturating_sub-left.result ≡ length c.args.self.now.nodes.items - length link.clauses =
      omega (arith, c.saturating_sub-left.ensures, c.len.ensures, c.len-2.ensures, count) in (
        same.0,
        first_clauses c.args.self.now.nodes.items c.truncate.new.self.items c.saturating_sub-left.result
            (length link.clauses) c.truncate.ensures.items left,
      );
  none = λ is. absurd (omega (arith, c.in-Some.ensures.len, ap length is));
}
