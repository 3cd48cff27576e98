use Rattle.std.proofs.Common.{◌++◌, refl, ap, ◌∙◌, codes}
use Rattle.report_reader.specs.FirstLines.{budget_text}
use Rattle.report_reader.proofs.FirstReads.{one_name, no_open}
use Rattle.report_reader.proofs.first_lines.open_claim.Goals as goal

pub returns-in_default : goal.returns-in_default
returns-in_default c = λ sig d first h. no_open sig c.args.words.now
    (λ g b s w. (rw c.in_default.is at c.in_ok-goal.ensures) sig g (budget_text b) w) first h

pub returns-in_default-read_budget : goal.returns-in_default-read_budget
returns-in_default-read_budget c =
    let words = c.args.words.now in
    λ sig d first h. no_open sig words
    (λ g b s w. c.in_default-read_budget.ensures b s (one_name sig words c.in-Some.goal c.in-Some.others.now
    g (budget_text b) ((rw c.in-Some.is at c.in_ok-goal.ensures) sig) w).rest) first h

pub returns : goal.returns
returns c =
    λ sig.
    let got = (rw c.in-Some.is at c.in_ok-goal.ensures) sig in
    record {
      named = refl;
      stands = (got.stands, c.in-Some-read_budget.ensures.0);
      is = got.is
          ∙ ap (λ z. codes " " ++ (c.in-Some.goal ++ z)) c.in-Some-read_budget.ensures.1;
    }
