use Rattle.std.proofs.Common.{◌++◌, [], refl, ap, ◌∙◌, codes, arith}
use Rattle.proof_script.proofs.ClaimReads.{short_by}
use Rattle.report_reader.specs.Numbers.{IsNumberBehind}
use Rattle.report_reader.proofs.FirstReads.{one_name, from_proved, no_proved}
use Rattle.report_reader.proofs.NumberReads.{one_number}
use Rattle.report_reader.proofs.first_lines.proved_claim.Goals as goal

pub returns-in_default : goal.returns-in_default
returns-in_default c = λ sig d first h. no_proved sig c.args.words.now
    (λ g n l w. (rw c.in_default.is at c.in_ok-goal.ensures) sig g (from_proved sig n) w) first h

pub returns-in_default-last_number : goal.returns-in_default-last_number
returns-in_default-last_number c =
    let words = c.args.words.now in
    λ sig d first h. no_proved sig words (λ g n l w.
    let same = one_name sig words c.in-Some.goal c.in-Some.others.now g (from_proved sig n)
    ((rw c.in-Some.is at c.in_ok-goal.ensures) sig) w in
    c.in_default-last_number.ensures n
    (record { short = short_by 10000 n l (omega arith); is = same.rest; ends = tt })) first h

pub returns-then-nodes-gt-MOST_NODES : goal.returns-then-nodes-gt-MOST_NODES
returns-then-nodes-gt-MOST_NODES c =
    let words = c.args.words.now in
    let others = c.in-Some.others.now in
    λ sig d first h. no_proved sig words (λ g n l w.
    let same = one_name sig words c.in-Some.goal others g (from_proved sig n)
    ((rw c.in-Some.is at c.in_ok-goal.ensures) sig) w in
    let at : IsNumberBehind (codes " nodes") others n [] = record {
      short = short_by 10000 n l (omega arith);
      is = same.rest;
      ends = tt;
    } in
    omega (
      arith,
      l,
      (one_number (codes " nodes") others c.in-Some-last_number.nodes [] n []
          c.in-Some-last_number.ensures at).0,
    )) first h

pub returns : goal.returns
returns c =
    λ sig.
    let got = (rw c.in-Some.is at c.in_ok-goal.ensures) sig in
    record {
      named = refl;
      stands = (got.stands, omega arith);
      is = got.is
          ∙ ap (λ z. codes " " ++ (c.in-Some.goal ++ z)) c.in-Some-last_number.ensures.is;
    }
