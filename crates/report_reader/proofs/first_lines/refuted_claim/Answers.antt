use Rattle.std.proofs.Common.{◌++◌, [], refl, ap, ◌∙◌, codes, arith}
use Rattle.proof_script.proofs.ClaimReads.{short_by}
use Rattle.std.specs.Fmt.{decimal}
use Rattle.report_reader.specs.Numbers.{IsNumberBehind}
use Rattle.report_reader.proofs.FirstReads.{one_name, from_refuted, no_refuted}
use Rattle.report_reader.proofs.NumberReads.{one_number}
use Rattle.report_reader.proofs.first_lines.refuted_claim.Goals as goal

pub returns-in_default : goal.returns-in_default
returns-in_default c = λ sig d first h. no_refuted sig c.args.words.now
    (λ g i n x l w. (rw c.in_default.is at c.in_ok-goal.ensures) sig g (from_refuted sig i n) w) first h

pub returns-in_default-number_behind : goal.returns-in_default-number_behind
returns-in_default-number_behind c =
    let words = c.args.words.now in
    λ sig d first h. no_refuted sig words (λ g i n x l w.
    let same = one_name sig words c.in-Some.goal c.in-Some.others.now g (from_refuted sig i n)
    ((rw c.in-Some.is at c.in_ok-goal.ensures) sig) w in
    c.in_default-number_behind.ensures i (codes " with " ++ (decimal n ++ []))
    (record { short = x; is = same.rest; ends = refl })) first h

pub returns-in_default-last_number : goal.returns-in_default-last_number
returns-in_default-last_number c =
    let words = c.args.words.now in
    let others = c.in-Some.others.now in
    let k = c.in-Some-number_behind in
    λ sig d first h. no_refuted sig words (λ g i n x l w.
    let same = one_name sig words c.in-Some.goal others g (from_refuted sig i n)
    ((rw c.in-Some.is at c.in_ok-goal.ensures) sig) w in
    let at : IsNumberBehind (codes " index") others i (codes " with "
    ++ (decimal n ++ [])) = record { short = x; is = same.rest; ends = refl } in
    let rest = (one_number (codes " index") others k.index k.rest.now i (codes " with " ++ (decimal n ++ []))
    k.ensures at).1 in
    c.in_default-last_number.ensures n (record { short = short_by 16 n l (omega arith); is = rest; ends = tt })) first h

pub returns-then-values-gt-MAX_VALUES : goal.returns-then-values-gt-MAX_VALUES
returns-then-values-gt-MAX_VALUES c =
    let words = c.args.words.now in
    let others = c.in-Some.others.now in
    let k = c.in-Some-number_behind in
    let v = c.in-Some-last_number in
    λ sig d first h. no_refuted sig words (λ g i n x l w.
    let same = one_name sig words c.in-Some.goal others g (from_refuted sig i n)
    ((rw c.in-Some.is at c.in_ok-goal.ensures) sig) w in
    let at : IsNumberBehind (codes " index") others i (codes " with "
    ++ (decimal n ++ [])) = record { short = x; is = same.rest; ends = refl } in
    let rest = (one_number (codes " index") others k.index k.rest.now i (codes " with " ++ (decimal n ++ []))
    k.ensures at).1 in
    let last : IsNumberBehind (codes " with") k.rest.now n
    [] = record { short = short_by 16 n l (omega arith); is = rest; ends = tt } in
    omega (arith, l, (one_number (codes " with") k.rest.now v.values [] n [] v.ensures last).0)) first h

pub returns : goal.returns
returns c =
    let k = c.in-Some-number_behind in
    let v = c.in-Some-last_number in
    λ sig.
    let got = (rw c.in-Some.is at c.in_ok-goal.ensures) sig in
    record {
      named = refl;
      stands = (got.stands, k.ensures.short, omega arith);
      is = got.is ∙ ap (λ z. codes " " ++ (c.in-Some.goal ++ z)) (k.ensures.is
          ∙ ap (λ z. codes " index " ++ (decimal k.index ++ z)) v.ensures.is);
    }
