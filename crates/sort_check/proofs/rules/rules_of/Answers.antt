use Rattle.std.proofs.Common.{rules, Err, ◌≡◌, ◌<◌, ◌+◌, ◌∙◌, ap, subst, arith, length, length-set, take, []}
use Rattle.std.specs.Prelude.{slice_index}
use Rattle.std.proofs.lemmas.List.{get_or_read}
use Rattle.spec_core.specs.Findings.{Clean, each_after}
use Rattle.spec_core.proofs.Findings.{after_next}
use Rattle.sort_check.specs.Answers.{Tells}
use Rattle.sort_check.specs.Parts.{counted_tests, below_tests}
use Rattle.sort_check.specs.RuleTests.{rule_tests}
use Rattle.sort_check.specs.Rules.{RuleStands}
use Rattle.sort_check.proofs.Pairs.{pairs_next}
use Rattle.sort_check.proofs.RuleCounts.{rule_split, root_within, counts_next}
use Rattle.sort_check.proofs.Telling.{answer_err, after_tells, tells_first, tells_then}
use Rattle.sort_check.proofs.rules.rules_of.Goals as goal

pub returns-in_err-sym : goal.returns-in_err-sym
returns-in_err-sym c =
    let sig = c.args.sig.now in
    let raw = c.raw-item.result in
    let counts = c.loop-raw.counts.items in
    let e = c.in_err-sym.field-0.0 in
    let q : c.from_residual-in_err-sym.result ≡ Err e = search rules in
    let h : Tells (counted_tests sig c.args.most counts raw.left) e = subst
    (λ ns. Tells (counted_tests sig c.args.most ns raw.left) e) c.deref.ensures.value c.in_err-sym.ensures.root in
    let here = rule_split sig c.args.most counts (take c.loop-raw.raw-index c.args.raws.now) raw
    c.loop-raw.invariant.counts (λ s. Tells s e)
    (tells_first (counted_tests sig c.args.most counts raw.left) (below_tests sig raw.left raw) e h) in
    answer_err (each_after (rule_tests sig c.args.most) [] c.args.raws.now) _ c.from_residual-in_err-sym.result
    e q (after_tells (rule_tests sig c.args.most) c.args.raws.now c.loop-raw.raw-index raw e
    c.loop-raw-test.true c.raw-item.is c.loop-raw.invariant.clean here)

pub returns-in_err-rule_of : goal.returns-in_err-rule_of
returns-in_err-rule_of c =
    let sig = c.args.sig.now in
    let raw = c.raw-item.result in
    let counts = c.loop-raw.counts.items in
    let e = c.in_err-rule_of.field-0.0 in
    let q : c.from_residual-in_err-rule_of.result ≡ Err e = search rules in
    let first : Clean (counted_tests sig c.args.most counts raw.left) = subst
    (λ ns. Clean (counted_tests sig c.args.most ns raw.left)) c.deref.ensures.value c.in_ok-sym.ensures.root.0 in
    let here = rule_split sig c.args.most counts (take c.loop-raw.raw-index c.args.raws.now) raw
    c.loop-raw.invariant.counts (λ s. Tells s e) (tells_then (counted_tests sig c.args.most counts raw.left)
    (below_tests sig raw.left raw) e first c.in_err-rule_of.ensures) in
    answer_err (each_after (rule_tests sig c.args.most) [] c.args.raws.now) _
    c.from_residual-in_err-rule_of.result e q (after_tells (rule_tests sig c.args.most) c.args.raws.now
    c.loop-raw.raw-index raw e c.loop-raw-test.true c.raw-item.is c.loop-raw.invariant.clean here)

pub loop-raw-preserved : goal.loop-raw-preserved
loop-raw-preserved c =
    let sig = c.args.sig.now in
    let raw = c.raw-item.result in
    let counts = c.loop-raw.counts.items in
    let f = c.in_ok-sym.sym.0 in
    let first : Clean (counted_tests sig c.args.most counts raw.left) = subst
    (λ ns. Clean (counted_tests sig c.args.most ns raw.left)) c.deref.ensures.value c.in_ok-sym.ensures.root.0 in
    let here = rule_split sig c.args.most counts (take c.loop-raw.raw-index c.args.raws.now) raw
    c.loop-raw.invariant.counts (λ s. Clean s) (first, c.in_ok-rule_of.ensures.0) in
    let within : f < length counts = omega (
      arith,
      root_within sig raw.left f c.in_ok-sym.ensures.root.1,
      c.loop-raw.invariant.long,
    ) in
    let value : c.index_mut.result.now + 1 ≡ slice_index counts f + 1 = ap (λ n. n + 1)
    (get_or_read counts f c.index_mut.result.now within c.index_mut.ensures.value 0) in
    record {
      long = length-set counts f (c.index_mut.result.now + 1) ∙ c.loop-raw.invariant.long;
      counts = counts_next sig c.args.raws.now c.loop-raw.raw-index raw f c.loop-raw-test.true c.raw-item.is
          c.in_ok-sym.ensures.root.1 counts within c.loop-raw.invariant.counts (c.index_mut.result.now + 1) value;
      clean = after_next (rule_tests sig c.args.most) c.args.raws.now c.loop-raw.raw-index raw
          c.loop-raw-test.true c.raw-item.is c.loop-raw.invariant.clean here;
      made = pairs_next (RuleStands sig) c.args.raws.now c.loop-raw.raw-index raw c.loop-raw.made
          c.push.new.self c.in_ok-rule_of.field-0 c.loop-raw-test.true c.raw-item.is c.loop-raw.invariant.made
          c.in_ok-rule_of.ensures.1 (search rules);
    }
