use Rattle.std.proofs.Common.{arith, ◌≡◌, Some, ap, length, sym, ◌∙◌, subst}
use Rattle.term_core.specs.Variables.{Occurs}
use Rattle.spec_core.specs.declared.records.Spec.{Spec}
use Rattle.spec_core.specs.Sig.{info_of}
use Rattle.spec_core.specs.TermText.{SymbolsAreInRange}
use Rattle.rule_code.specs.Programs.{IsSide}
use Rattle.sample_values.specs.Evaluators.{applied}
use Rattle.sample_values.proofs.Calling.{applied_symbols, applied_variables, sides_more}
use Rattle.sample_values.proofs.sides.compile_symbols.Goals as goal

pub with_term-requires-clause-symbols : goal.with_term-requires-clause-symbols
with_term-requires-clause-symbols c =
    let term = c.in_ok-term.ensures ∙ ap (λ n. applied c.loop-number.number n) c.len-count.ensures in
    subst (λ (s : Spec). SymbolsAreInRange s.sig c.in_ok-term.term) (sym c.loop-number.invariant.spec)
    (subst (λ t. SymbolsAreInRange c.args.spec.now.sig t) (sym term)
    (applied_symbols c.args.spec.now.sig c.loop-number.number c.info.result.now c.info.ensures))

pub with_term-requires-clause-variables : goal.with_term-requires-clause-variables
with_term-requires-clause-variables c n occurs =
    let term = c.in_ok-term.ensures ∙ ap (λ k. applied c.loop-number.number k) c.len-count.ensures in
    let within = applied_variables c.args.spec.now.sig c.loop-number.number c.info.result.now c.info.ensures n
    (subst (λ t. Occurs n t) term occurs) in
    omega (arith, within, c.len-count.ensures)

pub loop-number-preserved : goal.loop-number-preserved
loop-number-preserved c =
    let info = c.info.result.now in
    let term = c.in_ok-term.ensures ∙ ap (λ k. applied c.loop-number.number k) c.len-count.ensures in
    let at = subst (λ (s : Spec). info_of s.sig c.loop-number.number ≡ Some info) (sym c.loop-number.invariant.spec)
    c.info.ensures in
    let side = subst (λ t. IsSide c.in_ok-with_term.with_term c.in_ok-with_term.side c.len-count.result t) term
    c.in_ok-with_term.ensures.side in
    record {
      spec = c.in_ok-with_term.ensures.spec ∙ c.loop-number.invariant.spec;
      sides = sides_more c.loop-number.machine c.in_ok-with_term.with_term c.loop-number.sides.items
          c.push.new.self.items c.loop-number.number c.in_ok-with_term.side info c.in_ok-with_term.ensures.spec
          c.in_ok-with_term.ensures.adds c.in_ok-push.ensures.items c.loop-number.invariant.count at
          (subst (λ k. IsSide c.in_ok-with_term.with_term c.in_ok-with_term.side k
          (applied c.loop-number.number (length info.args))) c.len-count.ensures side) c.loop-number.invariant.sides;
      count = omega (arith, c.in_ok-push.ensures.len, c.loop-number.invariant.count);
    }
