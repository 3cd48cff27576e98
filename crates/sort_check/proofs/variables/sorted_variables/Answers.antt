use Rattle.std.proofs.Common.{rules, sym, subst, ◌≡◌, None, Some}
use Rattle.spec_core.specs.Findings.{Clean}
use Rattle.sort_check.specs.Answers.{Tells}
use Rattle.sort_check.specs.GoalTests.{inferred_tests}
use Rattle.sort_check.specs.Over.{variables_of}
use Rattle.sort_check.specs.Entries.{sort_at}
use Rattle.sort_check.proofs.SortedVariables.{inferred_next, inferred_stops, inferred_end, variables_next}
use Rattle.sort_check.proofs.variables.sorted_variables.Goals as goal

pub returns-in_default : goal.returns-in_default
returns-in_default c =
    let none : sort_at c.args.known.now c.loop-place.place ≡ None = search rules in
    let h = inferred_stops c.args.entries.now c.args.known.now c.loop-place.place c.index-entries-place.result
    (search rules) c.requires c.index-entries-place.is c.loop-place.invariant.clean none in
    subst (λ e. Tells (inferred_tests c.args.entries.now c.args.known.now) e) (sym c.fault.ensures) h

pub loop-place-preserved : goal.loop-place-preserved
loop-place-preserved c =
    let known : sort_at c.args.known.now c.loop-place.place ≡ Some c.in-Some.sort = search rules in
    record {
      clean = inferred_next c.args.entries.now c.args.known.now c.loop-place.place (search rules) c.requires
          c.loop-place.invariant.clean c.in-Some.sort known;
      made = variables_next c.args.entries.now c.args.known.now c.loop-place.place c.index-entries-place.result
          c.in-Some.sort c.loop-place.vars c.push.new.self (search rules) c.requires c.index-entries-place.is
          known c.loop-place.invariant.made (search rules);
    }

pub returns : goal.returns
returns c = inferred_end c.args.entries.now c.args.known.now c.loop-place.place c.loop-place-test.false
    c.requires (λ es ks. Clean (inferred_tests es ks) × (c.loop-place.vars ≡ variables_of es ks))
    (c.loop-place.invariant.clean, c.loop-place.invariant.made)
