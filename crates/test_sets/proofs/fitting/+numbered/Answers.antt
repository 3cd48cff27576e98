use Rattle.std.proofs.Common.{◌≡◌, ℕ, ◌+◌, List, Option, length, sym, subst}
use Rattle.std.specs.Prelude.{MatchOption}
use Rattle.term_core.specs.Tree.{Tree, trees_of}
use Rattle.term_core.specs.Variables.{occurrences_all}
use Rattle.test_sets.specs.Numbering.{AreNumbered}
use Rattle.test_sets.proofs.FittingPatterns.{numbered_first, next_numbered}
use Rattle.test_sets.proofs.fitting.+numbered.Goals as goal

pub all_numbered-returns-in_err-next-in-Some : goal.all_numbered-returns-in_err-next-in-Some
all_numbered-returns-in_err-next-in-Some t c =
    let sig = c.args.sig.now in
    let from = c.args.from in
    subst (λ (o : Option ℕ). MatchOption o (AreNumbered sig from (trees_of c.args.patterns.now) →
    ⊥) (λ end. AreNumbered sig from (trees_of c.args.patterns.now)
    × (end ≡ from + length (occurrences_all (trees_of c.args.patterns.now)))))
    (sym c.from_residual.ensures)
    (λ all. c.in_err-next-in-Some.ensures
    (numbered_first sig from c.in-Some.first.now (trees_of c.in-Some.others.now)
    (subst (λ (ps : List Tree). AreNumbered sig from (trees_of ps)) c.in-Some.ensures all)))

pub all_numbered-returns-in_ok-next-in-Some : goal.all_numbered-returns-in_ok-next-in-Some
all_numbered-returns-in_ok-next-in-Some t c =
    let sig = c.args.sig.now in
    subst (λ (ps : List Tree). MatchOption c.all_numbered.result (AreNumbered sig c.args.from (trees_of ps) →
    ⊥) (λ end. AreNumbered sig c.args.from (trees_of ps)
    × (end ≡ c.args.from + length (occurrences_all (trees_of ps)))))
    (sym c.in-Some.ensures)
    (next_numbered sig c.args.from c.in_ok-next-in-Some.next c.in-Some.first.now (trees_of c.in-Some.others.now)
    c.all_numbered.result c.in_ok-next-in-Some.ensures.1 c.in_ok-next-in-Some.ensures.0 c.all_numbered.ensures)
