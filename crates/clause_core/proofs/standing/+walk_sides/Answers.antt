use Rattle.std.proofs.Common.{◌≡◌, ℕ, ◌-◌, List, ◌++◌, Option, take, drop, length, ap, ◌∙◌, sym}
use Rattle.term_core.specs.Tree.{Tree, trees_of}
use Rattle.term_core.specs.Variables.{occurrences, occurrences_all}
use Rattle.clause_core.specs.Clauses.{sides_of}
use Rattle.clause_core.specs.Taken.{taken_after}
use Rattle.clause_core.proofs.Taken.{taken_append}
use Rattle.clause_core.proofs.Sides.{front_sides}
use Rattle.clause_core.proofs.standing.+walk_sides.Goals as goal
use Rattle.clause_core.proofs.standing.+walk_sides.Goals.{then-walk_term, else-walk_term}

pub returns-then-walk_term-2-clause-taken : goal.returns-then-walk_term-2-clause-taken
returns-then-walk_term-2-clause-taken t c y =
    let es = c.args.equations.now in
    let e = c.first-item.result in
    let others : List ℕ = occurrences_all (trees_of (sides_of (take (length es - 1) (drop 1 es)))) in
    let old = c.args.walk.now.taken in
    let both : c.if-walk_term.walk.taken ≡ taken_after (taken_after old (occurrences e.left))
    (occurrences e.right) = elim c.if-walk_term.branch [
      | then-walk_term w ↦
          ap (λ k. k.taken) w.walk-is ∙ w.walk_term-then-walk_term.ensures.taken (sym w.value-is
          ∙ c.if-walk_term-2.true)
          ∙ ap (λ (taken : Option ℕ). taken_after taken (occurrences e.right))
          (c.walk_term.ensures.taken w.if-walk_term.true)
      | else-walk_term w ↦ absurd (let q = sym w.value-is ∙ c.if-walk_term-2.true in cc)
    ] in
    c.walk_sides.ensures.taken y
    ∙ ap (λ (taken : Option ℕ). taken_after taken others) both
    ∙ sym (taken_append (taken_after old (occurrences e.left)) (occurrences e.right) others)
    ∙ sym (taken_append old (occurrences e.left) (occurrences e.right ++ others))
    ∙ ap (λ (ts : List Tree). taken_after old (occurrences_all (trees_of ts)))
    (sym (front_sides es e c.in-len1-up.len_at_least c.first-item.is))
