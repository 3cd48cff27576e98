use Rattle.std.proofs.Common.{rules, ◌≡◌, ℕ, MatchOption, Option, Some, None, ap, sym, ◌∙◌}
use Rattle.term_core.specs.Tree.{Tree}
use Rattle.term_core.specs.Variables.{Numbered, occurrences}
use Rattle.clause_core.specs.Taken.{taken_after}
use Rattle.clause_core.proofs.Taken.{tree_taken, none_taken, none_stays}
use Rattle.clause_core.proofs.standing.taken_with_term.Goals as goal

pub returns-in_err-taken : goal.returns-in_err-taken
returns-in_err-taken c =
    let none : c.args.taken ≡ None = search rules in
    let result : c.from_residual.result ≡ None = search rules in
    result ∙ sym (ap (λ taken. taken_after taken (occurrences c.args.term.now)) none
    ∙ none_stays (occurrences c.args.term.now))

-- the answer for a term is what is taken after its variables
answered :
    (k : ℕ) (t : Tree) (answer : Option ℕ) →
    MatchOption answer ((m : ℕ) → Numbered k t m → ⊥) (λ m. Numbered k t m) →
    answer ≡ taken_after (Some k) (occurrences t)
answered k t None h = sym (none_taken t k h)
answered k t (Some m) h = sym (tree_taken t k m h)

pub returns : goal.returns
returns c =
    let k : c.args.taken ≡ Some c.in_ok-taken.field-0 = search rules in
    answered c.in_ok-taken.field-0 c.args.term.now c.numbered_after.result c.numbered_after.ensures
    ∙ ap (λ taken. taken_after taken (occurrences c.args.term.now)) (sym k)
