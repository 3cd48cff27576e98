-- What a row of the table answers by itself, if no order and no number of nodes is asked.
use Rattle.std.specs.Prelude.{◌≡◌, ◌⊎◌, List, Option, Some, None, Result, Ok, Err, IfSome, map}
use Rattle.std.specs.List.{AllByRecursion}
use Rattle.clause_core.specs.declared.clauses.Clause.{Clause}
use Rattle.clause_core.specs.declared.answers.Why.{Why}
use Rattle.clause_core.specs.declared.answers.Why.TheVariants.{NoSuchPlace, NoSuchRule, DoesNotFit, Limit}
use Rattle.clause_core.specs.declared.answers.RewriteError.{RewriteError}
use Rattle.clause_core.specs.declared.answers.RewriteError.TheVariants.{NoSuchPlace as no_such_place}
use Rattle.clause_core.specs.declared.answers.RewriteError.TheVariants.{NoSuchRule as no_such_rule}
use Rattle.clause_core.specs.declared.answers.RewriteError.TheVariants.{DoesNotFit as does_not_fit, Limit as limit}
use Rattle.clause_core.specs.declared.answers.RewriteError.TheVariants.{OutOfMemory as out_of_memory}
use Rattle.clause_core.specs.Limits.{IsWithin}
use Rattle.clause_core.specs.Tidied.{tidied}
use Rattle.clause_core.specs.Rows.{Made, Row, child, compared_child, needs, makes}

-- a child's clause, tidied
abbrev pub clause_of : Made → Clause
clause_of (child relation d) = tidied d
clause_of (compared_child d) = tidied d

-- these clauses, or if one of them passes a limit of clauses the reason Limit
abbrev pub AnswersClauses : List Clause → Result (List Clause) Why → Type 0
AnswersClauses made answer =
    (AllByRecursion IsWithin made × (answer ≡ Ok made))
    ⊎ ((AllByRecursion IsWithin made → ⊥) × (answer ≡ Err Limit))

-- the reason of the first condition of the row that isn't met, or the clauses of its children; the
-- limits of clauses are the last condition
abbrev pub RowAnswers : Row → Result (List Clause) Why → Type 0
RowAnswers (needs P why rest) answer =
    ((p : P) × RowAnswers (rest p) answer) ⊎ ((P → ⊥) × (answer ≡ Err why))
RowAnswers (makes children refs) answer = AnswersClauses (map clause_of children) answer

-- the reason that an error says; want of memory says none
abbrev pub reason_of : RewriteError → Option Why
reason_of no_such_place = Some NoSuchPlace
reason_of no_such_rule = Some NoSuchRule
reason_of does_not_fit = Some DoesNotFit
reason_of limit = Some Limit
reason_of out_of_memory = None

-- the row answers the reason that the error says
abbrev pub IsRefused : Row → RewriteError → Type 0
IsRefused row error = IfSome (reason_of error) (λ why. RowAnswers row (Err why))
