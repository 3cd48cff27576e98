-- What a row says of a node: what is made, or the reason for which nothing is.
use Rattle.std.specs.Prelude.{◌≡◌, ◌⊎◌, ℕ, ◌+◌, ◌≤◌, List, Result, Ok, Err, length}
use Rattle.std.specs.List.{AllByRecursion, AllZip}
use Rattle.term_core.specs.Tree.{Tree}
use Rattle.clause_core.specs.declared.clauses.Clause.{Clause}
use Rattle.clause_core.specs.Limits.{IsWithin}
use Rattle.clause_core.specs.Tidied.{tidied}
use Rattle.clause_core.specs.Comparing.{Compares}
use Rattle.clause_core.specs.declared.answers.Child.{Child}
use Rattle.clause_core.specs.declared.answers.Children.{Children}
use Rattle.clause_core.specs.declared.answers.Reference.{Reference}
use Rattle.clause_core.specs.declared.answers.Why.{Why}
use Rattle.clause_core.specs.declared.answers.Why.TheVariants.{Limit}
use Rattle.clause_core.specs.Rows.{Made, Row, child, compared_child, needs, makes}

-- each child is within the clause limits, and with the children there are at most 10,000 nodes
abbrev pub AreWithin : List Clause → List Child → Type 0
AreWithin nodes children = AllByRecursion (λ (d : Child). IsWithin d.clause) children
    × (length nodes + length children ≤ 10000)

-- the answer is what is made, or if that passes a limit it is this reason
abbrev pub AnswersWithin : List Clause → Children → Result Children Why → Type 0
AnswersWithin nodes made answer =
    (AreWithin nodes made.clauses × (answer ≡ Ok made))
    ⊎ ((AreWithin nodes made.clauses → ⊥) × (answer ≡ Err Limit))

module _ (above : Tree → Tree → Type 0) (c : Clause) where
  -- the child is tidied; the clause is compared with it before that
  abbrev pub IsChild : Made → Child → Type 0
  IsChild (child relation d) made = (made.clause ≡ tidied d) × (made.relation ≡ relation)
  IsChild (compared_child d) made = (made.clause ≡ tidied d) × Compares above c d made.relation

  -- the clause is compared with the instance of the node that is referred to
  abbrev pub IsReference : ℕ × Clause → Reference → Type 0
  IsReference r made = (made.node ≡ r.0) × Compares above c r.1 made.relation

  -- what the row says of the clause, over the nodes so far: the reason of the first condition that
  -- isn't met, or what is made; the limits are the last condition
  abbrev pub Says : List Clause → Row → Result Children Why → Type 0
  Says nodes (needs P why rest) answer =
      ((p : P) × Says nodes (rest p) answer) ⊎ ((P → ⊥) × (answer ≡ Err why))
  Says nodes (makes children refs) answer =
      (made : Children) × AllZip IsChild children made.clauses × AllZip IsReference refs made.refs
      × AnswersWithin nodes made answer
