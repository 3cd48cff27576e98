-- A goal within the limits has few variables, so few starts; and the starts from a variable on.
use Rattle.std.proofs.Common.{◌≡◌, ℕ, suc, ◌+◌, ◌-◌, ◌<◌, ◌≤◌, List, [], ◌∷◌, map, inl, inr, length, ap, arith}
use Rattle.std.specs.List.{range_with_len}
use Rattle.term_core.specs.Tree.{Tree, Trees, var, app, none, some, trees_of, tree_size, sizes}
use Rattle.term_core.specs.Variables.{Numbered, NumberedAll}
use Rattle.spec_core.specs.declared.records.Goal.{Goal}
use Rattle.clause_core.specs.declared.clauses.Clause.{Clause}
use Rattle.clause_core.specs.ClauseLaws.{TidyingLaws}
use Rattle.clause_core.specs.Clauses.{sides}
use Rattle.clause_core.specs.Limits.{IsWithin}
use Rattle.clause_core.specs.Tidied.{IsTidied, goal_clause, written_clause}
use Rattle.routine_proof.specs.Routine.{Start, split}

mutual
  numbered_few : (t : Tree) (k m : ℕ) → Numbered k t m → m ≤ k + tree_size t
  numbered_few (var n) k m (inl h) = omega (arith, h.1)
  numbered_few (var n) k m (inr h) = omega (arith, h.1)
  numbered_few (app f ts) k m h = omega (arith, all_numbered_few ts k m h)

  all_numbered_few : (ts : Trees) (k m : ℕ) → NumberedAll k ts m → m ≤ k + sizes ts
  all_numbered_few none k m h = omega (arith, h)
  all_numbered_few (some t ts) k m h =
      omega (arith, numbered_few t k h.0 h.1, all_numbered_few ts h.0 m h.2)

few_variables : (c : Clause) → IsTidied c → IsWithin c → length c.ctx ≤ 4000
few_variables c is_tidied within =
    let all = all_numbered_few (trees_of (sides c)) 0 (length c.ctx) is_tidied in
    let size = within.size in
    omega (arith, all, size)

pub few_starts :
    TidyingLaws → (goal : Goal) → IsWithin (goal_clause goal) → length (goal_clause goal).ctx ≤ 4000
few_starts laws goal within =
    few_variables (goal_clause goal) (laws.is_tidied (written_clause goal)) within

-- the splits from variable n on
abbrev pub splits_from : ℕ → ℕ → List Start
splits_from n count = map split (range_with_len n (count - n))

pub next_split :
    (n count : ℕ) → n < count →
    splits_from n count ≡ split n ∷ splits_from (n + 1) count
next_split n count lt =
    let e : count - n ≡ suc (count - (n + 1)) = omega arith in
    ap (λ k. map split (range_with_len n k)) e

pub no_split_left : (n count : ℕ) → count ≤ n → splits_from n count ≡ []
no_split_left n count le =
    let e : count - n ≡ 0 = omega arith in
    ap (λ k. map split (range_with_len n k)) e
