-- The rows that compare nothing.
use Rattle.std.proofs.Common.{ℕ, List, [], ◌∷◌, Bool, true, false, map}
use Rattle.std.specs.List.{AllByRecursion}
use Rattle.term_core.specs.Tree.{Tree}
use Rattle.spec_core.specs.declared.records.Spec.{Spec}
use Rattle.clause_core.specs.declared.clauses.Clause.{Clause}
use Rattle.clause_core.specs.declared.clauses.Relation.{Relation}
use Rattle.clause_core.specs.declared.steps.Place.{Place}
use Rattle.clause_core.specs.Rows.{child}
use Rattle.clause_core.specs.Closing.{trivial_row, match_row, absurd_row}
use Rattle.clause_core.specs.Subsuming.{by_lemma_row}
use Rattle.clause_core.specs.Rewriting.{rule_row}
use Rattle.clause_core.specs.CaseSplitting.{case_row}
use Rattle.clause_core.specs.Simplifying.{decompose_row, clash_row, drop_row}
use Rattle.clause_core.specs.Solving.{solve_row}
use Rattle.clause_core.specs.Covering.{cover_row}
use Rattle.clause_core.specs.Generalizing.{generalize_row}
use Rattle.inference_rules.proofs.Alone.{IsRelated, ComparesNothing}

-- children that have their relation from the row
all_related : {X : Type 0} (relation : Relation) (made : X → Clause) (xs : List X) →
    AllByRecursion IsRelated (map (λ x. child relation (made x)) xs)
all_related relation made [] = tt
all_related relation made (x ∷ xs) = (tt, all_related relation made xs)

module _ (spec : Spec) (c : Clause) where
  pub trivial_alone : (number : ℕ) → ComparesNothing (trivial_row spec c number)
  trivial_alone number = λ at same. (tt, tt)

  pub match_alone : (conclusion premise : ℕ) → ComparesNothing (match_row spec c conclusion premise)
  match_alone conclusion premise = λ at same. (tt, tt)

  pub absurd_alone : (number : ℕ) → ComparesNothing (absurd_row spec c number)
  absurd_alone number = λ at clash. (tt, tt)

  pub by_lemma_alone : (usable : ℕ → Type 0) (name : List ℕ) (terms : List Tree) →
      ComparesNothing (by_lemma_row spec c usable name terms)
  by_lemma_alone usable name terms = λ lemma sorted within subsumes. (tt, tt)

  pub rule_alone : (place : Place) (number : ℕ) → ComparesNothing (rule_row spec c place number)
  rule_alone place number = λ at by_rule m. ((tt, tt), tt)

  pub case_alone : (place : Place) (number : ℕ) → ComparesNothing (case_row spec c place number)
  case_alone place number = λ at by_rule m. (all_related _ _ _, tt)

  pub decompose_alone : (kind : Bool) (number : ℕ) → ComparesNothing (decompose_row spec c kind number)
  decompose_alone false number = λ at heads. ((tt, tt), tt)
  decompose_alone true number = λ at heads. (all_related _ _ _, tt)

  pub clash_alone : (number : ℕ) → ComparesNothing (clash_row spec c number)
  clash_alone number = λ at clash. ((tt, tt), tt)

  pub drop_alone : (kind : Bool) (number : ℕ) → ComparesNothing (drop_row spec c kind number)
  drop_alone kind number = λ at. ((tt, tt), tt)

  pub solve_alone : (number : ℕ) → ComparesNothing (solve_row spec c number)
  solve_alone number = λ at solved. ((tt, tt), tt)

  pub cover_alone : (n : ℕ) (patterns : List Tree) → ComparesNothing (cover_row spec c n patterns)
  cover_alone n patterns = λ are covering. (all_related _ _ _, tt)

  pub generalize_alone : (t : Tree) → ComparesNothing (generalize_row spec c t)
  generalize_alone t = λ general stands. ((tt, tt), tt)
