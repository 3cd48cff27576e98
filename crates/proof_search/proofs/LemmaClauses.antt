-- The clauses of lemmas are sorted.
use Rattle.std.proofs.Common.{◌≡◌, ℕ, List, [], ◌∷◌, ◌++◌, Option, Some, None, refl, ap, sym, ◌∙◌, map, length}
use Rattle.std.specs.Prelude.{slice_get, option_map, option_to_list, ◌==◌, filter}
use Rattle.std.proofs.lemmas.Option.{slice_get-map}
use Rattle.std.specs.List.{AllByRecursion, flat_map, range_with_len, list_any}
use Rattle.term_core.proofs.Items.{all_at}
use Rattle.spec_core.specs.declared.records.Goal.{Goal}
use Rattle.spec_core.specs.declared.records.Spec.{Spec}
use Rattle.spec_core.specs.declared.records.VarInfo.{VarInfo}
use Rattle.spec_core.specs.WellSorted.{IsWellSorted, GoalIsSorted, sorts_of}
use Rattle.spec_core.specs.Sig.{Sig, IsSort}
use Rattle.clause_core.specs.declared.clauses.Clause.{Clause}
use Rattle.clause_core.specs.Clauses.{ClauseIsSorted}
use Rattle.clause_core.specs.ClauseLaws.{TidyingLaws}
use Rattle.clause_core.specs.Tidied.{goal_clause, written_clause}
use Rattle.routine_proof.specs.Candidates.{each}
use Rattle.routine_proof.specs.Entries.{lemma_goals}
use Rattle.proof_search.specs.declared.setting.LemmaGoal.{LemmaGoal}
use Rattle.proof_search.specs.declared.setting.Setting.{Setting}
use Rattle.proof_search.specs.Settings.{IsSetting, named, lemma_goal}

module _ (P : Goal → Type 0) (goals : List Goal)
    (each_is : (k : ℕ) (g : Goal) → slice_get goals k ≡ Some g → P g) where
  of_one : (k : ℕ) (o : Option Goal) → slice_get goals k ≡ o → (rest : List Goal) →
      AllByRecursion P rest → AllByRecursion P (option_to_list o ++ rest)
  of_one k None e rest all = all
  of_one k (Some g) e rest all = (each_is k g e, all)

  of_numbers : (ks : List ℕ) → AllByRecursion P
      (flat_map (λ k. option_to_list (slice_get goals k)) ks)
  of_numbers [] = tt
  of_numbers (k ∷ ks) = of_one k (slice_get goals k) refl
      (flat_map (λ k. option_to_list (slice_get goals k)) ks) (of_numbers ks)

all_mapped : {X Y : Type 0} (P : Y → Type 0) (f : X → Y) (xs : List X) →
    AllByRecursion (λ (x : X). P (f x)) xs → AllByRecursion P (map f xs)
all_mapped P f [] all = tt
all_mapped P f (x ∷ xs) all = (all.0, all_mapped P f xs all.1)

sorts_all : (sig : Sig) (vs : List VarInfo) →
    AllByRecursion (λ (v : VarInfo). IsSort sig v.sort) vs →
    AllByRecursion (IsSort sig) (sorts_of vs)
sorts_all sig [] h = tt
sorts_all sig (v ∷ vs) h = (h.0, sorts_all sig vs h.1)

pub sorted_goal : (spec : Spec) → TidyingLaws → IsWellSorted spec → (goal : Goal) →
    GoalIsSorted spec.sig goal → ClauseIsSorted spec.sig (goal_clause goal)
sorted_goal spec laws fine goal sorted =
    laws.keeps_sorts spec.sig (written_clause goal) fine.signature (record {
      variables = sorts_all spec.sig goal.vars sorted.variables;
      premises = sorted.premises;
      conclusions = sorted.conclusions;
    })

named_at : (s : Setting) → IsSetting s → (k : ℕ) (m : LemmaGoal) →
    slice_get s.goals.items k ≡ Some m →
    slice_get (map lemma_goal (lemma_goals s.spec.now s.lemmas.now)) k ≡ Some (named m)
named_at s is k m at =
    ap (λ (ps : List (List ℕ × Clause)). slice_get ps k) (sym is.goals)
    ∙ slice_get-map named s.goals.items k
    ∙ ap (λ (o : Option LemmaGoal). option_map named o) at

pub lemma_sorted : (s : Setting) → TidyingLaws → IsSetting s → (k : ℕ) (m : LemmaGoal) →
    slice_get s.goals.items k ≡ Some m → ClauseIsSorted s.spec.now.sig m.clause
unfolding each
lemma_sorted s laws is k m at =
    all_at (λ (p : List ℕ × Clause). ClauseIsSorted s.spec.now.sig p.1)
    (map lemma_goal (lemma_goals s.spec.now s.lemmas.now))
    (all_mapped (λ (p : List ℕ × Clause). ClauseIsSorted s.spec.now.sig p.1) lemma_goal
    (lemma_goals s.spec.now s.lemmas.now)
    (of_numbers (λ (g : Goal). ClauseIsSorted s.spec.now.sig (goal_clause g)) s.spec.now.goals
    (λ j g e. sorted_goal s.spec.now laws is.fine g (is.fine.goals j g e))
    (filter (λ k. list_any (λ n. n == k) s.lemmas.now)
    (range_with_len 0 (length s.spec.now.goals)))))
    k (named m) (named_at s is k m at)

-- each is the clause of a goal of its name
pub record IsListedGoal (spec : Spec) (p : List ℕ × Clause) : Type 0 where
  pub number : ℕ
  pub goal : Goal
  pub is : slice_get spec.goals number ≡ Some goal
  pub made : p ≡ lemma_goal goal

pub lemma_listed : (s : Setting) → IsSetting s → (k : ℕ) (m : LemmaGoal) →
    slice_get s.goals.items k ≡ Some m → IsListedGoal s.spec.now (named m)
unfolding each
lemma_listed s is k m at =
    all_at (IsListedGoal s.spec.now)
    (map lemma_goal (lemma_goals s.spec.now s.lemmas.now))
    (all_mapped (IsListedGoal s.spec.now) lemma_goal (lemma_goals s.spec.now s.lemmas.now)
    (of_numbers (λ (g : Goal). IsListedGoal s.spec.now (lemma_goal g)) s.spec.now.goals
    (λ j g e. record { number = j; goal = g; is = e; made = refl })
    (filter (λ k. list_any (λ n. n == k) s.lemmas.now)
    (range_with_len 0 (length s.spec.now.goals)))))
    k (named m) (named_at s is k m at)
