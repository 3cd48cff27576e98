-- How many arguments the symbols of a sorted term have.
use Rattle.std.proofs.Common.{◌≡◌, ℕ, suc, ◌+◌, ◌≤◌, List, [], ◌∷◌}
use Rattle.std.proofs.Common.{refl, sym, ap, subst, length, arith}
use Rattle.term_core.specs.Tree.{Tree, Trees, var, app, none, some, list_of, trees_of}
use Rattle.term_core.specs.declared.ids.SortId.{SortId}
use Rattle.spec_core.specs.Sig.{Sig}
use Rattle.spec_core.specs.Sorts.{Sorted, SortedAll}
use Rattle.spec_core.specs.declared.records.Spec.{Spec}
use Rattle.spec_core.specs.WellSorted.{HasFewArguments, IsWellSorted}
use Rattle.spec_core.proofs.Keeps.{keeps}
use Rattle.ground_eval.specs.declared.answers.Eval.{Eval}
use Rattle.ground_eval.specs.declared.answers.Eval.TheVariants.{Value, Large, Spent}
use Rattle.ground_eval.specs.Evals.{IsEval}
use Rattle.report_pages.specs.Differences.{HasFewBelow, HaveFewBelow, IsNarrow}

listed_length : (ts : List Tree) → length (list_of (trees_of ts)) ≡ length ts
listed_length [] = refl
listed_length (t ∷ ts) = ap (λ n. suc n) (listed_length ts)

-- what holds of a term's arguments
pub arguments_narrow : (t : Tree) (f : ℕ) (ts : List Tree) → app f (trees_of ts) ≡ t → HasFewBelow t →
    (1 + length ts ≤ 255) × HaveFewBelow (trees_of ts)
arguments_narrow t f ts is h =
    let narrow = subst HasFewBelow (sym is) h in
    let count = listed_length ts in
    (omega (arith, narrow.0, count), narrow.1)

module _ (sig : Sig) where
  sorted_length : (ctx : List SortId) (ts : Trees) (ss : List SortId) → SortedAll sig ctx ts ss →
      length (list_of ts) ≡ length ss
  sorted_length ctx none [] h = refl
  sorted_length ctx none (s ∷ ss) h = absurd h
  sorted_length ctx (some t ts) [] h = absurd h
  sorted_length ctx (some t ts) (s ∷ ss) h = ap (λ n. suc n) (sorted_length ctx ts ss h.1)

  -- a sorted term's symbols have as many arguments as they are declared with
  mutual
    pub sorted_narrow : HasFewArguments sig → (ctx : List SortId) (t : Tree) (s : SortId) →
        Sorted sig ctx t s → HasFewBelow t
    sorted_narrow few ctx (var n) s h = tt
    sorted_narrow few ctx (app f ts) s h = (
      subst (λ n. n ≤ 8) (sym (sorted_length ctx ts h.0.args h.3)) (few f h.0 h.1),
      all_narrow few ctx ts h.0.args h.3,
    )

    all_narrow : HasFewArguments sig → (ctx : List SortId) (ts : Trees) (ss : List SortId) →
        SortedAll sig ctx ts ss → HaveFewBelow ts
    all_narrow few ctx none [] h = tt
    all_narrow few ctx none (s ∷ ss) h = absurd h
    all_narrow few ctx (some t ts) [] h = absurd h
    all_narrow few ctx (some t ts) (s ∷ ss) h =
        (sorted_narrow few ctx t s h.0, all_narrow few ctx ts ss h.1)

-- the value of a sorted term is sorted too
pub eval_narrow :
    (spec : Spec) → IsWellSorted spec → (t : Tree) (s : SortId) → Sorted spec.sig [] t s →
    (budget : ℕ) (found : Eval) → IsEval spec t budget found → IsNarrow found
eval_narrow spec fine t s sorted budget (Value v n) h =
    sorted_narrow spec.sig fine.arities [] v s (keeps spec fine h.0 s sorted).0
eval_narrow spec fine t s sorted budget (Large n) h = tt
eval_narrow spec fine t s sorted budget Spent h = tt
