-- The answers of an evaluation, of what the machine and the bank answer.
use Rattle.std.proofs.Common.{◌≡◌, ◌<◌, ℕ, List, [], Ok, sym, subst}
use Rattle.term_core.specs.Tree.{Tree, instance, tree_size}
use Rattle.term_core.proofs.Trees.{instance_none}
use Rattle.spec_core.specs.declared.records.Spec.{Spec}
use Rattle.term_core.specs.declared.ids.SortId.{SortId}
use Rattle.spec_core.specs.Sorts.{Sorted}
use Rattle.spec_core.specs.WellSorted.{IsWellSorted}
use Rattle.spec_core.specs.Gives.{Gives}
use Rattle.spec_core.proofs.Determined.{determined}
use Rattle.value_bank.specs.Cells.{Cell}
use Rattle.value_bank.specs.Answers.{IsAnswer, IsLarge}
use Rattle.value_bank.specs.declared.bank.ValueId.{ValueId}
use Rattle.value_bank.proofs.Terms.{one_term_at}
use Rattle.bank_machine.specs.declared.answers.BankEval.TheVariants as found
use Rattle.bank_machine.specs.Runs.{IsBankEval}
use Rattle.ground_eval.specs.declared.answers.Eval.{Eval}
use Rattle.ground_eval.specs.declared.answers.Eval.TheVariants.{Value, Large, Spent}
use Rattle.ground_eval.specs.Evals.{IsEval, IsOnly}

-- the value and the cost that were found are the only ones
pub eval_only : (spec : Spec) → IsWellSorted spec → (t : Tree) (s : SortId) (b : ℕ) (e : Eval) →
    Sorted spec.sig [] t s → IsEval spec t b e → IsOnly spec t e
eval_only spec fine t s b (Value v n) p h = λ a w x m g. determined spec fine a w g s p h.0
eval_only spec fine t s b (Large n) p h = λ a w x m g.
    let d = determined spec fine a w g s p h.1 in
    (subst (λ y. 10000 < tree_size y) (sym d.0) h.3, d.1)
eval_only spec fine t s b Spent p h = tt

module _ (spec : Spec) (cells : List Cell) (t : Tree) (budget : ℕ) (id : ValueId) (n : ℕ)
    (h : IsBankEval spec cells (instance [] t) budget (found.Value id n)) where
  -- the value is read from the bank
  pub value_read : (v : Tree) → IsAnswer cells id.0 (Ok v) → IsEval spec t budget (Value v n)
  value_read v a =
      let same : h.0 ≡ v = one_term_at cells id.0 h.0 v h.1 a.0 in
      let gives : Gives spec t h.0 n = subst (λ x. Gives spec x h.0 n) (instance_none t) h.2 in
      (subst (λ x. Gives spec t x n) same gives, h.3, a.1)

  -- it is too large
  pub value_large : IsLarge cells id.0 → IsEval spec t budget (Large n)
  value_large a =
      let same : h.0 ≡ a.0 = one_term_at cells id.0 h.0 a.0 h.1 a.1 in
      let gives : Gives spec t h.0 n = subst (λ x. Gives spec x h.0 n) (instance_none t) h.2 in
      (h.0, gives, h.3, subst (λ x. 10000 < tree_size x) (sym same) a.2)

pub none_found : (spec : Spec) (cells : List Cell) (t : Tree) (budget : ℕ) →
    IsBankEval spec cells (instance [] t) budget found.Spent → IsEval spec t budget Spent
none_found spec cells t budget h = λ apart whole v n g le. h apart whole v n
    (subst (λ x. Gives spec x v n) (sym (instance_none t)) g) le
