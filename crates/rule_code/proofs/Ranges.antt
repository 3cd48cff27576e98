-- Symbols and variables of a well sorted rule are in range.
use Rattle.std.proofs.Common.{◌≡◌, ℕ, zero, suc, ◌<◌, List, [], ◌∷◌, Some, None, ap, sym, ◌∙◌, subst, arith, length}
use Rattle.std.proofs.Common.{get_or}
use Rattle.std.specs.Prelude.{slice_get, option_map}
use Rattle.std.proofs.lemmas.List.{length-map}
use Rattle.std.proofs.lemmas.Option.{slice_get-get_or}
use Rattle.term_core.proofs.Items.{all_at}
use Rattle.term_core.specs.Tree.{Tree, Trees, var, app, none, some}
use Rattle.term_core.specs.Variables.{Occurs}
use Rattle.term_core.specs.declared.ids.SortId.{SortId}
use Rattle.spec_core.specs.declared.records.SymInfo.{SymInfo}
use Rattle.spec_core.specs.declared.records.Rule.{Rule}
use Rattle.spec_core.specs.declared.records.Guard.{Guard}
use Rattle.spec_core.specs.Sig.{Sig}
use Rattle.spec_core.specs.Sorts.{Sorted, SortedAll}
use Rattle.spec_core.specs.Declarations.{bool_sort}
use Rattle.spec_core.specs.TermText.{SymbolsAreInRange, AllSymbolsAreInRange}
use Rattle.spec_core.specs.WellSorted.{RuleIsSorted, sorts_of}
use Rattle.spec_core.proofs.Determined.{occurs_within}

pub symbol_in_range : (table : List (List ℕ × SymInfo)) (f : ℕ) (i : SymInfo) →
    option_map (λ (e : List ℕ × SymInfo). e.1) (slice_get table f) ≡ Some i → f < length table
symbol_in_range [] f i e = absurd (let q : None ≡ Some i = e in cc)
symbol_in_range (e ∷ table) zero i h = omega arith
symbol_in_range (e ∷ table) (suc f) i h = omega (arith, symbol_in_range table f i h)

mutual
  pub sorted_in_range : (sig : Sig) (ctx : List SortId) (t : Tree) (s : SortId) → Sorted sig ctx t s →
      SymbolsAreInRange sig t
  sorted_in_range sig ctx (var n) s p = tt
  sorted_in_range sig ctx (app f ts) s p = (symbol_in_range sig.table f p.0 p.1, all_in_range sig ctx ts p.0.args p.3)

  all_in_range : (sig : Sig) (ctx : List SortId) (ts : Trees) (ss : List SortId) → SortedAll sig ctx ts ss →
      AllSymbolsAreInRange sig ts
  all_in_range sig ctx none ss p = tt
  all_in_range sig ctx (some t ts) [] p = absurd p
  all_in_range sig ctx (some t ts) (s ∷ ss) p = (sorted_in_range sig ctx t s p.0, all_in_range sig ctx ts ss p.1)

-- an item of a slice that shows a list
pub item_listed : {X : Type 0} (shown xs : List X) (i : ℕ) (x : X) → shown ≡ xs → i < length shown →
    x ≡ get_or shown i x → slice_get xs i ≡ Some x
item_listed shown xs i x e lt is = subst (λ z. slice_get z i ≡ Some x) e (slice_get-get_or shown i x lt
    ∙ ap Some (sym is))

module _ (sig : Sig) (rule : Rule) (sorted : RuleIsSorted sig rule) where
  count : length (sorts_of rule.vars) ≡ length rule.vars
  count = length-map rule.vars _

  variable_within : (t : Tree) (s : SortId) → Sorted sig (sorts_of rule.vars) t s → (n : ℕ) → Occurs n t →
      n < length rule.vars
  variable_within t s h n o = omega (arith, occurs_within sig (sorts_of rule.vars) t s h n o, count)

  test_sorted : (k : ℕ) (g : Guard) → slice_get rule.guards k ≡ Some g →
      Sorted sig (sorts_of rule.vars) g.test bool_sort
  test_sorted k g at = all_at (λ (g : Guard). Sorted sig (sorts_of rule.vars) g.test bool_sort) rule.guards
      sorted.guards k g at

  pub test_symbols : (k : ℕ) (g : Guard) → slice_get rule.guards k ≡ Some g → SymbolsAreInRange sig g.test
  test_symbols k g at = sorted_in_range sig (sorts_of rule.vars) g.test bool_sort (test_sorted k g at)

  pub test_variables : (k : ℕ) (g : Guard) → slice_get rule.guards k ≡ Some g → (n : ℕ) → Occurs n g.test →
      n < length rule.vars
  test_variables k g at = variable_within g.test bool_sort (test_sorted k g at)

  pub right_symbols : SymbolsAreInRange sig rule.right
  right_symbols = sorted_in_range sig (sorts_of rule.vars) rule.right sorted.sides.0 sorted.sides.2

  pub right_variables : (n : ℕ) → Occurs n rule.right → n < length rule.vars
  right_variables = variable_within rule.right sorted.sides.0 sorted.sides.2
