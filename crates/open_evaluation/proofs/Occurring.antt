-- The variables of an instance are those of the entries.
use Rattle.std.proofs.Common.{ℕ, List, inl, inr, refl, subst}
use Rattle.term_core.specs.Tree.{Tree, Trees, var, app, none, some, instance, instances}
use Rattle.term_core.specs.Variables.{Occurs, OccursAny}
use Rattle.term_core.specs.declared.ids.SortId.{SortId}
use Rattle.spec_core.specs.declared.records.Rule.{Rule}
use Rattle.spec_core.specs.Sig.{Sig}
use Rattle.spec_core.specs.Sorts.{Sorted}
use Rattle.spec_core.specs.WellSorted.{RuleIsSorted, sorts_of}
use Rattle.spec_core.proofs.Determined.{occurs_within}
use Rattle.open_evaluation.specs.OpenGives.{VariablesAreBelow}

-- where they occur in an instance: in the entry of a variable that occurs
abbrev pub InEntry : List Tree → ℕ → (ℕ → Type 0) → Type 0
InEntry xs j Where = (k : ℕ) × Where k × Occurs j (instance xs (var k))

mutual
  pub occurs_in_entry : (xs : List Tree) (t : Tree) (j : ℕ) → Occurs j (instance xs t) → InEntry xs j (λ k. Occurs k t)
  occurs_in_entry xs (var m) j o = (m, refl, o)
  occurs_in_entry xs (app f ts) j o = occur_in_entry xs ts j o

  occur_in_entry : (xs : List Tree) (ts : Trees) (j : ℕ) → OccursAny j (instances xs ts) →
      InEntry xs j (λ k. OccursAny k ts)
  occur_in_entry xs none j o = absurd o
  occur_in_entry xs (some t ts) j (inl o) = let r = occurs_in_entry xs t j o in (r.0, inl r.1, r.2)
  occur_in_entry xs (some t ts) j (inr o) = let r = occur_in_entry xs ts j o in (r.0, inr r.1, r.2)

mutual
  pub entry_occurs : (xs : List Tree) (t : Tree) (k j : ℕ) → Occurs k t → Occurs j (instance xs (var k)) →
      Occurs j (instance xs t)
  entry_occurs xs (var m) k j o p = subst (λ n. Occurs j (instance xs (var n))) o p
  entry_occurs xs (app f ts) k j o p = entry_occur xs ts k j o p

  entry_occur : (xs : List Tree) (ts : Trees) (k j : ℕ) → OccursAny k ts → Occurs j (instance xs (var k)) →
      OccursAny j (instances xs ts)
  entry_occur xs none k j o p = absurd o
  entry_occur xs (some t ts) k j (inl o) p = inl (entry_occurs xs t k j o p)
  entry_occur xs (some t ts) k j (inr o) p = inr (entry_occur xs ts k j o p)

-- the entry of a variable that occurs, and all entries together
pub below_entry : (n : ℕ) (xs : List Tree) (t : Tree) → VariablesAreBelow n (instance xs t) → (k : ℕ) →
    Occurs k t → VariablesAreBelow n (instance xs (var k))
below_entry n xs t h k o j p = h j (entry_occurs xs t k j o p)

pub below_instance : (n : ℕ) (xs : List Tree) (t : Tree) →
    ((k : ℕ) → Occurs k t → VariablesAreBelow n (instance xs (var k))) → VariablesAreBelow n (instance xs t)
below_instance n xs t h j o = let r = occurs_in_entry xs t j o in h r.0 r.1 j r.2

-- each variable of a rule's sorted term occurs on the left side
pub on_the_left : (sig : Sig) (rule : Rule) → RuleIsSorted sig rule → (t : Tree) (s : SortId) →
    Sorted sig (sorts_of rule.vars) t s → (k : ℕ) → Occurs k t → Occurs k rule.left
on_the_left sig rule fine t s p k o = fine.bound k (occurs_within sig (sorts_of rule.vars) t s p k o)

-- so a match whose left side has variables below n keeps this for all terms over the rule's variables
pub below_by_left : (sig : Sig) (rule : Rule) → RuleIsSorted sig rule → (n : ℕ) (xs : List Tree) →
    VariablesAreBelow n (instance xs rule.left) → (t : Tree) (s : SortId) →
    Sorted sig (sorts_of rule.vars) t s → VariablesAreBelow n (instance xs t)
below_by_left sig rule fine n xs h t s p = below_instance n xs t
    (λ k o. below_entry n xs rule.left h k (on_the_left sig rule fine t s p k o))
