-- A program's code stays when more is added after it.
use Rattle.std.proofs.Common.{◌≡◌, ℕ, zero, suc, ◌+◌, List, [], ◌∷◌, ◌++◌, Some, None, ◌⊎◌, inl, inr, refl, ap, sym}
use Rattle.std.proofs.Common.{subst, arith, length, length-append}
use Rattle.std.specs.Prelude.{slice_get}
use Rattle.term_core.specs.Tree.{Tree}
use Rattle.spec_core.specs.declared.records.Rule.{Rule}
use Rattle.spec_core.specs.declared.records.Spec.{Spec}
use Rattle.rule_code.specs.declared.rule_codes.RuleCode.{RuleCode}
use Rattle.rule_code.specs.declared.decision_trees.DecisionTree.{DecisionTree}
use Rattle.rule_code.specs.Instructions.{Instruction}
use Rattle.rule_code.specs.Compiled.{IsBody}
use Rattle.rule_code.specs.Blocks.{AddsCode, AddsBlock}
use Rattle.rule_code.specs.RuleCodes.{IsRuleCode}
use Rattle.rule_code.specs.Programs.{AreRuleCodes, IsProgram, IsSide, first_numbers, program}
use Rattle.rule_code.proofs.Homes.{get_either}
use Rattle.rule_code.proofs.Placed.{code_kept, added_at}

pub rule_code_kept : (spec : Spec) (old new : List Instruction) (k : ℕ) (rule : Rule) (one : RuleCode) →
    AddsCode old new → IsRuleCode spec old k rule one → IsRuleCode spec new k rule one
rule_code_kept spec old new k rule one adds h =
    record {
      left = h.left;
      blocks = λ n le.
          let b = h.blocks n le in
          record {
            place = b.place;
            steps = b.steps;
            end = b.end;
            begin = b.begin;
            there = code_kept old new
                b.place b.steps b.end adds b.there;
            next = b.next;
          };
      branches = h.branches;
    }

pub rule_codes_kept : (spec : Spec) (old new : List Instruction) (n : ℕ) (made : List RuleCode) →
    AddsCode old new → AreRuleCodes spec old n made → AreRuleCodes spec new n made
rule_codes_kept spec old new n made adds h = record {
  count = h.count;
  each = λ k rule one at there.
      rule_code_kept spec old new k rule one adds (h.each k rule one at there);
}

pub no_rule_codes : (spec : Spec) (code : List Instruction) (made : List RuleCode) → made ≡ [] →
    AreRuleCodes spec code 0 made
no_rule_codes spec code made e =
    record {
      count = ap length e;
      each = λ k rule one at there. absurd (let q : None ≡ Some one = subst (λ z. slice_get z k ≡ Some one) e
          there in cc);
    }

-- one more rule
pub rule_code_added : (spec : Spec) (old new : List Instruction) (n : ℕ) (made after : List RuleCode)
    (one : RuleCode) → AddsCode old new → AreRuleCodes spec old n made → after ≡ made ++ one ∷ [] →
    ((rule : Rule) → slice_get spec.rules n ≡ Some rule → IsRuleCode spec new n rule one) →
    AreRuleCodes spec new (n + 1) after
rule_code_added spec old new n made after one adds h e here =
    record {
      count = omega (arith, h.count, ap length e, length-append made (one ∷ []));
      each = λ k rule other at there. by k rule other
          at (get_either made (one ∷ []) k other (subst (λ z. slice_get z k ≡ Some other) e there));
    }
  where
    by : (k : ℕ) (rule : Rule) (other : RuleCode) → slice_get spec.rules k ≡ Some rule →
        (slice_get made k ≡ Some other)
        ⊎ ((i : ℕ) × (slice_get (one ∷ []) i ≡ Some other) × (k ≡ length made + i)) → IsRuleCode spec new k rule other
    by k rule other at (inl p) = rule_code_kept spec old new k rule other adds (h.each k rule other at p)
    by k rule other at (inr (zero, p, q)) =
        let o : Some one ≡ Some other = p in
        let is : one ≡ other = cc in
        let m : n ≡ k = omega (arith, q, h.count) in
        subst (λ (z : RuleCode). IsRuleCode spec new k rule z) is
        (subst (λ z. IsRuleCode spec new z rule one) m
        (here rule (subst (λ z. slice_get spec.rules z ≡ Some rule) (sym m) at)))
    by k rule other at (inr (suc i, p, q)) = absurd (let o : None ≡ Some other = p in cc)

pub program_kept : (spec : Spec) (old new : List Instruction) (rules : List RuleCode)
    (trees : List DecisionTree) → AddsCode old new → IsProgram spec old rules trees → IsProgram spec new rules trees
program_kept spec old new rules trees adds
    h = record {
      compiled = rule_codes_kept spec old new (length spec.rules) rules adds h.compiled;
      indexed = h.indexed;
    }

pub side_added : (spec : Spec) (old new : List Instruction) (place count : ℕ) (homes : List ℕ) (t : Tree) →
    place ≡ length old → homes ≡ first_numbers count → AddsBlock old new (IsBody spec.sig homes t count) →
    IsSide (program spec new) place count t
side_added spec old new place count homes t p e b = (
  b.0,
  b.1,
  added_at old new place b.0 b.1 p b.2,
  subst (λ hs. IsBody spec.sig hs t count b.0 b.1) e b.3,
)

pub first_numbers_count : (n : ℕ) → length (first_numbers n) ≡ n
first_numbers_count zero = refl
first_numbers_count (suc n) = omega (arith, length-append (first_numbers n) (n ∷ []), first_numbers_count n)

pub first_number_at : (n k s : ℕ) → slice_get (first_numbers n) k ≡ Some s → s ≡ k
first_number_at zero k s e = absurd (let q : None ≡ Some s = e in cc)
first_number_at (suc n) k s e =
    elim (get_either (first_numbers n) (n ∷ []) k s e) [
      | inl a ↦ first_number_at n k s a
      | inr a ↦ last a.0 a.1 a.2
    ]
  where
    last : (i : ℕ) → slice_get (n ∷ []) i ≡ Some s → k ≡ length (first_numbers n) + i → s ≡ k
    last zero p q =
        let o : Some n ≡ Some s = p in
        let r : n ≡ s = cc in
        omega (arith, r, q, first_numbers_count n)
    last (suc i) p q = absurd (let o : None ≡ Some s = p in cc)
