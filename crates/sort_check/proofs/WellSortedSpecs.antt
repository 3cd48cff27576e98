-- What a raw specification within the limits stands for is well sorted.
use Rattle.std.proofs.Common.{◌≡◌, ℕ, zero, suc, ◌≤◌, List, [], ◌∷◌, Some, None, sym, subst, arith, length}
use Rattle.std.specs.Prelude.{slice_get, option_map, codes}
use Rattle.std.specs.List.{AllByRecursion}
use Rattle.std.proofs.lemmas.Slice.Zip.{AllZip-long}
use Rattle.term_core.specs.Tree.{Tree}
use Rattle.spec_core.specs.declared.records.SymInfo.{SymInfo}
use Rattle.spec_core.specs.declared.records.Guard.{Guard}
use Rattle.spec_core.specs.declared.records.Rule.{Rule}
use Rattle.spec_core.specs.declared.records.Spec.{Spec}
use Rattle.spec_core.specs.Sig.{Sig}
use Rattle.spec_core.specs.Declarations.{all_symbols}
use Rattle.spec_core.specs.Findings.{Clean}
use Rattle.spec_core.specs.WellSorted.{RuleIsSorted, GoalIsSorted, IsShallow, HasFewArguments, IsWellSorted, sorts_of}
use Rattle.spec_core.specs.TermText.{variable_names}
use Rattle.spec_grammar.specs.RawTree.{RawTree}
use Rattle.spec_grammar.proofs.KeepsLimits.{few_rules}
use Rattle.spec_grammar.specs.KeepsLimits.{TermKeepsLimits, NamesKeepLimits, SortKeepsLimits, FunctionKeepsLimits}
use Rattle.spec_grammar.specs.KeepsLimits.{RuleKeepsLimits, GoalKeepsLimits, KeepsLimits}
use Rattle.spec_grammar.specs.declared.raw.RawNames.{RawNames}
use Rattle.spec_grammar.specs.declared.raw.RawSort.{RawSort}
use Rattle.spec_grammar.specs.declared.raw.RawFun.{RawFun}
use Rattle.spec_grammar.specs.declared.raw.RawGuard.{RawGuard}
use Rattle.spec_grammar.specs.declared.raw.RawRule.{RawRule}
use Rattle.spec_grammar.specs.declared.raw.RawSpec.{RawSpec}
use Rattle.sort_check.specs.Signatures.{sort_names, SortStands, ConstructorStands, ConstructorsStand, FunctionStands}
use Rattle.sort_check.specs.Signatures.{SignatureStands}
use Rattle.sort_check.specs.Terms.{TermStands}
use Rattle.sort_check.specs.Rules.{GuardStands, RuleStands}
use Rattle.sort_check.specs.Goals.{GoalStands}
use Rattle.sort_check.specs.StandsFor.{StandsFor}
use Rattle.sort_check.specs.DeclarationTests.{sig_of}
use Rattle.sort_check.specs.OrderTests.{order_tests}
use Rattle.sort_check.proofs.KeptSizes.{same_depth}
use Rattle.sort_check.proofs.Pairs.{pairs_have}
use Rattle.sort_check.proofs.DeclaringTests.{sig_stands}
use Rattle.sort_check.proofs.OneSignature.{one_signature}
use Rattle.sort_check.proofs.Precedences.{stands_is_order}
use Rattle.term_core.proofs.Items.{all_at, all_append}
use Rattle.spec_core.proofs.Values.{numbered_occurs}

-- The arguments of symbols.

abbrev HasFew : List ℕ × SymInfo → Type 0
HasFew e = length e.1.args ≤ 8

module _ (sorts : List (List ℕ)) where
  constructor_few : (sort : ℕ) (raw : RawNames) (e : List ℕ × SymInfo) → NamesKeepLimits raw →
      ConstructorStands sorts sort raw e → HasFew e
  constructor_few sort raw e keeps stands = omega (
    arith,
    AllZip-long (SortStands sorts) raw.args e.1.args stands.1,
    keeps.few_arguments,
  )

  function_few : (raw : RawFun) (e : List ℕ × SymInfo) → FunctionKeepsLimits raw → FunctionStands sorts raw e → HasFew e
  function_few raw e keeps stands = omega (
    arith,
    AllZip-long (SortStands sorts) raw.head.args e.1.args stands.1,
    keeps.head.few_arguments,
  )

  constructors_few : (sort : ℕ) (raws : List RawSort) (es : List (List ℕ × SymInfo)) →
      AllByRecursion SortKeepsLimits raws → ConstructorsStand sorts sort raws es → AllByRecursion HasFew es
  constructors_few sort [] es keeps stands = subst (λ ds. AllByRecursion HasFew ds) (sym stands) tt
  constructors_few sort (raw ∷ raws) es keeps stands =
      let own : AllByRecursion HasFew stands.0 = pairs_have (ConstructorStands sorts sort) NamesKeepLimits
      HasFew (constructor_few sort) raw.constructors stands.0 keeps.0.constructors stands.3 in
      subst (λ ds. AllByRecursion HasFew ds) (sym stands.2)
      (all_append HasFew stands.0 stands.1 own (constructors_few (suc sort) raws stands.1 keeps.1 stands.4))

symbol_few : (es : List (List ℕ × SymInfo)) → AllByRecursion HasFew es → (f : ℕ) (i : SymInfo) →
    option_map (λ (e : List ℕ × SymInfo). e.1) (slice_get es f) ≡ Some i → length i.args ≤ 8
symbol_few [] all f i at = absurd (let q : None ≡ Some i = at in cc)
symbol_few (e ∷ es) all zero i at = let q : Some e.1 ≡ Some i = at in let k : e.1 ≡ i = cc in
    subst (λ (j : SymInfo). length j.args ≤ 8) k all.0
symbol_few (e ∷ es) all (suc f) i at = symbol_few es all.1 f i at

pub few_arguments : (raw : RawSpec) (sig : Sig) → KeepsLimits raw → SignatureStands raw sig → HasFewArguments sig
few_arguments raw sig keeps stands =
    let sorts = codes "Bool" ∷ sort_names raw.sorts in
    let constructors : AllByRecursion HasFew stands.constructors = constructors_few sorts 1 raw.sorts
    stands.constructors keeps.sorts stands.each_constructor in
    let functions : AllByRecursion HasFew stands.functions = pairs_have (FunctionStands sorts)
    FunctionKeepsLimits HasFew (function_few sorts) raw.funs stands.functions keeps.functions
    stands.each_function in
    subst (λ (s : Sig). HasFewArguments s) (sym stands.is)
    (symbol_few (all_symbols stands.constructors stands.functions) (
      omega arith,
      (omega arith, all_append HasFew stands.constructors stands.functions constructors functions),
    ))

-- Rules.

module _ (sig : Sig) where
  shallow : (names : List (List ℕ)) (raw : RawTree) (t : Tree) → TermKeepsLimits raw →
      TermStands sig names raw t → IsShallow t
  shallow names raw t keeps stands = omega (arith, same_depth sig names raw t stands, keeps.depth)

  pub rule_is_sorted : (raw : RawRule) (rule : Rule) → RuleKeepsLimits raw → RuleStands sig raw rule →
      RuleIsSorted sig rule
  rule_is_sorted raw rule keeps stands =
      let names = variable_names rule.vars in
      record {
        left = stands.head;
        sides = stands.sides;
        guards = stands.tests;
        numbered = stands.numbered;
        bound = λ n lt. numbered_occurs 0 (length (sorts_of rule.vars)) rule.left stands.numbered n (omega arith) lt;
        few_variables = stands.few_variables;
        shallow_left = shallow names raw.left rule.left keeps.left stands.left;
        shallow_right = shallow names raw.right rule.right keeps.right stands.right;
        shallow_guards = pairs_have (GuardStands sig names) (λ (g : RawGuard). TermKeepsLimits g.test)
            (λ (g : Guard). IsShallow g.test) (λ r g k p. shallow names r.test g.test k p.0) raw.guards
            rule.guards keeps.guards stands.guards;
      }

-- its signature is the one of which the tests speak
signature_is : (raw : RawSpec) (spec : Spec) → StandsFor raw spec → spec.sig ≡ sig_of raw
signature_is raw spec stands =
    let clean = stands.clean.0 in
    one_signature raw spec.sig (sig_of raw) stands.numbered.declared stands.numbered.signature
    (sig_stands raw clean.0 clean.1.0 clean.1.1.1)

pub stands_well_sorted :
    (raw : RawSpec) (spec : Spec) → KeepsLimits raw → StandsFor raw spec → IsWellSorted spec
stands_well_sorted raw spec keeps stands_for =
    let stands = stands_for.numbered in
    record {
      order =
          stands_is_order spec.sig raw spec.order
          (subst (λ (s : Sig). Clean (order_tests s raw)) (sym (signature_is raw spec stands_for)) stands_for.clean.1.0)
          stands.order;
      signature = stands.declared;
      arities = few_arguments raw spec.sig keeps stands.signature;
      rules = all_at (RuleIsSorted spec.sig) spec.rules
          (pairs_have (RuleStands spec.sig) RuleKeepsLimits (RuleIsSorted spec.sig) (rule_is_sorted spec.sig)
          raw.rules spec.rules keeps.rules stands.rules);
      goals = all_at (GoalIsSorted spec.sig) spec.goals
          (pairs_have (GoalStands spec.sig) GoalKeepsLimits (GoalIsSorted spec.sig) (λ r g k p. p.sorted)
          raw.goals spec.goals keeps.goals stands.goals);
      names = stands.names;
      few_rules = omega (
        arith,
        AllZip-long (RuleStands spec.sig) raw.rules spec.rules stands.rules,
        keeps.few_rules,
        few_rules raw.version,
      );
      few_goals = omega (arith, AllZip-long (GoalStands spec.sig) raw.goals spec.goals stands.goals, keeps.few_goals);
    }
