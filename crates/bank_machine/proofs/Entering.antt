-- If a left side matches a call, a frame for the call is entered.
use Rattle.std.proofs.Common.{◌≡◌, ℕ, suc, ◌<◌, List, [], ◌∷◌, Some, refl, ap, sym, ◌∙◌, subst, arith, length, drop}
use Rattle.std.proofs.Common.{get_or}
use Rattle.std.specs.Prelude.{slice_get}
use Rattle.std.specs.List.{AllByRecursion}
use Rattle.std.proofs.lemmas.List.{length-map}
use Rattle.std.proofs.lemmas.Option.{slice_get_within, slice_get-get_or}
use Rattle.term_core.proofs.Items.{all_at}
use Rattle.term_core.specs.Tree.{Tree, Trees, var, app, instance, trees_of}
use Rattle.term_core.specs.declared.ids.SortId.{SortId}
use Rattle.term_core.specs.Variables.{Numbered}
use Rattle.spec_core.specs.declared.records.SymInfo.{SymInfo}
use Rattle.spec_core.specs.declared.records.Rule.{Rule}
use Rattle.spec_core.specs.declared.records.Spec.{Spec}
use Rattle.spec_core.specs.Sig.{Sig}
use Rattle.spec_core.specs.Sorts.{Sorted, SortedAll, IsBuilt}
use Rattle.spec_core.specs.WellSorted.{IsWellSorted, RuleIsSorted, sorts_of}
use Rattle.spec_core.proofs.Values.{env_built}
use Rattle.value_bank.specs.Cells.{Cell, AreTerms}
use Rattle.rule_code.specs.declared.rule_codes.RuleCode.{RuleCode}
use Rattle.rule_code.specs.declared.decision_trees.DecisionTree.{DecisionTree}
use Rattle.rule_code.specs.declared.left_sides.LeftSide.{LeftSide}
use Rattle.rule_code.specs.Code.{Step, End, entries}
use Rattle.rule_code.specs.Compiled.{Fills, IsNext}
use Rattle.rule_code.specs.Homes.{IsLeftSide}
use Rattle.rule_code.specs.Instructions.{Instruction, IsCodeAt}
use Rattle.rule_code.specs.Matching.{Unpacks, HaveHomes}
use Rattle.rule_code.specs.RuleCodes.{IsRuleCode}
use Rattle.rule_code.specs.DecisionTrees.{Lists, IsTree}
use Rattle.spec_core.specs.RuleTables.{numbers_of}
use Rattle.rule_code.specs.Programs.{program, IsProgram}
use Rattle.rule_code.proofs.Ranges.{symbol_in_range, item_listed}
use Rattle.rule_code.proofs.Matches.{entry_at, some_slot, tests_match, unpacked_count}
use Rattle.rule_code.proofs.Testing.{read_is}
use Rattle.bank_machine.specs.Sound.{IsReady}
use Rattle.bank_machine.specs.States.{frame}
use Rattle.spec_core.proofs.RuleTables.{RuleOf, place_has_rule}
use Rattle.bank_machine.specs.Calls.{FoundBy}

pub entries_count : (env : List Tree) (homes : List ℕ) → length (entries env homes) ≡ length homes
entries_count env [] = refl
entries_count env (h ∷ hs) = ap suc (entries_count env hs)

-- what holds of each item
pub all_of : {X : Type 0} (P : X → Type 0) (xs : List X) → ((n : ℕ) (x : X) → slice_get xs n ≡ Some x → P x) →
    AllByRecursion P xs
all_of P [] h = tt
all_of P (x ∷ xs) h = (h 0 x refl, all_of P xs (λ n y e. h (suc n) y e))

sorted_count : (sig : Sig) (ctx : List SortId) (ts : List Tree) (ss : List SortId) →
    SortedAll sig ctx (trees_of ts) ss → length ts ≡ length ss
sorted_count sig ctx [] [] h = refl
sorted_count sig ctx [] (s ∷ ss) h = absurd h
sorted_count sig ctx (t ∷ ts) [] h = absurd h
sorted_count sig ctx (t ∷ ts) (s ∷ ss) h = ap suc (sorted_count sig ctx ts ss h.1)

-- a symbol has as many arguments in two sorted terms
pub same_arity : (sig : Sig) (ctx dtx : List SortId) (f : ℕ) (ts us : List Tree) (s u : SortId) →
    Sorted sig ctx (app f (trees_of ts)) s → Sorted sig dtx (app f (trees_of us)) u → length ts ≡ length us
same_arity sig ctx dtx f ts us s u a b =
    let q : Some a.0 ≡ Some b.0 = sym a.1 ∙ b.1 in
    let is : a.0 ≡ b.0 = cc in
    sorted_count sig ctx ts a.0.args a.3 ∙ ap (λ (i : SymInfo). length i.args) is
    ∙ sym (sorted_count sig dtx us b.0.args b.3)

-- the code of a rule's first block, whose variables are in these slots
abbrev IsFirst : Sig → ℕ → Rule → List ℕ → ℕ → List Step → End → Type 0
IsFirst sig number rule homes n steps end = IsNext sig homes number rule 0 n steps end

module _ (spec : Spec) (fine : IsWellSorted spec) (number : ℕ) (rule : Rule)
    (listed : slice_get spec.rules number ≡ Some rule) (left : LeftSide) (side : IsLeftSide rule left) (f : ℕ)
    (args : Trees) (calls : rule.left ≡ app f args) (env : List Tree) (s : SortId)
    (ready : IsReady spec f (trees_of env) s) where
  rule_sorted : RuleIsSorted spec.sig rule
  rule_sorted = fine.rules number rule listed

  function_is : side.function ≡ f
  function_is =
      let e : app side.function (trees_of side.patterns) ≡ app f args = sym side.is ∙ calls in
      cc

  left_is : rule.left ≡ app f (trees_of side.patterns)
  left_is = side.is ∙ ap (λ z. app z (trees_of side.patterns)) function_is

  -- the call has as many arguments as the left side
  pub as_many : length env ≡ length side.patterns
  as_many = same_arity spec.sig [] (sorts_of rule.vars) f env side.patterns s rule_sorted.sides.0 ready.sorted
      (subst (λ t. Sorted spec.sig (sorts_of rule.vars) t rule_sorted.sides.0) left_is rule_sorted.sides.1)

  pub call_is : (xs : List Tree) → instance xs rule.left ≡ app f (trees_of env) →
      instance xs rule.left ≡ app side.function (trees_of env)
  call_is xs e = e ∙ ap (λ z. app z (trees_of env)) (sym function_is)

  module _ (grown : List Tree) (unpacks : Unpacks env left.tests.items grown)
      (homes : HaveHomes side.all left.homes.items grown) where
    xs : List Tree
    xs = entries grown left.homes.items

    count_all : length grown ≡ length side.all
    count_all = unpacked_count env grown side.opens as_many unpacks

    count : length (entries grown left.homes.items) ≡ length rule.vars
    count = entries_count grown left.homes.items ∙ side.homes.counted

    numbered : Numbered 0 rule.left (length (entries grown left.homes.items))
    numbered =
        let e : length (sorts_of rule.vars) ≡ length (entries grown left.homes.items) = length-map rule.vars _
        ∙ sym count in
        subst (λ n. Numbered 0 rule.left n) e rule_sorted.numbered

    matched : instance (entries grown left.homes.items) rule.left ≡ app f (trees_of env)
    matched = ap (λ t. instance (entries grown left.homes.items) t) left_is
        ∙ tests_match f side.patterns side.all env grown left.tests.items left.homes.items side.opens homes
        as_many unpacks

    home_within : (n h : ℕ) → slice_get left.homes.items n ≡ Some h → h < length grown
    home_within n h at = omega (arith, slice_get_within side.all h (var n) (side.homes.each n h at).there, count_all)

    built : AllByRecursion (λ (t : Tree). IsBuilt spec.sig t) (entries grown left.homes.items)
    built = env_built spec.sig rule.left f (trees_of env) (entries grown left.homes.items) rule_sorted.left
        numbered matched ready.built

    fills : Fills spec.sig left.homes.items grown (entries grown left.homes.items)
    fills = record {
      holds = λ n h at.
          let e = entry_at grown left.homes.items n h at in
          let lt : n < length (entries grown left.homes.items) = omega (
            arith,
            slice_get_within left.homes.items n h at,
            entries_count grown left.homes.items,
          ) in
          let b = all_at (λ (t : Tree). IsBuilt spec.sig t) (entries grown left.homes.items) built n _
          (some_slot (entries grown left.homes.items) n lt) in
          (home_within n h at, e, subst (λ t. IsBuilt spec.sig t) e b);
      are = refl;
      below = all_of (λ (h : ℕ). h < length grown) left.homes.items home_within;
    }

    -- the code of the rule's first block goes on with the slots
    pub entered : (code : List Instruction) (one : RuleCode) (cells : List Cell) (base : ℕ) (new : List ℕ)
        (d : ℕ) → one.left ≡ left → IsRuleCode spec code number rule one →
        AreTerms cells (drop base new) (trees_of grown) →
        FoundBy (program spec code) cells f base new env (Some (get_or one.begins.items 0 d))
    entered code one cells base new d same h terms =
        let b = h.blocks 0 (omega arith) in
        let width : one.left.width ≡ length grown = ap (λ (l : LeftSide). l.width) same ∙ side.width ∙ sym count_all in
        let homes_are : one.left.homes.items ≡ left.homes.items = ap (λ (l : LeftSide). l.homes.items) same in
        let place : get_or one.begins.items 0 d ≡ b.place = read_is one.begins.items 0 b.place d b.begin in (
          frame grown b.steps b.end,
          record {
            number = number;
            rule = rule;
            xs = entries grown left.homes.items;
            homes = left.homes.items;
            listed = listed;
            function = ready.function;
            built = ready.built;
            sorted = (s, ready.sorted);
            numbered = numbered;
            matches = matched;
            fills = fills;
            code = subst (λ n. IsFirst spec.sig number rule left.homes.items n b.steps b.end) width
                (subst (λ hs. IsFirst spec.sig number rule hs one.left.width b.steps b.end) homes_are b.next);
            own = record {
              rule = rule;
              left = left;
              listed = listed;
              side = side;
              are = refl;
              room = omega
                  (arith, ap (λ (l : LeftSide). l.width) same, width);
            };
          },
          terms,
          subst (λ n. IsCodeAt code n b.steps b.end) (sym place) b.there,
        )

-- the tree of the function of a call
module _ (spec : Spec) (code : List Instruction) (rules : List RuleCode) (trees : List DecisionTree)
    (h : IsProgram spec code rules trees) (f : ℕ) (vs : Trees) (s : SortId) (ready : IsReady spec f vs s) where
  pub tree_there : f < length trees
  tree_there = omega (arith, h.indexed.count, symbol_in_range spec.sig.table f ready.sorted.0 ready.sorted.1)

  pub tree_at : (tree : DecisionTree) → tree ≡ get_or trees f tree → IsTree spec.rules (numbers_of f 0 spec.rules) tree
  tree_at tree e = h.indexed.each f tree (item_listed trees trees f tree refl tree_there e)

-- the rule at a place of a function's numbers, with its code
pub record Tried (spec : Spec) (code : List Instruction) (f number : ℕ) (one : RuleCode) : Type 0 where
  pub rule : Rule
  pub listed : slice_get spec.rules number ≡ Some rule
  pub args : Trees
  pub calls : rule.left ≡ app f args
  pub compiled : IsRuleCode spec code number rule one

module _ (spec : Spec) (code : List Instruction) (rules : List RuleCode) (trees : List DecisionTree)
    (h : IsProgram spec code rules trees) (f : ℕ) (numbers : List ℕ) (some : (k : ℕ) → Lists numbers k →
    Lists (numbers_of f 0 spec.rules) k) (i : ℕ) (lt : i < length numbers) where
  rule_here : RuleOf f spec.rules (get_or numbers i 0)
  rule_here =
      let j = some (get_or numbers i 0) (i, slice_get-get_or numbers i 0 lt) in
      place_has_rule f spec.rules j.0 (get_or numbers i 0) j.1

  pub number_within : get_or numbers i 0 < length rules
  number_within = omega (
    arith,
    slice_get_within spec.rules (get_or numbers i 0) rule_here.rule rule_here.there,
    h.compiled.count,
  )

  pub tried : (one : RuleCode) → one ≡ get_or rules (get_or numbers i 0) one →
      Tried spec code f (get_or numbers i 0) one
  tried one o =
      let r = rule_here in
      record {
        rule = r.rule;
        listed = r.there;
        args = r.args;
        calls = r.calls;
        compiled = h.compiled.each (get_or numbers i 0) r.rule one r.there
            (item_listed rules rules (get_or numbers i 0) one refl number_within o);
      }
