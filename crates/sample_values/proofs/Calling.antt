-- The code of each symbol's application, and calls over a bank.
use Rattle.std.proofs.Common.{◌≡◌, ℕ, suc, ◌+◌, ◌<◌, List, [], ◌∷◌, ◌++◌, Some, inl, inr, get_or, length, map}
use Rattle.std.proofs.Common.{refl, ap, sym, ◌∙◌, subst, arith}
use Rattle.std.specs.Prelude.{slice_get}
use Rattle.std.specs.List.{AllByRecursion}
use Rattle.std.proofs.lemmas.List.{length-map}
use Rattle.std.proofs.lemmas.Option.{slice_get-get_or}
use Rattle.term_core.specs.Tree.{Tree, app, instance, trees_of}
use Rattle.term_core.specs.Variables.{Occurs}
use Rattle.term_core.specs.declared.ids.SortId.{SortId}
use Rattle.spec_core.specs.declared.records.SymInfo.{SymInfo}
use Rattle.spec_core.specs.declared.records.Spec.{Spec}
use Rattle.spec_core.specs.Sig.{Sig, info_of}
use Rattle.spec_core.specs.Sorts.{Sorted, IsBuilt}
use Rattle.spec_core.specs.TermText.{SymbolsAreInRange}
use Rattle.spec_core.specs.Truth.{AreValuesOf}
use Rattle.spec_core.specs.Gives.{Gives}
use Rattle.spec_core.proofs.Determined.{occurs_within}
use Rattle.spec_core.proofs.Keeps.{keeps}
use Rattle.bank_core.proofs.Ends.{at_end}
use Rattle.value_bank.specs.Cells.{Cell, AreTerms}
use Rattle.value_bank.specs.declared.bank.ValueId.{ValueId}
use Rattle.value_bank.proofs.Placed.{term_within}
use Rattle.rule_code.specs.Blocks.{AddsCode}
use Rattle.rule_code.specs.Compiled.{IsBody}
use Rattle.rule_code.specs.Programs.{Program, IsSide, first_numbers}
use Rattle.rule_code.proofs.Placed.{code_kept}
use Rattle.rule_code.proofs.Ranges.{sorted_in_range, symbol_in_range}
use Rattle.rule_code.proofs.Testing.{terms_count}
use Rattle.bank_machine.specs.Runs.{StandAt, CanRun, IsBankEval}
use Rattle.bank_machine.specs.declared.answers.BankEval.{BankEval}
use Rattle.bank_machine.specs.declared.answers.BankEval.TheVariants.{Value}
use Rattle.bank_machine.specs.declared.kept_calls.KeptCalls.{KeptCalls}
use Rattle.test_sets.proofs.Variables.{variables_are_sorted, variables_instances}
use Rattle.sample_values.specs.Evaluators.{Evaluated, evaluated, applied, AreSides, IsEvaluator, CanApply, IsGiven}
use Rattle.sample_values.proofs.Applying.{call_sorted, call_sorted_as}

-- the application to variables is sorted, where these have the sorts of the symbol's arguments
applied_sorted : (sig : Sig) (f : ℕ) (i : SymInfo) → info_of sig f ≡ Some i →
    Sorted sig i.args (applied f (length i.args)) i.result
applied_sorted sig f i at = (
  i,
  at,
  refl,
  variables_are_sorted sig i.args 0 i.args (λ k. let e : 0 + k ≡ k = omega arith in ap (λ n. slice_get i.args n) e),
)

pub applied_symbols : (sig : Sig) (f : ℕ) (i : SymInfo) → info_of sig f ≡ Some i →
    SymbolsAreInRange sig (applied f (length i.args))
applied_symbols sig f i at = sorted_in_range sig i.args (applied f (length i.args)) i.result (applied_sorted sig f i at)

pub applied_variables : (sig : Sig) (f : ℕ) (i : SymInfo) → info_of sig f ≡ Some i → (n : ℕ) →
    Occurs n (applied f (length i.args)) → n < length i.args
applied_variables sig f i at = occurs_within sig i.args (applied f (length i.args)) i.result (applied_sorted sig f i at)

applied_instance : (f : ℕ) (ts : List Tree) → instance ts (applied f (length ts)) ≡ app f (trees_of ts)
applied_instance f ts = ap (λ us. app f us) (variables_instances ts)

-- code of sides stays when more is added
side_kept : (p q : Program) (place count : ℕ) (t : Tree) → q.spec ≡ p.spec → AddsCode p.code q.code →
    IsSide p place count t → IsSide q place count t
side_kept p q place count t same adds h = (
  h.0,
  h.1,
  code_kept p.code q.code place h.0 h.1 adds h.2,
  subst (λ (s : Spec). IsBody s.sig (first_numbers count) t count h.0 h.1) (sym same) h.3,
)

-- the code of one more application
pub sides_more : (p q : Program) (sides new : List ℕ) (f side : ℕ) (i : SymInfo) → q.spec ≡ p.spec →
    AddsCode p.code q.code → new ≡ sides ++ side ∷ [] → length sides ≡ f → info_of p.spec.sig f ≡ Some i →
    IsSide q side (length i.args) (applied f (length i.args)) → AreSides p sides → AreSides q new
sides_more p q sides new f side i same adds e count at here h g place j there info =
    let back : info_of p.spec.sig g ≡ Some j = subst (λ (s : Spec). info_of s.sig g ≡ Some j) same info in
    elim (at_end sides side place g (subst (λ xs. slice_get xs g ≡ Some place) e there)) [
      | inl a ↦ side_kept p q place (length j.args) (applied g (length j.args)) same adds (h g place j a back)
      | inr a ↦
          let number : g ≡ f = a.0 ∙ count in
          let both : Some i ≡ Some j = sym at ∙ subst (λ n. info_of p.spec.sig n ≡ Some j) number back in
          let infos : i ≡ j = cc in
          let one : IsSide q place (length i.args) (applied f (length i.args)) =
          subst (λ k. IsSide q k (length i.args) (applied f (length i.args))) a.1 here in
          let two : IsSide q place (length j.args) (applied f (length j.args)) =
          subst (λ (x : SymInfo). IsSide q place (length x.args) (applied f (length x.args))) infos one in
          subst (λ n. IsSide q place (length j.args) (applied n (length j.args))) (sym number) two
    ]

values_built : (spec : Spec) (ss : List SortId) (vs : List Tree) → AreValuesOf spec ss vs →
    AllByRecursion (λ (v : Tree). IsBuilt spec.sig v) vs
values_built spec [] [] h = tt
values_built spec [] (v ∷ vs) h = absurd h
values_built spec (s ∷ ss) [] h = absurd h
values_built spec (s ∷ ss) (v ∷ vs) h = (h.0.1, values_built spec ss vs h.1)

values_count : (spec : Spec) (ss : List SortId) (vs : List Tree) → AreValuesOf spec ss vs → length vs ≡ length ss
values_count spec [] [] h = refl
values_count spec [] (v ∷ vs) h = absurd h
values_count spec (s ∷ ss) [] h = absurd h
values_count spec (s ∷ ss) (v ∷ vs) h = ap suc (values_count spec ss vs h.1)

module _ (e : Evaluated) (p : Program) (sides : List ℕ) (kept : KeptCalls)
    (is : IsEvaluator e.spec p sides e.cells kept) (f side : ℕ) (read : side ≡ get_or sides f side) (places : List ℕ)
    (ids : List ValueId) (are : map (λ (id : ValueId). id.0) ids ≡ places) (can : CanApply e f places) where
  -- the symbol's application to variables
  abbrev called : Tree
  called = applied f (length can.info.args)

  counted : length can.args.values ≡ length can.info.args
  counted = values_count e.spec can.info.args can.args.values can.args.are

  called_instance : instance can.args.values called ≡ app f (trees_of can.args.values)
  called_instance =
      ap (λ n. instance can.args.values (applied f n)) (sym counted) ∙ applied_instance f can.args.values

  -- its code is read
  side_there : slice_get sides f ≡ Some side
  side_there =
      let within = symbol_in_range e.spec.sig.table f can.info can.declared in
      let long : f < length sides = omega (arith, within, is.count) in
      slice_get-get_or sides f side long ∙ ap (λ n. Some n) (sym read)

  called_runs : CanRun p e.cells side ids called can.args.values can.info.result
  called_runs =
      let declared : info_of p.spec.sig f ≡ Some can.info =
      subst (λ (s : Spec). info_of s.sig f ≡ Some can.info) (sym is.same) can.declared in
      let stand : StandAt e.cells ids can.args.values =
      subst (λ ps. AreTerms e.cells ps (trees_of can.args.values)) (sym are) can.args.stand in
      let places_count = terms_count e.cells (map (λ (id : ValueId). id.0) ids) can.args.values stand in
      let mapped : length (map (λ (id : ValueId). id.0) ids) ≡ length ids = simp length-map in
      let long : length can.info.args ≡ length ids = omega (arith, counted, places_count, mapped) in
      record {
        code = subst (λ n. IsSide p side n called) long (is.of_sides f side can.info side_there declared);
        stand = stand;
        built = subst (λ (s : Spec). AllByRecursion (λ (v : Tree). IsBuilt s.sig v) can.args.values) (sym is.same)
            (values_built e.spec can.info.args can.args.values can.args.are);
        sorted = subst (λ t. Sorted p.spec.sig [] t can.info.result) (sym called_instance)
            (subst (λ (s : Spec). Sorted s.sig [] (app f (trees_of can.args.values)) can.info.result) (sym is.same)
            (call_sorted e f places can));
      }

  -- the call's code can run
  pub call_runs : (term : Tree) × (terms : List Tree) × (sort : SortId) × CanRun p e.cells side ids term terms sort
  call_runs = (called, can.args.values, can.info.result, called_runs)

  -- and the value that it gives has the symbol's sort
  pub call_given : (new : List Cell) (budget steps : ℕ) (id : ValueId) (answer : BankEval) →
      ((term : Tree) (terms : List Tree) (sort : SortId) → CanRun p e.cells side ids term terms sort →
      IsBankEval p.spec new (instance terms term) budget answer) → answer ≡ Value id steps →
      IsGiven (evaluated e.spec new) f id.0
  call_given new budget steps id answer found given i declared =
      let r = found called can.args.values can.info.result called_runs in
      let h = subst (λ x. IsBankEval p.spec new (instance can.args.values called) budget x) given r in
      let gives : Gives e.spec (app f (trees_of can.args.values)) h.0 steps =
      subst (λ t. Gives e.spec t h.0 steps) called_instance
      (subst (λ s. Gives s (instance can.args.values called) h.0 steps) is.same h.2) in
      (h.0, h.1, keeps e.spec is.fine gives i.result (call_sorted_as e f places can i declared))

  pub given_within : (new : List Cell) (place : ℕ) → IsGiven (evaluated e.spec new) f place → place < length new
  given_within new place given =
      let h = given can.info can.declared in
      term_within new place h.0 h.1
