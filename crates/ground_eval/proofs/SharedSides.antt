-- What runs of the machine say of the sides of equations.
use Rattle.std.proofs.Common.{◌≡◌, ◌⊎◌, ◌↔◌, ℕ, zero, suc, ◌+◌, ◌<◌, List, [], ◌∷◌, ◌++◌, Some, None, Bool, true}
use Rattle.std.proofs.Common.{false, inl, inr, refl, ap, sym, ◌∙◌, subst, arith, length, length-append, map, take, get_or}
use Rattle.std.specs.Prelude.{slice_get, IsTrue}
use Rattle.std.proofs.lemmas.List.{length-map, map-append}
use Rattle.std.proofs.lemmas.Option.{slice_get_within, slice_get-get_or}
use Rattle.term_core.proofs.Items.{all_at}
use Rattle.term_core.specs.Tree.{Tree, instance, trees_of}
use Rattle.term_core.specs.declared.ids.SortId.{SortId}
use Rattle.spec_core.specs.declared.records.Equation.{Equation}
use Rattle.spec_core.specs.declared.records.Spec.{Spec}
use Rattle.spec_core.specs.Gives.{Gives}
use Rattle.spec_core.specs.WellSorted.{EquationsAreSorted, GoalIsSorted, sorts_of}
use Rattle.value_bank.specs.Cells.{Cell, IsTerm, AreTerms, AddsCells}
use Rattle.rule_code.proofs.Homes.{get_either}
use Rattle.rule_code.proofs.Joined.{joined}
use Rattle.ground_eval.proofs.Lists.{take_here}
use Rattle.value_bank.specs.declared.bank.ValueId.{ValueId}
use Rattle.value_bank.proofs.Terms.{term_kept, terms_kept}
use Rattle.rule_code.specs.Blocks.{AddsCode}
use Rattle.rule_code.specs.Programs.{Program, IsSide, first_numbers}
use Rattle.rule_code.specs.Compiled.{IsBody}
use Rattle.rule_code.proofs.Placed.{code_kept}
use Rattle.bank_machine.specs.declared.answers.BankEval.{BankEval}
use Rattle.bank_machine.specs.declared.answers.BankEval.TheVariants.{Value, Spent}
use Rattle.bank_machine.specs.Runs.{StandAt, CanRun, IsBankEval}
use Rattle.ground_eval.specs.declared.answers.Sides.TheVariants.{Same, Differ, Spent as SidesAreSpent}
use Rattle.ground_eval.specs.declared.comparing.SidePair.{SidePair}
use Rattle.ground_eval.specs.Prepared.{pair_of, HasCode, HaveCode, IsPrepared, CanCompare, CanCompareAll}
use Rattle.ground_eval.specs.Sides.{HasOneSort, SidesAre}
use Rattle.ground_eval.proofs.GoalSides.{values_built, have_one_sort}
use Rattle.rule_code.proofs.Testing.{terms_count}
use Rattle.spec_core.specs.Truth.{AreValuesOf}
use Rattle.spec_core.specs.declared.records.Goal.{Goal}
use Rattle.spec_core.specs.declared.records.VarInfo.{VarInfo}

-- values stay at their places when cells are added
pub stand_kept : (old new : List Cell) (ids : List ValueId) (values : List Tree) → AddsCells old new →
    StandAt old ids values → StandAt new ids values
stand_kept old new ids values adds h = terms_kept old new (map (λ (id : ValueId). id.0) ids) (trees_of values) adds h

-- what the runs of both sides find
module _ {p : Program} {cells : List Cell} {pair : SidePair} {ids : List ValueId} {e : Equation}
    {values : List Tree} (c : CanCompare p cells pair ids e values) where
  pub left_runs : CanRun p cells pair.left ids e.left values c.sorted.0
  left_runs = record { code = c.code.left; stand = c.stand; built = c.built; sorted = c.sorted.1 }

  pub right_runs : (new : List Cell) → AddsCells cells new → CanRun p new pair.right ids e.right values c.sorted.0
  right_runs new adds = record {
    code = c.code.right;
    stand = stand_kept cells new ids values adds c.stand;
    built = c.built;
    sorted = c.sorted.2;
  }

  module _ (mid : List Cell) (budget : ℕ) {found given : BankEval} (is : found ≡ given) where
    pub left_found : ((t : Tree) (vs : List Tree) (s : SortId) → CanRun p cells pair.left ids t vs s →
        IsBankEval p.spec mid (instance vs t) budget found) →
        IsBankEval p.spec mid (instance values e.left) budget given
    left_found ran = subst (λ r. IsBankEval p.spec mid (instance values e.left) budget r) is
        (ran e.left values c.sorted.0 left_runs)

    pub right_found : {old : List Cell} → AddsCells cells old →
        ((t : Tree) (vs : List Tree) (s : SortId) → CanRun p old pair.right ids t vs s →
        IsBankEval p.spec mid (instance vs t) budget found) →
        IsBankEval p.spec mid (instance values e.right) budget given
    right_found {old} adds ran = subst (λ r. IsBankEval p.spec mid (instance values e.right) budget r) is
        (ran e.right values c.sorted.0 (right_runs old adds))

module _ (spec : Spec) (values : List Tree) (budget : ℕ) (e : Equation) where
  pub left_spent : (cells : List Cell) → IsBankEval spec cells (instance values e.left) budget Spent →
      SidesAre spec values budget e SidesAreSpent
  left_spent cells h apart whole = inl (h apart whole)

  module _ (mid : List Cell) (left : ValueId) (n : ℕ) (l : IsBankEval spec mid (instance values e.left) budget
      (Value left n)) where
    pub right_spent : (cells : List Cell) → IsBankEval spec cells (instance values e.right) budget Spent →
        SidesAre spec values budget e SidesAreSpent
    right_spent cells h apart whole = inr (l.0, (n, l.2, l.3), h apart whole)

    module _ (new : List Cell) (adds : AddsCells mid new) (right : ValueId) (m : ℕ)
        (r : IsBankEval spec new (instance values e.right) budget (Value right m)) (same : Bool)
        (tells : (s t : Tree) → IsTerm new left.0 s → IsTerm new right.0 t → IsTrue same ↔ (s ≡ t)) where
      pub values_same : same ≡ true → SidesAre spec values budget e Same
      values_same is =
          let q : l.0 ≡ r.0 = (tells l.0 r.0 (term_kept mid new left.0 l.0 adds l.1) r.1).0 is in
          (l.0, (n, l.2, l.3), (m, subst (λ v. Gives spec (instance values e.right) v m) (sym q) r.2, r.3))

      pub values_differ : same ≡ false → SidesAre spec values budget e Differ
      values_differ is = (
        l.0,
        r.0,
        (λ q.
            let t : same ≡ true = (tells l.0 r.0 (term_kept mid new left.0 l.0 adds l.1) r.1).1 q in
            let z : true ≡ false = sym t ∙ is in
            cc),
        (n, l.2, l.3),
        (m, r.2, r.3),
      )

module _ {p : Program} {cells : List Cell} {pairs : List SidePair} {ids : List ValueId} {es : List Equation}
    {values : List Tree} (c : CanCompareAll p cells pairs ids es values) where
  -- an equation with its code
  pub record Paired (i : ℕ) (pair : SidePair) (new : List Cell) : Type 0 where
    pub equation : Equation
    pub at : slice_get es i ≡ Some equation
    pub ready : CanCompare p new pair ids equation values

  some_item : (xs : List Equation) (i : ℕ) → i < length xs → (x : Equation) × (slice_get xs i ≡ Some x)
  some_item [] i lt = absurd (omega (arith, lt))
  some_item (x ∷ xs) zero lt = (x, refl)
  some_item (x ∷ xs) (suc i) lt = some_item xs i (omega (arith, lt))

  pub paired : (i : ℕ) → i < length pairs → (new : List Cell) → AddsCells cells new →
      Paired i (get_or pairs i (pair_of 0 0)) new
  paired i lt new adds =
      let e = some_item es i (omega (arith, lt, c.code.count)) in
      record {
        equation = e.0;
        at = e.1;
        ready = record {
          code = c.code.each i e.0 (get_or pairs i (pair_of 0 0)) e.1
              (slice_get-get_or pairs i (pair_of 0 0) lt);
          stand = stand_kept cells new ids values adds
              c.stand;
          built = c.built;
          sorted = all_at (HasOneSort p.spec values) es c.sorted i e.0 e.1;
        };
      }

-- code of sides stays when more is added
pub side_kept : (p q : Program) (place count : ℕ) (t : Tree) → q.spec ≡ p.spec → AddsCode p.code q.code →
    IsSide p place count t → IsSide q place count t
side_kept p q place count t same adds h = (
  h.0,
  h.1,
  code_kept p.code q.code place h.0 h.1 adds h.2,
  subst (λ (s : Spec). IsBody s.sig (first_numbers count) t count h.0 h.1) (sym same) h.3,
)

pub pairs_kept : (p q : Program) (count : ℕ) (es : List Equation) (pairs : List SidePair) → q.spec ≡ p.spec →
    AddsCode p.code q.code → HaveCode p count es pairs → HaveCode q count es pairs
pairs_kept p q count es pairs same adds h =
    record {
      count = h.count;
      each = λ k e pair a b.
          let c = h.each k e pair a b in
          record {
            left = side_kept p q pair.left count e.left same adds c.left;
            right = side_kept p q
                pair.right count e.right same adds c.right;
          };
    }

pub values_count : (spec : Spec) (ss : List SortId) (vs : List Tree) → AreValuesOf spec ss vs → length vs ≡ length ss
values_count spec [] [] h = refl
values_count spec [] (v ∷ vs) h = absurd h
values_count spec (s ∷ ss) [] h = absurd h
values_count spec (s ∷ ss) (v ∷ vs) h = ap suc (values_count spec ss vs h.1)

-- the equations of a goal can be compared under its values
pub can_compare : (p : Program) (goal : Goal) (es : List Equation) →
    EquationsAreSorted p.spec.sig (sorts_of goal.vars) es →
    (cells : List Cell) (pairs : List SidePair) (ids : List ValueId) (values : List Tree) →
    HaveCode p (length goal.vars) es pairs → StandAt cells ids values →
    AreValuesOf p.spec (sorts_of goal.vars) values → CanCompareAll p cells pairs ids es values
can_compare p goal es sorted cells pairs ids values code stand are =
    let vars : length (sorts_of goal.vars) ≡ length goal.vars = length-map goal.vars _ in
    let count : length ids ≡ length goal.vars = omega (
      arith,
      vars,
      values_count p.spec (sorts_of goal.vars) values are,
      terms_count cells (map (λ (id : ValueId). id.0) ids) values stand,
      mapped ids,
    ) in
    record {
      code = subst (λ n. HaveCode p n es pairs) (sym count) code;
      stand = stand;
      built = values_built p.spec (sorts_of goal.vars) values are;
      sorted = have_one_sort p.spec (sorts_of goal.vars) values es are sorted;
    }
  where
    mapped : (xs : List ValueId) → length (map (λ (id : ValueId). id.0) xs) ≡ length xs
    mapped xs = length-map xs _

-- and so can both sides of a goal whose sides are compiled
pub goal_ready : (p : Program) (goal : Goal) → GoalIsSorted p.spec.sig goal →
    (premises conclusions : List SidePair) → IsPrepared p goal premises conclusions →
    (cells : List Cell) (ids : List ValueId) (values : List Tree) → StandAt cells ids values →
    AreValuesOf p.spec (sorts_of goal.vars) values → CanCompareAll p cells premises ids goal.premises values
    × CanCompareAll p cells conclusions ids goal.conclusions values
goal_ready p goal sorted premises conclusions code cells ids values stand are = (
  can_compare p goal goal.premises sorted.premises cells premises ids values code.of_premises stand are,
  can_compare p goal goal.conclusions sorted.conclusions cells conclusions ids values code.of_conclusions stand are,
)

-- the same over a machine of the specification, where calls were handed the compiled sides and the places
pub compiled_ready : (spec : Spec) (goal : Goal) → GoalIsSorted spec.sig goal → (p : Program) → p.spec ≡ spec →
    {premises conclusions lefts rights : List SidePair} → IsPrepared p goal premises conclusions →
    (values : List Tree) → AreValuesOf spec (sorts_of goal.vars) values →
    {cells : List Cell} {ids places : List ValueId} → StandAt cells ids values → lefts ≡ premises →
    rights ≡ conclusions → places ≡ ids → CanCompareAll p cells lefts places goal.premises values
    × CanCompareAll p cells rights places goal.conclusions values
compiled_ready spec goal sorted p same {premises} {conclusions} code values are {cells} {ids} stand left right at =
    let ready = goal_ready p goal (subst (λ (s : Spec). GoalIsSorted s.sig goal) (sym same) sorted) premises
    conclusions code cells ids values stand (subst (λ (s : Spec). AreValuesOf s (sorts_of goal.vars) values)
    (sym same) are) in
    rw (left, right, at) ready

-- one more equation with its code
pub pair_added : (p : Program) (count : ℕ) (es : List Equation) (i : ℕ) (e : Equation)
    (pairs new : List SidePair) (pair : SidePair) → slice_get es i ≡ Some e →
    HaveCode p count (take i es) pairs → HasCode p count e pair → new ≡ pairs ++ pair ∷ [] →
    HaveCode p count (take (i + 1) es) new
pair_added p count es i e pairs new pair at h here is =
    let t : take (i + 1) es ≡ take i es ++ e ∷ [] = take_here es i e at in
    record {
      count = omega (
        arith,
        ap length is,
        ap length t,
        length-append pairs (pair ∷ []),
        length-append (take i es) (e ∷ []),
        h.count,
      );
      each = λ k x y a b. by k x y
          (get_either (take i es) (e ∷ []) k x (subst (λ z. slice_get z k ≡ Some x) t a))
          (get_either pairs (pair ∷ []) k y (subst (λ z. slice_get z k ≡ Some y) is b));
    }
  where
    by : (k : ℕ) (x : Equation) (y : SidePair) → (slice_get (take i es) k ≡ Some x)
        ⊎ ((j : ℕ) × (slice_get (e ∷ []) j ≡ Some x) × (k ≡ length (take i es) + j)) →
        (slice_get pairs k ≡ Some y) ⊎ ((j : ℕ) × (slice_get (pair ∷ []) j ≡ Some y) × (k ≡ length pairs + j)) →
        HasCode p count x y
    by k x y (inl a) (inl b) = h.each k x y a b
    by k x y (inl a) (inr b) = absurd (omega (arith, slice_get_within (take i es) k x a, h.count, b.2))
    by k x y (inr a) (inl b) = absurd (omega (arith, slice_get_within pairs k y b, h.count, a.2))
    by k x y (inr (zero, a, m)) (inr (zero, b, n)) =
        let q : Some e ≡ Some x = a in
        let r : Some pair ≡ Some y = b in
        let s : e ≡ x = cc in
        let u : pair ≡ y = cc in
        subst (λ (z : SidePair). HasCode p count x z) u (subst (λ (z : Equation). HasCode p count z pair) s here)
    by k x y (inr (zero, a, m)) (inr (suc j, b, n)) = absurd (let q : None ≡ Some y = b in cc)
    by k x y (inr (suc j, a, m)) b = absurd (let q : None ≡ Some x = a in cc)

-- no equation yet
pub no_pairs : (p : Program) (count : ℕ) (pairs : List SidePair) → pairs ≡ [] → HaveCode p count [] pairs
no_pairs p count pairs e = record { count = ap length e; each = λ k x y a b. absurd (let q : None ≡ Some x = a in cc) }

-- one more value at its place
pub value_stands : (old new : List Cell) (ids after : List ValueId) (values : List Tree) (i : ℕ) (id : ValueId)
    (v : Tree) → slice_get values i ≡ Some v → AddsCells old new → StandAt old ids (take i values) →
    IsTerm new id.0 v → after ≡ ids ++ id ∷ [] → StandAt new after (take (i + 1) values)
value_stands old new ids after values i id v at adds h here is =
    let places : map (λ (x : ValueId). x.0) after ≡ map (λ (x : ValueId). x.0) ids
    ++ id.0 ∷ [] = ap (λ z. map (λ (x : ValueId). x.0) z) is ∙ map-append (λ (x : ValueId). x.0) ids (id ∷ []) in
    let kept = stand_kept old new ids (take i values) adds h in
    subst (λ vs. StandAt new after vs) (sym (take_here values i v at))
    (subst (λ ps. AreTerms new ps (trees_of (take i values ++ v ∷ []))) (sym places)
    (joined new (map (λ (x : ValueId). x.0) ids) (id.0 ∷ []) (take i values) (v ∷ []) kept (here, tt)))

pub sorts_count : (vars : List VarInfo) → length (sorts_of vars) ≡ length vars
sorts_count vars = length-map vars _
