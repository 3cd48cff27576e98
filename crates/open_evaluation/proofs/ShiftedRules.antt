-- Rules and goals with the new numbers are well sorted.
use Rattle.std.proofs.Common.{◌≡◌, ◌<◌, ◌^◌, ℕ, zero, suc, List, [], ◌∷◌, Some, None, refl, ap, sym, ◌∙◌, subst, map}
use Rattle.std.proofs.Common.{length, arith}
use Rattle.std.specs.Prelude.{slice_get}
use Rattle.std.specs.List.{AllByRecursion}
use Rattle.std.proofs.lemmas.List.{length-map}
use Rattle.term_core.specs.Tree.{Tree, Trees, var, app, none, some}
use Rattle.term_core.specs.declared.ids.SortId.{SortId}
use Rattle.spec_core.specs.declared.records.VarInfo.{VarInfo}
use Rattle.spec_core.specs.declared.records.Equation.{Equation}
use Rattle.spec_core.specs.declared.records.Guard.{Guard}
use Rattle.spec_core.specs.declared.records.Rule.{Rule}
use Rattle.spec_core.specs.declared.records.Goal.{Goal}
use Rattle.spec_core.specs.declared.records.Spec.{Spec}
use Rattle.spec_core.specs.Sig.{IsSort}
use Rattle.spec_core.specs.Sorts.{Sorted}
use Rattle.spec_core.specs.Declarations.{IsDeclared, bool_sort}
use Rattle.spec_core.specs.Orders.{IsOrderOf}
use Rattle.spec_core.specs.WellSorted.{IsPattern, ArePatterns, IsLeft, IsShallow, sorts_of, RuleIsSorted}
use Rattle.spec_core.specs.WellSorted.{EquationsAreSorted, GoalIsSorted, IsWellSorted}
use Rattle.open_evaluation.specs.Shifted.{shifted, shifted_all, shifted_equation, shifted_guard, shifted_rule}
use Rattle.open_evaluation.specs.Shifted.{shifted_goal, IsExtended}
use Rattle.open_evaluation.proofs.ShiftedTerms.{shifted-depth, shifted-occurs, shifted-numbered}
use Rattle.open_evaluation.proofs.Extended.{constructor_shifted, shifted_constructor, shifted_sorted, sort_kept}
use Rattle.open_evaluation.proofs.Extended.{few_arguments}

-- an item of a mapped list comes of an item at its place
pub mapped_at : {A B : Type 0} (f : A → B) (xs : List A) (k : ℕ) (y : B) → slice_get (map f xs) k ≡ Some y →
    (x : A) × (slice_get xs k ≡ Some x) × (f x ≡ y)
mapped_at f [] k y at = absurd (let q : None ≡ Some y = at in cc)
mapped_at f (x ∷ xs) zero y at = let q : Some (f x) ≡ Some y = at in (x, refl, cc)
mapped_at f (x ∷ xs) (suc k) y at = mapped_at f xs k y at

all_mapped : {A B : Type 0} (f : A → B) (P : A → Type 0) (Q : B → Type 0) → ((x : A) → P x → Q (f x)) →
    (xs : List A) → AllByRecursion P xs → AllByRecursion Q (map f xs)
all_mapped f P Q h [] a = tt
all_mapped f P Q h (x ∷ xs) a = (h x a.0, all_mapped f P Q h xs a.1)

module _ (old new : Spec) (sorts : List SortId) (more : IsExtended old new sorts) (declared : IsDeclared old.sig) where
  abbrev c : ℕ
  c = old.sig.constructors

  abbrev u : ℕ
  u = length sorts

  mutual
    shifted_pattern : (t : Tree) → IsPattern old.sig t → IsPattern new.sig (shifted c u t)
    shifted_pattern (var n) p = p
    shifted_pattern (app f ts) p = (constructor_shifted old new sorts more declared f p.0, shifted_patterns ts p.1)

    shifted_patterns : (ts : Trees) → ArePatterns old.sig ts → ArePatterns new.sig (shifted_all c u ts)
    shifted_patterns none p = p
    shifted_patterns (some t ts) p = (shifted_pattern t p.0, shifted_patterns ts p.1)

  shifted_left : (t : Tree) → IsLeft old.sig t → IsLeft new.sig (shifted c u t)
  shifted_left (var n) l = l
  shifted_left (app f ts) l = (λ k. l.0 (shifted_constructor old new sorts more declared f k), shifted_patterns ts l.1)

  shifted_shallow : (t : Tree) → IsShallow t → IsShallow (shifted c u t)
  shifted_shallow t h = omega (arith, h, shifted-depth c u t)

  pub shifted_rule_sorted : (rule : Rule) → RuleIsSorted old.sig rule → RuleIsSorted new.sig (shifted_rule c u rule)
  shifted_rule_sorted rule fine =
      let ctx = sorts_of rule.vars in
      let kept = shifted_sorted old new sorts more declared ctx in
      record {
        left = shifted_left rule.left fine.left;
        sides = (fine.sides.0, kept rule.left fine.sides.0 fine.sides.1, kept rule.right fine.sides.0 fine.sides.2);
        guards = all_mapped (shifted_guard c u) (λ (g : Guard). Sorted old.sig ctx g.test bool_sort)
            (λ (g : Guard). Sorted new.sig ctx g.test bool_sort) (λ g h. kept g.test bool_sort h) rule.guards
            fine.guards;
        numbered = shifted-numbered c u 0 rule.left (length ctx) fine.numbered;
        bound = λ n h. shifted-occurs c u n rule.left (fine.bound n h);
        few_variables = fine.few_variables;
        shallow_left = shifted_shallow rule.left fine.shallow_left;
        shallow_right = shifted_shallow rule.right fine.shallow_right;
        shallow_guards = all_mapped (shifted_guard c u) (λ (g : Guard). IsShallow g.test)
            (λ (g : Guard). IsShallow g.test) (λ g h. shifted_shallow g.test h) rule.guards fine.shallow_guards;
      }

  shifted_equations_sorted : (ctx : List SortId) (es : List Equation) → EquationsAreSorted old.sig ctx es →
      EquationsAreSorted new.sig ctx (map (shifted_equation c u) es)
  shifted_equations_sorted ctx es fine k e at =
      let kept = shifted_sorted old new sorts more declared ctx in
      let here = mapped_at (shifted_equation c u) es k e at in
      let sides = fine k here.0 here.1 in
      subst (λ (x : Equation). (s : SortId) × Sorted new.sig ctx x.left s × Sorted new.sig ctx x.right s) here.2
      (sides.0, kept here.0.left sides.0 sides.1, kept here.0.right sides.0 sides.2)

  all_kept : (vars : List VarInfo) → AllByRecursion (λ (v : VarInfo). IsSort old.sig v.sort) vars →
      AllByRecursion (λ (v : VarInfo). IsSort new.sig v.sort) vars
  all_kept [] a = tt
  all_kept (v ∷ vars) a = (sort_kept old new sorts more declared v.sort a.0, all_kept vars a.1)

  pub shifted_goal_sorted : (goal : Goal) → GoalIsSorted old.sig goal → GoalIsSorted new.sig (shifted_goal c u goal)
  shifted_goal_sorted goal fine = record {
    premises = shifted_equations_sorted (sorts_of goal.vars) goal.premises fine.premises;
    conclusions = shifted_equations_sorted (sorts_of goal.vars) goal.conclusions fine.conclusions;
    variables = all_kept goal.vars fine.variables;
    few_variables = fine.few_variables;
  }

  -- each rule of the new specification is one of the old one with the new numbers
  pub rule_of_old : (k : ℕ) (rule : Rule) → slice_get new.rules k ≡ Some rule →
      (r : Rule) × (slice_get old.rules k ≡ Some r) × (shifted_rule c u r ≡ rule)
  rule_of_old k rule at = mapped_at (shifted_rule c u) old.rules k rule
      (ap (λ rs. slice_get rs k) (sym more.rules) ∙ at)

module _ (old new : Spec) (sorts : List SortId) (more : IsExtended old new sorts) (fine : IsWellSorted old) where
  -- the new specification is well sorted if its signature is declared and the order is its own
  pub well_sorted : IsDeclared new.sig → IsOrderOf new.sig new.order → IsWellSorted new
  well_sorted declared order =
      let few : length new.rules ≡ length old.rules = ap (λ rs. length rs) more.rules
      ∙ length-map old.rules (shifted_rule old.sig.constructors (length sorts)) in
      let no_goals : length new.goals ≡ 0 = ap (λ gs. length gs) more.goals in
      record {
        order = order;
        signature = declared;
        arities = few_arguments old new sorts more fine.signature fine.arities;
        rules = λ k rule at.
            let r = rule_of_old old new sorts more fine.signature k rule at in
            subst (λ x. RuleIsSorted new.sig x) r.2 (shifted_rule_sorted old new sorts more fine.signature r.0
            (fine.rules k r.0 r.1));
        goals = λ k goal at. absurd (let q : None ≡ Some goal = ap (λ gs. slice_get gs k) (sym more.goals) ∙ at in cc);
        names = λ j k g h p q e. absurd (let z : None ≡ Some g = ap (λ gs. slice_get gs j) (sym more.goals) ∙ p in cc);
        few_rules = let old_few : length old.rules < 2 ^ 32 = fine.few_rules in omega (arith, few);
        few_goals = omega (arith, no_goals);
      }
