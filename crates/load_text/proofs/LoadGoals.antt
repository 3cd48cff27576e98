-- The goals that `load` generates stand for those of its specification: each kind of goal at each
-- height.
use Rattle.std.proofs.Common.{rules, ◌≡◌, ℕ, zero, suc, ◌+◌, ◌%◌, inl, inr, List, [], ◌∷◌, refl, ap, sym, ◌∙◌, arith}
use Rattle.std.specs.Prelude.{codes, map}
use Rattle.std.specs.List.{AllZip, range_with_len}
use Rattle.term_core.specs.Tree.{Tree, var}
use Rattle.term_core.specs.declared.ids.SortId.{SortId}
use Rattle.term_core.proofs.Items.{all_at}
use Rattle.spec_core.specs.declared.records.Equation.{Equation}
use Rattle.spec_core.specs.Sig.{names_of}
use Rattle.spec_core.specs.Sorts.{Sorted}
use Rattle.spec_core.specs.Declarations.{IsNewName, bool_sort}
use Rattle.spec_core.specs.Naturals.{nat, declares, zero_term, plus_term}
use Rattle.spec_grammar.specs.RawTree.{RawTree, RawTrees, none as no_raws, some as more_raws}
use Rattle.sort_check.specs.Occurrence.{names_after}
use Rattle.sort_check.specs.Terms.{TermStands}
use Rattle.sort_check.specs.Goals.{GoalStands}
use Rattle.sort_check.specs.Inference.{IsBareVariable, IsTaken, IsAnyTaken, left_argument, right_argument}
use Rattle.load_text.specs.LoadRaw.{x, y, z, nought, plus, successors, load_sides, goal_of_kind, goal_name, height}
use Rattle.load_text.specs.LoadRaw.{load_goal}
use Rattle.load_text.specs.LoadSpec.{le_info, load_sig, successor_terms, spec_sides, spec_goal_of_kind, spec_goal}
use Rattle.load_text.proofs.LoadDeclarations.{x_new, y_new}

z_new : IsNewName (codes "z") (names_of load_sig)
z_new = search rules

-- Towers of `succ`.

tower_stands : (names : List (List ℕ)) (k : ℕ) (t : RawTree) (u : Tree) →
    TermStands load_sig names t u → TermStands load_sig names (successors k t) (successor_terms k u)
tower_stands names zero t u h = h
tower_stands names (suc k) t u h = (refl, (tower_stands names k t u h, tt))

tower_sorted : (ctx : List SortId) (k : ℕ) (u : Tree) → Sorted load_sig ctx u nat →
    Sorted load_sig ctx (successor_terms k u) nat
tower_sorted ctx zero u h = h
tower_sorted ctx (suc k) u h = (declares (nat ∷ []), refl, refl, (tower_sorted ctx k u h, tt))

tower_names : (seen : List (List ℕ)) (k : ℕ) (t : RawTree) →
    names_after load_sig seen (successors k t) ≡ names_after load_sig seen t
tower_names seen zero t = refl
tower_names seen (suc k) t = tower_names seen k t

tower_taken : (name : List ℕ) (k : ℕ) (t : RawTree) → IsTaken load_sig name nat t →
    IsTaken load_sig name nat (successors k t)
tower_taken name zero t h = h
tower_taken name (suc k) t h =
    (declares (nat ∷ []), (3, refl, refl), inr (inl (tower_taken name k t h)))

-- a variable under a tower at a place of naturals
under_tower : (name : List ℕ) (k : ℕ) (t : RawTree) (ts : RawTrees) (ss : List SortId) →
    IsBareVariable load_sig name t →
    IsAnyTaken load_sig name nat (more_raws (successors k t) ts) (nat ∷ ss)
under_tower name zero t ts ss v = inl (v, refl)
under_tower name (suc k) t ts ss v =
    inr (inl (declares (nat ∷ []), (3, refl, refl), under_tower name k t no_raws [] v))

-- Each kind of goal stands for a goal.

abbrev pub two : List SortId
two = nat ∷ nat ∷ []

abbrev three : List SortId
three = nat ∷ nat ∷ nat ∷ []

abbrev xy : List (List ℕ)
xy = codes "x" ∷ codes "y" ∷ []

abbrev xyz : List (List ℕ)
xyz = codes "x" ∷ codes "y" ∷ codes "z" ∷ []

abbrev OneSort : List SortId → Equation → Type 0
OneSort ctx e = (s : SortId) × Sorted load_sig ctx e.left s × Sorted load_sig ctx e.right s

plus_info : IsTaken load_sig (codes "x") nat (plus x y)
plus_info = (declares two, (4, refl, refl), inl ((refl, refl, x_new), refl))

y_taken : IsTaken load_sig (codes "y") nat (plus x y)
y_taken = (declares two, (4, refl, refl), inr (inr (inl ((refl, refl, y_new), refl))))

sum_stands : (names : List (List ℕ)) (s t : RawTree) (u v : Tree) → TermStands load_sig names s u →
    TermStands load_sig names t v → TermStands load_sig names (plus s t) (plus_term u v)
sum_stands names s t u v a b = (refl, (a, (b, tt)))

sum_sorted : (ctx : List SortId) (u v : Tree) → Sorted load_sig ctx u nat →
    Sorted load_sig ctx v nat → Sorted load_sig ctx (plus_term u v) nat
sum_sorted ctx u v a b = (declares two, refl, refl, (a, (b, tt)))

abbrev xy_stands : TermStands load_sig xy (plus x y) (plus_term (var 0) (var 1))
xy_stands = (refl, ((refl, x_new, refl), ((refl, y_new, refl), tt)))

module _ (text : List ℕ) (k : ℕ) where
  sum_of_successor : GoalStands load_sig (goal_of_kind text 0 k) (spec_goal_of_kind text 0 k)
  sum_of_successor =
      let e = load_sides 0 k in
      let first : names_after load_sig [] e.left ≡ xy =
      ap (λ (seen : List (List ℕ)). names_after load_sig seen y) (tower_names [] k x) in
      let last : names_after load_sig (names_after load_sig [] e.left) e.right ≡ xy =
      ap (λ (seen : List (List ℕ)). names_after load_sig seen e.right) first
      ∙ tower_names xy k (plus x y) in
      record {
        name = refl;
        variables = sym last;
        names = search rules;
        bound = tt;
        sorts = (
          right_argument e (0, omega arith, refl)
              (tower_taken (codes "x") k (plus x y) plus_info),
          (
            right_argument e (0, omega arith, refl)
                (tower_taken (codes "y") k (plus x y) y_taken),
            tt,
          ),
        );
        premises = tt;
        conclusions = (
          (
            sum_stands xy (successors k x) y (successor_terms k (var 0)) (var 1)
                (tower_stands xy k x (var 0) (refl, x_new, refl)) (refl, y_new, refl),
            tower_stands xy k (plus x y) (plus_term (var 0) (var 1)) xy_stands,
          ),
          tt,
        );
        sorted = record {
          premises = all_at (OneSort two) [] tt;
          conclusions = all_at (OneSort two) (spec_sides 0 k ∷ []) (
            (
              nat,
              sum_sorted two (successor_terms k (var 0)) (var 1)
                  (tower_sorted two k (var 0) refl) refl,
              tower_sorted two k (plus_term (var 0) (var 1))
                  (sum_sorted two (var 0) (var 1) refl refl),
            ),
            tt,
          );
          variables = search rules;
          few_variables = omega arith;
        };
      }

  changed_sum : GoalStands load_sig (goal_of_kind text 1 k) (spec_goal_of_kind text 1 k)
  changed_sum =
      let e = load_sides 1 k in
      let last : names_after load_sig (names_after load_sig [] e.left) e.right ≡ xy =
      tower_names xy k y in
      record {
        name = refl;
        variables = sym last;
        names = search rules;
        bound = tt;
        sorts = (
          left_argument e (0, omega arith, refl) plus_info,
          (left_argument e (0, omega arith, refl) y_taken, tt),
        );
        premises = tt;
        conclusions = (
          (
            xy_stands,
            sum_stands xy x (successors k y) (var 0) (successor_terms k (var 1))
                (refl, x_new, refl) (tower_stands xy k y (var 1) (refl, y_new, refl)),
          ),
          tt,
        );
        sorted = record {
          premises = all_at (OneSort two) [] tt;
          conclusions = all_at (OneSort two) (spec_sides 1 k ∷ []) (
            (
              nat,
              sum_sorted two (var 0) (var 1) refl refl,
              sum_sorted two (var 0) (successor_terms k (var 1)) refl
                  (tower_sorted two k (var 1) refl),
            ),
            tt,
          );
          variables = search rules;
          few_variables = omega arith;
        };
      }

  order : GoalStands load_sig (goal_of_kind text 2 k) (spec_goal_of_kind text 2 k)
  order =
      let e = load_sides 2 k in
      let ctx : List SortId = nat ∷ [] in
      let names : List (List ℕ) = codes "x" ∷ [] in
      let last : names_after load_sig (names_after load_sig [] e.left) e.right ≡ names =
      ap (λ (seen : List (List ℕ)). names_after load_sig seen x)
      (tower_names [] (k + 3) nought) in
      record {
        name = refl;
        variables = sym last;
        names = search rules;
        bound = tt;
        sorts = (
          left_argument e (0, omega arith, refl)
              (le_info, (5, refl, refl), inr (inr (inl ((refl, refl, x_new), refl)))),
          tt,
        );
        premises = (
          (
            (
              refl,
              (
                tower_stands names (k + 3) nought zero_term (refl, tt),
                ((refl, x_new, refl), tt),
              ),
            ),
            (refl, tt),
          ),
          tt,
        );
        conclusions = tt;
        sorted = record {
          premises = all_at (OneSort ctx) (spec_sides 2 k ∷ []) (
            (
              bool_sort,
              (
                le_info,
                refl,
                refl,
                (
                  tower_sorted ctx (k + 3) zero_term
                      (declares [], refl, refl, tt),
                  (refl, tt),
                ),
              ),
              (_, refl, refl, tt),
            ),
            tt,
          );
          conclusions = all_at (OneSort ctx) [] tt;
          variables = search rules;
          few_variables = omega arith;
        };
      }

  sum_of_three : GoalStands load_sig (goal_of_kind text 3 k) (spec_goal_of_kind text 3 k)
  sum_of_three =
      let e = load_sides 3 k in
      let first : names_after load_sig [] e.left ≡ xyz = tower_names xy k z in
      let last : names_after load_sig (names_after load_sig [] e.left) e.right ≡ xyz =
      ap (λ (seen : List (List ℕ)). names_after load_sig seen e.right) first
      ∙ tower_names xyz k z in
      let third : TermStands load_sig xyz (successors k z) (successor_terms k (var 2)) =
      tower_stands xyz k z (var 2) (refl, z_new, refl) in
      let natural : Sorted load_sig three (successor_terms k (var 2)) nat =
      tower_sorted three k (var 2) refl in
      record {
        name = refl;
        variables = sym last;
        names = search rules;
        bound = tt;
        sorts = (
          left_argument e (0, omega arith, refl)
              (declares two, (4, refl, refl), inr (inl plus_info)),
          (
            left_argument e (0, omega arith, refl)
                (declares two, (4, refl, refl), inr (inl y_taken)),
            (
              left_argument e (0, omega arith, refl) (
                declares two,
                (4, refl, refl),
                inr (inr (under_tower (codes "z") k z no_raws [] (refl, refl, z_new))),
              ),
              tt,
            ),
          ),
        );
        premises = tt;
        conclusions = (
          (
            sum_stands xyz (plus x y) (successors k z) (plus_term (var 0) (var 1))
                (successor_terms k (var 2)) (sum_stands xyz x y (var 0) (var 1) (refl, x_new, refl)
                (refl, y_new, refl)) third,
            sum_stands xyz x (plus y (successors k z)) (var 0)
                (plus_term (var 1) (successor_terms k (var 2))) (refl, x_new, refl)
                (sum_stands xyz y (successors k z) (var 1) (successor_terms k (var 2))
                (refl, y_new, refl) third),
          ),
          tt,
        );
        sorted = record {
          premises = all_at (OneSort three) [] tt;
          conclusions = all_at (OneSort three) (spec_sides 3 k ∷ []) (
            (
              nat,
              sum_sorted three (plus_term (var 0) (var 1)) (successor_terms k (var 2))
                  (sum_sorted three (var 0) (var 1) refl refl) natural,
              sum_sorted three (var 0) (plus_term (var 1) (successor_terms k (var 2))) refl
                  (sum_sorted three (var 1) (successor_terms k (var 2)) refl natural),
            ),
            tt,
          );
          variables = search rules;
          few_variables = omega arith;
        };
      }

  kind_stands : (kind : ℕ) → GoalStands load_sig (goal_of_kind text kind k)
      (spec_goal_of_kind text kind k)
  kind_stands zero = sum_of_successor
  kind_stands (suc zero) = changed_sum
  kind_stands (suc (suc zero)) = order
  kind_stands (suc (suc (suc n))) = sum_of_three

pub load_goals_stand : (i n : ℕ) →
    AllZip (GoalStands load_sig) (map load_goal (range_with_len i n))
    (map spec_goal (range_with_len i n))
load_goals_stand i zero = tt
load_goals_stand i (suc n) = (
  kind_stands (goal_name i) (height i) (i % 4),
  load_goals_stand (i + 1) n,
)
