-- The goals that `load` generates have no fault: each kind of goal at each height, and then all
-- goals in order.
use Rattle.std.proofs.Common.{◌≡◌, ◌≢◌, ℕ, zero, suc, ◌+◌, ◌%◌, ◌<◌, ◌^◌, List, [], ◌∷◌, ◌++◌, Option, Some, None}
use Rattle.std.proofs.Common.{refl, ap, sym, ◌∙◌, subst, arith}
use Rattle.std.specs.Prelude.{codes, map}
use Rattle.std.specs.Fmt.{decimal}
use Rattle.std.specs.List.{AllByRecursion, range_with_len}
use Rattle.std.proofs.lemmas.Fmt.{decimal_injective}
use Rattle.term_core.specs.declared.ids.SortId.{SortId}
use Rattle.spec_core.specs.Declarations.{IsNewName, bool_sort}
use Rattle.spec_core.specs.Findings.{Clean, each_after}
use Rattle.spec_core.specs.Naturals.{nat}
use Rattle.spec_grammar.specs.declared.raw.RawEq.{RawEq}
use Rattle.spec_grammar.specs.declared.raw.RawGoal.{RawGoal}
use Rattle.spec_grammar.specs.RawTree.{RawTree, none as no_raws, some as more_raws}
use Rattle.sort_check.specs.Words.{entries_after, entries_after_all, term_tests, terms_tests}
use Rattle.sort_check.specs.GoalTests.{wanted, own_sort, after_sides, sides_tests, sorts_tests, clause_tests}
use Rattle.sort_check.specs.GoalTests.{goal_tests}
use Rattle.sort_check.specs.declared.faults.SortKind.TheVariants.{WrongSort}
use Rattle.load_text.specs.LoadRaw.{x, y, z, nought, plus, successors, load_sides, goal_of_kind, goal_name, height}
use Rattle.load_text.specs.LoadRaw.{load_goal}
use Rattle.load_text.specs.LoadSpec.{load_sig}
use Rattle.spec_meaning.proofs.SortCheckTypes.{Entry, goal_part}
use Rattle.load_text.proofs.LoadGoals.{two}

-- Tests of a goal's words, with the variables that come after a term.

same : {A : Type 0} {a : A} → a ≢ a → ⊥
same h = h refl

some_is_not_none : {A : Type 0} {a : A} → Some a ≡ None → ⊥
some_is_not_none e = cc

abbrev entry : List ℕ → Entry
entry name = record { name = name; at = 0; sort = Some nat }

abbrev x_entries : List Entry
x_entries = entry (codes "x") ∷ []

abbrev xy_entries : List Entry
xy_entries = entry (codes "x") ∷ entry (codes "y") ∷ []

abbrev xyz_entries : List Entry
xyz_entries = entry (codes "x") ∷ entry (codes "y") ∷ entry (codes "z") ∷ []

-- a term at a place of naturals has no fault after these variables, and leaves those
record Walks (es : List Entry) (t : RawTree) (fs : List Entry) : Type 0 where
  clean : Clean (term_tests load_sig goal_part es WrongSort t (Some nat))
  after : entries_after load_sig es t (Some nat) ≡ fs

walk_tower : (es fs : List Entry) (k : ℕ) (t : RawTree) → Walks es t fs →
    Walks es (successors k t) fs
walk_tower es fs zero t w = w
walk_tower es fs (suc k) t w =
    let v = walk_tower es fs k t w in
    record { clean = ((tt, (same, same)), (v.clean, tt)); after = v.after }

-- two arguments of a symbol
record WalksBoth (es : List Entry) (s t : RawTree) (gs : List Entry) : Type 0 where
  clean : Clean (terms_tests load_sig goal_part es (more_raws s (more_raws t no_raws)) two)
  after : entries_after_all load_sig es (more_raws s (more_raws t no_raws)) two ≡ gs

walk_both : (es fs gs : List Entry) (s t : RawTree) → Walks es s fs → Walks fs t gs →
    WalksBoth es s t gs
walk_both es fs gs s t a b = record {
  clean = (
    a.clean,
    (
      subst (λ (vs : List Entry). Clean (term_tests load_sig goal_part vs WrongSort t (Some nat)))
          (sym a.after) b.clean,
      tt,
    ),
  );
  after = ap (λ (vs : List Entry). entries_after load_sig vs t (Some nat)) a.after ∙ b.after;
}

walk_sum : (es gs : List Entry) (s t : RawTree) → WalksBoth es s t gs → Walks es (plus s t) gs
walk_sum es gs s t w = record { clean = ((tt, (same, same)), w.clean); after = w.after }

x_first : Walks [] x x_entries
x_first = record { clean = λ h. omega arith; after = refl }

y_second : Walks x_entries y xy_entries
y_second = record { clean = λ h. omega arith; after = refl }

z_third : Walks xy_entries z xyz_entries
z_third = record { clean = λ h. omega arith; after = refl }

x_again : Walks xy_entries x xy_entries
x_again = record { clean = same; after = refl }

y_again : Walks xy_entries y xy_entries
y_again = record { clean = same; after = refl }

x_of_three : Walks xyz_entries x xyz_entries
x_of_three = record { clean = same; after = refl }

y_of_three : Walks xyz_entries y xyz_entries
y_of_three = record { clean = same; after = refl }

z_of_three : Walks xyz_entries z xyz_entries
z_of_three = record { clean = same; after = refl }

nought_first : Walks [] nought []
nought_first = record { clean = ((tt, (same, same)), tt); after = refl }

-- The sides of each kind of goal: they have no fault, and leave these variables.
record SidesWalk (e : RawEq) (fs : List Entry) : Type 0 where
  clean : Clean (sides_tests load_sig [] e)
  after : after_sides load_sig [] e ≡ fs

-- a left side that leaves these variables, and then a right side at a place of the sort
sides_walk : (e : RawEq) (fs gs : List Entry) (o : Option SortId) →
    wanted (own_sort load_sig e.left) (own_sort load_sig e.right) ≡ o →
    Clean (term_tests load_sig goal_part [] WrongSort e.left None) →
    entries_after load_sig [] e.left None ≡ fs →
    Clean (term_tests load_sig goal_part fs WrongSort e.right o) →
    entries_after load_sig fs e.right o ≡ gs → SidesWalk e gs
sides_walk e fs gs o w left after right last =
    let moved : Clean (term_tests load_sig goal_part (entries_after load_sig [] e.left None)
    WrongSort e.right o) = subst (λ (vs : List Entry). Clean
    (term_tests load_sig goal_part vs WrongSort e.right o)) (sym after) right in
    record {
      clean = (
        left,
        subst (λ (p : Option SortId). Clean
            (term_tests load_sig goal_part (entries_after load_sig [] e.left None)
            WrongSort e.right p)) (sym w) moved,
      );
      after = ap (λ (p : Option SortId). entries_after load_sig
          (entries_after load_sig [] e.left None) e.right p) w
          ∙ ap (λ (vs : List Entry). entries_after load_sig vs e.right o) after ∙ last;
    }

-- the sort of a tower on a sum
tower_wanted : (k : ℕ) → wanted (Some nat) (own_sort load_sig (successors k (plus x y))) ≡ Some nat
tower_wanted zero = refl
tower_wanted (suc k) = refl

module _ (k : ℕ) where
  sum_of_successor_walks : SidesWalk (load_sides 0 k) xy_entries
  sum_of_successor_walks =
      let left = walk_both [] x_entries xy_entries (successors k x) y
      (walk_tower [] x_entries k x x_first) y_second in
      let right = walk_tower xy_entries xy_entries k (plus x y)
      (walk_sum xy_entries xy_entries x y
      (walk_both xy_entries xy_entries xy_entries x y x_again y_again)) in
      sides_walk (load_sides 0 k) xy_entries xy_entries (Some nat) (tower_wanted k)
      ((tt, (same, tt)), left.clean) left.after right.clean right.after

  changed_sum_walks : SidesWalk (load_sides 1 k) xy_entries
  changed_sum_walks =
      let left = walk_both [] x_entries xy_entries x y x_first y_second in
      let right = walk_sum xy_entries xy_entries x (successors k y)
      (walk_both xy_entries xy_entries xy_entries x (successors k y) x_again
      (walk_tower xy_entries xy_entries k y y_again)) in
      sides_walk (load_sides 1 k) xy_entries xy_entries (Some nat) refl
      ((tt, (same, tt)), left.clean) left.after right.clean right.after

  order_walks : SidesWalk (load_sides 2 k) x_entries
  order_walks =
      let left = walk_both [] [] x_entries (successors (k + 3) nought) x
      (walk_tower [] [] (k + 3) nought nought_first) x_first in
      sides_walk (load_sides 2 k) x_entries x_entries (Some bool_sort) refl
      ((tt, (same, tt)), left.clean) left.after ((tt, (same, same)), tt) refl

  sum_of_three_walks : SidesWalk (load_sides 3 k) xyz_entries
  sum_of_three_walks =
      let first = walk_sum [] xy_entries x y
      (walk_both [] x_entries xy_entries x y x_first y_second) in
      let left = walk_both [] xy_entries xyz_entries (plus x y) (successors k z) first
      (walk_tower xy_entries xyz_entries k z z_third) in
      let last = walk_sum xyz_entries xyz_entries y (successors k z)
      (walk_both xyz_entries xyz_entries xyz_entries y (successors k z) y_of_three
      (walk_tower xyz_entries xyz_entries k z z_of_three)) in
      let right = walk_sum xyz_entries xyz_entries x (plus y (successors k z))
      (walk_both xyz_entries xyz_entries xyz_entries x (plus y (successors k z))
      x_of_three last) in
      sides_walk (load_sides 3 k) xyz_entries xyz_entries (Some nat) refl
      ((tt, (same, tt)), left.clean) left.after right.clean right.after

-- The sorts of variables, which all places of arguments give.

sorts_of_sum : (k : ℕ) → Clean (sorts_tests load_sig xy_entries (load_sides 0 k ∷ []))
sorts_of_sum zero = ((tt, tt), ((tt, (tt, (tt, tt))), (some_is_not_none, (some_is_not_none, tt))))
sorts_of_sum (suc k) =
    ((tt, tt), ((tt, (tt, (tt, tt))), (some_is_not_none, (some_is_not_none, tt))))

-- equations whose sides leave these variables
from_sides : (e : RawEq) (fs : List Entry) → SidesWalk e fs →
    Clean (sorts_tests load_sig fs (e ∷ [])) →
    Clean (sorts_tests load_sig (after_sides load_sig [] e) (e ∷ []))
from_sides e fs w k = subst (λ (es : List Entry). Clean (sorts_tests load_sig es (e ∷ [])))
    (sym w.after) k

kind_clean : (text : List ℕ) (kind k : ℕ) → Clean (clause_tests load_sig (goal_of_kind text kind k))
kind_clean text zero k =
    let w = sum_of_successor_walks k in
    ((tt, tt), ((w.clean, tt), from_sides (load_sides 0 k) xy_entries w (sorts_of_sum k)))
kind_clean text (suc zero) k =
    let w = changed_sum_walks k in (
      (tt, tt),
      (
        (w.clean, tt),
        from_sides (load_sides 1 k) xy_entries w
            ((tt, tt), ((tt, (tt, (tt, tt))), (some_is_not_none, (some_is_not_none, tt)))),
      ),
    )
kind_clean text (suc (suc zero)) k =
    let w = order_walks k in (
      (tt, tt),
      (
        (w.clean, tt),
        from_sides (load_sides 2 k) x_entries w
            ((tt, tt), ((tt, (tt, tt)), (some_is_not_none, tt))),
      ),
    )
kind_clean text (suc (suc (suc n))) k =
    let w = sum_of_three_walks k in (
      (tt, tt),
      (
        (w.clean, tt),
        from_sides (load_sides 3 k) xyz_entries w (
          (tt, tt),
          (
            (tt, (tt, (tt, (tt, tt)))),
            (
              some_is_not_none,
              (some_is_not_none, (some_is_not_none, tt)),
            ),
          ),
        ),
      ),
    )

-- Goals in order: no name is that of an earlier goal.

kind_name : (text : List ℕ) (kind k : ℕ) → (goal_of_kind text kind k).head.name ≡ text
kind_name text zero k = refl
kind_name text (suc zero) k = refl
kind_name text (suc (suc zero)) k = refl
kind_name text (suc (suc (suc n))) k = refl

name_of : (i : ℕ) → (load_goal i).head.name ≡ goal_name i
name_of i = kind_name (goal_name i) (i % 4) (height i)

-- the goal has the name of one before number i
abbrev IsEarlier : ℕ → RawGoal → Type 0
IsEarlier i g = (j : ℕ) × (j < i) × (g.head.name ≡ goal_name j)

earlier_next : (i : ℕ) (gs : List RawGoal) → AllByRecursion (IsEarlier i) gs →
    AllByRecursion (IsEarlier (i + 1)) (gs ++ load_goal i ∷ [])
earlier_next i [] h = ((i, omega arith, name_of i), tt)
earlier_next i (g ∷ gs) h = ((h.0.0, omega (arith, h.0.1), h.0.2), earlier_next i gs h.1)

other_names : (i j : ℕ) → j < i → i < 2 ^ 64 → goal_name i ≡ goal_name j → ⊥
other_names i j lt few e =
    let z : 103 ∷ decimal i ≡ 103 ∷ decimal j = e in
    let q : decimal i ≡ decimal j = cc in
    let same_number : i ≡ j = decimal_injective i j few (omega arith) q in
    omega arith

new_name : (i : ℕ) (gs : List RawGoal) → i < 2 ^ 64 → AllByRecursion (IsEarlier i) gs →
    IsNewName (goal_name i) (map (λ (g : RawGoal). g.head.name) gs)
new_name i [] few h = tt
new_name i (g ∷ gs) few h = (
  (λ e. other_names i h.0.0 h.0.1 few (e ∙ h.0.2)),
  new_name i gs few h.1,
)

goals_clean : (before : List RawGoal) (i n : ℕ) → i + n < 2 ^ 64 →
    AllByRecursion (IsEarlier i) before →
    Clean (each_after (goal_tests load_sig) before (map load_goal (range_with_len i n)))
goals_clean before i zero few h = tt
goals_clean before i (suc n) few h =
    let new : IsNewName (load_goal i).head.name (map (λ (g : RawGoal). g.head.name) before) =
    subst (λ (name : List ℕ). IsNewName name (map (λ (g : RawGoal). g.head.name) before))
    (sym (name_of i)) (new_name i before (omega arith) h) in (
      ((λ k. k new), kind_clean (goal_name i) (i % 4) (height i)),
      goals_clean (before ++ load_goal i ∷ []) (i + 1) n (omega arith) (earlier_next i before h),
    )

pub load_goals_clean : (n : ℕ) → n < 2 ^ 64 →
    Clean (each_after (goal_tests load_sig) [] (map load_goal (range_with_len 0 n)))
load_goals_clean n few = goals_clean [] 0 n (omega arith) tt
