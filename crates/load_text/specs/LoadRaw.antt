-- The declarations that `load` generates: naturals with addition and an order, and goals of four
-- kinds. The text is their printed form. A place is 0, since the printed form has none.
use Rattle.std.specs.Prelude.{ℕ, zero, suc, ◌+◌, ◌%◌, List, [], ◌∷◌, ◌++◌, map, codes}
use Rattle.std.specs.Fmt.{decimal}
use Rattle.std.specs.List.{range_with_len}
use Rattle.spec_grammar.specs.declared.raw.RawName.{RawName}
use Rattle.spec_grammar.specs.declared.raw.RawNames.{RawNames}
use Rattle.spec_grammar.specs.declared.raw.RawSort.{RawSort}
use Rattle.spec_grammar.specs.declared.raw.RawFun.{RawFun}
use Rattle.spec_grammar.specs.declared.raw.RawEq.{RawEq}
use Rattle.spec_grammar.specs.declared.raw.RawRule.{RawRule}
use Rattle.spec_grammar.specs.declared.raw.RawGoal.{RawGoal}
use Rattle.spec_grammar.specs.declared.raw.RawSpec.{RawSpec}
use Rattle.spec_grammar.specs.FormatOne.{format_one}
use Rattle.spec_grammar.specs.RawTree.{RawTree, word, none, some}

-- a name alone
abbrev pub named : List ℕ → RawName
named text = record { name = text; at = 0 }

-- a name that has the names in parentheses after it
abbrev pub applied : List ℕ → List RawName → RawNames
applied text args = record { name = text; at = 0; args = args }

-- the sort
abbrev pub nat : RawName
nat = named (codes "Nat")

-- sort Nat = zero | succ(Nat)
abbrev pub nat_sort : RawSort
nat_sort = record {
  head = nat;
  constructors = applied (codes "zero") [] ∷ applied (codes "succ") (nat ∷ []) ∷ [];
}

-- a function of two naturals with this name and this result
abbrev pub of_two : List ℕ → RawName → RawFun
of_two text result = record { head = applied text (nat ∷ nat ∷ []); result = result }

-- a word alone, and a word before two terms
abbrev pub leaf : List ℕ → RawTree
leaf text = word text 0 none

abbrev pub pair : List ℕ → RawTree → RawTree → RawTree
pair text s t = word text 0 (some s (some t none))

-- the terms of the rules and goals
abbrev pub x : RawTree
x = leaf (codes "x")

abbrev pub y : RawTree
y = leaf (codes "y")

abbrev pub z : RawTree
z = leaf (codes "z")

abbrev pub nought : RawTree
nought = leaf (codes "zero")

abbrev pub yes : RawTree
yes = leaf (codes "true")

abbrev pub succ : RawTree → RawTree
succ t = word (codes "succ") 0 (some t none)

abbrev pub plus : RawTree → RawTree → RawTree
plus s t = pair (codes "plus") s t

abbrev pub le : RawTree → RawTree → RawTree
le s t = pair (codes "le") s t

-- the term under `succ`, this many times
abbrev pub successors : ℕ → RawTree → RawTree
successors zero t = t
successors (suc k) t = succ (successors k t)

-- LEFT = RIGHT, and the rule that rewrites the left side to the right one
abbrev pub equals : RawTree → RawTree → RawEq
equals left right = record { left = left; right = right }

abbrev pub rewrites : RawTree → RawTree → RawRule
rewrites left right = record { left = left; right = right; guards = [] }

-- the rules of addition and of the order
abbrev pub load_rules : List RawRule
load_rules =
    rewrites (plus nought y) y
    ∷ rewrites (plus (succ x) y) (succ (plus x y))
    ∷ rewrites (le nought y) yes
    ∷ rewrites (le (succ x) nought) (leaf (codes "false"))
    ∷ rewrites (le (succ x) (succ y)) (le x y)
    ∷ []

-- the equation of a goal of this kind, with `succ` k times:
--     plus(succ^k(x), y) = succ^k(plus(x, y))
--     plus(x, y) = plus(x, succ^k(y))
--     le(succ^(k + 3)(zero), x) = true
--     plus(plus(x, y), succ^k(z)) = plus(x, plus(y, succ^k(z)))
abbrev pub load_sides : ℕ → ℕ → RawEq
load_sides zero k = equals (plus (successors k x) y) (successors k (plus x y))
load_sides (suc zero) k = equals (plus x y) (plus x (successors k y))
load_sides (suc (suc zero)) k = equals (le (successors (k + 3) nought) x) yes
load_sides _ k = equals (plus (plus x y) (successors k z)) (plus x (plus y (successors k z)))

-- the goals LEFT = RIGHT and LEFT = RIGHT => of this name
abbrev pub holds : List ℕ → RawEq → RawGoal
holds text e = record { head = named text; binds = []; premises = []; conclusions = e ∷ [] }

abbrev pub fails : List ℕ → RawEq → RawGoal
fails text e = record { head = named text; binds = []; premises = e ∷ []; conclusions = [] }

-- a goal of this name and kind: the third kind has its equation as a premise
abbrev pub goal_of_kind : List ℕ → ℕ → ℕ → RawGoal
goal_of_kind text (suc (suc zero)) k = fails text (load_sides 2 k)
goal_of_kind text kind k = holds text (load_sides kind k)

-- the name of goal i, and how often `succ` occurs in it
abbrev pub goal_name : ℕ → List ℕ
goal_name i = codes "g" ++ decimal i

abbrev pub height : ℕ → ℕ
height i = 1 + i % 20

-- goal i; the kinds take turns
abbrev pub load_goal : ℕ → RawGoal
load_goal i = goal_of_kind (goal_name i) (i % 4) (height i)

-- the declarations with goals 0 to n - 1
abbrev pub load_raw : ℕ → RawSpec
load_raw n =
    let functions = of_two (codes "plus") nat ∷ of_two (codes "le") (named (codes "Bool")) ∷ [] in
    format_one (nat_sort ∷ []) functions load_rules (map load_goal (range_with_len 0 n))
