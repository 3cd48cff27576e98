-- Texts that the checker computes.
use Rattle.std.specs.Prelude.{◌≡◌, ℕ, List, ◌++◌, codes}
use Rattle.spec_printing.specs.Printed.{printed, goal_line}
use Rattle.load_text.specs.LoadRaw.{load_goal, load_raw}

-- the lines before the goals
abbrev pub load_header : List ℕ
load_header = codes "spike 1\nsort Nat = zero | succ(Nat)\n"
    ++ codes "fun plus(Nat, Nat) : Nat\nfun le(Nat, Nat) : Bool\n"
    ++ codes "rule plus(zero, y) = y\nrule plus(succ(x), y) = succ(plus(x, y))\n"
    ++ codes "rule le(zero, y) = true\nrule le(succ(x), zero) = false\n"
    ++ codes "rule le(succ(x), succ(y)) = le(x, y)\n"

-- the goals 0 to 3, one of each kind
abbrev pub first_goal : List ℕ
first_goal = codes "goal g0 : plus(succ(x), y) = succ(plus(x, y))\n"

abbrev pub second_goal : List ℕ
second_goal = codes "goal g1 : plus(x, y) = plus(x, succ(succ(y)))\n"

abbrev pub third_goal : List ℕ
third_goal = codes "goal g2 : le(succ(succ(succ(succ(succ(succ(zero)))))), x) = true =>\n"

abbrev pub fourth_goal : List ℕ
fourth_goal = codes "goal g3 : plus(plus(x, y), succ(succ(succ(succ(z)))))"
    ++ codes " = plus(x, plus(y, succ(succ(succ(succ(z))))))\n"

pub record WorkedExamples : Type 0 where
  pub one : printed (load_raw 1) ≡ load_header ++ first_goal
  pub four : printed (load_raw 4)
      ≡ load_header ++ first_goal ++ second_goal ++ third_goal ++ fourth_goal
  -- the heights begin again at goal 20, of the kind of goal 0
  pub anew : goal_line (load_goal 20)
      ≡ codes "goal g20 : plus(succ(x), y) = succ(plus(x, y))\n"
