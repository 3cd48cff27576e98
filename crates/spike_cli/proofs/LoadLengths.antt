-- The generated text is shorter than the longest file.
use Rattle.std.proofs.Common.{◌≡◌, ◌≤◌, ◌<◌, ◌+◌, ◌*◌, ◌%◌, ◌^◌, ℕ, zero, suc, List, [], ◌++◌, map, length}
use Rattle.std.proofs.Common.{length-append, lit≤, arith}
use Rattle.std.specs.Prelude.{codes}
use Rattle.std.specs.Fmt.{digits}
use Rattle.std.specs.List.{flat_map, range_with_len}
use Rattle.std.proofs.lemmas.Fmt.{length-decimal-le}
use Rattle.spec_grammar.specs.RawTree.{RawTree}
use Rattle.spec_printing.specs.Printed.{equation_printed, fun_line, goal_line, header_line, printed, rule_line}
use Rattle.spec_printing.specs.Printed.{sides_printed, sort_line, term_printed}
use Rattle.load_text.specs.LoadRaw.{x, y, z, nought, yes, plus, le, successors, load_sides, goal_of_kind, goal_name}
use Rattle.load_text.specs.LoadRaw.{height, load_goal, load_raw}

-- each `succ` has six bytes
enclosed_long :
    (k : ℕ) (t : RawTree) →
    length (term_printed (successors k t)) ≡ 6 * k + length (term_printed t)
enclosed_long zero t = omega arith
enclosed_long (suc k) t =
    let inner = term_printed (successors k t) in
    omega (
      arith,
      enclosed_long k t,
      length-append (inner ++ []) (codes ")"),
      length-append inner [],
    )

sum_long :
    (s t : RawTree) →
    length (term_printed (plus s t)) ≡ length (term_printed s) + length (term_printed t) + 8
sum_long s t =
    let a = term_printed s in
    let b = codes ", " ++ term_printed t ++ [] in
    omega (
      arith,
      length-append (a ++ b) (codes ")"),
      length-append a b,
      length-append (term_printed t) [],
    )

order_long :
    (s t : RawTree) →
    length (term_printed (le s t)) ≡ length (term_printed s) + length (term_printed t) + 6
order_long s t =
    let a = term_printed s in
    let b = codes ", " ++ term_printed t ++ [] in
    omega (
      arith,
      length-append (a ++ b) (codes ")"),
      length-append a b,
      length-append (term_printed t) [],
    )

sides_long :
    (l r : RawTree) →
    length (sides_printed l r) ≡ length (term_printed l) + length (term_printed r) + 3
sides_long l r =
    let a = term_printed l in
    omega (arith, length-append (a ++ codes " = ") (term_printed r), length-append a (codes " = "))

-- the equation of a goal of each kind
equation_short : (kind k : ℕ) → length (equation_printed (load_sides kind k)) ≤ 12 * k + 60
equation_short zero k =
    let l = plus (successors k x) y in
    let r = successors k (plus x y) in
    omega (
      arith,
      sides_long l r,
      sum_long (successors k x) y,
      enclosed_long k x,
      enclosed_long k (plus x y),
      sum_long x y,
    )
equation_short (suc zero) k =
    let r = plus x (successors k y) in
    omega (
      arith,
      sides_long (plus x y) r,
      sum_long x y,
      sum_long x (successors k y),
      enclosed_long k y,
    )
equation_short (suc (suc zero)) k =
    let l = le (successors (k + 3) nought) x in
    omega (
      arith,
      sides_long l yes,
      order_long (successors (k + 3) nought) x,
      enclosed_long (k + 3) nought,
    )
equation_short (suc (suc (suc kind))) k =
    let l = plus (plus x y) (successors k z) in
    let inner = plus y (successors k z) in
    omega (
      arith,
      sides_long l (plus x inner),
      sum_long (plus x y) (successors k z),
      sum_long x y,
      sum_long x inner,
      sum_long y (successors k z),
      enclosed_long k z,
    )

-- a goal's line has its name and its equation
module _ (name e : List ℕ) where
  abbrev holding : List ℕ
  holding = codes "goal " ++ name ++ [] ++ codes " :" ++ (codes " " ++ e ++ []) ++ codes "\n"

  abbrev failing : List ℕ
  failing = codes "goal " ++ name ++ [] ++ codes " :" ++
      ((codes " " ++ e ++ []) ++ codes " =>" ++ []) ++ codes "\n"

  holding_long : length holding ≡ length name + length e + 9
  holding_long =
      let head = (name ++ []) ++ codes " :" in
      let clause = codes " " ++ e ++ [] in
      omega (
        arith,
        length-append (head ++ clause) (codes "\n"),
        length-append head clause,
        length-append (name ++ []) (codes " :"),
        length-append name [],
        length-append e [],
      )

  failing_long : length failing ≡ length name + length e + 12
  failing_long =
      let head = (name ++ []) ++ codes " :" in
      let clause = (codes " " ++ e ++ []) ++ codes " =>" ++ [] in
      omega (
        arith,
        length-append (head ++ clause) (codes "\n"),
        length-append head clause,
        length-append (name ++ []) (codes " :"),
        length-append name [],
        length-append ((e ++ []) ++ codes " =>") [],
        length-append (e ++ []) (codes " =>"),
        length-append e [],
      )

goal_short :
    (name : List ℕ) (kind k : ℕ) →
    length (goal_line (goal_of_kind name kind k)) ≤ length name + 12 * k + 72
goal_short name zero k =
    omega (arith, holding_long name (equation_printed (load_sides 0 k)), equation_short 0 k)
goal_short name (suc zero) k =
    omega (arith, holding_long name (equation_printed (load_sides 1 k)), equation_short 1 k)
goal_short name (suc (suc zero)) k =
    omega (arith, failing_long name (equation_printed (load_sides 2 k)), equation_short 2 k)
goal_short name (suc (suc (suc kind))) k =
    omega (arith, holding_long name (equation_printed (load_sides 3 k)), equation_short 3 k)

line_short : (i : ℕ) → i < 10 ^ 9 → length (goal_line (load_goal i)) ≤ 500
line_short i few =
    let long = length-decimal-le 9 i (omega arith) few (omega arith) in
    omega (arith, goal_short (goal_name i) (i % 4) (height i), long)

lines_short :
    (a n : ℕ) → a + n < 10 ^ 9 →
    length (flat_map goal_line (map load_goal (range_with_len a n))) ≤ 500 * n
lines_short a zero few = omega arith
lines_short a (suc n) few =
    let others = flat_map goal_line (map load_goal (range_with_len (a + 1) n)) in
    omega (
      arith,
      line_short a (omega (arith, few)),
      lines_short (a + 1) n (omega (arith, few)),
      length-append (goal_line (load_goal a)) others,
    )

pub load_short : (n : ℕ) → n ≤ 200 → length (printed (load_raw n)) ≤ 4194304
unfolding digits
load_short n few =
    let header = header_line 1 ++ flat_map sort_line (load_raw 0).sorts ++ flat_map fun_line
    (load_raw 0).funs ++ flat_map rule_line (load_raw 0).rules in
    let goals = flat_map goal_line (load_raw n).goals in
    let short : length header ≤ 1000 = lit≤ tt in
    omega (arith, length-append header goals, short, lines_short 0 n (omega (arith, few)))
