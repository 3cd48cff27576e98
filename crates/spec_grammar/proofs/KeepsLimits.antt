-- What a text derives keeps the limits: none of its tokens has a mark, so that each count of the grammar stays below its limit.
use Rattle.std.proofs.Common.{◌≡◌, ℕ, ◌+◌, ◌<◌, ◌≤◌, List, [], ◌∷◌, inl, inr, Option, Some, None, Bool, true, false}
use Rattle.std.proofs.Common.{cond, nat_le, length, refl, ap, sym, subst, arith}
use Rattle.std.specs.Prelude.{sum_by, ◌==◌}
use Rattle.std.specs.List.{AllByRecursion}
use Rattle.std.specs.Option.{IfSome}
use Rattle.std.proofs.lemmas.Bool.{leb-true, leb-false}
use Rattle.std.proofs.lemmas.List.Sums.{sum_by-cons}
use Rattle.spec_grammar.specs.declared.keys.Key.{Key}
use Rattle.spec_grammar.specs.declared.keys.Key.TheVariants.{Comma, Bar, Equals, Colon, Arrow, RightPar}
use Rattle.spec_grammar.specs.declared.limits.LimitKind.{LimitKind}
use Rattle.spec_grammar.specs.declared.limits.LimitKind.TheVariants as limit
use Rattle.spec_grammar.specs.declared.raw.RawName.{RawName}
use Rattle.spec_grammar.specs.declared.raw.RawNames.{RawNames}
use Rattle.spec_grammar.specs.declared.raw.RawSort.{RawSort}
use Rattle.spec_grammar.specs.declared.raw.RawFun.{RawFun}
use Rattle.spec_grammar.specs.declared.raw.RawEqual.{RawEqual}
use Rattle.spec_grammar.specs.declared.raw.RawStatus.{RawStatus}
use Rattle.spec_grammar.specs.declared.raw.RawWeight.{RawWeight}
use Rattle.spec_grammar.specs.declared.raw.RawOrder.{RawOrder}
use Rattle.spec_grammar.specs.declared.raw.RawEq.{RawEq}
use Rattle.spec_grammar.specs.declared.raw.RawGuard.{RawGuard}
use Rattle.spec_grammar.specs.declared.raw.RawRule.{RawRule}
use Rattle.spec_grammar.specs.declared.raw.RawBind.{RawBind}
use Rattle.spec_grammar.specs.declared.raw.RawGoal.{RawGoal}
use Rattle.spec_grammar.specs.declared.raw.RawSpec.{RawSpec}
use Rattle.spec_grammar.specs.RawTree.{RawTree, RawTrees, word, none, some}
use Rattle.spec_grammar.specs.Items.{Item, items_of}
use Rattle.spec_grammar.specs.Limits.{most_constructors, most_functions, most_rules, over, or_else, name_mark}
use Rattle.spec_grammar.specs.Limits.{constructor_mark, arity_mark, term_mark, variable_mark}
use Rattle.spec_grammar.specs.Grammar.{Marked, sign, name_text, term_text, args_text, more_text, more_names_text}
use Rattle.spec_grammar.specs.Grammar.{names_text, con_text, constructors_text, AreSorts, funs_text, more_equal_text}
use Rattle.spec_grammar.specs.Grammar.{AreEquals, more_numbers_text, AreStatuses, more_weights_text, weights_text}
use Rattle.spec_grammar.specs.Grammar.{order_text, guards_text, sides_text, rules_text, commas_text, premises_text}
use Rattle.spec_grammar.specs.Grammar.{bars_text, conclusions_text, IsClause, bind_text, more_binds_text, binds_text}
use Rattle.spec_grammar.specs.Grammar.{AreGoals, IsSpecText, IsTermText}
use Rattle.spec_grammar.specs.Derives.{clean, Derives, TextDerives}
use Rattle.spec_grammar.specs.KeepsLimits.{raw_depth, raw_depths, raw_count, WordsKeepLimits, AllWordsKeepLimits}
use Rattle.spec_grammar.specs.KeepsLimits.{TermKeepsLimits, NameKeepsLimits, NamesKeepLimits, SortKeepsLimits}
use Rattle.spec_grammar.specs.KeepsLimits.{FunctionKeepsLimits, EqualKeepsLimits, StatusKeepsLimits, OrderKeepsLimits}
use Rattle.spec_grammar.specs.KeepsLimits.{RuleKeepsLimits, EquationKeepsLimits, BindKeepsLimits, GoalKeepsLimits}
use Rattle.spec_grammar.specs.KeepsLimits.{KeepsLimits}
use Rattle.spec_grammar.proofs.Stacks.{limit_none}

-- no token passes a limit
abbrev HasNoMark : List Marked → Type 0
HasNoMark [] = Unit {0}
HasNoMark (m ∷ ms) = (m.1 ≡ None) × HasNoMark ms

HasNoMark-clean : (items : List Item) → HasNoMark (clean items)
HasNoMark-clean [] = tt
HasNoMark-clean (x ∷ items) = (refl, HasNoMark-clean items)

over_test : (b : Bool) (n most : ℕ) (why : LimitKind) → nat_le most n ≡ b →
    cond {A = Option LimitKind} b (Some why) None ≡ None → n < most
over_test true n most why e h = absurd (limit_none h)
over_test false n most why e h = leb-false most n e

over_none : (n most : ℕ) (why : LimitKind) → over n most why ≡ None → n < most
over_none n most why h = over_test (nat_le most n) n most why refl h

or_else_none : (m k : Option LimitKind) → or_else m k ≡ None → (m ≡ None) × (k ≡ None)
or_else_none (Some why) k h = absurd (limit_none h)
or_else_none None k h = (refl, h)

name_test : (b : Bool) (n : ℕ) (m : Option LimitKind) → nat_le n 64 ≡ b →
    cond {A = Option LimitKind} b m (Some limit.Name) ≡ None → (n ≤ 64) × (m ≡ None)
name_test true n m e h = (leb-true n 64 e, h)
name_test false n m e h = absurd (limit_none h)

name_none : (name : List ℕ) (m : Option LimitKind) → name_mark name m ≡ None → (length name ≤ 64) × (m ≡ None)
name_none name m h = name_test (nat_le (length name) 64) (length name) m refl h

-- the limits of each format
one_of : (b : Bool) (m n k : ℕ) → m ≤ k → n ≤ k → cond b m n ≤ k
one_of true m n k a b = a
one_of false m n k a b = b

pub few_constructors : (version : ℕ) → most_constructors version ≤ 1000
few_constructors version = one_of (version == 2) 1000 500 1000 (omega arith) (omega arith)

pub few_functions : (version : ℕ) → most_functions version ≤ 1000
few_functions version = one_of (version == 2) 1000 500 1000 (omega arith) (omega arith)

pub few_rules : (version : ℕ) → most_rules version ≤ 4000
few_rules version = one_of (version == 2) 4000 1000 4000 (omega arith) (omega arith)

-- a constructor that passes no limit
pub constructor_none : (version k t : ℕ) → constructor_mark version k t ≡ None →
    (k < 64) × (t < most_constructors version)
constructor_none version k t h = let both = or_else_none (over k 64 limit.Constructors)
    (over t (most_constructors version) limit.Constructors) h in
    (over_none k 64 limit.Constructors both.0, over_none t (most_constructors version) limit.Constructors both.1)

term_none : (d n : ℕ) → term_mark d n ≡ None → (n < 8) × (d < 64)
term_none d n h = let both = or_else_none (arity_mark n) (over d 64 limit.Nesting) h in
    (over_none n 8 limit.Arity both.0, over_none d 64 limit.Nesting both.1)

-- Each part of a text: its limits are kept, and what comes after it has no mark. A term with d words above it has less
-- than 64 of them if it has no mark of its own.
mutual
  term_kept : (d : ℕ) (m : Option LimitKind) (t : RawTree) (v : List Marked) → (m ≡ None → d < 64) →
      HasNoMark (term_text d m t v) → (m ≡ None) × (d + raw_depth t ≤ 64) × WordsKeepLimits t × HasNoMark v
  term_kept d m (word b a ts) v above h =
      let name = name_none b m h.0 in
      let args = args_kept d ts v (above name.1) h.1 in
      (name.1, omega (arith, args.0), (name.0, args.1, args.2), args.3)

  args_kept : (d : ℕ) (ts : RawTrees) (v : List Marked) → d < 64 → HasNoMark (args_text d ts v) →
      (d + 1 + raw_depths ts ≤ 64) × (raw_count ts ≤ 8) × AllWordsKeepLimits ts × HasNoMark v
  args_kept d none v le h = (omega arith, omega arith, tt, h)
  args_kept d (some t ts) v le h =
      let first = term_kept (d + 1) (term_mark (d + 1) 0) t (more_text (d + 1) 1 ts (sign RightPar ∷ v))
      (λ e. (term_none (d + 1) 0 e).1) h.1 in
      let others = more_kept (d + 1) 1 ts (sign RightPar ∷ v) (omega arith) (omega arith) first.3 in
      (omega (arith, first.1, others.0), others.1, (first.2, others.2), others.3.1)

  more_kept : (d n : ℕ) (ts : RawTrees) (v : List Marked) → d ≤ 64 → n ≤ 8 → HasNoMark (more_text d n ts v) →
      (d + raw_depths ts ≤ 64) × (n + raw_count ts ≤ 8) × AllWordsKeepLimits ts × HasNoMark v
  more_kept d n none v le few h = (omega arith, omega arith, tt, h)
  more_kept d n (some t ts) v le few h =
      let first = term_kept d (term_mark d n) t (more_text d (n + 1) ts v) (λ e. (term_none d n e).1) h.1 in
      let below = (term_none d n first.0).0 in
      let others = more_kept d (n + 1) ts v le (omega (arith, below)) first.3 in
      (omega (arith, first.1, others.0), omega (arith, others.1), (first.2, others.2), others.3)

root_kept : (m : Option LimitKind) (t : RawTree) (v : List Marked) → HasNoMark (term_text 0 m t v) →
    (m ≡ None) × TermKeepsLimits t × HasNoMark v
root_kept m t v h =
    let kept = term_kept 0 m t v (λ e. omega arith) h in
    (kept.0, record { depth = omega (arith, kept.1); words = kept.2 }, kept.3)

sides_kept : (m : Option LimitKind) (l r : RawTree) (v : List Marked) → HasNoMark (sides_text m l r v) →
    (m ≡ None) × (TermKeepsLimits l × TermKeepsLimits r) × HasNoMark v
sides_kept m l r v h =
    let left = root_kept m l (sign Equals ∷ term_text 0 None r v) h in
    let right = root_kept None r v left.2.1 in
    (left.0, (left.1, right.1), right.2)

-- names
more_names_kept : (n : ℕ) (xs : List RawName) (v : List Marked) → n ≤ 8 → HasNoMark (more_names_text n xs v) →
    (n + length xs ≤ 8) × AllByRecursion NameKeepsLimits xs × HasNoMark v
more_names_kept n [] v le h = (omega arith, tt, h)
more_names_kept n (x ∷ xs) v le h =
    let name = name_none x.name (arity_mark n) h.1.0 in
    let below = over_none n 8 limit.Arity name.1 in
    let others = more_names_kept (n + 1) xs v (omega (arith, below)) h.1.1 in
    (omega (arith, others.0), (name.0, others.1), others.2)

names_kept : (xs : List RawName) (v : List Marked) → HasNoMark (names_text xs v) →
    (length xs ≤ 8) × AllByRecursion NameKeepsLimits xs × HasNoMark v
names_kept [] v h = (omega arith, tt, h)
names_kept (x ∷ xs) v h =
    let name = name_none x.name (arity_mark 0) h.1.0 in
    let others = more_names_kept 1 xs (sign RightPar ∷ v) (omega arith) h.1.1 in
    (omega (arith, others.0), (name.0, others.1), others.2.1)

con_kept : (m : Option LimitKind) (c : RawNames) (v : List Marked) → HasNoMark (con_text m c v) →
    (m ≡ None) × NamesKeepLimits c × HasNoMark v
con_kept m c v h =
    let name = name_none c.name m h.0 in
    let args = names_kept c.args v h.1 in
    (name.1, record { name = name.0; few_arguments = args.0; arguments = args.1 }, args.2)

-- sorts
constructors_kept : (version k t : ℕ) (cs : List RawNames) (v : List Marked) → k ≤ 64 →
    t ≤ most_constructors version → HasNoMark (constructors_text version k t cs v) →
    (k + length cs ≤ 64) × (t + length cs ≤ most_constructors version) × AllByRecursion NamesKeepLimits cs × HasNoMark v
constructors_kept version k t [] v le few h = (omega arith, omega arith, tt, h)
constructors_kept version k t (c ∷ cs) v le few h =
    let first = con_kept (constructor_mark version k t) c (constructors_text version (k + 1) (t + 1) cs v) h.1 in
    let below = constructor_none version k t first.0 in
    let others = constructors_kept version (k + 1) (t + 1) cs v (omega (arith, below.0))
    (omega (arith, below.1)) first.2 in
    (omega (arith, others.0), omega (arith, others.1), (first.1, others.2), others.3)

abbrev in_all : List RawSort → ℕ
in_all ss = sum_by (λ (s : RawSort). length s.constructors) ss

sorts_kept : (version n t : ℕ) (ss : List RawSort) (text v : List Marked) → n ≤ 200 →
    t ≤ most_constructors version → AreSorts version n t ss text v → HasNoMark text →
    (n + length ss ≤ 200) × (t + in_all ss ≤ most_constructors version) × AllByRecursion SortKeepsLimits ss
    × HasNoMark v
sorts_kept version n t [] text v le few are h = (omega arith, omega arith, tt, subst HasNoMark are h)
sorts_kept version n t (s ∷ ss) text v le few (first, others, after, cs, is, are) h =
    let marks = subst HasNoMark is h in
    let below = over_none n 200 limit.Sorts marks.0 in
    let name = name_none s.head.name None marks.1.0 in
    let con = con_kept (constructor_mark version 0 t) first (constructors_text version 1 (t + 1) others after)
    marks.1.1.1 in
    let room = (constructor_none version 0 t con.0).1 in
    let cons = constructors_kept version 1 (t + 1) others after (omega arith) (omega (arith, room)) con.2 in
    let rest = sorts_kept version (n + 1) (t + 1 + length others) ss after v (omega (arith, below))
    (omega (arith, cons.1)) are cons.3 in
    let number : length s.constructors ≡ length (first ∷ others) = ap (λ (xs : List RawNames). length xs) cs in
    let sum = sum_by-cons (λ (x : RawSort). length x.constructors) s ss in
    let sort : SortKeepsLimits s = record {
      name = name.0;
      few_constructors = omega (
        arith,
        number,
        cons.0,
      );
      constructors = subst (AllByRecursion NamesKeepLimits) (sym cs) (con.1, cons.2);
    } in
    (omega (arith, rest.0), omega (arith, rest.1, number, sum), (sort, rest.2), rest.3)

-- functions and rules
funs_kept : (version n : ℕ) (fs : List RawFun) (v : List Marked) → n ≤ most_functions version →
    HasNoMark (funs_text version n fs v) → (n + length fs ≤ most_functions version)
    × AllByRecursion FunctionKeepsLimits fs × HasNoMark v
funs_kept version n [] v le h = (omega arith, tt, h)
funs_kept version n (f ∷ fs) v le h =
    let below = over_none n (most_functions version) limit.Functions h.0 in
    let head = con_kept None f.head (sign Colon ∷ name_text None f.result (funs_text version (n + 1) fs v)) h.1 in
    let result = name_none f.result.name None head.2.1.0 in
    let rest = funs_kept version (n + 1) fs v (omega (arith, below)) head.2.1.1 in
    (omega (arith, rest.0), (record { head = head.1; result = result.0 }, rest.1), rest.2)

-- the lines that order functions
more_equal_kept : (xs : List RawName) (v : List Marked) → HasNoMark (more_equal_text xs v)
    → AllByRecursion NameKeepsLimits xs × HasNoMark v
more_equal_kept [] v h = (tt, h)
more_equal_kept (x ∷ xs) v h =
    let name = name_none x.name None h.1.0 in
    let rest = more_equal_kept xs v h.1.1 in
    ((name.0, rest.0), rest.1)

equals_kept : (es : List RawEqual) (w v : List Marked) → AreEquals es w v → HasNoMark w
    → AllByRecursion EqualKeepsLimits es × HasNoMark v
equals_kept [] w v is h = (tt, subst HasNoMark is h)
equals_kept (e ∷ es) w v (first, second, others, after, listed, is, rest) h =
    let marks = subst HasNoMark is h in
    let name = name_none first.name None marks.1.0 in
    let kept = more_equal_kept (second ∷ others) after marks.1.1 in
    let all = equals_kept es after v rest kept.1 in
    ((subst (AllByRecursion NameKeepsLimits) (sym listed) (name.0, kept.0), all.0), all.1)

more_numbers_kept : (n : ℕ) (is : List ℕ) (v : List Marked) → n ≤ 8
    → HasNoMark (more_numbers_text n is v) → (n + length is ≤ 8) × HasNoMark v
more_numbers_kept n [] v le h = (omega arith, h)
more_numbers_kept n (i ∷ is) v le h =
    let below = over_none n 8 limit.Arity h.1.0 in
    let rest = more_numbers_kept (n + 1) is v (omega (arith, below)) h.1.1 in
    (omega (arith, rest.0), rest.1)

statuses_kept : (ss : List RawStatus) (w v : List Marked) → AreStatuses ss w v → HasNoMark w
    → AllByRecursion StatusKeepsLimits ss × HasNoMark v
statuses_kept [] w v is h = (tt, subst HasNoMark is h)
statuses_kept (s ∷ ss) w v (first, others, after, listed, is, rest) h =
    let marks = subst HasNoMark is h in
    let name = name_none s.head.name None marks.1.0 in
    let kept = more_numbers_kept 1 others (sign RightPar ∷ after) (omega arith) marks.1.1.1.1 in
    let all = statuses_kept ss after v rest kept.1.1 in
    let number : length s.numbers ≡ length (first ∷ others) = ap (λ (is : List ℕ). length is) listed in
    (((name.0, omega (arith, number, kept.0)), all.0), all.1)

-- the line of the order
more_weights_kept : (ws : List RawWeight) (v : List Marked) → HasNoMark (more_weights_text ws v)
    → AllByRecursion (λ (w : RawWeight). NameKeepsLimits w.name) ws × HasNoMark v
more_weights_kept [] v h = (tt, h)
more_weights_kept (w ∷ ws) v h =
    let name = name_none w.name.name None h.1.0 in
    let rest = more_weights_kept ws v h.1.1.1.1 in
    ((name.0, rest.0), rest.1)

weights_kept : (ws : List RawWeight) (v : List Marked) → HasNoMark (weights_text ws v)
    → AllByRecursion (λ (w : RawWeight). NameKeepsLimits w.name) ws × HasNoMark v
weights_kept [] v h = (tt, h)
weights_kept (w ∷ ws) v h =
    let name = name_none w.name.name None h.1.0 in
    let rest = more_weights_kept ws v h.1.1.1.1 in
    ((name.0, rest.0), rest.1)

order_line_kept : (line : Option RawOrder) (v : List Marked) → HasNoMark (order_text line v)
    → IfSome line OrderKeepsLimits × HasNoMark v
order_line_kept None v h = (tt, h)
order_line_kept (Some o) v h =
    let name = name_none o.name.name None h.1.0 in
    let rest = weights_kept o.weights v h.1.1 in
    ((name.0, rest.0), rest.1)

guards_kept : (n : ℕ) (gs : List RawGuard) (v : List Marked) → n ≤ 8 → HasNoMark (guards_text n gs v) →
    (n + length gs ≤ 8) × AllByRecursion (λ (g : RawGuard). TermKeepsLimits g.test) gs × HasNoMark v
guards_kept n [] v le h = (omega arith, tt, h)
guards_kept n (g ∷ gs) v le h =
    let below = over_none n 8 limit.Guards h.0 in
    let test = root_kept None g.test (guards_text (n + 1) gs v) h.1 in
    let rest = guards_kept (n + 1) gs v (omega (arith, below)) test.2 in
    (omega (arith, rest.0), (test.1, rest.1), rest.2)

rules_kept : (version n : ℕ) (rs : List RawRule) (v : List Marked) → n ≤ most_rules version →
    HasNoMark (rules_text version n rs v) → (n + length rs ≤ most_rules version)
    × AllByRecursion RuleKeepsLimits rs × HasNoMark v
rules_kept version n [] v le h = (omega arith, tt, h)
rules_kept version n (r ∷ rs) v le h =
    let below = over_none n (most_rules version) limit.Rules h.0 in
    let sides = sides_kept None r.left r.right (guards_text 0 r.guards (rules_text version (n + 1) rs v)) h.1 in
    let guards = guards_kept 0 r.guards (rules_text version (n + 1) rs v) (omega arith) sides.2 in
    let rest = rules_kept version (n + 1) rs v (omega (arith, below)) guards.2 in
    let rule : RuleKeepsLimits r = record {
      left = sides.1.0;
      right = sides.1.1;
      few_guards = omega (
        arith,
        guards.0,
      );
      guards = guards.1;
    } in
    (omega (arith, rest.0), (rule, rest.1), rest.2)

-- clauses
-- equations, each after the key, with the marks of a limit
behind_kept : (text : ℕ → List RawEq → List Marked → List Marked) (key : Key) (most : ℕ) (why : LimitKind) →
    ((n : ℕ) (v : List Marked) → text n [] v ≡ v) → ((n : ℕ) (e : RawEq) (es : List RawEq) (v : List Marked) →
    text n (e ∷ es) v ≡ sign key ∷ sides_text (over n most why) e.left e.right (text (n + 1) es v)) →
    (n : ℕ) (es : List RawEq) (v : List Marked) → n ≤ most → HasNoMark (text n es v) → (n + length es ≤ most)
    × AllByRecursion EquationKeepsLimits es × HasNoMark v
behind_kept text key most why ends goes_on n [] v le h = (omega arith, tt, subst HasNoMark (ends n v) h)
behind_kept text key most why ends goes_on n (e ∷ es) v le h =
    let marks = subst HasNoMark (goes_on n e es v) h in
    let sides = sides_kept (over n most why) e.left e.right (text (n + 1) es v) marks.1 in
    let below = over_none n most why sides.0 in
    let rest = behind_kept text key most why ends goes_on (n + 1) es v (omega (arith, below)) sides.2 in
    (omega (arith, rest.0), (sides.1, rest.1), rest.2)

-- the same after a first one without a key
equations_kept : (whole : List RawEq → List Marked → List Marked) (text : ℕ → List RawEq → List Marked →
    List Marked) (key : Key) (most : ℕ) (why : LimitKind) → 1 ≤ most → ((v : List Marked) → whole [] v ≡ v) →
    ((e : RawEq) (es : List RawEq) (v : List Marked) →
    whole (e ∷ es) v ≡ sides_text (over 0 most why) e.left e.right (text 1 es v)) →
    ((n : ℕ) (v : List Marked) → text n [] v ≡ v) → ((n : ℕ) (e : RawEq) (es : List RawEq) (v : List Marked) →
    text n (e ∷ es) v ≡ sign key ∷ sides_text (over n most why) e.left e.right (text (n + 1) es v)) →
    (es : List RawEq) (v : List Marked) → HasNoMark (whole es v) →
    (length es ≤ most) × AllByRecursion EquationKeepsLimits es × HasNoMark v
equations_kept whole text key most why one empty first ends goes_on [] v h = (
  omega arith,
  tt,
  subst HasNoMark (empty v) h,
)
equations_kept whole text key most why one empty first ends goes_on (e ∷ es) v h =
    let sides = sides_kept (over 0 most why) e.left e.right (text 1 es v) (subst HasNoMark (first e es v) h) in
    let rest = behind_kept text key most why ends goes_on 1 es v one sides.2 in
    (omega (arith, rest.0), (sides.1, rest.1), rest.2)

premises_kept : (es : List RawEq) (v : List Marked) → HasNoMark (premises_text es v) →
    (length es ≤ 8) × AllByRecursion EquationKeepsLimits es × HasNoMark v
premises_kept es v h = equations_kept premises_text commas_text Comma 8 limit.Premises (omega arith) (λ v. refl)
    (λ e es v. refl) (λ n v. refl) (λ n e es v. refl) es v h

conclusions_kept : (es : List RawEq) (v : List Marked) → HasNoMark (conclusions_text es v) →
    (length es ≤ 4) × AllByRecursion EquationKeepsLimits es × HasNoMark v
conclusions_kept es v h = equations_kept conclusions_text bars_text Bar 4 limit.Conclusions (omega arith)
    (λ v. refl) (λ e es v. refl) (λ n v. refl) (λ n e es v. refl) es v h

-- the premises and the conclusions of a goal
abbrev ClauseKept : List RawEq → List RawEq → List Marked → Type 0
ClauseKept ps cs v = (length ps ≤ 8) × AllByRecursion EquationKeepsLimits ps × (length cs ≤ 4)
    × AllByRecursion EquationKeepsLimits cs × HasNoMark v

clause_kept : (ps cs : List RawEq) (text v : List Marked) → IsClause ps cs text v → HasNoMark text → ClauseKept ps cs v
clause_kept ps cs text v (inl is) h =
    let premises = premises_kept ps (sign Arrow ∷ conclusions_text cs v) (subst HasNoMark is h) in
    let conclusions = conclusions_kept cs v premises.2.1 in
    (premises.0, premises.1, conclusions.0, conclusions.1, conclusions.2)
clause_kept ps cs text v (inr is) h =
    let conclusions = conclusions_kept cs v (subst HasNoMark is.2 h) in
    let made : ClauseKept [] cs v = (omega arith, tt, conclusions.0, conclusions.1, conclusions.2) in
    subst (λ (es : List RawEq). ClauseKept es cs v) (sym is.0) made

-- goals
bind_kept : (m : Option LimitKind) (b : RawBind) (v : List Marked) → HasNoMark (bind_text m b v) →
    (m ≡ None) × BindKeepsLimits b × HasNoMark v
bind_kept m b v h =
    let name = name_none b.name.name m h.0 in
    let sort = name_none b.sort.name None h.1.1.0 in
    (name.1, (name.0, sort.0), h.1.1.1)

more_binds_kept : (n : ℕ) (bs : List RawBind) (v : List Marked) → n ≤ 16 → HasNoMark (more_binds_text n bs v) →
    (n + length bs ≤ 16) × AllByRecursion BindKeepsLimits bs × HasNoMark v
more_binds_kept n [] v le h = (omega arith, tt, h)
more_binds_kept n (b ∷ bs) v le h =
    let bind = bind_kept (variable_mark n) b (more_binds_text (n + 1) bs v) h.1 in
    let below = over_none n 16 limit.Variables bind.0 in
    let rest = more_binds_kept (n + 1) bs v (omega (arith, below)) bind.2 in
    (omega (arith, rest.0), (bind.1, rest.1), rest.2)

binds_kept : (bs : List RawBind) (v : List Marked) → HasNoMark (binds_text bs v) →
    (length bs ≤ 16) × AllByRecursion BindKeepsLimits bs × HasNoMark v
binds_kept [] v h = (omega arith, tt, h)
binds_kept (b ∷ bs) v h =
    let bind = bind_kept (variable_mark 0) b (more_binds_text 1 bs (sign RightPar ∷ v)) h.1 in
    let rest = more_binds_kept 1 bs (sign RightPar ∷ v) (omega arith) bind.2 in
    (omega (arith, rest.0), (bind.1, rest.1), rest.2.1)

goals_kept : (n : ℕ) (gs : List RawGoal) (text v : List Marked) → n ≤ 200 → AreGoals n gs text v →
    HasNoMark text → (n + length gs ≤ 200) × AllByRecursion GoalKeepsLimits gs
goals_kept n [] text v le are h = (omega arith, tt)
goals_kept n (g ∷ gs) text v le (clause, after, is, are_clause, are) h =
    let marks = subst HasNoMark is h in
    let below = over_none n 200 limit.Goals marks.0 in
    let name = name_none g.head.name None marks.1.0 in
    let binds = binds_kept g.binds (sign Colon ∷ clause) marks.1.1 in
    let equations = clause_kept g.premises g.conclusions clause after are_clause binds.2.1 in
    let rest = goals_kept (n + 1) gs after v (omega (arith, below)) are equations.4 in
    let goal : GoalKeepsLimits g = record {
      name = name.0;
      few_binds = binds.0;
      binds = binds.1;
      few_premises = equations.0;
      premises = equations.1;
      few_conclusions = equations.2;
      conclusions = equations.3;
    } in
    (omega (arith, rest.0), (goal, rest.1))

-- a specification, and a term alone
pub derived_keeps_limits : (items : List Item) (raw : RawSpec) → Derives IsSpecText items raw → KeepsLimits raw
derived_keeps_limits items raw (sorts_text, lines_text, goals_text, is, are_sorts, is_order, are_goals, known) =
    let version = raw.version in
    let marks = subst HasNoMark is (HasNoMark-clean items) in
    let sorts = sorts_kept version 0 0 raw.sorts sorts_text (funs_text version 0 raw.funs lines_text)
    (omega arith) (omega arith) are_sorts marks.1.1 in
    let funs = funs_kept version 0 raw.funs lines_text (omega arith) sorts.3 in
    let equals = equals_kept raw.equals lines_text is_order.0 is_order.2 funs.2 in
    let statuses = statuses_kept raw.statuses is_order.0 is_order.1 is_order.3 equals.1 in
    let line = order_line_kept raw.order _ (subst HasNoMark is_order.4 statuses.1) in
    let rules = rules_kept version 0 raw.rules goals_text (omega arith) line.1 in
    let goals = goals_kept 0 raw.goals goals_text [] (omega arith) are_goals rules.2 in
    record {
      few_sorts = omega (arith, sorts.0);
      few_constructors = omega (arith, sorts.1);
      sorts = sorts.2;
      few_functions = omega (arith, funs.0);
      functions = funs.1;
      equals = equals.0;
      statuses = statuses.0;
      order = line.0;
      few_rules = omega (arith, rules.0);
      rules = rules.1;
      few_goals = omega (arith, goals.0);
      goals = goals.1;
    }

pub derived_term_keeps_limits : (items : List Item) (t : RawTree) → Derives IsTermText items t → TermKeepsLimits t
derived_term_keeps_limits items t is = (root_kept None t [] (subst HasNoMark is (HasNoMark-clean items))).1

pub keeps_limits : (bytes : List ℕ) (raw : RawSpec) → TextDerives IsSpecText bytes raw → KeepsLimits raw
keeps_limits bytes raw h = derived_keeps_limits (items_of bytes h.0) raw h.2

pub term_keeps_limits : (bytes : List ℕ) (t : RawTree) → TextDerives IsTermText bytes t → TermKeepsLimits t
term_keeps_limits bytes t h = derived_term_keeps_limits (items_of bytes h.0) t h.2
