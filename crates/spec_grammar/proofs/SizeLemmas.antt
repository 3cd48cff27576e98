-- A text has at least as many tokens as each of its terms has words.
use Rattle.std.proofs.Common.{◌≡◌, ℕ, ◌+◌, ◌≤◌, List, [], ◌∷◌, inl, inr, Option, Some, None, length, ap, sym, subst}
use Rattle.std.proofs.Common.{arith}
use Rattle.std.specs.List.{AllByRecursion}
use Rattle.spec_grammar.specs.declared.limits.LimitKind.{LimitKind}
use Rattle.spec_grammar.specs.declared.raw.RawName.{RawName}
use Rattle.spec_grammar.specs.declared.raw.RawNames.{RawNames}
use Rattle.spec_grammar.specs.declared.raw.RawSort.{RawSort}
use Rattle.spec_grammar.specs.declared.raw.RawFun.{RawFun}
use Rattle.spec_grammar.specs.declared.raw.RawEqual.{RawEqual}
use Rattle.spec_grammar.specs.declared.raw.RawStatus.{RawStatus}
use Rattle.spec_grammar.specs.declared.raw.RawWeight.{RawWeight}
use Rattle.spec_grammar.specs.declared.raw.RawOrder.{RawOrder}
use Rattle.spec_grammar.specs.declared.raw.RawEq.{RawEq}
use Rattle.spec_grammar.specs.declared.raw.RawGuard.{RawGuard}
use Rattle.spec_grammar.specs.declared.raw.RawRule.{RawRule}
use Rattle.spec_grammar.specs.declared.raw.RawBind.{RawBind}
use Rattle.spec_grammar.specs.declared.raw.RawGoal.{RawGoal}
use Rattle.spec_grammar.specs.declared.raw.RawSpec.{RawSpec}
use Rattle.spec_grammar.specs.declared.keys.Key.TheVariants.{Equals, Colon, Arrow, RightPar}
use Rattle.spec_grammar.specs.RawTree.{RawTree, RawTrees, word, none, some}
use Rattle.spec_grammar.specs.Limits.{term_mark, premise_mark, conclusion_mark}
use Rattle.spec_grammar.specs.Grammar.{Marked, sign, name_text, term_text, args_text, more_text, more_names_text}
use Rattle.spec_grammar.specs.Grammar.{names_text, constructors_text, AreSorts, funs_text, more_equal_text, AreEquals}
use Rattle.spec_grammar.specs.Grammar.{more_numbers_text, AreStatuses, more_weights_text, weights_text, order_text}
use Rattle.spec_grammar.specs.Grammar.{IsOrderText, guards_text, sides_text, rules_text, commas_text, premises_text}
use Rattle.spec_grammar.specs.Grammar.{bars_text, conclusions_text, IsClause, more_binds_text, binds_text, AreGoals}
use Rattle.spec_grammar.specs.Grammar.{IsSpecText}
use Rattle.spec_grammar.specs.Sizes.{words, words_all, EquationHasFewWords, RuleHasFewWords, GoalHasFewWords}
use Rattle.spec_grammar.specs.Sizes.{HasFewWords}

mutual
  term_len : (d : ℕ) (m : Option LimitKind) (t : RawTree) (v : List Marked) →
      words t + length v ≤ length (term_text d m t v)
  term_len d m (word b a ts) v = omega (arith, args_len d ts v)

  args_len : (d : ℕ) (ts : RawTrees) (v : List Marked) → words_all ts + length v ≤ length (args_text d ts v)
  args_len d none v = omega arith
  args_len d (some t ts) v = omega (
    arith,
    term_len (d + 1) (term_mark (d + 1) 0) t (more_text (d + 1) 1 ts (sign RightPar ∷ v)),
    more_len (d + 1) 1 ts (sign RightPar ∷ v),
  )

  more_len : (d n : ℕ) (ts : RawTrees) (v : List Marked) → words_all ts + length v ≤ length (more_text d n ts v)
  more_len d n none v = omega arith
  more_len d n (some t ts) v = omega (
    arith,
    term_len d (term_mark d n) t (more_text d (n + 1) ts v),
    more_len d (n + 1) ts v,
  )

pub term_words : (d : ℕ) (m : Option LimitKind) (t : RawTree) → words t ≤ length (term_text d m t [])
term_words d m t = omega (arith, term_len d m t [])

sides_len : (m : Option LimitKind) (l r : RawTree) (v : List Marked) →
    words l + words r + length v ≤ length (sides_text m l r v)
sides_len m l r v = omega (arith, term_len 0 m l (sign Equals ∷ term_text 0 None r v), term_len 0 None r v)

-- more words are allowed if there are more tokens
equations_more : (n k : ℕ) (es : List RawEq) → n ≤ k → AllByRecursion (EquationHasFewWords n) es →
    AllByRecursion (EquationHasFewWords k) es
equations_more n k [] le h = tt
equations_more n k (e ∷ es) le h = ((omega (arith, h.0.0), omega (arith, h.0.1)), equations_more n k es le h.1)

guards_more : (n k : ℕ) (gs : List RawGuard) → n ≤ k → AllByRecursion (λ (g : RawGuard). words g.test ≤ n) gs →
    AllByRecursion (λ (g : RawGuard). words g.test ≤ k) gs
guards_more n k [] le h = tt
guards_more n k (g ∷ gs) le h = (omega (arith, h.0), guards_more n k gs le h.1)

rules_more : (n k : ℕ) (rs : List RawRule) → n ≤ k → AllByRecursion (RuleHasFewWords n) rs →
    AllByRecursion (RuleHasFewWords k) rs
rules_more n k [] le h = tt
rules_more n k (r ∷ rs) le h = (
  (omega (arith, h.0.0), omega (arith, h.0.1), guards_more n k r.guards le h.0.2),
  rules_more n k rs le h.1,
)

goals_more : (n k : ℕ) (gs : List RawGoal) → n ≤ k → AllByRecursion (GoalHasFewWords n) gs →
    AllByRecursion (GoalHasFewWords k) gs
goals_more n k [] le h = tt
goals_more n k (g ∷ gs) le h = (
  (
    equations_more n k g.premises le h.0.0,
    equations_more n k g.conclusions le h.0.1,
  ),
  goals_more n k gs le h.1,
)

-- the parts of a text
guards_len : (n : ℕ) (gs : List RawGuard) (v : List Marked) → (length v ≤ length (guards_text n gs v))
    × AllByRecursion (λ (g : RawGuard). words g.test ≤ length (guards_text n gs v)) gs
guards_len n [] v = (omega arith, tt)
guards_len n (g ∷ gs) v =
    let r = guards_len (n + 1) gs v in
    let t = term_len 0 None g.test (guards_text (n + 1) gs v) in
    let le : length (guards_text (n + 1) gs v) ≤ length (guards_text n (g ∷ gs) v) = omega (arith, t) in
    (omega (arith, le, r.0), (omega (arith, t), guards_more _ _ gs le r.1))

rules_len : (version n : ℕ) (rs : List RawRule) (v : List Marked) →
    (length v ≤ length (rules_text version n rs v))
    × AllByRecursion (RuleHasFewWords (length (rules_text version n rs v))) rs
rules_len version n [] v = (omega arith, tt)
rules_len version n (r ∷ rs) v =
    let rest = rules_len version (n + 1) rs v in
    let tests = guards_len 0 r.guards (rules_text version (n + 1) rs v) in
    let sides = sides_len None r.left r.right (guards_text 0 r.guards (rules_text version (n + 1) rs v)) in
    let le : length (rules_text version (n + 1) rs v) ≤ length (rules_text version n (r ∷ rs) v) = omega (
      arith,
      tests.0,
      sides,
    ) in
    let inner : length (guards_text 0 r.guards (rules_text version (n + 1) rs v)) ≤ length
    (rules_text version n (r ∷ rs) v) = omega (arith, sides) in (
      omega (arith, le, rest.0),
      (
        (omega (arith, sides), omega (arith, sides), guards_more _ _ r.guards inner tests.1),
        rules_more _ _ rs le rest.1,
      ),
    )

commas_len : (n : ℕ) (es : List RawEq) (v : List Marked) → (length v ≤ length (commas_text n es v))
    × AllByRecursion (EquationHasFewWords (length (commas_text n es v))) es
commas_len n [] v = (omega arith, tt)
commas_len n (e ∷ es) v =
    let rest = commas_len (n + 1) es v in
    let sides = sides_len (premise_mark n) e.left e.right (commas_text (n + 1) es v) in
    let le : length (commas_text (n + 1) es v) ≤ length (commas_text n (e ∷ es) v) = omega (arith, sides) in
    (omega (arith, le, rest.0), ((omega (arith, sides), omega (arith, sides)), equations_more _ _ es le rest.1))

premises_len : (es : List RawEq) (v : List Marked) → (length v ≤ length (premises_text es v))
    × AllByRecursion (EquationHasFewWords (length (premises_text es v))) es
premises_len [] v = (omega arith, tt)
premises_len (e ∷ es) v =
    let rest = commas_len 1 es v in
    let sides = sides_len (premise_mark 0) e.left e.right (commas_text 1 es v) in
    let le : length (commas_text 1 es v) ≤ length (premises_text (e ∷ es) v) = omega (arith, sides) in
    (omega (arith, le, rest.0), ((omega (arith, sides), omega (arith, sides)), equations_more _ _ es le rest.1))

bars_len : (n : ℕ) (es : List RawEq) (v : List Marked) → (length v ≤ length (bars_text n es v))
    × AllByRecursion (EquationHasFewWords (length (bars_text n es v))) es
bars_len n [] v = (omega arith, tt)
bars_len n (e ∷ es) v =
    let rest = bars_len (n + 1) es v in
    let sides = sides_len (conclusion_mark n) e.left e.right (bars_text (n + 1) es v) in
    let le : length (bars_text (n + 1) es v) ≤ length (bars_text n (e ∷ es) v) = omega (arith, sides) in
    (omega (arith, le, rest.0), ((omega (arith, sides), omega (arith, sides)), equations_more _ _ es le rest.1))

conclusions_len : (es : List RawEq) (v : List Marked) → (length v ≤ length (conclusions_text es v))
    × AllByRecursion (EquationHasFewWords (length (conclusions_text es v))) es
conclusions_len [] v = (omega arith, tt)
conclusions_len (e ∷ es) v =
    let rest = bars_len 1 es v in
    let sides = sides_len (conclusion_mark 0) e.left e.right (bars_text 1 es v) in
    let le : length (bars_text 1 es v) ≤ length (conclusions_text (e ∷ es) v) = omega (arith, sides) in
    (omega (arith, le, rest.0), ((omega (arith, sides), omega (arith, sides)), equations_more _ _ es le rest.1))

none_few : (n : ℕ) (ps : List RawEq) → ps ≡ [] → AllByRecursion (EquationHasFewWords n) ps
none_few n ps e = subst (AllByRecursion (EquationHasFewWords n)) (sym e) tt

clause_len : (ps cs : List RawEq) (w v : List Marked) → IsClause ps cs w v →
    (length v ≤ length w) × AllByRecursion (EquationHasFewWords (length w)) ps
    × AllByRecursion (EquationHasFewWords (length w)) cs
clause_len ps cs w v (inl e) =
    let c = conclusions_len cs v in
    let p = premises_len ps (sign Arrow ∷ conclusions_text cs v) in
    let same = ap (λ (x : List Marked). length x) e in (
      omega (arith, c.0, p.0, same),
      equations_more _ _ ps (omega (arith, same)) p.1,
      equations_more _ _ cs (omega (arith, p.0, same)) c.1,
    )
clause_len ps cs w v (inr e) =
    let c = conclusions_len cs v in
    let same = ap (λ (x : List Marked). length x) e.2 in
    (omega (arith, c.0, same), none_few (length w) ps e.0, equations_more _ _ cs (omega (arith, same)) c.1)

more_binds_len : (n : ℕ) (bs : List RawBind) (v : List Marked) → length v ≤ length (more_binds_text n bs v)
more_binds_len n [] v = omega arith
more_binds_len n (b ∷ bs) v = omega (arith, more_binds_len (n + 1) bs v)

binds_len : (bs : List RawBind) (v : List Marked) → length v ≤ length (binds_text bs v)
binds_len [] v = omega arith
binds_len (b ∷ bs) v = omega (arith, more_binds_len 1 bs (sign RightPar ∷ v))

goals_len : (n : ℕ) (gs : List RawGoal) (w v : List Marked) → AreGoals n gs w v →
    AllByRecursion (GoalHasFewWords (length w)) gs
goals_len n [] w v h = tt
goals_len n (g ∷ gs) w v h =
    let rest = goals_len (n + 1) gs h.1 v h.4 in
    let body = clause_len g.premises g.conclusions h.0 h.1 h.3 in
    let same = ap (λ (x : List Marked). length x) h.2 in
    let bound = binds_len g.binds (sign Colon ∷ h.0) in
    let le : length h.0 ≤ length w = omega (arith, same, bound) in (
      (equations_more _ _ g.premises le body.1, equations_more _ _ g.conclusions le body.2),
      goals_more _ _ gs (omega (arith, le, body.0)) rest,
    )

-- what comes after declarations is no longer than the whole
more_names_len : (n : ℕ) (xs : List RawName) (v : List Marked) → length v ≤ length (more_names_text n xs v)
more_names_len n [] v = omega arith
more_names_len n (x ∷ xs) v = omega (arith, more_names_len (n + 1) xs v)

names_len : (xs : List RawName) (v : List Marked) → length v ≤ length (names_text xs v)
names_len [] v = omega arith
names_len (x ∷ xs) v = omega (arith, more_names_len 1 xs (sign RightPar ∷ v))

funs_len : (version n : ℕ) (fs : List RawFun) (v : List Marked) → length v ≤ length (funs_text version n fs v)
funs_len version n [] v = omega arith
funs_len version n (f ∷ fs) v = omega (
  arith,
  funs_len version (n + 1) fs v,
  names_len f.head.args (sign Colon ∷ name_text None f.result (funs_text version (n + 1) fs v)),
)

constructors_len : (version k t : ℕ) (cs : List RawNames) (v : List Marked) →
    length v ≤ length (constructors_text version k t cs v)
constructors_len version k t [] v = omega arith
constructors_len version k t (c ∷ cs) v = omega (
  arith,
  constructors_len version (k + 1) (t + 1) cs v,
  names_len c.args (constructors_text version (k + 1) (t + 1) cs v),
)

sorts_len : (version n t : ℕ) (ss : List RawSort) (w v : List Marked) → AreSorts version n t ss w v →
    length v ≤ length w
sorts_len version n t [] w v h = omega (arith, ap (λ (x : List Marked). length x) h)
sorts_len version n t (s ∷ ss) w v h =
    let rest = sorts_len version (n + 1) (t + 1 + length h.1) ss h.2 v h.5 in
    let cons = constructors_len version 1 (t + 1) h.1 h.2 in
    let first = names_len h.0.args (constructors_text version 1 (t + 1) h.1 h.2) in
    omega (arith, rest, cons, first, ap (λ (x : List Marked). length x) h.4)

-- the lines that order functions
more_equal_len : (xs : List RawName) (v : List Marked) → length v ≤ length (more_equal_text xs v)
more_equal_len [] v = omega arith
more_equal_len (x ∷ xs) v = omega (arith, more_equal_len xs v)

equals_len : (es : List RawEqual) (w v : List Marked) → AreEquals es w v → length v ≤ length w
equals_len [] w v is = omega (arith, ap (λ (x : List Marked). length x) is)
equals_len (e ∷ es) w v (first, second, others, after, listed, is, rest) =
    omega (arith, equals_len es after v rest, more_equal_len others after, ap (λ (x : List Marked). length x) is)

more_numbers_len : (n : ℕ) (is : List ℕ) (v : List Marked) → length v ≤ length (more_numbers_text n is v)
more_numbers_len n [] v = omega arith
more_numbers_len n (i ∷ is) v = omega (arith, more_numbers_len (n + 1) is v)

statuses_len : (ss : List RawStatus) (w v : List Marked) → AreStatuses ss w v → length v ≤ length w
statuses_len [] w v is = omega (arith, ap (λ (x : List Marked). length x) is)
statuses_len (s ∷ ss) w v (first, others, after, listed, is, rest) =
    let numbers = more_numbers_len 1 others (sign RightPar ∷ after) in
    omega (arith, statuses_len ss after v rest, numbers, ap (λ (x : List Marked). length x) is)

-- the line of the order
more_weights_len : (ws : List RawWeight) (v : List Marked) → length v ≤ length (more_weights_text ws v)
more_weights_len [] v = omega arith
more_weights_len (w ∷ ws) v = omega (arith, more_weights_len ws v)

order_line_len : (line : Option RawOrder) (v : List Marked) → length v ≤ length (order_text line v)
order_line_len None v = omega arith
order_line_len (Some o) v = omega (arith, weights_len o.weights)
  where
    weights_len : (ws : List RawWeight) → length v ≤ length (weights_text ws v)
    weights_len [] = omega arith
    weights_len (w ∷ ws) = omega (arith, more_weights_len ws v)

order_len : (raw : RawSpec) (w v : List Marked) → IsOrderText raw w v → length v ≤ length w
order_len raw w v (after, line, are_equals, are_statuses, is_line) =
    let shorter = order_line_len raw.order v in
    let same = ap (λ (x : List Marked). length x) is_line in
    let declared = equals_len raw.equals w after are_equals in
    omega (arith, declared, statuses_len raw.statuses after line are_statuses, shorter, same)

pub spec_words : (raw : RawSpec) (w : List Marked) → IsSpecText raw w → HasFewWords (length w) raw
spec_words raw w (sorts, order, goals_text, is, are_sorts, is_order, are_goals, known) =
    let version = raw.version in
    let whole = ap (λ (x : List Marked). length x) is in
    let sorted = sorts_len version 0 0 raw.sorts sorts (funs_text version 0 raw.funs order) are_sorts in
    let declared = funs_len version 0 raw.funs order in
    let ordered = order_len raw order (rules_text version 0 raw.rules goals_text) is_order in
    let ruled = rules_len version 0 raw.rules goals_text in
    let goals = goals_len 0 raw.goals goals_text [] are_goals in (
      rules_more _ _ raw.rules (omega (arith, whole, sorted, declared, ordered)) ruled.1,
      goals_more _ _ raw.goals (omega (arith, whole, sorted, declared, ordered, ruled.0)) goals,
    )

pub few_more : (n k : ℕ) (raw : RawSpec) → n ≤ k → HasFewWords n raw → HasFewWords k raw
few_more n k raw le h = (rules_more n k raw.rules le h.0, goals_more n k raw.goals le h.1)
