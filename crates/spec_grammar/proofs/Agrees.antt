-- A stack takes each token of a text with the limit that the grammar marks it with.
use Rattle.std.proofs.Common.{◌≡◌, ◌≢◌, ℕ, suc, ◌+◌, List, [], ◌∷◌, ◌++◌, ◌⊎◌, inl, inr, Option, Some, None, Bool}
use Rattle.std.proofs.Common.{true, false, length, refl, ap, sym, subst, ◌∙◌, add-one, arith}
use Rattle.std.specs.Prelude.{◌==◌}
use Rattle.std.proofs.lemmas.List.{append-nil}
use Rattle.spec_grammar.specs.declared.keys.Key.{Key}
use Rattle.spec_grammar.specs.declared.keys.Key.TheVariants.{Spike, Sort, Fun, Rule, Goal, If, Unless, Equal, Status}
use Rattle.spec_grammar.specs.declared.keys.Key.TheVariants.{Order, LeftPar, RightPar, Comma, Colon, Equals, Bar}
use Rattle.spec_grammar.specs.declared.keys.Key.TheVariants.{Arrow}
use Rattle.spec_grammar.specs.declared.limits.LimitKind.{LimitKind}
use Rattle.spec_grammar.specs.declared.raw.RawName.{RawName}
use Rattle.spec_grammar.specs.declared.raw.RawNames.{RawNames}
use Rattle.spec_grammar.specs.declared.raw.RawSort.{RawSort}
use Rattle.spec_grammar.specs.declared.raw.RawFun.{RawFun}
use Rattle.spec_grammar.specs.declared.raw.RawEqual.{RawEqual}
use Rattle.spec_grammar.specs.declared.raw.RawStatus.{RawStatus}
use Rattle.spec_grammar.specs.declared.raw.RawWeight.{RawWeight}
use Rattle.spec_grammar.specs.declared.raw.RawOrder.{RawOrder}
use Rattle.spec_grammar.specs.declared.raw.RawEq.{RawEq}
use Rattle.spec_grammar.specs.declared.raw.RawGuard.{RawGuard}
use Rattle.spec_grammar.specs.declared.raw.RawRule.{RawRule}
use Rattle.spec_grammar.specs.declared.raw.RawBind.{RawBind}
use Rattle.spec_grammar.specs.declared.raw.RawGoal.{RawGoal}
use Rattle.spec_grammar.specs.declared.raw.RawSpec.{RawSpec}
use Rattle.spec_grammar.specs.RawTree.{RawTree, RawTrees, word, none, some}
use Rattle.spec_grammar.specs.Items.{Item, Word, Sign, Number}
use Rattle.spec_grammar.specs.Limits.{name_mark, sort_mark, constructor_mark, fun_mark, arity_mark, term_mark}
use Rattle.spec_grammar.specs.Limits.{rule_mark, guard_mark, goal_mark, variable_mark, premise_mark, conclusion_mark}
use Rattle.spec_grammar.specs.Grammar.{Marked, sign, term_text, args_text, more_text, more_names_text, names_text}
use Rattle.spec_grammar.specs.Grammar.{con_text, constructors_text, AreSorts, funs_text, more_equal_text, AreEquals}
use Rattle.spec_grammar.specs.Grammar.{more_numbers_text, AreStatuses, weight_text, more_weights_text, weights_text}
use Rattle.spec_grammar.specs.Grammar.{order_text, IsOrderText, guard_key, guards_text, sides_text, rules_text}
use Rattle.spec_grammar.specs.Grammar.{commas_text, premises_text, bars_text, conclusions_text, IsClause, bind_text}
use Rattle.spec_grammar.specs.Grammar.{more_binds_text, binds_text, AreGoals, IsFormat, IsSpecText, IsTermText}
use Rattle.spec_grammar.specs.Symbols.{Symbol, key, name, args, more, names, more_names, format, body, order_then}
use Rattle.spec_grammar.specs.Symbols.{sorts, funs, equals, more_equal, statuses, numeral, more_numbers, order}
use Rattle.spec_grammar.specs.Symbols.{weights, more_weights, rules, guards, goals, binds, more_binds, clause, tail}
use Rattle.spec_grammar.specs.Symbols.{commas, conclusions, bars, pass, react, react_key, react_word, term_then}
use Rattle.spec_grammar.specs.Symbols.{right_then, sides_then, bind_then, weight_then, take, is_empty, spec_symbols}
use Rattle.spec_grammar.specs.Symbols.{term_symbols}
use Rattle.spec_grammar.proofs.Stacks.{Agrees, Skips, agrees_take, agrees_pass}

-- the stack agrees with the text, as a record, so that its parts are found
pub record Fits (st : List Symbol) (w : List Marked) : Type 0 where
  pub agrees : Agrees st w

fits_take : (s : Symbol) (st ss : List Symbol) (x : Item) (m : Option LimitKind) (w : List Marked) →
    react s x ≡ take m ss → Fits (ss ++ st) w → Fits (s ∷ st) ((x, m) ∷ w)
fits_take s st ss x m w e h = record { agrees = agrees_take s st ss x m w e h.agrees }

fits_pass : (s : Symbol) (st : List Symbol) (w : List Marked) → Skips s w → Fits st w → Fits (s ∷ st) w
fits_pass s st w e h = record { agrees = agrees_pass s st w e h.agrees }

-- the text ends, or begins with one of these keys
abbrev pub BeginsIn : List Key → Item → Type 0
BeginsIn [] x = ⊥
BeginsIn (k ∷ ks) x = (x ≡ Sign k) ⊎ BeginsIn ks x

abbrev pub HeadIn : List Key → List Marked → Type 0
HeadIn ks [] = Unit {0}
HeadIn ks (x ∷ w) = BeginsIn ks x.0

abbrev PassAll : Symbol → List Key → Type 0
PassAll s [] = Unit {0}
PassAll s (k ∷ ks) = (react_key s k ≡ pass) × PassAll s ks

pass_in : (s : Symbol) (ks : List Key) (x : Item) → PassAll s ks → BeginsIn ks x → react s x ≡ pass
pass_in s [] x p h = absurd h
pass_in s (k ∷ ks) x p (inl e) = ap (react s) e ∙ p.0
pass_in s (k ∷ ks) x p (inr h) = pass_in s ks x p.1 h

pub skips : (s : Symbol) (ks : List Key) (v : List Marked) → is_empty s ≡ true → PassAll s ks → HeadIn ks v → Skips s v
skips s ks [] e p h = e
skips s ks (x ∷ v) e p h = pass_in s ks x.0 p h

pub wider : (k : Key) (ks : List Key) (v : List Marked) → HeadIn ks v → HeadIn (k ∷ ks) v
wider k ks [] h = tt
wider k ks (x ∷ v) h = inr h

-- what may begin the texts of lists of declarations
pub head_goals : (n : ℕ) (gs : List RawGoal) (w : List Marked) → AreGoals n gs w [] → HeadIn (Goal ∷ []) w
head_goals n [] w h = subst (HeadIn (Goal ∷ [])) (sym h) tt
head_goals n (g ∷ gs) w h = subst (HeadIn (Goal ∷ [])) (sym h.2) (inl refl)

pub head_rules : (version n : ℕ) (rs : List RawRule) (v : List Marked) → HeadIn (Goal ∷ []) v →
    HeadIn (Rule ∷ Goal ∷ []) (rules_text version n rs v)
head_rules version n [] v h = wider Rule (Goal ∷ []) v h
head_rules version n (r ∷ rs) v h = inl refl

-- what may come after the lines `status`, after the lines `equal`, after the functions and after the sorts
abbrev pub after_statuses : List Key
after_statuses = Order ∷ Rule ∷ Goal ∷ []

abbrev pub after_equals : List Key
after_equals = Status ∷ after_statuses

abbrev pub after_funs : List Key
after_funs = Equal ∷ after_equals

abbrev pub after_sorts : List Key
after_sorts = Fun ∷ after_funs

pub head_order_line : (line : Option RawOrder) (v : List Marked) → HeadIn (Rule ∷ Goal ∷ []) v
    → HeadIn after_statuses (order_text line v)
head_order_line None v h = wider Order (Rule ∷ Goal ∷ []) v h
head_order_line (Some o) v h = inl refl

pub head_statuses : (ss : List RawStatus) (w v : List Marked) → HeadIn after_statuses v
    → AreStatuses ss w v → HeadIn after_equals w
head_statuses [] w v h e = subst (HeadIn after_equals) (sym e) (wider Status after_statuses v h)
head_statuses (s ∷ ss) w v h (first, others, after, listed, is, rest) =
    subst (HeadIn after_equals) (sym is) (inl refl)

pub head_equals : (es : List RawEqual) (w v : List Marked) → HeadIn after_equals v
    → AreEquals es w v → HeadIn after_funs w
head_equals [] w v h e = subst (HeadIn after_funs) (sym e) (wider Equal after_equals v h)
head_equals (e ∷ es) w v h (first, second, others, after, listed, is, rest) =
    subst (HeadIn after_funs) (sym is) (inl refl)

pub head_order : (raw : RawSpec) (w v : List Marked) → HeadIn (Rule ∷ Goal ∷ []) v
    → IsOrderText raw w v → HeadIn after_funs w
head_order raw w v h (after, line, are_equals, are_statuses, is_line) =
    let line_head = subst (HeadIn after_statuses) (sym is_line) (head_order_line raw.order v h) in
    head_equals raw.equals w after (head_statuses raw.statuses after line line_head are_statuses) are_equals

pub head_funs : (version n : ℕ) (fs : List RawFun) (v : List Marked)
    → HeadIn after_funs v → HeadIn after_sorts (funs_text version n fs v)
head_funs version n [] v h = wider Fun after_funs v h
head_funs version n (f ∷ fs) v h = inl refl

pub head_sorts : (version n t : ℕ) (ss : List RawSort) (w v : List Marked) → HeadIn after_sorts v →
    AreSorts version n t ss w v → HeadIn (Sort ∷ after_sorts) w
head_sorts version n t [] w v h e = subst (HeadIn (Sort ∷ after_sorts)) (sym e) (wider Sort after_sorts v h)
head_sorts version n t (s ∷ ss) w v h e = subst (HeadIn (Sort ∷ after_sorts)) (sym e.4) (inl refl)

pub head_constructors : (version k t : ℕ) (cs : List RawNames) (v : List Marked) →
    HeadIn (Sort ∷ after_sorts) v → HeadIn (Bar ∷ Sort ∷ after_sorts) (constructors_text version k t cs v)
head_constructors version k t [] v h = wider Bar (Sort ∷ after_sorts) v h
head_constructors version k t (c ∷ cs) v h = inl refl

head_guard : (b : Bool) → BeginsIn (If ∷ Unless ∷ Rule ∷ Goal ∷ []) (Sign (guard_key b))
head_guard true = inl refl
head_guard false = inr (inl refl)

pub head_guards : (n : ℕ) (gs : List RawGuard) (v : List Marked) → HeadIn (Rule ∷ Goal ∷ []) v →
    HeadIn (If ∷ Unless ∷ Rule ∷ Goal ∷ []) (guards_text n gs v)
head_guards n [] v h = wider If (Unless ∷ Rule ∷ Goal ∷ []) v (wider Unless (Rule ∷ Goal ∷ []) v h)
head_guards n (g ∷ gs) v h = head_guard g.wanted

pub head_bars : (n : ℕ) (es : List RawEq) (v : List Marked) → HeadIn (Goal ∷ []) v →
    HeadIn (Bar ∷ Goal ∷ []) (bars_text n es v)
head_bars n [] v h = wider Bar (Goal ∷ []) v h
head_bars n (e ∷ es) v h = inl refl

pub head_commas : (n : ℕ) (es : List RawEq) (v : List Marked) → HeadIn (Arrow ∷ []) v →
    HeadIn (Comma ∷ Arrow ∷ []) (commas_text n es v)
head_commas n [] v h = wider Comma (Arrow ∷ []) v h
head_commas n (e ∷ es) v h = inl refl

pub head_more_names : (n : ℕ) (xs : List RawName) (v : List Marked) → HeadIn (RightPar ∷ []) v →
    HeadIn (Comma ∷ RightPar ∷ []) (more_names_text n xs v)
head_more_names n [] v h = wider Comma (RightPar ∷ []) v h
head_more_names n (x ∷ xs) v h = inl refl

skips_args_more : (d e n : ℕ) (ts : RawTrees) (v : List Marked) → Skips (args d) v → Skips (args d) (more_text e n ts v)
skips_args_more d e n none v h = h
skips_args_more d e n (some t ts) v h = refl

-- names after a constructor or function
more_names_agree : (n : ℕ) (xs : List RawName) (st : List Symbol) (v : List Marked) →
    Fits st (sign RightPar ∷ v) → Fits (more_names n ∷ st) (more_names_text n xs (sign RightPar ∷ v))
more_names_agree n [] st v h = fits_pass (more_names n) st (sign RightPar ∷ v) refl h
more_names_agree n (x ∷ xs) st v h = fits_take (more_names n) st _ (Sign Comma) None _ refl
    (fits_take (name (arity_mark n)) (more_names (n + 1) ∷ st) [] (Word x.name x.at) _ _ refl
    (more_names_agree (n + 1) xs st v h))

pub names_agree : (xs : List RawName) (st : List Symbol) (v : List Marked) → Fits st v → Skips names v →
    Fits (names ∷ st) (names_text xs v)
names_agree [] st v h e = fits_pass names st v e h
names_agree (x ∷ xs) st v h e =
    let close : Fits (key RightPar ∷ st) (sign RightPar ∷ v) = fits_take (key RightPar) st [] (Sign RightPar)
    None v refl h in
    fits_take names st _ (Sign LeftPar) None _ refl
    (fits_take (name (arity_mark 0)) (more_names 1 ∷ key RightPar ∷ st) [] (Word x.name x.at) _ _ refl
    (more_names_agree 1 xs (key RightPar ∷ st) v close))

con_agrees : (m : Option LimitKind) (c : RawNames) (st : List Symbol) (v : List Marked) → Fits st v →
    Skips names v → Fits (name m ∷ names ∷ st) (con_text m c v)
con_agrees m c st v h e = fits_take (name m) (names ∷ st) [] (Word c.name c.at) _ _ refl (names_agree c.args st v h e)

mutual
  pub term_agrees : (d : ℕ) (m : Option LimitKind) (t : RawTree) (st : List Symbol) (v : List Marked) →
      Fits st v → Skips (args d) v → Fits (name m ∷ args d ∷ st) (term_text d m t v)
  term_agrees d m (word b a ts) st v h e = fits_take (name m) (args d ∷ st) [] (Word b a) (name_mark b m)
      (args_text d ts v) refl (args_agrees d ts st v h e)

  pub args_agrees : (d : ℕ) (ts : RawTrees) (st : List Symbol) (v : List Marked) → Fits st v →
      Skips (args d) v → Fits (args d ∷ st) (args_text d ts v)
  args_agrees d none st v h e = fits_pass (args d) st v e h
  args_agrees d (some t ts) st v h e =
      let close : Fits (key RightPar ∷ st) (sign RightPar ∷ v) = fits_take (key RightPar) st [] (Sign RightPar)
      None v refl h in
      let others : Fits (more (d + 1) 1 ∷ key RightPar ∷ st)
      (more_text (d + 1) 1 ts (sign RightPar ∷ v)) = more_agrees (d + 1) 1 ts (key RightPar ∷ st) v close in
      let first = term_agrees (d + 1) (term_mark (d + 1) 0) t (more (d + 1) 1 ∷ key RightPar ∷ st)
      (more_text (d + 1) 1 ts (sign RightPar ∷ v)) others
      (skips_args_more (d + 1) (d + 1) 1 ts (sign RightPar ∷ v) refl) in
      fits_take (args d) st (term_then (d + 1) (term_mark (d + 1) 0) (more (d + 1) 1 ∷ key RightPar ∷ []))
      (Sign LeftPar) None _ refl first

  pub more_agrees : (d n : ℕ) (ts : RawTrees) (st : List Symbol) (v : List Marked) →
      Fits st (sign RightPar ∷ v) → Fits (more d n ∷ st) (more_text d n ts (sign RightPar ∷ v))
  more_agrees d n none st v h = fits_pass (more d n) st (sign RightPar ∷ v) refl h
  more_agrees d n (some t ts) st v h =
      let others : Fits (more d (n + 1) ∷ st) (more_text d (n + 1) ts (sign RightPar ∷ v)) = more_agrees d
      (n + 1) ts st v h in
      let first = term_agrees d (term_mark d n) t (more d (n + 1) ∷ st)
      (more_text d (n + 1) ts (sign RightPar ∷ v)) others
      (skips_args_more d d (n + 1) ts (sign RightPar ∷ v) refl) in
      fits_take (more d n) st (term_then d (term_mark d n) (more d (n + 1) ∷ [])) (Sign Comma) None _ refl first

-- the second side of an equation, and both
right_agrees : (t : RawTree) (st : List Symbol) (v : List Marked) → Fits st v → Skips (args 0) v →
    Fits (right_then st) (sign Equals ∷ term_text 0 None t v)
right_agrees t st v h e = fits_take (key Equals) (name None ∷ args 0 ∷ st) [] (Sign Equals) None
    (term_text 0 None t v) refl (term_agrees 0 None t st v h e)

sides_agree : (m : Option LimitKind) (l r : RawTree) (st : List Symbol) (v : List Marked) → Fits st v →
    Skips (args 0) v → Fits (sides_then m st) (sides_text m l r v)
sides_agree m l r st v h e = term_agrees 0 m l (right_then st) (sign Equals ∷ term_text 0 None r v)
    (right_agrees r st v h e) refl

guard_takes : (n : ℕ) (b : Bool) (st : List Symbol) (w : List Marked) →
    Fits (term_then 0 None (guards (n + 1) ∷ st)) w → Fits (guards n ∷ st) ((Sign (guard_key b), guard_mark n) ∷ w)
guard_takes n true st w h = fits_take (guards n) st (term_then 0 None (guards (n + 1) ∷ [])) (Sign If)
    (guard_mark n) w refl h
guard_takes n false st w h = fits_take (guards n) st (term_then 0 None (guards (n + 1) ∷ [])) (Sign Unless)
    (guard_mark n) w refl h

guards_agree : (n : ℕ) (gs : List RawGuard) (st : List Symbol) (v : List Marked) → Fits st v →
    HeadIn (Rule ∷ Goal ∷ []) v → Fits (guards n ∷ st) (guards_text n gs v)
guards_agree n [] st v h e = fits_pass (guards n) st v (skips (guards n) (Rule ∷ Goal ∷ []) v refl (
  refl,
  (refl, tt),
) e) h
guards_agree n (g ∷ gs) st v h e =
    guard_takes n g.wanted st _ (term_agrees 0 None g.test (guards (n + 1) ∷ st) (guards_text (n + 1) gs v)
    (guards_agree (n + 1) gs st v h e) (skips (args 0) (If ∷ Unless ∷ Rule ∷ Goal ∷ []) _ refl (
      refl,
      (refl, (refl, (refl, tt))),
    ) (head_guards (n + 1) gs v e)))

rules_agree : (version n : ℕ) (rs : List RawRule) (st : List Symbol) (v : List Marked) → Fits st v →
    HeadIn (Goal ∷ []) v → Fits (rules version n ∷ st) (rules_text version n rs v)
rules_agree version n [] st v h e = fits_pass (rules version n) st v
    (skips (rules version n) (Goal ∷ []) v refl (refl, tt) e) h
rules_agree version n (r ∷ rs) st v h e =
    let others = rules_agree version (n + 1) rs st v h e in
    let head = head_rules version (n + 1) rs v e in
    let tests = guards_agree 0 r.guards (rules version (n + 1) ∷ st) (rules_text version (n + 1) rs v) others head in
    fits_take (rules version n) st (sides_then None (guards 0 ∷ rules version (n + 1) ∷ [])) (Sign Rule)
    (rule_mark version n) _ refl (sides_agree None r.left r.right (guards 0 ∷ rules version (n + 1) ∷ st) _
    tests (skips (args 0) (If ∷ Unless ∷ Rule ∷ Goal ∷ []) _ refl (refl, (refl, (refl, (refl, tt))))
    (head_guards 0 r.guards _ head)))

-- the lines that order functions
more_equal_agree : (xs : List RawName) (st : List Symbol) (v : List Marked)
    → HeadIn after_funs v → Fits st v → Fits (more_equal ∷ st) (more_equal_text xs v)
more_equal_agree [] st v e h =
    fits_pass more_equal st v (skips more_equal after_funs v refl (refl, (refl, (refl, (refl, (refl, tt))))) e) h
more_equal_agree (x ∷ xs) st v e h =
    fits_take more_equal st _ (Sign Comma) None _ refl
    (fits_take (name None) (more_equal ∷ st) [] (Word x.name x.at) _ _ refl (more_equal_agree xs st v e h))

equals_agree : (es : List RawEqual) (st : List Symbol) (w v : List Marked)
    → Fits st v → HeadIn after_equals v → AreEquals es w v → Fits (equals ∷ st) w
equals_agree [] st w v h e is =
    let skipped = skips equals after_equals v refl (refl, (refl, (refl, (refl, tt)))) e in
    subst (Fits (equals ∷ st)) (sym is) (fits_pass equals st v skipped h)
equals_agree (q ∷ es) st w v h e (first, second, others, after, listed, is, rest) =
    let others_fit = equals_agree es st after v h e rest in
    let behind = more_equal_agree others (equals ∷ st) after (head_equals es after v e rest) others_fit in
    let to_more = fits_take (name None) (more_equal ∷ equals ∷ st) [] (Word second.name second.at) _ _ refl behind in
    let comma = fits_take (key Comma) (name None ∷ more_equal ∷ equals ∷ st) [] (Sign Comma) None _ refl to_more in
    let named = fits_take (name None) (key Comma ∷ name None ∷ more_equal ∷ equals ∷ st) []
    (Word first.name first.at) _ _ refl comma in
    subst (Fits (equals ∷ st)) (sym is) (fits_take equals st _ (Sign Equal) None _ refl named)

more_numbers_agree : (n : ℕ) (is : List ℕ) (st : List Symbol) (v : List Marked)
    → Fits st (sign RightPar ∷ v)
    → Fits (more_numbers n ∷ st) (more_numbers_text n is (sign RightPar ∷ v))
more_numbers_agree n [] st v h = fits_pass (more_numbers n) st (sign RightPar ∷ v) refl h
more_numbers_agree n (i ∷ is) st v h =
    fits_take (more_numbers n) st _ (Sign Comma) None _ refl
    (fits_take (numeral (arity_mark n)) (more_numbers (n + 1) ∷ st) [] (Number i) _ _ refl
    (more_numbers_agree (n + 1) is st v h))

statuses_agree : (ss : List RawStatus) (st : List Symbol) (w v : List Marked)
    → Fits st v → HeadIn after_statuses v → AreStatuses ss w v → Fits (statuses ∷ st) w
statuses_agree [] st w v h e is =
    let skipped = skips statuses after_statuses v refl (refl, (refl, (refl, tt))) e in
    subst (Fits (statuses ∷ st)) (sym is) (fits_pass statuses st v skipped h)
statuses_agree (s ∷ ss) st w v h e (first, others, after, listed, is, rest) =
    let others_fit = statuses_agree ss st after v h e rest in
    let close = fits_take (key RightPar) (statuses ∷ st) [] (Sign RightPar) None after refl others_fit in
    let behind = more_numbers_agree 1 others (key RightPar ∷ statuses ∷ st) after close in
    let inner = more_numbers 1 ∷ key RightPar ∷ statuses ∷ st in
    let to_more = fits_take (numeral (arity_mark 0)) inner [] (Number first) _ _ refl behind in
    let opened = fits_take (key LeftPar) (numeral (arity_mark 0) ∷ inner) [] (Sign LeftPar) None _ refl to_more in
    let named = fits_take (name None) (key LeftPar ∷ numeral (arity_mark 0) ∷ inner) []
    (Word s.head.name s.head.at) _ _ refl opened in
    subst (Fits (statuses ∷ st)) (sym is) (fits_take statuses st _ (Sign Status) None _ refl named)

-- the line of the order
weight_agrees : (w : RawWeight) (st : List Symbol) (v : List Marked)
    → Fits st v → Fits (weight_then st) (weight_text w v)
weight_agrees w st v h =
    let weighed = fits_take (numeral None) st [] (Number w.weight) None v refl h in
    let equated = fits_take (key Equals) (numeral None ∷ st) [] (Sign Equals) None _ refl weighed in
    fits_take (name None) (key Equals ∷ numeral None ∷ st) [] (Word w.name.name w.name.at) _ _ refl equated

more_weights_agree : (ws : List RawWeight) (st : List Symbol) (v : List Marked)
    → Fits st v → HeadIn (Rule ∷ Goal ∷ []) v → Fits (more_weights ∷ st) (more_weights_text ws v)
more_weights_agree [] st v h e =
    fits_pass more_weights st v (skips more_weights (Rule ∷ Goal ∷ []) v refl (refl, (refl, tt)) e) h
more_weights_agree (w ∷ ws) st v h e =
    let others = more_weights_agree ws st v h e in
    fits_take more_weights st (weight_then (more_weights ∷ [])) (Sign Comma) None _ refl
    (weight_agrees w (more_weights ∷ st) _ others)

weights_agree : (ws : List RawWeight) (st : List Symbol) (v : List Marked)
    → Fits st v → HeadIn (Rule ∷ Goal ∷ []) v → Fits (weights ∷ st) (weights_text ws v)
weights_agree [] st v h e =
    fits_pass weights st v (skips weights (Rule ∷ Goal ∷ []) v refl (refl, (refl, tt)) e) h
weights_agree (w ∷ ws) st v h e =
    let others = more_weights_agree ws st v h e in
    fits_take weights st (weight_then (more_weights ∷ [])) (Sign Colon) None _ refl
    (weight_agrees w (more_weights ∷ st) _ others)

order_line_agrees : (line : Option RawOrder) (st : List Symbol) (v : List Marked)
    → Fits st v → HeadIn (Rule ∷ Goal ∷ []) v → Fits (order ∷ st) (order_text line v)
order_line_agrees None st v h e =
    fits_pass order st v (skips order (Rule ∷ Goal ∷ []) v refl (refl, (refl, tt)) e) h
order_line_agrees (Some o) st v h e =
    let weighed = weights_agree o.weights st v h e in
    let named = fits_take (name None) (weights ∷ st) [] (Word o.name.name o.name.at) _ _ refl weighed in
    fits_take order st _ (Sign Order) None _ refl named

-- a text of no lines is empty
no_order : (raw : RawSpec) (w v : List Marked) → raw.equals ≡ [] → raw.statuses ≡ []
    → raw.order ≡ None → IsOrderText raw w v → w ≡ v
no_order raw w v no_equals no_statuses no_line (after, line, are_equals, are_statuses, is_line) =
    let first : w ≡ after = subst (λ es. AreEquals es w after) no_equals are_equals in
    let second : after ≡ line = subst (λ ss. AreStatuses ss after line) no_statuses are_statuses in
    let third : line ≡ v = is_line ∙ ap (λ (o : Option RawOrder). order_text o v) no_line in
    first ∙ second ∙ third

order_agrees : (raw : RawSpec) (st : List Symbol) (w v : List Marked) → IsFormat raw → Fits st v
    → HeadIn (Rule ∷ Goal ∷ []) v → IsOrderText raw w v → Fits (order_then (raw.version == 2) st) w
order_agrees raw st w v (inl (first, no_equals, no_statuses, no_line)) h e is =
    subst (λ n. Fits (order_then (n == 2) st) w) (sym first)
    (subst (Fits st) (sym (no_order raw w v no_equals no_statuses no_line is)) h)
order_agrees raw st w v (inr second) h e (statuses_text, line, are_equals, are_statuses, is_line) =
    let line_fits = subst (Fits (order ∷ st)) (sym is_line) (order_line_agrees raw.order st v h e) in
    let line_head = subst (HeadIn after_statuses) (sym is_line) (head_order_line raw.order v e) in
    let after = statuses_agree raw.statuses (order ∷ st) statuses_text line line_fits line_head are_statuses in
    let head = head_statuses raw.statuses statuses_text line line_head are_statuses in
    subst (λ n. Fits (order_then (n == 2) st) w) (sym second)
    (equals_agree raw.equals (statuses ∷ order ∷ st) w statuses_text after head are_equals)

funs_agree : (version n : ℕ) (fs : List RawFun) (st : List Symbol) (v : List Marked) → Fits st v →
    HeadIn after_funs v → Fits (funs version n ∷ st) (funs_text version n fs v)
funs_agree version n [] st v h e = fits_pass (funs version n) st v
    (skips (funs version n) after_funs v refl (refl, (refl, (refl, (refl, (refl, tt))))) e) h
funs_agree version n (f ∷ fs) st v h e =
    let others = funs_agree version (n + 1) fs st v h e in
    let result = fits_take (key Colon) (name None ∷ funs version (n + 1) ∷ st) [] (Sign Colon) None _ refl
    (fits_take (name None) (funs version (n + 1) ∷ st) [] (Word f.result.name f.result.at) _ _ refl others) in
    fits_take (funs version n) st _ (Sign Fun) (fun_mark version n) _ refl
    (con_agrees None f.head (key Colon ∷ name None ∷ funs version (n + 1) ∷ st) _ result refl)

-- constructors and sorts
sort_follows : (version n k t : ℕ) (v : List Marked) → HeadIn after_sorts v → Skips (sorts version n k t) v
sort_follows version n k t v h = skips (sorts version n k t) after_sorts v refl (
  refl,
  (refl, (refl, (refl, (refl, (refl, tt))))),
) h

constructors_agree : (version n k t : ℕ) (cs : List RawNames) (st : List Symbol) (v : List Marked) →
    HeadIn (Sort ∷ after_sorts) v → ((j : ℕ) → Fits (sorts version n j (t + length cs) ∷ st) v) →
    Fits (sorts version n (suc k) t ∷ st) (constructors_text version (suc k) t cs v)
constructors_agree version n k t [] st v e h = subst (λ (u : ℕ). Fits (sorts version n (suc k) u ∷ st) v)
    (omega arith) (h (suc k))
constructors_agree version n k t (c ∷ cs) st v e h =
    let sum : t + length (c ∷ cs) ≡ t + 1 + length cs = omega arith in
    let others : Fits (sorts version n (suc (suc k)) (t + 1) ∷ st)
    (constructors_text version (suc (suc k)) (t + 1) cs v) = constructors_agree version n (suc k) (t + 1) cs
    st v e (λ j. subst (λ (u : ℕ). Fits (sorts version n j u ∷ st) v) sum (h j)) in
    let next : Fits (sorts version n (suc (suc k)) (t + 1) ∷ st)
    (constructors_text version (suc k + 1) (t + 1) cs v) = subst
    (λ (u : ℕ). Fits (sorts version n (suc (suc k)) (t + 1) ∷ st)
    (constructors_text version u (t + 1) cs v)) (sym (add-one (suc k))) others in
    fits_take (sorts version n (suc k) t) st _ (Sign Bar) None _ refl
    (con_agrees (constructor_mark version (suc k) t) c (sorts version n (suc (suc k)) (t + 1) ∷ st) _ next
    (skips names (Bar ∷ Sort ∷ after_sorts) _ refl (
      refl,
      (refl, (refl, (refl, (refl, (refl, (refl, (refl, tt))))))),
    )
    (head_constructors version (suc k + 1) (t + 1) cs v e)))

sorts_agree : (version n k t : ℕ) (ss : List RawSort) (st : List Symbol) (w v : List Marked) → Fits st v →
    HeadIn after_sorts v → AreSorts version n t ss w v → Fits (sorts version n k t ∷ st) w
sorts_agree version n k t [] st w v h e a = subst (Fits (sorts version n k t ∷ st)) (sym a)
    (fits_pass (sorts version n k t) st v (sort_follows version n k t v e) h)
sorts_agree version n k t (s ∷ ss) st w v h e a =
    let first = a.0 in
    let others = a.1 in
    let after = a.2 in
    let next : (j : ℕ) → Fits (sorts version (n + 1) j (t + 1 + length others) ∷ st) after = λ j. sorts_agree
    version (n + 1) j (t + 1 + length others) ss st after v h e a.5 in
    let head = head_sorts version (n + 1) (t + 1 + length others) ss after v e a.5 in
    let rest : Fits (sorts version (n + 1) 1 (t + 1) ∷ st)
    (constructors_text version 1 (t + 1) others after) = constructors_agree version (n + 1) 0 (t + 1) others
    st after head next in
    let con = con_agrees (constructor_mark version 0 t) first (sorts version (n + 1) 1 (t + 1) ∷ st) _ rest
    (skips names (Bar ∷ Sort ∷ after_sorts) _ refl (
      refl,
      (refl, (refl, (refl, (refl, (refl, (refl, (refl, tt))))))),
    )
    (head_constructors version 1 (t + 1) others after head)) in
    let equated = fits_take (key Equals) (name (constructor_mark version 0 t) ∷ names ∷ sorts version (n + 1) 1
    (t + 1) ∷ st) [] (Sign Equals) None _ refl con in
    let named = fits_take (name None) (key Equals ∷ name (constructor_mark version 0 t) ∷ names ∷ sorts version
    (n + 1) 1 (t + 1) ∷ st) [] (Word s.head.name s.head.at) _ _ refl equated in
    subst (Fits (sorts version n k t ∷ st)) (sym a.4)
    (fits_take (sorts version n k t) st _ (Sign Sort) (sort_mark n) _ refl named)

-- clauses
args_before : (ks : List Key) (v : List Marked) → PassAll (args 0) ks → HeadIn ks v → Skips (args 0) v
args_before ks v p h = skips (args 0) ks v refl p h

bars_agree : (n : ℕ) (es : List RawEq) (st : List Symbol) (v : List Marked) → Fits st v → HeadIn (Goal ∷ []) v →
    Fits (bars n ∷ st) (bars_text n es v)
bars_agree n [] st v h e = fits_pass (bars n) st v (skips (bars n) (Goal ∷ []) v refl (refl, tt) e) h
bars_agree n (q ∷ es) st v h e =
    fits_take (bars n) st (sides_then (conclusion_mark n) (bars (n + 1) ∷ [])) (Sign Bar) None _ refl
    (sides_agree (conclusion_mark n) q.left q.right (bars (n + 1) ∷ st) _ (bars_agree (n + 1) es st v h e)
    (args_before (Bar ∷ Goal ∷ []) _ (refl, (refl, tt)) (head_bars (n + 1) es v e)))

-- an equation whose first word a symbol takes
first_agrees : (s next : Symbol) (st : List Symbol) (l r : RawTree) (v : List Marked) →
    ((b : List ℕ) → react_word s b ≡ take (name_mark b None) (args 0 ∷ right_then (next ∷ []))) →
    Fits (next ∷ st) v → Skips (args 0) v → Fits (s ∷ st) (sides_text None l r v)
first_agrees s next st (word b a ts) r v t h e = fits_take s st (args 0 ∷ right_then (next ∷ [])) (Word b a)
    (name_mark b None) _ (t b) (args_agrees 0 ts (right_then (next ∷ st)) _ (right_agrees r (next ∷ st) v h e) refl)

conclusions_agree : (cs : List RawEq) (st : List Symbol) (v : List Marked) → Fits st v → HeadIn (Goal ∷ []) v →
    Fits (conclusions ∷ st) (conclusions_text cs v)
conclusions_agree [] st v h e = fits_pass conclusions st v (skips conclusions (Goal ∷ []) v refl (refl, tt) e) h
conclusions_agree (q ∷ es) st v h e = first_agrees conclusions (bars 1) st q.left q.right (bars_text 1 es v)
    (λ b. refl) (bars_agree 1 es st v h e) (args_before (Bar ∷ Goal ∷ []) _ (refl, (refl, tt)) (head_bars 1 es v e))

-- after the premises
arrow_agrees : (s : Symbol) (cs : List RawEq) (st : List Symbol) (v : List Marked) →
    react s (Sign Arrow) ≡ take None (conclusions ∷ []) → Fits st v → HeadIn (Goal ∷ []) v →
    Fits (s ∷ st) (sign Arrow ∷ conclusions_text cs v)
arrow_agrees s cs st v t h e = fits_take s st (conclusions ∷ []) (Sign Arrow) None _ t (conclusions_agree cs st v h e)

before_commas : (n : ℕ) (es cs : List RawEq) (v : List Marked) →
    Skips (args 0) (commas_text n es (sign Arrow ∷ conclusions_text cs v))
before_commas n es cs v = args_before (Comma ∷ Arrow ∷ []) _ (
  refl,
  (refl, tt),
) (head_commas n es (sign Arrow ∷ conclusions_text cs v) (inl refl))

commas_agree : (n : ℕ) (es cs : List RawEq) (st : List Symbol) (v : List Marked) → Fits st v →
    HeadIn (Goal ∷ []) v → Fits (commas n ∷ st) (commas_text n es (sign Arrow ∷ conclusions_text cs v))
commas_agree n [] cs st v h e = arrow_agrees (commas n) cs st v refl h e
commas_agree n (q ∷ es) cs st v h e = fits_take (commas n) st
    (sides_then (premise_mark n) (commas (n + 1) ∷ [])) (Sign Comma) None _ refl
    (sides_agree (premise_mark n) q.left q.right (commas (n + 1) ∷ st) _ (commas_agree (n + 1) es cs st v h e)
    (before_commas (n + 1) es cs v))

tail_commas : (es cs : List RawEq) (st : List Symbol) (v : List Marked) → Fits st v → HeadIn (Goal ∷ []) v →
    Fits (tail ∷ st) (commas_text 1 es (sign Arrow ∷ conclusions_text cs v))
tail_commas [] cs st v h e = arrow_agrees tail cs st v refl h e
tail_commas (q ∷ es) cs st v h e = fits_take tail st (sides_then (premise_mark 1) (commas 2 ∷ [])) (Sign Comma)
    None _ refl (sides_agree (premise_mark 1) q.left q.right (commas 2 ∷ st) _ (commas_agree 2 es cs st v h e)
    (before_commas 2 es cs v))

tail_bars : (es : List RawEq) (st : List Symbol) (v : List Marked) → Fits st v → HeadIn (Goal ∷ []) v →
    Fits (tail ∷ st) (bars_text 1 es v)
tail_bars [] st v h e = fits_pass tail st v (skips tail (Goal ∷ []) v refl (refl, tt) e) h
tail_bars (q ∷ es) st v h e = fits_take tail st (sides_then (conclusion_mark 1) (bars 2 ∷ [])) (Sign Bar) None _
    refl (sides_agree (conclusion_mark 1) q.left q.right (bars 2 ∷ st) _ (bars_agree 2 es st v h e)
    (args_before (Bar ∷ Goal ∷ []) _ (refl, (refl, tt)) (head_bars 2 es v e)))

with_arrow : (ps cs : List RawEq) (st : List Symbol) (v : List Marked) → Fits st v → HeadIn (Goal ∷ []) v →
    Fits (clause ∷ st) (premises_text ps (sign Arrow ∷ conclusions_text cs v))
with_arrow [] cs st v h e = arrow_agrees clause cs st v refl h e
with_arrow (q ∷ es) cs st v h e = first_agrees clause tail st q.left q.right _ (λ b. refl)
    (tail_commas es cs st v h e) (before_commas 1 es cs v)

without_arrow : (cs : List RawEq) (st : List Symbol) (v : List Marked) → cs ≢ [] → Fits st v →
    HeadIn (Goal ∷ []) v → Fits (clause ∷ st) (conclusions_text cs v)
without_arrow [] st v filled h e = absurd (filled refl)
without_arrow (q ∷ es) st v filled h e = first_agrees clause tail st q.left q.right (bars_text 1 es v)
    (λ b. refl) (tail_bars es st v h e) (args_before (Bar ∷ Goal ∷ []) _ (refl, (refl, tt)) (head_bars 1 es v e))

clause_agrees : (ps cs : List RawEq) (st : List Symbol) (w v : List Marked) → Fits st v → HeadIn (Goal ∷ []) v →
    IsClause ps cs w v → Fits (clause ∷ st) w
clause_agrees ps cs st w v h e (inl q) = subst (Fits (clause ∷ st)) (sym q) (with_arrow ps cs st v h e)
clause_agrees ps cs st w v h e (inr q) = subst (Fits (clause ∷ st)) (sym q.2) (without_arrow cs st v q.1 h e)

-- goals
bind_agrees : (m : Option LimitKind) (b : RawBind) (st : List Symbol) (v : List Marked) → Fits st v →
    Fits (bind_then m st) (bind_text m b v)
bind_agrees m b st v h = fits_take (name m) (key Colon ∷ name None ∷ st) [] (Word b.name.name b.name.at) _ _
    refl (fits_take (key Colon) (name None ∷ st) [] (Sign Colon) None _ refl
    (fits_take (name None) st [] (Word b.sort.name b.sort.at) _ v refl h))

more_binds_agree : (n : ℕ) (bs : List RawBind) (st : List Symbol) (v : List Marked) →
    Fits st (sign RightPar ∷ v) → Fits (more_binds n ∷ st) (more_binds_text n bs (sign RightPar ∷ v))
more_binds_agree n [] st v h = fits_pass (more_binds n) st (sign RightPar ∷ v) refl h
more_binds_agree n (b ∷ bs) st v h = fits_take (more_binds n) st
    (bind_then (variable_mark n) (more_binds (n + 1) ∷ [])) (Sign Comma) None _ refl
    (bind_agrees (variable_mark n) b (more_binds (n + 1) ∷ st) _ (more_binds_agree (n + 1) bs st v h))

binds_agree : (bs : List RawBind) (st : List Symbol) (v : List Marked) → Fits st v → Skips binds v →
    Fits (binds ∷ st) (binds_text bs v)
binds_agree [] st v h e = fits_pass binds st v e h
binds_agree (b ∷ bs) st v h e =
    let close : Fits (key RightPar ∷ st) (sign RightPar ∷ v) = fits_take (key RightPar) st [] (Sign RightPar)
    None v refl h in
    fits_take binds st (bind_then (variable_mark 0) (more_binds 1 ∷ key RightPar ∷ [])) (Sign LeftPar) None _
    refl (bind_agrees (variable_mark 0) b (more_binds 1 ∷ key RightPar ∷ st) _
    (more_binds_agree 1 bs (key RightPar ∷ st) v close))

goals_agree : (n : ℕ) (gs : List RawGoal) (w : List Marked) → AreGoals n gs w [] → Fits (goals n ∷ []) w
goals_agree n [] w h = subst (Fits (goals n ∷ [])) (sym h) (record { agrees = refl })
goals_agree n (g ∷ gs) w h =
    let others = goals_agree (n + 1) gs h.1 h.4 in
    let body = clause_agrees g.premises g.conclusions (goals (n + 1) ∷ []) h.0 h.1 others
    (head_goals (n + 1) gs h.1 h.4) h.3 in
    let colon = fits_take (key Colon) (clause ∷ goals (n + 1) ∷ []) [] (Sign Colon) None _ refl body in
    let bound = binds_agree g.binds (key Colon ∷ clause ∷ goals (n + 1) ∷ []) _ colon refl in
    let named = fits_take (name None) (binds ∷ key Colon ∷ clause ∷ goals (n + 1) ∷ []) []
    (Word g.head.name g.head.at) _ _ refl bound in
    subst (Fits (goals n ∷ [])) (sym h.2) (fits_take (goals n) [] _ (Sign Goal) (goal_mark n) _ refl named)

-- a format that there is begins its declarations
format_takes : (raw : RawSpec) → IsFormat raw → react format (Number raw.version) ≡ take None (body raw.version)
format_takes raw (inl first) = rw first.0 refl
format_takes raw (inr second) = rw second refl

pub spec_agrees : (raw : RawSpec) (w : List Marked) → IsSpecText raw w → Agrees spec_symbols w
spec_agrees raw w (sorts_text, lines_text, goals_text, is, are_sorts, is_order, are_goals, known) =
    let version = raw.version in
    let behind = rules_text version 0 raw.rules goals_text in
    let goals_head = head_goals 0 raw.goals goals_text are_goals in
    let rules_head = head_rules version 0 raw.rules goals_text goals_head in
    let order_head = head_order raw lines_text behind rules_head is_order in
    let ends = goals_agree 0 raw.goals goals_text are_goals in
    let ruled = rules_agree version 0 raw.rules (goals 0 ∷ []) goals_text ends goals_head in
    let ordered = order_agrees raw (rules version 0 ∷ goals 0 ∷ []) lines_text behind known ruled rules_head is_order in
    let after = order_then (version == 2) (rules version 0 ∷ goals 0 ∷ []) in
    let declared = funs_agree version 0 raw.funs after lines_text ordered order_head in
    let funs_head = head_funs version 0 raw.funs lines_text order_head in
    let sorted = sorts_agree version 0 0 0 raw.sorts (funs version 0 ∷ after) sorts_text _ declared funs_head
    are_sorts in
    let stack = subst (λ st. Fits st sorts_text) (sym (append-nil (body version))) sorted in
    let numbered = fits_take format [] (body version) (Number version) None sorts_text (format_takes raw known) stack in
    let whole = fits_take (key Spike) (format ∷ []) [] (Sign Spike) None _ refl numbered in
    (subst (Fits spec_symbols) (sym is) whole).agrees

pub term_text_agrees : (t : RawTree) (w : List Marked) → IsTermText t w → Agrees term_symbols w
term_text_agrees t w h = (subst (Fits term_symbols) (sym h)
    (term_agrees 0 None t [] [] (record { agrees = refl }) refl)).agrees
