-- The texts of a symbol, built of those of the symbols that it becomes.
use Rattle.std.proofs.Common.{◌≡◌, ◌≢◌, ℕ, zero, suc, ◌+◌, List, [], ◌∷◌, ◌⊎◌, inl, inr, Option, Some, None}
use Rattle.std.proofs.Common.{Bool, true, false, length, refl, ap, sym, subst, ◌∙◌, add-one, add-zero, arith}
use Rattle.std.proofs.lemmas.Bool.{eqb-true}
use Rattle.std.specs.Prelude.{◌==◌, ◌||◌}
use Rattle.spec_grammar.specs.declared.keys.Key.{Key}
use Rattle.spec_grammar.specs.declared.keys.Key.TheVariants.{Spike, Sort, Fun, Rule, Goal, If, Unless, Equal, Status}
use Rattle.spec_grammar.specs.declared.keys.Key.TheVariants.{Order, LeftPar, RightPar, Comma, Colon, Equals, Bar}
use Rattle.spec_grammar.specs.declared.keys.Key.TheVariants.{Arrow, Stray}
use Rattle.spec_grammar.specs.declared.limits.LimitKind.{LimitKind}
use Rattle.spec_grammar.specs.declared.raw.RawName.{RawName}
use Rattle.spec_grammar.specs.declared.raw.RawNames.{RawNames}
use Rattle.spec_grammar.specs.declared.raw.RawSort.{RawSort}
use Rattle.spec_grammar.specs.declared.raw.RawFun.{RawFun}
use Rattle.spec_grammar.specs.declared.raw.RawEqual.{RawEqual}
use Rattle.spec_grammar.specs.declared.raw.RawStatus.{RawStatus}
use Rattle.spec_grammar.specs.declared.raw.RawWeight.{RawWeight}
use Rattle.spec_grammar.specs.declared.raw.RawOrder.{RawOrder}
use Rattle.spec_grammar.specs.declared.raw.RawEq.{RawEq}
use Rattle.spec_grammar.specs.declared.raw.RawGuard.{RawGuard}
use Rattle.spec_grammar.specs.declared.raw.RawRule.{RawRule}
use Rattle.spec_grammar.specs.declared.raw.RawBind.{RawBind}
use Rattle.spec_grammar.specs.declared.raw.RawGoal.{RawGoal}
use Rattle.spec_grammar.specs.declared.raw.RawSpec.{RawSpec}
use Rattle.spec_grammar.specs.RawTree.{RawTree, RawTrees, word, some}
use Rattle.spec_grammar.specs.FormatOne.{format_one}
use Rattle.spec_grammar.specs.Items.{Word, Sign}
use Rattle.spec_grammar.specs.Limits.{name_mark, sort_mark, constructor_mark, fun_mark, arity_mark, term_mark}
use Rattle.spec_grammar.specs.Limits.{rule_mark, guard_mark, goal_mark, variable_mark, premise_mark, conclusion_mark}
use Rattle.spec_grammar.specs.Grammar.{Marked, sign, number, name_text, term_text, args_text, more_text}
use Rattle.spec_grammar.specs.Grammar.{more_names_text, names_text, con_text, constructors_text, AreSorts, funs_text}
use Rattle.spec_grammar.specs.Grammar.{more_equal_text, AreEquals, numeral_text, more_numbers_text, AreStatuses}
use Rattle.spec_grammar.specs.Grammar.{weight_text, more_weights_text, weights_text, order_text, IsOrderText, IsFormat}
use Rattle.spec_grammar.specs.Grammar.{guard_key, guards_text, sides_text, rules_text, commas_text, bars_text}
use Rattle.spec_grammar.specs.Grammar.{conclusions_text, IsClause, bind_text, more_binds_text, binds_text, AreGoals}
use Rattle.spec_grammar.specs.Symbols.{key_code}
use Rattle.spec_grammar.specs.Symbols.{Symbol, key, name, args, more, names}
use Rattle.spec_grammar.specs.Symbols.{more_names, format, body, sorts, funs, equals, more_equal, statuses}
use Rattle.spec_grammar.specs.Symbols.{numeral, more_numbers, order, weights, more_weights, rules, guards, goals}
use Rattle.spec_grammar.specs.Symbols.{binds, more_binds, clause, tail, commas, conclusions, bars}
use Rattle.spec_grammar.specs.Symbols.{term_then, right_then, sides_then, bind_then}
use Rattle.spec_grammar.specs.Symbols.{weight_then}

-- the declarations of a raw specification, before what comes after them
abbrev pub AreDeclarations : RawSpec → List Marked → List Marked → Type 0
AreDeclarations raw w v = (order : List Marked) × (goals : List Marked)
    × AreSorts raw.version 0 0 raw.sorts w (funs_text raw.version 0 raw.funs order)
    × IsOrderText raw order (rules_text raw.version 0 raw.rules goals)
    × AreGoals 0 raw.goals goals v

-- the texts of a symbol, before what comes after it
abbrev pub Means : Symbol → List Marked → List Marked → Type 0
Means (key k) w v = (j : Key) × (key_code j ≡ key_code k) × (w ≡ sign j ∷ v)
Means (name m) w v = (n : RawName) × (w ≡ name_text m n v)
Means (args d) w v = (ts : RawTrees) × (w ≡ args_text d ts v)
Means (more d n) w v = (ts : RawTrees) × (w ≡ more_text d n ts v)
Means names w v = (xs : List RawName) × (w ≡ names_text xs v)
Means (more_names n) w v = (xs : List RawName) × (w ≡ more_names_text n xs v)
Means format w v = (raw : RawSpec) × (u : List Marked)
    × (w ≡ number raw.version ∷ u) × AreDeclarations raw u v × IsFormat raw
Means (sorts version n zero t) w v = (ss : List RawSort) × AreSorts version n t ss w v
Means (sorts version n (suc k) t) w v = (cs : List RawNames) × (ss : List RawSort) × (u : List Marked)
    × (w ≡ constructors_text version (suc k) t cs u) × AreSorts version n (t + length cs) ss u v
Means (funs version n) w v = (fs : List RawFun) × (w ≡ funs_text version n fs v)
Means equals w v = (es : List RawEqual) × AreEquals es w v
Means more_equal w v = (xs : List RawName) × (w ≡ more_equal_text xs v)
Means statuses w v = (ss : List RawStatus) × AreStatuses ss w v
Means (numeral m) w v = (i : ℕ) × (w ≡ numeral_text m i v)
Means (more_numbers n) w v = (is : List ℕ) × (w ≡ more_numbers_text n is v)
Means order w v = (line : Option RawOrder) × (w ≡ order_text line v)
Means weights w v = (ws : List RawWeight) × (w ≡ weights_text ws v)
Means more_weights w v = (ws : List RawWeight) × (w ≡ more_weights_text ws v)
Means (rules version n) w v = (rs : List RawRule) × (w ≡ rules_text version n rs v)
Means (guards n) w v = (gs : List RawGuard) × (w ≡ guards_text n gs v)
Means (goals n) w v = (gs : List RawGoal) × AreGoals n gs w v
Means binds w v = (bs : List RawBind) × (w ≡ binds_text bs v)
Means (more_binds n) w v = (bs : List RawBind) × (w ≡ more_binds_text n bs v)
Means clause w v = (ps : List RawEq) × (cs : List RawEq) × IsClause ps cs w v
Means tail w v = ((es : List RawEq) × (cs : List RawEq)
    × (w ≡ commas_text 1 es (sign Arrow ∷ conclusions_text cs v))) ⊎ ((es : List RawEq) × (w ≡ bars_text 1 es v))
Means (commas n) w v = (es : List RawEq) × (cs : List RawEq)
    × (w ≡ commas_text n es (sign Arrow ∷ conclusions_text cs v))
Means conclusions w v = (cs : List RawEq) × (w ≡ conclusions_text cs v)
Means (bars n) w v = (es : List RawEq) × (w ≡ bars_text n es v)

abbrev pub MeansTo : List Symbol → List Marked → List Marked → Type 0
MeansTo [] w v = w ≡ v
MeansTo (s ∷ st) w v = (u : List Marked) × Means s w u × MeansTo st u v

abbrev key_from : ℕ → Key
key_from zero = Spike
key_from (suc zero) = Sort
key_from (suc (suc zero)) = Fun
key_from (suc (suc (suc zero))) = Rule
key_from (suc (suc (suc (suc zero)))) = Goal
key_from (suc (suc (suc (suc (suc zero))))) = If
key_from (suc (suc (suc (suc (suc (suc zero)))))) = Unless
key_from (suc (suc (suc (suc (suc (suc (suc zero))))))) = Equal
key_from (suc (suc (suc (suc (suc (suc (suc (suc zero)))))))) = Status
key_from (suc (suc (suc (suc (suc (suc (suc (suc (suc zero))))))))) = Order
key_from (suc (suc (suc (suc (suc (suc (suc (suc (suc (suc zero)))))))))) = LeftPar
key_from (suc (suc (suc (suc (suc (suc (suc (suc (suc (suc (suc zero))))))))))) = RightPar
key_from (suc (suc (suc (suc (suc (suc (suc (suc (suc (suc (suc (suc zero)))))))))))) = Comma
key_from (suc (suc (suc (suc (suc (suc (suc (suc (suc (suc (suc (suc (suc zero))))))))))))) = Colon
key_from (suc (suc (suc (suc (suc (suc (suc (suc (suc (suc (suc (suc (suc (suc zero)))))))))))))) = Equals
key_from (suc (suc (suc (suc (suc (suc (suc (suc (suc (suc (suc (suc (suc (suc (suc zero))))))))))))))) = Bar
key_from (suc (suc (suc (suc (suc (suc (suc (suc (suc (suc (suc (suc (suc (suc (suc (suc zero)))))))))))))))) = Arrow
key_from (suc (suc (suc (suc (suc (suc (suc (suc (suc (suc (suc (suc (suc (suc (suc (suc (suc n))))))))))))))))) = Stray

key_from-key_code : (k : Key) → key_from (key_code k) ≡ k
key_from-key_code Spike = refl
key_from-key_code Sort = refl
key_from-key_code Fun = refl
key_from-key_code Rule = refl
key_from-key_code Goal = refl
key_from-key_code If = refl
key_from-key_code Unless = refl
key_from-key_code Equal = refl
key_from-key_code Status = refl
key_from-key_code Order = refl
key_from-key_code LeftPar = refl
key_from-key_code RightPar = refl
key_from-key_code Comma = refl
key_from-key_code Colon = refl
key_from-key_code Equals = refl
key_from-key_code Bar = refl
key_from-key_code Arrow = refl
key_from-key_code Stray = refl

pub same_key : (j k : Key) → key_code j ≡ key_code k → j ≡ k
same_key j k e = sym (key_from-key_code j) ∙ ap key_from e ∙ key_from-key_code k

-- the parts of what stacks mean
pub key_then : (k : Key) (st : List Symbol) (w v : List Marked) → MeansTo (key k ∷ st) w v →
    (u : List Marked) × (w ≡ sign k ∷ u) × MeansTo st u v
key_then k st w v h = (h.0, h.1.2 ∙ ap (λ (j : Key). sign j ∷ h.0) (same_key h.1.0 k h.1.1), h.2)

close_then : (w v : List Marked) → MeansTo (key RightPar ∷ []) w v → w ≡ sign RightPar ∷ v
close_then w v h = let k = key_then RightPar [] w v h in k.1 ∙ ap (λ (x : List Marked). sign RightPar ∷ x) k.2

pub term_of : (d : ℕ) (m : Option LimitKind) (st : List Symbol) (w v : List Marked) →
    MeansTo (term_then d m st) w v → (t : RawTree) × (u : List Marked) × (w ≡ term_text d m t u) × MeansTo st u v
term_of d m st w v h = let n = h.1.0 in
    (word n.name n.at h.2.1.0, h.2.0, h.1.1 ∙ ap (λ (x : List Marked). name_text m n x) h.2.1.1, h.2.2)

right_of : (st : List Symbol) (w v : List Marked) → MeansTo (right_then st) w v →
    (t : RawTree) × (u : List Marked) × (w ≡ sign Equals ∷ term_text 0 None t u) × MeansTo st u v
right_of st w v h =
    let k = key_then Equals (term_then 0 None st) w v h in
    let t = term_of 0 None st k.0 v k.2 in
    (t.0, t.1, k.1 ∙ ap (λ (x : List Marked). sign Equals ∷ x) t.2, t.3)

sides_of : (m : Option LimitKind) (st : List Symbol) (w v : List Marked) → MeansTo (sides_then m st) w v →
    (l : RawTree) × (r : RawTree) × (u : List Marked) × (w ≡ sides_text m l r u) × MeansTo st u v
sides_of m st w v h =
    let l = term_of 0 m (right_then st) w v h in
    let r = right_of st l.1 v l.3 in
    (l.0, r.0, r.1, l.2 ∙ ap (term_text 0 m l.0) r.2, r.3)

con_of : (m : Option LimitKind) (st : List Symbol) (w v : List Marked) → MeansTo (name m ∷ names ∷ st) w v →
    (c : RawNames) × (u : List Marked) × (w ≡ con_text m c u) × MeansTo st u v
con_of m st w v h =
    let n = h.1.0 in
    let c : RawNames = record { name = n.name; at = n.at; args = h.2.1.0 } in
    (c, h.2.0, h.1.1 ∙ ap (λ (x : List Marked). name_text m n x) h.2.1.1, h.2.2)

bind_of : (m : Option LimitKind) (st : List Symbol) (w v : List Marked) → MeansTo (bind_then m st) w v →
    (b : RawBind) × (u : List Marked) × (w ≡ bind_text m b u) × MeansTo st u v
bind_of m st w v h =
    let k = key_then Colon (name None ∷ st) h.0 v h.2 in
    let b : RawBind = record { name = h.1.0; sort = k.2.1.0 } in (
      b,
      k.2.0,
      h.1.1 ∙ ap (λ (x : List Marked). name_text m h.1.0 x)
          (k.1 ∙ ap (λ (x : List Marked). sign Colon ∷ x) k.2.1.1),
      k.2.2,
    )

pub built_args : (d : ℕ) (w v : List Marked) →
    MeansTo (term_then (d + 1) (term_mark (d + 1) 0) (more (d + 1) 1 ∷ key RightPar ∷ [])) w v →
    Means (args d) (sign LeftPar ∷ w) v
built_args d w v h =
    let t = term_of (d + 1) (term_mark (d + 1) 0) (more (d + 1) 1 ∷ key RightPar ∷ []) w v h in (
      some t.0 t.3.1.0,
      ap (λ (x : List Marked). sign LeftPar ∷ x)
          (t.2 ∙ ap (term_text (d + 1) (term_mark (d + 1) 0) t.0)
          (t.3.1.1 ∙ ap (more_text (d + 1) 1 t.3.1.0) (close_then t.3.0 v t.3.2))),
    )

pub built_more : (d n : ℕ) (w v : List Marked) → MeansTo (term_then d (term_mark d n) (more d (n + 1) ∷ [])) w v →
    Means (more d n) (sign Comma ∷ w) v
built_more d n w v h =
    let t = term_of d (term_mark d n) (more d (n + 1) ∷ []) w v h in (
      some t.0 t.3.1.0,
      ap (λ (x : List Marked). sign Comma ∷ x)
          (t.2 ∙ ap (term_text d (term_mark d n) t.0) (t.3.1.1 ∙ ap (more_text d (n + 1) t.3.1.0) t.3.2)),
    )

pub built_names : (w v : List Marked) → MeansTo (name (arity_mark 0) ∷ more_names 1 ∷ key RightPar ∷ []) w v →
    Means names (sign LeftPar ∷ w) v
built_names w v h = (
  h.1.0 ∷ h.2.1.0,
  ap (λ (x : List Marked). sign LeftPar ∷ x)
      (h.1.1 ∙ ap (name_text (arity_mark 0) h.1.0)
      (h.2.1.1 ∙ ap (more_names_text 1 h.2.1.0) (close_then h.2.0 v h.2.2))),
)

pub built_more_names : (n : ℕ) (w v : List Marked) → MeansTo (name (arity_mark n) ∷ more_names (n + 1) ∷ []) w v →
    Means (more_names n) (sign Comma ∷ w) v
built_more_names n w v h = (
  h.1.0 ∷ h.2.1.0,
  ap (λ (x : List Marked). sign Comma ∷ x)
      (h.1.1 ∙ ap (name_text (arity_mark n) h.1.0) (h.2.1.1 ∙ ap (more_names_text (n + 1) h.2.1.0) h.2.2)),
)

-- the lines that order functions
pub built_more_equal : (w v : List Marked)
    → MeansTo (name None ∷ more_equal ∷ []) w v → Means more_equal (sign Comma ∷ w) v
built_more_equal w v (u, (x, x_is), (t, (xs, xs_are), end)) =
    (x ∷ xs, ap (λ y. sign Comma ∷ y) (x_is ∙ ap (name_text None x) (xs_are ∙ ap (more_equal_text xs) end)))

pub built_equals : (w v : List Marked)
    → MeansTo (name None ∷ key Comma ∷ name None ∷ more_equal ∷ equals ∷ []) w v
    → Means equals (sign Equal ∷ w) v
built_equals w v (u, (first, first_is), after_first) =
    let k = key_then Comma (name None ∷ more_equal ∷ equals ∷ []) u v after_first in
    let second = k.2.1 in
    let others = k.2.2.1 in
    let rest = k.2.2.0 in
    let es = k.2.2.2.1 in
    let made : RawEqual = record { names = first ∷ second.0 ∷ others.0 } in
    let behind = k.1 ∙ ap (λ y. sign Comma ∷ y) (second.1 ∙ ap (name_text None second.0) others.1) in (
      made ∷ es.0,
      (
        first,
        second.0,
        others.0,
        rest,
        refl,
        ap (λ y. sign Equal ∷ y) (first_is ∙ ap (name_text None first) behind),
        subst (AreEquals es.0 rest) k.2.2.2.2 es.1,
      ),
    )

pub built_more_numbers : (n : ℕ) (w v : List Marked)
    → MeansTo (numeral (arity_mark n) ∷ more_numbers (n + 1) ∷ []) w v
    → Means (more_numbers n) (sign Comma ∷ w) v
built_more_numbers n w v (u, (i, i_is), (t, (is, is_are), end)) = (
  i ∷ is,
  ap (λ y. sign Comma ∷ y)
      (i_is ∙ ap (numeral_text (arity_mark n) i) (is_are ∙ ap (more_numbers_text (n + 1) is) end)),
)

pub built_statuses : (w v : List Marked)
    → MeansTo (name None ∷ key LeftPar ∷ numeral (arity_mark 0) ∷ more_numbers 1
    ∷ key RightPar ∷ statuses ∷ []) w v
    → Means statuses (sign Status ∷ w) v
built_statuses w v (u, (head, head_is), after_head) =
    let inner = numeral (arity_mark 0) ∷ more_numbers 1 ∷ key RightPar ∷ statuses ∷ [] in
    let k = key_then LeftPar inner u v after_head in
    let first = k.2.1 in
    let others = k.2.2.1 in
    let c = key_then RightPar (statuses ∷ []) k.2.2.0 v k.2.2.2 in
    let ss = c.2.1 in
    let made : RawStatus = record { head = head; numbers = first.0 ∷ others.0 } in
    let numbers = first.1
    ∙ ap (numeral_text (arity_mark 0) first.0) (others.1 ∙ ap (more_numbers_text 1 others.0) c.1) in (
      made ∷ ss.0,
      (
        first.0,
        others.0,
        c.0,
        refl,
        ap (λ y. sign Status ∷ y) (head_is ∙ ap (name_text None head) (k.1 ∙ ap (λ y. sign LeftPar ∷ y) numbers)),
        subst (AreStatuses ss.0 c.0) c.2.2 ss.1,
      ),
    )

-- the line of the order
weight_of : (st : List Symbol) (w v : List Marked) → MeansTo (weight_then st) w v
    → (x : RawWeight) × (u : List Marked) × (w ≡ weight_text x u) × MeansTo st u v
weight_of st w v (u, (n, n_is), after_name) =
    let k = key_then Equals (numeral None ∷ st) u v after_name in
    let i = k.2.1 in
    let made : RawWeight = record { name = n; weight = i.0 } in
    (made, k.2.0, n_is ∙ ap (name_text None n) (k.1 ∙ ap (λ y. sign Equals ∷ y) i.1), k.2.2)

pub built_more_weights : (w v : List Marked)
    → MeansTo (weight_then (more_weights ∷ [])) w v → Means more_weights (sign Comma ∷ w) v
built_more_weights w v h =
    let x = weight_of (more_weights ∷ []) w v h in
    let xs = x.3.1 in
    let others = xs.1 ∙ ap (more_weights_text xs.0) x.3.2 in
    (x.0 ∷ xs.0, ap (λ y. sign Comma ∷ y) (x.2 ∙ ap (weight_text x.0) others))

pub built_weights : (w v : List Marked)
    → MeansTo (weight_then (more_weights ∷ [])) w v → Means weights (sign Colon ∷ w) v
built_weights w v h =
    let x = weight_of (more_weights ∷ []) w v h in
    let xs = x.3.1 in
    let others = xs.1 ∙ ap (more_weights_text xs.0) x.3.2 in
    (x.0 ∷ xs.0, ap (λ y. sign Colon ∷ y) (x.2 ∙ ap (weight_text x.0) others))

pub built_order : (w v : List Marked)
    → MeansTo (name None ∷ weights ∷ []) w v → Means order (sign Order ∷ w) v
built_order w v (u, (n, n_is), (t, (ws, ws_are), end)) =
    let made : RawOrder = record { name = n; weights = ws } in
    (Some made, ap (λ y. sign Order ∷ y) (n_is ∙ ap (name_text None n) (ws_are ∙ ap (weights_text ws) end)))

-- the declarations of each format
built_first : (w v : List Marked) → MeansTo (body 1) w v → Means format (number 1 ∷ w) v
built_first w v (a, (ss, are_sorts), (b, (fs, funs_are), (c, (rs, rules_are), (d, (gs, are_goals), end)))) = (
  format_one ss fs rs gs,
  w,
  refl,
  (
    b,
    c,
    subst (AreSorts 1 0 0 ss w) funs_are are_sorts,
    (b, b, refl, refl, rules_are),
    subst (AreGoals 0 gs c) end are_goals,
  ),
  inl (refl, refl, refl, refl),
)

built_second : (w v : List Marked) → MeansTo (body 2) w v → Means format (number 2 ∷ w) v
built_second w v (a, (ss, are_sorts), (b, (fs, funs_are), (c, (es, are_equals), others))) =
    let ts = others.1 in
    let line = others.2.1 in
    let rs = others.2.2.1 in
    let gs = others.2.2.2.1 in
    let after_rules = others.2.2.0 in
    let raw : RawSpec = record {
      version = 2;
      sorts = ss;
      funs = fs;
      equals = es;
      statuses = ts.0;
      order = line.0;
      rules = rs.0;
      goals = gs.0;
    } in (
      raw,
      w,
      refl,
      (
        b,
        after_rules,
        subst (AreSorts 2 0 0 ss w) funs_are are_sorts,
        (c, others.0, are_equals, ts.1, line.1 ∙ ap (order_text line.0) rs.1),
        subst (AreGoals 0 gs.0 after_rules) others.2.2.2.2 gs.1,
      ),
      inr refl,
    )

pub built_format : (n : ℕ) (w v : List Marked) → (n ≡ 1) ⊎ (n ≡ 2)
    → MeansTo (body n) w v → Means format (number n ∷ w) v
built_format n w v (inl e) h =
    subst (λ i. Means format (number i ∷ w) v) (sym e)
    (built_first w v (subst (λ i. MeansTo (body i) w v) e h))
built_format n w v (inr e) h =
    subst (λ i. Means format (number i ∷ w) v) (sym e)
    (built_second w v (subst (λ i. MeansTo (body i) w v) e h))

-- there are two formats
pub which_format : (n : ℕ) (b : Bool) → (n == 1) ≡ b → (b || (n == 2)) ≡ true → (n ≡ 1) ⊎ (n ≡ 2)
which_format n true e h = inl (eqb-true n 1 e)
which_format n false e h = inr (eqb-true n 2 h)

pub built_bar : (version n k t : ℕ) (w v : List Marked) →
    MeansTo (name (constructor_mark version (suc k) t) ∷ names ∷ sorts version n (suc (suc k)) (t + 1) ∷ []) w
    v → Means (sorts version n (suc k) t) (sign Bar ∷ w) v
built_bar version n k t w v h =
    let c = con_of (constructor_mark version (suc k) t) (sorts version n (suc (suc k)) (t + 1) ∷ []) w v h in
    let s = c.3.1 in
    let cs = s.0 in
    let sum : t + 1 + length cs ≡ t + length (c.0 ∷ cs) = omega arith in
    let end : AreSorts version n (t + length (c.0 ∷ cs)) s.1 s.2 v = subst
    (λ (x : List Marked). AreSorts version n (t + length (c.0 ∷ cs)) s.1 s.2 x) c.3.2
    (subst (λ (u : ℕ). AreSorts version n u s.1 s.2 c.3.0) sum s.4) in
    let counted : constructors_text version (suc (suc k)) (t + 1) cs s.2 ≡ constructors_text version (suc k + 1)
    (t + 1) cs s.2 = ap (λ (j : ℕ). constructors_text version j (t + 1) cs s.2) (sym (add-one (suc k))) in (
      c.0 ∷ cs,
      s.1,
      s.2,
      ap (λ (x : List Marked). sign Bar ∷ x)
          (c.2 ∙ ap (con_text (constructor_mark version (suc k) t) c.0) (s.3 ∙ counted)),
      end,
    )

sort_read : (version n t : ℕ) (w v : List Marked) →
    MeansTo (name None ∷ key Equals ∷ name (constructor_mark version 0 t) ∷ names ∷ sorts version (n + 1) 1
    (t + 1) ∷ []) w v → (ss : List RawSort) × AreSorts version n t ss ((Sign Sort, sort_mark n) ∷ w) v
sort_read version n t w v h =
    let k = key_then Equals (name (constructor_mark version 0 t) ∷ names ∷ sorts version (n + 1) 1 (t + 1) ∷ [])
    h.0 v h.2 in
    let c = con_of (constructor_mark version 0 t) (sorts version (n + 1) 1 (t + 1) ∷ []) k.0 v k.2 in
    let s = c.3.1 in
    let made : RawSort = record { head = h.1.0; constructors = c.0 ∷ s.0 } in (
      made ∷ s.1,
      (
        c.0,
        s.0,
        s.2,
        refl,
        ap (λ (x : List Marked). (Sign Sort, sort_mark n) ∷ x)
            (h.1.1 ∙ ap (name_text None h.1.0)
            (k.1 ∙ ap (λ (x : List Marked). sign Equals ∷ x) (c.2 ∙ ap (con_text (constructor_mark version 0 t) c.0)
            s.3))),
        subst (AreSorts version (n + 1) (t + 1 + length s.0) s.1 s.2) c.3.2 s.4,
      ),
    )

pub built_sort : (version n k t : ℕ) (w v : List Marked) →
    MeansTo (name None ∷ key Equals ∷ name (constructor_mark version 0 t) ∷ names ∷ sorts version (n + 1) 1
    (t + 1) ∷ []) w v → Means (sorts version n k t) ((Sign Sort, sort_mark n) ∷ w) v
built_sort version n zero t w v h = sort_read version n t w v h
built_sort version n (suc k) t w v h =
    let s = sort_read version n t w v h in (
      [],
      s.0,
      (Sign Sort, sort_mark n) ∷ w,
      refl,
      subst (λ (u : ℕ). AreSorts version n u s.0 ((Sign Sort, sort_mark n) ∷ w) v) (sym (add-zero t)) s.1,
    )

pub built_funs : (version n : ℕ) (w v : List Marked) →
    MeansTo (name None ∷ names ∷ key Colon ∷ name None ∷ funs version (n + 1) ∷ []) w v →
    Means (funs version n) ((Sign Fun, fun_mark version n) ∷ w) v
built_funs version n w v h =
    let c = con_of None (key Colon ∷ name None ∷ funs version (n + 1) ∷ []) w v h in
    let k = key_then Colon (name None ∷ funs version (n + 1) ∷ []) c.1 v c.3 in
    let made : RawFun = record { head = c.0; result = k.2.1.0 } in
    let fs = k.2.2.1 in (
      made ∷ fs.0,
      ap (λ (x : List Marked). (Sign Fun, fun_mark version n) ∷ x)
          (c.2 ∙ ap (con_text None c.0)
          (k.1 ∙ ap (λ (x : List Marked). sign Colon ∷ x)
          (k.2.1.1 ∙ ap (name_text None k.2.1.0) (fs.1 ∙ ap (funs_text version (n + 1) fs.0) k.2.2.2)))),
    )

pub built_guard : (n : ℕ) (b : Bool) (w v : List Marked) → MeansTo (term_then 0 None (guards (n + 1) ∷ [])) w v →
    Means (guards n) ((Sign (guard_key b), guard_mark n) ∷ w) v
built_guard n b w v h =
    let t = term_of 0 None (guards (n + 1) ∷ []) w v h in
    let made : RawGuard = record { test = t.0; wanted = b } in (
      made ∷ t.3.1.0,
      ap (λ (x : List Marked). (Sign (guard_key b), guard_mark n) ∷ x)
          (t.2 ∙ ap (term_text 0 None t.0) (t.3.1.1 ∙ ap (guards_text (n + 1) t.3.1.0) t.3.2)),
    )

pub built_rules : (version n : ℕ) (w v : List Marked) →
    MeansTo (sides_then None (guards 0 ∷ rules version (n + 1) ∷ [])) w v →
    Means (rules version n) ((Sign Rule, rule_mark version n) ∷ w) v
built_rules version n w v h =
    let s = sides_of None (guards 0 ∷ rules version (n + 1) ∷ []) w v h in
    let gs = s.4.1 in
    let rs = s.4.2.1 in
    let made : RawRule = record { left = s.0; right = s.1; guards = gs.0 } in (
      made ∷ rs.0,
      ap (λ (x : List Marked). (Sign Rule, rule_mark version n) ∷ x)
          (s.3 ∙ ap (sides_text None s.0 s.1)
          (gs.1 ∙ ap (guards_text 0 gs.0) (rs.1 ∙ ap (rules_text version (n + 1) rs.0) s.4.2.2))),
    )

pub built_goals : (n : ℕ) (w v : List Marked) →
    MeansTo (name None ∷ binds ∷ key Colon ∷ clause ∷ goals (n + 1) ∷ []) w v →
    Means (goals n) ((Sign Goal, goal_mark n) ∷ w) v
built_goals n w v h =
    let bs = h.2.1 in
    let k = key_then Colon (clause ∷ goals (n + 1) ∷ []) h.2.0 v h.2.2 in
    let c = k.2.1 in
    let gs = k.2.2.1 in
    let made : RawGoal = record { head = h.1.0; binds = bs.0; premises = c.0; conclusions = c.1 } in (
      made ∷ gs.0,
      (
        k.0,
        k.2.0,
        ap (λ (x : List Marked). (Sign Goal, goal_mark n) ∷ x)
            (h.1.1 ∙ ap (name_text None h.1.0) (bs.1 ∙ ap (binds_text bs.0) k.1)),
        c.2,
        subst (AreGoals (n + 1) gs.0 k.2.0) k.2.2.2 gs.1,
      ),
    )

pub built_binds : (w v : List Marked) → MeansTo (bind_then (variable_mark 0) (more_binds 1 ∷ key RightPar ∷ [])) w
    v → Means binds (sign LeftPar ∷ w) v
built_binds w v h =
    let b = bind_of (variable_mark 0) (more_binds 1 ∷ key RightPar ∷ []) w v h in
    let bs = b.3.1 in (
      b.0 ∷ bs.0,
      ap (λ (x : List Marked). sign LeftPar ∷ x)
          (b.2 ∙ ap (bind_text (variable_mark 0) b.0) (bs.1 ∙ ap (more_binds_text 1 bs.0) (close_then b.3.0 v b.3.2))),
    )

pub built_more_binds : (n : ℕ) (w v : List Marked) →
    MeansTo (bind_then (variable_mark n) (more_binds (n + 1) ∷ [])) w v → Means (more_binds n) (sign Comma ∷ w) v
built_more_binds n w v h =
    let b = bind_of (variable_mark n) (more_binds (n + 1) ∷ []) w v h in
    let bs = b.3.1 in (
      b.0 ∷ bs.0,
      ap (λ (x : List Marked). sign Comma ∷ x)
          (b.2 ∙ ap (bind_text (variable_mark n) b.0) (bs.1 ∙ ap (more_binds_text (n + 1) bs.0) b.3.2)),
    )

last : (s : Symbol) (w v : List Marked) → MeansTo (s ∷ []) w v → Means s w v
last s w v h = subst (Means s w) h.2 h.1

cons_nil : {q : RawEq} {qs : List RawEq} → q ∷ qs ≢ []
cons_nil e = cc

-- an equation after its first word
first_of : (b : List ℕ) (a : ℕ) (s : Symbol) (w v : List Marked) → MeansTo (args 0 ∷ right_then (s ∷ [])) w v →
    (q : RawEq) × (u : List Marked) × ((Word b a, name_mark b None) ∷ w ≡ sides_text None q.left q.right u)
    × Means s u v
first_of b a s w v h =
    let r = right_of (s ∷ []) h.0 v h.2 in (
      record { left = word b a h.1.0; right = r.0 },
      r.1,
      ap (λ (x : List Marked). (Word b a, name_mark b None) ∷ x) (h.1.1 ∙ ap (args_text 0 h.1.0) r.2),
      last s r.1 v r.3,
    )

-- an equation, and one more symbol
equation_of : (m : Option LimitKind) (s : Symbol) (w v : List Marked) → MeansTo (sides_then m (s ∷ [])) w v →
    (q : RawEq) × (u : List Marked) × (w ≡ sides_text m q.left q.right u) × Means s u v
equation_of m s w v h = let e = sides_of m (s ∷ []) w v h in
    (record { left = e.0; right = e.1 }, e.2, e.3, last s e.2 v e.4)

pub built_clause : (b : List ℕ) (a : ℕ) (w v : List Marked) → MeansTo (args 0 ∷ right_then (tail ∷ [])) w v →
    Means clause ((Word b a, name_mark b None) ∷ w) v
built_clause b a w v h = let q = first_of b a tail w v h in by_tail q.0 q.1 q.2 q.3
  where
    by_tail : (q : RawEq) (u : List Marked) →
        (Word b a, name_mark b None) ∷ w ≡ sides_text None q.left q.right u → Means tail u v →
        Means clause ((Word b a, name_mark b None) ∷ w) v
    by_tail q u e (inl t) = (q ∷ t.0, t.1, inl (e ∙ ap (sides_text None q.left q.right) t.2))
    by_tail q u e (inr t) = ([], q ∷ t.0, inr (refl, cons_nil, e ∙ ap (sides_text None q.left q.right) t.1))

pub built_arrow : (w v : List Marked) → MeansTo (conclusions ∷ []) w v →
    (cs : List RawEq) × (sign Arrow ∷ w ≡ sign Arrow ∷ conclusions_text cs v)
built_arrow w v h = let c = last conclusions w v h in (c.0, ap (λ (x : List Marked). sign Arrow ∷ x) c.1)

pub built_comma : (n : ℕ) (w v : List Marked) → MeansTo (sides_then (premise_mark n) (commas (n + 1) ∷ [])) w v →
    Means (commas n) (sign Comma ∷ w) v
built_comma n w v h =
    let q = equation_of (premise_mark n) (commas (n + 1)) w v h in (
      q.0 ∷ q.3.0,
      q.3.1,
      ap (λ (x : List Marked). sign Comma ∷ x)
          (q.2 ∙ ap (sides_text (premise_mark n) q.0.left q.0.right) q.3.2),
    )

pub built_bars : (n : ℕ) (w v : List Marked) → MeansTo (sides_then (conclusion_mark n) (bars (n + 1) ∷ [])) w v →
    Means (bars n) (sign Bar ∷ w) v
built_bars n w v h =
    let q = equation_of (conclusion_mark n) (bars (n + 1)) w v h in (
      q.0 ∷ q.3.0,
      ap (λ (x : List Marked). sign Bar ∷ x)
          (q.2 ∙ ap (sides_text (conclusion_mark n) q.0.left q.0.right) q.3.1),
    )

pub built_conclusions : (b : List ℕ) (a : ℕ) (w v : List Marked) → MeansTo (args 0 ∷ right_then (bars 1 ∷ [])) w v →
    Means conclusions ((Word b a, name_mark b None) ∷ w) v
built_conclusions b a w v h =
    let q = first_of b a (bars 1) w v h in
    (q.0 ∷ q.3.0, q.2 ∙ ap (sides_text None q.0.left q.0.right) q.3.1)
