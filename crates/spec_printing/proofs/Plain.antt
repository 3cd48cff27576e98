-- The text of a raw specification that the printed form has: no arrow if there are conclusions only. Its tokens are as
-- good as those of each other text of it, and no longer, also in a format with looser limits.
use Rattle.std.proofs.Common.{◌≡◌, ◌≢◌, inl, inr, ℕ, ◌+◌, ◌<◌, ◌≤◌, ◌^◌, List, [], ◌∷◌, Option, Some, None, length}
use Rattle.std.proofs.Common.{refl, sym, subst, arith}
use Rattle.std.specs.Fmt.{decimal}
use Rattle.std.specs.Str.{chars, IsUtf8}
use Rattle.spec_text.specs.Names.{IsName}
use Rattle.spec_grammar.specs.declared.keys.Key.TheVariants.{Spike, Sort, Equal, Status, Goal, LeftPar, RightPar}
use Rattle.spec_grammar.specs.declared.keys.Key.TheVariants.{Colon, Equals, Arrow}
use Rattle.spec_grammar.specs.declared.limits.LimitKind.{LimitKind}
use Rattle.spec_grammar.specs.declared.raw.RawName.{RawName}
use Rattle.spec_grammar.specs.declared.raw.RawNames.{RawNames}
use Rattle.spec_grammar.specs.declared.raw.RawSort.{RawSort}
use Rattle.spec_grammar.specs.declared.raw.RawFun.{RawFun}
use Rattle.spec_grammar.specs.declared.raw.RawEqual.{RawEqual}
use Rattle.spec_grammar.specs.declared.raw.RawStatus.{RawStatus}
use Rattle.spec_grammar.specs.declared.raw.RawWeight.{RawWeight}
use Rattle.spec_grammar.specs.declared.raw.RawOrder.{RawOrder}
use Rattle.spec_grammar.specs.declared.raw.RawEq.{RawEq}
use Rattle.spec_grammar.specs.declared.raw.RawGuard.{RawGuard}
use Rattle.spec_grammar.specs.declared.raw.RawRule.{RawRule}
use Rattle.spec_grammar.specs.declared.raw.RawBind.{RawBind}
use Rattle.spec_grammar.specs.declared.raw.RawGoal.{RawGoal}
use Rattle.spec_grammar.specs.declared.raw.RawSpec.{RawSpec}
use Rattle.spec_grammar.specs.RawTree.{RawTree, RawTrees, word, none, some}
use Rattle.spec_grammar.specs.Items.{Item, Word, Sign, Number, reserved}
use Rattle.spec_grammar.specs.Limits.{sort_mark, constructor_mark, arity_mark, term_mark, goal_mark, premise_mark}
use Rattle.spec_grammar.specs.Limits.{conclusion_mark}
use Rattle.spec_grammar.specs.Grammar.{Marked, sign, number, name_text, term_text, args_text, more_text}
use Rattle.spec_grammar.specs.Grammar.{more_names_text, names_text, con_text, constructors_text, AreSorts, funs_text}
use Rattle.spec_grammar.specs.Grammar.{more_equal_text, AreEquals, numeral_text, more_numbers_text, AreStatuses}
use Rattle.spec_grammar.specs.Grammar.{more_weights_text, weights_text, order_text, IsOrderText, guards_text}
use Rattle.spec_grammar.specs.Grammar.{sides_text, rules_text, commas_text, premises_text, bars_text, conclusions_text}
use Rattle.spec_grammar.specs.Grammar.{IsClause, more_binds_text, binds_text, AreGoals, IsFormat, IsSpecText}
use Rattle.spec_printing.proofs.Spellings.{item_text}
use Rattle.spec_printing.proofs.Looser.{StaysClean, Looser, same_limits, named_clean}

-- the clause, without an arrow if there are conclusions only
abbrev pub clause_text : List RawEq → List RawEq → List Marked → List Marked
clause_text [] [] rest = sign Arrow ∷ rest
clause_text [] (c ∷ cs) rest = conclusions_text (c ∷ cs) rest
clause_text (p ∷ ps) cs rest = premises_text (p ∷ ps) (sign Arrow ∷ conclusions_text cs rest)

abbrev pub goals_text : ℕ → List RawGoal → List Marked → List Marked
goals_text n [] rest = rest
goals_text n (g ∷ gs) rest = (Sign Goal, goal_mark n) ∷ name_text None g.head
    (binds_text g.binds (sign Colon ∷ clause_text g.premises g.conclusions (goals_text (n + 1) gs rest)))

-- The tokens are the text of the raw specification that the printed form has.
pub record IsPlainText (raw : RawSpec) (text : List Marked) : Type 0 where
  pub sorts : List Marked
  pub order : List Marked
  pub whole : text ≡ sign Spike ∷ number raw.version ∷ sorts
  pub are : AreSorts raw.version 0 0 raw.sorts sorts (funs_text raw.version 0 raw.funs order)
  pub ordered : IsOrderText raw order (rules_text raw.version 0 raw.rules (goals_text 0 raw.goals []))
  pub format : IsFormat raw

-- a plain text is a text
clause_is : (ps cs : List RawEq) (rest : List Marked) → IsClause ps cs (clause_text ps cs rest) rest
clause_is [] [] rest = inl refl
clause_is [] (c ∷ cs) rest = inr (refl, (λ e. cc), refl)
clause_is (p ∷ ps) cs rest = inl refl

goals_are : (n : ℕ) (gs : List RawGoal) (rest : List Marked) → AreGoals n gs (goals_text n gs rest) rest
goals_are n [] rest = refl
goals_are n (g ∷ gs) rest =
    let later : List Marked = goals_text (n + 1) gs rest in (
      clause_text g.premises g.conclusions later,
      later,
      refl,
      clause_is g.premises g.conclusions later,
      goals_are (n + 1) gs rest,
    )

pub plain_is_text : (raw : RawSpec) (text : List Marked) → IsPlainText raw text → IsSpecText raw text
plain_is_text raw text p =
    (p.sorts, p.order, goals_text 0 raw.goals [], p.whole, p.are, p.ordered, goals_are 0 raw.goals [], p.format)

-- names of UTF-8 that aren't reserved, and numbers of at most six digits
abbrev pub IsGood : Item → Type 0
IsGood (Word name at) = IsUtf8 name × IsName (chars name) × (reserved name ≡ None)
IsGood (Sign key) = Unit {0}
IsGood (Number n) = n < 10 ^ 6

-- the names are good, and no limit is passed
abbrev pub AllGood : List Marked → Type 0
AllGood [] = Unit {0}
AllGood (x ∷ w) = IsGood x.0 × (x.1 ≡ None) × AllGood w

-- the bytes of the tokens, with one more for each
abbrev pub spaced_size : List Marked → ℕ
spaced_size [] = 0
spaced_size (x ∷ w) = 1 + length (item_text x.0) + spaced_size w

-- The second tokens are good if the first are, and no longer.
record Follows (text plain : List Marked) : Type 0 where
  good : AllGood text → AllGood plain
  short : spaced_size plain ≤ spaced_size text

behind : {x : Marked} {text plain : List Marked} → Follows text plain → Follows (x ∷ text) (x ∷ plain)
behind f = let short = f.short in record { good = λ h. (h.0, h.1, f.good h.2); short = omega (arith, short) }

-- the same token with another mark
marked :
    {x : Item} {mark other : Option LimitKind} {text plain : List Marked} → StaysClean mark other → Follows text plain →
    Follows ((x, mark) ∷ text) ((x, other) ∷ plain)
marked clean f =
    let short = f.short in
    record { good = λ h. (h.0, clean h.1, f.good h.2); short = omega (arith, short) }

-- the texts of each part before other tokens
more_names_good : (n : ℕ) (xs : List RawName) (rest other : List Marked) → Follows rest other →
    Follows (more_names_text n xs rest) (more_names_text n xs other)
more_names_good n [] rest other f = f
more_names_good n (x ∷ xs) rest other f = behind (behind (more_names_good (n + 1) xs rest other f))

names_good : (xs : List RawName) (rest other : List Marked) → Follows rest other →
    Follows (names_text xs rest) (names_text xs other)
names_good [] rest other f = f
names_good (x ∷ xs) rest other f = behind
    (behind (more_names_good 1 xs (sign RightPar ∷ rest) (sign RightPar ∷ other) (behind f)))

con_good :
    (mark other : Option LimitKind) (c : RawNames) (rest plain : List Marked) → StaysClean mark other →
    Follows rest plain →
    Follows (con_text mark c rest) (con_text other c plain)
con_good mark other c rest plain clean f = marked (named_clean c.name mark other clean) (names_good c.args rest plain f)

more_equal_good : (xs : List RawName) (rest other : List Marked) → Follows rest other →
    Follows (more_equal_text xs rest) (more_equal_text xs other)
more_equal_good [] rest other f = f
more_equal_good (x ∷ xs) rest other f = behind (behind (more_equal_good xs rest other f))

equals_good : (es : List RawEqual) (text rest other : List Marked) → Follows rest other → AreEquals es text rest →
    (plain : List Marked) × AreEquals es plain other × Follows text plain
equals_good [] text rest other f e = (other, refl, subst (λ (w : List Marked). Follows w other) (sym e) f)
equals_good (e ∷ es) text rest other f a =
    let b = equals_good es a.3 rest other f a.6 in
    let plain : List Marked = sign Equal ∷ name_text None a.0 (more_equal_text (a.1 ∷ a.2) b.0) in
    let good : Follows (sign Equal ∷ name_text None a.0 (more_equal_text (a.1 ∷ a.2) a.3)) plain =
    behind (behind (more_equal_good (a.1 ∷ a.2) a.3 b.0 b.2)) in
    (plain, (a.0, a.1, a.2, b.0, a.4, refl, b.1), subst (λ (w : List Marked). Follows w plain) (sym a.5) good)

more_numbers_good : (n : ℕ) (is : List ℕ) (rest other : List Marked) → Follows rest other →
    Follows (more_numbers_text n is rest) (more_numbers_text n is other)
more_numbers_good n [] rest other f = f
more_numbers_good n (i ∷ is) rest other f = behind (behind (more_numbers_good (n + 1) is rest other f))

statuses_good : (ss : List RawStatus) (text rest other : List Marked) → Follows rest other → AreStatuses ss text rest →
    (plain : List Marked) × AreStatuses ss plain other × Follows text plain
statuses_good [] text rest other f e = (other, refl, subst (λ (w : List Marked). Follows w other) (sym e) f)
statuses_good (s ∷ ss) text rest other f a =
    let b = statuses_good ss a.2 rest other f a.5 in
    let line : List Marked → List Marked = λ (w : List Marked).
    sign Status ∷ name_text None s.head (sign LeftPar
    ∷ numeral_text (arity_mark 0) a.0 (more_numbers_text 1 a.1 (sign RightPar ∷ w))) in
    let good : Follows (line a.2) (line b.0) =
    behind (behind (behind (behind
    (more_numbers_good 1 a.1 (sign RightPar ∷ a.2) (sign RightPar ∷ b.0) (behind b.2))))) in
    (line b.0, (a.0, a.1, b.0, a.3, refl, b.1), subst (λ (w : List Marked). Follows w (line b.0)) (sym a.4) good)

more_weights_good : (ws : List RawWeight) (rest other : List Marked) → Follows rest other →
    Follows (more_weights_text ws rest) (more_weights_text ws other)
more_weights_good [] rest other f = f
more_weights_good (w ∷ ws) rest other f = behind (behind (behind (behind (more_weights_good ws rest other f))))

weights_good : (ws : List RawWeight) (rest other : List Marked) → Follows rest other →
    Follows (weights_text ws rest) (weights_text ws other)
weights_good [] rest other f = f
weights_good (w ∷ ws) rest other f = behind (behind (behind (behind (more_weights_good ws rest other f))))

order_line_good : (line : Option RawOrder) (rest other : List Marked) → Follows rest other →
    Follows (order_text line rest) (order_text line other)
order_line_good None rest other f = f
order_line_good (Some o) rest other f = behind (behind (weights_good o.weights rest other f))

order_good : (raw : RawSpec) (text rest other : List Marked) → Follows rest other → IsOrderText raw text rest →
    (plain : List Marked) × IsOrderText raw plain other × Follows text plain
order_good raw text rest other f a =
    let line : List Marked = order_text raw.order other in
    let l : Follows a.1 line =
    subst (λ (w : List Marked). Follows w line) (sym a.4) (order_line_good raw.order rest other f) in
    let s = statuses_good raw.statuses a.0 a.1 line l a.3 in
    let e = equals_good raw.equals text a.0 s.0 s.2 a.2 in
    (e.0, (s.0, line, e.1, s.1, refl), e.2)

mutual
  term_good : (d : ℕ) (mark : Option LimitKind) (t : RawTree) (rest other : List Marked) → Follows rest other →
      Follows (term_text d mark t rest) (term_text d mark t other)
  term_good d mark (word name at ts) rest other f = behind (args_good d ts rest other f)

  args_good : (d : ℕ) (ts : RawTrees) (rest other : List Marked) → Follows rest other →
      Follows (args_text d ts rest) (args_text d ts other)
  args_good d none rest other f = f
  args_good d (some t ts) rest other f = behind
      (term_good (d + 1) (term_mark (d + 1) 0) t _ _
      (more_good (d + 1) 1 ts (sign RightPar ∷ rest) (sign RightPar ∷ other) (behind f)))

  more_good : (d n : ℕ) (ts : RawTrees) (rest other : List Marked) → Follows rest other →
      Follows (more_text d n ts rest) (more_text d n ts other)
  more_good d n none rest other f = f
  more_good d n (some t ts) rest other f = behind
      (term_good d (term_mark d n) t _ _ (more_good d (n + 1) ts rest other f))

sides_good : (mark : Option LimitKind) (left right : RawTree) (rest other : List Marked) → Follows rest other →
    Follows (sides_text mark left right rest) (sides_text mark left right other)
sides_good mark left right rest other f = term_good 0 mark left _ _ (behind (term_good 0 None right rest other f))

guards_good : (n : ℕ) (gs : List RawGuard) (rest other : List Marked) → Follows rest other →
    Follows (guards_text n gs rest) (guards_text n gs other)
guards_good n [] rest other f = f
guards_good n (g ∷ gs) rest other f = behind (term_good 0 None g.test _ _ (guards_good (n + 1) gs rest other f))

-- the texts whose limits depend on the format
module _ (version later : ℕ) (looser : Looser version later) where
  constructors_good : (k t : ℕ) (cs : List RawNames) (rest other : List Marked) → Follows rest other →
      Follows (constructors_text version k t cs rest) (constructors_text later k t cs other)
  constructors_good k t [] rest other f = f
  constructors_good k t (c ∷ cs) rest other f =
      behind (con_good (constructor_mark version k t) (constructor_mark later k t) c _ _ (looser.constructors k t)
      (constructors_good (k + 1) (t + 1) cs rest other f))

  sorts_good : (n t : ℕ) (ss : List RawSort) (text rest other : List Marked) → Follows rest other →
      AreSorts version n t ss text rest → (plain : List Marked) × AreSorts later n t ss plain other × Follows text plain
  sorts_good n t [] text rest other f s = (other, refl, subst (λ (w : List Marked). Follows w other) (sym s) f)
  sorts_good n t (s ∷ ss) text rest other f a =
      let b = sorts_good (n + 1) (t + 1 + length a.1) ss a.2 rest other f a.5 in
      let line : ℕ → List Marked → List Marked = λ (v : ℕ) (w : List Marked).
      (Sign Sort, sort_mark n) ∷ name_text None s.head
      (sign Equals ∷ con_text (constructor_mark v 0 t) a.0 (constructors_text v 1 (t + 1) a.1 w)) in
      let good : Follows (line version a.2) (line later b.0) =
      behind (behind (behind (con_good (constructor_mark version 0 t) (constructor_mark later 0 t) a.0 _ _
      (looser.constructors 0 t) (constructors_good 1 (t + 1) a.1 a.2 b.0 b.2)))) in (
        line later b.0,
        (a.0, a.1, b.0, a.3, refl, b.1),
        subst (λ (w : List Marked). Follows w (line later b.0)) (sym a.4) good,
      )

  funs_good : (n : ℕ) (fs : List RawFun) (rest other : List Marked) → Follows rest other →
      Follows (funs_text version n fs rest) (funs_text later n fs other)
  funs_good n [] rest other f = f
  funs_good n (x ∷ fs) rest other f =
      marked (looser.functions n)
      (behind (names_good x.head.args _ _ (behind (behind (funs_good (n + 1) fs rest other f)))))

  rules_good : (n : ℕ) (rs : List RawRule) (rest other : List Marked) → Follows rest other →
      Follows (rules_text version n rs rest) (rules_text later n rs other)
  rules_good n [] rest other f = f
  rules_good n (r ∷ rs) rest other f =
      marked (looser.rules n)
      (sides_good None r.left r.right _ _ (guards_good 0 r.guards _ _ (rules_good (n + 1) rs rest other f)))

commas_good : (n : ℕ) (es : List RawEq) (rest other : List Marked) → Follows rest other →
    Follows (commas_text n es rest) (commas_text n es other)
commas_good n [] rest other f = f
commas_good n (e ∷ es) rest other f = behind
    (sides_good (premise_mark n) e.left e.right _ _ (commas_good (n + 1) es rest other f))

bars_good : (n : ℕ) (es : List RawEq) (rest other : List Marked) → Follows rest other →
    Follows (bars_text n es rest) (bars_text n es other)
bars_good n [] rest other f = f
bars_good n (e ∷ es) rest other f = behind
    (sides_good (conclusion_mark n) e.left e.right _ _ (bars_good (n + 1) es rest other f))

conclusions_good : (cs : List RawEq) (rest other : List Marked) → Follows rest other →
    Follows (conclusions_text cs rest) (conclusions_text cs other)
conclusions_good [] rest other f = f
conclusions_good (c ∷ cs) rest other f = sides_good (conclusion_mark 0) c.left c.right _ _ (bars_good 1 cs rest other f)

premises_good : (ps : List RawEq) (rest other : List Marked) → Follows rest other →
    Follows (premises_text ps rest) (premises_text ps other)
premises_good [] rest other f = f
premises_good (p ∷ ps) rest other f = sides_good (premise_mark 0) p.left p.right _ _ (commas_good 1 ps rest other f)

more_binds_good : (n : ℕ) (bs : List RawBind) (rest other : List Marked) → Follows rest other →
    Follows (more_binds_text n bs rest) (more_binds_text n bs other)
more_binds_good n [] rest other f = f
more_binds_good n (b ∷ bs) rest other f = behind (behind (behind (behind (more_binds_good (n + 1) bs rest other f))))

binds_good : (bs : List RawBind) (rest other : List Marked) → Follows rest other →
    Follows (binds_text bs rest) (binds_text bs other)
binds_good [] rest other f = f
binds_good (b ∷ bs) rest other f = behind
    (behind (behind (behind (more_binds_good 1 bs (sign RightPar ∷ rest) (sign RightPar ∷ other) (behind f)))))

-- a clause with the arrow, and a clause without it
with_arrow : (ps cs : List RawEq) (rest other : List Marked) → Follows rest other →
    Follows (premises_text ps (sign Arrow ∷ conclusions_text cs rest)) (clause_text ps cs other)
with_arrow [] [] rest other f = behind f
with_arrow [] (c ∷ cs) rest other f =
    let k = conclusions_good (c ∷ cs) rest other f in
    let short = k.short in
    record { good = λ h. k.good h.2; short = omega (arith, short) }
with_arrow (p ∷ ps) cs rest other f = premises_good (p ∷ ps) _ _ (behind (conclusions_good cs rest other f))

without_arrow : (cs : List RawEq) (rest other : List Marked) → cs ≢ [] → Follows rest other →
    Follows (conclusions_text cs rest) (clause_text [] cs other)
without_arrow [] rest other n f = absurd (n refl)
without_arrow (c ∷ cs) rest other n f = conclusions_good (c ∷ cs) rest other f

clause_good : (ps cs : List RawEq) (text rest other : List Marked) → IsClause ps cs text rest →
    Follows rest other → Follows text (clause_text ps cs other)
clause_good ps cs text rest other (inl e) f = subst (λ (w : List Marked). Follows w (clause_text ps cs other))
    (sym e) (with_arrow ps cs rest other f)
clause_good ps cs text rest other (inr h) f =
    let k : Follows text (clause_text [] cs other) = subst
    (λ (w : List Marked). Follows w (clause_text [] cs other)) (sym h.2) (without_arrow cs rest other h.1 f) in
    subst (λ (ps : List RawEq). Follows text (clause_text ps cs other)) (sym h.0) k

goals_good : (n : ℕ) (gs : List RawGoal) (text : List Marked) → AreGoals n gs text [] →
    Follows text (goals_text n gs [])
goals_good n [] text e =
    subst (λ (w : List Marked). Follows w []) (sym e) (record { good = λ h. h; short = omega arith })
goals_good n (g ∷ gs) text a =
    let later = goals_good (n + 1) gs a.1 a.4 in
    let clause = clause_good g.premises g.conclusions a.0 a.1 (goals_text (n + 1) gs []) a.3 later in
    subst (λ (w : List Marked). Follows w (goals_text n (g ∷ gs) [])) (sym a.2)
    (behind (behind (binds_good g.binds _ _ (behind clause))))

-- A plain text of the raw specification whose tokens are good and no longer than these.
pub record HasPlainText (raw : RawSpec) (text : List Marked) : Type 0 where
  pub plain : List Marked
  pub is : IsPlainText raw plain
  pub good : AllGood plain
  pub short : spaced_size plain ≤ spaced_size text

-- if there is a text of good tokens, there is a plain one in each format with looser limits and no longer number
pub plain_text_in : (raw : RawSpec) (later : ℕ) (text : List Marked) → Looser raw.version later → later < 10 ^ 6 →
    length (decimal later) ≤ length (decimal raw.version) → IsFormat (record raw { version = later }) →
    IsSpecText raw text →
    AllGood text → HasPlainText (record raw { version = later }) text
plain_text_in raw later text looser small narrow format h good =
    let version = raw.version in
    let goals : List Marked = goals_text 0 raw.goals [] in
    let r : Follows (rules_text version 0 raw.rules h.2) (rules_text later 0 raw.rules goals) =
    rules_good version later looser 0 raw.rules _ _ (goals_good 0 raw.goals h.2 h.6) in
    let o = order_good raw h.1 _ (rules_text later 0 raw.rules goals) r h.5 in
    let f : Follows (funs_text version 0 raw.funs h.1) (funs_text later 0 raw.funs o.0) =
    funs_good version later looser 0 raw.funs _ _ o.2 in
    let s = sorts_good version later looser 0 0 raw.sorts h.0 _ (funs_text later 0 raw.funs o.0) f h.4 in
    let short = s.2.short in
    let numbered : Follows (number version ∷ h.0) (number later ∷ s.0) =
    record { good = λ g. (small, g.1, s.2.good g.2); short = omega (arith, short, narrow) } in
    let whole : Follows text (sign Spike ∷ number later ∷ s.0) =
    subst (λ (w : List Marked). Follows w (sign Spike ∷ number later ∷ s.0)) (sym h.3) (behind numbered) in
    record {
      plain = sign Spike ∷ number later ∷ s.0;
      is = record { sorts = s.0; order = o.0; whole = refl; are = s.1; ordered = o.1; format = format };
      good = whole.good good;
      short = whole.short;
    }

-- so there is in the same format
pub plain_text : (raw : RawSpec) (text : List Marked) → IsSpecText raw text → AllGood text → HasPlainText raw text
plain_text raw text h good =
    let g : AllGood (sign Spike ∷ number raw.version ∷ h.0) = subst AllGood h.3 good in
    plain_text_in raw raw.version text (same_limits raw.version) g.2.0 (omega arith) h.7 h good
