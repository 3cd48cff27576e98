-- Names of a raw specification that a text derives are words of the text, so that they may appear in a report.
use Rattle.std.proofs.Common.{◌≡◌, ℕ, ◌+◌, ◌≤◌, List, [], ◌∷◌, inl, inr, Option, Some, None, Bool, true, false, cond}
use Rattle.std.proofs.Common.{nat_le, ◌||◌, length, map, codes, refl, sym, ◌∙◌, subst}
use Rattle.std.specs.List.{AllByRecursion, list_any}
use Rattle.std.specs.Str.{bytes_eq}
use Rattle.std.proofs.lemmas.Bool.{leb-true}
use Rattle.spec_text.proofs.SpanLemmas.{spans_hold}
use Rattle.spec_grammar.specs.declared.keys.Key.{Key}
use Rattle.spec_grammar.specs.declared.keys.Key.TheVariants.{Equals, Colon, Arrow, RightPar, Spike, Sort, Fun, Rule}
use Rattle.spec_grammar.specs.declared.keys.Key.TheVariants.{Goal, If, Unless, Equal, Status, Order, Stray}
use Rattle.spec_grammar.specs.declared.limits.LimitKind.{LimitKind}
use Rattle.spec_grammar.specs.declared.limits.LimitKind.TheVariants as limit
use Rattle.spec_grammar.specs.declared.raw.RawName.{RawName}
use Rattle.spec_grammar.specs.declared.raw.RawNames.{RawNames}
use Rattle.spec_grammar.specs.declared.raw.RawSort.{RawSort}
use Rattle.spec_grammar.specs.declared.raw.RawFun.{RawFun}
use Rattle.spec_grammar.specs.declared.raw.RawEqual.{RawEqual}
use Rattle.spec_grammar.specs.declared.raw.RawStatus.{RawStatus}
use Rattle.spec_grammar.specs.declared.raw.RawWeight.{RawWeight}
use Rattle.spec_grammar.specs.declared.raw.RawOrder.{RawOrder}
use Rattle.spec_grammar.specs.declared.raw.RawEq.{RawEq}
use Rattle.spec_grammar.specs.declared.raw.RawGuard.{RawGuard}
use Rattle.spec_grammar.specs.declared.raw.RawRule.{RawRule}
use Rattle.spec_grammar.specs.declared.raw.RawBind.{RawBind}
use Rattle.spec_grammar.specs.declared.raw.RawGoal.{RawGoal}
use Rattle.spec_grammar.specs.declared.raw.RawSpec.{RawSpec}
use Rattle.spec_grammar.specs.RawTree.{RawTree, RawTrees, word, none, some}
use Rattle.spec_grammar.specs.Items.{Word, reserved}
use Rattle.spec_grammar.specs.Limits.{name_mark, constructor_mark, term_mark, variable_mark, premise_mark}
use Rattle.spec_grammar.specs.Limits.{conclusion_mark}
use Rattle.spec_grammar.specs.Grammar.{Marked, sign, name_text, term_text, args_text, more_text, more_names_text}
use Rattle.spec_grammar.specs.Grammar.{names_text, con_text, constructors_text, AreSorts, funs_text, more_equal_text}
use Rattle.spec_grammar.specs.Grammar.{AreEquals, more_numbers_text, AreStatuses, more_weights_text, weights_text}
use Rattle.spec_grammar.specs.Grammar.{order_text, IsOrderText, guards_text, sides_text, rules_text, commas_text}
use Rattle.spec_grammar.specs.Grammar.{premises_text, bars_text, conclusions_text, IsClause, more_binds_text}
use Rattle.spec_grammar.specs.Grammar.{binds_text, AreGoals, IsSpecText}
use Rattle.spec_grammar.specs.Derives.{TextDerives}
use Rattle.spec_printing.proofs.Plain.{IsGood, AllGood}
use Rattle.spec_printing.proofs.Pieces.{tokens_good}
use Rattle.proof_script.specs.Names.{reserved_words, IsReportName}
use Rattle.proof_script.proofs.Spelled.{report_name}

-- a word is no reserved one
not_first : (b : Bool) (k : Key) (rest : Option Key) → cond b (Some k) rest ≡ None → (b ≡ false) × (rest ≡ None)
not_first true k rest e = absurd (let q : Some k ≡ None = e in cc)
not_first false k rest e = (refl, e)

neither : (a b : Bool) → a ≡ false → b ≡ false → (a || b) ≡ false
neither true b p q = p
neither false b p q = q

-- the tests of a list of words by their keys
keyed : (List ℕ → Bool) → List (List ℕ × Key) → Option Key
keyed test [] = None
keyed test (w ∷ ws) = cond (test w.0) (Some w.1) (keyed test ws)

not_keyed : (test : List ℕ → Bool) (ws : List (List ℕ × Key)) → keyed test ws ≡ None →
    list_any test (map (λ (w : List ℕ × Key). w.0) ws) ≡ false
unfolding keyed
not_keyed test [] e = refl
not_keyed test (w ∷ ws) e =
    let p = not_first (test w.0) w.1 (keyed test ws) e in
    neither (test w.0) (list_any test (map (λ (x : List ℕ × Key). x.0) ws)) p.0 (not_keyed test ws p.1)

abbrev keys : List (List ℕ × Key)
keys =
    (codes "spike", Spike) ∷ (codes "sort", Sort) ∷ (codes "fun", Fun) ∷ (codes "rule", Rule) ∷ (
      codes "goal",
      Goal,
    ) ∷ (codes "if", If)
    ∷ (codes "unless", Unless) ∷ (codes "order", Order) ∷ (codes "status", Status) ∷ (
      codes "equal",
      Equal,
    ) ∷ (codes "_", Stray) ∷ []

reserved_by_keys : (name : List ℕ) → reserved name ≡ keyed (bytes_eq name) keys
unfolding keyed
reserved_by_keys name = refl

free_name : (name : List ℕ) → reserved name ≡ None → list_any (bytes_eq name) reserved_words ≡ false
free_name name e = not_keyed (bytes_eq name) keys (sym (reserved_by_keys name) ∙ e)

short_by : (b : Bool) (n : ℕ) (m : Option LimitKind) → nat_le n 64 ≡ b →
    cond {A = Option LimitKind} b m (Some limit.Name) ≡ None → n ≤ 64
short_by true n m e h = leb-true n 64 e
short_by false n m e h = absurd (let q : Some limit.Name ≡ None = h in cc)

word_stands : (name : List ℕ) (at : ℕ) (m : Option LimitKind) → IsGood (Word name at) →
    name_mark name m ≡ None → IsReportName name
word_stands name at m good unmarked = report_name name (short_by (nat_le (length name) 64) (length name) m refl
    unmarked) (free_name name good.2) (good.0, good.1)

-- each word of a term may appear in a report
abbrev mutual
  pub WordsStand : RawTree → Type 0
  WordsStand (word name at ts) = IsReportName name × AllWordsStand ts

  pub AllWordsStand : RawTrees → Type 0
  AllWordsStand none = Unit {0}
  AllWordsStand (some t ts) = WordsStand t × AllWordsStand ts

abbrev pub SidesStand : RawEq → Type 0
SidesStand e = WordsStand e.left × WordsStand e.right

abbrev pub AllSidesStand : List RawEq → Type 0
AllSidesStand es = AllByRecursion SidesStand es

abbrev pub BindsStand : List RawBind → Type 0
BindsStand bs = AllByRecursion (λ (b : RawBind). IsReportName b.name.name) bs

pub record GoalWordsStand (g : RawGoal) : Type 0 where
  pub name : IsReportName g.head.name
  pub binds : BindsStand g.binds
  pub premises : AllSidesStand g.premises
  pub conclusions : AllSidesStand g.conclusions

abbrev pub ConstructorsStand : List RawNames → Type 0
ConstructorsStand cs = AllByRecursion (λ (c : RawNames). IsReportName c.name) cs

-- the names of symbols and goals, and the words of goals
pub record RawNamesStand (raw : RawSpec) : Type 0 where
  pub constructors : AllByRecursion (λ (s : RawSort). ConstructorsStand s.constructors) raw.sorts
  pub functions : AllByRecursion (λ (f : RawFun). IsReportName f.head.name) raw.funs
  pub goals : AllByRecursion GoalWordsStand raw.goals

-- Each part of a text, with what comes after it.
mutual
  term_words : (d : ℕ) (m : Option LimitKind) (t : RawTree) (v : List Marked) → AllGood (term_text d m t v) →
      WordsStand t × AllGood v
  term_words d m (word b a ts) v h = let args = args_words d ts v h.2 in ((word_stands b a m h.0 h.1, args.0), args.1)

  args_words : (d : ℕ) (ts : RawTrees) (v : List Marked) → AllGood (args_text d ts v) → AllWordsStand ts × AllGood v
  args_words d none v h = (tt, h)
  args_words d (some t ts) v h =
      let first = term_words (d + 1) (term_mark (d + 1) 0) t (more_text (d + 1) 1 ts (sign RightPar ∷ v)) h.2 in
      let others = more_words (d + 1) 1 ts (sign RightPar ∷ v) first.1 in
      ((first.0, others.0), others.1.2)

  more_words : (d n : ℕ) (ts : RawTrees) (v : List Marked) → AllGood (more_text d n ts v) → AllWordsStand ts × AllGood v
  more_words d n none v h = (tt, h)
  more_words d n (some t ts) v h =
      let first = term_words d (term_mark d n) t (more_text d (n + 1) ts v) h.2 in
      let others = more_words d (n + 1) ts v first.1 in
      ((first.0, others.0), others.1)

sides_words : (m : Option LimitKind) (e : RawEq) (v : List Marked) → AllGood (sides_text m e.left e.right v) →
    SidesStand e × AllGood v
sides_words m e v h =
    let left = term_words 0 m e.left (sign Equals ∷ term_text 0 None e.right v) h in
    let right = term_words 0 None e.right v left.1.2 in
    ((left.0, right.0), right.1)

more_names_behind : (n : ℕ) (xs : List RawName) (v : List Marked) → AllGood (more_names_text n xs v) → AllGood v
more_names_behind n [] v h = h
more_names_behind n (x ∷ xs) v h = more_names_behind (n + 1) xs v h.2.2

names_behind : (xs : List RawName) (v : List Marked) → AllGood (names_text xs v) → AllGood v
names_behind [] v h = h
names_behind (x ∷ xs) v h = (more_names_behind 1 xs (sign RightPar ∷ v) h.2.2).2

con_words : (m : Option LimitKind) (c : RawNames) (v : List Marked) → AllGood (con_text m c v) →
    IsReportName c.name × AllGood v
con_words m c v h = (word_stands c.name c.at m h.0 h.1, names_behind c.args v h.2)

constructors_words : (version k t : ℕ) (cs : List RawNames) (v : List Marked) →
    AllGood (constructors_text version k t cs v) → ConstructorsStand cs × AllGood v
constructors_words version k t [] v h = (tt, h)
constructors_words version k t (c ∷ cs) v h =
    let first = con_words (constructor_mark version k t) c (constructors_text version (k + 1) (t + 1) cs v) h.2 in
    let others = constructors_words version (k + 1) (t + 1) cs v first.1 in
    ((first.0, others.0), others.1)

sorts_words : (version n t : ℕ) (ss : List RawSort) (text v : List Marked) → AreSorts version n t ss text v →
    AllGood text → AllByRecursion (λ (s : RawSort). ConstructorsStand s.constructors) ss × AllGood v
sorts_words version n t [] text v are h = (tt, subst AllGood are h)
sorts_words version n t (s ∷ ss) text v (first, others, after, cs, is, are) h =
    let good = subst AllGood is h in
    let con = con_words (constructor_mark version 0 t) first (constructors_text version 1 (t + 1) others after)
    good.2.2.2 in
    let more = constructors_words version 1 (t + 1) others after con.1 in
    let rest = sorts_words version (n + 1) (t + 1 + length others) ss after v are more.1 in
    ((subst ConstructorsStand (sym cs) (con.0, more.0), rest.0), rest.1)

funs_words : (version n : ℕ) (fs : List RawFun) (v : List Marked) → AllGood (funs_text version n fs v) →
    AllByRecursion (λ (f : RawFun). IsReportName f.head.name) fs × AllGood v
funs_words version n [] v h = (tt, h)
funs_words version n (f ∷ fs) v h =
    let head = con_words None f.head (sign Colon ∷ name_text None f.result (funs_text version (n + 1) fs v)) h.2 in
    let rest = funs_words version (n + 1) fs v head.1.2.2 in
    ((head.0, rest.0), rest.1)

guards_behind : (n : ℕ) (gs : List RawGuard) (v : List Marked) → AllGood (guards_text n gs v) → AllGood v
guards_behind n [] v h = h
guards_behind n (g ∷ gs) v h = guards_behind (n + 1) gs v (term_words 0 None g.test (guards_text (n + 1) gs v) h.2).1

rules_behind : (version n : ℕ) (rs : List RawRule) (v : List Marked) → AllGood (rules_text version n rs v) → AllGood v
rules_behind version n [] v h = h
rules_behind version n (r ∷ rs) v h =
    let sides = sides_words None (record { left = r.left; right = r.right })
    (guards_text 0 r.guards (rules_text version (n + 1) rs v)) h.2 in
    rules_behind version (n + 1) rs v (guards_behind 0 r.guards (rules_text version (n + 1) rs v) sides.1)

commas_words : (n : ℕ) (es : List RawEq) (v : List Marked) → AllGood (commas_text n es v) → AllSidesStand es × AllGood v
commas_words n [] v h = (tt, h)
commas_words n (e ∷ es) v h =
    let sides = sides_words (premise_mark n) e (commas_text (n + 1) es v) h.2 in
    let rest = commas_words (n + 1) es v sides.1 in
    ((sides.0, rest.0), rest.1)

premises_words : (es : List RawEq) (v : List Marked) → AllGood (premises_text es v) → AllSidesStand es × AllGood v
premises_words [] v h = (tt, h)
premises_words (e ∷ es) v h =
    let sides = sides_words (premise_mark 0) e (commas_text 1 es v) h in
    let rest = commas_words 1 es v sides.1 in
    ((sides.0, rest.0), rest.1)

bars_words : (n : ℕ) (es : List RawEq) (v : List Marked) → AllGood (bars_text n es v) → AllSidesStand es × AllGood v
bars_words n [] v h = (tt, h)
bars_words n (e ∷ es) v h =
    let sides = sides_words (conclusion_mark n) e (bars_text (n + 1) es v) h.2 in
    let rest = bars_words (n + 1) es v sides.1 in
    ((sides.0, rest.0), rest.1)

conclusions_words : (es : List RawEq) (v : List Marked) → AllGood (conclusions_text es v) → AllSidesStand es × AllGood v
conclusions_words [] v h = (tt, h)
conclusions_words (e ∷ es) v h =
    let sides = sides_words (conclusion_mark 0) e (bars_text 1 es v) h in
    let rest = bars_words 1 es v sides.1 in
    ((sides.0, rest.0), rest.1)

clause_words : (ps cs : List RawEq) (text v : List Marked) → IsClause ps cs text v → AllGood text →
    AllSidesStand ps × AllSidesStand cs × AllGood v
clause_words ps cs text v (inl is) h =
    let premises = premises_words ps (sign Arrow ∷ conclusions_text cs v) (subst AllGood is h) in
    let conclusions = conclusions_words cs v premises.1.2 in
    (premises.0, conclusions.0, conclusions.1)
clause_words ps cs text v (inr is) h =
    let conclusions = conclusions_words cs v (subst AllGood is.2 h) in
    let none_there : AllSidesStand [] = tt in
    (subst AllSidesStand (sym is.0) none_there, conclusions.0, conclusions.1)

more_binds_words : (n : ℕ) (bs : List RawBind) (v : List Marked) → AllGood (more_binds_text n bs v) →
    BindsStand bs × AllGood v
more_binds_words n [] v h = (tt, h)
more_binds_words n (b ∷ bs) v h =
    let rest = more_binds_words (n + 1) bs v h.2.2.2.2 in
    ((word_stands b.name.name b.name.at (variable_mark n) h.2.0 h.2.1, rest.0), rest.1)

binds_words : (bs : List RawBind) (v : List Marked) → AllGood (binds_text bs v) → BindsStand bs × AllGood v
binds_words [] v h = (tt, h)
binds_words (b ∷ bs) v h =
    let rest = more_binds_words 1 bs (sign RightPar ∷ v) h.2.2.2.2 in
    ((word_stands b.name.name b.name.at (variable_mark 0) h.2.0 h.2.1, rest.0), rest.1.2)

goals_words : (n : ℕ) (gs : List RawGoal) (text v : List Marked) → AreGoals n gs text v → AllGood text →
    AllByRecursion GoalWordsStand gs
goals_words n [] text v are h = tt
goals_words n (g ∷ gs) text v (clause, after, is, are_clause, are) h =
    let good = subst AllGood is h in
    let binds = binds_words g.binds (sign Colon ∷ clause) good.2.2 in
    let sides = clause_words g.premises g.conclusions clause after are_clause binds.1.2 in
    let goal : GoalWordsStand g = record {
      name = word_stands g.head.name g.head.at None good.2.0 good.2.1;
      binds = binds.0;
      premises = sides.0;
      conclusions = sides.1;
    } in
    (goal, goals_words (n + 1) gs after v are sides.2)

-- what comes after the lines that order functions
more_equal_behind : (xs : List RawName) (v : List Marked) → AllGood (more_equal_text xs v) → AllGood v
more_equal_behind [] v h = h
more_equal_behind (x ∷ xs) v h = more_equal_behind xs v h.2.2

equals_behind : (es : List RawEqual) (w v : List Marked) → AreEquals es w v → AllGood w → AllGood v
equals_behind [] w v is h = subst AllGood is h
equals_behind (e ∷ es) w v (first, second, others, after, listed, is, rest) h =
    let good = subst AllGood is h in
    equals_behind es after v rest (more_equal_behind (second ∷ others) after good.2.2)

more_numbers_behind : (n : ℕ) (is : List ℕ) (v : List Marked) → AllGood (more_numbers_text n is v) → AllGood v
more_numbers_behind n [] v h = h
more_numbers_behind n (i ∷ is) v h = more_numbers_behind (n + 1) is v h.2.2

statuses_behind : (ss : List RawStatus) (w v : List Marked) → AreStatuses ss w v → AllGood w → AllGood v
statuses_behind [] w v is h = subst AllGood is h
statuses_behind (s ∷ ss) w v (first, others, after, listed, is, rest) h =
    let good = subst AllGood is h in
    let closed = more_numbers_behind 1 others (sign RightPar ∷ after) good.2.2.2.2 in
    statuses_behind ss after v rest closed.2

-- and what comes after the line of the ordering
after_more_weights : (ws : List RawWeight) (v : List Marked) → AllGood (more_weights_text ws v) → AllGood v
after_more_weights [] v h = h
after_more_weights (w ∷ ws) v h = after_more_weights ws v h.2.2.2.2

after_weights : (ws : List RawWeight) (v : List Marked) → AllGood (weights_text ws v) → AllGood v
after_weights [] v h = h
after_weights (w ∷ ws) v h = after_more_weights ws v h.2.2.2.2

after_order_line : (order : Option RawOrder) (v : List Marked) → AllGood (order_text order v) → AllGood v
after_order_line None v h = h
after_order_line (Some line) v h = after_weights line.weights v h.2.2

order_behind : (raw : RawSpec) (w v : List Marked) → IsOrderText raw w v → AllGood w → AllGood v
order_behind raw w v (middle, line, are_equals, are_statuses, is_line) h =
    let after_equals = equals_behind raw.equals w middle are_equals h in
    let after_statuses = statuses_behind raw.statuses middle line are_statuses after_equals in
    after_order_line raw.order v (subst AllGood is_line after_statuses)

pub raw_names_stand : (bytes : List ℕ) (raw : RawSpec) → TextDerives IsSpecText bytes raw → RawNamesStand raw
raw_names_stand bytes raw (
  tokens,
  are_tokens,
  (sorts_text, lines_text, goals_text, is, are_sorts, is_order, are_goals, known),
) =
    let version = raw.version in
    let rules = rules_text version 0 raw.rules goals_text in
    let good = subst AllGood is (tokens_good bytes tokens (spans_hold bytes tokens are_tokens).spelled) in
    let sorts = sorts_words version 0 0 raw.sorts sorts_text (funs_text version 0 raw.funs lines_text)
    are_sorts good.2.2 in
    let funs = funs_words version 0 raw.funs lines_text sorts.1 in
    let after_order = order_behind raw lines_text rules is_order funs.1 in
    record {
      constructors = sorts.0;
      functions = funs.0;
      goals = goals_words 0 raw.goals goals_text [] are_goals (rules_behind version 0 raw.rules goals_text after_order);
    }
