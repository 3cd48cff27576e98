-- Each stack has texts: whatever it has taken, some text begins with it.
use Rattle.std.proofs.Common.{◌≡◌, ℕ, zero, suc, ◌+◌, List, [], ◌∷◌, ◌++◌, ◌⊎◌, inl, inr, Option, None}
use Rattle.std.proofs.Common.{Bool, true, false, cond, refl, ap, sym, subst, ◌∙◌}
use Rattle.std.proofs.lemmas.Bool.{eqb-true}
use Rattle.std.specs.Prelude.{◌==◌}
use Rattle.spec_grammar.specs.declared.keys.Key.{Key}
use Rattle.spec_grammar.specs.declared.keys.Key.TheVariants.{Spike, Sort, Fun, Rule, Goal, If, Unless, Equal, Status}
use Rattle.spec_grammar.specs.declared.keys.Key.TheVariants.{Order, LeftPar, Comma, Colon, Bar}
use Rattle.spec_grammar.specs.declared.keys.Key.TheVariants.{Arrow}
use Rattle.spec_grammar.specs.declared.limits.LimitKind.{LimitKind}
use Rattle.spec_grammar.specs.declared.raw.RawSpec.{RawSpec}
use Rattle.spec_grammar.specs.RawTree.{RawTree, none}
use Rattle.spec_grammar.specs.FormatOne.{format_one}
use Rattle.spec_grammar.specs.Items.{Item, Word, Sign, Number}
use Rattle.spec_grammar.specs.Limits.{name_mark, sort_mark, fun_mark}
use Rattle.spec_grammar.specs.Limits.{rule_mark, guard_mark, goal_mark}
use Rattle.spec_grammar.specs.Grammar.{Marked, sign, number, name_text, term_text}
use Rattle.spec_grammar.specs.Grammar.{numeral_text}
use Rattle.spec_grammar.specs.Grammar.{IsSpecText, IsTermText}
use Rattle.spec_grammar.specs.Symbols.{Reaction, fail, key_code, react_args, react_more, react_names, react_more_names}
use Rattle.spec_grammar.specs.Symbols.{react_bar, react_sorts, react_funs, react_equals, react_more_equal}
use Rattle.spec_grammar.specs.Symbols.{react_statuses, react_more_numbers, react_order, react_weights}
use Rattle.spec_grammar.specs.Symbols.{react_more_weights, react_rules, react_guards, react_goals, react_binds}
use Rattle.spec_grammar.specs.Symbols.{react_more_binds, react_clause, react_tail, react_number, react_commas}
use Rattle.spec_grammar.specs.Symbols.{react_bars, joined, feed, ends, Symbol, key, name, args, more, names}
use Rattle.spec_grammar.specs.Symbols.{more_names, format, body, is_format, sorts, funs, equals, more_equal, statuses}
use Rattle.spec_grammar.specs.Symbols.{numeral, more_numbers, order, weights, more_weights, rules, guards, goals}
use Rattle.spec_grammar.specs.Symbols.{binds, more_binds, clause, tail, commas, conclusions, bars, pass, react}
use Rattle.spec_grammar.specs.Symbols.{react_key, react_word}
use Rattle.spec_grammar.specs.Symbols.{take, is_empty, spec_symbols, term_symbols}
pub use Rattle.spec_grammar.proofs.BuiltTexts.{MeansTo}
use Rattle.spec_grammar.proofs.BuiltTexts.{AreDeclarations, Means, key_then, term_of, built_args, built_more}
use Rattle.spec_grammar.proofs.BuiltTexts.{built_names, built_more_names, built_more_equal, built_equals}
use Rattle.spec_grammar.proofs.BuiltTexts.{built_more_numbers, built_statuses, built_more_weights, built_weights}
use Rattle.spec_grammar.proofs.BuiltTexts.{built_order, built_format, which_format, built_bar, built_sort}
use Rattle.spec_grammar.proofs.BuiltTexts.{built_funs, built_guard, built_rules, built_goals, built_binds}
use Rattle.spec_grammar.proofs.BuiltTexts.{built_more_binds, built_clause, built_arrow, built_comma, built_bars}
use Rattle.spec_grammar.proofs.BuiltTexts.{built_conclusions}

-- a reaction that takes a token, from its equation
pass_take : {m : Option LimitKind} {ss : List Symbol} → pass ≡ take m ss → ⊥
pass_take e = cc

fail_take : {m : Option LimitKind} {ss : List Symbol} → fail ≡ take m ss → ⊥
fail_take e = cc

marks : {m n : Option LimitKind} {ss ts : List Symbol} → take m ss ≡ take n ts → m ≡ n
marks e = cc

stacks : {m n : Option LimitKind} {ss ts : List Symbol} → take m ss ≡ take n ts → ss ≡ ts
stacks e = cc

module _ (v : List Marked) where
  takes : (s : Symbol) (x : Item) (m n : Option LimitKind) (ss ts : List Symbol) (w : List Marked) →
      take m ss ≡ take n ts → MeansTo ts w v → ((u : List Marked) → MeansTo ss u v → Means s ((x, m) ∷ u) v) →
      Means s ((x, n) ∷ w) v
  takes s x m n ss ts w e h built = subst (λ (k : Option LimitKind). Means s ((x, k) ∷ w) v) (marks e)
      (built w (subst (λ (st : List Symbol). MeansTo st w v) (sym (stacks e)) h))

  takes_key : (j k : Key) (b : Bool) (n : Option LimitKind) (ts : List Symbol) (w : List Marked) →
      (b ≡ true → key_code j ≡ key_code k) → cond b (take None []) fail ≡ take n ts → MeansTo ts w v →
      Means (key k) ((Sign j, n) ∷ w) v
  takes_key j k true n ts w same e h = takes (key k) (Sign j) None n [] ts w e h
      (λ u none. (j, same refl, ap (λ (x : List Marked). sign j ∷ x) none))
  takes_key j k false n ts w same e h = absurd (fail_take e)

  -- what a symbol takes begins a text of it
  args_means : (d : ℕ) (j : Key) (m : Option LimitKind) (ss : List Symbol) (w : List Marked) →
      react_args d j ≡ take m ss → MeansTo ss w v → Means (args d) ((Sign j, m) ∷ w) v
  args_means d LeftPar m ss w e h = takes (args d) (Sign LeftPar) None m _ ss w e h (λ u k. built_args d u v k)
  args_means d _ m ss w e h = absurd (pass_take e)

  more_means : (d n : ℕ) (j : Key) (m : Option LimitKind) (ss : List Symbol) (w : List Marked) →
      react_more d n j ≡ take m ss → MeansTo ss w v → Means (more d n) ((Sign j, m) ∷ w) v
  more_means d n Comma m ss w e h = takes (more d n) (Sign Comma) None m _ ss w e h (λ u k. built_more d n u v k)
  more_means d n _ m ss w e h = absurd (pass_take e)

  names_mean : (j : Key) (m : Option LimitKind) (ss : List Symbol) (w : List Marked) →
      react_names j ≡ take m ss → MeansTo ss w v → Means names ((Sign j, m) ∷ w) v
  names_mean LeftPar m ss w e h = takes names (Sign LeftPar) None m _ ss w e h (λ u k. built_names u v k)
  names_mean _ m ss w e h = absurd (pass_take e)

  more_names_mean : (n : ℕ) (j : Key) (m : Option LimitKind) (ss : List Symbol) (w : List Marked) →
      react_more_names n j ≡ take m ss → MeansTo ss w v → Means (more_names n) ((Sign j, m) ∷ w) v
  more_names_mean n Comma m ss w e h = takes (more_names n) (Sign Comma) None m _ ss w e h
      (λ u k. built_more_names n u v k)
  more_names_mean n _ m ss w e h = absurd (pass_take e)

  bar_means : (version n k t : ℕ) (m : Option LimitKind) (ss : List Symbol) (w : List Marked) →
      react_bar version n k t ≡ take m ss → MeansTo ss w v → Means (sorts version n k t) ((Sign Bar, m) ∷ w) v
  bar_means version n zero t m ss w e h = absurd (pass_take e)
  bar_means version n (suc k) t m ss w e h = takes (sorts version n (suc k) t) (Sign Bar) None m _ ss w e h
      (λ u q. built_bar version n k t u v q)

  sorts_mean : (version n k t : ℕ) (j : Key) (m : Option LimitKind) (ss : List Symbol) (w : List Marked) →
      react_sorts version n k t j ≡ take m ss → MeansTo ss w v → Means (sorts version n k t) ((Sign j, m) ∷ w) v
  sorts_mean version n k t Sort m ss w e h = takes (sorts version n k t) (Sign Sort) (sort_mark n) m _ ss w e h
      (λ u q. built_sort version n k t u v q)
  sorts_mean version n k t Bar m ss w e h = bar_means version n k t m ss w e h
  sorts_mean version n k t _ m ss w e h = absurd (pass_take e)

  funs_mean : (version n : ℕ) (j : Key) (m : Option LimitKind) (ss : List Symbol) (w : List Marked) →
      react_funs version n j ≡ take m ss → MeansTo ss w v → Means (funs version n) ((Sign j, m) ∷ w) v
  funs_mean version n Fun m ss w e h = takes (funs version n) (Sign Fun) (fun_mark version n) m _ ss w e h
      (λ u k. built_funs version n u v k)
  funs_mean version n _ m ss w e h = absurd (pass_take e)

  rules_mean : (version n : ℕ) (j : Key) (m : Option LimitKind) (ss : List Symbol) (w : List Marked) →
      react_rules version n j ≡ take m ss → MeansTo ss w v → Means (rules version n) ((Sign j, m) ∷ w) v
  rules_mean version n Rule m ss w e h = takes (rules version n) (Sign Rule) (rule_mark version n) m _ ss w e h
      (λ u k. built_rules version n u v k)
  rules_mean version n _ m ss w e h = absurd (pass_take e)

  equals_mean : (j : Key) (m : Option LimitKind) (ss : List Symbol) (w : List Marked)
      → react_equals j ≡ take m ss → MeansTo ss w v → Means equals ((Sign j, m) ∷ w) v
  equals_mean Equal m ss w e h = takes equals (Sign Equal) None m _ ss w e h (λ u k. built_equals u v k)
  equals_mean _ m ss w e h = absurd (pass_take e)

  more_equal_means : (j : Key) (m : Option LimitKind) (ss : List Symbol) (w : List Marked)
      → react_more_equal j ≡ take m ss → MeansTo ss w v → Means more_equal ((Sign j, m) ∷ w) v
  more_equal_means Comma m ss w e h =
      takes more_equal (Sign Comma) None m _ ss w e h (λ u k. built_more_equal u v k)
  more_equal_means _ m ss w e h = absurd (pass_take e)

  statuses_mean : (j : Key) (m : Option LimitKind) (ss : List Symbol) (w : List Marked)
      → react_statuses j ≡ take m ss → MeansTo ss w v → Means statuses ((Sign j, m) ∷ w) v
  statuses_mean Status m ss w e h =
      takes statuses (Sign Status) None m _ ss w e h (λ u k. built_statuses u v k)
  statuses_mean _ m ss w e h = absurd (pass_take e)

  more_numbers_mean : (n : ℕ) (j : Key) (m : Option LimitKind) (ss : List Symbol) (w : List Marked)
      → react_more_numbers n j ≡ take m ss → MeansTo ss w v → Means (more_numbers n) ((Sign j, m) ∷ w) v
  more_numbers_mean n Comma m ss w e h =
      takes (more_numbers n) (Sign Comma) None m _ ss w e h (λ u k. built_more_numbers n u v k)
  more_numbers_mean n _ m ss w e h = absurd (pass_take e)

  order_means : (j : Key) (m : Option LimitKind) (ss : List Symbol) (w : List Marked)
      → react_order j ≡ take m ss → MeansTo ss w v → Means order ((Sign j, m) ∷ w) v
  order_means Order m ss w e h = takes order (Sign Order) None m _ ss w e h (λ u k. built_order u v k)
  order_means _ m ss w e h = absurd (pass_take e)

  weights_mean : (j : Key) (m : Option LimitKind) (ss : List Symbol) (w : List Marked)
      → react_weights j ≡ take m ss → MeansTo ss w v → Means weights ((Sign j, m) ∷ w) v
  weights_mean Colon m ss w e h =
      takes weights (Sign Colon) None m _ ss w e h (λ u k. built_weights u v k)
  weights_mean _ m ss w e h = absurd (pass_take e)

  more_weights_mean : (j : Key) (m : Option LimitKind) (ss : List Symbol) (w : List Marked)
      → react_more_weights j ≡ take m ss → MeansTo ss w v → Means more_weights ((Sign j, m) ∷ w) v
  more_weights_mean Comma m ss w e h =
      takes more_weights (Sign Comma) None m _ ss w e h (λ u k. built_more_weights u v k)
  more_weights_mean _ m ss w e h = absurd (pass_take e)

  guards_mean : (n : ℕ) (j : Key) (m : Option LimitKind) (ss : List Symbol) (w : List Marked) →
      react_guards n j ≡ take m ss → MeansTo ss w v → Means (guards n) ((Sign j, m) ∷ w) v
  guards_mean n If m ss w e h = takes (guards n) (Sign If) (guard_mark n) m _ ss w e h (λ u k. built_guard n true u v k)
  guards_mean n Unless m ss w e h = takes (guards n) (Sign Unless) (guard_mark n) m _ ss w e h
      (λ u k. built_guard n false u v k)
  guards_mean n _ m ss w e h = absurd (pass_take e)

  goals_mean : (n : ℕ) (j : Key) (m : Option LimitKind) (ss : List Symbol) (w : List Marked) →
      react_goals n j ≡ take m ss → MeansTo ss w v → Means (goals n) ((Sign j, m) ∷ w) v
  goals_mean n Goal m ss w e h = takes (goals n) (Sign Goal) (goal_mark n) m _ ss w e h (λ u k. built_goals n u v k)
  goals_mean n _ m ss w e h = absurd (pass_take e)

  binds_mean : (j : Key) (m : Option LimitKind) (ss : List Symbol) (w : List Marked) →
      react_binds j ≡ take m ss → MeansTo ss w v → Means binds ((Sign j, m) ∷ w) v
  binds_mean LeftPar m ss w e h = takes binds (Sign LeftPar) None m _ ss w e h (λ u k. built_binds u v k)
  binds_mean _ m ss w e h = absurd (pass_take e)

  more_binds_mean : (n : ℕ) (j : Key) (m : Option LimitKind) (ss : List Symbol) (w : List Marked) →
      react_more_binds n j ≡ take m ss → MeansTo ss w v → Means (more_binds n) ((Sign j, m) ∷ w) v
  more_binds_mean n Comma m ss w e h = takes (more_binds n) (Sign Comma) None m _ ss w e h
      (λ u k. built_more_binds n u v k)
  more_binds_mean n _ m ss w e h = absurd (pass_take e)

  clause_means : (j : Key) (m : Option LimitKind) (ss : List Symbol) (w : List Marked) →
      react_clause j ≡ take m ss → MeansTo ss w v → Means clause ((Sign j, m) ∷ w) v
  clause_means Arrow m ss w e h = takes clause (Sign Arrow) None m _ ss w e h
      (λ u k. let a = built_arrow u v k in ([], a.0, inl a.1))
  clause_means _ m ss w e h = absurd (fail_take e)

  tail_means : (j : Key) (m : Option LimitKind) (ss : List Symbol) (w : List Marked) →
      react_tail j ≡ take m ss → MeansTo ss w v → Means tail ((Sign j, m) ∷ w) v
  tail_means Comma m ss w e h = takes tail (Sign Comma) None m _ ss w e h (λ u k. inl (built_comma 1 u v k))
  tail_means Arrow m ss w e h = takes tail (Sign Arrow) None m _ ss w e h (λ u k. let a = built_arrow u v k in
      inl ([], a.0, a.1))
  tail_means Bar m ss w e h = takes tail (Sign Bar) None m _ ss w e h (λ u k. inr (built_bars 1 u v k))
  tail_means _ m ss w e h = absurd (pass_take e)

  commas_mean : (n : ℕ) (j : Key) (m : Option LimitKind) (ss : List Symbol) (w : List Marked) →
      react_commas n j ≡ take m ss → MeansTo ss w v → Means (commas n) ((Sign j, m) ∷ w) v
  commas_mean n Comma m ss w e h = takes (commas n) (Sign Comma) None m _ ss w e h (λ u k. built_comma n u v k)
  commas_mean n Arrow m ss w e h = takes (commas n) (Sign Arrow) None m _ ss w e h
      (λ u k. let a = built_arrow u v k in ([], a.0, a.1))
  commas_mean n _ m ss w e h = absurd (fail_take e)

  bars_mean : (n : ℕ) (j : Key) (m : Option LimitKind) (ss : List Symbol) (w : List Marked) →
      react_bars n j ≡ take m ss → MeansTo ss w v → Means (bars n) ((Sign j, m) ∷ w) v
  bars_mean n Bar m ss w e h = takes (bars n) (Sign Bar) None m _ ss w e h (λ u k. built_bars n u v k)
  bars_mean n _ m ss w e h = absurd (pass_take e)

  key_means : (s : Symbol) (j : Key) (m : Option LimitKind) (ss : List Symbol) (w : List Marked) →
      react_key s j ≡ take m ss → MeansTo ss w v → Means s ((Sign j, m) ∷ w) v
  key_means (key k) j m ss w e h = takes_key j k (key_code j == key_code k) m ss w
      (eqb-true (key_code j) (key_code k)) e h
  key_means (name n) j m ss w e h = absurd (fail_take e)
  key_means (args d) j m ss w e h = args_means d j m ss w e h
  key_means (more d n) j m ss w e h = more_means d n j m ss w e h
  key_means names j m ss w e h = names_mean j m ss w e h
  key_means (more_names n) j m ss w e h = more_names_mean n j m ss w e h
  key_means format j m ss w e h = absurd (fail_take e)
  key_means (sorts version n k t) j m ss w e h = sorts_mean version n k t j m ss w e h
  key_means (funs version n) j m ss w e h = funs_mean version n j m ss w e h
  key_means equals j m ss w e h = equals_mean j m ss w e h
  key_means more_equal j m ss w e h = more_equal_means j m ss w e h
  key_means statuses j m ss w e h = statuses_mean j m ss w e h
  key_means (numeral n) j m ss w e h = absurd (fail_take e)
  key_means (more_numbers n) j m ss w e h = more_numbers_mean n j m ss w e h
  key_means order j m ss w e h = order_means j m ss w e h
  key_means weights j m ss w e h = weights_mean j m ss w e h
  key_means more_weights j m ss w e h = more_weights_mean j m ss w e h
  key_means (rules version n) j m ss w e h = rules_mean version n j m ss w e h
  key_means (guards n) j m ss w e h = guards_mean n j m ss w e h
  key_means (goals n) j m ss w e h = goals_mean n j m ss w e h
  key_means binds j m ss w e h = binds_mean j m ss w e h
  key_means (more_binds n) j m ss w e h = more_binds_mean n j m ss w e h
  key_means clause j m ss w e h = clause_means j m ss w e h
  key_means tail j m ss w e h = tail_means j m ss w e h
  key_means (commas n) j m ss w e h = commas_mean n j m ss w e h
  key_means conclusions j m ss w e h = absurd (pass_take e)
  key_means (bars n) j m ss w e h = bars_mean n j m ss w e h

  word_means : (s : Symbol) (b : List ℕ) (a : ℕ) (m : Option LimitKind) (ss : List Symbol) (w : List Marked) →
      react_word s b ≡ take m ss → MeansTo ss w v → Means s ((Word b a, m) ∷ w) v
  word_means (key k) b a m ss w e h = absurd (fail_take e)
  word_means (name n) b a m ss w e h = takes (name n) (Word b a) (name_mark b n) m [] ss w e h
      (λ u none. (record { name = b; at = a }, ap (λ (x : List Marked). (Word b a, name_mark b n) ∷ x) none))
  word_means format b a m ss w e h = absurd (fail_take e)
  word_means (numeral n) b a m ss w e h = absurd (fail_take e)
  word_means clause b a m ss w e h = takes clause (Word b a) (name_mark b None) m _ ss w e h
      (λ u k. built_clause b a u v k)
  word_means (commas n) b a m ss w e h = absurd (fail_take e)
  word_means conclusions b a m ss w e h = takes conclusions (Word b a) (name_mark b None) m _ ss w e h
      (λ u k. built_conclusions b a u v k)
  word_means _ b a m ss w e h = absurd (pass_take e)

  format_means : (n : ℕ) (b : Bool) (m : Option LimitKind) (ss : List Symbol) (w : List Marked)
      → (b ≡ true → (n ≡ 1) ⊎ (n ≡ 2)) → cond b (take None (body n)) fail ≡ take m ss
      → MeansTo ss w v → Means format ((Number n, m) ∷ w) v
  format_means n true m ss w known e h =
      takes format (Number n) None m _ ss w e h (λ u k. built_format n u v (known refl) k)
  format_means n false m ss w known e h = absurd (fail_take e)

  number_means : (s : Symbol) (n : ℕ) (m : Option LimitKind) (ss : List Symbol) (w : List Marked) →
      react_number s n ≡ take m ss → MeansTo ss w v → Means s ((Number n, m) ∷ w) v
  number_means (key k) n m ss w e h = absurd (fail_take e)
  number_means (name o) n m ss w e h = absurd (fail_take e)
  number_means format n m ss w e h = format_means n (is_format n) m ss w (which_format n (n == 1) refl) e h
  number_means (numeral o) n m ss w e h =
      takes (numeral o) (Number n) o m [] ss w e h (λ u none. (n, ap (λ y. (Number n, o) ∷ y) none))
  number_means clause n m ss w e h = absurd (fail_take e)
  number_means (commas k) n m ss w e h = absurd (fail_take e)
  number_means _ n m ss w e h = absurd (pass_take e)

  take_means : (s : Symbol) (x : Item) (m : Option LimitKind) (ss : List Symbol) (w : List Marked) →
      react s x ≡ take m ss → MeansTo ss w v → Means s ((x, m) ∷ w) v
  take_means s (Word b a) m ss w e h = word_means s b a m ss w e h
  take_means s (Sign j) m ss w e h = key_means s j m ss w e h
  take_means s (Number n) m ss w e h = number_means s n m ss w e h

-- a symbol that may be empty
empty_means : (s : Symbol) (v : List Marked) → is_empty s ≡ true → Means s v v
empty_means (key k) v e = absurd (let q : false ≡ true = e in cc)
empty_means (name m) v e = absurd (let q : false ≡ true = e in cc)
empty_means (args d) v e = (none, refl)
empty_means (more d n) v e = (none, refl)
empty_means names v e = ([], refl)
empty_means (more_names n) v e = ([], refl)
empty_means format v e = absurd (let q : false ≡ true = e in cc)
empty_means (sorts version n zero t) v e = ([], refl)
empty_means (sorts version n (suc k) t) v e = ([], [], v, refl, refl)
empty_means (funs version n) v e = ([], refl)
empty_means equals v e = ([], refl)
empty_means more_equal v e = ([], refl)
empty_means statuses v e = ([], refl)
empty_means (numeral m) v e = absurd (let q : false ≡ true = e in cc)
empty_means (more_numbers n) v e = ([], refl)
empty_means order v e = (None, refl)
empty_means weights v e = ([], refl)
empty_means more_weights v e = ([], refl)
empty_means (rules version n) v e = ([], refl)
empty_means (guards n) v e = ([], refl)
empty_means (goals n) v e = ([], refl)
empty_means binds v e = ([], refl)
empty_means (more_binds n) v e = ([], refl)
empty_means clause v e = absurd (let q : false ≡ true = e in cc)
empty_means tail v e = inr ([], refl)
empty_means (commas n) v e = absurd (let q : false ≡ true = e in cc)
empty_means conclusions v e = ([], refl)
empty_means (bars n) v e = ([], refl)

fail_pass : fail ≡ pass → ⊥
fail_pass e = cc

take_pass : {m : Option LimitKind} {ss : List Symbol} → take m ss ≡ pass → ⊥
take_pass e = cc

key_pass : (b : Bool) (ss : List Symbol) → cond b (take None ss) fail ≡ pass → ⊥
key_pass true ss e = take_pass e
key_pass false ss e = fail_pass e

clause_pass : (j : Key) → react_clause j ≡ pass → ⊥
clause_pass Arrow e = take_pass e
clause_pass _ e = fail_pass e

commas_pass : (n : ℕ) (j : Key) → react_commas n j ≡ pass → ⊥
commas_pass n Comma e = take_pass e
commas_pass n Arrow e = take_pass e
commas_pass n _ e = fail_pass e

pass_empty : (s : Symbol) (x : Item) → react s x ≡ pass → is_empty s ≡ true
pass_empty (key k) (Word b a) e = absurd (fail_pass e)
pass_empty (key k) (Sign j) e = absurd (key_pass (key_code j == key_code k) [] e)
pass_empty (key k) (Number n) e = absurd (fail_pass e)
pass_empty (name m) (Word b a) e = absurd (take_pass e)
pass_empty (name m) (Sign j) e = absurd (fail_pass e)
pass_empty (name m) (Number n) e = absurd (fail_pass e)
pass_empty format (Word b a) e = absurd (fail_pass e)
pass_empty format (Sign j) e = absurd (fail_pass e)
pass_empty format (Number n) e = absurd (key_pass (is_format n) (body n) e)
pass_empty (numeral m) (Word b a) e = absurd (fail_pass e)
pass_empty (numeral m) (Sign j) e = absurd (fail_pass e)
pass_empty (numeral m) (Number n) e = absurd (take_pass e)
pass_empty clause (Word b a) e = absurd (take_pass e)
pass_empty clause (Sign j) e = absurd (clause_pass j e)
pass_empty clause (Number n) e = absurd (fail_pass e)
pass_empty (commas n) (Word b a) e = absurd (fail_pass e)
pass_empty (commas n) (Sign j) e = absurd (commas_pass n j e)
pass_empty (commas n) (Number k) e = absurd (fail_pass e)
pass_empty _ x e = refl

-- each symbol has a text
least : (s : Symbol) (v : List Marked) → (w : List Marked) × Means s w v
least (key k) v = (sign k ∷ v, (k, refl, refl))
least (name m) v = (name_text m (record { name = []; at = 0 }) v, (record { name = []; at = 0 }, refl))
least format v =
    let whole : AreDeclarations (format_one [] [] [] []) v v = (v, v, refl, (v, v, refl, refl, refl), refl) in
    (number 1 ∷ v, (format_one [] [] [] [], v, refl, whole, inl (refl, refl, refl, refl)))
least (numeral m) v = (numeral_text m 0 v, (0, refl))
least clause v = (sign Arrow ∷ v, ([], [], inl refl))
least (commas n) v = (sign Arrow ∷ v, ([], [], refl))
least s v = (v, empty_means s v refl)

pub all_least : (st : List Symbol) → (w : List Marked) × MeansTo st w []
all_least [] = ([], refl)
all_least (s ∷ st) = let b = all_least st in let a = least s b.0 in (a.0, (b.0, a.1, b.1))

split_means : (ss st : List Symbol) (w v : List Marked) → MeansTo (ss ++ st) w v →
    (u : List Marked) × MeansTo ss w u × MeansTo st u v
split_means [] st w v h = (w, refl, h)
split_means (s ∷ ss) st w v h = let r = split_means ss st h.0 v h.2 in (r.0, (h.0, h.1, r.1), r.2)

joined_means : (s : Symbol) (st : List Symbol) (x : Item) (m : Option LimitKind) (next : List Symbol)
    (w v : List Marked) (r : Reaction) → react s x ≡ r → joined r st (feed st x) ≡ take m next →
    MeansTo next w v → (feed st x ≡ take m next → MeansTo st ((x, m) ∷ w) v) → MeansTo (s ∷ st) ((x, m) ∷ w) v
joined_means s st x m next w v (take n ss) r e h ih =
    let parts = split_means ss st w v (subst (λ (z : List Symbol). MeansTo z w v) (sym (stacks e)) h) in (
      parts.0,
      subst (λ (k : Option LimitKind). Means s ((x, k) ∷ w) parts.0) (marks e)
          (take_means parts.0 s x n ss w r parts.1),
      parts.2,
    )
joined_means s st x m next w v pass r e h ih = ((x, m) ∷ w, empty_means s ((x, m) ∷ w) (pass_empty s x r), ih e)
joined_means s st x m next w v fail r e h ih = absurd (fail_take e)

pub feed_means : (st : List Symbol) (x : Item) (m : Option LimitKind) (next : List Symbol) (w v : List Marked) →
    feed st x ≡ take m next → MeansTo next w v → MeansTo st ((x, m) ∷ w) v
feed_means [] x m next w v e h = absurd (fail_take e)
feed_means (s ∷ st) x m next w v e h = joined_means s st x m next w v (react s x) refl e h
    (λ f. feed_means st x m next w v f h)

ends_step : (s : Symbol) (st : List Symbol) (b : Bool) → is_empty s ≡ b → cond b (ends st) false ≡ true →
    (is_empty s ≡ true) × (ends st ≡ true)
ends_step s st true e h = (e, h)
ends_step s st false e h = absurd (let q : false ≡ true = h in cc)

pub ends_mean : (st : List Symbol) → ends st ≡ true → MeansTo st [] []
ends_mean [] h = refl
ends_mean (s ∷ st) h = let b = ends_step s st (is_empty s) refl h in ([], empty_means s [] b.0, ends_mean st b.1)

pub spec_means : (w : List Marked) → MeansTo spec_symbols w [] → (raw : RawSpec) × IsSpecText raw w
spec_means w h =
    let a = key_then Spike (format ∷ []) w [] h in
    spec_of a.0 a.1 a.2
  where
    spec_of : (u : List Marked) → w ≡ sign Spike ∷ u → MeansTo (format ∷ []) u []
        → (raw : RawSpec) × IsSpecText raw w
    spec_of u begins (v, (raw, declarations, is, declared, known), end) =
        let whole = subst (AreDeclarations raw declarations) end declared in
        (raw, (declarations, whole.0, whole.1, begins ∙ ap (λ y. sign Spike ∷ y) is, whole.2, whole.3, whole.4, known))

pub term_means : (w : List Marked) → MeansTo term_symbols w [] → (t : RawTree) × IsTermText t w
term_means w h = let t = term_of 0 None [] w [] h in (t.0, t.2 ∙ ap (term_text 0 None t.0) t.3)
