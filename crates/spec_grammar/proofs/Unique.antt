-- Tokens are a text of one raw specification only.
use Rattle.std.proofs.Common.{◌≡◌, ◌≢◌, ℕ, ◌+◌, List, [], ◌∷◌, inl, inr, Option, Some, None, Bool, true, false, length}
use Rattle.std.proofs.Common.{refl, ap, sym, subst, ◌∙◌}
use Rattle.std.specs.Prelude.{◌==◌}
use Rattle.std.proofs.lemmas.Bool.{eqb-false}
use Rattle.spec_grammar.specs.declared.keys.Key.{Key}
use Rattle.spec_grammar.specs.declared.keys.Key.TheVariants.{Sort, Fun, Rule, Goal, If, Unless, Equal, Status, Order}
use Rattle.spec_grammar.specs.declared.keys.Key.TheVariants.{LeftPar, RightPar, Comma, Colon, Equals, Bar, Arrow}
use Rattle.spec_grammar.specs.declared.limits.LimitKind.{LimitKind}
use Rattle.spec_grammar.specs.declared.raw.RawName.{RawName}
use Rattle.spec_grammar.specs.declared.raw.RawNames.{RawNames}
use Rattle.spec_grammar.specs.declared.raw.RawSort.{RawSort}
use Rattle.spec_grammar.specs.declared.raw.RawFun.{RawFun}
use Rattle.spec_grammar.specs.declared.raw.RawEqual.{RawEqual}
use Rattle.spec_grammar.specs.declared.raw.RawStatus.{RawStatus}
use Rattle.spec_grammar.specs.declared.raw.RawWeight.{RawWeight}
use Rattle.spec_grammar.specs.declared.raw.RawOrder.{RawOrder}
use Rattle.spec_grammar.specs.declared.raw.RawEq.{RawEq}
use Rattle.spec_grammar.specs.declared.raw.RawGuard.{RawGuard}
use Rattle.spec_grammar.specs.declared.raw.RawRule.{RawRule}
use Rattle.spec_grammar.specs.declared.raw.RawBind.{RawBind}
use Rattle.spec_grammar.specs.declared.raw.RawGoal.{RawGoal}
use Rattle.spec_grammar.specs.declared.raw.RawSpec.{RawSpec}
use Rattle.spec_grammar.specs.RawTree.{RawTree, RawTrees, word, none, some}
use Rattle.spec_grammar.specs.Items.{Item, Word, Sign, Number}
use Rattle.spec_grammar.specs.Limits.{constructor_mark, arity_mark, term_mark, guard_mark, variable_mark, premise_mark}
use Rattle.spec_grammar.specs.Limits.{conclusion_mark}
use Rattle.spec_grammar.specs.Grammar.{Marked, sign, name_text, term_text, args_text, more_text, more_names_text}
use Rattle.spec_grammar.specs.Grammar.{names_text, con_text, constructors_text, AreSorts, funs_text, more_equal_text}
use Rattle.spec_grammar.specs.Grammar.{AreEquals, numeral_text, more_numbers_text, AreStatuses, weight_text}
use Rattle.spec_grammar.specs.Grammar.{more_weights_text, weights_text, order_text, IsOrderText, guard_key}
use Rattle.spec_grammar.specs.Grammar.{guards_text, sides_text, rules_text, commas_text, premises_text, bars_text}
use Rattle.spec_grammar.specs.Grammar.{conclusions_text, IsClause, bind_text, more_binds_text, binds_text, AreGoals}
use Rattle.spec_grammar.specs.Grammar.{IsSpecText, IsTermText}
use Rattle.spec_grammar.specs.Symbols.{key_code}
use Rattle.spec_grammar.proofs.Agrees.{BeginsIn, HeadIn, after_statuses, after_equals, after_funs, after_sorts}
use Rattle.spec_grammar.proofs.Agrees.{head_order_line, head_statuses, head_equals, head_order, head_goals, head_rules}
use Rattle.spec_grammar.proofs.Agrees.{head_funs, head_sorts, head_constructors, head_guards, head_bars}

heads : {x y : Marked} {xs ys : List Marked} → x ∷ xs ≡ y ∷ ys → x ≡ y
heads e = cc

tails : {x y : Marked} {xs ys : List Marked} → x ∷ xs ≡ y ∷ ys → xs ≡ ys
tails e = cc

word_name : {a c : List ℕ} {b d : ℕ} → Word a b ≡ Word c d → a ≡ c
word_name e = cc

word_place : {a c : List ℕ} {b d : ℕ} → Word a b ≡ Word c d → b ≡ d
word_place e = cc

sign_key : {j k : Key} → Sign j ≡ Sign k → j ≡ k
sign_key e = cc

number_is : {m n : ℕ} → Number m ≡ Number n → m ≡ n
number_is e = cc

word_sign : {b : List ℕ} {a : ℕ} {k : Key} → Word b a ≡ Sign k → ⊥
word_sign e = cc

apart_keys : (j k : Key) → (key_code j == key_code k) ≡ false → Sign j ≡ Sign k → ⊥
apart_keys j k f e = eqb-false (key_code j) (key_code k) f (ap key_code (sign_key e))

-- two texts that begin with different keys
other : (j k : Key) (m n : Option LimitKind) (u v : List Marked) → (key_code j == key_code k) ≡ false →
    (Sign j, m) ∷ u ≡ (Sign k, n) ∷ v → ⊥
other j k m n u v f e = apart_keys j k f (ap (λ (x : Marked). x.0) (heads e))

-- the text doesn't begin with the key
abbrev pub Apart : Key → List Marked → Type 0
Apart k v = (m : Option LimitKind) (w : List Marked) → v ≡ (Sign k, m) ∷ w → ⊥

abbrev NotIn : Key → List Key → Type 0
NotIn k [] = Unit {0}
NotIn k (j ∷ ks) = ((key_code j == key_code k) ≡ false) × NotIn k ks

not_in : (k : Key) (ks : List Key) (x : Item) → NotIn k ks → BeginsIn ks x → x ≡ Sign k → ⊥
not_in k [] x n h e = h
not_in k (j ∷ ks) x n (inl q) e = apart_keys j k n.0 (sym q ∙ e)
not_in k (j ∷ ks) x n (inr h) e = not_in k ks x n.1 h e

nil_cons : {x : Marked} {xs : List Marked} → ◌≡◌ {A = List Marked} [] (x ∷ xs) → ⊥
nil_cons e = cc

apart_head : (k : Key) (ks : List Key) (v : List Marked) → NotIn k ks → HeadIn ks v → Apart k v
apart_head k ks [] n h = λ m w e. nil_cons e
apart_head k ks (x ∷ v) n h = λ m w e. not_in k ks x.0 n h (ap (λ (y : Marked). y.0) (heads e))

apart_sign : (j k : Key) (v : List Marked) → (key_code j == key_code k) ≡ false → Apart k (sign j ∷ v)
apart_sign j k v f = λ m w e. other j k None m v w f e

-- names
name_is : (n k : RawName) → n.name ≡ k.name → n.at ≡ k.at → n ≡ k
name_is n k a b = λ i. record { name = a i; at = b i }

one_name : (m : Option LimitKind) (n k : RawName) (u v : List Marked) → name_text m n u ≡ name_text m k v →
    (n ≡ k) × (u ≡ v)
one_name m n k u v e =
    let w : Word n.name n.at ≡ Word k.name k.at = ap (λ (x : Marked). x.0) (heads e) in
    (name_is n k (word_name w) (word_place w), tails e)

both : {A : Type 0} {x y : A} {xs ys : List A} → x ≡ y → xs ≡ ys → x ∷ xs ≡ y ∷ ys
both {A} {x} {y} {xs} {ys} e f = λ i. e i ∷ f i

one_more_names : (n : ℕ) (xs ys : List RawName) (u v : List Marked) →
    more_names_text n xs (sign RightPar ∷ u) ≡ more_names_text n ys (sign RightPar ∷ v) → (xs ≡ ys) × (u ≡ v)
one_more_names n [] [] u v e = (refl, tails e)
one_more_names n [] (y ∷ ys) u v e = absurd (other RightPar Comma None None _ _ refl e)
one_more_names n (x ∷ xs) [] u v e = absurd (other Comma RightPar None None _ _ refl e)
one_more_names n (x ∷ xs) (y ∷ ys) u v e =
    let a = one_name (arity_mark n) x y _ _ (tails e) in
    let b = one_more_names (n + 1) xs ys u v a.1 in
    (both a.0 b.0, b.1)

one_names : (xs ys : List RawName) (u v : List Marked) → Apart LeftPar u → Apart LeftPar v →
    names_text xs u ≡ names_text ys v → (xs ≡ ys) × (u ≡ v)
one_names [] [] u v hu hv e = (refl, e)
one_names [] (y ∷ ys) u v hu hv e = absurd (hu None _ e)
one_names (x ∷ xs) [] u v hu hv e = absurd (hv None _ (sym e))
one_names (x ∷ xs) (y ∷ ys) u v hu hv e =
    let a = one_name (arity_mark 0) x y _ _ (tails e) in
    let b = one_more_names 1 xs ys u v a.1 in
    (both a.0 b.0, b.1)

con_is : (c d : RawNames) → c.name ≡ d.name → c.at ≡ d.at → c.args ≡ d.args → c ≡ d
con_is c d a b e = λ i. record { name = a i; at = b i; args = e i }

one_con : (m : Option LimitKind) (c d : RawNames) (u v : List Marked) → Apart LeftPar u → Apart LeftPar v →
    con_text m c u ≡ con_text m d v → (c ≡ d) × (u ≡ v)
one_con m c d u v hu hv e =
    let w : Word c.name c.at ≡ Word d.name d.at = ap (λ (x : Marked). x.0) (heads e) in
    let a = one_names c.args d.args u v hu hv (tails e) in
    (con_is c d (word_name w) (word_place w) a.0, a.1)

-- terms
more_apart : (d n : ℕ) (ts : RawTrees) (v : List Marked) → Apart LeftPar (more_text d n ts (sign RightPar ∷ v))
more_apart d n none v = apart_sign RightPar LeftPar v refl
more_apart d n (some t ts) v = apart_sign Comma LeftPar _ refl

mutual
  pub one_term : (d : ℕ) (m : Option LimitKind) (s t : RawTree) (u v : List Marked) → Apart LeftPar u →
      Apart LeftPar v → term_text d m s u ≡ term_text d m t v → (s ≡ t) × (u ≡ v)
  one_term d m (word b a ss) (word c p ts) u v hu hv e =
      let w : Word b a ≡ Word c p = ap (λ (x : Marked). x.0) (heads e) in
      let r = one_args d ss ts u v hu hv (tails e) in
      let x : b ≡ c = word_name w in
      let y : a ≡ p = word_place w in
      let z : ss ≡ ts = r.0 in
      (λ i. word (x i) (y i) (z i), r.1)

  pub one_args : (d : ℕ) (ss ts : RawTrees) (u v : List Marked) → Apart LeftPar u → Apart LeftPar v →
      args_text d ss u ≡ args_text d ts v → (ss ≡ ts) × (u ≡ v)
  one_args d none none u v hu hv e = (refl, e)
  one_args d none (some t ts) u v hu hv e = absurd (hu None _ e)
  one_args d (some s ss) none u v hu hv e = absurd (hv None _ (sym e))
  one_args d (some s ss) (some t ts) u v hu hv e =
      let a = one_term (d + 1) (term_mark (d + 1) 0) s t _ _ (more_apart (d + 1) 1 ss u)
      (more_apart (d + 1) 1 ts v) (tails e) in
      let b = one_more (d + 1) 1 ss ts u v a.1 in
      let x : s ≡ t = a.0 in
      let y : ss ≡ ts = b.0 in
      (λ i. some (x i) (y i), b.1)

  pub one_more : (d n : ℕ) (ss ts : RawTrees) (u v : List Marked) →
      more_text d n ss (sign RightPar ∷ u) ≡ more_text d n ts (sign RightPar ∷ v) → (ss ≡ ts) × (u ≡ v)
  one_more d n none none u v e = (refl, tails e)
  one_more d n none (some t ts) u v e = absurd (other RightPar Comma None None _ _ refl e)
  one_more d n (some s ss) none u v e = absurd (other Comma RightPar None None _ _ refl e)
  one_more d n (some s ss) (some t ts) u v e =
      let a = one_term d (term_mark d n) s t _ _ (more_apart d (n + 1) ss u) (more_apart d (n + 1) ts v) (tails e) in
      let b = one_more d (n + 1) ss ts u v a.1 in
      let x : s ≡ t = a.0 in
      let y : ss ≡ ts = b.0 in
      (λ i. some (x i) (y i), b.1)

one_sides : (m : Option LimitKind) (l r p q : RawTree) (u v : List Marked) → Apart LeftPar u → Apart LeftPar v →
    sides_text m l r u ≡ sides_text m p q v → (l ≡ p) × (r ≡ q) × (u ≡ v)
one_sides m l r p q u v hu hv e =
    let a = one_term 0 m l p _ _ (apart_sign Equals LeftPar _ refl) (apart_sign Equals LeftPar _ refl) e in
    let b = one_term 0 None r q u v hu hv (tails a.1) in
    (a.0, b.0, b.1)

-- constructors and sorts
no_names : (version i j : ℕ) (es : List RawNames) (w : List Marked) → HeadIn (Sort ∷ after_sorts) w →
    Apart LeftPar (constructors_text version i j es w)
no_names version i j es w h = apart_head LeftPar (Bar ∷ Sort ∷ after_sorts) _ (
  refl,
  (refl, (refl, (refl, (refl, (refl, (refl, (refl, tt))))))),
) (head_constructors version i j es w h)

one_constructors : (version k t : ℕ) (cs ds : List RawNames) (u v : List Marked) →
    HeadIn (Sort ∷ after_sorts) u → HeadIn (Sort ∷ after_sorts) v →
    constructors_text version k t cs u ≡ constructors_text version k t ds v → (cs ≡ ds) × (u ≡ v)
one_constructors version k t [] [] u v hu hv e = (refl, e)
one_constructors version k t [] (d ∷ ds) u v hu hv e = absurd (apart_head Bar (Sort ∷ after_sorts) u (
  refl,
  (refl, (refl, (refl, (refl, (refl, (refl, tt)))))),
) hu None _ e)
one_constructors version k t (c ∷ cs) [] u v hu hv e = absurd (apart_head Bar (Sort ∷ after_sorts) v (
  refl,
  (refl, (refl, (refl, (refl, (refl, (refl, tt)))))),
) hv None _ (sym e))
one_constructors version k t (c ∷ cs) (d ∷ ds) u v hu hv e =
    let a = one_con (constructor_mark version k t) c d _ _ (no_names version (k + 1) (t + 1) cs u hu)
    (no_names version (k + 1) (t + 1) ds v hv) (tails e) in
    let b = one_constructors version (k + 1) (t + 1) cs ds u v hu hv a.1 in
    (both a.0 b.0, b.1)

sort_is : (s r : RawSort) → s.head ≡ r.head → s.constructors ≡ r.constructors → s ≡ r
sort_is s r a b = λ i. record { head = a i; constructors = b i }

no_sort : (v : List Marked) → HeadIn after_sorts v → Apart Sort v
no_sort v h = apart_head Sort after_sorts v (refl, (refl, (refl, (refl, (refl, (refl, tt)))))) h

one_sorts : (version n t : ℕ) (ss rs : List RawSort) (w u v : List Marked) → HeadIn after_sorts u →
    HeadIn after_sorts v → AreSorts version n t ss w u → AreSorts version n t rs w v → (ss ≡ rs) × (u ≡ v)
one_sorts version n t [] [] w u v hu hv a b = (refl, sym a ∙ b)
one_sorts version n t [] (r ∷ rs) w u v hu hv a b = absurd (no_sort u hu _ _ (sym a ∙ b.4))
one_sorts version n t (s ∷ ss) [] w u v hu hv a b = absurd (no_sort v hv _ _ (sym b ∙ a.4))
one_sorts version n t (s ∷ ss) (r ∷ rs) w u v hu hv a b =
    let e = tails (sym a.4 ∙ b.4) in
    let named = one_name None s.head r.head _ _ e in
    let ha = head_sorts version (n + 1) (t + 1 + length a.1) ss a.2 u hu a.5 in
    let hb = head_sorts version (n + 1) (t + 1 + length b.1) rs b.2 v hv b.5 in
    let con = one_con (constructor_mark version 0 t) a.0 b.0 _ _ (no_names version 1 (t + 1) a.1 a.2 ha)
    (no_names version 1 (t + 1) b.1 b.2 hb) (tails named.1) in
    let cons = one_constructors version 1 (t + 1) a.1 b.1 a.2 b.2 ha hb con.1 in
    let same : s.constructors ≡ r.constructors = a.3 ∙ both con.0 cons.0 ∙ sym b.3 in
    let moved : AreSorts version (n + 1) (t + 1 + length a.1) rs a.2 v = subst
    (λ (x : List Marked). AreSorts version (n + 1) (t + 1 + length a.1) rs x v) (sym cons.1)
    (subst (λ (cs : List RawNames). AreSorts version (n + 1) (t + 1 + length cs) rs b.2 v) (sym cons.0) b.5) in
    let others = one_sorts version (n + 1) (t + 1 + length a.1) ss rs a.2 u v hu hv a.5 moved in
    (both (sort_is s r named.0 same) others.0, others.1)

fun_is : (f g : RawFun) → f.head ≡ g.head → f.result ≡ g.result → f ≡ g
fun_is f g a b = λ i. record { head = a i; result = b i }

no_fun : (v : List Marked) → HeadIn after_funs v → Apart Fun v
no_fun v h = apart_head Fun after_funs v (refl, (refl, (refl, (refl, (refl, tt))))) h

one_funs : (version n : ℕ) (fs gs : List RawFun) (u v : List Marked) → HeadIn after_funs u →
    HeadIn after_funs v → funs_text version n fs u ≡ funs_text version n gs v → (fs ≡ gs) × (u ≡ v)
one_funs version n [] [] u v hu hv e = (refl, e)
one_funs version n [] (g ∷ gs) u v hu hv e = absurd (no_fun u hu _ _ e)
one_funs version n (f ∷ fs) [] u v hu hv e = absurd (no_fun v hv _ _ (sym e))
one_funs version n (f ∷ fs) (g ∷ gs) u v hu hv e =
    let con = one_con None f.head g.head _ _ (apart_sign Colon LeftPar _ refl) (apart_sign Colon LeftPar _ refl)
    (tails e) in
    let result = one_name None f.result g.result _ _ (tails con.1) in
    let others = one_funs version (n + 1) fs gs u v hu hv result.1 in
    (both (fun_is f g con.0 result.0) others.0, others.1)

-- the lines that order functions
equal_is : (p q : RawEqual) → p.names ≡ q.names → p ≡ q
equal_is p q a = λ i. record { names = a i }

no_comma : (v : List Marked) → HeadIn after_funs v → Apart Comma v
no_comma v h = apart_head Comma after_funs v (refl, (refl, (refl, (refl, (refl, tt))))) h

one_more_equal : (xs ys : List RawName) (u v : List Marked) → HeadIn after_funs u → HeadIn after_funs v
    → more_equal_text xs u ≡ more_equal_text ys v → (xs ≡ ys) × (u ≡ v)
one_more_equal [] [] u v hu hv e = (refl, e)
one_more_equal [] (y ∷ ys) u v hu hv e = absurd (no_comma u hu _ _ e)
one_more_equal (x ∷ xs) [] u v hu hv e = absurd (no_comma v hv _ _ (sym e))
one_more_equal (x ∷ xs) (y ∷ ys) u v hu hv e =
    let a = one_name None x y _ _ (tails e) in
    let b = one_more_equal xs ys u v hu hv a.1 in
    (both a.0 b.0, b.1)

no_equal : (v : List Marked) → HeadIn after_equals v → Apart Equal v
no_equal v h = apart_head Equal after_equals v (refl, (refl, (refl, (refl, tt)))) h

one_equals : (ps qs : List RawEqual) (w u v : List Marked)
    → HeadIn after_equals u → HeadIn after_equals v
    → AreEquals ps w u → AreEquals qs w v → (ps ≡ qs) × (u ≡ v)
one_equals [] [] w u v hu hv a b = (refl, sym a ∙ b)
one_equals [] (q ∷ qs) w u v hu hv a (first, second, others, after, listed, is, rest) =
    absurd (no_equal u hu _ _ (sym a ∙ is))
one_equals (p ∷ ps) [] w u v hu hv (first, second, others, after, listed, is, rest) b =
    absurd (no_equal v hv _ _ (sym b ∙ is))
one_equals (p ∷ ps) (q ∷ qs) w u v hu hv (x, y, xs, a, a_listed, a_is, a_rest) (z, t, zs, b, b_listed, b_is, b_rest) =
    let first = one_name None x z _ _ (tails (sym a_is ∙ b_is)) in
    let head_a = head_equals ps a u hu a_rest in
    let head_b = head_equals qs b v hv b_rest in
    let others = one_more_equal (y ∷ xs) (t ∷ zs) a b head_a head_b first.1 in
    let same = equal_is p q (a_listed ∙ both first.0 others.0 ∙ sym b_listed) in
    let rest = one_equals ps qs a u v hu hv a_rest (subst (λ x. AreEquals qs x v) (sym others.1) b_rest) in
    (both same rest.0, rest.1)

status_is : (p q : RawStatus) → p.head ≡ q.head → p.numbers ≡ q.numbers → p ≡ q
status_is p q a b = λ i. record { head = a i; numbers = b i }

one_numeral : (m : Option LimitKind) (i j : ℕ) (u v : List Marked)
    → numeral_text m i u ≡ numeral_text m j v → (i ≡ j) × (u ≡ v)
one_numeral m i j u v e = (number_is (ap (λ (x : Marked). x.0) (heads e)), tails e)

one_more_numbers : (n : ℕ) (is js : List ℕ) (u v : List Marked)
    → more_numbers_text n is (sign RightPar ∷ u) ≡ more_numbers_text n js (sign RightPar ∷ v)
    → (is ≡ js) × (u ≡ v)
one_more_numbers n [] [] u v e = (refl, tails e)
one_more_numbers n [] (j ∷ js) u v e = absurd (other RightPar Comma None None _ _ refl e)
one_more_numbers n (i ∷ is) [] u v e = absurd (other Comma RightPar None None _ _ refl e)
one_more_numbers n (i ∷ is) (j ∷ js) u v e =
    let a = one_numeral (arity_mark n) i j _ _ (tails e) in
    let b = one_more_numbers (n + 1) is js u v a.1 in
    let first : i ≡ j = a.0 in
    let others : is ≡ js = b.0 in
    (both first others, b.1)

-- a key that begins neither a rule nor a goal
no_key : (k : Key) (v : List Marked) → NotIn k (Rule ∷ Goal ∷ []) → HeadIn (Rule ∷ Goal ∷ []) v → Apart k v
no_key k v n h = apart_head k (Rule ∷ Goal ∷ []) v n h

no_status : (v : List Marked) → HeadIn after_statuses v → Apart Status v
no_status v h = apart_head Status after_statuses v (refl, (refl, (refl, tt))) h

one_statuses : (ps qs : List RawStatus) (w u v : List Marked)
    → HeadIn after_statuses u → HeadIn after_statuses v
    → AreStatuses ps w u → AreStatuses qs w v → (ps ≡ qs) × (u ≡ v)
one_statuses [] [] w u v hu hv a b = (refl, sym a ∙ b)
one_statuses [] (q ∷ qs) w u v hu hv a (first, others, after, listed, is, rest) =
    absurd (no_status u hu _ _ (sym a ∙ is))
one_statuses (p ∷ ps) [] w u v hu hv (first, others, after, listed, is, rest) b =
    absurd (no_status v hv _ _ (sym b ∙ is))
one_statuses (p ∷ ps) (q ∷ qs) w u v hu hv (i, is, a, a_listed, a_is, a_rest) (j, js, b, b_listed, b_is, b_rest) =
    let head = one_name None p.head q.head _ _ (tails (sym a_is ∙ b_is)) in
    let first = one_numeral (arity_mark 0) i j _ _ (tails head.1) in
    let others = one_more_numbers 1 is js a b first.1 in
    let same = status_is p q head.0 (a_listed ∙ both first.0 others.0 ∙ sym b_listed) in
    let rest = one_statuses ps qs a u v hu hv a_rest (subst (λ x. AreStatuses qs x v) (sym others.1) b_rest) in
    (both same rest.0, rest.1)

-- the line of the order
weight_is : (p q : RawWeight) → p.name ≡ q.name → p.weight ≡ q.weight → p ≡ q
weight_is p q a b = λ i. record { name = a i; weight = b i }

one_weight : (p q : RawWeight) (u v : List Marked) → weight_text p u ≡ weight_text q v → (p ≡ q) × (u ≡ v)
one_weight p q u v e =
    let named = one_name None p.name q.name _ _ e in
    let weighed = one_numeral None p.weight q.weight u v (tails named.1) in
    (weight_is p q named.0 weighed.0, weighed.1)

one_more_weights : (ps qs : List RawWeight) (u v : List Marked)
    → HeadIn (Rule ∷ Goal ∷ []) u → HeadIn (Rule ∷ Goal ∷ []) v
    → more_weights_text ps u ≡ more_weights_text qs v → (ps ≡ qs) × (u ≡ v)
one_more_weights [] [] u v hu hv e = (refl, e)
one_more_weights [] (q ∷ qs) u v hu hv e = absurd (no_key Comma u (refl, (refl, tt)) hu _ _ e)
one_more_weights (p ∷ ps) [] u v hu hv e = absurd (no_key Comma v (refl, (refl, tt)) hv _ _ (sym e))
one_more_weights (p ∷ ps) (q ∷ qs) u v hu hv e =
    let first = one_weight p q _ _ (tails e) in
    let others = one_more_weights ps qs u v hu hv first.1 in
    (both first.0 others.0, others.1)

one_weights : (ps qs : List RawWeight) (u v : List Marked)
    → HeadIn (Rule ∷ Goal ∷ []) u → HeadIn (Rule ∷ Goal ∷ []) v
    → weights_text ps u ≡ weights_text qs v → (ps ≡ qs) × (u ≡ v)
one_weights [] [] u v hu hv e = (refl, e)
one_weights [] (q ∷ qs) u v hu hv e = absurd (no_key Colon u (refl, (refl, tt)) hu _ _ e)
one_weights (p ∷ ps) [] u v hu hv e = absurd (no_key Colon v (refl, (refl, tt)) hv _ _ (sym e))
one_weights (p ∷ ps) (q ∷ qs) u v hu hv e =
    let first = one_weight p q _ _ (tails e) in
    let others = one_more_weights ps qs u v hu hv first.1 in
    (both first.0 others.0, others.1)

order_is : (p q : RawOrder) → p.name ≡ q.name → p.weights ≡ q.weights → p ≡ q
order_is p q a b = λ i. record { name = a i; weights = b i }

one_order_line : (p q : Option RawOrder) (u v : List Marked)
    → HeadIn (Rule ∷ Goal ∷ []) u → HeadIn (Rule ∷ Goal ∷ []) v
    → order_text p u ≡ order_text q v → (p ≡ q) × (u ≡ v)
one_order_line None None u v hu hv e = (refl, e)
one_order_line None (Some q) u v hu hv e = absurd (no_key Order u (refl, (refl, tt)) hu _ _ e)
one_order_line (Some p) None u v hu hv e = absurd (no_key Order v (refl, (refl, tt)) hv _ _ (sym e))
one_order_line (Some p) (Some q) u v hu hv e =
    let named = one_name None p.name q.name _ _ (tails e) in
    let weighed = one_weights p.weights q.weights u v hu hv named.1 in
    (ap (λ (o : RawOrder). Some o) (order_is p q named.0 weighed.0), weighed.1)

one_order : (r q : RawSpec) (w u v : List Marked) → HeadIn (Rule ∷ Goal ∷ []) u → HeadIn (Rule ∷ Goal ∷ []) v
    → IsOrderText r w u → IsOrderText q w v
    → (r.equals ≡ q.equals) × (r.statuses ≡ q.statuses) × (r.order ≡ q.order) × (u ≡ v)
one_order r q w u v hu hv (a, m, a_equals, a_statuses, a_line) (b, n, b_equals, b_statuses, b_line) =
    let line_a = subst (HeadIn after_statuses) (sym a_line) (head_order_line r.order u hu) in
    let line_b = subst (HeadIn after_statuses) (sym b_line) (head_order_line q.order v hv) in
    let head_a = head_statuses r.statuses a m line_a a_statuses in
    let head_b = head_statuses q.statuses b n line_b b_statuses in
    let e = one_equals r.equals q.equals w a b head_a head_b a_equals b_equals in
    let moved = subst (λ x. AreStatuses q.statuses x n) (sym e.1) b_statuses in
    let s = one_statuses r.statuses q.statuses a m n line_a line_b a_statuses moved in
    let o = one_order_line r.order q.order u v hu hv (sym a_line ∙ s.1 ∙ b_line) in
    (e.0, s.0, o.0, o.1)

-- rules
guard_is : (g h : RawGuard) → g.test ≡ h.test → g.wanted ≡ h.wanted → g ≡ h
guard_is g h a b = λ i. record { test = a i; wanted = b i }

one_wanted : (b c : Bool) (m n : Option LimitKind) →
    ◌≡◌ {A = Marked} (Sign (guard_key b), m) (Sign (guard_key c), n) → b ≡ c
one_wanted true true m n e = refl
one_wanted true false m n e = absurd (apart_keys If Unless refl (ap (λ (x : Marked). x.0) e))
one_wanted false true m n e = absurd (apart_keys Unless If refl (ap (λ (x : Marked). x.0) e))
one_wanted false false m n e = refl

no_guard : (b : Bool) (v : List Marked) → HeadIn (Rule ∷ Goal ∷ []) v → Apart (guard_key b) v
no_guard true v h = apart_head If (Rule ∷ Goal ∷ []) v (refl, (refl, tt)) h
no_guard false v h = apart_head Unless (Rule ∷ Goal ∷ []) v (refl, (refl, tt)) h

guards_apart : (n : ℕ) (gs : List RawGuard) (v : List Marked) → HeadIn (Rule ∷ Goal ∷ []) v →
    Apart LeftPar (guards_text n gs v)
guards_apart n gs v h = apart_head LeftPar (If ∷ Unless ∷ Rule ∷ Goal ∷ []) _ (refl, (refl, (refl, (refl, tt))))
    (head_guards n gs v h)

one_guards : (n : ℕ) (gs hs : List RawGuard) (u v : List Marked) → HeadIn (Rule ∷ Goal ∷ []) u →
    HeadIn (Rule ∷ Goal ∷ []) v → guards_text n gs u ≡ guards_text n hs v → (gs ≡ hs) × (u ≡ v)
one_guards n [] [] u v hu hv e = (refl, e)
one_guards n [] (h ∷ hs) u v hu hv e = absurd (no_guard h.wanted u hu _ _ e)
one_guards n (g ∷ gs) [] u v hu hv e = absurd (no_guard g.wanted v hv _ _ (sym e))
one_guards n (g ∷ gs) (h ∷ hs) u v hu hv e =
    let a = one_term 0 None g.test h.test _ _ (guards_apart (n + 1) gs u hu) (guards_apart (n + 1) hs v hv) (tails e) in
    let b = one_guards (n + 1) gs hs u v hu hv a.1 in
    (both (guard_is g h a.0 (one_wanted g.wanted h.wanted (guard_mark n) (guard_mark n) (heads e))) b.0, b.1)

rule_is : (r q : RawRule) → r.left ≡ q.left → r.right ≡ q.right → r.guards ≡ q.guards → r ≡ q
rule_is r q a b c = λ i. record { left = a i; right = b i; guards = c i }

no_rule : (v : List Marked) → HeadIn (Goal ∷ []) v → Apart Rule v
no_rule v h = apart_head Rule (Goal ∷ []) v (refl, tt) h

one_rules : (version n : ℕ) (rs qs : List RawRule) (u v : List Marked) → HeadIn (Goal ∷ []) u →
    HeadIn (Goal ∷ []) v → rules_text version n rs u ≡ rules_text version n qs v → (rs ≡ qs) × (u ≡ v)
one_rules version n [] [] u v hu hv e = (refl, e)
one_rules version n [] (q ∷ qs) u v hu hv e = absurd (no_rule u hu _ _ e)
one_rules version n (r ∷ rs) [] u v hu hv e = absurd (no_rule v hv _ _ (sym e))
one_rules version n (r ∷ rs) (q ∷ qs) u v hu hv e =
    let ha = head_rules version (n + 1) rs u hu in
    let hb = head_rules version (n + 1) qs v hv in
    let s = one_sides None r.left r.right q.left q.right _ _ (guards_apart 0 r.guards _ ha)
    (guards_apart 0 q.guards _ hb) (tails e) in
    let g = one_guards 0 r.guards q.guards _ _ ha hb s.2 in
    let others = one_rules version (n + 1) rs qs u v hu hv g.1 in
    (both (rule_is r q s.0 s.1 g.0) others.0, others.1)

-- clauses
eq_is : (p q : RawEq) → p.left ≡ q.left → p.right ≡ q.right → p ≡ q
eq_is p q a b = λ i. record { left = a i; right = b i }

one_eq : (m : Option LimitKind) (p q : RawEq) (u v : List Marked) → Apart LeftPar u → Apart LeftPar v →
    sides_text m p.left p.right u ≡ sides_text m q.left q.right v → (p ≡ q) × (u ≡ v)
one_eq m p q u v hu hv e = let s = one_sides m p.left p.right q.left q.right u v hu hv e in (eq_is p q s.0 s.1, s.2)

-- an equation begins with a name
sides_word : (k : Key) (m n : Option LimitKind) (l r : RawTree) (u v : List Marked) →
    sides_text m l r u ≡ (Sign k, n) ∷ v → ⊥
sides_word k m n (word b a ts) r u v e = word_sign (ap (λ (x : Marked). x.0) (heads e))

goal_apart : (k : Key) (v : List Marked) → (key_code Goal == key_code k) ≡ false → HeadIn (Goal ∷ []) v → Apart k v
goal_apart k v f h = apart_head k (Goal ∷ []) v (f, tt) h

bars_apart : (n : ℕ) (es : List RawEq) (v : List Marked) → HeadIn (Goal ∷ []) v → Apart LeftPar (bars_text n es v)
bars_apart n es v h = apart_head LeftPar (Bar ∷ Goal ∷ []) _ (refl, (refl, tt)) (head_bars n es v h)

one_bars : (n : ℕ) (es qs : List RawEq) (u v : List Marked) → HeadIn (Goal ∷ []) u → HeadIn (Goal ∷ []) v →
    bars_text n es u ≡ bars_text n qs v → (es ≡ qs) × (u ≡ v)
one_bars n [] [] u v hu hv e = (refl, e)
one_bars n [] (q ∷ qs) u v hu hv e = absurd (goal_apart Bar u refl hu _ _ e)
one_bars n (p ∷ es) [] u v hu hv e = absurd (goal_apart Bar v refl hv _ _ (sym e))
one_bars n (p ∷ es) (q ∷ qs) u v hu hv e =
    let a = one_eq (conclusion_mark n) p q _ _ (bars_apart (n + 1) es u hu) (bars_apart (n + 1) qs v hv) (tails e) in
    let b = one_bars (n + 1) es qs u v hu hv a.1 in
    (both a.0 b.0, b.1)

goal_word : (q : RawEq) (m : Option LimitKind) (x v : List Marked) → HeadIn (Goal ∷ []) v →
    v ≡ sides_text m q.left q.right x → ⊥
goal_word q m x [] h e = no_sides q.left e
  where
    no_sides : (l : RawTree) → [] ≡ sides_text m l q.right x → ⊥
    no_sides (word b a ts) f = nil_cons f
goal_word q m x (y ∷ v) (inl g) e = sides_word Goal m y.1 q.left q.right x v (sym e ∙ ap (λ (z : Item). (z, y.1) ∷ v) g)
goal_word q m x (y ∷ v) (inr h) e = h

one_conclusions : (cs ds : List RawEq) (u v : List Marked) → HeadIn (Goal ∷ []) u → HeadIn (Goal ∷ []) v →
    conclusions_text cs u ≡ conclusions_text ds v → (cs ≡ ds) × (u ≡ v)
one_conclusions [] [] u v hu hv e = (refl, e)
one_conclusions [] (q ∷ qs) u v hu hv e = absurd (goal_word q _ _ u hu e)
one_conclusions (p ∷ ps) [] u v hu hv e = absurd (goal_word p _ _ v hv (sym e))
one_conclusions (p ∷ ps) (q ∷ qs) u v hu hv e =
    let a = one_eq (conclusion_mark 0) p q _ _ (bars_apart 1 ps u hu) (bars_apart 1 qs v hv) e in
    let b = one_bars 1 ps qs u v hu hv a.1 in
    (both a.0 b.0, b.1)

commas_apart : (n : ℕ) (es : List RawEq) (u : List Marked) → Apart LeftPar (commas_text n es (sign Arrow ∷ u))
commas_apart n [] u = apart_sign Arrow LeftPar u refl
commas_apart n (e ∷ es) u = apart_sign Comma LeftPar _ refl

one_commas : (n : ℕ) (es qs : List RawEq) (u v : List Marked) →
    commas_text n es (sign Arrow ∷ u) ≡ commas_text n qs (sign Arrow ∷ v) → (es ≡ qs) × (u ≡ v)
one_commas n [] [] u v e = (refl, tails e)
one_commas n [] (q ∷ qs) u v e = absurd (other Arrow Comma None None _ _ refl e)
one_commas n (p ∷ es) [] u v e = absurd (other Comma Arrow None None _ _ refl e)
one_commas n (p ∷ es) (q ∷ qs) u v e =
    let a = one_eq (premise_mark n) p q _ _ (commas_apart (n + 1) es u) (commas_apart (n + 1) qs v) (tails e) in
    let b = one_commas (n + 1) es qs u v a.1 in
    (both a.0 b.0, b.1)

one_premises : (ps qs : List RawEq) (u v : List Marked) →
    premises_text ps (sign Arrow ∷ u) ≡ premises_text qs (sign Arrow ∷ v) → (ps ≡ qs) × (u ≡ v)
one_premises [] [] u v e = (refl, tails e)
one_premises [] (q ∷ qs) u v e = absurd (sides_word Arrow _ _ q.left q.right _ _ (sym e))
one_premises (p ∷ ps) [] u v e = absurd (sides_word Arrow _ _ p.left p.right _ _ e)
one_premises (p ∷ ps) (q ∷ qs) u v e =
    let a = one_eq (premise_mark 0) p q _ _ (commas_apart 1 ps u) (commas_apart 1 qs v) e in
    let b = one_commas 1 ps qs u v a.1 in
    (both a.0 b.0, b.1)

-- premises have their arrow, conclusions alone have none
commas_bars : (n k : ℕ) (es qs : List RawEq) (u v : List Marked) → HeadIn (Goal ∷ []) v →
    commas_text n es (sign Arrow ∷ u) ≡ bars_text k qs v → ⊥
commas_bars n k [] [] u v h e = goal_apart Arrow v refl h _ _ (sym e)
commas_bars n k [] (q ∷ qs) u v h e = other Arrow Bar None None _ _ refl e
commas_bars n k (p ∷ es) [] u v h e = goal_apart Comma v refl h _ _ (sym e)
commas_bars n k (p ∷ es) (q ∷ qs) u v h e = other Comma Bar None None _ _ refl e

arrow_or_not : (ps cs : List RawEq) (u v : List Marked) → cs ≢ [] → HeadIn (Goal ∷ []) v →
    premises_text ps (sign Arrow ∷ u) ≡ conclusions_text cs v → ⊥
arrow_or_not ps [] u v n h e = n refl
arrow_or_not [] (c ∷ cs) u v n h e = sides_word Arrow _ _ c.left c.right _ _ (sym e)
arrow_or_not (p ∷ ps) (c ∷ cs) u v n h e =
    let a = one_eq (premise_mark 0) p c _ _ (commas_apart 1 ps u) (bars_apart 1 cs v h) e in
    commas_bars 1 1 ps cs u v h a.1

one_clause : (ps cs qs ds : List RawEq) (w u v : List Marked) → HeadIn (Goal ∷ []) u → HeadIn (Goal ∷ []) v →
    IsClause ps cs w u → IsClause qs ds w v → (ps ≡ qs) × (cs ≡ ds) × (u ≡ v)
one_clause ps cs qs ds w u v hu hv (inl a) (inl b) =
    let p = one_premises ps qs _ _ (sym a ∙ b) in
    let c = one_conclusions cs ds u v hu hv p.1 in
    (p.0, c.0, c.1)
one_clause ps cs qs ds w u v hu hv (inl a) (inr b) = absurd (arrow_or_not ps ds _ v b.1 hv (sym a ∙ b.2))
one_clause ps cs qs ds w u v hu hv (inr a) (inl b) = absurd (arrow_or_not qs cs _ u a.1 hu (sym b ∙ a.2))
one_clause ps cs qs ds w u v hu hv (inr a) (inr b) =
    let c = one_conclusions cs ds u v hu hv (sym a.2 ∙ b.2) in
    (a.0 ∙ sym b.0, c.0, c.1)

-- goals
bind_is : (b c : RawBind) → b.name ≡ c.name → b.sort ≡ c.sort → b ≡ c
bind_is b c x y = λ i. record { name = x i; sort = y i }

one_bind : (m : Option LimitKind) (b c : RawBind) (u v : List Marked) → bind_text m b u ≡ bind_text m c v →
    (b ≡ c) × (u ≡ v)
one_bind m b c u v e =
    let n = one_name m b.name c.name _ _ e in
    let s = one_name None b.sort c.sort _ _ (tails n.1) in
    (bind_is b c n.0 s.0, s.1)

one_more_binds : (n : ℕ) (bs cs : List RawBind) (u v : List Marked) →
    more_binds_text n bs (sign RightPar ∷ u) ≡ more_binds_text n cs (sign RightPar ∷ v) → (bs ≡ cs) × (u ≡ v)
one_more_binds n [] [] u v e = (refl, tails e)
one_more_binds n [] (c ∷ cs) u v e = absurd (other RightPar Comma None None _ _ refl e)
one_more_binds n (b ∷ bs) [] u v e = absurd (other Comma RightPar None None _ _ refl e)
one_more_binds n (b ∷ bs) (c ∷ cs) u v e =
    let x = one_bind (variable_mark n) b c _ _ (tails e) in
    let y = one_more_binds (n + 1) bs cs u v x.1 in
    (both x.0 y.0, y.1)

one_binds : (bs cs : List RawBind) (u v : List Marked) →
    binds_text bs (sign Colon ∷ u) ≡ binds_text cs (sign Colon ∷ v) → (bs ≡ cs) × (u ≡ v)
one_binds [] [] u v e = (refl, tails e)
one_binds [] (c ∷ cs) u v e = absurd (other Colon LeftPar None None _ _ refl e)
one_binds (b ∷ bs) [] u v e = absurd (other LeftPar Colon None None _ _ refl e)
one_binds (b ∷ bs) (c ∷ cs) u v e =
    let x = one_bind (variable_mark 0) b c _ _ (tails e) in
    let y = one_more_binds 1 bs cs _ _ x.1 in
    (both x.0 y.0, tails y.1)

goal_is : (g h : RawGoal) → g.head ≡ h.head → g.binds ≡ h.binds → g.premises ≡ h.premises →
    g.conclusions ≡ h.conclusions → g ≡ h
goal_is g h a b c d = λ i. record { head = a i; binds = b i; premises = c i; conclusions = d i }

one_goals : (n : ℕ) (gs hs : List RawGoal) (w : List Marked) → AreGoals n gs w [] → AreGoals n hs w [] → gs ≡ hs
one_goals n [] [] w a b = refl
one_goals n [] (h ∷ hs) w a b = absurd (nil_cons (sym a ∙ b.2))
one_goals n (g ∷ gs) [] w a b = absurd (nil_cons (sym b ∙ a.2))
one_goals n (g ∷ gs) (h ∷ hs) w a b =
    let named = one_name None g.head h.head _ _ (tails (sym a.2 ∙ b.2)) in
    let bound = one_binds g.binds h.binds a.0 b.0 named.1 in
    let body = one_clause g.premises g.conclusions h.premises h.conclusions a.0 a.1 b.1
    (head_goals (n + 1) gs a.1 a.4) (head_goals (n + 1) hs b.1 b.4) a.3
    (subst (λ (x : List Marked). IsClause h.premises h.conclusions x b.1) (sym bound.1) b.3) in
    let others = one_goals (n + 1) gs hs a.1 a.4 (subst (λ (x : List Marked). AreGoals (n + 1) hs x [])
    (sym body.2) b.4) in
    both (goal_is g h named.0 bound.0 body.0 body.1) others

spec_is : (r q : RawSpec) → r.version ≡ q.version → r.sorts ≡ q.sorts → r.funs ≡ q.funs → r.equals ≡ q.equals →
    r.statuses ≡ q.statuses → r.order ≡ q.order → r.rules ≡ q.rules → r.goals ≡ q.goals → r ≡ q
spec_is r q n a b e t o c d = λ i. record {
  version = n i;
  sorts = a i;
  funs = b i;
  equals = e i;
  statuses = t
      i;
  order = o i;
  rules = c i;
  goals = d i;
}

-- the texts of the declarations of a format: its sorts and functions, and its lines that order these
abbrev HasDeclarations : ℕ → RawSpec → List Marked → List Marked → List Marked → Type 0
HasDeclarations version raw sorts order goals =
    AreSorts version 0 0 raw.sorts sorts (funs_text version 0 raw.funs order)
    × IsOrderText raw order (rules_text version 0 raw.rules goals)

-- a text is that of one raw specification, and of one term, at most
pub one_spec : (r q : RawSpec) (w : List Marked) → IsSpecText r w → IsSpecText q w → r ≡ q
one_spec r q w (x, a, c, r_is, r_sorts, r_order, r_goals, r_known) (y, b, d, q_is, q_sorts, q_order, q_goals, q_known) =
    let version = r.version in
    let behind = tails (sym r_is ∙ q_is) in
    let n = number_is (ap (λ (x : Marked). x.0) (heads behind)) in
    let e : x ≡ y = tails behind in
    let declared = subst (λ k. HasDeclarations k q y b d) (sym n) (q_sorts, q_order) in
    let here = subst (λ text. HasDeclarations version q text b d) (sym e) declared in
    let rules_head = head_rules version 0 r.rules c (head_goals 0 r.goals c r_goals) in
    let other_rules_head = head_rules version 0 q.rules d (head_goals 0 q.goals d q_goals) in
    let order_head = head_order r a _ rules_head r_order in
    let other_order_head = head_order q b _ other_rules_head here.1 in
    let funs_head = head_funs version 0 r.funs a order_head in
    let other_funs_head = head_funs version 0 q.funs b other_order_head in
    let s = one_sorts version 0 0 r.sorts q.sorts x _ _ funs_head other_funs_head r_sorts here.0 in
    let f = one_funs version 0 r.funs q.funs a b order_head other_order_head s.1 in
    let moved = subst (λ text. IsOrderText q text (rules_text version 0 q.rules d)) (sym f.1) here.1 in
    let o = one_order r q a _ _ rules_head other_rules_head r_order moved in
    let u = one_rules version 0 r.rules q.rules c d (head_goals 0 r.goals c r_goals)
    (head_goals 0 q.goals d q_goals) o.3 in
    let g = one_goals 0 r.goals q.goals c r_goals (subst (λ text. AreGoals 0 q.goals text []) (sym u.1) q_goals) in
    spec_is r q n s.0 f.0 o.0 o.1 o.2 u.0 g

pub one_term_text : (s t : RawTree) (w : List Marked) → IsTermText s w → IsTermText t w → s ≡ t
one_term_text s t w a b = (one_term 0 None s t [] [] (λ m v e. nil_cons e) (λ m v e. nil_cons e) (sym a ∙ b)).0
