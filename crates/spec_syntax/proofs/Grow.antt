-- Texts of lists with one more item at the end.
use Rattle.std.proofs.Common.{◌≡◌, ℕ, ◌+◌, ◌<◌, List, [], ◌∷◌, ◌++◌, None, length, refl, ap, sym, subst, ◌∙◌, add-zero}
use Rattle.std.proofs.Common.{zero-add, arith}
use Rattle.spec_grammar.specs.declared.keys.Key.TheVariants.{LeftPar, RightPar, Comma, Colon, Fun, Rule, Goal, Bar}
use Rattle.spec_grammar.specs.declared.raw.RawName.{RawName}
use Rattle.spec_grammar.specs.declared.raw.RawFun.{RawFun}
use Rattle.spec_grammar.specs.declared.raw.RawGuard.{RawGuard}
use Rattle.spec_grammar.specs.declared.raw.RawRule.{RawRule}
use Rattle.spec_grammar.specs.declared.raw.RawEq.{RawEq}
use Rattle.spec_grammar.specs.declared.raw.RawBind.{RawBind}
use Rattle.spec_grammar.specs.Items.{Sign}
use Rattle.spec_grammar.specs.RawTree.{RawTree, raw_trees}
use Rattle.spec_grammar.specs.Grammar.{Marked, sign, name_text, term_text, args_text, more_text, sides_text}
use Rattle.spec_grammar.specs.Grammar.{names_text, more_names_text, con_text, funs_text, guard_key, guards_text}
use Rattle.spec_grammar.specs.Grammar.{rules_text, commas_text, bars_text, bind_text, binds_text, more_binds_text}
use Rattle.spec_grammar.specs.Grammar.{AreGoals}
use Rattle.spec_grammar.specs.Limits.{term_mark, arity_mark, fun_mark, guard_mark, rule_mark, premise_mark}
use Rattle.spec_grammar.specs.Limits.{conclusion_mark, variable_mark, goal_mark}
use Rattle.spec_grammar.specs.declared.raw.RawGoal.{RawGoal}
use Rattle.spec_syntax.specs.Reading.{IsOneGoal}

-- the number of the next item, counted from the first or from the second
pub next_is : {A : Type 0} (n : ℕ) (x : A) (xs : List A) → n + 1 + length xs ≡ n + length (x ∷ xs)
next_is n x xs = omega arith

-- arguments whose parenthesis isn't closed yet, before what comes after them
abbrev pub opened_text : ℕ → List RawTree → List Marked → List Marked
opened_text d [] v = v
opened_text d (t ∷ ts) v = sign LeftPar ∷ term_text (d + 1) (term_mark (d + 1) 0) t
    (more_text (d + 1) 1 (raw_trees ts) v)

more_grows : (d n : ℕ) (ts : List RawTree) (t : RawTree) (v : List Marked) →
    more_text d n (raw_trees (ts ++ t ∷ [])) v ≡ more_text d n (raw_trees ts)
    (sign Comma ∷ term_text d (term_mark d (n + length ts)) t v)
more_grows d n [] t v = ap (λ (k : ℕ). sign Comma ∷ term_text d (term_mark d k) t v) (sym (add-zero n))
more_grows d n (u ∷ ts) t v = ap (λ (w : List Marked). sign Comma ∷ term_text d (term_mark d n) u w)
    (more_grows d (n + 1) ts t v
    ∙ ap (λ (k : ℕ). more_text d (n + 1) (raw_trees ts) (sign Comma ∷ term_text d (term_mark d k) t v))
    (next_is n u ts))

pub opened_grows : (d : ℕ) (ts : List RawTree) (t : RawTree) (v : List Marked) → 0 < length ts →
    opened_text d (ts ++ t ∷ []) v ≡ opened_text d ts
    (sign Comma ∷ term_text (d + 1) (term_mark (d + 1) (length ts)) t v)
opened_grows d [] t v h = absurd (omega arith)
opened_grows d (u ∷ ts) t v h =
    let e : 1 + length ts ≡ length (u ∷ ts) = omega arith in
    ap (λ (w : List Marked). sign LeftPar ∷ term_text (d + 1) (term_mark (d + 1) 0) u w)
    (more_grows (d + 1) 1 ts t v
    ∙ ap (λ (k : ℕ). more_text (d + 1) 1 (raw_trees ts)
    (sign Comma ∷ term_text (d + 1) (term_mark (d + 1) k) t v)) e)

pub opened_closes : (d : ℕ) (ts : List RawTree) (v : List Marked) → 0 < length ts →
    args_text d (raw_trees ts) v ≡ opened_text d ts (sign RightPar ∷ v)
opened_closes d [] v h = absurd (omega arith)
opened_closes d (t ∷ ts) v h = refl

-- a text whose items come one after the other, with one more at the end
pub items_grow : {X : Type 0} (text : ℕ → List X → List Marked → List Marked) (item : ℕ → X → List Marked →
    List Marked) → ((n : ℕ) (v : List Marked) → text n [] v ≡ v) →
    ((n : ℕ) (x : X) (xs : List X) (v : List Marked) → text n (x ∷ xs) v ≡ item n x (text (n + 1) xs v)) →
    (n : ℕ) (xs : List X) (x : X) (v : List Marked) → text n (xs ++ x ∷ []) v ≡ text n xs (item (n + length xs) x v)
items_grow text item ends goes_on n [] x v = goes_on n x [] v ∙ ap (item n x) (ends (n + 1) v)
    ∙ ap (λ (k : ℕ). item k x v) (sym (add-zero n)) ∙ sym (ends n (item (n + 0) x v))
items_grow text item ends goes_on n (y ∷ xs) x v =
    let others = items_grow text item ends goes_on (n + 1) xs x v ∙ ap (λ (k : ℕ). text (n + 1) xs (item k x v))
    (next_is n y xs) in
    goes_on n y (xs ++ x ∷ []) v ∙ ap (item n y) others ∙ sym (goes_on n y xs (item (n + length (y ∷ xs)) x v))

pub more_names_grow : (n : ℕ) (xs : List RawName) (x : RawName) (v : List Marked) →
    more_names_text n (xs ++ x ∷ []) v ≡ more_names_text n xs (sign Comma ∷ name_text (arity_mark (n + length xs)) x v)
more_names_grow n xs x v = items_grow more_names_text (λ k y w. sign Comma ∷ name_text (arity_mark k) y w)
    (λ k w. refl) (λ k y ys w. refl) n xs x v

pub commas_grow : (n : ℕ) (xs : List RawEq) (x : RawEq) (v : List Marked) →
    commas_text n (xs ++ x ∷ []) v ≡ commas_text n xs (sign Comma ∷ sides_text (premise_mark (n + length xs))
    x.left x.right v)
commas_grow n xs x v = items_grow commas_text (λ k e w. sign Comma ∷ sides_text (premise_mark k) e.left e.right
    w) (λ k w. refl) (λ k e es w. refl) n xs x v

pub bars_grow : (n : ℕ) (xs : List RawEq) (x : RawEq) (v : List Marked) →
    bars_text n (xs ++ x ∷ []) v ≡ bars_text n xs (sign Bar ∷ sides_text (conclusion_mark (n + length xs))
    x.left x.right v)
bars_grow n xs x v = items_grow bars_text (λ k e w. sign Bar ∷ sides_text (conclusion_mark k) e.left e.right w)
    (λ k w. refl) (λ k e es w. refl) n xs x v

pub more_binds_grow : (n : ℕ) (xs : List RawBind) (x : RawBind) (v : List Marked) →
    more_binds_text n (xs ++ x ∷ []) v ≡ more_binds_text n xs
    (sign Comma ∷ bind_text (variable_mark (n + length xs)) x v)
more_binds_grow n xs x v = items_grow more_binds_text (λ k b w. sign Comma ∷ bind_text (variable_mark k) b w)
    (λ k w. refl) (λ k b bs w. refl) n xs x v

-- the same of a list that has no item before it
whole_grows : {X : Type 0} (text : ℕ → List X → List Marked → List Marked) (item : ℕ → X → List Marked →
    List Marked) → ((n : ℕ) (v : List Marked) → text n [] v ≡ v) →
    ((n : ℕ) (x : X) (xs : List X) (v : List Marked) → text n (x ∷ xs) v ≡ item n x (text (n + 1) xs v)) →
    (xs : List X) (x : X) (v : List Marked) → text 0 (xs ++ x ∷ []) v ≡ text 0 xs (item (length xs) x v)
whole_grows text item ends goes_on xs x v = items_grow text item ends goes_on 0 xs x v
    ∙ ap (λ (k : ℕ). text 0 xs (item k x v)) (zero-add (length xs))

pub first_funs_grow : (version : ℕ) (xs : List RawFun) (x : RawFun) (v : List Marked) →
    funs_text version 0 (xs ++ x ∷ []) v ≡ funs_text version 0 xs
    ((Sign Fun, fun_mark version (length xs)) ∷ con_text None x.head (sign Colon ∷ name_text None x.result v))
first_funs_grow version xs x v = whole_grows (funs_text version)
    (λ k f w. (Sign Fun, fun_mark version k) ∷ con_text None f.head (sign Colon ∷ name_text None f.result w))
    (λ k w. refl) (λ k f fs w. refl) xs x v

pub first_guards_grow : (xs : List RawGuard) (x : RawGuard) (v : List Marked) →
    guards_text 0 (xs ++ x ∷ []) v ≡ guards_text 0 xs
    ((Sign (guard_key x.wanted), guard_mark (length xs)) ∷ term_text 0 None x.test v)
first_guards_grow xs x v = whole_grows guards_text
    (λ k g w. (Sign (guard_key g.wanted), guard_mark k) ∷ term_text 0 None g.test w) (λ k w. refl)
    (λ k g gs w. refl) xs x v

pub first_rules_grow : (version : ℕ) (xs : List RawRule) (x : RawRule) (v : List Marked) →
    rules_text version 0 (xs ++ x ∷ []) v ≡ rules_text version 0 xs
    ((Sign Rule, rule_mark version (length xs)) ∷ sides_text None x.left x.right (guards_text 0 x.guards v))
first_rules_grow version xs x v = whole_grows (rules_text version)
    (λ k r w. (Sign Rule, rule_mark version k) ∷ sides_text None r.left r.right (guards_text 0 r.guards w))
    (λ k w. refl) (λ k r rs w. refl) xs x v

-- names whose parenthesis isn't closed yet, before what comes after them
abbrev pub opened_names : List RawName → List Marked → List Marked
opened_names [] v = v
opened_names (x ∷ xs) v = sign LeftPar ∷ name_text (arity_mark 0) x (more_names_text 1 xs v)

pub opened_names_grow : (xs : List RawName) (y : RawName) (v : List Marked) → 0 < length xs →
    opened_names (xs ++ y ∷ []) v ≡ opened_names xs (sign Comma ∷ name_text (arity_mark (length xs)) y v)
opened_names_grow [] y v h = absurd (omega arith)
opened_names_grow (x ∷ xs) y v h =
    let e : 1 + length xs ≡ length (x ∷ xs) = omega arith in
    ap (λ (w : List Marked). sign LeftPar ∷ name_text (arity_mark 0) x w) (more_names_grow 1 xs y v
    ∙ ap (λ (k : ℕ). more_names_text 1 xs (sign Comma ∷ name_text (arity_mark k) y v)) e)

pub opened_names_close : (xs : List RawName) (v : List Marked) → 0 < length xs →
    names_text xs v ≡ opened_names xs (sign RightPar ∷ v)
opened_names_close [] v h = absurd (omega arith)
opened_names_close (x ∷ xs) v h = refl

-- binds whose parenthesis isn't closed yet, before what comes after them
abbrev pub opened_binds : List RawBind → List Marked → List Marked
opened_binds [] v = v
opened_binds (x ∷ xs) v = sign LeftPar ∷ bind_text (variable_mark 0) x (more_binds_text 1 xs v)

pub opened_binds_grow : (xs : List RawBind) (y : RawBind) (v : List Marked) → 0 < length xs →
    opened_binds (xs ++ y ∷ []) v ≡ opened_binds xs (sign Comma ∷ bind_text (variable_mark (length xs)) y v)
opened_binds_grow [] y v h = absurd (omega arith)
opened_binds_grow (x ∷ xs) y v h =
    let e : 1 + length xs ≡ length (x ∷ xs) = omega arith in
    ap (λ (w : List Marked). sign LeftPar ∷ bind_text (variable_mark 0) x w) (more_binds_grow 1 xs y v
    ∙ ap (λ (k : ℕ). more_binds_text 1 xs (sign Comma ∷ bind_text (variable_mark k) y v)) e)

pub opened_binds_close : (xs : List RawBind) (v : List Marked) → 0 < length xs →
    binds_text xs v ≡ opened_binds xs (sign RightPar ∷ v)
opened_binds_close [] v h = absurd (omega arith)
opened_binds_close (x ∷ xs) v h = refl

-- one more goal
pub goals_grow : (n : ℕ) (gs : List RawGoal) (g : RawGoal) (w u v : List Marked) → AreGoals n gs w u →
    IsOneGoal (n + length gs) g u v → AreGoals n (gs ++ g ∷ []) w v
goals_grow n [] g w u v h o =
    let number : n + 0 ≡ n = add-zero n in
    let one : IsOneGoal n g u v = subst (λ (k : ℕ). IsOneGoal k g u v) number o in
    (one.2.0, v, h ∙ one.1 ∙ ap (λ (x : List Marked). (Sign Goal, goal_mark n) ∷ x) one.2.1, one.2.2, refl)
goals_grow n (x ∷ gs) g w u v h o = (
  h.0,
  h.1,
  h.2,
  h.3,
  goals_grow (n + 1) gs g h.1 u v h.4
      (subst (λ (k : ℕ). IsOneGoal k g u v) (sym (next_is n x gs)) o),
)
