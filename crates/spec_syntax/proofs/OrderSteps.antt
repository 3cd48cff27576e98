-- The lines on the order of terms, from their items, and texts of these items with one more at the end.
use Rattle.std.proofs.Common.{◌≡◌, ℕ, ◌+◌, ◌<◌, List, [], ◌∷◌, ◌++◌, None, length, refl, ap, sym, subst, ◌∙◌, arith}
use Rattle.spec_grammar.specs.declared.keys.Key.TheVariants.{Equal, Status, LeftPar, RightPar, Comma, Colon}
use Rattle.spec_grammar.specs.declared.raw.RawName.{RawName}
use Rattle.spec_grammar.specs.declared.raw.RawEqual.{RawEqual}
use Rattle.spec_grammar.specs.declared.raw.RawStatus.{RawStatus}
use Rattle.spec_grammar.specs.declared.raw.RawWeight.{RawWeight}
use Rattle.spec_grammar.specs.Grammar.{Marked, sign, name_text, more_equal_text, AreEquals, numeral_text}
use Rattle.spec_grammar.specs.Grammar.{more_numbers_text, AreStatuses, weight_text, more_weights_text, weights_text}
use Rattle.spec_grammar.specs.Limits.{arity_mark}
use Rattle.spec_syntax.specs.ReadingOrders.{AreNumbers}
use Rattle.spec_syntax.proofs.Grow.{items_grow}

-- the names of an equal line, before what comes after them
abbrev pub level_text : List RawName → List Marked → List Marked
level_text [] v = v
level_text (x ∷ xs) v = name_text None x (more_equal_text xs v)

more_equal_grow :
    (xs : List RawName) (x : RawName) (v : List Marked)
    → more_equal_text (xs ++ x ∷ []) v ≡ more_equal_text xs (sign Comma ∷ name_text None x v)
more_equal_grow [] x v = refl
more_equal_grow (y ∷ xs) x v = ap (λ (w : List Marked). sign Comma ∷ name_text None y w) (more_equal_grow xs x v)

pub level_grows :
    (xs : List RawName) (x : RawName) (v : List Marked) → 0 < length xs
    → level_text (xs ++ x ∷ []) v ≡ level_text xs (sign Comma ∷ name_text None x v)
level_grows [] x v h = absurd (omega arith)
level_grows (y ∷ xs) x v h = ap (name_text None y) (more_equal_grow xs x v)

pub one_equal :
    (e : RawEqual) (text after : List Marked) → 1 < length e.names → text ≡ level_text e.names after
    → AreEquals (e ∷ []) (sign Equal ∷ text) after
one_equal e text after some is = named e.names refl some is where
  named :
      (names : List RawName) → e.names ≡ names → 1 < length names → text ≡ level_text names after
      → AreEquals (e ∷ []) (sign Equal ∷ text) after
  named [] same two t = absurd (omega arith)
  named (x ∷ []) same two t = absurd (omega arith)
  named (x ∷ y ∷ others) same two t =
      (x, y, others, after, same, ap (λ (w : List Marked). sign Equal ∷ w) t, refl)

-- one more equal line
pub equals_join :
    (es others : List RawEqual) (w u v : List Marked) → AreEquals es w u → AreEquals others u v
    → AreEquals (es ++ others) w v
equals_join [] others w u v a b = subst (λ (x : List Marked). AreEquals others x v) (sym a) b
equals_join (e ∷ es) others w u v a b = (a.0, a.1, a.2, a.3, a.4, a.5, equals_join es others a.3 u v a.6 b)

-- the numbers of a status line, before what comes after them
abbrev pub numbers_text : List ℕ → List Marked → List Marked
numbers_text [] v = v
numbers_text (i ∷ is) v = numeral_text (arity_mark 0) i (more_numbers_text 1 is v)

more_numbers_grow :
    (n : ℕ) (is : List ℕ) (i : ℕ) (v : List Marked)
    → more_numbers_text n (is ++ i ∷ []) v
    ≡ more_numbers_text n is (sign Comma ∷ numeral_text (arity_mark (n + length is)) i v)
more_numbers_grow n is i v =
    items_grow more_numbers_text (λ k j w. sign Comma ∷ numeral_text (arity_mark k) j w) (λ k w. refl)
    (λ k j js w. refl) n is i v

pub numbers_grow :
    (is : List ℕ) (i : ℕ) (v : List Marked) → 0 < length is
    → numbers_text (is ++ i ∷ []) v ≡ numbers_text is (sign Comma ∷ numeral_text (arity_mark (length is)) i v)
numbers_grow [] i v h = absurd (omega arith)
numbers_grow (j ∷ is) i v h =
    let e : 1 + length is ≡ length (j ∷ is) = omega arith in
    let count = ap (λ (k : ℕ). more_numbers_text 1 is (sign Comma ∷ numeral_text (arity_mark k) i v)) e in
    ap (numeral_text (arity_mark 0) j) (more_numbers_grow 1 is i v ∙ count)

pub are_numbers :
    (is : List ℕ) (text after : List Marked) → 0 < length is → text ≡ numbers_text is after
    → AreNumbers is text after
are_numbers [] text after some t = absurd (omega arith)
are_numbers (i ∷ is) text after some t = t

pub one_status :
    (s : RawStatus) (text middle after : List Marked) → text ≡ name_text None s.head (sign LeftPar ∷ middle)
    → AreNumbers s.numbers middle (sign RightPar ∷ after)
    → AreStatuses (s ∷ []) (sign Status ∷ text) after
one_status s text middle after t are = numbered s.numbers refl are where
  numbered :
      (numbers : List ℕ) → s.numbers ≡ numbers → AreNumbers numbers middle (sign RightPar ∷ after)
      → AreStatuses (s ∷ []) (sign Status ∷ text) after
  numbered [] same n = absurd n
  numbered (i ∷ is) same n =
      let whole = t ∙ ap (λ (w : List Marked). name_text None s.head (sign LeftPar ∷ w)) n in
      (i, is, after, same, ap (λ (w : List Marked). sign Status ∷ w) whole, refl)

-- one more status line
pub statuses_join :
    (ss others : List RawStatus) (w u v : List Marked) → AreStatuses ss w u → AreStatuses others u v
    → AreStatuses (ss ++ others) w v
statuses_join [] others w u v a b = subst (λ (x : List Marked). AreStatuses others x v) (sym a) b
statuses_join (s ∷ ss) others w u v a b = (a.0, a.1, a.2, a.3, a.4, statuses_join ss others a.2 u v a.5 b)

-- the weights after a colon, before what follows
abbrev pub opened_weights : List RawWeight → List Marked → List Marked
opened_weights [] v = sign Colon ∷ v
opened_weights (w ∷ ws) v = sign Colon ∷ weight_text w (more_weights_text ws v)

more_weights_grow :
    (ws : List RawWeight) (w : RawWeight) (v : List Marked)
    → more_weights_text (ws ++ w ∷ []) v ≡ more_weights_text ws (sign Comma ∷ weight_text w v)
more_weights_grow [] w v = refl
more_weights_grow (x ∷ ws) w v = ap (λ (u : List Marked). sign Comma ∷ weight_text x u) (more_weights_grow ws w v)

pub opened_weights_grow :
    (ws : List RawWeight) (w : RawWeight) (v : List Marked) → 0 < length ws
    → opened_weights (ws ++ w ∷ []) v ≡ opened_weights ws (sign Comma ∷ weight_text w v)
opened_weights_grow [] w v h = absurd (omega arith)
opened_weights_grow (x ∷ ws) w v h = ap (λ (u : List Marked). sign Colon ∷ weight_text x u) (more_weights_grow ws w v)

pub opened_weights_are :
    (ws : List RawWeight) (v : List Marked) → 0 < length ws → opened_weights ws v ≡ weights_text ws v
opened_weights_are [] v h = absurd (omega arith)
opened_weights_are (w ∷ ws) v h = refl
