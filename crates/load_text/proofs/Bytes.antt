-- The printed form of the generated goals, as the code writes it.
use Rattle.std.proofs.Common.{◌≡◌, ◌≢◌, ℕ, zero, suc, ◌+◌, ◌-◌, ◌%◌, List, [], ◌++◌, refl, ap, sym, ◌∙◌, append_assoc}
use Rattle.std.proofs.Common.{append-nil, arith}
use Rattle.std.specs.Prelude.{Bool, codes, map, if◌then◌else◌}
use Rattle.std.proofs.lemmas.Bool.{ne_eqb}
use Rattle.std.specs.Fmt.{decimal, digits}
use Rattle.std.specs.List.{flat_map, range_with_len}
use Rattle.spec_grammar.specs.declared.raw.RawGoal.{RawGoal}
use Rattle.spec_grammar.specs.RawTree.{RawTree}
use Rattle.spec_printing.specs.Printed.{printed, term_printed, equation_printed, goal_line}
use Rattle.load_text.specs.LoadRaw.{x, y, z, nought, plus, successors, load_sides, goal_of_kind, goal_name, height}
use Rattle.load_text.specs.LoadRaw.{load_goal, load_raw}
use Rattle.load_text.specs.Bytes.{enclosed, line_end}

-- the text of a word before one term
one_printed : (name inner : List ℕ) →
    name ++ codes "(" ++ inner ++ [] ++ codes ")" ≡ name ++ codes "(" ++ inner ++ codes ")"
one_printed name inner = simp (append_assoc, append-nil)

successors_printed : (k : ℕ) (t : RawTree) →
    term_printed (successors k t) ≡ enclosed k (term_printed t)
successors_printed zero t = refl
successors_printed (suc k) t = one_printed (codes "succ") (term_printed (successors k t))
    ∙ ap (λ (b : List ℕ). codes "succ(" ++ b ++ codes ")") (successors_printed k t)

joined : (old a b d : List ℕ) → ((old ++ a) ++ b) ++ d ≡ old ++ (a ++ b ++ d)
joined old a b d = simp append_assoc

-- a height above 0 is one more than the one below
pub successors_text : (old a b d inner : List ℕ) (k : ℕ) → k ≢ 0 → a ≡ old ++ codes "succ(" →
    b ≡ a ++ enclosed (k - 1) inner → d ≡ b ++ codes ")" → d ≡ old ++ enclosed k inner
successors_text old a b d inner zero h p q r = absurd (h refl)
successors_text old a b d inner (suc k) h p q r =
    let e : suc k - 1 ≡ k = omega arith in
    r ∙ ap (λ (t : List ℕ). t ++ codes ")")
    (q ∙ ap (λ (t : List ℕ). t ++ enclosed (suc k - 1) inner) p)
    ∙ joined old (codes "succ(") (enclosed (suc k - 1) inner) (codes ")")
    ∙ ap (λ (n : ℕ). old ++ (codes "succ(" ++ enclosed n inner ++ codes ")")) e

-- Each kind's equation, with towers of `succ` that are written as `t` and `u`.

sum_of_successor : (n o t s y c e u : List ℕ) →
    n ++ o ++ t ++ (s ++ y ++ []) ++ c ++ e ++ u ≡ n ++ (o ++ (t ++ (s ++ (y ++ (c ++ (e ++ u))))))
sum_of_successor n o t s y c e u = simp (append_assoc, append-nil)

changed_sum : (p e n o x s t c : List ℕ) →
    p ++ e ++ (n ++ o ++ x ++ (s ++ t ++ []) ++ c) ≡ p ++
    (e ++ (n ++ (o ++ (x ++ (s ++ (t ++ c))))))
changed_sum p e n o x s t c = simp (append_assoc, append-nil)

order : (n o t s x c e y : List ℕ) →
    n ++ o ++ t ++ (s ++ x ++ []) ++ c ++ e ++ y ≡ n ++ (o ++ (t ++ (s ++ (x ++ (c ++ (e ++ y))))))
order = sum_of_successor

sum_of_three : (n o p s t c e x y : List ℕ) →
    n ++ o ++ p ++ (s ++ t ++ []) ++ c ++ e ++
    (n ++ o ++ x ++ (s ++ (n ++ o ++ y ++ (s ++ t ++ []) ++ c) ++ []) ++ c) ≡ n ++
    (o ++ (p ++
    (s ++ (t ++
    (c ++ (e ++ (n ++ (o ++ (x ++ (s ++ (n ++ (o ++ (y ++ (s ++ (t ++ (c ++ c))))))))))))))))
sum_of_three n o p s t c e x y = simp (append_assoc, append-nil)

three : (old a b d : List ℕ) → ((old ++ a) ++ b) ++ d ≡ old ++ (a ++ (b ++ d))
three old a b d = simp append_assoc

four : (old a b d e : List ℕ) → (((old ++ a) ++ b) ++ d) ++ e ≡ old ++ (a ++ (b ++ (d ++ e)))
four old a b d e = simp append_assoc

five : (old a b d e f : List ℕ) →
    ((((old ++ a) ++ b) ++ d) ++ e) ++ f ≡ old ++ (a ++ (b ++ (d ++ (e ++ f))))
five old a b d e f = simp append_assoc

module _ (k : ℕ) where
  sum_of_successor_is : equation_printed (load_sides 0 k) ≡ codes "plus(" ++
      (enclosed k (codes "x") ++ (codes ", y) = " ++ enclosed k (codes "plus(x, y)")))
  sum_of_successor_is =
      let t : List ℕ = term_printed (successors k x) in
      let u : List ℕ = term_printed (successors k (plus x y)) in
      let whole : equation_printed (load_sides 0 k) ≡ codes "plus(" ++
      (t ++ (codes ", y) = " ++ u)) =
      sum_of_successor (codes "plus") (codes "(") t (codes ", ") (codes "y") (codes ")")
      (codes " = ") u in
      whole ∙ ap (λ (t : List ℕ). codes "plus(" ++ (t ++ (codes ", y) = " ++ u)))
      (successors_printed k x) ∙ ap (λ (u : List ℕ). codes "plus(" ++
      (enclosed k (codes "x") ++ (codes ", y) = " ++ u))) (successors_printed k (plus x y))

  changed_sum_is : equation_printed (load_sides 1 k) ≡ codes "plus(x, y) = plus(x, " ++
      (enclosed k (codes "y") ++ codes ")")
  changed_sum_is =
      let t : List ℕ = term_printed (successors k y) in
      let whole : equation_printed (load_sides 1 k) ≡ codes "plus(x, y) = plus(x, " ++
      (t ++ codes ")") = changed_sum (codes "plus(x, y)") (codes " = ") (codes "plus")
      (codes "(") (codes "x") (codes ", ") t (codes ")") in
      whole ∙ ap (λ (t : List ℕ). codes "plus(x, y) = plus(x, " ++ (t ++ codes ")"))
      (successors_printed k y)

  order_is : equation_printed (load_sides 2 k) ≡ codes "le(" ++
      (enclosed (k + 3) (codes "zero") ++ codes ", x) = true")
  order_is =
      let t : List ℕ = term_printed (successors (k + 3) nought) in
      let whole : equation_printed (load_sides 2 k) ≡ codes "le(" ++ (t ++ codes ", x) = true") =
      order (codes "le") (codes "(") t (codes ", ") (codes "x") (codes ")") (codes " = ")
      (codes "true") in
      whole ∙ ap (λ (t : List ℕ). codes "le(" ++ (t ++ codes ", x) = true"))
      (successors_printed (k + 3) nought)

  sum_of_three_is : equation_printed (load_sides 3 k) ≡ codes "plus(plus(x, y), " ++
      (enclosed k (codes "z") ++ (codes ") = plus(x, plus(y, " ++
      (enclosed k (codes "z") ++ codes "))")))
  sum_of_three_is =
      let t : List ℕ = term_printed (successors k z) in
      let whole : equation_printed (load_sides 3 k) ≡ codes "plus(plus(x, y), " ++
      (t ++ (codes ") = plus(x, plus(y, " ++ (t ++ codes "))"))) =
      sum_of_three (codes "plus") (codes "(") (codes "plus(x, y)") (codes ", ") t (codes ")")
      (codes " = ") (codes "x") (codes "y") in
      whole ∙ ap (λ (t : List ℕ). codes "plus(plus(x, y), " ++
      (t ++ (codes ") = plus(x, plus(y, " ++ (t ++ codes "))")))) (successors_printed k z)

  -- what the code writes of each kind, one piece after the other
  pub sum_of_successor_text : (old a b d e : List ℕ) → a ≡ old ++ codes "plus(" →
      b ≡ a ++ enclosed k (codes "x") → d ≡ b ++ codes ", y) = " →
      e ≡ d ++ enclosed k (codes "plus(x, y)") → e ≡ old ++ equation_printed (load_sides 0 k)
  sum_of_successor_text old a b d e p q r s =
      let f : e ≡ ((old ++ codes "plus(") ++ enclosed k (codes "x")) ++ codes ", y) = " ++ enclosed
      k (codes "plus(x, y)") = cc in
      f ∙ four old (codes "plus(") (enclosed k (codes "x")) (codes ", y) = ")
      (enclosed k (codes "plus(x, y)"))
      ∙ ap (λ (t : List ℕ). old ++ t) (sym sum_of_successor_is)

  pub changed_sum_text : (old a b d : List ℕ) → a ≡ old ++ codes "plus(x, y) = plus(x, " →
      b ≡ a ++ enclosed k (codes "y") → d ≡ b ++ codes ")" →
      d ≡ old ++ equation_printed (load_sides 1 k)
  changed_sum_text old a b d p q r =
      let f : d ≡ ((old ++ codes "plus(x, y) = plus(x, ") ++ enclosed k (codes "y")) ++ codes ")" =
      cc in
      f ∙ three old (codes "plus(x, y) = plus(x, ") (enclosed k (codes "y")) (codes ")")
      ∙ ap (λ (t : List ℕ). old ++ t) (sym changed_sum_is)

  pub order_text : (old a b d : List ℕ) → a ≡ old ++ codes "le(" →
      b ≡ a ++ enclosed (k + 3) (codes "zero") → d ≡ b ++ codes ", x) = true" →
      d ≡ old ++ equation_printed (load_sides 2 k)
  order_text old a b d p q r =
      let f : d ≡ ((old ++ codes "le(") ++ enclosed (k + 3) (codes "zero")) ++ codes
      ", x) = true" = cc in
      f ∙ three old (codes "le(") (enclosed (k + 3) (codes "zero")) (codes ", x) = true")
      ∙ ap (λ (t : List ℕ). old ++ t) (sym order_is)

  pub sum_of_three_text : (old a b d e f : List ℕ) → a ≡ old ++ codes "plus(plus(x, y), " →
      b ≡ a ++ enclosed k (codes "z") → d ≡ b ++ codes ") = plus(x, plus(y, " →
      e ≡ d ++ enclosed k (codes "z") → f ≡ e ++ codes "))" →
      f ≡ old ++ equation_printed (load_sides 3 k)
  sum_of_three_text old a b d e f p q r s t =
      let g : f ≡ (((old ++ codes "plus(plus(x, y), ") ++ enclosed k (codes "z")) ++ codes
      ") = plus(x, plus(y, ") ++ enclosed k (codes "z") ++ codes "))" = cc in
      g ∙ five old (codes "plus(plus(x, y), ") (enclosed k (codes "z"))
      (codes ") = plus(x, plus(y, ") (enclosed k (codes "z")) (codes "))")
      ∙ ap (λ (u : List ℕ). old ++ u) (sym sum_of_three_is)

-- the kinds from 3 on are one
pub last_kind : (kind k : ℕ) → kind ≢ 0 → kind ≢ 1 → kind ≢ 2 → load_sides kind k ≡ load_sides 3 k
last_kind zero k a b c = absurd (a refl)
last_kind (suc zero) k a b c = absurd (b refl)
last_kind (suc (suc zero)) k a b c = absurd (c refl)
last_kind (suc (suc (suc n))) k a b c = refl

-- the texts of a goal with a conclusion, and of one with a premise
holds_printed : (g text c b e n : List ℕ) →
    g ++ text ++ [] ++ c ++ (b ++ e ++ []) ++ n ≡ g ++ (text ++ (c ++ (b ++ (e ++ n))))
holds_printed g text c b e n = simp (append_assoc, append-nil)

fails_printed : (g text c b e a n : List ℕ) →
    g ++ text ++ [] ++ c ++ ((b ++ e ++ []) ++ a ++ []) ++ n ≡ g ++
    (text ++ (c ++ (b ++ (e ++ (a ++ n)))))
fails_printed g text c b e a n = simp (append_assoc, append-nil)

other_end : (n : ℕ) → line_end (suc (suc (suc n))) ≡ codes "\n"
other_end n = ap (λ (b : Bool). if b then codes " =>\n" else codes "\n")
    (ne_eqb (suc (suc (suc n))) 2 (λ e. omega arith))

goal_printed : (text : List ℕ) (kind k : ℕ) →
    goal_line (goal_of_kind text kind k) ≡ codes "goal " ++
    (text ++ (codes " : " ++ (equation_printed (load_sides kind k) ++ line_end kind)))
goal_printed text zero k = holds_printed (codes "goal ") text (codes " :") (codes " ")
    (equation_printed (load_sides 0 k)) (codes "\n")
goal_printed text (suc zero) k =
    holds_printed (codes "goal ") text (codes " :") (codes " ") (equation_printed (load_sides 1 k))
    (codes "\n")
goal_printed text (suc (suc zero)) k =
    fails_printed (codes "goal ") text (codes " :") (codes " ") (equation_printed (load_sides 2 k))
    (codes " =>") (codes "\n")
goal_printed text (suc (suc (suc n))) k =
    holds_printed (codes "goal ") text (codes " :") (codes " ") (equation_printed (load_sides 3 k))
    (codes "\n") ∙ ap (λ (l : List ℕ). codes "goal " ++
    (text ++ (codes " : " ++ (equation_printed (load_sides 3 k) ++ l)))) (sym (other_end n))

in_pieces : (old g d c e l : List ℕ) →
    ((((old ++ g) ++ d) ++ c) ++ e) ++ l ≡ old ++ (g ++ (d ++ (c ++ (e ++ l))))
in_pieces old g d c e l = simp append_assoc

-- what the code writes of a goal
pub goal_text : (old a b d e f : List ℕ) (i : ℕ) → a ≡ old ++ codes "goal g" → b ≡ a ++ decimal i →
    d ≡ b ++ codes " : " → e ≡ d ++ equation_printed (load_sides (i % 4) (1 + i % 20)) →
    f ≡ e ++ line_end (i % 4) → f ≡ old ++ goal_line (load_goal i)
goal_text old a b d e f i p q r s t =
    let sides : List ℕ = equation_printed (load_sides (i % 4) (height i)) in
    let number : List ℕ = decimal i in
    let end : List ℕ = line_end (i % 4) in
    let g : f ≡ ((((old ++ codes "goal g") ++ number) ++ codes " : ") ++ sides) ++ end = t
    ∙ ap (λ (u : List ℕ). u ++ end)
    (s ∙ ap (λ (u : List ℕ). u ++ sides)
    (r ∙ ap (λ (u : List ℕ). u ++ codes " : ") (q ∙ ap (λ (u : List ℕ). u ++ number) p))) in
    g ∙ in_pieces old (codes "goal g") number (codes " : ") sides end
    ∙ ap (λ (u : List ℕ). old ++ u) (sym (goal_printed (goal_name i) (i % 4) (height i)))

-- one more goal is one more line
more_lines : (f : ℕ → RawGoal) (g : RawGoal → List ℕ) (a n : ℕ) →
    flat_map g (map f (range_with_len a (suc n))) ≡ flat_map g (map f (range_with_len a n)) ++ g
    (f (a + n))
more_lines f g a zero = let e : a ≡ a + 0 = omega arith in append-nil (g (f a))
    ∙ ap (λ (i : ℕ). g (f i)) e
more_lines f g a (suc n) =
    let e : a + 1 + n ≡ a + suc n = omega arith in
    ap (λ (t : List ℕ). g (f a) ++ t)
    (more_lines f g (a + 1) n ∙ ap (λ (i : ℕ). flat_map g
    (map f (range_with_len (a + 1) n)) ++ g (f i)) e)
    ∙ sym (append_assoc (g (f a)) (flat_map g (map f (range_with_len (a + 1) n)))
    (g (f (a + suc n))))

pub one_more : (n : ℕ) (old new : List ℕ) → old ≡ printed (load_raw n) →
    new ≡ old ++ goal_line (load_goal n) → new ≡ printed (load_raw (n + 1))
unfolding digits
one_more n old new p q =
    let e : n + 1 ≡ suc n = omega arith in
    let below : 0 + n ≡ n = omega arith in
    let lines : ℕ → List ℕ = λ (m : ℕ). flat_map goal_line (map load_goal (range_with_len 0 m)) in
    let k : printed (load_raw (suc n)) ≡ printed (load_raw n) ++ goal_line (load_goal n) =
    ap (λ (t : List ℕ). printed (load_raw 0) ++ t) (more_lines load_goal goal_line 0 n)
    ∙ ap (λ (i : ℕ). printed (load_raw 0) ++ (lines n ++ goal_line (load_goal i))) below
    ∙ sym (append_assoc (printed (load_raw 0)) (lines n) (goal_line (load_goal n))) in
    q ∙ ap (λ (t : List ℕ). t ++ goal_line (load_goal n)) p ∙ sym k
    ∙ ap (λ (m : ℕ). printed (load_raw m)) (sym e)
