-- The printed form is what the pieces of the plain text write.
use Rattle.std.proofs.Common.{◌≡◌, ℕ, ◌+◌, List, [], ◌∷◌, ◌++◌, Bool, true, false, Option, Some, None, length, refl}
use Rattle.std.proofs.Common.{ap, sym, ◌∙◌, append_assoc}
use Rattle.std.specs.Prelude.{codes, map, if◌then◌else◌}
use Rattle.std.specs.Fmt.{decimal}
use Rattle.std.specs.List.{flat_map}
use Rattle.std.proofs.lemmas.List.{append-nil}
use Rattle.spec_text.specs.Written.{written}
use Rattle.spec_grammar.specs.declared.keys.Key.TheVariants.{RightPar, Colon, Equals, Arrow}
use Rattle.spec_grammar.specs.declared.limits.LimitKind.{LimitKind}
use Rattle.spec_grammar.specs.declared.raw.RawName.{RawName}
use Rattle.spec_grammar.specs.declared.raw.RawNames.{RawNames}
use Rattle.spec_grammar.specs.declared.raw.RawSort.{RawSort}
use Rattle.spec_grammar.specs.declared.raw.RawFun.{RawFun}
use Rattle.spec_grammar.specs.declared.raw.RawEqual.{RawEqual}
use Rattle.spec_grammar.specs.declared.raw.RawStatus.{RawStatus}
use Rattle.spec_grammar.specs.declared.raw.RawWeight.{RawWeight}
use Rattle.spec_grammar.specs.declared.raw.RawOrder.{RawOrder}
use Rattle.spec_grammar.specs.declared.raw.RawEq.{RawEq}
use Rattle.spec_grammar.specs.declared.raw.RawGuard.{RawGuard}
use Rattle.spec_grammar.specs.declared.raw.RawRule.{RawRule}
use Rattle.spec_grammar.specs.declared.raw.RawBind.{RawBind}
use Rattle.spec_grammar.specs.declared.raw.RawGoal.{RawGoal}
use Rattle.spec_grammar.specs.declared.raw.RawSpec.{RawSpec}
use Rattle.spec_grammar.specs.RawTree.{RawTree, RawTrees, word, none, some}
use Rattle.spec_grammar.specs.Items.{Sign}
use Rattle.spec_grammar.specs.Limits.{constructor_mark, term_mark, guard_mark, variable_mark, premise_mark}
use Rattle.spec_grammar.specs.Limits.{conclusion_mark}
use Rattle.spec_grammar.specs.Grammar.{Marked, sign, name_text, term_text, more_text, more_names_text, names_text}
use Rattle.spec_grammar.specs.Grammar.{con_text, constructors_text, AreSorts, funs_text, more_equal_text, AreEquals}
use Rattle.spec_grammar.specs.Grammar.{more_numbers_text, AreStatuses, weight_text, more_weights_text, weights_text}
use Rattle.spec_grammar.specs.Grammar.{order_text, guard_key, guards_text, sides_text, rules_text, commas_text}
use Rattle.spec_grammar.specs.Grammar.{premises_text, bars_text, conclusions_text, bind_text, more_binds_text}
use Rattle.spec_grammar.specs.Grammar.{binds_text}
use Rattle.spec_printing.specs.Printed.{listed, spaced, term_printed, others_printed, sides_printed, equation_printed}
use Rattle.spec_printing.specs.Printed.{names_printed, sort_line, fun_line, equal_line, status_line, weight_printed}
use Rattle.spec_printing.specs.Printed.{weights_printed, order_line, guard_printed, rule_line, bind_printed}
use Rattle.spec_printing.specs.Printed.{clause_printed, goal_line, header_line, printed}
use Rattle.spec_printing.proofs.Plain.{clause_text, goals_text, IsPlainText}
use Rattle.spec_printing.proofs.Pieces.{blank, pieces}

-- what is written of the tokens, with a newline at the end
abbrev pub shown : Bool → List Marked → List ℕ
shown inner w = written (pieces inner w) (codes "\n")

-- texts in a row, grouped to the left and to the right
regroup_three : (a b c s : List ℕ) → ((a ++ b) ++ c) ++ s ≡ a ++ (b ++ (c ++ s))
regroup_three a b c s = simp append_assoc

regroup_four : (a b c d s : List ℕ) → (((a ++ b) ++ c) ++ d) ++ s ≡ a ++ (b ++ (c ++ (d ++ s)))
regroup_four a b c d s = simp append_assoc

regroup_five : (a b c d e s : List ℕ) → ((((a ++ b) ++ c) ++ d) ++ e) ++ s ≡ a ++ (b ++ (c ++ (d ++ (e ++ s))))
regroup_five a b c d e s = simp append_assoc

regroup_six : (a b c d e f s : List ℕ) → (((((a ++ b) ++ c) ++ d) ++ e) ++ f) ++ s ≡ a
    ++ (b ++ (c ++ (d ++ (e ++ (f ++ s)))))
regroup_six a b c d e f s = simp append_assoc

regroup_seven : (a b c d e f g s : List ℕ) → ((((((a ++ b) ++ c) ++ d) ++ e) ++ f) ++ g) ++ s ≡ a
    ++ (b ++ (c ++ (d ++ (e ++ (f ++ (g ++ s))))))
regroup_seven a b c d e f g s = simp append_assoc

-- names
more_names_shown : (n : ℕ) (xs : List RawName) (rest : List Marked) →
    shown false (more_names_text n xs rest) ≡ flat_map (λ u. codes ", " ++ u) (map (λ (x : RawName). x.name) xs)
    ++ shown false rest
more_names_shown n [] rest = refl
more_names_shown n (x ∷ xs) rest =
    ap (λ (ys : List ℕ). codes ", " ++ (x.name ++ ys)) (more_names_shown (n + 1) xs rest)
    ∙ sym (regroup_three (codes ", ") x.name
    (flat_map (λ u. codes ", " ++ u) (map (λ (y : RawName). y.name) xs)) (shown false rest))

names_shown : (xs : List RawName) (rest : List Marked) →
    shown false (names_text xs rest) ≡ listed (map (λ (x : RawName). x.name) xs) ++ shown false rest
names_shown [] rest = refl
names_shown (x ∷ xs) rest =
    ap (λ (ys : List ℕ). codes "(" ++ (x.name ++ ys)) (more_names_shown 1 xs (sign RightPar ∷ rest))
    ∙ sym (regroup_four (codes "(") x.name
    (flat_map (λ u. codes ", " ++ u) (map (λ (y : RawName). y.name) xs)) (codes ")") (shown false rest))

con_shown : (mark : Option LimitKind) (c : RawNames) (rest : List Marked) →
    shown false (con_text mark c rest) ≡ codes " " ++ (names_printed c ++ shown false rest)
con_shown mark c rest =
    ap (λ (ys : List ℕ). codes " " ++ (c.name ++ ys)) (names_shown c.args rest)
    ∙ ap (λ (ys : List ℕ). codes " " ++ ys)
    (sym (append_assoc c.name (listed (map (λ (x : RawName). x.name) c.args)) (shown false rest)))

constructors_shown : (version k t : ℕ) (cs : List RawNames) (rest : List Marked) →
    shown false (constructors_text version k t cs rest) ≡ flat_map (λ u. codes " | " ++ u)
    (map names_printed cs) ++ shown false rest
constructors_shown version k t [] rest = refl
constructors_shown version k t (c ∷ cs) rest =
    ap (λ (ys : List ℕ). codes " |" ++ ys)
    (con_shown (constructor_mark version k t) c (constructors_text version (k + 1) (t + 1) cs rest))
    ∙ ap (λ (ys : List ℕ). codes " | " ++ (names_printed c ++ ys))
    (constructors_shown version (k + 1) (t + 1) cs rest)
    ∙ sym (regroup_three (codes " | ") (names_printed c)
    (flat_map (λ u. codes " | " ++ u) (map names_printed cs)) (shown false rest))

-- sorts, before what begins a line
sort_joined : (a b c d e f g y x : List ℕ) → (((((a ++ b) ++ c) ++ ((d ++ e) ++ f)) ++ g) ++ y) ++ x ≡ a
    ++ (b ++ (c ++ (d ++ (e ++ (f ++ (g ++ (y ++ x)))))))
sort_joined a b c d e f g y x = simp append_assoc

sort_shown : (s : RawSort) (first : RawNames) (others : List RawNames) (later x : List ℕ) →
    s.constructors ≡ first ∷ others →
    codes "sort " ++ (s.head.name
    ++ (codes " =" ++ (codes " "
    ++ (names_printed first ++ (flat_map (λ u. codes " | " ++ u) (map names_printed others)
    ++ (codes "\n" ++ (later ++ x))))))) ≡ (sort_line s ++ later) ++ x
sort_shown s first others later x e =
    sym (sort_joined (codes "sort ") s.head.name (codes " =") (codes " ") (names_printed first)
    (flat_map (λ u. codes " | " ++ u) (map names_printed others)) (codes "\n") later x)
    ∙ ap (λ (cs : List RawNames).
    (((((codes "sort " ++ s.head.name) ++ codes " =") ++ spaced (codes " | ") (map names_printed cs))
    ++ codes "\n") ++ later) ++ x) (sym e)

sorts_shown : (version n t : ℕ) (ss : List RawSort) (text rest : List Marked) (x : List ℕ) →
    AreSorts version n t ss text rest → shown false rest ≡ codes "\n" ++ x → shown false text ≡ codes "\n"
    ++ (flat_map sort_line ss ++ x)
sorts_shown version n t [] text rest x s h = ap (shown false) s ∙ h
sorts_shown version n t (s ∷ ss) text rest x a h =
    let later : List ℕ = flat_map sort_line ss in
    let before : List ℕ → List ℕ = λ (ys : List ℕ). codes "\nsort " ++ (s.head.name ++ (codes " =" ++ ys)) in
    let others : List ℕ = flat_map (λ u. codes " | " ++ u) (map names_printed a.1) in
    ap (shown false) a.4 ∙ ap before
    (con_shown (constructor_mark version 0 t) a.0 (constructors_text version 1 (t + 1) a.1 a.2))
    ∙ ap (λ (ys : List ℕ). before (codes " " ++ (names_printed a.0 ++ ys)))
    (constructors_shown version 1 (t + 1) a.1 a.2)
    ∙ ap (λ (ys : List ℕ). before (codes " " ++ (names_printed a.0 ++ (others ++ ys))))
    (sorts_shown version (n + 1) (t + 1 + length a.1) ss a.2 rest x a.5 h)
    ∙ ap (λ (ys : List ℕ). codes "\n" ++ ys) (sort_shown s a.0 a.1 later x a.3)

-- functions
funs_shown : (version n : ℕ) (fs : List RawFun) (rest : List Marked) (x : List ℕ) →
    shown false rest ≡ codes "\n" ++ x → shown false (funs_text version n fs rest) ≡ codes "\n"
    ++ (flat_map fun_line fs ++ x)
funs_shown version n [] rest x h = h
funs_shown version n (f ∷ fs) rest x h =
    let later : List ℕ = flat_map fun_line fs in
    let after : List Marked = sign Colon ∷ name_text None f.result (funs_text version (n + 1) fs rest) in
    ap (λ (ys : List ℕ). codes "\nfun" ++ ys) (con_shown None f.head after)
    ∙ ap (λ (ys : List ℕ). codes "\nfun "
    ++ (names_printed f.head ++ (codes " : " ++ (f.result.name ++ ys)))) (funs_shown version (n + 1) fs rest x h)
    ∙ ap (λ (ys : List ℕ). codes "\n" ++ ys)
    (sym (regroup_six (codes "fun ") (names_printed f.head) (codes " : ") f.result.name (codes "\n") later x))

-- how functions are ordered
abbrev names_more : List RawName → List ℕ
names_more ns = flat_map (λ u. codes ", " ++ u) (map (λ (y : RawName). y.name) ns)

more_equal_shown :
    (xs : List RawName) (rest : List Marked) →
    shown false (more_equal_text xs rest) ≡ names_more xs ++ shown false rest
more_equal_shown [] rest = refl
more_equal_shown (x ∷ xs) rest =
    ap (λ (ys : List ℕ). codes ", " ++ (x.name ++ ys)) (more_equal_shown xs rest)
    ∙ sym (regroup_three (codes ", ") x.name (names_more xs) (shown false rest))

equal_joined :
    (a b c d e y x : List ℕ) →
    (((a ++ ((b ++ c) ++ d)) ++ e) ++ y) ++ x ≡ a ++ (b ++ (c ++ (d ++ (e ++ (y ++ x)))))
equal_joined a b c d e y x = simp append_assoc

-- an equal line before what begins a line
equal_shown :
    (e : RawEqual) (first : RawName) (others : List RawName) (later x : List ℕ) → e.names ≡ first ∷ others →
    codes "equal" ++ (codes " " ++ (first.name ++ (names_more others ++ (codes "\n" ++ (later ++ x))))) ≡
    (equal_line e ++ later) ++ x
equal_shown e first others later x is =
    let line : List RawName → List ℕ =
    λ (ns : List RawName). codes "equal" ++ spaced (codes ", ") (map (λ (y : RawName). y.name) ns) ++ codes "\n" in
    sym (equal_joined (codes "equal") (codes " ") first.name (names_more others) (codes "\n") later x)
    ∙ ap (λ (ns : List RawName). (line ns ++ later) ++ x) (sym is)

equals_shown :
    (es : List RawEqual) (text rest : List Marked) (x : List ℕ) → AreEquals es text rest →
    shown false rest ≡ codes "\n" ++ x → shown false text ≡ codes "\n" ++ (flat_map equal_line es ++ x)
equals_shown [] text rest x e h = ap (shown false) e ∙ h
equals_shown (e ∷ es) text rest x a h =
    let later : List ℕ = flat_map equal_line es in
    let others : List RawName = a.1 ∷ a.2 in
    let before : List ℕ → List ℕ = λ (ys : List ℕ). codes "\nequal " ++ (a.0.name ++ ys) in
    ap (shown false) a.5 ∙ ap before (more_equal_shown others a.3)
    ∙ ap (λ (ys : List ℕ). before (names_more others ++ ys)) (equals_shown es a.3 rest x a.6 h)
    ∙ ap (λ (ys : List ℕ). codes "\n" ++ ys) (equal_shown e a.0 others later x a.4)

abbrev numbers_more : List ℕ → List ℕ
numbers_more ns = flat_map (λ u. codes ", " ++ u) (map decimal ns)

more_numbers_shown :
    (n : ℕ) (is : List ℕ) (rest : List Marked) →
    shown false (more_numbers_text n is rest) ≡ numbers_more is ++ shown false rest
more_numbers_shown n [] rest = refl
more_numbers_shown n (i ∷ is) rest =
    ap (λ (ys : List ℕ). codes ", " ++ (decimal i ++ ys)) (more_numbers_shown (n + 1) is rest)
    ∙ sym (regroup_three (codes ", ") (decimal i) (numbers_more is) (shown false rest))

status_joined :
    (a b c d e f g y x : List ℕ) →
    ((((a ++ b) ++ (((c ++ d) ++ e) ++ f)) ++ g) ++ y) ++ x ≡
    a ++ (b ++ (c ++ (d ++ (e ++ (f ++ (g ++ (y ++ x)))))))
status_joined a b c d e f g y x = simp append_assoc

-- a status line before what begins a line
status_shown :
    (s : RawStatus) (first : ℕ) (others : List ℕ) (later x : List ℕ) → s.numbers ≡ first ∷ others →
    codes "status " ++ (s.head.name ++ (codes "(" ++ (decimal first ++ (numbers_more others
    ++ (codes ")" ++ (codes "\n" ++ (later ++ x))))))) ≡ (status_line s ++ later) ++ x
status_shown s first others later x is =
    let line : List ℕ → List ℕ =
    λ (ns : List ℕ). codes "status " ++ s.head.name ++ listed (map decimal ns) ++ codes "\n" in
    sym (status_joined (codes "status ") s.head.name (codes "(") (decimal first) (numbers_more others) (codes ")")
    (codes "\n") later x)
    ∙ ap (λ (ns : List ℕ). (line ns ++ later) ++ x) (sym is)

statuses_shown :
    (ss : List RawStatus) (text rest : List Marked) (x : List ℕ) → AreStatuses ss text rest →
    shown false rest ≡ codes "\n" ++ x → shown false text ≡ codes "\n" ++ (flat_map status_line ss ++ x)
statuses_shown [] text rest x e h = ap (shown false) e ∙ h
statuses_shown (s ∷ ss) text rest x a h =
    let later : List ℕ = flat_map status_line ss in
    let before : List ℕ → List ℕ =
    λ (ys : List ℕ). codes "\nstatus " ++ (s.head.name ++ (codes "(" ++ (decimal a.0 ++ ys))) in
    ap (shown false) a.4 ∙ ap before (more_numbers_shown 1 a.1 (sign RightPar ∷ a.2))
    ∙ ap (λ (ys : List ℕ). before (numbers_more a.1 ++ (codes ")" ++ ys))) (statuses_shown ss a.2 rest x a.5 h)
    ∙ ap (λ (ys : List ℕ). codes "\n" ++ ys) (status_shown s a.0 a.1 later x a.3)

-- the line of the order
weight_shown :
    (w : RawWeight) (rest : List Marked) →
    shown false (weight_text w rest) ≡ codes " " ++ (weight_printed w ++ shown false rest)
weight_shown w rest =
    ap (λ (ys : List ℕ). codes " " ++ ys)
    (sym (regroup_three w.name.name (codes " = ") (decimal w.weight) (shown false rest)))

abbrev weights_more : List RawWeight → List ℕ
weights_more ws = flat_map (λ x. codes ", " ++ weight_printed x) ws

more_weights_shown :
    (ws : List RawWeight) (rest : List Marked) →
    shown false (more_weights_text ws rest) ≡ weights_more ws ++ shown false rest
more_weights_shown [] rest = refl
more_weights_shown (w ∷ ws) rest =
    ap (λ (ys : List ℕ). codes "," ++ ys) (weight_shown w (more_weights_text ws rest))
    ∙ ap (λ (ys : List ℕ). codes ", " ++ (weight_printed w ++ ys)) (more_weights_shown ws rest)
    ∙ sym (regroup_three (codes ", ") (weight_printed w) (weights_more ws) (shown false rest))

weights_shown :
    (ws : List RawWeight) (rest : List Marked) →
    shown false (weights_text ws rest) ≡ weights_printed ws ++ shown false rest
weights_shown [] rest = refl
weights_shown (w ∷ ws) rest =
    ap (λ (ys : List ℕ). codes " :" ++ ys) (weight_shown w (more_weights_text ws rest))
    ∙ ap (λ (ys : List ℕ). codes " : " ++ (weight_printed w ++ ys)) (more_weights_shown ws rest)
    ∙ sym (regroup_three (codes " : ") (weight_printed w) (weights_more ws) (shown false rest))

order_shown :
    (line : Option RawOrder) (rest : List Marked) (x : List ℕ) → shown false rest ≡ codes "\n" ++ x →
    shown false (order_text line rest) ≡ codes "\n" ++ (order_line line ++ x)
order_shown None rest x h = h
order_shown (Some o) rest x h =
    let weights : List ℕ = weights_printed o.weights in
    let before : List ℕ → List ℕ = λ (ys : List ℕ). codes "\norder " ++ (o.name.name ++ ys) in
    ap before (weights_shown o.weights rest) ∙ ap (λ (ys : List ℕ). before (weights ++ ys)) h
    ∙ ap (λ (ys : List ℕ). codes "\n" ++ ys) (sym (regroup_four (codes "order ") o.name.name weights (codes "\n") x))

-- terms
mutual
  term_shown : (d : ℕ) (mark : Option LimitKind) (t : RawTree) (rest : List Marked) (inner : Bool) →
      shown inner (term_text d mark t rest) ≡ blank inner ++ (term_printed t ++ shown false rest)
  term_shown d mark (word name at none) rest inner = refl
  term_shown d mark (word name at (some t ts)) rest inner =
      let close : List Marked = sign RightPar ∷ rest in
      let before : List ℕ → List ℕ = λ (ys : List ℕ). blank inner ++ (name ++ (codes "(" ++ ys)) in
      ap before (term_shown (d + 1) (term_mark (d + 1) 0) t (more_text (d + 1) 1 ts close) true)
      ∙ ap (λ (ys : List ℕ). before (term_printed t ++ ys)) (more_shown (d + 1) 1 ts close)
      ∙ ap (λ (ys : List ℕ). blank inner ++ ys)
      (sym (regroup_five name (codes "(") (term_printed t) (others_printed ts) (codes ")") (shown false rest)))

  more_shown : (d n : ℕ) (ts : RawTrees) (rest : List Marked) →
      shown false (more_text d n ts rest) ≡ others_printed ts ++ shown false rest
  more_shown d n none rest = refl
  more_shown d n (some t ts) rest =
      ap (λ (ys : List ℕ). codes "," ++ ys) (term_shown d (term_mark d n) t (more_text d (n + 1) ts rest) false)
      ∙ ap (λ (ys : List ℕ). codes ", " ++ (term_printed t ++ ys)) (more_shown d (n + 1) ts rest)
      ∙ sym (regroup_three (codes ", ") (term_printed t) (others_printed ts) (shown false rest))

sides_shown : (mark : Option LimitKind) (left right : RawTree) (rest : List Marked) →
    shown false (sides_text mark left right rest) ≡ codes " " ++ (sides_printed left right ++ shown false rest)
sides_shown mark left right rest =
    term_shown 0 mark left (sign Equals ∷ term_text 0 None right rest) false
    ∙ ap (λ (ys : List ℕ). codes " " ++ (term_printed left ++ (codes " =" ++ ys)))
    (term_shown 0 None right rest false)
    ∙ ap (λ (ys : List ℕ). codes " " ++ ys)
    (sym (regroup_three (term_printed left) (codes " = ") (term_printed right) (shown false rest)))

-- rules
guard_shown : (wanted : Bool) (mark : Option LimitKind) (w : List Marked) (ys : List ℕ) →
    shown false w ≡ codes " " ++ ys →
    shown false ((Sign (guard_key wanted), mark) ∷ w) ≡ (if wanted then codes " if " else codes " unless ") ++ ys
guard_shown true mark w ys h = ap (λ (xs : List ℕ). codes " if" ++ xs) h
guard_shown false mark w ys h = ap (λ (xs : List ℕ). codes " unless" ++ xs) h

guards_shown : (n : ℕ) (gs : List RawGuard) (rest : List Marked) →
    shown false (guards_text n gs rest) ≡ flat_map guard_printed gs ++ shown false rest
guards_shown n [] rest = refl
guards_shown n (g ∷ gs) rest =
    let key : List ℕ = if g.wanted then codes " if " else codes " unless " in
    let after : List Marked = guards_text (n + 1) gs rest in
    guard_shown g.wanted (guard_mark n) (term_text 0 None g.test after) (term_printed g.test
    ++ shown false after) (term_shown 0 None g.test after false)
    ∙ ap (λ (ys : List ℕ). key ++ (term_printed g.test ++ ys)) (guards_shown (n + 1) gs rest)
    ∙ sym (regroup_three key (term_printed g.test) (flat_map guard_printed gs) (shown false rest))

rules_shown : (version n : ℕ) (rs : List RawRule) (rest : List Marked) (x : List ℕ) →
    shown false rest ≡ codes "\n" ++ x → shown false (rules_text version n rs rest) ≡ codes "\n"
    ++ (flat_map rule_line rs ++ x)
rules_shown version n [] rest x h = h
rules_shown version n (r ∷ rs) rest x h =
    let later : List ℕ = flat_map rule_line rs in
    let after : List Marked = rules_text version (n + 1) rs rest in
    let sides : List ℕ = sides_printed r.left r.right in
    let guards : List ℕ = flat_map guard_printed r.guards in
    ap (λ (ys : List ℕ). codes "\nrule" ++ ys) (sides_shown None r.left r.right (guards_text 0 r.guards after))
    ∙ ap (λ (ys : List ℕ). codes "\nrule " ++ (sides ++ ys)) (guards_shown 0 r.guards after)
    ∙ ap (λ (ys : List ℕ). codes "\nrule " ++ (sides ++ (guards ++ ys)))
    (rules_shown version (n + 1) rs rest x h)
    ∙ ap (λ (ys : List ℕ). codes "\n" ++ ys) (sym (regroup_five (codes "rule ") sides guards (codes "\n") later x))

-- clauses
commas_shown : (n : ℕ) (es : List RawEq) (rest : List Marked) →
    shown false (commas_text n es rest) ≡ flat_map (λ u. codes ", " ++ u) (map equation_printed es) ++ shown false rest
commas_shown n [] rest = refl
commas_shown n (e ∷ es) rest =
    ap (λ (ys : List ℕ). codes "," ++ ys)
    (sides_shown (premise_mark n) e.left e.right (commas_text (n + 1) es rest))
    ∙ ap (λ (ys : List ℕ). codes ", " ++ (equation_printed e ++ ys)) (commas_shown (n + 1) es rest)
    ∙ sym (regroup_three (codes ", ") (equation_printed e)
    (flat_map (λ u. codes ", " ++ u) (map equation_printed es)) (shown false rest))

bars_shown : (n : ℕ) (es : List RawEq) (rest : List Marked) →
    shown false (bars_text n es rest) ≡ flat_map (λ u. codes " | " ++ u) (map equation_printed es) ++ shown false rest
bars_shown n [] rest = refl
bars_shown n (e ∷ es) rest =
    ap (λ (ys : List ℕ). codes " |" ++ ys)
    (sides_shown (conclusion_mark n) e.left e.right (bars_text (n + 1) es rest))
    ∙ ap (λ (ys : List ℕ). codes " | " ++ (equation_printed e ++ ys)) (bars_shown (n + 1) es rest)
    ∙ sym (regroup_three (codes " | ") (equation_printed e)
    (flat_map (λ u. codes " | " ++ u) (map equation_printed es)) (shown false rest))

premises_shown : (ps : List RawEq) (rest : List Marked) →
    shown false (premises_text ps rest) ≡ spaced (codes ", ") (map equation_printed ps) ++ shown false rest
premises_shown [] rest = refl
premises_shown (e ∷ es) rest =
    sides_shown (premise_mark 0) e.left e.right (commas_text 1 es rest)
    ∙ ap (λ (ys : List ℕ). codes " " ++ (equation_printed e ++ ys)) (commas_shown 1 es rest)
    ∙ sym (regroup_three (codes " ") (equation_printed e)
    (flat_map (λ u. codes ", " ++ u) (map equation_printed es)) (shown false rest))

conclusions_shown : (cs : List RawEq) (rest : List Marked) →
    shown false (conclusions_text cs rest) ≡ spaced (codes " | ") (map equation_printed cs) ++ shown false rest
conclusions_shown [] rest = refl
conclusions_shown (e ∷ es) rest =
    sides_shown (conclusion_mark 0) e.left e.right (bars_text 1 es rest)
    ∙ ap (λ (ys : List ℕ). codes " " ++ (equation_printed e ++ ys)) (bars_shown 1 es rest)
    ∙ sym (regroup_three (codes " ") (equation_printed e)
    (flat_map (λ u. codes " | " ++ u) (map equation_printed es)) (shown false rest))

clause_shown : (ps cs : List RawEq) (rest : List Marked) →
    shown false (clause_text ps cs rest) ≡ clause_printed ps cs ++ shown false rest
clause_shown [] [] rest = refl
clause_shown [] (c ∷ cs) rest = conclusions_shown (c ∷ cs) rest
clause_shown (p ∷ ps) cs rest =
    let premises : List ℕ = spaced (codes ", ") (map equation_printed (p ∷ ps)) in
    premises_shown (p ∷ ps) (sign Arrow ∷ conclusions_text cs rest)
    ∙ ap (λ (ys : List ℕ). premises ++ (codes " =>" ++ ys)) (conclusions_shown cs rest)
    ∙ sym (regroup_three premises (codes " =>") (spaced (codes " | ") (map equation_printed cs)) (shown false rest))

-- goals
bind_shown : (mark : Option LimitKind) (b : RawBind) (rest : List Marked) (inner : Bool) →
    shown inner (bind_text mark b rest) ≡ blank inner ++ (bind_printed b ++ shown false rest)
bind_shown mark b rest inner = ap (λ (ys : List ℕ). blank inner ++ ys)
    (sym (regroup_three b.name.name (codes " : ") b.sort.name (shown false rest)))

more_binds_shown : (n : ℕ) (bs : List RawBind) (rest : List Marked) →
    shown false (more_binds_text n bs rest) ≡ flat_map (λ u. codes ", " ++ u) (map bind_printed bs) ++ shown false rest
more_binds_shown n [] rest = refl
more_binds_shown n (b ∷ bs) rest =
    ap (λ (ys : List ℕ). codes "," ++ ys) (bind_shown (variable_mark n) b (more_binds_text (n + 1) bs rest)
    false) ∙ ap (λ (ys : List ℕ). codes ", " ++ (bind_printed b ++ ys)) (more_binds_shown (n + 1) bs rest)
    ∙ sym (regroup_three (codes ", ") (bind_printed b) (flat_map (λ u. codes ", " ++ u) (map bind_printed bs))
    (shown false rest))

binds_shown : (bs : List RawBind) (rest : List Marked) →
    shown false (binds_text bs rest) ≡ listed (map bind_printed bs) ++ shown false rest
binds_shown [] rest = refl
binds_shown (b ∷ bs) rest =
    let close : List Marked = sign RightPar ∷ rest in
    ap (λ (ys : List ℕ). codes "(" ++ ys) (bind_shown (variable_mark 0) b (more_binds_text 1 bs close) true)
    ∙ ap (λ (ys : List ℕ). codes "(" ++ (bind_printed b ++ ys)) (more_binds_shown 1 bs close)
    ∙ sym (regroup_four (codes "(") (bind_printed b) (flat_map (λ u. codes ", " ++ u) (map bind_printed bs))
    (codes ")") (shown false rest))

goals_shown : (n : ℕ) (gs : List RawGoal) (rest : List Marked) (x : List ℕ) → shown false rest ≡ codes "\n"
    ++ x → shown false (goals_text n gs rest) ≡ codes "\n" ++ (flat_map goal_line gs ++ x)
goals_shown n [] rest x h = h
goals_shown n (g ∷ gs) rest x h =
    let later : List ℕ = flat_map goal_line gs in
    let after : List Marked = goals_text (n + 1) gs rest in
    let binds : List ℕ = listed (map bind_printed g.binds) in
    let clause : List ℕ = clause_printed g.premises g.conclusions in
    ap (λ (ys : List ℕ). codes "\ngoal " ++ (g.head.name ++ ys))
    (binds_shown g.binds (sign Colon ∷ clause_text g.premises g.conclusions after))
    ∙ ap (λ (ys : List ℕ). codes "\ngoal " ++ (g.head.name ++ (binds ++ (codes " :" ++ ys))))
    (clause_shown g.premises g.conclusions after)
    ∙ ap (λ (ys : List ℕ). codes "\ngoal " ++ (g.head.name ++ (binds ++ (codes " :" ++ (clause ++ ys)))))
    (goals_shown (n + 1) gs rest x h)
    ∙ ap (λ (ys : List ℕ). codes "\n" ++ ys)
    (sym (regroup_seven (codes "goal ") g.head.name binds (codes " :") clause (codes "\n") later x))

-- the whole
parts_joined : (a s f e t o r g : List ℕ) →
    ((((((a ++ s) ++ f) ++ e) ++ t) ++ o) ++ r) ++ g ≡ a ++ (s ++ (f ++ (e ++ (t ++ (o ++ (r ++ (g ++ [])))))))
parts_joined a s f e t o r g = simp (append_assoc, append-nil)

-- the header before all other lines
headed : (version : ℕ) (x : List ℕ) → header_line version ++ x ≡ codes "spike "
    ++ (decimal version ++ (codes "\n" ++ x))
headed version x = regroup_three (codes "spike ") (decimal version) (codes "\n") x

pub printed_is : (raw : RawSpec) (w : List Marked) → IsPlainText raw w → printed raw ≡ shown true w
printed_is raw w p =
    let version = raw.version in
    let goals : List Marked = goals_text 0 raw.goals [] in
    let rules : List Marked = rules_text version 0 raw.rules goals in
    let goal_lines : List ℕ = flat_map goal_line raw.goals ++ [] in
    let rule_lines : List ℕ = flat_map rule_line raw.rules ++ goal_lines in
    let order_lines : List ℕ = order_line raw.order ++ rule_lines in
    let status_lines : List ℕ = flat_map status_line raw.statuses ++ order_lines in
    let equal_lines : List ℕ = flat_map equal_line raw.equals ++ status_lines in
    let fun_lines : List ℕ = flat_map fun_line raw.funs ++ equal_lines in
    let sort_lines : List ℕ = flat_map sort_line raw.sorts ++ fun_lines in
    let a = goals_shown 0 raw.goals [] [] refl in
    let b = rules_shown version 0 raw.rules goals goal_lines a in
    let c = ap (shown false) p.ordered.4 ∙ order_shown raw.order rules rule_lines b in
    let d = statuses_shown raw.statuses p.ordered.0 p.ordered.1 order_lines p.ordered.3 c in
    let e = equals_shown raw.equals p.order p.ordered.0 status_lines p.ordered.2 d in
    let f = funs_shown version 0 raw.funs p.order equal_lines e in
    let g = sorts_shown version 0 0 raw.sorts p.sorts (funs_text version 0 raw.funs p.order) fun_lines p.are f in
    let whole = ap (shown true) p.whole ∙ ap (λ (ys : List ℕ). codes "spike " ++ (decimal version ++ ys)) g in
    parts_joined (header_line version) (flat_map sort_line raw.sorts) (flat_map fun_line raw.funs)
    (flat_map equal_line raw.equals) (flat_map status_line raw.statuses) (order_line raw.order)
    (flat_map rule_line raw.rules) (flat_map goal_line raw.goals)
    ∙ headed version sort_lines ∙ sym whole
