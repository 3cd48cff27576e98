-- Marked tokens whose names are at other places, and texts of such tokens.
use Rattle.std.proofs.Common.{◌≡◌, inl, inr, ℕ, ◌+◌, List, [], ◌∷◌, Option, Some, None, length, refl, ap, sym, subst}
use Rattle.std.proofs.Common.{◌∙◌}
use Rattle.std.specs.List.{AllZip}
use Rattle.std.proofs.lemmas.List.Elements.{length_all_zip}
use Rattle.spec_grammar.specs.declared.keys.Key.{Key}
use Rattle.spec_grammar.specs.declared.keys.Key.TheVariants.{Spike, Sort, Fun, Equal, Status, Order, Rule, Goal}
use Rattle.spec_grammar.specs.declared.keys.Key.TheVariants.{LeftPar, RightPar, Comma, Colon, Equals, Bar, Arrow}
use Rattle.spec_grammar.specs.declared.limits.LimitKind.{LimitKind}
use Rattle.spec_grammar.specs.declared.raw.RawName.{RawName}
use Rattle.spec_grammar.specs.declared.raw.RawNames.{RawNames}
use Rattle.spec_grammar.specs.declared.raw.RawSort.{RawSort}
use Rattle.spec_grammar.specs.declared.raw.RawFun.{RawFun}
use Rattle.spec_grammar.specs.declared.raw.RawEqual.{RawEqual}
use Rattle.spec_grammar.specs.declared.raw.RawStatus.{RawStatus}
use Rattle.spec_grammar.specs.declared.raw.RawWeight.{RawWeight}
use Rattle.spec_grammar.specs.declared.raw.RawOrder.{RawOrder}
use Rattle.spec_grammar.specs.declared.raw.RawEq.{RawEq}
use Rattle.spec_grammar.specs.declared.raw.RawGuard.{RawGuard}
use Rattle.spec_grammar.specs.declared.raw.RawRule.{RawRule}
use Rattle.spec_grammar.specs.declared.raw.RawBind.{RawBind}
use Rattle.spec_grammar.specs.declared.raw.RawGoal.{RawGoal}
use Rattle.spec_grammar.specs.declared.raw.RawSpec.{RawSpec}
use Rattle.spec_grammar.specs.RawTree.{RawTree, RawTrees, word, none, some}
use Rattle.spec_grammar.specs.Items.{Item, Word, Sign, Number}
use Rattle.spec_grammar.specs.Limits.{name_mark, sort_mark, constructor_mark, fun_mark, arity_mark, term_mark}
use Rattle.spec_grammar.specs.Limits.{rule_mark, guard_mark, goal_mark, variable_mark, premise_mark, conclusion_mark}
use Rattle.spec_grammar.specs.Grammar.{Marked, sign, number, name_text, term_text, args_text, more_text}
use Rattle.spec_grammar.specs.Grammar.{more_names_text, names_text, con_text, constructors_text, AreSorts, funs_text}
use Rattle.spec_grammar.specs.Grammar.{more_equal_text, AreEquals, numeral_text, more_numbers_text, AreStatuses}
use Rattle.spec_grammar.specs.Grammar.{weight_text, more_weights_text, weights_text, order_text, guard_key}
use Rattle.spec_grammar.specs.Grammar.{guards_text, sides_text, rules_text, commas_text, bars_text, bind_text}
use Rattle.spec_grammar.specs.Grammar.{more_binds_text, binds_text, IsFormat}
use Rattle.spec_printing.specs.SamePlaces.{SameName, SameNames, SameTerm, SameTerms, SameSort, SameFun, SameEqual}
use Rattle.spec_printing.specs.SamePlaces.{SameStatus, SameWeight, SameOrder, SameEquation, SameGuard, SameRule}
use Rattle.spec_printing.specs.SamePlaces.{SameBind, SameGoal, IsSameButPlaces}
use Rattle.spec_printing.proofs.Plain.{clause_text, goals_text, IsPlainText}

-- one token, a name at any place, and then what follows
abbrev pub Step : Item → Option LimitKind → (List Marked → Type 0) → List Marked → Type 0
Step (Word name at) mark Next v = (place : ℕ) × (u : List Marked) × (v ≡ (Word name place, mark) ∷ u) × Next u
Step (Sign key) mark Next v = (u : List Marked) × (v ≡ (Sign key, mark) ∷ u) × Next u
Step (Number n) mark Next v = (u : List Marked) × (v ≡ (Number n, mark) ∷ u) × Next u

-- the second are the first, with names at other places
abbrev pub Moved : List Marked → List Marked → Type 0
Moved [] v = v ≡ []
Moved (x ∷ w) v = Step x.0 x.1 (Moved w) v

-- The tokens begin with a text of something that is the same apart from places.
pub record Moves {X : Type 0} (text : X → List Marked → List Marked) (Same : X → X → Type 0) (x : X)
    (rest v : List Marked) : Type 0 where
  pub it : X
  pub after : List Marked
  pub whole : v ≡ text it after
  pub same : Same it x
  pub moved : Moved rest after

-- names
name_moves : (mark : Option LimitKind) (n : RawName) (rest v : List Marked) → Moved (name_text mark n rest) v →
    Moves (name_text mark) SameName n rest v
name_moves mark n rest v h = record {
  it = record { name = n.name; at = h.0 };
  after = h.1;
  whole = h.2;
  same = refl;
  moved = h.3;
}

-- a key before a text
key_moves : {X : Type 0} (key : Key) (mark : Option LimitKind) (text : X → List Marked →
    List Marked) (Same : X → X → Type 0) (x : X) (rest v : List Marked) →
    ((u : List Marked) → Moved (text x rest) u → Moves text Same x rest u) →
    Moved ((Sign key, mark) ∷ text x rest) v → Moves (λ y w. (Sign key, mark) ∷ text y w) Same x rest v
key_moves key mark text Same x rest v each h =
    let a = each h.0 h.2 in
    record {
      it = a.it;
      after = a.after;
      whole = h.1 ∙ ap (λ (w : List Marked). (Sign key, mark) ∷ w) a.whole;
      same = a.same;
      moved = a.moved;
    }

-- the items of a list, each after a comma or a bar
behind_moves : {X : Type 0} (key : Key) (text : ℕ → List X → List Marked → List Marked) (item : ℕ → X →
    List Marked → List Marked) (Same : X → X → Type 0) → ((n : ℕ) (v : List Marked) → text n [] v ≡ v) →
    ((n : ℕ) (x : X) (xs : List X) (v : List Marked) →
    text n (x ∷ xs) v ≡ sign key ∷ item n x (text (n + 1) xs v)) →
    ((n : ℕ) (x : X) (rest v : List Marked) → Moved (item n x rest) v → Moves (item n) Same x rest v) →
    (n : ℕ) (xs : List X) (rest v : List Marked) → Moved (text n xs rest) v → Moves (text n) (AllZip Same) xs rest v
behind_moves key text item Same ends goes_on each n [] rest v
    h = record {
      it = [];
      after = v;
      whole = sym (ends n v);
      same = tt;
      moved = subst
          (λ (w : List Marked). Moved w v) (ends n rest) h;
    }
behind_moves key text item Same ends goes_on each n (x ∷ xs) rest v h =
    let later : List Marked = text (n + 1) xs rest in
    let a = key_moves key None (item n) Same x later v (each n x later)
    (subst (λ (w : List Marked). Moved w v) (goes_on n x xs rest) h) in
    let b = behind_moves key text item Same ends goes_on each (n + 1) xs rest a.after a.moved in
    record {
      it = a.it ∷ b.it;
      after = b.after;
      whole = a.whole ∙ ap (λ (w : List Marked). sign key ∷ item n a.it w) b.whole ∙ sym (goes_on n a.it b.it b.after);
      same = (a.same, b.same);
      moved = b.moved;
    }

-- the items of a list in parentheses, with commas between them
enclosed_moves : {X : Type 0} (whole : List X → List Marked → List Marked) (text : ℕ → List X → List Marked →
    List Marked) (item : X → List Marked → List Marked) (Same : X → X → Type 0) →
    ((v : List Marked) → whole [] v ≡ v) →
    ((x : X) (xs : List X) (v : List Marked) →
    whole (x ∷ xs) v ≡ sign LeftPar ∷ item x (text 1 xs (sign RightPar ∷ v))) →
    ((x : X) (rest v : List Marked) → Moved (item x rest) v → Moves item Same x rest v) →
    ((xs : List X) (rest v : List Marked) → Moved (text 1 xs rest) v → Moves (text 1) (AllZip Same) xs rest v) →
    (xs : List X) (rest v : List Marked) → Moved (whole xs rest) v → Moves whole (AllZip Same) xs rest v
enclosed_moves whole text item Same ends goes_on first others [] rest v
    h = record {
      it = [];
      after = v;
      whole = sym (ends v);
      same = tt;
      moved = subst
          (λ (w : List Marked). Moved w v) (ends rest) h;
    }
enclosed_moves whole text item Same ends goes_on first others (x ∷ xs) rest v h =
    let later : List Marked = text 1 xs (sign RightPar ∷ rest) in
    let a = key_moves LeftPar None item Same x later v (first x later)
    (subst (λ (w : List Marked). Moved w v) (goes_on x xs rest) h) in
    let b = others xs (sign RightPar ∷ rest) a.after a.moved in
    let close = b.moved in
    record {
      it = a.it ∷ b.it;
      after = close.0;
      whole = a.whole ∙ ap (λ (w : List Marked). sign LeftPar ∷ item a.it w)
          (b.whole ∙ ap (text 1 b.it) close.1) ∙ sym (goes_on a.it b.it close.0);
      same = (a.same, b.same);
      moved = close.2;
    }

more_names_moves : (n : ℕ) (xs : List RawName) (rest v : List Marked) → Moved (more_names_text n xs rest) v →
    Moves (more_names_text n) (AllZip SameName) xs rest v
more_names_moves n xs rest v h = behind_moves Comma more_names_text (λ n. name_text (arity_mark n)) SameName
    (λ n v. refl) (λ n x xs v. refl) (λ n. name_moves (arity_mark n)) n xs rest v h

names_moves : (xs : List RawName) (rest v : List Marked) → Moved (names_text xs rest) v →
    Moves names_text (AllZip SameName) xs rest v
names_moves xs rest v h = enclosed_moves names_text more_names_text (name_text (arity_mark 0)) SameName
    (λ v. refl) (λ x xs v. refl) (name_moves (arity_mark 0)) (more_names_moves 1) xs rest v h

con_moves : (mark : Option LimitKind) (c : RawNames) (rest v : List Marked) → Moved (con_text mark c rest) v →
    Moves (con_text mark) SameNames c rest v
con_moves mark c rest v h =
    let a = names_moves c.args rest h.1 h.3 in
    record {
      it = record { name = c.name; at = h.0; args = a.it };
      after = a.after;
      whole = h.2 ∙ ap (λ (w : List Marked). (Word c.name h.0, name_mark c.name mark) ∷ w) a.whole;
      same = (refl, a.same);
      moved = a.moved;
    }

constructors_moves : (version k t : ℕ) (cs : List RawNames) (rest v : List Marked) →
    Moved (constructors_text version k t cs rest) v → Moves (constructors_text version k t) (AllZip SameNames) cs rest v
constructors_moves version k t [] rest v h = record { it = []; after = v; whole = refl; same = tt; moved = h }
constructors_moves version k t (c ∷ cs) rest v h =
    let a = con_moves (constructor_mark version k t) c (constructors_text version (k + 1) (t + 1) cs rest) h.0 h.2 in
    let b = constructors_moves version (k + 1) (t + 1) cs rest a.after a.moved in
    record {
      it = a.it ∷ b.it;
      after = b.after;
      whole = h.1 ∙ ap (λ (w : List Marked). sign Bar ∷ w)
          (a.whole ∙ ap (con_text (constructor_mark version k t) a.it) b.whole);
      same = (a.same, b.same);
      moved = b.moved;
    }

-- sorts
-- A sort with its first constructor and the others.
record Declared : Type 0 where
  head : RawName
  first : RawNames
  others : List RawNames

abbrev declared_text : ℕ → ℕ → ℕ → Declared → List Marked → List Marked
declared_text version n t s rest = (Sign Sort, sort_mark n) ∷ name_text None s.head
    (sign Equals ∷ con_text (constructor_mark version 0 t) s.first (constructors_text version 1 (t + 1) s.others rest))

abbrev SameDeclared : Declared → Declared → Type 0
SameDeclared s u = SameName s.head u.head × SameNames s.first u.first × AllZip SameNames s.others u.others

declared_moves : (version n t : ℕ) (s : Declared) (rest v : List Marked) →
    Moved (declared_text version n t s rest) v → Moves (declared_text version n t) SameDeclared s rest v
declared_moves version n t s rest v h =
    let constructors : List Marked = constructors_text version 1 (t + 1) s.others rest in
    let a = name_moves None s.head (sign Equals ∷ con_text (constructor_mark version 0 t) s.first constructors)
    h.0 h.2 in
    let equals = a.moved in
    let b = con_moves (constructor_mark version 0 t) s.first constructors equals.0 equals.2 in
    let c = constructors_moves version 1 (t + 1) s.others rest b.after b.moved in
    record {
      it = record { head = a.it; first = b.it; others = c.it };
      after = c.after;
      whole = h.1 ∙ ap (λ (w : List Marked). (Sign Sort, sort_mark n) ∷ w)
          (a.whole ∙ ap (name_text None a.it) (equals.1
          ∙ ap (λ (w : List Marked). sign Equals ∷ w)
          (b.whole ∙ ap (con_text (constructor_mark version 0 t) b.it) c.whole)));
      same = (a.same, b.same, c.same);
      moved = c.moved;
    }

-- The tokens begin with a text of sorts that are the same apart from places.
record SortsMove (version n t : ℕ) (ss : List RawSort) (rest v : List Marked) : Type 0 where
  it : List RawSort
  after : List Marked
  whole : AreSorts version n t it v after
  same : AllZip SameSort it ss
  moved : Moved rest after

sorts_move : (version n t : ℕ) (ss : List RawSort) (w rest v : List Marked) → AreSorts version n t ss w rest →
    Moved w v → SortsMove version n t ss rest v
sorts_move version n t [] w rest v s h = record {
  it = [];
  after = v;
  whole = refl;
  same = tt;
  moved = subst
      (λ (x : List Marked). Moved x v) s h;
}
sorts_move version n t (s ∷ ss) w rest v a h =
    let declared : Declared = record { head = s.head; first = a.0; others = a.1 } in
    let m : Moves (declared_text version n t) SameDeclared declared a.2 v = declared_moves version n t declared
    a.2 v (subst (λ (x : List Marked). Moved x v) a.4 h) in
    let count : length a.1 ≡ length m.it.others = sym (length_all_zip SameNames m.it.others a.1 m.same.2) in
    let k : ℕ = t + 1 + length m.it.others in
    let next : AreSorts version (n + 1) k ss a.2 rest = subst
    (λ (i : ℕ). AreSorts version (n + 1) (t + 1 + i) ss a.2 rest) count a.5 in
    let b : SortsMove version (n + 1) k ss rest m.after = sorts_move version (n + 1) k ss a.2 rest m.after next
    m.moved in
    let constructors : List RawNames = m.it.first ∷ m.it.others in
    let same : AllZip SameNames constructors s.constructors = subst
    (λ (cs : List RawNames). AllZip SameNames constructors cs) (sym a.3) (m.same.1, m.same.2) in
    record {
      it = record { head = m.it.head; constructors = constructors } ∷ b.it;
      after = b.after;
      whole = (m.it.first, m.it.others, m.after, refl, m.whole, b.whole);
      same = ((m.same.0, same), b.same);
      moved = b.moved;
    }

-- functions
funs_moves : (version n : ℕ) (fs : List RawFun) (rest v : List Marked) → Moved (funs_text version n fs rest) v →
    Moves (funs_text version n) (AllZip SameFun) fs rest v
funs_moves version n [] rest v h = record { it = []; after = v; whole = refl; same = tt; moved = h }
funs_moves version n (f ∷ fs) rest v h =
    let a = con_moves None f.head (sign Colon ∷ name_text None f.result (funs_text version (n + 1) fs rest)) h.0 h.2 in
    let colon = a.moved in
    let b = name_moves None f.result (funs_text version (n + 1) fs rest) colon.0 colon.2 in
    let c = funs_moves version (n + 1) fs rest b.after b.moved in
    record {
      it = record { head = a.it; result = b.it } ∷ c.it;
      after = c.after;
      whole = h.1 ∙ ap (λ (w : List Marked). (Sign Fun, fun_mark version n) ∷ w)
          (a.whole ∙ ap (con_text None a.it)
          (colon.1 ∙ ap (λ (w : List Marked). sign Colon ∷ w) (b.whole ∙ ap (name_text None b.it) c.whole)));
      same = ((a.same, b.same), c.same);
      moved = c.moved;
    }

-- how functions are ordered
more_equal_moves : (xs : List RawName) (rest v : List Marked) → Moved (more_equal_text xs rest) v →
    Moves more_equal_text (AllZip SameName) xs rest v
more_equal_moves xs rest v h =
    behind_moves Comma (λ n. more_equal_text) (λ n. name_text None) SameName (λ n w. refl) (λ n y ys w. refl)
    (λ n. name_moves None) 0 xs rest v h

-- The tokens begin with a text of equal lines that are the same apart from places.
record EqualsMove (es : List RawEqual) (rest v : List Marked) : Type 0 where
  it : List RawEqual
  after : List Marked
  whole : AreEquals it v after
  same : AllZip SameEqual it es
  moved : Moved rest after

equals_move : (es : List RawEqual) (w rest v : List Marked) → AreEquals es w rest → Moved w v → EqualsMove es rest v
equals_move [] w rest v e h =
    record { it = []; after = v; whole = refl; same = tt; moved = subst (λ (x : List Marked). Moved x v) e h }
equals_move (e ∷ es) w rest v a h =
    let others : List Marked = more_equal_text a.2 a.3 in
    let line : Moved (sign Equal ∷ name_text None a.0 (sign Comma ∷ name_text None a.1 others)) v =
    subst (λ (x : List Marked). Moved x v) a.5 h in
    let first = name_moves None a.0 (sign Comma ∷ name_text None a.1 others) line.0 line.2 in
    let comma = first.moved in
    let second = name_moves None a.1 others comma.0 comma.2 in
    let more = more_equal_moves a.2 a.3 second.after second.moved in
    let b = equals_move es a.3 rest more.after a.6 more.moved in
    let names : List RawName = first.it ∷ second.it ∷ more.it in
    let same : AllZip SameName names e.names =
    subst (λ (xs : List RawName). AllZip SameName names xs) (sym a.4) (first.same, (second.same, more.same)) in
    let whole : v ≡ sign Equal ∷ name_text None first.it (more_equal_text (second.it ∷ more.it) more.after) =
    line.1 ∙ ap (λ (x : List Marked). sign Equal ∷ x) (first.whole ∙ ap (name_text None first.it)
    (comma.1 ∙ ap (λ (x : List Marked). sign Comma ∷ x) (second.whole ∙ ap (name_text None second.it) more.whole))) in
    record {
      it = record { names = names } ∷ b.it;
      after = b.after;
      whole = (first.it, second.it, more.it, more.after, refl, whole, b.whole);
      same = (same, b.same);
      moved = b.moved;
    }

-- numbers have no places
numbers_move : (n : ℕ) (is : List ℕ) (rest v : List Marked) → Moved (more_numbers_text n is rest) v →
    (after : List Marked) × (v ≡ more_numbers_text n is after) × Moved rest after
numbers_move n [] rest v h = (v, refl, h)
numbers_move n (i ∷ is) rest v h =
    let a = numbers_move (n + 1) is rest h.2.0 h.2.2 in
    (a.0, h.1 ∙ ap (λ (w : List Marked). sign Comma ∷ w) (h.2.1 ∙ ap (numeral_text (arity_mark n) i) a.1), a.2)

-- The tokens begin with a text of status lines that are the same apart from places.
record StatusesMove (ss : List RawStatus) (rest v : List Marked) : Type 0 where
  it : List RawStatus
  after : List Marked
  whole : AreStatuses it v after
  same : AllZip SameStatus it ss
  moved : Moved rest after

statuses_move :
    (ss : List RawStatus) (w rest v : List Marked) → AreStatuses ss w rest → Moved w v → StatusesMove ss rest v
statuses_move [] w rest v e h =
    record { it = []; after = v; whole = refl; same = tt; moved = subst (λ (x : List Marked). Moved x v) e h }
statuses_move (s ∷ ss) w rest v a h =
    let numbers : List Marked = numeral_text (arity_mark 0) a.0 (more_numbers_text 1 a.1 (sign RightPar ∷ a.2)) in
    let line : Moved (sign Status ∷ name_text None s.head (sign LeftPar ∷ numbers)) v =
    subst (λ (x : List Marked). Moved x v) a.4 h in
    let head = name_moves None s.head (sign LeftPar ∷ numbers) line.0 line.2 in
    let open_par = head.moved in
    let first = open_par.2 in
    let more = numbers_move 1 a.1 (sign RightPar ∷ a.2) first.0 first.2 in
    let close = more.2 in
    let b = statuses_move ss a.2 rest close.0 a.5 close.2 in
    let inside : open_par.0 ≡ numeral_text (arity_mark 0) a.0 (more_numbers_text 1 a.1 (sign RightPar ∷ close.0)) =
    first.1 ∙ ap (numeral_text (arity_mark 0) a.0) (more.1 ∙ ap (more_numbers_text 1 a.1) close.1) in
    let whole : v ≡ sign Status ∷ name_text None head.it (sign LeftPar ∷ numeral_text (arity_mark 0) a.0
    (more_numbers_text 1 a.1 (sign RightPar ∷ close.0))) =
    line.1 ∙ ap (λ (x : List Marked). sign Status ∷ x) (head.whole ∙ ap (name_text None head.it)
    (open_par.1 ∙ ap (λ (x : List Marked). sign LeftPar ∷ x) inside)) in
    record {
      it = record { head = head.it; numbers = a.0 ∷ a.1 } ∷ b.it;
      after = b.after;
      whole = (a.0, a.1, close.0, refl, whole, b.whole);
      same = ((head.same, sym a.3), b.same);
      moved = b.moved;
    }

-- the line of the order
weight_moves : (w : RawWeight) (rest v : List Marked) → Moved (weight_text w rest) v →
    Moves weight_text SameWeight w rest v
weight_moves w rest v h =
    let a = name_moves None w.name (sign Equals ∷ number w.weight ∷ rest) v h in
    let equals = a.moved in
    let weighed = equals.2 in
    record {
      it = record { name = a.it; weight = w.weight };
      after = weighed.0;
      whole = a.whole ∙ ap (name_text None a.it) (equals.1 ∙ ap (λ (x : List Marked). sign Equals ∷ x) weighed.1);
      same = (a.same, refl);
      moved = weighed.2;
    }

more_weights_moves : (ws : List RawWeight) (rest v : List Marked) → Moved (more_weights_text ws rest) v →
    Moves more_weights_text (AllZip SameWeight) ws rest v
more_weights_moves ws rest v h =
    behind_moves Comma (λ n. more_weights_text) (λ n. weight_text) SameWeight (λ n w. refl) (λ n y ys w. refl)
    (λ n. weight_moves) 0 ws rest v h

weights_moves : (ws : List RawWeight) (rest v : List Marked) → Moved (weights_text ws rest) v →
    Moves weights_text (AllZip SameWeight) ws rest v
weights_moves [] rest v h = record { it = []; after = v; whole = refl; same = tt; moved = h }
weights_moves (w ∷ ws) rest v h =
    let later : List Marked = more_weights_text ws rest in
    let a = key_moves Colon None weight_text SameWeight w later v (weight_moves w later) h in
    let b = more_weights_moves ws rest a.after a.moved in
    record {
      it = a.it ∷ b.it;
      after = b.after;
      whole = a.whole ∙ ap (λ (x : List Marked). sign Colon ∷ weight_text a.it x) b.whole;
      same = (a.same, b.same);
      moved = b.moved;
    }

order_moves : (line : Option RawOrder) (rest v : List Marked) → Moved (order_text line rest) v →
    Moves order_text SameOrder line rest v
order_moves None rest v h = record { it = None; after = v; whole = refl; same = tt; moved = h }
order_moves (Some o) rest v h =
    let a = name_moves None o.name (weights_text o.weights rest) h.0 h.2 in
    let b = weights_moves o.weights rest a.after a.moved in
    record {
      it = Some (record { name = a.it; weights = b.it });
      after = b.after;
      whole = h.1 ∙ ap (λ (x : List Marked). sign Order ∷ x) (a.whole ∙ ap (name_text None a.it) b.whole);
      same = (a.same, b.same);
      moved = b.moved;
    }

-- terms
mutual
  term_moves : (d : ℕ) (mark : Option LimitKind) (t : RawTree) (rest v : List Marked) →
      Moved (term_text d mark t rest) v → Moves (term_text d mark) SameTerm t rest v
  term_moves d mark (word name at ts) rest v h =
      let a = args_moves d ts rest h.1 h.3 in
      record {
        it = word name h.0 a.it;
        after = a.after;
        whole = h.2 ∙ ap (λ (w : List Marked). (Word name h.0, name_mark name mark) ∷ w) a.whole;
        same = (refl, a.same);
        moved = a.moved;
      }

  args_moves : (d : ℕ) (ts : RawTrees) (rest v : List Marked) → Moved (args_text d ts rest) v →
      Moves (args_text d) SameTerms ts rest v
  args_moves d none rest v h = record { it = none; after = v; whole = refl; same = tt; moved = h }
  args_moves d (some t ts) rest v h =
      let a = term_moves (d + 1) (term_mark (d + 1) 0) t (more_text (d + 1) 1 ts (sign RightPar ∷ rest)) h.0 h.2 in
      let b = more_moves (d + 1) 1 ts (sign RightPar ∷ rest) a.after a.moved in
      let c = b.moved in
      record {
        it = some a.it b.it;
        after = c.0;
        whole = h.1 ∙ ap (λ (w : List Marked). sign LeftPar ∷ w)
            (a.whole ∙ ap (term_text (d + 1) (term_mark (d + 1) 0) a.it) (b.whole ∙ ap (more_text (d + 1) 1 b.it) c.1));
        same = (a.same, b.same);
        moved = c.2;
      }

  more_moves : (d n : ℕ) (ts : RawTrees) (rest v : List Marked) → Moved (more_text d n ts rest) v →
      Moves (more_text d n) SameTerms ts rest v
  more_moves d n none rest v h = record { it = none; after = v; whole = refl; same = tt; moved = h }
  more_moves d n (some t ts) rest v h =
      let a = term_moves d (term_mark d n) t (more_text d (n + 1) ts rest) h.0 h.2 in
      let b = more_moves d (n + 1) ts rest a.after a.moved in
      record {
        it = some a.it b.it;
        after = b.after;
        whole = h.1 ∙ ap (λ (w : List Marked). sign Comma ∷ w)
            (a.whole ∙ ap (term_text d (term_mark d n) a.it) b.whole);
        same = (a.same, b.same);
        moved = b.moved;
      }

-- equations
abbrev equation_text : Option LimitKind → RawEq → List Marked → List Marked
equation_text mark e rest = sides_text mark e.left e.right rest

equation_moves : (mark : Option LimitKind) (e : RawEq) (rest v : List Marked) →
    Moved (equation_text mark e rest) v → Moves (equation_text mark) SameEquation e rest v
equation_moves mark e rest v h =
    let a = term_moves 0 mark e.left (sign Equals ∷ term_text 0 None e.right rest) v h in
    let equals = a.moved in
    let b = term_moves 0 None e.right rest equals.0 equals.2 in
    record {
      it = record { left = a.it; right = b.it };
      after = b.after;
      whole = a.whole ∙ ap (term_text 0 mark a.it) (equals.1 ∙ ap (λ (w : List Marked). sign Equals ∷ w) b.whole);
      same = (a.same, b.same);
      moved = b.moved;
    }

-- rules
guards_moves : (n : ℕ) (gs : List RawGuard) (rest v : List Marked) → Moved (guards_text n gs rest) v →
    Moves (guards_text n) (AllZip SameGuard) gs rest v
guards_moves n [] rest v h = record { it = []; after = v; whole = refl; same = tt; moved = h }
guards_moves n (g ∷ gs) rest v h =
    let a = term_moves 0 None g.test (guards_text (n + 1) gs rest) h.0 h.2 in
    let b = guards_moves (n + 1) gs rest a.after a.moved in
    record {
      it = record { test = a.it; wanted = g.wanted } ∷ b.it;
      after = b.after;
      whole = h.1 ∙ ap (λ (w : List Marked). (Sign (guard_key g.wanted), guard_mark n) ∷ w)
          (a.whole ∙ ap (term_text 0 None a.it) b.whole);
      same = ((a.same, refl), b.same);
      moved = b.moved;
    }

rules_moves : (version n : ℕ) (rs : List RawRule) (rest v : List Marked) →
    Moved (rules_text version n rs rest) v → Moves (rules_text version n) (AllZip SameRule) rs rest v
rules_moves version n [] rest v h = record { it = []; after = v; whole = refl; same = tt; moved = h }
rules_moves version n (r ∷ rs) rest v h =
    let a = equation_moves None (record { left = r.left; right = r.right })
    (guards_text 0 r.guards (rules_text version (n + 1) rs rest)) h.0 h.2 in
    let b = guards_moves 0 r.guards (rules_text version (n + 1) rs rest) a.after a.moved in
    let c = rules_moves version (n + 1) rs rest b.after b.moved in
    record {
      it = record { left = a.it.left; right = a.it.right; guards = b.it } ∷ c.it;
      after = c.after;
      whole = h.1 ∙ ap (λ (w : List Marked). (Sign Rule, rule_mark version n) ∷ w)
          (a.whole ∙ ap (equation_text None a.it) (b.whole ∙ ap (guards_text 0 b.it) c.whole));
      same = ((a.same.0, a.same.1, b.same), c.same);
      moved = c.moved;
    }

-- clauses
commas_moves : (n : ℕ) (es : List RawEq) (rest v : List Marked) → Moved (commas_text n es rest) v →
    Moves (commas_text n) (AllZip SameEquation) es rest v
commas_moves n es rest v h = behind_moves Comma commas_text (λ n. equation_text (premise_mark n)) SameEquation
    (λ n v. refl) (λ n e es v. refl) (λ n. equation_moves (premise_mark n)) n es rest v h

bars_moves : (n : ℕ) (es : List RawEq) (rest v : List Marked) → Moved (bars_text n es rest) v →
    Moves (bars_text n) (AllZip SameEquation) es rest v
bars_moves n es rest v h = behind_moves Bar bars_text (λ n. equation_text (conclusion_mark n)) SameEquation
    (λ n v. refl) (λ n e es v. refl) (λ n. equation_moves (conclusion_mark n)) n es rest v h

-- The tokens begin with a text of a clause that is the same apart from places.
record ClauseMoves (ps cs : List RawEq) (rest v : List Marked) : Type 0 where
  premises : List RawEq
  conclusions : List RawEq
  after : List Marked
  whole : v ≡ clause_text premises conclusions after
  same_premises : AllZip SameEquation premises ps
  same_conclusions : AllZip SameEquation conclusions cs
  moved : Moved rest after

clause_moves : (ps cs : List RawEq) (rest v : List Marked) → Moved (clause_text ps cs rest) v → ClauseMoves ps cs rest v
clause_moves [] [] rest v h = record {
  premises = [];
  conclusions = [];
  after = h.0;
  whole = h.1;
  same_premises = tt;
  same_conclusions = tt;
  moved = h.2;
}
clause_moves [] (c ∷ cs) rest v h =
    let a = equation_moves (conclusion_mark 0) c (bars_text 1 cs rest) v h in
    let b = bars_moves 1 cs rest a.after a.moved in
    record {
      premises = [];
      conclusions = a.it ∷ b.it;
      after = b.after;
      whole = a.whole ∙ ap (equation_text (conclusion_mark 0) a.it) b.whole;
      same_premises = tt;
      same_conclusions = (a.same, b.same);
      moved = b.moved;
    }
clause_moves (p ∷ ps) [] rest v h =
    let a = equation_moves (premise_mark 0) p (commas_text 1 ps (sign Arrow ∷ rest)) v h in
    let b = commas_moves 1 ps (sign Arrow ∷ rest) a.after a.moved in
    let arrow = b.moved in
    record {
      premises = a.it ∷ b.it;
      conclusions = [];
      after = arrow.0;
      whole = a.whole ∙ ap (equation_text (premise_mark 0) a.it) (b.whole ∙ ap (commas_text 1 b.it) arrow.1);
      same_premises = (a.same, b.same);
      same_conclusions = tt;
      moved = arrow.2;
    }
clause_moves (p ∷ ps) (c ∷ cs) rest v h =
    let a = equation_moves (premise_mark 0) p
    (commas_text 1 ps (sign Arrow ∷ sides_text (conclusion_mark 0) c.left c.right (bars_text 1 cs rest))) v h in
    let b = commas_moves 1 ps (sign Arrow ∷ sides_text (conclusion_mark 0) c.left c.right (bars_text 1 cs rest))
    a.after a.moved in
    let arrow = b.moved in
    let e = equation_moves (conclusion_mark 0) c (bars_text 1 cs rest) arrow.0 arrow.2 in
    let f = bars_moves 1 cs rest e.after e.moved in
    let behind : arrow.0 ≡ equation_text (conclusion_mark 0) e.it (bars_text 1 f.it f.after) = e.whole
    ∙ ap (equation_text (conclusion_mark 0) e.it) f.whole in
    record {
      premises = a.it ∷ b.it;
      conclusions = e.it ∷ f.it;
      after = f.after;
      whole = a.whole ∙ ap (equation_text (premise_mark 0) a.it)
          (b.whole ∙ ap (commas_text 1 b.it) (arrow.1 ∙ ap (λ (w : List Marked). sign Arrow ∷ w) behind));
      same_premises = (a.same, b.same);
      same_conclusions = (e.same, f.same);
      moved = f.moved;
    }

-- goals
bind_moves : (mark : Option LimitKind) (b : RawBind) (rest v : List Marked) → Moved (bind_text mark b rest) v →
    Moves (bind_text mark) SameBind b rest v
bind_moves mark b rest v h =
    let a = name_moves mark b.name (sign Colon ∷ name_text None b.sort rest) v h in
    let colon = a.moved in
    let c = name_moves None b.sort rest colon.0 colon.2 in
    record {
      it = record { name = a.it; sort = c.it };
      after = c.after;
      whole = a.whole ∙ ap (name_text mark a.it) (colon.1 ∙ ap (λ (w : List Marked). sign Colon ∷ w) c.whole);
      same = (a.same, c.same);
      moved = c.moved;
    }

more_binds_moves : (n : ℕ) (bs : List RawBind) (rest v : List Marked) → Moved (more_binds_text n bs rest) v →
    Moves (more_binds_text n) (AllZip SameBind) bs rest v
more_binds_moves n bs rest v h = behind_moves Comma more_binds_text (λ n. bind_text (variable_mark n)) SameBind
    (λ n v. refl) (λ n b bs v. refl) (λ n. bind_moves (variable_mark n)) n bs rest v h

binds_moves : (bs : List RawBind) (rest v : List Marked) → Moved (binds_text bs rest) v →
    Moves binds_text (AllZip SameBind) bs rest v
binds_moves bs rest v h = enclosed_moves binds_text more_binds_text (bind_text (variable_mark 0)) SameBind
    (λ v. refl) (λ b bs v. refl) (bind_moves (variable_mark 0)) (more_binds_moves 1) bs rest v h

goals_moves : (n : ℕ) (gs : List RawGoal) (rest v : List Marked) → Moved (goals_text n gs rest) v →
    Moves (goals_text n) (AllZip SameGoal) gs rest v
goals_moves n [] rest v h = record { it = []; after = v; whole = refl; same = tt; moved = h }
goals_moves n (g ∷ gs) rest v h =
    let later : List Marked = goals_text (n + 1) gs rest in
    let clause : List Marked = clause_text g.premises g.conclusions later in
    let a = name_moves None g.head (binds_text g.binds (sign Colon ∷ clause)) h.0 h.2 in
    let b = binds_moves g.binds (sign Colon ∷ clause) a.after a.moved in
    let colon = b.moved in
    let c = clause_moves g.premises g.conclusions later colon.0 colon.2 in
    let d = goals_moves (n + 1) gs rest c.after c.moved in
    let behind : colon.0 ≡ clause_text c.premises c.conclusions (goals_text (n + 1) d.it d.after) = c.whole
    ∙ ap (clause_text c.premises c.conclusions) d.whole in
    record {
      it = record { head = a.it; binds = b.it; premises = c.premises; conclusions = c.conclusions } ∷ d.it;
      after = d.after;
      whole = h.1 ∙ ap (λ (w : List Marked). (Sign Goal, goal_mark n) ∷ w)
          (a.whole ∙ ap (name_text None a.it)
          (b.whole ∙ ap (binds_text b.it) (colon.1 ∙ ap (λ (w : List Marked). sign Colon ∷ w) behind)));
      same = (
        record {
          head = a.same;
          binds = b.same;
          premises = c.same_premises;
          conclusions = c.same_conclusions;
        },
        d.same,
      );
      moved = d.moved;
    }

-- lists of as many elements are both empty
as_empty : {X : Type 0} (Same : X → X → Type 0) (xs ys : List X) → AllZip Same xs ys → ys ≡ [] → xs ≡ []
as_empty Same [] ys all e = refl
as_empty Same (x ∷ xs) [] all e = absurd all
as_empty Same (x ∷ xs) (y ∷ ys) all e = absurd (let bad : y ∷ ys ≡ [] = e in cc)

no_order : (o p : Option RawOrder) → SameOrder o p → p ≡ None → o ≡ None
no_order None p s e = refl
no_order (Some o) None s e = absurd s
no_order (Some o) (Some p) s e = absurd (let bad : ◌≡◌ {A = Option RawOrder} (Some p) None = e in cc)

-- the format of a raw specification has nothing to do with places
same_format :
    (again raw : RawSpec) → again.version ≡ raw.version → AllZip SameEqual again.equals raw.equals →
    AllZip SameStatus again.statuses raw.statuses → SameOrder again.order raw.order → IsFormat raw → IsFormat again
same_format again raw n e s o (inl one) =
    inl (
      n ∙ one.0,
      as_empty SameEqual again.equals raw.equals e one.1,
      as_empty SameStatus again.statuses raw.statuses s one.2,
      no_order again.order raw.order o one.3,
    )
same_format again raw n e s o (inr two) = inr (n ∙ two)

-- tokens of a raw specification with names at other places are those of one that is the same apart from places
pub spec_moves : (raw : RawSpec) (w v : List Marked) → IsPlainText raw w → Moved w v →
    (again : RawSpec) × IsPlainText again v × IsSameButPlaces again raw
spec_moves raw w v p h =
    let version = raw.version in
    let m : Moved (sign Spike ∷ number version ∷ p.sorts) v = subst (λ (x : List Marked). Moved x v) p.whole h in
    let after = m.2 in
    let goals : List Marked = goals_text 0 raw.goals [] in
    let rules : List Marked = rules_text version 0 raw.rules goals in
    let s = sorts_move version 0 0 raw.sorts p.sorts (funs_text version 0 raw.funs p.order) after.0 p.are after.2 in
    let f = funs_moves version 0 raw.funs p.order s.after s.moved in
    let e = equals_move raw.equals p.order p.ordered.0 f.after p.ordered.2 f.moved in
    let t = statuses_move raw.statuses p.ordered.0 p.ordered.1 e.after p.ordered.3 e.moved in
    let o = order_moves raw.order rules t.after (subst (λ (x : List Marked). Moved x t.after) p.ordered.4 t.moved) in
    let r = rules_moves version 0 raw.rules goals o.after o.moved in
    let g = goals_moves 0 raw.goals [] r.after r.moved in
    let rest : o.after ≡ rules_text version 0 r.it (goals_text 0 g.it []) =
    r.whole ∙ ap (rules_text version 0 r.it) (g.whole ∙ ap (goals_text 0 g.it) g.moved) in
    let again : RawSpec = record {
      version = version;
      sorts = s.it;
      funs = f.it;
      equals = e.it;
      statuses = t.it;
      order = o.it;
      rules = r.it;
      goals = g.it;
    } in (
      again,
      record {
        sorts = after.0;
        order = f.after;
        whole = m.1 ∙ ap (λ (x : List Marked). sign Spike ∷ x) after.1;
        are = subst (λ (x : List Marked). AreSorts version 0 0 s.it after.0 x) f.whole s.whole;
        ordered = (e.after, t.after, e.whole, t.whole, o.whole ∙ ap (order_text o.it) rest);
        format = same_format again raw refl e.same t.same o.same p.format;
      },
      record {
        version = refl;
        sorts = s.same;
        funs = f.same;
        equals = e.same;
        statuses = t.same;
        order = o.same;
        rules = r.same;
        goals = g.same;
      },
    )
