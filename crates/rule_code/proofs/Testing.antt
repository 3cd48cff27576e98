-- Tests of places are tests of their terms.
use Rattle.std.proofs.Common.{◌≡◌, ◌≢◌, ◌⊎◌, ◌↔◌, inl, inr, ℕ, zero, suc, ◌+◌, ◌<◌, ◌≤◌, List, [], ◌∷◌, ◌++◌, Some}
use Rattle.std.proofs.Common.{None, Bool, true, false, refl, ap, sym, ◌∙◌, subst, arith, length, length-append}
use Rattle.std.proofs.Common.{append_assoc, take, drop, get_or}
use Rattle.std.specs.Prelude.{slice_get, IsTrue}
use Rattle.std.proofs.lemmas.List.{append-nil, drop-append-le}
use Rattle.std.proofs.lemmas.Option.{slice_get_within, slice_get-get_or}
use Rattle.term_core.proofs.Items.{drop_here}
use Rattle.term_core.specs.Tree.{Tree, Trees, var, app, none, some, instance, trees_of, list_of}
use Rattle.spec_core.specs.declared.records.Rule.{Rule}
use Rattle.value_bank.specs.Cells.{Cell, cell, IsTerm, AreTerms}
use Rattle.value_bank.proofs.Terms.{same_cell}
use Rattle.rule_code.specs.declared.tests.Test.{Test}
use Rattle.rule_code.specs.declared.tests.Repeat.{Repeat}
use Rattle.rule_code.specs.declared.left_sides.LeftSide.{LeftSide}
use Rattle.rule_code.specs.Matching.{Opens, opened, passed, opens, test, Passes, Unpacks, Fails, HaveHomes}
use Rattle.rule_code.specs.Homes.{IsLeftSide, repeat}
use Rattle.rule_code.specs.Matched.{AreSame, Extends, Grows, MatchBy, Fits, Tells}
use Rattle.rule_code.proofs.Matches.{some_slot, tests_decide, repeats_decide, unpacked_count}
use Rattle.rule_code.proofs.Joined.{joined, take_whole}

pub trees_list : (ts : Trees) → trees_of (list_of ts) ≡ ts
trees_list none = refl
trees_list (some t ts) = ap (λ z. some t z) (trees_list ts)

pub terms_count : (cells : List Cell) (ps : List ℕ) (ts : List Tree) → AreTerms cells ps (trees_of ts) →
    length ts ≡ length ps
terms_count cells [] [] h = refl
terms_count cells [] (t ∷ ts) h = absurd h
terms_count cells (p ∷ ps) [] h = absurd h
terms_count cells (p ∷ ps) (t ∷ ts) h = ap suc (terms_count cells ps ts h.1)

-- the place of a term among places of terms
pub place_of_term : (cells : List Cell) (ps : List ℕ) (ts : List Tree) (k : ℕ) (v : Tree) →
    AreTerms cells ps (trees_of ts) → slice_get ts k ≡ Some v → (p : ℕ) × (slice_get ps k ≡ Some p) × IsTerm cells p v
place_of_term cells ps [] k v h e = absurd (let q : None ≡ Some v = e in cc)
place_of_term cells [] (t ∷ ts) k v h e = absurd h
place_of_term cells (p ∷ ps) (t ∷ ts) zero v h e =
    let q : Some t ≡ Some v = e in
    let is : t ≡ v = cc in
    (p, refl, subst (λ z. IsTerm cells p z) is h.0)
place_of_term cells (p ∷ ps) (t ∷ ts) (suc k) v h e = place_of_term cells ps ts k v h.1 e

get_dropped : (xs : List ℕ) (base k p : ℕ) → slice_get (drop base xs) k ≡ Some p → slice_get xs (base + k) ≡ Some p
get_dropped xs zero k p e =
    let z : 0 + k ≡ k = omega arith in
    subst (λ n. slice_get xs n ≡ Some p) (sym z) e
get_dropped [] (suc base) k p e = absurd (let q : None ≡ Some p = e in cc)
get_dropped (x ∷ xs) (suc base) k p e =
    let z : suc base + k ≡ suc (base + k) = omega arith in
    subst (λ n. slice_get (x ∷ xs) n ≡ Some p) (sym z) (get_dropped xs base k p e)

pub read_is : (xs : List ℕ) (i p d : ℕ) → slice_get xs i ≡ Some p → get_or xs i d ≡ p
read_is [] i p d e = absurd (let q : None ≡ Some p = e in cc)
read_is (x ∷ xs) zero p d e = let q : Some x ≡ Some p = e in cc
read_is (x ∷ xs) (suc i) p d e = read_is xs i p d e

-- the place of a slot
pub record SlotPlace (cells : List Cell) (places : List ℕ) (base k : ℕ) (v : Tree) : Type 0 where
  pub place : ℕ
  pub at : slice_get places (base + k) ≡ Some place
  pub is : IsTerm cells place v

pub slot_place : (cells : List Cell) (places : List ℕ) (base k : ℕ) (ts : List Tree) (v : Tree) →
    AreTerms cells (drop base places) (trees_of ts) → slice_get ts k ≡ Some v → SlotPlace cells places base k v
slot_place cells places base k ts v h at =
    let p = place_of_term cells (drop base places) ts k v h at in
    record { place = p.0; at = get_dropped places base k p.0 p.1; is = p.2 }

pub slot_within : {cells : List Cell} {places : List ℕ} {base k : ℕ} {v : Tree} →
    SlotPlace cells places base k v → base + k < length places
slot_within {places} {base} {k} s = slice_get_within places (base + k) s.place s.at

-- what is read at the slot's place
pub slot_read : {cells : List Cell} {places : List ℕ} {base k : ℕ} {v : Tree} →
    SlotPlace cells places base k v → (p : ℕ) → p ≡ get_or places (base + k) p → IsTerm cells p v
slot_read {cells} {places} {base} {k} {v} s p e = subst (λ z. IsTerm cells z v)
    (sym (e ∙ read_is places (base + k) s.place p s.at)) s.is

-- the next test opens a pattern
record Opened (now : List Tree) (rest : List Test) (all : List Tree) (t : Test) : Type 0 where
  at : ℕ
  sym : ℕ
  args : List Tree
  is : t ≡ test at sym (length args)
  there : slice_get now at ≡ Some (app sym (trees_of args))
  goes : Opens (now ++ args) (suc at) rest all

next_test : {now all : List Tree} {k : ℕ} {tests : List Test} (t : Test) (rest : List Test) →
    Opens now k tests all → tests ≡ t ∷ rest → Opened now rest all t
next_test t rest (opened h) e = absurd (let q : [] ≡ t ∷ rest = e in cc)
next_test t rest (passed n at o) e = next_test t rest o e
next_test t rest (opens {pats} {all} {k} {tests} f us at o) e =
    let q : (test k f (length us) ∷ tests) ≡ (t ∷ rest) = e in
    let a : test k f (length us) ≡ t = cc in
    let b : tests ≡ rest = cc in
    record {
      at = k;
      sym = f;
      args = us;
      is = sym a;
      there = at;
      goes = subst
          (λ z. Opens (pats ++ us) (suc k) z all) b o;
    }

-- how far the tests have come: what the rest says from here it says from the start
pub record IsPassing (cells : List Cell) (base : ℕ) (places : List ℕ) (env : List Tree) (tests rest : List Test)
    (all : List Tree) : Type 0 where
  pub now : List Tree
  pub grown : List Tree
  pub at : ℕ
  pub terms : AreTerms cells (drop base places) (trees_of grown)
  pub count : length grown ≡ length now
  pub opens : Opens now at rest all
  pub passes : (g : List Tree) → Unpacks grown rest g → Unpacks env tests g
  pub fails : Fails grown rest → Fails env tests

-- the same of all terms that may be there, if the first i tests have passed
abbrev pub ArePassing : List Cell → ℕ → List ℕ → List ℕ → List Test → ℕ → Type 0
ArePassing cells base start places tests i = (env pats all : List Tree) → Opens pats 0 tests all →
    AreTerms cells (drop base start) (trees_of env) → length env ≡ length pats →
    IsPassing cells base places env tests (drop i tests) all

pub passing_here : (cells : List Cell) (base : ℕ) (start places : List ℕ) (tests : List Test) (i : ℕ)
    (d : Test) → ArePassing cells base start places tests i → i < length tests → (env pats all : List Tree) →
    Opens pats 0 tests all → AreTerms cells (drop base start) (trees_of env) → length env ≡ length pats →
    IsPassing cells base places env tests (get_or tests i d ∷ drop (i + 1) tests) all
passing_here cells base start places tests i d h lt env pats all o t n = subst
    (λ z. IsPassing cells base places env tests z all)
    (drop_here tests i (get_or tests i d) (slice_get-get_or tests i d lt)) (h env pats all o t n)

pub passing_begins : (cells : List Cell) (base : ℕ) (places : List ℕ) (env pats all : List Tree)
    (tests : List Test) → Opens pats 0 tests all → AreTerms cells (drop base places) (trees_of env) →
    length env ≡ length pats → IsPassing cells base places env tests tests all
passing_begins cells base places env pats all tests o h n = record {
  now = pats;
  grown = env;
  at = 0;
  terms = h;
  count = n;
  opens = o;
  passes = λ g u. u;
  fails = λ f. f;
}

module _ (cells : List Cell) (base : ℕ) (places : List ℕ) (env : List Tree) (tests : List Test) (t : Test)
    (rest : List Test) (all : List Tree) (h : IsPassing cells base places env tests (t ∷ rest) all) where
  o : Opened h.now rest all t
  o = next_test t rest h.opens refl

  slot_at : t.slot ≡ o.at
  slot_at = ap (λ (z : Test). z.slot) o.is

  value : Tree
  value = instance h.grown (var t.slot)

  value_there : slice_get h.grown t.slot ≡ Some (instance h.grown (var t.slot))
  value_there = some_slot h.grown t.slot
      (omega (arith, slot_at, h.count, slice_get_within h.now o.at (app o.sym (trees_of o.args)) o.there))

  pub tested_place : SlotPlace cells places base t.slot (instance h.grown (var t.slot))
  tested_place = slot_place cells places base t.slot h.grown (instance h.grown (var t.slot)) h.terms value_there

  module _ (p f : ℕ) (args : List ℕ) (read : p ≡ get_or places (base + t.slot) p)
      (at : slice_get cells p ≡ Some (cell f args)) where
    -- the value of the tested slot
    record Value : Type 0 where
      terms : List Tree
      is : instance h.grown (var t.slot) ≡ app f (trees_of terms)
      are : AreTerms cells args (trees_of terms)

    the_value : Value
    the_value = by (instance h.grown (var t.slot)) refl (slot_read tested_place p read)
      where
        by : (v : Tree) → instance h.grown (var t.slot) ≡ v → IsTerm cells p v → Value
        by (var n) e k = absurd k
        by (app g ts) e (ps, at', k) =
            let s = same_cell cells p g f ps args at' at in
            record {
              terms = list_of ts;
              is = e ∙ ap (λ z. app z ts) s.0 ∙ ap (λ z. app f z) (sym (trees_list ts));
              are = subst (λ z. AreTerms cells args z) (sym (trees_list ts)) (subst (λ z. AreTerms cells z ts) s.1 k);
            }

    pub test_passed : f ≡ t.sym → length args ≡ t.count → (more : List ℕ) → more ≡ places ++ args →
        base ≤ length places → IsPassing cells base more env tests rest all
    test_passed e n more is le =
        let v = the_value in
        let count : length v.terms ≡ t.count = terms_count cells args v.terms v.are ∙ n in
        let passes : Passes h.grown t v.terms = (v.is ∙ ap (λ z. app z (trees_of v.terms)) e, count) in
        let terms : AreTerms cells (drop base more) (trees_of (h.grown ++ v.terms)) = subst
        (λ z. AreTerms cells (drop base z) (trees_of (h.grown ++ v.terms))) (sym is)
        (subst (λ z. AreTerms cells z (trees_of (h.grown ++ v.terms)))
        (sym (drop-append-le base places args le))
        (joined cells (drop base places) args h.grown v.terms h.terms v.are)) in
        record {
          now = h.now ++ o.args;
          grown = h.grown ++ v.terms;
          at = suc o.at;
          terms = terms;
          count = omega (
            arith,
            length-append h.grown v.terms,
            length-append h.now o.args,
            h.count,
            count,
            ap (λ (z : Test). z.count) o.is,
          );
          opens = o.goes;
          passes = λ g u. h.passes g (v.terms, passes, u);
          fails = λ x. h.fails (inr (v.terms, passes, x));
        }

    pub test_failed : (f ≢ t.sym) ⊎ (length args ≢ t.count) → Fails env tests
    test_failed other = h.fails (inl (λ us p. by us p other))
      where
        by : (us : List Tree) → Passes h.grown t us → (f ≢ t.sym) ⊎ (length args ≢ t.count) → ⊥
        by us p d =
            let v = the_value in
            let e : app f (trees_of v.terms) ≡ app t.sym (trees_of us) = sym v.is ∙ p.0 in
            let s : f ≡ t.sym = cc in
            let same : trees_of v.terms ≡ trees_of us = cc in
            let n : length args ≡ t.count = sym (terms_count cells args v.terms v.are) ∙ lengths v.terms us same
            ∙ p.1 in
            elim d [ inl x ↦ x s | inr x ↦ x n ]
          where
            lengths : (xs ys : List Tree) → trees_of xs ≡ trees_of ys → length xs ≡ length ys
            lengths [] [] e = refl
            lengths [] (y ∷ ys) e = absurd (let q : none ≡ some y (trees_of ys) = e in cc)
            lengths (x ∷ xs) [] e = absurd (let q : some x (trees_of xs) ≡ none = e in cc)
            lengths (x ∷ xs) (y ∷ ys) e =
                let q : some x (trees_of xs) ≡ some y (trees_of ys) = e in
                let r : trees_of xs ≡ trees_of ys = cc in
                ap suc (lengths xs ys r)

-- all tests have passed
pub passing_ends : (cells : List Cell) (base : ℕ) (places : List ℕ) (env : List Tree) (tests rest : List Test)
    (all : List Tree) → rest ≡ [] → IsPassing cells base places env tests rest all →
    (grown : List Tree) × Grows cells base env tests places grown
passing_ends cells base places env tests rest all e h = (
  h.grown,
  (h.terms, h.passes h.grown (subst (λ z. Unpacks h.grown z h.grown) (sym e) refl)),
)

pub extends_more : (old mid new args : List ℕ) → Extends old mid → new ≡ mid ++ args → Extends old new
extends_more old mid new args x e = (x.0 ++ args, e ∙ ap (λ z. z ++ args) x.1 ∙ append_assoc old x.0 args)

pub extends_nothing : (xs : List ℕ) → Extends xs xs
extends_nothing xs = ([], sym (append-nil xs))

pub extends_length : (old new : List ℕ) → Extends old new → length old ≤ length new
extends_length old new x = omega (arith, ap length x.1, length-append old x.0)

-- what is read at a slot's place, if it is a number
pub slot_term : {cells : List Cell} {places : List ℕ} {base k : ℕ} {v : Tree} →
    SlotPlace cells places base k v → IsTerm cells (get_or places (base + k) 0) v
slot_term {cells} {places} {base} {k} {v} s = subst (λ z. IsTerm cells z v)
    (sym (read_is places (base + k) s.place 0 s.at)) s.is

-- the slots of a repeat
module _ (cells : List Cell) (base : ℕ) (places : List ℕ) (grown : List Tree)
    (terms : AreTerms cells (drop base places) (trees_of grown)) where
  pub slot_there : (k : ℕ) → k < length grown → SlotPlace cells places base k (instance grown (var k))
  slot_there k lt = slot_place cells places base k grown (instance grown (var k)) terms (some_slot grown k lt)

  -- as many slots as other terms that are there have
  pub same_count : (other : List Tree) → AreTerms cells (drop base places) (trees_of other) →
      length grown ≡ length other
  same_count other h = terms_count cells (drop base places) grown terms
      ∙ sym (terms_count cells (drop base places) other h)

module _ (rule : Rule) (left : LeftSide) (side : IsLeftSide rule left) (env grown : List Tree)
    (count : length env ≡ length side.patterns) (unpacks : Unpacks env left.tests.items grown) where
  -- the slots of repeats are there
  pub repeats_there : (k : ℕ) (r : Repeat) → slice_get left.repeats.items k ≡ Some r → (r.first < length grown)
      × (r.again < length grown)
  repeats_there k r at =
      let q = side.repeats.right k r at in
      let n = unpacked_count env grown side.opens count unpacks in (
        omega (arith, slice_get_within side.all r.first (var q.0) q.1, n),
        omega (arith, slice_get_within side.all r.again (var q.0) q.2, n),
      )

  -- if they have one value, each variable has one
  pub have_homes : AreSame grown left.repeats.items → HaveHomes side.all left.homes.items grown
  have_homes same s n at =
      let lt : n < length left.homes.items = omega (arith, side.variables s n at, side.homes.counted) in
      let h = get_or left.homes.items n 0 in
      let home : slice_get left.homes.items n ≡ Some (get_or left.homes.items n 0) = slice_get-get_or
      left.homes.items n 0 lt in
      (h, home, by h (side.repeats.each s n h at home))
    where
      by : (h : ℕ) → (h ≡ s) ⊎ ((k : ℕ) × (slice_get left.repeats.items k ≡ Some (repeat h s))) →
          instance grown (var h) ≡ instance grown (var s)
      by h (inl e) = ap (λ z. instance grown (var z)) e
      by h (inr p) = same p.0 (repeat h s) p.1

  -- if the left side is the call under some entries, they have
  pub match_same : (xs : List Tree) → instance xs rule.left ≡ app side.function (trees_of env) →
      AreSame grown left.repeats.items
  match_same xs is k r at =
      let q = side.repeats.right k r at in
      repeats_decide side.function side.patterns side.all env grown xs left.tests.items r.first r.again q.0
      side.opens unpacks q.1 q.2 (ap (λ t. instance xs t) (sym side.is) ∙ is)

pub match_not : (rule : Rule) (left : LeftSide) (side : IsLeftSide rule left) (env xs : List Tree) →
    Fails env left.tests.items → instance xs rule.left ≡ app side.function (trees_of env) → ⊥
match_not rule left side env xs fails is = tests_decide side.function side.patterns side.all env xs
    left.tests.items side.opens fails (ap (λ t. instance xs t) (sym side.is) ∙ is)

-- the tests have passed, and whether each repeat has one value decides
pub repeats_fit : (cells : List Cell) (left : LeftSide) (base : ℕ) (new : List ℕ) (rule : Rule)
    (side : IsLeftSide rule left) (env : List Tree) (yes : Bool) → length env ≡ length side.patterns →
    (p : (grown : List Tree) × Grows cells base env left.tests.items new grown) →
    IsTrue yes ↔ AreSame p.0 left.repeats.items → MatchBy cells left base new rule side env yes
repeats_fit cells left base new rule side env true n (grown, (terms, unpacks)) same = (
  grown,
  (terms, unpacks),
  have_homes rule left side env grown n unpacks (same.0 refl),
)
repeats_fit cells left base new rule side env false n (grown, (terms, unpacks)) same = λ xs is. let t : IsTrue
    false = same.1 (match_same rule left side env grown n unpacks xs is) in absurd (let q : false ≡ true = t in cc)

-- what was added is taken away if the left side doesn't match
pub not_fits : (cells : List Cell) (left : LeftSide) (base : ℕ) (old new cut : List ℕ) (fit : Bool) →
    Fits cells left base old new fit → fit ≡ false → cut ≡ take (length old) new → Tells cells left base old cut fit
not_fits cells left base old new cut fit h fails e =
    let f : Fits cells left base old new false = subst (λ b. Fits cells left base old new b) fails h in
    let same : cut ≡ old = e ∙ ap (λ z. take (length old) z) f.extends.1 ∙ take_whole old f.extends.0 in
    let tells : Tells cells left base old cut
    false = record { fits = record { extends = ([], same ∙ sym (append-nil old)); by = f.by }; stays = same } in
    subst (λ b. Tells cells left base old cut b) (sym fails) tells
