-- Answers of tests, and the rules that go on with them.
use Rattle.std.proofs.Common.{◌≡◌, ◌≢◌, ◌⊎◌, inl, inr, ℕ, zero, suc, ◌<◌, ◌≤◌, List, [], ◌∷◌, ◌++◌, Some, None, Bool}
use Rattle.std.proofs.Common.{true, false, refl, ap, sym, ◌∙◌, subst, arith, length, take}
use Rattle.std.specs.Prelude.{slice_get}
use Rattle.std.proofs.lemmas.Bool.{cases_lt}
use Rattle.std.proofs.lemmas.List.{length-map}
use Rattle.std.proofs.lemmas.Option.{slice_get_within}
use Rattle.term_core.specs.Tree.{Tree, var, app, none, some, trees_of}
use Rattle.term_core.specs.Variables.{Occurs}
use Rattle.spec_core.specs.declared.records.Rule.{Rule}
use Rattle.spec_core.specs.declared.records.Guard.{Guard}
use Rattle.spec_core.specs.Sig.{Sig}
use Rattle.spec_core.specs.WellSorted.{RuleIsSorted, sorts_of}
use Rattle.spec_core.specs.Gives.{boolean}
use Rattle.spec_core.proofs.Determined.{occurs_within}
use Rattle.value_bank.specs.Cells.{Cell, AreTerms}
use Rattle.rule_code.specs.declared.tests.Test.{Test}
use Rattle.rule_code.specs.declared.left_sides.LeftSide.{LeftSide}
use Rattle.rule_code.specs.Tests.{GoesOn}
use Rattle.rule_code.specs.Branches.{IsFollowerOn}
use Rattle.rule_code.specs.Homes.{IsHome, IsLeftSide}
use Rattle.rule_code.specs.Matching.{Opens, opened, passed, opens}
use Rattle.rule_code.proofs.Matches.{some_same, trees_same}

-- who goes on with an answer has that test, and the answer is a Boolean
pub goes_within : (k : ℕ) (v : Tree) (gs hs : List Guard) → GoesOn k v gs hs → (k < length gs) × (k < length hs)
goes_within k v [] hs g = absurd g
goes_within k v (x ∷ gs) [] g = absurd g
goes_within zero v (x ∷ gs) (y ∷ hs) g = (omega arith, omega arith)
goes_within (suc k) v (x ∷ gs) (y ∷ hs) g =
    let r = goes_within k v gs hs g.2 in
    (omega (arith, r.0), omega (arith, r.1))

goes_boolean : (k : ℕ) (v : Tree) (gs hs : List Guard) → GoesOn k v gs hs → (b : Bool) × (v ≡ boolean b)
goes_boolean k v [] hs g = absurd g
goes_boolean k v (x ∷ gs) [] g = absurd g
goes_boolean zero v (x ∷ gs) (y ∷ hs) g = (y.wanted, g.1)
goes_boolean (suc k) v (x ∷ gs) (y ∷ hs) g = goes_boolean k v gs hs g.2

boolean_args : (b : Bool) (f : ℕ) (args : List Tree) → app f (trees_of args) ≡ boolean b →
    (length args ≡ 0) × ((f ≡ 0) ⊎ (f ≡ 1))
boolean_args true f [] e =
    let q : app f none ≡ app 0 none = e in
    let z : f ≡ 0 = cc in
    (refl, inl z)
boolean_args false f [] e =
    let q : app f none ≡ app 1 none = e in
    let z : f ≡ 1 = cc in
    (refl, inr z)
boolean_args true f (x ∷ args) e =
    let q : app f (some x (trees_of args)) ≡ app 0 none = e in
    let z : some x (trees_of args) ≡ none = cc in
    absurd (let y : some x (trees_of args) ≡ none = z in cc)
boolean_args false f (x ∷ args) e =
    let q : app f (some x (trees_of args)) ≡ app 1 none = e in
    let z : some x (trees_of args) ≡ none = cc in
    absurd (let y : some x (trees_of args) ≡ none = z in cc)

no_follower : (rules : List Rule) (rule : Rule) (k f : ℕ) (args : List Tree) →
    ((length args ≡ 0) × ((f ≡ 0) ⊎ (f ≡ 1)) → ⊥) → IsFollowerOn rules rule k (app f (trees_of args)) None
no_follower rules rule k f args other j next at left on =
    let b = goes_boolean k (app f (trees_of args)) rule.guards next.guards on in
    other (boolean_args b.0 f args b.1)

pub with_arguments : (rules : List Rule) (rule : Rule) (k f count : ℕ) (args : List Tree) → count ≢ 0 →
    count ≡ length args → IsFollowerOn rules rule k (app f (trees_of args)) None
with_arguments rules rule k f count args some' e = no_follower rules rule k f args (λ h. some' (e ∙ h.0))

pub no_boolean : (rules : List Rule) (rule : Rule) (k f : ℕ) (args : List Tree) → f ≢ 0 → f ≢ 1 →
    IsFollowerOn rules rule k (app f (trees_of args)) None
no_boolean rules rule k f args a b = no_follower rules rule k f args (λ h. elim h.1 [ inl x ↦ a x | inr x ↦ b x ])

pub is_boolean : (rules : List Rule) (rule : Rule) (k f : ℕ) (args : List Tree) (b : Bool) (found : _) →
    IsFollowerOn rules rule k (boolean b) found → app f (trees_of args) ≡ boolean b →
    IsFollowerOn rules rule k (app f (trees_of args)) found
is_boolean rules rule k f args b found h e = subst (λ t. IsFollowerOn rules rule k t found) (sym e) h

-- opening gives one list of patterns
opens_one : {pats all other : List Tree} {k : ℕ} {tests more : List Test} → Opens pats k tests all →
    Opens pats k more other → all ≡ other
opens_one (opened h) (opened g) = refl
opens_one {pats} {k} (opened h) (passed n at o) = absurd (omega (arith, h, slice_get_within pats k (var n) at))
opens_one {pats} {k} (opened h) (opens f us at o) = absurd
    (omega (arith, h, slice_get_within pats k (app f (trees_of us)) at))
opens_one {pats} {k} (passed n at o) (opened g) = absurd (omega (arith, g, slice_get_within pats k (var n) at))
opens_one (passed n at o) (passed m at' u) = opens_one o u
opens_one {pats} {k} (passed n at o) (opens f us at' u) = absurd
    (let q : var n ≡ app f (trees_of us) = some_same (slice_get pats k) (var n) (app f (trees_of us)) at at' in cc)
opens_one {pats} {k} (opens f us at o) (opened g) = absurd
    (omega (arith, g, slice_get_within pats k (app f (trees_of us)) at))
opens_one {pats} {k} (opens f us at o) (passed n at' u) = absurd
    (let q : var n ≡ app f (trees_of us) = some_same (slice_get pats k) (var n) (app f (trees_of us)) at' at in cc)
opens_one {pats} {all} {other} {k} (opens f us at o) (opens {tests = more} g vs at' u) =
    let q : app f (trees_of us) ≡ app g (trees_of vs) = some_same (slice_get pats k) (app f (trees_of us))
    (app g (trees_of vs)) at at' in
    let r : trees_of us ≡ trees_of vs = cc in
    opens_one o (subst (λ z. Opens (pats ++ z) (suc k) more other) (sym (trees_same us vs r)) u)

home_one : (all : List Tree) (n h g : ℕ) → IsHome all n h → IsHome all n g → h ≡ g
home_one all n h g a b =
    elim (cases_lt h g) [
      | inl l ↦ absurd (b.first h l a.there)
      | inr l ↦ elim (cases_lt g h) [
        | inl m ↦ absurd (a.first g m b.there)
        | inr m ↦ omega (arith, l, m)
      ]
    ]

-- lists with the same items
same_lists : (xs ys : List ℕ) → length xs ≡ length ys →
    ((n x y : ℕ) → slice_get xs n ≡ Some x → slice_get ys n ≡ Some y → x ≡ y) → xs ≡ ys
same_lists [] [] n h = refl
same_lists [] (y ∷ ys) n h = absurd (omega (arith, n))
same_lists (x ∷ xs) [] n h = absurd (omega (arith, n))
same_lists (x ∷ xs) (y ∷ ys) n h =
    let a : x ≡ y = h 0 x y refl refl in
    let b : xs ≡ ys = same_lists xs ys (omega (arith, n)) (λ k u v p q. h (suc k) u v p q) in
    cc

-- a left side has one number of variables
fewer : (sig : Sig) (rule next : Rule) → RuleIsSorted sig rule → RuleIsSorted sig next → next.left ≡ rule.left →
    length next.vars ≤ length rule.vars
fewer sig rule next a b e =
    elim (cases_lt (length rule.vars) (length next.vars)) [
      | inl l ↦
          let o = b.bound (length rule.vars) (omega (arith, l, counted next)) in
          let w = occurs_within sig (sorts_of rule.vars) rule.left a.sides.0 a.sides.1 (length rule.vars)
          (subst (λ t. Occurs (length rule.vars) t) e o) in
          absurd (omega (arith, w, counted rule))
      | inr g ↦ g
    ]
  where
    counted : (r : Rule) → length (sorts_of r.vars) ≡ length r.vars
    counted r = length-map r.vars _

module _ (sig : Sig) (rule next : Rule) (a : RuleIsSorted sig rule) (b : RuleIsSorted sig next)
    (e : next.left ≡ rule.left) (left other : LeftSide) (l : IsLeftSide rule left) (m : IsLeftSide next other) where
  same_all : l.all ≡ m.all
  same_all =
      let q : app l.function (trees_of l.patterns) ≡ app m.function (trees_of m.patterns) = sym l.is ∙ sym e ∙ m.is in
      let r : trees_of l.patterns ≡ trees_of m.patterns = cc in
      opens_one l.opens (subst (λ z. Opens z 0 other.tests.items m.all)
      (sym (trees_same l.patterns m.patterns r)) m.opens)

  -- rules with one left side have one number of slots, and their variables have the same slots
  pub same_width : left.width ≡ other.width
  same_width = l.width ∙ ap length same_all ∙ sym m.width

  pub same_homes : left.homes.items ≡ other.homes.items
  same_homes =
      same_lists left.homes.items other.homes.items
      (omega (arith, l.homes.counted, m.homes.counted, fewer sig rule next a b e, fewer sig next rule b a (sym e)))
      (λ n h g x y. home_one l.all n h g (l.homes.each n h x)
      (subst (λ z. IsHome z n g) (sym same_all) (m.homes.each n g y)))

-- the first slots
pub taken_terms : (cells : List Cell) (ps : List ℕ) (env : List Tree) (n : ℕ) →
    AreTerms cells ps (trees_of env) → AreTerms cells (take n ps) (trees_of (take n env))
taken_terms cells ps env zero h = tt
taken_terms cells [] [] (suc n) h = tt
taken_terms cells [] (t ∷ env) (suc n) h = absurd h
taken_terms cells (p ∷ ps) [] (suc n) h = absurd h
taken_terms cells (p ∷ ps) (t ∷ env) (suc n) h = (h.0, taken_terms cells ps env n h.1)
