-- Each variable of a left side has a slot, and the slots' variables are those of the left side.
use Rattle.std.proofs.Common.{◌≡◌, ◌⊎◌, inl, inr, ℕ, zero, suc, ◌+◌, ◌<◌, ◌≤◌, List, [], ◌∷◌, ◌++◌, Some, None, refl}
use Rattle.std.proofs.Common.{ap, sym, ◌∙◌, subst, arith, length, length-append}
use Rattle.std.specs.Prelude.{slice_get}
use Rattle.std.proofs.lemmas.List.{length-map}
use Rattle.std.proofs.lemmas.Option.{slice_get_within}
use Rattle.term_core.proofs.Numbers.{same_or_not}
use Rattle.term_core.specs.Tree.{Tree, Trees, var, app, trees_of}
use Rattle.term_core.specs.Variables.{Occurs, OccursAny}
use Rattle.spec_core.specs.Sig.{Sig}
use Rattle.spec_core.specs.declared.records.Rule.{Rule}
use Rattle.spec_core.specs.WellSorted.{RuleIsSorted, sorts_of}
use Rattle.spec_core.proofs.Determined.{occurs_within}
use Rattle.rule_code.proofs.Matches.{some_same, get_more, get_past}
use Rattle.rule_code.specs.Matching.{Opens, opened, passed, opens}
use Rattle.rule_code.specs.declared.tests.Test.{Test}
use Rattle.rule_code.specs.declared.tests.Repeat.{Repeat}
use Rattle.rule_code.specs.Homes.{IsHome, AreHomes, AreRepeats, repeat}

abbrev number_of : Tree → ℕ
number_of (var m) = m
number_of (app f ts) = 0

-- a variable has one number, and is no application
pub var_number : (m n : ℕ) → var m ≡ var n → m ≡ n
var_number m n e = ap number_of e

pub no_var : (n f : ℕ) (ts : Trees) → app f ts ≡ var n → ⊥
no_var n f ts e = cc

-- an item of two lists is one of the first or of the second
pub get_either : {X : Type 0} (xs ys : List X) (k : ℕ) (x : X) → slice_get (xs ++ ys) k ≡ Some x →
    (slice_get xs k ≡ Some x) ⊎ ((i : ℕ) × (slice_get ys i ≡ Some x) × (k ≡ length xs + i))
get_either [] ys k x e = inr (k, e, omega arith)
get_either (z ∷ xs) ys zero x e = inl e
get_either (z ∷ xs) ys (suc k) x e =
    elim (get_either xs ys k x e) [
      | inl a ↦ inl a
      | inr a ↦ inr (a.0, a.1, omega (arith, a.2))
    ]

occurs_in : (n : ℕ) (us : List Tree) → OccursAny n (trees_of us) →
    (i : ℕ) × (u : Tree) × (slice_get us i ≡ Some u) × Occurs n u
occurs_in n [] o = absurd o
occurs_in n (u ∷ us) (inl h) = (0, u, refl, h)
occurs_in n (u ∷ us) (inr h) =
    let r = occurs_in n us h in
    (suc r.0, r.1, r.2, r.3)

occurs_of : (n : ℕ) (us : List Tree) (i : ℕ) (u : Tree) → slice_get us i ≡ Some u → Occurs n u →
    OccursAny n (trees_of us)
occurs_of n [] i u e o = absurd (let q : None ≡ Some u = e in cc)
occurs_of n (v ∷ us) zero u e o =
    let q : Some v ≡ Some u = e in
    let k : v ≡ u = cc in
    inl (subst (λ z. Occurs n z) (sym k) o)
occurs_of n (v ∷ us) (suc i) u e o = inr (occurs_of n us i u e o)

-- a variable of a pattern that isn't opened yet, or stands alone, has a slot
slot_of : (n : ℕ) {pats all : List Tree} {k : ℕ} {tests : List Test} → Opens pats k tests all →
    (j : ℕ) (p : Tree) → slice_get pats j ≡ Some p → Occurs n p → (k ≤ j) ⊎ (p ≡ var n) →
    (s : ℕ) × (slice_get all s ≡ Some (var n))
slot_of n {pats} {k} (opened h) j p at o (inl le) = absurd (omega (arith, h, le, slice_get_within pats j p at))
slot_of n {pats} {k} (opened h) j p at o (inr e) = (j, at ∙ ap Some e)
slot_of n {pats} {k} (passed m here rest) j p at o (inr e) = slot_of n rest j p at o (inr e)
slot_of n {pats} {k} (passed m here rest) j p at o (inl le) =
    elim (same_or_not j k) [
      | inl q ↦
          let is : p ≡ var m = some_same (slice_get pats k) p (var m)
          (subst (λ z. slice_get pats z ≡ Some p) q at) here in
          let same : n ≡ m = subst (λ z. Occurs n z) is o in
          slot_of n rest j p at o (inr (is ∙ ap var (sym same)))
      | inr ne ↦ slot_of n rest j p at o (inl (omega (arith, le, ne)))
    ]
slot_of n {pats} {k} (opens f us here rest) j p at o (inr e) = slot_of n rest j p (get_more pats us j p at) o (inr e)
slot_of n {pats} {k} (opens f us here rest) j p at o (inl le) =
    elim (same_or_not j k) [
      | inl q ↦
          let is : p ≡ app f (trees_of us) = some_same (slice_get pats k) p (app f (trees_of us))
          (subst (λ z. slice_get pats z ≡ Some p) q at) here in
          let r = occurs_in n us (subst (λ z. Occurs n z) is o) in
          slot_of n rest (length pats + r.0) r.1 (get_past pats us r.0 r.1 r.2) r.3
          (inl (omega (arith, slice_get_within pats j p at, le, q)))
      | inr ne ↦ slot_of n rest j p (get_more pats us j p at) o (inl (omega (arith, le, ne)))
    ]

-- the variables of the patterns are below m
abbrev AreWithin : ℕ → List Tree → Type 0
AreWithin m pats = (j : ℕ) (p : Tree) (n : ℕ) → slice_get pats j ≡ Some p → Occurs n p → n < m

within_kept : (m : ℕ) {pats all : List Tree} {k : ℕ} {tests : List Test} → Opens pats k tests all →
    AreWithin m pats → AreWithin m all
within_kept m (opened h) w = w
within_kept m (passed n here rest) w = within_kept m rest w
within_kept m (opens {pats} {k} f us here rest) w =
    within_kept m rest (λ j p n at o.
    elim (get_either pats us j p at) [
      | inl a ↦ w j p n a o
      | inr a ↦ w k (app f (trees_of us)) n here (occurs_of n us a.0 p a.1 o)
    ])

module _ (sig : Sig) (rule : Rule) (sorted : RuleIsSorted sig rule) (f : ℕ) (pats all : List Tree)
    (tests : List Test) (is : rule.left ≡ app f (trees_of pats)) (o : Opens pats 0 tests all) where
  count : length (sorts_of rule.vars) ≡ length rule.vars
  count = length-map rule.vars _

  -- each variable of the rule has a slot
  pub each_has_slot : (n : ℕ) → n < length rule.vars → (s : ℕ) × (slice_get all s ≡ Some (var n))
  each_has_slot n lt =
      let r = occurs_in n pats (subst (λ z. Occurs n z) is (sorted.bound n (omega (arith, lt, count)))) in
      slot_of n o r.0 r.1 r.2 r.3 (inl (omega arith))

  -- and each slot's variable is one of the rule
  pub slots_within : (s n : ℕ) → slice_get all s ≡ Some (var n) → n < length rule.vars
  slots_within s n at =
      let w : AreWithin (length rule.vars) pats = λ j p m e h. omega (
        arith,
        count,
        occurs_within sig (sorts_of rule.vars) rule.left sorted.sides.0 sorted.sides.1 m
            (subst (λ z. Occurs m z) (sym is) (occurs_of m pats j p e h)),
      ) in
      within_kept (length rule.vars) o w s (var n) n at refl

-- one more variable with its first slot
pub home_added : (all : List Tree) (i h : ℕ) (homes new : List ℕ) → AreHomes all i homes → IsHome all i h →
    new ≡ homes ++ h ∷ [] → AreHomes all (i + 1) new
home_added all i h homes new a here e =
    record {
      counted = omega (arith, a.counted, ap length e, length-append homes (h ∷ []));
      each = λ n g at.
          elim (get_either homes (h ∷ []) n g (subst (λ z. slice_get z n ≡ Some g) e at)) [
            | inl b ↦ a.each n g b
            | inr b ↦ one n g b.0 b.1 b.2
          ];
    }
  where
    one : (n g j : ℕ) → slice_get (h ∷ []) j ≡ Some g → n ≡ length homes + j → IsHome all n g
    one n g zero q k =
        let r : Some h ≡ Some g = q in
        let s : h ≡ g = cc in
        let m : i ≡ n = omega (arith, k, a.counted) in
        subst (λ z. IsHome all n z) s (subst (λ z. IsHome all z h) m here)
    one n g (suc j) q k = absurd (let r : None ≡ Some g = q in cc)

pub no_homes : (all : List Tree) (homes : List ℕ) → homes ≡ [] → AreHomes all 0 homes
no_homes all homes e =
    record {
      counted = ap length e;
      each = λ n h at. absurd (let q : None ≡ Some h = subst (λ z. slice_get z n ≡ Some h) e at in cc);
    }

-- how far the search for repeats has come: slots below i are looked at
pub record AreRepeatsBelow (all : List Tree) (homes : List ℕ) (i : ℕ) (repeats : List Repeat) : Type 0 where
  pub each : (s n h : ℕ) → s < i → slice_get all s ≡ Some (var n) → slice_get homes n ≡ Some h →
      (h ≡ s) ⊎ ((k : ℕ) × (slice_get repeats k ≡ Some (repeat h s)))
  pub right : (k : ℕ) (r : Repeat) → slice_get repeats k ≡ Some r →
      (n : ℕ) × (slice_get all r.first ≡ Some (var n)) × (slice_get all r.again ≡ Some (var n))

pub no_repeats : (all : List Tree) (homes : List ℕ) (repeats : List Repeat) → repeats ≡ [] →
    AreRepeatsBelow all homes 0 repeats
no_repeats all homes repeats e =
    record {
      each = λ s n h lt. absurd (omega (arith, lt));
      right = λ k r at. absurd (let q : None ≡ Some r = subst (λ z. slice_get z k ≡ Some r) e at in cc);
    }

-- slot i has an application, or it is the home of its variable
pub repeats_stay : (all : List Tree) (homes : List ℕ) (i : ℕ) (repeats : List Repeat) →
    ((n h : ℕ) → slice_get all i ≡ Some (var n) → slice_get homes n ≡ Some h → h ≡ i) →
    AreRepeatsBelow all homes i repeats → AreRepeatsBelow all homes (i + 1) repeats
repeats_stay all homes i repeats here a =
    record {
      each = λ s n h lt at home.
          elim (same_or_not s i) [
            | inl e ↦ inl (here n h (subst (λ z. slice_get all z ≡ Some (var n)) e at) home ∙ sym e)
            | inr ne ↦ a.each s n h (omega (arith, lt, ne)) at home
          ];
      right = a.right;
    }

pub repeat_added : (all : List Tree) (homes : List ℕ) (i n h : ℕ) (repeats new : List Repeat) →
    AreHomes all (length homes) homes → slice_get all i ≡ Some (var n) → slice_get homes n ≡ Some h →
    new ≡ repeats ++ repeat h i ∷ [] → AreRepeatsBelow all homes i repeats → AreRepeatsBelow all homes (i + 1) new
repeat_added all homes i n h repeats new are at home e a =
    record {
      each = λ s m g lt at' home'.
          elim (same_or_not s i) [
            | inl q ↦ last s m g q (subst (λ z. slice_get all z ≡ Some (var m)) q at') home'
            | inr ne ↦ before s g (a.each s m g (omega (arith, lt, ne)) at' home')
          ];
      right = λ k r got. by k r (get_either repeats (repeat h i ∷ []) k r (subst (λ z. slice_get z k ≡ Some r) e got));
    }
  where
    last : (s m g : ℕ) → s ≡ i → slice_get all i ≡ Some (var m) → slice_get homes m ≡ Some g →
        (g ≡ s) ⊎ ((k : ℕ) × (slice_get new k ≡ Some (repeat g s)))
    last s m g q at' home' =
        let v : var n ≡ var m = some_same (slice_get all i) (var n) (var m) at at' in
        let nm : n ≡ m = var_number n m v in
        let gh : h ≡ g = some_same (slice_get homes n) h g home
        (subst (λ z. slice_get homes z ≡ Some g) (sym nm) home') in
        let end : slice_get (repeats ++ repeat h i ∷ []) (length repeats + 0) ≡ Some (repeat h i) = get_past
        repeats (repeat h i ∷ []) 0 (repeat h i) refl in
        inr (
          length repeats + 0,
          subst (λ z. slice_get z (length repeats + 0) ≡ Some (repeat g s)) (sym e)
              (end ∙ ap (λ z. Some (repeat z i)) gh ∙ ap (λ z. Some (repeat g z)) (sym q)),
        )

    before : (s g : ℕ) → (g ≡ s) ⊎ ((k : ℕ) × (slice_get repeats k ≡ Some (repeat g s))) →
        (g ≡ s) ⊎ ((k : ℕ) × (slice_get new k ≡ Some (repeat g s)))
    before s g (inl p) = inl p
    before s g (inr p) = inr (
      p.0,
      subst (λ z. slice_get z p.0 ≡ Some (repeat g s)) (sym e)
          (get_more repeats (repeat h i ∷ []) p.0 (repeat g s) p.1),
    )

    by : (k : ℕ) (r : Repeat) → (slice_get repeats k ≡ Some r)
        ⊎ ((j : ℕ) × (slice_get (repeat h i ∷ []) j ≡ Some r) × (k ≡ length repeats + j)) →
        (m : ℕ) × (slice_get all r.first ≡ Some (var m)) × (slice_get all r.again ≡ Some (var m))
    by k r (inl p) = a.right k r p
    by k r (inr (zero, p, q)) =
        let o : Some (repeat h i) ≡ Some r = p in
        let is : repeat h i ≡ r = cc in (
          n,
          subst (λ (z : Repeat). slice_get all z.first ≡ Some (var n)) is (are.each n h home).there,
          subst (λ (z : Repeat). slice_get all z.again ≡ Some (var n)) is at,
        )
    by k r (inr (suc j, p, q)) = absurd (let o : None ≡ Some r = p in cc)

pub repeats_are : (all : List Tree) (homes : List ℕ) (i : ℕ) (repeats : List Repeat) → length all ≤ i →
    AreRepeatsBelow all homes i repeats → AreRepeats all homes repeats
repeats_are all homes i repeats le a =
    record {
      each = λ s n h at home. a.each s n h (omega (arith, le, slice_get_within all s (var n) at)) at home;
      right = a.right;
    }
