-- A whole group has a member whose guards hold, if each test has a Boolean.
use Rattle.std.proofs.Common.{◌≡◌, ℕ, zero, suc, ◌+◌, List, [], ◌∷◌, Bool, true, false, cond, Some, inl, inr, refl, ap}
use Rattle.std.proofs.Common.{sym, ◌∙◌, subst}
use Rattle.std.specs.Prelude.{slice_get}
use Rattle.std.specs.List.{AllByRecursion}
use Rattle.term_core.specs.Tree.{Tree, instance}
use Rattle.term_core.specs.Same.{same_tree}
use Rattle.term_core.proofs.Members.{In}
use Rattle.spec_core.specs.declared.records.Rule.{Rule}
use Rattle.spec_core.specs.declared.records.Guard.{Guard}
use Rattle.spec_core.specs.declared.records.Spec.{Spec}
use Rattle.spec_core.specs.Gives.{Gives, GivesGuards, no_guards, more_guards, boolean}
use Rattle.spec_core.specs.Groups.{group, bool_same, rest_if, wanting, Whole, alone, split}
use Rattle.spec_core.proofs.Groups.{begins_with}
use Rattle.descent.proofs.SameTests.{same_is}

-- what a member of a group stands for
pub record Member (left : Tree) (rs : List Rule) (gs : List Guard) : Type 0 where
  pub number : ℕ
  pub rule : Rule
  pub listed : slice_get rs number ≡ Some rule
  pub is : left ≡ rule.left
  pub guards : gs ≡ rule.guards

member_later : (left : Tree) (r : Rule) (rs : List Rule) (gs : List Guard) → Member left rs gs → Member left (r ∷ rs) gs
member_later left r rs gs m = record {
  number = suc m.number;
  rule = m.rule;
  listed = m.listed;
  is = m.is;
  guards = m.guards;
}

pub from_group : (left : Tree) (rs : List Rule) (n : ℕ) (m : ℕ × List Guard) → In m (group left n rs) →
    Member left rs m.1
from_group left [] n m i = absurd i
from_group left (r ∷ rs) n m i = go (λ j. from_group left rs (suc n) m j) (same_tree left r.left) refl i
  where
    go : (In m (group left (suc n) rs) → Member left rs m.1) → (b : Bool) → same_tree left r.left ≡ b →
        In m (cond b ((n, r.guards) ∷ group left (suc n) rs) (group left (suc n) rs)) → Member left (r ∷ rs) m.1
    go again true e (inl p) = record {
      number = zero;
      rule = r;
      listed = refl;
      is = same_is left r.left e;
      guards = ap (λ (x : ℕ × List Guard). x.1) p;
    }
    go again true e (inr j) = member_later left r rs m.1 (again j)
    go again false e j = member_later left r rs m.1 (again j)

-- what a member of the rests was before
pub record Longer (w : Bool) (ms : List (ℕ × List Guard)) (k : ℕ) (gs : List Guard) : Type 0 where
  pub guard : Guard
  pub among : In (k, guard ∷ gs) ms
  pub wanted : w ≡ guard.wanted

bool_same_true : (w v : Bool) → bool_same w v ≡ true → w ≡ v
bool_same_true true v e = sym e
bool_same_true false true e = absurd (let q : false ≡ true = e in cc)
bool_same_true false false e = refl

longer_later : (w : Bool) (m : ℕ × List Guard) (ms : List (ℕ × List Guard)) (k : ℕ) (gs : List Guard) →
    Longer w ms k gs → Longer w (m ∷ ms) k gs
longer_later w m ms k gs l = record { guard = l.guard; among = inr l.among; wanted = l.wanted }

pub from_rests : (w : Bool) (ms : List (ℕ × List Guard)) (k : ℕ) (gs : List Guard) → In (k, gs) (wanting w ms) →
    Longer w ms k gs
from_rests w [] k gs i = absurd i
from_rests w (m ∷ ms) k gs i = go (λ l. from_rests w ms k gs l) m.0 m.1 refl i
  where
    here : (In (k, gs) (wanting w ms) → Longer w ms k gs) → (j : ℕ) (g : Guard) (hs : List Guard) →
        m ≡ (j, g ∷ hs) → (b : Bool) → bool_same w g.wanted ≡ b →
        In (k, gs) (cond b ((j, hs) ∷ wanting w ms) (wanting w ms)) → Longer w (m ∷ ms) k gs
    here again j g hs p true e (inl q) =
        let a : k ≡ j = ap (λ (x : ℕ × List Guard). x.0) q in
        let b : gs ≡ hs = ap (λ (x : ℕ × List Guard). x.1) q in
        record {
          guard = g;
          among = inl (let z : ◌≡◌ {A = ℕ × List Guard} (k, g ∷ gs) (j, g ∷ hs) = λ i. (
            a i,
            g ∷ b i,
          ) in z ∙ sym p);
          wanted = bool_same_true w g.wanted e;
        }
    here again j g hs p true e (inr l) = longer_later w m ms k gs (again l)
    here again j g hs p false e l = longer_later w m ms k gs (again l)

    go : (In (k, gs) (wanting w ms) → Longer w ms k gs) → (j : ℕ) (hs : List Guard) → m ≡ (j, hs) →
        In (k, gs) (rest_if w j hs (wanting w ms)) → Longer w (m ∷ ms) k gs
    go again j [] p l = longer_later w m ms k gs (again l)
    go again j (g ∷ hs) p l = here again j g hs p (bool_same w g.wanted) refl l

pub some_member : {ms : List (ℕ × List Guard)} → Whole ms → (k : ℕ) × (gs : List Guard) × In (k, gs) ms
some_member (alone {k}) = (k, [], inl refl)
some_member (split {ms} test begins at_true at_false) =
    let m = some_member at_true in
    let l = from_rests true ms m.0 m.1 m.2 in
    (m.0, l.guard ∷ m.1, l.among)

module _ (spec : Spec) (xs : List Tree) where
  -- the test gives a Boolean
  abbrev pub HasBoolean : Guard → Type 0
  HasBoolean g = (b : Bool) × (n : ℕ) × Gives spec (instance xs g.test) (boolean b) n

  -- a member whose guards hold
  pub record Chosen (ms : List (ℕ × List Guard)) : Type 0 where
    pub number : ℕ
    pub guards : List Guard
    pub among : In (number, guards) ms
    pub cost : ℕ
    pub hold : GivesGuards spec xs guards cost

  pub choose : {ms : List (ℕ × List Guard)} → Whole ms →
      ((k : ℕ) (gs : List Guard) → In (k, gs) ms → AllByRecursion HasBoolean gs) → Chosen ms
  choose (alone {k}) h = record { number = k; guards = []; among = inl refl; cost = 0; hold = no_guards }
  choose (split {ms} test begins at_true at_false) h =
      let m = some_member at_true in
      let l = from_rests true ms m.0 m.1 m.2 in
      let has = h m.0 (l.guard ∷ m.1) l.among in
      let is : l.guard.test ≡ test = begins_with ms test begins m.0 (l.guard ∷ m.1) l.among in
      go has.0.0 has.0.1 (subst (λ t. Gives spec (instance xs t) (boolean has.0.0) has.0.1) is has.0.2)
      (choose at_true (λ k gs i. let q = from_rests true ms k gs i in (h k (q.guard ∷ gs) q.among).1))
      (choose at_false (λ k gs i. let q = from_rests false ms k gs i in (h k (q.guard ∷ gs) q.among).1))
    where
      longer : (w : Bool) (n : ℕ) → Gives spec (instance xs test) (boolean w) n → Chosen (wanting w ms) → Chosen ms
      longer w n g c =
          let q = from_rests w ms c.number c.guards c.among in
          let is : q.guard.test ≡ test = begins_with ms test begins c.number (q.guard ∷ c.guards) q.among in
          let one : Gives spec (instance xs q.guard.test) (boolean q.guard.wanted) n = subst
          (λ t. Gives spec (instance xs t) (boolean q.guard.wanted) n) (sym is)
          (subst (λ b. Gives spec (instance xs test) (boolean b) n) q.wanted g) in
          record {
            number = c.number;
            guards = q.guard ∷ c.guards;
            among = q.among;
            cost = n + c.cost;
            hold = more_guards one c.hold refl;
          }

      go : (b : Bool) (n : ℕ) → Gives spec (instance xs test) (boolean b) n → Chosen (wanting true ms) →
          Chosen (wanting false ms) → Chosen ms
      go true n g c d = longer true n g c
      go false n g c d = longer false n g d
