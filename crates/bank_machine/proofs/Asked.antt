-- Rules with one left side whose first guards are the same.
use Rattle.std.proofs.Common.{◌≡◌, inl, inr, ℕ, zero, suc, ◌≤◌, List, [], ◌∷◌, true, false, Some, None, refl, ap, sym}
use Rattle.std.proofs.Common.{◌∙◌, arith, drop, length}
use Rattle.std.specs.Prelude.{slice_get}
use Rattle.term_core.specs.Tree.{Tree}
use Rattle.spec_core.specs.declared.records.Guard.{Guard}
use Rattle.spec_core.specs.Gives.{boolean}
use Rattle.spec_core.specs.Groups.{Whole, alone, split}
use Rattle.term_core.proofs.Members.{In}
use Rattle.spec_core.proofs.Groups.{in_rests, bool_cases, begins_with}
use Rattle.spec_core.proofs.Determined.{boolean_inj}
use Rattle.rule_code.specs.Tests.{Agrees, GoesOn}

pub agrees_self : (k : ℕ) (gs : List Guard) → k ≤ length gs → Agrees k gs gs
agrees_self zero gs h = tt
agrees_self (suc k) [] h = absurd (omega (arith, h))
agrees_self (suc k) (g ∷ gs) h = (refl, refl, agrees_self k gs (omega (arith, h)))

pub some_within : (gs : List Guard) (k : ℕ) (g : Guard) → slice_get gs k ≡ Some g → k ≤ length gs
some_within [] k g at = absurd (let q : None ≡ Some g = at in cc)
some_within (x ∷ gs) zero g at = omega arith
some_within (x ∷ gs) (suc k) g at = omega (arith, some_within gs k g at)

pub goes_agrees : (k : ℕ) (b : Tree) (gs hs : List Guard) → GoesOn k b gs hs → Agrees k gs hs
goes_agrees zero b gs hs h = tt
goes_agrees (suc k) b [] hs h = absurd h
goes_agrees (suc k) b (g ∷ gs) [] h = absurd h
goes_agrees (suc k) b (g ∷ gs) (x ∷ hs) h = (h.0, h.1, goes_agrees k b gs hs h.2)

-- the guard with which a list goes on
pub record Meets (k : ℕ) (b test : Tree) (hs : List Guard) : Type 0 where
  pub guard : Guard
  pub rest : drop k hs ≡ guard ∷ drop (suc k) hs
  pub tests : guard.test ≡ test
  pub answer : b ≡ boolean guard.wanted

pub goes_meets : (k : ℕ) (b : Tree) (gs hs : List Guard) (g : Guard) → slice_get gs k ≡ Some g →
    GoesOn k b gs hs → Meets k b g.test hs
goes_meets k b [] hs g at h = absurd (let q : None ≡ Some g = at in cc)
goes_meets zero b (x ∷ gs) [] g at h = absurd h
goes_meets zero b (x ∷ gs) (y ∷ hs) g at h =
    let q : Some x ≡ Some g = at in
    let e : x ≡ g = cc in
    record { guard = y; rest = refl; tests = sym h.0 ∙ ap (λ (z : Guard). z.test) e; answer = h.1 }
goes_meets (suc k) b (x ∷ gs) [] g at h = absurd h
goes_meets (suc k) b (x ∷ gs) (y ∷ hs) g at h =
    let m = goes_meets k b gs hs g at h.2 in
    record { guard = m.guard; rest = m.rest; tests = m.tests; answer = m.answer }

-- of one answer, two lists that go on agree past the test
pub goes_both : (k : ℕ) (b : Tree) (gs hs us : List Guard) → GoesOn k b gs hs → GoesOn k b gs us → Agrees (suc k) hs us
goes_both k b [] hs us h i = absurd h
goes_both k b (g ∷ gs) [] us h i = absurd h
goes_both k b (g ∷ gs) (x ∷ hs) [] h i = absurd i
goes_both zero b (g ∷ gs) (x ∷ hs) (y ∷ us) h i = (sym h.0 ∙ i.0, boolean_inj x.wanted y.wanted (sym h.1 ∙ i.1), tt)
goes_both (suc k) b (g ∷ gs) (x ∷ hs) (y ∷ us) h i = (sym h.0 ∙ i.0, sym h.1 ∙ i.1, goes_both k b gs hs us h.2 i.2)

-- what agrees past the test with a list that goes on, goes on
pub goes_along : (k : ℕ) (b : Tree) (gs hs us : List Guard) → GoesOn k b gs hs → Agrees (suc k) hs us → GoesOn k b gs us
goes_along k b [] hs us h a = absurd h
goes_along k b (g ∷ gs) [] us h a = absurd h
goes_along k b (g ∷ gs) (x ∷ hs) [] h a = absurd a
goes_along zero b (g ∷ gs) (x ∷ hs) (y ∷ us) h a = (h.0 ∙ a.0, h.1 ∙ ap (λ w. boolean w) a.1)
goes_along (suc k) b (g ∷ gs) (x ∷ hs) (y ∷ us) h a = (h.0 ∙ a.0, h.1 ∙ a.1, goes_along k b gs hs us h.2 a.2)

-- of a whole group, if the first k guards are the same, the next one has the same test
pub same_test : {ms : List (ℕ × List Guard)} → Whole ms → (i j k : ℕ) (gs hs : List Guard) (g : Guard) →
    In (i, gs) ms → In (j, hs) ms → Agrees k gs hs → slice_get gs k ≡ Some g →
    (h : Guard) × (drop k hs ≡ h ∷ drop (suc k) hs) × (g.test ≡ h.test) × GoesOn k (boolean h.wanted) gs hs
same_test w i j k [] hs g p q a at = absurd (let e : None ≡ Some g = at in cc)
same_test (alone {k = l}) i j k (x ∷ gs) hs g (inl p) q a at = absurd
    (let e : (x ∷ gs) ≡ [] = ap (λ (y : ℕ × List Guard). y.1) p in cc)
same_test (alone {k = l}) i j k (x ∷ gs) hs g (inr p) q a at = absurd p
same_test (split {ms} test begins at_true at_false) i j zero (x ∷ gs) [] g p q a at = absurd
    (begins_with ms test begins j [] q)
same_test (split {ms} test begins at_true at_false) i j zero (x ∷ gs) (y ∷ hs) g p q a at =
    let here : Some x ≡ Some g = at in
    let is : x ≡ g = cc in
    let tests : x.test ≡ y.test = begins_with ms test begins i (x ∷ gs) p
    ∙ sym (begins_with ms test begins j (y ∷ hs) q) in
    (y, refl, ap (λ (z : Guard). z.test) (sym is) ∙ tests, (tests, refl))
same_test (split {ms} test begins at_true at_false) i j (suc k) (x ∷ gs) [] g p q a at = absurd a
same_test (split {ms} test begins at_true at_false) i j (suc k) (x ∷ gs) (y ∷ hs) g p q a at =
    let r = elim (bool_cases x.wanted) as (λ z. (h : Guard) × (drop k hs ≡ h ∷ drop (suc k) hs)
    × (g.test ≡ h.test) × GoesOn k (boolean h.wanted) gs hs) [
      | inl t ↦ same_test at_true i j k gs hs g (in_rests true ms i x gs p t)
          (in_rests true ms j y hs q (t ∙ a.1)) a.2 at
      | inr f ↦ same_test at_false i j k gs hs g (in_rests false ms i x gs p f)
          (in_rests false ms j y hs q (f ∙ a.1)) a.2 at
    ] in
    (r.0, r.1, r.2, (a.0, a.1, r.3))

-- and a list all of whose guards another one has is that one
pub same_member : {ms : List (ℕ × List Guard)} → Whole ms → (i j : ℕ) (gs hs : List Guard) → In (i, gs) ms →
    In (j, hs) ms → Agrees (length gs) gs hs → i ≡ j
same_member (alone {k = n}) i j gs hs (inl p) (inl q) a = ap (λ (m : ℕ × List Guard). m.0) (p ∙ sym q)
same_member (alone {k = n}) i j gs hs (inr p) q a = absurd p
same_member (alone {k = n}) i j gs hs (inl p) (inr q) a = absurd q
same_member (split {ms} test begins at_true at_false) i j [] hs p q a = absurd (begins_with ms test begins i [] p)
same_member (split {ms} test begins at_true at_false) i j (x ∷ gs) [] p q a = absurd a
same_member (split {ms} test begins at_true at_false) i j (x ∷ gs) (y ∷ hs) p q a =
    elim (bool_cases x.wanted) [
      | inl t ↦ same_member at_true i j gs hs (in_rests true ms i x gs p t) (in_rests true ms j y hs q (t ∙ a.1)) a.2
      | inr f ↦ same_member at_false i j gs hs (in_rests false ms i x gs p f) (in_rests false ms j y hs q (f ∙ a.1)) a.2
    ]
