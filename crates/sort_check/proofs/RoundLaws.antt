-- Rounds end at the sorts that equations of two variables give.
use Rattle.std.proofs.Common.{◌≡◌, ◌≤◌, ◌<◌, ℕ, zero, suc, ◌+◌, List, [], ◌∷◌, Bool, false, Option, Some, None, Ok}
use Rattle.std.proofs.Common.{Err, ◌⊎◌, inl, inr, refl, ap, sym, ◌∙◌, subst, arith, length, set, length-set}
use Rattle.std.proofs.Common.{get_or-set_same, get_or-set_other}
use Rattle.std.specs.Prelude.{Result}
use Rattle.std.specs.List.{AllByRecursion}
use Rattle.term_core.specs.declared.ids.SortId.{SortId}
use Rattle.spec_core.specs.Findings.{Clean, test}
use Rattle.sort_check.specs.Answers.{Tells, Answers}
use Rattle.sort_check.specs.Entries.{sort_at, Differ}
use Rattle.sort_check.specs.Rounds.{shared, after_pair, round_tests, after_round, rounds_tests, after_rounds}
use Rattle.sort_check.specs.Parts.{IsWithin}
use Rattle.sort_check.specs.declared.entries.Pair.{Pair}
use Rattle.sort_check.specs.declared.faults.SortFault.{SortFault}
use Rattle.sort_check.specs.declared.faults.SortFault.TheVariants.{Sort}
use Rattle.sort_check.specs.declared.faults.SortKind.TheVariants.{WrongSort}
use Rattle.sort_check.proofs.Telling.{tells_first, tells_then}
use Rattle.sort_check.proofs.Facts.{same_sort}
use Rattle.term_core.proofs.Numbers.{same_or_not}
use Rattle.term_core.proofs.Members.{In}

abbrev one : Option SortId → ℕ
one None = 1
one (Some s) = 0

-- how many variables have no sort
abbrev pub nones : List (Option SortId) → ℕ
nones [] = 0
nones (o ∷ os) = one o + nones os

one_le : (o : Option SortId) → one o ≤ 1
one_le None = omega arith
one_le (Some s) = omega arith

pub nones_le : (ks : List (Option SortId)) → nones ks ≤ length ks
nones_le [] = omega arith
nones_le (o ∷ os) = omega (arith, one_le o, nones_le os)

nones_set : (ks : List (Option SortId)) (n : ℕ) (s : SortId) → n < length ks → sort_at ks n ≡ None →
    nones (set ks n (Some s)) + 1 ≡ nones ks
nones_set [] n s h e = absurd (omega arith)
nones_set (o ∷ os) zero s h e =
    let k : one o ≡ 1 = ap one e in
    omega (arith, k)
nones_set (o ∷ os) (suc n) s h e = omega (arith, nones_set os n s (omega arith) e)

shared_long : (ks : List (Option SortId)) (p : Pair) (a b : Option SortId) → length (shared ks p a b) ≡ length ks
shared_long ks p (Some s) None = length-set ks p.right (Some s)
shared_long ks p None (Some s) = length-set ks p.left (Some s)
shared_long ks p (Some s) (Some u) = refl
shared_long ks p None None = refl

pub pair_long : (ks : List (Option SortId)) (p : Pair) → length (after_pair ks p) ≡ length ks
pair_long ks p = shared_long ks p (sort_at ks p.left) (sort_at ks p.right)

pub round_long : (ks : List (Option SortId)) (ps : List Pair) → length (after_round ks ps) ≡ length ks
round_long ks [] = refl
round_long ks (p ∷ ps) = round_long (after_pair ks p) ps ∙ pair_long ks p

pub within_long : (ks js : List (Option SortId)) (ps : List Pair) → length js ≡ length ks →
    AllByRecursion (IsWithin ks) ps → AllByRecursion (IsWithin js) ps
within_long ks js [] e h = tt
within_long ks js (p ∷ ps) e h = ((omega (arith, e, h.0.0), omega (arith, e, h.0.1)), within_long ks js ps e h.1)

-- an equation changes nothing, or gives a sort
shared_falls : (ks : List (Option SortId)) (p : Pair) (a b : Option SortId) → sort_at ks p.left ≡ a →
    sort_at ks p.right ≡ b → IsWithin ks p → (shared ks p a b ≡ ks) ⊎ (nones (shared ks p a b) + 1 ≡ nones ks)
shared_falls ks p (Some s) None ea eb w = inr (nones_set ks p.right s w.1 eb)
shared_falls ks p None (Some s) ea eb w = inr (nones_set ks p.left s w.0 ea)
shared_falls ks p (Some s) (Some u) ea eb w = inl refl
shared_falls ks p None None ea eb w = inl refl

pair_falls : (ks : List (Option SortId)) (p : Pair) → IsWithin ks p → (after_pair ks p ≡ ks)
    ⊎ (nones (after_pair ks p) + 1 ≡ nones ks)
pair_falls ks p w = shared_falls ks p (sort_at ks p.left) (sort_at ks p.right) refl refl w

pub round_falls : (ks : List (Option SortId)) (ps : List Pair) → AllByRecursion (IsWithin ks) ps →
    (after_round ks ps ≡ ks) ⊎ (nones (after_round ks ps) < nones ks)
round_falls ks [] w = inl refl
round_falls ks (p ∷ ps) w = by (pair_falls ks p w.0)
    (round_falls (after_pair ks p) ps (within_long ks (after_pair ks p) ps (pair_long ks p) w.1))
  where
    by : (after_pair ks p ≡ ks) ⊎ (nones (after_pair ks p) + 1 ≡ nones ks) →
        (after_round (after_pair ks p) ps ≡ after_pair ks p)
        ⊎ (nones (after_round (after_pair ks p) ps) < nones (after_pair ks p)) →
        (after_round (after_pair ks p) ps ≡ ks) ⊎ (nones (after_round (after_pair ks p) ps) < nones ks)
    by (inl a) (inl b) = inl (b ∙ a)
    by (inl a) (inr b) = inr (omega (arith, b, ap (λ js. nones js) a))
    by (inr a) (inl b) = inr (omega (arith, a, ap (λ js. nones js) b))
    by (inr a) (inr b) = inr (omega arith)

-- a round that changes nothing changes nothing at its equations
first_still : (ks : List (Option SortId)) (p : Pair) (ps : List Pair) → AllByRecursion (IsWithin ks) (p ∷ ps) →
    after_round (after_pair ks p) ps ≡ ks → after_pair ks p ≡ ks
first_still ks p ps w e = by (pair_falls ks p w.0)
    (round_falls (after_pair ks p) ps (within_long ks (after_pair ks p) ps (pair_long ks p) w.1))
  where
    by : (after_pair ks p ≡ ks) ⊎ (nones (after_pair ks p) + 1 ≡ nones ks) →
        (after_round (after_pair ks p) ps ≡ after_pair ks p)
        ⊎ (nones (after_round (after_pair ks p) ps) < nones (after_pair ks p)) → after_pair ks p ≡ ks
    by (inl a) b = a
    by (inr a) (inl b) = absurd (omega (arith, a, ap (λ js. nones js) b, ap (λ js. nones js) e))
    by (inr a) (inr b) = absurd (omega (arith, a, b, ap (λ js. nones js) e))

shared_same : (ks : List (Option SortId)) (p : Pair) (a b : Option SortId) → sort_at ks p.left ≡ a →
    sort_at ks p.right ≡ b → IsWithin ks p → (Differ a b → ⊥) → shared ks p a b ≡ ks → a ≡ b
shared_same ks p (Some s) None ea eb w d e = absurd (omega (
  arith,
  nones_set ks p.right s w.1 eb,
  ap (λ js. nones js) e,
))
shared_same ks p None (Some s) ea eb w d e = absurd (omega (arith, nones_set ks p.left s w.0 ea, ap (λ js. nones js) e))
shared_same ks p (Some s) (Some u) ea eb w d e = ap (λ x. Some x) (same_sort s u d)
shared_same ks p None None ea eb w d e = refl

-- if a round finds and changes nothing, both sides of each equation have one sort
pub sides_same : (ks : List (Option SortId)) (ps : List Pair) → AllByRecursion (IsWithin ks) ps →
    Clean (round_tests ks ps) → after_round ks ps ≡ ks → (p : Pair) → In p ps → sort_at ks p.left ≡ sort_at ks p.right
sides_same ks [] w c e p i = absurd i
sides_same ks (q ∷ ps) w c e p (inl is) =
    let here = shared_same ks q (sort_at ks q.left) (sort_at ks q.right) refl refl w.0 c.0 (first_still ks q ps w e) in
    ap (λ (x : Pair). sort_at ks x.left) is ∙ here ∙ ap (λ (x : Pair). sort_at ks x.right) (sym is)
sides_same ks (q ∷ ps) w c e p (inr i) =
    let f = first_still ks q ps w e in
    sides_same ks ps w.1 (subst (λ js. Clean (round_tests js ps)) f c.1) (ap (λ js. after_round js ps) (sym f) ∙ e) p i

-- after a round that finds and changes nothing no further one does
pub still_rounds : (n : ℕ) (ks : List (Option SortId)) (ps : List Pair) → Clean (round_tests ks ps) →
    after_round ks ps ≡ ks → Clean (rounds_tests n ks ps) × (after_rounds n ks ps ≡ ks)
still_rounds zero ks ps c e = (tt, refl)
still_rounds (suc n) ks ps c e =
    let r = still_rounds n ks ps c e in
    ((c, subst (λ js. Clean (rounds_tests n js ps)) (sym e) r.0), ap (λ js. after_rounds n js ps) e ∙ r.1)

-- as many rounds as there are variables without a sort, and one more, come to an end
pub settled : (n : ℕ) (ks : List (Option SortId)) (ps : List Pair) → AllByRecursion (IsWithin ks) ps →
    nones ks < n → Clean (rounds_tests n ks ps) → (after_round (after_rounds n ks ps) ps ≡ after_rounds n ks ps)
    × Clean (round_tests (after_rounds n ks ps) ps)
settled zero ks ps w h c = absurd (omega arith)
settled (suc n) ks ps w h c = elim (round_falls ks ps w) [
  | inl e ↦
      let r = (still_rounds n ks ps c.0 e).1 in
      let end : after_rounds n (after_round ks ps) ps ≡ ks = ap (λ js. after_rounds n js ps) e ∙ r in
      (ap (λ js. after_round js ps) end ∙ e ∙ sym end, subst (λ js. Clean (round_tests js ps)) (sym end) c.0)
  | inr l ↦ settled n (after_round ks ps) ps (within_long ks (after_round ks ps) ps (round_long ks ps) w)
      (omega arith) c.1
]

-- what is known stays
set_keeps : (ks : List (Option SortId)) (m : ℕ) (u : SortId) → sort_at ks m ≡ None → (n : ℕ) (s : SortId) →
    sort_at ks n ≡ Some s → sort_at (set ks m (Some u)) n ≡ Some s
set_keeps ks m u none n s e = elim (same_or_not n m) [
  | inl q ↦ absurd (let z : None ≡ Some s = sym none ∙ ap (λ k. sort_at ks k) (sym q) ∙ e in cc)
  | inr q ↦ get_or-set_other ks m n (Some u) None q ∙ e
]

shared_keeps : (ks : List (Option SortId)) (p : Pair) (a b : Option SortId) → sort_at ks p.left ≡ a →
    sort_at ks p.right ≡ b → (n : ℕ) (s : SortId) → sort_at ks n ≡ Some s → sort_at (shared ks p a b) n ≡ Some s
shared_keeps ks p (Some u) None ea eb n s e = set_keeps ks p.right u eb n s e
shared_keeps ks p None (Some u) ea eb n s e = set_keeps ks p.left u ea n s e
shared_keeps ks p (Some u) (Some v) ea eb n s e = e
shared_keeps ks p None None ea eb n s e = e

round_keeps : (ks : List (Option SortId)) (ps : List Pair) (n : ℕ) (s : SortId) → sort_at ks n ≡ Some s →
    sort_at (after_round ks ps) n ≡ Some s
round_keeps ks [] n s e = e
round_keeps ks (p ∷ ps) n s e = round_keeps (after_pair ks p) ps n s
    (shared_keeps ks p (sort_at ks p.left) (sort_at ks p.right) refl refl n s e)

pub rounds_keep : (k : ℕ) (ks : List (Option SortId)) (ps : List Pair) (n : ℕ) (s : SortId) →
    sort_at ks n ≡ Some s → sort_at (after_rounds k ks ps) n ≡ Some s
rounds_keep zero ks ps n s e = e
rounds_keep (suc k) ks ps n s e = rounds_keep k (after_round ks ps) ps n s (round_keeps ks ps n s e)

-- what holds of the sorts that are known, and goes from side to side of each equation, holds at the end
module _ (P : ℕ → SortId → Type 0) (all : List Pair) (to_right : (p : Pair) (s : SortId) → In p all →
    P p.left s → P p.right s) (to_left : (p : Pair) (s : SortId) → In p all → P p.right s → P p.left s) where
  abbrev pub Known : List (Option SortId) → Type 0
  Known ks = (n : ℕ) (s : SortId) → sort_at ks n ≡ Some s → P n s

  set_known : (ks : List (Option SortId)) (m : ℕ) (u : SortId) → m < length ks → Known ks → P m u →
      Known (set ks m (Some u))
  set_known ks m u l h g n s e = elim (same_or_not n m) [
    | inl q ↦
        let z : Some u ≡ Some s = sym (get_or-set_same ks m (Some u) None l)
        ∙ ap (λ k. sort_at (set ks m (Some u)) k) (sym q) ∙ e in
        let i : u ≡ s = cc in
        subst (λ x. P n x) i (subst (λ k. P k u) (sym q) g)
    | inr q ↦ h n s (sym (get_or-set_other ks m n (Some u) None q) ∙ e)
  ]

  shared_known : (ks : List (Option SortId)) (p : Pair) (a b : Option SortId) → sort_at ks p.left ≡ a →
      sort_at ks p.right ≡ b → IsWithin ks p → In p all → Known ks → Known (shared ks p a b)
  shared_known ks p (Some u) None ea eb w i h = set_known ks p.right u w.1 h (to_right p u i (h p.left u ea))
  shared_known ks p None (Some u) ea eb w i h = set_known ks p.left u w.0 h (to_left p u i (h p.right u eb))
  shared_known ks p (Some u) (Some v) ea eb w i h = h
  shared_known ks p None None ea eb w i h = h

  round_known : (ks : List (Option SortId)) (ps : List Pair) → AllByRecursion (IsWithin ks) ps →
      ((p : Pair) → In p ps → In p all) → Known ks → Known (after_round ks ps)
  round_known ks [] w i h = h
  round_known ks (p ∷ ps) w i h = round_known (after_pair ks p) ps
      (within_long ks (after_pair ks p) ps (pair_long ks p) w.1) (λ q j. i q (inr j))
      (shared_known ks p (sort_at ks p.left) (sort_at ks p.right) refl refl w.0 (i p (inl refl)) h)

  pub rounds_known : (k : ℕ) (ks : List (Option SortId)) → AllByRecursion (IsWithin ks) all → Known ks →
      Known (after_rounds k ks all)
  rounds_known zero ks w h = h
  rounds_known (suc k) ks w h = rounds_known k (after_round ks all)
      (within_long ks (after_round ks all) all (round_long ks all) w) (round_known ks all w (λ p i. i) h)

pub rounds_long : (k : ℕ) (ks : List (Option SortId)) (ps : List Pair) → length (after_rounds k ks ps) ≡ length ks
rounds_long zero ks ps = refl
rounds_long (suc k) ks ps = rounds_long k (after_round ks ps) ps ∙ round_long ks ps

-- both sides of each equation have one sort after enough rounds
pub rounds_same : (k : ℕ) (ks : List (Option SortId)) (ps : List Pair) → length ks < k →
    AllByRecursion (IsWithin ks) ps → Clean (rounds_tests k ks ps) → (p : Pair) → In p ps →
    sort_at (after_rounds k ks ps) p.left ≡ sort_at (after_rounds k ks ps) p.right
rounds_same k ks ps l w c =
    let end = after_rounds k ks ps in
    let x = settled k ks ps w (omega (arith, nones_le ks)) c in
    sides_same end ps (within_long ks end ps (rounds_long k ks ps) w) x.1 x.0

-- one turn of the code: an equation and the rest of a round
pub round_more : (k0 k1 k2 : List (Option SortId)) (ps rs : List Pair) (p : Pair) (x y : Bool) → ps ≡ p ∷ rs →
    Clean (test (Sort p.at WrongSort) (Differ (sort_at k0 p.left) (sort_at k0 p.right)))
    × ((k1 ≡ after_pair k0 p) × (x ≡ false → k1 ≡ k0)) → Clean (round_tests k1 rs)
    × ((k2 ≡ after_round k1 rs) × (y ≡ false → k2 ≡ k1)) → Clean (round_tests k0 ps)
    × ((k2 ≡ after_round k0 ps) × (x ≡ false → y ≡ false → k2 ≡ k0))
round_more k0 k1 k2 ps rs p x y e h g =
    subst (λ qs. Clean (round_tests k0 qs) × ((k2 ≡ after_round k0 qs) × (x ≡ false → y ≡ false → k2 ≡ k0)))
    (sym e) (
      (h.0, subst (λ ks. Clean (round_tests ks rs)) h.1.0 g.0),
      (g.1.0 ∙ ap (λ ks. after_round ks rs) h.1.0, λ a b. g.1.1 b ∙ h.1.1 a),
    )

pub round_fault : (k0 k1 : List (Option SortId)) (ps rs : List Pair) (p : Pair) (e : SortFault) → ps ≡ p ∷ rs →
    Clean (test (Sort p.at WrongSort) (Differ (sort_at k0 p.left) (sort_at k0 p.right))) →
    k1 ≡ after_pair k0 p → Tells (round_tests k1 rs) e → Tells (round_tests k0 ps) e
round_fault k0 k1 ps rs p e is c k f =
    subst (λ qs. Tells (round_tests k0 qs) e) (sym is)
    (tells_then (test (Sort p.at WrongSort) (Differ (sort_at k0 p.left) (sort_at k0 p.right)))
    (round_tests (after_pair k0 p) rs) e c (subst (λ ks. Tells (round_tests ks rs) e) k f))

-- one turn of the code: a round and the further ones
pub rounds_fault : (n m : ℕ) (ks : List (Option SortId)) (ps : List Pair) (e : SortFault) → n ≡ suc m →
    Tells (round_tests ks ps) e → Tells (rounds_tests n ks ps) e
rounds_fault n m ks ps e q f = subst (λ k. Tells (rounds_tests k ks ps) e) (sym q)
    (tells_first (round_tests ks ps) (rounds_tests m (after_round ks ps) ps) e f)

pub rounds_stop : (n m : ℕ) (k0 k1 : List (Option SortId)) (ps : List Pair) → n ≡ suc m →
    Clean (round_tests k0 ps) → k1 ≡ after_round k0 ps → k1 ≡ k0 → Clean (rounds_tests n k0 ps)
    × (k1 ≡ after_rounds n k0 ps)
rounds_stop n m k0 k1 ps q c r s =
    let x = still_rounds n k0 ps c (sym r ∙ s) in
    (x.0, s ∙ sym x.1)

pub rounds_next : (n m : ℕ) (k0 k1 k2 : List (Option SortId)) (ps : List Pair)
    (res : Result (Unit {0}) SortFault) → n ≡ suc m → Clean (round_tests k0 ps) → k1 ≡ after_round k0 ps →
    Answers (rounds_tests m k1 ps) (λ _. k2 ≡ after_rounds m k1 ps) res →
    Answers (rounds_tests n k0 ps) (λ _. k2 ≡ after_rounds n k0 ps) res
rounds_next n m k0 k1 k2 ps (Err e) q c r a = subst (λ k. Tells (rounds_tests k k0 ps) e) (sym q)
    (tells_then (round_tests k0 ps) (rounds_tests m (after_round k0 ps) ps) e c
    (subst (λ ks. Tells (rounds_tests m ks ps) e) r a))
rounds_next n m k0 k1 k2 ps (Ok x) q c r a = subst (λ k. Clean (rounds_tests k k0 ps)
    × (k2 ≡ after_rounds k k0 ps)) (sym q) (
      (c, subst (λ ks. Clean (rounds_tests m ks ps)) r a.0),
      a.1 ∙ ap (λ ks. after_rounds m ks ps) r,
    )
