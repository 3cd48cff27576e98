-- The numbers of symbols that are kept for the places of a bank.
use Rattle.std.proofs.Common.{◌≡◌, ◌⊎◌, ℕ, zero, suc, ◌+◌, ◌<◌, ◌≤◌, min, List, [], ◌∷◌, ◌++◌, Some, None, inl, inr}
use Rattle.std.proofs.Common.{refl, ap, sym, ◌∙◌, subst, arith, length, take, get_or}
use Rattle.std.specs.Prelude.{slice_get, slice_set}
use Rattle.std.specs.List.{AllByRecursion}
use Rattle.term_core.specs.Tree.{Tree, Trees, var, app, none, some, tree_size, sizes as symbols, trees_of}
use Rattle.term_core.proofs.Trees.{sizes-append}
use Rattle.term_core.proofs.Items.{all_at}
use Rattle.value_bank.specs.Cells.{Cell, cell, IsTerm, AreTerms, AddsCells}
use Rattle.value_bank.specs.Ground.{IsGround, AreGround}
use Rattle.value_bank.proofs.Terms.{term_kept, terms_kept, one_term_at}
use Rattle.value_bank.proofs.Placed.{app_placed}
use Rattle.rule_code.proofs.Joined.{joined}
use Rattle.ground_eval.proofs.Lists.{take_here}
use Rattle.refuter.specs.Sizes.{GivesSize, AreSizes, IsSizeBy, IsNoted, CanRead}

pub sizes_none : (cells : List Cell) (kept : List ℕ) → kept ≡ [] → AreSizes cells kept
unfolding AreSizes
sizes_none cells kept e place size at lt = absurd
    (let q : None ≡ Some size = sym (ap (λ xs. slice_get xs place) e) ∙ at in cc)

pub sizes_kept : (old new : List Cell) (kept : List ℕ) → AddsCells old new → AreSizes old kept → AreSizes new kept
unfolding AreSizes
sizes_kept old new kept adds h place size at lt =
    let g = h place size at lt in
    (g.0, term_kept old new place g.0 adds g.1, g.2)

-- a number is kept that is right
pub sizes_noted : (old new : List Cell) (kept after : List ℕ) (place size : ℕ) → AddsCells old new →
    AreSizes old kept → IsNoted kept place size after → (0 < size → GivesSize new place size) → AreSizes new after
unfolding AreSizes
sizes_noted old new kept after place size adds h noted right k n at lt = elim (noted k n at lt) [
  | inl w ↦ subst (λ m. GivesSize new m n) (sym w.0)
      (subst (λ m. GivesSize new place m) (sym w.1) (right (omega (arith, w.1, lt))))
  | inr w ↦
      let g = h k n w lt in
      (g.0, term_kept old new k g.0 adds g.1, g.2)
]

pub size_known : (cells : List Cell) (kept : List ℕ) (place size : ℕ) → AreSizes cells kept →
    slice_get kept place ≡ Some size → 0 < size → GivesSize cells place size
unfolding AreSizes
size_known cells kept place size h at lt = h place size at lt

-- the number of the value at a place, up to a bound
pub size_is : (cells : List Cell) (place size bound result : ℕ) → GivesSize cells place size → bound < 4096 →
    result ≡ min size bound → (t : Tree) → IsTerm cells place t → result ≡ min (tree_size t) bound
size_is cells place size bound result g few e t h =
    let same : tree_size g.0 ≡ tree_size t = ap tree_size (one_term_at cells place g.0 t g.1 h) in
    omega (arith, g.2)

-- the number of what is made of arguments
pub made_size : (old new : List Cell) (kept args : List ℕ) (size made f : ℕ) → IsSizeBy kept args size →
    AreSizes old kept → AddsCells old new → slice_get new made ≡ Some (cell f args) → 0 < size → GivesSize new made size
made_size old new kept args size made f by h adds at lt =
    let w = by lt old h in
    (app f (trees_of w.0), app_placed old new made f args (trees_of w.0) w.1 adds at, w.2)

-- the numbers of the first arguments
unfoldable pub SizeUpTo : List ℕ → List ℕ → ℕ → Type 0
SizeUpTo kept args size = (cells : List Cell) → AreSizes cells kept →
    (ts : List Tree) × AreTerms cells args (trees_of ts) × (size ≡ min (1 + symbols (trees_of ts)) 4096)

pub up_to_none : (kept args : List ℕ) (size : ℕ) → args ≡ [] → size ≡ 1 → SizeUpTo kept args size
unfolding SizeUpTo
up_to_none kept args size e n cells h = ([], subst (λ ps. AreTerms cells ps none) (sym e) tt, n)

pub up_to_more : (kept args : List ℕ) (i arg size known next : ℕ) → slice_get args i ≡ Some arg →
    SizeUpTo kept (take i args) size → slice_get kept arg ≡ Some known → 0 < known →
    next ≡ min (size + known) 4096 → SizeUpTo kept (take (i + 1) args) next
unfolding SizeUpTo
up_to_more kept args i arg size known next at before there lt e cells h =
    let w = before cells h in
    let g = size_known cells kept arg known h there lt in
    let all : AreTerms cells (take i args ++ arg ∷ []) (trees_of (w.0 ++ g.0 ∷ [])) = joined cells (take i args)
    (arg ∷ []) w.0 (g.0 ∷ []) w.1 (g.1, tt) in (
      w.0 ++ g.0 ∷ [],
      subst (λ ps. AreTerms cells ps (trees_of (w.0 ++ g.0 ∷ [])))
          (sym (take_here args i arg at)) all,
      omega (arith, w.2, g.2, e, sizes-append w.0 g.0),
    )

pub up_to_all : (kept args done : List ℕ) (size : ℕ) → done ≡ args → SizeUpTo kept done size → IsSizeBy kept args size
unfolding SizeUpTo
up_to_all kept args done size e h lt cells a = subst (λ ps. (ts : List Tree) × AreTerms cells ps (trees_of ts)
    × (size ≡ min (1 + symbols (trees_of ts)) 4096)) e (h cells a)

mutual
  pub term_ground : (cells : List Cell) (p : ℕ) (t : Tree) → IsTerm cells p t → IsGround t
  term_ground cells p (var n) h = h
  term_ground cells p (app f ts) (ps, at, h) = terms_ground cells ps ts h

  terms_ground : (cells : List Cell) (ps : List ℕ) (ts : Trees) → AreTerms cells ps ts → AreGround ts
  terms_ground cells [] none h = tt
  terms_ground cells [] (some t ts) h = absurd h
  terms_ground cells (p ∷ ps) none h = absurd h
  terms_ground cells (p ∷ ps) (some t ts) h = (term_ground cells p t h.0, terms_ground cells ps ts h.1)

-- the value at one of some places
pub terms_at : (cells : List Cell) (ps : List ℕ) (row : List Tree) (i : ℕ) → AreTerms cells ps (trees_of row) →
    i < length ps → (t : Tree) × (slice_get row i ≡ Some t) × IsTerm cells (get_or ps i 0) t
terms_at cells [] row i h lt = absurd (omega arith)
terms_at cells (p ∷ ps) [] i h lt = absurd h
terms_at cells (p ∷ ps) (t ∷ ts) zero h lt = (t, refl, h.0)
terms_at cells (p ∷ ps) (t ∷ ts) (suc i) h lt = terms_at cells ps ts i h.1 (omega arith)

-- no value that can be read is large
pub not_large : (cells : List Cell) (places : List ℕ) (i : ℕ) → CanRead cells places → i < length places →
    (t : Tree) → IsTerm cells (get_or places i 0) t → 10000 < tree_size t → ⊥
not_large cells places i c lt t h large =
    let w = terms_at cells places c.0 i c.1 lt in
    let small = all_at (λ (u : Tree). tree_size u ≤ 255) c.0 c.2 i w.0 w.1 in
    let same : tree_size w.0 ≡ tree_size t = ap tree_size (one_term_at cells (get_or places i 0) w.0 t w.2 h) in
    omega (arith, small)

-- one more value that was read
pub next_term : (cells : List Cell) (places : List ℕ) (i p : ℕ) (made new : List Tree) (t : Tree) →
    slice_get places i ≡ Some p → AreTerms cells (take i places) (trees_of made) → IsTerm cells p t →
    new ≡ made ++ t ∷ [] → AreTerms cells (take (i + 1) places) (trees_of new)
next_term cells places i p made new t at h here e =
    subst (λ us. AreTerms cells (take (i + 1) places) (trees_of us)) (sym e)
    (subst (λ ps. AreTerms cells ps (trees_of (made ++ t ∷ []))) (sym (take_here places i p at))
    (joined cells (take i places) (p ∷ []) made (t ∷ []) h (here, tt)))

-- one more value that was put into a bank
pub next_place : (old new : List Cell) (values : List Tree) (i p : ℕ) (places after : List ℕ) (t : Tree) →
    slice_get values i ≡ Some t → AddsCells old new → AreTerms old places (trees_of (take i values)) →
    IsTerm new p t → after ≡ places ++ p ∷ [] → AreTerms new after (trees_of (take (i + 1) values))
next_place old new values i p places after t at adds h here e =
    subst (λ ps. AreTerms new ps (trees_of (take (i + 1) values))) (sym e)
    (subst (λ us. AreTerms new (places ++ p ∷ []) (trees_of us)) (sym (take_here values i t at))
    (joined new places (p ∷ []) (take i values) (t ∷ [])
    (terms_kept old new places (trees_of (take i values)) adds h) (here, tt)))

-- a number that isn't 0 isn't the 0 after a list
pub not_behind : (xs : List ℕ) (k n : ℕ) → slice_get (xs ++ 0 ∷ []) k ≡ Some n → 0 < n → slice_get xs k ≡ Some n
not_behind [] zero n e lt =
    let q : Some 0 ≡ Some n = e in
    let z : 0 ≡ n = cc in
    absurd (omega (arith, z))
not_behind [] (suc k) n e lt = e
not_behind (x ∷ xs) zero n e lt = e
not_behind (x ∷ xs) (suc k) n e lt = not_behind xs k n e lt

-- after a number was written
pub written : (xs : List ℕ) (place size k n : ℕ) → slice_get (slice_set xs place size) k ≡ Some n →
    ((k ≡ place) × (n ≡ size)) ⊎ (slice_get xs k ≡ Some n)
written [] place size k n e = inr e
written (x ∷ xs) zero size zero n e =
    let q : Some size ≡ Some n = e in
    let z : size ≡ n = cc in
    inl (refl, sym z)
written (x ∷ xs) zero size (suc k) n e = inr e
written (x ∷ xs) (suc place) size zero n e = inr e
written (x ∷ xs) (suc place) size (suc k) n e = elim (written xs place size k n e) [
  | inl w ↦ inl (ap suc w.0, w.1)
  | inr w ↦ inr w
]

pub all_ground : (cells : List Cell) (ps : List ℕ) (ts : List Tree) → AreTerms cells ps (trees_of ts) →
    AllByRecursion IsGround ts
all_ground cells ps [] h = tt
all_ground cells [] (t ∷ ts) h = absurd h
all_ground cells (p ∷ ps) (t ∷ ts) h = (term_ground cells p t h.0, all_ground cells ps ts h.1)
