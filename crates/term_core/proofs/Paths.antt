-- Places of a term by the places of its arguments.
use Rattle.std.proofs.Common.{◌≡◌, ℕ, ◌+◌, ◌<◌, ◌≤◌, length, List, [], ◌∷◌, Some, ap, sym, ◌∙◌, subst, slice_get}
use Rattle.std.proofs.Common.{slice_set, arith}
use Rattle.std.proofs.lemmas.List.{get_or-set_same, length-set}
use Rattle.std.proofs.lemmas.Option.{slice_get_within, slice_get-get_or}
use Rattle.term_core.specs.Tree.{Tree, Trees, var, app, trees_of, list_of}
use Rattle.term_core.specs.Places.{IsArgument, IsAt, HasNoPlace, IsExchanged, IsReplaced}
use Rattle.term_core.proofs.Trees.{list_of-trees_of}

-- the argument at an index of the list
pub argument_of : (ts : List Tree) (k number : ℕ) (t : Tree) → number ≡ k + 1 → slice_get ts k ≡ Some t →
    IsArgument number (trees_of ts) t
argument_of ts k number t e h = (k, e, ap (λ us. slice_get us k) (list_of-trees_of ts) ∙ h)

-- no argument comes after the last one
pub no_argument : (ts : List Tree) (index number : ℕ) → length ts ≤ index → number ≡ index + 1 → (t : Tree) →
    IsArgument number (trees_of ts) t → ⊥
no_argument ts index number past e t a =
    let within = slice_get_within ts a.0 t (ap (λ us. slice_get us a.0) (sym (list_of-trees_of ts)) ∙ a.2) in
    omega (arith, a.1)

pub one_argument : (number : ℕ) (ts : Trees) (t u : Tree) → IsArgument number ts t → IsArgument number ts u → t ≡ u
one_argument number ts t u p q =
    let k : p.0 ≡ q.0 = omega (arith, p.1, q.1) in
    let e : Some t ≡ Some u = sym p.2 ∙ ap (λ j. slice_get (list_of ts) j) k ∙ q.2 in
    cc

pub at_argument : (f number : ℕ) (ts : Trees) (path : List ℕ) (t s : Tree) → IsArgument number ts t →
    IsAt path t s → IsAt (number ∷ path) (app f ts) s
at_argument f number ts path t s a p = (t, a, p)

pub no_place_below : (f number : ℕ) (ts : Trees) (path : List ℕ) (t : Tree) → IsArgument number ts t →
    HasNoPlace path t → HasNoPlace (number ∷ path) (app f ts)
no_place_below f number ts path t a none s p =
    let e = one_argument number ts p.0 t p.1 a in
    none s (subst (λ u. IsAt path u s) e p.2)

pub no_place_without : (f number : ℕ) (ts : Trees) (path : List ℕ) → ((t : Tree) → IsArgument number ts t → ⊥) →
    HasNoPlace (number ∷ path) (app f ts)
no_place_without f number ts path none s p = none p.0 p.1

pub one_subterm : (path : List ℕ) (t a b : Tree) → IsAt path t a → IsAt path t b → a ≡ b
one_subterm [] t a b p q = p ∙ sym q
one_subterm (number ∷ path) (var n) a b p q = absurd p
one_subterm (number ∷ path) (app f ts) a b p q =
    let e = one_argument number ts p.0 q.0 p.1 q.1 in
    one_subterm path q.0 a b (subst (λ u. IsAt path u a) e p.2) q.2

one_exchange : (number : ℕ) (ts us ws : Trees) (t : Tree) → IsExchanged number ts t us →
    IsExchanged number ts t ws → us ≡ ws
one_exchange number ts us ws t p q =
    let k : p.0 ≡ q.0 = omega (arith, p.1, q.1) in
    p.2 ∙ ap (λ j. trees_of (slice_set (list_of ts) j t)) k ∙ sym q.2

pub one_replacement : (path : List ℕ) (t new a b : Tree) → IsReplaced path t new a → IsReplaced path t new b → a ≡ b
one_replacement [] t new a b p q = p ∙ sym q
one_replacement (number ∷ path) (var n) new a b p q = absurd p
one_replacement (number ∷ path) (app f ts) new a b p q =
    let old = one_argument number ts p.0 q.0 p.3 q.3 in
    let changed = one_replacement path q.0 new p.1 q.1 (subst (λ u. IsReplaced path u new p.1) old p.4) q.4 in
    let us = one_exchange number ts p.2 q.2 q.1 (subst (λ u. IsExchanged number ts u p.2) changed p.5) q.5 in
    p.6 ∙ ap (λ u. app f u) us ∙ sym q.6

-- what holds of a path and an application holds of their equals
pub of_application : (P : List ℕ → Tree → Type 0) (path rest : List ℕ) (number f : ℕ) (ts : Trees) (t : Tree) →
    path ≡ number ∷ rest → app f ts ≡ t → P (number ∷ rest) (app f ts) → P path t
of_application P path rest number f ts t p e h = subst (λ q. P q t) (sym p) (subst (λ u. P (number ∷ rest) u) e h)

-- a variable has no place but the whole
pub no_place_of_variable : (path rest : List ℕ) (number n : ℕ) (t : Tree) → path ≡ number ∷ rest → var n ≡ t →
    HasNoPlace path t
no_place_of_variable path rest number n t p e = subst (λ q. HasNoPlace q t) (sym p)
    (subst (λ u. HasNoPlace (number ∷ rest) u) e (λ s h. h))

pub exchanged_at : (ts us : List Tree) (k number : ℕ) (t : Tree) → number ≡ k + 1 → us ≡ slice_set ts k t →
    IsExchanged number (trees_of ts) t (trees_of us)
exchanged_at ts us k number t e h = (
  k,
  e,
  ap (λ ws. trees_of ws) h
      ∙ ap (λ ws. trees_of (slice_set ws k t)) (sym (list_of-trees_of ts)),
)

get_exchanged : (ts : List Tree) (k : ℕ) (t : Tree) → k < length ts → slice_get (slice_set ts k t) k ≡ Some t
get_exchanged ts k t h =
    let long : k < length (slice_set ts k t) = omega (arith, length-set ts k t) in
    slice_get-get_or (slice_set ts k t) k t long ∙ ap (λ u. Some u) (get_or-set_same ts k t t h)

-- what is at the place of an exchanged subterm
pub replacement_at : (path : List ℕ) (t new made : Tree) → IsReplaced path t new made → IsAt path made new
replacement_at [] t new made p = sym p
replacement_at (number ∷ path) (var n) new made p = absurd p
replacement_at (number ∷ path) (app f ts) new made p =
    let k = p.3.0 in
    let same : p.5.0 ≡ k = omega (arith, p.5.1, p.3.1) in
    let within = slice_get_within (list_of ts) k p.0 p.3.2 in
    let exchanged : list_of p.2 ≡ slice_set (list_of ts) k p.1 = ap (λ us. list_of us) p.5.2
    ∙ list_of-trees_of (slice_set (list_of ts) p.5.0 p.1) ∙ ap (λ j. slice_set (list_of ts) j p.1) same in
    let there : slice_get (list_of p.2) k ≡ Some p.1 = ap (λ us. slice_get us k) exchanged
    ∙ get_exchanged (list_of ts) k p.1 within in
    subst (λ u. IsAt (number ∷ path) u new) (sym p.6) (p.1, (k, p.3.1, there), replacement_at path p.0 new p.1 p.4)
