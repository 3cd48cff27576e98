-- Finitely many parts make finitely many terms, and finitely many short lists of terms.
use Rattle.std.proofs.Common.{◌≡◌, ◌⊎◌, ℕ, zero, suc, ◌<◌, length, subst, sym, refl, arith, inl, inr}
use Rattle.term_core.specs.Tree.{Tree, Trees, var, app, none, some, list_of}
use Rattle.longest_chains.proofs.Enumerated.{Enumerated, same-items, no-items, one-item, either-items, union-items}
use Rattle.longest_chains.proofs.Each.{Each}

-- P holds of the first of the terms, and Q of those after it
abbrev pub FirstAndRest : (Tree → Type 0) → (Trees → Type 0) → Trees → Type 0
FirstAndRest P Q none = ⊥
FirstAndRest P Q (some t ts) = P t × Q ts

-- P holds of the head, and Q of it and the arguments
abbrev pub HeadAndArguments : (ℕ → Type 0) → (ℕ → Trees → Type 0) → Tree → Type 0
HeadAndArguments P Q (var x) = ⊥
HeadAndArguments P Q (app f ts) = P f × Q f ts

pub first-and-rest :
    {P : Tree → Type 0} {Q : Trees → Type 0} → Enumerated P → Enumerated Q
    → Enumerated (FirstAndRest P Q)
first-and-rest {P} {Q} p q =
    same-items to from (union-items p (λ t _. union-items q (λ ts _. one-item (some t ts))))
  where
    to : (ss : Trees) → (t : Tree) × P t × ((ts : Trees) × Q ts × (ss ≡ some t ts))
        → FirstAndRest P Q ss
    to ss c = subst (FirstAndRest P Q) (sym c.2.2) (c.1, c.2.1)

    from : (ss : Trees) → FirstAndRest P Q ss → (t : Tree) × P t
        × ((ts : Trees) × Q ts × (ss ≡ some t ts))
    from none h = absurd h
    from (some t ts) h = (t, h.0, (ts, h.1, refl))

pub head-and-arguments :
    {P : ℕ → Type 0} {Q : ℕ → Trees → Type 0} → Enumerated P → ((f : ℕ) → Enumerated (Q f)) →
    Enumerated (HeadAndArguments P Q)
head-and-arguments {P} {Q} p q =
    same-items to from (union-items p (λ f _. union-items (q f) (λ ts _. one-item (app f ts))))
  where
    to : (s : Tree) → (f : ℕ) × P f × ((ts : Trees) × Q f ts × (s ≡ app f ts))
        → HeadAndArguments P Q s
    to s c = subst (HeadAndArguments P Q) (sym c.2.2) (c.1, c.2.1)

    from : (s : Tree) → HeadAndArguments P Q s → (f : ℕ) × P f
        × ((ts : Trees) × Q f ts × (s ≡ app f ts))
    from (var x) h = absurd h
    from (app f ts) h = (f, h.0, (ts, h.1, refl))

-- the number of the terms
abbrev pub count : Trees → ℕ
count ts = length (list_of ts)

pub short-lists : {P : Tree → Type 0} → Enumerated P → (m : ℕ)
    → Enumerated (λ ss. count ss < m × Each P ss)
short-lists p zero = no-items (λ ss h. omega (arith, h.0))
short-lists {P} p (suc m) =
    same-items to from (either-items (one-item none) (first-and-rest p (short-lists p m)))
  where
    Cases : Trees → Type 0
    Cases ss = (ss ≡ none) ⊎ FirstAndRest P (λ us. count us < m × Each P us) ss

    to : (ss : Trees) → Cases ss → count ss < suc m × Each P ss
    to none c = (omega arith, tt)
    to (some t ts) (inl e) = cc
    to (some t ts) (inr h) = (omega (arith, h.1.0), (h.0, h.1.1))

    from : (ss : Trees) → count ss < suc m × Each P ss → Cases ss
    from none h = inl refl
    from (some t ts) h = inr (h.1.0, (omega (arith, h.0), h.1.1))

pub lists-of-length :
    {P : Tree → Type 0} → Enumerated P → (m : ℕ) → Enumerated (λ ss. (m ≡ count ss) × Each P ss)
lists-of-length {P} p zero = same-items to from (one-item none)
  where
    to : (ss : Trees) → ss ≡ none → (0 ≡ count ss) × Each P ss
    to none e = (refl, tt)
    to (some t ts) e = cc

    from : (ss : Trees) → (0 ≡ count ss) × Each P ss → ss ≡ none
    from none h = refl
    from (some t ts) h = absurd (omega (arith, h.0))
lists-of-length {P} p (suc m) = same-items to from (first-and-rest p (lists-of-length p m))
  where
    Cases : Trees → Type 0
    Cases ss = FirstAndRest P (λ us. (m ≡ count us) × Each P us) ss

    to : (ss : Trees) → Cases ss → (suc m ≡ count ss) × Each P ss
    to none h = absurd h
    to (some t ts) h = (omega (arith, h.1.0), (h.0, h.1.1))

    from : (ss : Trees) → (suc m ≡ count ss) × Each P ss → Cases ss
    from none h = absurd (omega (arith, h.0))
    from (some t ts) h = (h.1.0, (omega (arith, h.0), h.1.1))
