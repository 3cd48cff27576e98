-- Variables met one after the other are the first occurrences.
use Rattle.std.proofs.Common.{◌≡◌, ℕ, ◌+◌, ◌<◌, List, [], ◌∷◌, ◌++◌, Bool, true, false, not, ◌&&◌, ◌||◌, ◌==◌, cond}
use Rattle.std.proofs.Common.{refl, ap, sym, ◌∙◌, inl, inr, map, filter, length, take, get_or, eqb, append_assoc}
use Rattle.std.proofs.Common.{arith}
use Rattle.std.specs.List.{list_any}
use Rattle.std.proofs.lemmas.Bool.{eq-eqb, cases_Bool}
use Rattle.std.proofs.lemmas.Bool.Decides.{eqb_tells}
use Rattle.std.proofs.lemmas.List.{take_more, append-nil}
use Rattle.std.proofs.lemmas.List.Folds.{list_any-append}
use Rattle.term_core.specs.Tree.{Tree, trees_of}
use Rattle.term_core.specs.Variables.{occurrences, occurrences_all, firsts}
use Rattle.term_core.specs.Gathered.{met, gathered}
use Rattle.term_core.specs.declared.ids.VarId.{VarId}

abbrev has : List ℕ → ℕ → Bool
has found n = list_any (λ m. m == n) found

-- two tests one after the other are one test
filter_both : (p q r : ℕ → Bool) → ((m : ℕ) → r m ≡ (q m && p m)) → (xs : List ℕ) → filter p (filter q xs) ≡ filter r xs
filter_both p q r h [] = refl
filter_both p q r h (x ∷ xs) = grind (
  arith,
  h x,
  filter_both p q r h xs,
  cases_Bool (p x),
  cases_Bool (q x),
  cases_Bool (r x),
)

-- a number that is among those found is no other test than theirs
not_found : (found : List ℕ) (n m : ℕ) → has found n ≡ true → not (has found m) ≡ (not (m == n) && not (has found m))
not_found found n m h =
    elim (eqb_tells m n) [
      | inl p ↦ let e : has found m ≡ true = ap (λ k. has found k) p.1 ∙ h in grind (arith, e, p.0)
      | inr p ↦ grind (arith, p.0)
    ]

pub met_old : (found : List ℕ) (n : ℕ) → list_any (λ m. m == n) found ≡ true → met found n ≡ found
met_old found n h = ap (λ b. cond b found (found ++ n ∷ [])) h

pub met_new : (found : List ℕ) (n : ℕ) → list_any (λ m. m == n) found ≡ false → met found n ≡ found ++ n ∷ []
met_new found n h = ap (λ b. cond b found (found ++ n ∷ [])) h

flip : (m n : ℕ) → (n == m) ≡ (m == n)
flip m n =
    elim (eqb_tells n m) [
      | inl p ↦ p.0 ∙ sym (eq-eqb m n (sym p.1))
      | inr p ↦ elim (eqb_tells m n) [ inl q ↦ absurd (p.1 (sym q.1)) | inr q ↦ p.0 ∙ sym q.0 ]
    ]

neither : (a b : Bool) → not (a || (b || false)) ≡ (not b && not a)
neither true true = refl
neither true false = refl
neither false true = refl
neither false false = refl

has_more : (found : List ℕ) (n m : ℕ) → not (has (found ++ n ∷ []) m) ≡ (not (m == n) && not (has found m))
has_more found n m = ap (λ b. not b) (list_any-append (λ k. k == m) found (n ∷ []))
    ∙ neither (has found m) (n == m) ∙ ap (λ b. not b && not (has found m)) (flip m n)

all_new : (xs : List ℕ) → filter (λ m. not (has [] m)) xs ≡ xs
all_new [] = refl
all_new (x ∷ xs) = ap (λ ys. x ∷ ys) (all_new xs)

gathered_is : (found ns : List ℕ) → gathered found ns ≡ found ++ filter (λ m. not (has found m)) (firsts ns)
gathered_is found [] = sym (append-nil found)
gathered_is found (n ∷ ns) =
    let rest : List ℕ = filter (λ m. not (has found m)) (filter (λ m. not (m == n)) (firsts ns)) in
    elim (cases_Bool (has found n)) [
      | inl h ↦
          ap (λ f. gathered f ns) (met_old found n h)
          ∙ gathered_is found ns
          ∙ ap (λ ms. found ++ ms)
          (sym (filter_both (λ m. not (has found m)) (λ m. not (m == n)) (λ m. not (has found m))
          (λ m. not_found found n m h) (firsts ns)))
          ∙ ap (λ b. found ++ cond (not b) (n ∷ rest) rest) (sym h)
      | inr h ↦
          ap (λ f. gathered f ns) (met_new found n h)
          ∙ gathered_is (found ++ n ∷ []) ns
          ∙ append_assoc found (n ∷ []) (filter (λ m. not (has (found ++ n ∷ []) m)) (firsts ns))
          ∙ ap (λ ms. found ++ n ∷ ms)
          (sym (filter_both (λ m. not (has found m)) (λ m. not (m == n))
          (λ m. not (has (found ++ n ∷ []) m)) (has_more found n) (firsts ns)))
          ∙ ap (λ b. found ++ cond (not b) (n ∷ rest) rest) (sym h)
    ]

-- what is gathered from nothing on
pub gathered_firsts : (ns : List ℕ) → gathered [] ns ≡ firsts ns
gathered_firsts ns = gathered_is [] ns ∙ all_new (firsts ns)

pub gathered-append : (found ms ns : List ℕ) → gathered found (ms ++ ns) ≡ gathered (gathered found ms) ns
gathered-append found [] ns = refl
gathered-append found (m ∷ ms) ns = gathered-append (met found m) ms ns

occurrences_all-append : (ts : List Tree) (t : Tree) →
    occurrences_all (trees_of (ts ++ t ∷ [])) ≡ occurrences_all (trees_of ts) ++ occurrences t
occurrences_all-append [] t = append-nil (occurrences t)
occurrences_all-append (u ∷ ts) t = ap (λ ns. occurrences u ++ ns) (occurrences_all-append ts t)
    ∙ sym (append_assoc (occurrences u) (occurrences_all (trees_of ts)) (occurrences t))

pub gathered-take_more : (found : List ℕ) (ts : List Tree) (i : ℕ) (t : Tree) → i < length ts →
    t ≡ get_or ts i t → gathered found (occurrences_all (trees_of (take (i + 1) ts))) ≡ gathered
    (gathered found (occurrences_all (trees_of (take i ts)))) (occurrences t)
gathered-take_more found ts i t h e =
    ap (λ us. gathered found (occurrences_all (trees_of us))) (take_more ts i t h
    ∙ ap (λ u. take i ts ++ u ∷ []) (sym e))
    ∙ ap (λ ns. gathered found ns) (occurrences_all-append (take i ts) t)
    ∙ gathered-append found (occurrences_all (trees_of (take i ts))) (occurrences t)

-- the numbers of variables, in tests and lists
pub any_number : (n : ℕ) (vars : List VarId) →
    list_any (λ (v : VarId). eqb v.0 n) vars ≡ list_any (λ m. m == n) (map (λ (v : VarId). v.0) vars)
any_number n [] = refl
any_number n (v ∷ vars) = ap (λ b. eqb v.0 n || b) (any_number n vars)
