-- Tidying forgets which numbers the variables had.
use Rattle.std.proofs.Common.{◌≡◌, ℕ, ◌+◌, Bool, true, false, not, cond, ◌==◌, List, [], ◌∷◌, ◌++◌, inl, inr, map}
use Rattle.std.proofs.Common.{filter, refl, ap, sym, ◌∙◌}
use Rattle.std.specs.Prelude.{slice_index_or}
use Rattle.std.specs.List.{AllByRecursion}
use Rattle.std.proofs.lemmas.Bool.Decides.{eqb_tells}
use Rattle.std.proofs.lemmas.List.{map-append}
use Rattle.term_core.specs.Tree.{Tree, Trees, var, app, none, some}
use Rattle.term_core.specs.Variables.{occurrences, occurrences_all, firsts}
use Rattle.term_core.specs.declared.ids.SortId.{SortId}
use Rattle.spec_core.specs.Declarations.{bool_sort}
use Rattle.clause_core.specs.Tidied.{place_of, renumbered, renumbered_all, sorts_at, variables_of, tidied}
use Rattle.plain_proof.specs.Limits.{equation_clause}

-- the term with other numbers for its variables
abbrev mutual
  pub renamed : (ℕ → ℕ) → Tree → Tree
  renamed r (var n) = var (r n)
  renamed r (app f ts) = app f (renamed_all r ts)

  pub renamed_all : (ℕ → ℕ) → Trees → Trees
  renamed_all r none = none
  renamed_all r (some t ts) = some (renamed r t) (renamed_all r ts)

all_left : (P : ℕ → Type 0) (ms ns : List ℕ) → AllByRecursion P (ms ++ ns) → AllByRecursion P ms
all_left P [] ns h = tt
all_left P (m ∷ ms) ns h = (h.0, all_left P ms ns h.1)

all_right : (P : ℕ → Type 0) (ms ns : List ℕ) → AllByRecursion P (ms ++ ns) → AllByRecursion P ns
all_right P [] ns h = h
all_right P (m ∷ ms) ns h = all_right P ms ns h.1

cond_all : (P : ℕ → Type 0) (b : Bool) (n : ℕ) (ns : List ℕ) → P n → AllByRecursion P ns →
    AllByRecursion P (cond b (n ∷ ns) ns)
cond_all P true n ns p h = (p, h)
cond_all P false n ns p h = h

filter_all : (P : ℕ → Type 0) (f : ℕ → Bool) (ns : List ℕ) → AllByRecursion P ns → AllByRecursion P (filter f ns)
filter_all P f [] h = tt
filter_all P f (n ∷ ns) h = cond_all P (f n) n (filter f ns) h.0 (filter_all P f ns h.1)

pub firsts_all : (P : ℕ → Type 0) (ns : List ℕ) → AllByRecursion P ns → AllByRecursion P (firsts ns)
firsts_all P [] h = tt
firsts_all P (n ∷ ns) h = (h.0, filter_all P (λ m. not (m == n)) (firsts ns) (firsts_all P ns h.1))

mutual
  occurrences_renamed : (r : ℕ → ℕ) (t : Tree) → occurrences (renamed r t) ≡ map r (occurrences t)
  occurrences_renamed r (var n) = refl
  occurrences_renamed r (app f ts) = occurrences_all_renamed r ts

  occurrences_all_renamed : (r : ℕ → ℕ) (ts : Trees) → occurrences_all (renamed_all r ts) ≡ map r (occurrences_all ts)
  occurrences_all_renamed r none = refl
  occurrences_all_renamed r (some t ts) =
      let p = occurrences_renamed r t in
      let q = occurrences_all_renamed r ts in
      (λ i. p i ++ q i) ∙ sym (map-append r (occurrences t) (occurrences_all ts))

module _ (r : ℕ → ℕ) (P : ℕ → Type 0) (one : (m n : ℕ) → P m → P n → r m ≡ r n → m ≡ n) where
  same_test : (m n : ℕ) → P m → P n → (r m == r n) ≡ (m == n)
  same_test m n p q =
      elim (eqb_tells (r m) (r n)) as (λ _. (r m == r n) ≡ (m == n)) [
        | inl a ↦ elim (eqb_tells m n) as (λ _. (r m == r n) ≡ (m == n)) [
          | inl b ↦ a.0
              ∙ sym b.0
          | inr b ↦ absurd (b.1 (one m n p q a.1))
        ]
        | inr a ↦ elim (eqb_tells m n) as (λ _. (r m == r n) ≡ (m == n))
            [ inl b ↦ absurd (a.1 (ap r b.1)) | inr b ↦ a.0 ∙ sym b.0 ]
      ]

  filter_renamed : (n : ℕ) → P n → (ms : List ℕ) → AllByRecursion P ms →
      filter (λ k. not (k == r n)) (map r ms) ≡ map r (filter (λ k. not (k == n)) ms)
  filter_renamed n p [] h = refl
  filter_renamed n p (m ∷ ms) h =
      let f = filter (λ k. not (k == r n)) (map r ms) in
      let g = filter (λ k. not (k == n)) ms in
      let rest = filter_renamed n p ms h.1 in
      let same = same_test m n h.0 p in
      elim (eqb_tells m n) as (λ _. filter (λ k. not (k == r n)) (map r (m ∷ ms)) ≡ map r
      (filter (λ k. not (k == n)) (m ∷ ms))) [
        | inl e ↦ ap (λ b. cond (not b) (r m ∷ f) f) (same ∙ e.0) ∙ rest
            ∙ sym (ap (λ b. map r (cond (not b) (m ∷ g) g)) e.0)
        | inr e ↦ ap (λ b. cond (not b) (r m ∷ f) f) (same ∙ e.0) ∙ ap (λ (ks : List ℕ). r m ∷ ks) rest
            ∙ sym (ap (λ b. map r (cond (not b) (m ∷ g) g)) e.0)
      ]

  firsts_renamed : (ns : List ℕ) → AllByRecursion P ns → firsts (map r ns) ≡ map r (firsts ns)
  firsts_renamed [] h = refl
  firsts_renamed (n ∷ ns) h =
      ap (λ (ks : List ℕ). r n ∷ filter (λ k. not (k == r n)) ks) (firsts_renamed ns h.1)
      ∙ ap (λ (ks : List ℕ). r n ∷ ks) (filter_renamed n h.0 (firsts ns) (firsts_all P ns h.1))

  place_renamed : (olds : List ℕ) → AllByRecursion P olds → (n : ℕ) → P n →
      place_of (map r olds) (r n) ≡ place_of olds n
  place_renamed [] h n p = refl
  place_renamed (m ∷ ms) h n p =
      ap (λ b. cond (not b) (1 + place_of (map r ms) (r n)) 0) (same_test m n h.0 p)
      ∙ ap (λ k. cond (not (m == n)) (1 + k) 0) (place_renamed ms h.1 n p)

  mutual
    renumbered_renamed : (olds : List ℕ) → AllByRecursion P olds → (t : Tree) →
        AllByRecursion P (occurrences t) → renumbered (map r olds) (renamed r t) ≡ renumbered olds t
    renumbered_renamed olds h (var n) p = ap (λ k. var k) (place_renamed olds h n p.0)
    renumbered_renamed olds h (app f ts) p = ap (λ us. app f us) (all_renumbered_renamed olds h ts p)

    all_renumbered_renamed : (olds : List ℕ) → AllByRecursion P olds → (ts : Trees) →
        AllByRecursion P (occurrences_all ts) → renumbered_all (map r olds) (renamed_all r ts) ≡ renumbered_all olds ts
    all_renumbered_renamed olds h none p = refl
    all_renumbered_renamed olds h (some t ts) p =
        let a = renumbered_renamed olds h t (all_left P (occurrences t) (occurrences_all ts) p) in
        let b = all_renumbered_renamed olds h ts (all_right P (occurrences t) (occurrences_all ts) p) in
        λ i. some (a i) (b i)

  sorts_renamed : (ctx other : List SortId) →
      ((n : ℕ) → P n → slice_index_or other (r n) bool_sort ≡ slice_index_or ctx n bool_sort) →
      (olds : List ℕ) → AllByRecursion P olds → sorts_at other (map r olds) ≡ sorts_at ctx olds
  sorts_renamed ctx other s [] h = refl
  sorts_renamed ctx other s (n ∷ ns) h =
      let a = s n h.0 in
      let b = sorts_renamed ctx other s ns h.1 in
      λ i. a i ∷ b i

  -- a clause of one equation is tidied to what it is tidied to under other numbers, which its variables
  -- are given apart, with their sorts
  pub renamed_tidied : (ctx other : List SortId) (a b : Tree) →
      AllByRecursion P (occurrences_all (some a (some b none))) →
      ((n : ℕ) → P n → slice_index_or other (r n) bool_sort ≡ slice_index_or ctx n bool_sort) →
      tidied (equation_clause other (renamed r a) (renamed r b)) ≡ tidied (equation_clause ctx a b)
  renamed_tidied ctx other a b p s =
      let ns = occurrences_all (some a (some b none)) in
      let olds = variables_of (equation_clause ctx a b) in
      let pa = all_left P (occurrences a) (occurrences_all (some b none)) p in
      let pb = all_left P (occurrences b) [] (all_right P (occurrences a) (occurrences_all (some b none)) p) in
      let po = firsts_all P ns p in
      let is : variables_of (equation_clause other (renamed r a) (renamed r b)) ≡ map r olds = ap
      (λ ks. firsts ks) (occurrences_all_renamed r (some a (some b none))) ∙ firsts_renamed ns p in
      let c = ap (λ ks. sorts_at other ks) is ∙ sorts_renamed ctx other s olds po in
      let l = ap (λ ks. renumbered ks (renamed r a)) is ∙ renumbered_renamed olds po a pa in
      let q = ap (λ ks. renumbered ks (renamed r b)) is ∙ renumbered_renamed olds po b pb in
      λ i. record { ctx = c i; premises = []; conclusions = record { left = l i; right = q i } ∷ [] }
