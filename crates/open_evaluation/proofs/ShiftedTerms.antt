-- What shifting keeps of a term.
use Rattle.std.proofs.Common.{◌≡◌, ◌<◌, ◌+◌, ℕ, length, zero, suc, List, [], ◌∷◌, map, refl, ap, sym, ◌∙◌, inl, inr}
use Rattle.std.proofs.Common.{eqb, arith}
use Rattle.std.specs.Prelude.{slice_index_or}
use Rattle.std.proofs.lemmas.Bool.Decides.{nat_tests, eqb_tells}
use Rattle.term_core.specs.Tree.{Tree, Trees, var, app, none, some, instance, instances, trees_of, tree_depth, depths}
use Rattle.term_core.specs.Same.{same_tree, same_trees}
use Rattle.term_core.specs.Variables.{Occurs, OccursAny, Numbered, NumberedAll}
use Rattle.open_evaluation.specs.Shifted.{shifted_number, shifted, shifted_all, closed, closed_all}
use Rattle.open_evaluation.proofs.Numbers.{number-inj}

module _ (c u : ℕ) where
  mutual
    pub shifted-inj : (s t : Tree) → shifted c u s ≡ shifted c u t → s ≡ t
    shifted-inj (var m) (var n) e = e
    shifted-inj (var m) (app g ts) e = let q : var m ≡ app (shifted_number c u g) (shifted_all c u ts) = e in cc
    shifted-inj (app f ss) (var n) e = let q : app (shifted_number c u f) (shifted_all c u ss) ≡ var n = e in cc
    shifted-inj (app f ss) (app g ts) e =
        let q : app (shifted_number c u f) (shifted_all c u ss) ≡ app (shifted_number c u g) (shifted_all c u ts) = e in
        let k : f ≡ g = number-inj c u f g (cc) in
        let h : ss ≡ ts = shifted_all-inj ss ts (cc) in
        cc

    pub shifted_all-inj : (ss ts : Trees) → shifted_all c u ss ≡ shifted_all c u ts → ss ≡ ts
    shifted_all-inj none none e = refl
    shifted_all-inj none (some t ts) e = let q : none ≡ some (shifted c u t) (shifted_all c u ts) = e in cc
    shifted_all-inj (some s ss) none e = let q : some (shifted c u s) (shifted_all c u ss) ≡ none = e in cc
    shifted_all-inj (some s ss) (some t ts) e =
        let q : some (shifted c u s) (shifted_all c u ss) ≡ some (shifted c u t) (shifted_all c u ts) = e in
        let k : s ≡ t = shifted-inj s t (cc) in
        let h : ss ≡ ts = shifted_all-inj ss ts (cc) in
        cc

  shifted-entry : (xs : List Tree) (n m : ℕ) →
      slice_index_or (map (shifted c u) xs) n (var m) ≡ shifted c u (slice_index_or xs n (var m))
  shifted-entry [] n m = refl
  shifted-entry (x ∷ xs) zero m = refl
  shifted-entry (x ∷ xs) (suc n) m = shifted-entry xs n m

  mutual
    pub shifted-instance : (xs : List Tree) (t : Tree) →
        instance (map (shifted c u) xs) (shifted c u t) ≡ shifted c u (instance xs t)
    shifted-instance xs (var n) = shifted-entry xs n n
    shifted-instance xs (app f ts) = ap (λ us. app (shifted_number c u f) us) (shifted-instances xs ts)

    pub shifted-instances : (xs : List Tree) (ts : Trees) →
        instances (map (shifted c u) xs) (shifted_all c u ts) ≡ shifted_all c u (instances xs ts)
    shifted-instances xs none = refl
    shifted-instances xs (some t ts) =
        let p = shifted-instance xs t in
        let q = shifted-instances xs ts in
        cc

  closed-entry : (xs : List Tree) (n m : ℕ) → n < length xs →
      slice_index_or (map (closed c u) xs) n (var m) ≡ closed c u (slice_index_or xs n (var m))
  closed-entry [] n m h = absurd (omega arith)
  closed-entry (x ∷ xs) zero m h = refl
  closed-entry (x ∷ xs) (suc n) m h = closed-entry xs n m (omega arith)

  -- an instance with a constant for each variable, if each variable has an entry
  mutual
    pub closed-instance : (xs : List Tree) (t : Tree) → ((n : ℕ) → Occurs n t → n < length xs) →
        instance (map (closed c u) xs) (shifted c u t) ≡ closed c u (instance xs t)
    closed-instance xs (var n) h = closed-entry xs n n (h n refl)
    closed-instance xs (app f ts) h = ap (λ us. app (shifted_number c u f) us) (closed-instances xs ts h)

    pub closed-instances : (xs : List Tree) (ts : Trees) → ((n : ℕ) → OccursAny n ts → n < length xs) →
        instances (map (closed c u) xs) (shifted_all c u ts) ≡ closed_all c u (instances xs ts)
    closed-instances xs none h = refl
    closed-instances xs (some t ts) h =
        let p = closed-instance xs t (λ n o. h n (inl o)) in
        let q = closed-instances xs ts (λ n o. h n (inr o)) in
        cc

  pub shifted_all-trees_of : (ts : List Tree) → shifted_all c u (trees_of ts) ≡ trees_of (map (shifted c u) ts)
  shifted_all-trees_of [] = refl
  shifted_all-trees_of (t ∷ ts) = ap (λ us. some (shifted c u t) us) (shifted_all-trees_of ts)

  mutual
    pub shifted-depth : (t : Tree) → tree_depth (shifted c u t) ≡ tree_depth t
    shifted-depth (var n) = refl
    shifted-depth (app f ts) = ap (λ k. 1 + k) (shifted-depths ts)

    pub shifted-depths : (ts : Trees) → depths (shifted_all c u ts) ≡ depths ts
    shifted-depths none = refl
    shifted-depths (some t ts) =
        let p = shifted-depth t in
        let q = shifted-depths ts in
        cc

  mutual
    pub shifted-occurs : (n : ℕ) (t : Tree) → Occurs n t → Occurs n (shifted c u t)
    shifted-occurs n (var m) o = o
    shifted-occurs n (app f ts) o = shifted-occurs_any n ts o

    pub shifted-occurs_any : (n : ℕ) (ts : Trees) → OccursAny n ts → OccursAny n (shifted_all c u ts)
    shifted-occurs_any n none o = o
    shifted-occurs_any n (some t ts) (inl o) = inl (shifted-occurs n t o)
    shifted-occurs_any n (some t ts) (inr o) = inr (shifted-occurs_any n ts o)

  mutual
    pub shifted-numbered : (k : ℕ) (t : Tree) (m : ℕ) → Numbered k t m → Numbered k (shifted c u t) m
    shifted-numbered k (var n) m h = h
    shifted-numbered k (app f ts) m h = shifted-numbered_all k ts m h

    pub shifted-numbered_all : (k : ℕ) (ts : Trees) (m : ℕ) → NumberedAll k ts m → NumberedAll k (shifted_all c u ts) m
    shifted-numbered_all k none m h = h
    shifted-numbered_all k (some t ts) m h = (h.0, shifted-numbered k t h.0 h.1, shifted-numbered_all h.0 ts m h.2)

  number-same : (f g : ℕ) → eqb (shifted_number c u f) (shifted_number c u g) ≡ eqb f g
  number-same f g =
      elim (eqb_tells f g) [
        | inl p ↦ let e : shifted_number c u f ≡ shifted_number c u g = ap (λ k. shifted_number c u k) p.1 in
            grind (arith, nat_tests, e, p.0)
        | inr p ↦ elim (eqb_tells (shifted_number c u f) (shifted_number c u g)) [
          | inl q ↦ absurd (p.1 (number-inj c u f g q.1))
          | inr q ↦ q.0 ∙ sym p.0
        ]
      ]

  -- terms are the same if they are with the new numbers
  mutual
    pub shifted-same : (s t : Tree) → same_tree (shifted c u s) (shifted c u t) ≡ same_tree s t
    shifted-same (var m) (var n) = refl
    shifted-same (var m) (app g ts) = refl
    shifted-same (app f ss) (var n) = refl
    shifted-same (app f ss) (app g ts) =
        let p = number-same f g in
        let q = shifted-same_all ss ts in
        cc

    pub shifted-same_all : (ss ts : Trees) → same_trees (shifted_all c u ss) (shifted_all c u ts) ≡ same_trees ss ts
    shifted-same_all none none = refl
    shifted-same_all none (some t ts) = refl
    shifted-same_all (some s ss) none = refl
    shifted-same_all (some s ss) (some t ts) =
        let p = shifted-same s t in
        let q = shifted-same_all ss ts in
        cc
