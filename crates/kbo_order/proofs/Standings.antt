-- How two lists of arguments stand, from how their parts do.
use Rattle.std.proofs.Common.{◌≡◌, ◌↔◌, ℕ, Bool, true, false, IsTrue, List, ◌∷◌, length, nat_eq}
use Rattle.std.proofs.Common.{refl, ap, inl, inr, sym, subst, arith}
use Rattle.std.specs.Prelude.{if◌then◌else◌}
use Rattle.std.proofs.lemmas.Bool.Decides.{nat_tests}
use Rattle.term_core.specs.Tree.{Tree, Trees, var, app, none, some, list_of, trees_of}
use Rattle.term_core.proofs.Trees.{list_of-trees_of}
use Rattle.kbo_order.specs.Standing.{AboveFor, ArgumentsFallFor, TermsStand, ArgumentsStand}
use Rattle.kbo_order.specs.declared.compare.Standing.{Standing}
use Rattle.kbo_order.specs.declared.compare.Standing.TheVariants.{Same, Greater, Neither}

pub never : {A : Type 0} → IsTrue false → A
never h = absurd (let q : false ≡ true = h in cc)

-- the parts of a list, if it has some
abbrev first-of : Tree → Trees → Tree
first-of t none = t
first-of t (some a ts) = a

abbrev others-of : Trees → Trees
others-of none = none
others-of (some a ts) = ts

mutual
  irreflexive-for : (w : ℕ → ℕ) (x : ℕ) (t : Tree) → AboveFor w x t t → ⊥
  irreflexive-for w x (var y) p = elim p.1 [ inl l ↦ omega (arith, l) | inr r ↦ r.1 ]
  irreflexive-for w x (app f ts) p =
      elim p.1 [
        | inl l ↦ omega (arith, l)
        | inr r ↦ elim r.1 [ inl l ↦ omega (arith, l) | inr h ↦ none-fall-for w x ts h.1 ]
      ]

  none-fall-for : (w : ℕ → ℕ) (x : ℕ) (ts : Trees) → ArgumentsFallFor w x ts ts → ⊥
  none-fall-for w x none h = h
  none-fall-for w x (some t ts) h =
      elim h [ inl p ↦ irreflexive-for w x t p.1 | inr p ↦ none-fall-for w x ts p.1 ]

module _ (w : ℕ → ℕ) (x : ℕ) where
  pub differ : (a b : Tree) → AboveFor w x a b → a ≡ b → ⊥
  differ a b p e = irreflexive-for w x a (subst (λ u. AboveFor w x a u) (sym e) p)

  -- lists by their first terms and the others
  module _ (a b : Tree) (ts ss : Trees) where
    pub same-before :
        (others : Standing) → a ≡ b → ArgumentsStand w x ts ss others →
        ArgumentsStand w x (some a ts) (some b ss) others
    same-before Same e r = cc
    same-before Greater e r = inr (e, r)
    same-before Neither e r = (
      λ h. r.0 (ap others-of h),
      λ h. elim h [ inl p ↦ differ a b p.1 e | inr p ↦ r.1 p.1 ],
    )

    pub greater-before :
        (many : Bool) → AboveFor w x a b → IsTrue many ↔ (length (list_of ts) ≡ length (list_of ss)) →
        ArgumentsStand w x (some a ts) (some b ss) (if many then Greater else Neither)
    greater-before true p tells = inl (tells.0 refl, p)
    greater-before false p tells = (
      λ h. differ a b p (ap (first-of a) h),
      λ h. elim h [ inl q ↦ never (tells.1 q.0) | inr q ↦ differ a b p q.0 ],
    )

  pub listed :
      {us vs ts ss : List Tree} {a b : Tree} → us ≡ a ∷ ts → vs ≡ b ∷ ss → (standing : Standing) →
      ArgumentsStand w x (some a (trees_of ts)) (some b (trees_of ss)) standing →
      ArgumentsStand w x (trees_of us) (trees_of vs) standing
  listed {vs = vs} {ts = ts} {ss = ss} {a = a} {b = b} p q standing r =
      subst (λ us. ArgumentsStand w x (trees_of us) (trees_of vs) standing) (sym p)
      (subst (λ us. ArgumentsStand w x (trees_of (a ∷ ts)) (trees_of us) standing) (sym q) r)

  -- the same term is not above itself
  pub same-told :
      {P : Type 0} (t s : Tree) (standing : Standing) → standing ≡ Same → TermsStand w x t s standing →
      IsTrue false ↔ (P × AboveFor w x t s)
  same-told t s standing is r =
      let e : t ≡ s = subst (λ a. TermsStand w x t s a) is r in (
        λ h. never h,
        λ p. absurd (differ t s p.1 e),
      )

pub lengths-told :
    (m n : ℕ) (ts ss : List Tree) → m ≡ length ts → n ≡ length ss →
    IsTrue (nat_eq m n) ↔ (length (list_of (trees_of ts)) ≡ length (list_of (trees_of ss)))
lengths-told m n ts ss p q =
    let a : length (list_of (trees_of ts)) ≡ length ts = ap (λ us. length us) (list_of-trees_of ts) in
    let b : length (list_of (trees_of ss)) ≡ length ss = ap (λ us. length us) (list_of-trees_of ss) in (
      λ h. let k : m ≡ n = grind (arith, nat_tests, h) in omega (arith, k, p, q, a, b),
      λ h. let k : m ≡ n = omega (arith, h, p, q, a, b) in grind (arith, nat_tests, k),
    )
