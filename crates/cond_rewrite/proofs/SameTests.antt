-- What the test of equality finds to be the same is the same.
use Rattle.std.proofs.Common.{◌≡◌, ◌↔◌, ℕ, Bool, true, false, IsTrue, refl, ap, sym, subst, arith}
use Rattle.std.specs.Prelude.{◌==◌, ◌&&◌}
use Rattle.std.proofs.lemmas.Bool.Decides.{nat_tests}
use Rattle.term_core.specs.Tree.{Tree, Trees, var, app, none, some}
use Rattle.term_core.specs.Same.{same_tree, same_trees}
use Rattle.term_core.proofs.SameTrees.{same_tree-refl}

same_number : (m n : ℕ) → (m == n) ≡ true → m ≡ n
same_number m n e = grind (arith, nat_tests)

both_true : (a b : Bool) → (a && b) ≡ true → (a ≡ true) × (b ≡ true)
both_true true true e = (refl, refl)
both_true true false e = absurd (let q : false ≡ true = e in cc)
both_true false b e = absurd (let q : false ≡ true = e in cc)

mutual
  pub same_is : (t u : Tree) → same_tree t u ≡ true → t ≡ u
  same_is (var m) (var n) e = ap (λ k. var k) (same_number m n e)
  same_is (var m) (app g us) e = absurd (let q : false ≡ true = e in cc)
  same_is (app f ts) (var n) e = absurd (let q : false ≡ true = e in cc)
  same_is (app f ts) (app g us) e =
      let p = both_true (f == g) (same_trees ts us) e in
      let h : f ≡ g = same_number f g p.0 in
      let k : ts ≡ us = same_are ts us p.1 in
      λ i. app (h i) (k i)

  same_are : (ts us : Trees) → same_trees ts us ≡ true → ts ≡ us
  same_are none none e = refl
  same_are none (some u us) e = absurd (let q : false ≡ true = e in cc)
  same_are (some t ts) none e = absurd (let q : false ≡ true = e in cc)
  same_are (some t ts) (some u us) e =
      let p = both_true (same_tree t u) (same_trees ts us) e in
      let h : t ≡ u = same_is t u p.0 in
      let k : ts ≡ us = same_are ts us p.1 in
      λ i. some (h i) (k i)

-- so a test that tells whether they are the same is that test
pub test_is : (t u : Tree) (b : Bool) → IsTrue b ↔ (u ≡ t) → same_tree t u ≡ b
test_is t u true h = subst (λ x. same_tree t x ≡ true) (sym (h.0 refl)) (same_tree-refl t)
test_is t u false h = by (same_tree t u) refl
  where
    by : (b : Bool) → same_tree t u ≡ b → same_tree t u ≡ false
    by false e = e
    by true e = absurd (let q : false ≡ true = h.1 (sym (same_is t u e)) in cc)
