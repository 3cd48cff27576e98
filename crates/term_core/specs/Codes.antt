-- How the logic stores a tree.
use Rattle.std.proofs.Common.{◌≡◌, ◌≢◌, ℕ, refl, ap, arith}
use Rattle.std.specs.Coded.{Coded, coded_ℕ}
use base.Stored.{Gv, gnil, gnum, gcons}
use Rattle.term_core.specs.Tree.{Tree, Trees, var, app, none, some}

abbrev head : Gv → Gv
head gnil = gnil
head (gnum n) = gnil
head (gcons a b) = a

abbrev tail : Gv → Gv
tail gnil = gnil
tail (gnum n) = gnil
tail (gcons a b) = b

abbrev mutual
  pub tree_code : Tree → Gv
  tree_code (var n) = gcons (gnum 0) (coded_ℕ.code n)
  tree_code (app f ts) = gcons (gnum 1) (gcons (coded_ℕ.code f) (trees_code ts))

  pub trees_code : Trees → Gv
  trees_code none = gnil
  trees_code (some t ts) = gcons (tree_code t) (trees_code ts)

apart : (m n : ℕ) {a b : Gv} → gcons (gnum m) a ≡ gcons (gnum n) b → m ≢ n → ⊥
apart m n p other = other (cc)

mutual
  pub tree_inj : (x y : Tree) → tree_code x ≡ tree_code y → x ≡ y
  tree_inj (var m) (var n) p = λ i. var (coded_ℕ.inj m n (ap (λ g. tail g) p) i)
  tree_inj (var m) (app g us) p = absurd (apart 0 1 p (omega arith))
  tree_inj (app f ts) (var n) p = absurd (apart 1 0 p (omega arith))
  tree_inj (app f ts) (app g us) p =
      λ i. app (coded_ℕ.inj f g (ap (λ g. head (tail g)) p) i)
      (trees_inj ts us (ap (λ g. tail (tail g)) p) i)

  pub trees_inj : (x y : Trees) → trees_code x ≡ trees_code y → x ≡ y
  trees_inj none none p = refl
  trees_inj none (some t ts) p =
      absurd (let q : gnil ≡ gcons (tree_code t) (trees_code ts) = p in cc)
  trees_inj (some t ts) none p =
      absurd (let q : gcons (tree_code t) (trees_code ts) ≡ gnil = p in cc)
  trees_inj (some t ts) (some u us) p =
      λ i. some (tree_inj t u (ap (λ g. head g) p) i) (trees_inj ts us (ap (λ g. tail g) p) i)

abbrev pub coded_tree : Coded Tree
coded_tree = record { code = tree_code; inj = tree_inj }
