-- How the logic stores a raw term.
use Rattle.std.proofs.Common.{◌≡◌, refl, ap}
use Rattle.std.specs.Coded.{Coded, coded_ℕ, coded_list}
use base.Stored.{Gv, gnil, gnum, gcons}
use Rattle.spec_grammar.specs.RawTree.{RawTree, RawTrees, word, none, some}

abbrev head : Gv → Gv
head gnil = gnil
head (gnum n) = gnil
head (gcons a b) = a

abbrev tail : Gv → Gv
tail gnil = gnil
tail (gnum n) = gnil
tail (gcons a b) = b

abbrev mutual
  pub raw_code : RawTree → Gv
  raw_code (word name at ts) =
      gcons ((coded_list coded_ℕ).code name) (gcons (coded_ℕ.code at) (raws_code ts))

  pub raws_code : RawTrees → Gv
  raws_code none = gnil
  raws_code (some t ts) = gcons (raw_code t) (raws_code ts)

mutual
  pub raw_inj : (x y : RawTree) → raw_code x ≡ raw_code y → x ≡ y
  raw_inj (word b a ts) (word c d us) p = λ i. word
      ((coded_list coded_ℕ).inj b c (ap (λ g. head g) p) i)
      (coded_ℕ.inj a d (ap (λ g. head (tail g)) p) i)
      (raws_inj ts us (ap (λ g. tail (tail g)) p) i)

  pub raws_inj : (x y : RawTrees) → raws_code x ≡ raws_code y → x ≡ y
  raws_inj none none p = refl
  raws_inj none (some t ts) p = absurd (let q : gnil ≡ gcons (raw_code t) (raws_code ts) = p in cc)
  raws_inj (some t ts) none p = absurd (let q : gcons (raw_code t) (raws_code ts) ≡ gnil = p in cc)
  raws_inj (some t ts) (some u us) p =
      λ i. some (raw_inj t u (ap (λ g. head g) p) i) (raws_inj ts us (ap (λ g. tail g) p) i)

abbrev pub coded_raw : Coded RawTree
coded_raw = record { code = raw_code; inj = raw_inj }
