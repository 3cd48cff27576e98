-- A term is as large and as deep as the raw term that stands for it.
use Rattle.std.proofs.Common.{◌≡◌, ℕ, ◌+◌, List, refl, ap, max}
use Rattle.term_core.specs.Tree.{Tree, Trees, var, app, none, some, tree_size, sizes, tree_depth, depths}
use Rattle.spec_core.specs.Sig.{Sig}
use Rattle.spec_grammar.specs.RawTree.{RawTree, RawTrees, word, none as no_raws, some as more_raws}
use Rattle.spec_grammar.specs.Sizes.{words, words_all}
use Rattle.spec_grammar.specs.KeepsLimits.{raw_depth, raw_depths}
use Rattle.sort_check.specs.Terms.{TermStands, TermsStand}

module _ (sig : Sig) (names : List (List ℕ)) where
  mutual
    pub same_size : (raw : RawTree) (t : Tree) → TermStands sig names raw t → tree_size t ≡ words raw
    same_size (word name at no_raws) (var n) p = refl
    same_size (word name at (more_raws r rs)) (var n) p = let q : more_raws r rs ≡ no_raws = p.0 in absurd (cc)
    same_size (word name at raws) (app f ts) p = ap (λ n. 1 + n) (same_sizes raws ts p.1)

    pub same_sizes : (raws : RawTrees) (ts : Trees) → TermsStand sig names raws ts → sizes ts ≡ words_all raws
    same_sizes no_raws none p = refl
    same_sizes (more_raws r rs) (some t ts) p =
        let a : tree_size t ≡ words r = same_size r t p.0 in
        let b : sizes ts ≡ words_all rs = same_sizes rs ts p.1 in
        λ i. a i + b i
    same_sizes no_raws (some t ts) p = absurd p
    same_sizes (more_raws r rs) none p = absurd p

  mutual
    pub same_depth : (raw : RawTree) (t : Tree) → TermStands sig names raw t → tree_depth t ≡ raw_depth raw
    same_depth (word name at no_raws) (var n) p = refl
    same_depth (word name at (more_raws r rs)) (var n) p = let q : more_raws r rs ≡ no_raws = p.0 in absurd (cc)
    same_depth (word name at raws) (app f ts) p = ap (λ n. 1 + n) (same_depths raws ts p.1)

    pub same_depths : (raws : RawTrees) (ts : Trees) → TermsStand sig names raws ts → depths ts ≡ raw_depths raws
    same_depths no_raws none p = refl
    same_depths (more_raws r rs) (some t ts) p =
        let a : tree_depth t ≡ raw_depth r = same_depth r t p.0 in
        let b : depths ts ≡ raw_depths rs = same_depths rs ts p.1 in
        λ i. max (a i) (b i)
    same_depths no_raws (some t ts) p = absurd p
    same_depths (more_raws r rs) none p = absurd p
