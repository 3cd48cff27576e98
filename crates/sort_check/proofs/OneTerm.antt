-- A raw term stands for at most one term.
use Rattle.std.proofs.Common.{◌≡◌, ℕ, List, [], refl, ap}
use Rattle.term_core.specs.Tree.{Tree, Trees, var, app, none, some}
use Rattle.spec_core.specs.declared.records.Equation.{Equation}
use Rattle.spec_core.specs.Sig.{Sig, names_of}
use Rattle.spec_core.specs.Declarations.{AreNewNames}
use Rattle.spec_grammar.specs.RawTree.{RawTree, RawTrees, word, none as no_raws, some as more_raws}
use Rattle.spec_grammar.specs.declared.raw.RawEq.{RawEq}
use Rattle.sort_check.specs.Terms.{TermStands, TermsStand, EquationStands}
use Rattle.sort_check.proofs.Names.{new_not, one_place}

module _ (sig : Sig) (distinct : AreNewNames [] (names_of sig)) (names : List (List ℕ))
    (different : AreNewNames [] names) where
  mutual
    pub one_term : (raw : RawTree) (t u : Tree) → TermStands sig names raw t → TermStands sig names raw u → t ≡ u
    one_term (word name at raws) (var n) (var m) p q = ap (λ k. var k) (one_place [] names n m name different p.2 q.2)
    one_term (word name at raws) (var n) (app g us) p q = absurd (new_not name (names_of sig) g p.1 q.0)
    one_term (word name at raws) (app f ts) (var m) p q = absurd (new_not name (names_of sig) f q.1 p.0)
    one_term (word name at raws) (app f ts) (app g us) p q =
        let a : f ≡ g = one_place [] (names_of sig) f g name distinct p.0 q.0 in
        let b : ts ≡ us = one_terms raws ts us p.1 q.1 in
        λ i. app (a i) (b i)

    pub one_terms : (raws : RawTrees) (ts us : Trees) → TermsStand sig names raws ts →
        TermsStand sig names raws us → ts ≡ us
    one_terms no_raws none none p q = refl
    one_terms (more_raws r rs) (some t ts) (some u us) p q =
        let a : t ≡ u = one_term r t u p.0 q.0 in
        let b : ts ≡ us = one_terms rs ts us p.1 q.1 in
        λ i. some (a i) (b i)
    one_terms no_raws (some t ts) us p q = absurd p
    one_terms no_raws none (some u us) p q = absurd q
    one_terms (more_raws r rs) none us p q = absurd p
    one_terms (more_raws r rs) (some t ts) none p q = absurd q

  pub one_equation : (raw : RawEq) (e d : Equation) → EquationStands sig names raw e →
      EquationStands sig names raw d → e ≡ d
  one_equation raw e d p q =
      let a : e.left ≡ d.left = one_term raw.left e.left d.left p.0 q.0 in
      let b : e.right ≡ d.right = one_term raw.right e.right d.right p.1 q.1 in
      λ i. record { left = a i; right = b i }
