-- The values that are named for two rules don't depend on the most general unifier.
use Rattle.std.proofs.Common.{◌≡◌, List, [], ◌∷◌, Option, Some, refl, ap, sym, ◌∙◌, subst, length}
use Rattle.std.proofs.lemmas.List.{length-map}
use Rattle.term_core.specs.Tree.{Tree, Trees, var, app, none, some, instance, instances, trees_of}
use Rattle.term_core.specs.declared.ids.SortId.{SortId}
use Rattle.term_core.proofs.Trees.{trees_of-inj}
use Rattle.spec_core.specs.declared.records.SymInfo.{SymInfo}
use Rattle.spec_core.specs.declared.records.VarInfo.{VarInfo}
use Rattle.spec_core.specs.declared.records.Rule.{Rule}
use Rattle.spec_core.specs.Sig.{Sig, info_of}
use Rattle.spec_core.specs.Sorts.{Sorted, SortedAll}
use Rattle.spec_core.specs.Small.{AreSmall}
use Rattle.spec_core.specs.WellSorted.{RuleIsSorted, sorts_of}
use Rattle.spec_core.proofs.SmallValues.{one_small, ones_small}
use Rattle.substitutions.specs.Substitution.{apply, apply_all}
use Rattle.unifier.specs.Shifting.{shifted}
use Rattle.unifier.specs.Unification.{KeepsSorts}
use Rattle.overlap_check.specs.NamedValues.{NamesOverlap, sorts_of_both, left_apart}
use Rattle.overlap_check.specs.Laws.{OneNaming}
use Rattle.overlap_check.proofs.Instances.{sorted_applied, sorted_left}
use Rattle.overlap_check.proofs.SmallEntries.{small_at}
use Rattle.overlap_check.proofs.Unified.{unified_sorted}

module _ (sig : Sig) (ctx : List SortId) (xs : List Tree) (small : AreSmall sig ctx (trees_of xs))
    (u v : List (Option Tree)) where
  mutual
    -- two terms of one sort, each of which is the other under a substitution, differ in their variables alone,
    -- and these have one sort at one place, so the terms are the same with small values
    variants : (t w : Tree) (s : SortId) → apply u t ≡ w → apply v w ≡ t → Sorted sig ctx t s →
        Sorted sig ctx w s → instance xs t ≡ instance xs w
    variants (var n) (var m) s e d p q = one_small sig (instance xs (var n)) (instance xs (var m)) s
        (small_at sig ctx xs n s (var n) small p) (small_at sig ctx xs m s (var m) small q)
    variants (var n) (app g us) s e d p q = absurd (let k : app g (apply_all v us) ≡ var n = d in cc)
    variants (app f ts) (var m) s e d p q = absurd (let k : app f (apply_all u ts) ≡ var m = e in cc)
    variants (app f ts) (app g us) s e d p q =
        let k : app f (apply_all u ts) ≡ app g us = e in
        let l : app g (apply_all v us) ≡ app f ts = d in
        let same : f ≡ g = cc in
        let args : apply_all u ts ≡ us = cc in
        let back : apply_all v us ≡ ts = cc in
        let infos : Some p.0 ≡ Some q.0 = sym p.1 ∙ ap (λ n. info_of sig n) same ∙ q.1 in
        let info : q.0 ≡ p.0 = cc in
        let all : instances xs ts ≡ instances xs us = all_variants ts us p.0.args args back p.3
        (subst (λ (i : SymInfo). SortedAll sig ctx us i.args) info q.3) in
        cc

    all_variants : (ts ws : Trees) (ss : List SortId) → apply_all u ts ≡ ws → apply_all v ws ≡ ts →
        SortedAll sig ctx ts ss → SortedAll sig ctx ws ss → instances xs ts ≡ instances xs ws
    all_variants none none ss e d p q = refl
    all_variants none (some w ws) ss e d p q = absurd (let k : none ≡ some w ws = e in cc)
    all_variants (some t ts) none ss e d p q = absurd (let k : none ≡ some t ts = d in cc)
    all_variants (some t ts) (some w ws) [] e d p q = absurd p
    all_variants (some t ts) (some w ws) (s ∷ ss) e d p q =
        let k : some (apply u t) (apply_all u ts) ≡ some w ws = e in
        let l : some (apply v w) (apply_all v ws) ≡ some t ts = d in
        let one : instance xs t ≡ instance xs w = variants t w s (cc) (cc) p.0 q.0 in
        let more : instances xs ts ≡ instances xs ws = all_variants ts ws ss (cc) (cc) p.1 q.1 in
        cc

-- the left side under the unifier has its sort over the variables of both rules
left_sorted : (sig : Sig) (r q : Rule) (vs : Trees) (a : RuleIsSorted sig r) (b : RuleIsSorted sig q)
    (n : NamesOverlap sig r q vs) → Sorted sig (sorts_of_both r q) (apply n.unifier r.left) a.sides.0
left_sorted sig r q vs a b n =
    let ctx = sorts_of r.vars in
    let more = sorts_of q.vars in
    let is : left_apart r q ≡ shifted (length ctx) q.left = ap (λ k. shifted k q.left)
    (sym (length-map r.vars (λ (v : VarInfo). v.sort))) in
    let keeps : KeepsSorts r.left (shifted (length ctx) q.left) n.unifier = subst
    (λ t. KeepsSorts r.left t n.unifier) is n.keeps_sorts in
    let entries = unified_sorted sig ctx more r.left q.left a.left b.left a.sides.0 b.sides.0 a.sides.1
    b.sides.1 n.unifier (n.most_general.unifies ∙ ap (λ t. apply n.unifier t) is) keeps in
    sorted_applied sig (sorts_of_both r q) n.unifier entries r.left a.sides.0
    (sorted_left sig ctx more r.left a.sides.0 a.sides.1)

pub one_naming : OneNaming
one_naming sig r q vs ws a b n m =
    let u = n.most_general.general m.unifier m.most_general.unifies in
    let v = m.most_general.general n.unifier n.most_general.unifies in
    let smalls : m.smalls ≡ n.smalls = trees_of-inj m.smalls n.smalls
    (ones_small sig (trees_of m.smalls) (trees_of n.smalls) (sorts_of_both r q) m.are_small n.are_small) in
    let same = variants sig (sorts_of_both r q) n.smalls n.are_small u.0 v.0 (apply n.unifier r.left)
    (apply m.unifier r.left) a.sides.0 (sym (u.1 r.left)) (sym (v.1 r.left)) (left_sorted sig r q vs a b n)
    (left_sorted sig r q ws a b m) in
    let calls : app n.function vs ≡ app m.function ws = sym n.call ∙ same
    ∙ ap (λ zs. instance zs (apply m.unifier r.left)) (sym smalls) ∙ m.call in
    cc
