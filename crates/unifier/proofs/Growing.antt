-- How a graph grows by the nodes of terms.
use Rattle.std.proofs.Common.{◌≡◌, ℕ, ◌+◌, ◌<◌, ◌≤◌, List, [], ◌∷◌, ◌++◌, ◌⊎◌, inl, inr, refl, ap, sym, ◌∙◌, subst}
use Rattle.std.proofs.Common.{arith, length, length-append, get_or, take, true, false}
use Rattle.std.specs.Prelude.{if◌then◌else◌, ◌==◌, Result, Ok, Err, IfOk, OnOk}
use Rattle.std.proofs.Math.Seq.{get_or-append_seam}
use Rattle.std.proofs.lemmas.List.{get_or_append_left, take_more}
use Rattle.std.proofs.lemmas.Bool.Decides.{nat_tests}
use Rattle.std.proofs.lemmas.Grind.{common_steps}
use Rattle.term_core.specs.Tree.{Tree, var, app, trees_of}
use Rattle.term_core.specs.declared.ids.SymId.{SymId}
use Rattle.term_core.specs.declared.ids.VarId.{VarId}
use Rattle.unifier.specs.declared.unification.graph.Shape.{Shape}
use Rattle.unifier.specs.declared.unification.graph.Shape.TheVariants.{Var, App}
use Rattle.unifier.specs.Graph.{shape_at, built, ArgsBelow, IsShapeOf, IsNodeOf, HasNoNode, HasOneNodeEach}
use Rattle.unifier.specs.Parts.{IsPart, IsPartOfAny}
use Rattle.unifier.specs.Adding.{IsOf, AddsNodes, Adds, AddsAll}
use Rattle.unifier.proofs.Graphs.{below_most, below-append, below_each, each_from, built_each, trees_by_below}
use Rattle.unifier.proofs.Graphs.{trees_by-append}
use Rattle.term_core.proofs.Numbers.{below_or_not, below_or_last}

module _ (old : List Shape) (s : Shape) where
  shape_old : (i : ℕ) → i < length old → shape_at (old ++ s ∷ []) i ≡ shape_at old i
  shape_old i l = get_or_append_left old (s ∷ []) (Var (record { 0 = 0 })) i l

  shape_last : shape_at (old ++ s ∷ []) (length old) ≡ s
  shape_last = get_or-append_seam old s [] (Var (record { 0 = 0 }))

  long : length (old ++ s ∷ []) ≡ length old + 1
  long = omega (arith, length-append old (s ∷ []))

  module _ (before : ℕ → Tree) where
    abbrev after : ℕ → Tree
    after i = if i == length old then built before s else before i

    after_old : (i : ℕ) → i < length old → after i ≡ before i
    after_old i l =
        let e : (i == length old) ≡ false = grind (arith, nat_tests) in
        rw e refl

    after_last : after (length old) ≡ built before s
    after_last =
        let e : (length old == length old) ≡ true = grind (arith, nat_tests) in
        rw e refl

    -- one more node, whose arguments are nodes
    pub pushed : IsOf old before → ArgsBelow (length old) s → ((n : ℕ) → IsShapeOf n s → HasNoNode old n) →
        AddsNodes old (old ++ s ∷ []) before after
    pushed of args fresh = record {
      longer = omega (arith, long);
      kept = after_old;
      is = record {
        numbered = λ i l. elim (below_or_last i (length old) (omega (arith, long))) [
          | inl b ↦ subst (λ x. ArgsBelow i x) (sym (shape_old i b)) (of.numbered i b)
          | inr e ↦ subst (λ k. ArgsBelow k (shape_at (old ++ s ∷ []) k)) (sym e)
              (subst (λ x. ArgsBelow (length old) x) (sym shape_last) args)
        ];
        variables = one;
        depicts = λ i l. elim (below_or_last i (length old) (omega (arith, long))) [
          | inl b ↦ after_old i b ∙ of.depicts i b ∙ same i (shape_at old i) (omega arith) (of.numbered i b)
              ∙ ap (λ x. built after x) (sym (shape_old i b))
          | inr e ↦ ap (λ k. after k) e ∙ after_last ∙ same (length old) s (omega arith) args
              ∙ ap (λ x. built after x) (sym shape_last) ∙ ap (λ k. built after (shape_at (old ++ s ∷ []) k)) (sym e)
        ];
      };
    }
      where
        same : (i : ℕ) (x : Shape) → i ≤ length old → ArgsBelow i x → built before x ≡ built after x
        same i x l args = built_each before after x (each_from {P = λ c. c < i} {Q = λ c. before c ≡ after c} x
            (below_each i x args) (λ c h. sym (after_old c (omega arith))))

        place : (n i : ℕ) → IsNodeOf (old ++ s ∷ []) n i → IsNodeOf old n i ⊎ ((i ≡ length old) × IsShapeOf n s)
        place n i at = elim (below_or_last i (length old) (omega (arith, long, at.0))) [
          | inl b ↦ inl (b, subst (λ x. IsShapeOf n x) (shape_old i b) at.1)
          | inr e ↦ inr (
            e,
            subst (λ x. IsShapeOf n x) shape_last
                (subst (λ k. IsShapeOf n (shape_at (old ++ s ∷ []) k)) e at.1),
          )
        ]

        one : HasOneNodeEach (old ++ s ∷ [])
        one i j n a b = by (place n i a) (place n j b)
          where
            by : IsNodeOf old n i ⊎ ((i ≡ length old) × IsShapeOf n s) →
                IsNodeOf old n j ⊎ ((j ≡ length old) × IsShapeOf n s) → i ≡ j
            by (inl x) (inl y) = of.variables i j n x y
            by (inl x) (inr y) = absurd (fresh n y.1 i x)
            by (inr x) (inl y) = absurd (fresh n x.1 j y)
            by (inr x) (inr y) = x.0 ∙ sym y.0

extended : (old mid new : List Shape) (a b c : ℕ → Tree) → AddsNodes old mid a b → AddsNodes mid new b c →
    AddsNodes old new a c
extended old mid new a b c x y = record {
  longer = omega (arith, x.longer, y.longer);
  kept = λ i l. y.kept i (omega (arith, x.longer)) ∙ x.kept i l;
  is = y.is;
}

pub adds_variable : (old : List Shape) (v : VarId) → HasNoNode old v.0 →
    Adds old (var v.0) (length old) (old ++ Var v ∷ [])
adds_variable old v none_there before of = (
  after old (Var v) before,
  pushed old (Var v) before of tt (λ n e. subst (λ k. HasNoNode old k) e none_there),
  omega (arith, long old (Var v)),
  after_last old (Var v) before,
  λ i h l.
      let e : i ≡ length old = omega (arith, long old (Var v)) in
      ap (λ k. after old (Var v) before k) e ∙ after_last old (Var v) before,
)

pub adds_application : (old mid : List Shape) (f : SymId) (nodes : List ℕ) (ts : List Tree) →
    AddsAll old ts nodes mid → Adds old (app f.0 (trees_of ts)) (length mid) (mid ++ App f nodes ∷ [])
adds_application old mid f nodes ts all before of =
    let r = all before of in
    let u : ℕ → Tree = r.0 in
    let s : Shape = App f nodes in
    let p : AddsNodes mid (mid ++ s ∷ []) u (after mid s u) = pushed mid s u r.1.is r.2 (λ n e. absurd e) in
    let own : after mid s u (length mid) ≡ app f.0 (trees_of ts) = after_last mid s u ∙ ap (λ us. app f.0 us) r.3 in (
      after mid s u,
      extended old mid (mid ++ s ∷ []) before u (after mid s u) r.1 p,
      omega (arith, long mid s),
      own,
      λ i h l. elim (below_or_last i (length mid) (omega (arith, long mid s))) [
        | inl b ↦ inr (subst (λ x. IsPartOfAny x (trees_of ts)) (sym (p.kept i b)) (r.4 i h b))
        | inr e ↦ inl (ap (λ k. after mid s u k) e ∙ own)
      ],
    )

part_of_more : (t u : Tree) (ts : List Tree) → IsPartOfAny t (trees_of ts) → IsPartOfAny t (trees_of (ts ++ u ∷ []))
part_of_more t u [] p = absurd p
part_of_more t u (x ∷ xs) (inl p) = inl p
part_of_more t u (x ∷ xs) (inr p) = inr (part_of_more t u xs p)

part_of_last : (t u : Tree) (ts : List Tree) → IsPart t u → IsPartOfAny t (trees_of (ts ++ u ∷ []))
part_of_last t u [] p = inl p
part_of_last t u (x ∷ xs) p = inr (part_of_last t u xs p)

adds_more : (old mid new : List Shape) (ts : List Tree) (t : Tree) (nodes : List ℕ) (node : ℕ) →
    AddsAll old ts nodes mid → Adds mid t node new → AddsAll old (ts ++ t ∷ []) (nodes ++ node ∷ []) new
adds_more old mid new ts t nodes node all one before of =
    let r = all before of in
    let u : ℕ → Tree = r.0 in
    let q = one u r.1.is in
    let w : ℕ → Tree = q.0 in (
      w,
      extended old mid new before u w r.1 q.1,
      below-append (length new) nodes node (below_most (length mid) (length new) nodes q.1.longer r.2) q.2,
      trees_by-append w nodes node ts t (trees_by_below (length mid) w u nodes r.2 (λ i l. q.1.kept i l) ∙ r.3) q.3,
      λ i h l. elim (below_or_not i (length mid)) [
        | inl b ↦ subst (λ x. IsPartOfAny x (trees_of (ts ++ t ∷ []))) (sym (q.1.kept i b))
            (part_of_more (u i) t ts (r.4 i h b))
        | inr b ↦ part_of_last (w i) t ts (q.4 i b l)
      ],
    )

pub adds_next : (old mid new : List Shape) (ts : List Tree) (k : ℕ) (t : Tree) (nodes after : List ℕ)
    (node : ℕ) → k < length ts → t ≡ get_or ts k t → AddsAll old (take k ts) nodes mid → Adds mid t node new →
    after ≡ nodes ++ node ∷ [] → AddsAll old (take (k + 1) ts) after new
adds_next old mid new ts k t nodes after node h e all one is =
    let p : take (k + 1) ts ≡ take k ts ++ t ∷ [] = take_more ts k t h ∙ ap (λ x. take k ts ++ x ∷ []) (sym e) in
    subst (λ xs. AddsAll old xs after new) (sym p) (subst (λ ns. AddsAll old (take k ts ++ t ∷ []) ns new)
    (sym is) (adds_more old mid new (take k ts) t nodes node all one))

pub adds_all : (old new : List Shape) (ts : List Tree) (k : ℕ) (nodes : List ℕ) → length ts ≤ k →
    AddsAll old (take k ts) nodes new → AddsAll old ts nodes new
adds_all old new ts k nodes h all =
    let e : take k ts ≡ ts = grind (arith, common_steps) in
    subst (λ xs. AddsAll old xs nodes new) e all

-- what a call of `push` adds
pub adds_pushed : {E : Type 0} (r : Result ℕ E) (old mid new : List Shape) (s : Shape) (t u : Tree) → t ≡ u →
    IfOk r (λ node. node ≡ length mid) → OnOk r (new ≡ mid ++ s ∷ []) →
    Adds old t (length mid) (mid ++ s ∷ []) → IfOk r (λ node. Adds old u node new)
adds_pushed (Ok n) old mid new s t u e p q a =
    subst (λ x. Adds old x n new) e
    (subst (λ k. Adds old t k new) (sym p) (subst (λ g. Adds old t (length mid) g) (sym q) a))
adds_pushed (Err x) old mid new s t u e p q a = tt
