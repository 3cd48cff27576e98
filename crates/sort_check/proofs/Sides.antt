-- The sides of equations over variables as they are met.
use Rattle.std.proofs.Common.{◌≡◌, ◌<◌, ℕ, zero, suc, ◌+◌, List, [], ◌∷◌, ◌++◌, Option, Some, None, refl, ap, sym, ◌∙◌}
use Rattle.std.proofs.Common.{subst, arith, length, take, get_or, append_assoc}
use Rattle.std.specs.List.{AllZip}
use Rattle.std.proofs.lemmas.List.{append-nil}
use Rattle.term_core.specs.Tree.{Tree}
use Rattle.term_core.specs.declared.ids.SortId.{SortId}
use Rattle.spec_core.specs.declared.records.Equation.{Equation}
use Rattle.spec_core.specs.Sig.{Sig}
use Rattle.spec_core.specs.Findings.{Clean}
use Rattle.spec_grammar.specs.declared.raw.RawEq.{RawEq}
use Rattle.sort_check.specs.Words.{entries_after, term_tests}
use Rattle.sort_check.specs.GoalTests.{own_sort, wanted, sides_tests, after_sides, with_pair, pair_of, pairs_in}
use Rattle.sort_check.specs.Over.{IsOver, IsEquationOver}
use Rattle.sort_check.specs.declared.entries.Entry.{Entry}
use Rattle.sort_check.specs.declared.entries.Pair.{Pair}
use Rattle.sort_check.specs.declared.faults.SortKind.TheVariants.{WrongSort}
use Rattle.sort_check.specs.declared.faults.Part.{Part}
use Rattle.sort_check.specs.declared.faults.Part.TheVariants.{Goal}
use Rattle.sort_check.proofs.Growth.{KeepsNames, Keeps, extends_both, extends, keeps, over_more}

module _ (sig : Sig) where
  -- the sides of an equation keep the variables, and their sorts
  pub after_extends : (es : List Entry) (e : RawEq) → KeepsNames es (after_sides sig es e)
  after_extends es e = extends_both es (entries_after sig es e.left None) (after_sides sig es e)
      (extends sig es e.left None) (extends sig (entries_after sig es e.left None) e.right
      (wanted (own_sort sig e.left) (own_sort sig e.right)))

  pub after_keeps : (es : List Entry) (e : RawEq) → Keeps es (after_sides sig es e)
  after_keeps es e n s h = keeps sig (entries_after sig es e.left None) e.right
      (wanted (own_sort sig e.left) (own_sort sig e.right)) n s (keeps sig es e.left None n s h)

  pub sides_extend : (es fs : List Entry) (e : RawEq) → fs ≡ after_sides sig es e → KeepsNames es fs
  sides_extend es fs e is = subst (λ gs. KeepsNames es gs) (sym is) (after_extends es e)

  -- equations over the variables are equations over more of them
  pub equations_more : (es fs : List Entry) → KeepsNames es fs → (raws : List RawEq) (ts : List Equation) →
      AllZip (IsEquationOver sig es) raws ts → AllZip (IsEquationOver sig fs) raws ts
  equations_more es fs x [] [] p = tt
  equations_more es fs x (r ∷ rs) [] p = absurd p
  equations_more es fs x [] (t ∷ ts) p = absurd p
  equations_more es fs x (r ∷ rs) (t ∷ ts) p = (
    (
      over_more sig es fs r.left t.left x p.0.0,
      over_more sig es fs r.right t.right x p.0.1,
    ),
    equations_more es fs x rs ts p.1,
  )

  -- the sides of one equation
  pub sides_made : (es fs gs : List Entry) (raw : RawEq) (left right : Tree) (place : Option SortId) →
      place ≡ wanted (own_sort sig raw.left) (own_sort sig raw.right) →
      fs ≡ entries_after sig es raw.left None → IsOver sig fs raw.left left →
      gs ≡ entries_after sig fs raw.right place → IsOver sig gs raw.right right → (gs ≡ after_sides sig es raw)
      × IsEquationOver sig gs raw (record { left = left; right = right })
  sides_made es fs gs raw left right place is a l b r =
      let whole : gs ≡ after_sides sig es raw = b ∙ (λ i. entries_after sig (a i) raw.right (is i)) in (
        whole,
        (
          over_more sig fs gs raw.left left
              (subst (λ us. KeepsNames fs us) (sym b) (extends sig fs raw.right place)) l,
          r,
        ),
      )

  pub sides_answer : (part : Part) (es fs gs : List Entry) (raw : RawEq) (left right : Tree)
      (place : Option SortId) → part ≡ Goal → place ≡ wanted (own_sort sig raw.left) (own_sort sig raw.right) →
      Clean (term_tests sig part es WrongSort raw.left None)
      × ((fs ≡ entries_after sig es raw.left None) × IsOver sig fs raw.left left) →
      Clean (term_tests sig part fs WrongSort raw.right place)
      × ((gs ≡ entries_after sig fs raw.right place) × IsOver sig gs raw.right right) →
      Clean (sides_tests sig es raw)
      × ((gs ≡ after_sides sig es raw) × IsEquationOver sig gs raw (record { left = left; right = right }))
  sides_answer part es fs gs raw left right place goal is a b =
      let first : Clean (term_tests sig Goal es WrongSort raw.left None) = subst
      (λ p. Clean (term_tests sig p es WrongSort raw.left None)) goal a.0 in
      let second : Clean (term_tests sig Goal (entries_after sig es raw.left None) WrongSort raw.right
      (wanted (own_sort sig raw.left) (own_sort sig raw.right))) = subst
      (λ us. Clean (term_tests sig Goal us WrongSort raw.right
      (wanted (own_sort sig raw.left) (own_sort sig raw.right)))) a.1.0
      (subst (λ o. Clean (term_tests sig Goal fs WrongSort raw.right o)) is
      (subst (λ p. Clean (term_tests sig p fs WrongSort raw.right place)) goal b.0)) in
      ((first, second), sides_made es fs gs raw left right place is a.1.0 a.1.1 b.1.0 b.1.1)

  pairs_after : (es : List Entry) (raws : List RawEq) (i : ℕ) (raw : RawEq) → i < length raws →
      raw ≡ get_or raws i raw → pairs_in sig es (take (suc i) raws) ≡ pairs_in sig es (take i raws)
      ++ with_pair (pair_of sig es raw (own_sort sig raw.left) (own_sort sig raw.right)) []
  pairs_after es [] i raw lt is = absurd (omega arith)
  pairs_after es (r ∷ rs) zero raw lt is = ap
      (λ (e : RawEq). with_pair (pair_of sig es e (own_sort sig e.left) (own_sort sig e.right)) []) (sym is)
  pairs_after es (r ∷ rs) (suc i) raw lt is = ap
      (λ ps. with_pair (pair_of sig es r (own_sort sig r.left) (own_sort sig r.right)) ps)
      (pairs_after es rs i raw (omega arith) is)
      ∙ with_more (pair_of sig es r (own_sort sig r.left) (own_sort sig r.right)) (pairs_in sig es (take i rs)) _
    where
      with_more : (o : Option Pair) (ps qs : List Pair) → with_pair o (ps ++ qs) ≡ with_pair o ps ++ qs
      with_more (Some p) ps qs = refl
      with_more None ps qs = refl

  module _ (es : List Entry) (raws : List RawEq) (i : ℕ) (raw : RawEq) (lt : i < length raws)
      (is : raw ≡ get_or raws i raw) (old given : List Pair) (before : given ≡ old
      ++ pairs_in sig es (take i raws)) (o : Option Pair)
      (found : o ≡ pair_of sig es raw (own_sort sig raw.left) (own_sort sig raw.right)) where
    whole : old ++ pairs_in sig es (take (i + 1) raws) ≡ given ++ with_pair o []
    whole =
        let e : i + 1 ≡ suc i = omega arith in
        ap (λ m. old ++ pairs_in sig es (take m raws)) e
        ∙ ap (λ ps. old ++ ps) (pairs_after es raws i raw lt is)
        ∙ ap (λ q. old ++ (pairs_in sig es (take i raws) ++ with_pair q [])) (sym found)
        ∙ sym (append_assoc old (pairs_in sig es (take i raws)) (with_pair o []))
        ∙ ap (λ ps. ps ++ with_pair o []) (sym before)

    pub pair_added : (p : Pair) (new : List Pair) → o ≡ Some p → new ≡ given ++ p ∷ [] →
        new ≡ old ++ pairs_in sig es (take (i + 1) raws)
    pair_added p new e h = h ∙ ap (λ q. given ++ with_pair q []) (sym e) ∙ sym whole

    pub none_added : o ≡ None → given ≡ old ++ pairs_in sig es (take (i + 1) raws)
    none_added e = sym (append-nil given) ∙ ap (λ q. given ++ with_pair q []) (sym e) ∙ sym whole

  -- the equations of two lists
  pub pairs_both : (es : List Entry) (xs ys : List RawEq) → pairs_in sig es (xs ++ ys) ≡ pairs_in sig es xs
      ++ pairs_in sig es ys
  pairs_both es [] ys = refl
  pairs_both es (x ∷ xs) ys = ap
      (λ ps. with_pair (pair_of sig es x (own_sort sig x.left) (own_sort sig x.right)) ps) (pairs_both es xs ys)
      ∙ with_both (pair_of sig es x (own_sort sig x.left) (own_sort sig x.right)) (pairs_in sig es xs)
      (pairs_in sig es ys)
    where
      with_both : (o : Option Pair) (ps qs : List Pair) → with_pair o (ps ++ qs) ≡ with_pair o ps ++ qs
      with_both (Some p) ps qs = refl
      with_both None ps qs = refl
