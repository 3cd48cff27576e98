-- `rule` and `case` say one thing.
use Rattle.std.proofs.Common.{◌≡◌, ℕ, suc, ◌<◌, List, [], ◌∷◌, map, refl, ap, sym, ◌∙◌, arith, length}
use Rattle.std.specs.Prelude.{slice_index_or}
use Rattle.std.proofs.lemmas.List.{length-map}
use Rattle.term_core.specs.Tree.{Tree, var, instance}
use Rattle.term_core.proofs.Instances.{agree}
use Rattle.spec_core.specs.declared.records.VarInfo.{VarInfo}
use Rattle.spec_core.specs.declared.records.Rule.{Rule}
use Rattle.spec_core.specs.declared.records.Spec.{Spec}
use Rattle.spec_core.specs.Sig.{Sig}
use Rattle.spec_core.specs.WellSorted.{IsWellSorted, RuleIsSorted, sorts_of}
use Rattle.clause_core.specs.declared.clauses.Clause.{Clause}
use Rattle.clause_core.specs.declared.clauses.Relation.TheVariants.{Less}
use Rattle.clause_core.specs.declared.steps.Place.{Place}
use Rattle.clause_core.specs.declared.answers.Why.TheVariants.{DoesNotFit}
use Rattle.clause_core.specs.Places.{TermAt, holding}
use Rattle.clause_core.specs.Rows.{Row, child, needs, makes}
use Rattle.clause_core.specs.RuleInstances.{RuleAt, IsInstance, guard_equations, group_of}
use Rattle.clause_core.specs.Rewriting.{GuardsAreThere, with_rule_at, rule_row}
use Rattle.clause_core.specs.CaseSplitting.{with_premises, case_child, case_row}
use Rattle.clause_core.proofs.OneAnswer.{Agree, forth, back}
use Rattle.clause_core.proofs.OnePlace.{term_one}
use Rattle.clause_core.proofs.OneReferred.{one_get}

-- lists of one length with the same entries are the same
same_lists : (d : ℕ → Tree) (xs ys : List Tree) → length xs ≡ length ys →
    ((n : ℕ) → n < length xs → slice_index_or xs n (d n) ≡ slice_index_or ys n (d n)) → xs ≡ ys
same_lists d [] [] l h = refl
same_lists d [] (y ∷ ys) l h = absurd (omega arith)
same_lists d (x ∷ xs) [] l h = absurd (omega arith)
same_lists d (x ∷ xs) (y ∷ ys) l h =
    let p : x ≡ y = h 0 (omega arith) in
    let q : xs ≡ ys = same_lists (λ n. d (suc n)) xs ys (omega arith) (λ n lt. h (suc n) (omega arith)) in
    λ i. p i ∷ q i

length_sorts : (rule : Rule) → length (sorts_of rule.vars) ≡ length rule.vars
length_sorts rule = length-map rule.vars (λ (v : VarInfo). v.sort)

-- a term has one list of terms by which it is an instance of a left side
terms_one : (sig : Sig) (r q : Rule) → RuleIsSorted sig r → r ≡ q → (t u : Tree) → t ≡ u →
    (a : IsInstance r t) (b : IsInstance q u) → a.terms ≡ b.terms
terms_one sig r q fine e t u d a b =
    let lefts : instance b.terms q.left ≡ instance b.terms r.left = ap (λ (x : Rule). instance b.terms x.left)
    (sym e) in
    let longs : length r.vars ≡ length q.vars = ap (λ (x : Rule). length x.vars) e in
    same_lists (λ n. var n) a.terms b.terms (a.long ∙ longs ∙ sym b.long)
    (λ n l. agree r.left a.terms b.terms (a.is ∙ d ∙ sym b.is ∙ lefts) n
    (fine.bound n (omega (arith, length_sorts r, a.long, l))))

module _ (spec : Spec) (fine : IsWellSorted spec) (c : Clause) where
  rule_at_one : (n : ℕ) (r q : RuleAt spec n) → r.rule ≡ q.rule
  rule_at_one n r q = one_get spec.rules r.place q.place r.rule q.rule r.is q.is (omega (arith, r.counts, q.counts))

  with_rule_at_one : (place : Place) (n : ℕ) (rest : TermAt c place → Rule → Row) →
      ((at bt : TermAt c place) (r q : Rule) → RuleIsSorted spec.sig r → r ≡ q → at.term ≡ bt.term →
      Agree (rest at r) (rest bt q)) → Agree (with_rule_at spec c place n rest) (with_rule_at spec c place n rest)
  with_rule_at_one place n rest h = (
    λ p. p,
    λ p. p,
    refl,
    λ at bt. (
      λ p. p,
      λ p. p,
      refl,
      λ r q. h at bt r.rule q.rule (fine.rules r.place r.rule r.is) (rule_at_one n r q) (term_one c place at bt).0,
    ),
  )

  pub rule_one : (place : Place) (n : ℕ) → Agree (rule_row spec c place n) (rule_row spec c place n)
  rule_one place n = with_rule_at_one place n
      (λ at rule. needs ((m : IsInstance rule at.term) × GuardsAreThere c m.terms rule) DoesNotFit
      (λ m. makes (child Less (holding at (instance m.0.terms rule.right)) ∷ []) [])) by_rule
    where
      P : Rule × Tree → Type 0
      P x = (m : IsInstance x.0 x.1) × GuardsAreThere c m.terms x.0

      by_rule : (at bt : TermAt c place) (r q : Rule) → RuleIsSorted spec.sig r → r ≡ q → at.term ≡ bt.term →
          Agree (needs (P (r, at.term)) DoesNotFit
          (λ m. makes (child Less (holding at (instance m.0.terms r.right)) ∷ []) []))
          (needs (P (q, bt.term)) DoesNotFit
          (λ m. makes (child Less (holding bt (instance m.0.terms q.right)) ∷ []) []))
      by_rule at bt r q sorted e d =
          let both : ◌≡◌ {A = Rule × Tree} (r, at.term) (q, bt.term) = λ i. (e i, d i) in (
            forth P both,
            back P both,
            refl,
            λ a b.
                let ts : a.0.terms ≡ b.0.terms = terms_one spec.sig r q sorted e at.term bt.term d a.0 b.0 in
                let h : holding at (instance a.0.terms r.right) ≡ holding bt
                (instance b.0.terms q.right) = (term_one c place at bt).1 (instance a.0.terms r.right)
                (instance b.0.terms q.right) (λ i. instance (ts i) (e i).right) in
                (λ i. child Less (h i) ∷ [], refl),
          )

  pub case_one : (place : Place) (n : ℕ) → Agree (case_row spec c place n) (case_row spec c place n)
  case_one place n = with_rule_at_one place n (λ at rule. needs (IsInstance rule at.term) DoesNotFit
      (λ m. makes (map (case_child spec c at m.terms) (group_of spec rule.left)) [])) by_group
    where
      by_group : (at bt : TermAt c place) (r q : Rule) → RuleIsSorted spec.sig r → r ≡ q → at.term ≡ bt.term →
          Agree (needs (IsInstance r at.term) DoesNotFit
          (λ m. makes (map (case_child spec c at m.terms) (group_of spec r.left)) []))
          (needs (IsInstance q bt.term) DoesNotFit
          (λ m. makes (map (case_child spec c bt m.terms) (group_of spec q.left)) []))
      by_group at bt r q sorted e d =
          let both : ◌≡◌ {A = Rule × Tree} (r, at.term) (q, bt.term) = λ i. (e i, d i) in
          let P : Rule × Tree → Type 0 = λ x. IsInstance x.0 x.1 in (
            forth P both,
            back P both,
            refl,
            λ a b.
                let ts : a.terms ≡ b.terms = terms_one spec.sig r q sorted e at.term bt.term d a b in
                let h : (x : Rule) → holding at (instance a.terms x.right) ≡ holding bt
                (instance b.terms x.right) = λ x. (term_one c place at bt).1 (instance a.terms x.right)
                (instance b.terms x.right) (λ i. instance (ts i) x.right) in (
                  λ i. map (λ (x : Rule). child Less (with_premises (h x i) (guard_equations (ts i) x)))
                      (group_of spec (e i).left),
                  refl,
                ),
          )
