-- What the row `cover` says of patterns for a variable.
use Rattle.std.proofs.Common.{ℕ, List, [], ◌∷◌, inl, inr, map, refl, sym, subst, arith}
use Rattle.std.specs.Prelude.{zip}
use Rattle.std.specs.List.{AllByRecursion, AllZip}
use Rattle.std.proofs.lemmas.List.{length-map}
use Rattle.term_core.specs.Tree.{Tree}
use Rattle.term_core.specs.declared.ids.SortId.{SortId}
use Rattle.spec_core.specs.declared.records.Spec.{Spec}
use Rattle.clause_core.specs.declared.clauses.Clause.{Clause}
use Rattle.clause_core.specs.declared.clauses.Relation.TheVariants.{Same}
use Rattle.clause_core.specs.declared.answers.Child.{Child}
use Rattle.clause_core.specs.Limits.{IsWithin}
use Rattle.clause_core.specs.Tidied.{tidied}
use Rattle.clause_core.specs.Says.{IsChild}
use Rattle.clause_core.specs.Covering.{covered_by, cover_child}
use Rattle.test_sets.specs.Covers.{children_of}
use Rattle.test_sets.specs.Laws.{same_children, CoverIsItsRow}

-- a child that is Same
abbrev same : Clause → Child
same d = record { clause = d; relation = Same }

module _ (above : Tree → Tree → Type 0) (spec : Spec) (c : Clause) (n : ℕ) where
  are_made : (qs : List (List SortId × Tree)) →
      AllZip (IsChild above c) (map (cover_child spec c n) qs)
      (map same (map (λ (q : List SortId × Tree). tidied (covered_by c n q)) qs))
  are_made [] = tt
  are_made (q ∷ qs) = ((refl, refl), are_made qs)

forth : (ds : List Clause) → AllByRecursion IsWithin ds →
    AllByRecursion (λ (d : Child). IsWithin d.clause) (map same ds)
forth [] h = tt
forth (d ∷ ds) h = (h.0, forth ds h.1)

back : (ds : List Clause) → AllByRecursion (λ (d : Child). IsWithin d.clause) (map same ds) → AllByRecursion IsWithin ds
back [] h = tt
back (d ∷ ds) h = (h.0, back ds h.1)

pub cover_says : (above : Tree → Tree → Type 0) → CoverIsItsRow above
cover_says above = record {
  children = λ spec nodes c n patterns are made is few. inl (
    are,
    inl (
      is.covering,
      (
        same_children made,
        subst (λ ds. AllZip (IsChild above c) (map (cover_child spec c n) (zip are.contexts patterns))
            (map same ds)) (sym is.children) (are_made above spec c n (zip are.contexts patterns)),
        tt,
        inl ((forth made is.within, omega (arith, few, length-map made same)), refl),
      ),
    ),
  );
  full = λ spec nodes c n patterns are made is many. inl (
    are,
    inl (
      is.covering,
      (
        same_children made,
        subst (λ ds. AllZip (IsChild above c) (map (cover_child spec c n) (zip are.contexts patterns))
            (map same ds)) (sym is.children) (are_made above spec c n (zip are.contexts patterns)),
        tt,
        inr (λ w. omega (arith, many, w.1, length-map made same), refl),
      ),
    ),
  );
  limit = λ spec nodes c n patterns are is. inl (
    are,
    inl (
      is.0,
      (
        same_children (children_of spec.sig c n patterns are),
        are_made above spec c n (zip are.contexts patterns),
        tt,
        inr (λ w. is.1 (back (children_of spec.sig c n patterns are) w.0), refl),
      ),
    ),
  );
  not_covering = λ spec nodes c n patterns are value is. inl (
    are,
    inr (λ covering. is.missing (covering value is.value), refl),
  );
}
