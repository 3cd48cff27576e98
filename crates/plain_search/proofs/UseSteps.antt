-- `rule` at the leftmost-innermost use in a side of a clause of one equation.
use Rattle.std.proofs.Common.{◌≡◌, ℕ, ◌+◌, ◌≤◌, List, [], ◌∷◌, Bool, Some, inl, refl, ap, sym, ◌∙◌, subst, map, length}
use Rattle.std.proofs.Common.{arith}
use Rattle.std.specs.Prelude.{Ok}
use Rattle.std.specs.List.{AllByRecursion}
use Rattle.std.proofs.lemmas.List.{length-map}
use Rattle.term_core.specs.Tree.{Tree, instance}
use Rattle.term_core.specs.Places.{IsAt}
use Rattle.term_core.specs.Contexts.{plug}
use Rattle.term_core.specs.declared.ids.SortId.{SortId}
use Rattle.term_core.proofs.Paths.{one_replacement}
use Rattle.spec_core.specs.declared.records.Equation.{Equation}
use Rattle.spec_core.specs.declared.records.Guard.{Guard}
use Rattle.spec_core.specs.declared.records.Spec.{Spec}
use Rattle.spec_core.specs.declared.records.VarInfo.{VarInfo}
use Rattle.spec_core.specs.WellSorted.{IsWellSorted, sorts_of}
use Rattle.spec_core.proofs.Determined.{occurs_within}
use Rattle.substitutions.specs.Substitution.{image}
use Rattle.clause_core.specs.declared.clauses.Clause.{Clause}
use Rattle.clause_core.specs.declared.clauses.Relation.TheVariants.{Less}
use Rattle.clause_core.specs.declared.steps.Step.{Step}
use Rattle.clause_core.specs.declared.steps.Step.TheVariants.{Rule as RuleStep}
use Rattle.clause_core.specs.declared.answers.Children.{Children}
use Rattle.clause_core.specs.Equations.{Among}
use Rattle.clause_core.specs.Limits.{IsWithin}
use Rattle.clause_core.specs.Places.{TermAt, side, with_side, holding}
use Rattle.clause_core.specs.RuleInstances.{RuleAt, IsInstance, guard_equation}
use Rattle.clause_core.specs.Rewriting.{GuardsAreThere}
use Rattle.clause_core.specs.Says.{Says}
use Rattle.clause_core.specs.Steps.{row_of}
use Rattle.clause_core.specs.Tidied.{tidied}
use Rattle.clause_core.proofs.PathsOfPlaces.{context_at, term_is_replaced}
use Rattle.normalization.specs.Uses.{Use}
use Rattle.normalization.specs.FirstUses.{IsFirstUse}
use Rattle.normalization.specs.NormalForms.{IsNormal}
use Rattle.plain_search.specs.Choices.{place_in, IsUse, IsPossible}
use Rattle.plain_search.proofs.Conditions.{only_equation}
use Rattle.plain_search.proofs.Renamings.{tabulated, tabulated_long, tabulated_instance}

-- the clause of one equation
abbrev pub clause_of : List SortId → Equation → Clause
clause_of ctx e = record { ctx = ctx; premises = []; conclusions = e ∷ [] }

-- one child, which is Less
abbrev pub one_child : Clause → Children
one_child c = record { clauses = record { clause = tidied c; relation = Less } ∷ []; refs = [] }

-- the rule of a use has the old term as an instance of its left side, and the new one of its right side
record HasTerms (spec : Spec) (k : ℕ) (t u : Tree) (w : Use spec k t u) : Type 0 where
  fits : IsInstance w.rule t
  new : instance fits.terms w.rule.right ≡ u
  unguarded : (c : Clause) → GuardsAreThere c fits.terms w.rule

use_terms : (spec : Spec) → IsWellSorted spec → (k : ℕ) (t u : Tree) (w : Use spec k t u) → HasTerms spec k t u w
use_terms spec fine k t u w =
    let ctx = sorts_of w.rule.vars in
    let sides = (fine.rules w.listed.0 w.rule w.listed.2).sides in
    let terms = tabulated (image w.entries) (length ctx) in
    let long : length ctx ≡ length w.rule.vars = length-map w.rule.vars (λ (v : VarInfo). v.sort) in
    record {
      fits = record {
        terms = terms;
        long = tabulated_long (image w.entries) (length ctx) ∙ long;
        is = tabulated_instance w.entries (length ctx) w.rule.left
            (λ n o. occurs_within spec.sig ctx w.rule.left sides.0 sides.1 n o) ∙ w.left;
      };
      new = tabulated_instance w.entries (length ctx) w.rule.right
          (λ n o. occurs_within spec.sig ctx w.rule.right sides.0 sides.2 n o) ∙ sym w.right;
      unguarded = λ c. subst (λ (gs : List Guard). AllByRecursion (λ (e : Equation). Among e c.premises)
          (map (guard_equation terms) gs)) (sym w.unguarded) tt;
    }

module _ (above : Tree → Tree → Type 0) (spec : Spec) (fine : IsWellSorted spec) (usable : ℕ →
    Type 0) (nodes : List Clause) (ctx : List SortId) (e : Equation) (left : Bool) where
  pub use_says :
      (p : List ℕ) (k : ℕ) (made : Tree) → length nodes + 1 ≤ 10000 → IsFirstUse spec (side left e) p k made →
      IsWithin (tidied (clause_of ctx (with_side left e made))) →
      Says above (clause_of ctx e) nodes
      (row_of spec usable nodes (clause_of ctx e) (RuleStep (place_in left p) k))
      (Ok (one_child (clause_of ctx (with_side left e made))))
  use_says p k made few w within =
      let c = clause_of ctx e in
      let x = w.rule in
      let h = use_terms spec fine k w.old w.new x in
      let round = context_at p (side left e) w.old w.at in
      let at : TermAt c (place_in left p) = record {
        at = only_equation e;
        round = round.0;
        term = w.old;
        is = round.1;
        path = round.2;
      } in
      let rule : RuleAt spec k = record {
        place = x.listed.0;
        rule = x.rule;
        counts = omega (
          arith,
          x.listed.1,
        );
        is = x.listed.2;
      } in
      let replaced = term_is_replaced c (place_in left p) at w.new in
      let same : made ≡ plug round.0 (instance h.fits.terms x.rule.right) =
      one_replacement p (side left e) w.new made (plug round.0 w.new) w.made replaced
      ∙ ap (λ t. plug round.0 t) (sym h.new) in
      let child : tidied (clause_of ctx (with_side left e made)) ≡ tidied
      (holding at (instance h.fits.terms x.rule.right)) = ap
      (λ t. tidied (clause_of ctx (with_side left e t))) same in
      inl (
        at,
        inl (
          rule,
          inl (
            (h.fits, h.unguarded c),
            (
              one_child (clause_of ctx (with_side left e made)),
              ((child, refl), tt),
              tt,
              inl (((within, tt), omega (arith, few)), refl),
            ),
          ),
        ),
      )

  -- there is no use in a normal side
  pub no_use : (start : Clause) → IsNormal spec (side left e) → (s : Step) →
      IsPossible above spec usable start nodes (clause_of ctx e) (IsUse spec (clause_of ctx e) left) s → ⊥
  no_use start normal s (is, makes, says) =
      let w = is.5 in
      let q : Some e ≡ Some is.0 = is.4 in
      let same : is.0 ≡ e = cc in
      normal is.1 w.old (subst (λ (x : Equation). IsAt is.1 (side left x) w.old) same w.at) is.2 w.new w.rule
