-- The end of `solve`.
use Rattle.std.proofs.Common.{◌≡◌, ◌≢◌, ℕ, ◌<◌, List, [], ◌∷◌, ◌++◌, Some, Option, false, inl, inr, map, length, refl}
use Rattle.std.proofs.Common.{ap, sym, ◌∙◌, subst, arith}
use Rattle.std.specs.Prelude.{Result, Ok, Err, slice_get, slice_set, slice_index_or}
use Rattle.std.proofs.lemmas.Bool.Decides.{eqb_tells, leb_tells}
use Rattle.std.proofs.lemmas.List.{get_or-set_same, get_or-set_other, get_or_past}
use Rattle.std.proofs.lemmas.List.FromFn.{get_or-map-range_with_len, length-map-range_with_len}
use Rattle.std.proofs.lemmas.Option.{slice_get_within}
use Rattle.term_core.specs.Tree.{Tree, var, app}
use Rattle.term_core.specs.Variables.{Occurs}
use Rattle.term_core.specs.declared.ids.SortId.{SortId}
use Rattle.spec_core.specs.declared.records.Equation.{Equation}
use Rattle.spec_core.specs.declared.records.Spec.{Spec}
use Rattle.spec_core.specs.Sig.{Sig}
use Rattle.spec_core.specs.Sorts.{Sorted}
use Rattle.spec_core.specs.WellSorted.{IsPattern}
use Rattle.substitutions.specs.Substitution.{entry, image}
use Rattle.substitutions.specs.Updates.{IsSetTo}
use Rattle.substitutions.proofs.Instances.{image_entry, image_none, apply_same, apply_values}
use Rattle.clause_core.specs.declared.clauses.Clause.{Clause}
use Rattle.clause_core.specs.declared.clauses.Relation.TheVariants.{Less}
use Rattle.clause_core.specs.declared.answers.Children.{Children}
use Rattle.clause_core.specs.declared.answers.Why.TheVariants.{Limit}
use Rattle.clause_core.specs.Clauses.{ClauseIsSorted}
use Rattle.clause_core.specs.ClauseInstances.{equation_instance, clause_instance}
use Rattle.clause_core.specs.Instances.{variables, with_term}
use Rattle.clause_core.specs.Limits.{IsWithin}
use Rattle.clause_core.specs.NumberedEquations.{EquationAt, exchanged}
use Rattle.clause_core.specs.Rows.{child, makes}
use Rattle.clause_core.specs.Solving.{Solves, IsSolved, solve_row}
use Rattle.clause_core.specs.Tidied.{tidied}
use Rattle.clause_core.proofs.OneAnswer.{back}
use Rattle.clause_core.proofs.TidiedLimits.{tidied_within}
use Rattle.inference_rules.specs.declared.nodes.StepError.{StepError}
use Rattle.inference_rules.specs.declared.nodes.StepError.TheVariants.{Why as because, OutOfMemory as out_of_memory}
use Rattle.inference_rules.specs.Answers.{AnsweredAlone}
use Rattle.inference_rules.proofs.Simplified.{one_child}

-- a child that passes the limits, built or not
pub past_limits : (c d : Clause) → (IsWithin d → ⊥) →
    AnsweredAlone c (makes (child Less d ∷ []) []) (Err (because Limit))
past_limits c d past = (
  record { clauses = record { clause = tidied d; relation = Less } ∷ []; refs = [] },
  ((refl, refl), tt),
  tt,
  inr (λ w. past ((tidied_within d).0 w.0.0), refl),
)

-- the variables with one exchanged: the one is the term, and each other one is itself
module _ (len n : ℕ) (t : Tree) (lt : n < len) where
  abbrev exchanged_terms : List Tree
  exchanged_terms = slice_set (variables 0 len) n t

  other_stays : (m : ℕ) → m ≢ n → slice_index_or exchanged_terms m (var m) ≡ var m
  other_stays m d =
      get_or-set_other (variables 0 len) n m t (var m) d
      ∙ (elim (leb_tells len m) [
        | inl e ↦ get_or_past (variables 0 len) m (var m)
            (omega (arith, length-map-range_with_len (λ k. var k) 0 len, e.1))
        | inr e ↦ get_or-map-range_with_len (λ k. var k) 0 len m m (var m) (omega (arith, e.1)) (omega arith)
      ])

  images_exchanged : (theta : List (Option Tree)) → IsSetTo [] n t theta → (m : ℕ) →
      image theta m ≡ image (map (λ (u : Tree). Some u) exchanged_terms) m
  images_exchanged theta is m = elim (eqb_tells m n) [
    | inl e ↦
        image_entry theta m t (ap (λ k. entry theta k) e.1 ∙ is.0)
        ∙ sym (ap (λ k. slice_index_or exchanged_terms k (var m)) e.1
        ∙ get_or-set_same (variables 0 len) n t (var m)
        (omega (arith, length-map-range_with_len (λ k. var k) 0 len, lt)))
        ∙ sym (apply_values exchanged_terms (var m))
    | inr e ↦ image_none theta m (is.1 m e.1) ∙ sym (other_stays m e.1) ∙ sym (apply_values exchanged_terms (var m))
  ]

instances_same : (s u : List (Option Tree)) → ((m : ℕ) → image s m ≡ image u m) → (es : List Equation) →
    map (equation_instance s) es ≡ map (equation_instance u) es
instances_same s u same [] = refl
instances_same s u same (e ∷ es) =
    let l = apply_same e.left s u (λ m o. same m) in
    let r = apply_same e.right s u (λ m o. same m) in
    let rest = instances_same s u same es in
    λ i. record { left = l i; right = r i } ∷ rest i

-- the instance by one entry is the clause with the term for its variable
pub instance_is_exchanged :
    (theta : List (Option Tree)) (ctx : List SortId) (c : Clause) (n : ℕ) (t : Tree) → n < length c.ctx →
    IsSetTo [] n t theta →
    clause_instance theta ctx c ≡ with_term ctx c n t
instance_is_exchanged theta ctx c n t lt is =
    let same = images_exchanged (length c.ctx) n t lt theta is in
    let p = instances_same theta _ same c.premises in
    let q = instances_same theta _ same c.conclusions in
    λ i. record { ctx = ctx; premises = p i; conclusions = q i }

solved_variable : (sig : Sig) (ctx : List SortId) (l r : Tree) (n : ℕ) (t : Tree) (s : SortId) →
    Solves l r n t → Sorted sig ctx l s → Sorted sig ctx r s → slice_get ctx n ≡ Some s
solved_variable sig ctx (var m) r n t s e p q = ap (λ k. slice_get ctx k) e.0 ∙ p
solved_variable sig ctx (app f ts) (var m) n t s e p q = ap (λ k. slice_get ctx k) e.0 ∙ q
solved_variable sig ctx (app f ts) (app g us) n t s e p q = absurd e

stands_at : (before after : List Equation) (e : Equation) → slice_get (before ++ (e ∷ after)) (length before) ≡ Some e
stands_at [] after e = refl
stands_at (d ∷ before) after e = stands_at before after e

-- the variable that a premise of a sorted clause is solved for is one of the clause's
pub solved_within : (sig : Sig) (c : Clause) → ClauseIsSorted sig c →
    (number : ℕ) (at : EquationAt c.premises number) (n : ℕ) (t : Tree) →
    Solves at.equation.left at.equation.right n t → n < length c.ctx
solved_within sig c sorted number at n t s =
    let found = sorted.premises (length at.before) at.equation (ap (λ es. slice_get es (length at.before)) at.is
    ∙ stands_at at.before at.after at.equation) in
    slice_get_within c.ctx n found.0 (solved_variable sig c.ctx at.equation.left at.equation.right n t found.0 s
    found.1 found.2)

-- the premise is solved so, as it is at its number
abbrev pub solved_at :
    (sig : Sig) (d e : Equation) (n : ℕ) (t : Tree) → d ≡ e → Solves e.left e.right n t → IsPattern sig t →
    (Occurs n t → ⊥) → IsSolved sig d
solved_at sig d e n t same s p
    a = record {
      variable = n;
      term = t;
      solves = back (λ (x : Equation). Solves x.left x.right n t) same s;
      pattern = p;
      absent = a;
    }

-- the child that is built
pub child_is_exchanged :
    (theta : List (Option Tree)) (c : Clause) (number : ℕ) (at : EquationAt c.premises number) (n : ℕ)
    (t : Tree) → n < length c.ctx →
    (old : List (Option Tree)) → old ≡ [] → IsSetTo old n t theta → (parts : List Equation) → parts ≡ [] →
    (rest : Clause) → rest ≡ exchanged false c at parts →
    clause_instance theta c.ctx rest ≡ with_term c.ctx (exchanged false c at []) n t
child_is_exchanged theta c number at n t lt old none is parts empty rest made =
    ap (λ r. clause_instance theta c.ctx r) (made ∙ ap (λ es. exchanged false c at es) empty)
    ∙ instance_is_exchanged theta c.ctx (exchanged false c at []) n t lt (subst (λ os. IsSetTo os n t theta) none is)

pub solve_answered :
    (spec : Spec) (c : Clause) (number : ℕ) (at : EquationAt c.premises number)
    (solved : IsSolved spec.sig at.equation) (d : Clause) →
    d ≡ with_term c.ctx (exchanged false c at []) solved.variable solved.term → (answer : Result Children StepError) →
    AnsweredAlone c (makes (child Less d ∷ []) []) answer → AnsweredAlone c (solve_row spec c number) answer
solve_answered spec c number at solved d same (Ok made) h = inl (
  at,
  inl (solved, one_child c Less d _ (Ok made) same h),
)
solve_answered spec c number at solved d same (Err (because why)) h = inl (
  at,
  inl (solved, one_child c Less d _ (Err (because why)) same h),
)
solve_answered spec c number at solved d same (Err out_of_memory) h = tt

solves_one : (l r : Tree) (m n : ℕ) (t u : Tree) → Solves l r m t → Solves l r n u → (m ≡ n) × (t ≡ u)
solves_one (var k) r m n t u p q = (p.0 ∙ sym q.0, p.1 ∙ sym q.1)
solves_one (app f ts) (var k) m n t u p q = (p.0 ∙ sym q.0, p.1 ∙ sym q.1)
solves_one (app f ts) (app g us) m n t u p q = absurd p

-- what an equation is solved for is the one thing that it can be
pub other_solved :
    (sig : Sig) (d e : Equation) (n : ℕ) (t : Tree) → d ≡ e → Solves e.left e.right n t → IsSolved sig d →
    IsPattern sig t × (Occurs n t → ⊥)
other_solved sig d e n t same s solved =
    let q = solves_one e.left e.right solved.variable n solved.term t
    (subst (λ (x : Equation). Solves x.left x.right solved.variable solved.term) same solved.solves) s in (
      subst (λ u. IsPattern sig u) q.1 solved.pattern,
      λ o. solved.absent (subst (λ k. Occurs k solved.term) (sym q.0) (subst (λ u. Occurs n u) (sym q.1) o)),
    )
