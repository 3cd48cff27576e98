-- References to the first node, as answers to a question for the terms of its variables.
use Rattle.std.proofs.Common.{◌≡◌, ℕ, List, [], ◌∷◌, Bool, true, false, not, Some, None, map, length, refl, ap, sym}
use Rattle.std.proofs.Common.{◌∙◌, subst, arith, ◌++◌}
use Rattle.term_core.specs.Tree.{Tree, trees_of, instance}
use Rattle.term_core.specs.Variables.{NumberedAll}
use Rattle.term_core.proofs.Numbered.{numbered_all_below}
use Rattle.spec_core.specs.declared.records.Equation.{Equation}
use Rattle.spec_core.proofs.Values.{numbered_occur}
use Rattle.substitutions.proofs.Instances.{apply_values}
use Rattle.clause_core.specs.declared.clauses.Clause.{Clause}
use Rattle.clause_core.specs.declared.steps.Step.{Step}
use Rattle.clause_core.specs.declared.steps.Step.TheVariants.{Subsume}
use Rattle.clause_core.specs.Clauses.{sides_of}
use Rattle.clause_core.specs.Equations.{swapped}
use Rattle.clause_core.specs.Places.{side}
use Rattle.clause_core.specs.Tidied.{IsTidied}
use Rattle.fitting_lists.specs.Questions.{Question, Answers}
use Rattle.fitting_lists.specs.Fitting.{both_sides}
use Rattle.fitting_lists.specs.Answering.{AreVariables, IsOnlyAnswer}
use Rattle.fitting_lists.proofs.Determined.{one_list}
use Rattle.plain_search.specs.Choices.{with_terms}
use Rattle.plain_search.specs.Candidates.{IsStart, IsOnly, IsFull, IsFullReference, wanted}

-- the sides of equations with terms for their variables
sides_with :
    (ts : List Tree) (es : List Equation) →
    map (instance ts) (sides_of es) ≡ sides_of (with_terms ts es)
sides_with ts [] = refl
sides_with ts (e ∷ es) =
    let left = sym (apply_values ts e.left) in
    let right = sym (apply_values ts e.right) in
    let rest = sides_with ts es in
    λ i. left i ∷ right i ∷ rest i

-- equations with the same sides are the same
same_sides : (es ds : List Equation) → sides_of es ≡ sides_of ds → es ≡ ds
same_sides [] [] q = refl
same_sides [] (d ∷ ds) q = absurd (cc)
same_sides (e ∷ es) [] q = absurd (cc)
same_sides (e ∷ es) (d ∷ ds) q =
    let left : e.left ≡ d.left = cc in
    let right : e.right ≡ d.right = cc in
    let rest : sides_of es ≡ sides_of ds = cc in
    let others = same_sides es ds rest in
    λ i. record { left = left i; right = right i } ∷ others i

-- the variables of a tidied clause without premises are those of its conclusions
tidied_variables :
    (start : Clause) → IsTidied start → start.premises ≡ [] →
    AreVariables (length start.ctx) (sides_of start.conclusions)
tidied_variables start tidied no_premises n =
    let ts = trees_of (sides_of start.conclusions) in
    let numbered : NumberedAll 0 ts (length start.ctx) =
    subst
    (λ es. NumberedAll 0 (trees_of (sides_of es ++ sides_of start.conclusions)) (length start.ctx))
    no_premises tidied in (
      numbered_all_below 0 (length start.ctx) ts numbered n,
      λ lt. numbered_occur 0 (length start.ctx) ts numbered n (omega arith) lt,
    )

pub start_variables :
    (start : Clause) → IsStart start → (count : ℕ) (e : Equation) → count ≡ length start.ctx →
    start.conclusions ≡ e ∷ [] → AreVariables count (both_sides e)
start_variables start s count e long own =
    let are = tidied_variables start s.is_tidied s.no_premises in
    subst (λ n. AreVariables n (both_sides e)) (sym long)
    (subst (λ es. AreVariables (length start.ctx) (sides_of es)) own are)

module _ (start : Clause) (es : List Equation) where
  -- by which terms do the conclusions of the first node become these?
  abbrev pub asked : Question
  asked = record {
    variables = length start.ctx;
    patterns = sides_of start.conclusions;
    terms = sides_of es;
  }

  -- a reference is by terms that answer
  answered :
      (step : Step) → IsFullReference start es step →
      (ts : List Tree) × Answers asked ts × (step ≡ Subsume 0 ts)
  answered step ((ts, is, e), full) =
      let sides = sides_with ts start.conclusions ∙ ap (λ ds. sides_of ds) is in
      (ts, (subst (λ s. IsFull start s) e full, sides), e)

  referring : (ts : List Tree) → Answers asked ts → IsFullReference start es (Subsume 0 ts)
  referring ts a =
      let sides = sym (sides_with ts start.conclusions) ∙ a.1 in
      ((ts, same_sides (with_terms ts start.conclusions) es sides, refl), a.0)

  pub only_reference :
      (ts : List Tree) → IsOnlyAnswer asked (Some ts) →
      IsOnly (IsFullReference start es) (Some (Subsume 0 ts))
  only_reference ts only = (
    referring ts only.0,
    λ step p. let a = answered step p in a.2 ∙ ap (λ us. Subsume 0 us) (only.1 a.0 a.1),
  )

  pub no_reference : IsOnlyAnswer asked None → IsOnly (IsFullReference start es) None
  no_reference none_answers step p = let a = answered step p in none_answers a.0 a.1

  -- one at most is such a reference
  pub full_reference_one :
      IsTidied start → start.premises ≡ [] → (step other : Step) →
      IsFullReference start es step → IsFullReference start es other → step ≡ other
  full_reference_one tidied no_premises step other p q =
      let all = tidied_variables start tidied no_premises in
      let a = answered step p in
      let b = answered other q in
      let same = one_list asked a.0 b.0 (λ n lt. (all n).1 lt) a.1 b.1 in
      a.2 ∙ ap (λ ts. Subsume 0 ts) same ∙ sym b.2

wanted_sides :
    (b : Bool) (d : Equation) → side (not b) d ∷ side b d ∷ [] ≡ sides_of (wanted b (d ∷ []))
wanted_sides true d = refl
wanted_sides false d = refl

-- the question for the sides of one equation, as they are or exchanged
pub asked_of_one :
    (start : Clause) (ds : List Equation) (b : Bool) (e d : Equation) (count : ℕ)
    (left right : Tree) → count ≡ length start.ctx → start.conclusions ≡ e ∷ [] →
    ds ≡ d ∷ [] → left ≡ side (not b) d → right ≡ side b d →
    (record { variables = count; patterns = both_sides e; terms = left ∷ right ∷ [] })
    ≡ asked start (wanted b ds)
asked_of_one start ds b e d count left right long own here l r =
    let both : (left ∷ right ∷ []) ≡ sides_of (wanted b ds) =
    (λ i. l i ∷ r i ∷ []) ∙ wanted_sides b d ∙ ap (λ fs. sides_of (wanted b fs)) (sym here) in
    λ i. record { variables = long i; patterns = sides_of (sym own i); terms = both i }

-- a list that is one equation, as written or swapped
one_of :
    (b : Bool) (ds : List Equation) (e : Equation) → (e ∷ []) ≡ wanted b ds →
    (d : Equation) × (ds ≡ d ∷ [])
one_of true [] e q = absurd (cc)
one_of true (d ∷ []) e q = (d, refl)
one_of true (d ∷ f ∷ ds) e q =
    absurd (let p : (e ∷ []) ≡ (swapped d ∷ swapped f ∷ map swapped ds) = q in cc)
one_of false [] e q = absurd (cc)
one_of false (d ∷ []) e q = (d, refl)
one_of false (d ∷ f ∷ ds) e q = absurd (cc)

-- if the conclusions aren't one equation, the start's conclusion doesn't become them
pub not_one :
    (start : Clause) → IsStart start → (b : Bool) (ds : List Equation) →
    ((d : Equation) → ds ≡ d ∷ [] → ⊥) → IsOnly (IsFullReference start (wanted b ds)) None
not_one start s b ds never step ((ts, is, e), full) =
    let q = ap (λ es. with_terms ts es) (sym s.conclusion) ∙ is in
    let d = one_of b ds _ q in
    never d.0 d.1
