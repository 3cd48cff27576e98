-- One step at most of each candidate is possible, and so one step at most is chosen.
use Rattle.std.proofs.Common.{◌≡◌, ℕ, List, [], ◌∷◌, Bool, true, false, Some, inl, inr, map, length, refl, ap, sym}
use Rattle.std.proofs.Common.{◌∙◌, subst, arith}
use Rattle.std.specs.Prelude.{Contains, Ok, slice_get}
use Rattle.term_core.specs.Tree.{Tree, trees_of}
use Rattle.term_core.specs.declared.ids.SortId.{SortId}
use Rattle.spec_core.specs.declared.records.Equation.{Equation}
use Rattle.spec_core.specs.declared.records.Spec.{Spec}
use Rattle.spec_core.specs.Sig.{Sig}
use Rattle.spec_core.specs.Sorts.{SortedAll}
use Rattle.clause_core.specs.declared.clauses.Clause.{Clause}
use Rattle.clause_core.specs.declared.steps.Step.{Step}
use Rattle.clause_core.specs.declared.steps.Step.TheVariants.{Rule}
use Rattle.clause_core.specs.declared.answers.Children.{Children}
use Rattle.clause_core.specs.Equations.{swapped}
use Rattle.clause_core.specs.Places.{side}
use Rattle.clause_core.specs.Says.{Says}
use Rattle.clause_core.specs.Steps.{row_of}
use Rattle.clause_core.specs.Subsuming.{subsume_row}
use Rattle.clause_core.specs.Tidied.{IsTidied}
use Rattle.normalization.specs.FirstUses.{IsFirstUse}
use Rattle.plain_search.specs.declared.candidates.Candidate.{Candidate}
use Rattle.plain_search.specs.declared.candidates.Candidate.TheVariants.{Trivial as trivial, RuleOnLeft, RuleOnRight}
use Rattle.plain_search.specs.declared.candidates.Candidate.TheVariants.{Decompose as decompose, AsWritten}
use Rattle.plain_search.specs.declared.candidates.Candidate.TheVariants.{WithSidesSwapped}
use Rattle.plain_search.specs.Choices.{place_in, IsTrivial, IsUse, IsDecomposition, IsReference, IsPossible, first_of}
use Rattle.plain_search.specs.Choices.{IsChosen}
use Rattle.plain_search.specs.Candidates.{IsFull, IsFullReference, IsOf, IsCandidate}
use Rattle.plain_search.specs.Laws.{OneChoice}
use Rattle.plain_search.proofs.OneUse.{one_place_and_rule}
use Rattle.plain_search.proofs.ReferenceTerms.{full_reference_one}

pub trivial_one : (a b : Step) → IsTrivial a → IsTrivial b → a ≡ b
trivial_one a b p q = p ∙ sym q

pub decomposition_one : (a b : Step) → IsDecomposition a → IsDecomposition b → a ≡ b
decomposition_one a b p q = p ∙ sym q

pub use_one : (spec : Spec) (c : Clause) (left : Bool) (a b : Step) → IsUse spec c left a → IsUse spec c left b → a ≡ b
use_one spec c left a b (e, p, k, u, at, first, is) (d, q, l, v, other, second, same) =
    let both : Some d ≡ Some e = sym other ∙ at in
    let eq : d ≡ e = cc in
    let there : IsFirstUse spec (side left e) q l v = subst
    (λ (z : Equation). IsFirstUse spec (side left z) q l v) eq second in
    let one = one_place_and_rule spec (side left e) u v p q k l first there in
    is ∙ (λ i. Rule (place_in left (one.0 i)) (one.1 i)) ∙ sym same

sorted_count : (sig : Sig) (ctx : List SortId) (ts : List Tree) (ss : List SortId) →
    SortedAll sig ctx (trees_of ts) ss → length ts ≡ length ss
sorted_count sig ctx [] [] p = refl
sorted_count sig ctx [] (s ∷ ss) p = absurd p
sorted_count sig ctx (t ∷ ts) [] p = absurd p
sorted_count sig ctx (t ∷ ts) (s ∷ ss) p = omega (arith, sorted_count sig ctx ts ss p.1)

module _ (above : Tree → Tree → Type 0) (spec : Spec) (usable : ℕ → Type 0) (start : Clause)
    (nodes : List Clause) (c : Clause) (there : slice_get nodes 0 ≡ Some start) where
  -- a reference to the first node that the table allows has a term for each of its variables
  subsume_full : (terms : List Tree) (made : Children) →
      Says above c nodes (subsume_row spec c nodes 0 terms) (Ok made) → length terms ≡ length start.ctx
  subsume_full terms made (inl (node, inl (sorted, rest))) =
      let both : Some node.clause ≡ Some start = sym node.is ∙ there in
      let same : node.clause ≡ start = cc in
      sorted_count spec.sig c.ctx terms node.clause.ctx sorted ∙ ap (λ (d : Clause). length d.ctx) same
  subsume_full terms made (inl (node, inr (not, e))) = absurd (cc)
  subsume_full terms made (inr (not, e)) = absurd (cc)

  pub reference_full : (es : List Equation) (step : Step) →
      IsPossible above spec usable start nodes c (IsReference start es) step → IsFullReference start es step
  reference_full es step ((terms, p, is), made, says) =
      let here : Says above c nodes (subsume_row spec c nodes 0 terms) (Ok made) = subst
      (λ s. Says above c nodes (row_of spec usable nodes c s) (Ok made)) is says in
      ((terms, p, is), subst (λ s. IsFull start s) (sym is) (subsume_full terms made here))

  -- a possible step of a candidate
  pub possible_full : (candidate : Candidate) (step : Step) →
      IsPossible above spec usable start nodes c (IsOf spec start c candidate) step →
      IsCandidate spec start c candidate step
  possible_full trivial step p = (p.0, subst (λ s. IsFull start s) (sym p.0) tt)
  possible_full RuleOnLeft step p = (p.0, subst (λ s. IsFull start s) (sym p.0.6) tt)
  possible_full RuleOnRight step p = (p.0, subst (λ s. IsFull start s) (sym p.0.6) tt)
  possible_full decompose step p = (p.0, subst (λ s. IsFull start s) (sym p.0) tt)
  possible_full AsWritten step p = reference_full c.conclusions step p
  possible_full WithSidesSwapped step p = reference_full (map swapped c.conclusions) step p

  first_one :
      (IsOne IsOther : Step → Type 0) →
      ((a b : Step) → IsPossible above spec usable start nodes c IsOne a →
      IsPossible above spec usable start nodes c IsOne b → a ≡ b) →
      ((a b : Step) → IsOther a → IsOther b → a ≡ b) → (a b : Step) →
      first_of above spec usable start nodes c IsOne IsOther a →
      first_of above spec usable start nodes c IsOne IsOther b → a ≡ b
  first_one IsOne IsOther one other a b (inl p) (inl q) = one a b p q
  first_one IsOne IsOther one other a b (inl p) (inr q) = absurd (q.0 a p)
  first_one IsOne IsOther one other a b (inr p) (inl q) = absurd (p.0 b q)
  first_one IsOne IsOther one other a b (inr p) (inr q) = other a b p.1 q.1

  pub choice_one : IsTidied start → start.premises ≡ [] → (a b : Step) →
      IsChosen above spec usable start nodes c a → IsChosen above spec usable start nodes c b → a ≡ b
  choice_one h none_there =
      let Possible = λ (P : Step → Type 0) (s : Step). IsPossible above spec usable start nodes c P s in
      let from = λ (es : List Equation) (a b : Step)
      (p : IsPossible above spec usable start nodes c (IsReference start es) a)
      (q : IsPossible above spec usable start nodes c (IsReference start es) b). full_reference_one start es
      h none_there a b (reference_full es a p) (reference_full es b q) in
      first_one _ _ (λ a b p q. trivial_one a b p.0 q.0)
      (first_one _ _ (λ a b p q. use_one spec c true a b p.0 q.0)
      (first_one _ _ (λ a b p q. use_one spec c false a b p.0 q.0)
      (first_one _ _ (λ a b p q. decomposition_one a b p.0 q.0)
      (first_one _ _ (from c.conclusions)
      (from (map swapped c.conclusions))))))

-- so one step at most is chosen at a node, by any order
pub one_choice : (above : Tree → Tree → Type 0) → OneChoice above
one_choice above spec numbers start nodes c a b fine tidy premises there p q =
    choice_one above spec (Contains numbers) start nodes c there tidy premises a b p q
