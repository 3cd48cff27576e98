-- Questions that have at most one answer: each variable of the question occurs in its patterns.
use Rattle.std.proofs.Common.{◌≡◌, ℕ, ◌<◌, List, [], ◌∷◌, Bool, refl, ap, sym, ◌∙◌, arith, length, map}
use Rattle.std.specs.Prelude.{flat_map}
use Rattle.std.specs.List.{AllByRecursion}
use Rattle.std.proofs.lemmas.List.{get_or_default, same_lists}
use Rattle.term_core.specs.Tree.{Tree, some, trees_of, instance, instances, var}
use Rattle.term_core.specs.Variables.{OccursAny}
use Rattle.term_core.proofs.Instances.{agrees}
use Rattle.spec_core.specs.declared.records.Equation.{Equation}
use Rattle.clause_core.specs.declared.clauses.Clause.{Clause}
use Rattle.clause_core.specs.Equations.{swapped}
use Rattle.clause_core.specs.NumberedEquations.{equations}
use Rattle.fitting_lists.specs.Questions.{Question, Answers}
use Rattle.fitting_lists.specs.Fitting.{Located, both_sides, has_all, leading, fitting, fittings, sides_of, rewritable}
use Rattle.fitting_lists.specs.Fitting.{rewriting}
use Rattle.fitting_lists.proofs.AllItems.{all_of, all_mapped, all_flat, all_taken, all_filtered}
use Rattle.fitting_lists.proofs.VariableTests.{all_occur}

-- each variable of the question occurs in its patterns
abbrev pub IsDetermined : Question → Type 0
IsDetermined question =
    (n : ℕ) → n < question.variables → OccursAny n (trees_of question.patterns)

pub instances-trees_of :
    (values ts : List Tree) →
    instances values (trees_of ts) ≡ trees_of (map (instance values) ts)
instances-trees_of values [] = refl
instances-trees_of values (t ∷ ts) =
    ap (λ us. some (instance values t) us) (instances-trees_of values ts)

same_instances :
    (xs ys ps : List Tree) → map (instance xs) ps ≡ map (instance ys) ps →
    instances xs (trees_of ps) ≡ instances ys (trees_of ps)
same_instances xs ys ps e =
    instances-trees_of xs ps ∙ ap (λ ts. trees_of ts) e ∙ sym (instances-trees_of ys ps)

-- such a question has at most one answer
pub one_list :
    (question : Question) (xs ys : List Tree) → IsDetermined question → Answers question xs →
    Answers question ys → xs ≡ ys
one_list question xs ys all p q =
    let e = same_instances xs ys question.patterns (p.1 ∙ sym q.1) in
    let long : length xs ≡ question.variables = p.0 in
    let other : length ys ≡ question.variables = q.0 in
    same_lists xs ys (long ∙ sym other) (λ k d lt.
    get_or_default xs k d (var k) lt
    ∙ agrees (trees_of question.patterns) xs ys e k (all k (omega arith))
    ∙ get_or_default ys k (var k) d (omega arith))

-- each question for a fitting list is such
pub fittings_determined :
    (here referred : Clause) → AllByRecursion IsDetermined (fittings here referred)
fittings_determined here referred =
    all_flat IsDetermined asked (leading referred) (
    all_taken AreDetermined 1 _ (
    all_filtered AreDetermined (λ e. has_all referred (both_sides e.equation)) _ (λ e all.
    all_flat IsDetermined (both_ways e) (equations e.conclusion here) (all_of _ _ (λ d.
    all_mapped IsDetermined (fitting referred e.equation) (d ∷ swapped d ∷ [])
    (λ f. all_occur referred (both_sides e.equation) all))))))
  where
    both_ways : Located → Equation → List Question
    both_ways e d = map (fitting referred e.equation) (d ∷ swapped d ∷ [])

    asked : Located → List Question
    asked e = flat_map (both_ways e) (equations e.conclusion here)

    AreDetermined : Located → Type 0
    AreDetermined e = AllByRecursion IsDetermined (asked e)

-- and so is each for a rewriting list of a side that may be rewritten
pub rewriting_determined :
    (referred : Clause) →
    AllByRecursion (λ (s : Bool × Tree). (t : Tree) → IsDetermined (rewriting referred s.1 t))
    (rewritable referred)
rewriting_determined referred =
    all_filtered (λ (s : Bool × Tree). (t : Tree) → IsDetermined (rewriting referred s.1 t))
    (λ s. has_all referred (s.1 ∷ [])) (sides_of referred.conclusions)
    (λ s all t. all_occur referred (s.1 ∷ []) all)
