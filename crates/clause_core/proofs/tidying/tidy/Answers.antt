use Rattle.std.proofs.Common.{◌≡◌, ap, sym, ◌∙◌, List, ℕ, [], ◌++◌, map}
use Rattle.term_core.specs.Tree.{trees_of}
use Rattle.term_core.specs.declared.ids.SortId.{SortId}
use Rattle.term_core.specs.Variables.{occurrences_all, firsts}
use Rattle.term_core.specs.Gathered.{gathered}
use Rattle.clause_core.specs.Clauses.{sides_of}
use Rattle.clause_core.specs.Tidied.{renumbered_equation, sorts_at}
use Rattle.clause_core.proofs.Renumbering.{gathered_both}
use Rattle.clause_core.proofs.FirstOccurrences.{gathered_firsts}
use Rattle.clause_core.proofs.RenumberedEquations.{equations_kept}
use Rattle.clause_core.proofs.tidying.tidy.Goals as goal

pub returns : goal.returns
returns c =
    let ps = c.args.clause.premises in
    let cs = c.args.clause.conclusions in
    let first : List ℕ = c.renumber_equations.new.olds.items in
    let all : List ℕ = c.renumber_equations-2.new.olds.items in
    let of_premises : first ≡ gathered []
    (occurrences_all (trees_of (sides_of ps))) = c.in_ok-premises.ensures.olds
    ∙ ap (λ (os : List ℕ). gathered os (occurrences_all (trees_of (sides_of ps)))) c.new-olds.ensures.items in
    let more : all ≡ gathered first (occurrences_all (trees_of (sides_of cs))) = c.in_ok-conclusions.ensures.olds in
    let whole : all ≡ gathered (gathered [] (occurrences_all (trees_of (sides_of ps))))
    (occurrences_all (trees_of (sides_of cs))) = more
    ∙ ap (λ (os : List ℕ). gathered os (occurrences_all (trees_of (sides_of cs)))) of_premises in
    let are : all ≡ firsts (occurrences_all (trees_of (sides_of ps ++ sides_of cs))) = whole
    ∙ sym (gathered_both [] (sides_of ps) (sides_of cs))
    ∙ gathered_firsts (occurrences_all (trees_of (sides_of ps ++ sides_of cs))) in
    let ctx : c.in_ok-sorts_at.field-0 ≡ sorts_at c.args.clause.ctx
    (firsts (occurrences_all (trees_of (sides_of ps ++ sides_of cs)))) = c.in_ok-sorts_at.ensures
    ∙ ap (λ (ss : List SortId). sorts_at ss c.deref.result.now) c.as_slice.ensures
    ∙ ap (λ (os : List ℕ). sorts_at c.args.clause.ctx os) (c.deref.ensures.value ∙ are) in
    let premises : c.in_ok-premises.premises ≡ map
    (renumbered_equation (firsts (occurrences_all (trees_of (sides_of ps ++ sides_of cs))))) ps =
    c.in_ok-premises.ensures.made ∙ ap (λ (os : List ℕ). map (renumbered_equation os) ps) of_premises
    ∙ sym (equations_kept [] (occurrences_all (trees_of (sides_of cs))) ps)
    ∙ ap (λ (os : List ℕ). map (renumbered_equation os) ps) (sym whole ∙ are) in
    let conclusions : c.in_ok-conclusions.conclusions ≡ map
    (renumbered_equation (firsts (occurrences_all (trees_of (sides_of ps ++ sides_of cs))))) cs =
    c.in_ok-conclusions.ensures.made ∙ ap (λ (os : List ℕ). map (renumbered_equation os) cs) are in
    λ i. record { ctx = ctx i; premises = premises i; conclusions = conclusions i }
