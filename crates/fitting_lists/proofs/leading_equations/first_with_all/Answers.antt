-- The first equation with all variables is the first that is kept.
use Rattle.std.proofs.Common.{List, Bool, take, ap, refl, sym, ◌∙◌}
use Rattle.std.specs.Prelude.{filter, slice_get}
use Rattle.std.proofs.lemmas.Option.{slice_get_read}
use Rattle.spec_core.specs.declared.records.Equation.{Equation}
use Rattle.clause_core.specs.NumberedEquations.{equations}
use Rattle.fitting_lists.specs.Fitting.{both_sides, has_all}
use Rattle.fitting_lists.proofs.LeadingEquations.{first_kept}
use Rattle.fitting_lists.proofs.leading_equations.first_with_all.Goals as goal

pub returns-then-branch : goal.returns-then-branch
returns-then-branch c =
    let clause = c.args.clause.now in
    let has : Equation → Bool = λ (e : Equation). has_all clause (both_sides e) in
    let here = c.index-equations-index.result in
    let own = c.equations-equations.result.now in
    let index = c.loop-index.index in
    record {
      equation = here;
      there =
          ap (λ i. slice_get (equations c.args.conclusion clause) i) c.of.ensures.index
          ∙ ap (λ (es : List Equation). slice_get es index) (sym c.equations-equations.ensures)
          ∙ slice_get_read own _ index here refl c.loop-index-test.true
          c.index-equations-index.is;
      first =
          ap (λ (es : List Equation). take 1 (filter has es)) (sym c.equations-equations.ensures)
          ∙ first_kept has own index here c.loop-index-test.true c.index-equations-index.is
          c.loop-index.invariant (sym c.in_ok-equation_has_all.ensures ∙ c.if-branch.true);
      kind = c.of.ensures.conclusion;
      spines = c.of.ensures.spines;
    }
