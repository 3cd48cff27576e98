use Rattle.std.proofs.Common.{ℕ, List, [], ap, ◌∙◌, min, map, arith, length}
use Rattle.std.proofs.lemmas.Bool.{leb-true, le-leb}
use Rattle.std.proofs.lemmas.List.{length-map}
use Rattle.term_core.specs.Tree.{trees_of, sizes, depths}
use Rattle.spec_core.specs.declared.records.Equation.{Equation}
use Rattle.clause_core.specs.ClauseInstances.{equation_instance, clause_instance}
use Rattle.clause_core.specs.Clauses.{sides_of}
use Rattle.clause_core.proofs.Sides.{size_within, size_past, depth_within}
use Rattle.clause_core.proofs.instance_limits.instance_within.Goals as goal

pub returns-then-first-second-gt-MOST_SYMBOLS : goal.returns-then-first-second-gt-MOST_SYMBOLS
returns-then-first-second-gt-MOST_SYMBOLS c =
    let s = c.args.theta.now.terms in
    let made = clause_instance s [] c.args.clause.now in
    let size : List Equation → ℕ = λ es. min (sizes (trees_of (sides_of (map (equation_instance s) es)))) 4001 in
    let past = size_past made c.sides_size-first.result c.sides_size-second.result (c.sides_size-first.ensures
    ∙ ap size c.as_slice-premises.ensures) (c.sides_size-second.ensures
    ∙ ap size c.as_slice-conclusions.ensures) c.if-first-second-gt-MOST_SYMBOLS.true in
    λ ctx. (λ t. absurd (cc), λ w. absurd (omega (arith, w.size, past)))

pub returns : goal.returns
returns c =
    let s = c.args.theta.now.terms in
    let made = clause_instance s [] c.args.clause.now in
    let size : List Equation → ℕ = λ es. min (sizes (trees_of (sides_of (map (equation_instance s) es)))) 4001 in
    let depth : List Equation → ℕ = λ es. min (depths (trees_of (sides_of (map (equation_instance s) es)))) 101 in
    let w = depth_within made c.sides_depth-first.result c.sides_depth-second.result c.max.result
    (c.sides_depth-first.ensures ∙ ap depth c.as_slice-premises.ensures) (c.sides_depth-second.ensures
    ∙ ap depth c.as_slice-conclusions.ensures) c.max.ensures in
    let small = size_within made c.sides_size-first.result c.sides_size-second.result
    (c.sides_size-first.ensures ∙ ap size c.as_slice-premises.ensures) (c.sides_size-second.ensures
    ∙ ap size c.as_slice-conclusions.ensures) c.if-first-second-gt-MOST_SYMBOLS.false in
    let p = ap (λ (es : List Equation). length es) c.as_slice-premises.ensures in
    let q = ap (λ (es : List Equation). length es) c.as_slice-conclusions.ensures in
    λ ctx. (
      λ t. record {
        equations = omega (
          arith,
          p,
          q,
          length-map c.args.clause.now.premises (equation_instance s),
          length-map c.args.clause.now.conclusions (equation_instance s),
          c.if-premises-gt-MOST_EQUATIONS.false,
          c.if-conclusions-premises.false,
        );
        depth = w.0 (leb-true _ _ t);
        size = small;
      },
      λ i. le-leb _ _ (w.1 i.depth),
    )
