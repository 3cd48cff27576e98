use Rattle.std.proofs.Common.{List, inl, inr, sym, subst}
use Rattle.term_core.specs.Tree.{trees_of}
use Rattle.spec_core.specs.declared.records.Equation.{Equation}
use Rattle.clause_core.specs.Clauses.{sides_of}
use Rattle.inference_rules.specs.Parts.{IsPartOfAny}
use Rattle.inference_rules.proofs.Parts.{standing, part_of_sides, part_left, part_right, part_either}
use Rattle.inference_rules.proofs.generalizing.stands_in.Goals as goal

pub returns-then-stands_in_sides : goal.returns-then-stands_in_sides
returns-then-stands_in_sides c =
    let t = c.args.term.now in
    let d = c.args.clause.now in
    let P : List Equation → Type 0 = λ es. IsPartOfAny t (trees_of (sides_of es)) in (
      λ true. standing t d (part_left t (sides_of d.premises) (sides_of d.conclusions)
          (subst P c.as_slice.ensures (c.stands_in_sides.ensures.0 true))),
      λ h. c.if-stands_in_sides.true,
    )

pub returns-else-stands_in_sides : goal.returns-else-stands_in_sides
returns-else-stands_in_sides c =
    let t = c.args.term.now in
    let d = c.args.clause.now in
    let P : List Equation → Type 0 = λ es. IsPartOfAny t (trees_of (sides_of es)) in (
      λ true. standing t d (part_right t (sides_of d.premises) (sides_of d.conclusions)
          (subst P c.as_slice-else-stands_in_sides.ensures (c.stands_in_sides-else-stands_in_sides.ensures.0 true))),
      λ h. elim (part_either t (sides_of d.premises) (sides_of d.conclusions) (part_of_sides t d h)) [
        | inl p ↦ absurd (let yes = c.stands_in_sides.ensures.1 (subst P (sym c.as_slice.ensures) p) in
            let no = c.if-stands_in_sides.false in cc)
        | inr p ↦ c.stands_in_sides-else-stands_in_sides.ensures.1
            (subst P (sym c.as_slice-else-stands_in_sides.ensures) p)
      ],
    )
