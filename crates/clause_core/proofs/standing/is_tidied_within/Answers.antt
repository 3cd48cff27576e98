use Rattle.std.proofs.Common.{◌≡◌, ℕ, List, Option, Some, true, false, length, ap, ◌∙◌, sym, arith}
use Rattle.term_core.specs.Tree.{trees_of, sizes, depths}
use Rattle.term_core.specs.Variables.{occurrences_all}
use Rattle.spec_core.specs.declared.records.Equation.{Equation}
use Rattle.clause_core.specs.declared.clauses.Clause.{Clause}
use Rattle.clause_core.specs.Clauses.{sides_of, sides}
use Rattle.clause_core.specs.Taken.{taken_after}
use Rattle.clause_core.proofs.Renumbering.{occurrences_all-append}
use Rattle.clause_core.proofs.Sides.{clause_size_is, clause_depth_is}
use Rattle.clause_core.proofs.Taken.{taken_append, taken_tidied, same_taken}
use Rattle.clause_core.proofs.standing.is_tidied_within.Goals as goal
use Rattle.clause_core.proofs.standing.is_tidied_within.Goals.{then-not-walk_sides-via-then-not-walk_sides}
use Rattle.clause_core.proofs.standing.is_tidied_within.Goals.{then-not-walk_sides-via-else-not-walk_sides+then-not-walk_sides-2}

abbrev size : List Equation → ℕ
size es = sizes (trees_of (sides_of es))

abbrev variables : List Equation → List ℕ
variables es = occurrences_all (trees_of (sides_of es))

abbrev depth : List Equation → ℕ
depth es = depths (trees_of (sides_of es))

pub returns-then-not-walk_sides : goal.returns-then-not-walk_sides
returns-then-not-walk_sides c within =
    let d : Clause = c.args.clause.now in
    let s = clause_size_is d in
    let p = ap (λ (es : List Equation). size es) c.as_slice-premises.ensures in
    let q = ap (λ (es : List Equation). size es) c.as_slice-conclusions.ensures in
    let l = clause_depth_is d in
    let m = ap (λ (es : List Equation). depth es) c.as_slice-premises.ensures in
    let n = ap (λ (es : List Equation). depth es) c.as_slice-conclusions.ensures in
    elim c.then-not-walk_sides.branch [
      | then-not-walk_sides-via-then-not-walk_sides w ↦
          let no : false ≡ true = sym w.if-not-walk_sides.true
          ∙ c.walk_sides.ensures.fits.1 (omega (arith, s, p, within.size), omega (arith, l, m, within.depth)) in cc
      | then-not-walk_sides-via-else-not-walk_sides+then-not-walk_sides-2 w ↦
          let fits = c.walk_sides.ensures.fits.0 w.if-not-walk_sides.false in
          let room = c.walk_sides.ensures.room w.if-not-walk_sides.false in
          let no : false ≡ true = sym w.if-not-walk_sides-2.true
          ∙ w.walk_sides-else-not-walk_sides.ensures.fits.1 (
            omega (arith, s, p, q, room, within.size),
            omega (arith, l, n, within.depth),
          ) in cc
    ]

pub returns : goal.returns
returns c =
    let d : Clause = c.args.clause.now in
    let s = clause_size_is d in
    let p = ap (λ (es : List Equation). size es) c.as_slice-premises.ensures in
    let q = ap (λ (es : List Equation). size es) c.as_slice-conclusions.ensures in
    let l = clause_depth_is d in
    let m = ap (λ (es : List Equation). depth es) c.as_slice-premises.ensures in
    let n = ap (λ (es : List Equation). depth es) c.as_slice-conclusions.ensures in
    let first = c.walk_sides.ensures in
    let second = c.walk_sides-else-not-walk_sides.ensures in
    let y = c.if-not-walk_sides.false in
    let z = c.if-not-walk_sides-2.false in
    let a = ap (λ (es : List Equation). length es) c.as_slice-premises.ensures in
    let b = ap (λ (es : List Equation). length es) c.as_slice-conclusions.ensures in
    let taken : c.walk_sides-else-not-walk_sides.new.walk.taken ≡ taken_after (Some 0)
    (occurrences_all (trees_of (sides d))) =
    second.taken z
    ∙ ap (λ (k : Option ℕ). taken_after k (variables c.as_slice-conclusions.result.now)) (first.taken y)
    ∙ ap (λ (es : List Equation). taken_after (taken_after (Some 0) (variables c.as_slice-premises.result.now))
    (variables es)) c.as_slice-conclusions.ensures
    ∙ ap (λ (es : List Equation). taken_after (taken_after (Some 0) (variables es)) (variables d.conclusions))
    c.as_slice-premises.ensures
    ∙ sym (taken_append (Some 0) (variables d.premises) (variables d.conclusions))
    ∙ ap (λ (ns : List ℕ). taken_after (Some 0) ns)
    (sym (occurrences_all-append (sides_of d.premises) (sides_of d.conclusions))) in
    let same = same_taken c.walk_sides-else-not-walk_sides.new.walk.taken c.len.result in
    let tidy = taken_tidied d in (
      record {
        equations = omega (arith, a, b, c.if-premises-gt-MOST_EQUATIONS.false, c.if-conclusions-premises.false);
        depth = omega (arith, l, m, n, (first.fits.0 y).1, (second.fits.0 z).1);
        size = omega (arith, s, p, q, (first.fits.0 y).0, first.room y, (second.fits.0 z).0);
      },
      (
        λ t. tidy.0 (sym taken ∙ same.0 (sym c.eq.ensures ∙ t) ∙ ap (λ n. Some n) c.len.ensures),
        λ t. c.eq.ensures ∙ same.1 (taken ∙ tidy.1 t ∙ ap (λ n. Some n) (sym c.len.ensures)),
      ),
    )
