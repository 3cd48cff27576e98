use Rattle.std.proofs.Common.{ℕ, List, min, refl, ap, ◌∙◌}
use Rattle.std.proofs.lemmas.Bool.{leb-true, le-leb}
use Rattle.term_core.specs.Tree.{trees_of, sizes}
use Rattle.spec_core.specs.declared.records.Equation.{Equation}
use Rattle.clause_core.specs.Clauses.{sides_of}
use Rattle.clause_core.proofs.OnePlace.{term_one}
use Rattle.place_comparison.proofs.LimitsThere.{no_larger, no_more, some_room, room_test}
use Rattle.place_comparison.proofs.within.has_room.Goals as goal

pub returns-then-size-part : goal.returns-then-size-part
returns-then-size-part c = λ at.
    let is =
    (term_one c.args.clause.now c.args.place.now at c.requires.there.0).0 ∙ c.requires.there.1 in (
      λ t.
          no_larger c.args.clause.now c.args.place.now at c.args.old.now is c.args.new.now
          c.requires.within c.size-part.result c.size.result c.size-part.ensures c.size.ensures
          c.if-size-part.true,
      λ v. refl,
    )

pub overflow_sub-kept : goal.overflow_sub-kept
overflow_sub-kept c =
    let size : List Equation → ℕ = λ es. min (sizes (trees_of (sides_of es))) 4000 in
    no_more c.args.clause.now c.requires.within c.args.place.now c.requires.there.0 c.args.old.now
    c.requires.there.1 _ _ _ (
      c.size-premises.ensures ∙ ap size c.as_slice.ensures,
      c.size-conclusions.ensures ∙ ap size c.as_slice-2.ensures,
      c.size-part.ensures,
    )

pub overflow_sub-room : goal.overflow_sub-room
overflow_sub-room c =
    let size : List Equation → ℕ = λ es. min (sizes (trees_of (sides_of es))) 4000 in
    some_room c.args.clause.now c.requires.within c.args.place.now c.requires.there.0
    c.args.old.now c.requires.there.1 _ _ _ (
      c.size-premises.ensures ∙ ap size c.as_slice.ensures,
      c.size-conclusions.ensures ∙ ap size c.as_slice-2.ensures,
      c.size-part.ensures,
    )

pub returns : goal.returns
returns c = λ at.
    let size : List Equation → ℕ = λ es. min (sizes (trees_of (sides_of es))) 4000 in
    let is =
    (term_one c.args.clause.now c.args.place.now at c.requires.there.0).0 ∙ c.requires.there.1 in
    let test =
    room_test c.args.clause.now c.requires.within c.args.place.now at c.args.old.now is _ _ _ (
      c.size-premises.ensures ∙ ap size c.as_slice.ensures,
      c.size-conclusions.ensures ∙ ap size c.as_slice-2.ensures,
      c.size-part.ensures,
    )
    c.args.new.now c.size-2.result c.size-2.ensures in
    (λ t. test.0 (leb-true _ _ t), λ v. le-leb _ _ (test.1 v))
