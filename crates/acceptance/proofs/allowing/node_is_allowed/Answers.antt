use Rattle.std.proofs.Common.{refl}
use Rattle.acceptance.proofs.StrictFlags.{allowed_by_flags, references_of_allowed}
use Rattle.acceptance.proofs.allowing.node_is_allowed.Goals as goal

pub returns-then-children_are_allowed : goal.returns-then-children_are_allowed
returns-then-children_are_allowed c = (
  λ t. allowed_by_flags c.args.made.now c.requires.whole c.args.strict.now c.args.node c.requires.strict
      (c.if-children_are_allowed.ensures.0 refl) (c.references_are_allowed.ensures.0 t),
  λ a. c.references_are_allowed.ensures.1 (references_of_allowed c.args.made.now c.requires.whole
      c.args.strict.now c.args.node c.requires.strict a),
)

pub returns-else-children_are_allowed : goal.returns-else-children_are_allowed
returns-else-children_are_allowed c = (
  λ t. absurd (let q = c.if-children_are_allowed.false in cc),
  λ a. c.children_are_allowed.ensures.1 a.children,
)
