use Rattle.std.proofs.Common.{refl}
use Rattle.acceptance.proofs.StrictFlags.{strict_by_flags, children_of_strict, references_of_strict}
use Rattle.acceptance.proofs.allowing.is_strict.Goals as goal

pub returns-then-children_fall : goal.returns-then-children_fall
returns-then-children_fall c = (
  λ t. strict_by_flags c.args.made.now c.requires.whole c.args.strict.now c.args.node c.requires.strict
      (c.if-children_fall.ensures.0 refl) (c.references_fall.ensures.0 t),
  λ s. c.references_fall.ensures.1 (references_of_strict c.args.made.now c.requires.whole c.args.strict.now
      c.args.node c.requires.strict s),
)

pub returns-else-children_fall : goal.returns-else-children_fall
returns-else-children_fall c = (
  λ t. absurd (let q = c.if-children_fall.false in cc),
  λ s. c.children_fall.ensures.1 (children_of_strict c.args.made.now c.requires.whole c.args.strict.now
      c.args.node c.requires.strict s),
)
