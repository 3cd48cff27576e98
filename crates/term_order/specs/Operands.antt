-- What is compared: terms as they are, or patterns, which mean their instances by a list.
use Rattle.std.specs.Prelude.{List, Bool, if◌then◌else◌}
use Rattle.term_core.specs.Tree.{Tree, instance}
use Rattle.term_order.specs.declared.operands.Operand.{Operand}

-- the instance of a pattern, and a term itself
abbrev pub read : List Tree → Bool → Tree → Tree
read values is_pattern t = if is_pattern then instance values t else t

abbrev pub meaning : List Tree → Operand → Tree
meaning values o = read values o.is_pattern o.term.now
