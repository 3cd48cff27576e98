-- Terms that are compared, and their roots.
use Rattle.std.specs.Prelude.{◌≡◌, List, map}
use Rattle.term_core.specs.Tree.{Tree, var, app, trees_of}
use Rattle.term_order.specs.Operands.{read}
use Rattle.kbo_order.specs.declared.operands.Operands.{Operands}
use Rattle.kbo_order.specs.declared.operands.Root.{Root}
use Rattle.kbo_order.specs.declared.operands.Root.TheVariants.{Var, App}

-- what each of the terms means by the list
abbrev pub meanings : List Tree → Operands → List Tree
meanings values os = map (read values os.are_patterns) os.terms.now

-- the term is this variable, or this symbol over these arguments
abbrev pub IsRoot : List Tree → Tree → Root → Type 0
IsRoot values t (Var x) = t ≡ var x.0
IsRoot values t (App f os) = t ≡ app f.0 (trees_of (meanings values os))
