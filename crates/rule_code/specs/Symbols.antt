-- Symbols at places of a call's arguments.
use Rattle.std.specs.Prelude.{◌≡◌, ℕ, List, [], ◌∷◌, Option, Some, None, slice_get}
use Rattle.term_core.specs.Tree.{Tree, var, app, list_of}
use Rattle.spec_core.specs.declared.records.Rule.{Rule}
use Rattle.rule_code.specs.declared.symbols.Path.{Path}

abbrev pub root_symbol : Option Tree → Option ℕ
root_symbol None = None
root_symbol (Some (var n)) = None
root_symbol (Some (app f ts)) = Some f

abbrev pub arguments_of : Option Tree → List Tree
arguments_of None = []
arguments_of (Some (var n)) = []
arguments_of (Some (app f ts)) = list_of ts

-- the symbol of the term that one reaches by these numbers of arguments, unless it is a variable or isn't there
abbrev pub symbol_at : ℕ → List ℕ → List Tree → Option ℕ
symbol_at number [] terms = root_symbol (slice_get terms number)
symbol_at number (next ∷ below) terms =
    symbol_at next below (arguments_of (slice_get terms number))

-- the symbol at a place of a rule's left side
abbrev pub symbol_in : Path → Rule → Option ℕ
symbol_in path rule = symbol_at path.argument path.below.items (arguments_of (Some rule.left))

-- nothing is there, or this symbol
abbrev pub CanBe : Option ℕ → ℕ → Type 0
CanBe None d = Unit {0}
CanBe (Some c) d = c ≡ d
