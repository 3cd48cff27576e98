-- The text of a term.
use Rattle.std.specs.Prelude.{ℕ, ◌<◌, List, [], ◌++◌, Option, Some, None, codes, map, length, slice_get}
use Rattle.std.specs.Fmt.{decimal}
use Rattle.term_core.specs.Tree.{Tree, Trees, var, app, none, some}
use Rattle.spec_core.specs.declared.records.VarInfo.{VarInfo}
use Rattle.spec_core.specs.Sig.{Sig, names_of}

abbrev pub variable_names : List VarInfo → List (List ℕ)
variable_names vars = map (λ (v : VarInfo). v.name) vars

-- a variable's name, or `?n` for a variable n without one
abbrev pub variable_text : Option (List ℕ) → ℕ → List ℕ
variable_text (Some name) n = name
variable_text None n = codes "?" ++ decimal n

abbrev pub symbol_text : Option (List ℕ) → List ℕ
symbol_text (Some name) = name
symbol_text None = []

module _ (sig : Sig) (names : List (List ℕ)) where
  -- a name alone, or a name and its arguments in parentheses with `, ` between them
  abbrev mutual
    pub term_text : Tree → List ℕ
    term_text (var n) = variable_text (slice_get names n) n
    term_text (app f none) = symbol_text (slice_get (names_of sig) f)
    term_text (app f (some t ts)) = symbol_text (slice_get (names_of sig) f) ++ codes "("
        ++ term_text t ++ others_text ts ++ codes ")"

    pub others_text : Trees → List ℕ
    others_text none = []
    others_text (some t ts) = codes ", " ++ term_text t ++ others_text ts

module _ (sig : Sig) where
  -- each symbol of the term is one of the signature's
  abbrev mutual
    pub SymbolsAreInRange : Tree → Type 0
    SymbolsAreInRange (var n) = Unit {0}
    SymbolsAreInRange (app f ts) = (f < length sig.table) × AllSymbolsAreInRange ts

    pub AllSymbolsAreInRange : Trees → Type 0
    AllSymbolsAreInRange none = Unit {0}
    AllSymbolsAreInRange (some t ts) = SymbolsAreInRange t × AllSymbolsAreInRange ts
