-- A table of symbols as pairs of a name and what it is declared with.
use Rattle.std.specs.Prelude.{ℕ, List, map}
use Rattle.std.specs.Global.{Vec}
use Rattle.spec_core.specs.declared.records.SymInfo.{SymInfo}

abbrev pub pairs_of : List (Vec ℕ × SymInfo) → List (List ℕ × SymInfo)
pairs_of es = map (λ (e : Vec ℕ × SymInfo). (e.0.items, e.1)) es
