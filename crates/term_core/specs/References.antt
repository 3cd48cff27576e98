-- References to terms.
use Rattle.std.specs.Prelude.{List, map}
use Rattle.std.specs.Borrow.{Bor}
use Rattle.term_core.specs.Tree.{Tree}

-- the terms that the references point to
abbrev pub terms_of : List (Bor Tree) → List Tree
terms_of ts = map (λ (t : Bor Tree). t.now) ts
