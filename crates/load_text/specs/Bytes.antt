-- The bytes of the generated text, piece by piece.
use Rattle.std.specs.Prelude.{ℕ, zero, suc, List, ◌++◌, codes, ◌==◌, if◌then◌else◌}

-- the text under `succ`, this many times
abbrev pub enclosed : ℕ → List ℕ → List ℕ
enclosed zero inner = inner
enclosed (suc k) inner = codes "succ(" ++ enclosed k inner ++ codes ")"

-- how the line of a goal of this kind ends
abbrev pub line_end : ℕ → List ℕ
line_end kind = if kind == 2 then codes " =>\n" else codes "\n"
