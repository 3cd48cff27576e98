-- What was read of a file, and how many bytes are read.
use Rattle.std.specs.Prelude.{◌≡◌, ℕ, ◌<◌, ◌≤◌, List, Option, length, IfSome}
use Rattle.spec_grammar.specs.Limits.{file_limit}

-- the most bytes of a report's text
abbrev pub most_report_bytes : ℕ
most_report_bytes = 67108864

-- the bytes are those of the file, if the store tells them, and at most this many
pub record AreBytesOf (held : Option (List ℕ)) (limit : ℕ) (bytes : List ℕ) : Type 0 where
  pub told : IfSome held (λ whole. bytes ≡ whole)
  pub within : length bytes ≤ limit

-- the file has more bytes than this, if the store tells them
abbrev pub IsLonger : Option (List ℕ) → ℕ → Type 0
IsLonger held limit = IfSome held (λ whole. limit < length whole)

-- the bytes are those of a specification's file, which has no more than its beginning allows
abbrev pub AreTextOf : Option (List ℕ) → List ℕ → Type 0
AreTextOf held bytes = AreBytesOf held (file_limit bytes) bytes

-- a specification's file has more bytes than its beginning allows, if the store tells them
abbrev pub PassesItsLimit : Option (List ℕ) → Type 0
PassesItsLimit held = IfSome held (λ whole. file_limit whole < length whole)
