-- A number in a line.
use Rattle.std.specs.Prelude.{◌≡◌, ◌++◌, ℕ, List, codes}
use Rattle.std.specs.Fmt.{decimal}
use Rattle.proof_script.specs.Delimiters.{Ends}
use Rattle.proof_script.specs.Standing.{IsShort}

-- the bytes are the sign, a blank, the number, which may appear, and what follows
pub record IsNumberBehind (sign bytes : List ℕ) (n : ℕ) (rest : List ℕ) : Type 0 where
  pub short : IsShort n
  pub is : bytes ≡ sign ++ (codes " " ++ (decimal n ++ rest))
  pub ends : Ends rest
