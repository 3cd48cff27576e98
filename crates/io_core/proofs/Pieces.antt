-- Pieces that are appended one after another.
use Rattle.std.proofs.Common.{ℕ, ◌+◌, List, ◌++◌, Option, Some, None, length, take, drop, arith, append_assoc}
use Rattle.std.proofs.Common.{take-add, length-append}
use Rattle.std.proofs.lemmas.List.{take-append-le}
use Rattle.std.proofs.Math.Seq.{take-append-add}
use Rattle.io_core.specs.Piece.{Appended, AppendedPrefix}

-- two pieces, one after the other
pub Appended-append : (old mid new : Option (List ℕ)) (a b : List ℕ) → Appended old mid a → Appended mid new b →
    Appended old new (a ++ b)
Appended-append None mid new a b first second = rw first at second
Appended-append (Some w) mid new a b first second = rw append_assoc at (rw first at second)

-- the front of a piece, and then more of that piece
pub Appended-take : (old mid new : Option (List ℕ)) (piece : List ℕ) (i n : ℕ) →
    Appended old mid (take i piece) → Appended mid new (take n (drop i piece)) → Appended old new (take (i + n) piece)
Appended-take old mid new piece i n first second = rw take-add (Appended-append old mid new _ _ first second)

-- a piece, and then the front of another
pub AppendedPrefix-append : (old mid new : Option (List ℕ)) (a b : List ℕ) → Appended old mid a →
    AppendedPrefix mid new b → AppendedPrefix old new (a ++ b)
AppendedPrefix-append old mid new a b first (n, within, second) =
    (length a + n, omega (arith, length-append a b), rw take-append-add (Appended-append old mid new a _ first second))

-- the front of a piece is the front of a longer one
pub AppendedPrefix-more : (old new : Option (List ℕ)) (a b : List ℕ) → AppendedPrefix old new a →
    AppendedPrefix old new (a ++ b)
AppendedPrefix-more old new a b (n, within, done) =
    (n, omega (arith, length-append a b), rw (take-append-le n a b within) done)
