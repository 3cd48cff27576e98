-- The ranks of ground terms by which proofs from a specification descend.
use Rattle.std.specs.Prelude.{ℕ, length}
use Rattle.term_core.specs.Tree.{Tree}
use Rattle.term_core.specs.Ground.{IsGroundIn}
use Rattle.spec_core.specs.declared.records.Spec.{Spec}

-- the term is ground, over the signature's symbols
abbrev pub IsGround : Spec → Tree → Type 0
IsGround spec t = IsGroundIn (length spec.sig.table) t

-- the term has this rank, for the signature's symbols and for right terms of depth at most 100: no term of a well sorted
-- rule is deeper, and no side of a clause in a proof may be
abbrev pub HasRank : (ℕ → ℕ → Tree → ℕ → Type 0) → Spec → Tree → ℕ → Type 0
HasRank rank spec t r = rank (length spec.sig.table) 100 t r
