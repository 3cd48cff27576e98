-- Names that no declared symbol has, and what the signature with the constants is.
use Rattle.std.specs.Prelude.{ℕ, zero, suc, ◌+◌, ◌-◌, ◌≤◌, List, [], ◌∷◌, ◌++◌, codes, replicate, length, take, drop}
use Rattle.std.specs.List.{AllByRecursion}
use Rattle.term_core.specs.declared.ids.SortId.{SortId}
use Rattle.spec_core.specs.declared.records.SymInfo.{SymInfo}
use Rattle.spec_core.specs.Sig.{Sig}
use Rattle.open_evaluation.specs.Shifted.{constant_of}

-- this many question marks
abbrev pub marks : ℕ → List ℕ
marks n = replicate n 63

-- this many of these names, from n question marks on, each one longer than the name before it
abbrev pub marks_from : ℕ → ℕ → List (List ℕ)
marks_from n zero = []
marks_from n (suc k) = marks n ∷ marks_from (suc n) k

-- constants of these sorts under such names
abbrev pub marked_constants : ℕ → List SortId → List (List ℕ × SymInfo)
marked_constants n [] = []
marked_constants n (s ∷ ss) = constant_of (marks n) s ∷ marked_constants (suc n) ss

-- none of the names is longer
abbrev pub AreWithin : ℕ → List (List ℕ) → Type 0
AreWithin n names = AllByRecursion (λ (name : List ℕ). length name ≤ n) names

-- the signature with constants of these sorts under names from n question marks on
abbrev pub marked_sig : ℕ → Sig → List SortId → Sig
marked_sig n sig sorts = record {
  sorts = codes "Bool" ∷ marks_from 5 (length sig.sorts - 1);
  table = take sig.constructors sig.table
      ++ (marked_constants n sorts ++ drop sig.constructors sig.table);
  constructors = sig.constructors + length sorts;
}
