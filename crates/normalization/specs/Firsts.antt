-- What the search of the first use answers.
use Rattle.std.specs.Prelude.{ℕ, Option, Some, None}
use Rattle.std.specs.Global.{Vec}
use Rattle.term_core.specs.Tree.{Tree}
use Rattle.spec_core.specs.declared.records.Spec.{Spec}
use Rattle.normalization.specs.FirstUses.{IsFirstUse}
use Rattle.normalization.specs.NormalForms.{IsNormal}

-- the place and the rule of the leftmost-innermost use, or the term is normal
abbrev pub HasFirst : Spec → Tree → Option (Vec ℕ × ℕ) → Type 0
HasFirst spec t (Some p) = (u : Tree) × IsFirstUse spec t p.0.items p.1 u
HasFirst spec t None = IsNormal spec t
