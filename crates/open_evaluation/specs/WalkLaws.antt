-- Laws of the open walk.
use Rattle.std.specs.Prelude.{◌≡◌, ◌↔◌, ℕ, List, ◌++◌, length, map}
use Rattle.std.specs.List.{AllByRecursion}
use Rattle.term_core.specs.Tree.{Tree, var, instance}
use Rattle.term_core.specs.declared.ids.SortId.{SortId}
use Rattle.spec_core.specs.declared.records.Goal.{Goal}
use Rattle.spec_core.specs.declared.records.Spec.{Spec}
use Rattle.spec_core.specs.declared.records.Verdict.{Verdict}
use Rattle.spec_core.specs.Sig.{Sig}
use Rattle.spec_core.specs.Sorts.{IsBuilt}
use Rattle.spec_core.specs.WellSorted.{IsWellSorted, GoalIsSorted}
use Rattle.spec_core.specs.Gives.{Gives}
use Rattle.spec_core.specs.Verdict.{IsVerdict}
use Rattle.open_evaluation.specs.OpenGives.{IsOpen, OpenGives, VariablesAreBelow, HasNoVariable}
use Rattle.open_evaluation.specs.OpenVerdict.{opened, IsOpenVerdict}
use Rattle.open_evaluation.specs.Shifted.{shifted, closed, IsExtended}

-- what a term gives openly, it gives under any values of its variables, at the same cost
abbrev pub InstancesGive : Type 0
InstancesGive =
    (spec : Spec) (xs : List Tree) (t v : Tree) (n : ℕ) → IsWellSorted spec →
    AllByRecursion (IsBuilt spec.sig) xs → VariablesAreBelow (length xs) t →
    OpenGives spec t v n → Gives spec (instance xs t) (instance xs v) n

-- what a term gives openly, it gives under any open values of its variables, at the same cost
abbrev pub OpenInstancesGive : Type 0
OpenInstancesGive =
    (spec : Spec) (xs : List Tree) (t v : Tree) (n : ℕ) → IsWellSorted spec →
    AllByRecursion (IsOpen spec.sig) xs →
    OpenGives spec t v n → OpenGives spec (instance xs t) (instance xs v) n

-- what stands for a variable in ys is the instance by xs of what stands for it in zs
abbrev pub AreInstances : List Tree → List Tree → List Tree → Type 0
AreInstances xs zs ys = (k : ℕ) → instance ys (var k) ≡ instance xs (instance zs (var k))

-- a verdict of the open walk stays when open values take the place of variables
abbrev pub OpenVerdictsStay : Type 0
OpenVerdictsStay =
    (spec : Spec) (goal : Goal) (xs zs ys : List Tree) (budget : ℕ) (r : Verdict) →
    IsWellSorted spec → AllByRecursion (IsOpen spec.sig) xs → AreInstances xs zs ys →
    IsOpenVerdict spec zs budget goal r → IsOpenVerdict spec ys budget goal r

-- a verdict of the open walk is the verdict of every list of values that goes on with the fixed ones
abbrev pub OpenVerdictsHold : Type 0
OpenVerdictsHold =
    (spec : Spec) (goal : Goal) (fixed rest : List Tree) (budget : ℕ) (r : Verdict) →
    IsWellSorted spec → GoalIsSorted spec.sig goal →
    length (fixed ++ rest) ≡ length goal.vars → AllByRecursion (IsBuilt spec.sig) (fixed ++ rest) →
    IsOpenVerdict spec (opened fixed (length goal.vars)) budget goal r →
    IsVerdict spec (fixed ++ rest) budget goal r

-- a term without variables gives openly what it gives, and nothing else
abbrev pub ClosedTermsGiveTheSame : Type 0
ClosedTermsGiveTheSame =
    (spec : Spec) (t v : Tree) (n : ℕ) → IsWellSorted spec → HasNoVariable t →
    OpenGives spec t v n ↔ Gives spec t v n

-- two terms with constants for their variables are the same only if the terms are
abbrev pub ClosingIsInjective : Type 0
ClosingIsInjective =
    (c u : ℕ) (t s : Tree) → VariablesAreBelow u t → VariablesAreBelow u s →
    closed c u t ≡ closed c u s → t ≡ s

-- an instance with constants is one of the term with the new numbers, under the entries with constants
abbrev pub ClosingKeepsInstances : Type 0
ClosingKeepsInstances =
    (c u : ℕ) (xs : List Tree) (t : Tree) → VariablesAreBelow (length xs) t →
    instance (map (closed c u) xs) (shifted c u t) ≡ closed c u (instance xs t)

-- a value has no variable and keeps its symbols
abbrev pub ClosingKeepsValues : Type 0
ClosingKeepsValues =
    (sig : Sig) (u : ℕ) (v : Tree) → IsBuilt sig v → closed sig.constructors u v ≡ v

-- what a term gives openly, it gives with a constant for each variable, at the same cost
abbrev pub OpenGivesWithConstants : Type 0
OpenGivesWithConstants =
    (old new : Spec) (sorts : List SortId) (t v : Tree) (n : ℕ) →
    IsWellSorted old → IsExtended old new sorts → VariablesAreBelow (length sorts) t →
    OpenGives old t v n →
    Gives new (closed old.sig.constructors (length sorts) t)
    (closed old.sig.constructors (length sorts) v) n

-- what a term gives with a constant for each variable is an open value with constants, which it gives at the same cost
abbrev pub ConstantsGiveOpenly : Type 0
ConstantsGiveOpenly =
    (old new : Spec) (sorts : List SortId) (t w : Tree) (n : ℕ) →
    IsWellSorted old → IsExtended old new sorts → VariablesAreBelow (length sorts) t →
    Gives new (closed old.sig.constructors (length sorts) t) w n →
    (v : Tree) × (w ≡ closed old.sig.constructors (length sorts) v) × OpenGives old t v n
