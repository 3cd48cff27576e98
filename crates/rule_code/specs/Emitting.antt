-- The code of a term, added to code.
use Rattle.std.specs.Prelude.{◌≡◌, ℕ, List, ◌++◌}
use Rattle.term_core.specs.Tree.{Tree, Trees}
use Rattle.spec_core.specs.Sig.{Sig}
use Rattle.rule_code.specs.Code.{Step}
use Rattle.rule_code.specs.Instructions.{Instruction, doing}
use Rattle.rule_code.specs.Compiled.{Codes, CodesAll}

abbrev pub IsEmitted : Sig → List ℕ → Tree → ℕ → List Instruction → List Instruction → ℕ → ℕ
    → Type 0
IsEmitted sig homes t next old new slot end =
    (steps : List Step) × (new ≡ old ++ doing steps) × Codes sig homes t next steps slot end

abbrev pub AreEmitted : Sig → List ℕ → Trees → ℕ → List Instruction → List Instruction → List ℕ
    → List ℕ → ℕ → Type 0
AreEmitted sig homes ts next old new before after end = (steps : List Step) × (ss : List ℕ)
    × (new ≡ old ++ doing steps) × (after ≡ before ++ ss) × CodesAll sig homes ts next steps ss end
