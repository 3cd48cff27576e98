-- Code as a list of instructions, and as it is kept: with the numbers of all slots in one list.
use Rattle.std.specs.Prelude.{◌≡◌, ℕ, suc, ◌+◌, ◌≤◌, List, [], ◌∷◌, Some, map, take, drop, length, slice_get}
use Rattle.std.specs.List.{AllByRecursion}
use Rattle.rule_code.specs.declared.instructions.Kind.{Kind}
use Rattle.rule_code.specs.declared.instructions.Kind.TheVariants.{Build, Call, Give, Last, Decide}
use Rattle.rule_code.specs.declared.instructions.Op.{Op}
use Rattle.rule_code.specs.Code.{Step, build, call, End, slot, last, decide}

-- a step, or an end
pub data Instruction : Type 0 where
  does : Step → Instruction
  ends : End → Instruction

abbrev pub instruction : Kind → List ℕ → Instruction
instruction (Build f) ss = does (build f ss)
instruction (Call f) ss = does (call f ss)
instruction (Give s) ss = ends (slot s)
instruction (Last f) ss = ends (last f ss)
instruction (Decide s number k) ss = ends (decide s number k ss)

abbrev pub instructions : List Op → List ℕ → List Instruction
instructions ops xs = map (λ (o : Op). instruction o.kind (take o.count (drop o.start xs))) ops

abbrev pub AreInRange : List Op → List ℕ → Type 0
AreInRange ops xs = AllByRecursion (λ (o : Op). o.start + o.count ≤ length xs) ops

-- these steps, as instructions
abbrev pub doing : List Step → List Instruction
doing steps = map (λ (s : Step). does s) steps

-- from this place on the code has these steps, and then this end
abbrev pub IsCodeAt : List Instruction → ℕ → List Step → End → Type 0
IsCodeAt code k [] end = slice_get code k ≡ Some (ends end)
IsCodeAt code k (s ∷ steps) end =
    (slice_get code k ≡ Some (does s)) × IsCodeAt code (suc k) steps end
