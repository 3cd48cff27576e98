-- The lines for specifications that aren't admitted.
use Rattle.std.specs.Prelude.{◌≡◌, ℕ, List, [], ◌∷◌, ◌++◌, ◌==◌, codes, if◌then◌else◌, slice_get}
use Rattle.std.specs.Fmt.{decimal}
use Rattle.std.specs.List.{flat_map}
use Rattle.term_core.specs.Tree.{Tree}
use Rattle.spec_core.specs.Sig.{Sig, names_of}
use Rattle.spec_core.specs.TermText.{symbol_text, term_text}
use Rattle.spec_admit.specs.declared.faults.AdmitFault.{AdmitFault}
use Rattle.spec_admit.specs.declared.faults.AdmitFault.TheVariants.{Linear, Order, Overlap, Guards, Coverage}
use Rattle.spec_admit.specs.declared.faults.AdmitFault.TheVariants.{OutOfMemory}

-- a value after `, `
abbrev pub other_text : Sig → Tree → List ℕ
other_text sig v = codes ", " ++ term_text sig [] v

-- the values in parentheses, with `, ` between them
abbrev pub values_text : Sig → List Tree → List ℕ
values_text sig [] = codes "()"
values_text sig (v ∷ vs) =
    codes "(" ++ term_text sig [] v ++ flat_map (other_text sig) vs ++ codes ")"

-- part 0 of a rule is its right side, and part k its k-th guard
abbrev pub part_text : ℕ → List ℕ
part_text part = if part == 0 then codes "right side" else codes "guard " ++ decimal part

-- a variable that occurs twice on a left side
abbrev pub linear_line : ℕ → List ℕ → List ℕ
linear_line rule name =
    codes "refused linear: rule " ++ decimal rule ++ codes ", variable " ++ name ++ codes "\n"

-- a part of a rule that its left side isn't above
abbrev pub order_line : ℕ → ℕ → List ℕ
order_line rule part =
    codes "refused order: rule " ++ decimal rule ++ codes ", " ++ part_text part ++ codes "\n"

-- values that match the left sides of both rules
abbrev pub overlap_line : Sig → ℕ → ℕ → List Tree → List ℕ
overlap_line sig first second values =
    codes "refused overlap: rules " ++ decimal first ++ codes " and " ++ decimal second
    ++ codes " at " ++ values_text sig values ++ codes "\n"

-- a group of rules whose guards are no decision tree
abbrev pub guards_line : ℕ → List ℕ
guards_line rule = codes "refused guards: rule " ++ decimal rule ++ codes "\n"

-- values of a function's arguments that match no left side
abbrev pub coverage_line : Sig → ℕ → List Tree → List ℕ
coverage_line sig f values =
    codes "refused coverage: " ++ symbol_text (slice_get (names_of sig) f)
    ++ codes " at " ++ values_text sig values ++ codes "\n"

-- the line of a fault; want of memory has none
abbrev pub IsAdmitLine : Sig → AdmitFault → List ℕ → Type 0
IsAdmitLine sig (Linear rule name) line = line ≡ linear_line rule name
IsAdmitLine sig (Order rule part) line = line ≡ order_line rule part
IsAdmitLine sig (Overlap first second values) line = line ≡ overlap_line sig first second values
IsAdmitLine sig (Guards rule) line = line ≡ guards_line rule
IsAdmitLine sig (Coverage f values) line = line ≡ coverage_line sig f.0 values
IsAdmitLine sig OutOfMemory line = ⊥
