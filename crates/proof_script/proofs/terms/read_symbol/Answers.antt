use Rattle.std.proofs.Common.{◌≡◌, ℕ, Option, Some, subst}
use Rattle.std.specs.Prelude.{MatchOption, slice_get}
use Rattle.term_core.specs.declared.ids.SymId.{SymId}
use Rattle.spec_core.specs.Sig.{names_of}
use Rattle.proof_script.proofs.SymbolNames.{symbol_found}
use Rattle.proof_script.proofs.terms.read_symbol.Goals as goal

pub returns-then-is_report_name : goal.returns-then-is_report_name
returns-then-is_report_name c =
    let names = names_of c.args.sig.now in
    let word = c.args.word.now in
    let P = λ (r : Option SymId). MatchOption r ((i : ℕ) → slice_get names i ≡ Some word →
    ⊥) (λ (f : SymId). slice_get names f.0 ≡ Some word) in
    let found = subst P c.in-Some.is (symbol_found word names c.symbol.result c.symbol.ensures) in
    record { at = found; name = c.is_report_name.ensures.0 c.if-is_report_name.true }

pub returns-in-None : goal.returns-in-None
returns-in-None c =
    let names = names_of c.args.sig.now in
    let word = c.args.word.now in
    let P = λ (r : Option SymId). MatchOption r ((i : ℕ) → slice_get names i ≡ Some word →
    ⊥) (λ (f : SymId). slice_get names f.0 ≡ Some word) in
    let none = subst P c.in-None.is (symbol_found word names c.symbol.result c.symbol.ensures) in
    λ f is. none f is.at
