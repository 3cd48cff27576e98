use Rattle.std.proofs.Common.{◌≡◌, ◌++◌, ◌∷◌, [], ap, ◌∙◌, subst, map}
use Rattle.std.specs.Prelude.{codes, List, ℕ}
use Rattle.spec_core.specs.declared.records.SymInfo.{SymInfo}
use Rattle.spec_core.specs.Findings.{Clean}
use Rattle.sort_check.specs.Signatures.{sort_names}
use Rattle.sort_check.specs.DeclarationTests.{sorts_tests, all_constructors_tests, functions_tests, constructors_of}
use Rattle.sort_check.specs.DeclarationTests.{all_sorts, constructor_names}
use Rattle.sort_check.proofs.DeclaringValues.{declared_answers}
use Rattle.sort_check.proofs.declarations.signature_of.Goals as goal

pub returns : goal.returns
returns c =
    let raw = c.args.raw.now in
    let sorts = subst (λ ss. Clean (sorts_tests (codes "Bool" ∷ []) ss)) c.as_slice.ensures c.in_ok-sorts.ensures.0 in
    let names : c.in_ok-sorts.sorts ≡ all_sorts raw = c.in_ok-sorts.ensures.1
    ∙ ap (λ ss. codes "Bool" ∷ sort_names ss) c.as_slice.ensures in
    let known : c.as_slice-2.result.now ≡ all_sorts raw = c.as_slice-2.ensures ∙ names in
    let raws = c.as_slice-3.ensures in
    let taken = c.in_ok-taken.ensures in
    let symbols = subst (λ s. Clean s) (λ i. all_constructors_tests (known i) (taken i) (raws i))
    c.in_ok-constructors.ensures.0 in
    let of_these : c.add_all_constructors.new.taken ≡ constructor_names raw = c.in_ok-constructors.ensures.1.1
    ∙ (λ i. taken i ++ map (λ (e : List ℕ × SymInfo). e.0) (constructors_of (known i) 1 (raws i))) in
    let again : c.as_slice-5.result.now ≡ all_sorts raw = c.as_slice-5.ensures ∙ names in
    let funs = c.as_slice-6.ensures in
    let functions = subst (λ s. Clean s) (λ i. functions_tests (again i) (of_these i) (funs i))
    c.in_ok-functions.ensures.0 in
    declared_answers raw c.build.result (sorts, (symbols, (c.in_ok-check_values.ensures.0, functions)))
    c.build.ensures.made c.build.ensures.failed
