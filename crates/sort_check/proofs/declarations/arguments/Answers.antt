use Rattle.std.proofs.Common.{◌≡◌, ◌++◌, ◌∷◌, [], map, subst}
use Rattle.term_core.specs.declared.ids.SortId.{SortId}
use Rattle.std.specs.Prelude.{List}
use Rattle.spec_core.specs.Declarations.{IsNewName}
use Rattle.spec_core.specs.Findings.{test, each}
use Rattle.sort_check.specs.Answers.{Answers}
use Rattle.sort_check.specs.DeclarationTests.{sort_test, sort_number}
use Rattle.sort_check.specs.declared.faults.SortFault.TheVariants.{Sort}
use Rattle.sort_check.specs.declared.faults.SortKind.TheVariants.{RepeatedName}
use Rattle.sort_check.proofs.DeclaringLoops.{answers_then}
use Rattle.sort_check.proofs.declarations.arguments.Goals as goal

pub returns : goal.returns
returns c =
    let sorts = c.args.sorts.now in
    let raw = c.args.raw.now in
    let h = subst (λ ns. Answers (each (sort_test sorts) ns)
    (λ (found : List SortId). found ≡ map (sort_number sorts) ns) c.sorts_named.result) c.as_slice.ensures
    c.sorts_named.ensures in
    answers_then (test (Sort raw.at RepeatedName) (¬ (IsNewName raw.name c.args.taken.now)))
    (each (sort_test sorts) raw.args) (λ (found : List SortId). found ≡ map (sort_number sorts) raw.args)
    (λ (found : List SortId). (found ≡ map (sort_number sorts) raw.args)
    × (c.take_name.new.taken ≡ c.args.taken.now ++ raw.name ∷ [])) c.sorts_named.result
    c.in_ok-take_name.ensures.0 (λ found is. (is, c.in_ok-take_name.ensures.1)) h
