use Rattle.std.proofs.Common.{rules, ◌≡◌, ◌+◌, ◌++◌, Err, map, refl, ap, sym, ◌∙◌, subst}
use Rattle.std.proofs.lemmas.List.{take_all}
use Rattle.spec_core.specs.Findings.{Clean}
use Rattle.spec_grammar.specs.declared.raw.RawNames.{RawNames}
use Rattle.spec_grammar.specs.declared.raw.RawSort.{RawSort}
use Rattle.sort_check.specs.Answers.{Tells}
use Rattle.sort_check.specs.DeclarationTests.{constructors_tests, constructor_of, constructors_of}
use Rattle.sort_check.proofs.Telling.{answer_err}
use Rattle.sort_check.proofs.DeclaringLoops.{names_in, behind_next, taking_next, taking_end, tells_taking, taking_all}
use Rattle.sort_check.proofs.DeclaringLoops.{constructors_next}
use Rattle.sort_check.proofs.DeclaringTests.{all_names}
use Rattle.sort_check.proofs.declarations.add_all_constructors.Goals as goal

pub returns-in_err-add_constructors : goal.returns-in_err-add_constructors
returns-in_err-add_constructors c =
    let sorts = c.args.sorts.now in
    let e = c.in_err-add_constructors.field-0.0 in
    let q : c.from_residual.result ≡ Err e = search rules in
    let t = subst (λ cs. Tells (constructors_tests sorts c.loop-place.taken cs) e)
    c.as_slice-constructors.ensures c.in_err-add_constructors.ensures in
    answer_err _ _ c.from_residual.result e q (tells_taking (taking_all sorts) c.args.taken.now c.args.raws.now
    c.loop-place.place c.index-raws-place.result c.loop-place.taken c.loop-place-test.true
    c.index-raws-place.is c.loop-place.invariant.taken c.loop-place.invariant.clean e t)

pub loop-place-preserved : goal.loop-place-preserved
loop-place-preserved c =
    let sorts = c.args.sorts.now in
    let h = c.in_ok-add_constructors.ensures in
    let here = c.as_slice-constructors.ensures in
    let clean = subst (λ cs. Clean (constructors_tests sorts c.loop-place.taken cs)) here h.0 in
    let made = subst (λ cs. c.add_constructors.new.made ≡ c.loop-place.made
    ++ map (constructor_of sorts (c.loop-place.place + 1)) cs) here h.1.0 in
    let taken = subst (λ cs. c.add_constructors.new.taken ≡ c.loop-place.taken
    ++ map (λ (n : RawNames). n.name) cs) here h.1.1 in
    record {
      clean = taking_next (taking_all sorts) c.args.taken.now c.args.raws.now c.loop-place.place
          c.index-raws-place.result c.loop-place.taken c.loop-place-test.true c.index-raws-place.is
          c.loop-place.invariant.taken c.loop-place.invariant.clean clean;
      made = constructors_next sorts c.args.raws.now c.loop-place.place (c.loop-place.place + 1)
          c.index-raws-place.result c.loop-place.made c.add_constructors.new.made c.loop-place-test.true
          c.index-raws-place.is refl c.loop-place.invariant.made made;
      taken = behind_next (λ (s : RawSort). map (λ (n : RawNames). n.name) s.constructors) names_in refl
          (λ s ss. refl) c.args.raws.now c.loop-place.place c.index-raws-place.result c.args.taken.now
          c.loop-place.taken c.add_constructors.new.taken c.loop-place-test.true c.index-raws-place.is
          c.loop-place.invariant.taken taken;
    }

pub returns : goal.returns
returns c =
    let sorts = c.args.sorts.now in
    let raws = c.args.raws.now in
    let all = take_all c.loop-place.place raws c.loop-place-test.false in (
      taking_end (taking_all sorts) c.args.taken.now raws c.loop-place.place c.loop-place-test.false
          c.loop-place.invariant.clean,
      (
        c.loop-place.invariant.made ∙ ap (λ ss. constructors_of sorts 1 ss) all,
        c.loop-place.invariant.taken ∙ ap (λ ss. c.args.taken.now ++ names_in ss) all
            ∙ ap (λ ns. c.args.taken.now ++ ns) (sym (all_names sorts 1 raws)),
      ),
    )
