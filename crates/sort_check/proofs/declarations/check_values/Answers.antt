use Rattle.std.proofs.Common.{◌≡◌, ◌-◌, ◌<◌, [], length, Err, ap, sym, ◌∙◌, subst, get_or}
use Rattle.sort_check.specs.Answers.{Answers, Tells}
use Rattle.sort_check.specs.DeclarationTests.{small_tests, values_sig, all_constructors}
use Rattle.spec_grammar.specs.declared.raw.RawSort.{RawSort}
use Rattle.sort_check.specs.declared.faults.SortFault.TheVariants.{Sort}
use Rattle.sort_check.specs.declared.faults.SortKind.TheVariants.{NoSmallValue as no_small_value}
use Rattle.sort_check.proofs.DeclaringValues.{values_clean, values_place, values_first, values_not_repeated}
use Rattle.sort_check.proofs.DeclaringValues.{values_in_range, values_not_bool, few_values}
use Rattle.sort_check.proofs.declarations.check_values.Goals as goal
use Rattle.sort_check.proofs.declarations.check_values.Goals.{in-Ok, in-Err-NoSmallValue, in-Err-OutOfMemory}

pub build-requires-clause-constructors_in_range : goal.build-requires-clause-constructors_in_range
build-requires-clause-constructors_in_range c =
    let raw = c.args.raw.now in
    let copies : c.in_ok-copies.copies ≡ all_constructors raw = c.in_ok-copies.ensures ∙ c.requires.made in
    values_in_range raw c.in_ok-sorts.sorts c.in_ok-copies.copies [] c.in_ok-sorts.ensures copies
    c.requires.sorts c.requires.symbols

pub build-requires-clause-no_more_booleans : goal.build-requires-clause-no_more_booleans
build-requires-clause-no_more_booleans c =
    let raw = c.args.raw.now in
    let copies : c.in_ok-copies.copies ≡ all_constructors raw = c.in_ok-copies.ensures ∙ c.requires.made in
    values_not_bool raw c.in_ok-sorts.sorts c.in_ok-copies.copies [] c.in_ok-sorts.ensures copies

pub build-requires-clause-few_symbols : goal.build-requires-clause-few_symbols
build-requires-clause-few_symbols c =
    let copies : c.in_ok-copies.copies ≡ all_constructors c.args.raw.now = c.in_ok-copies.ensures ∙ c.requires.made in
    few_values c.args.raw.now c.in_ok-copies.copies c.new.result c.requires.few copies c.new.ensures

pub overflow_sub-place : goal.overflow_sub-place
overflow_sub-place c =
    let raw = c.args.raw.now in
    let copies : c.in_ok-copies.copies ≡ all_constructors raw = c.in_ok-copies.ensures ∙ c.requires.made in
    let s = c.in-Err-NoSmallValue.sort in
    let w = c.build.ensures.no_small_value s (c.in-Err-NoSmallValue.is
    ∙ ap (λ e. Err e) c.in-Err-NoSmallValue.field-0-is) in
    (values_place raw c.in_ok-sorts.sorts c.in_ok-copies.copies c.new.result c.in_ok-sorts.ensures copies
    c.new.ensures s w.1).0

pub bounds-raws-place : goal.bounds-raws-place
bounds-raws-place c =
    let raw = c.args.raw.now in
    let copies : c.in_ok-copies.copies ≡ all_constructors raw = c.in_ok-copies.ensures ∙ c.requires.made in
    let s = c.in-Err-NoSmallValue.sort in
    let w = c.build.ensures.no_small_value s (c.in-Err-NoSmallValue.is
    ∙ ap (λ e. Err e) c.in-Err-NoSmallValue.field-0-is) in
    subst (λ ss. s.0 - 1 < length ss) (sym c.as_slice-raws.ensures)
    (values_place raw c.in_ok-sorts.sorts c.in_ok-copies.copies c.new.result c.in_ok-sorts.ensures copies
    c.new.ensures s w.1).1

pub bounds-raws-place-in-Err-NoSmallValue : goal.bounds-raws-place-in-Err-NoSmallValue
bounds-raws-place-in-Err-NoSmallValue c =
    let raw = c.args.raw.now in
    let copies : c.in_ok-copies.copies ≡ all_constructors raw = c.in_ok-copies.ensures ∙ c.requires.made in
    let s = c.in-Err-NoSmallValue.sort in
    let w = c.build.ensures.no_small_value s (c.in-Err-NoSmallValue.is
    ∙ ap (λ e. Err e) c.in-Err-NoSmallValue.field-0-is) in
    subst (λ ss. s.0 - 1 < length ss) (sym c.as_slice-raws.ensures)
    (values_place raw c.in_ok-sorts.sorts c.in_ok-copies.copies c.new.result c.in_ok-sorts.ensures copies
    c.new.ensures s w.1).1

pub unreachable-requires : goal.unreachable-requires
unreachable-requires c =
    let raw = c.args.raw.now in
    let copies : c.in_ok-copies.copies ≡ all_constructors raw = c.in_ok-copies.ensures ∙ c.requires.made in
    values_not_repeated raw c.in_ok-sorts.sorts c.in_ok-copies.copies c.new.result c.in_ok-sorts.ensures copies
    c.new.ensures c.requires.sorts c.requires.symbols
    (c.build.ensures.repeated (c.in-Err-Repeated.is ∙ ap (λ e. Err e) c.in-Err-Repeated.field-0-is))

pub returns : goal.returns
returns c =
    let raw = c.args.raw.now in
    let copies : c.in_ok-copies.copies ≡ all_constructors raw = c.in_ok-copies.ensures ∙ c.requires.made in
    let tests = small_tests (values_sig raw) 1 raw.sorts in
    elim c.match-build.branch [
      | in-Ok w ↦
          let clean = values_clean raw c.in_ok-sorts.sorts c.in_ok-copies.copies c.new.result
          c.in_ok-sorts.ensures copies c.new.ensures w.in-Ok.field-0 w.in-Ok.ensures.made
          w.in-Ok.ensures.declared in
          subst (λ r. Answers tests (λ (x : Unit {0}). Unit {0}) r) (sym w.result-is) (clean, tt)
      | in-Err-NoSmallValue w ↦
          let s = w.in-Err-NoSmallValue.sort in
          let without = c.build.ensures.no_small_value s (w.in-Err-NoSmallValue.is
          ∙ ap (λ e. Err e) w.in-Err-NoSmallValue.field-0-is) in
          let x = w.index-raws-place.result in
          let is = subst (λ ss. x ≡ get_or ss (s.0 - 1) x) w.as_slice-raws.ensures w.index-raws-place.is in
          let first = values_first raw c.in_ok-sorts.sorts c.in_ok-copies.copies c.new.result
          c.in_ok-sorts.ensures copies c.new.ensures s x without.1 is in
          let told : w.fault.result ≡ Sort x.head.at no_small_value = w.fault.ensures
          ∙ ap (λ (y : RawSort). Sort y.head.at no_small_value) (sym w.index-raws-place.is) in
          subst (λ r. Answers tests (λ (x : Unit {0}). Unit {0}) r) (sym w.result-is)
          (subst (λ e. Tells tests e) (sym told) first)
      | in-Err-OutOfMemory w ↦ subst (λ r. Answers tests (λ (x : Unit {0}). Unit {0}) r) (sym w.result-is) tt
    ]
