use Rattle.std.proofs.Common.{[], Err, ap, ◌∙◌}
use Rattle.sort_check.proofs.DeclaringValues.{values_in_range, values_not_bool, symbols_in_range, symbols_not_repeated}
use Rattle.sort_check.proofs.DeclaringValues.{symbols_not_small, few_whole}
use Rattle.sort_check.proofs.declarations.build.Goals as goal

pub build-requires-clause-constructors_in_range : goal.build-requires-clause-constructors_in_range
build-requires-clause-constructors_in_range c =
    let raw = c.args.raw.now in
    values_in_range raw c.in_ok-sorts.sorts c.args.constructors [] c.in_ok-sorts.ensures
    c.requires.constructors_made c.requires.clean.0 c.requires.clean.1.0

pub build-requires-clause-functions_in_range : goal.build-requires-clause-functions_in_range
build-requires-clause-functions_in_range c =
    let raw = c.args.raw.now in
    symbols_in_range raw c.in_ok-sorts.sorts c.args.constructors c.args.functions c.in_ok-sorts.ensures
    c.requires.constructors_made c.requires.clean c.requires.functions_made

pub build-requires-clause-no_more_booleans : goal.build-requires-clause-no_more_booleans
build-requires-clause-no_more_booleans c =
    let raw = c.args.raw.now in
    values_not_bool raw c.in_ok-sorts.sorts c.args.constructors [] c.in_ok-sorts.ensures c.requires.constructors_made

pub build-requires-clause-few_symbols : goal.build-requires-clause-few_symbols
build-requires-clause-few_symbols c = few_whole c.args.raw.now c.args.constructors c.args.functions
    c.requires.few c.requires.constructors_made c.requires.functions_made

pub unreachable-requires : goal.unreachable-requires
unreachable-requires c =
    let raw = c.args.raw.now in
    symbols_not_repeated raw c.in_ok-sorts.sorts c.args.constructors c.args.functions c.in_ok-sorts.ensures
    c.requires.constructors_made c.requires.clean c.requires.functions_made
    (c.build.ensures.repeated (c.in-Err-Repeated.is ∙ ap (λ e. Err e) c.in-Err-Repeated.field-0-is))

pub unreachable-requires-in-Err-NoSmallValue : goal.unreachable-requires-in-Err-NoSmallValue
unreachable-requires-in-Err-NoSmallValue c =
    let raw = c.args.raw.now in
    let s = c.in-Err-NoSmallValue.field-0-0 in
    let without = c.build.ensures.no_small_value s (c.in-Err-NoSmallValue.is
    ∙ ap (λ e. Err e) c.in-Err-NoSmallValue.field-0-is) in
    symbols_not_small raw c.in_ok-sorts.sorts c.args.constructors c.args.functions c.in_ok-sorts.ensures
    c.requires.constructors_made c.requires.clean c.requires.functions_made s without.1
