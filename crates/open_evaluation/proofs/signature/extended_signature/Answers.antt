use Rattle.std.proofs.Common.{◌≡◌, ℕ, ◌+◌, ◌-◌, ◌++◌, refl, ap, sym, ◌∙◌, subst, length, take, drop, arith, Err}
use Rattle.std.specs.List.{AllByRecursion}
use Rattle.std.proofs.Math.Seq.{take-length}
use Rattle.spec_core.specs.Small.{IsFirstWithout}
use Rattle.spec_core.specs.Declarations.{IsBelow, IsNotBool, declared_by}
use Rattle.open_evaluation.specs.Marks.{marks_from, marked_constants, marked_sig}
use Rattle.open_evaluation.proofs.Marked.{marks_from_long}
use Rattle.open_evaluation.proofs.MarkedSigs.{middle_is, back_is, sorts_count, symbols_count, new_names}
use Rattle.open_evaluation.proofs.MarkedSigs.{new_constructors, constructors_long, declared_is, constructors_below}
use Rattle.open_evaluation.proofs.MarkedSigs.{functions_below, constructors_other, still_distinct, still_small}
use Rattle.open_evaluation.proofs.signature.extended_signature.Goals as goal
use Rattle.open_evaluation.proofs.signature.extended_signature.Goals.{In_ok-functions}

abbrev first : In_ok-functions → ℕ
first c = c.longest_name-first.result + 1

names_is : (c : In_ok-functions) → c.in_ok-names.names ≡ new_names c.args.sig.now c.requires.declared (first c)
    c.args.sorts.now
names_is c = c.in_ok-names.ensures ∙ ap (λ n. marks_from 5 (n - 1)) c.sorts.ensures

constructors_is : (c : In_ok-functions) →
    c.add_constants.new.symbols ≡ new_constructors c.args.sig.now c.requires.declared (first c) c.args.sorts.now
constructors_is c =
    let ks = marked_constants (first c) c.args.sorts.now in
    c.in_ok-add_constants.ensures
    ∙ ap (λ es. es ++ ks) (c.in_ok-constructors.ensures ∙ ap (λ n. drop 2 (take n c.args.sig.now.table))
    c.constructors.ensures.count ∙ middle_is c.args.sig.now c.requires.declared)

functions_is : (c : In_ok-functions) → c.in_ok-functions.functions ≡ c.requires.declared.functions
functions_is c =
    let table = c.args.sig.now.table in
    c.in_ok-functions.ensures
    ∙ ap (λ n. drop n (take c.symbols.result table)) c.constructors-3.ensures.count
    ∙ ap (λ n. drop c.args.sig.now.constructors (take n table)) c.symbols.ensures
    ∙ ap (λ es. drop c.args.sig.now.constructors es) (take-length table)
    ∙ back_is c.args.sig.now c.requires.declared

pub build-requires-clause-few_sorts : goal.build-requires-clause-few_sorts
build-requires-clause-few_sorts c =
    let long = ap (λ names. length names) (c.in_ok-names.ensures) in
    omega (
      arith,
      long,
      marks_from_long 5 (c.sorts.result - 1),
      c.sorts.ensures,
      sorts_count c.args.sig.now c.requires.declared,
    )

pub build-requires-clause-few_symbols : goal.build-requires-clause-few_symbols
build-requires-clause-few_symbols c =
    let cs = ap (λ es. length es) (constructors_is c) in
    let fs = ap (λ es. length es) (functions_is c) in
    omega (
      arith,
      cs,
      fs,
      constructors_long c.args.sig.now c.requires.declared (first c) c.args.sorts.now,
      symbols_count c.args.sig.now c.requires.declared,
    )

pub build-requires-clause-constructors_in_range : goal.build-requires-clause-constructors_in_range
build-requires-clause-constructors_in_range c =
    subst (λ names. AllByRecursion (IsBelow (1 + length names)) c.add_constants.new.symbols) (sym (names_is c))
    (subst (λ es. AllByRecursion
    (IsBelow (1 + length (new_names c.args.sig.now c.requires.declared (first c) c.args.sorts.now))) es)
    (sym (constructors_is c)) (constructors_below c.args.sig.now c.requires.declared (first c)
    c.args.sorts.now c.requires.in_range))

pub build-requires-clause-functions_in_range : goal.build-requires-clause-functions_in_range
build-requires-clause-functions_in_range c =
    subst (λ names. AllByRecursion (IsBelow (1 + length names)) c.in_ok-functions.functions) (sym (names_is c))
    (subst (λ es. AllByRecursion
    (IsBelow (1 + length (new_names c.args.sig.now c.requires.declared (first c) c.args.sorts.now))) es)
    (sym (functions_is c)) (functions_below c.args.sig.now c.requires.declared (first c) c.args.sorts.now))

pub build-requires-clause-no_more_booleans : goal.build-requires-clause-no_more_booleans
build-requires-clause-no_more_booleans c =
    subst (λ es. AllByRecursion IsNotBool es) (sym (constructors_is c))
    (constructors_other c.args.sig.now c.requires.declared (first c) c.args.sorts.now c.requires.no_booleans)

made_of : (c : In_ok-functions) →
    declared_by c.in_ok-names.names c.add_constants.new.symbols c.in_ok-functions.functions ≡ marked_sig
    (first c) c.args.sig.now c.args.sorts.now
made_of c =
    ap (λ names. declared_by names c.add_constants.new.symbols c.in_ok-functions.functions) (names_is c)
    ∙ ap (λ es. declared_by (new_names c.args.sig.now c.requires.declared (first c) c.args.sorts.now) es
    c.in_ok-functions.functions) (constructors_is c)
    ∙ ap (λ es. declared_by (new_names c.args.sig.now c.requires.declared (first c) c.args.sorts.now)
    (new_constructors c.args.sig.now c.requires.declared (first c) c.args.sorts.now) es) (functions_is c)
    ∙ declared_is c.args.sig.now c.requires.declared (first c) c.args.sorts.now

pub unreachable-requires : goal.unreachable-requires
unreachable-requires c =
    let d = (goal.at.unreachable-requires c).In_ok-functions in
    let apart = still_distinct c.args.sig.now c.requires.declared (first d) c.args.sorts.now
    c.longest_name-first.result refl c.longest_name-first.ensures.within in
    c.build.ensures.repeated (c.in-Err-Repeated.is ∙ ap (λ e. Err e) c.in-Err-Repeated.field-0-is)
    (rw (names_is d, constructors_is d, functions_is d) apart)

pub unreachable-requires-in-Err-NoSmallValue : goal.unreachable-requires-in-Err-NoSmallValue
unreachable-requires-in-Err-NoSmallValue c =
    let d = (goal.at.unreachable-requires-in-Err-NoSmallValue c).In_ok-functions in
    let s = c.in-Err-NoSmallValue.field-0-0 in
    let without = (c.build.ensures.no_small_value s (c.in-Err-NoSmallValue.is
    ∙ ap (λ e. Err e) c.in-Err-NoSmallValue.field-0-is)).1 in
    let none : IsFirstWithout (marked_sig (first d) c.args.sig.now c.args.sorts.now) s = subst
    (λ sig. IsFirstWithout sig s) (made_of d) without in
    none.has_none (still_small c.args.sig.now c.requires.declared (first d) c.args.sorts.now s.0 none.in_range)

pub returns-in-Ok-clause-made : goal.returns-in-Ok-clause-made
returns-in-Ok-clause-made c =
    let d = (goal.at.returns-in-Ok-clause-made c).In_ok-functions in
    (first d, c.in-Ok.ensures.made ∙ made_of d)
