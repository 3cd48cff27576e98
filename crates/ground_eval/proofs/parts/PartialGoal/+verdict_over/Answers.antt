use Rattle.std.proofs.Common.{◌≡◌, ◌≢◌, ◌+◌, ◌-◌, ◌<◌, ◌++◌, suc, List, [], ◌∷◌, true, false, Some, refl, ap, sym, ◌∙◌}
use Rattle.std.proofs.Common.{subst, arith, length}
use Rattle.std.specs.Prelude.{slice_get}
use Rattle.std.proofs.lemmas.List.{length-append}
use Rattle.term_core.specs.Tree.{Tree, var, app, none}
use Rattle.term_core.proofs.Items.{if_ok_map}
use Rattle.spec_core.specs.declared.records.VarInfo.{VarInfo}
use Rattle.spec_core.specs.Declarations.{bool_sort}
use Rattle.spec_core.specs.Gives.{boolean}
use Rattle.spec_core.specs.WellSorted.{IsWellSorted, GoalIsSorted, sorts_of}
use Rattle.value_bank.specs.declared.bank.ValueId.{ValueId}
use Rattle.value_bank.proofs.Placed.{adds_both}
use Rattle.rule_code.proofs.Ranges.{item_listed}
use Rattle.bank_machine.specs.Runs.{StandAt}
use Rattle.ground_eval.specs.Entries.{SayOfAll}
use Rattle.ground_eval.specs.Opened.{Partial}
use Rattle.ground_eval.proofs.Comparable.{right_still}
use Rattle.ground_eval.proofs.EntryPlaces.{entries_count, no_more_entries, entries_still, next_sort, sort_is_bool}
use Rattle.ground_eval.proofs.EntryPlaces.{with_variable, with_boolean}
use Rattle.ground_eval.proofs.EntrySteps.{none_less, variable_less, both_less}
use Rattle.ground_eval.proofs.FewCells.{few_at, few_one, few_two}
use Rattle.ground_eval.proofs.Marking.{marks_kept}
use Rattle.ground_eval.proofs.PartGoals.{room}
use Rattle.ground_eval.proofs.PartSorts.{sort_of_item}
use Rattle.ground_eval.proofs.parts.PartialGoal.+verdict_over.Goals as goal

pub offset_bounds-vars-number : goal.offset_bounds-vars-number
offset_bounds-vars-number t c =
    let z = c.args.self.now in
    let ids = c.args.entries.now in
    let vars : c.as_slice-vars.result.now ≡ z.goal.vars = c.as_slice-vars.ensures
    ∙ ap (λ (p : Partial). p.goal.vars) c.self.view_is in
    let lt : length ids < length c.as_slice-vars.result.now = omega (
      arith,
      no_more_entries z c.args.bank.now ids c.requires.entries.0 c.requires.entries.1,
      ap (λ (vs : List VarInfo). length vs) vars,
      c.if-number-vars.false,
    ) in
    let few = (c.requires.fine.goals c.requires.listed.0 z.goal c.requires.listed.1).few_variables in
    omega (arith, lt, ap (λ (vs : List VarInfo). length vs) vars, few)

pub bounds-vars-number : goal.bounds-vars-number
bounds-vars-number t c =
    let z = c.args.self.now in
    let ids = c.args.entries.now in
    let vars : c.as_slice-vars.result.now ≡ z.goal.vars = c.as_slice-vars.ensures
    ∙ ap (λ (p : Partial). p.goal.vars) c.self.view_is in
    let lt : length ids < length c.as_slice-vars.result.now = omega (
      arith,
      no_more_entries z c.args.bank.now ids c.requires.entries.0 c.requires.entries.1,
      ap (λ (vs : List VarInfo). length vs) vars,
      c.if-number-vars.false,
    ) in
    lt

pub bounds-vars-number-else-number-vars : goal.bounds-vars-number-else-number-vars
bounds-vars-number-else-number-vars t c =
    let z = c.args.self.now in
    let ids = c.args.entries.now in
    let vars : c.as_slice-vars.result.now ≡ z.goal.vars = c.as_slice-vars.ensures
    ∙ ap (λ (p : Partial). p.goal.vars) c.self.view_is in
    let lt : length ids < length c.as_slice-vars.result.now = omega (
      arith,
      no_more_entries z c.args.bank.now ids c.requires.entries.0 c.requires.entries.1,
      ap (λ (vs : List VarInfo). length vs) vars,
      c.if-number-vars.false,
    ) in
    lt

pub of-symbol-requires : goal.of-symbol-requires
of-symbol-requires t c =
    let i = c.self.inside in
    let fine : IsWellSorted i.spec.now = subst (λ (z : Partial). IsWellSorted z.spec) (sym c.self.view_is)
    c.requires.fine in
    let q : GoalIsSorted i.spec.now.sig i.goal.now = subst (λ (z : Partial). GoalIsSorted z.spec.sig z.goal)
    (sym c.self.view_is) (c.requires.fine.goals c.requires.listed.0 c.args.self.now.goal c.requires.listed.1) in
    let I = c.self.invariant in
    let z = c.args.self.now in
    let ids = c.args.entries.now in
    let vars : c.as_slice-vars.result.now ≡ z.goal.vars = c.as_slice-vars.ensures
    ∙ ap (λ (p : Partial). p.goal.vars) c.self.view_is in
    let lt : length ids < length c.as_slice-vars.result.now = omega (
      arith,
      no_more_entries z c.args.bank.now ids c.requires.entries.0 c.requires.entries.1,
      ap (λ (vs : List VarInfo). length vs) vars,
      c.if-number-vars.false,
    ) in
    let x = c.index-vars-number.result in
    let item : slice_get c.as_slice-vars.result.now (length ids) ≡ Some x = item_listed
    c.as_slice-vars.result.now c.as_slice-vars.result.now (length ids) x refl lt c.index-vars-number.is in
    let other : x.sort.0 ≢ 0 = λ q. c.if-vars-number-ne0.true
    (ap (λ (y : VarInfo). y.sort.0) (sym c.index-vars-number.is) ∙ q) in
    room I
    fine q (length ids) x.sort (subst (λ vs. slice_get (sorts_of vs) (length ids) ≡ Some x.sort)
    c.as_slice-vars.ensures (sort_of_item c.as_slice-vars.result.now (length ids) x item)) other

pub verdict_over-requires : goal.verdict_over-requires
verdict_over-requires t c =
    let z = c.args.self.now in
    let ids = c.args.entries.now in
    let vars : c.as_slice-vars.result.now ≡ z.goal.vars = c.as_slice-vars.ensures
    ∙ ap (λ (p : Partial). p.goal.vars) c.self.view_is in
    let lt : length ids < length c.as_slice-vars.result.now = omega (
      arith,
      no_more_entries z c.args.bank.now ids c.requires.entries.0 c.requires.entries.1,
      ap (λ (vs : List VarInfo). length vs) vars,
      c.if-number-vars.false,
    ) in
    let x = c.index-vars-number.result in
    let item : slice_get c.as_slice-vars.result.now (length ids) ≡ Some x = item_listed
    c.as_slice-vars.result.now c.as_slice-vars.result.now (length ids) x refl lt c.index-vars-number.is in
    let terms = c.requires.entries.0 in
    let e = c.requires.entries.1 in
    let at : slice_get (sorts_of z.goal.vars) (length terms) ≡ Some x.sort = next_sort z c.args.bank.now ids
    terms e c.as_slice-vars.result.now x vars item in
    let symbol : c.of-symbol.result ≡ z.spec.sig.constructors + length ids = omega (
      arith,
      c.of-symbol.ensures,
      c.self.invariant.first,
      ap (λ (p : Partial). p.spec.sig.constructors) c.self.view_is,
    ) in
    let stand : (ts : List Tree) → StandAt c.args.bank.now ids ts →
    StandAt c.add_symbol.new.bank c.deref.result.now (ts ++ app c.of-symbol.result none ∷ []) = λ ts h.
    subst (λ ps. StandAt c.add_symbol.new.bank ps (ts ++ app c.of-symbol.result none ∷ []))
    (sym c.deref.ensures.value) (c.in_ok-more.ensures.stand ts h) in
    let other : x.sort.0 ≢ 0 = λ q. c.if-vars-number-ne0.true
    (ap (λ (y : VarInfo). y.sort.0) (sym c.index-vars-number.is) ∙ q) in
    let more = with_variable z c.args.bank.now ids terms e c.add_symbol.new.bank c.deref.result.now
    c.of-symbol.result stand x.sort at other symbol in
    let longer : length c.deref.result.now ≡ length ids + 1 = omega (
      arith,
      entries_count z c.args.bank.now ids terms e,
      entries_count z c.add_symbol.new.bank c.deref.result.now (terms ++ var (length terms) ∷ []) more,
      length-append terms (var (length terms) ∷ []),
    ) in
    let falls : length z.goal.vars - length c.deref.result.now < t = omega (
      arith,
      c.decreases,
      longer,
      lt,
      ap (λ (vs : List VarInfo). length vs) vars,
    ) in (
      falls,
      (
        c.requires.fine,
        (
          c.requires.listed,
          (
            right_still z.extended c.args.bank.now c.add_symbol.new.bank c.args.kept.now
                c.in_ok-more.ensures.adds c.requires.kept,
            (
              marks_kept z.spec.sig.constructors z.extended.sig.constructors c.args.bank.now c.add_symbol.new.bank
                  c.args.marks.now.marks.items c.in_ok-more.ensures.adds c.requires.marks,
              (terms ++ var (length terms) ∷ [], more),
            ),
          ),
        ),
      ),
    )

pub returns-then-vars-number-ne0-clause-says : goal.returns-then-vars-number-ne0-clause-says
returns-then-vars-number-ne0-clause-says t c =
    let z = c.args.self.now in
    let ids = c.args.entries.now in
    let vars : c.as_slice-vars.result.now ≡ z.goal.vars = c.as_slice-vars.ensures
    ∙ ap (λ (p : Partial). p.goal.vars) c.self.view_is in
    let lt : length ids < length c.as_slice-vars.result.now = omega (
      arith,
      no_more_entries z c.args.bank.now ids c.requires.entries.0 c.requires.entries.1,
      ap (λ (vs : List VarInfo). length vs) vars,
      c.if-number-vars.false,
    ) in
    let x = c.index-vars-number.result in
    let item : slice_get c.as_slice-vars.result.now (length ids) ≡ Some x = item_listed
    c.as_slice-vars.result.now c.as_slice-vars.result.now (length ids) x refl lt c.index-vars-number.is in
    if_ok_map c.verdict_over.result _ _
    (λ r h terms e.
    let at : slice_get (sorts_of z.goal.vars) (length terms) ≡ Some x.sort = next_sort z c.args.bank.now ids
    terms e c.as_slice-vars.result.now x vars item in
    let symbol : c.of-symbol.result ≡ z.spec.sig.constructors + length ids = omega (
      arith,
      c.of-symbol.ensures,
      c.self.invariant.first,
      ap (λ (p : Partial). p.spec.sig.constructors) c.self.view_is,
    ) in
    let stand : (ts : List Tree) → StandAt c.args.bank.now ids ts →
    StandAt c.add_symbol.new.bank c.deref.result.now (ts ++ app c.of-symbol.result none ∷ []) = λ ts h.
    subst (λ ps. StandAt c.add_symbol.new.bank ps (ts ++ app c.of-symbol.result none ∷ []))
    (sym c.deref.ensures.value) (c.in_ok-more.ensures.stand ts h) in
    let other : x.sort.0 ≢ 0 = λ q. c.if-vars-number-ne0.true
    (ap (λ (y : VarInfo). y.sort.0) (sym c.index-vars-number.is) ∙ q) in
    let more = with_variable z c.args.bank.now ids terms e c.add_symbol.new.bank c.deref.result.now
    c.of-symbol.result stand x.sort at other symbol in
    variable_less z.spec c.requires.fine z.goal c.args.budget terms e.fit more.fit r
    (h (terms ++ var (length terms) ∷ []) more))
    c.verdict_over.ensures.says

pub verdict_over-requires-2 : goal.verdict_over-requires-2
verdict_over-requires-2 t c =
    let z = c.args.self.now in
    let ids = c.args.entries.now in
    let vars : c.as_slice-vars.result.now ≡ z.goal.vars = c.as_slice-vars.ensures
    ∙ ap (λ (p : Partial). p.goal.vars) c.self.view_is in
    let lt : length ids < length c.as_slice-vars.result.now = omega (
      arith,
      no_more_entries z c.args.bank.now ids c.requires.entries.0 c.requires.entries.1,
      ap (λ (vs : List VarInfo). length vs) vars,
      c.if-number-vars.false,
    ) in
    let x = c.index-vars-number.result in
    let item : slice_get c.as_slice-vars.result.now (length ids) ≡ Some x = item_listed
    c.as_slice-vars.result.now c.as_slice-vars.result.now (length ids) x refl lt c.index-vars-number.is in
    let terms = c.requires.entries.0 in
    let e = c.requires.entries.1 in
    let at : slice_get (sorts_of z.goal.vars) (length terms) ≡ Some x.sort = next_sort z c.args.bank.now ids
    terms e c.as_slice-vars.result.now x vars item in
    let null : x.sort.0 ≡ 0 = ap (λ (y : VarInfo). y.sort.0) c.index-vars-number.is ∙ c.if-vars-number-ne0.false in
    let bool : slice_get (sorts_of z.goal.vars) (length terms) ≡ Some bool_sort = subst
    (λ s. slice_get (sorts_of z.goal.vars) (length terms) ≡ Some s) (sort_is_bool x.sort null) at in
    let stand : (ts : List Tree) → StandAt c.args.bank.now ids ts →
    StandAt c.add_symbol-2.new.bank c.deref-2.result.now (ts ++ app 0 none ∷ []) = λ ts h. subst
    (λ ps. StandAt c.add_symbol-2.new.bank ps (ts ++ app 0 none ∷ [])) (sym c.deref-2.ensures.value)
    (c.in_ok-with_true.ensures.stand ts h) in
    let more = with_boolean z c.args.bank.now ids terms e c.add_symbol-2.new.bank c.deref-2.result.now 0 stand
    c.requires.fine true refl bool in
    let longer : length c.deref-2.result.now ≡ length ids + 1 = omega (
      arith,
      entries_count z c.args.bank.now ids terms e,
      entries_count z c.add_symbol-2.new.bank c.deref-2.result.now (terms ++ boolean true ∷ []) more,
      length-append terms (boolean true ∷ []),
    ) in
    let falls : length z.goal.vars - length c.deref-2.result.now < t = omega (
      arith,
      c.decreases,
      longer,
      lt,
      ap (λ (vs : List VarInfo). length vs) vars,
    ) in (
      falls,
      (
        c.requires.fine,
        (
          c.requires.listed,
          (
            right_still z.extended c.args.bank.now c.add_symbol-2.new.bank c.args.kept.now
                c.in_ok-with_true.ensures.adds c.requires.kept,
            (
              marks_kept z.spec.sig.constructors z.extended.sig.constructors c.args.bank.now c.add_symbol-2.new.bank
                  c.args.marks.now.marks.items c.in_ok-with_true.ensures.adds c.requires.marks,
              (terms ++ boolean true ∷ [], more),
            ),
          ),
        ),
      ),
    )

pub returns-in-None-clause-says : goal.returns-in-None-clause-says
returns-in-None-clause-says t c terms e =
    let z = c.args.self.now in
    let ids = c.args.entries.now in
    let vars : c.as_slice-vars.result.now ≡ z.goal.vars = c.as_slice-vars.ensures
    ∙ ap (λ (p : Partial). p.goal.vars) c.self.view_is in
    let lt : length ids < length c.as_slice-vars.result.now = omega (
      arith,
      no_more_entries z c.args.bank.now ids c.requires.entries.0 c.requires.entries.1,
      ap (λ (vs : List VarInfo). length vs) vars,
      c.if-number-vars.false,
    ) in
    let x = c.index-vars-number.result in
    let item : slice_get c.as_slice-vars.result.now (length ids) ≡ Some x = item_listed
    c.as_slice-vars.result.now c.as_slice-vars.result.now (length ids) x refl lt c.index-vars-number.is in
    let at : slice_get (sorts_of z.goal.vars) (length terms) ≡ Some x.sort = next_sort z c.args.bank.now ids
    terms e c.as_slice-vars.result.now x vars item in
    let null : x.sort.0 ≡ 0 = ap (λ (y : VarInfo). y.sort.0) c.index-vars-number.is ∙ c.if-vars-number-ne0.false in
    let bool : slice_get (sorts_of z.goal.vars) (length terms) ≡ Some bool_sort = subst
    (λ s. slice_get (sorts_of z.goal.vars) (length terms) ≡ Some s) (sort_is_bool x.sort null) at in
    let stand : (ts : List Tree) → StandAt c.args.bank.now ids ts →
    StandAt c.add_symbol-2.new.bank c.deref-2.result.now (ts ++ app 0 none ∷ []) = λ ts h. subst
    (λ ps. StandAt c.add_symbol-2.new.bank ps (ts ++ app 0 none ∷ [])) (sym c.deref-2.ensures.value)
    (c.in_ok-with_true.ensures.stand ts h) in
    let more = with_boolean z c.args.bank.now ids terms e c.add_symbol-2.new.bank c.deref-2.result.now 0 stand
    c.requires.fine true refl bool in
    none_less z.spec c.requires.fine z.goal c.args.budget terms e.fit (boolean true) more.fit
    (subst (λ r. SayOfAll z.spec z.goal c.args.budget (terms ++ boolean true ∷ []) r) c.in-None.is
    (c.in_ok-verdict_over.ensures.says (terms ++ boolean true ∷ []) more))

pub verdict_over-requires-in-Some : goal.verdict_over-requires-in-Some
verdict_over-requires-in-Some t c =
    let z = c.args.self.now in
    let ids = c.args.entries.now in
    let vars : c.as_slice-vars.result.now ≡ z.goal.vars = c.as_slice-vars.ensures
    ∙ ap (λ (p : Partial). p.goal.vars) c.self.view_is in
    let lt : length ids < length c.as_slice-vars.result.now = omega (
      arith,
      no_more_entries z c.args.bank.now ids c.requires.entries.0 c.requires.entries.1,
      ap (λ (vs : List VarInfo). length vs) vars,
      c.if-number-vars.false,
    ) in
    let x = c.index-vars-number.result in
    let item : slice_get c.as_slice-vars.result.now (length ids) ≡ Some x = item_listed
    c.as_slice-vars.result.now c.as_slice-vars.result.now (length ids) x refl lt c.index-vars-number.is in
    let terms = c.requires.entries.0 in
    let e = c.requires.entries.1 in
    let at : slice_get (sorts_of z.goal.vars) (length terms) ≡ Some x.sort = next_sort z c.args.bank.now ids
    terms e c.as_slice-vars.result.now x vars item in
    let null : x.sort.0 ≡ 0 = ap (λ (y : VarInfo). y.sort.0) c.index-vars-number.is ∙ c.if-vars-number-ne0.false in
    let bool : slice_get (sorts_of z.goal.vars) (length terms) ≡ Some bool_sort = subst
    (λ s. slice_get (sorts_of z.goal.vars) (length terms) ≡ Some s) (sort_is_bool x.sort null) at in
    let stand : (ts : List Tree) → StandAt c.args.bank.now ids ts →
    StandAt c.add_symbol-2.new.bank c.deref-2.result.now (ts ++ app 0 none ∷ []) = λ ts h. subst
    (λ ps. StandAt c.add_symbol-2.new.bank ps (ts ++ app 0 none ∷ [])) (sym c.deref-2.ensures.value)
    (c.in_ok-with_true.ensures.stand ts h) in
    let more = with_boolean z c.args.bank.now ids terms e c.add_symbol-2.new.bank c.deref-2.result.now 0 stand
    c.requires.fine true refl bool in
    let there = entries_still z c.args.bank.now ids terms e c.verdict_over-2.new.bank
    (adds_both c.args.bank.now c.add_symbol-2.new.bank c.verdict_over-2.new.bank
    c.in_ok-with_true.ensures.adds c.in_ok-verdict_over.ensures.adds) in
    let stand-2 : (ts : List Tree) → StandAt c.verdict_over-2.new.bank ids ts →
    StandAt c.add_symbol-in-Some.new.bank c.deref-in-Some.result.now (ts ++ app 1 none ∷ []) = λ ts h. subst
    (λ ps. StandAt c.add_symbol-in-Some.new.bank ps (ts ++ app 1 none ∷ []))
    (sym c.deref-in-Some.ensures.value) (c.in_ok-with_false-in-Some.ensures.stand ts h) in
    let more-2 = with_boolean z c.verdict_over-2.new.bank ids terms there c.add_symbol-in-Some.new.bank
    c.deref-in-Some.result.now 1 stand-2 c.requires.fine false refl bool in
    let longer : length c.deref-in-Some.result.now ≡ length ids + 1 = omega (
      arith,
      entries_count z c.args.bank.now ids terms e,
      entries_count z c.add_symbol-in-Some.new.bank c.deref-in-Some.result.now (terms ++ boolean false ∷ [])
          more-2,
      length-append terms (boolean false ∷ []),
    ) in
    let falls : length z.goal.vars - length c.deref-in-Some.result.now < t = omega (
      arith,
      c.decreases,
      longer,
      lt,
      ap (λ (vs : List VarInfo). length vs) vars,
    ) in (
      falls,
      (
        c.requires.fine,
        (
          c.requires.listed,
          (
            right_still z.extended c.verdict_over-2.new.bank c.add_symbol-in-Some.new.bank
                c.verdict_over-2.new.kept c.in_ok-with_false-in-Some.ensures.adds c.in_ok-verdict_over.ensures.kept,
            (
              marks_kept z.spec.sig.constructors z.extended.sig.constructors c.verdict_over-2.new.bank
                  c.add_symbol-in-Some.new.bank c.verdict_over-2.new.marks.marks.items
                  c.in_ok-with_false-in-Some.ensures.adds c.in_ok-verdict_over.ensures.marks,
              (terms ++ boolean false ∷ [], more-2),
            ),
          ),
        ),
      ),
    )

pub returns-in-None-2-clause-says : goal.returns-in-None-2-clause-says
returns-in-None-2-clause-says t c terms e =
    let z = c.args.self.now in
    let ids = c.args.entries.now in
    let vars : c.as_slice-vars.result.now ≡ z.goal.vars = c.as_slice-vars.ensures
    ∙ ap (λ (p : Partial). p.goal.vars) c.self.view_is in
    let lt : length ids < length c.as_slice-vars.result.now = omega (
      arith,
      no_more_entries z c.args.bank.now ids c.requires.entries.0 c.requires.entries.1,
      ap (λ (vs : List VarInfo). length vs) vars,
      c.if-number-vars.false,
    ) in
    let x = c.index-vars-number.result in
    let item : slice_get c.as_slice-vars.result.now (length ids) ≡ Some x = item_listed
    c.as_slice-vars.result.now c.as_slice-vars.result.now (length ids) x refl lt c.index-vars-number.is in
    let at : slice_get (sorts_of z.goal.vars) (length terms) ≡ Some x.sort = next_sort z c.args.bank.now ids
    terms e c.as_slice-vars.result.now x vars item in
    let null : x.sort.0 ≡ 0 = ap (λ (y : VarInfo). y.sort.0) c.index-vars-number.is ∙ c.if-vars-number-ne0.false in
    let bool : slice_get (sorts_of z.goal.vars) (length terms) ≡ Some bool_sort = subst
    (λ s. slice_get (sorts_of z.goal.vars) (length terms) ≡ Some s) (sort_is_bool x.sort null) at in
    let stand : (ts : List Tree) → StandAt c.args.bank.now ids ts →
    StandAt c.add_symbol-2.new.bank c.deref-2.result.now (ts ++ app 0 none ∷ []) = λ ts h. subst
    (λ ps. StandAt c.add_symbol-2.new.bank ps (ts ++ app 0 none ∷ [])) (sym c.deref-2.ensures.value)
    (c.in_ok-with_true.ensures.stand ts h) in
    let more = with_boolean z c.args.bank.now ids terms e c.add_symbol-2.new.bank c.deref-2.result.now 0 stand
    c.requires.fine true refl bool in
    let there = entries_still z c.args.bank.now ids terms e c.verdict_over-2.new.bank
    (adds_both c.args.bank.now c.add_symbol-2.new.bank c.verdict_over-2.new.bank
    c.in_ok-with_true.ensures.adds c.in_ok-verdict_over.ensures.adds) in
    let stand-2 : (ts : List Tree) → StandAt c.verdict_over-2.new.bank ids ts →
    StandAt c.add_symbol-in-Some.new.bank c.deref-in-Some.result.now (ts ++ app 1 none ∷ []) = λ ts h. subst
    (λ ps. StandAt c.add_symbol-in-Some.new.bank ps (ts ++ app 1 none ∷ []))
    (sym c.deref-in-Some.ensures.value) (c.in_ok-with_false-in-Some.ensures.stand ts h) in
    let more-2 = with_boolean z c.verdict_over-2.new.bank ids terms there c.add_symbol-in-Some.new.bank
    c.deref-in-Some.result.now 1 stand-2 c.requires.fine false refl bool in
    none_less z.spec c.requires.fine z.goal c.args.budget terms e.fit (boolean false) more-2.fit
    (subst (λ r. SayOfAll z.spec z.goal c.args.budget (terms ++ boolean false ∷ []) r) c.in-None-2.is
    (c.in_ok-verdict_over-in-Some.ensures.says (terms ++ boolean false ∷ []) more-2))

pub returns-clause-says : goal.returns-clause-says
returns-clause-says t c terms e =
    let z = c.args.self.now in
    let ids = c.args.entries.now in
    let vars : c.as_slice-vars.result.now ≡ z.goal.vars = c.as_slice-vars.ensures
    ∙ ap (λ (p : Partial). p.goal.vars) c.self.view_is in
    let lt : length ids < length c.as_slice-vars.result.now = omega (
      arith,
      no_more_entries z c.args.bank.now ids c.requires.entries.0 c.requires.entries.1,
      ap (λ (vs : List VarInfo). length vs) vars,
      c.if-number-vars.false,
    ) in
    let x = c.index-vars-number.result in
    let item : slice_get c.as_slice-vars.result.now (length ids) ≡ Some x = item_listed
    c.as_slice-vars.result.now c.as_slice-vars.result.now (length ids) x refl lt c.index-vars-number.is in
    let at : slice_get (sorts_of z.goal.vars) (length terms) ≡ Some x.sort = next_sort z c.args.bank.now ids
    terms e c.as_slice-vars.result.now x vars item in
    let null : x.sort.0 ≡ 0 = ap (λ (y : VarInfo). y.sort.0) c.index-vars-number.is ∙ c.if-vars-number-ne0.false in
    let bool : slice_get (sorts_of z.goal.vars) (length terms) ≡ Some bool_sort = subst
    (λ s. slice_get (sorts_of z.goal.vars) (length terms) ≡ Some s) (sort_is_bool x.sort null) at in
    let stand : (ts : List Tree) → StandAt c.args.bank.now ids ts →
    StandAt c.add_symbol-2.new.bank c.deref-2.result.now (ts ++ app 0 none ∷ []) = λ ts h. subst
    (λ ps. StandAt c.add_symbol-2.new.bank ps (ts ++ app 0 none ∷ [])) (sym c.deref-2.ensures.value)
    (c.in_ok-with_true.ensures.stand ts h) in
    let more = with_boolean z c.args.bank.now ids terms e c.add_symbol-2.new.bank c.deref-2.result.now 0 stand
    c.requires.fine true refl bool in
    let there = entries_still z c.args.bank.now ids terms e c.verdict_over-2.new.bank
    (adds_both c.args.bank.now c.add_symbol-2.new.bank c.verdict_over-2.new.bank
    c.in_ok-with_true.ensures.adds c.in_ok-verdict_over.ensures.adds) in
    let stand-2 : (ts : List Tree) → StandAt c.verdict_over-2.new.bank ids ts →
    StandAt c.add_symbol-in-Some.new.bank c.deref-in-Some.result.now (ts ++ app 1 none ∷ []) = λ ts h. subst
    (λ ps. StandAt c.add_symbol-in-Some.new.bank ps (ts ++ app 1 none ∷ []))
    (sym c.deref-in-Some.ensures.value) (c.in_ok-with_false-in-Some.ensures.stand ts h) in
    let more-2 = with_boolean z c.verdict_over-2.new.bank ids terms there c.add_symbol-in-Some.new.bank
    c.deref-in-Some.result.now 1 stand-2 c.requires.fine false refl bool in
    let first = subst (λ r. SayOfAll z.spec z.goal c.args.budget (terms ++ boolean true ∷ []) r) c.in-Some.is
    (c.in_ok-verdict_over.ensures.says (terms ++ boolean true ∷ []) more) in
    let second = subst (λ r. SayOfAll z.spec z.goal c.args.budget (terms ++ boolean false ∷ []) r)
    c.in-Some-2.is (c.in_ok-verdict_over-in-Some.ensures.says (terms ++ boolean false ∷ []) more-2) in
    both_less z.spec c.requires.fine z.goal c.args.budget terms e.fit bool more.fit more-2.fit c.in-Some.first
    c.in-Some-2.second first second c.agreed.result c.agreed.ensures

pub returns-then-number-vars-clause-few : goal.returns-then-number-vars-clause-few
returns-then-number-vars-clause-few t c =
    let z = c.args.self.now in
    if_ok_map c.verdict_at.result _ _
    (λ r h. few_at z c.args.budget (length z.goal.vars - length c.args.entries.now) (length c.args.bank.now)
    (length c.verdict_at.new.bank) h) c.verdict_at.ensures.few

pub returns-then-vars-number-ne0-clause-few : goal.returns-then-vars-number-ne0-clause-few
returns-then-vars-number-ne0-clause-few t c =
    let z = c.args.self.now in
    let ids = c.args.entries.now in
    let vars : c.as_slice-vars.result.now ≡ z.goal.vars = c.as_slice-vars.ensures
    ∙ ap (λ (p : Partial). p.goal.vars) c.self.view_is in
    let lt : length ids < length z.goal.vars = omega (
      arith,
      no_more_entries z c.args.bank.now ids c.requires.entries.0 c.requires.entries.1,
      ap (λ (vs : List VarInfo). length vs) vars,
      c.if-number-vars.false,
    ) in
    let longer : length c.deref.result.now ≡ suc (length ids) = ap (λ (xs : List ValueId). length xs)
    c.deref.ensures.value ∙ c.in_ok-more.ensures.longer in
    if_ok_map c.verdict_over.result _ _ (λ r h. few_one z c.args.budget (length z.goal.vars - length ids)
    (length z.goal.vars - length c.deref.result.now) (length c.args.bank.now) (length c.add_symbol.new.bank)
    (length c.verdict_over.new.bank) (omega (arith, lt, longer)) c.in_ok-more.ensures.few h)
    c.verdict_over.ensures.few

pub returns-in-None-clause-few : goal.returns-in-None-clause-few
returns-in-None-clause-few t c =
    let z = c.args.self.now in
    let ids = c.args.entries.now in
    let vars : c.as_slice-vars.result.now ≡ z.goal.vars = c.as_slice-vars.ensures
    ∙ ap (λ (p : Partial). p.goal.vars) c.self.view_is in
    let lt : length ids < length z.goal.vars = omega (
      arith,
      no_more_entries z c.args.bank.now ids c.requires.entries.0 c.requires.entries.1,
      ap (λ (vs : List VarInfo). length vs) vars,
      c.if-number-vars.false,
    ) in
    let longer : length c.deref-2.result.now ≡ suc (length ids) = ap (λ (xs : List ValueId). length xs)
    c.deref-2.ensures.value ∙ c.in_ok-with_true.ensures.longer in
    few_one z c.args.budget (length z.goal.vars - length ids) (length z.goal.vars - length c.deref-2.result.now)
    (length c.args.bank.now) (length c.add_symbol-2.new.bank) (length c.verdict_over-2.new.bank)
    (omega (arith, lt, longer)) c.in_ok-with_true.ensures.few c.in_ok-verdict_over.ensures.few

pub returns-in-None-2-clause-few : goal.returns-in-None-2-clause-few
returns-in-None-2-clause-few t c =
    let z = c.args.self.now in
    let ids = c.args.entries.now in
    let vars : c.as_slice-vars.result.now ≡ z.goal.vars = c.as_slice-vars.ensures
    ∙ ap (λ (p : Partial). p.goal.vars) c.self.view_is in
    let lt : length ids < length z.goal.vars = omega (
      arith,
      no_more_entries z c.args.bank.now ids c.requires.entries.0 c.requires.entries.1,
      ap (λ (vs : List VarInfo). length vs) vars,
      c.if-number-vars.false,
    ) in
    let longer : length c.deref-2.result.now ≡ suc (length ids) = ap (λ (xs : List ValueId). length xs)
    c.deref-2.ensures.value ∙ c.in_ok-with_true.ensures.longer in
    let longer-2 : length c.deref-in-Some.result.now ≡ suc (length ids) = ap (λ (xs : List ValueId). length xs)
    c.deref-in-Some.ensures.value ∙ c.in_ok-with_false-in-Some.ensures.longer in
    few_two z c.args.budget (length z.goal.vars - length ids) (length z.goal.vars - length c.deref-2.result.now)
    (length z.goal.vars - length c.deref-in-Some.result.now) (length c.args.bank.now)
    (length c.add_symbol-2.new.bank) (length c.verdict_over-2.new.bank)
    (length c.add_symbol-in-Some.new.bank) (length c.verdict_over-in-Some.new.bank)
    (omega (arith, lt, longer)) (omega (arith, lt, longer-2)) c.in_ok-with_true.ensures.few
    c.in_ok-verdict_over.ensures.few c.in_ok-with_false-in-Some.ensures.few c.in_ok-verdict_over-in-Some.ensures.few

pub returns-clause-few : goal.returns-clause-few
returns-clause-few t c =
    let z = c.args.self.now in
    let ids = c.args.entries.now in
    let vars : c.as_slice-vars.result.now ≡ z.goal.vars = c.as_slice-vars.ensures
    ∙ ap (λ (p : Partial). p.goal.vars) c.self.view_is in
    let lt : length ids < length z.goal.vars = omega (
      arith,
      no_more_entries z c.args.bank.now ids c.requires.entries.0 c.requires.entries.1,
      ap (λ (vs : List VarInfo). length vs) vars,
      c.if-number-vars.false,
    ) in
    let longer : length c.deref-2.result.now ≡ suc (length ids) = ap (λ (xs : List ValueId). length xs)
    c.deref-2.ensures.value ∙ c.in_ok-with_true.ensures.longer in
    let longer-2 : length c.deref-in-Some.result.now ≡ suc (length ids) = ap (λ (xs : List ValueId). length xs)
    c.deref-in-Some.ensures.value ∙ c.in_ok-with_false-in-Some.ensures.longer in
    few_two z c.args.budget (length z.goal.vars - length ids) (length z.goal.vars - length c.deref-2.result.now)
    (length z.goal.vars - length c.deref-in-Some.result.now) (length c.args.bank.now)
    (length c.add_symbol-2.new.bank) (length c.verdict_over-2.new.bank)
    (length c.add_symbol-in-Some.new.bank) (length c.verdict_over-in-Some.new.bank)
    (omega (arith, lt, longer)) (omega (arith, lt, longer-2)) c.in_ok-with_true.ensures.few
    c.in_ok-verdict_over.ensures.few c.in_ok-with_false-in-Some.ensures.few c.in_ok-verdict_over-in-Some.ensures.few

pub returns-in_err-more-clause-kept : goal.returns-in_err-more-clause-kept
returns-in_err-more-clause-kept t c = right_still c.args.self.now.extended c.args.bank.now c.add_symbol.new.bank
    c.args.kept.now c.add_symbol.ensures.adds c.requires.kept

pub returns-in_err-more-clause-marks : goal.returns-in_err-more-clause-marks
returns-in_err-more-clause-marks t c = marks_kept c.args.self.now.spec.sig.constructors
    c.args.self.now.extended.sig.constructors c.args.bank.now c.add_symbol.new.bank c.args.marks.now.marks.items
    c.add_symbol.ensures.adds c.requires.marks

pub returns-in_err-with_true-clause-kept : goal.returns-in_err-with_true-clause-kept
returns-in_err-with_true-clause-kept t c = right_still c.args.self.now.extended c.args.bank.now
    c.add_symbol-2.new.bank c.args.kept.now c.add_symbol-2.ensures.adds c.requires.kept

pub returns-in_err-with_true-clause-marks : goal.returns-in_err-with_true-clause-marks
returns-in_err-with_true-clause-marks t c = marks_kept c.args.self.now.spec.sig.constructors
    c.args.self.now.extended.sig.constructors c.args.bank.now c.add_symbol-2.new.bank
    c.args.marks.now.marks.items c.add_symbol-2.ensures.adds c.requires.marks

pub returns-in_err-with_false-in-Some-clause-kept : goal.returns-in_err-with_false-in-Some-clause-kept
returns-in_err-with_false-in-Some-clause-kept t c = right_still c.args.self.now.extended
    c.verdict_over-2.new.bank c.add_symbol-in-Some.new.bank c.verdict_over-2.new.kept
    c.add_symbol-in-Some.ensures.adds c.in_ok-verdict_over.ensures.kept

pub returns-in_err-with_false-in-Some-clause-marks : goal.returns-in_err-with_false-in-Some-clause-marks
returns-in_err-with_false-in-Some-clause-marks t c = marks_kept c.args.self.now.spec.sig.constructors
    c.args.self.now.extended.sig.constructors c.verdict_over-2.new.bank c.add_symbol-in-Some.new.bank
    c.verdict_over-2.new.marks.marks.items c.add_symbol-in-Some.ensures.adds c.in_ok-verdict_over.ensures.marks
