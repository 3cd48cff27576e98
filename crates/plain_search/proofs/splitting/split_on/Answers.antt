use Rattle.std.proofs.Common.{◌==◌, ◌<◌, ap, sym, ◌∙◌, arith}
use Rattle.std.specs.Prelude.{position}
use Rattle.term_core.specs.declared.ids.VarId.{VarId}
use Rattle.spec_core.specs.declared.records.VarInfo.{VarInfo}
use Rattle.clause_core.specs.declared.steps.Step.TheVariants.{Cover}
use Rattle.test_sets.specs.TestSets.{test_set_of}
use Rattle.plain_search.proofs.Splits.{the_equation, variables_are, place_found, place_there, number_small, sort_there}
use Rattle.plain_search.proofs.Splits.{variable_there}
use Rattle.plain_search.proofs.splitting.split_on.Goals as goal

pub unreachable-requires : goal.unreachable-requires
unreachable-requires c =
    let spec = c.args.spec.now in
    let aim = c.args.goal.now in
    let x = c.args.var.0 in
    let long = c.requires.plain.0 in
    let p = c.requires.plain.1 in
    let e = c.index-as_slice-0.result in
    let same = the_equation spec aim x long p c.as_slice.result.now e c.as_slice.ensures c.index-as_slice-0.is in
    let are = variables_are spec aim x long p c.in_ok-vars.vars e c.in_ok-pair.field-0 same c.in_ok-pair.ensures
    c.in_ok-vars.ensures in
    let found = c.place_in.ensures ∙ ap (λ vs. position (λ (v : VarId). v.0 == x) vs) c.as_slice-2.ensures in
    place_there spec aim x long p c.in_ok-vars.vars are c.place_in.result found c.in_default.is

pub bounds-as_slice-var : goal.bounds-as_slice-var
bounds-as_slice-var c = variable_there c.args.spec.now c.args.goal.now c.args.var.0 c.requires.plain.0
    c.requires.plain.1 c.as_slice-3.result.now c.as_slice-3.ensures

pub bounds-as_slice-var-in-Some : goal.bounds-as_slice-var-in-Some
bounds-as_slice-var-in-Some c = variable_there c.args.spec.now c.args.goal.now c.args.var.0 c.requires.plain.0
    c.requires.plain.1 c.as_slice-3.result.now c.as_slice-3.ensures

pub overflow_cast-result : goal.overflow_cast-result
overflow_cast-result c =
    let spec = c.args.spec.now in
    let aim = c.args.goal.now in
    let x = c.args.var.0 in
    let long = c.requires.plain.0 in
    let p = c.requires.plain.1 in
    let e = c.index-as_slice-0.result in
    let same = the_equation spec aim x long p c.as_slice.result.now e c.as_slice.ensures c.index-as_slice-0.is in
    let are = variables_are spec aim x long p c.in_ok-vars.vars e c.in_ok-pair.field-0 same c.in_ok-pair.ensures
    c.in_ok-vars.ensures in
    let found = c.place_in.ensures ∙ ap (λ vs. position (λ (v : VarId). v.0 == x) vs) c.as_slice-2.ensures in
    let at = place_found spec aim x long p c.in_ok-vars.vars are c.place_in.result c.in-Some.number found
    c.in-Some.is in
    let small : c.in-Some.number < 4294967296 = number_small spec aim x long p c.in-Some.number at in
    omega arith

pub returns : goal.returns
returns c =
    let spec = c.args.spec.now in
    let aim = c.args.goal.now in
    let x = c.args.var.0 in
    let long = c.requires.plain.0 in
    let p = c.requires.plain.1 in
    let e = c.index-as_slice-0.result in
    let v = c.index-as_slice-var.result in
    let same = the_equation spec aim x long p c.as_slice.result.now e c.as_slice.ensures c.index-as_slice-0.is in
    let are = variables_are spec aim x long p c.in_ok-vars.vars e c.in_ok-pair.field-0 same c.in_ok-pair.ensures
    c.in_ok-vars.ensures in
    let found = c.place_in.ensures ∙ ap (λ vs. position (λ (w : VarId). w.0 == x) vs) c.as_slice-2.ensures in
    let there = variable_there spec aim x long p c.as_slice-3.result.now c.as_slice-3.ensures in
    record {
      variable = record { 0 = c.in-Some.number };
      sort = v.sort;
      is = place_found spec aim x long p c.in_ok-vars.vars are c.place_in.result c.in-Some.number found c.in-Some.is;
      sorted = sort_there spec aim x long p c.as_slice-3.result.now v c.as_slice-3.ensures there
          c.index-as_slice-var.is;
      covers = ap (λ ps. Cover (record { 0 = c.in-Some.number }) ps) (c.from_vec.ensures
          ∙ c.in_ok-patterns.ensures ∙ ap (λ (w : VarInfo). test_set_of spec.sig w.sort) (sym c.index-as_slice-var.is));
    }
