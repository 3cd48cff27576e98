use Rattle.std.proofs.Common.{arith, ◌≡◌, ◌∙◌, ◌++◌, Some, sym, ap, subst, refl}
use Rattle.std.specs.Prelude.{slice_get, Result, Ok, Err, OnOk}
use Rattle.term_core.specs.Tree.{trees_of}
use Rattle.value_bank.specs.Cells.{AreTerms}
use Rattle.value_bank.proofs.Terms.{terms_kept}
use Rattle.term_core.proofs.Items.{if_ok_map}
use Rattle.refuter.specs.Blocks.{block}
use Rattle.refuter.specs.Sizes.{CanRead}
use Rattle.refuter.proofs.Memory.{first_symbols}
use Rattle.refuter.proofs.Steps.{at_places}
use Rattle.refuter.proofs.Walks.{few_symbols, last_sorts, first_row_of}
use Rattle.refuter.proofs.walking.Walk.first.Goals as goal

pub push_first-requires-clause-sorts : goal.push_first-requires-clause-sorts
push_first-requires-clause-sorts c = last_sorts _ _ _ _ _ _ c.requires.walk c.requires.begun.1.sorts
    c.args.sorts.now c.requires.begun.1.parted

pub push_first-requires-clause-few : goal.push_first-requires-clause-few
push_first-requires-clause-few c = few_symbols _ _ _ _ _ _ c.requires.walk

pub terms-requires : goal.terms-requires
terms-requires c =
    let b = c.requires.begun.1 in
    let kept = terms_kept c.args.bank.now c.push_first.new.bank c.args.row.now.items
    (trees_of c.requires.begun.0) c.push_first.ensures.adds b.stand in
    let r = first_row_of _ _ _ _ _ _ c.requires.walk c.args.bank.now c.args.row.now.items c.args.sorts.now
    c.requires.begun.0 b c.push_first.new.bank c.push_first.new.row.items c.in_ok-_found._found
    c.requires.some kept c.in_ok-_found.ensures.goes in
    subst (λ ps. CanRead c.push_first.new.bank ps) (sym c.deref.ensures.value) r.small

pub returns-clause-first : goal.returns-clause-first
returns-clause-first c =
    let b = c.requires.begun.1 in
    let kept = terms_kept c.args.bank.now c.push_first.new.bank c.args.row.now.items
    (trees_of c.requires.begun.0) c.push_first.ensures.adds b.stand in
    let r = first_row_of _ _ _ _ _ _ c.requires.walk c.args.bank.now c.args.row.now.items c.args.sorts.now
    c.requires.begun.0 b c.push_first.new.bank c.push_first.new.row.items c.in_ok-_found._found
    c.requires.some kept c.in_ok-_found.ensures.goes in
    let read = subst (λ ps. AreTerms c.push_first.new.bank ps (trees_of c.in_ok-values.values.items))
    c.deref.ensures.value c.in_ok-values.ensures in
    let all = c.requires.begun.0 ++ r.rest in
    let made : c.in_ok-values.values.items ≡ all = at_places c.push_first.new.bank c.push_first.new.row.items
    (λ vs. vs ≡ all) all r.stand refl c.in_ok-values.values.items read in
    let sig = c.args.self.now.prepared.now.spec.sig in
    let depth = c.args.self.now.depth in
    if_ok_map c.from_vec.result _ _
    (λ values e firsts h.
    at_places c.args.bank.now c.args.row.now.items
    (λ vs. slice_get (block sig depth vs c.args.sorts.now) 0 ≡ Some values) c.requires.begun.0
    b.stand (r.first ∙ ap (λ xs. Some xs) (sym (e ∙ made))) firsts h)
    c.from_vec.ensures

at_any_end : {T E P : Type 0} (r : Result T E) → P → OnOk r P
at_any_end (Ok x) p = p
at_any_end (Err e) p = tt

pub returns-clause-few : goal.returns-clause-few
returns-clause-few c =
    at_any_end c.from_vec.result
    (omega (
      arith,
      c.in_ok-_found.ensures.few,
      first_symbols c.args.self.now.odometer.now
          c.args.self.now.depth c.args.sorts.now c.args.self.now.bound,
    ))
