use Rattle.std.proofs.Common.{◌+◌, ◌++◌, ◌∙◌, map, ap, sym, arith}
use Rattle.spec_core.specs.Order.{symbol_number}
use Rattle.spec_core.proofs.Constructors.{numbers_from, number_here, number_other, numbers_pushed}
use Rattle.spec_core.proofs.symbols.Signature.constructors_of.Goals as goal
use Rattle.spec_core.proofs.symbols.Signature.constructors_of.Goals.{then-info-sort+in_ok-push, else-info-sort}

pub loop-number-preserved : goal.loop-number-preserved
loop-number-preserved c =
    let sig = c.args.self.now in
    let n = c.loop-number.number in
    let s = c.args.sort in
    elim c.if-info-sort.branch [
      | then-info-sort+in_ok-push w ↦
          let e = number_here sig n s c.info.result.now c.info.ensures
          (omega (arith, c.constructors-number-end.ensures.count)) w.if-info-sort.true in
          ap (λ fs. map symbol_number fs ++ numbers_from sig (n + 1) s) w.made-is
          ∙ numbers_pushed c.loop-number.made w.push.new.self (record { 0 = n }) _ _
          w.in_ok-push.ensures.pushed (ap (λ ns. map symbol_number c.loop-number.made ++ ns) (sym e)
          ∙ c.loop-number.invariant)
      | else-info-sort w ↦
          let e = number_other sig n s c.info.result.now c.info.ensures
          (omega (arith, c.constructors-number-end.ensures.count)) w.if-info-sort.false in
          ap (λ fs. map symbol_number fs ++ numbers_from sig (n + 1) s) w.made-is
          ∙ ap (λ ns. map symbol_number c.loop-number.made ++ ns) (sym e) ∙ c.loop-number.invariant
    ]
