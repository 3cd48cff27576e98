use Rattle.std.proofs.Common.{◌≡◌, Some, true, false, sym, subst, drop}
use Rattle.std.specs.Prelude.{slice_get, IsTrue, ◌↔◌}
use Rattle.term_core.specs.Tree.{trees_of}
use Rattle.value_bank.specs.Cells.{AreTerms}
use Rattle.rule_code.specs.Matched.{AreSame, ArePassed}
use Rattle.rule_code.proofs.Testing.{match_not, repeats_there, repeats_fit}
use Rattle.rule_code.proofs.left_sides.LeftSide.fits.Goals as goal

pub returns-then-not-branch : goal.returns-then-not-branch
returns-then-not-branch c =
    let left = c.args.self.now in
    let p : ArePassed c.args.bank.now c.args.base left.tests.items c.args.places.now.items
    c.pass.new.places.items false = subst (λ b. ArePassed c.args.bank.now c.args.base left.tests.items
    c.args.places.now.items c.pass.new.places.items b) c.if-not-branch.true
    (subst (λ ts. ArePassed c.args.bank.now c.args.base ts c.args.places.now.items c.pass.new.places.items
    c.in_ok-pass.field-0) c.deref.ensures.value c.in_ok-pass.ensures) in
    record {
      extends = p.extends;
      by = λ rule side env terms n xs is. match_not rule left side env xs
          (p.by env side.patterns side.all side.opens terms n) is;
    }

pub are_same-requires : goal.are_same-requires
are_same-requires c =
    let left = c.args.self.now in
    let q = c.requires in
    let p : ArePassed c.args.bank.now c.args.base left.tests.items c.args.places.now.items
    c.pass.new.places.items true = subst (λ b. ArePassed c.args.bank.now c.args.base left.tests.items
    c.args.places.now.items c.pass.new.places.items b) c.if-not-branch.false
    (subst (λ ts. ArePassed c.args.bank.now c.args.base ts c.args.places.now.items c.pass.new.places.items
    c.in_ok-pass.field-0) c.deref.ensures.value c.in_ok-pass.ensures) in
    let g = p.by q.2 q.1.patterns q.1.all q.1.opens q.4 q.5 in (
      g.0,
      subst (λ ps. AreTerms c.args.bank.now (drop c.args.base ps) (trees_of g.0))
          (sym c.deref-3.ensures.value) g.1.0,
      λ k r at. repeats_there q.0 left q.1 q.2 g.0 q.5 g.1.1 k r
          (subst (λ rs. slice_get rs k ≡ Some r) c.deref-2.ensures.value at),
    )

pub returns : goal.returns
returns c =
    let left = c.args.self.now in
    let cells = c.args.bank.now in
    let new = c.pass.new.places.items in
    let p : ArePassed cells c.args.base left.tests.items c.args.places.now.items new true = subst
    (λ b. ArePassed cells c.args.base left.tests.items c.args.places.now.items new b) c.if-not-branch.false
    (subst (λ ts. ArePassed cells c.args.base ts c.args.places.now.items new c.in_ok-pass.field-0)
    c.deref.ensures.value c.in_ok-pass.ensures) in
    record {
      extends = p.extends;
      by = λ rule side env terms n.
          let g = p.by env side.patterns side.all side.opens terms n in
          repeats_fit cells left c.args.base new rule side env c.are_same.result n g
          (subst (λ rs. IsTrue c.are_same.result ↔ AreSame g.0 rs) c.deref-2.ensures.value
          (c.are_same.ensures g.0 (subst (λ ps. AreTerms cells (drop c.args.base ps) (trees_of g.0))
          (sym c.deref-3.ensures.value) g.1.0)));
    }
