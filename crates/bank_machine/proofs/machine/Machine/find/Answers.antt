use Rattle.std.proofs.Common.{◌≡◌, Some, true, false, refl, ap, sym, ◌∙◌, subst, arith, length, drop, get_or, inl, inr}
use Rattle.std.proofs.Common.{[]}
use Rattle.std.specs.Prelude.{slice_get}
use Rattle.std.proofs.lemmas.List.{append-nil}
use Rattle.std.proofs.lemmas.Option.{slice_get-get_or, slice_get_within}
use Rattle.term_core.proofs.Numbers.{below_or_last}
use Rattle.term_core.specs.Tree.{app, instance, trees_of}
use Rattle.spec_core.specs.declared.records.Rule.{Rule}
use Rattle.spec_core.specs.WellSorted.{IsWellSorted}
use Rattle.value_bank.specs.Cells.{AreTerms}
use Rattle.spec_core.specs.RuleTables.{numbers_of}
use Rattle.rule_code.specs.Matched.{Tells}
use Rattle.rule_code.specs.Programs.{Program, program}
use Rattle.rule_code.proofs.Matches.{some_same}
use Rattle.rule_code.proofs.Descending.{rest_is}
use Rattle.bank_machine.specs.Calls.{IsCallAt, IsFound, FoundBy}
use Rattle.bank_machine.specs.Sound.{IsReady}
use Rattle.bank_machine.proofs.Entering.{tree_there, tree_at, tried, number_within, as_many, call_is, entered}
use Rattle.bank_machine.proofs.Numbers.{match_listed}
use Rattle.bank_machine.proofs.machine.Machine.find.Goals as goal

pub index-tree-requires : goal.index-tree-requires
index-tree-requires c =
    let p = c.self.inside in
    let call : IsCallAt p.spec.now c.args.bank.now c.args.sym c.args.base c.args.places.now.items = subst
    (λ (q : Program). IsCallAt q.spec c.args.bank.now c.args.sym c.args.base c.args.places.now.items)
    (sym c.self.view_is) c.requires.call in
    omega (
      arith,
      tree_there p.spec.now p.code p.rules.items p.trees.items c.self.invariant c.args.sym
          (trees_of call.0) call.1 call.4,
      p.trees.ok,
    )

pub rules_for-numbers-requires-clause-tree : goal.rules_for-numbers-requires-clause-tree
rules_for-numbers-requires-clause-tree c =
    let p = c.self.inside in
    let call : IsCallAt p.spec.now c.args.bank.now c.args.sym c.args.base c.args.places.now.items = subst
    (λ (q : Program). IsCallAt q.spec c.args.bank.now c.args.sym c.args.base c.args.places.now.items)
    (sym c.self.view_is) c.requires.call in (
      p.spec.now.rules,
      numbers_of c.args.sym 0 p.spec.now.rules,
      tree_at p.spec.now p.code p.rules.items p.trees.items c.self.invariant c.args.sym (trees_of call.0)
          call.1 call.4 c.index-tree.result.now c.index-tree.ensures,
    )

pub index-rule-requires : goal.index-rule-requires
index-rule-requires c =
    let p = c.self.inside in
    let call : IsCallAt p.spec.now c.args.bank.now c.args.sym c.args.base c.args.places.now.items = subst
    (λ (q : Program). IsCallAt q.spec c.args.bank.now c.args.sym c.args.base c.args.places.now.items)
    (sym c.self.view_is) c.requires.call in
    let kept = c.rules_for-numbers.ensures p.spec.now.rules (numbers_of c.args.sym 0 p.spec.now.rules) call.0
    (tree_at p.spec.now p.code p.rules.items p.trees.items c.self.invariant c.args.sym (trees_of call.0)
    call.1 call.4 c.index-tree.result.now c.index-tree.ensures)
    (subst (λ ps. AreTerms c.args.bank.now ps (trees_of call.0))
    (sym (rest_is c.deref.result.now c.args.places.now.items c.args.base c.deref.ensures.value)) call.3) in
    let n = number_within p.spec.now p.code p.rules.items p.trees.items c.self.invariant c.args.sym
    c.rules_for-numbers.result.now kept.some c.loop-number.number-index c.loop-number-test.true in
    omega (arith, n, p.rules.ok)

pub matches-requires : goal.matches-requires
matches-requires c =
    let p = c.self.inside in
    let call : IsCallAt p.spec.now c.args.bank.now c.args.sym c.args.base c.args.places.now.items = subst
    (λ (q : Program). IsCallAt q.spec c.args.bank.now c.args.sym c.args.base c.args.places.now.items)
    (sym c.self.view_is) c.requires.call in
    let fine : IsWellSorted p.spec.now = subst (λ (q : Program). IsWellSorted q.spec) (sym c.self.view_is)
    c.requires.fine in
    let kept = c.rules_for-numbers.ensures p.spec.now.rules (numbers_of c.args.sym 0 p.spec.now.rules) call.0
    (tree_at p.spec.now p.code p.rules.items p.trees.items c.self.invariant c.args.sym (trees_of call.0)
    call.1 call.4 c.index-tree.result.now c.index-tree.ensures)
    (subst (λ ps. AreTerms c.args.bank.now ps (trees_of call.0))
    (sym (rest_is c.deref.result.now c.args.places.now.items c.args.base c.deref.ensures.value)) call.3) in
    let t = tried p.spec.now p.code p.rules.items p.trees.items c.self.invariant c.args.sym
    c.rules_for-numbers.result.now kept.some c.loop-number.number-index c.loop-number-test.true
    c.index-rule.result.now c.index-rule.ensures in (
      t.rule,
      t.compiled.left,
      call.0,
      omega (arith, call.2, ap length c.loop-number.invariant.same),
      subst (λ ps. AreTerms c.args.bank.now (drop c.args.base ps) (trees_of call.0))
          (sym c.loop-number.invariant.same) call.3,
      as_many p.spec.now fine _ t.rule t.listed _ t.compiled.left c.args.sym t.args t.calls call.0 call.1 call.4,
    )

pub index-requires : goal.index-requires
index-requires c =
    let p = c.self.inside in
    let call : IsCallAt p.spec.now c.args.bank.now c.args.sym c.args.base c.args.places.now.items = subst
    (λ (q : Program). IsCallAt q.spec c.args.bank.now c.args.sym c.args.base c.args.places.now.items)
    (sym c.self.view_is) c.requires.call in
    let kept = c.rules_for-numbers.ensures p.spec.now.rules (numbers_of c.args.sym 0 p.spec.now.rules) call.0
    (tree_at p.spec.now p.code p.rules.items p.trees.items c.self.invariant c.args.sym (trees_of call.0)
    call.1 call.4 c.index-tree.result.now c.index-tree.ensures)
    (subst (λ ps. AreTerms c.args.bank.now ps (trees_of call.0))
    (sym (rest_is c.deref.result.now c.args.places.now.items c.args.base c.deref.ensures.value)) call.3) in
    let t = tried p.spec.now p.code p.rules.items p.trees.items c.self.invariant c.args.sym
    c.rules_for-numbers.result.now kept.some c.loop-number.number-index c.loop-number-test.true
    c.index-rule.result.now c.index-rule.ensures in
    let b = t.compiled.blocks 0 (omega arith) in
    omega (
      arith,
      slice_get_within c.index-rule.result.now.begins.items 0 b.place b.begin,
      c.index-rule.result.now.begins.ok,
    )

pub returns-then-branch : goal.returns-then-branch
returns-then-branch c =
    let p = c.self.inside in
    let cells = c.args.bank.now in
    let f = c.args.sym in
    let old = c.args.places.now.items in
    let new = c.matches.new.places.items in
    let left = c.index-rule.result.now.left in
    let fine : IsWellSorted p.spec.now = subst (λ (q : Program). IsWellSorted q.spec) (sym c.self.view_is)
    c.requires.fine in
    let m : Tells cells left c.args.base old new true = subst (λ b. Tells cells left c.args.base old new b)
    c.if-branch.true (subst (λ ps. Tells cells left c.args.base ps new c.in_ok-matches.field-0)
    c.loop-number.invariant.same c.in_ok-matches.ensures) in
    let found : IsFound (program p.spec.now p.code) cells f c.args.base old new (Some c.index.result.now) = record {
      extends = m.fits.extends;
      by = λ env s terms ready.
          let kept = c.rules_for-numbers.ensures p.spec.now.rules (numbers_of f 0 p.spec.now.rules) env
          (tree_at p.spec.now p.code p.rules.items p.trees.items c.self.invariant f (trees_of env) s ready
          c.index-tree.result.now c.index-tree.ensures)
          (subst (λ ps. AreTerms c.args.bank.now ps (trees_of env))
          (sym (rest_is c.deref.result.now c.args.places.now.items c.args.base c.deref.ensures.value)) terms) in
          let t = tried p.spec.now p.code p.rules.items p.trees.items c.self.invariant f
          c.rules_for-numbers.result.now kept.some c.loop-number.number-index c.loop-number-test.true
          c.index-rule.result.now c.index-rule.ensures in
          let g = m.fits.by t.rule t.compiled.left env terms
          (as_many p.spec.now fine _ t.rule t.listed left t.compiled.left f t.args t.calls env s ready) in
          subst (λ x. FoundBy (program p.spec.now p.code) cells f c.args.base new env (Some x))
          (sym c.index.ensures) (entered p.spec.now fine _ t.rule t.listed left t.compiled.left f t.args
          t.calls env s ready g.0 g.1.1 g.2 p.code c.index-rule.result.now cells c.args.base new
          c.index.result.now refl t.compiled g.1.0);
    } in
    subst (λ q. IsFound q cells f c.args.base old new (Some c.index.result.now)) c.self.view_is found

pub loop-number-preserved : goal.loop-number-preserved
loop-number-preserved c =
    let p = c.self.inside in
    let cells = c.args.bank.now in
    let f = c.args.sym in
    let old = c.args.places.now.items in
    let new = c.matches.new.places.items in
    let left = c.index-rule.result.now.left in
    let fine : IsWellSorted p.spec.now = subst (λ (q : Program). IsWellSorted q.spec) (sym c.self.view_is)
    c.requires.fine in
    let m : Tells cells left c.args.base old new false = subst (λ b. Tells cells left c.args.base old new b)
    c.if-branch.false (subst (λ ps. Tells cells left c.args.base ps new c.in_ok-matches.field-0)
    c.loop-number.invariant.same c.in_ok-matches.ensures) in
    record {
      same = m.stays;
      none = λ env s terms ready' j k rule xs lt at there is.
          elim (below_or_last j c.loop-number.number-index lt) [
            | inl l ↦ c.loop-number.invariant.none env s terms ready' j k rule xs l at there is
            | inr e ↦
                let ready : IsReady p.spec.now f (trees_of env) s = subst
                (λ (q : Program). IsReady q.spec f (trees_of env) s) (sym c.self.view_is) ready' in
                let kept = c.rules_for-numbers.ensures p.spec.now.rules (numbers_of f 0 p.spec.now.rules) env
                (tree_at p.spec.now p.code p.rules.items p.trees.items c.self.invariant f (trees_of env) s
                ready c.index-tree.result.now c.index-tree.ensures)
                (subst (λ ps. AreTerms c.args.bank.now ps (trees_of env))
                (sym (rest_is c.deref.result.now c.args.places.now.items c.args.base c.deref.ensures.value))
                terms) in
                let t = tried p.spec.now p.code p.rules.items p.trees.items c.self.invariant f
                c.rules_for-numbers.result.now kept.some c.loop-number.number-index c.loop-number-test.true
                c.index-rule.result.now c.index-rule.ensures in
                let g = m.fits.by t.rule t.compiled.left env terms
                (as_many p.spec.now fine _ t.rule t.listed left t.compiled.left f t.args t.calls env s ready) in
                let number : get_or c.rules_for-numbers.result.now c.loop-number.number-index 0 ≡ k = some_same
                (slice_get c.rules_for-numbers.result.now c.loop-number.number-index) _ k
                (slice_get-get_or c.rules_for-numbers.result.now c.loop-number.number-index 0
                c.loop-number-test.true) (subst (λ z. slice_get c.rules_for-numbers.result.now z ≡ Some k) e at) in
                let there₁ : slice_get p.spec.now.rules k ≡ Some rule = subst
                (λ (q : Program). slice_get q.spec.rules k ≡ Some rule) (sym c.self.view_is) there in
                let same : t.rule ≡ rule = some_same (slice_get p.spec.now.rules k) t.rule rule
                (subst (λ z. slice_get p.spec.now.rules z ≡ Some t.rule) number t.listed) there₁ in
                g xs (call_is p.spec.now fine _ t.rule t.listed left t.compiled.left f t.args t.calls env s
                ready xs (subst (λ (r : Rule). instance xs r.left ≡ app f (trees_of env)) (sym same) is))
          ];
    }

pub returns : goal.returns
returns c =
    let p = c.self.inside in
    let f = c.args.sym in
    let fine : IsWellSorted p.spec.now = subst (λ (q : Program). IsWellSorted q.spec) (sym c.self.view_is)
    c.requires.fine in
    record {
      extends = ([], c.loop-number.invariant.same ∙ sym (append-nil c.args.places.now.items));
      by = λ env s terms ready' k rule xs there is.
          let ready : IsReady p.spec.now f (trees_of env) s = subst
          (λ (q : Program). IsReady q.spec f (trees_of env) s) (sym c.self.view_is) ready' in
          let there₁ : slice_get p.spec.now.rules k ≡ Some rule = subst
          (λ (q : Program). slice_get q.spec.rules k ≡ Some rule) (sym c.self.view_is) there in
          let kept = c.rules_for-numbers.ensures p.spec.now.rules (numbers_of f 0 p.spec.now.rules) env
          (tree_at p.spec.now p.code p.rules.items p.trees.items c.self.invariant f (trees_of env) s ready
          c.index-tree.result.now c.index-tree.ensures)
          (subst (λ ps. AreTerms c.args.bank.now ps (trees_of env))
          (sym (rest_is c.deref.result.now c.args.places.now.items c.args.base c.deref.ensures.value)) terms) in
          let i = kept.all k f rule xs (match_listed p.spec.now fine f k rule xs (trees_of env) there₁ is) there₁ is in
          c.loop-number.invariant.none env s terms ready' i.0 k rule xs
          (omega (
            arith,
            slice_get_within c.rules_for-numbers.result.now i.0 k i.1,
            c.loop-number-test.false,
          )) i.1 there is;
    }
