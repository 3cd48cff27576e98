use Rattle.std.proofs.Common.{rules, Some, None, ◌≡◌, ◌≤◌, ◌<◌, ◌∙◌, sym, ap, subst, arith, inl, inr, refl, length}
use Rattle.std.specs.Prelude.{slice_index}
use Rattle.term_core.specs.declared.ids.SymId.{SymId}
use Rattle.spec_core.specs.Findings.{First, Clean}
use Rattle.spec_grammar.specs.Sizes.{words}
use Rattle.sort_check.specs.Answers.{Tells}
use Rattle.sort_check.specs.Words.{info_at}
use Rattle.sort_check.specs.Parts.{counted_tests}
use Rattle.sort_check.specs.declared.faults.SortFault.TheVariants.{Sort}
use Rattle.sort_check.specs.declared.faults.SortKind.TheVariants.{WrongNumberOfArguments}
use Rattle.sort_check.proofs.Walks.{name_none, name_some, args_are}
use Rattle.sort_check.proofs.RuleFacts.{at_root, root_is, no_root, root_number, root_clean}
use Rattle.sort_check.proofs.rules.root.Goals as goal
use Rattle.sort_check.proofs.rules.root.Goals.{then-len-eq0, else-len-eq0}

pub returns-in_default-clause-root : goal.returns-in_default-clause-root
returns-in_default-clause-root c =
    let sig = c.args.sig.now in
    let k = name_none sig (λ (f : SymId). f.0) c.symbol.result c.as_bytes.result.now c.raw.inside.name
    c.symbol.ensures c.as_bytes.ensures (search rules) in
    let h = at_root sig c.args.most c.args.counts.now c.raw.inside.name c.raw.inside.at c.raw.inside.args
    c.args.raw.now c.raw.view_is None k (λ s. First s (Sort c.raw.inside.at c.if-len-eq0.kind))
    (no_root sig c.args.most c.raw.inside.at (words c.args.raw.now) 0 c.len.result c.raw.inside.args
    c.if-len-eq0.kind (search rules) (elim c.if-len-eq0.branch [
      | then-len-eq0 w ↦ inl (w.if-len-eq0.true, w.kind-is)
      | else-len-eq0 w ↦ inr (w.if-len-eq0.false, w.kind-is)
    ])) in
    subst (λ e. Tells (counted_tests sig c.args.most c.args.counts.now c.args.raw.now) e) (sym c.fault.ensures) h

pub returns-then-len-clause-root : goal.returns-then-len-clause-root
returns-then-len-clause-root c =
    let sig = c.args.sig.now in
    let k = name_some sig (λ (f : SymId). f.0) c.symbol.result c.in-Some.sym c.as_bytes.result.now
    c.raw.inside.name c.symbol.ensures c.as_bytes.ensures c.in-Some.is in
    let f = c.in-Some.sym.0 in
    let small : words c.args.raw.now ≤ 200 = omega (arith, c.size.ensures, c.if-size-gt-LEFT_SIZE.false) in
    let few : slice_index c.args.counts.now f < c.args.most = omega (arith, c.if-counts-sym.false) in
    let m : c.len-3.result ≡ length (info_at sig f).args = c.len-3.ensures
    ∙ ap (λ ss. length ss) (sym (args_are sig f c.info.result.now c.info.ensures)) in
    let h = at_root sig c.args.most c.args.counts.now c.raw.inside.name c.raw.inside.at c.raw.inside.args
    c.args.raw.now c.raw.view_is (Some f) k (λ s. First s (Sort c.raw.inside.at WrongNumberOfArguments))
    (root_number sig c.args.most c.raw.inside.at (words c.args.raw.now) (slice_index c.args.counts.now f)
    c.len-2.result c.len-3.result f c.raw.inside.args (search rules) few small (search rules) m c.if-len.true) in
    subst (λ e. Tells (counted_tests sig c.args.most c.args.counts.now c.args.raw.now) e)
    (sym c.fault-then-len.ensures) h

pub returns-clause-root : goal.returns-clause-root
returns-clause-root c =
    let sig = c.args.sig.now in
    let k = name_some sig (λ (f : SymId). f.0) c.symbol.result c.in-Some.sym c.as_bytes.result.now
    c.raw.inside.name c.symbol.ensures c.as_bytes.ensures c.in-Some.is in
    let f = c.in-Some.sym.0 in
    let small : words c.args.raw.now ≤ 200 = omega (arith, c.size.ensures, c.if-size-gt-LEFT_SIZE.false) in
    let few : slice_index c.args.counts.now f < c.args.most = omega (arith, c.if-counts-sym.false) in
    let m : c.len-3.result ≡ length (info_at sig f).args = c.len-3.ensures
    ∙ ap (λ ss. length ss) (sym (args_are sig f c.info.result.now c.info.ensures)) in (
      at_root sig c.args.most c.args.counts.now c.raw.inside.name c.raw.inside.at c.raw.inside.args
          c.args.raw.now c.raw.view_is (Some f) k (λ s. Clean s)
          (root_clean sig c.args.most c.raw.inside.at (words c.args.raw.now) (slice_index c.args.counts.now f)
          c.len-2.result c.len-3.result f c.raw.inside.args (search rules) few small (search rules) m
          c.if-len.false),
      root_is sig c.args.most c.args.counts.now c.raw.inside.name c.raw.inside.at
          c.raw.inside.args c.args.raw.now c.raw.view_is (Some f) k f c.len-2.result c.len-3.result refl
          (search rules) (search rules) m c.if-len.false,
    )
