use Rattle.std.proofs.Common.{◌≡◌, List, [], ◌∷◌, ◌++◌, None, ap, ◌∙◌, arith}
use Rattle.std.proofs.lemmas.List.{length_push}
use Rattle.spec_grammar.specs.declared.keys.Key.TheVariants.{Comma}
use Rattle.spec_grammar.specs.declared.raw.RawEqual.{RawEqual}
use Rattle.spec_grammar.specs.Derives.{clean}
use Rattle.spec_grammar.specs.Grammar.{Marked, sign, name_text}
use Rattle.spec_grammar.specs.Items.{items_of}
use Rattle.spec_grammar.specs.Symbols.{key, name, more_equal}
use Rattle.spec_syntax.specs.Reading.{IsPassedOver}
use Rattle.spec_syntax.proofs.OrderSteps.{level_grows, one_equal}
use Rattle.spec_syntax.proofs.Steps.{at_next}
use Rattle.spec_syntax.proofs.words.Source.equal.Goals as goal

pub loop-names-init : goal.loop-names-init
loop-names-init c =
    let first = c.in_ok-first.first in
    let second = c.in_ok-second.second in
    let made = c.in_ok-push.ensures.pushed ∙ ap (λ xs. xs ++ first ∷ []) c.new-names.ensures in
    let names : c.push-2.new.self ≡ first ∷ second ∷ [] =
    c.in_ok-push-2.ensures.pushed ∙ ap (λ xs. xs ++ second ∷ []) made in
    let a = c.in_ok-first.ensures.reads in
    let b = c.in_ok-rest.ensures in
    let d = c.in_ok-second.ensures.reads in
    rw names (record {
      two = omega arith;
      reads = record {
        same = λ st.
            a.1 (key Comma ∷ name None ∷ more_equal ∷ st) ∙ b.1 (name None ∷ more_equal ∷ st) ∙ d.1 (more_equal ∷ st);
        text = a.0 ∙ ap (name_text None first) (b.0 ∙ ap (λ (w : List Marked). sign Comma ∷ w) d.0);
        less = omega (arith, a.2, b.2, d.2);
      };
    })

pub loop-names-preserved : goal.loop-names-preserved
loop-names-preserved c =
    let xs = c.loop-names.names in
    let x = c.in-Some.name in
    let i = c.loop-names.invariant in
    let names : c.push-in-Some.new.self ≡ xs ++ x ∷ [] = c.in_ok-push-3.ensures.pushed in
    let h = rw c.in-Some.is at c.in_ok-name.ensures in
    rw (names, length_push) (record {
      two = omega arith;
      reads = at_next more_equal more_equal [] (λ v. sign Comma ∷ name_text None x v) _ i.reads h.0 h.1 h.2
          (λ v. level_grows xs x v (omega (arith, i.two)));
    })

pub returns : goal.returns
returns c =
    let bytes = c.args.self.now.bytes.now in
    let items = items_of bytes c.args.tokens.now in
    let rest = items_of bytes c.loop-names.rest.now in
    let i = c.loop-names.invariant in
    let equal : RawEqual = record { names = c.loop-names.names } in
    let passed : IsPassedOver more_equal rest = rw c.in_default.is at c.in_ok-name.ensures in (
      one_equal equal (clean items) (clean rest) i.two i.reads.text,
      λ st. i.reads.same st ∙ passed st,
      i.reads.less,
    )
