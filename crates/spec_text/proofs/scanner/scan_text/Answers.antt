use Rattle.std.proofs.Common.{◌≡◌, [], ◌∷◌, inr, ℕ, List, false, None, Some, length, refl, ap, sym, ◌∙◌, arith}
use Rattle.std.specs.Str.{chars}
use Rattle.std.proofs.lemmas.Str.{len_utf8_bounds}
use Rattle.std.proofs.lemmas.Bool.{eqb-true}
use Rattle.spec_text.specs.Names.{size}
use Rattle.spec_text.specs.Scanner.{skip_gaps, first_token}
use Rattle.spec_text.proofs.GapLemmas.{last_gap}
use Rattle.spec_text.proofs.TokenLemmas.{size_is, is_first, scans_on}
use Rattle.spec_text.proofs.ScanLemmas.{skip_gaps_le, first_lt, chars_nonempty, fault_here, nonzero}
use Rattle.spec_text.proofs.scanner.scan_text.Goals as goal

pub loop-rest-init : goal.loop-rest-init
loop-rest-init c =
    let text = c.args.text.now in
    let rest = c.skip_gaps-rest.result.now in
    let e : chars rest ≡ skip_gaps false (chars text) = c.skip_gaps-rest.ensures.value in
    let a = size_is text c.utf8.text in
    let b = size_is rest c.skip_gaps-rest.utf8 in
    let le = skip_gaps_le false (chars text) in
    (c.skip_gaps-rest.utf8, (chars text, rw c.new-tokens.ensures.items refl, e), omega (arith, a, b, ap size e, le))

pub returns-in_default : goal.returns-in_default
returns-in_default c =
    let i = c.loop-rest.invariant in
    let text = c.args.text.now in
    let rest = c.loop-rest.rest.now in
    let first = chars_nonempty rest i.0 (nonzero (length rest) (sym c.is_empty.ensures ∙ c.loop-rest-test.true)) in
    let a = size_is text c.utf8.text in
    let b = size_is rest i.0 in
    let same : size (chars rest) ≡ size (first.0 ∷ first.1) = ap size first.2 in
    let f : first_token (first.0 ∷ first.1) ≡ None = ap first_token (sym first.2) ∙ c.in_default.ensures in
    inr (
      c.utf8.text,
      fault_here (chars text) c.loop-rest.tokens.items i.1.0 _ first.0 first.1 i.1.1 (sym i.1.2
          ∙ first.2) f (omega (arith, a, b, i.2, same)),
    )

pub overflow_sub-len : goal.overflow_sub-len
overflow_sub-len c =
    let after = c.in-Some.after.now in
    let rest = c.loop-rest.rest.now in
    let lt = first_lt (chars rest) c.in-Some.kind (chars after) c.in-Some.ensures.0 in
    omega (arith, lt, size_is after c.in-Some.ensures.1, size_is rest c.loop-rest.invariant.0)

pub loop-rest-smaller : goal.loop-rest-smaller
loop-rest-smaller c =
    let after = c.in-Some.after.now in
    let rest = c.loop-rest.rest.now in
    let next = c.skip_gaps-rest-in-loop-rest.result.now in
    let lt = first_lt (chars rest) c.in-Some.kind (chars after) c.in-Some.ensures.0 in
    let le = skip_gaps_le false (chars after) in
    let e : chars next ≡ skip_gaps false (chars after) = c.skip_gaps-rest-in-loop-rest.ensures.value in
    omega (
      arith,
      lt,
      le,
      ap size e,
      size_is next c.skip_gaps-rest-in-loop-rest.utf8,
      size_is rest c.loop-rest.invariant.0,
    )

pub loop-rest-preserved : goal.loop-rest-preserved
loop-rest-preserved c =
    let i = c.loop-rest.invariant in
    let text = c.args.text.now in
    let after = c.in-Some.after.now in
    let rest = c.loop-rest.rest.now in
    let next = c.skip_gaps-rest-in-loop-rest.result.now in
    let kind = c.in-Some.kind in
    let first = c.in-Some.ensures in
    let lt = first_lt (chars rest) kind (chars after) first.0 in
    let le = skip_gaps_le false (chars after) in
    let e : chars next ≡ skip_gaps false (chars after) = c.skip_gaps-rest-in-loop-rest.ensures.value in
    let x = chars_nonempty rest i.0 (nonzero (length rest) (sym c.is_empty.ensures ∙ c.loop-rest-test.true)) in
    let st = size_is text c.utf8.text in
    let sr = size_is rest i.0 in
    let sa = size_is after first.1 in
    let sn = size_is next c.skip_gaps-rest-in-loop-rest.utf8 in
    let same : size (chars rest) ≡ size (x.0 ∷ x.1) = ap size x.2 in
    let skipped : skip_gaps false i.1.0 ≡ x.0 ∷ x.1 = sym i.1.2 ∙ x.2 in
    let found : first_token (x.0 ∷ x.1) ≡ Some (kind, chars after) = ap first_token (sym x.2) ∙ first.0 in (
      c.skip_gaps-rest-in-loop-rest.utf8,
      (
        chars after,
        rw c.in_ok-push.ensures.items
            (scans_on (size (chars text)) (chars text) c.loop-rest.tokens.items i.1.0 _ (chars after) i.1.1
            (is_first (size (chars text)) i.1.0 x.0 x.1 _ (chars after) skipped found
            (omega (arith, st, sr, i.2, same)) (omega (arith, st, sr, sa, lt, i.2)))),
        e,
      ),
      omega (arith, lt, le, ap size e, sn, sr, i.2),
    )

pub returns : goal.returns
returns c =
    let i = c.loop-rest.invariant in
    let rest = c.loop-rest.rest.now in
    let empty : length rest ≡ 0 = eqb-true (length rest) 0 (sym c.is_empty.ensures ∙ c.loop-rest-test.false) in
    (c.utf8.text, (i.1.0, i.1.1, last_gap i.1.0 (sym i.1.2 ∙ none (chars rest) (size_is rest i.0 ∙ empty))))
  where
    none : (cs : List ℕ) → size cs ≡ 0 → cs ≡ []
    none [] e = refl
    none (x ∷ xs) e = absurd (omega (arith, (len_utf8_bounds x).0))
