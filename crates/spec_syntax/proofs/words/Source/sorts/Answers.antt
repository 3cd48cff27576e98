use Rattle.std.proofs.Common.{◌≡◌, ◌+◌, ℕ, [], ◌∷◌, ◌++◌, inl, inr, length, refl, ap, sym, ◌∙◌, arith, zero-add}
use Rattle.std.proofs.lemmas.Result.{err_from_is_err_and}
use Rattle.std.proofs.lemmas.List.{length_push}
use Rattle.spec_grammar.specs.declared.keys.Key.TheVariants.{Sort}
use Rattle.spec_grammar.specs.Derives.{clean}
use Rattle.spec_grammar.specs.Items.{Sign, items_of}
use Rattle.spec_grammar.specs.Limits.{sort_mark}
use Rattle.spec_grammar.specs.Symbols.{sorts}
use Rattle.spec_syntax.specs.ReadingSorts.{sort_text}
use Rattle.spec_syntax.specs.Reading.{Lacks}
use Rattle.spec_syntax.proofs.SortSteps.{sorts_grow, sorts_end, counted, counted-append}
use Rattle.spec_syntax.proofs.Steps.{stop_at}
use Rattle.spec_syntax.proofs.words.Source.sorts.Goals as goal

pub loop-made-init : goal.loop-made-init
loop-made-init c = rw c.new-made.ensures
    (record { few = omega arith; total = refl; text = refl; last = (0, λ st. refl, inl refl); less = omega arith })

pub returns-in_err-sort : goal.returns-in_err-sort
returns-in_err-sort c =
    let version = c.args.version in
    let bytes = c.args.self.now.bytes.now in
    let n = length c.loop-made.made in
    let t = c.loop-made.total in
    let i = c.loop-made.invariant in
    let p = err_from_is_err_and c.from_residual.result c.from_residual.ensures.1 in
    let h = rw c.len.ensures at c.in_err-sort.ensures in
    rw (p.1, p.2) (stop_at (sorts version 0 0 0 ∷ []) (sorts version n i.last.0 t ∷ []) []
    (items_of bytes c.args.tokens.now) (items_of bytes c.loop-made.rest.now) c.in_err-sort.field-0.0
    i.last.1 (h i.last.0))

pub loop-made-preserved : goal.loop-made-preserved
loop-made-preserved c =
    let version = c.args.version in
    let bytes = c.args.self.now.bytes.now in
    let ss = c.loop-made.made in
    let n = length ss in
    let t = c.loop-made.total in
    let s = c.in-Some.sort in
    let i = c.loop-made.invariant in
    let made : c.push.new.self ≡ ss ++ s ∷ [] = c.in_ok-push.ensures.pushed in
    let o = rw c.in-Some.is at c.in_ok-sort.ensures in
    let h = rw c.len.ensures at o in
    let after = clean (items_of bytes c.in-Some.after.now) in
    let number = ap (λ (k : ℕ). (Sign Sort, sort_mark k) ∷ sort_text version t s after) (sym (zero-add n)) in
    let total = ap (λ (k : ℕ). (Sign Sort, sort_mark (0 + n)) ∷ sort_text version k s after)
    (i.total ∙ sym (zero-add (counted ss))) in
    rw (made, length_push, c.len-total.ensures) (record {
      few = omega (arith, h.4);
      total = rw (counted-append ss s) (omega (arith, i.total));
      text = sorts_grow version 0 0 ss s (clean (items_of bytes c.args.tokens.now))
          (clean (items_of bytes c.loop-made.rest.now)) after i.text h.0 (h.1 ∙ number ∙ total);
      last = (length s.constructors, λ st. i.last.1 st ∙ h.2 i.last.0 st, inr h.5);
      less = omega (arith, i.less, h.3);
    })

pub returns : goal.returns
returns c =
    let version = c.args.version in
    let bytes = c.args.self.now.bytes.now in
    let n = length c.loop-made.made in
    let rest = items_of bytes c.loop-made.rest.now in
    let i = c.loop-made.invariant in
    let lacks : Lacks Sort rest = rw c.in_default.is at c.in_ok-sort.ensures in
    (i.text, λ st. i.last.1 st ∙ sorts_end version n i.last.0 c.loop-made.total rest st lacks i.last.2, i.less)
