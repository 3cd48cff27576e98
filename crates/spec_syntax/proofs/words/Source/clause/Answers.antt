use Rattle.std.proofs.Common.{[], ◌∷◌, inl, inr, List, None, refl, ap, length, ◌∙◌, arith}
use Rattle.std.proofs.lemmas.Result.{err_from_is_err_and}
use Rattle.spec_grammar.specs.declared.keys.Key.TheVariants.{Arrow}
use Rattle.spec_grammar.specs.Grammar.{Marked, sign, sides_text, premises_text}
use Rattle.spec_grammar.specs.Derives.{clean}
use Rattle.spec_grammar.specs.Items.{items_of}
use Rattle.spec_grammar.specs.Symbols.{clause, tail, commas, conclusions, bars, sides_then}
use Rattle.spec_syntax.proofs.ClauseSteps.{clause_run, clause_arrow, tail_bars, tail_commas, conclusions_made}
use Rattle.spec_syntax.proofs.ClauseSteps.{premises_made, begins_some}
use Rattle.spec_syntax.proofs.Steps.{stop_at}
use Rattle.spec_syntax.proofs.words.Source.clause.Goals as goal

pub returns-in_err-conclusions : goal.returns-in_err-conclusions
returns-in_err-conclusions c =
    let bytes = c.args.self.now.bytes.now in
    let p = err_from_is_err_and c.from_residual.result c.from_residual.ensures.1 in
    rw (p.1, p.2) (stop_at (clause ∷ []) (conclusions ∷ []) [] (items_of bytes c.args.tokens.now)
    (items_of bytes c.in-Some.next.now) c.in_err-conclusions.field-0.0
    (λ st. clause_arrow (items_of bytes c.args.tokens.now) (items_of bytes c.in-Some.next.now) st
    c.in-Some.ensures) c.in_err-conclusions.ensures)

pub returns-in-Some : goal.returns-in-Some
returns-in-Some c =
    let bytes = c.args.self.now.bytes.now in
    let h = c.in_ok-conclusions.ensures in
    rw c.new-premises.ensures (
      inl (ap clean c.in-Some.ensures ∙ ap (λ (w : List Marked). sign Arrow ∷ w) h.0),
      λ st. clause_arrow (items_of bytes c.args.tokens.now) (items_of bytes c.in-Some.next.now) st
          c.in-Some.ensures ∙ h.1 st,
      omega (arith, ap length c.in-Some.ensures, h.2),
    )

pub returns-in_err-first : goal.returns-in_err-first
returns-in_err-first c =
    let items = items_of c.args.self.now.bytes.now c.args.tokens.now in
    let p = err_from_is_err_and c.from_residual-in_err-first.result c.from_residual-in_err-first.ensures.1 in
    rw (p.1, p.2) (stop_at (clause ∷ []) (sides_then None []) (tail ∷ []) items items c.in_err-first.field-0.0
    (λ st. clause_run items st c.in_default.ensures) c.in_err-first.ensures)

pub returns-in_err-premises : goal.returns-in_err-premises
returns-in_err-premises c =
    let bytes = c.args.self.now.bytes.now in
    let items = items_of bytes c.args.tokens.now in
    let rest = items_of bytes c.in_ok-first.rest.now in
    let p = err_from_is_err_and c.from_residual-in_err-premises.result c.from_residual-in_err-premises.ensures.1 in
    rw (p.1, p.2) (stop_at (clause ∷ []) (commas 1 ∷ []) [] items rest c.in_err-premises.field-0.0
    (λ st. clause_run items st c.in_default.ensures ∙ c.in_ok-first.ensures.1 (tail ∷ st)
    ∙ tail_commas rest st c.if-begins_premises.ensures) c.in_err-premises.ensures)

pub returns-in_err-conclusions-2 : goal.returns-in_err-conclusions-2
returns-in_err-conclusions-2 c =
    let bytes = c.args.self.now.bytes.now in
    let items = items_of bytes c.args.tokens.now in
    let rest = items_of bytes c.in_ok-first.rest.now in
    let p = err_from_is_err_and c.from_residual-in_err-conclusions-2.result
    c.from_residual-in_err-conclusions-2.ensures.1 in
    rw (p.1, p.2) (stop_at (clause ∷ []) (conclusions ∷ []) [] items (items_of bytes c.in_ok-premises.rest.now)
    c.in_err-conclusions-2.field-0.0 (λ st. clause_run items st c.in_default.ensures
    ∙ c.in_ok-first.ensures.1 (tail ∷ st) ∙ tail_commas rest st c.if-begins_premises.ensures
    ∙ c.in_ok-premises.ensures.2 st) c.in_err-conclusions-2.ensures)

pub returns-then-begins_premises : goal.returns-then-begins_premises
returns-then-begins_premises c =
    let bytes = c.args.self.now.bytes.now in
    let items = items_of bytes c.args.tokens.now in
    let rest = items_of bytes c.in_ok-first.rest.now in
    let first = c.in_ok-first.first in
    let e = c.in_ok-first.ensures in
    let ps = c.in_ok-premises.ensures in
    let cs = c.in_ok-conclusions-2.ensures in (
      inl (e.0 ∙ ap (sides_text None first.left first.right) ps.1
          ∙ premises_made first c.in_ok-premises.premises _ ps.0
          ∙ ap (λ (w : List Marked). premises_text c.in_ok-premises.premises (sign Arrow ∷ w)) cs.0),
      λ st. clause_run items st c.in_default.ensures ∙ e.1 (tail ∷ st)
          ∙ tail_commas rest st c.if-begins_premises.ensures ∙ ps.2 st ∙ cs.1 st,
      omega (arith, e.2, ps.3, cs.2),
    )

pub returns-in_err-conclusions-3 : goal.returns-in_err-conclusions-3
returns-in_err-conclusions-3 c =
    let bytes = c.args.self.now.bytes.now in
    let items = items_of bytes c.args.tokens.now in
    let rest = items_of bytes c.in_ok-first.rest.now in
    let p = err_from_is_err_and c.from_residual-in_err-conclusions-3.result
    c.from_residual-in_err-conclusions-3.ensures.1 in
    rw (p.1, p.2) (stop_at (clause ∷ []) (bars 1 ∷ []) [] items rest c.in_err-conclusions-3.field-0.0
    (λ st. clause_run items st c.in_default.ensures ∙ c.in_ok-first.ensures.1 (tail ∷ st)
    ∙ tail_bars rest st c.if-begins_premises.ensures) c.in_err-conclusions-3.ensures)

pub returns : goal.returns
returns c =
    let bytes = c.args.self.now.bytes.now in
    let items = items_of bytes c.args.tokens.now in
    let rest = items_of bytes c.in_ok-first.rest.now in
    let first = c.in_ok-first.first in
    let e = c.in_ok-first.ensures in
    let cs = c.in_ok-conclusions-3.ensures in
    let made = c.in_ok-conclusions-3.conclusions in
    rw c.new-premises-2.ensures (
      inr (
        refl,
        begins_some first made cs.0,
        e.0 ∙ ap (sides_text None first.left first.right) cs.1
            ∙ conclusions_made first made _ cs.0,
      ),
      λ st. clause_run items st c.in_default.ensures ∙ e.1 (tail ∷ st)
          ∙ tail_bars rest st c.if-begins_premises.ensures ∙ cs.2 st,
      omega (arith, e.2, cs.3),
    )
