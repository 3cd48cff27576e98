use Rattle.std.proofs.Common.{◌≡◌, ◌∷◌, [], List, ap, arith, false, length, length-append, sym, ◌∙◌, true}
use Rattle.std.proofs.lemmas.List.{length-map}
use Rattle.session_core.specs.Kept.{Kept}
use Rattle.session_core.specs.Value.{kept_of}
use Rattle.session_core.proofs.LastEntries.{mapped_init}
use Rattle.session_core.proofs.kept_goals.finished.Goals as goal

pub slice_bounds-result-count : goal.slice_bounds-result-count
slice_bounds-result-count c =
    let h = c.is_open.ensures.0 c.if-is_open.true in
    omega (
      arith,
      length-map c.args.goals.now kept_of,
      ap (λ (gs : List Kept). length gs) h.is,
      length-append h.front (h.last ∷ []),
    )

pub returns-then-is_open-clause-before : goal.returns-then-is_open-clause-before
returns-then-is_open-clause-before c = λ h. mapped_init kept_of c.args.goals.now h.front h.last h.is

pub returns-then-is_open-clause-all : goal.returns-then-is_open-clause-all
returns-then-is_open-clause-all c = λ n. absurd (n (c.is_open.ensures.0 c.if-is_open.true))

pub returns-else-is_open-clause-before : goal.returns-else-is_open-clause-before
returns-else-is_open-clause-before c = λ h. absurd (let q : false ≡ true = sym c.if-is_open.false ∙
    c.is_open.ensures.1 h in cc)
