-- The equations of a goal, premises before conclusions.
use Rattle.std.proofs.Common.{◌≡◌, List, [], ◌∷◌, ◌++◌, ap, sym, ◌∙◌, subst, length}
use Rattle.std.specs.List.{AllZip}
use Rattle.std.proofs.lemmas.Slice.Zip.{AllZip-long}
use Rattle.spec_core.specs.declared.records.Equation.{Equation}
use Rattle.spec_core.specs.Sig.{Sig}
use Rattle.spec_core.specs.Findings.{Clean}
use Rattle.spec_grammar.specs.declared.raw.RawEq.{RawEq}
use Rattle.spec_grammar.specs.declared.raw.RawGoal.{RawGoal}
use Rattle.sort_check.specs.GoalTests.{in_turn, left_by, sides_tests, after_sides, equations_of}
use Rattle.sort_check.specs.Over.{IsEquationOver}
use Rattle.sort_check.specs.declared.entries.Entry.{Entry}
use Rattle.sort_check.proofs.Growth.{KeepsNames, extends_self, extends_both}
use Rattle.sort_check.proofs.Sides.{after_extends, equations_more}
use Rattle.sort_check.proofs.Turns.{turn_both, left_both}

-- pairs of two lists, one after the other
pub pairs_append : {X Y : Type 0} (R : X → Y → Type 0) (xs us : List X) (ys vs : List Y) → AllZip R xs ys →
    AllZip R us vs → AllZip R (xs ++ us) (ys ++ vs)
pairs_append R [] us [] vs p q = q
pairs_append R (x ∷ xs) us (y ∷ ys) vs p q = (p.0, pairs_append R xs us ys vs p.1 q)
pairs_append R [] us (y ∷ ys) vs p q = absurd p
pairs_append R (x ∷ xs) us [] vs p q = absurd p

module _ (sig : Sig) where
  -- equations keep the variables
  pub all_extend : (es : List Entry) (eqs : List RawEq) → KeepsNames es (left_by (after_sides sig) es eqs)
  all_extend es [] = extends_self es
  all_extend es (e ∷ eqs) = extends_both es (after_sides sig es e)
      (left_by (after_sides sig) (after_sides sig es e) eqs) (after_extends sig es e)
      (all_extend (after_sides sig es e) eqs)

  abbrev Made : List Entry → List Entry → List RawEq → List Equation → Type 0
  Made es fs raws ts = Clean (in_turn (sides_tests sig) (after_sides sig) es raws)
      × ((fs ≡ left_by (after_sides sig) es raws) × AllZip (IsEquationOver sig fs) raws ts)

  pub clause_made : (es fs gs : List Entry) (raw : RawGoal) (xs ys : List RawEq) (ps cs : List Equation) →
      xs ≡ raw.premises → ys ≡ raw.conclusions → Made es fs xs ps → Made fs gs ys cs →
      Clean (in_turn (sides_tests sig) (after_sides sig) es (equations_of raw))
      × ((gs ≡ left_by (after_sides sig) es (equations_of raw))
      × AllZip (IsEquationOver sig gs) (equations_of raw) (ps ++ cs) × (length ps ≡ length raw.premises))
  clause_made es fs gs raw xs ys ps cs x y a b =
      let p : Made es fs raw.premises ps = subst (λ zs. Made es fs zs ps) x a in
      let q : Made fs gs raw.conclusions cs = subst (λ zs. Made fs gs zs cs) y b in
      let grown : KeepsNames fs gs = subst (λ us. KeepsNames fs us) (sym q.1.0) (all_extend fs raw.conclusions) in
      let clean : Clean (in_turn (sides_tests sig) (after_sides sig) (left_by (after_sides sig) es raw.premises)
      raw.conclusions) = subst
      (λ us. Clean (in_turn (sides_tests sig) (after_sides sig) us raw.conclusions)) p.1.0 q.0 in (
        turn_both (sides_tests sig) (after_sides sig) es raw.premises raw.conclusions p.0 clean,
        (
          q.1.0 ∙ ap (λ us. left_by (after_sides sig) us raw.conclusions) p.1.0
              ∙ sym (left_both (sides_tests sig) (after_sides sig) es raw.premises raw.conclusions),
          pairs_append (IsEquationOver sig gs) raw.premises raw.conclusions ps cs
              (equations_more sig fs gs grown raw.premises ps p.1.1) q.1.1,
          AllZip-long (IsEquationOver sig fs) raw.premises ps p.1.1,
        ),
      )
