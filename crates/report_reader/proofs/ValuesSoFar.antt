-- What values there are if their lines begin with those of others.
use Rattle.std.proofs.Common.{◌≡◌, ℕ, ◌≤◌, List, [], ◌∷◌, ◌++◌, refl, sym, ◌∙◌, map, length, append_assoc, arith}
use Rattle.std.specs.List.{AllByRecursion}
use Rattle.term_core.specs.Tree.{Tree}
use Rattle.spec_core.specs.Sig.{Sig}
use Rattle.proof_script.specs.Claims.{value_line}
use Rattle.proof_script.specs.Reports.{ValueStands}
use Rattle.proof_script.specs.Words.{line_text, lines_text}
use Rattle.proof_script.proofs.ClaimReads.{value_reads}
use Rattle.proof_script.proofs.TermReads.{NamesDiffer}

module _ (sig : Sig) (d : NamesDiffer sig) where
  -- the values are these first ones and others, whose lines follow
  pub record ValuesGoOn (ws vs : List (List ℕ × Tree)) (r s : List ℕ) : Type 0 where
    pub others : List (List ℕ × Tree)
    pub are : ws ≡ vs ++ others
    pub follow : lines_text sig (map value_line others) ++ r ≡ s

  pub values_so_far : (vs ws : List (List ℕ × Tree)) (r s : List ℕ) → length vs ≤ length ws →
      AllByRecursion (ValueStands sig) vs → AllByRecursion (ValueStands sig) ws →
      lines_text sig (map value_line ws) ++ r ≡ lines_text sig (map value_line vs) ++ s → ValuesGoOn ws vs r s
  values_so_far [] ws r s l p q e = record { others = ws; are = refl; follow = e }
  values_so_far (v ∷ vs) [] r s l p q e = absurd (omega (arith, l))
  values_so_far (v ∷ vs) (w ∷ ws) r s l p q e =
      let grouped = sym (append_assoc (line_text sig (value_line w)) (lines_text sig (map value_line ws)) r) ∙ e
      ∙ append_assoc (line_text sig (value_line v)) (lines_text sig (map value_line vs)) s in
      let first = value_reads sig d w v (lines_text sig (map value_line ws) ++ r)
      (lines_text sig (map value_line vs) ++ s) q.0 p.0 grouped in
      let next = values_so_far vs ws r s (omega (arith, l)) p.1 q.1 first.1 in
      let h : w ≡ v = first.0 in
      record { others = next.others; are = λ i. h i ∷ next.are i; follow = next.follow }
