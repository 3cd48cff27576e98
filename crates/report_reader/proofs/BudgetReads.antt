-- The words of a budget, one after the other.
use Rattle.std.proofs.Common.{◌≡◌, ℕ, List, [], ◌++◌, Bool, true, false, refl, sym, ◌∙◌, codes, arith}
use Rattle.std.specs.Fmt.{decimal}
use Rattle.std.proofs.lemmas.List.{append_cancel_left}
use Rattle.clause_core.specs.declared.reports.Budget.{Budget}
use Rattle.proof_script.specs.Claims.{yes_or_no}
use Rattle.proof_script.specs.Reports.{BudgetStands}
use Rattle.proof_script.proofs.ClaimReads.{short_by}
use Rattle.proof_script.proofs.Lists.{same_head}
use Rattle.report_reader.specs.FirstLines.{budget_text}
use Rattle.report_reader.specs.Numbers.{IsNumberBehind}
use Rattle.report_reader.proofs.NumberReads.{one_number}

pub one_cut : (words : List ℕ) (a b : Bool) (rest last : List ℕ) →
    words ≡ codes " cut " ++ (yes_or_no a ++ rest) → words ≡ codes " cut " ++ (yes_or_no b ++ last) →
    (a ≡ b) × (rest ≡ last)
one_cut words true true rest last e f = (refl, append_cancel_left (codes " cut yes") rest last (sym e ∙ f))
one_cut words false false rest last e f = (refl, append_cancel_left (codes " cut no") rest last (sym e ∙ f))
one_cut words true false rest last e f = absurd
    (let q : 121 ≡ 110 = same_head (append_cancel_left (codes " cut ") (codes "yes" ++ rest) (codes "no"
    ++ last) (sym e ∙ f)) in omega (arith, q))
one_cut words false true rest last e f = absurd
    (let q : 110 ≡ 121 = same_head (append_cancel_left (codes " cut ") (codes "no" ++ rest) (codes "yes"
    ++ last) (sym e ∙ f)) in omega (arith, q))

-- what comes after each of them
abbrev pub from_nodes : Budget → List ℕ
from_nodes b = codes " nodes " ++ (decimal b.nodes ++ [])

abbrev pub from_plain : Budget → List ℕ
from_plain b = codes " plain " ++ (decimal b.plain ++ from_nodes b)

abbrev pub from_cut : Budget → List ℕ
from_cut b = codes " cut " ++ (yes_or_no b.cut ++ from_plain b)

abbrev pub from_skipped : Budget → List ℕ
from_skipped b = codes " skipped " ++ (decimal b.skipped ++ from_cut b)

abbrev pub from_tried : Budget → List ℕ
from_tried b = codes " tried " ++ (decimal b.tried ++ from_skipped b)

module _ (b : Budget) (s : BudgetStands b) where
  pub at_depth : (words : List ℕ) → words ≡ budget_text b → IsNumberBehind (codes " depth") words b.depth (from_tried b)
  at_depth words e = record { short = short_by 8 b.depth s.depth (omega arith); is = e; ends = refl }

  pub at_tried : (words : List ℕ) → words ≡ from_tried b →
      IsNumberBehind (codes " tried") words b.tried (from_skipped b)
  at_tried words e = record { short = s.tried; is = e; ends = refl }

  pub at_skipped : (words : List ℕ) → words ≡ from_skipped b →
      IsNumberBehind (codes " skipped") words b.skipped (from_cut b)
  at_skipped words e = record { short = s.skipped; is = e; ends = refl }

  pub at_plain : (words : List ℕ) → words ≡ from_plain b → IsNumberBehind (codes " plain") words b.plain (from_nodes b)
  at_plain words e = record { short = s.plain; is = e; ends = refl }

  pub at_nodes : (words : List ℕ) → words ≡ from_nodes b → IsNumberBehind (codes " nodes") words b.nodes []
  at_nodes words e = record { short = s.nodes; is = e; ends = tt }

  -- after a number that was read
  pub past_depth : (words : List ℕ) (n : ℕ) (rest : List ℕ) → IsNumberBehind (codes " depth") words n rest →
      words ≡ budget_text b → (n ≡ b.depth) × (rest ≡ from_tried b)
  past_depth words n rest h e = one_number (codes " depth") words n rest b.depth (from_tried b) h (at_depth words e)

  pub past_tried : (words : List ℕ) (n : ℕ) (rest : List ℕ) → IsNumberBehind (codes " tried") words n rest →
      words ≡ from_tried b → rest ≡ from_skipped b
  past_tried words n rest h e = (one_number (codes " tried") words n rest b.tried (from_skipped b) h
      (at_tried words e)).1

  pub past_skipped : (words : List ℕ) (n : ℕ) (rest : List ℕ) → IsNumberBehind (codes " skipped") words n rest →
      words ≡ from_skipped b → rest ≡ from_cut b
  past_skipped words n rest h e = (one_number (codes " skipped") words n rest b.skipped (from_cut b) h
      (at_skipped words e)).1

  pub past_cut : (words : List ℕ) (cut : Bool) (rest : List ℕ) →
      words ≡ codes " cut " ++ (yes_or_no cut ++ rest) → words ≡ from_cut b → rest ≡ from_plain b
  past_cut words cut rest h e = (one_cut words cut b.cut rest (from_plain b) h e).1

  pub past_plain : (words : List ℕ) (n : ℕ) (rest : List ℕ) → IsNumberBehind (codes " plain") words n rest →
      words ≡ from_plain b → rest ≡ from_nodes b
  past_plain words n rest h e = (one_number (codes " plain") words n rest b.plain (from_nodes b) h (at_plain words e)).1
