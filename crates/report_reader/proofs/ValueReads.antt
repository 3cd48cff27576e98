-- The line of a value, by its first word.
use Rattle.std.proofs.Common.{◌≡◌, ℕ, List, [], ◌∷◌, ◌++◌, refl, ap, sym, ◌∙◌, codes}
use Rattle.std.proofs.lemmas.List.{append_cancel_left}
use Rattle.term_core.specs.Tree.{Tree}
use Rattle.spec_core.specs.Sig.{Sig}
use Rattle.spec_core.specs.TermText.{term_text}
use Rattle.proof_script.specs.Claims.{value_line}
use Rattle.proof_script.specs.Delimiters.{Run}
use Rattle.proof_script.specs.LineWords.{IsWordAt}
use Rattle.proof_script.specs.Names.{IsReportName}
use Rattle.proof_script.specs.Reading.{IsFirstWord}
use Rattle.proof_script.specs.Reports.{IsClosed}
use Rattle.proof_script.specs.Words.{term}
use Rattle.proof_script.proofs.Lists.{Same, same_tail, run_one}
use Rattle.proof_script.proofs.PlainNames.{name_plain}
use Rattle.proof_script.proofs.Runs.{ends_stop}
use Rattle.proof_script.proofs.TermReads.{NamesDiffer}
use Rattle.proof_script.proofs.WordReads.{word_reads}
use Rattle.report_reader.specs.ValueLines.{IsValueLine}
use Rattle.report_reader.proofs.LineTexts.{bare_is, line_is}

module _ (sig : Sig) (line word rest : List ℕ) (split : IsFirstWord line word rest) where
  -- what comes after a name
  abbrev pub from_value : Tree → List ℕ
  from_value value = codes " = " ++ (term_text sig [] value ++ [])

  -- the first word is the name
  pub named_value : (name : List ℕ) (value : Tree) → IsValueLine sig line name value →
      Same word name rest (from_value value)
  named_value name value h = run_one Run word name rest (from_value value) split.run
      (name_plain name h.stands.name).run split.stops (ends_stop (from_value value) refl) (sym split.is
      ∙ bare_is sig line (value_line (name, value)) h.is)

  module _ (behind : List ℕ) (e : rest ≡ codes " =" ++ behind) where
    pub value_word : (name : List ℕ) (value : Tree) → IsValueLine sig line name value →
        IsWordAt sig behind (term value) []
    value_word name value h = record {
      stands = h.stands.stands;
      is = append_cancel_left (codes " =") behind
          (32 ∷ (term_text sig [] value ++ [])) (sym e ∙ (named_value name value h).rest);
      ends = tt;
    }

    -- a value that was read is the one that is there
    pub one_value : NamesDiffer sig → (found : Tree) (last : List ℕ) → IsWordAt sig behind (term found) last →
        (name : List ℕ) (value : Tree) → IsValueLine sig line name value → (term found ≡ term value) × (last ≡ [])
    one_value d found last w name value h =
        let k = value_word name value h in
        word_reads sig d (term found) (term value) last [] refl w.stands k.stands w.ends tt
        (same_tail (sym w.is ∙ k.is))

    pub value_found : (value : Tree) (last : List ℕ) → IsReportName word →
        IsWordAt sig behind (term value) last → last ≡ [] → IsClosed sig value → IsValueLine sig line word value
    value_found value last name w l closed = record {
      stands = record { name = name; stands = w.stands; closed = closed };
      is = line_is sig line (value_line (word, value)) (split.is
          ∙ ap (λ z. word ++ z)
          (e ∙ ap (λ z. codes " =" ++ z) (w.is ∙ ap (λ z. 32 ∷ (term_text sig [] value ++ z)) l)));
    }
