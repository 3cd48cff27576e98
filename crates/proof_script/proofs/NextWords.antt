-- The next word of a line, if no byte in it ends a word.
use Rattle.std.proofs.Common.{◌≡◌, ℕ, List, ◌++◌, true, false, refl, ap, sym, ◌∙◌, subst, codes}
use Rattle.std.proofs.Common.{arith}
use Rattle.std.specs.Str.{bytes_eq}
use Rattle.std.proofs.lemmas.Slice.Eq.{bytes_eq-Decides}
use Rattle.spec_core.specs.Sig.{Sig}
use Rattle.proof_script.specs.Delimiters.{Run, AllRun, Ends}
use Rattle.proof_script.specs.Words.{Word, fixed, name, number, variable, equation, place, side, term, terms, patterns}
use Rattle.proof_script.specs.Words.{word_text}
use Rattle.proof_script.specs.Standing.{WordStands}
use Rattle.proof_script.specs.Reading.{IsFirstWord}
use Rattle.proof_script.specs.LineWords.{IsPlainWordAt, IsWordAt}
use Rattle.proof_script.proofs.Lists.{same_head, same_tail, run_one, Same}
use Rattle.proof_script.proofs.Runs.{decimal_run, ends_stop, true_false}
use Rattle.proof_script.proofs.PlainNames.{name_plain}
use Rattle.proof_script.proofs.PlaceReads.{equation_run, side_run, place_run}

-- a word in which no byte ends a word
abbrev pub IsPlain : Word → Type 0
IsPlain (fixed text) = ⊥
IsPlain (term t) = ⊥
IsPlain (terms ts) = ⊥
IsPlain (patterns ps) = ⊥
IsPlain _ = Unit {0}

pub plain_run : (sig : Sig) (w : Word) → IsPlain w → WordStands sig w → AllRun (word_text sig w)
plain_run sig (fixed text) p h = absurd p
plain_run sig (name text) p h = (name_plain text h).run
plain_run sig (number n) p h = decimal_run n h
plain_run sig (variable n) p h = (refl, decimal_run n h)
plain_run sig (equation conclusion n) p h = equation_run conclusion n h
plain_run sig (place q) p h = place_run q h
plain_run sig (side left) p h = side_run left
plain_run sig (term t) p h = absurd p
plain_run sig (terms ts) p h = absurd p
plain_run sig (patterns ps) p h = absurd p

pub as_plain : (sig : Sig) (bytes : List ℕ) (w : Word) (rest : List ℕ) → IsPlain w → IsWordAt sig bytes w rest →
    IsPlainWordAt bytes (word_text sig w) rest
as_plain sig bytes w rest p h = record { is = h.is; run = plain_run sig w p h.stands; ends = h.ends }

pub one_plain : (bytes word rest other last : List ℕ) → IsPlainWordAt bytes word rest →
    IsPlainWordAt bytes other last → Same word other rest last
one_plain bytes word rest other last h k = run_one Run word other rest last h.run k.run (ends_stop rest h.ends)
    (ends_stop last k.ends) (same_tail (sym h.is ∙ k.is))

-- the word at the front is the one that was found
pub same_plain : (sig : Sig) (bytes word rest : List ℕ) (w : Word) (last : List ℕ) →
    IsPlainWordAt bytes word rest → IsPlain w → IsWordAt sig bytes w last → word ≡ word_text sig w
same_plain sig bytes word rest w last h p k = (one_plain bytes word rest (word_text sig w) last h
    (as_plain sig bytes w last p k)).text

pub found_plain : (sig : Sig) (bytes word rest : List ℕ) (w : Word) → IsPlainWordAt bytes word rest →
    WordStands sig w → word ≡ word_text sig w → IsWordAt sig bytes w rest
found_plain sig bytes word rest w h s e = record {
  stands = s;
  is = h.is
      ∙ ap (λ z. codes " " ++ (z ++ rest)) e;
  ends = h.ends;
}

pub not_blank : (bytes : List ℕ) → ((rest : List ℕ) → bytes ≡ codes " " ++ rest → ⊥) → (word rest : List ℕ) →
    IsPlainWordAt bytes word rest → ⊥
not_blank bytes never word rest h = never (word ++ rest) h.is

pub plain_found : (bytes next word rest : List ℕ) → bytes ≡ codes " " ++ next → IsFirstWord next word rest →
    Ends rest → IsPlainWordAt bytes word rest
plain_found bytes next word rest e f x = record { is = e ∙ ap (λ z. codes " " ++ z) f.is; run = f.run; ends = x }

pub not_plain : (bytes next word rest : List ℕ) → bytes ≡ codes " " ++ next → IsFirstWord next word rest →
    (Ends rest → ⊥) → (other last : List ℕ) → IsPlainWordAt bytes other last → ⊥
not_plain bytes next word rest e f never other last h =
    let one = run_one Run word other rest last f.run h.run f.stops (ends_stop last h.ends) (sym f.is
    ∙ same_tail (sym e ∙ h.is)) in
    never (subst Ends (sym one.rest) h.ends)

pub no_match : (a b : List ℕ) → false ≡ bytes_eq a b → a ≡ b → ⊥
no_match a b e p = true_false (sym ((bytes_eq-Decides a b).1 p) ∙ sym e)

-- a conclusion is no premise
pub other_kind : (sig : Sig) (bytes : List ℕ) (m : ℕ) (rest : List ℕ) (n : ℕ) (last : List ℕ) →
    IsWordAt sig bytes (equation true m) rest → IsWordAt sig bytes (equation false n) last → ⊥
other_kind sig bytes m rest n last h k = let e : 99 ≡ 112 = same_head (same_tail (sym h.is ∙ k.is)) in omega (arith, e)
