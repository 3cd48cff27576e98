-- The word that the code's word stands for.
use Rattle.std.specs.Prelude.{ℕ, List, []}
use Rattle.term_core.specs.Tree.{Tree, Trees}
use Rattle.spec_core.specs.Sig.{Sig}
use Rattle.spec_core.specs.TermText.{term_text, others_text}
use Rattle.proof_script.specs.Words.{Word, fixed, name, number, variable, equation, place, side, term, terms, patterns}
use Rattle.proof_script.specs.Words.{other_patterns_text, pattern_text}
use Rattle.proof_script.specs.declared.words.Word as written
use Rattle.proof_script.specs.declared.words.Word.TheVariants as written_words
use Rattle.proof_script.specs.declared.words.Variables.{Variables}
use Rattle.proof_script.specs.declared.words.Variables.TheVariants.{Numbered, Blank}

abbrev pub word_of : written.Word → Word
word_of (written_words.Fixed text) = fixed text.now
word_of (written_words.Name text) = name text.now
word_of (written_words.Number n) = number n
word_of (written_words.Variable n) = variable n
word_of (written_words.Equation conclusion n) = equation conclusion n
word_of (written_words.Place p) = place p.now
word_of (written_words.Side left) = side left
word_of (written_words.Term t) = term t.now
word_of (written_words.Terms ts) = terms ts.now
word_of (written_words.Patterns ps) = patterns ps.now

-- the text of a term with its variables written in this way
abbrev pub text_by : Sig → Variables → Tree → List ℕ
text_by sig Numbered t = term_text sig [] t
text_by sig Blank t = pattern_text sig t

-- so the texts of further terms, each after `, `
abbrev pub others_by : Sig → Variables → Trees → List ℕ
others_by sig Numbered ts = others_text sig [] ts
others_by sig Blank ts = other_patterns_text sig ts
