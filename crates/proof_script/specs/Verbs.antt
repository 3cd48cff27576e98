-- What the line of a step begins with.
use Rattle.std.specs.Prelude.{ℕ, List, codes}
use Rattle.proof_script.specs.declared.verbs.Verb.{Verb}
use Rattle.proof_script.specs.declared.verbs.Verb.TheVariants.{Trivial, Match, Absurd, Subsume, ByLemma, Rule, Case}
use Rattle.proof_script.specs.declared.verbs.Verb.TheVariants.{Decompose, Clash, Drop, Solve, Cover, Generalize}
use Rattle.proof_script.specs.declared.verbs.Verb.TheVariants.{Context, Hyp, Lemma}

abbrev pub verb_text : Verb → List ℕ
verb_text Trivial = codes "trivial"
verb_text Match = codes "match"
verb_text Absurd = codes "absurd"
verb_text Subsume = codes "subsume"
verb_text ByLemma = codes "by-lemma"
verb_text Rule = codes "rule"
verb_text Case = codes "case"
verb_text Decompose = codes "decompose"
verb_text Clash = codes "clash"
verb_text Drop = codes "drop"
verb_text Solve = codes "solve"
verb_text Cover = codes "cover"
verb_text Generalize = codes "generalize"
verb_text Context = codes "context"
verb_text Hyp = codes "hyp"
verb_text Lemma = codes "lemma"
