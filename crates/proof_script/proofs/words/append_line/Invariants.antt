use Rattle.std.proofs.Common.{◌≡◌, ◌++◌, drop, map}
use Rattle.std.specs.List.{AllByRecursion}
use Rattle.proof_script.specs.Ranges.{WordIsInRange}
use Rattle.proof_script.specs.Written.{word_of}
use Rattle.proof_script.proofs.WordReads.{words_text}
use Rattle.proof_script.proofs.words.append_line.Given as goal

-- with the words that are left the head and all words have been appended
abbrev pub invariant-loop-word : goal.invariant-loop-word
invariant-loop-word l =
    record {
      text : l.text.items ++ words_text l.sig (map word_of (drop l.word-index l.words)) ≡ l.fn.text.items
          ++ (l.head ++ words_text l.sig (map word_of l.words));
      rest : AllByRecursion (WordIsInRange l.sig) (map word_of (drop l.word-index l.words));
    }
