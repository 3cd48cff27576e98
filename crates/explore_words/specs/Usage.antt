-- What is written for words that ask for no exploration.
use Rattle.std.specs.Prelude.{ℕ, List, ◌++◌, codes}

-- the line for words that ask for nothing
abbrev pub usage_line : List ℕ
usage_line =
    codes "usage: spike-explore text|report FILE [--goal NAME] [--work W] [--size S] "
    ++ codes "[--samples N] [--no-lemmas] [--quiet]\n"

-- the text for words that ask for help
unfoldable pub help_text : List ℕ
help_text =
    codes "Looks for proofs of the goals that prove leaves open, and for lemmas that they need.\n\n"
    ++ codes "usage: spike-explore text FILE [OPTION..]      the text of FILE with the lemmas as further goals\n"
    ++ codes "       spike-explore report FILE [OPTION..]    the report on that text\n\n"
    ++ codes "FILE is a specification. The report is accepted by spike replay on the text, and each lemma is\n"
    ++ codes "proved in it. If nothing is found, they are the text of FILE and the report of spike prove.\n\n"
    ++ codes "  --goal NAME     look for lemmas for the goal of this name alone\n"
    ++ codes "  --work W        units of work for each stage, at most 1000000000 (1000000)\n"
    ++ codes "  --size S        compare terms of at most this many symbols, from 1 to 12 (7)\n"
    ++ codes "  --samples N     compare terms on this many random values, from 1 to 200 (30)\n"
    ++ codes "  --no-lemmas     look for no lemmas: try each goal alone by the freer search\n"
    ++ codes "  --quiet         say nothing of the progress on standard error\n\n"
    ++ codes "exit status: 0 every goal of the text is proved, 1 a goal is refuted, 2 a goal is open,\n"
    ++ codes "3 FILE isn't accepted or is too long, 5 FILE can't be read, 6 the output can't be written,\n"
    ++ codes "7 the words are no command, 8 out of memory, 9 a word isn't UTF-8\n"
