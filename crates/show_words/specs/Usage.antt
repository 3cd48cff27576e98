-- What is written for words that ask for nothing to be shown.
use Rattle.std.specs.Prelude.{ℕ, List, ◌++◌, codes}

-- the line for words that ask for nothing
abbrev pub usage_line : List ℕ
usage_line = codes "usage: spike-show page|text FILE REPORT [--goal NAME], spike-show open FILE [OPTION..]\n"

-- the text for words that ask for help
unfoldable pub help_text : List ℕ
help_text =
    codes "Writes an accepted report as a page: each proof as a tree of clauses, each step in words.\n"
    ++ codes "Says of each goal that prove leaves open where its proof stops, and what is near there.\n\n"
    ++ codes "usage: spike-show page FILE REPORT [--goal NAME]    a report in HTML\n"
    ++ codes "       spike-show text FILE REPORT [--goal NAME]    a report in plain text\n"
    ++ codes "       spike-show open FILE [OPTION..]              the open goals, in plain text\n\n"
    ++ codes "FILE is a specification, and REPORT what spike prove, refute or trim wrote for it.\n\n"
    ++ codes "  --goal NAME     show the goal of this name alone\n"
    ++ codes "  --depth D       of open: the depth of the values that are tried, at most 8 (3)\n"
    ++ codes "  --tries T       of open: the substitutions that are tried, at most 1000000 (10000)\n"
    ++ codes "  --steps B       of open: the rule uses that a side may cost, at most 100000 (1000)\n"
    ++ codes "  --plain L       of open: the length of a plain proof, at most 1000 (500)\n"
    ++ codes "  --nodes K       of open: the nodes of a routine proof, at most 10000 (2000)\n\n"
    ++ codes "exit status: 0 what was asked for is written, 3 FILE isn't accepted or has no goal NAME,\n"
    ++ codes "or a file is too long, 4 REPORT isn't accepted, 5 a file can't be read,\n"
    ++ codes "6 the output can't be written, 7 the words are no command, 8 out of memory,\n"
    ++ codes "9 a word isn't UTF-8\n"
