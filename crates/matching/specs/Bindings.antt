-- Entries of variables: a term or none.
use Rattle.std.specs.Prelude.{List, Option, map, flat_map, option_to_list}
use Rattle.std.specs.Option.{option_copied}
use Rattle.std.specs.Borrow.{Bor}
use Rattle.term_core.specs.Tree.{Tree}

-- the terms that the references point to
abbrev pub entries_of : List (Option (Bor Tree)) → List (Option Tree)
entries_of refs = map option_copied refs

-- the entries that are there
abbrev pub present : List (Option Tree) → List Tree
present entries = flat_map option_to_list entries
