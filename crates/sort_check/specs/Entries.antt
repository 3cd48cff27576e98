-- The variables of a rule or goal as far as they are known.
use Rattle.std.specs.Prelude.{◌≢◌, ℕ, List, [], ◌∷◌, ◌++◌, Option, Some, None, position, map}
use Rattle.std.specs.List.{slice_index_or, slice_set}
use Rattle.std.specs.Str.{bytes_eq}
use Rattle.term_core.specs.declared.ids.SortId.{SortId}
use Rattle.sort_check.specs.declared.entries.Entry.{Entry}

-- the place of the variable with this name
abbrev pub entry_named : List Entry → List ℕ → Option ℕ
entry_named es name = position (λ (e : Entry). bytes_eq name e.name) es

abbrev pub entry_names : List Entry → List (List ℕ)
entry_names es = map (λ (e : Entry). e.name) es

-- the sorts of the variables, if they have one
abbrev pub known_sorts : List Entry → List (Option SortId)
known_sorts es = map (λ (e : Entry). e.sort) es

abbrev pub sort_at : List (Option SortId) → ℕ → Option SortId
sort_at known n = slice_index_or known n None

-- the sort that the variable has so far
abbrev pub sort_so_far : List Entry → ℕ → Option SortId
sort_so_far es n = sort_at (known_sorts es) n

-- two sorts that are there and aren't the same
abbrev pub Differ : Option SortId → Option SortId → Type 0
Differ (Some s) (Some u) = s ≢ u
Differ (Some s) None = ⊥
Differ None o = ⊥

abbrev pub entry_at : List Entry → ℕ → Entry
entry_at es n = slice_index_or es n (record { name = []; at = 0; sort = None })

-- a variable at a place of a sort takes it if it has none so far; a place may have none to give
abbrev pub given : List Entry → ℕ → Option SortId → Option SortId → List Entry
given es n place (Some s) = es
given es n None None = es
given es n (Some s) None =
    slice_set es n (record { name = (entry_at es n).name; at = (entry_at es n).at; sort = Some s })

-- the variables after a word that is one: a new one goes last, with the sort of its place
abbrev pub with_variable : List Entry → List ℕ → ℕ → Option SortId → Option ℕ → List Entry
with_variable es name at place (Some n) = given es n place (sort_so_far es n)
with_variable es name at place None = es ++ record { name = name; at = at; sort = place } ∷ []
